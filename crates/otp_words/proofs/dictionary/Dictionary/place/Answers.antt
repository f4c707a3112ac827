use Rattle.std.proofs.Common.{◌≡◌, ◌∙◌, sym, ap, map}
use Rattle.fixed_list.specs.FixedList.{list_of}
use Rattle.std.specs.BTreeMap.{get}
use Rattle.std.specs.Ordering.{nat_cmp}
use Rattle.otp_words.proofs.DictionaryLemmas.{is_word-upper, found_place, only_place, no_place}
use Rattle.otp_words.proofs.dictionary.Dictionary.place.Goals as goal

pub returns-then-not-is_word-clause-only : goal.returns-then-not-is_word-clause-only
returns-then-not-is_word-clause-only c = λ i e.
    absurd (no_place (map list_of c.self.inside.words.items) c.args.word.now c.self.invariant.1 c.if-not-is_word.ensures i (rw c.self.view_is e))

pub returns-clause-found : goal.returns-clause-found
returns-clause-found c =
    let legal = is_word-upper c.args.word.now ∙ sym c.if-not-is_word.ensures in
    let r : c.copied.result ≡ get nat_cmp c.self.inside.places c.packed.result = c.copied.ensures ∙ c.get.ensures.value in
    rw (← c.self.view_is) (found_place (map list_of c.self.inside.words.items) (get nat_cmp c.self.inside.places) c.args.word.now c.copied.result c.self.invariant.0 c.self.invariant.1 legal (r ∙ ap (get nat_cmp c.self.inside.places) c.packed.ensures))

pub returns-clause-only : goal.returns-clause-only
returns-clause-only c = λ i e.
    let r : c.copied.result ≡ get nat_cmp c.self.inside.places c.packed.result = c.copied.ensures ∙ c.get.ensures.value in
    only_place (map list_of c.self.inside.words.items) (get nat_cmp c.self.inside.places) c.args.word.now c.copied.result c.self.invariant.0 (r ∙ ap (get nat_cmp c.self.inside.places) c.packed.ensures) i (rw c.self.view_is e)
