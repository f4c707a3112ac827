use Rattle.std.proofs.Common.{◌≡◌, ◌∙◌, ℕ, List, sym, ap, subst, map, length, Some}
use Rattle.std.specs.BTreeMap.{get}
use Rattle.std.specs.Ordering.{nat_cmp, is_eq}
use Rattle.std.specs.Prelude.{cond}
use Rattle.std.proofs.Common.{arith}
use Rattle.std.specs.Str.{str_to_ascii_uppercase}
use Rattle.std.proofs.lemmas.List.{length-map}
use Rattle.fixed_list.specs.FixedList.{list_of}
use Rattle.otp_words.specs.Digits.{number_of}
use Rattle.otp_words.specs.Inner.{IsPlaced, AreWords}
use Rattle.otp_words.proofs.ListLemmas.{AreWords-more, IsPlaced-more, added_words}
use Rattle.otp_words.proofs.dictionary.place_word.Goals as goal

pub returns-clause-placed : goal.returns-clause-placed
returns-clause-placed c =
    let line = c.args.word.now in
    let words = map list_of c.args.words.now.items in
    let before = get nat_cmp c.args.places.now in
    let same = sym (added_words c.args.words.now.items c.push.new.self.items c.in_upper_case.result (str_to_ascii_uppercase line) c.in_ok-push.ensures.items c.in_upper_case.ensures) in
    let long : length words ≡ length c.args.words.now.items = simp length-map in
    let place : c.len-place.result ≡ length words = omega (arith, c.len-place.ensures, long, c.args.words.now.ok.0) in
    let update : (q : ℕ) → get nat_cmp c.insert.new.self q ≡ cond (is_eq (nat_cmp (number_of 8 (str_to_ascii_uppercase line)) q)) (Some (length words)) (before q) = λ q.
    c.in_ok-insert.ensures.updates.0 q
    ∙ ap (λ (k : ℕ). cond (is_eq (nat_cmp k q)) (Some c.len-place.result) (before q)) c.packed.ensures
    ∙ ap (λ (n : ℕ). cond (is_eq (nat_cmp (number_of 8 (str_to_ascii_uppercase line)) q)) (Some n) (before q)) place in
    subst (λ (x : List (List ℕ)). IsPlaced x (get nat_cmp c.insert.new.self)) same (IsPlaced-more words before (get nat_cmp c.insert.new.self) (str_to_ascii_uppercase line) c.requires.placed c.requires.new update)

pub returns-clause-legal : goal.returns-clause-legal
returns-clause-legal c =
    let line = c.args.word.now in
    let same = sym (added_words c.args.words.now.items c.push.new.self.items c.in_upper_case.result (str_to_ascii_uppercase line) c.in_ok-push.ensures.items c.in_upper_case.ensures) in
    subst AreWords same (AreWords-more (map list_of c.args.words.now.items) (str_to_ascii_uppercase line) c.requires.legal c.requires.word)
