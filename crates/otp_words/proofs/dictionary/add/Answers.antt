use Rattle.std.proofs.Common.{◌≡◌, ◌∙◌, ℕ, sym, ap, map, true, false}
use Rattle.std.specs.Prelude.{is_some}
use Rattle.std.specs.BTreeMap.{get}
use Rattle.std.specs.Ordering.{nat_cmp}
use Rattle.std.specs.Str.{str_to_ascii_uppercase}
use Rattle.std.proofs.lemmas.Bool.{and_from}
use Rattle.fixed_list.specs.FixedList.{list_of}
use Rattle.otp_words.specs.Digits.{number_of}
use Rattle.otp_words.specs.Dictionaries.{is_word}
use Rattle.otp_words.proofs.DictionaryLemmas.{is_word-upper}
use Rattle.otp_words.proofs.ListLemmas.{rule_length, rule_letter, rule_twice, rule_none}
use Rattle.otp_words.proofs.dictionary.add.Goals as goal

pub returns-then-not-has_word_length-clause-rule : goal.returns-then-not-has_word_length-clause-rule
returns-then-not-has_word_length-clause-rule c = rule_length (map list_of c.args.words.now.items) c.args.line.now (sym c.if-not-has_word_length.ensures)

pub returns-then-not-are_letters-clause-rule : goal.returns-then-not-are_letters-clause-rule
returns-then-not-are_letters-clause-rule c = rule_letter (map list_of c.args.words.now.items) c.args.line.now (sym c.if-not-has_word_length.ensures) (sym c.if-not-are_letters.ensures)

pub returns-then-contains_key-clause-rule : goal.returns-then-contains_key-clause-rule
returns-then-contains_key-clause-rule c =
    let words = map list_of c.args.words.now.items in
    let line = c.args.line.now in
    let legal : is_word (str_to_ascii_uppercase line) ≡ true = is_word-upper line ∙ and_from _ _ (sym c.if-not-has_word_length.ensures) (sym c.if-not-are_letters.ensures) in
    let there : is_some (get nat_cmp c.args.places.now (number_of 8 (str_to_ascii_uppercase line))) ≡ true = ap (λ (n : ℕ). is_some (get nat_cmp c.args.places.now n)) (sym c.packed-number.ensures) ∙ sym c.if-contains_key.ensures in
    rule_twice words (get nat_cmp c.args.places.now) line c.requires.placed c.requires.legal legal (sym c.if-not-has_word_length.ensures) (sym c.if-not-are_letters.ensures) there

pub returns-clause-rule : goal.returns-clause-rule
returns-clause-rule c =
    let line = c.args.line.now in
    let new : is_some (get nat_cmp c.args.places.now (number_of 8 (str_to_ascii_uppercase line))) ≡ false = ap (λ (n : ℕ). is_some (get nat_cmp c.args.places.now n)) (sym c.packed-number.ensures) ∙ sym c.if-contains_key.ensures in
    rule_none (map list_of c.args.words.now.items) (get nat_cmp c.args.places.now) line c.requires.placed (sym c.if-not-has_word_length.ensures) (sym c.if-not-are_letters.ensures) new

pub place_word-requires-clause-word : goal.place_word-requires-clause-word
place_word-requires-clause-word c = is_word-upper c.args.line.now ∙ and_from _ _ (sym c.if-not-has_word_length.ensures) (sym c.if-not-are_letters.ensures)

pub place_word-requires-clause-new : goal.place_word-requires-clause-new
place_word-requires-clause-new c = ap (λ (n : ℕ). is_some (get nat_cmp c.args.places.now n)) (sym c.packed-number.ensures) ∙ sym c.if-contains_key.ensures
