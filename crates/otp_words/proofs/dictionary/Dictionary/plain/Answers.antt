use Rattle.std.proofs.Common.{◌≡◌, ◌∙◌, ◌++◌, ◌∷◌, [], ℕ, List, sym, ap, arith, map, length}
use Rattle.std.specs.BTreeMap.{get}
use Rattle.std.specs.List.{range_with_len}
use Rattle.std.specs.Ordering.{nat_cmp}
use Rattle.std.specs.Prelude.{is_some}
use Rattle.std.specs.Str.{str_to_ascii_uppercase}
use Rattle.std.proofs.lemmas.List.FromFn.{length-map-range_with_len, map-range_with_len_more}
use Rattle.fixed_list.specs.FixedList.{list_of}
use Rattle.otp_words.specs.Digits.{number_of}
use Rattle.otp_words.specs.Dictionaries.{is_word, plain_word, plain_words}
use Rattle.otp_words.proofs.ListLemmas.{IsDictionary-from}
use Rattle.otp_words.proofs.PlainLemmas.{upper-plain_word, is_word-plain_word, plain_new}
use Rattle.otp_words.proofs.dictionary.Dictionary.plain.Goals as goal

pub place_word-requires-clause-word : goal.place_word-requires-clause-word
place_word-requires-clause-word c =
    let word : str_to_ascii_uppercase c.plain_word.result ≡ plain_word c.loop-place.place = ap str_to_ascii_uppercase c.plain_word.ensures ∙ upper-plain_word c.loop-place.place c.loop-place-test.true in
    ap is_word word ∙ is_word-plain_word c.loop-place.place c.loop-place-test.true

pub place_word-requires-clause-new : goal.place_word-requires-clause-new
place_word-requires-clause-new c =
    ap (λ (w : List ℕ). is_some (get nat_cmp c.loop-place.places (number_of 8 (str_to_ascii_uppercase w)))) c.plain_word.ensures
    ∙ plain_new (map list_of c.loop-place.words.items) (get nat_cmp c.loop-place.places) c.loop-place.place c.loop-place-test.true c.loop-place.invariant.plain c.loop-place.invariant.placed c.loop-place.invariant.legal

pub loop-place-preserved : goal.loop-place-preserved
loop-place-preserved c =
    let n = c.loop-place.place in
    let word : str_to_ascii_uppercase c.plain_word.result ≡ plain_word n = ap str_to_ascii_uppercase c.plain_word.ensures ∙ upper-plain_word n c.loop-place-test.true in
    record {
      plain =
          c.in_ok-place_word.ensures.added
          ∙ ap (λ (x : List (List ℕ)). x ++ str_to_ascii_uppercase c.plain_word.result ∷ []) c.loop-place.invariant.plain
          ∙ ap (λ (w : List ℕ). map plain_word (range_with_len 0 n) ++ w ∷ []) word
          ∙ sym (map-range_with_len_more plain_word 0 n n (omega arith));
      placed = c.in_ok-place_word.ensures.placed;
      legal = c.in_ok-place_word.ensures.legal;
    }

pub invariant_of-result : goal.invariant_of-result
invariant_of-result c =
    let words = map list_of c.loop-place.words.items in
    let all : length words ≡ 2048 = ap (λ (x : List (List ℕ)). length x) c.loop-place.invariant.plain ∙ length-map-range_with_len plain_word 0 c.loop-place.place ∙ omega arith in
    (c.loop-place.invariant.placed, IsDictionary-from words (get nat_cmp c.loop-place.places) c.loop-place.invariant.placed c.loop-place.invariant.legal all)

pub returns : goal.returns
unfolding plain_words
returns c =
    let all : c.loop-place.place ≡ 2048 = omega arith in
    c.loop-place.invariant.plain ∙ ap (λ (n : ℕ). map plain_word (range_with_len 0 n)) all
