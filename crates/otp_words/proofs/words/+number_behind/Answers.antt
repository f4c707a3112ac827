use Rattle.std.proofs.Common.{◌≡◌, ◌∙◌, ◌+◌, ◌-◌, ◌*◌, ◌^◌, ◌<◌, ◌++◌, Bool, List, ℕ, sym, ap, subst, arith, take, drop, length, Some}
use Rattle.std.specs.Prelude.{◌==◌}
use Rattle.std.specs.List.{list_all}
use Rattle.otp_words.specs.Words.{IsWords}
use Rattle.std.proofs.lemmas.Option.{slice_get_within}
use Rattle.std.proofs.lemmas.List.Sums.{prefix_len-le-length}
use Rattle.std.proofs.lemmas.List.{take-append-drop}
use Rattle.std.specs.Bool.{then_some}
use Rattle.std.specs.Str.{str_to_ascii_uppercase}
use Rattle.otp_words.specs.Blanks.{is_blank, is_no_blank}
use Rattle.otp_words.proofs.WordLemmas.{front_of, behind, gap_of, behind_gap}
use Rattle.otp_words.proofs.RunLemmas.{list_all-prefix}
use Rattle.otp_words.proofs.NumberLemmas.{not_found, last_only, last_found, then_some_below, number_grows, more_only, no_gap, more_found}
use Rattle.otp_words.proofs.words.+number_behind.Goals as goal

pub split_at-requires : goal.split_at-requires
split_at-requires t c = omega (arith, c.word_len.ensures, prefix_len-le-length is_no_blank c.args.text.now)

pub split_at-requires-2 : goal.split_at-requires-2
split_at-requires-2 t c = omega (arith, c.gap_len.ensures, prefix_len-le-length is_blank c.split_at.result.1.now)

pub returns-in_err-number-clause-only : goal.returns-in_err-number-clause-only
returns-in_err-number-clause-only t c = λ places long is.
    let text = c.args.text.now in
    let word : c.split_at.result.0.now ≡ front_of text = c.split_at.ensures.front ∙ ap (λ (n : ℕ). take n text) c.word_len.ensures in
    absurd (not_found c.args.dictionary.now text places c.place.result c.place.ensures.legal is (λ i e. c.place.ensures.only i (e ∙ ap (λ (w : List ℕ). Some (str_to_ascii_uppercase w)) (sym word))) c.in_err-number.was)

pub returns-then-count-eq1-clause-found : goal.returns-then-count-eq1-clause-found
returns-then-count-eq1-clause-found t c =
    let text = c.args.text.now in
    let front = c.args.front in
    let place = c.in_ok-number.field-0 in
    let split : text ≡ c.split_at.result.0.now ++ c.split_at.result.1.now = sym (take-append-drop c.word_len.result text) ∙ cc in
    let e = c.then_some.ensures ∙ ap (λ (b : Bool). then_some b (front * 2048 + place)) c.is_empty.ensures in
    last_found c.args.dictionary.now text c.split_at.result.0.now c.split_at.result.1.now c.args.count front place c.then_some.result c.if-count-eq1.true split c.in_ok-number.ensures.found e

pub returns-then-count-eq1-clause-only : goal.returns-then-count-eq1-clause-only
returns-then-count-eq1-clause-only t c = λ places long is.
    let text = c.args.text.now in
    let front = c.args.front in
    let place = c.in_ok-number.field-0 in
    let word : c.split_at.result.0.now ≡ front_of text = c.split_at.ensures.front ∙ ap (λ (n : ℕ). take n text) c.word_len.ensures in
    let left : c.split_at.result.1.now ≡ behind text = c.split_at.ensures.back ∙ ap (λ (n : ℕ). drop n text) c.word_len.ensures in
    let e = c.then_some.ensures ∙ ap (λ (b : Bool). then_some b (front * 2048 + place)) c.is_empty.ensures in
    last_only c.args.dictionary.now text places c.split_at.result.1.now front place c.place.result c.then_some.result c.place.ensures.legal (long ∙ c.if-count-eq1.true) is (λ i there. c.place.ensures.only i (there ∙ ap (λ (w : List ℕ). Some (str_to_ascii_uppercase w)) (sym word))) c.in_ok-number.was left e

pub returns-then-count-eq1-clause-small : goal.returns-then-count-eq1-clause-small
returns-then-count-eq1-clause-small t c =
    let front = c.args.front in
    let place = c.in_ok-number.field-0 in
    let below : place < 2048 = omega (arith, slice_get_within c.args.dictionary.now place (str_to_ascii_uppercase c.split_at.result.0.now) c.in_ok-number.ensures.found, c.place.ensures.legal.count) in
    let all : 11 * (6 - (c.args.count - 1)) ≡ 66 = omega arith in
    let small : front * 2048 + place < 2 ^ 66 = subst (λ (bits : ℕ). front * 2048 + place < 2 ^ bits) all (number_grows c.args.count front place c.requires.some c.requires.few c.requires.small below) in
    then_some_below c.is_empty.result (front * 2048 + place) (2 ^ 66) c.then_some.result small c.then_some.ensures

pub returns-then-is_empty-clause-only : goal.returns-then-is_empty-clause-only
returns-then-is_empty-clause-only t c = λ places long is.
    let text = c.args.text.now in
    let left : c.split_at.result.1.now ≡ behind text = c.split_at.ensures.back ∙ ap (λ (n : ℕ). drop n text) c.word_len.ensures in
    let gap : c.split_at-2.result.0.now ≡ gap_of (behind text) = c.split_at-2.ensures.front ∙ ap (λ (n : ℕ). take n c.split_at.result.1.now) c.gap_len.ensures ∙ ap gap_of left in
    absurd (no_gap c.args.dictionary.now text places c.args.count c.place.ensures.legal c.if-count-eq1.false long is (c.if-is_empty.ensures ∙ ap (λ (g : List ℕ). length g == 0) gap))

pub number_behind-requires : goal.number_behind-requires
number_behind-requires t c =
    let place = c.in_ok-number.field-0 in
    let below : place < 2048 = omega (arith, slice_get_within c.args.dictionary.now place (str_to_ascii_uppercase c.split_at.result.0.now) c.in_ok-number.ensures.found, c.place.ensures.legal.count) in
    (omega arith, (omega arith, (omega arith, number_grows c.args.count c.args.front place c.requires.some c.requires.few c.requires.small below)))

pub returns-clause-found : goal.returns-clause-found
returns-clause-found t c =
    let text = c.args.text.now in
    let after = c.split_at.result.1.now in
    let split : text ≡ c.split_at.result.0.now ++ after = sym (take-append-drop c.word_len.result text) ∙ cc in
    let parted : after ≡ c.split_at-2.result.0.now ++ c.split_at-2.result.1.now = sym (take-append-drop c.gap_len.result after) ∙ cc in
    let gap : c.split_at-2.result.0.now ≡ gap_of after = c.split_at-2.ensures.front ∙ ap (λ (n : ℕ). take n after) c.gap_len.ensures in
    let blank = ap (λ (g : List ℕ). list_all is_blank g) gap ∙ list_all-prefix is_blank after in
    more_found c.args.dictionary.now text c.split_at.result.0.now c.split_at-2.result.0.now c.split_at-2.result.1.now c.args.count c.args.front c.in_ok-number.field-0 c.number_behind.result c.requires.some (split ∙ ap (λ (x : List ℕ). c.split_at.result.0.now ++ x) parted) c.in_ok-number.ensures.found c.if-is_empty.ensures blank c.number_behind.ensures.found

pub returns-clause-only : goal.returns-clause-only
returns-clause-only t c = λ places long is.
    let text = c.args.text.now in
    let word : c.split_at.result.0.now ≡ front_of text = c.split_at.ensures.front ∙ ap (λ (n : ℕ). take n text) c.word_len.ensures in
    let left : c.split_at.result.1.now ≡ behind text = c.split_at.ensures.back ∙ ap (λ (n : ℕ). drop n text) c.word_len.ensures in
    let rest : c.split_at-2.result.1.now ≡ behind_gap (behind text) = c.split_at-2.ensures.back ∙ ap (λ (n : ℕ). drop n c.split_at.result.1.now) c.gap_len.ensures ∙ ap behind_gap left in
    more_only c.args.dictionary.now text places c.args.count c.args.front c.in_ok-number.field-0 c.place.result c.number_behind.result c.place.ensures.legal c.if-count-eq1.false long is (λ i there. c.place.ensures.only i (there ∙ ap (λ (w : List ℕ). Some (str_to_ascii_uppercase w)) (sym word))) c.in_ok-number.was
    (λ others some there. c.number_behind.ensures.only others some (subst (λ (x : List ℕ). IsWords c.args.dictionary.now others x) (sym rest) there))
