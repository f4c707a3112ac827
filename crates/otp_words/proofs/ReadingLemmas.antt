-- A challenge, piece by piece.
use Rattle.std.proofs.Common.{◌≡◌, ℕ, ◌+◌, ◌-◌, ◌≤◌, true, false, List, [], ◌∷◌, ◌++◌, length, take, drop, refl, sym, ap, subst, ◌∙◌, arith, ◌&&◌, Option, Some}
use Rattle.std.specs.Prelude.{map, nat_le}
use Rattle.std.specs.Bool.{then_some}
use Rattle.std.specs.Char.{is_ascii_digit, is_ascii_alphanumeric, to_ascii_lowercase}
use Rattle.std.specs.List.{list_all, prefix_len}
use Rattle.std.proofs.lemmas.Bool.{and_parts, false≢true}
use Rattle.std.proofs.lemmas.Bool.Decides.{nat_tests}
use Rattle.std.proofs.lemmas.List.{drop_at, take_rest}
use Rattle.otp_hash.specs.declared.chain.Algo.{Algo}
use Rattle.otp_hash.specs.Seeds.{is_seed_text}
use Rattle.otp_words.specs.Blanks.{is_blank}
use Rattle.otp_words.specs.Challenges.{challenge_word, decimal_value, is_close, is_number_text, IsNumber, BeginsWithChallenge}
use Rattle.otp_words.specs.Inner.{ArePieces, is_closed}
use Rattle.otp_words.proofs.HexLemmas.{then_some-parts}
use Rattle.otp_words.proofs.RunLemmas.{run_exact, stops_at}

-- a decimal digit is no blank
pub is_blank-digit : (c : ℕ) → is_ascii_digit c ≡ true → is_blank c ≡ false
is_blank-digit c e = grind (arith, nat_tests)

-- a blank is no decimal digit
is_ascii_digit-blank : (c : ℕ) → is_blank c ≡ true → is_ascii_digit c ≡ false
is_ascii_digit-blank c e = grind (arith, nat_tests)

-- a letter or digit is no blank
pub is_blank-alphanumeric : (c : ℕ) → is_ascii_alphanumeric c ≡ true → is_blank c ≡ false
is_blank-alphanumeric c e = grind (arith, nat_tests)

-- what closes a challenge is no letter or digit
is_ascii_alphanumeric-close : (c : ℕ) → is_close c ≡ true → is_ascii_alphanumeric c ≡ false
is_ascii_alphanumeric-close c e = grind (arith, nat_tests)

-- the bytes of a seed
pub seed_text_parts : (name : List ℕ) → is_seed_text name ≡ true → (1 ≤ length name) × (list_all is_ascii_alphanumeric name ≡ true)
unfolding is_seed_text
seed_text_parts name e =
    let parts = and_parts (nat_le 1 (length name) && nat_le (length name) 16) (list_all is_ascii_alphanumeric name) e in
    let bounds = and_parts (nat_le 1 (length name)) (nat_le (length name) 16) parts.0 in
    (grind (arith, nat_tests), parts.1)

-- the digits of a number
pub number_parts : (text : List ℕ) → is_number_text text ≡ true → (1 ≤ length text) × (list_all is_ascii_digit text ≡ true)
number_parts text e =
    let parts = and_parts (nat_le 1 (length text) && nat_le (length text) 4) (list_all is_ascii_digit text) e in
    let bounds = and_parts (nat_le 1 (length text)) (nat_le (length text) 4) parts.0 in
    (grind (arith, nat_tests), parts.1)

-- what closes a challenge stops a seed
close_stops : (c : ℕ) (unread : List ℕ) → is_close c ≡ true → prefix_len is_ascii_alphanumeric (c ∷ unread) ≡ 0
close_stops c unread e = rw (is_ascii_alphanumeric-close c e) refl

-- the pieces of a text that begins with a challenge
pieces_only : (text : List ℕ) (algo : Algo) (n : ℕ) (seed : List ℕ) (used front : ℕ) (gap digits second name rest : List ℕ) (is : BeginsWithChallenge text algo n seed used) → front ≡ length (challenge_word algo) → ArePieces (drop front text) gap digits second name rest → (gap ≡ is.gap) × (digits ≡ is.digits) × (second ≡ is.second_gap) × (name ≡ is.name) × (rest ≡ is.close ∷ is.unread)
pieces_only text algo n seed used front gap digits second name rest is long parts =
    let tail4 : List ℕ = is.close ∷ is.unread in
    let tail3 : List ℕ = is.name ++ tail4 in
    let tail2 : List ℕ = is.second_gap ++ tail3 in
    let tail1 : List ℕ = is.digits ++ tail2 in
    let tail0 : List ℕ = is.gap ++ tail1 in
    let begins : drop front text ≡ tail0 = ap (λ (t : List ℕ). drop front t) is.spelled ∙ drop_at (challenge_word algo) tail0 front (sym long) in
    let letters = seed_text_parts is.name is.legal in
    let first = run_exact is_blank (drop front text) gap parts.behind_gap is.gap tail1 parts.gap_is begins is.parted.blank (stops_at is_blank is_ascii_digit is.digits tail2 is_blank-digit (number_parts is.digits is.number.legal).0 (number_parts is.digits is.number.legal).1) in
    let second_run = run_exact is_ascii_digit parts.behind_gap digits parts.behind_digits is.digits tail2 parts.digits_is first.1 (number_parts is.digits is.number.legal).1 (stops_at is_ascii_digit is_blank is.second_gap tail3 is_ascii_digit-blank is.parted_again.some is.parted_again.blank) in
    let third = run_exact is_blank parts.behind_digits second parts.behind_second is.second_gap tail3 parts.second_is second_run.1 is.parted_again.blank (stops_at is_blank is_ascii_alphanumeric is.name tail4 is_blank-alphanumeric letters.0 letters.1) in
    let fourth = run_exact is_ascii_alphanumeric parts.behind_second name rest is.name tail4 parts.name_is third.1 letters.1 (close_stops is.close is.unread is.closed) in
    (first.0, second_run.0, third.0, fourth.0, fourth.1)

-- a text of these pieces begins with a challenge
pub parts_found : (text behind gap digits second name rest unread seed : List ℕ) (algo : Algo) (n close used : ℕ) → text ≡ challenge_word algo ++ behind → ArePieces behind gap digits second name rest → 1 ≤ length gap → 1 ≤ length second → IsNumber digits n → is_seed_text name ≡ true → seed ≡ map to_ascii_lowercase name → rest ≡ close ∷ unread → is_close close ≡ true → used + length unread ≡ length text → BeginsWithChallenge text algo n seed used
parts_found text behind gap digits second name rest unread seed algo n close used begins parts some_gap some_second number legal lower ends closed all = record {
  gap = gap;
  digits = digits;
  second_gap = second;
  name = name;
  close = close;
  unread = unread;
  spelled =
      let third : parts.behind_second ≡ name ++ close ∷ unread = parts.name_is.joined ∙ ap (λ (t : List ℕ). name ++ t) ends in
      let second_run : parts.behind_digits ≡ second ++ (name ++ close ∷ unread) = parts.second_is.joined ∙ ap (λ (t : List ℕ). second ++ t) third in
      let first : parts.behind_gap ≡ digits ++ (second ++ (name ++ close ∷ unread)) = parts.digits_is.joined ∙ ap (λ (t : List ℕ). digits ++ t) second_run in
      begins ∙ ap (λ (t : List ℕ). challenge_word algo ++ t) (parts.gap_is.joined ∙ ap (λ (t : List ℕ). gap ++ t) first);
  parted = record { some = some_gap; blank = parts.gap_is.passes };
  number = number;
  parted_again = record { some = some_second; blank = parts.second_is.passes };
  legal = legal;
  in_lower_case = lower;
  closed = closed;
  all_used = all;
}

-- the pieces of a text that begins with a challenge, cut after the word that was found
pub parts_only : (text word gap digits second name rest : List ℕ) (algo there : Algo) (n : ℕ) (seed : List ℕ) (used : ℕ) (found : Option Algo) (is : BeginsWithChallenge text algo n seed used) → ((algo : Algo) (rest : List ℕ) → text ≡ challenge_word algo ++ rest → found ≡ Some algo) → found ≡ Some there → word ≡ challenge_word there → ArePieces (take (length text - length word) (drop (length word) text)) gap digits second name rest → (there ≡ algo) × (gap ≡ is.gap) × (digits ≡ is.digits) × (second ≡ is.second_gap) × (name ≡ is.name) × (rest ≡ is.close ∷ is.unread)
parts_only text word gap digits second name rest algo there n seed used found is only at word_is parts =
    let some : Some there ≡ Some algo = sym at ∙ only algo _ is.spelled in
    let same : there ≡ algo = cc in
    let cut : ArePieces (drop (length word) text) gap digits second name rest = subst (λ (t : List ℕ). ArePieces t gap digits second name rest) (take_rest text (length word)) parts in
    let pieces = pieces_only text algo n seed used (length word) gap digits second name rest is (ap length (word_is ∙ ap challenge_word same)) cut in
    (same, pieces.0, pieces.1, pieces.2, pieces.3, pieces.4)

-- what is in one to four digits is read
pub number_only : (digits there : List ℕ) (n : ℕ) (r : Option ℕ) → IsNumber digits n → there ≡ digits → r ≡ then_some (is_number_text there) (decimal_value there) → r ≡ Some n
number_only digits there n r is same e = e ∙ rw (same, is.legal) (ap (λ (v : ℕ). Some v) (sym is.value))

-- what is read is in one to four digits
pub number_found : (digits : List ℕ) (n : ℕ) (r : Option ℕ) → r ≡ Some n → r ≡ then_some (is_number_text digits) (decimal_value digits) → IsNumber digits n
number_found digits n r some e =
    let parts = then_some-parts (is_number_text digits) (decimal_value digits) n (sym e ∙ some) in
    record { legal = parts.0; value = sym parts.1 }

-- a text that is closed
pub closed_parts : (rest : List ℕ) → is_closed rest ≡ true → (close : ℕ) × (unread : List ℕ) × (rest ≡ close ∷ unread) × (is_close close ≡ true)
closed_parts [] e = absurd (false≢true e)
closed_parts (c ∷ cs) e = (c, cs, refl, e)
