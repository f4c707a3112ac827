-- Texts that are cut at spaces and tabs.
use Rattle.std.proofs.Common.{◌≡◌, ℕ, ◌≤◌, true, false, not, List, [], ◌∷◌, ◌++◌, length, take, drop, refl, sym, ap, subst, ◌∙◌}
use Rattle.std.specs.Prelude.{map}
use Rattle.std.specs.Char.{is_ascii_digit, is_ascii_alphanumeric, to_ascii_lowercase}
use Rattle.std.specs.List.{list_all, prefix_len}
use Rattle.std.proofs.lemmas.Bool.{and_parts}
use Rattle.otp_hash.specs.declared.chain.Algo.{Algo}
use Rattle.otp_hash.specs.declared.chain.Algo.TheVariants as algos
use Rattle.otp_hash.specs.Seeds.{is_seed_text}
use Rattle.otp_words.proofs.ReadingLemmas.{is_blank-alphanumeric, is_blank-digit, number_parts, seed_text_parts}
use Rattle.otp_words.specs.Blanks.{is_blank, is_no_blank}
use Rattle.otp_words.specs.Challenges.{IsNumber}
use Rattle.otp_words.specs.Inner.{IsLongestFront}
use Rattle.otp_words.proofs.RunLemmas.{run_cut, run_exact, stops_at}
use Rattle.otp_extended.specs.Inner.{AreWords, HasPieces, IsCutAtBlanks}
use Rattle.otp_hash.specs.Names.{algo_name}
use Rattle.otp_extended.specs.Responses.{AreParams}

-- digits are no blanks
plain_digits : (digits : List ℕ) → list_all is_ascii_digit digits ≡ true → list_all is_no_blank digits ≡ true
plain_digits [] e = refl
plain_digits (c ∷ cs) e =
    let parts = and_parts (is_ascii_digit c) (list_all is_ascii_digit cs) e in
    rw (is_blank-digit c parts.0) (plain_digits cs parts.1)

plain_word : (algo : Algo) → list_all is_no_blank (algo_name algo) ≡ true
plain_word algos.Md5 = refl
plain_word algos.Sha1 = refl

nil : (xs : List ℕ) → xs ++ [] ≡ xs
nil [] = refl
nil (x ∷ xs) = ap (λ (ys : List ℕ). x ∷ ys) (nil xs)

-- a seed's bytes are no blank at their front
seed_stops : (name : List ℕ) → is_seed_text name ≡ true → prefix_len is_blank name ≡ 0
seed_stops name legal =
    let letters = seed_text_parts name legal in
    ap (prefix_len is_blank) (sym (nil name)) ∙ stops_at is_blank is_ascii_alphanumeric name [] is_blank-alphanumeric letters.0 letters.1

-- parameters are cut at their blanks
pub first_cut : (text : List ℕ) (algo : Algo) (sequence : ℕ) (seed : List ℕ) (is : AreParams text algo sequence seed) → IsCutAtBlanks text (algo_name algo) (is.digits ++ (is.second_gap ++ is.name))
first_cut text algo sequence seed is = record {
  gap = is.gap;
  spelled = is.spelled;
  plain = plain_word algo;
  parted = is.parted;
  stops = stops_at is_blank is_ascii_digit is.digits (is.second_gap ++ is.name) is_blank-digit (number_parts is.digits is.number.legal).0 (number_parts is.digits is.number.legal).1;
}

pub second_cut : (text : List ℕ) (algo : Algo) (sequence : ℕ) (seed : List ℕ) (is : AreParams text algo sequence seed) → IsCutAtBlanks (is.digits ++ (is.second_gap ++ is.name)) is.digits is.name
second_cut text algo sequence seed is = record {
  gap = is.second_gap;
  spelled = refl;
  plain = plain_digits is.digits (number_parts is.digits is.number.legal).1;
  parted = is.parted_again;
  stops = seed_stops is.name is.legal;
}

-- what is cut so, and has such words, is parameters
pub params_from : (text word rest digits name : List ℕ) (algo : Algo) (sequence : ℕ) (seed : List ℕ) → IsCutAtBlanks text word rest → IsCutAtBlanks rest digits name → AreWords word digits name algo sequence seed → AreParams text algo sequence seed
params_from text word rest digits name algo sequence seed first second words = record {
  gap = first.gap;
  digits = digits;
  second_gap = second.gap;
  name = name;
  spelled = first.spelled ∙ ap (λ (w : List ℕ). w ++ (first.gap ++ rest)) words.named ∙ ap (λ (r : List ℕ). algo_name algo ++ (first.gap ++ r)) second.spelled;
  parted = first.parted;
  number = words.number;
  from_one = words.from_one;
  parted_again = second.parted;
  legal = words.legal;
  in_lower_case = words.in_lower_case;
}

-- a text is cut where it was split
blank_not : (c : ℕ) → is_blank c ≡ true → is_no_blank c ≡ false
blank_not c e = ap not e

pub cut_found : (text front behind gap rest : List ℕ) (n m : ℕ) → n ≡ prefix_len is_no_blank text → front ≡ take n text → behind ≡ drop n text → m ≡ prefix_len is_blank behind → gap ≡ take m behind → rest ≡ drop m behind → 1 ≤ length gap → IsCutAtBlanks text front rest
cut_found text front behind gap rest n m long front_is behind_is wide gap_is rest_is some =
    let a : IsLongestFront is_no_blank text front behind = run_cut is_no_blank text front behind n long front_is behind_is in
    let b : IsLongestFront is_blank behind gap rest = run_cut is_blank behind gap rest m wide gap_is rest_is in
    record {
      gap = gap;
      spelled = a.joined ∙ ap (λ (t : List ℕ). front ++ t) b.joined;
      plain = a.passes;
      parted = record { some = some; blank = b.passes };
      stops = b.stops;
    }

-- and nowhere else
pub cut_only : (text front behind gap rest there after : List ℕ) (n m : ℕ) → n ≡ prefix_len is_no_blank text → front ≡ take n text → behind ≡ drop n text → m ≡ prefix_len is_blank behind → gap ≡ take m behind → rest ≡ drop m behind → (is : IsCutAtBlanks text there after) → (gap ≡ is.gap) × HasPieces there after front rest
cut_only text front behind gap rest there after n m long front_is behind_is wide gap_is rest_is is =
    let a : IsLongestFront is_no_blank text front behind = run_cut is_no_blank text front behind n long front_is behind_is in
    let b : IsLongestFront is_blank behind gap rest = run_cut is_blank behind gap rest m wide gap_is rest_is in
    let first = run_exact is_no_blank text front behind there (is.gap ++ after) a is.spelled is.plain (stops_at is_no_blank is_blank is.gap after blank_not is.parted.some is.parted.blank) in
    let second = run_exact is_blank behind gap rest is.gap after b first.1 is.parted.blank is.stops in
    (second.0, record { front_is = first.0; rest_is = second.1 })

-- the second cut of parameters, in the pieces that the first one gave
pub pieces_cut : (text word rest : List ℕ) (algo : Algo) (sequence : ℕ) (seed : List ℕ) (is : AreParams text algo sequence seed) → HasPieces (algo_name algo) (is.digits ++ (is.second_gap ++ is.name)) word rest → IsCutAtBlanks rest is.digits is.name
pieces_cut text word rest algo sequence seed is pieces =
    subst (λ (r : List ℕ). IsCutAtBlanks r is.digits is.name) (sym pieces.rest_is) (second_cut text algo sequence seed is)

-- the words of parameters, in the pieces that both cuts gave
pub same_words : (text word rest digits name : List ℕ) (algo : Algo) (sequence : ℕ) (seed : List ℕ) (is : AreParams text algo sequence seed) → HasPieces (algo_name algo) (is.digits ++ (is.second_gap ++ is.name)) word rest → HasPieces is.digits is.name digits name → AreWords word digits name algo sequence seed
same_words text word rest digits name algo sequence seed is first second = record {
  named = first.front_is;
  number = subst (λ (d : List ℕ). IsNumber d sequence) (sym second.front_is) is.number;
  from_one = is.from_one;
  legal = ap is_seed_text second.rest_is ∙ is.legal;
  in_lower_case = is.in_lower_case ∙ ap (map to_ascii_lowercase) (sym second.rest_is);
}
