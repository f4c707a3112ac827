-- A text is cut into lines in one way.
use Rattle.std.proofs.Common.{◌≡◌, ◌⊎◌, inl, inr, ℕ, zero, suc, ◌+◌, ◌<◌, ◌==◌, eqb, not, leb, Bool, true, false, List, [], ◌∷◌, ◌++◌, length, take, drop, get_or, refl, sym, ◌∙◌, ap, arith, append_assoc, length-append, length-take}
use Rattle.std.specs.List.{AllByRecursion, concat, position_or_len, prefix_len}
use Rattle.std.proofs.lemmas.Bool.{and_parts, cases_lt}
use Rattle.std.proofs.lemmas.Bool.Decides.{nat_tests}
use Rattle.std.proofs.lemmas.List.{append-nil, drop_at, get_or-take, get_or_append_left, take_all, take_at}
use Rattle.std.proofs.lemmas.List.Sums.{fails_before_first, passes_at_first, position_or_len_is}
use Rattle.audit_check.specs.Said.{first_line}
use Rattle.line_log.specs.Kept.{IsLine}
use Rattle.line_log.specs.Line.{is_line}

abbrev is_newline : ℕ → Bool
is_newline c = eqb c 10

-- whatever stands after it, it is the first line of the text
abbrev pub IsFirst : List ℕ → Type 0
IsFirst line = (0 < length line) × ((rest : List ℕ) → first_line (line ++ rest) ≡ line)

-- where a line's newline stands
place_is : (bytes : List ℕ) → is_line bytes ≡ true → position_or_len is_newline bytes + 1 ≡ length bytes
place_is bytes is =
    let n = prefix_len (λ c. not (eqb c 10)) bytes in
    let same : (n + 1 == length bytes) ≡ true = (and_parts (leb (length bytes) 256) (n + 1 == length bytes) is).1 in
    grind (arith, nat_tests)

place_with : (bytes rest : List ℕ) → is_line bytes ≡ true → position_or_len is_newline (bytes ++ rest) ≡ position_or_len is_newline bytes
place_with bytes rest is =
    let n = position_or_len is_newline bytes in
    let at : n + 1 ≡ length bytes = place_is bytes is in
    position_or_len_is is_newline (bytes ++ rest) n 0 (omega (arith, length-append bytes rest, at))
    (λ k lt. ap is_newline (get_or_append_left bytes rest 0 k (omega (arith, lt, at))) ∙ fails_before_first is_newline bytes k 0 lt)
    (λ _. ap is_newline (get_or_append_left bytes rest 0 n (omega (arith, at))) ∙ passes_at_first is_newline bytes 0 (omega (arith, at)))

-- a line is its text's first
pub line_first : (bytes : List ℕ) → is_line bytes ≡ true → IsFirst bytes
line_first bytes is =
    let at : position_or_len is_newline bytes + 1 ≡ length bytes = place_is bytes is in
    (omega (arith, at), λ rest. ap (λ n. take (n + 1) (bytes ++ rest)) (place_with bytes rest is) ∙ ap (λ n. take n (bytes ++ rest)) at ∙ take_at bytes rest (length bytes) refl)

-- what stands after the first lines
behind_first : (a b x y : List ℕ) → IsFirst a → IsFirst b → a ++ x ≡ b ++ y → (a ≡ b) × (x ≡ y)
behind_first a b x y first other same =
    let lines : a ≡ b = sym (first.1 x) ∙ ap first_line same ∙ other.1 y in
    (lines, sym (drop_at a x (length a) refl) ∙ ap (drop (length a)) same ∙ drop_at b y (length a) (ap length (sym lines)))

-- where the newline of such a line stands
place_first : (bytes : List ℕ) → IsFirst bytes → position_or_len is_newline bytes + 1 ≡ length bytes
place_first bytes first =
    let text : List ℕ = bytes ++ 0 ∷ [] in
    let p = position_or_len is_newline text in
    let long : length (take (p + 1) text) ≡ length bytes = ap length (first.1 (0 ∷ [])) in
    let at : p + 1 ≡ length bytes = omega (arith, long, length-take (p + 1) text, length-append bytes (0 ∷ [])) in
    let same : position_or_len is_newline bytes ≡ p = position_or_len_is is_newline bytes p 0 (omega (arith, at))
    (λ k lt. ap is_newline (sym (get_or_append_left bytes (0 ∷ []) 0 k (omega (arith, lt, at)))) ∙ fails_before_first is_newline text k 0 lt)
    (λ _. ap is_newline (sym (get_or_append_left bytes (0 ∷ []) 0 p (omega (arith, at)))) ∙ passes_at_first is_newline text 0 (omega (arith, at, length-append bytes (0 ∷ [])))) in
    omega (arith, same, at)

-- a line in the front of a line is all of it
all_of_it : (line last rest : List ℕ) (n : ℕ) → IsFirst line → IsFirst last → line ++ rest ≡ take n last → (line ≡ last) × (rest ≡ [])
all_of_it line last rest n first last_first same = elim (cases_lt n (length last)) [
  | inr le ↦ behind_first line last rest [] first last_first (same ∙ take_all n last le ∙ sym (append-nil last))
  | inl lt ↦
      let here : position_or_len is_newline line + 1 ≡ length line = place_first line first in
      let there : position_or_len is_newline last + 1 ≡ length last = place_first last last_first in
      let k = position_or_len is_newline line in
      let long : length (line ++ rest) ≡ length (take n last) = ap length same in
      let below : k < n = omega (arith, long, length-append line rest, length-take n last, here) in
      let is_there : is_newline (get_or last k 0) ≡ true =
      ap is_newline (sym (get_or-take n last k 0 below) ∙ ap (λ (l : List ℕ). get_or l k 0) (sym same) ∙ get_or_append_left line rest 0 k (omega (arith, here))) ∙ passes_at_first is_newline line 0 (omega (arith, here)) in
      let isn_t : is_newline (get_or last k 0) ≡ false = fails_before_first is_newline last k 0 (omega (arith, below, lt, there)) in
      absurd (let no : true ≡ false = sym is_there ∙ isn_t in cc no)
]

joined_none : (lines : List (List ℕ)) → AllByRecursion IsLine lines → concat lines ≡ [] → lines ≡ []
joined_none [] all none = refl
joined_none (line ∷ lines) all none =
    let no : length (line ++ concat lines) ≡ 0 = ap length none in
    absurd (omega (arith, no, length-append line (concat lines), (line_first line all.0.is).0))

-- nothing, or a line
abbrev pub IsLast : List ℕ → Type 0
IsLast last = (last ≡ []) ⊎ IsFirst last

take_none : (n : ℕ) (last : List ℕ) → last ≡ [] → take n last ≡ []
take_none zero last none = refl
take_none (suc n) last none = ap (take (suc n)) none

-- lines that are spelled as others, with the front of a last one, are these, or these and that
pub same_lines : (lines others : List (List ℕ)) (last : List ℕ) (n : ℕ) → AllByRecursion IsLine lines → AllByRecursion IsFirst others → IsLast last → concat lines ≡ concat others ++ take n last
    → (lines ≡ others) ⊎ (IsFirst last × (lines ≡ others ++ last ∷ []))
same_lines [] [] last n all firsts is same = inl refl
same_lines [] (other ∷ others) last n all firsts is same =
    let no : 0 ≡ length ((other ++ concat others) ++ take n last) = ap length same in
    absurd (omega (arith, no, length-append (other ++ concat others) (take n last), length-append other (concat others), firsts.0.0))
same_lines (line ∷ lines) [] last n all firsts is same = elim is [
  | inl none ↦ absurd (let no : length (line ++ concat lines) ≡ 0 = ap length (same ∙ take_none n last none) in omega (arith, no, length-append line (concat lines), (line_first line all.0.is).0))
  | inr some ↦
      let it = all_of_it line last (concat lines) n (line_first line all.0.is) some same in
      inr (some, ap (λ l. l ∷ lines) it.0 ∙ ap (λ ls. last ∷ ls) (joined_none lines all.1 it.1))
]
same_lines (line ∷ lines) (other ∷ others) last n all firsts is same =
    let it = behind_first line other (concat lines) (concat others ++ take n last) (line_first line all.0.is) firsts.0 (same ∙ append_assoc other (concat others) (take n last)) in
    elim (same_lines lines others last n all.1 firsts.1 is it.1) [
      | inl these ↦ inl (ap (λ l. l ∷ lines) it.0 ∙ ap (λ ls. other ∷ ls) these)
      | inr more ↦ inr (more.0, ap (λ l. l ∷ lines) it.0 ∙ ap (λ ls. other ∷ ls) more.1)
    ]
