-- Texts written one after the other.
use Rattle.std.proofs.Common.{◌≡◌, ℕ, ◌+◌, ◌-◌, ◌≤◌, List, [], ◌∷◌, ◌++◌, length, take, drop, sym, ap, ◌∙◌, arith, append_assoc, length-append}
use Rattle.std.proofs.lemmas.List.{take_at, take_rest, drop-drop}
use lib.Seq.{drop-append-add}
use Rattle.otp_hash.specs.declared.chain.Algo.{Algo}
use Rattle.std.specs.Fmt.{decimal}
use Rattle.otp_words.specs.Challenges.{challenge_word, challenge_of}
use Rattle.otp_words.specs.Inner.{four_digits, leading_zeros}
use Rattle.otp_words.proofs.FourDigits.{short_digits-decimal}

-- a text stands at the front of what was there before, up to a place
pub record IsWritten (text before now : List ℕ) (place : ℕ) : Type 0 where
  pub bytes : now ≡ text ++ drop (length text) before
  pub end : place ≡ length text

-- bytes written after a text
pub put_next : (text bytes before now next : List ℕ) (place end : ℕ) → IsWritten text before now place → end ≡ place + length bytes → next ≡ take place now ++ bytes ++ drop (place + length bytes) now → IsWritten (text ++ bytes) before next end
put_next text bytes before now next place end is ends put =
    let rest : List ℕ = drop (length text) before in
    let t : take place now ≡ text = ap (λ (n : List ℕ). take place n) is.bytes ∙ take_at text rest place (sym is.end) in
    let d : drop (place + length bytes) now ≡ drop (length (text ++ bytes)) before =
    ap (λ (n : List ℕ). drop (place + length bytes) n) is.bytes
    ∙ ap (λ (n : ℕ). drop (n + length bytes) (text ++ rest)) is.end
    ∙ drop-append-add text rest (length bytes)
    ∙ drop-drop (length bytes) (length text) before
    ∙ ap (λ (n : ℕ). drop n before) (sym (length-append text bytes)) in
    record {
      bytes = put ∙ ap (λ (x : List ℕ). x ++ bytes ++ drop (place + length bytes) now) t ∙ ap (λ (x : List ℕ). text ++ bytes ++ x) d;
      end = omega (arith, ends, is.end, length-append text bytes);
    }

-- the parts of a challenge
challenge_parts : (a d s : List ℕ) → ((((([] ++ a) ++ 32 ∷ []) ++ d) ++ 32 ∷ []) ++ s) ++ 10 ∷ [] ≡ a ++ 32 ∷ d ++ 32 ∷ s ++ 10 ∷ []
challenge_parts a d s = simp append_assoc

-- a challenge that is written part by part
pub challenge_written : (algo : Algo) (n : ℕ) (seed a s before now : List ℕ) (zeros place : ℕ) (digits : List ℕ) → n ≤ 9999 → a ≡ challenge_word algo → zeros ≡ leading_zeros n → digits ≡ four_digits n → s ≡ seed → IsWritten (((((([] ++ a) ++ 32 ∷ []) ++ take (4 - zeros) (drop zeros digits)) ++ 32 ∷ []) ++ s) ++ 10 ∷ []) before now place → (now ≡ challenge_of algo n seed ++ drop place before) × (place ≡ length (challenge_of algo n seed))
unfolding challenge_of
challenge_written algo n seed a s before now zeros place digits small ea ez ed es is =
    let d : List ℕ = take (4 - zeros) (drop zeros digits) in
    let text : List ℕ = ((((([] ++ a) ++ 32 ∷ []) ++ d) ++ 32 ∷ []) ++ s) ++ 10 ∷ [] in
    let spelled : d ≡ decimal n = ap (λ (z : ℕ). take (4 - z) (drop z digits)) ez ∙ ap (λ (x : List ℕ). take (4 - leading_zeros n) (drop (leading_zeros n) x)) ed ∙ take_rest (four_digits n) (leading_zeros n) ∙ short_digits-decimal n small in
    let same : a ++ 32 ∷ d ++ 32 ∷ s ++ 10 ∷ [] ≡ challenge_word algo ++ 32 ∷ decimal n ++ 32 ∷ seed ++ 10 ∷ [] =
    ap (λ (x : List ℕ). x ++ 32 ∷ d ++ 32 ∷ s ++ 10 ∷ []) ea
    ∙ ap (λ (x : List ℕ). challenge_word algo ++ 32 ∷ x ++ 32 ∷ s ++ 10 ∷ []) spelled
    ∙ ap (λ (x : List ℕ). challenge_word algo ++ 32 ∷ decimal n ++ 32 ∷ x ++ 10 ∷ []) es in
    let whole = challenge_parts a d s ∙ same in (
      is.bytes ∙ ap (λ (t : List ℕ). t ++ drop (length text) before) whole ∙ ap (λ (k : ℕ). challenge_word algo ++ 32 ∷ decimal n ++ 32 ∷ seed ++ 10 ∷ [] ++ drop k before) (sym is.end),
      is.end ∙ ap length whole,
    )
