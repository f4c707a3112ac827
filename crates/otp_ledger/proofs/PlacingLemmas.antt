-- What copying the later entries one place on makes of an array.
use Rattle.std.proofs.Common.{◌≡◌, ℕ, ◌+◌, ◌-◌, ◌<◌, ◌≤◌, List, ◌∷◌, [], ◌++◌, length, suc, take, drop, set, ap, ◌∙◌, arith, append_assoc, length-drop, length-take-le, take-take}
use lib.Seq.{paste}
use Rattle.std.specs.List.{insert}
use Rattle.std.proofs.lemmas.List.{append-nil, drop-append-le, drop_all, length-append, set_split, take-append-le, take_all}

-- an entry more at the end, the entries from a place on copied one place on, and this entry put there
pub placed : {X : Type 0} (xs : List X) (place : ℕ) (x : X) → place ≤ length xs → set (paste (xs ++ x ∷ []) (place + 1) (drop place (xs ++ x ∷ [])) (length xs - place)) place x ≡ insert xs place x
placed {X} xs place x le =
    let ys : List X = xs ++ x ∷ [] in
    let long : length ys ≡ length xs + 1 = length-append xs (x ∷ []) in
    let head : List X = take (place + 1) ys in
    let behind : List X = take (length xs - place) (drop place ys) in
    let rest : List X = drop (place + 1 + (length xs - place)) ys in
    let head_long : length head ≡ place + 1 = length-take-le (place + 1) ys (omega (arith, long, le)) in
    let parts : paste ys (place + 1) (drop place ys) (length xs - place) ≡ head ++ (behind ++ rest) = append_assoc head behind rest in
    let front : take place (head ++ (behind ++ rest)) ≡ take place xs = take-append-le place head (behind ++ rest) (omega (arith, head_long)) ∙ take-take place (place + 1) ys (omega arith) ∙ take-append-le place xs (x ∷ []) le in
    let moved : behind ≡ drop place xs = ap (take (length xs - place)) (drop-append-le place xs (x ∷ []) le) ∙ take-append-le (length xs - place) (drop place xs) (x ∷ []) (omega (arith, length-drop place xs)) ∙ take_all (length xs - place) (drop place xs) (omega (arith, length-drop place xs)) in
    let none : rest ≡ [] = drop_all (place + 1 + (length xs - place)) ys (omega (arith, long, le)) in
    let back : drop (suc place) (head ++ (behind ++ rest)) ≡ drop place xs = drop-append-le (suc place) head (behind ++ rest) (omega (arith, head_long)) ∙ ap (λ l. l ++ (behind ++ rest)) (drop_all (suc place) head (omega (arith, head_long))) ∙ ap (λ l. behind ++ l) none ∙ append-nil behind ∙ moved in
    let within : place < length (head ++ (behind ++ rest)) = omega (arith, length-append head (behind ++ rest), head_long) in
    ap (λ l. set l place x) parts ∙ set_split (head ++ (behind ++ rest)) place x within ∙ ap (λ l. l ++ x ∷ drop (suc place) (head ++ (behind ++ rest))) front ∙ ap (λ l. take place xs ++ x ∷ l) back
