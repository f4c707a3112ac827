-- Readers of parts, and the writers that they undo.
use Rattle.std.proofs.Common.{◌≡◌, ℕ, ◌<◌, ◌≤◌, Bool, true, false, not, eqb, cond, List, [], ◌∷◌, ◌++◌, length, take, drop, get_or, Result, Ok, Err, refl, sym, ap, subst, ◌∙◌, arith}
use Rattle.std.specs.List.{list_all, position_or_len}
use Rattle.std.proofs.lemmas.Bool.{eqb-true}
use Rattle.std.proofs.lemmas.List.{get_or_append_left, get_or_at, length-append, take_at, drop_at, take-append-drop}
use Rattle.std.proofs.lemmas.List.Folds.{list_all_at}
use Rattle.std.proofs.lemmas.List.Sums.{position_or_len_is}
use Rattle.request_catalogue.specs.Results.{◌>>=◌}
use Rattle.decision_log.specs.declared.logged.LineFault.{LineFault}
use Rattle.decision_log.specs.Parts.{Read, behind_part, ends_part, first_part, next, part}

-- bytes of one part: some, and none of them ends it
pub record IsWhole (bytes : List ℕ) : Type 0 where
  pub some : 1 ≤ length bytes
  pub none : list_all (λ c. not (ends_part c)) bytes ≡ true

-- what ends the part before it
abbrev pub Ends : List ℕ → Type 0
Ends [] = ⊥
Ends (c ∷ rest) = ends_part c ≡ true

-- a reader reads just what its writer writes of what is in range
pub record IsReader {A : Type 0} (read : List ℕ → Result A LineFault) (write : A → List ℕ) (P : A → Type 0) : Type 0 where
  pub back : (bytes : List ℕ) (a : A) → read bytes ≡ Ok a → (bytes ≡ write a) × P a
  pub forth : (a : A) → P a → read (write a) ≡ Ok a
  pub whole : (a : A) → P a → IsWhole (write a)

-- a byte of a part doesn't end it
inside : (bytes : List ℕ) (k : ℕ) → list_all (λ c. not (ends_part c)) bytes ≡ true → k < length bytes → (b : Bool) → ends_part (get_or bytes k 0) ≡ b → b ≡ false
inside bytes k all lt true e = let no : list_all (λ c. not (ends_part c)) bytes ≡ false = list_all_at (λ c. not (ends_part c)) bytes k 0 lt (ap not e) in absurd cc
inside bytes k all lt false e = refl

-- how long the first part is
part_long : (bytes rest : List ℕ) → list_all (λ c. not (ends_part c)) bytes ≡ true → Ends rest → position_or_len ends_part (bytes ++ rest) ≡ length bytes
part_long bytes [] all ends = absurd ends
part_long bytes (c ∷ rest) all ends =
    position_or_len_is ends_part (bytes ++ c ∷ rest) (length bytes) 0 (omega (arith, length-append bytes (c ∷ rest)))
    (λ k lt. ap ends_part (get_or_append_left bytes (c ∷ rest) 0 k lt) ∙ inside bytes k all lt (ends_part (get_or bytes k 0)) refl)
    (λ lt. ap ends_part (get_or_at bytes c rest 0 (length bytes) refl) ∙ ends)

-- the first part, and what stands after it
first_is : (bytes rest : List ℕ) → IsWhole bytes → Ends rest → first_part (bytes ++ rest) ≡ bytes
first_is bytes rest whole ends = ap (λ (n : ℕ). take n (bytes ++ rest)) (part_long bytes rest whole.none ends) ∙ take_at bytes rest (length bytes) refl

behind_is : (bytes rest : List ℕ) → IsWhole bytes → Ends rest → behind_part (bytes ++ rest) ≡ rest
behind_is bytes rest whole ends = ap (λ (n : ℕ). drop n (bytes ++ rest)) (part_long bytes rest whole.none ends) ∙ drop_at bytes rest (length bytes) refl

-- what was bound to what follows
pub bound : {A B : Type 0} (r : Result A LineFault) (following : A → Result B LineFault) (b : B) → (r >>= following) ≡ Ok b → (a : A) × (r ≡ Ok a) × (following a ≡ Ok b)
bound (Ok a) following b e = (a, refl, e)
bound (Err fault) following b e = absurd cc

-- what follows a part
abbrev behind_read : {A : Type 0} → List ℕ → A → Result (Read A) LineFault
behind_read rest value = Ok (record { value = value; rest = rest })

-- what is written is read as the first part
pub part_forth : {A : Type 0} (read : List ℕ → Result A LineFault) (write : A → List ℕ) (P : A → Type 0) → IsReader read write P → (a : A) → P a → (rest : List ℕ) → Ends rest → part read (write a ++ rest) ≡ Ok (record { value = a; rest = rest })
part_forth {A = A} read write P is a range rest ends =
    ap (λ (x : List ℕ). read x >>= behind_read (behind_part (write a ++ rest))) (first_is (write a) rest (is.whole a range) ends)
    ∙ ap (λ (r : Result A LineFault). r >>= behind_read (behind_part (write a ++ rest))) (is.forth a range)
    ∙ ap (λ (x : List ℕ). Ok (record { value = a; rest = x })) (behind_is (write a) rest (is.whole a range) ends)

-- and after a space
pub next_forth : {A : Type 0} (read : List ℕ → Result A LineFault) (write : A → List ℕ) (P : A → Type 0) → IsReader read write P → (a : A) → P a → (rest : List ℕ) → Ends rest → next read (32 ∷ write a ++ rest) ≡ Ok (record { value = a; rest = rest })
next_forth read write P is a range rest ends = part_forth read write P is a range rest ends

-- what is read as the first part is written there
pub part_back : {A : Type 0} (read : List ℕ → Result A LineFault) (write : A → List ℕ) (P : A → Type 0) → IsReader read write P → (text : List ℕ) (r : Read A) → part read text ≡ Ok r → (text ≡ write r.value ++ r.rest) × P r.value
part_back read write P is text r e =
    let found = bound (read (first_part text)) (behind_read (behind_part text)) r e in
    let told = is.back (first_part text) found.0 found.1 in
    let value : found.0 ≡ r.value = same_value found.0 (behind_part text) r found.2 in
    let rest : behind_part text ≡ r.rest = same_rest found.0 (behind_part text) r found.2 in
    (sym (take-append-drop (position_or_len ends_part text) text) ∙ ap (λ (x : List ℕ). x ++ behind_part text) (told.0 ∙ ap write value) ∙ ap (λ (x : List ℕ). write r.value ++ x) rest, subst P value told.1)
  where
    same_value : {A : Type 0} (a : A) (rest : List ℕ) (r : Read A) → behind_read rest a ≡ Ok r → a ≡ r.value
    same_value a rest r h = let same : record { value = a; rest = rest } ≡ r = cc in ap (λ (x : Read _). x.value) same

    same_rest : {A : Type 0} (a : A) (rest : List ℕ) (r : Read A) → behind_read rest a ≡ Ok r → rest ≡ r.rest
    same_rest a rest r h = let same : record { value = a; rest = rest } ≡ r = cc in ap (λ (x : Read _). x.rest) same

-- nothing is read of nothing
nothing : {A : Type 0} (read : List ℕ → Result A LineFault) (write : A → List ℕ) (P : A → Type 0) → IsReader read write P → (r : Read A) → part read [] ≡ Ok r → ⊥
nothing read write P is r e =
    let told = part_back read write P is [] r e in
    let long = ap length told.0 ∙ length-append (write r.value) r.rest in
    let some = (is.whole r.value told.1).some in
    omega (arith, long, some)

-- and after a space
pub next_back : {A : Type 0} (read : List ℕ → Result A LineFault) (write : A → List ℕ) (P : A → Type 0) → IsReader read write P → (text : List ℕ) (r : Read A) → next read text ≡ Ok r → (text ≡ 32 ∷ write r.value ++ r.rest) × P r.value
next_back read write P is [] r e = absurd (nothing read write P is r e)
next_back read write P is (c ∷ text) r e = spaced (eqb c 32) refl e
  where
    spaced : (b : Bool) → eqb c 32 ≡ b → next read (c ∷ text) ≡ Ok r → (c ∷ text ≡ 32 ∷ write r.value ++ r.rest) × P r.value
    spaced true t h =
        let told = part_back read write P is text r (subst (λ (b : Bool). part read (cond b text []) ≡ Ok r) t h) in
        (ap (λ (n : ℕ). n ∷ text) (eqb-true c 32 t) ∙ ap (λ (x : List ℕ). 32 ∷ x) told.0, told.1)
    spaced false t h = absurd (nothing read write P is r (subst (λ (b : Bool). part read (cond b text []) ≡ Ok r) t h))
