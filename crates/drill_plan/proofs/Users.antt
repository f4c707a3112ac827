-- The names, the seeds and the passwords of the four users.
use Rattle.std.proofs.Common.{◌≡◌, ℕ, zero, suc, ◌+◌, ◌*◌, ◌<◌, ◌≤◌, true, List, [], ◌∷◌, ◌++◌, length, map, get_or, Option, refl, sym, ap, ◌∙◌, arith, inl, inr, add-one}
use Rattle.std.specs.Prelude.{codes, unwrap_or}
use Rattle.std.specs.Char.{to_ascii_lowercase}
use Rattle.std.specs.Fmt.{decimal}
use Rattle.std.proofs.lemmas.Bool.{cases_lt}
use Rattle.std.proofs.lemmas.Option.{slice_get-get_or, unwrap_or-slice_get}
use Rattle.std.proofs.lemmas.Fmt.{decimal_digit}
use Rattle.std.proofs.lemmas.List.{get_or_append_left, get_or-append-add}
use Rattle.request_catalogue.specs.Texts.{is_name}
use Rattle.otp_hash.specs.Hashing.{chain_of, hash_of}
use Rattle.otp_hash.specs.Seeds.{is_seed_text}
use Rattle.drill_plan.specs.Passwords.{own_algo, own_name, own_password, own_seed}

-- a worker's number is one digit
pub with_digit : (text : List ℕ) (worker : ℕ) → worker < 4 → text ++ decimal worker ≡ text ++ (48 + worker) ∷ []
with_digit text worker lt = ap (λ (digits : List ℕ). text ++ digits) (decimal_digit worker (omega arith))

name_by_digit : (worker : ℕ) → worker < 4 → is_name (codes "d" ++ (48 + worker) ∷ []) ≡ true
unfolding is_name
name_by_digit zero lt = refl
name_by_digit (suc zero) lt = refl
name_by_digit (suc (suc zero)) lt = refl
name_by_digit (suc (suc (suc zero))) lt = refl
name_by_digit (suc (suc (suc (suc w)))) lt = absurd (omega (arith, lt))

pub is_own_name : (worker : ℕ) → worker < 4 → is_name (own_name worker) ≡ true
is_own_name worker lt = ap is_name (with_digit (codes "d") worker lt) ∙ name_by_digit worker lt

seed_by_digit : (worker : ℕ) → worker < 4 → is_seed_text (codes "drill" ++ (48 + worker) ∷ []) ≡ true
unfolding is_seed_text
seed_by_digit zero lt = refl
seed_by_digit (suc zero) lt = refl
seed_by_digit (suc (suc zero)) lt = refl
seed_by_digit (suc (suc (suc zero))) lt = refl
seed_by_digit (suc (suc (suc (suc w)))) lt = absurd (omega (arith, lt))

pub is_own_seed : (worker : ℕ) → worker < 4 → is_seed_text (own_seed worker) ≡ true
is_own_seed worker lt = ap is_seed_text (with_digit (codes "drill") worker lt) ∙ seed_by_digit worker lt

lower_by_digit : (worker : ℕ) → worker < 4 → map to_ascii_lowercase (codes "drill" ++ (48 + worker) ∷ []) ≡ codes "drill" ++ (48 + worker) ∷ []
lower_by_digit zero lt = refl
lower_by_digit (suc zero) lt = refl
lower_by_digit (suc (suc zero)) lt = refl
lower_by_digit (suc (suc (suc zero))) lt = refl
lower_by_digit (suc (suc (suc (suc w)))) lt = absurd (omega (arith, lt))

pub own_seed-lower : (worker : ℕ) → worker < 4 → map to_ascii_lowercase (own_seed worker) ≡ own_seed worker
own_seed-lower worker lt = ap (map to_ascii_lowercase) (with_digit (codes "drill") worker lt) ∙ lower_by_digit worker lt ∙ sym (with_digit (codes "drill") worker lt)

-- what was read at a place of a list of numbers
pub read_at : (items : List ℕ) (place x : ℕ) → place < length items → x ≡ get_or items place x → x ≡ get_or items place 0
read_at items place x within read = sym (ap (λ (o : Option ℕ). unwrap_or o 0) (slice_get-get_or items place x within) ∙ sym read) ∙ unwrap_or-slice_get items place 0

-- one hash step more
pub own_password-more : (n worker count : ℕ) → own_password n worker (count + 1) ≡ hash_of (own_algo worker) (own_password n worker count)
unfolding chain_of
own_password-more n worker count = rw add-one refl

-- the passwords up to a count, and the next one after them
pub more_passwords : (n worker count next : ℕ) (items after : List ℕ) → length items ≡ count + 1 → ((k : ℕ) → k ≤ count → get_or items k 0 ≡ own_password n worker k)
    → next ≡ hash_of (own_algo worker) (get_or items count 0) → after ≡ items ++ next ∷ [] → (k : ℕ) → k ≤ count + 1 → get_or after k 0 ≡ own_password n worker k
more_passwords n worker count next items after len each next_is after_is k le =
    elim (cases_lt k (count + 1)) [
      | inl lt ↦
          let within : k < length items = omega arith in
          let below : k ≤ count = omega arith in
          ap (λ (xs : List ℕ). get_or xs k 0) after_is ∙ get_or_append_left items (next ∷ []) 0 k within ∙ each k below
      | inr ge ↦
          let same : k ≡ length items + 0 = omega arith in
          let last : k ≡ count + 1 = omega arith in
          let here : count ≤ count = omega arith in
          ap (λ (xs : List ℕ). get_or xs k 0) after_is ∙ ap (λ (i : ℕ). get_or (items ++ next ∷ []) i 0) same ∙ get_or-append-add items (next ∷ []) 0 0
          ∙ next_is ∙ ap (hash_of (own_algo worker)) (each count here) ∙ sym (own_password-more n worker count) ∙ ap (own_password n worker) (sym last)
    ]
