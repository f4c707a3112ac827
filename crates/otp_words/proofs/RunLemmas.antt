-- Fronts of texts that pass a test.
use Rattle.std.proofs.Common.{◌≡◌, ℕ, suc, ◌+◌, ◌≤◌, Bool, true, false, List, [], ◌∷◌, ◌++◌, length, take, drop, refl, sym, ap, ◌∙◌, arith}
use Rattle.std.specs.Prelude.{cond}
use Rattle.std.specs.List.{list_all, prefix_len}
use Rattle.std.proofs.lemmas.Bool.{and_parts, and_from}
use Rattle.std.proofs.lemmas.List.{take_at, drop_at, take-append-drop}
use Rattle.otp_words.specs.Inner.{IsLongestFront}

-- a front that passes, before what doesn't
pub prefix_len-exact : (p : ℕ → Bool) (xs ys : List ℕ) → list_all p xs ≡ true → prefix_len p ys ≡ 0 → prefix_len p (xs ++ ys) ≡ length xs
prefix_len-exact p [] ys passes stops = stops
prefix_len-exact p (x ∷ xs) ys passes stops =
    let parts = and_parts (p x) (list_all p xs) passes in
    rw (parts.0, prefix_len-exact p xs ys parts.1 stops) (omega arith)

-- one more of the front that passes
list_all-prefix_more : (p : ℕ → Bool) (x : ℕ) (xs : List ℕ) (n : ℕ) (b : Bool) → p x ≡ b → list_all p (take n xs) ≡ true → list_all p (take (cond b (1 + n) 0) (x ∷ xs)) ≡ true
list_all-prefix_more p x xs n true here rest =
    let more : 1 + n ≡ suc n = omega arith in
    rw more (and_from (p x) (list_all p (take n xs)) here rest)
list_all-prefix_more p x xs n false here rest = refl

-- the front that passes does
pub list_all-prefix : (p : ℕ → Bool) (xs : List ℕ) → list_all p (take (prefix_len p xs) xs) ≡ true
list_all-prefix p [] = refl
list_all-prefix p (x ∷ xs) = list_all-prefix_more p x xs (prefix_len p xs) (p x) refl (list_all-prefix p xs)

-- what stops the front that passes
behind_more : (p : ℕ → Bool) (x : ℕ) (xs : List ℕ) (n : ℕ) (b : Bool) → p x ≡ b → prefix_len p (drop n xs) ≡ 0 → prefix_len p (drop (cond b (1 + n) 0) (x ∷ xs)) ≡ 0
behind_more p x xs n true here rest =
    let more : 1 + n ≡ suc n = omega arith in
    rw more rest
behind_more p x xs n false here rest = rw here refl

-- nothing passes after the longest front that does
prefix_len-behind : (p : ℕ → Bool) (xs : List ℕ) → prefix_len p (drop (prefix_len p xs) xs) ≡ 0
prefix_len-behind p [] = refl
prefix_len-behind p (x ∷ xs) = behind_more p x xs (prefix_len p xs) (p x) refl (prefix_len-behind p xs)

-- the longest front that passes, cut off
pub run_cut : (test : ℕ → Bool) (text front rest : List ℕ) (n : ℕ) → n ≡ prefix_len test text → front ≡ take n text → rest ≡ drop n text → IsLongestFront test text front rest
run_cut test text front rest n long front_is rest_is = record {
  joined = sym (take-append-drop n text) ∙ cc;
  passes = rw (front_is, long) (list_all-prefix test text);
  stops = rw (rest_is, long) (prefix_len-behind test text);
}

-- the longest front that passes is known by what follows it
pub run_exact : (test : ℕ → Bool) (text front rest xs ys : List ℕ) → IsLongestFront test text front rest → text ≡ xs ++ ys → list_all test xs ≡ true → prefix_len test ys ≡ 0 → (front ≡ xs) × (rest ≡ ys)
run_exact test text front rest xs ys run e passes stops =
    let here : prefix_len test text ≡ length front = ap (λ (t : List ℕ). prefix_len test t) run.joined ∙ prefix_len-exact test front rest run.passes run.stops in
    let there : prefix_len test text ≡ length xs = ap (λ (t : List ℕ). prefix_len test t) e ∙ prefix_len-exact test xs ys passes stops in
    let n : ℕ = length xs in
    let long : length front ≡ n = sym here ∙ there in
    let both : front ++ rest ≡ xs ++ ys = sym run.joined ∙ e in (
      sym (take_at front rest n long) ∙ ap (λ (t : List ℕ). take n t) both ∙ take_at xs ys n refl,
      sym (drop_at front rest n long) ∙ ap (λ (t : List ℕ). drop n t) both ∙ drop_at xs ys n refl,
    )

-- a front of some bytes that fail a test stops it
pub stops_at : (test other : ℕ → Bool) (xs ys : List ℕ) → ((c : ℕ) → other c ≡ true → test c ≡ false) → 1 ≤ length xs → list_all other xs ≡ true → prefix_len test (xs ++ ys) ≡ 0
stops_at test other [] ys apart some passes = absurd (omega arith)
stops_at test other (x ∷ xs) ys apart some passes = rw (apart x ((and_parts (other x) (list_all other xs) passes).0)) refl
