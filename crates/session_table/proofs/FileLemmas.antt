-- Files of different handles, and the handles that are left.
use Rattle.std.proofs.Common.{◌≡◌, ℕ, zero, suc, ◌+◌, ◌<◌, ◌≤◌, Bool, true, false, ◌&&◌, ◌||◌, ◌==◌, not, cond, eqb, List, [], ◌∷◌, ◌++◌, length, nat_le, Option, Some, None, is_none, unwrap_or, refl, sym, ap, subst, ◌∙◌, arith}
use Rattle.std.specs.List.{find, list_any}
use Rattle.std.proofs.lemmas.Bool.Decides.{nat_tests}
use Rattle.request_catalogue.specs.declared.rules.TheConstants.{HANDLES_SPENT, MODE_NOT_GRANTED}
use Rattle.request_catalogue.specs.declared.texts.Label.{Label}
use Rattle.policy_model.specs.declared.account.Grant.{Grant}
use Rattle.policy_model.specs.declared.event.Decision.TheVariants.{Permit, Deny}
use Rattle.policy_model.specs.declared.handles.TheConstants.{HANDLE_NUMBERS}
use Rattle.policy_model.specs.Settings.{are_distinct, same_label}
use Rattle.policy_model.specs.Verdict.{allows}
use Rattle.policy_model.specs.Cases.{grant_verdict}
use Rattle.session_table.specs.declared.handles.LiveHandle.{LiveHandle}
use Rattle.session_table.specs.Files.{AreHandles, AreUpTo, IsNewHandle, file_at, free_of, is_free, open_decision, without}

-- a test of the first file and of those after it
free_cons : (handle : ℕ) (file : LiveHandle) (live : List LiveHandle) → is_free handle (file ∷ live) ≡ (not (file.handle == handle) && is_free handle live)
free_cons handle file live = go (file.handle == handle) where
  go : (b : Bool) → is_none (cond b (Some file) (file_at handle live)) ≡ (not b && is_free handle live)
  go true = refl
  go false = refl

pub and_parts : (a b : Bool) → (a && b) ≡ true → (a ≡ true) × (b ≡ true)
and_parts true b h = (refl, h)
and_parts false b h = absurd cc

or_parts : (a b : Bool) → (a || b) ≡ false → (a ≡ false) × (b ≡ false)
or_parts true b h = absurd cc
or_parts false b h = (refl, h)

not_true : (b : Bool) → not b ≡ true → b ≡ false
not_true true h = absurd cc
not_true false h = refl

-- what is free stays free where a file goes
pub free_without : (handle number : ℕ) (live : List LiveHandle) → is_free handle live ≡ true → is_free handle (without number live) ≡ true
free_without handle number [] h = refl
free_without handle number (file ∷ live) h =
    let both = and_parts (not (file.handle == handle)) (is_free handle live) (sym (free_cons handle file live) ∙ h) in
    go (file.handle == number) both.0 (free_without handle number live both.1) where
      go : (b : Bool) → not (file.handle == handle) ≡ true → is_free handle (without number live) ≡ true → is_free handle (cond (not b) (file ∷ without number live) (without number live)) ≡ true
      go true first rest = rest
      go false first rest = free_cons handle file (without number live) ∙ rw (first, rest) refl

-- files of handles in a range, where one of them goes
pub up_to_without : (m n number : ℕ) → ((handle : ℕ) → handle ≤ m → (handle == number) ≡ false → handle ≤ n) → (live : List LiveHandle) → AreUpTo m live → AreUpTo n (without number live)
up_to_without m n number below [] are = tt
up_to_without m n number below (file ∷ live) are = go (file.handle == number) refl (up_to_without m n number below live are.3) where
  go : (b : Bool) → (file.handle == number) ≡ b → AreUpTo n (without number live) → AreUpTo n (cond (not b) (file ∷ without number live) (without number live))
  go true is rest = rest
  go false is rest = (are.0, below file.handle are.1 is, free_without file.handle number live are.2, rest)

pub handles_without : (number : ℕ) (live : List LiveHandle) → AreHandles live → AreHandles (without number live)
handles_without number live are = up_to_without 8 8 number (λ handle le other. le) live are

-- a file with a free handle goes after the others
pub handles_push : (live : List LiveHandle) (file : LiveHandle) → AreHandles live → 1 ≤ file.handle → file.handle ≤ 8 → is_free file.handle live ≡ true → AreHandles (live ++ file ∷ [])
handles_push [] file are low high free = (low, high, refl, tt)
handles_push (first ∷ live) file are low high free =
    let both = and_parts (not (first.handle == file.handle)) (is_free file.handle live) (sym (free_cons file.handle first live) ∙ free) in
    let apart : eqb first.handle file.handle ≡ false = not_true (first.handle == file.handle) both.0 in
    let turned : eqb file.handle first.handle ≡ false = grind (arith, nat_tests, apart) in
    (are.0, are.1, still first.handle live turned are.2, handles_push live file are.3 low high both.1) where
      still : (handle : ℕ) (files : List LiveHandle) → eqb file.handle handle ≡ false → is_free handle files ≡ true → is_free handle (files ++ file ∷ []) ≡ true
      still handle [] other h = free_cons handle file [] ∙ rw other refl
      still handle (x ∷ xs) other h =
          let parts = and_parts (not (x.handle == handle)) (is_free handle xs) (sym (free_cons handle x xs) ∙ h) in
          free_cons handle x (xs ++ file ∷ []) ∙ rw (parts.0, still handle xs other parts.1) refl

-- where a handle is free no file goes
without_free : (number : ℕ) (live : List LiveHandle) → is_free number live ≡ true → without number live ≡ live
without_free number [] h = refl
without_free number (file ∷ live) h =
    let both = and_parts (not (file.handle == number)) (is_free number live) (sym (free_cons number file live) ∙ h) in
    ap (λ b. cond b (file ∷ without number live) (without number live)) both.0 ∙ ap (λ (xs : List LiveHandle). file ∷ xs) (without_free number live both.1)

-- at most one file has a handle
at_most_one : (m number : ℕ) (live : List LiveHandle) → AreUpTo m live → length live ≤ 1 + length (without number live)
at_most_one m number [] are = omega arith
at_most_one m number (file ∷ live) are = go (file.handle == number) refl (at_most_one m number live are.3) where
  go : (b : Bool) → (file.handle == number) ≡ b → length live ≤ 1 + length (without number live) → suc (length live) ≤ 1 + length (cond (not b) (file ∷ without number live) (without number live))
  go true is rest =
      let same : file.handle ≡ number = grind (arith, nat_tests, is) in
      let all : length (without number live) ≡ length live = ap length (without_free number live (subst (λ n. is_free n live ≡ true) same are.2)) in
      omega (arith, all)
  go false is rest = omega (arith, rest)

-- there are at most as many files as handles
pub at_most : (n : ℕ) (live : List LiveHandle) → AreUpTo n live → length live ≤ n
at_most n [] are = omega arith
at_most zero (file ∷ live) are = let low = are.0 in let high = are.1 in absurd (omega arith)
at_most (suc n) (file ∷ live) are =
    let rest = at_most n (without (suc n) (file ∷ live)) (up_to_without (suc n) n (suc n) (λ handle le other. grind (arith, nat_tests, le, other)) (file ∷ live) are) in
    let one = at_most_one (suc n) (suc n) (file ∷ live) are in
    omega (arith, rest, one)

-- there is room for a file with a free handle
pub room_for : (live : List LiveHandle) (handle : ℕ) → AreHandles live → 1 ≤ handle → handle ≤ 8 → is_free handle live ≡ true → length live < 8
room_for live handle are low high free =
    let file : LiveHandle = record { handle = handle; grant = 0; mode = 0 } in
    let most = at_most 8 (file ∷ live) (low, high, free, are) in
    omega (arith, most)

-- files of all these handles are open
abbrev AreTaken : List ℕ → List LiveHandle → Type 0
AreTaken [] live = Unit {0}
AreTaken (n ∷ ns) live = (is_free n live ≡ false) × AreTaken ns live

taken_without : (handle number : ℕ) (live : List LiveHandle) → eqb number handle ≡ false → is_free handle live ≡ false → is_free handle (without number live) ≡ false
taken_without handle number [] other h = absurd cc
taken_without handle number (file ∷ live) other h = go (eqb file.handle number) refl (eqb file.handle handle) refl (sym (free_cons handle file live) ∙ h) (taken_without handle number live other) where
  go : (b : Bool) → eqb file.handle number ≡ b → (c : Bool) → eqb file.handle handle ≡ c → (not c && is_free handle live) ≡ false → (is_free handle live ≡ false → is_free handle (without number live) ≡ false) → is_free handle (cond (not b) (file ∷ without number live) (without number live)) ≡ false
  go true is true same h rest = absurd (grind (arith, nat_tests, is, same, other))
  go true is false same h rest = rest h
  go false is true same h rest = free_cons handle file (without number live) ∙ rw same refl
  go false is false same h rest = free_cons handle file (without number live) ∙ rw same (rest h)

are_taken_without : (number : ℕ) (ns : List ℕ) (live : List LiveHandle) → list_any (eqb number) ns ≡ false → AreTaken ns live → AreTaken ns (without number live)
are_taken_without number [] live other are = tt
are_taken_without number (n ∷ ns) live other are =
    let both = or_parts (eqb number n) (list_any (eqb number) ns) other in
    (taken_without n number live both.0 are.0, are_taken_without number ns live both.1 are.1)

length_without : (number : ℕ) (live : List LiveHandle) → length (without number live) ≤ length live
length_without number [] = omega arith
length_without number (file ∷ live) = go (file.handle == number) (length_without number live) where
  go : (b : Bool) → length (without number live) ≤ length live → length (cond (not b) (file ∷ without number live) (without number live)) ≤ suc (length live)
  go true rest = omega (arith, rest)
  go false rest = omega (arith, rest)

less_without : (number : ℕ) (live : List LiveHandle) → is_free number live ≡ false → length (without number live) < length live
less_without number [] h = absurd cc
less_without number (file ∷ live) h = go (file.handle == number) (sym (free_cons number file live) ∙ h) (less_without number live) where
  go : (b : Bool) → (not b && is_free number live) ≡ false → (is_free number live ≡ false → length (without number live) < length live) → length (cond (not b) (file ∷ without number live) (without number live)) < suc (length live)
  go true h rest = let le = length_without number live in omega (arith, le)
  go false h rest = let lt = rest h in omega (arith, lt)

-- there are at least as many files as different handles that are taken
taken_length : (ns : List ℕ) (live : List LiveHandle) → are_distinct ◌==◌ ns ≡ true → AreTaken ns live → length ns ≤ length live
taken_length [] live distinct are = omega arith
taken_length (n ∷ ns) live distinct are =
    let both = and_parts (not (list_any (eqb n) ns)) (are_distinct ◌==◌ ns) distinct in
    let rest = taken_length ns (without n live) both.1 (are_taken_without n ns live (not_true (list_any (eqb n) ns) both.0) are.1) in
    let less = less_without n live are.0 in
    omega (arith, rest, less)

-- a number that is found is in a range where all are
abbrev AreNumbers : List ℕ → Type 0
AreNumbers [] = Unit {0}
AreNumbers (n ∷ ns) = (1 ≤ n) × (n ≤ 8) × AreNumbers ns

found_number : (p : ℕ → Bool) (ns : List ℕ) (n : ℕ) → AreNumbers ns → find p ns ≡ Some n → (1 ≤ n) × (n ≤ 8) × (p n ≡ true)
found_number p [] n are h = absurd cc
found_number p (x ∷ ns) n are h = go (p x) refl h (found_number p ns n are.2) where
  go : (b : Bool) → p x ≡ b → cond b (Some x) (find p ns) ≡ Some n → (find p ns ≡ Some n → (1 ≤ n) × (n ≤ 8) × (p n ≡ true)) → (1 ≤ n) × (n ≤ 8) × (p n ≡ true)
  go true is h rest =
      let same : x ≡ n = cc in
      subst (λ k. (1 ≤ k) × (k ≤ 8) × (p k ≡ true)) same (are.0, are.1, is)
  go false is h rest = rest h

none_found : (live : List LiveHandle) (ns : List ℕ) → find (λ n. is_free n live) ns ≡ None → AreTaken ns live
none_found live [] h = tt
none_found live (n ∷ ns) h = go (is_free n live) refl h (none_found live ns) where
  go : (b : Bool) → is_free n live ≡ b → cond b (Some n) (find (λ k. is_free k live) ns) ≡ None → (find (λ k. is_free k live) ns ≡ None → AreTaken ns live) → AreTaken (n ∷ ns) live
  go true is h rest = absurd cc
  go false is h rest = (is, rest h)

-- where fewer than eight files are open the least free handle is one of 1 to 8, and free
pub least_is_free : (live : List LiveHandle) → length live < 8 → (1 ≤ free_of live) × (free_of live ≤ 8) × (is_free (free_of live) live ≡ true)
least_is_free live lt = go (find (λ n. is_free n live) HANDLE_NUMBERS) refl where
  numbers : AreNumbers HANDLE_NUMBERS
  numbers = (omega arith, omega arith, (omega arith, omega arith, (omega arith, omega arith, (omega arith, omega arith, (omega arith, omega arith, (omega arith, omega arith, (omega arith, omega arith, (omega arith, omega arith, tt))))))))

  go : (o : Option ℕ) → find (λ n. is_free n live) HANDLE_NUMBERS ≡ o → (1 ≤ unwrap_or o 0) × (unwrap_or o 0 ≤ 8) × (is_free (unwrap_or o 0) live ≡ true)
  go None h = let most : 8 ≤ length live = taken_length HANDLE_NUMBERS live refl (none_found live HANDLE_NUMBERS h) in absurd (omega (arith, most, lt))
  go (Some n) h = found_number (λ k. is_free k live) HANDLE_NUMBERS n numbers h

-- what a permitted OPEN gives
granted_is_new : (live : List LiveHandle) (grant : Option Grant) (mode : ℕ) → length live < 8 → IsNewHandle live (grant_verdict (free_of live) mode grant)
granted_is_new live None mode lt = tt
granted_is_new live (Some grant) mode lt = go (allows grant.mode mode) where
  go : (b : Bool) → IsNewHandle live (cond b (Permit (free_of live)) (Deny MODE_NOT_GRANTED mode))
  go true = least_is_free live lt
  go false = tt

pub open_is_new : (live : List LiveHandle) (grants : List Grant) (mode : ℕ) (name : Label) → IsNewHandle live (open_decision live grants mode name)
open_is_new live grants mode name = go (nat_le 8 (length live)) refl where
  go : (b : Bool) → nat_le 8 (length live) ≡ b → IsNewHandle live (cond b (Deny HANDLES_SPENT 8) (grant_verdict (free_of live) mode (find (λ g. same_label g.name name) grants)))
  go true is = tt
  go false is = granted_is_new live (find (λ g. same_label g.name name) grants) mode (grind (arith, nat_tests, is))
