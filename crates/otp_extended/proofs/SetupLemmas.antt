-- A setup with a new chain is a setup.
use Rattle.std.proofs.Common.{◌≡◌, ◌≢◌, ℕ, zero, suc, ◌+◌, ◌≤◌, ◌<◌, Bool, true, false, cond, ◌&&◌, ◌||◌, ◌==◌, List, [], ◌∷◌, ◌++◌, map, length, get_or, take, nat_le, Some, inl, inr, refl, sym, ap, subst, ◌∙◌, arith}
use Rattle.std.specs.Prelude.{slice_get}
use Rattle.std.specs.List.{list_all, list_any}
use Rattle.std.proofs.lemmas.Bool.{and_parts, and_from, eq-eqb, eqb-true, false≢true}
use Rattle.std.proofs.lemmas.Bool.Decides.{nat_tests}
use Rattle.std.proofs.lemmas.List.{take_more}
use Rattle.std.proofs.lemmas.Option.{slice_get-get_or, slice_get_cases, slice_get_past, slice_get_within, get_or_from_slice_get}
use Rattle.request_catalogue.specs.declared.texts.Name.{Name}
use Rattle.policy_model.specs.declared.account.Account.{Account}
use Rattle.policy_model.specs.Settings.{IsInRange, Settings, are_accounts, are_distinct, are_grants, is_account, is_number, same_name}
use Rattle.otp_extended.specs.declared.renewal.Renewed.{Renewed}
use Rattle.otp_extended.specs.Renewals.{account_with, accounts_with, renewed_setup}

-- 1. The accounts

not_same : (n place : ℕ) → n ≢ place → (n == place) ≡ false
not_same n place apart = go (n == place) refl where
  go : (b : Bool) → (n == place) ≡ b → b ≡ false
  go true e = absurd (apart (eqb-true n place e))
  go false e = refl

both_more : (i place : ℕ) → (suc i == suc place) ≡ (i == place)
both_more i place = go (i == place) refl where
  go : (b : Bool) → (i == place) ≡ b → (suc i == suc place) ≡ (i == place)
  go true e = eq-eqb (suc i) (suc place) (ap suc (eqb-true i place e)) ∙ sym e
  go false e = not_same (suc i) (suc place) (λ same. false≢true (sym e ∙ eq-eqb i place (omega (arith, same)))) ∙ sym e

pub length-with : (accounts : List Account) (place : ℕ) (new : Renewed) → length (accounts_with accounts place new) ≡ length accounts
length-with [] place new = refl
length-with (a ∷ accounts) zero new = refl
length-with (a ∷ accounts) (suc place) new = omega (arith, length-with accounts place new)

pub at_with : (accounts : List Account) (place i : ℕ) (new : Renewed) (d : Account) → i < length accounts → get_or (accounts_with accounts place new) i d ≡ cond (i == place) (account_with (get_or accounts i d) new) (get_or accounts i d)
at_with [] place i new d lt = absurd (omega arith)
at_with (a ∷ accounts) zero zero new d lt = refl
at_with (a ∷ accounts) zero (suc i) new d lt =
    let apart : (suc i == 0) ≡ false = not_same (suc i) 0 (λ e. absurd (omega (arith, e))) in
    rw apart refl
at_with (a ∷ accounts) (suc place) zero new d lt =
    let apart : (0 == suc place) ≡ false = not_same 0 (suc place) (λ e. absurd (omega (arith, e))) in
    rw apart refl
at_with (a ∷ accounts) (suc place) (suc i) new d lt =
    at_with accounts place i new d (omega arith) ∙ ap (λ (b : Bool). cond b (account_with (get_or accounts i d) new) (get_or accounts i d)) (sym (both_more i place))

-- the step of the copy
pub more_with : (accounts : List Account) (place i : ℕ) (new : Renewed) (items : List Account) (a copy : Account) → i < length accounts → items ≡ take i (accounts_with accounts place new) → a ≡ get_or accounts i a → copy ≡ cond (i == place) (account_with a new) a → items ++ copy ∷ [] ≡ take (i + 1) (accounts_with accounts place new)
more_with accounts place i new items a copy lt so_far here copied =
    let all : List Account = accounts_with accounts place new in
    let within : i < length all = omega (arith, lt, length-with accounts place new) in
    let value : get_or all i a ≡ cond (i == place) (account_with a new) a = at_with accounts place i new a lt ∙ ap (λ (b : Account). cond (i == place) (account_with b new) b) (sym here) in
    ap (λ (xs : List Account). xs ++ copy ∷ []) so_far
    ∙ ap (λ (b : Account). take i all ++ b ∷ []) (copied ∙ sym value)
    ∙ sym (take_more all i a within)

-- 2. Its ranges

names_with : (accounts : List Account) (place : ℕ) (new : Renewed) → map (λ (a : Account). a.name) (accounts_with accounts place new) ≡ map (λ (a : Account). a.name) accounts
names_with [] place new = refl
names_with (a ∷ accounts) zero new = refl
names_with (a ∷ accounts) (suc place) new = ap (λ (names : List Name). a.name ∷ names) (names_with accounts place new)

uids_with : (accounts : List Account) (place : ℕ) (new : Renewed) → map (λ (a : Account). a.uid) (accounts_with accounts place new) ≡ map (λ (a : Account). a.uid) accounts
uids_with [] place new = refl
uids_with (a ∷ accounts) zero new = refl
uids_with (a ∷ accounts) (suc place) new = ap (λ (uids : List ℕ). a.uid ∷ uids) (uids_with accounts place new)

any-map : {X Y : Type 0} (p : X → Bool) (f : Y → X) (ys : List Y) → list_any p (map f ys) ≡ list_any (λ y. p (f y)) ys
any-map p f [] = refl
any-map p f (y ∷ ys) = ap (λ (b : Bool). p (f y) || b) (any-map p f ys)

distinct-map : {X Y : Type 0} (same : X → X → Bool) (f : Y → X) (ys : List Y) → are_distinct same (map f ys) ≡ are_distinct (λ a b. same (f a) (f b)) ys
distinct-map same f [] = refl
distinct-map same f (y ∷ ys) = rw (any-map (same (f y)) f ys, distinct-map same f ys) refl

legal_account : (a : Account) (new : Renewed) → new.sequence ≤ 9999 → is_account a ≡ true → is_account (account_with a new) ≡ true
legal_account a new few legal =
    let parts = and_parts (is_number 1 4294967294 a.uid && nat_le a.sequence 9999) (are_grants a.grants) legal in
    let first = and_parts (is_number 1 4294967294 a.uid) (nat_le a.sequence 9999) parts.0 in
    let short : nat_le new.sequence 9999 ≡ true = grind (arith, nat_tests) in
    and_from _ _ (and_from _ _ first.0 short) parts.1

legal_with : (accounts : List Account) (place : ℕ) (new : Renewed) → new.sequence ≤ 9999 → list_all is_account accounts ≡ true → list_all is_account (accounts_with accounts place new) ≡ true
legal_with [] place new few legal = refl
legal_with (a ∷ accounts) zero new few legal =
    let here = and_parts (is_account a) (list_all is_account accounts) legal in
    and_from _ _ (legal_account a new few here.0) here.1
legal_with (a ∷ accounts) (suc place) new few legal =
    let here = and_parts (is_account a) (list_all is_account accounts) legal in
    and_from _ _ here.0 (legal_with accounts place new few here.1)

accounts_legal : (accounts : List Account) (place : ℕ) (new : Renewed) → new.sequence ≤ 9999 → are_accounts accounts ≡ true → are_accounts (accounts_with accounts place new) ≡ true
accounts_legal accounts place new small legal =
    let uids = and_parts _ _ legal in
    let names = and_parts _ _ uids.0 in
    let first = and_parts _ _ names.0 in
    let all = accounts_with accounts place new in
    let few : nat_le (length all) 1024 ≡ true = ap (λ (n : ℕ). nat_le n 1024) (length-with accounts place new) ∙ first.0 in
    let new_names : are_distinct (λ (a b : Account). same_name a.name b.name) all ≡ true = sym (distinct-map same_name (λ (a : Account). a.name) all) ∙ ap (are_distinct same_name) (names_with accounts place new) ∙ distinct-map same_name (λ (a : Account). a.name) accounts ∙ names.1 in
    let new_uids : are_distinct (λ (a b : Account). a.uid == b.uid) all ≡ true = sym (distinct-map ◌==◌ (λ (a : Account). a.uid) all) ∙ ap (are_distinct ◌==◌) (uids_with accounts place new) ∙ distinct-map ◌==◌ (λ (a : Account). a.uid) accounts ∙ uids.1 in
    and_from _ _ (and_from _ _ (and_from _ _ few (legal_with accounts place new small first.1)) new_names) new_uids

pub range_with : (s : Settings) (new : Renewed) → new.sequence ≤ 9999 → IsInRange s → IsInRange (renewed_setup s new)
range_with s new small range = record {
  texts = range.texts;
  workers = range.workers;
  connections = range.connections;
  requests = range.requests;
  tries = range.tries;
  hold = range.hold;
  info = range.info;
  product = range.product;
  accounts = accounts_legal s.accounts new.account new small range.accounts;
}

-- 3. The account, and the others

pub stands_with : (accounts : List Account) (place : ℕ) (new : Renewed) (a : Account) → slice_get accounts place ≡ Some a → slice_get (accounts_with accounts place new) place ≡ Some (account_with a new)
stands_with accounts place new a stands =
    let lt = slice_get_within accounts place a stands in
    let all = accounts_with accounts place new in
    let within : place < length all = omega (arith, lt, length-with accounts place new) in
    let here : get_or accounts place a ≡ a = get_or_from_slice_get accounts place a a stands in
    let same : (place == place) ≡ true = eq-eqb place place refl in
    slice_get-get_or all place a within
    ∙ ap Some (at_with accounts place place new a lt
    ∙ ap (λ (b : Bool). cond b (account_with (get_or accounts place a) new) (get_or accounts place a)) same
    ∙ ap (λ (b : Account). account_with b new) here)

pub others_with : (accounts : List Account) (place : ℕ) (new : Renewed) (n : ℕ) → n ≢ place → slice_get (accounts_with accounts place new) n ≡ slice_get accounts n
others_with accounts place new n apart =
    elim (slice_get_cases accounts n).1 [
      | inl inside ↦
          let lt = inside.1 in
          let a = inside.0 in
          let all = accounts_with accounts place new in
          let within : n < length all = omega (arith, lt, length-with accounts place new) in
          slice_get-get_or all n a within
          ∙ ap Some (at_with accounts place n new a lt ∙ ap (λ (b : Bool). cond b (account_with (get_or accounts n a) new) (get_or accounts n a)) (not_same n place apart))
          ∙ sym (slice_get-get_or accounts n a lt)
      | inr past ↦
          let beyond : length (accounts_with accounts place new) ≤ n = omega (arith, past.0, length-with accounts place new) in
          slice_get_past (accounts_with accounts place new) n beyond ∙ sym past.1
    ]

-- the parts that are put together are in their ranges
pub made_range : (parts made : Settings) (new : Renewed) (slice accounts : List Account) → IsInRange parts → slice ≡ parts.accounts → accounts ≡ accounts_with slice new.account new → made ≡ record parts { accounts = accounts } → new.sequence ≤ 9999 → IsInRange made
made_range parts made new slice accounts range own copied is small =
    let all : accounts ≡ accounts_with parts.accounts new.account new = copied ∙ ap (λ (l : List Account). accounts_with l new.account new) own in
    subst IsInRange (sym (is ∙ ap (λ (l : List Account). record parts { accounts = l }) all)) (range_with parts new small range)
