-- Accounts are found by their names and by their numbers alike.
use Rattle.std.proofs.Common.{◌≡◌, ◌≢◌, ℕ, zero, suc, ◌+◌, ◌<◌, Bool, true, false, not, ◌&&◌, ◌||◌, cond, nat_le, nat_lt, List, [], ◌∷◌, length, slice_get, Option, Some, None, refl, sym, ap, subst, ◌∙◌, arith}
use Rattle.std.specs.Prelude.{position, ◌==◌}
use Rattle.std.specs.List.{find, list_all, list_any, position_or_len}
use Rattle.std.proofs.lemmas.Bool.{and_parts, eqb-true, not-true}
use Rattle.std.proofs.lemmas.Bool.Decides.{nat_tests}
use Rattle.std.proofs.lemmas.Option.{slice_get_within}
use Rattle.request_catalogue.specs.declared.texts.Name.{Name}
use Rattle.policy_model.specs.declared.account.Account.{Account}
use Rattle.policy_model.specs.declared.event.Event.{Event}
use Rattle.policy_model.specs.declared.phase.Phase.TheVariants.{Challenged}
use Rattle.policy_model.specs.Legal.{IsLegal}
use Rattle.policy_model.specs.Logins.{account_of, challenged_user, holder_of, was_decoyed}
use Rattle.policy_model.specs.Phases.{phase_of}
use Rattle.policy_model.specs.Settings.{IsInRange, Settings, account_number, are_distinct, is_account, same_name}
use Rattle.policy_model.specs.Cases.{is_holder}
use Rattle.session_laws.specs.Numbered.{HoldsNone, HoldsOnly, IsNumbered}
use Rattle.session_laws.specs.Tied.{IsTied}
use Rattle.session_laws.proofs.Holders.{decoyed_holds_none, legal_tied, unchallenged_holds_none}
use Rattle.session_laws.proofs.Permits.{found_name, same_name-same, same_some}

-- 1. Places in a list

find_at : {X : Type 0} (p : X → Bool) (xs : List X) → find p xs ≡ slice_get xs (position_or_len p xs)
find_at p [] = refl
find_at {X} p (x ∷ xs) = go (p x) (find_at p xs) where
  more : suc (position_or_len p xs) ≡ 1 + position_or_len p xs
  more = omega arith

  go : (b : Bool) → find p xs ≡ slice_get xs (position_or_len p xs) → cond b (Some x) (find p xs) ≡ slice_get (x ∷ xs) (cond (not b) (1 + position_or_len p xs) 0)
  go true h = refl
  go false h = h ∙ ap (slice_get (x ∷ xs)) more

position_is : {X : Type 0} (p : X → Bool) (xs : List X) → position_or_len p xs < length xs → position p xs ≡ Some (position_or_len p xs)
position_is p xs lt =
    let test : nat_lt (position_or_len p xs) (length xs) ≡ true = grind (arith, nat_tests, lt) in
    ap (λ b. cond b (Some (position_or_len p xs)) None) test

position_found : {X : Type 0} (p : X → Bool) (xs : List X) (n : ℕ) → position p xs ≡ Some n → (position_or_len p xs ≡ n) × (position_or_len p xs < length xs)
position_found p xs n h = go (nat_lt (position_or_len p xs) (length xs)) refl h where
  go : (b : Bool) → nat_lt (position_or_len p xs) (length xs) ≡ b → cond b (Some (position_or_len p xs)) None ≡ Some n → (position_or_len p xs ≡ n) × (position_or_len p xs < length xs)
  go true is h = (cc, grind (arith, nat_tests, is))
  go false is h = absurd cc

stands_below : {X : Type 0} (xs : List X) (n : ℕ) → n < length xs → (x : X) × (slice_get xs n ≡ Some x)
stands_below [] n lt = absurd (omega (arith, lt))
stands_below (x ∷ xs) zero lt = (x, refl)
stands_below (x ∷ xs) (suc n) lt = stands_below xs n (omega (arith, lt))

-- 2. The number of a name

named_at : (setup : Settings) (user : Name) (account : Account) → account_of setup user ≡ Some account → position_or_len (λ a. same_name a.name user) setup.accounts < length setup.accounts → IsNumbered setup user (position_or_len (λ a. same_name a.name user) setup.accounts) account
named_at setup user account found lt = record {
  number_is = position_is (λ a. same_name a.name user) setup.accounts lt;
  found = found;
  stands = sym (find_at (λ a. same_name a.name user) setup.accounts) ∙ found;
  below = lt;
  named = found_name setup user account found;
}

-- an account that is found has a number
pub numbered_by_name : (setup : Settings) (user : Name) (account : Account) → account_of setup user ≡ Some account → (number : ℕ) × IsNumbered setup user number account
numbered_by_name setup user account found =
    let stands : slice_get setup.accounts (position_or_len (λ a. same_name a.name user) setup.accounts) ≡ Some account = sym (find_at (λ a. same_name a.name user) setup.accounts) ∙ found in
    (position_or_len (λ a. same_name a.name user) setup.accounts, named_at setup user account found (slice_get_within setup.accounts (position_or_len (λ a. same_name a.name user) setup.accounts) account stands))

-- a number that is given is that of an account
pub numbered_by_number : (setup : Settings) (user : Name) (number : ℕ) → account_number setup user ≡ Some number → (account : Account) × IsNumbered setup user number account
numbered_by_number setup user number h =
    let p = position_found (λ a. same_name a.name user) setup.accounts number h in
    let s = stands_below setup.accounts (position_or_len (λ a. same_name a.name user) setup.accounts) p.1 in
    (s.0, subst (λ n. IsNumbered setup user n s.0) p.0 (named_at setup user s.0 (find_at (λ a. same_name a.name user) setup.accounts ∙ s.1) p.1))

-- a name without an account has no number
pub no_number : (setup : Settings) (user : Name) → account_of setup user ≡ None → account_number setup user ≡ None
no_number setup user none = go (account_number setup user) refl where
  go : (o : Option ℕ) → account_number setup user ≡ o → account_number setup user ≡ None
  go None is = is
  go (Some number) is =
      let n = numbered_by_number setup user number is in
      let wrong : None ≡ Some n.0 = sym none ∙ n.1.found in
      absurd cc

-- 3. Names differ, so each account has its own place as its number

any_at : {X : Type 0} (p : X → Bool) (xs : List X) (n : ℕ) (x : X) → slice_get xs n ≡ Some x → list_any p xs ≡ false → p x ≡ false
any_at p [] n x h none = absurd cc
any_at p (y ∷ ys) zero x h none = let same : y ≡ x = cc in subst (λ z. p z ≡ false) same (first (p y) (list_any p ys) none) where
  first : (a b : Bool) → (a || b) ≡ false → a ≡ false
  first true b h = absurd cc
  first false b h = refl
any_at p (y ∷ ys) (suc n) x h none = any_at p ys n x h (rest (p y) (list_any p ys) none) where
  rest : (a b : Bool) → (a || b) ≡ false → b ≡ false
  rest true b h = absurd cc
  rest false b h = h

first_at : {X : Type 0} (same : X → X → Bool) → ((x : X) → same x x ≡ true) → (xs : List X) (n : ℕ) (a : X) → are_distinct same xs ≡ true → slice_get xs n ≡ Some a → position_or_len (λ x. same x a) xs ≡ n
first_at same refl_is [] n a d h = absurd cc
first_at same refl_is (x ∷ xs) zero a d h =
    let here : x ≡ a = cc in
    ap (λ b. cond (not b) (1 + position_or_len (λ y. same y a) xs) 0) (subst (λ z. same x z ≡ true) here (refl_is x))
first_at same refl_is (x ∷ xs) (suc n) a d h =
    let both = and_parts (not (list_any (same x) xs)) (are_distinct same xs) d in
    let other : same x a ≡ false = any_at (same x) xs n a h (not-true (list_any (same x) xs) both.0) in
    let rest : position_or_len (λ y. same y a) xs ≡ n = first_at same refl_is xs n a both.1 h in
    ap (λ b. cond (not b) (1 + position_or_len (λ y. same y a) xs) 0) other ∙ omega (arith, rest)

names_differ : (setup : Settings) → IsInRange setup → are_distinct (λ (a b : Account). same_name a.name b.name) setup.accounts ≡ true
names_differ setup r =
    let few = nat_le (length setup.accounts) 1024 in
    let each = list_all is_account setup.accounts in
    let names = are_distinct (λ (a b : Account). same_name a.name b.name) setup.accounts in
    let uids = are_distinct (λ (a b : Account). a.uid == b.uid) setup.accounts in
    (and_parts (few && each) names (and_parts ((few && each) && names) uids r.accounts).0).1

-- the account at a number has that number
pub number_at : (setup : Settings) (number : ℕ) (account : Account) → IsInRange setup → slice_get setup.accounts number ≡ Some account → account_number setup account.name ≡ Some number
number_at setup number account r stands =
    let place : position_or_len (λ (a : Account). same_name a.name account.name) setup.accounts ≡ number = first_at (λ (a b : Account). same_name a.name b.name) (λ a. same_name-same a.name) setup.accounts number account (names_differ setup r) stands in
    let lt = slice_get_within setup.accounts number account stands in
    position_is (λ (a : Account). same_name a.name account.name) setup.accounts (omega (arith, place, lt)) ∙ ap Some place

-- 4. What a session holds, by numbers

pub holds_is : (session : ℕ) (o : Option ℕ) → is_holder session o ≡ true → o ≡ Some session
holds_is session None h = absurd cc
holds_is session (Some holder) h = ap Some (eqb-true holder session h)

not_holder : (session : ℕ) (o : Option ℕ) → o ≢ Some session → is_holder session o ≡ false
not_holder session o h = go (is_holder session o) refl where
  go : (b : Bool) → is_holder session o ≡ b → is_holder session o ≡ false
  go true is = absurd (h (holds_is session o is))
  go false is = is

-- a session that is challenged for the user of an account holds no other
pub holds_only : (setup : Settings) (journal : List Event) (session number : ℕ) (user : Name) → IsInRange setup → IsLegal setup journal → challenged_user journal session ≡ Some user → account_number setup user ≡ Some number → HoldsOnly setup journal session number
holds_only setup journal session number user r legal challenged is = record {
  only = λ n account stands holds.
      let t : IsTied setup journal account.name session = (legal_tied setup journal legal).holders account.name session (holds_is session (holder_of journal account.name) holds) in
      let same : account.name ≡ user = same_some account.name user (sym t.challenged ∙ challenged) in
      same_some n number (sym (number_at setup n account r stands) ∙ ap (account_number setup) same ∙ is);
}

-- one that was challenged by a decoy holds none, and one that isn't in Challenged
pub decoyed_holds : (setup : Settings) (journal : List Event) (session : ℕ) → IsLegal setup journal → was_decoyed journal session ≡ true → HoldsNone journal session
decoyed_holds setup journal session legal decoyed = record { none = λ user. not_holder session (holder_of journal user) (decoyed_holds_none setup journal legal session decoyed user) }

pub unchallenged_holds : (setup : Settings) (journal : List Event) (session : ℕ) → IsLegal setup journal → phase_of journal session ≢ Challenged → HoldsNone journal session
unchallenged_holds setup journal session legal other = record { none = λ user. not_holder session (holder_of journal user) (unchallenged_holds_none setup journal legal session other user) }
