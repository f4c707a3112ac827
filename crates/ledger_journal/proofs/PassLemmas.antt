-- Which replies the setup has already.
use Rattle.std.proofs.Common.{◌≡◌, ◌≢◌, ℕ, zero, suc, ◌+◌, ◌-◌, ◌≤◌, ◌<◌, Bool, true, false, ◌&&◌, ◌||◌, cond, nat_eq, List, [], ◌∷◌, ◌++◌, drop, get_or, length, slice_get, set, reverse, None, Some, refl, sym, ap, ◌∙◌, arith}
use Rattle.std.specs.List.{AllByRecursion, list_any}
use Rattle.std.proofs.lemmas.Bool.Decides.{nat_tests}
use Rattle.std.proofs.lemmas.List.{drop_more, get_or-set_other, get_or-set_same, length-set, reverse-append}
use Rattle.policy_model.specs.declared.account.Account.{Account}
use Rattle.policy_model.specs.Settings.{Settings}
use Rattle.ledger_journal.specs.declared.login.Login.{Login}
use Rattle.ledger_journal.specs.Logins.{has_stored, is_number, is_passed, is_stored, left_of}
use Rattle.ledger_journal.specs.Reads.{AreSeen}

pub none_stored : (setup : Settings) (logins : List Login) → list_any (is_stored setup None) logins ≡ false
none_stored setup [] = refl
none_stored setup (l ∷ logins) = none_stored setup logins

-- no reply is passed over that is of no account
pub nobody_passed : (setup : Settings) (login : Login) (later : List Login) → login.account ≡ None → is_passed setup login later ≡ false
nobody_passed setup login later none = ap (λ a. list_any (is_stored setup a) (login ∷ later)) none ∙ none_stored setup (login ∷ later)

or_false : (b : Bool) → (b || false) ≡ b
or_false true = refl
or_false false = refl

or_comm : (a b : Bool) → (a || b) ≡ (b || a)
or_comm true true = refl
or_comm true false = refl
or_comm false true = refl
or_comm false false = refl

-- one reply more is looked at, from the last to the first
pub seen_on : (setup : Settings) (later : List Login) (login : Login) (number : ℕ) (account : Account) (old : List Bool) (was : Bool) → AreSeen setup later old → login.account ≡ Some number → slice_get setup.accounts number ≡ Some account → number < length setup.accounts → was ≡ get_or old number was → AreSeen setup (login ∷ later) (set old number (was || nat_eq account.password login.password))
seen_on setup later login number account old was seen of stands within was_is = record { same = length-set old number (was || nat_eq account.password login.password) ∙ seen.same; each = each } where
  in_range : number < length old
  in_range = omega (arith, within, seen.same)

  each : (n : ℕ) (d : Bool) → n < length setup.accounts → get_or (set old number (was || nat_eq account.password login.password)) n d ≡ (is_stored setup (Some n) login || list_any (is_stored setup (Some n)) later)
  each n d lt = go (nat_eq number n) refl where
    stored : is_stored setup (Some n) login ≡ (nat_eq number n && has_stored (slice_get setup.accounts n) login.password)
    stored = ap (λ a. is_number n a && has_stored (slice_get setup.accounts n) login.password) of

    go : (b : Bool) → nat_eq number n ≡ b → get_or (set old number (was || nat_eq account.password login.password)) n d ≡ (is_stored setup (Some n) login || list_any (is_stored setup (Some n)) later)
    go true is =
        let here : number ≡ n = grind (arith, nat_tests, is) in
        let new : get_or (set old number (was || nat_eq account.password login.password)) n d ≡ (was || nat_eq account.password login.password) = ap (λ m. get_or (set old number (was || nat_eq account.password login.password)) m d) (sym here) ∙ get_or-set_same old number (was || nat_eq account.password login.password) d in_range in
        let known : was ≡ list_any (is_stored setup (Some n)) later = was_is ∙ seen.each number was within ∙ ap (λ m. list_any (is_stored setup (Some m)) later) here in
        let own : is_stored setup (Some n) login ≡ nat_eq account.password login.password = stored ∙ ap (λ b. b && has_stored (slice_get setup.accounts n) login.password) is ∙ ap (λ m. has_stored (slice_get setup.accounts m) login.password) (sym here) ∙ ap (λ a. has_stored a login.password) stands in
        new ∙ or_comm was (nat_eq account.password login.password) ∙ ap (λ b. b || was) (sym own) ∙ ap (λ b. is_stored setup (Some n) login || b) known
    go false is =
        let apart : n ≢ number = grind (arith, nat_tests, is) in
        get_or-set_other old number n (was || nat_eq account.password login.password) d apart
        ∙ seen.each n d lt
        ∙ ap (λ b. b || list_any (is_stored setup (Some n)) later) (sym (stored ∙ ap (λ b. b && has_stored (slice_get setup.accounts n) login.password) is))

pub passed_is : (setup : Settings) (later : List Login) (login : Login) (number : ℕ) (new : List Bool) (d : Bool) → AreSeen setup (login ∷ later) new → login.account ≡ Some number → number < length setup.accounts → get_or new number d ≡ is_passed setup login later
passed_is setup later login number new d seen of within = seen.each number d within ∙ ap (λ a. list_any (is_stored setup a) (login ∷ later)) (sym of)

-- the reply in front of those that were looked at
pub parts_at : (logins : List Login) (i : ℕ) (d : Login) → 0 < i → i ≤ length logins → get_or logins (i - 1) d ∷ drop i logins ≡ drop (i - 1) logins
parts_at logins i d some le =
    let next : i - 1 + 1 ≡ i = omega (arith, some) in
    sym (drop_more logins (i - 1) d (omega (arith, some, le)) ∙ ap (λ n. get_or logins (i - 1) d ∷ drop n logins) next)

-- the replies that are left, from the last to the first
pub left_on : (setup : Settings) (logins : List Login) (i : ℕ) (d : Login) (passed : Bool) (left : List Login) → 0 < i → i ≤ length logins → passed ≡ is_passed setup (get_or logins (i - 1) d) (drop i logins) → reverse left ≡ left_of setup (drop i logins) → reverse (cond passed left (left ++ get_or logins (i - 1) d ∷ [])) ≡ left_of setup (drop (i - 1) logins)
left_on setup logins i d passed left some le passed_as so_far =
    go passed
    ∙ ap (λ b. cond b (left_of setup (drop i logins)) (get_or logins (i - 1) d ∷ left_of setup (drop i logins))) passed_as
    ∙ ap (left_of setup) (parts_at logins i d some le)
  where
    go : (b : Bool) → reverse (cond b left (left ++ get_or logins (i - 1) d ∷ [])) ≡ cond b (left_of setup (drop i logins)) (get_or logins (i - 1) d ∷ left_of setup (drop i logins))
    go true = so_far
    go false = reverse-append left (get_or logins (i - 1) d ∷ []) ∙ ap (λ l. get_or logins (i - 1) d ∷ l) so_far

-- what holds of each element holds of the one at a place, and of those that are left
pub all_at : {X : Type 0} (P : X → Type 0) (xs : List X) (i : ℕ) (d : X) → i < length xs → AllByRecursion P xs → P (get_or xs i d)
all_at P [] i d lt all = absurd (omega (arith, lt))
all_at P (x ∷ xs) zero d lt all = all.0
all_at P (x ∷ xs) (suc i) d lt all = all_at P xs i d (omega (arith, lt)) all.1

pub all_left : (P : Login → Type 0) (setup : Settings) (logins : List Login) → AllByRecursion P logins → AllByRecursion P (left_of setup logins)
all_left P setup [] all = tt
all_left P setup (l ∷ logins) all = go (is_passed setup l logins) (all_left P setup logins all.1) where
  go : (b : Bool) → AllByRecursion P (left_of setup logins) → AllByRecursion P (cond b (left_of setup logins) (l ∷ left_of setup logins))
  go true rest = rest
  go false rest = (all.0, rest)
