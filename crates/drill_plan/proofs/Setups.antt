-- The setup of a drill is in its ranges.
use Rattle.std.proofs.Common.{◌≡◌, ℕ, zero, suc, ◌+◌, ◌*◌, ◌<◌, ◌≤◌, Bool, true, false, not, ◌&&◌, List, [], ◌∷◌, ◌++◌, length, Some, refl, sym, ap, subst, ◌∙◌, arith, inl, inr, get_or, lit<, lit≤}
use Rattle.std.specs.Prelude.{codes, nat_le, slice_get, ◌==◌}
use Rattle.std.specs.Str.{bytes_eq}
use Rattle.std.proofs.lemmas.Bool.{and_from, cases_lt}
use Rattle.std.proofs.lemmas.Bool.Decides.{nat_tests}
use Rattle.std.proofs.lemmas.Option.{get_or_from_slice_get, slice_get_within, slice_get-get_or}
use Rattle.std.proofs.lemmas.List.{get_or_append_left, get_or-append-add, length-append}
use Rattle.request_catalogue.specs.TextBytes.{name_bytes}
use Rattle.policy_model.specs.declared.account.Account.{Account}
use Rattle.policy_model.specs.declared.account.Grant.{Grant}
use Rattle.policy_model.specs.Settings.{IsInRange, Settings, are_accounts, are_distinct, are_grants, is_account, is_number, plain_settings, same_name}
use Rattle.drill_plan.specs.DrillSetup.{AreDrillAccounts, AreDrillGrants, IsDrillAccount, IsDrillSetup}
use Rattle.drill_plan.proofs.Users.{with_digit}

grants_in_range : (grants : List Grant) → AreDrillGrants grants → are_grants grants ≡ true
grants_in_range [] are = absurd are
grants_in_range (grant ∷ []) are = let mode = are.1 in rw mode refl
grants_in_range (grant ∷ other ∷ grants) are = absurd are

number_in_range : (low high n : ℕ) → low ≤ n → n ≤ high → is_number low high n ≡ true
number_in_range low high n ge le = grind (arith, nat_tests)

below : (n most : ℕ) → n ≤ most → nat_le n most ≡ true
below n most le = grind (arith, nat_tests)

account_in_range : (n worker : ℕ) (account : Account) → n ≤ 64 → worker < 4 → IsDrillAccount n worker account → is_account account ≡ true
account_in_range n worker account few lt is =
    let uid = is.uid in
    let sequence = is.sequence in
    and_from _ _ (and_from _ _ (number_in_range 1 4294967294 account.uid (omega arith) (omega arith)) (below account.sequence 9999 (omega arith))) (grants_in_range account.grants is.grants)

-- the name of a drill's account
named : (n worker : ℕ) (account : Account) → worker < 4 → IsDrillAccount n worker account → name_bytes account.name ≡ codes "d" ++ (48 + worker) ∷ []
named n worker account lt is = is.name ∙ with_digit (codes "d") worker lt

other_names : (a b : Account) (x y : List ℕ) → name_bytes a.name ≡ x → name_bytes b.name ≡ y → bytes_eq x y ≡ false → same_name a.name b.name ≡ false
other_names a b x y p q differ = ap (λ (bytes : List ℕ). bytes_eq bytes (name_bytes b.name)) p ∙ ap (bytes_eq x) q ∙ differ

other_numbers : (m n x y : ℕ) → m ≡ x → n ≡ y → (x == y) ≡ false → (m == n) ≡ false
other_numbers m n x y p q differ = ap (λ (k : ℕ). k == n) p ∙ ap (λ (k : ℕ). x == k) q ∙ differ

four_distinct : {X : Type 0} (same : X → X → Bool) (a b c d : X) → same a b ≡ false → same a c ≡ false → same a d ≡ false → same b c ≡ false → same b d ≡ false → same c d ≡ false → are_distinct same (a ∷ b ∷ c ∷ d ∷ []) ≡ true
four_distinct same a b c d ab ac ad bc bd cd = rw (ab, ac, ad, bc, bd, cd) refl

four_in_range : (n : ℕ) (a b c d : Account) → n ≤ 64 → IsDrillAccount n 0 a → IsDrillAccount n 1 b → IsDrillAccount n 2 c → IsDrillAccount n 3 d → are_accounts (a ∷ b ∷ c ∷ d ∷ []) ≡ true
four_in_range n a b c d few at_a at_b at_c at_d =
    let name_a = named n 0 a (lit< tt) at_a in
    let name_b = named n 1 b (lit< tt) at_b in
    let name_c = named n 2 c (lit< tt) at_c in
    let name_d = named n 3 d (lit< tt) at_d in
    let each : is_account a && (is_account b && (is_account c && (is_account d && true))) ≡ true =
    and_from _ _ (account_in_range n 0 a few (lit< tt) at_a) (and_from _ _ (account_in_range n 1 b few (lit< tt) at_b) (and_from _ _ (account_in_range n 2 c few (lit< tt) at_c) (and_from _ _ (account_in_range n 3 d few (lit< tt) at_d) refl))) in
    let names : are_distinct (λ (x y : Account). same_name x.name y.name) (a ∷ b ∷ c ∷ d ∷ []) ≡ true =
    four_distinct (λ (x y : Account). same_name x.name y.name) a b c d (other_names a b _ _ name_a name_b refl) (other_names a c _ _ name_a name_c refl) (other_names a d _ _ name_a name_d refl) (other_names b c _ _ name_b name_c refl) (other_names b d _ _ name_b name_d refl) (other_names c d _ _ name_c name_d refl) in
    let numbers : are_distinct (λ (x y : Account). x.uid == y.uid) (a ∷ b ∷ c ∷ d ∷ []) ≡ true =
    four_distinct (λ (x y : Account). x.uid == y.uid) a b c d (other_numbers a.uid b.uid 2000 2001 at_a.uid at_b.uid refl) (other_numbers a.uid c.uid 2000 2002 at_a.uid at_c.uid refl) (other_numbers a.uid d.uid 2000 2003 at_a.uid at_d.uid refl)
    (other_numbers b.uid c.uid 2001 2002 at_b.uid at_c.uid refl) (other_numbers b.uid d.uid 2001 2003 at_b.uid at_d.uid refl) (other_numbers c.uid d.uid 2002 2003 at_c.uid at_d.uid refl) in
    and_from _ _ (and_from _ _ each names) numbers

accounts_in_range : (n : ℕ) (accounts : List Account) → n ≤ 64 → AreDrillAccounts n accounts → are_accounts accounts ≡ true
accounts_in_range n [] few are = absurd (omega (arith, are.four))
accounts_in_range n (a ∷ []) few are = absurd (omega (arith, are.four))
accounts_in_range n (a ∷ b ∷ []) few are = absurd (omega (arith, are.four))
accounts_in_range n (a ∷ b ∷ c ∷ []) few are = absurd (omega (arith, are.four))
accounts_in_range n (a ∷ b ∷ c ∷ d ∷ []) few are = four_in_range n a b c d few (are.each 0 a refl) (are.each 1 b refl) (are.each 2 c refl) (are.each 3 d refl)
accounts_in_range n (a ∷ b ∷ c ∷ d ∷ e ∷ accounts) few are = absurd (omega (arith, are.four))

-- the parts of a drill's setup are in their ranges
pub drill_in_range : (n : ℕ) (setup : Settings) → 1 ≤ n → n ≤ 64 → IsDrillSetup n setup → IsInRange setup
drill_in_range n setup some few is = subst IsInRange (sym is.plain) (record {
  texts = refl;
  workers = (lit≤ tt, lit≤ tt);
  connections = (omega arith, omega arith);
  requests = (lit≤ tt, lit≤ tt);
  tries = (lit≤ tt, lit≤ tt);
  hold = (lit≤ tt, lit≤ tt);
  info = refl;
  product = omega arith;
  accounts = accounts_in_range n setup.accounts few is.accounts;
})

-- one account more
pub accounts-more : (n worker : ℕ) (accounts after : List Account) (account : Account) → length accounts ≡ worker → ((k : ℕ) (a : Account) → slice_get accounts k ≡ Some a → IsDrillAccount n k a) → IsDrillAccount n worker account → after ≡ accounts ++ account ∷ []
    → (k : ℕ) (a : Account) → slice_get after k ≡ Some a → IsDrillAccount n k a
accounts-more n worker accounts after account len each is after_is k a stands =
    let read = get_or_from_slice_get after k a a stands in
    let within : k < length after = slice_get_within after k a stands in
    let longer : length after ≡ worker + 1 = ap length after_is ∙ length-append accounts (account ∷ []) ∙ omega arith in
    elim (cases_lt k worker) [
      | inl lt ↦
          let inside : k < length accounts = omega arith in
          each k a (slice_get-get_or accounts k a inside ∙ ap Some (sym (get_or_append_left accounts (account ∷ []) a k inside) ∙ ap (λ (xs : List Account). get_or xs k a) (sym after_is) ∙ read))
      | inr ge ↦
          let last : k ≡ worker = omega arith in
          let place : k ≡ length accounts + 0 = omega arith in
          let same : account ≡ a = sym (get_or-append-add accounts (account ∷ []) 0 a) ∙ ap (λ (i : ℕ). get_or (accounts ++ account ∷ []) i a) (sym place) ∙ ap (λ (xs : List Account). get_or xs k a) (sym after_is) ∙ read in
          subst (λ (x : Account). IsDrillAccount n k x) same (subst (λ (w : ℕ). IsDrillAccount n w account) (sym last) is)
    ]
