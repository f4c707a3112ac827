-- A ledger that stands for a journal, and one event more.
use Rattle.std.proofs.Common.{◌≡◌, ◌≢◌, ℕ, zero, suc, ◌<◌, ◌≤◌, Bool, true, false, not, ◌&&◌, ◌||◌, cond, List, [], ◌∷◌, ◌++◌, length, map, get_or, nat_le, set, Some, None, slice_get, refl, sym, ap, subst, ◌∙◌, arith}
use Rattle.std.specs.List.{list_all, list_any}
use Rattle.std.proofs.lemmas.Bool.{false≢true}
use Rattle.std.proofs.lemmas.Bool.Decides.{nat_tests}
use Rattle.std.proofs.lemmas.List.{get_or-set_same, length-map, set-set}
use Rattle.std.proofs.lemmas.Slice.Eq.{bytes_eq-Decides}
use Rattle.request_catalogue.proofs.TextLemmas.{same_from_name_bytes}
use Rattle.request_catalogue.specs.declared.texts.Name.{Name}
use Rattle.request_catalogue.specs.TextBytes.{name_bytes}
use Rattle.policy_model.specs.declared.account.Account.{Account}
use Rattle.policy_model.specs.declared.event.Ask.{Ask}
use Rattle.policy_model.specs.declared.event.Ask.TheVariants as asks
use Rattle.policy_model.specs.declared.event.Event.{Event}
use Rattle.policy_model.specs.Asks.{accepts, ends_session, gives_up, is_permit, moment_of, reserves, value_of, is_user}
use Rattle.policy_model.specs.Cases.{is_challenge_for, is_holder}
use Rattle.policy_model.specs.Logins.{challenged_user, reply_for}
use Rattle.policy_model.specs.Phases.{is_over}
use Rattle.policy_model.specs.Settings.{IsInRange, Settings, are_distinct, is_account, same_name}
use Rattle.otp_ledger.specs.Accounts.{AccountState, LedgerParts, accepting, holding, ledger_holding, ledger_releasing, ledger_spending, no_state, releasing, state_at}
use Rattle.otp_ledger.specs.Standing.{HoldsAtMost, StandsFor, StandsLeft, StandsReplied, StandsTaken, state_by}
use Rattle.otp_ledger.proofs.EventLemmas.{accepted_leaves, quiet, state_left, state_quiet, state_replied, state_taken, state_unheld}
use Rattle.otp_ledger.proofs.StandingLemmas.{some_there, stands_at}

-- 1. The accounts of a setup have different names

both_true : (a b : Bool) → (a && b) ≡ true → (a ≡ true) × (b ≡ true)
both_true true b h = (refl, h)
both_true false b h = absurd cc

neither_true : (a b : Bool) → (a || b) ≡ false → (a ≡ false) × (b ≡ false)
neither_true false b h = (refl, h)
neither_true true b h = absurd cc

is_false : (b : Bool) → not b ≡ true → b ≡ false
is_false true h = absurd cc
is_false false h = refl

any_at : {X : Type 0} (p : X → Bool) (xs : List X) (n : ℕ) (x : X) → slice_get xs n ≡ Some x → list_any p xs ≡ false → p x ≡ false
any_at p [] n x h none = absurd cc
any_at p (y ∷ ys) zero x h none = let same : y ≡ x = cc in subst (λ z. p z ≡ false) same (neither_true (p y) (list_any p ys) none).0
any_at p (y ∷ ys) (suc n) x h none = any_at p ys n x h (neither_true (p y) (list_any p ys) none).1

distinct_at : {X : Type 0} (same : X → X → Bool) → ((a b : X) → same a b ≡ same b a) → (xs : List X) (m n : ℕ) (a b : X) → are_distinct same xs ≡ true → slice_get xs m ≡ Some a → slice_get xs n ≡ Some b → m ≢ n → same a b ≡ false
distinct_at same turn [] m n a b d p q ne = absurd cc
distinct_at same turn (x ∷ xs) zero zero a b d p q ne = absurd (ne refl)
distinct_at same turn (x ∷ xs) zero (suc n) a b d p q ne =
    let both = both_true (not (list_any (same x) xs)) (are_distinct same xs) d in
    let first : x ≡ a = cc in
    subst (λ z. same z b ≡ false) first (any_at (same x) xs n b q (is_false (list_any (same x) xs) both.0))
distinct_at same turn (x ∷ xs) (suc m) zero a b d p q ne =
    let both = both_true (not (list_any (same x) xs)) (are_distinct same xs) d in
    let first : x ≡ b = cc in
    turn a b ∙ subst (λ z. same z a ≡ false) first (any_at (same x) xs m a p (is_false (list_any (same x) xs) both.0))
distinct_at same turn (x ∷ xs) (suc m) (suc n) a b d p q ne =
    let both = both_true (not (list_any (same x) xs)) (are_distinct same xs) d in
    distinct_at same turn xs m n a b both.1 p q (λ e. ne (ap suc e))

same_from : (a b : Name) → same_name a b ≡ true → a ≡ b
same_from a b h = same_from_name_bytes a b ((bytes_eq-Decides (name_bytes a) (name_bytes b)).0 h)

same_self : (a : Name) → same_name a a ≡ true
same_self a = (bytes_eq-Decides (name_bytes a) (name_bytes a)).1 refl

same_turn : (a b : Name) → same_name a b ≡ same_name b a
same_turn a b = go (same_name a b) refl (same_name b a) refl where
  go : (x : Bool) → same_name a b ≡ x → (y : Bool) → same_name b a ≡ y → same_name a b ≡ same_name b a
  go true p true q = p ∙ sym q
  go false p false q = p ∙ sym q
  go true p false q = let e : a ≡ b = same_from a b p in absurd (false≢true (sym q ∙ ap (λ (n : Name). same_name b n) e ∙ same_self b))
  go false p true q = let e : b ≡ a = same_from b a q in absurd (false≢true (sym p ∙ ap (λ (n : Name). same_name a n) e ∙ same_self a))

names_differ : (setup : Settings) (m n : ℕ) (a b : Account) → IsInRange setup → slice_get setup.accounts m ≡ Some a → slice_get setup.accounts n ≡ Some b → m ≢ n → same_name a.name b.name ≡ false
names_differ setup m n a b range p q ne =
    let uids = both_true _ _ range.accounts in
    let names = both_true _ _ uids.0 in
    distinct_at (λ (x y : Account). same_name x.name y.name) (λ x y. same_turn x.name y.name) setup.accounts m n a b names.1 p q ne

-- a setup has few accounts
pub accounts_few : (setup : Settings) → IsInRange setup → length setup.accounts ≤ 1024
accounts_few setup range =
    let uids = both_true _ _ range.accounts in
    let names = both_true _ _ uids.0 in
    let few : nat_le (length setup.accounts) 1024 ≡ true = (both_true _ _ names.0).0 in
    grind (arith, nat_tests, few)

-- the accounts of a setup are accounts by themselves
pub accounts_legal : (setup : Settings) → IsInRange setup → list_all is_account setup.accounts ≡ true
accounts_legal setup range =
    let uids = both_true _ _ range.accounts in
    let names = both_true _ _ uids.0 in
    (both_true _ _ names.0).1

-- 2. A list of which one element changes

map_same : {X Y : Type 0} (f g : X → Y) (xs : List X) → ((m : ℕ) (y : X) → slice_get xs m ≡ Some y → g y ≡ f y) → map g xs ≡ map f xs
map_same f g [] same = refl
map_same f g (y ∷ ys) same = ap (λ z. z ∷ map g ys) (same 0 y refl) ∙ ap (λ zs. f y ∷ zs) (map_same f g ys (λ m z h. same (suc m) z h))

map_changed : {X Y : Type 0} (f g : X → Y) (xs : List X) (n : ℕ) (x : X) → slice_get xs n ≡ Some x → ((m : ℕ) (y : X) → slice_get xs m ≡ Some y → m ≢ n → g y ≡ f y) → map g xs ≡ set (map f xs) n (g x)
map_changed f g [] n x h same = absurd cc
map_changed f g (y ∷ ys) zero x h same =
    let here : y ≡ x = cc in
    ap (λ z. g z ∷ map g ys) here ∙ ap (λ zs. g x ∷ zs) (map_same f g ys (λ m z p. same (suc m) z p (λ e. absurd (omega (arith, e)))))
map_changed f g (y ∷ ys) (suc n) x h same =
    ap (λ z. z ∷ map g ys) (same 0 y refl (λ e. absurd (omega (arith, e))))
    ∙ ap (λ zs. f y ∷ zs) (map_changed f g ys n x h (λ m z p ne. same (suc m) z p (λ e. ne (omega (arith, e)))))

-- 3. One event more

-- a ledger of which one account changes as the event changes it
one_changes : (l : LedgerParts) (journal : List Event) (e : Event) (account : ℕ) (a : Account) (after : AccountState → AccountState) → StandsFor l journal → slice_get l.setup.accounts account ≡ Some a → state_by (journal ++ e ∷ []) a ≡ after (state_by journal a) → ((m : ℕ) (b : Account) → slice_get l.setup.accounts m ≡ Some b → m ≢ account → state_by (journal ++ e ∷ []) b ≡ state_by journal b) → set l.accounts account (after (state_at l account)) ≡ map (state_by (journal ++ e ∷ [])) l.setup.accounts
one_changes l journal e account a after st place own others =
    ap (λ xs. set xs account (after (state_at l account))) st.accounts
    ∙ ap (set (map (state_by journal) l.setup.accounts) account) (ap after (stands_at l journal account a st place) ∙ sym own)
    ∙ sym (map_changed (state_by journal) (state_by (journal ++ e ∷ [])) l.setup.accounts account a place others)

-- a CHALLENGE for one user is for no other
other_challenge : (ask : Ask) (p q : Bool) (a b : Name) → same_name a b ≡ false → ((is_challenge_for a ask && p) && q) ≡ true → ((is_challenge_for b ask && p) && q) ≡ false
other_challenge (asks.Challenge name now) p q a b apart h =
    let name_is : name ≡ a = same_from name a (both_true _ _ (both_true _ _ h).0).0 in
    ap (λ x. (x && p) && q) (ap (λ (n : Name). same_name n b) name_is ∙ apart)
other_challenge _ p q a b apart h = absurd cc

pub stands_taken : (l : LedgerParts) (account session now : ℕ) → IsInRange l.setup → StandsTaken l account session now (ledger_holding l account session now)
stands_taken l account session now range = record { by_journal = λ journal e a st place taken own at live. record { accounts = go journal e a st place taken own at (subst (λ s. is_over journal s ≡ false) (sym own) live) } } where
  go : (journal : List Event) (e : Event) (a : Account) → StandsFor l journal → slice_get l.setup.accounts account ≡ Some a → reserves a.name e ≡ true → e.session ≡ session → moment_of e.ask ≡ now → is_over journal e.session ≡ false → set l.accounts account (holding (state_at l account) session now) ≡ map (state_by (journal ++ e ∷ [])) l.setup.accounts
  go journal e a st place taken own at live =
      one_changes l journal e account a (λ s. holding s session now) st place
      (state_taken journal e a taken live ∙ ap (λ s. holding (state_by journal a) s (moment_of e.ask)) own ∙ ap (holding (state_by journal a) session) at)
      (λ m b there ne. state_quiet journal e b (other_challenge e.ask (is_permit e.decision) _ a.name b.name (names_differ l.setup account m a b range place there (λ e. ne (sym e))) taken) (quiet a.name e taken))

within : {X : Type 0} (xs : List X) (n : ℕ) (x : X) → slice_get xs n ≡ Some x → n < length xs
within [] n x h = absurd cc
within (y ∷ ys) zero x h = omega arith
within (y ∷ ys) (suc n) x h = let lt = within ys n x h in omega arith

as_many : (l : LedgerParts) (journal : List Event) → StandsFor l journal → length l.accounts ≡ length l.setup.accounts
as_many l journal st = ap length st.accounts ∙ length-map l.setup.accounts (state_by journal)

-- another account isn't held by the session
unheld : (l : LedgerParts) (journal : List Event) (session account m : ℕ) (b : Account) → StandsFor l journal → HoldsAtMost l session account → slice_get l.setup.accounts m ≡ Some b → m ≢ account → is_holder session (state_by journal b).holder ≡ false
unheld l journal session account m b st most there ne = go (is_holder session (state_by journal b).holder) refl where
  lt : m < length l.accounts
  lt = let inside = within l.setup.accounts m b there in omega (arith, inside, as_many l journal st)

  go : (h : Bool) → is_holder session (state_by journal b).holder ≡ h → is_holder session (state_by journal b).holder ≡ false
  go false h = h
  go true h = absurd (ne (most.at_most m lt (ap (λ s. is_holder session s.holder) (stands_at l journal m b st there) ∙ h)))

no_acceptance : (journal : List Event) (e : Event) (user : Name) → accepts e ≡ false → reply_for user (record { before = journal; event = e }) ≡ None
no_acceptance journal e user h = ap (λ b. cond (b && is_user user (challenged_user journal e.session)) (Some (value_of e.decision)) None) h

pub stands_left : (l : LedgerParts) (account session : ℕ) → account < length l.accounts → StandsLeft l account session (ledger_releasing l account session)
stands_left l account session lt = record { by_journal = λ journal e st unreplied leaves own most. record { accounts = go journal e st unreplied leaves own (subst (λ s. HoldsAtMost l s account) (sym own) most) } } where
  go : (journal : List Event) (e : Event) → StandsFor l journal → accepts e ≡ false → (gives_up e || ends_session e) ≡ true → e.session ≡ session → HoldsAtMost l e.session account → set l.accounts account (releasing (state_at l account) session) ≡ map (state_by (journal ++ e ∷ [])) l.setup.accounts
  go journal e st unreplied leaves own most =
      let a = some_there l.setup.accounts account (omega (arith, lt, as_many l journal st)) in
      one_changes l journal e account a.0 (λ s. releasing s session) st a.1
      (state_left journal e a.0 leaves unreplied ∙ ap (releasing (state_by journal a.0)) own)
      (λ m b there ne. state_unheld journal e b leaves (no_acceptance journal e b.name unreplied) (unheld l journal e.session account m b st most there ne))

-- the account after its password is accepted and it is let go
both_changes : (l : LedgerParts) (account password session : ℕ) → account < length l.accounts → (ledger_releasing (ledger_spending l account password) account session).accounts ≡ set l.accounts account (releasing (accepting (state_at l account) password) session)
both_changes l account password session lt =
    set-set l.accounts account (accepting (state_at l account) password) (releasing (get_or (set l.accounts account (accepting (state_at l account) password)) account no_state) session)
    ∙ ap (λ s. set l.accounts account (releasing s session)) (get_or-set_same l.accounts account (accepting (state_at l account) password) no_state lt)

reply_of : (journal : List Event) (e : Event) (user name : Name) (b : Bool) → accepts e ≡ true → challenged_user journal e.session ≡ Some user → same_name user name ≡ b → reply_for name (record { before = journal; event = e }) ≡ cond b (Some (value_of e.decision)) None
reply_of journal e user name b accepted challenged same =
    ap (λ x. cond (x && is_user name (challenged_user journal e.session)) (Some (value_of e.decision)) None) accepted
    ∙ ap (λ o. cond (is_user name o) (Some (value_of e.decision)) None) challenged
    ∙ ap (λ x. cond x (Some (value_of e.decision)) None) same

pub stands_replied : (l : LedgerParts) (account password : ℕ) → IsInRange l.setup → account < length l.accounts → StandsReplied l account password (ledger_spending l account password)
stands_replied l account password range lt = record { by_journal = λ journal e a st place accepted challenged value most. record { accounts = both_changes l account password e.session lt ∙ go journal e a st place accepted challenged value most } } where
  go : (journal : List Event) (e : Event) (a : Account) → StandsFor l journal → slice_get l.setup.accounts account ≡ Some a → accepts e ≡ true → challenged_user journal e.session ≡ Some a.name → value_of e.decision ≡ password → HoldsAtMost l e.session account → set l.accounts account (releasing (accepting (state_at l account) password) e.session) ≡ map (state_by (journal ++ e ∷ [])) l.setup.accounts
  go journal e a st place accepted challenged value most =
      one_changes l journal e account a (λ s. releasing (accepting s password) e.session) st place
      (state_replied journal e a accepted (reply_of journal e a.name a.name true accepted challenged (same_self a.name)) ∙ ap (λ p. releasing (accepting (state_by journal a) p) e.session) value)
      (λ m b there ne. state_unheld journal e b (accepted_leaves e accepted) (reply_of journal e a.name b.name false accepted challenged (names_differ l.setup account m a b range place there (λ x. ne (sym x)))) (unheld l journal e.session account m b st most there ne))
