-- A setup with what a ledger knows of its accounts is a setup.
use Rattle.std.proofs.Common.{◌≡◌, ℕ, zero, suc, ◌+◌, ◌<◌, Bool, true, ◌&&◌, List, [], ◌∷◌, ◌++◌, map, length, get_or, take, nat_le, refl, sym, ap, subst, ◌∙◌, arith, ◌==◌}
use Rattle.std.specs.Prelude.{nat_lt}
use Rattle.std.specs.List.{list_all}
use Rattle.std.proofs.lemmas.Bool.{and_parts, and_from}
use Rattle.std.proofs.lemmas.List.{map-append, take_more}
use Rattle.account_file.proofs.EachLemmas.{list_all_more}
use Rattle.request_catalogue.specs.declared.texts.Name.{Name}
use Rattle.policy_model.specs.declared.account.Account.{Account}
use Rattle.policy_model.specs.Settings.{IsInRange, Settings, are_accounts, are_distinct, are_grants, is_account, is_number, same_name}
use Rattle.policy_model.specs.declared.event.Event.{Event}
use Rattle.toml.specs.Data.{Data}
use Rattle.toml.specs.View.{view}
use Rattle.toml.specs.declared.value.Value.{Value}
use Rattle.otp_ledger.specs.Accounts.{AccountState, LedgerParts, current_of, no_state}
use Rattle.otp_ledger.specs.declared.ledger.Current.{Current}
use Rattle.otp_ledger.specs.Standing.{state_by}
use Rattle.policy_model.specs.Logins.{account_after}
use Rattle.account_writer.specs.CurrentSetup.{IsSetupAfter, current_account, current_accounts, current_setup}
use Rattle.account_writer.specs.Puts.{is_writable, with_current}
use Rattle.account_writer.specs.Written.{IsFileOf}
use Rattle.account_writer.proofs.ListLemmas.{distinct-map}

-- 1. The accounts

pub length-current : (accounts : List Account) (states : List AccountState) → length accounts ≡ length states → length (current_accounts accounts states) ≡ length accounts
length-current [] states same = refl
length-current (a ∷ accounts) [] same = absurd (omega (arith, same))
length-current (a ∷ accounts) (s ∷ states) same = omega (arith, length-current accounts states (omega (arith, same)))

pub current_at : (accounts : List Account) (states : List AccountState) (i : ℕ) (d a : Account) (s : AccountState) → i < length accounts → i < length states → get_or (current_accounts accounts states) i d ≡ current_account (get_or accounts i a) (get_or states i s)
current_at [] states i d a s lt few = absurd (omega arith)
current_at (b ∷ accounts) [] i d a s lt few = absurd (omega arith)
current_at (b ∷ accounts) (t ∷ states) zero d a s lt few = refl
current_at (b ∷ accounts) (t ∷ states) (suc i) d a s lt few = current_at accounts states i d a s (omega arith) (omega arith)

names_stay : (accounts : List Account) (states : List AccountState) → length accounts ≡ length states → map (λ (a : Account). a.name) (current_accounts accounts states) ≡ map (λ (a : Account). a.name) accounts
names_stay [] states same = refl
names_stay (a ∷ accounts) [] same = absurd (omega (arith, same))
names_stay (a ∷ accounts) (s ∷ states) same = ap (λ (names : List Name). a.name ∷ names) (names_stay accounts states (omega (arith, same)))

uids_stay : (accounts : List Account) (states : List AccountState) → length accounts ≡ length states → map (λ (a : Account). a.uid) (current_accounts accounts states) ≡ map (λ (a : Account). a.uid) accounts
uids_stay [] states same = refl
uids_stay (a ∷ accounts) [] same = absurd (omega (arith, same))
uids_stay (a ∷ accounts) (s ∷ states) same = ap (λ (uids : List ℕ). a.uid ∷ uids) (uids_stay accounts states (omega (arith, same)))

-- an account with another sequence in its range
legal_here : (a : Account) (s : AccountState) → is_account a ≡ true → is_writable (current_account a s) ≡ true → is_account (current_account a s) ≡ true
legal_here a s legal writable =
    let parts = and_parts (is_number 1 4294967294 a.uid && nat_le a.sequence 9999) (are_grants a.grants) legal in
    let first = and_parts (is_number 1 4294967294 a.uid) (nat_le a.sequence 9999) parts.0 in
    let few = and_parts _ _ writable in
    and_from _ _ (and_from _ _ first.0 few.0) parts.1

legal_current : (accounts : List Account) (states : List AccountState) → list_all is_account accounts ≡ true → list_all is_writable (current_accounts accounts states) ≡ true → list_all is_account (current_accounts accounts states) ≡ true
legal_current [] states legal writable = refl
legal_current (a ∷ accounts) [] legal writable = refl
legal_current (a ∷ accounts) (s ∷ states) legal writable =
    let here = and_parts (is_account a) (list_all is_account accounts) legal in
    let written = and_parts (is_writable (current_account a s)) (list_all is_writable (current_accounts accounts states)) writable in
    and_from _ _ (legal_here a s here.0 written.0) (legal_current accounts states here.1 written.1)

-- a password of 64 bits
abbrev pub fits_word : Account → Bool
fits_word a = nat_lt a.password 18446744073709551616

-- accounts in range whose passwords have 64 bits can be written, and those that can be have such passwords
pub writable_by : (accounts : List Account) → list_all is_account accounts ≡ true → list_all fits_word accounts ≡ true → list_all is_writable accounts ≡ true
writable_by [] legal fits = refl
writable_by (a ∷ accounts) legal fits =
    let here = and_parts (is_account a) (list_all is_account accounts) legal in
    let own = and_parts (fits_word a) (list_all fits_word accounts) fits in
    let parts = and_parts (is_number 1 4294967294 a.uid && nat_le a.sequence 9999) (are_grants a.grants) here.0 in
    let few = (and_parts (is_number 1 4294967294 a.uid) (nat_le a.sequence 9999) parts.0).1 in
    and_from _ _ (and_from _ _ few own.0) (writable_by accounts here.1 own.1)

pub words_of : (accounts : List Account) → list_all is_writable accounts ≡ true → list_all fits_word accounts ≡ true
words_of [] writable = refl
words_of (a ∷ accounts) writable =
    let here = and_parts (is_writable a) (list_all is_writable accounts) writable in
    and_from _ _ (and_parts (nat_le a.sequence 9999) (fits_word a) here.0).1 (words_of accounts here.1)

-- 2. The setup

accounts_current : (accounts : List Account) (states : List AccountState) → length accounts ≡ length states → are_accounts accounts ≡ true → list_all is_writable (current_accounts accounts states) ≡ true → are_accounts (current_accounts accounts states) ≡ true
accounts_current accounts states same legal writable =
    let uids = and_parts _ _ legal in
    let names = and_parts _ _ uids.0 in
    let first = and_parts _ _ names.0 in
    let new = current_accounts accounts states in
    let few : nat_le (length new) 1024 ≡ true = ap (λ (n : ℕ). nat_le n 1024) (length-current accounts states same) ∙ first.0 in
    let new_names : are_distinct (λ (a b : Account). same_name a.name b.name) new ≡ true = sym (distinct-map same_name (λ (a : Account). a.name) new) ∙ ap (are_distinct same_name) (names_stay accounts states same) ∙ distinct-map same_name (λ (a : Account). a.name) accounts ∙ names.1 in
    let new_uids : are_distinct (λ (a b : Account). a.uid == b.uid) new ≡ true = sym (distinct-map ◌==◌ (λ (a : Account). a.uid) new) ∙ ap (are_distinct ◌==◌) (uids_stay accounts states same) ∙ distinct-map ◌==◌ (λ (a : Account). a.uid) accounts ∙ uids.1 in
    and_from _ _ (and_from _ _ (and_from _ _ few (legal_current accounts states first.1 writable)) new_names) new_uids

pub range_current : (s : Settings) (states : List AccountState) → IsInRange s → length s.accounts ≡ length states → list_all is_writable (current_accounts s.accounts states) ≡ true → IsInRange (current_setup s states)
range_current s states range same writable = record {
  texts = range.texts;
  workers = range.workers;
  connections = range.connections;
  requests = range.requests;
  tries = range.tries;
  hold = range.hold;
  info = range.info;
  product = range.product;
  accounts = accounts_current s.accounts states same range.accounts writable;
}

-- 3. One account more

pub values_more : {A : Type 0} (f : A → Data) (all : List A) (values : List Value) (i : ℕ) (a d : A) (v : Value) → i < length all → map view values ≡ map f (take i all) → get_or all i d ≡ a → view v ≡ f a → map view (values ++ v ∷ []) ≡ map f (take (i + 1) all)
values_more f all values i a d v lt so_far here seen =
    map-append view values (v ∷ [])
    ∙ ap (λ (ds : List Data). ds ++ view v ∷ []) so_far
    ∙ ap (λ (x : Data). map f (take i all) ++ x ∷ []) (seen ∙ ap f (sym here))
    ∙ sym (map-append f (take i all) (get_or all i d ∷ []))
    ∙ ap (map f) (sym (take_more all i d lt))

pub writable_more : (all : List Account) (i : ℕ) (a d : Account) → i < length all → list_all is_writable (take i all) ≡ true → get_or all i d ≡ a → is_writable a ≡ true → list_all is_writable (take (i + 1) all) ≡ true
writable_more all i a d lt so_far here is =
    ap (list_all is_writable) (take_more all i d lt) ∙ list_all_more is_writable (take i all) (get_or all i d) so_far (ap is_writable here ∙ is)

-- the account of a number, with what its chain has come to
pub current_here : (accounts : List Account) (states : List AccountState) (i : ℕ) (account : Account) (current : Current) → i < length accounts → i < length states → account ≡ get_or accounts i account → current.sequence ≡ (get_or states i no_state).sequence → current.password ≡ current_of (get_or states i no_state) → get_or (current_accounts accounts states) i account ≡ with_current account current
current_here accounts states i account current lt few at sequence password =
    let state : AccountState = get_or states i no_state in
    current_at accounts states i account account no_state lt few
    ∙ ap (λ (a : Account). current_account a state) (sym at)
    ∙ ap (λ (n : ℕ). record account { sequence = n; password = current_of state }) (sym sequence)
    ∙ ap (λ (n : ℕ). record account { sequence = current.sequence; password = n }) (sym password)

-- 4. The setup after a journal

accounts_after : (accounts : List Account) (journal : List Event) → current_accounts accounts (map (state_by journal) accounts) ≡ map (account_after journal) accounts
accounts_after [] journal = refl
accounts_after (a ∷ accounts) journal = ap (λ (more : List Account). account_after journal a ∷ more) (accounts_after accounts journal)

pub is_setup_after : (setup : Settings) (l : LedgerParts) (bytes : List ℕ) → l.setup ≡ setup
    → IsFileOf (current_setup setup l.accounts) bytes → IsSetupAfter setup l bytes
is_setup_after setup l bytes own is = record {
  by_journal = λ journal st.
      let known : l.accounts ≡ map (state_by journal) setup.accounts = st.accounts ∙ ap (λ (s : Settings). map (state_by journal) s.accounts) own in
      let same : current_accounts setup.accounts l.accounts ≡ map (account_after journal) setup.accounts =
      ap (current_accounts setup.accounts) known ∙ accounts_after setup.accounts journal in
      subst (λ (accounts : List Account). IsFileOf (record setup { accounts = accounts }) bytes) same is;
}
