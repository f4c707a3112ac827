-- The accounts that rows stand for.
use Rattle.std.proofs.Common.{◌≡◌, ◌≢◌, ℕ, zero, suc, ◌-◌, ◌<◌, ◌≤◌, ◌&&◌, not, nat_eq, Bool, true, false, List, ◌∷◌, [], ◌++◌, length, map, get_or, nat_le, set, reverse, unwrap_or, Some, None, refl, sym, ap, subst, ◌∙◌, arith, inl, inr, ◌⊎◌}
use Rattle.std.specs.List.{last_or, list_all}
use Rattle.std.proofs.lemmas.Bool.{and_parts, cases_eq}
use Rattle.std.proofs.lemmas.Bool.Decides.{nat_tests}
use Rattle.std.proofs.lemmas.List.{get_or-map, get_or-set_other, get_or-set_same, length-map, length-set, map-set, reverse-append}
use Rattle.otp_hash.specs.declared.chain.Algo.{Algo}
use Rattle.otp_hash.specs.Hashing.{hash_of}
use Rattle.policy_model.specs.declared.account.Account.{Account}
use Rattle.policy_model.specs.Settings.{Settings, is_account}
use Rattle.policy_model.proofs.Lists.{last_or-push}
use Rattle.otp_ledger.specs.declared.rows.AccountRow.{AccountRow}
use Rattle.otp_ledger.specs.Accounts.{AccountState, LedgerParts, accepting, current_of, new_ledger, new_state, no_state, was_accepted}
use Rattle.otp_ledger.specs.Decisions.{is_next}
use Rattle.otp_ledger.specs.Rows.{images, new_row, no_row, spending, spent_of, state_of}

-- the account of a row
pub state_is : (rows : List AccountRow) (account : ℕ) (d : AccountState) → account < length rows → get_or (map state_of rows) account d ≡ state_of (get_or rows account no_row)
state_is rows account d lt = get_or-map state_of rows account no_row d lt

-- a row that changes, and its account
pub changed : (rows : List AccountRow) (account : ℕ) (row : AccountRow) (after : AccountState → AccountState) → account < length rows → state_of row ≡ after (state_of (get_or rows account no_row)) → map state_of (set rows account row) ≡ set (map state_of rows) account (after (get_or (map state_of rows) account no_state))
changed rows account row after lt same = map-set state_of rows account row ∙ ap (set (map state_of rows) account) (same ∙ sym (ap after (state_is rows account no_state lt)))

-- the password that was accepted last
last_images : (algo : Algo) (n password : ℕ) → last_or None (reverse (images algo n password)) ≡ Some password
unfolding images
last_images algo zero password = refl
last_images algo (suc n) password = ap (last_or None) (reverse-append (password ∷ []) (images algo n (hash_of algo password))) ∙ last_or-push None (reverse (images algo n (hash_of algo password))) password

pub password_is : (row : AccountRow) → row.password ≡ current_of (state_of row)
password_is row = sym (ap (λ o. unwrap_or o 0) (last_images row.algo (row.start - row.sequence) row.password))

-- before the first event a row has one accepted password
pub one_password : (algo : Algo) (n password : ℕ) → reverse (images algo (n - n) password) ≡ password ∷ []
unfolding images
one_password algo n password = let none : n - n ≡ 0 = omega arith in ap (λ k. reverse (images algo k password)) none

-- a password more is accepted
accepted_more : (row : AccountRow) (password : ℕ) → 0 < row.sequence → row.sequence ≤ row.start → hash_of row.algo password ≡ row.password → reverse (spent_of (spending row password)) ≡ reverse (spent_of row) ++ password ∷ []
unfolding images
accepted_more row password some few hashes =
    let n : row.start - (row.sequence - 1) ≡ suc (row.start - row.sequence) = omega arith in
    ap reverse (ap (λ k. images row.algo k password) n ∙ ap (λ p. password ∷ images row.algo (row.start - row.sequence) p) hashes)
    ∙ reverse-append (password ∷ []) (spent_of row)

pub state_of-spending : (row : AccountRow) (password : ℕ) → 0 < row.sequence → row.sequence ≤ row.start → hash_of row.algo password ≡ row.password → state_of (spending row password) ≡ accepting (state_of row) password
state_of-spending row password some few hashes =
    ap (λ (xs : List ℕ). record { algo = row.algo; enabled = row.enabled; accepted = xs; sequence = row.sequence - 1; taker = row.taker; moment = row.moment; holder = row.holder }) (accepted_more row password some few hashes)

-- no account has a greater sequence than at first
pub few_set : (rows : List AccountRow) (new : AccountRow) (account : ℕ) → ((u : ℕ) (d : AccountRow) → u < length rows → (get_or rows u d).sequence ≤ (get_or rows u d).start) → account < length rows → new.sequence ≤ new.start → (u : ℕ) (d : AccountRow) → u < length (set rows account new) → (get_or (set rows account new) u d).sequence ≤ (get_or (set rows account new) u d).start
few_set rows new account few lt at u d bound = go (cases_eq u account) where
  go : (u ≡ account) ⊎ (u ≢ account) → (get_or (set rows account new) u d).sequence ≤ (get_or (set rows account new) u d).start
  go (inl here) = subst (λ (r : AccountRow). r.sequence ≤ r.start) (sym (ap (λ i. get_or (set rows account new) i d) here ∙ get_or-set_same rows account new d lt)) at
  go (inr ne) = subst (λ (r : AccountRow). r.sequence ≤ r.start) (sym (get_or-set_other rows account u new d ne)) (few u d (omega (arith, bound, length-set rows account new)))

-- no account had a greater sequence than a setup allows
pub short_set : (rows : List AccountRow) (new : AccountRow) (account : ℕ) → ((u : ℕ) (d : AccountRow) → u < length rows → (get_or rows u d).start ≤ 9999) → account < length rows → new.start ≤ 9999 → (u : ℕ) (d : AccountRow) → u < length (set rows account new) → (get_or (set rows account new) u d).start ≤ 9999
short_set rows new account few lt at u d bound = go (cases_eq u account) where
  go : (u ≡ account) ⊎ (u ≢ account) → (get_or (set rows account new) u d).start ≤ 9999
  go (inl here) = subst (λ (r : AccountRow). r.start ≤ 9999) (sym (ap (λ i. get_or (set rows account new) i d) here ∙ get_or-set_same rows account new d lt)) at
  go (inr ne) = subst (λ (r : AccountRow). r.start ≤ 9999) (sym (get_or-set_other rows account u new d ne)) (few u d (omega (arith, bound, length-set rows account new)))

-- the accounts of the rows before the first event
pub new_states : (accounts : List Account) → map state_of (map new_row accounts) ≡ map new_state accounts
new_states [] = refl
new_states (a ∷ accounts) =
    ap (λ (xs : List ℕ). record { algo = a.algo; enabled = a.enabled; accepted = xs; sequence = a.sequence; taker = 0; moment = 0; holder = None } ∷ map state_of (map new_row accounts)) (one_password a.algo a.sequence a.password)
    ∙ ap (λ (states : List AccountState). new_state a ∷ states) (new_states accounts)

pub few_new : (accounts : List Account) (u : ℕ) (d : AccountRow) → u < length (map new_row accounts) → (get_or (map new_row accounts) u d).sequence ≤ (get_or (map new_row accounts) u d).start
few_new [] u d lt = absurd (omega arith)
few_new (a ∷ accounts) zero d lt = omega arith
few_new (a ∷ accounts) (suc u) d lt = few_new accounts u d (omega arith)

pub short_new : (accounts : List Account) → list_all is_account accounts ≡ true → (u : ℕ) (d : AccountRow) → u < length (map new_row accounts) → (get_or (map new_row accounts) u d).start ≤ 9999
short_new [] legal u d lt = absurd (omega arith)
short_new (a ∷ accounts) legal zero d lt =
    let here = (and_parts (is_account a) (list_all is_account accounts) legal).0 in
    let few : nat_le a.sequence 9999 ≡ true = (and_parts _ _ (and_parts _ _ here).0).1 in
    grind (arith, nat_tests, few)
short_new (a ∷ accounts) legal (suc u) d lt = short_new accounts (and_parts (is_account a) (list_all is_account accounts) legal).1 u d (omega arith)

-- a reading against a row is one against its account
next_is : (row : AccountRow) (state : AccountState) (password hash : ℕ) → state_of row ≡ state → hash ≡ hash_of row.algo password → (nat_eq hash row.password && not (was_accepted state password)) ≡ is_next state password
next_is row state password hash same step =
    subst (λ (s : AccountState). (nat_eq hash row.password && not (was_accepted s password)) ≡ is_next s password) same
    (ap (λ k. nat_eq k row.password && not (was_accepted (state_of row) password)) step ∙ ap (λ k. nat_eq (hash_of row.algo password) k && not (was_accepted (state_of row) password)) (password_is row))

pub next_matches : (row : AccountRow) (state : AccountState) (password hash : ℕ) (was : Bool) → state_of row ≡ state → hash ≡ hash_of row.algo password → hash ≡ row.password → was ≡ was_accepted state password → not was ≡ is_next state password
next_matches row state password hash was same step matches here =
    let test : nat_eq hash row.password ≡ true = grind (arith, nat_tests, matches) in
    ap not here ∙ sym (ap (λ b. b && not (was_accepted state password)) test) ∙ next_is row state password hash same step

pub next_differs : (row : AccountRow) (state : AccountState) (password hash : ℕ) → state_of row ≡ state → hash ≡ hash_of row.algo password → hash ≢ row.password → nat_eq hash row.password ≡ is_next state password
next_differs row state password hash same step differs =
    let test : nat_eq hash row.password ≡ false = grind (arith, nat_tests, differs) in
    test ∙ sym (ap (λ b. b && not (was_accepted state password)) test) ∙ next_is row state password hash same step

-- the rows are as many as their accounts
pub row_within : (rows : List AccountRow) (account : ℕ) → account < length (map state_of rows) → account < length rows
row_within rows account lt = omega (arith, lt, length-map rows state_of)

-- a ledger of which one row changes
pub changed_view : (setup : Settings) (rows new : List AccountRow) (spent most account : ℕ) (row : AccountRow) (after : AccountState → AccountState) (count : ℕ → ℕ) (l : LedgerParts) → ◌≡◌ {A = LedgerParts} (record { setup = setup; accounts = map state_of rows; spent = spent; cap = most }) l → account < length rows → new ≡ set rows account row → state_of row ≡ after (state_of (get_or rows account no_row)) → ◌≡◌ {A = LedgerParts} (record { setup = setup; accounts = map state_of new; spent = count spent; cap = most }) (record { setup = l.setup; accounts = set l.accounts account (after (get_or l.accounts account no_state)); spent = count l.spent; cap = l.cap })
changed_view setup rows new spent most account row after count l view lt is same =
    subst (λ (x : LedgerParts). ◌≡◌ {A = LedgerParts} (record { setup = setup; accounts = map state_of new; spent = count spent; cap = most }) (record { setup = x.setup; accounts = set x.accounts account (after (get_or x.accounts account no_state)); spent = count x.spent; cap = x.cap })) view
    (ap (λ (states : List AccountState). record { setup = setup; accounts = states; spent = count spent; cap = most }) (ap (map state_of) is ∙ changed rows account row after lt same))

-- the ledger before the first event
pub new_is : (setup copy : Settings) (accounts : List Account) (rows : List AccountRow) (most : ℕ) → copy ≡ setup → accounts ≡ setup.accounts → rows ≡ map new_row accounts → ◌≡◌ {A = LedgerParts} (record { setup = copy; accounts = map state_of rows; spent = 0; cap = most }) (new_ledger setup most)
new_is setup copy accounts rows most same own are =
    ap (λ (s : Settings). record { setup = s; accounts = map state_of rows; spent = 0; cap = most }) same
    ∙ ap (λ (states : List AccountState). record { setup = setup; accounts = states; spent = 0; cap = most }) (ap (map state_of) (are ∙ ap (map new_row) own) ∙ new_states setup.accounts)
