-- The array of accepted passwords beside the accounts.
use Rattle.std.proofs.Common.{◌≡◌, ◌≢◌, ℕ, ◌<◌, ◌≤◌, ◌+◌, Bool, true, false, ◌&&◌, ◌||◌, nat_eq, nat_lt, List, ◌∷◌, [], ◌++◌, length, get_or, map, set, take, refl, sym, ap, subst, ◌∙◌, arith, inl, inr, ◌⊎◌}
use Rattle.std.specs.List.{list_any}
use Rattle.std.proofs.lemmas.Bool.{cases_eq, cases_lt}
use Rattle.std.proofs.lemmas.Bool.Decides.{nat_tests}
use Rattle.std.proofs.lemmas.List.{get_or-set_other, get_or-set_same, get_or_append_left, get_or_at, length-append, length-map, length-set, length-take, map-append, map-set, take_more}
use Rattle.std.proofs.lemmas.List.Folds.{list_any-append}
use Rattle.policy_model.specs.declared.account.Account.{Account}
use Rattle.otp_ledger.specs.declared.kept.Kept.{Kept}
use Rattle.otp_ledger.specs.declared.rows.AccountRow.{AccountRow}
use Rattle.otp_ledger.specs.Accounts.{AccountState, accepting, was_accepted}
use Rattle.otp_ledger.specs.Kept.{AreEntries, has_entry, is_entry}
use Rattle.otp_ledger.specs.Rows.{new_row, no_row, spending, state_of}
use Rattle.otp_ledger.proofs.RowLemmas.{one_password, state_is}

-- one more password of an account
pub entries_grow : (kept new : List Kept) (states : List AccountState) (state : AccountState) (account password : ℕ) → AreEntries kept states → account < length states → ((x : ℕ) (d : AccountState) → was_accepted state x ≡ (nat_eq x password || was_accepted (get_or states account d) x)) → ((u x : ℕ) → has_entry u x new ≡ (is_entry u x (record { account = account; password = password }) || has_entry u x kept)) → AreEntries new (set states account state)
entries_grow kept new states state account password are lt grown adds = record { entries = λ u x d. go u x d (cases_eq u account) } where
  go : (u x : ℕ) (d : AccountState) → (u ≡ account) ⊎ (u ≢ account) → has_entry u x new ≡ (nat_lt u (length (set states account state)) && was_accepted (get_or (set states account state) u d) x)
  go u x d (inl here) =
      let bound : nat_lt u (length states) ≡ true = grind (arith, nat_tests, here, lt) in
      let own : is_entry u x (record { account = account; password = password }) ≡ nat_eq x password = grind (arith, nat_tests, here) in
      let found : get_or (set states account state) u d ≡ state = ap (λ i. get_or (set states account state) i d) here ∙ get_or-set_same states account state d lt in
      adds u x
      ∙ ap (λ b. b || has_entry u x kept) own
      ∙ ap (λ b. nat_eq x password || b) (are.entries u x d ∙ ap (λ b. b && was_accepted (get_or states u d) x) bound ∙ ap (λ i. was_accepted (get_or states i d) x) here)
      ∙ sym (grown x d)
      ∙ ap (λ s. was_accepted s x) (sym found)
      ∙ ap (λ b. b && was_accepted (get_or (set states account state) u d) x) (sym (ap (nat_lt u) (length-set states account state) ∙ bound))
  go u x d (inr ne) =
      let other : is_entry u x (record { account = account; password = password }) ≡ false = grind (arith, nat_tests, ne) in
      adds u x
      ∙ ap (λ b. b || has_entry u x kept) other
      ∙ are.entries u x d
      ∙ ap (λ n. nat_lt u n && was_accepted (get_or states u d) x) (sym (length-set states account state))
      ∙ ap (λ s. nat_lt u (length (set states account state)) && was_accepted s x) (sym (get_or-set_other states account u state d ne))

-- a password that is accepted
pub accepts_more : (state : AccountState) (password x : ℕ) → was_accepted (accepting state password) x ≡ (nat_eq x password || was_accepted state x)
accepts_more state password x = list_any-append (nat_eq x) state.accepted (password ∷ []) ∙ go (list_any (nat_eq x) state.accepted) (nat_eq x password) where
  go : (a b : Bool) → (a || (b || false)) ≡ (b || a)
  go true true = refl
  go true false = refl
  go false true = refl
  go false false = refl

-- an account's passwords stay where it changes otherwise
pub entries_stay : (kept : List Kept) (states : List AccountState) (state : AccountState) (account : ℕ) → AreEntries kept states → account < length states → ((d : AccountState) → state.accepted ≡ (get_or states account d).accepted) → AreEntries kept (set states account state)
entries_stay kept states state account are lt same = record { entries = λ u x d. go u x d (cases_eq u account) } where
  go : (u x : ℕ) (d : AccountState) → (u ≡ account) ⊎ (u ≢ account) → has_entry u x kept ≡ (nat_lt u (length (set states account state)) && was_accepted (get_or (set states account state) u d) x)
  go u x d (inl here) =
      let found : get_or (set states account state) u d ≡ state = ap (λ i. get_or (set states account state) i d) here ∙ get_or-set_same states account state d lt in
      are.entries u x d
      ∙ ap (λ n. nat_lt u n && was_accepted (get_or states u d) x) (sym (length-set states account state))
      ∙ ap (λ ps. nat_lt u (length (set states account state)) && list_any (nat_eq x) ps) (ap (λ i. (get_or states i d).accepted) here ∙ sym (same d) ∙ sym (ap (λ s. s.accepted) found))
  go u x d (inr ne) =
      are.entries u x d
      ∙ ap (λ n. nat_lt u n && was_accepted (get_or states u d) x) (sym (length-set states account state))
      ∙ ap (λ s. nat_lt u (length (set states account state)) && was_accepted s x) (sym (get_or-set_other states account u state d ne))

-- an account more, with its stored password alone
pub entries_push : (kept new : List Kept) (states : List AccountState) (state : AccountState) (account password : ℕ) → AreEntries kept states → account ≡ length states → state.accepted ≡ password ∷ [] → ((u x : ℕ) → has_entry u x new ≡ (is_entry u x (record { account = account; password = password }) || has_entry u x kept)) → AreEntries new (states ++ state ∷ [])
entries_push kept new states state account password are last one adds = record { entries = λ u x d. go u x d (cases_lt u (length states)) } where
  long : length (states ++ state ∷ []) ≡ length states + 1
  long = length-append states (state ∷ [])

  last_one : (u x : ℕ) (d : AccountState) → length states ≤ u → (u ≡ account) ⊎ (u ≢ account) → (is_entry u x (record { account = account; password = password }) || false) ≡ (nat_lt u (length (states ++ state ∷ [])) && was_accepted (get_or (states ++ state ∷ []) u d) x)
  last_one u x d ge (inl here) =
      let bound : nat_lt u (length (states ++ state ∷ [])) ≡ true = grind (arith, nat_tests, here, last, long) in
      let own : is_entry u x (record { account = account; password = password }) ≡ nat_eq x password = grind (arith, nat_tests, here) in
      let found : get_or (states ++ state ∷ []) u d ≡ state = get_or_at states state [] d u (sym (here ∙ last)) in
      ap (λ b. b || false) own
      ∙ sym (ap (λ b. b && was_accepted (get_or (states ++ state ∷ []) u d) x) bound ∙ ap (λ s. was_accepted s x) found ∙ ap (list_any (nat_eq x)) one)
  last_one u x d ge (inr ne) =
      let bound : nat_lt u (length (states ++ state ∷ [])) ≡ false = grind (arith, nat_tests, ne, last, long, ge) in
      let own : is_entry u x (record { account = account; password = password }) ≡ false = grind (arith, nat_tests, ne) in
      ap (λ b. b || false) own ∙ sym (ap (λ b. b && was_accepted (get_or (states ++ state ∷ []) u d) x) bound)

  go : (u x : ℕ) (d : AccountState) → (u < length states) ⊎ (length states ≤ u) → has_entry u x new ≡ (nat_lt u (length (states ++ state ∷ [])) && was_accepted (get_or (states ++ state ∷ []) u d) x)
  go u x d (inl lt) =
      let other : is_entry u x (record { account = account; password = password }) ≡ false = grind (arith, nat_tests, last, lt) in
      let low : nat_lt u (length states) ≡ true = grind (arith, nat_tests, lt) in
      let bound : nat_lt u (length (states ++ state ∷ [])) ≡ true = grind (arith, nat_tests, lt, long) in
      adds u x
      ∙ ap (λ b. b || has_entry u x kept) other
      ∙ are.entries u x d
      ∙ ap (λ b. b && was_accepted (get_or states u d) x) (low ∙ sym bound)
      ∙ ap (λ s. nat_lt u (length (states ++ state ∷ [])) && was_accepted s x) (sym (get_or_append_left states (state ∷ []) d u lt))
  go u x d (inr ge) =
      let high : nat_lt u (length states) ≡ false = grind (arith, nat_tests, ge) in
      let none : has_entry u x kept ≡ false = are.entries u x d ∙ ap (λ b. b && was_accepted (get_or states u d) x) high in
      adds u x ∙ ap (λ b. is_entry u x (record { account = account; password = password }) || b) none ∙ last_one u x d ge (cases_eq u account)

-- the stored passwords of one account more
pub entries_more : (kept new : List Kept) (accounts : List Account) (i : ℕ) (account : Account) → i < length accounts → account ≡ get_or accounts i account → AreEntries kept (map state_of (map new_row (take i accounts))) → ((u x : ℕ) → has_entry u x new ≡ (is_entry u x (record { account = i; password = account.password }) || has_entry u x kept)) → AreEntries new (map state_of (map new_row (take (i + 1) accounts)))
entries_more kept new accounts i account lt here are adds =
    let front : length (map state_of (map new_row (take i accounts))) ≡ i = length-map (map new_row (take i accounts)) state_of ∙ length-map (take i accounts) new_row ∙ length-take i accounts ∙ omega arith in
    let more : take (i + 1) accounts ≡ take i accounts ++ account ∷ [] = take_more accounts i account lt ∙ ap (λ x. take i accounts ++ x ∷ []) (sym here) in
    let states : map state_of (map new_row (take (i + 1) accounts)) ≡ map state_of (map new_row (take i accounts)) ++ state_of (new_row account) ∷ [] = ap (λ xs. map state_of (map new_row xs)) more ∙ ap (map state_of) (map-append new_row (take i accounts) (account ∷ [])) ∙ map-append state_of (map new_row (take i accounts)) (new_row account ∷ []) in
    subst (AreEntries new) (sym states) (entries_push kept new (map state_of (map new_row (take i accounts))) (state_of (new_row account)) i account.password are (sym front) (one_password account.algo account.sequence account.password) adds)

-- the array beside rows of which one changes otherwise
pub entries_row : (kept : List Kept) (rows : List AccountRow) (row : AccountRow) (account : ℕ) → AreEntries kept (map state_of rows) → account < length rows → (state_of row).accepted ≡ (state_of (get_or rows account no_row)).accepted → AreEntries kept (map state_of (set rows account row))
entries_row kept rows row account are lt same =
    let long : length (map state_of rows) ≡ length rows = length-map rows state_of in
    subst (AreEntries kept) (sym (map-set state_of rows account row)) (entries_stay kept (map state_of rows) (state_of row) account are (omega (arith, long, lt)) (λ d. same ∙ sym (ap (λ s. s.accepted) (state_is rows account d lt))))

-- the array beside rows of which one has a password more
pub entries_spend : (kept new : List Kept) (rows : List AccountRow) (account password : ℕ) → AreEntries kept (map state_of rows) → account < length rows → state_of (spending (get_or rows account no_row) password) ≡ accepting (state_of (get_or rows account no_row)) password → ((u x : ℕ) → has_entry u x new ≡ (is_entry u x (record { account = account; password = password }) || has_entry u x kept)) → AreEntries new (map state_of (set rows account (spending (get_or rows account no_row) password)))
entries_spend kept new rows account password are lt spent adds =
    let row : AccountRow = get_or rows account no_row in
    let long : length (map state_of rows) ≡ length rows = length-map rows state_of in
    subst (AreEntries new) (sym (map-set state_of rows account (spending row password)))
    (entries_grow kept new (map state_of rows) (state_of (spending row password)) account password are (omega (arith, long, lt))
    (λ x d. ap (λ s. was_accepted s x) spent ∙ accepts_more (state_of row) password x ∙ ap (λ s. nat_eq x password || was_accepted s x) (sym (state_is rows account d lt)))
    adds)
