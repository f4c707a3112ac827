-- What spending a reply makes of a ledger.
use Rattle.std.proofs.Common.{◌≡◌, ◌≢◌, ℕ, zero, suc, ◌+◌, ◌-◌, ◌<◌, Bool, true, false, not, ◌&&◌, cond, nat_eq, nat_lt, ◌≤◌, List, [], ◌∷◌, ◌++◌, drop, filter, get_or, length, map, set, slice_get, take, None, Some, refl, sym, ap, subst, ◌∙◌, arith, length-append}
use Rattle.std.specs.Prelude.{◌==◌}
use Rattle.std.proofs.lemmas.Bool.{and_parts, not-true}
use Rattle.std.proofs.lemmas.Bool.Decides.{nat_tests}
use Rattle.std.proofs.lemmas.List.{append-nil, drop_more, get_or-set_other, get_or-set_same, get_or_default, length-map, length-set, map-append, take-append-drop, take_more}
use Rattle.std.proofs.lemmas.List.Elements.{filter-append}
use Rattle.std.proofs.lemmas.Option.{slice_get-get_or}
use Rattle.otp_hash.specs.declared.chain.Algo.{Algo}
use Rattle.otp_hash.specs.Hashing.{hash_of}
use Rattle.policy_model.specs.declared.account.Account.{Account}
use Rattle.policy_model.specs.Settings.{Settings}
use Rattle.otp_ledger.specs.Accounts.{AccountState, IsNextPassword, LedgerParts, accepting, current_of, ledger_spending, new_ledger, new_state, no_state, state_at, was_accepted}
use Rattle.otp_ledger.specs.Decisions.{is_next}
use Rattle.otp_ledger.proofs.StandingLemmas.{some_there}
use Rattle.ledger_journal.specs.declared.login.Login.{Login}
use Rattle.ledger_journal.specs.Logins.{Verifies, is_number, is_of, passwords_of, state_after}
use Rattle.ledger_journal.specs.Reads.{IsWithin}
use Rattle.ledger_journal.specs.Recovering.{HasAccepted, IsRefused}
use Rattle.ledger_journal.specs.Spending.{IsOfSetup, IsSpent, StopsAt, VerifyTo}

-- 1. One reply more of an account

of_number : (n number : ℕ) (login : Login) → login.account ≡ Some number → is_of n login ≡ nat_eq number n
of_number n number login of = ap (is_number n) of

pub passwords_push : (n : ℕ) (before : List Login) (login : Login) → passwords_of n (before ++ login ∷ []) ≡ passwords_of n before ++ cond (is_of n login) (login.password ∷ []) []
passwords_push n before login =
    ap (map (λ (l : Login). l.password)) (filter-append (is_of n) before (login ∷ []))
    ∙ map-append (λ (l : Login). l.password) (filter (is_of n) before) (filter (is_of n) (login ∷ []))
    ∙ go (is_of n login)
  where
    go : (b : Bool) → map (λ (l : Login). l.password) (filter (is_of n) before) ++ map (λ (l : Login). l.password) (cond b (login ∷ []) []) ≡ passwords_of n before ++ cond b (login.password ∷ []) []
    go true = refl
    go false = refl

state_with : List ℕ → Account → AccountState
state_with passwords account = record {
  algo = account.algo;
  enabled = account.enabled;
  accepted = account.password ∷ passwords;
  sequence = account.sequence - length passwords;
  taker = 0;
  moment = 0;
  holder = None;
}

state_is : (before : List Login) (n : ℕ) (account : Account) → state_after before n account ≡ state_with (passwords_of n before) account
unfolding state_with
state_is before n account = refl

accepting_with : (passwords : List ℕ) (account : Account) (password : ℕ) → accepting (state_with passwords account) password ≡ state_with (passwords ++ password ∷ []) account
unfolding state_with
accepting_with passwords account password =
    let less : account.sequence - length passwords - 1 ≡ account.sequence - length (passwords ++ password ∷ []) = omega (arith, length-append passwords (password ∷ [])) in
    ap (λ n. (let s : AccountState = record { algo = account.algo; enabled = account.enabled; accepted = account.password ∷ (passwords ++ password ∷ []); sequence = n; taker = 0; moment = 0; holder = None } in s)) less

state_own : (before : List Login) (login : Login) (number : ℕ) (account : Account) → login.account ≡ Some number → accepting (state_after before number account) login.password ≡ state_after (before ++ login ∷ []) number account
state_own before login number account of =
    let own : is_of number login ≡ true = of_number number number login of ∙ grind (arith, nat_tests) in
    ap (λ s. accepting s login.password) (state_is before number account)
    ∙ accepting_with (passwords_of number before) account login.password
    ∙ ap (λ b. state_with (passwords_of number before ++ cond b (login.password ∷ []) []) account) (sym own)
    ∙ ap (λ p. state_with p account) (sym (passwords_push number before login))
    ∙ sym (state_is (before ++ login ∷ []) number account)

state_other : (before : List Login) (login : Login) (number n : ℕ) (account : Account) → login.account ≡ Some number → n ≢ number → state_after before n account ≡ state_after (before ++ login ∷ []) n account
state_other before login number n account of apart =
    let other : is_of n login ≡ false = of_number n number login of ∙ grind (arith, nat_tests, apart) in
    state_is before n account
    ∙ ap (λ p. state_with p account) (sym (append-nil (passwords_of n before)))
    ∙ ap (λ b. state_with (passwords_of n before ++ cond b (login.password ∷ []) []) account) (sym other)
    ∙ ap (λ p. state_with p account) (sym (passwords_push n before login))
    ∙ sym (state_is (before ++ login ∷ []) n account)

-- 2. A reply that is spent

pub some_of : (state : AccountState) (password : ℕ) → (nat_lt 0 state.sequence && is_next state password) ≡ true → 0 < state.sequence
some_of state password h = let b = (and_parts (nat_lt 0 state.sequence) (is_next state password) h).0 in grind (arith, nat_tests, b)

pub next_of : (state : AccountState) (password : ℕ) → (nat_lt 0 state.sequence && is_next state password) ≡ true → IsNextPassword state password
next_of state password h =
    let both = and_parts (hash_of state.algo password == current_of state) (not (was_accepted state password)) (and_parts (nat_lt 0 state.sequence) (is_next state password) h).1 in
    record { hashes = (let b = both.0 in grind (arith, nat_tests, b)); unused = not-true (was_accepted state password) both.1 }

test_of : (state : AccountState) (password : ℕ) → 0 < state.sequence → IsNextPassword state password → (nat_lt 0 state.sequence && is_next state password) ≡ true
test_of state password some next =
    let a : nat_lt 0 state.sequence ≡ true = grind (arith, nat_tests, some) in
    let e = next.hashes in
    let b : (hash_of state.algo password == current_of state) ≡ true = grind (arith, nat_tests, e) in
    ap (λ x. x && is_next state password) a ∙ ap (λ x. x && not (was_accepted state password)) b ∙ ap not next.unused

-- the same by parts
pub verified_test : (state : AccountState) (algo : Algo) (password hash current sequence : ℕ) (was : Bool) → state.algo ≡ algo → hash ≡ hash_of algo password → current ≡ current_of state → sequence ≡ state.sequence → 0 < sequence → nat_eq hash current ≡ true → was ≡ was_accepted state password → not was ≡ (nat_lt 0 state.sequence && is_next state password)
verified_test state algo password hash current sequence was algo_is hash_is current_is sequence_is some same was_is =
    let a : nat_lt 0 state.sequence ≡ true = (let lt : 0 < state.sequence = omega (arith, some, sequence_is) in grind (arith, nat_tests, lt)) in
    let b : (hash_of state.algo password == current_of state) ≡ true = ap (λ x. hash_of x password == current_of state) algo_is ∙ ap (λ x. x == current_of state) (sym hash_is) ∙ ap (λ x. hash == x) (sym current_is) ∙ same in
    sym (ap (λ x. x && is_next state password) a ∙ ap (λ x. x && not (was_accepted state password)) b ∙ ap not (sym was_is))

pub spent_test : (state : AccountState) (password sequence : ℕ) → sequence ≡ state.sequence → sequence ≤ 0 → false ≡ (nat_lt 0 state.sequence && is_next state password)
spent_test state password sequence sequence_is none =
    let a : nat_lt 0 state.sequence ≡ false = (let le : state.sequence ≤ 0 = omega (arith, none, sequence_is) in grind (arith, nat_tests, le)) in
    sym (ap (λ x. x && is_next state password) a)

and_false : (b : Bool) → (b && false) ≡ false
and_false true = refl
and_false false = refl

pub other_test : (state : AccountState) (algo : Algo) (password hash current : ℕ) → state.algo ≡ algo → hash ≡ hash_of algo password → current ≡ current_of state → nat_eq hash current ≡ false → false ≡ (nat_lt 0 state.sequence && is_next state password)
other_test state algo password hash current algo_is hash_is current_is differs =
    let b : (hash_of state.algo password == current_of state) ≡ false = ap (λ x. hash_of x password == current_of state) algo_is ∙ ap (λ x. x == current_of state) (sym hash_is) ∙ ap (λ x. hash == x) (sym current_is) ∙ differs in
    sym (ap (λ x. nat_lt 0 state.sequence && (x && not (was_accepted state password))) b ∙ and_false (nat_lt 0 state.sequence))

-- the account of a reply
pub record IsOf (setup : Settings) (login : Login) (number : ℕ) : Type 0 where
  pub account : Account
  pub stands : slice_get setup.accounts number ≡ Some account
  pub below : number < length setup.accounts

pub account_there : (setup : Settings) (login : Login) (number : ℕ) → IsWithin setup login → login.account ≡ Some number → IsOf setup login number
account_there setup login number within of =
    let lt = within number of in
    let there = some_there setup.accounts number lt in
    record { account = there.0; stands = there.1; below = lt }

-- the test of the ledger's state is the one of what it has accepted
tested : (setup : Settings) (before : List Login) (l : LedgerParts) (login : Login) (number : ℕ) (account : Account) → HasAccepted setup before l → slice_get setup.accounts number ≡ Some account → (nat_lt 0 (state_at l number).sequence && is_next (state_at l number) login.password) ≡ (nat_lt 0 (state_after before number account).sequence && is_next (state_after before number account) login.password)
tested setup before l login number account h stands = ap (λ (s : AccountState). nat_lt 0 s.sequence && is_next s login.password) (h.states number account stands)

pub verified_by : (setup : Settings) (before : List Login) (l : LedgerParts) (login : Login) (number : ℕ) (account : Account) → HasAccepted setup before l → login.account ≡ Some number → slice_get setup.accounts number ≡ Some account → (nat_lt 0 (state_at l number).sequence && is_next (state_at l number) login.password) ≡ true → Verifies setup before login
verified_by setup before l login number account h of stands test =
    let t = sym (tested setup before l login number account h stands) ∙ test in
    record { number = number; account = account; named = of; stands = stands; some = some_of (state_after before number account) login.password t; next = next_of (state_after before number account) login.password t }

pub refused_by : (setup : Settings) (before : List Login) (l : LedgerParts) (login : Login) (number : ℕ) → HasAccepted setup before l → login.account ≡ Some number → (nat_lt 0 (state_at l number).sequence && is_next (state_at l number) login.password) ≡ false → Verifies setup before login → ⊥
refused_by setup before l login number h of test v =
    let same : v.number ≡ number = (let e = sym v.named ∙ of in cc) in
    let stands : slice_get setup.accounts number ≡ Some v.account = ap (slice_get setup.accounts) (sym same) ∙ v.stands in
    let some : 0 < (state_after before number v.account).sequence = subst (λ n. 0 < (state_after before n v.account).sequence) same v.some in
    let next : IsNextPassword (state_after before number v.account) login.password = subst (λ n. IsNextPassword (state_after before n v.account) login.password) same v.next in
    let t : true ≡ false = sym (test_of (state_after before number v.account) login.password some next) ∙ sym (tested setup before l login number v.account h stands) ∙ test in
    absurd cc

pub accepted_by : (setup : Settings) (before : List Login) (l : LedgerParts) (login : Login) (number : ℕ) → HasAccepted setup before l → login.account ≡ Some number → number < length l.accounts → HasAccepted setup (before ++ login ∷ []) (ledger_spending l number login.password)
accepted_by setup before l login number h of lt = record { made = h.made; same = length-set l.accounts number (accepting (state_at l number) login.password) ∙ h.same; states = states } where
  states : (n : ℕ) (account : Account) → slice_get setup.accounts n ≡ Some account → get_or (set l.accounts number (accepting (state_at l number) login.password)) n no_state ≡ state_after (before ++ login ∷ []) n account
  states n account stands = go (nat_eq n number) refl where
    go : (b : Bool) → nat_eq n number ≡ b → get_or (set l.accounts number (accepting (state_at l number) login.password)) n no_state ≡ state_after (before ++ login ∷ []) n account
    go true is =
        let here : n ≡ number = grind (arith, nat_tests, is) in
        let own : login.account ≡ Some n = of ∙ ap Some (sym here) in
        ap (λ m. get_or (set l.accounts number (accepting (state_at l number) login.password)) m no_state) here
        ∙ get_or-set_same l.accounts number (accepting (state_at l number) login.password) no_state lt
        ∙ ap (λ m. accepting (state_at l m) login.password) (sym here)
        ∙ ap (λ s. accepting s login.password) (h.states n account stands)
        ∙ state_own before login n account own
    go false is =
        let apart : n ≢ number = grind (arith, nat_tests, is) in
        get_or-set_other l.accounts number n (accepting (state_at l number) login.password) no_state apart
        ∙ h.states n account stands
        ∙ state_other before login number n account of apart

-- 3. Replies spent in order

-- a ledger has accepted none at first
pub none_accepted : (setup : Settings) (cap : ℕ) → HasAccepted setup [] (new_ledger setup cap)
none_accepted setup cap = record { made = refl; same = length-map setup.accounts new_state; states = states } where
  first : (accounts : List Account) (n : ℕ) (account : Account) → slice_get accounts n ≡ Some account → get_or (map new_state accounts) n no_state ≡ new_state account
  first [] n account h = absurd cc
  first (a ∷ accounts) zero account h = let same : a ≡ account = cc in ap new_state same
  first (a ∷ accounts) (suc n) account h = first accounts n account h

  whole : (account : Account) (n : ℕ) → new_state account ≡ state_after [] n account
  whole account n =
      let all : account.sequence ≡ account.sequence - 0 = omega arith in
      ap (λ m. (let s : AccountState = record { algo = account.algo; enabled = account.enabled; accepted = account.password ∷ []; sequence = m; taker = 0; moment = 0; holder = None } in s)) all

  states : (n : ℕ) (account : Account) → slice_get setup.accounts n ≡ Some account → get_or (map new_state setup.accounts) n no_state ≡ state_after [] n account
  states n account stands = first setup.accounts n account stands ∙ whole account n

verified_on : (setup : Settings) (logins : List Login) (i : ℕ) (d : Login) → i < length logins → VerifyTo setup logins i → Verifies setup (take i logins) (get_or logins i d) → VerifyTo setup logins (i + 1)
verified_on setup logins i d lt so_far v place e below = go (nat_eq place i) refl where
  go : (b : Bool) → nat_eq place i ≡ b → Verifies setup (take place logins) (get_or logins place e)
  go true is =
      let here : place ≡ i = grind (arith, nat_tests, is) in
      let item : get_or logins i d ≡ get_or logins place e = get_or_default logins i d e lt ∙ ap (λ n. get_or logins n e) (sym here) in
      subst (λ n. Verifies setup (take n logins) (get_or logins place e)) (sym here) (subst (Verifies setup (take i logins)) item v)
  go false is = let apart : place ≢ i = grind (arith, nat_tests, is) in so_far place e (omega (arith, below, apart))

-- one reply more is spent
pub record SpentTo (setup : Settings) (logins : List Login) (count : ℕ) (l : LedgerParts) : Type 0 where
  pub accepted : HasAccepted setup (take count logins) l
  pub verified : VerifyTo setup logins count

pub spent_on : (setup : Settings) (logins : List Login) (i : ℕ) (d : Login) (l new : LedgerParts) → i < length logins → HasAccepted setup (take i logins) l → VerifyTo setup logins i → IsSpent (get_or logins i d) l new → SpentTo setup logins (i + 1) new
spent_on setup logins i d l new lt h so_far spent =
    let own : HasAccepted l.setup (take i logins) l = subst (λ (s : Settings). HasAccepted s (take i logins) l) (sym h.made) h in
    record {
      accepted = subst (λ (x : List Login). HasAccepted setup x new) (sym (take_more logins i d lt)) (subst (λ (s : Settings). HasAccepted s (take i logins ++ get_or logins i d ∷ []) new) h.made (spent.accepted (take i logins) own));
      verified = verified_on setup logins i d lt so_far (subst (λ (s : Settings). Verifies s (take i logins) (get_or logins i d)) h.made (spent.verified (take i logins) own));
    }

-- the next reply doesn't verify
pub refused_on : (setup : Settings) (logins : List Login) (i : ℕ) (d : Login) (l : LedgerParts) → i < length logins → HasAccepted setup (take i logins) l → VerifyTo setup logins i → ((before : List Login) → HasAccepted l.setup before l → Verifies l.setup before (get_or logins i d) → ⊥) → StopsAt setup logins (get_or logins i d).line × IsRefused setup logins (get_or logins i d).line
refused_on setup logins i d l lt h so_far refused =
    let own : HasAccepted l.setup (take i logins) l = subst (λ (s : Settings). HasAccepted s (take i logins) l) (sym h.made) h in (
      record { place = i; within = lt; verified = so_far; counted = λ e. ap (λ (x : Login). x.line) (get_or_default logins i d e lt) },
      record {
        before = take i logins;
        login = get_or logins i d;
        later = drop (i + 1) logins;
        parts = sym (take-append-drop i logins) ∙ ap (λ x. take i logins ++ x) (drop_more logins i d lt);
        counted = refl;
        refused = λ v. refused (take i logins) own (subst (λ (s : Settings). Verifies s (take i logins) (get_or logins i d)) (sym h.made) v);
      },
    )

pub of_setup : (setup : Settings) (before : List Login) (l : LedgerParts) → HasAccepted setup before l → IsOfSetup l
of_setup setup before l h =
    let accounts : l.setup.accounts ≡ setup.accounts = ap (λ (s : Settings). s.accounts) h.made in
    record {
      same = h.same ∙ sym (ap length accounts);
      algos = λ number account stands. ap (λ (s : AccountState). s.algo) (h.states number account (ap (λ l. slice_get l number) (sym accounts) ∙ stands));
    }

-- a reply that a ledger spends
pub spends : (login : Login) (l : LedgerParts) (number : ℕ) → IsWithin l.setup login → IsOfSetup l → login.account ≡ Some number → (nat_lt 0 (state_at l number).sequence && is_next (state_at l number) login.password) ≡ true → IsSpent login l (ledger_spending l number login.password)
spends login l number within of named test =
    let is = account_there l.setup login number within named in
    record {
      spent = refl;
      cap = refl;
      made = refl;
      verified = λ before h. verified_by l.setup before l login number is.account h named is.stands test;
      accepted = λ before h. accepted_by l.setup before l login number h named (let lt = is.below in omega (arith, lt, of.same));
    }

-- the state of an account has the algorithm of the setup's account
pub algo_at : (l : LedgerParts) (accounts : List Account) (number : ℕ) (d : Account) → IsOfSetup l → accounts ≡ l.setup.accounts → number < length l.accounts → (state_at l number).algo ≡ (get_or accounts number d).algo
algo_at l accounts number d of own lt =
    of.algos number (get_or accounts number d)
    (ap (λ x. slice_get x number) (sym own) ∙ slice_get-get_or accounts number d (let e = ap length own in omega (arith, e, lt, of.same)))
