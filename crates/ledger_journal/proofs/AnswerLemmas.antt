-- The first fault, and what records without one bring back.
use Rattle.std.proofs.Common.{◌≡◌, ◌≢◌, ℕ, zero, suc, ◌+◌, ◌-◌, ◌≤◌, ◌<◌, Bool, true, false, not, ◌&&◌, cond, min, nat_eq, List, [], ◌∷◌, ◌++◌, get_or, length, map, take, Option, None, Some, refl, sym, ap, subst, ◌∙◌, arith, inl, inr}
use Rattle.std.specs.Bool.{then_some}
use Rattle.std.specs.List.{AllByRecursion}
use Rattle.std.specs.Option.{option_to_list}
use Rattle.std.specs.Result.{result_ok}
use Rattle.std.proofs.lemmas.Bool.{cases_lt}
use Rattle.std.proofs.lemmas.Bool.Decides.{nat_tests}
use Rattle.std.proofs.lemmas.List.{get_or-map, get_or_at, get_or_default, length-append, length-map, same_lists, take_at}
use Rattle.std.proofs.lemmas.Option.{get_or_from_slice_get}
use Rattle.policy_model.specs.declared.account.Account.{Account}
use Rattle.policy_model.specs.Asks.{value_of}
use Rattle.policy_model.specs.Settings.{Settings}
use Rattle.decision_log.specs.Reading.{line_read}
use Rattle.decision_log.specs.Values.{LineValue}
use Rattle.otp_ledger.specs.Accounts.{AccountState, LedgerParts, new_state, no_state}
use Rattle.otp_ledger.proofs.StandingLemmas.{some_there}
use Rattle.ledger_journal.specs.declared.answer.Recovered.{Recovered}
use Rattle.ledger_journal.specs.declared.login.Login.{Login}
use Rattle.ledger_journal.specs.Lines.{line_at, lines_after, lines_of, numbered}
use Rattle.ledger_journal.specs.Logins.{Verifies, accepts_reply, account_taken, last_taking, left_of, logins_after, logins_of, is_passed, state_after}
use Rattle.ledger_journal.specs.Reads.{IsFirstBad, first_of}
use Rattle.ledger_journal.specs.Recovering.{HasAccepted, HasFault, IsFirstFault, IsNoLine, IsOwn, IsRecovered, IsRefused, is_none_left}
use Rattle.ledger_journal.specs.Spending.{AreSpent, StopsAt, VerifyTo}
use Rattle.ledger_journal.proofs.PassLemmas.{all_at, all_left}

-- 1. The lines of a log, and so the replies, have rising numbers

numbered_is : (place : ℕ) (o : Option LineValue) (v : LineValue) → numbered place o ≡ Some v → v.number ≡ place
numbered_is place None v h = absurd cc
numbered_is place (Some w) v h = go (nat_eq w.number place) refl h where
  go : (b : Bool) → nat_eq w.number place ≡ b → then_some b w ≡ Some v → v.number ≡ place
  go true is h = let same : w ≡ v = cc in let e : w.number ≡ place = grind (arith, nat_tests, is) in ap (λ (x : LineValue). x.number) (sym same) ∙ e
  go false is h = absurd cc

pub line_number : (place : ℕ) (bytes : List ℕ) (v : LineValue) → line_at place bytes ≡ Some v → v.number ≡ place
line_number place bytes v h = numbered_is place (result_ok (line_read bytes)) v h

all_line : (P : LineValue → Type 0) (o : Option LineValue) (lines : List LineValue) → ((v : LineValue) → o ≡ Some v → P v) → AllByRecursion P lines → AllByRecursion P (option_to_list o ++ lines)
all_line P None lines first rest = rest
all_line P (Some v) lines first rest = (first v refl, rest)

above_lines : (m count : ℕ) (records : List (List ℕ)) → m ≤ count → AllByRecursion (λ v. m < v.number) (lines_after count records)
above_lines m count [] le = tt
above_lines m count (bytes ∷ records) le =
    all_line (λ v. m < v.number) (line_at (count + 1) bytes) (lines_after (count + 1) records)
    (λ v is. let e = line_number (count + 1) bytes v is in omega (arith, e, le))
    (above_lines m (count + 1) records (omega (arith, le)))

RisingLines : List LineValue → Type 0
RisingLines [] = Unit {0}
RisingLines (v ∷ lines) = AllByRecursion (λ w. v.number < w.number) lines × RisingLines lines

rising_line : (o : Option LineValue) (lines : List LineValue) → ((v : LineValue) → o ≡ Some v → AllByRecursion (λ w. v.number < w.number) lines) → RisingLines lines → RisingLines (option_to_list o ++ lines)
unfolding RisingLines
rising_line None lines first rest = rest
rising_line (Some v) lines first rest = (first v refl, rest)

rising_lines : (count : ℕ) (records : List (List ℕ)) → RisingLines (lines_after count records)
unfolding RisingLines
rising_lines count [] = tt
rising_lines count (bytes ∷ records) =
    rising_line (line_at (count + 1) bytes) (lines_after (count + 1) records)
    (λ v is. let e = line_number (count + 1) bytes v is in subst (λ n. AllByRecursion (λ w. n < w.number) (lines_after (count + 1) records)) (sym e) (above_lines (count + 1) (count + 1) records (omega arith)))
    (rising_lines (count + 1) records)

pub Rising : List Login → Type 0
Rising [] = Unit {0}
Rising (l ∷ logins) = AllByRecursion (λ k. l.line < k.line) logins × Rising logins

above_logins : (setup : Settings) (m : ℕ) (before lines : List LineValue) → AllByRecursion (λ v. m < v.number) lines → AllByRecursion (λ l. m < l.line) (logins_after setup before lines)
above_logins setup m before [] all = tt
above_logins setup m before (v ∷ lines) all = go (account_taken setup (last_taking before v.session)) (accepts_reply v) (above_logins setup m (before ++ v ∷ []) lines all.1) where
  go : (account : Option ℕ) (b : Bool) → AllByRecursion (λ (l : Login). m < l.line) (logins_after setup (before ++ v ∷ []) lines) → AllByRecursion (λ (l : Login). m < l.line) (option_to_list (cond b (Some (let l : Login = record { line = v.number; account = account; password = value_of v.decision } in l)) None) ++ logins_after setup (before ++ v ∷ []) lines)
  go account true rest = (all.0, rest)
  go account false rest = rest

rising_logins : (setup : Settings) (before lines : List LineValue) → RisingLines lines → Rising (logins_after setup before lines)
unfolding Rising RisingLines
rising_logins setup before [] rising = tt
rising_logins setup before (v ∷ lines) rising = go (account_taken setup (last_taking before v.session)) (accepts_reply v) (rising_logins setup (before ++ v ∷ []) lines rising.1) where
  go : (account : Option ℕ) (b : Bool) → Rising (logins_after setup (before ++ v ∷ []) lines) → Rising (option_to_list (cond b (Some (let l : Login = record { line = v.number; account = account; password = value_of v.decision } in l)) None) ++ logins_after setup (before ++ v ∷ []) lines)
  go account true rest = (above_logins setup v.number (before ++ v ∷ []) lines rising.0, rest)
  go account false rest = rest

rising_left : (setup : Settings) (logins : List Login) → Rising logins → Rising (left_of setup logins)
unfolding Rising
rising_left setup [] rising = tt
rising_left setup (l ∷ logins) rising = go (is_passed setup l logins) (rising_left setup logins rising.1) where
  go : (b : Bool) → Rising (left_of setup logins) → Rising (cond b (left_of setup logins) (l ∷ left_of setup logins))
  go true rest = rest
  go false rest = (all_left (λ k. l.line < k.line) setup logins rising.0, rest)

pub left_rises : (setup : Settings) (records : List (List ℕ)) → Rising (left_of setup (logins_of setup records))
left_rises setup records = rising_left setup (logins_of setup records) (rising_logins setup [] (lines_of records) (rising_lines 0 records))

rising_at : (logins : List Login) (i j : ℕ) (d : Login) → Rising logins → i < j → j < length logins → (get_or logins i d).line < (get_or logins j d).line
unfolding Rising
rising_at [] i j d rising lt within = absurd (omega (arith, within))
rising_at (l ∷ logins) i zero d rising lt within = absurd (omega (arith, lt))
rising_at (l ∷ logins) zero (suc j) d rising lt within = all_at (λ k. l.line < k.line) logins j d (omega (arith, within)) rising.0
rising_at (l ∷ logins) (suc i) (suc j) d rising lt within = rising_at logins i j d rising.1 (omega (arith, lt)) (omega (arith, within))

-- 2. The first reply that doesn't verify

record RefusedPlace (setup : Settings) (left : List Login) (number : ℕ) : Type 0 where
  place : ℕ
  within : place < length left
  counted : (d : Login) → number ≡ (get_or left place d).line
  refused : (d : Login) → Verifies setup (take place left) (get_or left place d) → ⊥

place_of : (setup : Settings) (left : List Login) (number : ℕ) → IsRefused setup left number → RefusedPlace setup left number
place_of setup left number h =
    let front : take (length h.before) left ≡ h.before = ap (take (length h.before)) h.parts ∙ take_at h.before (h.login ∷ h.later) (length h.before) refl in
    let at = λ (d : Login). ap (λ l. get_or l (length h.before) d) h.parts ∙ get_or_at h.before h.login h.later d (length h.before) refl in
    record {
      place = length h.before;
      within = (let e = ap length h.parts in omega (arith, e, length-append h.before (h.login ∷ h.later)));
      counted = λ d. h.counted ∙ ap (λ (l : Login). l.line) (sym (at d));
      refused = λ d v. h.refused (subst (λ b. Verifies setup b h.login) front (subst (Verifies setup (take (length h.before) left)) (at d) v));
    }

pub none_refused : (setup : Settings) (left : List Login) → VerifyTo setup left (length left) → (number : ℕ) → IsRefused setup left number → ⊥
none_refused setup left all number h =
    let p = place_of setup left number h in
    p.refused h.login (all p.place h.login p.within)

least_refused : (setup : Settings) (left : List Login) (number k : ℕ) → Rising left → StopsAt setup left number → IsRefused setup left k → number ≤ k
least_refused setup left number k rising stops h =
    let p = place_of setup left k h in
    let d = h.login in
    let a = stops.counted d in
    let b = p.counted d in
    elim (cases_lt p.place stops.place) [
      | inl before ↦ absurd (p.refused d (stops.verified p.place d before))
      | inr behind ↦
          elim (cases_lt stops.place p.place) [
            | inl lt ↦ let r = rising_at left stops.place p.place d rising lt p.within in omega (arith, a, b, r)
            | inr le ↦
                let same : stops.place ≡ p.place = omega (arith, behind, le) in
                let e : (get_or left stops.place d).line ≡ (get_or left p.place d).line = ap (λ n. (get_or left n d).line) same in
                omega (arith, a, b, e)
          ]
    ]

-- 3. The first fault of both kinds

abbrev Below : ℕ → Option ℕ → Type 0
Below n None = Unit {0}
Below n (Some m) = n ≤ m

module _ (setup : Settings) (records : List (List ℕ)) (left : List Login) (new : LedgerParts) (is : left ≡ left_of setup (logins_of setup records)) where
  rises : Rising left
  rises = subst Rising (sym is) (left_rises setup records)

  no_earlier : (n : ℕ) (bad refused : Option ℕ) → IsFirstBad records bad → AreSpent setup left new refused → Below n bad → Below n refused → (k : ℕ) → k < n → HasFault setup records k → ⊥
  no_earlier n bad refused first spent lb lr k lt fault =
      elim fault [
        | inl line ↦ no_line bad first lb line
        | inr reply ↦ no_reply refused spent lr (subst (λ l. IsRefused setup l k) (sym is) reply)
      ]
    where
      no_line : (o : Option ℕ) → IsFirstBad records o → Below n o → IsNoLine records k → ⊥
      no_line None first le h = first.1 k h
      no_line (Some b) first le h = first.1 k (omega (arith, lt, le)) h

      no_reply : (o : Option ℕ) → AreSpent setup left new o → Below n o → IsRefused setup left k → ⊥
      no_reply None spent le h = none_refused setup left spent.verified k h
      no_reply (Some r) spent le h = absurd (let least = least_refused setup left r k rises spent.0 h in omega (arith, lt, le, least))

  first_by : (n : ℕ) (bad refused : Option ℕ) → IsFirstBad records bad → AreSpent setup left new refused → Below n bad → Below n refused → HasFault setup records n → IsFirstFault setup records n
  first_by n bad refused first spent lb lr here = record { here = here; none_before = λ k lt fault. no_earlier n bad refused first spent lb lr k lt fault }

  line_here : (b : ℕ) → IsFirstBad records (Some b) → HasFault setup records b
  line_here b first = inl first.0

  reply_here : (r : ℕ) → AreSpent setup left new (Some r) → HasFault setup records r
  reply_here r spent = inr (subst (λ l. IsRefused setup l r) is spent.1)

  pub first_fault : (bad refused : Option ℕ) (n : ℕ) → IsFirstBad records bad → AreSpent setup left new refused → first_of bad refused ≡ Some n → IsFirstFault setup records n
  first_fault None None n first spent h = absurd cc
  first_fault None (Some r) n first spent h = let same : r ≡ n = cc in subst (IsFirstFault setup records) same (first_by r None (Some r) first spent tt (omega arith) (reply_here r spent))
  first_fault (Some b) None n first spent h = let same : b ≡ n = cc in subst (IsFirstFault setup records) same (first_by b (Some b) None first spent (omega arith) tt (line_here b first))
  first_fault (Some b) (Some r) n first spent h =
      let least : min b r ≡ n = cc in
      elim (cases_lt b r) [
        | inl lt ↦ let same : b ≡ n = omega (arith, lt, least) in subst (IsFirstFault setup records) same (first_by b (Some b) (Some r) first spent (omega arith) (omega (arith, lt)) (line_here b first))
        | inr le ↦ let same : r ≡ n = omega (arith, le, least) in subst (IsFirstFault setup records) same (first_by r (Some b) (Some r) first spent (omega (arith, le)) (omega arith) (reply_here r spent))
      ]

  pub no_fault : (bad refused : Option ℕ) → IsFirstBad records bad → AreSpent setup left new refused → first_of bad refused ≡ None → (number : ℕ) → HasFault setup records number → ⊥
  no_fault None None first spent h number fault =
      elim fault [
        | inl line ↦ first.1 number line
        | inr reply ↦ none_refused setup left spent.verified number (subst (λ l. IsRefused setup l number) (sym is) reply)
      ]
  no_fault None (Some r) first spent h number fault = absurd cc
  no_fault (Some b) None first spent h number fault = absurd cc
  no_fault (Some b) (Some r) first spent h number fault = absurd cc

  pub all_accepted : (bad refused : Option ℕ) → AreSpent setup left new refused → first_of bad refused ≡ None → HasAccepted setup left new
  all_accepted None None spent h = spent.accepted
  all_accepted None (Some r) spent h = absurd cc
  all_accepted (Some b) None spent h = absurd cc
  all_accepted (Some b) (Some r) spent h = absurd cc

pub lines_few : (records : List (List ℕ)) (bad refused : Option ℕ) → IsFirstBad records bad → first_of bad refused ≡ None → length records ≤ 1048576
lines_few records None refused first h = first.0
lines_few records (Some b) None first h = absurd cc
lines_few records (Some b) (Some r) first h = absurd cc

-- 4. A ledger that accepted none is the setup's own

new_whole : (account : Account) (n : ℕ) → state_after [] n account ≡ new_state account
new_whole account n =
    let all : account.sequence - 0 ≡ account.sequence = omega arith in
    ap (λ m. (let s : AccountState = record { algo = account.algo; enabled = account.enabled; accepted = account.password ∷ []; sequence = m; taker = 0; moment = 0; holder = None } in s)) all

pub own_by : (setup : Settings) (l : LedgerParts) → HasAccepted setup [] l → IsOwn setup l
own_by setup l h = record { made = h.made; states = same_lists l.accounts (map new_state setup.accounts) (h.same ∙ sym (length-map setup.accounts new_state)) each } where
  each : (k : ℕ) (d : AccountState) → k < length l.accounts → get_or l.accounts k d ≡ get_or (map new_state setup.accounts) k d
  each k d lt =
      let below : k < length setup.accounts = omega (arith, lt, h.same) in
      let there = some_there setup.accounts k below in
      get_or_default l.accounts k d no_state lt
      ∙ h.states k there.0 there.1
      ∙ new_whole there.0 k
      ∙ ap new_state (sym (get_or_from_slice_get setup.accounts k there.0 there.0 there.1))
      ∙ sym (get_or-map new_state setup.accounts k there.0 d below)

pub own_where : (setup : Settings) (logins : List Login) (l : LedgerParts) (a : Bool) → HasAccepted setup logins l → (a && is_none_left logins) ≡ true → IsOwn setup l
own_where setup [] l a h both = own_by setup l h
own_where setup (x ∷ logins) l true h both = absurd cc
own_where setup (x ∷ logins) l false h both = absurd cc

pub recovered : (setup : Settings) (records : List (List ℕ)) (left : List Login) (bad refused : Option ℕ) (r : Recovered) → left ≡ left_of setup (logins_of setup records) → IsFirstBad records bad → AreSpent setup left r.ledger refused → first_of bad refused ≡ None → r.lines ≡ length records → r.accepted ≡ length (logins_of setup records) → r.already ≡ (not (is_none_left (logins_of setup records)) && is_none_left left) → IsRecovered setup records r
recovered setup records left bad refused r is first spent none lines accepted already =
    let h : HasAccepted setup left r.ledger = all_accepted setup records left r.ledger is bad refused spent none in
    record {
      no_fault = no_fault setup records left r.ledger is bad refused first spent none;
      lines = lines;
      accepted = accepted;
      already = already ∙ ap (λ l. not (is_none_left (logins_of setup records)) && is_none_left l) is;
      ledger = subst (λ l. HasAccepted setup l r.ledger) is h;
      own = λ yes. own_where setup left r.ledger (not (is_none_left (logins_of setup records))) h (sym already ∙ yes);
    }

pub spent_same : (one setup : Settings) (logins left : List Login) (new : LedgerParts) (refused : Option ℕ) → one ≡ setup → logins ≡ left → AreSpent one logins new refused → AreSpent setup left new refused
spent_same one setup logins left new refused setups lists h = subst (λ l. AreSpent setup l new refused) lists (subst (λ (s : Settings). AreSpent s logins new refused) setups h)

pub none_left_empty : (logins : List Login) → nat_eq (length logins) 0 ≡ is_none_left logins
none_left_empty [] = refl
none_left_empty (l ∷ logins) = let ne : length (l ∷ logins) ≢ 0 = omega arith in grind (arith, nat_tests, ne)
