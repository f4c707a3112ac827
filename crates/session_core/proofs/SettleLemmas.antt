-- What the event that follows makes of the accounts.
use Rattle.std.proofs.Common.{◌≡◌, ◌≢◌, ℕ, ◌-◌, ◌<◌, Bool, true, false, not, ◌&&◌, ◌||◌, cond, eqb, nat_le, nat_lt, List, [], ◌∷◌, ◌++◌, length, map, Option, Some, refl, sym, ap, subst, ◌∙◌, arith}
use Rattle.std.specs.Prelude.{is_some, unwrap_or}
use Rattle.std.proofs.lemmas.Bool.{and_from, and_parts, false_from_ne_true, false≢true}
use Rattle.std.proofs.lemmas.Bool.Decides.{nat_tests}
use Rattle.request_catalogue.specs.declared.texts.Name.{Name}
use Rattle.otp_hash.specs.Hashing.{hash_of}
use Rattle.otp_ledger.specs.Accounts.{AccountState, IsNextPassword, LedgerParts, current_of, ledger_holding, ledger_releasing, state_at, was_accepted}
use Rattle.otp_ledger.specs.Standing.{StandsFor, state_by}
use Rattle.otp_ledger.proofs.GoingLemmas.{stands_left, stands_replied, stands_taken}
use Rattle.otp_ledger.proofs.StandingLemmas.{stands_at}
use Rattle.policy_model.specs.declared.account.Account.{Account}
use Rattle.policy_model.specs.declared.event.Ask.{Ask}
use Rattle.policy_model.specs.declared.event.Ask.TheVariants as asks
use Rattle.policy_model.specs.declared.event.Decision.{Decision}
use Rattle.policy_model.specs.declared.event.Event.{Event}
use Rattle.policy_model.specs.declared.phase.Phase.{Phase}
use Rattle.policy_model.specs.declared.phase.Phase.TheVariants.{Challenged, Over}
use Rattle.policy_model.specs.declared.reading.TheConstants.{DECOYS_FROM}
use Rattle.policy_model.specs.Asks.{accepts, came_by_frame, challenge_name, ends_session, gives_up, is_login_step, is_permit, leaves, moment_of, opens, reserves, takes, takes_user, value_of}
use Rattle.policy_model.specs.Cases.{is_reply, is_holder, taking_moment}
use Rattle.policy_model.specs.Legal.{IsLegal, IsNext}
use Rattle.policy_model.specs.Logins.{account_of, holder_of, last_taking_of, replies_of, session_taking, was_decoyed}
use Rattle.policy_model.specs.Phases.{phase_of}
use Rattle.policy_model.specs.Settings.{IsInRange, Settings}
use Rattle.session_core.specs.Settling.{is_challenged, ledger_accepting, ledger_by, ledger_leaving, ledger_taking, may_hold, number_for}
use Rattle.session_core.specs.Standing.{IsSpendable}
use Rattle.session_core.proofs.AccountLemmas.{IsUser, as_many, decoy_number_is, holds_at_most, user_is}
use Rattle.session_laws.specs.Tied.{LeavesUser}
use Rattle.session_laws.proofs.Numbers.{decoyed_holds, holds_only, unchallenged_holds}
use Rattle.session_laws.proofs.Opened.{opening}
use Rattle.session_laws.proofs.Openings.{phase_of-zero}
use Rattle.session_laws.proofs.Permits.{same_name-same, same_some}
use Rattle.session_laws.proofs.Permitted.{accepted_in_challenged, accepted_no_decoy, permitted_live, taking}
use Rattle.session_laws.proofs.Settling.{accepts_next, decoy_reserves_none, leaves_user, reserves_live, reserves_none, unaccepted as no_reply}
use Rattle.session_table.specs.declared.rows.SessionRow.{SessionRow}
use Rattle.session_table.specs.Standing.{RowStands, account_taken, has_taken, number_by}

-- 1. An event that leaves every user as it is

state_same : (journal : List Event) (e : Event) (a : Account) → LeavesUser journal e a.name → state_by journal a ≡ state_by (journal ++ e ∷ []) a
state_same journal e a stays =
    ap (λ (rs : List ℕ). let s : AccountState = record { algo = a.algo; enabled = a.enabled; accepted = a.password ∷ rs; sequence = a.sequence - length rs; taker = session_taking (last_taking_of journal a.name); moment = taking_moment (last_taking_of journal a.name); holder = holder_of journal a.name } in s) (sym stays.replies)
    ∙ ap (λ (t : Option Event). let s : AccountState = record { algo = a.algo; enabled = a.enabled; accepted = a.password ∷ replies_of (journal ++ e ∷ []) a.name; sequence = a.sequence - length (replies_of (journal ++ e ∷ []) a.name); taker = session_taking t; moment = taking_moment t; holder = holder_of journal a.name } in s) (sym stays.taking)
    ∙ ap (λ (h : Option ℕ). let s : AccountState = record { algo = a.algo; enabled = a.enabled; accepted = a.password ∷ replies_of (journal ++ e ∷ []) a.name; sequence = a.sequence - length (replies_of (journal ++ e ∷ []) a.name); taker = session_taking (last_taking_of (journal ++ e ∷ []) a.name); moment = taking_moment (last_taking_of (journal ++ e ∷ []) a.name); holder = h } in s) (sym stays.holder)

all_same : (journal : List Event) (e : Event) (accounts : List Account) → ((user : Name) → LeavesUser journal e user) → map (state_by journal) accounts ≡ map (state_by (journal ++ e ∷ [])) accounts
all_same journal e [] stays = refl
all_same journal e (a ∷ accounts) stays =
    ap (λ (s : AccountState). s ∷ map (state_by journal) accounts) (state_same journal e a (stays a.name))
    ∙ ap (λ (states : List AccountState). state_by (journal ++ e ∷ []) a ∷ states) (all_same journal e accounts stays)

all_stay : (l : LedgerParts) (journal : List Event) (e : Event) → StandsFor l journal → ((user : Name) → LeavesUser journal e user) → StandsFor l (journal ++ e ∷ [])
all_stay l journal e st stays = record { accounts = st.accounts ∙ all_same journal e l.setup.accounts stays }

-- 2. A permitted CHALLENGE

record IsTakingOf (e : Event) (user : Name) : Type 0 where
  name : challenge_name e.ask ≡ Some user
  taken : takes_user user e ≡ true

taking_of : (e : Event) → takes e ≡ true → (user : Name) × IsTakingOf e user
taking_of e h = go e.worker e.session e.ask e.decision h where
  go : (worker session : ℕ) (ask : Ask) (d : Decision) → (is_some (challenge_name ask) && is_permit d) ≡ true → (user : Name) × IsTakingOf (record { worker = worker; session = session; ask = ask; decision = d }) user
  go worker session (asks.Challenge user now) d h = (user, record { name = refl; taken = ap (λ b. b && is_permit d) (same_name-same user) ∙ h })
  go worker session _ d h = absurd cc

taking_leaves_none : (e : Event) → takes e ≡ true → (leaves e ≡ false) × (accepts e ≡ false)
taking_leaves_none e h =
    let t = taking e h in
    (ap (λ b. b || ends_session e) t.gives_none ∙ t.goes_on, ap (λ b. b && is_permit e.decision) t.no_reply)

below_from : (value : ℕ) → nat_le DECOYS_FROM value ≡ false → nat_lt value DECOYS_FROM ≡ true
below_from value h = grind (arith, nat_tests, h)

taking_stands : (l : LedgerParts) (journal : List Event) (e : Event) → IsInRange l.setup → IsLegal l.setup journal → IsNext l.setup journal e → StandsFor l journal → takes e ≡ true → StandsFor (ledger_taking l (number_for l e) e) (journal ++ e ∷ [])
taking_stands l journal e range legal next st taken = go (nat_le DECOYS_FROM (value_of e.decision)) refl where
  quiet : (leaves e ≡ false) × (accepts e ≡ false)
  quiet = taking_leaves_none e taken

  stays : nat_le DECOYS_FROM (value_of e.decision) ≡ true → (user : Name) → LeavesUser journal e user
  stays decoy user = leaves_user l.setup journal e user legal next (decoy_reserves_none user e decoy) (no_reply journal e user quiet.1) (λ h. absurd (false≢true (sym quiet.0 ∙ h)))

  go : (b : Bool) → nat_le DECOYS_FROM (value_of e.decision) ≡ b → StandsFor (ledger_taking l (number_for l e) e) (journal ++ e ∷ [])
  go true decoy =
      let number : number_for l e ≡ length l.accounts = ap (λ b. cond b (length l.accounts) (unwrap_or (number_by l.setup (challenge_name e.ask)) (length l.accounts))) decoy in
      let test : nat_lt (number_for l e) (length l.accounts) ≡ false = grind (arith, nat_tests, number) in
      subst (λ b. StandsFor (cond b (ledger_holding l (number_for l e) e.session (moment_of e.ask)) l) (journal ++ e ∷ [])) (sym test) (all_stay l journal e st (stays decoy))
  go false real =
      let t = taking_of e taken in
      let reserved : reserves t.0 e ≡ true = and_from (takes_user t.0 e) (nat_lt (value_of e.decision) DECOYS_FROM) t.1.taken (below_from (value_of e.decision) real) in
      let live = reserves_live l.setup journal e t.0 next reserved in
      let number : number_for l e ≡ live.number =
      ap (λ b. cond b (length l.accounts) (unwrap_or (number_by l.setup (challenge_name e.ask)) (length l.accounts))) real
      ∙ ap (λ o. unwrap_or (number_by l.setup o) (length l.accounts)) t.1.name
      ∙ ap (λ o. unwrap_or o (length l.accounts)) live.numbered.number_is in
      let below : number_for l e < length l.accounts = omega (arith, number, live.numbered.below, as_many l journal st) in
      let test : nat_lt (number_for l e) (length l.accounts) ≡ true = grind (arith, nat_tests, below) in
      let own : reserves live.account.name e ≡ true = subst (λ (u : Name). reserves u e ≡ true) (sym live.numbered.named) reserved in
      subst (λ b. StandsFor (cond b (ledger_holding l (number_for l e) e.session (moment_of e.ask)) l) (journal ++ e ∷ [])) (sym test)
      (subst (λ n. StandsFor (ledger_holding l n e.session (moment_of e.ask)) (journal ++ e ∷ [])) (sym number)
      ((stands_taken l live.number e.session (moment_of e.ask) range).by_journal journal e live.account st live.numbered.stands own refl refl live.goes_on))

-- 3. A permitted REPLY

accepting_user : (setup : Settings) (row : SessionRow) (journal : List Event) (e : Event) → RowStands setup row journal e.session → IsNext setup journal e → accepts e ≡ true → IsUser setup journal e.session row.account
accepting_user setup row journal e r next accepted =
    let phase : row.phase ≡ Challenged = r.phase ∙ accepted_in_challenged setup journal e next accepted in
    user_is setup row journal e.session r (ap has_taken phase) (accepted_no_decoy setup journal e next accepted)

accepting_stands : (l : LedgerParts) (row : SessionRow) (journal : List Event) (e : Event) → IsInRange l.setup → IsLegal l.setup journal → IsNext l.setup journal e → StandsFor l journal → RowStands l.setup row journal e.session → accepts e ≡ true → StandsFor (ledger_accepting l row.account e) (journal ++ e ∷ [])
accepting_stands l row journal e range legal next st r accepted =
    let u = accepting_user l.setup row journal e r next accepted in
    let below : row.account < length l.accounts = omega (arith, u.numbered.below, as_many l journal st) in
    (stands_replied l row.account (value_of e.decision) range below).by_journal journal e u.account st u.numbered.stands accepted (u.challenged ∙ ap Some (sym u.numbered.named)) refl
    (holds_at_most l journal e.session row.account st (holds_only l.setup journal e.session row.account u.user range legal u.challenged u.numbered.number_is))

-- its password may be spent
pub spendable : (l : LedgerParts) (row : SessionRow) (journal : List Event) (e : Event) → IsLegal l.setup journal → IsNext l.setup journal e → StandsFor l journal → RowStands l.setup row journal e.session → l.spent < l.cap → accepts e ≡ true → IsSpendable l row.account (value_of e.decision)
spendable l row journal e legal next st r room accepted =
    let u = accepting_user l.setup row journal e r next accepted in
    let n = accepts_next l.setup journal e legal next accepted in
    let user : n.user ≡ u.user = same_some n.user u.user (sym n.challenged ∙ u.challenged) in
    let account : n.account ≡ u.account = same_some n.account u.account (sym n.numbered.found ∙ ap (account_of l.setup) user ∙ u.numbered.found) in
    let state : state_at l row.account ≡ state_by journal u.account = stands_at l journal row.account u.account st u.numbered.stands in
    let same : state_by journal n.account ≡ state_at l row.account = ap (state_by journal) account ∙ sym state in
    record {
      there = omega (arith, u.numbered.below, as_many l journal st);
      next = subst (λ (s : AccountState). IsNextPassword s (value_of e.decision)) same (is_next (state_by journal n.account) n.next);
      left = subst (λ (s : AccountState). 0 < s.sequence) same n.left;
      room = room;
    } where
      is_next : (s : AccountState) → (eqb (hash_of s.algo (value_of e.decision)) (current_of s) && not (was_accepted s (value_of e.decision))) ≡ true → IsNextPassword s (value_of e.decision)
      is_next s h =
          let both = and_parts (eqb (hash_of s.algo (value_of e.decision)) (current_of s)) (not (was_accepted s (value_of e.decision))) h in
          record { hashes = grind (arith, nat_tests, both.0); unused = unaccepted (was_accepted s (value_of e.decision)) both.1 } where
            unaccepted : (b : Bool) → not b ≡ true → b ≡ false
            unaccepted true h = absurd cc
            unaccepted false h = refl

-- 4. Any other event of the session

challenged_is : (p : Phase) → is_challenged p ≡ true → p ≡ Challenged
challenged_is Challenged h = refl
challenged_is _ h = absurd cc

not_challenged : (p : Phase) → is_challenged p ≡ false → p ≢ Challenged
not_challenged p h is = false≢true (sym h ∙ ap is_challenged is)

-- a session that may hold nobody holds nobody
none_held : (l : LedgerParts) (row : SessionRow) (journal : List Event) (session : ℕ) (user : Name) → IsLegal l.setup journal → StandsFor l journal → RowStands l.setup row journal session → may_hold l row ≡ false → is_holder session (holder_of journal user) ≡ false
none_held l row journal session user legal st r h = go (is_challenged row.phase) refl (nat_lt row.account (length l.accounts)) refl h where
  decoyed : row.phase ≡ Challenged → nat_lt row.account (length l.accounts) ≡ false → (b : Bool) → was_decoyed journal session ≡ b → is_holder session (holder_of journal user) ≡ false
  decoyed phase above true is = (decoyed_holds l.setup journal session legal is).none user
  decoyed phase above false is =
      let u = user_is l.setup row journal session r (ap has_taken phase) is in
      let below : nat_lt row.account (length l.accounts) ≡ true = grind (arith, nat_tests, u.numbered.below, as_many l journal st) in
      absurd (false≢true (sym above ∙ below))

  go : (a : Bool) → is_challenged row.phase ≡ a → (b : Bool) → nat_lt row.account (length l.accounts) ≡ b → (is_challenged row.phase && nat_lt row.account (length l.accounts)) ≡ false → is_holder session (holder_of journal user) ≡ false
  go false is b below h = (unchallenged_holds l.setup journal session legal (λ same. not_challenged row.phase is (r.phase ∙ same))).none user
  go true is false below h = decoyed (challenged_is row.phase is) below (was_decoyed journal session) refl
  go true is true below h = absurd (false≢true (sym h ∙ and_from (is_challenged row.phase) (nat_lt row.account (length l.accounts)) is below))

leaving_stands : (l : LedgerParts) (row : SessionRow) (journal : List Event) (e : Event) → IsInRange l.setup → IsLegal l.setup journal → IsNext l.setup journal e → StandsFor l journal → RowStands l.setup row journal e.session → takes e ≡ false → accepts e ≡ false → StandsFor (ledger_leaving l row e) (journal ++ e ∷ [])
leaving_stands l row journal e range legal next st r untaken unaccepted = go (leaves e) refl (may_hold l row) refl where
  stays : (leaves e ≡ true → may_hold l row ≡ false) → StandsFor l (journal ++ e ∷ [])
  stays none = all_stay l journal e st (λ user. leaves_user l.setup journal e user legal next (reserves_none user e untaken) (no_reply journal e user unaccepted) (λ h. none_held l row journal e.session user legal st r (none h)))

  go : (a : Bool) → leaves e ≡ a → (b : Bool) → may_hold l row ≡ b → StandsFor (cond (leaves e && may_hold l row) (ledger_releasing l row.account e.session) l) (journal ++ e ∷ [])
  go false left b may = subst (λ (x : Bool). StandsFor (cond (x && may_hold l row) (ledger_releasing l row.account e.session) l) (journal ++ e ∷ [])) (sym left) (stays (λ h. absurd (false≢true (sym left ∙ h))))
  go true left false may = subst (λ (x : Bool). StandsFor (cond x (ledger_releasing l row.account e.session) l) (journal ++ e ∷ [])) (sym (ap (λ x. x && may_hold l row) left ∙ may)) (stays (λ h. may))
  go true left true may =
      let both = and_parts (is_challenged row.phase) (nat_lt row.account (length l.accounts)) may in
      let phase = challenged_is row.phase both.0 in
      let below : row.account < length l.accounts = grind (arith, nat_tests, both.1) in
      let u = user_is l.setup row journal e.session r (ap has_taken phase) (real phase below (was_decoyed journal e.session) refl) in
      subst (λ (x : Bool). StandsFor (cond x (ledger_releasing l row.account e.session) l) (journal ++ e ∷ [])) (sym (ap (λ x. x && may_hold l row) left ∙ may))
      ((stands_left l row.account e.session below).by_journal journal e st unaccepted left refl
      (holds_at_most l journal e.session row.account st (holds_only l.setup journal e.session row.account u.user range legal u.challenged u.numbered.number_is))) where
        real : row.phase ≡ Challenged → row.account < length l.accounts → (b : Bool) → was_decoyed journal e.session ≡ b → was_decoyed journal e.session ≡ false
        real phase below false is = is
        real phase below true is =
            let number = decoy_number_is l.setup row journal e.session r (ap has_taken phase) is in
            absurd (omega (arith, number, below, as_many l journal st))

-- 5. The accounts after an event of a session, and of a worker without one

pub session_stands : (l : LedgerParts) (row : SessionRow) (journal : List Event) (e : Event) → IsInRange l.setup → IsLegal l.setup journal → IsNext l.setup journal e → StandsFor l journal → RowStands l.setup row journal e.session → StandsFor (ledger_by l row e) (journal ++ e ∷ [])
session_stands l row journal e range legal next st r = go (takes e) refl (accepts e) refl where
  go : (a : Bool) → takes e ≡ a → (b : Bool) → accepts e ≡ b → StandsFor (cond (takes e) (ledger_taking l (number_for l e) e) (cond (accepts e) (ledger_accepting l row.account e) (ledger_leaving l row e))) (journal ++ e ∷ [])
  go true taken b accepted = subst (λ (x : Bool). StandsFor (cond x (ledger_taking l (number_for l e) e) (cond (accepts e) (ledger_accepting l row.account e) (ledger_leaving l row e))) (journal ++ e ∷ [])) (sym taken) (taking_stands l journal e range legal next st taken)
  go false taken true accepted =
      subst (λ (x : Bool). StandsFor (cond x (ledger_taking l (number_for l e) e) (cond (accepts e) (ledger_accepting l row.account e) (ledger_leaving l row e))) (journal ++ e ∷ [])) (sym taken)
      (subst (λ (x : Bool). StandsFor (cond x (ledger_accepting l row.account e) (ledger_leaving l row e)) (journal ++ e ∷ [])) (sym accepted) (accepting_stands l row journal e range legal next st r accepted))
  go false taken false accepted =
      subst (λ (x : Bool). StandsFor (cond x (ledger_taking l (number_for l e) e) (cond (accepts e) (ledger_accepting l row.account e) (ledger_leaving l row e))) (journal ++ e ∷ [])) (sym taken)
      (subst (λ (x : Bool). StandsFor (cond x (ledger_accepting l row.account e) (ledger_leaving l row e)) (journal ++ e ∷ [])) (sym accepted) (leaving_stands l row journal e range legal next st r taken accepted))

-- an opening leaves every user
pub opened_stands : (l : LedgerParts) (journal : List Event) (e : Event) → IsLegal l.setup journal → IsNext l.setup journal e → StandsFor l journal → opens e ≡ true → StandsFor l (journal ++ e ∷ [])
opened_stands l journal e legal next st opened =
    let o = opening e opened in
    let left : leaves e ≡ false = no_leaving (gives_up e) (ends_session e) (is_login_step e) (takes e) o.no_step o.goes_on refl in
    all_stay l journal e st (λ user. leaves_user l.setup journal e user legal next (reserves_none user e o.takes_none) (no_reply journal e user o.accepts_none) (λ h. absurd (false≢true (sym left ∙ h)))) where
      no_leaving : (g o s t : Bool) → s ≡ false → o ≡ false → s ≡ (t || g) → (g || o) ≡ false
      no_leaving true o s true h k is = absurd cc
      no_leaving true o s false h k is = absurd cc
      no_leaving false o s t h k is = k

-- a worker without a session takes nobody, has no reply accepted, and holds nobody
record IsIdle (journal : List Event) (e : Event) : Type 0 where
  untaken : takes e ≡ false
  unaccepted : accepts e ≡ false
  unheld : (user : Name) → is_holder e.session (holder_of journal user) ≡ false

reply_by_frame : (e : Event) → accepts e ≡ true → (came_by_frame e.ask ≡ true) × (is_permit e.decision ≡ true)
reply_by_frame e h = go e.ask e.decision h where
  go : (ask : Ask) (d : Decision) → (is_reply ask && is_permit d) ≡ true → (came_by_frame ask ≡ true) × (is_permit d ≡ true)
  go (asks.Reply words hex) d h = (refl, h)
  go _ d h = absurd cc

idle : (setup : Settings) (journal : List Event) (e : Event) → IsLegal setup journal → IsNext setup journal e → e.session ≡ 0 → IsIdle journal e
idle setup journal e legal next zero = record {
  untaken = false_from_ne_true (takes e) (λ h. (let t = taking e h in none (permitted_live setup journal e next t.by_frame t.permitted).some));
  unaccepted = false_from_ne_true (accepts e) (λ h. (let r = reply_by_frame e h in none (permitted_live setup journal e next r.0 r.1).some));
  unheld = (unchallenged_holds setup journal e.session legal over).none;
} where
  none : eqb e.session 0 ≡ false → ⊥
  none h = let is : eqb e.session 0 ≡ true = grind (arith, nat_tests, zero) in false≢true (sym h ∙ is)

  over : phase_of journal e.session ≢ Challenged
  over h = let wrong : Over ≡ Challenged = sym (phase_of-zero setup journal legal) ∙ ap (phase_of journal) (sym zero) ∙ h in absurd cc

pub idle_stands : (l : LedgerParts) (journal : List Event) (e : Event) → IsLegal l.setup journal → IsNext l.setup journal e → StandsFor l journal → e.session ≡ 0 → StandsFor l (journal ++ e ∷ [])
idle_stands l journal e legal next st zero =
    let i = idle l.setup journal e legal next zero in
    all_stay l journal e st (λ user. leaves_user l.setup journal e user legal next (reserves_none user e i.untaken) (no_reply journal e user i.unaccepted) (λ h. i.unheld user))

-- the account that an event's CHALLENGE is for
pub number_taken : (l : LedgerParts) (journal : List Event) (e : Event) → IsNext l.setup journal e → StandsFor l journal → takes e ≡ true → account_taken l.setup e ≡ Some (number_for l e)
number_taken l journal e next st taken = go (nat_le DECOYS_FROM (value_of e.decision)) refl where
  many : length l.accounts ≡ length l.setup.accounts
  many = as_many l journal st

  go : (b : Bool) → nat_le DECOYS_FROM (value_of e.decision) ≡ b → account_taken l.setup e ≡ Some (number_for l e)
  go true decoy =
      ap (λ b. cond b (Some (length l.setup.accounts)) (number_by l.setup (challenge_name e.ask))) decoy
      ∙ ap Some (sym many)
      ∙ sym (ap (λ b. Some (cond b (length l.accounts) (unwrap_or (number_by l.setup (challenge_name e.ask)) (length l.accounts)))) decoy)
  go false real =
      let t = taking_of e taken in
      let reserved : reserves t.0 e ≡ true = and_from (takes_user t.0 e) (nat_lt (value_of e.decision) DECOYS_FROM) t.1.taken (below_from (value_of e.decision) real) in
      let live = reserves_live l.setup journal e t.0 next reserved in
      let number : number_by l.setup (challenge_name e.ask) ≡ Some live.number = ap (number_by l.setup) t.1.name ∙ live.numbered.number_is in
      ap (λ b. cond b (Some (length l.setup.accounts)) (number_by l.setup (challenge_name e.ask))) real
      ∙ number
      ∙ sym (ap (λ b. Some (cond b (length l.accounts) (unwrap_or (number_by l.setup (challenge_name e.ask)) (length l.accounts)))) real ∙ ap (λ o. Some (unwrap_or o (length l.accounts))) number)
