-- A core goes on by the event that follows.
use Rattle.std.proofs.Common.{◌≡◌, ◌≢◌, ℕ, zero, suc, ◌+◌, ◌-◌, ◌^◌, ◌<◌, ◌≤◌, Bool, true, false, ◌&&◌, cond, nat_lt, List, [], ◌∷◌, ◌++◌, length, Option, Some, None, refl, sym, ap, subst, ◌∙◌, arith, inl, inr, ◌⊎◌}
use Rattle.std.specs.Prelude.{is_none, is_some}
use Rattle.std.specs.List.{AllByRecursion}
use Rattle.std.proofs.lemmas.Bool.{and_parts, cases_eq, false≢true}
use Rattle.std.proofs.lemmas.List.{length-append}
use Rattle.otp_ledger.specs.Accounts.{LedgerParts, ledger_holding, ledger_releasing, new_ledger}
use Rattle.otp_ledger.specs.Standing.{StandsFor}
use Rattle.otp_ledger.proofs.StandingLemmas.{new_stands}
use Rattle.policy_model.specs.declared.event.Ask.{Ask}
use Rattle.policy_model.specs.declared.event.Ask.TheVariants as asks
use Rattle.policy_model.specs.declared.event.Decision.{Decision}
use Rattle.policy_model.specs.declared.event.Event.{Event}
use Rattle.policy_model.specs.declared.phase.Phase.{Phase}
use Rattle.policy_model.specs.declared.phase.Phase.TheVariants.{Challenged}
use Rattle.policy_model.specs.Asks.{accepts, is_begin, is_end, is_lost, is_permit, leaves, moment_of, opens, takes}
use Rattle.policy_model.specs.Cases.{is_reply}
use Rattle.policy_model.specs.Journal.{open_session_of}
use Rattle.policy_model.specs.Legal.{IsLegal, IsNext, next_event}
use Rattle.policy_model.specs.Runs.{IsOfWorker}
use Rattle.policy_model.specs.Settings.{IsInRange, Settings}
use Rattle.policy_model.specs.Verdict.{verdict_of}
use Rattle.policy_model.proofs.Legal.{IsLegal-none, IsLegal-push}
use Rattle.policy_model.proofs.Runs.{has_lost-push, next_decision, next_session}
use Rattle.policy_model.proofs.Verdicts.{denied_begin, denied_end}
use Rattle.session_core.specs.Deciding.{core_decision, worker_decision}
use Rattle.session_core.specs.Parts.{CoreParts, row_of}
use Rattle.session_core.specs.Settling.{core_after, core_event, grant_for, ledger_accepting, ledger_after, may_hold, number_for, session_at, table_next}
use Rattle.session_core.specs.Standing.{FitsAccounts, FitsRows, HasJournal, IsCore, Stands, early_rows, phase_at}
use Rattle.session_core.proofs.DecideLemmas.{core_decides}
use Rattle.session_core.proofs.GrantLemmas.{grant_found}
use Rattle.session_core.proofs.SettleLemmas.{idle_stands, number_taken, opened_stands, session_stands, spendable}
use Rattle.session_laws.specs.Rooms.{login_room, may_log_in}
use Rattle.session_laws.proofs.Judging.{event_is}
use Rattle.session_laws.proofs.NextEvents.{next_event_follows, next_event_kept, workers_go_on}
use Rattle.session_laws.proofs.Opened.{opening}
use Rattle.session_laws.proofs.Openings.{openings_few, session_own}
use Rattle.session_laws.proofs.Permitted.{accepted_in_challenged}
use Rattle.session_laws.proofs.Rooms.{accepted_late, log_in_falls, room_for_one, room_push}
use Rattle.session_laws.specs.Phased.{phase_after}
use Rattle.session_table.specs.declared.rows.SessionRow.{SessionRow}
use Rattle.session_table.specs.Rows.{new_row}
use Rattle.session_table.specs.Standing.{RowStands}
use Rattle.session_table.specs.Tables.{Follows, NamesFound, TableParts, TableStands, WorkerStands, new_table, row_at, table_after, table_begun, table_ended, worker_after}
use Rattle.session_table.proofs.FitLemmas.{fits_worker}
use Rattle.session_table.proofs.TableLemmas.{stands_begun, stands_ended, stands_kept, table_new}

-- 1. The event of an ask

session_is : (setup : Settings) (o : Option SessionRow) (journal : List Event) (session : ℕ) → WorkerStands setup o journal session → session_at o ≡ session
session_is setup None journal session w = sym w
session_is setup (Some row) journal session w = w.1.session

pub worker_session : (core : CoreParts) (journal : List Event) (worker : ℕ) → Stands core journal → worker < core.ledger.setup.workers → session_at (row_of core worker) ≡ open_session_of journal worker
worker_session core journal worker st lt = session_is core.ledger.setup (row_of core worker) journal (open_session_of journal worker) (st.rows.rows worker lt)

pub core_event_is : (core : CoreParts) (journal : List Event) (worker : ℕ) (ask : Ask) (decision : Decision) → Stands core journal → worker < core.ledger.setup.workers → decision ≡ verdict_of core.ledger.setup journal worker ask → core_event core worker ask decision ≡ next_event core.ledger.setup journal worker ask
core_event_is core journal worker ask decision st lt decided =
    event_is core.ledger.setup journal worker (session_at (row_of core worker)) core.table.begun ask decision (worker_session core journal worker st lt) st.rows.begun decided

-- 2. What holds of the event that follows

pub record IsFollowing (core : CoreParts) (journal : List Event) (e : Event) : Type 0 where
  pub stands : Stands core journal
  pub below : e.worker < core.ledger.setup.workers
  pub next : IsNext core.ledger.setup journal e
  pub kept : is_lost e.decision ≡ false
  pub few : core.settled < 2 ^ 32 - 1

pub following : (core : CoreParts) (journal : List Event) (worker : ℕ) (ask : Ask) (e : Event) → Stands core journal → worker < core.ledger.setup.workers → core.settled < 2 ^ 32 - 1 → e ≡ next_event core.ledger.setup journal worker ask → IsFollowing core journal e
following core journal worker ask e st lt few is = record {
  stands = st;
  below = subst (λ (x : Event). x.worker < core.ledger.setup.workers) (sym is) lt;
  next = subst (λ (x : Event). IsNext core.ledger.setup journal x) (sym is) (next_event_follows core.ledger.setup journal worker ask st.kept);
  kept = subst (λ (x : Event). is_lost x.decision ≡ false) (sym is) (next_event_kept core.ledger.setup journal worker ask);
  few = few;
}

-- an opening is permitted where the worker has no session, an end where it has one
opens_idle : (setup : Settings) (journal : List Event) (e : Event) → IsNext setup journal e → is_lost e.decision ≡ false → opens e ≡ true → open_session_of journal e.worker ≡ 0
opens_idle setup journal e next kept opened = go e.ask opened (next_decision setup journal e next kept) (cases_eq (open_session_of journal e.worker) 0) where
  go : (ask : Ask) → (is_begin ask && is_permit e.decision) ≡ true → e.decision ≡ verdict_of setup journal e.worker ask → (open_session_of journal e.worker ≡ 0) ⊎ (open_session_of journal e.worker ≢ 0) → open_session_of journal e.worker ≡ 0
  go asks.Begin h is (inl none) = none
  go asks.Begin h is (inr some) = absurd (false≢true (sym (ap is_permit (is ∙ denied_begin setup journal e.worker some)) ∙ h))
  go _ h is some = absurd cc

ends_open : (setup : Settings) (journal : List Event) (e : Event) → IsNext setup journal e → is_lost e.decision ≡ false → (is_end e.ask && is_permit e.decision) ≡ true → open_session_of journal e.worker ≢ 0
ends_open setup journal e next kept ended none = go e.ask ended (next_decision setup journal e next kept) where
  go : (ask : Ask) → (is_end ask && is_permit e.decision) ≡ true → e.decision ≡ verdict_of setup journal e.worker ask → ⊥
  go (asks.End why) h is = false≢true (sym (ap is_permit (is ∙ denied_end setup journal e.worker why none)) ∙ h)
  go _ h is = absurd cc

own_session : (core : CoreParts) (journal : List Event) (e : Event) → IsFollowing core journal e → opens e ≡ false → e.session ≡ open_session_of journal e.worker
own_session core journal e f closed = session_own journal e (next_session core.ledger.setup journal e f.next) f.kept closed

-- the row of the event's session
row_stands : (core : CoreParts) (journal : List Event) (e : Event) (row : SessionRow) → IsFollowing core journal e → opens e ≡ false → row_at core.table e.worker ≡ Some row → RowStands core.ledger.setup row journal e.session
row_stands core journal e row f closed at = subst (λ s. RowStands core.ledger.setup row journal s) (sym (own_session core journal e f closed)) (go (row_at core.table e.worker) at (f.stands.rows.rows e.worker f.below)) where
  go : (o : Option SessionRow) → o ≡ Some row → WorkerStands core.ledger.setup o journal (open_session_of journal e.worker) → RowStands core.ledger.setup row journal (open_session_of journal e.worker)
  go None is w = absurd cc
  go (Some found) is w = let same : found ≡ row = cc in subst (λ (r : SessionRow). RowStands core.ledger.setup r journal (open_session_of journal e.worker)) same w.1

no_row : (setup : Settings) (o : Option SessionRow) (journal : List Event) (session : ℕ) → WorkerStands setup o journal session → session ≡ 0 → o ≡ None
no_row setup None journal session w none = refl
no_row setup (Some row) journal session w none = absurd (w.0 none)

-- the worker of an opening has no row
opens_without : (core : CoreParts) (journal : List Event) (e : Event) → IsFollowing core journal e → opens e ≡ true → row_at core.table e.worker ≡ None
opens_without core journal e f opened = no_row core.ledger.setup (row_at core.table e.worker) journal (open_session_of journal e.worker) (f.stands.rows.rows e.worker f.below) (opens_idle core.ledger.setup journal e f.next f.kept opened)

accepts_closed : (e : Event) → accepts e ≡ true → opens e ≡ false
accepts_closed e h = go (opens e) refl where
  go : (b : Bool) → opens e ≡ b → b ≡ false
  go false is = refl
  go true is = absurd (false≢true (sym (opening e is).accepts_none ∙ h))

-- 3. What the calls for the event require

accepting_room : (core : CoreParts) (journal : List Event) (e : Event) (row : SessionRow) → IsCore core → IsFollowing core journal e → row_at core.table e.worker ≡ Some row → accepts e ≡ true → core.ledger.spent < core.ledger.cap
accepting_room core journal e row c f at accepted =
    let r = row_stands core journal e row f (accepts_closed e accepted) at in
    let phase : phase_at (row_at core.table e.worker) ≡ Challenged = ap phase_at at ∙ r.phase ∙ accepted_in_challenged core.ledger.setup journal e f.next accepted in
    let room : core.ledger.spent < core.table.begun = room_for_one phase_at core.table.rows e.worker None None core.ledger.spent core.table.begun (omega (arith, f.below, f.stands.rows.workers)) c.room refl phase in
    omega (arith, room, c.within)

pub fits_accounts : (core : CoreParts) (journal : List Event) (e : Event) → IsCore core → IsFollowing core journal e → FitsAccounts core.ledger (row_of core e.worker) e
fits_accounts core journal e c f = record {
  spends = λ row at accepted. spendable core.ledger row journal e f.stands.legal f.next f.stands.accounts (row_stands core journal e row f (accepts_closed e accepted) at) (accepting_room core journal e row c f at accepted) accepted;
}

has_row : (setup : Settings) (o : Option SessionRow) (journal : List Event) (session : ℕ) → WorkerStands setup o journal session → session ≢ 0 → is_some o ≡ true
has_row setup None journal session w some = absurd (some w)
has_row setup (Some row) journal session w some = refl

pub fits_rows : (core : CoreParts) (journal : List Event) (e : Event) → IsFollowing core journal e → FitsRows core.table e
fits_rows core journal e f = record {
  worker = omega (arith, f.below, f.stands.rows.workers);
  idle = λ opened. ap is_none (opens_without core journal e f opened);
  few = λ opened. omega (arith, f.few, f.stands.settled, f.stands.rows.begun, openings_few journal);
  there = λ ended. has_row core.ledger.setup (row_at core.table e.worker) journal (open_session_of journal e.worker) (f.stands.rows.rows e.worker f.below) (ends_open core.ledger.setup journal e f.next f.kept ended);
  fits = λ closed. fits_worker core.ledger.setup core.table journal e f.stands.rows f.next f.kept closed f.below (omega (arith, f.few, f.stands.settled));
}

-- 4. What stays of the ledger

record KeepsRest (old new : LedgerParts) (accepted : Bool) : Type 0 where
  setup_is : new.setup ≡ old.setup
  cap_is : new.cap ≡ old.cap
  spent_is : new.spent ≤ old.spent + cond accepted 1 0

rest_kept : (l : LedgerParts) (o : Option SessionRow) (e : Event) → KeepsRest l (ledger_after l o e) (accepts e)
rest_kept l None e = record { setup_is = refl; cap_is = refl; spent_is = omega arith }
rest_kept l (Some row) e = go (takes e) (nat_lt (number_for l e) (length l.accounts)) (accepts e) (leaves e && may_hold l row) where
  go : (t n a v : Bool) → KeepsRest l (cond t (cond n (ledger_holding l (number_for l e) e.session (moment_of e.ask)) l) (cond a (ledger_accepting l row.account e) (cond v (ledger_releasing l row.account e.session) l))) a
  go true true a v = record { setup_is = refl; cap_is = refl; spent_is = omega arith }
  go true false a v = record { setup_is = refl; cap_is = refl; spent_is = omega arith }
  go false n true v = record { setup_is = refl; cap_is = refl; spent_is = omega arith }
  go false n false true = record { setup_is = refl; cap_is = refl; spent_is = omega arith }
  go false n false false = record { setup_is = refl; cap_is = refl; spent_is = omega arith }

pub same_setup : (l : LedgerParts) (o : Option SessionRow) (e : Event) → (ledger_after l o e).setup ≡ l.setup
same_setup l o e = (rest_kept l o e).setup_is

pub same_cap : (l : LedgerParts) (o : Option SessionRow) (e : Event) → (ledger_after l o e).cap ≡ l.cap
same_cap l o e = (rest_kept l o e).cap_is

-- 5. The core after the event

accounts_stand : (core : CoreParts) (journal : List Event) (e : Event) → IsCore core → IsFollowing core journal e → StandsFor (ledger_after core.ledger (row_of core e.worker) e) (journal ++ e ∷ [])
accounts_stand core journal e c f = go (row_at core.table e.worker) refl (f.stands.rows.rows e.worker f.below) (opens e) refl where
  l : LedgerParts
  l = core.ledger

  go : (o : Option SessionRow) → row_at core.table e.worker ≡ o → WorkerStands l.setup o journal (open_session_of journal e.worker) → (b : Bool) → opens e ≡ b → StandsFor (ledger_after l o e) (journal ++ e ∷ [])
  go None at w true opened = opened_stands l journal e f.stands.legal f.next f.stands.accounts opened
  go None at w false closed = idle_stands l journal e f.stands.legal f.next f.stands.accounts (own_session core journal e f closed ∙ w)
  go (Some row) at w true opened = absurd (w.0 (opens_idle l.setup journal e f.next f.kept opened))
  go (Some row) at w false closed = session_stands l row journal e c.in_range f.stands.legal f.next f.stands.accounts (row_stands core journal e row f closed at)

names_found : (core : CoreParts) (journal : List Event) (e : Event) → IsFollowing core journal e → opens e ≡ false → NamesFound core.ledger.setup (row_of core e.worker) e (number_for core.ledger e) (grant_for core.ledger.setup (row_of core e.worker) e)
names_found core journal e f closed = record {
  names = λ row at. record {
    taking = λ taken. number_taken core.ledger journal e f.next f.stands.accounts taken;
    opening = λ opened. grant_found core.ledger.setup row journal e (row_stands core journal e row f closed at) f.next opened ∙ sym (ap (λ o. Some (grant_for core.ledger.setup o e)) at);
  };
}

rows_stand : (core : CoreParts) (journal : List Event) (e : Event) → IsFollowing core journal e → TableStands core.ledger.setup (core_after core e).table (journal ++ e ∷ [])
rows_stand core journal e f = go (opens e) refl (is_end e.ask && is_permit e.decision) refl where
  number : ℕ
  number = number_for core.ledger e

  grant : ℕ
  grant = grant_for core.ledger.setup (row_of core e.worker) e

  within : e.worker < length core.table.rows
  within = omega (arith, f.below, f.stands.rows.workers)

  follows : Follows core.ledger.setup journal e.worker e
  follows = record { by = refl; next = f.next; kept = f.kept }

  go : (a : Bool) → opens e ≡ a → (b : Bool) → (is_end e.ask && is_permit e.decision) ≡ b → TableStands core.ledger.setup (cond (opens e) (table_begun core.table e.worker) (cond (is_end e.ask && is_permit e.decision) (table_ended core.table e.worker) (table_after core.table e.worker e number grant))) (journal ++ e ∷ [])
  go true opened b ended = subst (λ (x : Bool). TableStands core.ledger.setup (cond x (table_begun core.table e.worker) (cond (is_end e.ask && is_permit e.decision) (table_ended core.table e.worker) (table_after core.table e.worker e number grant))) (journal ++ e ∷ [])) (sym opened) ((stands_begun core.table e.worker within).by_journal core.ledger.setup journal e f.stands.rows follows opened)
  go false closed true ended =
      let both = and_parts (is_end e.ask) (is_permit e.decision) ended in
      subst (λ (x : Bool). TableStands core.ledger.setup (cond x (table_begun core.table e.worker) (cond (is_end e.ask && is_permit e.decision) (table_ended core.table e.worker) (table_after core.table e.worker e number grant))) (journal ++ e ∷ [])) (sym closed)
      (subst (λ (x : Bool). TableStands core.ledger.setup (cond x (table_ended core.table e.worker) (table_after core.table e.worker e number grant)) (journal ++ e ∷ [])) (sym ended) ((stands_ended core.table e.worker within).by_journal core.ledger.setup journal e f.stands.rows follows both.0 both.1))
  go false closed false unended =
      subst (λ (x : Bool). TableStands core.ledger.setup (cond x (table_begun core.table e.worker) (cond (is_end e.ask && is_permit e.decision) (table_ended core.table e.worker) (table_after core.table e.worker e number grant))) (journal ++ e ∷ [])) (sym closed)
      (subst (λ (x : Bool). TableStands core.ledger.setup (cond x (table_ended core.table e.worker) (table_after core.table e.worker e number grant)) (journal ++ e ∷ [])) (sym unended) ((stands_kept core.table e.worker e number grant within).by_journal core.ledger.setup journal f.stands.rows follows closed unended (names_found core journal e f closed)))

pub stands_push : (core : CoreParts) (journal : List Event) (e : Event) → IsCore core → IsFollowing core journal e → Stands (core_after core e) (journal ++ e ∷ [])
stands_push core journal e c f =
    let same : core.ledger.setup ≡ (ledger_after core.ledger (row_of core e.worker) e).setup = sym (same_setup core.ledger (row_of core e.worker) e) in
    record {
      legal = subst (λ (s : Settings). IsLegal s (journal ++ e ∷ [])) same (IsLegal-push core.ledger.setup journal e f.stands.legal f.next);
      kept = has_lost-push journal e ∙ rw (f.stands.kept, f.kept) refl;
      workers = subst (λ (s : Settings). AllByRecursion (IsOfWorker s) (journal ++ e ∷ [])) same (workers_go_on core.ledger.setup journal e f.stands.workers f.below);
      settled = ap (λ n. n + 1) f.stands.settled ∙ sym (length-append journal (e ∷ []));
      rows = subst (λ (s : Settings). TableStands s (core_after core e).table (journal ++ e ∷ [])) same (rows_stand core journal e f);
      accounts = accounts_stand core journal e c f;
    }

-- 6. Room for the passwords that are still to come

room_own : (spent spent_then begun accepted late early : ℕ) → spent_then ≤ spent + accepted → accepted + late ≤ early → spent_then + late + begun ≤ spent + early + begun
room_own spent spent_then begun accepted late early a b = omega (arith, a, b)

-- the row of the session that has one event more
row_room : (p : Phase) (e : Event) → (accepts e ≡ true → p ≡ Challenged) → cond (accepts e) 1 0 + cond (may_log_in (phase_after p e)) 1 0 ≤ cond (may_log_in p) 1 0
row_room p e h = go (accepts e) refl where
  go : (a : Bool) → accepts e ≡ a → cond a 1 0 + cond (may_log_in (phase_after p e)) 1 0 ≤ cond (may_log_in p) 1 0
  go false is = omega (arith, log_in_falls p e)
  go true is =
      let late : ◌≡◌ {A = ℕ} (cond (may_log_in (phase_after p e)) 1 0) 0 = ap (λ b. cond b 1 0) (accepted_late p e is) in
      let early : ◌≡◌ {A = ℕ} (cond (may_log_in p) 1 0) 1 = ap (λ (q : Phase). cond (may_log_in q) 1 0) (h is) in
      omega (arith, late, early)

opens_accepts_none : (e : Event) → opens e ≡ true → accepts e ≡ false
opens_accepts_none e h = (opening e h).accepts_none

ends_accepts_none : (e : Event) → is_end e.ask ≡ true → accepts e ≡ false
ends_accepts_none e h = go e.ask h where
  go : (ask : Ask) → is_end ask ≡ true → (is_reply ask && is_permit e.decision) ≡ false
  go (asks.End why) h = refl
  go _ h = absurd cc

-- the worker's row, the passwords spent and the sessions opened, each before and after
worker_room : (core : CoreParts) (journal : List Event) (e : Event) (number grant : ℕ) → IsFollowing core journal e → opens e ≡ false → (o : Option SessionRow) → row_at core.table e.worker ≡ o → (ledger_after core.ledger o e).spent + login_room phase_at (worker_after o e number grant) + core.table.begun ≤ core.ledger.spent + login_room phase_at o + core.table.begun
worker_room core journal e number grant f closed None at = omega arith
worker_room core journal e number grant f closed (Some row) at =
    let r = row_stands core journal e row f closed at in
    let k = rest_kept core.ledger (Some row) e in
    room_own core.ledger.spent (ledger_after core.ledger (Some row) e).spent core.table.begun (cond (accepts e) 1 0) (cond (may_log_in (phase_after row.phase e)) 1 0) (cond (may_log_in row.phase) 1 0) k.spent_is
    (row_room row.phase e (λ accepted. r.phase ∙ accepted_in_challenged core.ledger.setup journal e f.next accepted))

spent_same : (l : LedgerParts) (o : Option SessionRow) (e : Event) → accepts e ≡ false → (ledger_after l o e).spent ≤ l.spent
spent_same l o e h = let k = rest_kept l o e in omega (arith, k.spent_is, ap (λ (b : Bool). let n : ℕ = cond b 1 0 in n) h)

room_goes_on : (core : CoreParts) (journal : List Event) (e : Event) → IsCore core → IsFollowing core journal e → (opens e ≡ true → core.table.begun < core.ledger.cap) → ((core_after core e).ledger.spent + early_rows (core_after core e).table ≤ (core_after core e).table.begun) × ((core_after core e).table.begun ≤ core.ledger.cap)
room_goes_on core journal e c f room = go (opens e) refl (is_end e.ask && is_permit e.decision) refl where
  number : ℕ
  number = number_for core.ledger e

  grant : ℕ
  grant = grant_for core.ledger.setup (row_of core e.worker) e

  spent_then : ℕ
  spent_then = (ledger_after core.ledger (row_of core e.worker) e).spent

  opened_row : Option SessionRow
  opened_row = Some (new_row (core.table.begun + 1))

  one : login_room phase_at opened_row ≡ 1
  one = refl

  nothing : login_room phase_at None ≡ 0
  nothing = refl

  within : e.worker < length core.table.rows
  within = omega (arith, f.below, f.stands.rows.workers)

  next : Bool → Bool → TableParts
  next a b = cond a (table_begun core.table e.worker) (cond b (table_ended core.table e.worker) (table_after core.table e.worker e number grant))

  Goes : TableParts → Type 0
  Goes t = (spent_then + early_rows t ≤ t.begun) × (t.begun ≤ core.ledger.cap)

  go : (a : Bool) → opens e ≡ a → (b : Bool) → (is_end e.ask && is_permit e.decision) ≡ b → Goes (next (opens e) (is_end e.ask && is_permit e.decision))
  go true opened b ended = subst (λ (x : Bool). Goes (next x (is_end e.ask && is_permit e.decision))) (sym opened) (
    room_push phase_at core.table.rows e.worker opened_row None core.ledger.spent spent_then core.table.begun (core.table.begun + 1) within c.room
        (omega (arith, one, spent_same core.ledger (row_of core e.worker) e (opens_accepts_none e opened))),
    omega (arith, room opened),
  )
  go false closed true ended = subst (λ (x : Bool). Goes (next x (is_end e.ask && is_permit e.decision))) (sym closed) (subst (λ (x : Bool). Goes (next false x)) (sym ended) (
    room_push phase_at core.table.rows e.worker None None core.ledger.spent spent_then core.table.begun core.table.begun within c.room
        (omega (arith, nothing, spent_same core.ledger (row_of core e.worker) e (ends_accepts_none e (and_parts (is_end e.ask) (is_permit e.decision) ended).0))),
    c.within,
  ))
  go false closed false unended = subst (λ (x : Bool). Goes (next x (is_end e.ask && is_permit e.decision))) (sym closed) (subst (λ (x : Bool). Goes (next false x)) (sym unended) (
    room_push phase_at core.table.rows e.worker (worker_after (row_at core.table e.worker) e number grant) None core.ledger.spent spent_then core.table.begun core.table.begun within c.room
        (worker_room core journal e number grant f closed (row_at core.table e.worker) refl),
    c.within,
  ))

pub core_push : (core : CoreParts) (journal : List Event) (e : Event) → IsCore core → IsFollowing core journal e → (opens e ≡ true → core.table.begun < core.ledger.cap) → IsCore (core_after core e)
core_push core journal e c f room =
    let goes = room_goes_on core journal e c f room in
    record {
      in_range = subst IsInRange (sym (same_setup core.ledger (row_of core e.worker) e)) c.in_range;
      room = goes.0;
      within = subst (λ n. (core_after core e).table.begun ≤ n) (sym (same_cap core.ledger (row_of core e.worker) e)) goes.1;
    }

pub journal_push : (core : CoreParts) (journal : List Event) (e : Event) → IsCore core → IsFollowing core journal e → (opens e ≡ true → core.table.begun < core.ledger.cap) → HasJournal (core_after core e)
journal_push core journal e c f room = record { core_is = core_push core journal e c f room; journal = journal ++ e ∷ []; stands = stands_push core journal e c f }

-- 7. Before the first event

pub stands_none : (setup : Settings) (cap : ℕ) → Stands (record { ledger = new_ledger setup cap; table = new_table setup.workers; settled = 0 }) []
stands_none setup cap = record { legal = IsLegal-none setup; kept = refl; workers = tt; settled = refl; rows = table_new setup; accounts = new_stands setup cap }

pub journal_none : (setup : Settings) (cap : ℕ) → IsInRange setup → HasJournal (record { ledger = new_ledger setup cap; table = new_table setup.workers; settled = 0 })
journal_none setup cap range = record { core_is = record { in_range = range; room = empty setup.workers; within = omega arith }; journal = []; stands = stands_none setup cap } where
  empty : (n : ℕ) → 0 + early_rows (new_table n) ≤ 0
  empty zero = omega arith
  empty (suc n) = empty n

-- 8. What a call has at hand, of the core's fields and of the core

pub core_after_is : (core : CoreParts) (e : Event) (ledger : LedgerParts) (table : TableParts) → ledger ≡ ledger_after core.ledger (row_of core e.worker) e → table ≡ table_next core.table e (number_for core.ledger e) (grant_for core.ledger.setup (row_of core e.worker) e) → ◌≡◌ {A = CoreParts} (record { ledger = ledger; table = table; settled = core.settled + 1 }) (core_after core e)
core_after_is core e ledger table l t =
    ap (λ (x : LedgerParts). let c : CoreParts = record { ledger = x; table = table; settled = core.settled + 1 } in c) l
    ∙ ap (λ (x : TableParts). let c : CoreParts = record { ledger = ledger_after core.ledger (row_of core e.worker) e; table = x; settled = core.settled + 1 } in c) t

-- what a core makes of an ask is the event that follows
pub next_is : (core : CoreParts) (journal : List Event) (worker : ℕ) (ask : Ask) (e : Event) → Stands core journal → worker < core.ledger.setup.workers → e ≡ core_event core worker ask (core_decision core worker ask) → e ≡ next_event core.ledger.setup journal worker ask
next_is core journal worker ask e st lt is =
    is ∙ core_event_is core journal worker ask (core_decision core worker ask) st lt (core_decides core journal worker ask st lt)

pub own_next : (core : CoreParts) (journal : List Event) (worker : ℕ) (ask : Ask) (e : Event) → Stands core journal → worker < core.ledger.setup.workers → e ≡ core_event core worker ask (core_decision core worker ask) → e ≡ next_event core.ledger.setup journal e.worker e.ask
own_next core journal worker ask e st lt is =
    next_is core journal worker ask e st lt is
    ∙ ap (λ n. next_event core.ledger.setup journal n ask) (sym (ap (λ (x : Event). x.worker) is))
    ∙ ap (next_event core.ledger.setup journal e.worker) (sym (ap (λ (x : Event). x.ask) is))

pub event_following : (core seen : CoreParts) (journal : List Event) (e : Event) → core ≡ seen → Stands core journal → e.worker < seen.ledger.setup.workers → seen.settled < 2 ^ 32 - 1 → ((xs : List Event) → Stands seen xs → e ≡ next_event seen.ledger.setup xs e.worker e.ask) → IsFollowing core journal e
event_following core seen journal e same st lt few next =
    let there : Stands seen journal = subst (λ (x : CoreParts). Stands x journal) same st in
    subst (λ (x : CoreParts). IsFollowing x journal e) (sym same) (following seen journal e.worker e.ask e there lt few (next journal there))

pub opening_room : (core seen : CoreParts) (e : Event) → core ≡ seen → (opens e ≡ true → seen.table.begun < seen.ledger.cap) → opens e ≡ true → core.table.begun < core.ledger.cap
opening_room core seen e same room opened = subst (λ (x : CoreParts). x.table.begun < x.ledger.cap) (sym same) (room opened)

-- an opening is permitted where the worker has no row
pub begins_idle : (core : CoreParts) (worker : ℕ) (ask : Ask) (e : Event) → e ≡ core_event core worker ask (core_decision core worker ask) → opens e ≡ true → (is_begin ask && is_none (row_of core worker)) ≡ true
begins_idle core worker ask e is h = go (row_of core worker) ask (sym (ap opens is) ∙ h) where
  go : (o : Option SessionRow) (a : Ask) → (is_begin a && is_permit (worker_decision core.ledger core.table.begun o a)) ≡ true → (is_begin a && is_none o) ≡ true
  go None asks.Begin h = refl
  go (Some row) asks.Begin h = absurd cc
  go o _ h = absurd cc
