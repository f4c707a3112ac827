-- What a core that stands for a journal decides is the policy's verdict.
use Rattle.std.proofs.Common.{◌≡◌, ◌≢◌, ℕ, ◌+◌, ◌<◌, Bool, true, false, not, ◌&&◌, cond, eqb, List, length, nat_eq, nat_le, Option, Some, None, refl, sym, ap, ◌∙◌, arith}
use Rattle.std.specs.Prelude.{unwrap_or}
use Rattle.std.specs.List.{list_any}
use Rattle.request_catalogue.specs.declared.kind.Kind.{Kind}
use Rattle.request_catalogue.specs.declared.kind.Kind.TheVariants as kinds
use Rattle.request_catalogue.specs.declared.rules.TheConstants.{ASKS_SPENT, NO_INFORMATION, NOT_IN_PHASE, ONCE_ONLY, TRIES_SPENT}
use Rattle.request_catalogue.specs.declared.texts.Label.{Label}
use Rattle.request_catalogue.specs.declared.texts.Name.{Name}
use Rattle.otp_ledger.specs.Accounts.{AccountState, LedgerParts}
use Rattle.otp_ledger.specs.Decisions.{challenge_decision}
use Rattle.otp_ledger.specs.Standing.{StandsFor}
use Rattle.otp_ledger.proofs.StandingLemmas.{challenge_stands, reply_stands, stands_at}
use Rattle.policy_model.specs.declared.event.Ask.{Ask}
use Rattle.policy_model.specs.declared.event.Ask.TheVariants as asks
use Rattle.policy_model.specs.declared.event.Decision.{Decision}
use Rattle.policy_model.specs.declared.event.Decision.TheVariants.{Permit, Deny}
use Rattle.policy_model.specs.declared.event.Event.{Event}
use Rattle.policy_model.specs.declared.phase.Phase.{Phase}
use Rattle.policy_model.specs.declared.phase.Phase.TheVariants.{Pre, Challenged, Verified, User, Over}
use Rattle.policy_model.specs.Asks.{came_by_frame, is_denied_reply, request_number}
use Rattle.policy_model.specs.Journal.{count_of, open_session_of, openings_of}
use Rattle.policy_model.specs.Logins.{account_of, challenged_user, verified_user, was_decoyed}
use Rattle.policy_model.specs.Phases.{table_row}
use Rattle.policy_model.specs.Settings.{Settings}
use Rattle.policy_model.specs.Verdict.{account_verdict, challenge_verdict, decoy_verdict, info_verdict, kind_verdict, open_verdict, readings, reply_verdict, request_verdict, user_verdict, verdict_of}
use Rattle.policy_model.proofs.Verdicts.{denied_begin, denied_end, verdict_of-begin, verdict_of-end, verdict_of-request}
use Rattle.session_core.specs.Deciding.{account_at, challenge_by, core_decision, info_by, kind_by, open_by, open_for_account, reply_by, reply_for_account, sequence_at, worker_decision}
use Rattle.session_core.specs.Parts.{CoreParts, row_of}
use Rattle.session_core.specs.Standing.{Stands}
use Rattle.session_core.proofs.AccountLemmas.{account_none, account_there, as_many, decoy_number_is, user_is}
use Rattle.session_table.specs.declared.rows.SessionRow.{SessionRow}
use Rattle.session_table.specs.Files.{open_decision}
use Rattle.session_laws.specs.Judged.{is_over_phase}
use Rattle.session_table.specs.Judging.{kind_refusal, own_refusal, refusal_of}
use Rattle.session_table.specs.Marks.{has_mark}
use Rattle.session_table.specs.Standing.{RowStands, has_taken, is_logged_in}
use Rattle.session_table.specs.Tables.{WorkerStands}
use Rattle.session_table.proofs.VerdictLemmas.{close_decides, export_decides, open_decides, refusal_decides, use_decides}
use Rattle.policy_model.specs.Cases.{account_named, login_verdict, sequence_of, grants_of}

-- 1. The rules of each kind

challenge_decides : (l : LedgerParts) (row : SessionRow) (journal : List Event) (session : ℕ) (user : Name) (now : ℕ) → StandsFor l journal → RowStands l.setup row journal session → challenge_by l row user now ≡ challenge_verdict l.setup journal session user now
unfolding challenge_verdict
challenge_decides l row journal session user now st r =
    ap (λ n. cond (nat_le l.setup.tries n) (Deny TRIES_SPENT l.setup.tries) (challenge_decision l user row.session now)) r.tries
    ∙ ap (λ d. cond (nat_le l.setup.tries (count_of journal session is_denied_reply)) (Deny TRIES_SPENT l.setup.tries) d)
    (challenge_stands l journal user row.session now st ∙ ap (λ s. account_verdict l.setup journal s user now (account_of l.setup user)) r.session)

reply_decides : (l : LedgerParts) (row : SessionRow) (journal : List Event) (session : ℕ) (words hex : Option ℕ) → StandsFor l journal → RowStands l.setup row journal session → row.phase ≡ Challenged → reply_by l row words hex ≡ reply_verdict l.setup journal session words hex
unfolding reply_verdict
reply_decides l row journal session words hex st r phase = go (was_decoyed journal session) refl where
  has : has_taken row.phase ≡ true
  has = ap has_taken phase

  many : length l.accounts ≡ length l.setup.accounts
  many = as_many l journal st

  go : (b : Bool) → was_decoyed journal session ≡ b → reply_for_account l row.session (readings words hex) (account_at l row) ≡ cond (was_decoyed journal session) (decoy_verdict (readings words hex)) (login_verdict l.setup journal session (readings words hex) (challenged_user journal session))
  go true decoyed =
      ap (reply_for_account l row.session (readings words hex)) (account_none l row (decoy_number_is l.setup row journal session r has decoyed ∙ sym many))
      ∙ sym (ap (λ b. cond b (decoy_verdict (readings words hex)) (login_verdict l.setup journal session (readings words hex) (challenged_user journal session))) decoyed)
  go false real =
      let u = user_is l.setup row journal session r has real in
      ap (reply_for_account l row.session (readings words hex)) (account_there l row (omega (arith, u.numbered.below, many)))
      ∙ reply_stands l journal u.user row.account row.session (readings words hex) st u.numbered.number_is
      ∙ ap (λ s. user_verdict l.setup journal s (readings words hex) u.user) r.session
      ∙ sym (ap (login_verdict l.setup journal session (readings words hex)) u.challenged)
      ∙ sym (ap (λ b. cond b (decoy_verdict (readings words hex)) (login_verdict l.setup journal session (readings words hex) (challenged_user journal session))) real)

has_logged_in : (p : Phase) → is_logged_in p ≡ true → has_taken p ≡ true
has_logged_in Verified h = refl
has_logged_in User h = refl
has_logged_in _ h = absurd cc

open_by_decides : (l : LedgerParts) (row : SessionRow) (journal : List Event) (session mode : ℕ) (name : Label) → RowStands l.setup row journal session → is_logged_in row.phase ≡ true → open_by l row mode name ≡ open_verdict l.setup journal session mode name
open_by_decides l row journal session mode name r logged =
    let u = user_is l.setup row journal session r (has_logged_in row.phase logged) (r.real logged) in
    ap (open_for_account row.handles mode name) u.numbered.stands
    ∙ ap (λ grants. open_decision row.handles grants mode name) (sym (ap grants_of u.numbered.stands))
    ∙ open_decides l.setup row journal session mode name r logged

info_decides : (l : LedgerParts) (row : SessionRow) (journal : List Event) (session number : ℕ) → StandsFor l journal → RowStands l.setup row journal session → is_logged_in row.phase ≡ true → info_by l row number ≡ info_verdict l.setup journal session number
unfolding info_verdict
info_decides l row journal session number st r logged =
    let u = user_is l.setup row journal session r (has_logged_in row.phase logged) (r.real logged) in
    let verified : verified_user journal session ≡ Some u.user = r.user logged ∙ u.challenged in
    let there : account_at l row ≡ Some row.account = account_there l row (omega (arith, u.numbered.below, as_many l journal st)) in
    let sequence : sequence_at l (account_at l row) ≡ sequence_of journal (account_named l.setup (verified_user journal session)) =
    ap (sequence_at l) there
    ∙ ap (λ (s : AccountState). s.sequence) (stands_at l journal row.account u.account st u.numbered.stands)
    ∙ sym (ap (sequence_of journal) (ap (account_named l.setup) verified ∙ u.numbered.found)) in
    ap (λ n. cond (list_any (nat_eq number) l.setup.info) (Permit n) (Deny NO_INFORMATION number)) sequence

-- 2. What the phase table permits

challenged_only : (p : Phase) → (table_row p kinds.Reply).permitted ≡ true → p ≡ Challenged
challenged_only Pre h = absurd cc
challenged_only Challenged h = refl
challenged_only Verified h = absurd cc
challenged_only User h = absurd cc
challenged_only Over h = absurd cc

logged_export : (p : Phase) → (table_row p kinds.Export).permitted ≡ true → is_logged_in p ≡ true
logged_export Pre h = absurd cc
logged_export Challenged h = absurd cc
logged_export Verified h = refl
logged_export User h = refl
logged_export Over h = absurd cc

logged_open : (p : Phase) → (table_row p kinds.OpenFile).permitted ≡ true → is_logged_in p ≡ true
logged_open Pre h = absurd cc
logged_open Challenged h = absurd cc
logged_open Verified h = absurd cc
logged_open User h = refl
logged_open Over h = absurd cc

logged_info : (p : Phase) → (table_row p kinds.Info).permitted ≡ true → is_logged_in p ≡ true
logged_info Pre h = absurd cc
logged_info Challenged h = absurd cc
logged_info Verified h = absurd cc
logged_info User h = refl
logged_info Over h = absurd cc

permitted_from : (row : SessionRow) (ask : Ask) (kind : Kind) → kind_refusal row ask kind ≡ None → (table_row row.phase kind).permitted ≡ true
permitted_from row ask kind h = go (table_row row.phase kind).permitted h where
  go : (p : Bool) → cond (not p) (Some (Deny NOT_IN_PHASE (request_number ask))) (cond ((table_row row.phase kind).once && has_mark kind row.bits) (Some (Deny ONCE_ONLY (request_number ask))) None) ≡ None → p ≡ true
  go true h = refl
  go false h = absurd cc

own_from : (row : SessionRow) (requests : ℕ) (ask : Ask) → refusal_of row requests ask ≡ None → own_refusal row ask ≡ None
own_from row requests ask h = go (is_over_phase row.phase) (eqb row.asked requests) h where
  go : (o a : Bool) → cond o (Some (Deny NOT_IN_PHASE (request_number ask))) (cond a (Some (Deny ASKS_SPENT requests)) (own_refusal row ask)) ≡ None → own_refusal row ask ≡ None
  go true a h = absurd cc
  go false true h = absurd cc
  go false false h = h

-- so it is with each ask that isn't refused before
kind_decides : (l : LedgerParts) (row : SessionRow) (journal : List Event) (session : ℕ) (ask : Ask) → StandsFor l journal → RowStands l.setup row journal session → own_refusal row ask ≡ None → kind_by l row ask ≡ kind_verdict l.setup journal session ask
unfolding kind_verdict
kind_decides l row journal session (asks.Challenge user now) st r h = challenge_decides l row journal session user now st r
kind_decides l row journal session (asks.Reply words hex) st r h = reply_decides l row journal session words hex st r (challenged_only row.phase (permitted_from row (asks.Reply words hex) kinds.Reply h))
kind_decides l row journal session (asks.Export len) st r h = ap Permit (export_decides l.setup row journal session r (logged_export row.phase (permitted_from row (asks.Export len) kinds.Export h)))
kind_decides l row journal session (asks.ReadAt handle offset max) st r h = use_decides l.setup row journal session handle 1 r
kind_decides l row journal session (asks.WriteAt handle offset len) st r h = use_decides l.setup row journal session handle 2 r
kind_decides l row journal session (asks.OpenFile mode name) st r h = open_by_decides l row journal session mode name r (logged_open row.phase (permitted_from row (asks.OpenFile mode name) kinds.OpenFile h))
kind_decides l row journal session (asks.CloseFile handle) st r h = close_decides l.setup row journal session handle r
kind_decides l row journal session (asks.Info number) st r h = info_decides l row journal session number st r (logged_info row.phase (permitted_from row (asks.Info number) kinds.Info h))
kind_decides l row journal session _ st r h = refl

-- 3. An ask of a worker

unwrap_same : (o : Option Decision) (x y : Decision) → (o ≡ None → x ≡ y) → unwrap_or o x ≡ unwrap_or o y
unwrap_same None x y h = h refl
unwrap_same (Some d) x y h = refl

session_decides : (l : LedgerParts) (row : SessionRow) (journal : List Event) (worker : ℕ) (ask : Ask) → StandsFor l journal → open_session_of journal worker ≢ 0 → RowStands l.setup row journal (open_session_of journal worker) → came_by_frame ask ≡ true → unwrap_or (refusal_of row l.setup.requests ask) (kind_by l row ask) ≡ verdict_of l.setup journal worker ask
session_decides l row journal worker ask st some r by =
    unwrap_same (refusal_of row l.setup.requests ask) (kind_by l row ask) (kind_verdict l.setup journal (open_session_of journal worker) ask) (λ none. kind_decides l row journal (open_session_of journal worker) ask st r (own_from row l.setup.requests ask none))
    ∙ refusal_decides l.setup row journal (open_session_of journal worker) ask r some by
    ∙ sym (verdict_of-request l.setup journal worker ask by)

idle_decides : (setup : Settings) (journal : List Event) (worker : ℕ) (ask : Ask) → open_session_of journal worker ≡ 0 → came_by_frame ask ≡ true → Deny NOT_IN_PHASE (request_number ask) ≡ verdict_of setup journal worker ask
idle_decides setup journal worker ask none by = sym (verdict_of-request setup journal worker ask by ∙ ap (λ s. request_verdict setup journal s ask) none)

worker_decides : (l : LedgerParts) (begun : ℕ) (o : Option SessionRow) (journal : List Event) (worker : ℕ) (ask : Ask) → StandsFor l journal → begun ≡ openings_of journal → WorkerStands l.setup o journal (open_session_of journal worker) → worker_decision l begun o ask ≡ verdict_of l.setup journal worker ask
worker_decides l begun None journal worker asks.Begin st count w = ap (λ n. Permit (n + 1)) count ∙ sym (verdict_of-begin l.setup journal worker w)
worker_decides l begun None journal worker (asks.End why) st count w = sym (denied_end l.setup journal worker why w)
worker_decides l begun None journal worker ask st count w = idle_decides l.setup journal worker ask w refl
worker_decides l begun (Some row) journal worker asks.Begin st count w = sym (denied_begin l.setup journal worker w.0)
worker_decides l begun (Some row) journal worker (asks.End why) st count w = sym (verdict_of-end l.setup journal worker why w.0)
worker_decides l begun (Some row) journal worker ask st count w = session_decides l row journal worker ask st w.0 w.1 refl

pub core_decides : (core : CoreParts) (journal : List Event) (worker : ℕ) (ask : Ask) → Stands core journal → worker < core.ledger.setup.workers → core_decision core worker ask ≡ verdict_of core.ledger.setup journal worker ask
core_decides core journal worker ask st lt = worker_decides core.ledger core.table.begun (row_of core worker) journal worker ask st.accounts st.rows.begun (st.rows.rows worker lt)
