-- An event that the policy gives fits the table that stands for the journal before it.
use Rattle.std.proofs.Common.{◌≡◌, ℕ, ◌-◌, ◌^◌, ◌<◌, ◌≤◌, Bool, true, false, ◌&&◌, ◌==◌, cond, List, [], ◌∷◌, length, map, nat_le, Option, Some, None, is_none, refl, sym, ap, subst, ◌∙◌, arith}
use Rattle.std.specs.List.{find}
use Rattle.std.proofs.lemmas.Bool.Decides.{nat_tests}
use Rattle.std.proofs.lemmas.List.Sums.{count_by-le-length, length-filter}
use Rattle.request_catalogue.specs.declared.kind.Kind.TheVariants as kinds
use Rattle.request_catalogue.specs.declared.texts.Name.{Name}
use Rattle.policy_model.specs.declared.account.Grant.{Grant}
use Rattle.policy_model.specs.declared.event.Ask.{Ask}
use Rattle.policy_model.specs.declared.event.Ask.TheVariants as asks
use Rattle.policy_model.specs.declared.event.Decision.{Decision}
use Rattle.policy_model.specs.declared.event.Decision.TheVariants.{Permit}
use Rattle.policy_model.specs.declared.event.Event.{Event}
use Rattle.policy_model.specs.declared.phase.Phase.{Phase}
use Rattle.policy_model.specs.declared.phase.Phase.TheVariants.{Pre, Challenged, Verified, User, Over}
use Rattle.policy_model.specs.Asks.{came_by_frame, is_denied_reply, is_lost, is_permit, kind_of, opens, opens_file, value_of}
use Rattle.policy_model.specs.Cases.{is_open, handle_of}
use Rattle.policy_model.specs.Handles.{live_handles_of}
use Rattle.policy_model.specs.Journal.{ask_count, count_of, events_of, is_own, open_session_of}
use Rattle.policy_model.specs.Legal.{IsNext}
use Rattle.policy_model.specs.Logins.{challenged_user, was_decoyed}
use Rattle.policy_model.specs.Phases.{phase_of, table_row}
use Rattle.policy_model.specs.Settings.{Settings}
use Rattle.policy_model.proofs.Runs.{next_session}
use Rattle.session_laws.proofs.HandleLaws.{gives_least}
use Rattle.session_laws.proofs.Numbers.{numbered_by_number}
use Rattle.session_laws.proofs.Openings.{session_own}
use Rattle.session_laws.proofs.Permitted.{accepted_in_challenged, accepted_no_decoy, exported_in_verified, permitted_live, taken_in_pre}
use Rattle.session_table.specs.declared.handles.LiveHandle.{LiveHandle}
use Rattle.session_table.specs.declared.rows.SessionRow.{SessionRow}
use Rattle.session_table.specs.Files.{FitsFiles, IsNewHandle, is_free}
use Rattle.session_table.specs.Standing.{FitsRow, NamesFit, RowStands, file_by, grants_at, has_taken, number_by}
use Rattle.session_table.proofs.FileLemmas.{and_parts}
use Rattle.session_table.specs.Tables.{FitsCounts, FitsWorker, TableParts, TableStands, WorkerStands, row_at}

-- 1. What the phase table permits

user_only : (phase : Phase) → (table_row phase kinds.OpenFile).permitted ≡ true → phase ≡ User
user_only Pre h = absurd cc
user_only Challenged h = absurd cc
user_only Verified h = absurd cc
user_only User h = refl
user_only Over h = absurd cc

open_kind : (ask : Ask) → is_open ask ≡ true → (came_by_frame ask ≡ true) × (kind_of ask ≡ Some kinds.OpenFile)
open_kind (asks.OpenFile mode name) h = (refl, refl)
open_kind _ h = absurd cc

-- a permitted OPEN comes in User
opened_in_user : (setup : Settings) (journal : List Event) (e : Event) → IsNext setup journal e → opens_file e ≡ true → phase_of journal e.session ≡ User
opened_in_user setup journal e next h =
    let both = and_parts (is_open e.ask) (is_permit e.decision) h in
    let k = open_kind e.ask both.0 in
    user_only (phase_of journal e.session) ((permitted_live setup journal e next k.0 both.1).cell kinds.OpenFile k.1)

-- 2. The row of the event's session

-- what the policy permits fits the row
pub fits_row : (setup : Settings) (row : SessionRow) (journal : List Event) (e : Event) (number grant : ℕ) → RowStands setup row journal e.session → IsNext setup journal e → opens e ≡ false → NamesFit setup row e number grant → FitsRow setup row e number grant
fits_row setup row journal e number grant r next closed names = record {
  later = closed;
  taking = λ h. (r.phase ∙ taken_in_pre setup journal e next h, names.taking h);
  accepting = λ h. (let phase = r.phase ∙ accepted_in_challenged setup journal e next h in (phase, below phase (accepted_no_decoy setup journal e next h)));
  exporting = λ h. r.phase ∙ exported_in_verified setup journal e next h;
  opening = λ h. (r.phase ∙ opened_in_user setup journal e next h, names.opening h);
} where
  below : row.phase ≡ Challenged → was_decoyed journal e.session ≡ false → row.account < length setup.accounts
  below phase real = go (challenged_user journal e.session) (sym (ap (λ b. cond b (Some (length setup.accounts)) (number_by setup (challenged_user journal e.session))) real) ∙ r.account (ap has_taken phase)) where
    go : (o : Option Name) → number_by setup o ≡ Some row.account → row.account < length setup.accounts
    go None h = absurd cc
    go (Some user) h = (numbered_by_number setup user row.account h).1.below

-- a handle is free in the row just where no file of the session has it
pub free_is : (grants : List Grant) (live : List Event) (handle : ℕ) → is_free handle (map (file_by grants) live) ≡ is_none (find (λ o. handle_of o == handle) live)
free_is grants [] handle = refl
free_is grants (o ∷ live) handle = go (handle_of o == handle) (free_is grants live handle) where
  go : (b : Bool) → is_free handle (map (file_by grants) live) ≡ is_none (find (λ x. handle_of x == handle) live) → is_none (cond b (Some (file_by grants o)) (find (λ (file : LiveHandle). file.handle == handle) (map (file_by grants) live))) ≡ is_none (cond b (Some o) (find (λ x. handle_of x == handle) live))
  go true h = refl
  go false h = h

is_new : (live : List LiveHandle) (d : Decision) → is_permit d ≡ true → (nat_le 1 (value_of d) && nat_le (value_of d) 8) ≡ true → is_free (value_of d) live ≡ true → IsNewHandle live d
is_new live (Permit value) h within free =
    let both = and_parts (nat_le 1 value) (nat_le value 8) within in
    (grind (arith, nat_tests, both.0), grind (arith, nat_tests, both.1), free)
is_new live _ h within free = absurd cc

-- the handle that an OPEN gives is new to the row
pub fits_files : (setup : Settings) (row : SessionRow) (journal : List Event) (e : Event) → RowStands setup row journal e.session → IsNext setup journal e → FitsFiles row.handles e
fits_files setup row journal e r next = record {
  new = λ h.
      (let g = gives_least setup journal e next h in
      let both = and_parts (is_open e.ask) (is_permit e.decision) h in
      is_new row.handles e.decision both.1 g.within
      (ap (is_free (handle_of e)) r.handles ∙ free_is (grants_at setup row.account) (live_handles_of journal e.session) (handle_of e) ∙ ap is_none g.free));
}

-- no row counts more than the journal has events
asked_few : (journal : List Event) (session : ℕ) → ask_count journal session ≤ length journal
asked_few journal session =
    let own = count_by-le-length (λ x. came_by_frame x.ask) (events_of journal session) in
    let all = count_by-le-length (λ x. x.session == session) journal in
    omega (arith, own, all, length-filter (λ x. x.session == session) journal)

counted_few : (journal : List Event) (session : ℕ) (test : Event → Bool) → count_of journal session test ≤ length journal
counted_few journal session test = count_by-le-length (is_own session test) journal

-- 3. The table

-- an event that the policy gives to a worker fits the worker's row, where there is room for one event more
pub fits_worker : (setup : Settings) (table : TableParts) (journal : List Event) (e : Event) → TableStands setup table journal → IsNext setup journal e → is_lost e.decision ≡ false → opens e ≡ false → e.worker < setup.workers → length journal < 2 ^ 32 - 1 → FitsWorker table.rows e.worker e
fits_worker setup table journal e st next kept closed below room = record { fits = λ row at. fits row (go (row_at table e.worker) (st.rows e.worker below) row at) } where
  own : e.session ≡ open_session_of journal e.worker
  own = session_own journal e (next_session setup journal e next) kept closed

  go : (o : Option SessionRow) → WorkerStands setup o journal (open_session_of journal e.worker) → (row : SessionRow) → o ≡ Some row → RowStands setup row journal e.session
  go None w row at = absurd cc
  go (Some found) w row at =
      let same : found ≡ row = cc in
      subst (λ s. RowStands setup row journal s) (sym own) (subst (λ (r : SessionRow). RowStands setup r journal (open_session_of journal e.worker)) same w.1)

  fits : (row : SessionRow) → RowStands setup row journal e.session → FitsCounts row e
  fits row r =
      let asked = asked_few journal e.session in
      let tries = counted_few journal e.session is_denied_reply in
      record {
        asked_below = omega (arith, r.asked, asked, room);
        tries_below = omega (arith, r.tries, tries, room);
        files = fits_files setup row journal e r next;
      }
