-- Inner: what a core stands for: the journal of all events, of which it knows what the policy asks.
use Rattle.std.specs.Prelude.{ℕ, ◌≡◌, ◌≤◌, ◌<◌, ◌+◌, ◌-◌, ◌^◌, ◌&&◌, Bool, true, false, List, length, Option, Some}
use Rattle.std.specs.Prelude.{None, is_none, is_some}
use Rattle.std.specs.List.{AllByRecursion}
use Rattle.otp_ledger.specs.Accounts.{IsNextPassword, LedgerParts, state_at}
use Rattle.otp_ledger.specs.Standing.{StandsFor}
use Rattle.policy_model.specs.declared.event.Event.{Event}
use Rattle.policy_model.specs.declared.phase.Phase.{Phase}
use Rattle.policy_model.specs.declared.phase.Phase.TheVariants.{Over}
use Rattle.policy_model.specs.Asks.{accepts, is_end, is_permit, opens, value_of}
use Rattle.policy_model.specs.Journal.{has_lost}
use Rattle.policy_model.specs.Legal.{IsLegal}
use Rattle.policy_model.specs.Runs.{IsOfWorker}
use Rattle.policy_model.specs.Settings.{IsInRange}
use Rattle.session_core.specs.Parts.{CoreParts, setup_of}
use Rattle.session_laws.specs.Rooms.{login_count}
use Rattle.session_table.specs.declared.rows.SessionRow.{SessionRow}
use Rattle.session_table.specs.Tables.{FitsWorker, TableParts, TableStands, row_at}

-- a core stands for a journal: it is legal, without a lost decision and of the
-- setup's workers; the rows and the accounts know of each session and each account
-- what it says, and the counts are those of its openings and its events
pub record Stands (core : CoreParts) (journal : List Event) : Type 0 where
  pub legal : IsLegal (setup_of core) journal
  pub kept : has_lost journal ≡ false
  pub workers : AllByRecursion (IsOfWorker (setup_of core)) journal
  pub settled : core.settled ≡ length journal
  pub rows : TableStands (setup_of core) core.table journal
  pub accounts : StandsFor core.ledger journal

-- the phase of a worker's session; without one it is over
abbrev pub phase_at : Option SessionRow → Phase
phase_at None = Over
phase_at (Some row) = row.phase

-- how many sessions may still accept a password
abbrev pub early_rows : TableParts → ℕ
early_rows table = login_count phase_at table.rows

-- a setup in its ranges, and room for a password of each session that may still accept one
pub record IsCore (core : CoreParts) : Type 0 where
  pub in_range : IsInRange (setup_of core)
  pub room : core.ledger.spent + early_rows core.table ≤ core.table.begun
  pub within : core.table.begun ≤ core.ledger.cap

-- every core stands for some journal
pub record HasJournal (core : CoreParts) : Type 0 where
  pub core_is : IsCore core
  pub journal : List Event
  pub stands : Stands core journal

-- there is room for one event more, and for one session more where it opens one
pub record HasRoom (core : CoreParts) (opening : Bool) : Type 0 where
  pub few : core.settled < 2 ^ 32 - 1
  pub openings : opening ≡ true → core.table.begun < core.ledger.cap

-- the setup stays, and how many sessions may be opened
pub record KeepsSetup (old new : CoreParts) : Type 0 where
  pub setup_is : new.ledger.setup ≡ old.ledger.setup
  pub cap_is : new.ledger.cap ≡ old.ledger.cap

-- a password that is accepted may be spent
pub record IsSpendable (l : LedgerParts) (account password : ℕ) : Type 0 where
  pub there : account < length l.accounts
  pub next : IsNextPassword (state_at l account) password
  pub left : 0 < (state_at l account).sequence
  pub room : l.spent < l.cap

-- an event of a worker with this row may be settled in the accounts, and an event in the rows
pub record FitsAccounts (l : LedgerParts) (own : Option SessionRow) (e : Event) : Type 0 where
  pub spends : (row : SessionRow) → own ≡ Some row → accepts e ≡ true
      → IsSpendable l row.account (value_of e.decision)

pub record FitsRows (table : TableParts) (e : Event) : Type 0 where
  pub worker : e.worker < length table.rows
  pub idle : opens e ≡ true → is_none (row_at table e.worker) ≡ true
  pub few : opens e ≡ true → table.begun < 2 ^ 32 - 1
  pub there : (is_end e.ask && is_permit e.decision) ≡ true → is_some (row_at table e.worker) ≡ true
  pub fits : opens e ≡ false → FitsWorker table.rows e.worker e
