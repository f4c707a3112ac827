-- Inner: what is decided by the accounts and the rows.
use Rattle.std.specs.Prelude.{ℕ, ◌+◌, List, length, Option, Some, None, nat_eq, nat_le, nat_lt, slice_get, unwrap_or}
use Rattle.std.specs.Prelude.{if◌then◌else◌}
use Rattle.std.specs.List.{list_any}
use Rattle.request_catalogue.specs.declared.rules.TheConstants.{NO_INFORMATION, NOT_GRANTED, NOT_IN_PHASE, TRIES_SPENT}
use Rattle.request_catalogue.specs.declared.texts.Label.{Label}
use Rattle.request_catalogue.specs.declared.texts.Name.{Name}
use Rattle.otp_ledger.specs.Accounts.{LedgerParts, state_at}
use Rattle.otp_ledger.specs.Decisions.{challenge_decision, reply_decision}
use Rattle.policy_model.specs.declared.account.Account.{Account}
use Rattle.policy_model.specs.declared.event.Ask.{Ask}
use Rattle.policy_model.specs.declared.event.Ask.TheVariants as asks
use Rattle.policy_model.specs.declared.event.Decision.{Decision}
use Rattle.policy_model.specs.declared.event.Decision.TheVariants.{Permit, Deny}
use Rattle.policy_model.specs.Asks.{request_number}
use Rattle.policy_model.specs.Verdict.{decoy_verdict, readings}
use Rattle.session_core.specs.Parts.{CoreParts, row_of}
use Rattle.session_table.specs.declared.handles.LiveHandle.{LiveHandle}
use Rattle.session_table.specs.declared.rows.SessionRow.{SessionRow}
use Rattle.session_table.specs.Files.{close_decision, open_decision, use_decision}
use Rattle.session_table.specs.Judging.{refusal_of}

-- the number of the account that a session is challenged for, none for a decoy
abbrev pub account_at : LedgerParts → SessionRow → Option ℕ
account_at l row = if nat_lt row.account (length l.accounts) then Some row.account else None

-- rules 8 and 12 of a CHALLENGE
abbrev pub challenge_by : LedgerParts → SessionRow → Name → ℕ → Decision
challenge_by l row user now =
    if nat_le l.setup.tries row.tries then Deny TRIES_SPENT l.setup.tries
    else challenge_decision l user row.session now

-- rules 13 to 16 of a REPLY, to a decoy and for the user of an account
abbrev pub reply_for_account : LedgerParts → ℕ → List ℕ → Option ℕ → Decision
reply_for_account l session passwords None = decoy_verdict passwords
reply_for_account l session passwords (Some account) = reply_decision (state_at l account) session passwords

abbrev pub reply_by : LedgerParts → SessionRow → Option ℕ → Option ℕ → Decision
reply_by l row words hex = reply_for_account l row.session (readings words hex) (account_at l row)

-- rules 19 to 21 of an OPEN
abbrev pub open_for_account : List LiveHandle → ℕ → Label → Option Account → Decision
open_for_account live mode name None = Deny NOT_GRANTED 0
open_for_account live mode name (Some account) = open_decision live account.grants mode name

abbrev pub open_by : LedgerParts → SessionRow → ℕ → Label → Decision
open_by l row mode name = open_for_account row.handles mode name (slice_get l.setup.accounts row.account)

-- rule 22 of an INFO
abbrev pub sequence_at : LedgerParts → Option ℕ → ℕ
sequence_at l None = 0
sequence_at l (Some account) = (state_at l account).sequence

abbrev pub info_by : LedgerParts → SessionRow → ℕ → Decision
info_by l row number =
    if list_any (nat_eq number) l.setup.info then Permit (sequence_at l (account_at l row))
    else Deny NO_INFORMATION number

-- the rules of one kind of request
abbrev pub kind_by : LedgerParts → SessionRow → Ask → Decision
kind_by l row (asks.Challenge user now) = challenge_by l row user now
kind_by l row (asks.Reply words hex) = reply_by l row words hex
kind_by l row (asks.Export len) = Permit row.account
kind_by l row (asks.ReadAt handle offset max) = use_decision row.handles handle 1
kind_by l row (asks.WriteAt handle offset len) = use_decision row.handles handle 2
kind_by l row (asks.OpenFile mode name) = open_by l row mode name
kind_by l row (asks.CloseFile handle) = close_decision row.handles handle
kind_by l row (asks.Info number) = info_by l row number
kind_by l row ask = Permit 0

-- an ask of a worker that has a session
abbrev pub open_worker_decision : LedgerParts → SessionRow → Ask → Decision
open_worker_decision l row asks.Begin = Deny NOT_IN_PHASE 0
open_worker_decision l row (asks.End why) = Permit 0
open_worker_decision l row ask = unwrap_or (refusal_of row l.setup.requests ask) (kind_by l row ask)

-- an ask of one that has none, where so many sessions were opened
abbrev pub idle_worker_decision : ℕ → Ask → Decision
idle_worker_decision begun asks.Begin = Permit (begun + 1)
idle_worker_decision begun ask = Deny NOT_IN_PHASE (request_number ask)

abbrev pub worker_decision : LedgerParts → ℕ → Option SessionRow → Ask → Decision
worker_decision l begun None ask = idle_worker_decision begun ask
worker_decision l begun (Some row) ask = open_worker_decision l row ask

-- what a core decides on an ask of a worker
abbrev pub core_decision : CoreParts → ℕ → Ask → Decision
core_decision core worker ask = worker_decision core.ledger core.table.begun (row_of core worker) ask
