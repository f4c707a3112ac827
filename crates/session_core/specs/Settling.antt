-- Inner: the event that a core makes of an ask and a decision, and what the event makes of the core.
use Rattle.std.specs.Prelude.{ℕ, ◌+◌, ◌&&◌, Bool, true, false, length, Option, Some, None, nat_le, nat_lt, unwrap_or}
use Rattle.std.specs.Prelude.{if◌then◌else◌}
use Rattle.otp_ledger.specs.Accounts.{LedgerParts, ledger_holding, ledger_releasing, ledger_spending}
use Rattle.policy_model.specs.declared.event.Ask.{Ask}
use Rattle.policy_model.specs.declared.event.Decision.{Decision}
use Rattle.policy_model.specs.declared.event.Event.{Event}
use Rattle.policy_model.specs.declared.phase.Phase.{Phase}
use Rattle.policy_model.specs.declared.phase.Phase.TheVariants.{Challenged}
use Rattle.policy_model.specs.declared.reading.TheConstants.{DECOYS_FROM}
use Rattle.policy_model.specs.Asks.{accepts, challenge_name, is_end, is_permit, leaves, moment_of, opens, takes}
use Rattle.policy_model.specs.Asks.{value_of, label_named}
use Rattle.policy_model.specs.Settings.{Settings}
use Rattle.session_core.specs.Parts.{CoreParts, row_of}
use Rattle.session_laws.specs.Judged.{event_by}
use Rattle.session_table.specs.declared.rows.SessionRow.{SessionRow}
use Rattle.session_table.specs.Standing.{grant_number, grants_at, number_by}
use Rattle.session_table.specs.Tables.{TableParts, table_after, table_begun, table_ended}

-- the session of a worker, 0 where it has none
abbrev pub session_at : Option SessionRow → ℕ
session_at None = 0
session_at (Some row) = row.session

-- the event of a worker's ask with a decision
abbrev pub core_event : CoreParts → ℕ → Ask → Decision → Event
core_event core worker ask decision = event_by worker (session_at (row_of core worker)) core.table.begun ask decision

-- the account that a CHALLENGE is for, and the number of accounts for a decoy and for any other ask
abbrev pub number_for : LedgerParts → Event → ℕ
number_for l e =
    if nat_le DECOYS_FROM (value_of e.decision) then length l.accounts
    else unwrap_or (number_by l.setup (challenge_name e.ask)) (length l.accounts)

-- the grant that an OPEN is for
abbrev pub grant_in : Settings → SessionRow → Event → ℕ
grant_in setup row e = unwrap_or (grant_number (grants_at setup row.account) (label_named e.ask)) 0

abbrev pub grant_for : Settings → Option SessionRow → Event → ℕ
grant_for setup None e = 0
grant_for setup (Some row) e = grant_in setup row e

abbrev pub is_challenged : Phase → Bool
is_challenged Challenged = true
is_challenged _ = false

-- a session that may hold the user of its account
abbrev pub may_hold : LedgerParts → SessionRow → Bool
may_hold l row = is_challenged row.phase && nat_lt row.account (length l.accounts)

-- the accounts after a permitted CHALLENGE, after a permitted REPLY, and after
-- an event by which the session gives up what it holds or ends
abbrev pub ledger_taking : LedgerParts → ℕ → Event → LedgerParts
ledger_taking l number e =
    if nat_lt number (length l.accounts) then ledger_holding l number e.session (moment_of e.ask) else l

abbrev pub ledger_accepting : LedgerParts → ℕ → Event → LedgerParts
ledger_accepting l account e = ledger_releasing (ledger_spending l account (value_of e.decision)) account e.session

abbrev pub ledger_leaving : LedgerParts → SessionRow → Event → LedgerParts
ledger_leaving l row e = if leaves e && may_hold l row then ledger_releasing l row.account e.session else l

-- the accounts after an event of a session
abbrev pub ledger_by : LedgerParts → SessionRow → Event → LedgerParts
ledger_by l row e =
    if takes e then ledger_taking l (number_for l e) e
    else (if accepts e then ledger_accepting l row.account e
    else ledger_leaving l row e)

abbrev pub ledger_after : LedgerParts → Option SessionRow → Event → LedgerParts
ledger_after l None e = l
ledger_after l (Some row) e = ledger_by l row e

-- the rows after an event
abbrev pub table_next : TableParts → Event → ℕ → ℕ → TableParts
table_next table e number grant =
    if opens e then table_begun table e.worker
    else (if is_end e.ask && is_permit e.decision then table_ended table e.worker
    else table_after table e.worker e number grant)

-- a core after an event
abbrev pub core_after : CoreParts → Event → CoreParts
core_after core e = record {
  ledger = ledger_after core.ledger (row_of core e.worker) e;
  table = table_next core.table e (number_for core.ledger e) (grant_for core.ledger.setup (row_of core e.worker) e);
  settled = core.settled + 1;
}
