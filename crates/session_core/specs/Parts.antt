-- Inner: what contracts see of a core.
use Rattle.std.specs.Prelude.{ℕ, Option}
use Rattle.otp_ledger.specs.Accounts.{LedgerParts}
use Rattle.policy_model.specs.Settings.{Settings}
use Rattle.session_table.specs.declared.rows.SessionRow.{SessionRow}
use Rattle.session_table.specs.Tables.{TableParts, row_at}

-- the accounts, with the setup and how many sessions may be opened; the
-- rows, with how many were; and how many events were settled
pub record CoreParts : Type 0 where
  pub ledger : LedgerParts
  pub table : TableParts
  pub settled : ℕ

abbrev pub setup_of : CoreParts → Settings
setup_of core = core.ledger.setup

abbrev pub row_of : CoreParts → ℕ → Option SessionRow
row_of core worker = row_at core.table worker
