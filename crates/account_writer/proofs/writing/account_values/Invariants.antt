use Rattle.std.proofs.Common.{◌≡◌, true, map, take}
use Rattle.std.specs.List.{list_all}
use Rattle.toml.specs.View.{view}
use Rattle.account_writer.specs.CurrentSetup.{current_accounts}
use Rattle.account_writer.specs.Puts.{is_writable}
use Rattle.account_writer.specs.Tables.{account_data}
use Rattle.account_writer.proofs.writing.account_values.Given as goal

abbrev pub invariant-loop-i : goal.invariant-loop-i
invariant-loop-i l = record {
  values : map view l.values.items ≡ map account_data (take l.i (current_accounts l.accounts l.ledger.accounts));
  writable : list_all is_writable (take l.i (current_accounts l.accounts l.ledger.accounts)) ≡ true;
}
