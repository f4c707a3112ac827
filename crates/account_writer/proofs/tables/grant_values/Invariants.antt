use Rattle.std.proofs.Common.{◌≡◌, map, take}
use Rattle.toml.specs.View.{view}
use Rattle.account_writer.specs.Tables.{grant_data}
use Rattle.account_writer.proofs.tables.grant_values.Given as goal

abbrev pub invariant-loop-grant : goal.invariant-loop-grant
invariant-loop-grant l = map view l.values.items ≡ map grant_data (take l.grant-index l.grants)
