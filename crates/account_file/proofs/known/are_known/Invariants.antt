use Rattle.std.proofs.Common.{◌≡◌}
use Rattle.std.specs.List.{list_all}
use Rattle.std.specs.Map.{keys_of}
use Rattle.account_file.proofs.KeyLemmas.{is_known_at}
use Rattle.account_file.proofs.known.are_known.Given as goal

abbrev pub invariant-loop-key : goal.invariant-loop-key
invariant-loop-key l = list_all (is_known_at l.level) l.key-iterator ≡ list_all (is_known_at l.level) (keys_of l.table.entries)
