use Rattle.std.proofs.Common.{◌≡◌, drop}
use Rattle.std.specs.Prelude.{find, ◌==◌}
use Rattle.info_hooks.proofs.twice.numbered.Given as goal

abbrev pub invariant-loop-hook : goal.invariant-loop-hook
invariant-loop-hook g l = find (λ h. h.key.number == l.number) l.list ≡ find (λ h. h.key.number == l.number) (drop l.hook-index l.list)
