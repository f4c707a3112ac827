-- Counts of faults over several calls.
use Rattle.std.proofs.Common.{arith}
use Rattle.outside.specs.declared.faults.Faults.{Faults}
use Rattle.outside.specs.Faults.{NoneFell}

-- no count falls where nothing is done
pub NoneFell-none : (f : Faults) → NoneFell f f
NoneFell-none f = record {
  accept = omega arith;
  keeper = omega arith;
  link = omega arith;
  conn = omega arith;
  vault = omega arith;
}

-- nor over two calls
pub NoneFell-then : (f g h : Faults) → NoneFell f g → NoneFell g h → NoneFell f h
NoneFell-then f g h first second = record {
  accept = omega (arith, first.accept, second.accept);
  keeper = omega (arith, first.keeper, second.keeper);
  link = omega (arith, first.link, second.link);
  conn = omega (arith, first.conn, second.conn);
  vault = omega (arith, first.vault, second.vault);
}
