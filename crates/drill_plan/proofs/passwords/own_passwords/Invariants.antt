use Rattle.std.proofs.Common.{◌≡◌, ℕ, ◌+◌, ◌≤◌, get_or, vec_len}
use Rattle.drill_plan.specs.Passwords.{own_password}
use Rattle.drill_plan.proofs.passwords.own_passwords.Given as goal

abbrev pub invariant-loop-count : goal.invariant-loop-count
invariant-loop-count l = record {
  len : vec_len l.passwords ≡ l.count + 1;
  each : (k : ℕ) → k ≤ l.count → get_or l.passwords.items k 0 ≡ own_password l.fn.n l.fn.worker k;
}
