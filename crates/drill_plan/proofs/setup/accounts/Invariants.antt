use Rattle.std.proofs.Common.{◌≡◌, ℕ, Some, vec_len}
use Rattle.std.specs.Prelude.{slice_get}
use Rattle.policy_model.specs.declared.account.Account.{Account}
use Rattle.drill_plan.specs.DrillSetup.{IsDrillAccount}
use Rattle.drill_plan.proofs.setup.accounts.Given as goal

abbrev pub invariant-loop-worker : goal.invariant-loop-worker
invariant-loop-worker l = record {
  len : vec_len l.accounts ≡ l.worker;
  each : (k : ℕ) (a : Account) → slice_get l.accounts.items k ≡ Some a → IsDrillAccount l.fn.n k a;
}
