use Rattle.std.proofs.Common.{◌≡◌, ℕ, ◌≤◌, map}
use Rattle.std.specs.List.{range_with_len}
use Rattle.outside_memory.specs.Script.{plan_of}
use Rattle.drill_plan.specs.Classes.{logins_before}
use Rattle.drill_plan.specs.Plan.{session_bytes}
use Rattle.drill_plan.proofs.scripts.drill_scripts.Given as goal

abbrev pub invariant-loop-session : goal.invariant-loop-session
invariant-loop-session l = record {
  planned : plan_of l.scripts.items ≡ map (session_bytes l.fn.n l.fn.worker) (range_with_len 0 l.session);
  counted : l.logins ≡ logins_before l.fn.n l.fn.worker l.session;
  few : l.logins ≤ l.session;
}
