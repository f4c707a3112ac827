use Rattle.std.proofs.Common.{◌≡◌, [], ◌∷◌, IfSome, arith, subst}
use Rattle.outside.specs.Scene.{came_count}
use Rattle.outside_memory.proofs.transcript.Transcript.act_if.Goals as goal

pub returns-in-Some-clause-came : goal.returns-in-Some-clause-came
returns-in-Some-clause-came c = λ n h none t.
    let zero : came_count (c.in-Some.act ∷ []) ≡ 0 = subst (λ act. IfSome act (λ a. came_count (a ∷ []) ≡ 0)) c.in-Some.is none in
    omega (arith, c.act.ensures.came n h t, zero)
