use Rattle.std.proofs.Common.{refl, sym}
use Rattle.policy_model.proofs.InRange.{IsInRange-passes}
use Rattle.policy_model.proofs.setup.Setup.of.Goals as goal

pub invariant_of-result : goal.invariant_of-result
invariant_of-result c = IsInRange-passes c.args.parts (sym c.if-passes.ensures)

pub returns-then-passes-clause-refused : goal.returns-then-passes-clause-refused
returns-then-passes-clause-refused c =
    (λ h. IsInRange-passes c.args.parts (sym c.if-passes.ensures), λ h. refl)
