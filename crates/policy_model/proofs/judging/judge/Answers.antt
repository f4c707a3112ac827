use Rattle.std.proofs.Common.{sym, subst}
use Rattle.policy_model.specs.Verdict.{IsVerdict}
use Rattle.policy_model.proofs.Verdicts.{verdict_of-is}
use Rattle.policy_model.proofs.judging.judge.Goals as goal

pub returns-clause-decided : goal.returns-clause-decided
returns-clause-decided c =
    λ h. subst IsVerdict (sym c.judge_worker.ensures) (verdict_of-is c.args.setup.now c.args.journal.now c.args.worker c.args.ask.now h)
