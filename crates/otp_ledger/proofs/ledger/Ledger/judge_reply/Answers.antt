use Rattle.std.proofs.Common.{◌∙◌, subst, sym}
use Rattle.policy_model.specs.Verdict.{readings}
use Rattle.otp_ledger.specs.Accounts.{state_at}
use Rattle.otp_ledger.specs.Decisions.{PermitsNext}
use Rattle.otp_ledger.proofs.DecisionLemmas.{permits_next}
use Rattle.otp_ledger.proofs.StandingLemmas.{reply_stands}
use Rattle.otp_ledger.proofs.ledger.Ledger.judge_reply.Goals as goal

pub returns-clause-next : goal.returns-clause-next
returns-clause-next c = subst (PermitsNext (state_at c.args.self.now c.args.account)) (sym c.decide_reply.ensures) (permits_next (state_at c.args.self.now c.args.account) c.args.session (readings c.args.words c.args.hex))

pub returns-clause-verdict : goal.returns-clause-verdict
returns-clause-verdict c = record { by_journal = λ journal user st number. c.decide_reply.ensures ∙ reply_stands c.args.self.now journal user c.args.account c.args.session (readings c.args.words c.args.hex) st number }
