use Rattle.std.proofs.Common.{◌∙◌}
use Rattle.otp_ledger.proofs.StandingLemmas.{challenge_stands}
use Rattle.otp_ledger.proofs.ledger.Ledger.judge_challenge.Goals as goal

pub returns-clause-verdict : goal.returns-clause-verdict
returns-clause-verdict c = record { by_journal = λ journal st. c.decide_challenge.ensures ∙ challenge_stands c.args.self.now journal c.args.user.now c.args.session c.args.now st }
