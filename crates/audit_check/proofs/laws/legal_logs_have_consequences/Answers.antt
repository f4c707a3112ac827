use Rattle.audit_check.proofs.LogLaws.{consequences}
use Rattle.audit_check.proofs.laws.legal_logs_have_consequences.Goals as goal

pub returns : goal.returns
returns c = λ setup events legal. consequences setup events legal
