use Rattle.std.proofs.Common.{◌≡◌, subst}
use Rattle.trouble.specs.declared.trouble.FileKind.TheVariants as kinds
use Rattle.trouble.specs.declared.trouble.Trouble.TheVariants as troubles
use Rattle.audit_mode.specs.Outcome.{IsAnswerOfBytes, IsLogTrouble, IsOnlyAnswer}
use Rattle.audit_mode.proofs.AuditLemmas.{answer-of-front, answer-of-text, missing-log}
use Rattle.audit_mode.proofs.run.audit_log.Goals as goal

pub returns-in_default-clause-trouble : goal.returns-in_default-clause-trouble
returns-in_default-clause-trouble g c = λ trouble is.
    let same : troubles.Missing kinds.Log ≡ trouble = cc in
    let contents = g.F.Files.contents c.read_front.new.files in
    subst (IsLogTrouble contents c.args.name.now _) same (missing-log (λ bytes. bytes.items) c.in_ok-bytes.field-0 contents c.args.name.now c.in_default.is c.in_ok-bytes.ensures.front)

pub returns-clause-answer : goal.returns-clause-answer
returns-clause-answer g c =
    let said = c.in_ok-audit.ensures in
    let bytes = c.in-Some.bytes.items in
    let answer = c.in_ok-audit.field-0 in
    let only : IsOnlyAnswer c.args.setup.now c.in_ok-text.text.items answer = subst (λ t. IsOnlyAnswer c.args.setup.now t answer) c.as_slice.ensures.value (record { said = said.said; exact = said.exact; runs = said.runs }) in
    let of_bytes : IsAnswerOfBytes c.args.setup.now bytes answer = answer-of-text bytes c.in_ok-text.text.items c.args.setup.now answer c.in_ok-text.ensures only in
    answer-of-front (λ bytes. bytes.items) c.in_ok-bytes.field-0 c.in-Some.bytes (g.F.Files.contents c.read_front.new.files) c.args.name.now c.args.setup.now answer c.in-Some.is c.in_ok-bytes.ensures.front of_bytes
