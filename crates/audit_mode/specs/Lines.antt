-- Believed: the line that the mode `audit` sends.
use Rattle.std.specs.Prelude.{ℕ, List, ◌++◌, codes}
use Rattle.std.specs.Fmt.{decimal}
use Rattle.audit_check.specs.declared.answer.Audit.{Audit}
use Rattle.audit_check.specs.declared.answer.Audit.TheVariants.{Yes, No}
use Rattle.audit_check.specs.declared.answer.AuditWhy.{AuditWhy}
use Rattle.audit_check.specs.declared.answer.AuditWhy.TheVariants as whys

-- the word for what is wrong with a log
abbrev pub why_word : AuditWhy → List ℕ
why_word whys.Text = codes "text"
why_word whys.Count = codes "count"
why_word whys.Event = codes "event"

-- the line of an answer: `yes EVENTS` or `no PLACE WHY`
abbrev pub answer_line : Audit → List ℕ
answer_line (Yes events) = codes "yes " ++ decimal events ++ codes "\n"
answer_line (No place why) = codes "no " ++ decimal place ++ codes " " ++ why_word why ++ codes "\n"
