use Rattle.decision_log.specs.Logged.{logged_ask}
use Rattle.decision_log.proofs.Asked.{asked}
use Rattle.decision_log.proofs.reading.ask_read.Goals as goal

pub returns-in-Some : goal.returns-in-Some
returns-in-Some c = asked (λ f. record { value = logged_ask f.value; rest = f.rest.now }) c.ask_behind.result c.args.text.now c.next_part-part.result.bytes.now c.next_part-part.result.rest.now c.in-Some.word c.of.result c.next_part-part.ensures.bytes c.next_part-part.ensures.rest c.of.ensures c.in-Some.is c.ask_behind.ensures
