use Rattle.audit_mode.proofs.TextLemmas.{read_on}
use Rattle.audit_mode.proofs.text.text_of_records.Goals as goal

pub loop-line-preserved : goal.loop-line-preserved
loop-line-preserved c =
    read_on c.args.records.now c.loop-line.rest.now c.loop-line.text.items c.in-Some.line.now c.in-Some.behind.now c.extend_from_slice.new.self.items c.loop-line.invariant c.in-Some.ensures.0 c.in-Some.ensures.1 c.in_ok-extend_from_slice.ensures.items
