use Rattle.std.proofs.Common.{IfOk, sym, ◌∙◌, subst, take}
use Rattle.outside.specs.Told.{Goes, Rose}
use Rattle.fixed_list.specs.FixedList.{list_of}
use Rattle.otp_mode.specs.Inner.{Accepted}
use Rattle.otp_mode.proofs.PhraseLemmas.{phrase_accepted, phrase_refused}
use Rattle.otp_mode.proofs.phrase.read_phrase.Goals as goal

pub returns-clause-phrase : goal.returns-clause-phrase
returns-clause-phrase g c =
    let got = take c.in_ok-n.n c.receive_line.new.buf in
    let before = g.E.Stream.link c.args.ends.now in
    let after = g.E.Stream.link c.receive_line.new.ends in
    subst (λ r. IfOk r (λ phrase. Goes (Accepted (list_of phrase)) before after)) (sym c.ok_or.ensures.value) (phrase_accepted list_of got before after c.phrase_in.result c.in_ok-n.ensures.received c.phrase_in.ensures)

pub returns-clause-trouble : goal.returns-clause-trouble
returns-clause-trouble g c = λ trouble e.
    let got = take c.in_ok-n.n c.receive_line.new.buf in
    let before = g.E.Stream.link c.args.ends.now in
    let after = g.E.Stream.link c.receive_line.new.ends in
    phrase_refused list_of got before after (Rose (g.E.Stream.faults c.args.ends.now) (g.E.Stream.faults c.receive_line.new.ends)) c.phrase_in.result trouble c.in_ok-n.ensures.received c.phrase_in.ensures (sym c.ok_or.ensures.value ∙ e)
