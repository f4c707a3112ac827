use Rattle.imsg_frame.specs.Message.{message_of}
use Rattle.request_catalogue.specs.Replies.{answer_of}
use Rattle.child_protocol.specs.Stands.{kept_of, role_value}
use Rattle.child_protocol.proofs.Messages.{message_refused, message_taken, ready}
use Rattle.child_protocol.proofs.child.Child.take.Goals as goal

pub take_answer-requires-clause-ready : goal.take_answer-requires-clause-ready
take_answer-requires-clause-ready c = ready (role_value c.args.self.now.whose) (kept_of c.args.self.now.dialogue) c.requires.run

pub returns-in-Some-clause-takes : goal.returns-in-Some-clause-takes
returns-in-Some-clause-takes c =
    message_taken (role_value c.args.self.now.whose) c.args.self.now.session c.kind.result c.form.result (kept_of c.args.self.now.dialogue) (kept_of c.take_answer.new.self) (message_of c.args.frame.now) (answer_of c.in-Some.answer)
    c.take_answer.result c.args.out.now c.take_answer.new.out (record { kind_is = c.kind.ensures; form_is = c.form.ensures }) c.requires.asked c.in-Some.ensures.found c.take_answer.ensures

pub returns-in-None-clause-takes : goal.returns-in-None-clause-takes
returns-in-None-clause-takes c =
    message_refused (role_value c.args.self.now.whose) c.args.self.now.session c.kind.result c.form.result (kept_of c.args.self.now.dialogue) (message_of c.args.frame.now)
    (record { kind_is = c.kind.ensures; form_is = c.form.ensures }) c.requires.asked c.in-None.ensures.only
