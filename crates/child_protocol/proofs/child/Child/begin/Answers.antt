use Rattle.child_protocol.specs.Stands.{kept_of, role_value, first_request}
use Rattle.child_protocol.proofs.Messages.{begins, first_asked}
use Rattle.child_protocol.proofs.child.Child.begin.Goals as goal

pub returns-clause-stands : goal.returns-clause-stands
returns-clause-stands c = begins (role_value c.args.self.now.whose) (kept_of c.args.self.now.dialogue) _ c.requires.new c.begin.ensures.kept

pub returns-clause-begun : goal.returns-clause-begun
returns-clause-begun c =
    let role = role_value c.args.self.now.whose in
    record { request = first_request role; asked = first_asked role; put = c.begin.ensures.asks }
