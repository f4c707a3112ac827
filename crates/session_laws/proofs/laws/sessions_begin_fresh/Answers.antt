use Rattle.session_laws.proofs.HandleLaws.{gives_least}
use Rattle.session_laws.proofs.Opened.{fresh}
use Rattle.session_laws.proofs.laws.sessions_begin_fresh.Goals as goal

pub returns : goal.returns
returns c = λ setup journal e follows. record { fresh = fresh setup journal e follows.legal follows.next; least = gives_least setup journal e follows.next }
