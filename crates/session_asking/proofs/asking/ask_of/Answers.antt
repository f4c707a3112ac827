use Rattle.std.proofs.Common.{refl}
use Rattle.session_asking.proofs.asking.ask_of.Goals as goal

pub returns-in-Challenge-clause-asks : goal.returns-in-Challenge-clause-asks
returns-in-Challenge-clause-asks g c = rw c.in-Ok.is (rw c.in-Challenge.is (c.in-Challenge.user, c.now.result, refl, refl))

pub returns-in-OpenFile-clause-asks : goal.returns-in-OpenFile-clause-asks
returns-in-OpenFile-clause-asks g c = rw c.in-Ok.is (rw c.in-OpenFile.is (c.in-OpenFile.name, refl, refl))

pub returns-in-Note-clause-asks : goal.returns-in-Note-clause-asks
returns-in-Note-clause-asks g c = rw c.in-Ok.is (rw c.in-Note.is (c.in-Note.text, refl, refl))
