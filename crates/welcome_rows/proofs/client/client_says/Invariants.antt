use Rattle.std.proofs.Common.{[], drop}
use Rattle.welcome_laws.specs.Client.{ClientSays}
use Rattle.welcome_rows.proofs.client.client_says.Given as goal

abbrev pub invariant-loop-act : goal.invariant-loop-act
invariant-loop-act l = ClientSays l.lines l.said.items (drop l.act-index l.acts) → ClientSays l.lines [] l.acts
