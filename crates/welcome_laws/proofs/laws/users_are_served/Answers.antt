use Rattle.welcome_laws.proofs.Welcomed.{users_are_served}
use Rattle.welcome_laws.proofs.laws.users_are_served.Goals as goal

pub returns : goal.returns
returns c = users_are_served
