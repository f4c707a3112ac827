use Rattle.policy_model.specs.Logins.{verified_user}
use Rattle.child_keeper.proofs.Numbers.{hands_to}
use Rattle.child_keeper.proofs.laws.exports_hand_to_the_verified_user.Goals as goal

pub returns : goal.returns
returns c = λ setup journal event account value found. hands_to setup (verified_user journal event.session) event account value found
