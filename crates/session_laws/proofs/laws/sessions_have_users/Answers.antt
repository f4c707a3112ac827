use Rattle.session_laws.proofs.LoggedIn.{legal_challenged, legal_user, legal_verified}
use Rattle.session_laws.proofs.laws.sessions_have_users.Goals as goal

pub returns : goal.returns
returns c = λ setup journal legal. record {
  challenged = legal_challenged setup journal legal;
  verified = legal_verified setup journal legal;
  user = legal_user setup journal legal;
}
