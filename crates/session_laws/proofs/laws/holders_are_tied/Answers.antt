use Rattle.session_laws.proofs.Holders.{holds_one, legal_tied}
use Rattle.session_laws.proofs.Numbers.{decoyed_holds, holds_only, unchallenged_holds}
use Rattle.session_laws.proofs.laws.holders_are_tied.Goals as goal

pub returns : goal.returns
returns c = λ setup journal legal. record {
  tied = legal_tied setup journal legal;
  one = holds_one setup journal legal;
  only = λ session number user in_range challenged is. holds_only setup journal session number user in_range legal challenged is;
  decoyed = λ session decoyed. decoyed_holds setup journal session legal decoyed;
  unchallenged = λ session other. unchallenged_holds setup journal session legal other;
}
