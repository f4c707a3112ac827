use Rattle.child_protocol.proofs.UserPhaseLemmas.{allowed}
use Rattle.child_protocol.proofs.rows.each_request_is_allowed.Goals as goal

pub returns : goal.returns
returns c = allowed
