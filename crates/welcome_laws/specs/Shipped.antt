-- Believed: a child of a session that is the shipped one.
use Rattle.std.specs.Prelude.{◌≡◌, ◌≢◌, ℕ, List, [], ◌++◌, Some}
use Rattle.request_catalogue.specs.TextBytes.{name_bytes}
use Rattle.outside.specs.Link.{Link}
use Rattle.outside.specs.declared.act.Role.{Role as LaunchedRole}
use Rattle.outside.specs.declared.act.Role.TheVariants as launched
use Rattle.child_protocol.specs.Says.{Role, Pre, User}
use Rattle.child_protocol.specs.Runs.{HasRun}
use Rattle.child_protocol.specs.declared.run.ChildEnd.{ChildEnd}
use Rattle.child_protocol.specs.declared.run.ChildEnd.TheVariants as ends
use Rattle.service_model.specs.Parts.{Part}

-- the shipped child of this role and session, given exactly these replies over a link that didn't fail, sends exactly
-- these bytes
pub record IsSaidWhole (role : Role) (session : ℕ) (replies said : List ℕ) : Type 0 where
  pub end : ChildEnd
  pub after : Link
  pub run : HasRun role session end
      (Some (record { left = replies; taken = []; sent = []; receivings = Some [] })) (Some after)
  pub unfailed : end ≢ ends.LinkFault
  pub sent : said ≡ after.sent

-- the shipped child for a launched role: the one before the login, or the user's with number and name
abbrev pub shipped_role : LaunchedRole → Role
shipped_role (launched.Pre session) = Pre
shipped_role (launched.User session uid user) = User (record { uid = uid; name = name_bytes user })

-- the session that a child was launched for
abbrev pub role_session : LaunchedRole → ℕ
role_session (launched.Pre session) = session
role_session (launched.User session uid user) = session

-- all that a child sent, taken or left unread, is what the shipped child of its role says to what it was sent
pub record IsShipped (part : Part) : Type 0 where
  pub said : IsSaidWhole (shipped_role part.role) (role_session part.role) part.sent (part.taken ++ part.unread)
