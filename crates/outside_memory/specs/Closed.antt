-- Inner: what a stream in memory leaves once it is closed.
use Rattle.std.specs.Prelude.{◌≡◌}
use Rattle.outside.specs.declared.act.Role.{Role}
use Rattle.outside_memory.specs.declared.closed.Closed.{Closed}
use Rattle.outside.specs.Link.{Link}
use Rattle.outside.specs.Scene.{talk_by}

-- what a stream to a child of this role told, as it stands once the stream is closed
pub record IsClosed (role : Role) (closed : Closed) (link : Link) : Type 0 where
  pub talk : closed.talk ≡ talk_by role link
  pub unread : closed.unread ≡ link.left
