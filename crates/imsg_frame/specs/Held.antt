-- Inner: what a reader holds.
use Rattle.std.specs.Prelude.{ℕ, List}
use Rattle.request_catalogue.specs.declared.width.Width.{Width}

-- the width of the frames, the greatest length of a frame that is given, the frame given last, until it leaves
-- the ring, and the bytes that were fed and not yet given
pub record Held : Type 0 where
  pub width : Width
  pub max : ℕ
  pub given : List ℕ
  pub bytes : List ℕ
