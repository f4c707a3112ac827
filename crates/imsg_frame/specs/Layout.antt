-- Inner: where a reader keeps what it holds.
use Rattle.std.specs.Prelude.{ℕ, ◌≤◌, List, length}
use Rattle.request_catalogue.specs.declared.width.Width.{Width}
use Rattle.request_catalogue.specs.Widths.{frame_max}

-- how a ring has the frame given last, and what is held
pub record IsLaidOut (width : Width) (items : List ℕ) (capacity given_len : ℕ) : Type 0 where
  pub low : 16 ≤ capacity
  pub high : capacity ≤ frame_max width
  pub within : length items ≤ capacity
  pub given : given_len ≤ length items
