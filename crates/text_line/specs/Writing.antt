-- Inner: what a writer of a line appends.
use Rattle.std.specs.Prelude.{◌≡◌, ℕ, ◌+◌, ◌≤◌, List, ◌++◌, length}

-- these bytes stand after what was there
pub record Writes (text old new : List ℕ) : Type 0 where
  pub text_is : new ≡ old ++ text
  pub len : length new ≡ length old + length text

-- the same, and they are at most so many
pub record WritesUpTo (most : ℕ) (text old new : List ℕ) : Type 0 where
  pub text_is : new ≡ old ++ text
  pub bound : length new ≤ length old + most
