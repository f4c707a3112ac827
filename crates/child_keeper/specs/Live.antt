-- Inner: how many of a post's children live.
use Rattle.std.specs.Prelude.{◌≡◌, ℕ, ◌+◌, Bool, true, false, List, count_by, Option, Result, Ok, Err}
use Rattle.outside.specs.declared.act.Act.{Act}
use Rattle.outside.specs.declared.act.Act.TheVariants.{Finish, Start}
use Rattle.outside.specs.Scene.{Scene}
use Rattle.outside.specs.Told.{Goes}

-- a start that succeeded
abbrev pub starts_child : Act → Bool
starts_child (Start role (Ok _)) = true
starts_child _ = false

-- a child that was given back
abbrev pub finishes_child : Act → Bool
finishes_child (Finish role) = true
finishes_child _ = false

-- so many more children were started than were given back
pub record AreLive (live : ℕ) (acts : List Act) : Type 0 where
  pub balance : count_by starts_child acts ≡ count_by finishes_child acts + live

-- where so many children were live before, so many are afterwards
abbrev pub Lives : ℕ → ℕ → Option Scene → Option Scene → Type 0
Lives first then = Goes (λ before after. AreLive first before.acts → AreLive then after.acts)

-- how many children are live after a start: its own, and after a fault none
abbrev pub live_after : {X E : Type 0} → Result X E → ℕ
live_after (Ok _) = 1
live_after (Err _) = 0
