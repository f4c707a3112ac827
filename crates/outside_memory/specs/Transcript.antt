-- Inner: what a post in memory tells of what it was asked.
use Rattle.std.specs.Prelude.{◌≡◌, ℕ, ◌+◌, ◌-◌, ◌≤◌, IfSome, IsTrue, List, Option, Vec, vec_capacity, vec_len}
use Rattle.std.specs.Global.{Global}
use Rattle.outside_memory.specs.declared.transcript.Transcript.{Transcript}
use Rattle.outside.specs.declared.faults.Faults.{Faults}
use Rattle.outside_memory.specs.declared.script.Script.{Script}
use Rattle.outside.specs.Scene.{CountsAsTold, Scene, came_count}
use Rattle.outside_memory.specs.Script.{plan_of}
use Rattle.outside.specs.Told.{told_if}

-- what a post with this transcript and plan tells
abbrev pub scene_with : Transcript → List (List ℕ × List ℕ) → Option Scene
scene_with t plan =
    told_if t.telling (record { acts = t.acts.items; talks = t.talks.items; unread = t.unread.items; plan = plan })

-- so many connections came, if it is told
abbrev pub HasCome : Transcript → ℕ → Type 0
HasCome t came = IsTrue t.telling → came_count t.acts.items ≡ came

-- the room for all that is still told was taken beforehand
pub record HasTakenRoom (t : Transcript) : Type 0 where
  pub acts : vec_len t.acts + t.acts_left ≤ vec_capacity t.acts
  pub talks : vec_len t.talks + t.talks_left ≤ vec_capacity t.talks
  pub unread : vec_len t.unread + t.talks_left ≤ vec_capacity t.unread

-- so many fewer acts and talks have room, and the room for acts is the same
pub record Spent (done given : ℕ) (before after : Transcript) : Type 0 where
  pub acts : after.acts_left ≡ before.acts_left - done
  pub talks : after.talks_left ≡ before.talks_left - given
  pub room : after.room ≡ before.room

-- so many operations are counted as are told as failed
abbrev pub AreTold : Transcript → Vec Script Global → Faults → Type 0
AreTold t scripts faults = IfSome (scene_with t (plan_of scripts.items)) (λ s. CountsAsTold s faults)
