-- Believed: what came of a child's mode.
use Rattle.std.specs.Prelude.{◌≡◌, ℕ, Option}
use Rattle.outside.specs.Link.{Link}
use Rattle.child_protocol.specs.declared.run.ChildEnd.{ChildEnd}
use Rattle.child_protocol.specs.declared.run.ChildEnd.TheVariants as ends
use Rattle.child_protocol.specs.Runs.{HasRun}
use Rattle.child_mode.specs.declared.run.ChildRun.{ChildRun}
use Rattle.child_mode.specs.declared.run.ChildRun.TheVariants as runs
use Rattle.child_mode.specs.Words.{ChildParts}

-- the run is that of the child over its link, and a link that failed was counted
pub record IsEndedRun (parts : ChildParts) (end : ChildEnd) (before after : Option Link)
    (EndsFailed : Type 0) : Type 0 where
  pub run : HasRun parts.role parts.session end before after
  pub fault : end ≡ ends.LinkFault → EndsFailed

-- what each end of a child's mode means: a run of the child over the ends, or memory ran out and nothing was sent or
-- taken
abbrev pub IsOutcome : ChildParts → Option Link → Option Link → Type 0 → ChildRun → Type 0
IsOutcome parts before after EndsFailed (runs.Ended end) = IsEndedRun parts end before after EndsFailed
IsOutcome parts before after EndsFailed runs.OutOfMemory = after ≡ before

-- the exit status for each end of a child's run
abbrev pub end_status : ChildEnd → ℕ
end_status ends.LinkFault = 11
end_status ends.Unreadable = 12
end_status _ = 0

-- the exit status of a child's mode
abbrev pub run_status : ChildRun → ℕ
run_status (runs.Ended end) = end_status end
run_status runs.OutOfMemory = 9
