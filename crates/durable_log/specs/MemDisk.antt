-- Inner: what a disk in memory keeps, and the images that it shows.
use Rattle.std.specs.Prelude.{◌≡◌, ℕ, ◌-◌, ◌≤◌, Bool, true, false, List, [], ◌∷◌, length, get_or, replicate, Option}
use Rattle.outside.specs.Told.{told_if}
use Rattle.durable_log.specs.declared.memory.call.DiskCall.{DiskCall}
use Rattle.durable_log.specs.declared.memory.call.DiskCall.TheVariants.{Write, Sync}
use Rattle.durable_log.specs.declared.memory.picture.Picture.{Picture}
use Rattle.durable_log.specs.Disk.{DiskState, Story, moment_of, overwritten, settled, states_of, then_state}

-- what stands on a disk after a call; a write that fails writes nothing that a read gives, and its range is unsafe
abbrev pub state_after : DiskState → DiskCall → DiskState
state_after s (Write at bytes true) =
    record { reads = overwritten s.reads at bytes; safe = s.safe; loose = (at, length bytes) ∷ s.loose }
state_after s (Write at bytes false) = record { reads = s.reads; safe = s.safe; loose = (at, length bytes) ∷ s.loose }
state_after s (Sync true) = settled s.reads
state_after s (Sync false) = s

-- the story of these calls, the earliest first
abbrev pub story_from : Story → List DiskCall → Story
story_from story [] = story
story_from story (call ∷ calls) = story_from (then_state story (state_after story.now call)) calls

-- what stands on a disk after these calls
abbrev pub states_from : DiskState → List DiskCall → DiskState
states_from s [] = s
states_from s (call ∷ calls) = states_from (state_after s call) calls

-- the story of a disk on which these bytes stand
abbrev pub begun : List ℕ → Story
begun bytes = record { now = settled bytes; past = [] }

-- what stood on the disk after so many calls
abbrev pub state_at : ℕ → Story → DiskState
state_at calls story = get_or (states_of story) (moment_of story - calls) story.now

-- bytes in which each of these ranges has one value
abbrev pub filled_from : ℕ → List ℕ → List (ℕ × ℕ) → List ℕ
filled_from fill safe [] = safe
filled_from fill safe (range ∷ ranges) = overwritten (filled_from fill safe ranges) range.0 (replicate range.1 fill)

-- the image in which every byte that is not yet safe has one value
abbrev pub filled : ℕ → DiskState → List ℕ
filled fill state = filled_from fill state.safe state.loose

-- a call begins within what is read
abbrev pub IsWithin : DiskState → DiskCall → Type 0
IsWithin s (Write at bytes done) = at ≤ length s.reads
IsWithin s (Sync done) = Unit {0}

-- each call does
abbrev pub AreWithin : DiskState → List DiskCall → Type 0
AreWithin s [] = Unit {0}
AreWithin s (call ∷ calls) = IsWithin s call × AreWithin (state_after s call) calls

-- what contracts see of a disk in memory: its story, where it tells;
-- the calls so far; which of them fail; and its faults
pub record MemDiskParts : Type 0 where
  pub story : Option Story
  pub made : ℕ
  pub fails : List ℕ
  pub faults : ℕ

abbrev pub disk_parts : Bool → List ℕ → List DiskCall → ℕ → List ℕ → ℕ → MemDiskParts
disk_parts telling first calls made fails faults =
    record { story = told_if telling (story_from (begun first) calls); made = made; fails = fails; faults = faults }

-- what a read gives of a disk, and the image in which every byte that is not yet safe has one value
pub record IsPicture (fill : ℕ) (state : DiskState) (picture : Picture) : Type 0 where
  pub reads : picture.reads.items ≡ state.reads
  pub image : picture.image.items ≡ filled fill state
