-- Inner: what stands on a disk, what its calls do to it, and what a crash may leave.
use Rattle.std.specs.Prelude.{◌≡◌, ◌⊎◌, ℕ, ◌+◌, ◌≤◌, max, List, [], ◌∷◌, ◌++◌, length, take, drop}

-- what stands on a disk: what a read gives; what a read gave at the last sync that answered Ok; and
-- the ranges that were written since, each its place and its length, the latest first
pub record DiskState : Type 0 where
  pub reads : List ℕ
  pub safe : List ℕ
  pub loose : List (ℕ × ℕ)

-- a write of so many bytes at a place may leave this: any bytes in the range and past the old end, the same elsewhere
pub record IsTorn (at size : ℕ) (before after : List ℕ) : Type 0 where
  pub front : take at after ≡ take at before
  pub back : drop (at + size) after ≡ drop (at + size) before
  pub no_shorter : length before ≤ length after
  pub no_longer : length after ≤ max (length before) (at + size)

-- what may stand where these ranges were written, one after the other, and no sync came after them
abbrev pub MayStand : List ℕ → List (ℕ × ℕ) → List ℕ → Type 0
MayStand safe [] image = image ≡ safe
MayStand safe (range ∷ ranges) image =
    (earlier : List ℕ) × MayStand safe ranges earlier × IsTorn range.0 range.1 earlier image

-- a crash may leave this image
abbrev pub MayLeave : DiskState → List ℕ → Type 0
MayLeave state image = MayStand state.safe state.loose image

-- these bytes stand on the disk, and a crash leaves just them
abbrev pub settled : List ℕ → DiskState
settled bytes = record { reads = bytes; safe = bytes; loose = [] }

-- a disk's story: what stands on it now, and what stood on it before each call, the latest first
pub record Story : Type 0 where
  pub now : DiskState
  pub past : List DiskState

-- what stood on the disk at each moment, the latest first
abbrev pub states_of : Story → List DiskState
states_of story = story.now ∷ story.past

-- the moment, as the number of calls so far
abbrev pub moment_of : Story → ℕ
moment_of story = length story.past

-- from one moment on, each image that a crash at a moment might have left meets a demand of that moment
abbrev pub AtEachMoment : ℕ → (ℕ → List ℕ → Type 0) → List DiskState → Type 0
AtEachMoment since Demand [] = Unit {0}
AtEachMoment since Demand (state ∷ older) =
    (since ≤ length older → (image : List ℕ) → MayLeave state image → Demand (length older) image)
    × AtEachMoment since Demand older

-- the bytes that a read gives after a write that was done
abbrev pub overwritten : List ℕ → ℕ → List ℕ → List ℕ
overwritten old at bytes = take at old ++ (bytes ++ drop (at + length bytes) old)

-- the story after a call that left this
abbrev pub then_state : Story → DiskState → Story
then_state story state = record { now = state; past = states_of story }

-- a write of these bytes was done
abbrev pub wrote : ℕ → List ℕ → Story → Story
wrote at bytes story = then_state story (record {
  reads = overwritten story.now.reads at bytes;
  safe = story.now.safe;
  loose = (at, length bytes) ∷ story.now.loose;
})

-- a write failed: some part of it may be done
pub record HalfWrote (at : ℕ) (bytes : List ℕ) (before after : Story) : Type 0 where
  pub reads : List ℕ
  pub torn : IsTorn at (length bytes) before.now.reads reads
  pub is : after ≡ then_state before (record {
    reads = reads;
    safe = before.now.safe;
    loose = (at, length bytes)
        ∷ before.now.loose;
  })

-- a sync was done
abbrev pub synced : Story → Story
synced story = then_state story (settled story.now.reads)

-- a sync failed: nothing became safe
abbrev pub not_synced : Story → Story
not_synced story = then_state story story.now

-- a write and the sync after it were done
abbrev pub wrote_safely : ℕ → List ℕ → Story → Story
wrote_safely at bytes story = synced (wrote at bytes story)

-- a write failed, or the sync after it
abbrev pub HalfWroteSafely : ℕ → List ℕ → Story → Story → Type 0
HalfWroteSafely at bytes before after = HalfWrote at bytes before after ⊎ (after ≡ not_synced (wrote at bytes before))

-- a call of a disk, whether it was done or failed
abbrev pub IsCall : ℕ → List ℕ → Story → Story → Type 0
IsCall at bytes before after =
    (after ≡ wrote at bytes before)
    ⊎ (HalfWrote at bytes before after ⊎ ((after ≡ synced before) ⊎ (after ≡ not_synced before)))
