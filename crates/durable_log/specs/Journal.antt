-- Believed: what a durable log holds, whatever a crash leaves of it.
use Rattle.std.specs.Prelude.{◌≡◌, ℕ, ◌+◌, ◌-◌, ◌*◌, ◌/◌, ◌^◌, ◌<◌, ◌≤◌, min, Bool, false, All, List, [], ◌∷◌, ◌++◌}
use Rattle.std.specs.Prelude.{codes, length, take, drop, Option, None, option_map, if◌then◌else◌, ◌==◌, zero, suc}
use Rattle.std.specs.Int.{w16, from_le_bytes, to_le_bytes}
use Rattle.std.specs.List.{concat}
use Rattle.outside.specs.Told.{Goes}
use Rattle.durable_log.specs.Disk.{DiskState, Story, AtEachMoment, moment_of, settled, states_of}
use Rattle.durable_log.specs.Records.{HasRecords, opened}

-- the bytes of a durable log that has exactly these records
abbrev pub image_of : List (List ℕ) → List ℕ
image_of records = codes "OTJ1" ++ (opened records ++ 0 ∷ [])

-- what is written after the closed gate for a record: the length, the bytes and the next closed gate
abbrev pub behind_of : List ℕ → List ℕ
behind_of bytes = to_le_bytes w16 (length bytes) ++ (bytes ++ 0 ∷ [])

-- so many of the given records, from the first on, are those of the image
pub record HasFront (least most : ℕ) (given : List (List ℕ)) (image : List ℕ) : Type 0 where
  pub count : ℕ
  pub least_of : least ≤ count
  pub most_of : count ≤ most
  pub records : HasRecords image (take count given)

-- At the moment of so many calls on the disk, an image has a first part of the given records: all whose append
-- had answered `Ok` by then, and none whose append had not begun. A record takes four calls.
abbrev pub HasAnswered : List (List ℕ) → ℕ → ℕ → ℕ → List ℕ → Type 0
HasAnswered given answered first moment image =
    let calls = moment - first in
    HasFront (min (calls / 4) answered) (min ((calls + 3) / 4) (length given)) given image

-- since the log was made on a disk of the first story, each image that a crash at any moment might
-- have left has a first part of the given records, with all that were answered by then
pub record LosesNothing (given : List (List ℕ)) (answered : ℕ) (first now : Story) : Type 0 where
  pub newer : List DiskState
  pub later : states_of now ≡ newer ++ states_of first
  pub short : All (λ bytes. length bytes < 2 ^ 16) given
  pub few : answered ≤ length given
  pub each : AtEachMoment (moment_of first) (HasAnswered given answered (moment_of first)) (states_of now)

-- the disk reads as the image of the given records, nothing is pending, and the closed gate stands here
pub record IsAtRest (gate : ℕ) (given : List (List ℕ)) (first now : Story) : Type 0 where
  pub state : now.now ≡ settled (image_of given)
  pub place : gate ≡ 4 + length (opened given)
  pub calls : moment_of now ≡ moment_of first + 4 * length given

-- What contracts see of a log: the disk's story when the log was made, and now, where it is told; the place of the
-- closed gate; whether an append failed; the disk's faults; and how many appends were refused without a call
pub record LogParts : Type 0 where
  pub first : Option Story
  pub now : Option Story
  pub gate : ℕ
  pub stopped : Bool
  pub faults : ℕ
  pub refused : ℕ

abbrev pub log_parts : Option Story → Option Story → ℕ → Bool → ℕ → ℕ → LogParts
log_parts first now gate stopped faults refused =
    record { first = first; now = now; gate = gate; stopped = stopped; faults = faults; refused = refused }

-- the log was given these records, and so many of them were answered `Ok`: it loses
-- nothing, and where no append failed all were answered and are at rest
pub record Keeps (given : List (List ℕ)) (answered : ℕ) (log : LogParts) : Type 0 where
  pub told : Goes (LosesNothing given answered) log.first log.now
  pub rest : log.stopped ≡ false → Goes (IsAtRest log.gate given) log.first log.now
  pub all : log.stopped ≡ false → answered ≡ length given

-- what every log keeps
pub record IsLog (log : LogParts) : Type 0 where
  pub given : List (List ℕ)
  pub answered : ℕ
  pub keeps : Keeps given answered log
  pub small : log.gate < 2 ^ 32

-- the records from a gate on, up to the first closed gate, and at most so many
abbrev pub records_from : ℕ → List ℕ → List (List ℕ)
records_from zero bytes = []
records_from (suc fuel) [] = []
records_from (suc fuel) (gate ∷ bytes) =
    let size = from_le_bytes w16 (take 2 bytes) in
    if gate == 1 then take size (drop 2 bytes) ∷ records_from fuel (drop size (drop 2 bytes)) else []

-- the records of an image that has records
abbrev pub records_of : List ℕ → List (List ℕ)
records_of image = records_from (length image) (drop 4 image)

-- what a log holds: the records of what its disk reads as, joined in order, where the disk tells and no append failed
abbrev pub held_of : LogParts → Option (List ℕ)
held_of log = if log.stopped then None else option_map (λ s. concat (records_of s.now.reads)) log.now

-- its faults: the disk's, and the appends that it refused without a call
abbrev pub faults_of : LogParts → ℕ
faults_of log = min (log.faults + log.refused) (2 ^ 64 - 1)

-- the pieces of at most 256 bytes, at most so many
abbrev pub pieces_from : ℕ → List ℕ → List (List ℕ)
pieces_from zero bytes = []
pieces_from (suc fuel) [] = []
pieces_from (suc fuel) (b ∷ bytes) = take 256 (b ∷ bytes) ∷ pieces_from fuel (drop 256 (b ∷ bytes))

-- an append's records: its bytes, in pieces of 256 and a last one of fewer
abbrev pub pieces_of : List ℕ → List (List ℕ)
pieces_of bytes = pieces_from (length bytes) bytes
