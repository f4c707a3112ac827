-- Inner: what a log of lines holds, and what each image that a crash may leave of it holds.
use Rattle.std.specs.Prelude.{ℕ, ◌≡◌, ◌⊎◌, ◌+◌, ◌-◌, ◌^◌, ◌≤◌, min, Bool, true, false, List, ◌++◌, length, Option, None}
use Rattle.std.specs.Prelude.{option_map, is_some, IfSome, if◌then◌else◌}
use Rattle.std.specs.List.{AllByRecursion, concat}
use Rattle.outside.specs.Told.{Goes}
use Rattle.durable_log.specs.Appending.{HasStopped}
use Rattle.durable_log.specs.Disk.{Story}
use Rattle.durable_log.specs.Journal.{Keeps, LogParts, LosesNothing, faults_of, held_of}
use Rattle.line_log.specs.Line.{is_line}

-- What contracts see of a log of lines: the log of records now, and as it stood before the append
-- that failed; the line of that append; and how many appends were refused without one
pub record LineParts : Type 0 where
  pub log : LogParts
  pub before : LogParts
  pub last : List ℕ
  pub refused : ℕ

abbrev pub line_parts : LogParts → LogParts → List ℕ → ℕ → LineParts
line_parts log before last refused = record { log = log; before = before; last = last; refused = refused }

-- what was given after a failed append: what the log held before, and the line of that append
abbrev pub given_at_last : LineParts → Option (List ℕ)
given_at_last parts =
    if is_some parts.log.now then option_map (λ held. held ++ parts.last) (held_of parts.before) else None

-- the bytes that the log was given, where its disk tells: those of its records, and of a last line whose append failed
abbrev pub given_of : LineParts → Option (List ℕ)
given_of parts = if parts.log.stopped then given_at_last parts else held_of parts.log

-- its faults: those of the log of records, and the appends that it refused itself
abbrev pub line_faults : LineParts → ℕ
line_faults parts = min (faults_of parts.log + parts.refused) (2 ^ 64 - 1)

-- the disk's story when the log was made, and now
abbrev pub first_story : LineParts → Option Story
first_story parts = parts.log.first

abbrev pub last_story : LineParts → Option Story
last_story parts = parts.log.now

-- a line
pub record IsLine (bytes : List ℕ) : Type 0 where
  pub is : is_line bytes ≡ true

-- the log was given these lines, and so many of them were answered `Ok`: all, or all but the last
-- where that one's append failed. It loses nothing, and what it was given is these lines.
pub record KeepsLines (lines : List (List ℕ)) (answered : ℕ) (parts : LineParts) : Type 0 where
  pub each : AllByRecursion IsLine lines
  pub told : Goes (LosesNothing lines answered) parts.log.first parts.log.now
  pub joined : IfSome (given_of parts) (λ given. given ≡ concat lines)
  pub all : parts.log.stopped ≡ false → Keeps lines answered parts.log
  pub most : length lines ≤ answered + 1

-- what every log of lines keeps
pub record IsLineLog (parts : LineParts) : Type 0 where
  pub lines : List (List ℕ)
  pub answered : ℕ
  pub keeps : KeepsLines lines answered parts

-- and its flag says whether an append failed on the disk
pub record IsLineLogOf (flag : Bool) (parts : LineParts) : Type 0 where
  pub flag_is : flag ≡ parts.log.stopped
  pub log : IsLineLog parts

-- an append is refused, and the log stands as it did: the bytes are no line, or an append failed before
pub record IsTurnedAway (bytes : List ℕ) (old new : LineParts) : Type 0 where
  pub cause : (is_line bytes ≡ false) ⊎ (old.log.stopped ≡ true)
  pub same : new.log ≡ old.log

-- why an append failed: it was refused, or the log of records took the line and stopped
abbrev pub HasFailed : List ℕ → LineParts → LineParts → Type 0
HasFailed bytes old new = IsTurnedAway bytes old new ⊎ HasStopped bytes old.log new.log
