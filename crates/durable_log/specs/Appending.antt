-- Inner: what an append does to a durable log.
use Rattle.std.specs.Prelude.{◌≡◌, ◌⊎◌, ℕ, ◌+◌, ◌*◌, ◌<◌, ◌≤◌, true, false, List, ◌++◌, length, take}
use Rattle.outside.specs.Told.{next_count}
use Rattle.durable_log.specs.Journal.{Keeps, LogParts, pieces_of}

-- where the closed gate stands after all records of an append
abbrev pub end_of : LogParts → List ℕ → ℕ
end_of log bytes = log.gate + length bytes + 3 * length (pieces_of bytes)

-- of an append's records some were begun, and all of these but perhaps the last are done
pub record BreaksOff (given : List (List ℕ)) (answered : ℕ) (bytes : List ℕ) (log : LogParts) : Type 0 where
  pub begun : ℕ
  pub done : ℕ
  pub least : done ≤ begun
  pub most : begun ≤ done + 1
  pub keeps : Keeps (given ++ take begun (pieces_of bytes)) (answered + done) log

-- whatever records a log was given before, now it was given those of the append too, and all of them are answered
abbrev pub KeepsAll : List ℕ → LogParts → LogParts → Type 0
KeepsAll bytes old new =
    (given : List (List ℕ)) (answered : ℕ) → Keeps given answered old → Keeps (given ++ pieces_of bytes)
    (answered + length (pieces_of bytes)) new

-- whatever records a log was given before, the append broke off after them
abbrev pub KeepsSome : List ℕ → LogParts → LogParts → Type 0
KeepsSome bytes old new =
    (given : List (List ℕ)) (answered : ℕ) → Keeps given answered old → BreaksOff given answered bytes new

-- no append failed before, and all records of this one stand in the image, within its first 271,581,189 bytes
pub record IsDone (bytes : List ℕ) (old new : LogParts) : Type 0 where
  pub was : old.stopped ≡ false
  pub is : new.stopped ≡ false
  pub place : new.gate ≡ end_of old bytes
  pub fits : 0 < length bytes → end_of old bytes + 1 ≤ 271581189
  pub faults : new.faults ≡ old.faults
  pub refused : new.refused ≡ old.refused

-- an append was refused without a failed call of the disk
pub record IsRefused (old new : LogParts) : Type 0 where
  pub faults : new.faults ≡ old.faults
  pub refused : new.refused ≡ next_count old.refused

-- a call of the disk failed
pub record HasFailed (old new : LogParts) : Type 0 where
  pub faults : new.faults ≡ next_count old.faults
  pub refused : new.refused ≡ old.refused

-- an append failed before: this one is refused, and the disk stands as it did
pub record WasStopped (old new : LogParts) : Type 0 where
  pub was : old.stopped ≡ true
  pub still : new.now ≡ old.now
  pub refused : IsRefused old new

-- a record of the append would end past the image's first 271,581,189 bytes;
-- where it is the append's only one the disk stands as it did
pub record IsTooLong (bytes : List ℕ) (old new : LogParts) : Type 0 where
  pub far : 271581189 < end_of old bytes + 1
  pub still : length bytes ≤ 256 → new.now ≡ old.now
  pub refused : IsRefused old new

-- the log takes no append any more, for one of these causes
pub record HasStopped (bytes : List ℕ) (old new : LogParts) : Type 0 where
  pub is : new.stopped ≡ true
  pub cause : WasStopped old new ⊎ (IsTooLong bytes old new ⊎ HasFailed old new)
