-- Inner: one step through an image.
use Rattle.std.specs.Prelude.{◌≡◌, ◌≢◌, ℕ, ◌≤◌, ◌<◌, ◌^◌, List, ◌∷◌, ◌++◌, length}
use Rattle.durable_log.specs.Records.{HasRecords, record_bytes}
use Rattle.ledger_journal.specs.declared.records.Next.{Next}
use Rattle.ledger_journal.specs.declared.records.Next.TheVariants.{Closed, Cut, Opened}

-- an opened record stands in front of at least one byte
pub record IsOpened (rest bytes behind : List ℕ) : Type 0 where
  pub parts : rest ≡ record_bytes bytes ++ behind
  pub short : length bytes < 2 ^ 16
  pub more : 1 ≤ length behind

-- a closed gate stands in front
pub record IsClosed (rest : List ℕ) : Type 0 where
  pub gate : ℕ
  pub behind : List ℕ
  pub parts : rest ≡ gate ∷ behind
  pub closed : gate ≢ 1

-- neither
pub record IsCut (rest : List ℕ) : Type 0 where
  pub no_record : (bytes behind : List ℕ) → IsOpened rest bytes behind → ⊥
  pub no_gate : IsClosed rest → ⊥

abbrev pub IsNextOf : List ℕ → Next → Type 0
IsNextOf rest (Opened bytes behind) = IsOpened rest bytes.now behind.now
IsNextOf rest Closed = IsClosed rest
IsNextOf rest Cut = IsCut rest

-- an opened record of a length is cut off what stands after the length, or is cut short
pub record IsCutAt (len : ℕ) (behind bytes rest : List ℕ) : Type 0 where
  pub parts : behind ≡ bytes ++ rest
  pub measured : length bytes ≡ len
  pub more : 1 ≤ length rest

abbrev pub IsCutOff : ℕ → List ℕ → Next → Type 0
IsCutOff len behind (Opened bytes rest) = IsCutAt len behind bytes.now rest.now
IsCutOff len behind Closed = ⊥
IsCutOff len behind Cut = length behind ≤ len

-- an image has no records
abbrev pub IsNoLog : List ℕ → Type 0
IsNoLog image = (records : List (List ℕ)) → HasRecords image records → ⊥
