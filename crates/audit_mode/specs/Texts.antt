-- Believed: the text that the file of a log has.
use Rattle.std.specs.Prelude.{◌≡◌, ℕ, ◌<◌, ◌^◌, All, Bool, true, false, List, ◌++◌, codes, drop, length, take}
use Rattle.std.specs.List.{concat}
use Rattle.std.specs.Str.{bytes_eq}
use Rattle.durable_log.specs.Records.{opened, record_bytes}

-- no whole record stands at the front of these bytes
abbrev pub IsRecordless : List ℕ → Type 0
IsRecordless bytes = (line behind : List ℕ) → length line < 2 ^ 16 → bytes ≡ record_bytes line ++ behind → ⊥

-- these are all whole records from the first byte on
pub record AreWholeRecords (bytes : List ℕ) (records : List (List ℕ)) : Type 0 where
  pub rest : List ℕ
  pub short : All (λ line. length line < 2 ^ 16) records
  pub parts : bytes ≡ opened records ++ rest
  pub last : IsRecordless rest

-- a text is the lines of all whole records in these bytes, joined in their order
pub record IsTextOfRecords (bytes text : List ℕ) : Type 0 where
  pub records : List (List ℕ)
  pub whole : AreWholeRecords bytes records
  pub joined : text ≡ concat records

-- a file is a durable log: it begins with `OTJ1`
abbrev pub is_durable : List ℕ → Bool
is_durable bytes = bytes_eq (take 4 bytes) (codes "OTJ1")

-- the text of a file, by whether it is a durable log
abbrev pub IsTextWhere : Bool → List ℕ → List ℕ → Type 0
IsTextWhere true bytes text = IsTextOfRecords (drop 4 bytes) text
IsTextWhere false bytes text = text ≡ bytes

-- the text that is audited of a file: the lines of a durable log's records, or the bytes of any other file
abbrev pub IsAuditedText : List ℕ → List ℕ → Type 0
IsAuditedText bytes text = IsTextWhere (is_durable bytes) bytes text
