-- Believed: the image of a durable log, and the records that it holds.
use Rattle.std.specs.Prelude.{◌≡◌, ◌≢◌, ℕ, ◌<◌, ◌^◌, List, [], ◌∷◌, ◌++◌, All, codes, length}
use Rattle.std.specs.Int.{w16, to_le_bytes}

-- the bytes of one record: an open gate, its length and its bytes
abbrev pub record_bytes : List ℕ → List ℕ
record_bytes bytes = 1 ∷ (to_le_bytes w16 (length bytes) ++ bytes)

-- the bytes of these records, one after the other
abbrev pub opened : List (List ℕ) → List ℕ
opened [] = []
opened (bytes ∷ records) = record_bytes bytes ++ opened records

-- an image begins with `OTJ1`, these records and a closed gate; what follows doesn't count
pub record HasRecords (image : List ℕ) (records : List (List ℕ)) : Type 0 where
  pub gate : ℕ
  pub behind : List ℕ
  pub closed : gate ≢ 1
  pub short : All (λ bytes. length bytes < 2 ^ 16) records
  pub image_is : image ≡ codes "OTJ1" ++ (opened records ++ gate ∷ behind)
