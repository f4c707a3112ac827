-- Inner: what stands in the users' files of a post in memory.
use Rattle.std.specs.Prelude.{◌≡◌, ◌≢◌, ◌⊎◌, ℕ, ◌+◌, ◌-◌, List, [], ◌∷◌, ◌++◌, length, take, drop, replicate, Option}
use Rattle.std.specs.Prelude.{Some, unwrap_or}

-- the users' files: the bytes of the file of each user's id and name, if there is one
abbrev pub Vault : Type 0
Vault = ℕ → List ℕ → Option (List ℕ)

-- the bytes of a file from a place on, as many as there is room for; none where there is no file
abbrev pub piece_from : Option (List ℕ) → ℕ → ℕ → List ℕ
piece_from file offset room = take room (drop offset (unwrap_or file []))

-- the bytes of a file after a write: those that it doesn't cover stay, and zeros fill a gap; no
-- bytes leave it as it is
abbrev pub overwritten : List ℕ → ℕ → List ℕ → List ℕ
overwritten old offset [] = old
overwritten old offset (b ∷ bytes) =
    take offset old ++ replicate (offset - length old) 0 ++ (b ∷ bytes) ++ drop (offset + length (b ∷ bytes)) old

-- the user's file of this name has these bytes, and each other file is as it was
pub record FileSet (uid : ℕ) (name bytes : List ℕ) (before after : Vault) : Type 0 where
  pub file : after uid name ≡ Some bytes
  pub others : (other_uid : ℕ) (other : List ℕ) → (other_uid ≢ uid) ⊎ (other ≢ name) → after other_uid other
      ≡ before other_uid other

-- the user's file of this name was written from a place on, and each other file is as it was
pub record FileWritten (uid : ℕ) (name : List ℕ) (offset : ℕ) (bytes : List ℕ) (before after : Vault) : Type 0 where
  pub set : FileSet uid name (overwritten (unwrap_or (before uid name) []) offset bytes) before after
