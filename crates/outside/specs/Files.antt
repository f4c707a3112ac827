-- Believed: what stands in files, and what a reading gives of it.
use Rattle.std.specs.Prelude.{◌≡◌, ◌≢◌, ◌⊎◌, ℕ, List, take, drop, find, Option, Some, None, option_map}
use Rattle.std.specs.Str.{bytes_eq}

-- all files: for each name the bytes of its file, if there is one
abbrev pub Contents : Type 0
Contents = List ℕ → Option (List ℕ)

-- the bytes of the first of these pairs that has the name, if there is one
abbrev pub file_of : List (List ℕ × List ℕ) → List ℕ → Option (List ℕ)
file_of pairs name = option_map (λ p. p.1) (find (λ p. bytes_eq p.0 name) pairs)

-- the bytes that a reading put to the front of the buffer, if there is a file
abbrev pub bytes_read : Option ℕ → List ℕ → Option (List ℕ)
bytes_read None buffer = None
bytes_read (Some n) buffer = Some (take n buffer)

-- the bytes of a file from a place on, as many as there is room for
abbrev pub piece_of : Option (List ℕ) → ℕ → ℕ → Option (List ℕ)
piece_of file offset room = option_map (λ bytes. take room (drop offset bytes)) file

-- every file is as it was
pub record SameFiles (before after : Contents) : Type 0 where
  pub same : (name : List ℕ) → after name ≡ before name

-- the file of this name has these bytes, and every other file is as it was
pub record Replaced (name bytes : List ℕ) (before after : Contents) : Type 0 where
  pub file : after name ≡ Some bytes
  pub others : (other : List ℕ) → other ≢ name → after other ≡ before other

-- the file of this name is as it was or has these bytes, and every other file is as it was
pub record MayBeReplaced (name bytes : List ℕ) (before after : Contents) : Type 0 where
  pub either : SameFiles before after ⊎ Replaced name bytes before after
