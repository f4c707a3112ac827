-- Believed: which files were read and which replaced.
use Rattle.std.specs.Prelude.{◌≡◌, ◌⊎◌, IsTrue, List, [], ◌∷◌, ◌++◌, ℕ, Bool, if◌then◌else◌}
use Rattle.std.specs.List.{list_any}
use Rattle.std.specs.Str.{bytes_eq}

-- the names of the files that were read, and of those that were replaced, each once, in the order of the first time
pub record Touched : Type 0 where
  pub read : List (List ℕ)
  pub replaced : List (List ℕ)

-- whether a name is among these
abbrev pub has_name : List ℕ → List (List ℕ) → Bool
has_name name names = list_any (λ other. bytes_eq other name) names

-- these names and one more, if it isn't among them
abbrev pub with_name : List ℕ → List (List ℕ) → List (List ℕ)
with_name name names = if has_name name names then names else names ++ name ∷ []

-- the file of this name was read, and none replaced
pub record HasRead (name : List ℕ) (before after : Touched) : Type 0 where
  pub read : after.read ≡ with_name name before.read
  pub replaced : after.replaced ≡ before.replaced

-- the file of this name may have been read, and no other, and none replaced
pub record MayHaveRead (name : List ℕ) (before after : Touched) : Type 0 where
  pub either : (after ≡ before) ⊎ HasRead name before after

-- the file of this name was replaced, and none read
pub record HasReplaced (name : List ℕ) (before after : Touched) : Type 0 where
  pub read : after.read ≡ before.read
  pub replaced : after.replaced ≡ with_name name before.replaced

-- the file of this name may have been replaced, and no other, and none read
pub record MayHaveReplaced (name : List ℕ) (before after : Touched) : Type 0 where
  pub either : (after ≡ before) ⊎ HasReplaced name before after

-- no file was read but those of the first names, and none replaced but those of the second
pub record TouchesOnly (reads replaces : List (List ℕ)) (before after : Touched) : Type 0 where
  pub read : (name : List ℕ) → IsTrue (has_name name after.read) → IsTrue (has_name name (before.read ++ reads))
  pub replaced : (name : List ℕ) → IsTrue (has_name name after.replaced)
      → IsTrue (has_name name (before.replaced ++ replaces))
