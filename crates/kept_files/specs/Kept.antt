-- Inner: what is kept of files that were read.
use Rattle.std.specs.Prelude.{◌≡◌, ◌≢◌, ◌⊎◌, ◌||◌, ℕ, Bool, false, List, Option, is_some, option_map, take}
use Rattle.std.specs.Prelude.{IfSome, IsTrue}
use Rattle.outside.specs.Files.{Contents, MayBeReplaced, Replaced, SameFiles, file_of}
use Rattle.outside.specs.FilesNow.{FilesNow, OnlyReads}
use Rattle.outside.specs.Told.{Goes, Rose}
use Rattle.outside.specs.Touched.{HasReplaced, MayHaveReplaced, has_name}

-- what was read of files: the name and the bytes of each that was there, and the names of which there was none
pub record Kept : Type 0 where
  pub there : List (List ℕ × List ℕ)
  pub missing : List (List ℕ)

-- what stands in the files, as far as it was read
abbrev pub kept_files : Kept → Contents
kept_files kept = file_of kept.there

-- whether the file of this name was read, or found missing
abbrev pub is_kept : List ℕ → Kept → Bool
is_kept name kept = is_some (kept_files kept name) || has_name name kept.missing

-- this is what stands in a file, up to 8,388,609 bytes, if the files tell it
abbrev pub IsFrontOf : Option Contents → List ℕ → Option (List ℕ) → Type 0
IsFrontOf contents name front = IfSome contents (λ there. front ≡ option_map (take 8388609) (there name))

-- of this file is kept what stands in it, if the files that were read tell it
pub record IsKept (contents : Option Contents) (name : List ℕ) (kept : Kept) : Type 0 where
  pub there : IsTrue (is_kept name kept)
  pub front : IsFrontOf contents name (kept_files kept name)

-- of each other file the same is kept
pub record KeepsOthers (name : List ℕ) (before after : Kept) : Type 0 where
  pub files : (other : List ℕ) → other ≢ name → kept_files after other ≡ kept_files before other
  pub kept : (other : List ℕ) → other ≢ name → is_kept other after ≡ is_kept other before

-- of this file just these bytes are kept, or that it is missing, and of each other file the same as before
pub record PutsFile (name : List ℕ) (found : Option (List ℕ)) (before after : Kept) : Type 0 where
  pub kept : IsTrue (is_kept name after)
  pub holds : kept_files after name ≡ found
  pub others : KeepsOthers name before after

-- nothing more is kept, or this file, which wasn't before, as it stands in the files that were read, if they tell it
pub record KeepsFile (contents : Option Contents) (name : List ℕ) (before after : Kept) : Type 0 where
  pub either : (after ≡ before) ⊎ (is_kept name before ≡ false) × IsKept contents name after
  pub others : KeepsOthers name before after

-- the file of this name was replaced below, without a fault, and no other
pub record ReplacedBelow (name bytes : List ℕ) (before after : FilesNow) : Type 0 where
  pub contents : Goes (Replaced name bytes) before.contents after.contents
  pub replace_faults : after.replace_faults ≡ before.replace_faults
  pub touched : Goes (HasReplaced name) before.touched after.touched

-- the files below are as they were, or a replacing of this one by these bytes failed there; no other was touched
pub record SparesBelow (name bytes : List ℕ) (before after : FilesNow) : Type 0 where
  pub contents : Goes (MayBeReplaced name bytes) before.contents after.contents
  pub fault : Goes SameFiles before.contents after.contents ⊎ Rose before.replace_faults after.replace_faults
  pub read_faults : after.read_faults ≡ before.read_faults
  pub touched : Goes (MayHaveReplaced name) before.touched after.touched

-- ---- over several readings

-- what is kept, and the files that were read
pub record KeptNow : Type 0 where
  pub kept : Kept
  pub under : FilesNow

-- whatever was kept is kept still
pub record KeepsAll (before after : Kept) : Type 0 where
  pub kept : (name : List ℕ) → IsTrue (is_kept name before) → IsTrue (is_kept name after)
  pub files : (name : List ℕ) → IsTrue (is_kept name before) → kept_files after name ≡ kept_files before name

-- what is kept of each file is what stands in it, if the files that were read tell it
pub record Mirrors (contents : Option Contents) (kept : Kept) : Type 0 where
  pub each : (name : List ℕ) → IsTrue (is_kept name kept) → IsFrontOf contents name (kept_files kept name)

-- nothing was done with the files but reading those of these names; what was kept is kept still, and what is kept
-- mirrors the files if it did before
pub record KeepsMore (names : List (List ℕ)) (before after : KeptNow) : Type 0 where
  pub reads : OnlyReads names before.under after.under
  pub still : KeepsAll before.kept after.kept
  pub mirrors : Mirrors before.under.contents before.kept → Mirrors after.under.contents after.kept
