-- Believed: files at one moment, and what reading them leaves.
use Rattle.std.specs.Prelude.{◌≤◌, ℕ, List, [], Option}
use Rattle.outside.specs.Files.{Contents, SameFiles}
use Rattle.outside.specs.Told.{Goes}
use Rattle.outside.specs.Touched.{Touched, TouchesOnly}

-- files at one moment: what stands in them, how many readings and replacings failed, and which were read or replaced
pub record FilesNow : Type 0 where
  pub contents : Option Contents
  pub read_faults : ℕ
  pub replace_faults : ℕ
  pub touched : Option Touched

-- files at one moment, of which these tell what stands in them, what failed and which were touched
abbrev pub files_now : {F : Type 0} → (F → Option Contents) → (F → ℕ) → (F → ℕ) → (F → Option Touched) → F → FilesNow
files_now contents read_faults replace_faults touched files = record {
  contents = contents files;
  read_faults = read_faults files;
  replace_faults = replace_faults files;
  touched = touched files;
}

-- nothing was done with files but reading those of these names
pub record OnlyReads (names : List (List ℕ)) (before after : FilesNow) : Type 0 where
  pub kept : Goes SameFiles before.contents after.contents
  pub read_faults : before.read_faults ≤ after.read_faults
  pub replace_faults : before.replace_faults ≤ after.replace_faults
  pub touched : Goes (TouchesOnly names []) before.touched after.touched
