-- Inner: what contracts see of files in memory.
use Rattle.std.specs.Prelude.{ℕ, List, Option}
use Rattle.outside_memory.specs.declared.fail.CallKind.TheVariants.{Read, Replace}
use Rattle.outside_memory.specs.declared.fail.Fail.{Fail}
use Rattle.outside_memory.specs.declared.files.MemFiles.{MemFiles}
use Rattle.outside_memory.specs.Failures.{failure_of}
use Rattle.outside.specs.Files.{Contents}
use Rattle.outside_memory.specs.Shelf.{shelf_files}
use Rattle.outside.specs.Told.{next_count, told_if}
use Rattle.outside.specs.Touched.{Touched}

-- what stands in the files, if they tell it
abbrev pub contents_of : MemFiles → Option Contents
contents_of f = told_if f.telling (shelf_files f.shelf 0)

-- how many readings failed
abbrev pub read_faults_of : MemFiles → ℕ
read_faults_of f = f.read_faults

-- how many replacings failed
abbrev pub replace_faults_of : MemFiles → ℕ
replace_faults_of f = f.replace_faults

-- which files were read and which replaced, if they tell it
abbrev pub touched_of : MemFiles → Option Touched
touched_of f = told_if f.tells_touched f.touched

-- what files in memory go by: the calls that are to fail, and how many of each kind were asked of
-- them
pub record FilesSchedule : Type 0 where
  pub fails : List Fail
  pub reads : ℕ
  pub replaces : ℕ

-- what the files go by
abbrev pub files_schedule : MemFiles → FilesSchedule
files_schedule f = record { fails = f.fails.items; reads = f.reads; replaces = f.replaces }

-- the failure of the next reading, if it is to fail
abbrev pub read_failure : FilesSchedule → Option ℕ
read_failure s = failure_of s.fails Read (next_count s.reads)

-- the failure of the next replacing, if it is to fail
abbrev pub replace_failure : FilesSchedule → Option ℕ
replace_failure s = failure_of s.fails Replace (next_count s.replaces)
