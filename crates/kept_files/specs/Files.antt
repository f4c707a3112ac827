-- Inner: what contracts see of files that are kept.
use Rattle.std.specs.Prelude.{ℕ, Option, Some}
use Rattle.outside.specs.Files.{Contents}
use Rattle.outside.specs.Touched.{Touched}
use Rattle.kept_files.specs.declared.files.KeptFiles.{KeptFiles}
use Rattle.outside.specs.FilesNow.{FilesNow}
use Rattle.kept_files.specs.Kept.{Kept, KeptNow, kept_files}

-- what is kept
abbrev pub kept_of : {F : Type 0} → KeptFiles F → Kept
kept_of f = f.shelf

-- the files that were read
abbrev pub under_of : {F : Type 0} → KeptFiles F → F
under_of f = f.under

-- what stands in them: what was read, always
abbrev pub contents_of : {F : Type 0} → KeptFiles F → Option Contents
contents_of f = Some (kept_files f.shelf)

-- how many readings failed
abbrev pub read_faults_of : {F : Type 0} → KeptFiles F → ℕ
read_faults_of f = f.read_faults

-- how many replacings failed
abbrev pub replace_faults_of : {F : Type 0} → KeptFiles F → ℕ
replace_faults_of f = f.replace_faults

-- which files were read and which replaced, always
abbrev pub touched_of : {F : Type 0} → KeptFiles F → Option Touched
touched_of f = Some f.touched

-- what is kept, and the files that were read, as they are seen
abbrev pub kept_now : {F : Type 0} → (F → FilesNow) → KeptFiles F → KeptNow
kept_now now f = record { kept = f.shelf; under = now f.under }
