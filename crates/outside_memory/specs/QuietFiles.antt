-- Inner: what contracts see of quiet files.
use Rattle.std.specs.Prelude.{ℕ, Option}
use Rattle.outside_memory.specs.declared.quiet_files.QuietFiles.{QuietFiles}
use Rattle.outside_memory.specs.declared.room.Pieces.{Pieces}
use Rattle.outside.specs.Files.{Contents}
use Rattle.outside_memory.specs.Shelf.{shelf_files}
use Rattle.outside.specs.Told.{told_if}

-- what stands in the files, if they tell it
abbrev pub contents_of : QuietFiles → Option Contents
contents_of f = told_if f.telling (shelf_files f.shelf 0)

-- the buffers that are left for replacings
abbrev pub files_stock : QuietFiles → Pieces
files_stock f = f.shelf.buffers.pieces

-- how many readings failed: none
abbrev pub read_faults_of : QuietFiles → ℕ
read_faults_of f = 0

-- how many replacings failed: none
abbrev pub replace_faults_of : QuietFiles → ℕ
replace_faults_of f = 0
