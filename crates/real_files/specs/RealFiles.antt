-- Inner: what contracts see of real files.
use Rattle.std.specs.Prelude.{ℕ, Option, Some}
use Rattle.outside.specs.Touched.{Touched}
use Rattle.real_files.specs.declared.files.RealFiles.{RealFiles}
use Rattle.real_files.specs.declared.seen.SeenFiles.{SeenFiles}

-- how many readings failed
abbrev pub read_faults_of : {R : Type 0} → RealFiles R → ℕ
read_faults_of f = f.read_faults

-- how many replacings failed
abbrev pub replace_faults_of : {R : Type 0} → RealFiles R → ℕ
replace_faults_of f = f.replace_faults

-- how each file was found that was read
abbrev pub seen_of : {R : Type 0} → RealFiles R → SeenFiles
seen_of f = f.seen

-- which files were read and which replaced: it is always told
abbrev pub touched_of : {R : Type 0} → RealFiles R → Option Touched
touched_of f = Some f.touched
