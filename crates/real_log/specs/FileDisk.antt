-- Inner: what contracts see of a file as a disk.
use Rattle.std.specs.Prelude.{ℕ, Bool}
use Rattle.real_log.specs.declared.disk.FileDisk.{FileDisk}

-- how many calls failed
abbrev pub faults_of : {R : Type 0} → FileDisk R → ℕ
faults_of d = d.faults

-- whether a call failed, and so all to come
abbrev pub has_failed : {R : Type 0} → FileDisk R → Bool
has_failed d = d.failed
