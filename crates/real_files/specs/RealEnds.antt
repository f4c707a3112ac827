-- Inner: what contracts see of a real input and output.
use Rattle.std.specs.Prelude.{ℕ}
use Rattle.real_files.specs.declared.ends.RealEnds.{RealEnds}

-- how many receivings and sends failed
abbrev pub faults_of : {I O : Type 0} → RealEnds I O → ℕ
faults_of e = e.faults

-- what it reads from
abbrev pub input_of : {I O : Type 0} → RealEnds I O → I
input_of e = e.input

-- what it writes to
abbrev pub output_of : {I O : Type 0} → RealEnds I O → O
output_of e = e.output
