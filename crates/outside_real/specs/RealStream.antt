-- Inner: what contracts see of a real child's stream.
use Rattle.std.specs.Prelude.{ℕ}
use Rattle.outside.specs.declared.act.Role.{Role}
use Rattle.outside_real.specs.declared.stream.RealStream.{RealStream}

-- how many receivings and sends failed
abbrev pub faults_of : {R : Type 0} → RealStream R → ℕ
faults_of s = s.faults

-- which child it leads to
abbrev pub role_of : {R : Type 0} → RealStream R → Role
role_of s = s.role
