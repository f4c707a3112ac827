-- Inner: what contracts see of a real site.
use Rattle.std.specs.Prelude.{ℕ}
use Rattle.outside_real.specs.declared.site.RealSite.{RealSite}

-- how many of its calls failed
abbrev pub listen_faults_of : {R : Type 0} → RealSite R → ℕ
listen_faults_of s = s.listen_faults
