-- Believed: what contracts see of a seed: its bytes.
use Rattle.std.specs.Prelude.{ℕ, List}
use Rattle.fixed_list.specs.FixedList.{list_of}
use Rattle.otp_hash.specs.declared.seed.Seed.{Seed}

-- the bytes of a seed
abbrev pub seed_bytes : Seed → List ℕ
seed_bytes s = list_of s.text
