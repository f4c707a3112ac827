-- Believed: decoys: what a challenge names for a user that can't log in.
use Rattle.std.specs.Prelude.{ℕ, ◌/◌, ◌%◌, ◌==◌, List, take, if◌then◌else◌}
use Rattle.std.specs.Int.{to_be_bytes, w64}
use Rattle.hex.specs.Hex.{encode_lower}
use Rattle.otp_hash.specs.declared.chain.Algo.{Algo}
use Rattle.otp_hash.specs.declared.chain.Algo.TheVariants as algos
use Rattle.otp_hash.specs.Hashing.{chain_of}
use Rattle.otp_hash.specs.SeedBytes.{seed_bytes}
use Rattle.request_catalogue.specs.declared.texts.Name.{Name}
use Rattle.request_catalogue.specs.TextBytes.{name_bytes}
use Rattle.policy_model.specs.Settings.{Settings}

-- the password that a name's decoy is made of: the first one of the MD5 chain of the setup's salt and the name
unfoldable pub decoy_password : Settings → Name → ℕ
decoy_password setup user = chain_of algos.Md5 (seed_bytes setup.salt) (name_bytes user) 0

-- the number that a decoy names, 0 to 999: the two low bytes of its password modulo 1,000
abbrev pub decoy_number : Settings → Name → ℕ
decoy_number setup user = decoy_password setup user % 65536 % 1000

-- the algorithm that a decoy names: one bit of its password chooses it
abbrev pub decoy_algo : Settings → Name → Algo
decoy_algo setup user = if decoy_password setup user / 65536 % 2 == 1 then algos.Sha1 else algos.Md5

-- the seed that a decoy names: the first four bytes of its password, in lower-case hexadecimal digits
abbrev pub decoy_seed : Settings → Name → List ℕ
decoy_seed setup user = encode_lower (take 4 (to_be_bytes w64 (decoy_password setup user)))
