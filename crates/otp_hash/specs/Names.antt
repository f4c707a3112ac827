-- Believed: the names of the algorithms.
use Rattle.std.specs.Prelude.{ℕ, List, Option, codes}
use Rattle.std.specs.Bool.{then_some}
use Rattle.std.specs.Option.{option_or}
use Rattle.std.specs.Str.{bytes_eq}
use Rattle.otp_hash.specs.declared.chain.Algo.{Algo}
use Rattle.otp_hash.specs.declared.chain.Algo.TheVariants as algos

-- the name of an algorithm, `md5` or `sha1`
abbrev pub algo_name : Algo → List ℕ
algo_name algos.Md5 = codes "md5"
algo_name algos.Sha1 = codes "sha1"

-- the algorithm that a name means
abbrev pub algo_named : List ℕ → Option Algo
algo_named bytes =
    option_or (then_some (bytes_eq bytes (algo_name algos.Md5)) algos.Md5)
    (then_some (bytes_eq bytes (algo_name algos.Sha1)) algos.Sha1)
