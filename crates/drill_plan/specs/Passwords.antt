-- Believed: the users of a drill and their passwords: one user for each worker.
use Rattle.std.specs.Prelude.{ℕ, ◌+◌, ◌-◌, ◌*◌, ◌%◌, ◌==◌, List, ◌++◌, codes, if◌then◌else◌}
use Rattle.std.specs.Fmt.{decimal}
use Rattle.otp_hash.specs.Hashing.{chain_of}
use Rattle.otp_hash.specs.declared.chain.Algo.{Algo}
use Rattle.otp_hash.specs.declared.chain.Algo.TheVariants.{Md5, Sha1}
use Rattle.drill_plan.specs.Classes.{logins_before}

-- the name of a worker's user
abbrev pub own_name : ℕ → List ℕ
own_name worker = codes "d" ++ decimal worker

-- the seed of a worker's user
abbrev pub own_seed : ℕ → List ℕ
own_seed worker = codes "drill" ++ decimal worker

-- the algorithm of a worker's user: MD5 and SHA-1 in turn
abbrev pub own_algo : ℕ → Algo
own_algo worker = if worker % 2 == 0 then Md5 else Sha1

-- the pass phrase of all users in the drill of n
abbrev pub drill_phrase : ℕ → List ℕ
drill_phrase n = codes "drill phrase " ++ decimal n

-- how many sessions each worker has in the drill of n, and how many passwords each user
abbrev pub session_count : ℕ → ℕ
session_count n = 8 * n

-- the password of this number in the chain of a worker's user
abbrev pub own_password : ℕ → ℕ → ℕ → ℕ
own_password n worker count = chain_of (own_algo worker) (own_seed worker) (drill_phrase n) count

-- the password that was accepted last before a session, if every earlier login went well
abbrev pub current_password : ℕ → ℕ → ℕ → ℕ
current_password n worker session = own_password n worker (session_count n - logins_before n worker session)

-- the password that is right in a session, if every earlier login went well
abbrev pub right_password : ℕ → ℕ → ℕ → ℕ
right_password n worker session = own_password n worker (session_count n - logins_before n worker session - 1)
