-- Believed: what each session of a drill does.
use Rattle.std.specs.Prelude.{ℕ, zero, suc, ◌+◌, ◌%◌, Bool, true, false, count_by, map}
use Rattle.std.specs.List.{range_with_len}
use Rattle.drill_plan.specs.declared.class.Class.{Class}
use Rattle.drill_plan.specs.declared.class.Class.TheVariants.{LogsIn, Repeats, Exports, BreaksOff}

-- the four classes by their numbers
abbrev pub class_numbered : ℕ → Class
class_numbered zero = LogsIn
class_numbered (suc zero) = Repeats
class_numbered (suc (suc zero)) = Exports
class_numbered _ = BreaksOff

-- the class of a worker's session in the drill of n; sessions are counted from 0
abbrev pub class_of : ℕ → ℕ → ℕ → Class
class_of n worker session = class_numbered ((n + worker + session) % 4)

-- the class of sessions that log in
abbrev pub is_login : Class → Bool
is_login LogsIn = true
is_login _ = false

-- how many of a worker's earlier sessions log in
abbrev pub logins_before : ℕ → ℕ → ℕ → ℕ
logins_before n worker session = count_by is_login (map (class_of n worker) (range_with_len 0 session))
