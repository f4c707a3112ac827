-- Inner: what the children of a post in memory have to send.
use Rattle.std.specs.Prelude.{ℕ, List, map}
use Rattle.outside_memory.specs.declared.script.Script.{Script}

-- what each connection's children have to send: the one before the login and the user's
abbrev pub plan_of : List Script → List (List ℕ × List ℕ)
plan_of scripts = map (λ s. (s.pre, s.user)) scripts
