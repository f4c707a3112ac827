-- Inner: what makes a history of sums legal.
use Rattle.std.specs.Prelude.{ℕ, ◌+◌, ◌==◌, ◌&&◌, Bool, true, List, [], ◌∷◌}
use Rattle.tally.specs.declared.object.Added.{Added}

-- each sum is the one before and the call
abbrev pub is_running : ℕ → List Added → Bool
is_running n [] = true
is_running n (r ∷ rs) = (r.total == n + r.call) && is_running r.total rs

-- the last sum
abbrev pub end_of : ℕ → List Added → ℕ
end_of n [] = n
end_of n (r ∷ rs) = end_of r.total rs
