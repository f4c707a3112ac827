use Rattle.std.proofs.Common.{ℕ, suc, ◌<◌, List, [], ◌∷◌, length, All, arith}
use Rattle.outside_memory.specs.Repeating.{items_after}

-- what holds of each cut holds of each that is left after a piece
pub All-items_after : (P : ℕ → Type 0) (cs : List ℕ) → All P cs → All P (items_after cs)
All-items_after P [] h = h
All-items_after P (c ∷ []) h = h
All-items_after P (c ∷ d ∷ cs) h = λ k e lt. h (suc k) e (omega arith)

-- cuts never run out
pub length-items_after : (cs : List ℕ) → 0 < length cs → 0 < length (items_after cs)
length-items_after [] h = h
length-items_after (c ∷ []) h = h
length-items_after (c ∷ d ∷ cs) h = omega arith

pub ruleset cut_laws = (All-items_after, length-items_after)
