use Rattle.std.proofs.Common.{◌≡◌, ℕ, ◌+◌, ◌&&◌, Bool, true, false, List, [], ◌∷◌, ◌++◌, refl, eq-eqb}
use Rattle.std.specs.Prelude.{◌==◌}
use Rattle.tally.specs.declared.object.Added.{Added}
use Rattle.tally.specs.Sums.{is_running, end_of}

and_step : (b : Bool) (x y : Bool) → (b && x) ≡ true → (x ≡ true → y ≡ true) → (b && y) ≡ true
and_step true x y h f = f h
and_step false x y h f = h

pub running_more : (n : ℕ) (log : List Added) (r : Added) → is_running n log ≡ true → r.total ≡ end_of n log + r.call → is_running n (log ++ r ∷ []) ≡ true
running_more n [] r h e = rw (eq-eqb r.total (n + r.call) e) refl
running_more n (x ∷ xs) r h e = and_step (x.total == n + x.call) (is_running x.total xs) (is_running x.total (xs ++ r ∷ [])) h (λ i. running_more x.total xs r i e)

pub end_more : (n : ℕ) (log : List Added) (r : Added) → end_of n (log ++ r ∷ []) ≡ r.total
end_more n [] r = refl
end_more n (x ∷ xs) r = end_more x.total xs r
