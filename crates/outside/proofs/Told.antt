use Rattle.std.proofs.Common.{ℕ, [], append-nil, sym, ◌≡◌, List, ◌++◌, Option, Some, None, append_assoc, ap, arith, ◌<◌, ◌≤◌, ◌∙◌}
use Rattle.outside.specs.Told.{Goes, Gains, Rose}

-- two steps one after the other, where they make a third
pub Goes-then : {X : Type 0} (first second both : X → X → Type 0) → ((a b c : X) → first a b → second b c → both a c) → (a b c : Option X) → Goes first a b → Goes second b c → Goes both a c
Goes-then first second both join a b None f s = tt
Goes-then first second both join a None (Some c) f s = absurd s
Goes-then first second both join None (Some b) (Some c) f s = absurd f
Goes-then first second both join (Some a) (Some b) (Some c) f s = join a b c f s

-- no step at all
pub Goes-same : {X : Type 0} (step : X → X → Type 0) → ((x : X) → step x x) → (a : Option X) → Goes step a a
Goes-same step same None = tt
Goes-same step same (Some a) = same a

-- nothing gained
pub Gains-none : {X : Type 0} (a : Option (List X)) → Gains a [] a
Gains-none a = Goes-same (λ x y. y ≡ x ++ []) (λ x. sym (append-nil x)) a

-- what two steps gain
pub Gains-then : {X : Type 0} (a b c : Option (List X)) (first second : List X) → Gains a first b → Gains b second c → Gains a (first ++ second) c
Gains-then a b c first second =
    Goes-then (λ b' a'. a' ≡ b' ++ first) (λ b' a'. a' ≡ b' ++ second) (λ b' a'. a' ≡ b' ++ (first ++ second)) (λ x y z f s. s ∙ ap (λ w. w ++ second) f ∙ append_assoc x first second) a b c

-- a count that rose in between rose
pub Rose-within : (a b c d : ℕ) → a ≤ b → Rose b c → c ≤ d → Rose a d
Rose-within a b c d low rose high = record { rose = omega (arith, low, rose.rose, high) }

-- a count that rose is above 0
pub Rose-some : (a b : ℕ) → Rose a b → 0 < b
Rose-some a b rose = omega (arith, rose.rose)
