-- How the number of live children goes on.
use Rattle.std.proofs.Common.{◌≡◌, ℕ, ◌+◌, cond, List, [], ◌∷◌, Option, Some, None, Result, Ok, Err, refl, ap, ◌∙◌, arith}
use Rattle.std.specs.Prelude.{count_by}
use Rattle.std.proofs.lemmas.List.Sums.{sum_by-append}
use Rattle.outside.specs.declared.act.Act.{Act}
use Rattle.outside.specs.declared.act.Act.TheVariants.{Finish, Start}
use Rattle.outside.specs.declared.act.Failed.{Failed}
use Rattle.outside.specs.declared.act.Role.{Role}
use Rattle.outside.specs.declared.act.Talk.{Talk}
use Rattle.outside.specs.Link.{Link}
use Rattle.outside.specs.Scene.{Did, GivenBack, Played, Scene, talk_by}
use Rattle.outside.specs.Told.{Goes}
use Rattle.outside.proofs.Told.{Goes-then}
use Rattle.child_keeper.specs.Starts.{ChangesChild}
use Rattle.child_keeper.specs.Live.{AreLive, Lives, finishes_child, live_after, starts_child}

-- one act more
played : (first then : ℕ) (act : Act) (finished : List Talk) (remains : List (List ℕ)) → first + count_by starts_child (act ∷ []) ≡ then + count_by finishes_child (act ∷ []) → (before after : Scene) → Played (act ∷ []) finished remains before after → AreLive first before.acts → AreLive then after.acts
played first then act finished remains balance before after step live =
    let started : count_by starts_child after.acts ≡ count_by starts_child before.acts + count_by starts_child (act ∷ []) = ap (count_by starts_child) step.acts ∙ sum_by-append (λ x. cond (starts_child x) 1 0) before.acts (act ∷ []) in
    let given_back : count_by finishes_child after.acts ≡ count_by finishes_child before.acts + count_by finishes_child (act ∷ []) = ap (count_by finishes_child) step.acts ∙ sum_by-append (λ x. cond (finishes_child x) 1 0) before.acts (act ∷ []) in
    record { balance = omega (arith, balance, started, given_back, live.balance) }

goes : (first then : ℕ) (act : Act) (finished : List Talk) (remains : List (List ℕ)) → first + count_by starts_child (act ∷ []) ≡ then + count_by finishes_child (act ∷ []) → (before after : Option Scene) → Goes (Played (act ∷ []) finished remains) before after → Lives first then before after
goes first then act finished remains balance before None step = tt
goes first then act finished remains balance None (Some after) step = absurd step
goes first then act finished remains balance (Some before) (Some after) step = played first then act finished remains balance before after step

pub lives_started : (role : Role) (outcome : Result (Unit {0}) Failed) (before after : Option Scene) → Did (Start role outcome) before after → Lives 0 (live_after outcome) before after
lives_started role (Ok one) before after = goes 0 1 (Start role (Ok one)) [] [] refl before after
lives_started role (Err failed) before after = goes 0 0 (Start role (Err failed)) [] [] refl before after

pub lives_given_back : (role : Role) (link : Option Link) (before after : Option Scene) → GivenBack role link before after → Lives 1 0 before after
lives_given_back role None before None step = tt
lives_given_back role None before (Some after) step = absurd (let told = step in cc)
lives_given_back role (Some link) before after step =
    goes 1 0 (Finish role) (talk_by role link ∷ []) (link.left ∷ []) refl before after step

lives_then : (first then last : ℕ) (a b c : Option Scene) → Lives first then a b → Lives then last b c → Lives first last a c
lives_then first then last =
    Goes-then (λ x y. AreLive first x.acts → AreLive then y.acts) (λ x y. AreLive then x.acts → AreLive last y.acts) (λ x y. AreLive first x.acts → AreLive last y.acts) (λ x y z f g live. g (f live))

pub lives_changed : (pre user : Role) (link : Option Link) (outcome : Result (Unit {0}) Failed) (before after : Option Scene) → ChangesChild pre link user outcome before after → Lives 1 (live_after outcome) before after
lives_changed pre user link outcome before after change =
    lives_then 1 0 (live_after outcome) before change.between after (lives_given_back pre link before change.between change.given_back) (lives_started user outcome change.between after change.started)
