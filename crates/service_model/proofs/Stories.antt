-- What all sessions of a worker come to.
use Rattle.std.proofs.Common.{◌≡◌, ℕ, ◌+◌, ◌≤◌, Bool, List, [], ◌∷◌, ◌++◌, length, refl, ap, subst, ◌∙◌, count_by, arith}
use Rattle.std.specs.List.{AllByRecursion, flat_map}
use Rattle.outside.specs.Scene.{came_count, is_coming}
use Rattle.policy_model.specs.declared.event.Event.{Event}
use Rattle.policy_model.specs.Asks.{opens}
use Rattle.service_model.specs.Ends.{is_lost_end}
use Rattle.service_model.specs.Service.{Service}
use Rattle.service_model.specs.Places.{step_acts, step_places}
use Rattle.service_model.specs.Sittings.{IsSitting, Sitting, all_steps}
use Rattle.service_model.specs.Stories.{ArePlanned, IsPlanned, is_stop}
use Rattle.service_model.proofs.Ends.{lost_ends, lost_places, opened_once}
use Rattle.service_model.proofs.Lists.{count-append}
use Rattle.service_model.proofs.Sittings.{none_stopped, one_came}
use Rattle.service_model.proofs.Steps.{acts-append, places-append}

-- as many connections came as there were sessions
pub all_came : (service : Service) (sittings : List Sitting) → AllByRecursion (IsSitting service) sittings → came_count (step_acts (flat_map all_steps sittings)) ≡ length sittings
all_came service [] each = refl
all_came service (s ∷ ss) each =
    let rest = step_acts (flat_map all_steps ss) in
    let split : came_count (step_acts (flat_map all_steps (s ∷ ss))) ≡ came_count (step_acts (all_steps s)) + came_count rest =
    ap came_count (acts-append (all_steps s) (flat_map all_steps ss)) ∙ count-append is_coming (step_acts (all_steps s)) rest in
    omega (arith, split, one_came service s each.0, all_came service ss each.1)

-- no accept of a session came to nothing
pub never_stopped : (service : Service) (sittings : List Sitting) → AllByRecursion (IsSitting service) sittings → count_by is_stop (step_acts (flat_map all_steps sittings)) ≡ 0
never_stopped service [] each = refl
never_stopped service (s ∷ ss) each =
    let rest = step_acts (flat_map all_steps ss) in
    let split : count_by is_stop (step_acts (flat_map all_steps (s ∷ ss))) ≡ count_by is_stop (step_acts (all_steps s)) + count_by is_stop rest =
    ap (count_by is_stop) (acts-append (all_steps s) (flat_map all_steps ss)) ∙ count-append is_stop (step_acts (all_steps s)) rest in
    omega (arith, split, none_stopped service s each.0, never_stopped service ss each.1)

pub count-sittings : (test : Event → Bool) (s : Sitting) (ss : List Sitting) → count_by (λ p. test p.event) (step_places (flat_map all_steps (s ∷ ss))) ≡ count_by (λ p. test p.event) (step_places (all_steps s)) + count_by (λ p. test p.event) (step_places (flat_map all_steps ss))
count-sittings test s ss =
    ap (count_by (λ p. test p.event)) (places-append (all_steps s) (flat_map all_steps ss))
    ∙ count-append (λ p. test p.event) (step_places (all_steps s)) (step_places (flat_map all_steps ss))

-- sessions end because a decision was lost only where one was
pub all_lost_ends : (service : Service) (sittings : List Sitting) → AllByRecursion (IsSitting service) sittings → count_by (λ p. is_lost_end p.event.ask) (step_places (flat_map all_steps sittings)) ≤ lost_places (step_places (flat_map all_steps sittings))
all_lost_ends service [] each = omega arith
all_lost_ends service (s ∷ ss) each =
    let ends = count-sittings (λ e. is_lost_end e.ask) s ss in
    let lost = count-sittings (λ e. Rattle.policy_model.specs.Asks.is_lost e.decision) s ss in
    omega (arith, ends, lost, lost_ends service s each.0, all_lost_ends service ss each.1)

-- sessions of which nothing was lost were opened once each
pub all_opened : (service : Service) (sittings : List Sitting) → AllByRecursion (IsSitting service) sittings → lost_places (step_places (flat_map all_steps sittings)) ≡ 0 → count_by (λ p. opens p.event) (step_places (flat_map all_steps sittings)) ≡ length sittings
all_opened service [] each none = refl
all_opened service (s ∷ ss) each none =
    let opened = count-sittings opens s ss in
    let lost = count-sittings (λ e. Rattle.policy_model.specs.Asks.is_lost e.decision) s ss in
    let first : lost_places (step_places (all_steps s)) ≡ 0 = omega (arith, lost, none) in
    let later : lost_places (step_places (flat_map all_steps ss)) ≡ 0 = omega (arith, lost, none) in
    omega (arith, opened, opened_once service s each.0 first, all_opened service ss each.1 later)

-- one session more went by the plan
pub planned_more : (plan : List (List ℕ × List ℕ)) (count : ℕ) (sittings : List Sitting) (s : Sitting) → ArePlanned plan count sittings → IsPlanned plan (count + length sittings + 1) s → ArePlanned plan count (sittings ++ s ∷ [])
planned_more plan count [] s are is = (subst (λ n. IsPlanned plan n s) (let e : count + 0 + 1 ≡ count + 1 = omega arith in e) is, tt)
planned_more plan count (x ∷ xs) s are is =
    let next : IsPlanned plan (count + 1 + length xs + 1) s = subst (λ n. IsPlanned plan n s) (let e : count + length (x ∷ xs) + 1 ≡ count + 1 + length xs + 1 = omega arith in e) is in
    (are.0, planned_more plan (count + 1) xs s are.1 next)
