-- Which events of a session are ends by a fault, and which openings.
use Rattle.std.proofs.Common.{◌≡◌, ◌⊎◌, ℕ, ◌+◌, ◌≤◌, Bool, true, false, ◌&&◌, cond, List, [], ◌∷◌, ◌++◌, Option, Some, None, option_to_list, refl, sym, ap, subst, ◌∙◌, count_by, arith, inl, inr}
use Rattle.std.specs.List.{flat_map}
use Rattle.std.proofs.lemmas.List.{append-nil, map-append}
use Rattle.request_catalogue.specs.declared.width.Width.{Width}
use Rattle.policy_model.specs.declared.event.Ask.{Ask}
use Rattle.policy_model.specs.declared.event.Ask.TheVariants as asks
use Rattle.policy_model.specs.declared.event.Why.{Why}
use Rattle.policy_model.specs.declared.event.Why.TheVariants as whys
use Rattle.policy_model.specs.declared.event.Decision.{Decision}
use Rattle.policy_model.specs.declared.event.Decision.TheVariants as decisions
use Rattle.policy_model.specs.Asks.{is_begin, is_lost, is_permit, came_by_frame, opens}
use Rattle.service_model.specs.Ends.{is_keeper_end, is_link_end, is_lost_end}
use Rattle.service_model.specs.Places.{Step, step_places}
use Rattle.policy_model.specs.Journal.{Place}
use Rattle.service_model.specs.Parts.{EndsSession, EndsSo, IsPart, Part, exported_by, requests_of, why_of}
use Rattle.service_model.specs.Service.{Service}
use Rattle.service_model.specs.Sittings.{AreParts, Follows, IsSitting, Sitting, all_steps}
use Rattle.service_model.proofs.Lists.{count-append, count-cons}
use Rattle.service_model.proofs.Sittings.{later_steps, opened_or_lost, passes_end, passing}
use Rattle.service_model.proofs.Steps.{FailsRequests}

no_request : (test : Ask → Bool) → ((ask : Ask) → came_by_frame ask ≡ true → test ask ≡ false) → FailsRequests (λ e. test e.ask)
no_request test fails = record { fails = λ e h. fails e.ask h }

no_link : (ask : Ask) → came_by_frame ask ≡ true → is_link_end ask ≡ false
no_link (asks.End why) h = absurd cc
no_link _ h = refl

no_keeper : (ask : Ask) → came_by_frame ask ≡ true → is_keeper_end ask ≡ false
no_keeper (asks.End why) h = absurd cc
no_keeper _ h = refl

no_lost : (ask : Ask) → came_by_frame ask ≡ true → is_lost_end ask ≡ false
no_lost (asks.End why) h = absurd cc
no_lost _ h = refl

pub no_begin : (ask : Ask) → came_by_frame ask ≡ true → is_begin ask ≡ false
no_begin asks.Begin h = absurd cc
no_begin _ h = refl

-- no request is an end by a fault, or an opening
pub link_requests : FailsRequests (λ e. is_link_end e.ask)
link_requests = no_request is_link_end no_link

pub keeper_requests : FailsRequests (λ e. is_keeper_end e.ask)
keeper_requests = no_request is_keeper_end no_keeper

pub lost_requests : FailsRequests (λ e. is_lost_end e.ask)
lost_requests = no_request is_lost_end no_lost

pub opens_requests : FailsRequests opens
opens_requests = record { fails = λ e h. ap (λ b. b && is_permit e.decision) (no_begin e.ask h) }

-- how many places have a lost decision
abbrev pub lost_places : List Place → ℕ
lost_places places = count_by (λ p. is_lost p.event.decision) places

lost_decision : (d : Decision) → whys.LogLost ≡ why_of d → is_lost d ≡ true
lost_decision (decisions.Permit value) h = absurd cc
lost_decision (decisions.Deny rule detail) h = absurd cc
lost_decision decisions.Lost h = refl

lost_final : (width : Width) (final : Option Step) (rest unread : List ℕ) → EndsSo width (EndsSession whys.LogLost) final rest unread → 1 ≤ lost_places (step_places (option_to_list final))
lost_final width None rest unread h = absurd h
lost_final width (Some step) rest unread h =
    let lost : is_lost step.place.event.decision ≡ true = lost_decision step.place.event.decision h.1 in
    let one : lost_places (step.place ∷ []) ≡ 1 = ap (λ b. 0 + cond b 1 0) lost in
    omega (arith, one)

-- where a part ended because a decision was lost, one was
lost_part : (service : Service) (exported : List ℕ) (part : Part) → IsPart service exported (EndsSession whys.LogLost) part → 1 ≤ lost_places (step_places (requests_of part))
lost_part service exported part is =
    let final = option_to_list part.final in
    let some : 1 ≤ lost_places (step_places final) = lost_final service.setup.frames part.final part.rest part.unread (is.ended (λ e. absurd cc)) in
    let both : lost_places (step_places (requests_of part)) ≡ lost_places (step_places part.served) + lost_places (step_places final) =
    ap lost_places (map-append (λ s. s.place) part.served final) ∙ count-append (λ p. is_lost p.event.decision) (step_places part.served) (step_places final) in
    omega (arith, some, both)

lost_parts : (service : Service) (opening : Step) (parts : List Part) → AreParts service whys.LogLost opening parts → 1 ≤ lost_places (step_places (flat_map requests_of parts))
lost_parts service opening [] are = absurd (let e = are.1 in cc)
lost_parts service opening (pre ∷ []) are = subst (λ steps. 1 ≤ lost_places (step_places steps)) (sym (append-nil (requests_of pre))) (lost_part service [] pre are.2)
lost_parts service opening (pre ∷ user ∷ []) are =
    let some = lost_part service (exported_by pre.final) user are.2.second in
    let both : lost_places (step_places (requests_of pre ++ (requests_of user ++ []))) ≡ lost_places (step_places (requests_of pre)) + lost_places (step_places (requests_of user)) =
    ap lost_places (map-append (λ s. s.place) (requests_of pre) (requests_of user ++ []) ∙ ap (λ xs. step_places (requests_of pre) ++ step_places xs) (append-nil (requests_of user))) ∙ count-append (λ p. is_lost p.event.decision) (step_places (requests_of pre)) (step_places (requests_of user)) in
    omega (arith, some, both)
lost_parts service opening (pre ∷ user ∷ other ∷ parts) are = absurd are

lost_later : (service : Service) (opening : Step) (parts : List Part) (ending : Option Step) → Follows service opening parts ending → passes_end (λ e. is_lost_end e.ask) ending ≤ lost_places (step_places (later_steps parts ending))
lost_later service opening parts None round = omega arith
lost_later service opening parts (Some ending) round = go ending.place.event.ask round.1.0 round.1.1.ask round.1.2 where
  go : (ask : Ask) (why : Why) → ask ≡ asks.End why → AreParts service why opening parts → cond (is_lost_end ask) 1 0 ≤ lost_places (step_places (later_steps parts (Some ending)))
  go ask whys.LogLost e are =
      let some = lost_parts service opening parts are in
      let both : lost_places (step_places (later_steps parts (Some ending))) ≡ lost_places (step_places (flat_map requests_of parts)) + lost_places (ending.place ∷ []) =
      ap lost_places (map-append (λ s. s.place) (flat_map requests_of parts) (ending ∷ [])) ∙ count-append (λ p. is_lost p.event.decision) (step_places (flat_map requests_of parts)) (ending.place ∷ []) in
      rw e (omega (arith, some, both))
  go ask whys.Finished e are = rw e (omega arith)
  go ask whys.ChildEnded e are = rw e (omega arith)
  go ask whys.Truncated e are = rw e (omega arith)
  go ask (whys.BadFrame len) e are = rw e (omega arith)
  go ask (whys.Violation rule) e are = rw e (omega arith)
  go ask whys.LinkFault e are = rw e (omega arith)
  go ask whys.KeeperFault e are = rw e (omega arith)

-- a session ends because a decision was lost only where one was
pub lost_ends : (service : Service) (sitting : Sitting) → IsSitting service sitting → count_by (λ p. is_lost_end p.event.ask) (step_places (all_steps sitting)) ≤ lost_places (step_places (all_steps sitting))
lost_ends service sitting is =
    let count = passing service (λ e. is_lost_end e.ask) sitting lost_requests is in
    let none : ℕ = cond (is_lost_end sitting.opening.place.event.ask) 1 0 in
    let first : none ≡ 0 = ap (λ ask. cond (is_lost_end ask) 1 0) is.begins.ask in
    let later = lost_later service sitting.opening sitting.parts sitting.ending is.round in
    let all : lost_places (step_places (all_steps sitting)) ≡ cond (is_lost sitting.opening.place.event.decision) 1 0 + lost_places (step_places (later_steps sitting.parts sitting.ending)) =
    count-cons (λ p. is_lost p.event.decision) sitting.opening.place (step_places (later_steps sitting.parts sitting.ending)) in
    omega (arith, count, first, later, all)

-- a session that isn't lost was opened once
pub opened_once : (service : Service) (sitting : Sitting) → IsSitting service sitting → lost_places (step_places (all_steps sitting)) ≡ 0 → count_by (λ p. opens p.event) (step_places (all_steps sitting)) ≡ 1
opened_once service sitting is none =
    let e = sitting.opening.place.event in
    let all : lost_places (step_places (all_steps sitting)) ≡ cond (is_lost e.decision) 1 0 + lost_places (step_places (later_steps sitting.parts sitting.ending)) =
    count-cons (λ p. is_lost p.event.decision) sitting.opening.place (step_places (later_steps sitting.parts sitting.ending)) in
    let kept : is_lost e.decision ≡ false = not_lost (is_lost e.decision) (omega (arith, all, none)) in
    let permit : is_permit e.decision ≡ true = by_permit (is_permit e.decision) (is_lost e.decision) kept (opened_or_lost service sitting.opening sitting.parts sitting.ending is.round) in
    let one : ℕ = cond (opens e) 1 0 in
    let first : one ≡ 1 = rw (is.begins.ask, permit) refl in
    let last : passes_end opens sitting.ending ≡ 0 = no_end sitting.opening sitting.parts sitting.ending is.round in
    omega (arith, passing service opens sitting opens_requests is, first, last) where
      not_lost : (b : Bool) → cond b 1 0 ≤ 0 → b ≡ false
      not_lost true h = absurd (omega (arith, h))
      not_lost false h = refl

      by_permit : (p l : Bool) → l ≡ false → (p ≡ true) ⊎ (l ≡ true) → p ≡ true
      by_permit p l kept (inl h) = h
      by_permit p l kept (inr h) = absurd (let e : false ≡ true = sym kept ∙ h in cc)

      no_end : (opening : Step) (parts : List Part) (ending : Option Step) → Follows service opening parts ending → passes_end opens ending ≡ 0
      no_end opening parts None round = refl
      no_end opening parts (Some ending) round = ap (λ ask. cond (is_begin ask && is_permit ending.place.event.decision) 1 0) round.1.1.ask
