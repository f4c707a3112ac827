-- What one session asks of the outside, and which of its events pass a test.
use Rattle.std.proofs.Common.{◌≡◌, ◌⊎◌, ℕ, ◌+◌, Bool, true, false, cond, List, [], ◌∷◌, ◌++◌, map, Option, Some, None, option_to_list, refl, sym, ap, subst, ◌∙◌, count_by, arith, inl, inr}
use Rattle.std.specs.List.{AllByRecursion, flat_map}
use Rattle.std.proofs.lemmas.List.{append-nil, map-append}
use Rattle.std.proofs.lemmas.List.Concat.{flat_map-append}
use Rattle.outside.specs.declared.act.Act.{Act}
use Rattle.outside.specs.declared.act.Act.TheVariants as acts
use Rattle.outside.specs.declared.act.Accepted.TheVariants as accepted
use Rattle.outside.specs.Scene.{is_coming, came_count}
use Rattle.outside.specs.declared.act.Role.{Role}
use Rattle.outside.specs.declared.act.Role.TheVariants.{Pre}
use Rattle.policy_model.specs.declared.event.Why.{Why}
use Rattle.policy_model.specs.declared.event.Why.TheVariants as whys
use Rattle.policy_model.specs.declared.event.Decision.{Decision}
use Rattle.policy_model.specs.declared.event.Decision.TheVariants as decisions
use Rattle.policy_model.specs.declared.event.Event.{Event}
use Rattle.policy_model.specs.Asks.{is_lost, is_permit}
use Rattle.service_model.specs.Places.{Step, step_acts, step_places}
use Rattle.service_model.specs.Acts.{Operation, Accepts, operation_of, opening_operations, operations_by, operations_of}
use Rattle.service_model.specs.Parts.{IsRequestStep, Part, requests_of}
use Rattle.service_model.specs.Service.{Service}
use Rattle.service_model.specs.Sittings.{AreParts, EndsFirst, Follows, IsEnding, IsSitting, Sitting, all_steps, live_role}
use Rattle.service_model.specs.Stories.{is_stop}
use Rattle.service_model.proofs.Lists.{All-append, count-append, count-cons, count-none}
use Rattle.service_model.proofs.Steps.{FailsRequests, accepts, accepts_asked, coming_accepts, counts_asked, is_accept, none_accepted_by, none_ended, none_passes}

-- the steps of a session after its opening
abbrev pub later_steps : List Part → Option Step → List Step
later_steps parts ending = flat_map requests_of parts ++ option_to_list ending

-- the requests of the first child, however its part ended
first_requests : (service : Service) (why : Why) (pre : Part) → EndsFirst service why pre → AllByRecursion (IsRequestStep service) (requests_of pre)
first_requests service whys.KeeperFault pre is = is.0.each
first_requests service whys.Finished pre is = is.each
first_requests service whys.ChildEnded pre is = is.each
first_requests service whys.Truncated pre is = is.each
first_requests service (whys.BadFrame len) pre is = is.each
first_requests service (whys.Violation rule) pre is = is.each
first_requests service whys.LinkFault pre is = is.each
first_requests service whys.LogLost pre is = is.each

-- all steps of a session's children are requests
pub all_requests : (service : Service) (why : Why) (opening : Step) (parts : List Part) → AreParts service why opening parts → AllByRecursion (IsRequestStep service) (flat_map requests_of parts)
all_requests service why opening [] are = tt
all_requests service why opening (pre ∷ []) are = subst (AllByRecursion (IsRequestStep service)) (sym (append-nil (requests_of pre))) (first_requests service why pre are.2)
all_requests service why opening (pre ∷ user ∷ []) are =
    All-append (IsRequestStep service) (requests_of pre) (requests_of user ++ []) are.2.first.each (subst (AllByRecursion (IsRequestStep service)) (sym (append-nil (requests_of user))) are.2.second.each)
all_requests service why opening (pre ∷ user ∷ other ∷ parts) are = absurd are

-- the end of a session leads to no accept
end_accepts : (session : ℕ) (live : Role) (why : Why) (ending : Step) → IsEnding session live why ending → count_by is_accept ending.acts ≡ 0
end_accepts session live why ending is = accepts_asked ending.acts ∙ ap (count_by accepts) is.operations ∙ none_ended live why

-- nor does anything after its opening
later_accepts : (service : Service) (opening : Step) (parts : List Part) (ending : Option Step) → Follows service opening parts ending → count_by is_accept (step_acts (later_steps parts ending)) ≡ 0
later_accepts service opening parts None round = ap (λ ps. count_by is_accept (step_acts (later_steps ps None))) round.1
later_accepts service opening parts (Some ending) round =
    let requests = flat_map requests_of parts in
    ap (count_by is_accept) (flat_map-append (λ s. s.acts) requests (ending ∷ []))
    ∙ count-append is_accept (step_acts requests) (step_acts (ending ∷ []))
    ∙ ap (λ n. n + count_by is_accept (step_acts (ending ∷ []))) (none_accepted_by service requests (all_requests service round.1.0 opening parts round.1.2))
    ∙ ap (λ acts. 0 + count_by is_accept acts) (append-nil ending.acts)
    ∙ ap (λ n. 0 + n) (end_accepts opening.place.event.session (live_role (Pre opening.place.event.session) parts) round.1.0 ending round.1.1)

-- the session was opened, or its opening is lost
pub opened_or_lost : (service : Service) (opening : Step) (parts : List Part) (ending : Option Step) → Follows service opening parts ending → (is_permit opening.place.event.decision ≡ true) ⊎ (is_lost opening.place.event.decision ≡ true)
opened_or_lost service opening parts None round = inr round.0
opened_or_lost service opening parts (Some ending) round = inl round.0

comes : Operation → Bool
comes (Accepts accepted.Came) = true
comes _ = false

stops : Operation → Bool
stops (Accepts accepted.NoneLeft) = true
stops (Accepts accepted.Failed) = true
stops _ = false

same_coming : (act : Act) → is_coming act ≡ comes (operation_of act)
unfolding comes
same_coming (acts.Accept accepted.Came) = refl
same_coming (acts.Accept accepted.NoneLeft) = refl
same_coming (acts.Accept accepted.Failed) = refl
same_coming (acts.Start role outcome) = refl
same_coming (acts.Finish role) = refl
same_coming acts.HangUp = refl
same_coming (acts.ConnRecv max outcome) = refl
same_coming (acts.ConnSend bytes outcome) = refl
same_coming (acts.VaultRead uid name offset max outcome) = refl
same_coming (acts.VaultWrite uid name offset bytes outcome) = refl
same_coming (acts.Clock moment) = refl

same_stop : (act : Act) → is_stop act ≡ stops (operation_of act)
unfolding stops
same_stop (acts.Accept accepted.Came) = refl
same_stop (acts.Accept accepted.NoneLeft) = refl
same_stop (acts.Accept accepted.Failed) = refl
same_stop (acts.Start role outcome) = refl
same_stop (acts.Finish role) = refl
same_stop acts.HangUp = refl
same_stop (acts.ConnRecv max outcome) = refl
same_stop (acts.ConnSend bytes outcome) = refl
same_stop (acts.VaultRead uid name offset max outcome) = refl
same_stop (acts.VaultWrite uid name offset bytes outcome) = refl
same_stop (acts.Clock moment) = refl

came_once : (session : ℕ) (d : Decision) → (is_permit d ≡ true) ⊎ (is_lost d ≡ true) → count_by comes (opening_operations session d) ≡ 1
unfolding comes
came_once session (decisions.Permit value) h = refl
came_once session decisions.Lost h = refl
came_once session (decisions.Deny rule detail) (inl h) = absurd cc
came_once session (decisions.Deny rule detail) (inr h) = absurd cc

never_stopped : (session : ℕ) (d : Decision) → (is_permit d ≡ true) ⊎ (is_lost d ≡ true) → count_by stops (opening_operations session d) ≡ 0
unfolding stops
never_stopped session (decisions.Permit value) h = refl
never_stopped session decisions.Lost h = refl
never_stopped session (decisions.Deny rule detail) (inl h) = absurd cc
never_stopped session (decisions.Deny rule detail) (inr h) = absurd cc

opening_asked : (service : Service) (sitting : Sitting) → IsSitting service sitting → map operation_of sitting.opening.acts ≡ opening_operations sitting.opening.place.event.session sitting.opening.place.event.decision
unfolding operations_of
opening_asked service sitting is =
    is.begins.acts.operations ∙ ap (λ ask. operations_by service.setup sitting.opening.place ask None) is.begins.ask

stop_accepts : (act : Act) → is_stop act ≡ true → is_accept act ≡ true
stop_accepts (acts.Accept outcome) h = refl
stop_accepts (acts.Start role outcome) h = absurd cc
stop_accepts (acts.Finish role) h = absurd cc
stop_accepts acts.HangUp h = absurd cc
stop_accepts (acts.ConnRecv max outcome) h = absurd cc
stop_accepts (acts.ConnSend bytes outcome) h = absurd cc
stop_accepts (acts.VaultRead uid name offset max outcome) h = absurd cc
stop_accepts (acts.VaultWrite uid name offset bytes outcome) h = absurd cc
stop_accepts (acts.Clock moment) h = absurd cc

-- a session is served over one connection that came
pub one_came : (service : Service) (sitting : Sitting) → IsSitting service sitting → came_count (step_acts (all_steps sitting)) ≡ 1
one_came service sitting is =
    let later = step_acts (later_steps sitting.parts sitting.ending) in
    let e = sitting.opening.place.event in
    let either = opened_or_lost service sitting.opening sitting.parts sitting.ending is.round in
    let first : count_by is_coming sitting.opening.acts ≡ 1 = counts_asked is_coming comes sitting.opening.acts same_coming ∙ ap (count_by comes) (opening_asked service sitting is) ∙ came_once e.session e.decision either in
    let none : count_by is_coming later ≡ 0 = count-none is_coming is_accept later coming_accepts (later_accepts service sitting.opening sitting.parts sitting.ending is.round) in
    count-append is_coming sitting.opening.acts later ∙ ap (λ n. n + count_by is_coming later) first ∙ ap (λ n. 1 + n) none

-- and no accept of it came to nothing
pub none_stopped : (service : Service) (sitting : Sitting) → IsSitting service sitting → count_by is_stop (step_acts (all_steps sitting)) ≡ 0
none_stopped service sitting is =
    let later = step_acts (later_steps sitting.parts sitting.ending) in
    let e = sitting.opening.place.event in
    let either = opened_or_lost service sitting.opening sitting.parts sitting.ending is.round in
    let first : count_by is_stop sitting.opening.acts ≡ 0 = counts_asked is_stop stops sitting.opening.acts same_stop ∙ ap (count_by stops) (opening_asked service sitting is) ∙ never_stopped e.session e.decision either in
    let none : count_by is_stop later ≡ 0 = count-none is_stop is_accept later stop_accepts (later_accepts service sitting.opening sitting.parts sitting.ending is.round) in
    count-append is_stop sitting.opening.acts later ∙ ap (λ n. n + count_by is_stop later) first ∙ ap (λ n. 0 + n) none

-- of an end, whether it passes a test
abbrev pub passes_end : (Event → Bool) → Option Step → ℕ
passes_end test None = 0
passes_end test (Some ending) = cond (test ending.place.event) 1 0

later_pass : (service : Service) (test : Event → Bool) (opening : Step) (parts : List Part) (ending : Option Step) → FailsRequests test → Follows service opening parts ending → count_by (λ p. test p.event) (step_places (later_steps parts ending)) ≡ passes_end test ending
later_pass service test opening parts None fails round = ap (λ ps. count_by (λ p. test p.event) (step_places (later_steps ps None))) round.1
later_pass service test opening parts (Some ending) fails round =
    let requests = flat_map requests_of parts in
    ap (count_by (λ p. test p.event)) (map-append (λ s. s.place) requests (ending ∷ []))
    ∙ count-append (λ p. test p.event) (step_places requests) (ending.place ∷ [])
    ∙ ap (λ n. n + count_by (λ p. test p.event) (ending.place ∷ [])) (none_passes service test requests fails (all_requests service round.1.0 opening parts round.1.2))
    ∙ omega arith

-- of a session, a test that no request passes is passed by its opening and its end alone
pub passing : (service : Service) (test : Event → Bool) (sitting : Sitting) → FailsRequests test → IsSitting service sitting → count_by (λ p. test p.event) (step_places (all_steps sitting)) ≡ cond (test sitting.opening.place.event) 1 0 + passes_end test sitting.ending
passing service test sitting fails is =
    count-cons (λ p. test p.event) sitting.opening.place (step_places (later_steps sitting.parts sitting.ending))
    ∙ ap (λ n. cond (test sitting.opening.place.event) 1 0 + n) (later_pass service test sitting.opening sitting.parts sitting.ending fails is.round)
