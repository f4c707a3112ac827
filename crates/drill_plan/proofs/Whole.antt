-- All sessions of a drill's workers.
use Rattle.std.proofs.Common.{◌≡◌, ◌≢◌, ℕ, zero, suc, ◌+◌, ◌<◌, ◌≤◌, Bool, true, false, not, ◌&&◌, ◌||◌, cond, eqb, List, [], ◌∷◌, ◌++◌, length, map, Option, Some, None, option_to_list, refl, sym, ap, subst, ◌∙◌, append_assoc, arith, filter, count_by, eq-eqb}
use Rattle.std.specs.Prelude.{slice_get}
use Rattle.std.specs.List.{AllByRecursion, flat_map, list_any}
use Rattle.std.proofs.lemmas.Bool.{false≢true}
use Rattle.std.proofs.lemmas.Bool.Decides.{nat_tests}
use Rattle.std.proofs.lemmas.List.{map-append, length-map}
use Rattle.request_catalogue.specs.declared.width.Width.TheVariants.{Narrow}
use Rattle.policy_model.specs.declared.event.Ask.TheVariants as asks
use Rattle.policy_model.specs.declared.event.Decision.TheVariants.{Permit}
use Rattle.policy_model.specs.declared.event.Event.{Event}
use Rattle.policy_model.specs.declared.event.Why.{Why}
use Rattle.policy_model.specs.declared.event.Why.TheVariants as whys
use Rattle.policy_model.specs.Asks.{came_by_frame, is_begin, is_lost, is_permit, opens}
use Rattle.policy_model.specs.Journal.{Place, has_lost, open_session_of}
use Rattle.policy_model.specs.Legal.{IsLegal, IsNext}
use Rattle.policy_model.specs.Logins.{holder_of}
use Rattle.policy_model.specs.Runs.{IsOfWorker}
use Rattle.policy_model.specs.Settings.{Settings}
use Rattle.policy_model.specs.Verdict.{verdict_of}
use Rattle.policy_model.specs.Cases.{is_other}
use Rattle.policy_model.proofs.Legal.{IsLegal-none, IsLegal-push}
use Rattle.policy_model.proofs.Runs.{next_decision}
use Rattle.policy_model.proofs.Verdicts.{verdict_of-end}
use Rattle.session_laws.proofs.ByEvents.{by_legal_events}
use Rattle.session_laws.proofs.Holders.{holder_of-none}
use Rattle.service_model.specs.Ends.{is_fault_end}
use Rattle.service_model.specs.Parts.{IsRequestStep, Part, requests_of}
use Rattle.service_model.specs.Places.{Step, step_places}
use Rattle.service_model.specs.Cases.{place_of, worker_places_after}
use Rattle.service_model.specs.Service.{Service}
use Rattle.service_model.specs.Sittings.{Follows, IsOpening, IsSitting, Sitting, all_steps}
use Rattle.service_model.specs.Stories.{ArePlanned}
use Rattle.service_model.proofs.Lists.{count-cons}
use Rattle.service_model.proofs.Places.{count_of-places}
use Rattle.service_model.proofs.Sittings.{all_requests}
use Rattle.service_model.proofs.Stories.{all_opened}
use Rattle.outside.specs.Scene.{bytes_at}
use Rattle.drill_plan.specs.Drill.{IsDrill, IsDrillOf, IsDrillSession, events_by}
use Rattle.drill_plan.specs.DrillSetup.{IsDrillSetup}
use Rattle.drill_plan.specs.Passwords.{own_name, session_count}
use Rattle.drill_plan.specs.Plan.{drill_plan}
use Rattle.drill_plan.specs.Played.{IsPlayed}
use Rattle.drill_plan.proofs.Apart.{OwnPlaces, all_apart, own_places, own_sittings}
use Rattle.drill_plan.proofs.Ends.{IsFree}
use Rattle.drill_plan.proofs.Heard.{events_in}
use Rattle.drill_plan.proofs.Holding.{AreHeld, IsApart, all_parts, held_more}
use Rattle.drill_plan.proofs.Sessions.{parts_follow}
use Rattle.drill_plan.proofs.Walk.{At, Next, Stands, State, after, begun, goes_on, next_place, start, stays}

-- an event of a journal of which no event passes a test
none_passes : (test : Event → Bool) (before rest : List Event) (e : Event) → list_any test (before ++ e ∷ rest) ≡ false → test e ≡ false
none_passes test [] rest e none = first (test e) (list_any test rest) none where
  first : (a b : Bool) → (a || b) ≡ false → a ≡ false
  first false b h = refl
  first true b h = absurd cc
none_passes test (x ∷ before) rest e none = none_passes test before rest e (second (test x) (list_any test (before ++ e ∷ rest)) none) where
  second : (a b : Bool) → (a || b) ≡ false → b ≡ false
  second false b h = h
  second true b h = absurd cc

abbrev AreFramed : List Step → Type 0
AreFramed steps = AllByRecursion (λ (x : Step). came_by_frame x.place.event.ask ≡ true) steps

framed : (service : Service) (steps : List Step) → AllByRecursion (IsRequestStep service) steps → AreFramed steps
framed service [] all = tt
framed service (step ∷ steps) all = (all.0.request, framed service steps all.1)

-- the events of each session
abbrev session_events : List Sitting → List (List Event)
session_events sittings = map (λ (s : Sitting). events_in (all_steps s)) sittings

-- ---- one worker

record Done (n worker k : ℕ) (setup : Settings) (journal : List Event) (steps : List Step) (rest : List Place) : Type 0 where
  session : IsDrillSession n worker k (events_in steps)
  before : List Event
  so_far : IsLegal setup before
  stands : Stands journal worker before rest

module _ (service : Service) (n worker : ℕ) (journal : List Event) (legal : IsLegal service.setup journal) (none : has_lost journal ≡ false) (sixteen : service.setup.requests ≡ 16) (three : service.setup.tries ≡ 3) (narrow : service.setup.frames ≡ Narrow)
    (below : worker < 4) (unended : list_any (λ e. is_fault_end e.ask) journal ≡ false) (free : (session : ℕ) → IsFree service.setup journal worker session legal none sixteen three (own_name worker)) where
  record Walked (session : ℕ) (more : List Place) : Type 0 where
    state : State
    before : List Event
    at : At service.setup worker session before state
    stands : Stands journal worker before more

  walked : (session : ℕ) (s : State) (before : List Event) (steps : List Step) (more : List Place) → At service.setup worker session before s → AreFramed steps → Stands journal worker before (step_places steps ++ more) → Walked session more
  walked session s before [] more at all stands = record { state = s; before = before; at = at; stands = stands }
  walked session s before (step ∷ steps) more at all stands =
      let n1 = next_place service.setup journal worker legal none (λ b. At service.setup worker session b s) (stays service.setup worker session s) before step.place (step_places steps ++ more) at stands in
      walked session (after s step.place.event) (step.place.before ++ step.place.event ∷ []) steps more (goes_on service.setup worker session step.place.before s step.place.event n1.holds n1.comes n1.own all.0) all.1 n1.behind

  first_place : (before : List Event) (p : Place) (places : List Place) → IsLegal service.setup before → Stands journal worker before (p ∷ places) → Next service.setup journal worker (IsLegal service.setup) p places
  first_place before p places so stands = next_place service.setup journal worker legal none (IsLegal service.setup) (λ b e comes other l. IsLegal-push service.setup b e l comes.next) before p places so stands

  sat : (k : ℕ) (opening : Step) (parts : List Part) (ending : Option Step) (before : List Event) (rest : List Place) → IsLegal service.setup before → k < session_count n → IsOpening service.setup opening → Follows service opening parts ending
      → AllByRecursion (λ (part : Part). part.taken ++ part.unread ≡ bytes_at part.role (drill_plan n worker) (k + 1)) parts → Stands journal worker before (step_places (opening ∷ (flat_map requests_of parts ++ option_to_list ending)) ++ rest)
      → Done n worker k service.setup journal (opening ∷ (flat_map requests_of parts ++ option_to_list ending)) rest
  sat k opening parts None before rest so few begins round planned stands =
      let n1 = first_place before opening.place _ so stands in
      absurd (false≢true (sym n1.comes.kept ∙ round.0))
  sat k opening parts (Some ending) before rest so few begins round planned stands =
      let asked : List Step = flat_map requests_of parts in
      let why : Why = round.1.0 in
      let first = opening.place.event in
      let last = ending.place.event in
      let n1 = first_place before opening.place (step_places (asked ++ ending ∷ []) ++ rest) so stands in
      let begin = begins.ask in
      let permit = round.0 in
      let opened : opens first ≡ true = ap (λ b. b && is_permit first.decision) (ap is_begin begin) ∙ permit in
      let at = subst (λ w. At service.setup w first.session (opening.place.before ++ first ∷ []) start) n1.own (begun service.setup opening.place.before first n1.holds n1.comes opened) in
      let split : step_places (asked ++ ending ∷ []) ++ rest ≡ step_places asked ++ (ending.place ∷ rest) = ap (λ ps. ps ++ rest) (map-append (λ (s : Step). s.place) asked (ending ∷ [])) ∙ append_assoc (step_places asked) (ending.place ∷ []) rest in
      let stands1 = subst (λ ps. Stands journal worker (opening.place.before ++ first ∷ []) ps) split n1.behind in
      let w = walked first.session start (opening.place.before ++ first ∷ []) asked (ending.place ∷ rest) at (framed service asked (all_requests service why opening parts round.1.2)) stands1 in
      let n2 = next_place service.setup journal worker legal none (λ b. At service.setup worker first.session b w.state) (stays service.setup worker first.session w.state) w.before ending.place rest w.at w.stands in
      let whole : journal ≡ ending.place.before ++ (last ∷ n2.behind.rest) = n2.behind.parts ∙ append_assoc ending.place.before (last ∷ []) n2.behind.rest in
      let fault : is_fault_end last.ask ≡ false = none_passes (λ e. is_fault_end e.ask) ending.place.before n2.behind.rest last (subst (λ j. list_any (λ e. is_fault_end e.ask) j ≡ false) whole unended) in
      let ask : last.ask ≡ asks.End why = round.1.1.ask in
      let no_link : why ≢ whys.LinkFault = λ same. false≢true (sym fault ∙ ap is_fault_end (ask ∙ ap asks.End same)) in
      let no_keeper : why ≢ whys.KeeperFault = λ same. false≢true (sym fault ∙ ap is_fault_end (ask ∙ ap asks.End same)) in
      let follows = parts_follow service n worker first.session k journal legal none sixteen three narrow below few (free first.session) why opening parts (opening.place.before ++ first ∷ []) (ending.place ∷ rest) no_link no_keeper round.1.2 planned at stands1 in
      let has_one : open_session_of ending.place.before worker ≢ 0 = λ zero. n2.holds.some (sym n2.holds.opened ∙ zero) in
      let decision : last.decision ≡ Permit 0 =
      next_decision service.setup ending.place.before last n2.comes.next n2.comes.kept ∙ ap (λ v. verdict_of service.setup ending.place.before v last.ask) n2.own ∙ ap (verdict_of service.setup ending.place.before worker) ask
      ∙ verdict_of-end service.setup ending.place.before worker why has_one in
      record {
        session = record {
          opening = first;
          asked = events_in asked;
          ending = last;
          parts = ap (λ es. first ∷ es) (map-append (λ (x : Step). x.place.event) asked (ending ∷ []));
          opened = opened;
          requests = follows.asked;
          ended = ask ∙ ap asks.End follows.ended;
          permitted = ap is_permit decision;
        };
        before = ending.place.before ++ last ∷ [];
        so_far = IsLegal-push service.setup ending.place.before last n2.holds.legal n2.comes.next;
        stands = n2.behind;
      }

  all_sat : (sittings : List Sitting) (k : ℕ) (before : List Event) → IsLegal service.setup before → k + length sittings ≤ session_count n → AllByRecursion (IsSitting service) sittings → ArePlanned (drill_plan n worker) k sittings
      → Stands journal worker before (step_places (flat_map all_steps sittings)) → (j : ℕ) (session : List Event) → slice_get (session_events sittings) j ≡ Some session → IsDrillSession n worker (k + j) session
  all_sat [] k before so few each planned stands j session at = absurd (no_item j at) where
    no_item : (j : ℕ) → slice_get (session_events []) j ≡ Some session → ⊥
    no_item zero e = absurd cc
    no_item (suc j') e = absurd cc
  all_sat (sitting ∷ sittings) k before so few each planned stands j session at =
      let split : step_places (flat_map all_steps (sitting ∷ sittings)) ≡ step_places (all_steps sitting) ++ step_places (flat_map all_steps sittings) = map-append (λ (s : Step). s.place) (all_steps sitting) (flat_map all_steps sittings) in
      let done = sat k sitting.opening sitting.parts sitting.ending before (step_places (flat_map all_steps sittings)) so (omega (arith, few)) each.0.begins each.0.round planned.0 (subst (λ ps. Stands journal worker before ps) split stands) in
      by_place j at done.session (all_sat sittings (k + 1) done.before done.so_far (omega (arith, few)) each.1 planned.1 done.stands) where
        by_place : (j : ℕ) → slice_get (session_events (sitting ∷ sittings)) j ≡ Some session → IsDrillSession n worker k (events_in (all_steps sitting))
            → ((i : ℕ) (s : List Event) → slice_get (session_events sittings) i ≡ Some s → IsDrillSession n worker (k + 1 + i) s) → IsDrillSession n worker (k + j) session
        by_place zero e here later =
            let same : events_in (all_steps sitting) ≡ session = cc in
            let number : k ≡ k + 0 = omega arith in
            subst (λ m. IsDrillSession n worker m session) number (subst (λ s. IsDrillSession n worker k s) same here)
        by_place (suc i) e here later =
            let number : k + 1 + i ≡ k + suc i = omega arith in
            subst (λ m. IsDrillSession n worker m session) number (later i session e)

-- ---- a worker's events are those of its sessions

filter_places : (worker : ℕ) (before events : List Event) → filter (λ (e : Event). eqb e.worker worker) events ≡ map (λ (p : Place). p.event) (worker_places_after worker before events)
filter_places worker before [] = refl
filter_places worker before (e ∷ events) = by_test (eqb e.worker worker) (filter_places worker (before ++ e ∷ []) events) where
  by_test : (b : Bool) → filter (λ (x : Event). eqb x.worker worker) events ≡ map (λ (p : Place). p.event) (worker_places_after worker (before ++ e ∷ []) events)
      → cond b (e ∷ filter (λ (x : Event). eqb x.worker worker) events) (filter (λ (x : Event). eqb x.worker worker) events) ≡ map (λ (p : Place). p.event) (cond b (place_of before e ∷ worker_places_after worker (before ++ e ∷ []) events) (worker_places_after worker (before ++ e ∷ []) events))
  by_test true more = ap (λ (es : List Event). e ∷ es) more
  by_test false more = more

place_events : (steps : List Step) → map (λ (p : Place). p.event) (step_places steps) ≡ events_in steps
place_events [] = refl
place_events (step ∷ steps) = ap (λ (es : List Event). step.place.event ∷ es) (place_events steps)

events_of_all : (sittings : List Sitting) → events_in (flat_map all_steps sittings) ≡ flat_map (λ (session : List Event). session) (session_events sittings)
events_of_all [] = refl
events_of_all (sitting ∷ sittings) = map-append (λ (x : Step). x.place.event) (all_steps sitting) (flat_map all_steps sittings) ∙ ap (λ (es : List Event). events_in (all_steps sitting) ++ es) (events_of_all sittings)

none_counted : (worker : ℕ) (events : List Event) → has_lost events ≡ false → count_by (λ (e : Event). eqb e.worker worker && is_lost e.decision) events ≡ 0
none_counted worker [] none = refl
none_counted worker (e ∷ events) none =
    let kept = none_passes (λ (x : Event). is_lost x.decision) [] events e none in
    count-cons (λ (x : Event). eqb x.worker worker && is_lost x.decision) e events
    ∙ ap (λ (m : ℕ). m + count_by (λ (x : Event). eqb x.worker worker && is_lost x.decision) events) (by_worker (eqb e.worker worker) (is_lost e.decision) kept)
    ∙ ap (λ (m : ℕ). 0 + m) (none_counted worker events (behind (is_lost e.decision) (has_lost events) none)) where
      by_worker : (a b : Bool) → b ≡ false → ◌≡◌ {A = ℕ} (cond (a && b) 1 0) 0
      by_worker true b h = rw h refl
      by_worker false b h = refl

      behind : (a b : Bool) → (a || b) ≡ false → b ≡ false
      behind false b h = h
      behind true b h = absurd cc

below_all : (setup : Settings) (events : List Event) → setup.workers ≡ 4 → AllByRecursion (IsOfWorker setup) events → AllByRecursion (λ (e : Event). e.worker < 4) events
below_all setup [] four all = tt
below_all setup (e ∷ events) four all = (omega (arith, all.0.below, four), below_all setup events four all.1)

no_others : (worker : ℕ) (events : List Event) → 4 ≤ worker → AllByRecursion (λ (e : Event). e.worker < 4) events → filter (λ (e : Event). eqb e.worker worker) events ≡ []
no_others worker [] ge all = refl
no_others worker (e ∷ events) ge all =
    let lt : e.worker < 4 = all.0 in
    let apart : eqb e.worker worker ≡ false = grind (arith, nat_tests) in
    rw apart (no_others worker events ge all.1)

-- ---- the drill

module _ (n : ℕ) (service : Service) (journal : List Event) (is : IsDrillSetup n service.setup) (legal : IsLegal service.setup journal) (workers : AllByRecursion (IsOfWorker service.setup) journal) (none : has_lost journal ≡ false) (unended : list_any (λ e. is_fault_end e.ask) journal ≡ false)
    (played : (worker : ℕ) → worker < 4 → IsPlayed n service journal worker) where
  narrow : service.setup.frames ≡ Narrow
  narrow = ap (λ (s : Settings). s.frames) is.plain

  four : service.setup.workers ≡ 4
  four = ap (λ (s : Settings). s.workers) is.plain

  sixteen : service.setup.requests ≡ 16
  sixteen = ap (λ (s : Settings). s.requests) is.plain

  three : service.setup.tries ≡ 3
  three = ap (λ (s : Settings). s.tries) is.plain

  as_many : (worker : ℕ) → (p : IsPlayed n service journal worker) → length p.sittings ≡ session_count n
  as_many worker p =
      let none_lost = ap (λ (ps : List Place). count_by (λ (x : Place). is_lost x.event.decision) ps) (sym p.served.places) ∙ sym (count_of-places (λ (e : Event). is_lost e.decision) worker journal) ∙ none_counted worker journal none in
      sym (all_opened service p.sittings p.served.each none_lost) ∙ ap (λ (ps : List Place). count_by (λ (x : Place). opens x.event) ps) (sym p.served.places) ∙ sym (count_of-places opens worker journal) ∙ p.opened

  own_worker : (worker : ℕ) → worker < 4 → OwnPlaces worker (worker_places_after worker [] journal)
  own_worker worker lt =
      let p = played worker lt in
      let few : 0 + length p.sittings ≤ session_count n = omega (arith, as_many worker p) in
      subst (λ (ps : List Place). OwnPlaces worker ps) (sym p.served.places) (own_places worker (flat_map all_steps p.sittings) (own_sittings service n worker 0 p.sittings narrow lt few p.served.each p.planned))

  apart : AllByRecursion IsApart journal
  apart = all_apart journal [] own_worker (below_all service.setup journal four workers)

  held : (before : List Event) → IsLegal service.setup before → (rest : List Event) → journal ≡ before ++ rest → AreHeld before
  held before so = by_legal_events service.setup (λ (j : List Event). (rest : List Event) → journal ≡ j ++ rest → AreHeld j) (λ rest parts. record { by_own = λ worker session user lt named h. let no = holder_of-none user in absurd cc }) more before so where
    more : (j : List Event) (e : Event) → IsLegal service.setup j → IsNext service.setup j e → ((rest : List Event) → journal ≡ j ++ rest → AreHeld j) → (rest : List Event) → journal ≡ (j ++ e ∷ []) ++ rest → AreHeld (j ++ e ∷ [])
    more j e so' next earlier rest parts =
        let whole : journal ≡ j ++ (e ∷ rest) = parts ∙ append_assoc j (e ∷ []) rest in
        let kept = none_passes (λ (x : Event). is_lost x.decision) j rest e (subst (λ (l : List Event). has_lost l ≡ false) whole none) in
        held_more service.setup j e so' (record { next = next; kept = kept }) (all_parts j (e ∷ rest) (subst (λ (l : List Event). AllByRecursion IsApart l) whole apart)).1.0 (earlier (e ∷ rest) whole)

  free : (worker : ℕ) → worker < 4 → (session : ℕ) → IsFree service.setup journal worker session legal none sixteen three (own_name worker)
  free worker lt session before rest s name parts at named = by_holder (holder_of before name) refl where
    by_holder : (o : Option ℕ) → holder_of before name ≡ o → is_other session (holder_of before name) ≡ false
    by_holder None h = ap (is_other session) h
    by_holder (Some holder) h =
        let mine : holder ≡ session = sym ((held before at.legal rest parts).by_own worker holder name lt named h) ∙ at.opened in
        ap (is_other session) h ∙ ap not (eq-eqb holder session mine)

  of_worker : (worker : ℕ) → worker < 4 → IsDrillOf n worker (events_by journal worker)
  of_worker worker lt =
      let p = played worker lt in
      let len = as_many worker p in
      let few : 0 + length p.sittings ≤ session_count n = omega (arith, len) in
      let stands : Stands journal worker [] (step_places (flat_map all_steps p.sittings)) = record { rest = journal; parts = refl; are = p.served.places } in
      record {
        sessions = session_events p.sittings;
        all = filter_places worker [] journal ∙ ap (map (λ (x : Place). x.event)) p.served.places ∙ place_events (flat_map all_steps p.sittings) ∙ events_of_all p.sittings;
        count = length-map p.sittings (λ (s : Sitting). events_in (all_steps s)) ∙ len;
        each = λ k session at.
            let number : 0 + k ≡ k = omega arith in
            subst (λ (m : ℕ). IsDrillSession n worker m session) number
            (all_sat service n worker journal legal none sixteen three narrow lt unended (free worker lt) p.sittings 0 [] (IsLegal-none service.setup) few p.served.each p.planned stands k session at);
      }

  pub is_drill : IsDrill n journal
  is_drill = record { workers = of_worker; others = λ worker ge. no_others worker journal ge (below_all service.setup journal four workers) }
