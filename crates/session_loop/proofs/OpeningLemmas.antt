-- A session from its opening to its end.
use Rattle.std.proofs.Common.{◌≡◌, ◌≢◌, ℕ, ◌+◌, ◌<◌, ◌≤◌, Bool, true, false, ◌||◌, List, [], ◌∷◌, ◌++◌, map, Option, Some, None, Ok, Err, refl, sym, ap, subst, ◌∙◌, inr, arith}
use Rattle.std.specs.Prelude.{find}
use Rattle.std.specs.List.{AllByRecursion, flat_map}
use Rattle.outside.specs.declared.act.Act.{Act}
use Rattle.outside.specs.declared.act.Act.TheVariants.{Accept, HangUp, Start}
use Rattle.outside.specs.declared.act.Accepted.TheVariants as accepted
use Rattle.outside.specs.declared.act.Failed.{Failed}
use Rattle.outside.specs.declared.act.Role.TheVariants.{Pre}
use Rattle.outside.specs.Scene.{Did, Played, Scene, bytes_at, came_count}
use Rattle.outside.specs.Told.{Goes}
use Rattle.outside.proofs.Told.{Goes-then}
use Rattle.outside.proofs.Scenes.{Plays-then}
use Rattle.policy_model.specs.declared.event.Ask.TheVariants as asks
use Rattle.policy_model.specs.declared.event.Decision.{Decision}
use Rattle.policy_model.specs.declared.event.Decision.TheVariants as decisions
use Rattle.policy_model.specs.declared.event.Event.{Event}
use Rattle.policy_model.specs.declared.event.Why.{Why}
use Rattle.policy_model.specs.declared.event.Why.TheVariants as whys
use Rattle.policy_model.specs.Asks.{exports, is_lost, is_permit}
use Rattle.policy_model.specs.Cases.{handle_of}
use Rattle.policy_model.specs.Journal.{ask_count, has_event, openings_of}
use Rattle.policy_model.specs.Runs.{IsIdle, IsRun, IsServing}
use Rattle.policy_model.specs.Settings.{Settings}
use Rattle.policy_model.specs.Verdict.{verdict_of}
use Rattle.policy_model.proofs.Runs.{Opens as OpensServing, begins, has_lost-now, idle_open, next_decision, next_session}
use Rattle.policy_model.proofs.Verdicts.{session_of-begin, verdict_of-begin}
use Rattle.session_laws.proofs.HandleLaws.{no_handles_before}
use Rattle.session_laws.proofs.SessionEvents.{has_event-new, has_event-own}
use Rattle.service_model.specs.Acts.{Accepts, opening_operations, operation_of, operations_by, operations_of}
use Rattle.service_model.specs.Parts.{Part, requests_of}
use Rattle.service_model.specs.Places.{Step, step_acts, worker_places}
use Rattle.service_model.specs.Service.{Service}
use Rattle.service_model.specs.Sittings.{IsOpening, Sitting}
use Rattle.service_model.specs.Stories.{IsPlanned, talk_of}
use Rattle.service_model.specs.Cases.{name_of_opening, place_of}
use Rattle.service_model.proofs.Places.{worker_places-own}
use Rattle.session_asking.specs.Known.{Knows}
use Rattle.session_asking.specs.Serving.{Steps}
use Rattle.session_turns.specs.Joins.{Joins, KeepsRights, Rights}
use Rattle.session_turns.proofs.Others.{event_at}
use Rattle.session_loop.specs.Sessions.{HasChildren, HasEnd, HasRest, HasSitting, MayOpen, Opens}
use Rattle.session_loop.proofs.Children.{SameRound, planned_before, same_round}
use Rattle.session_loop.proofs.EndLemmas.{Goes-weaker}
use Rattle.session_loop.proofs.Turning.{Steps-then}

abbrev AllPlanned : List Part → Scene → Scene → Type 0
AllPlanned parts b a = AllByRecursion (λ part. part.taken ++ part.unread ≡ bytes_at part.role b.plan (came_count b.acts)) parts

all_before : (parts : List Part) (b m a : Scene) → SameRound b m → AllPlanned parts m a → AllPlanned parts b a
all_before [] b m a same planned = tt
all_before (part ∷ parts) b m a same planned = (planned_before part b m a same planned.0, all_before parts b m a same planned.1)

-- a session whose first child was started
pub rest_started : (service : Service) (session worker : ℕ) (why : Why) (a c : List Event) (s t v : Option Scene) → Did (Start (Pre session) (Ok tt)) s t → HasChildren service session worker why a c t v → HasRest service session worker why a c s v
rest_started service session worker why a c s t v did have =
    let start : Act = Start (Pre session) (Ok tt) in
    let later = step_acts (flat_map requests_of have.parts ++ have.ending ∷ []) in
    record {
      start = start;
      asked_for = refl;
      parts = have.parts;
      are = λ opening opened same. have.are opening opened same;
      ending = have.ending;
      ends = have.ends;
      steps = have.steps;
      played = Plays-then (start ∷ []) later [] (map talk_of have.parts) [] (map (λ part. part.unread) have.parts) s t v did have.played;
      planned = Goes-then (Played (start ∷ []) [] []) (AllPlanned have.parts) (AllPlanned have.parts) (λ x y z d planned. all_before have.parts x y z (same_round (start ∷ []) [] [] x y refl d) planned) s t v did have.planned;
    }

-- a session whose first child could not be started
pub rest_unstarted : (service : Service) (session worker : ℕ) (failed : Failed) (a c : List Event) (s t v : Option Scene) → Did (Start (Pre session) (Err failed)) s t → Did HangUp t v → HasEnd session worker (Pre session) whys.KeeperFault (HangUp ∷ []) a c → HasRest service session worker whys.KeeperFault a c s v
rest_unstarted service session worker failed a c s t v did hung end =
    let start : Act = Start (Pre session) (Err failed) in
    let played : Goes (Played (start ∷ HangUp ∷ []) [] []) s v = Plays-then (start ∷ []) (HangUp ∷ []) [] [] [] [] s t v did hung in
    record {
      start = start;
      asked_for = refl;
      parts = [];
      are = λ opening opened same. (opened, refl);
      ending = end.ending;
      ends = end.ends;
      steps = end.steps;
      played = subst (λ (acts : List Act). Goes (Played (start ∷ (acts ++ [])) [] []) s v) (sym end.acts) played;
      planned = Goes-weaker (Played (start ∷ HangUp ∷ []) [] []) (AllPlanned []) (λ b d h. tt) s v played;
    }

-- the step of an opening with its acts
opening_is : (setup : Settings) (old : List Event) (e : Event) (acts : List Act) → e.ask ≡ asks.Begin → map operation_of acts ≡ opening_operations e.session e.decision → IsOpening setup (record { place = place_of old e; message = None; acts = acts })
unfolding operations_of
opening_is setup old e acts begins are = record { ask = begins; none = refl; acts = record { operations = are ∙ sym (ap (λ ask. operations_by setup (place_of old e) ask None) begins) } }

opening_steps : (setup : Settings) (worker : ℕ) (a b : List Event) (e : Event) (acts : List Act) → (joins : Joins setup worker asks.Begin a b e) → Steps worker (record { place = place_of joins.before e; message = None; acts = acts } ∷ []) a b
opening_steps setup worker a b e acts joins = record {
  own = ap (λ j. worker_places j worker) joins.grown ∙ worker_places-own worker joins.before e joins.its ∙ ap (λ ps. ps ++ place_of joins.before e ∷ []) joins.others.places;
}

idle_before : (setup : Settings) (worker : ℕ) (a b : List Event) (e : Event) → (joins : Joins setup worker asks.Begin a b e) → IsIdle a worker → IsIdle joins.before e.worker
idle_before setup worker a b e joins idle = subst (IsIdle joins.before) (sym joins.its) (joins.others.idle idle)

-- the opening of an idle worker that isn't lost is permitted
permitted : (setup : Settings) (worker : ℕ) (a b : List Event) (e : Event) → (joins : Joins setup worker asks.Begin a b e) → IsIdle a worker → is_lost e.decision ≡ false → e.decision ≡ decisions.Permit (openings_of joins.before + 1)
permitted setup worker a b e joins idle kept =
    next_decision setup joins.before e joins.next kept ∙ ap (verdict_of setup joins.before e.worker) joins.asks ∙ verdict_of-begin setup joins.before e.worker (idle_open setup joins.before e joins.next (idle_before setup worker a b e joins idle) kept)

-- a session that was opened, with all that followed
sitting_opened : (service : Service) (worker value : ℕ) (why : Why) (a b c : List Event) (e : Event) (s v : Option Scene) → Joins service.setup worker asks.Begin a b e → e.decision ≡ decisions.Permit value → HasRest service e.session worker why b c s v → HasSitting service worker why a c s v
sitting_opened service worker value why a b c e s v joins permit rest =
    let acts : List Act = Accept accepted.Came ∷ rest.start ∷ [] in
    let opening : Step = record { place = place_of joins.before e; message = None; acts = acts } in
    let sitting : Sitting = record { opening = opening; parts = rest.parts; ending = Some rest.ending } in
    let later = flat_map requests_of rest.parts ++ rest.ending ∷ [] in
    let are : map operation_of acts ≡ opening_operations e.session e.decision = ap (λ op. Accepts accepted.Came ∷ op ∷ []) rest.asked_for ∙ sym (ap (opening_operations e.session) permit) in
    record {
      sitting = sitting;
      is = record {
        begins = opening_is service.setup joins.before e acts joins.asks are;
        round = (ap is_permit permit, (why, rest.ends, rest.are opening refl refl));
      };
      ended = rest.ends.ask;
      steps = Steps-then worker (opening ∷ []) later a b c (opening_steps service.setup worker a b e acts joins) rest.steps;
      done = rest.start ∷ step_acts later;
      acts = refl;
      played = rest.played;
      planned = rest.planned;
    }

lost_is : (d : Decision) → is_lost d ≡ true → d ≡ decisions.Lost
lost_is (decisions.Permit value) h = absurd cc
lost_is (decisions.Deny rule detail) h = absurd cc
lost_is decisions.Lost h = refl

-- a session whose opening is lost
sitting_lost : (service : Service) (worker : ℕ) (a b : List Event) (e : Event) (s v : Option Scene) → Joins service.setup worker asks.Begin a b e → is_lost e.decision ≡ true → Did HangUp s v → HasSitting service worker whys.LogLost a b s v
sitting_lost service worker a b e s v joins lost hung =
    let acts : List Act = Accept accepted.Came ∷ HangUp ∷ [] in
    let opening : Step = record { place = place_of joins.before e; message = None; acts = acts } in
    let sitting : Sitting = record { opening = opening; parts = []; ending = None } in
    record {
      sitting = sitting;
      is = record {
        begins = opening_is service.setup joins.before e acts joins.asks (sym (ap (opening_operations e.session) (lost_is e.decision lost)));
        round = (lost, refl);
      };
      ended = refl;
      steps = opening_steps service.setup worker a b e acts joins;
      done = HangUp ∷ [];
      acts = refl;
      played = hung;
      planned = Goes-weaker (Played (HangUp ∷ []) [] []) (λ x y. IsPlanned x.plan (came_count x.acts) sitting) (λ x y h. tt) s v hung;
    }

or_false : (b : Bool) → (b || false) ≡ b
or_false true = refl
or_false false = refl

-- of a session that was just opened nothing is known
fresh_known : (setup : Settings) (before : List Event) (e : Event) → IsRun setup before → IsRun setup (before ++ e ∷ []) → e.session ≡ openings_of before + 1 → e.ask ≡ asks.Begin → Knows setup (before ++ e ∷ []) e.session None
fresh_known setup before e run after number begun =
    let none : has_event (before ++ e ∷ []) e.session exports ≡ false = has_event-own before e e.session exports refl ∙ ap (λ b. b || exports e) (has_event-new before (openings_of before) e.session exports run.numbered (omega (arith, number))) ∙ rw begun refl in
    record {
      exported = none;
      account = λ some. absurd cc;
      files = λ handle. ap (λ live. name_of_opening (find (λ o. Rattle.std.proofs.Common.eqb (handle_of o) handle) live)) (no_handles_before setup (before ++ e ∷ []) after.legal e.session none);
    }

-- what comes of the opening of an idle worker
pub opens : (service : Service) (rights_old rights_new : Rights) (a b : List Event) (e : Event) → MayOpen service.setup rights_old a → Joins service.setup rights_old.worker asks.Begin a b e → KeepsRights 1 rights_old rights_new → Opens service rights_old a rights_new b e
opens service rights_old rights_new a b e may joins kept =
    let setup = service.setup in
    let before = joins.before in
    let worker = rights_old.worker in
    let now : IsRun setup (before ++ e ∷ []) = subst (IsRun setup) joins.grown joins.run in
    let begun : is_lost e.decision ≡ false → OpensServing setup before e = λ well. begins setup before e joins.others.run joins.next joins.asks (event_at setup before e [] now).below well (idle_open setup before e joins.next (idle_before setup worker a b e joins may.idle) well) in
    let number : is_lost e.decision ≡ false → e.session ≡ openings_of before + 1 = λ well. next_session setup before e joins.next ∙ ap (λ ask. Rattle.policy_model.specs.Legal.session_of before e.worker ask e.decision) joins.asks ∙ ap (Rattle.policy_model.specs.Legal.session_of before e.worker asks.Begin) (permitted setup worker a b e joins may.idle well) ∙ session_of-begin before e.worker (openings_of before + 1) in
    let count : is_lost e.decision ≡ false → ask_count b e.session ≡ 0 = λ well. ap (λ j. ask_count j e.session) joins.grown ∙ (begun well).asks in
    record {
      over = λ lost. record { run = joins.run; idle = subst (λ j. IsIdle j worker) (sym joins.grown) (inr (has_lost-now before e lost)) };
      served = λ well.
          let left = may.left in
          let made = kept.made in
          let none = count well in
          record {
            serving = subst (λ j. IsServing setup j rights_new.worker e.session) (sym joins.grown) (subst (λ v. IsServing setup (before ++ e ∷ []) v e.session) (joins.its ∙ sym kept.worker) (begun well).serving);
            known = subst (λ j. Knows setup j e.session None) (sym joins.grown) (fresh_known setup before e joins.others.run now (number well) joins.asks);
            left = omega (arith, left, made, none);
          };
      asks = count;
      lost = λ lost s v hung. sitting_lost service worker a b e s v joins lost hung;
      sat = λ well why c s v rest. sitting_opened service worker (openings_of before + 1) why a b c e s v joins (permitted setup worker a b e joins may.idle well) rest;
    }
