-- A worker's story, with one more session and with its last accept.
use Rattle.std.proofs.Common.{◌≡◌, ℕ, ◌+◌, ◌*◌, ◌<◌, ◌≤◌, Bool, true, false, cond, List, [], ◌∷◌, ◌++◌, length, map, Option, Some, None, refl, sym, ap, subst, ◌∙◌, append-nil, zero-add, arith}
use Rattle.std.specs.Option.{option_map_or}
use Rattle.std.specs.List.{AllByRecursion, flat_map}
use Rattle.std.proofs.lemmas.List.{map-append}
use Rattle.std.proofs.lemmas.List.Concat.{flat_map-append}
use Rattle.outside.specs.declared.faults.Faults.{Faults}
use Rattle.outside.specs.Faults.{NoneFell}
use Rattle.outside.specs.declared.act.Act.{Act}
use Rattle.outside.specs.declared.act.Act.TheVariants.{Accept}
use Rattle.outside.specs.declared.act.Accepted.TheVariants as accepted
use Rattle.outside.specs.declared.act.Talk.{Talk}
use Rattle.outside.specs.Scene.{Did, Played, Scene, came_count, is_coming}
use Rattle.outside.specs.Told.{Goes, Rose}
use Rattle.outside.proofs.Scenes.{Plays-none, Plays-then}
use Rattle.policy_model.specs.declared.event.Ask.{Ask}
use Rattle.policy_model.specs.declared.event.Ask.TheVariants as asks
use Rattle.policy_model.specs.declared.event.Event.{Event}
use Rattle.policy_model.specs.declared.event.Why.{Why}
use Rattle.policy_model.specs.declared.event.Why.TheVariants as whys
use Rattle.policy_model.specs.Asks.{is_lost}
use Rattle.service_model.specs.Ends.{is_keeper_end, is_link_end, is_lost_end}
use Rattle.service_model.specs.Places.{Step, step_acts, step_places}
use Rattle.service_model.specs.Service.{Service}
use Rattle.service_model.specs.Parts.{Part}
use Rattle.service_model.specs.Sittings.{Follows, IsSitting, Sitting, all_steps}
use Rattle.service_model.specs.Stories.{ArePlanned, IsPlanned, LastAccept, Unasked, last_acts, parts_of, story_acts, talk_of}
use Rattle.service_model.proofs.Ends.{keeper_requests, link_requests, lost_ends, lost_places, lost_requests}
use Rattle.service_model.proofs.Lists.{All-push, count-append, count-cons}
use Rattle.service_model.proofs.Losses.{GoesOnBehind}
use Rattle.service_model.proofs.Sittings.{later_steps, passes_end, passing}
use Rattle.service_model.proofs.Steps.{FailsRequests, acts-append, places-append}
use Rattle.service_model.proofs.Stories.{all_came, planned_more}
use Rattle.session_asking.specs.Serving.{Steps}
use Rattle.std.proofs.lemmas.Grind.{common_steps}
use Rattle.policy_model.specs.Runs.{IsIdle}
use Rattle.policy_model.specs.Settings.{Settings, quota_of}
use Rattle.session_turns.specs.Joins.{Rights}
use Rattle.session_loop.specs.Sessions.{EndHasCause, EndsFor, HasSitting, IsOver, MayOpen}
use Rattle.session_loop.specs.Stories.{EndsCounted, HasSittings, RoseBy, asks_among}
use Rattle.session_loop.proofs.EndLemmas.{Goes-weaker}
use Rattle.session_loop.proofs.Turning.{Steps-none, Steps-then}

-- the steps, acts, talks and unread bytes of sessions and one more
steps_more : (ss : List Sitting) (s : Sitting) → flat_map all_steps (ss ++ s ∷ []) ≡ flat_map all_steps ss ++ all_steps s
steps_more ss s = flat_map-append all_steps ss (s ∷ []) ∙ ap (λ xs. flat_map all_steps ss ++ xs) (append-nil (all_steps s))

parts_more : (ss : List Sitting) (s : Sitting) → parts_of (ss ++ s ∷ []) ≡ parts_of ss ++ s.parts
parts_more ss s = flat_map-append (λ x. x.parts) ss (s ∷ []) ∙ ap (λ xs. parts_of ss ++ xs) (append-nil s.parts)

acts_more : (ss : List Sitting) (s : Sitting) → story_acts (ss ++ s ∷ []) Unasked ≡ story_acts ss Unasked ++ step_acts (all_steps s)
acts_more ss s =
    append-nil (step_acts (flat_map all_steps (ss ++ s ∷ [])))
    ∙ ap step_acts (steps_more ss s)
    ∙ acts-append (flat_map all_steps ss) (all_steps s)
    ∙ ap (λ xs. xs ++ step_acts (all_steps s)) (sym (append-nil (step_acts (flat_map all_steps ss))))

-- no session yet
pub sittings_none : (service : Service) (worker : ℕ) (journal : List Event) (scene : Option Scene) → HasSittings service worker [] Unasked journal journal scene scene
sittings_none service worker journal scene = record {
  each = tt;
  steps = Steps-none worker journal;
  played = Plays-none scene;
  planned = Goes-weaker (Played [] [] []) (λ b a. ArePlanned b.plan (came_count b.acts) []) (λ b a h. tt) scene scene (Plays-none scene);
}

came_more : (service : Service) (ss : List Sitting) (b m n : Scene) (talks : List Talk) (unread : List (List ℕ)) → AllByRecursion (IsSitting service) ss → Played (story_acts ss Unasked) talks unread b m → Played (Accept accepted.Came ∷ []) [] [] m n → came_count n.acts ≡ came_count b.acts + length ss + 1
came_more service ss b m n talks unread each first second =
    let so_far : came_count m.acts ≡ came_count b.acts + length ss =
    ap came_count first.acts ∙ count-append is_coming b.acts (story_acts ss Unasked) ∙ ap (λ acts. came_count b.acts + came_count acts) (append-nil (step_acts (flat_map all_steps ss))) ∙ ap (λ k. came_count b.acts + k) (all_came service ss each) in
    let one : came_count n.acts ≡ came_count m.acts + 1 = ap came_count second.acts ∙ count-append is_coming m.acts (Accept accepted.Came ∷ []) in
    omega (arith, so_far, one)

planned_told : (service : Service) (ss : List Sitting) (s : Sitting) (b m n : Scene) (talks : List Talk) (unread : List (List ℕ)) → AllByRecursion (IsSitting service) ss → Played (story_acts ss Unasked) talks unread b m → ArePlanned b.plan (came_count b.acts) ss → Played (Accept accepted.Came ∷ []) [] [] m n → IsPlanned n.plan (came_count n.acts) s → ArePlanned b.plan (came_count b.acts) (ss ++ s ∷ [])
planned_told service ss s b m n talks unread each first are second is =
    let plan : n.plan ≡ b.plan = second.plan ∙ first.plan in
    let is' : IsPlanned b.plan (came_count b.acts + length ss + 1) s = subst (λ k. IsPlanned b.plan k s) (came_more service ss b m n talks unread each first second) (subst (λ p. IsPlanned p (came_count n.acts) s) plan is) in
    planned_more b.plan (came_count b.acts) ss s are is'

planned_all : (service : Service) (ss : List Sitting) (s : Sitting) (b m n a : Option Scene) (talks : List Talk) (unread : List (List ℕ)) → AllByRecursion (IsSitting service) ss → Goes (Played (story_acts ss Unasked) talks unread) b m → Goes (λ x y. ArePlanned x.plan (came_count x.acts) ss) b m → Did (Accept accepted.Came) m n → Goes (λ x y. IsPlanned x.plan (came_count x.acts) s) n a → Goes (λ x y. ArePlanned x.plan (came_count x.acts) (ss ++ s ∷ [])) b a
planned_all service ss s b m n None talks unread each first are second is = tt
planned_all service ss s b m None (Some a) talks unread each first are second is = absurd is
planned_all service ss s b None (Some n) (Some a) talks unread each first are second is = absurd second
planned_all service ss s None (Some m) (Some n) (Some a) talks unread each first are second is = absurd first
planned_all service ss s (Some b) (Some m) (Some n) (Some a) talks unread each first are second is = planned_told service ss s b m n talks unread each first are second is

-- a connection came, and one session more was served
pub sittings_more : (service : Service) (worker : ℕ) (ss : List Sitting) (why : Why) (a b c : List Event) (s t u v : Option Scene) → HasSittings service worker ss Unasked a b s t → Did (Accept accepted.Came) t u → (one : HasSitting service worker why b c u v) → HasSittings service worker (ss ++ one.sitting ∷ []) Unasked a c s v
sittings_more service worker ss why a b c s t u v have came one =
    let x = one.sitting in
    let unread : List Part → List (List ℕ) = λ parts. map (λ part. part.unread) parts in
    let talks : map talk_of (parts_of (ss ++ x ∷ [])) ≡ map talk_of (parts_of ss) ++ map talk_of x.parts = ap (map talk_of) (parts_more ss x) ∙ map-append talk_of (parts_of ss) x.parts in
    let remains : unread (parts_of (ss ++ x ∷ [])) ≡ unread (parts_of ss) ++ unread x.parts = ap unread (parts_more ss x) ∙ map-append (λ part. part.unread) (parts_of ss) x.parts in
    let acts : story_acts (ss ++ x ∷ []) Unasked ≡ story_acts ss Unasked ++ (Accept accepted.Came ∷ one.done) = acts_more ss x ∙ ap (λ xs. story_acts ss Unasked ++ xs) one.acts in
    let served : Goes (Played (Accept accepted.Came ∷ one.done) (map talk_of x.parts) (unread x.parts)) t v = Plays-then (Accept accepted.Came ∷ []) one.done [] (map talk_of x.parts) [] (unread x.parts) t u v came one.played in
    let all = Plays-then (story_acts ss Unasked) (Accept accepted.Came ∷ one.done) (map talk_of (parts_of ss)) (map talk_of x.parts) (unread (parts_of ss)) (unread x.parts) s t v have.played served in
    record {
      each = All-push (IsSitting service) ss x have.each one.is;
      steps = subst (λ steps. Steps worker steps a c) (sym (steps_more ss x)) (Steps-then worker (flat_map all_steps ss) (all_steps x) a b c have.steps one.steps);
      played = rw (acts, talks, remains) all;
      planned = planned_all service ss x s t u v (map talk_of (parts_of ss)) (unread (parts_of ss)) have.each have.played have.planned came one.planned;
    }

last_act : LastAccept → List Act → Type 0
last_act last done = last_acts last ≡ done

-- the last accept, by which no connection came
pub sittings_stopped : (service : Service) (worker : ℕ) (ss : List Sitting) (last : LastAccept) (act : Act) (a b : List Event) (s t u : Option Scene) → HasSittings service worker ss Unasked a b s t → Did act t u → last_acts last ≡ act ∷ [] → HasSittings service worker ss last a b s u
sittings_stopped service worker ss last act a b s t u have did is =
    let acts : story_acts ss Unasked ++ (act ∷ []) ≡ story_acts ss last = ap (λ xs. xs ++ act ∷ []) (append-nil (step_acts (flat_map all_steps ss))) ∙ ap (λ xs. step_acts (flat_map all_steps ss) ++ xs) (sym is) in
    let talks = map talk_of (parts_of ss) in
    let unread = map (λ part. part.unread) (parts_of ss) in
    let all = Plays-then (story_acts ss Unasked) (act ∷ []) talks [] unread [] s t u have.played did in
    let played : Goes (Played (story_acts ss last) talks unread) s u =
    subst (λ xs. Goes (Played xs talks unread) s u) acts (subst (λ xs. Goes (Played (story_acts ss Unasked ++ (act ∷ [])) xs unread) s u) (append-nil talks) (subst (λ xs. Goes (Played (story_acts ss Unasked ++ (act ∷ [])) (talks ++ []) xs) s u) (append-nil unread) all)) in
    record {
      each = have.each;
      steps = have.steps;
      played = played;
      planned = then_any ss s t u have.planned did;
    } where
      then_any : (ss : List Sitting) (s t u : Option Scene) → Goes (λ b a. ArePlanned b.plan (came_count b.acts) ss) s t → Did act t u → Goes (λ b a. ArePlanned b.plan (came_count b.acts) ss) s u
      then_any ss s t None p d = tt
      then_any ss s None (Some u) p d = absurd d
      then_any ss None (Some t) (Some u) p d = absurd p
      then_any ss (Some s) (Some t) (Some u) p d = p

-- counts that rise one after the other
pub RoseBy-then : (m n a b c : ℕ) → RoseBy m a b → RoseBy n b c → RoseBy (m + n) a c
RoseBy-then m n a b c first second = record { by = omega (arith, first.by, second.by) }

pub RoseBy-none : (a : ℕ) → RoseBy 0 a a
RoseBy-none a = record { by = omega arith }

ends_rise : (test : Ask → Bool) (why : Why) (before after : ℕ) → before ≤ after → (test (asks.End why) ≡ true → Rose before after) → RoseBy (cond (test (asks.End why)) 1 0) before after
ends_rise test why before after kept rose = go (test (asks.End why)) rose where
  go : (b : Bool) → (b ≡ true → Rose before after) → RoseBy (cond b 1 0) before after
  go true h = record { by = (h refl).rose }
  go false h = record { by = omega (arith, kept) }

-- a session's ends by a fault, as its one end tells
faults_of : (service : Service) (test : Ask → Bool) (s : Sitting) (why : Why) (before after : ℕ) → FailsRequests (λ e. test e.ask) → test asks.Begin ≡ false → IsSitting service s → EndsFor why s.ending → before ≤ after → (test (asks.End why) ≡ true → Rose before after) → RoseBy (asks_among test (step_places (all_steps s))) before after
faults_of service test s why before after fails begin is ended kept rose =
    let first : test s.opening.place.event.ask ≡ false = ap test is.begins.ask ∙ begin in
    subst (λ n. RoseBy n before after) (sym (passing service (λ e. test e.ask) s fails is ∙ ap (λ b. cond b 1 0 + passes_end (λ e. test e.ask) s.ending) first))
    (by_ending s.ending ended) where
      by_ending : (ending : Option Step) → EndsFor why ending → RoseBy (0 + passes_end (λ e. test e.ask) ending) before after
      by_ending None ended = record { by = omega (arith, kept) }
      by_ending (Some step) ended =
          let one : ℕ = cond (test step.place.event.ask) 1 0 in
          let same : 0 + one ≡ cond (test (asks.End why)) 1 0 = zero-add one ∙ ap (λ ask. cond (test ask) 1 0) ended in
          subst (λ n. RoseBy n before after) (sym same) (ends_rise test why before after kept rose)

is_link : (why : Why) → is_link_end (asks.End why) ≡ true → why ≡ whys.LinkFault
is_link whys.LinkFault h = refl
is_link whys.Finished h = absurd cc
is_link whys.ChildEnded h = absurd cc
is_link whys.Truncated h = absurd cc
is_link (whys.BadFrame len) h = absurd cc
is_link (whys.Violation rule) h = absurd cc
is_link whys.KeeperFault h = absurd cc
is_link whys.LogLost h = absurd cc

is_keeper : (why : Why) → is_keeper_end (asks.End why) ≡ true → why ≡ whys.KeeperFault
is_keeper whys.KeeperFault h = refl
is_keeper whys.Finished h = absurd cc
is_keeper whys.ChildEnded h = absurd cc
is_keeper whys.Truncated h = absurd cc
is_keeper (whys.BadFrame len) h = absurd cc
is_keeper (whys.Violation rule) h = absurd cc
is_keeper whys.LinkFault h = absurd cc
is_keeper whys.LogLost h = absurd cc

pub among-more : (test : Ask → Bool) (ss : List Sitting) (s : Sitting) → asks_among test (step_places (flat_map all_steps (ss ++ s ∷ []))) ≡ asks_among test (step_places (flat_map all_steps ss)) + asks_among test (step_places (all_steps s))
among-more test ss s =
    ap (λ steps. asks_among test (step_places steps)) (steps_more ss s)
    ∙ ap (asks_among test) (places-append (flat_map all_steps ss) (all_steps s))
    ∙ count-append (λ p. test p.event.ask) (step_places (flat_map all_steps ss)) (step_places (all_steps s))

-- a session that ended otherwise than by a loss leaves its worker to go on
not_lost : (why : Why) → (why ≡ whys.LogLost → ⊥) → is_lost_end (asks.End why) ≡ false
not_lost whys.LogLost other = absurd (other refl)
not_lost whys.Finished other = refl
not_lost whys.ChildEnded other = refl
not_lost whys.Truncated other = refl
not_lost (whys.BadFrame len) other = refl
not_lost (whys.Violation rule) other = refl
not_lost whys.KeeperFault other = refl
not_lost whys.LinkFault other = refl

pub goes_on_behind : (s : Sitting) (why : Why) → EndsFor why s.ending → (why ≡ whys.LogLost → ⊥) → GoesOnBehind s
goes_on_behind s why ended other = go s.ending ended where
  go : (ending : Option Step) → EndsFor why ending → option_map_or (λ e. is_lost_end e.place.event.ask) ending true ≡ false
  go None ended = absurd (other ended)
  go (Some step) ended = ap is_lost_end ended ∙ not_lost why other

pub counted_none : (f : Faults) → EndsCounted [] f f
counted_none f = record { link = RoseBy-none f.link; keeper = RoseBy-none f.keeper }

-- one session more, whose end has its cause
pub counted_more : (service : Service) (ss : List Sitting) (s : Sitting) (why : Why) (a b c : Faults) → EndsCounted ss a b → IsSitting service s → EndsFor why s.ending → EndHasCause why b c → EndsCounted (ss ++ s ∷ []) a c
counted_more service ss s why a b c counted is ended cause = record {
  link = subst (λ n. RoseBy n a.link c.link) (sym (among-more is_link_end ss s)) (RoseBy-then (asks_among is_link_end (step_places (flat_map all_steps ss))) (asks_among is_link_end (step_places (all_steps s))) a.link b.link c.link counted.link (faults_of service is_link_end s why b.link c.link link_requests refl is ended cause.kept.link (λ h. cause.link (is_link why h))));
  keeper = subst (λ n. RoseBy n a.keeper c.keeper) (sym (among-more is_keeper_end ss s)) (RoseBy-then (asks_among is_keeper_end (step_places (flat_map all_steps ss))) (asks_among is_keeper_end (step_places (all_steps s))) a.keeper b.keeper c.keeper counted.keeper (faults_of service is_keeper_end s why b.keeper c.keeper keeper_requests refl is ended cause.kept.keeper (λ h. cause.keeper (is_keeper why h))));
}

-- counts that did not fall leave what was counted
pub counted_kept : (ss : List Sitting) (a b c : Faults) → EndsCounted ss a b → NoneFell b c → EndsCounted ss a c
counted_kept ss a b c counted kept = record { link = record { by = omega (arith, counted.link.by, kept.link) }; keeper = record { by = omega (arith, counted.keeper.by, kept.keeper) } }

-- a session that ended because a decision was lost has one
lost_by_end : (service : Service) (s : Sitting) → IsSitting service s → EndsFor whys.LogLost s.ending → 1 ≤ lost_places (step_places (all_steps s))
lost_by_end service s is ended = go s.ending ended is.round refl where
  go : (ending : Option Step) → EndsFor whys.LogLost ending → Follows service s.opening s.parts ending → s.ending ≡ ending → 1 ≤ lost_places (step_places (all_steps s))
  go None ended round same =
      let all : lost_places (step_places (all_steps s)) ≡ cond (is_lost s.opening.place.event.decision) 1 0 + lost_places (step_places (later_steps s.parts s.ending)) =
      count-cons (λ p. is_lost p.event.decision) s.opening.place (step_places (later_steps s.parts s.ending)) in
      let first : ℕ = cond (is_lost s.opening.place.event.decision) 1 0 in
      let one : first ≡ 1 = ap (λ b. cond b 1 0) round.0 in
      omega (arith, all, one)
  go (Some step) ended round same =
      let count = passing service (λ e. is_lost_end e.ask) s lost_requests is in
      let last : ℕ = passes_end (λ e. is_lost_end e.ask) s.ending in
      let one : last ≡ 1 = ap (passes_end (λ e. is_lost_end e.ask)) same ∙ ap (λ ask. cond (is_lost_end ask) 1 0) ended in
      omega (arith, count, one, lost_ends service s is)

pub lost_more : (service : Service) (ss : List Sitting) (s : Sitting) → IsSitting service s → EndsFor whys.LogLost s.ending → 1 ≤ lost_places (step_places (flat_map all_steps (ss ++ s ∷ [])))
lost_more service ss s is ended =
    let all : lost_places (step_places (flat_map all_steps (ss ++ s ∷ []))) ≡ lost_places (step_places (flat_map all_steps ss)) + lost_places (step_places (all_steps s)) =
    ap (λ steps. lost_places (step_places steps)) (steps_more ss s) ∙ ap lost_places (places-append (flat_map all_steps ss) (all_steps s)) ∙ count-append (λ p. is_lost p.event.decision) (step_places (flat_map all_steps ss)) (step_places (all_steps s)) in
    omega (arith, all, lost_by_end service s is ended)

-- a session in the words of the worker that began
pub sitting_here : (service : Service) (worker : ℕ) (same : Service) (same_worker : ℕ) (why : Why) (a b : List Event) (s t : Option Scene) → same ≡ service → same_worker ≡ worker → HasSitting same same_worker why a b s t → HasSitting service worker why a b s t
sitting_here service worker same same_worker why a b s t is is_worker have =
    subst (λ n. HasSitting service n why a b s t) is_worker (subst (λ (x : Service). HasSitting x same_worker why a b s t) is have)

-- a worker that has served fewer sessions than it may has asks left for one more
room_left : (connections counter each first left : ℕ) → connections * each ≤ first → first ≤ left + counter * each → counter < connections → each ≤ left
room_left connections counter each first left quota spent below =
    let more : (counter + 1) * each ≤ connections * each = mul_le (counter + 1) connections each (omega (arith, below)) in
    let one : (counter + 1) * each ≡ counter * each + each = grind (arith, common_steps) in
    omega (arith, quota, spent, more, one) where
      mul_le : (a b c : ℕ) → a ≤ b → a * c ≤ b * c
      mul_le a b c h = grind (arith, common_steps)

pub may_open : (setup : Settings) (first rights : Rights) (seen : List Event) (counter : ℕ) → quota_of setup ≤ first.left → first.left ≤ rights.left + counter * (setup.requests + 3) → counter < setup.connections → IsOver setup first.worker seen → rights.worker ≡ first.worker → (same : Settings) → same ≡ setup → MayOpen same rights seen
may_open setup first rights seen counter quota spent below over worker same is =
    subst (λ s. MayOpen s rights seen) (sym is) (record {
      run = over.run;
      idle = subst (IsIdle seen) (sym worker) over.idle;
      left = room_left setup.connections counter (setup.requests + 3) first.left rights.left quota spent below;
    })
