-- One worker of a run, from a fresh post on.
use Rattle.std.proofs.Common.{◌≡◌, ◌≢◌, ℕ, ◌<◌, ◌≤◌, ◌++◌, true, false, List, [], length, map, Option, Some, None, inl, refl, sym, ap, subst, ◌∙◌, arith}
use Rattle.std.specs.Prelude.{IfSome}
use Rattle.std.specs.List.{flat_map}
use Rattle.outside.specs.declared.faults.Faults.{Faults}
use Rattle.outside.specs.Faults.{AreCounts}
use Rattle.outside.specs.Scene.{IsUnplayed, Played, Scene, came_count}
use Rattle.outside.specs.Told.{Goes}
use Rattle.policy_model.specs.declared.event.Event.{Event}
use Rattle.service_model.specs.Ends.{is_keeper_end, is_link_end}
use Rattle.service_model.specs.Places.{step_places, worker_places}
use Rattle.service_model.specs.Service.{Service}
use Rattle.service_model.specs.Sittings.{Sitting, all_steps}
use Rattle.service_model.specs.Stories.{AcceptFailed, ArePlanned, IsStory, LastAccept, NoAcceptBehindLoss, Unasked, parts_of, story_acts, talk_of}
use Rattle.service_model.proofs.Ends.{lost_places}
use Rattle.session_loop.specs.declared.worker.WorkerEnd.{WorkerEnd}
use Rattle.session_loop.specs.declared.worker.WorkerEnd.TheVariants as ends
use Rattle.policy_model.specs.Runs.{IsIdle}
use Rattle.session_loop.specs.Stories.{HasStory, MayServeAll, RoseBy, asks_among, is_accept_fault, last_of}
use Rattle.monitor_book.specs.declared.opened.Opened.{Opened}
use Rattle.policy_model.specs.Settings.{Settings, quota_of}
use Rattle.session_turns.specs.Passes.{BookPass, IsPassAt, OpenedBy, rights_of}
use Rattle.session_turns.proofs.Passes.{first_is}
use Rattle.turn_cell.specs.Facts.{CellFacts, first_pass}
use Rattle.monitor_run.specs.Ran.{WorkerRan}
use Rattle.monitor_run.specs.Workers.{IsReady}

-- what a fresh post tells after its worker ran
story_told : (sittings : List Sitting) (last : LastAccept) (before after : Option Scene) → IfSome before IsUnplayed → Goes (Played (story_acts sittings last) (map talk_of (parts_of sittings)) (map (λ part. part.unread) (parts_of sittings))) before after → Goes (λ b a. ArePlanned b.plan (came_count b.acts) sittings) before after → NoAcceptBehindLoss sittings last → IfSome after (IsStory sittings last)
story_told sittings last before None fresh played planned halted = tt
story_told sittings last None (Some a) fresh played planned halted = absurd played
story_told sittings last (Some b) (Some a) fresh played planned halted = record {
  acts = played.acts ∙ ap (λ acts. acts ++ story_acts sittings last) fresh.acts;
  talks = played.talks ∙ ap (λ talks. talks ++ map talk_of (parts_of sittings)) fresh.talks;
  unread = played.unread ∙ ap (λ unread. unread ++ map (λ part. part.unread) (parts_of sittings)) fresh.unread;
  planned = subst (λ n. ArePlanned a.plan n sittings) (ap came_count fresh.acts) (subst (λ plan. ArePlanned plan (came_count b.acts) sittings) (sym played.plan) planned);
  halted = halted;
}

-- a post that tells keeps its plan
abbrev pub PlanStays : Option Scene → Option Scene → Type 0
PlanStays before after = Goes (λ b a. a.plan ≡ b.plan) before after

pub plan_stays : (sittings : List Sitting) (last : LastAccept) (before after : Option Scene) → Goes (Played (story_acts sittings last) (map talk_of (parts_of sittings)) (map (λ part. part.unread) (parts_of sittings))) before after → PlanStays before after
plan_stays sittings last before None played = tt
plan_stays sittings last None (Some a) played = played
plan_stays sittings last (Some b) (Some a) played = played.plan

by_end : (connections : ℕ) (end : WorkerEnd) (sittings : List Sitting) (lost : ℕ) → last_of end ≡ Unasked → lost ≡ 0 → (end ≡ ends.AllServed → length sittings ≡ connections) → (end ≡ ends.LogLost → 1 ≤ lost) → length sittings ≡ connections
by_end connections ends.AllServed sittings lost last none all some = all refl
by_end connections ends.NoMore sittings lost last none all some = absurd cc
by_end connections ends.AcceptFault sittings lost last none all some = absurd cc
by_end connections ends.LogLost sittings lost last none all some = absurd (omega (arith, none, some refl))

failed_end : (end : WorkerEnd) → last_of end ≡ AcceptFailed → end ≡ ends.AcceptFault
failed_end ends.AcceptFault last = refl
failed_end ends.AllServed last = absurd cc
failed_end ends.NoMore last = absurd cc
failed_end ends.LogLost last = absurd cc

pub fault_end : (end : WorkerEnd) → is_accept_fault end ≡ true → last_of end ≡ AcceptFailed
fault_end ends.AcceptFault h = refl
fault_end ends.AllServed h = absurd cc
fault_end ends.NoMore h = absurd cc
fault_end ends.LogLost h = absurd cc

pub no_fault_end : (end : WorkerEnd) → is_accept_fault end ≡ false → last_of end ≢ AcceptFailed
no_fault_end ends.AcceptFault h e = absurd cc
no_fault_end ends.AllServed h e = absurd cc
no_fault_end ends.NoMore h e = absurd cc
no_fault_end ends.LogLost h e = absurd cc

-- what one worker did that had seen nothing, and whose post was fresh
pub worker_ran : (service : Service) (worker : ℕ) (end : WorkerEnd) (seen : List Event) (before after : Option Scene) (faults_old faults_new : Faults) → HasStory service worker end [] seen before after faults_old faults_new → IfSome before IsUnplayed → faults_old.link ≡ 0 → faults_old.keeper ≡ 0 → (end ≡ ends.AcceptFault → 0 < faults_new.accept) → WorkerRan service (last_of end) (worker_places seen worker) after faults_new
worker_ran service worker end seen before after faults_old faults_new story fresh no_link no_keeper failed =
    let steps = step_places (flat_map all_steps story.sittings) in
    let places : worker_places seen worker ≡ steps = story.are.steps.own in
    record {
      sittings = story.sittings;
      each = story.are.each;
      all = places;
      alone = story.alone;
      story = story_told story.sittings (last_of end) before after fresh story.are.played story.are.planned story.halted;
      quota = λ last none. by_end service.setup.connections end story.sittings (lost_places steps) last (sym (ap lost_places places) ∙ none) story.all story.lost;
      failed = λ last. failed (failed_end end last);
      link = subst (λ ps. RoseBy (asks_among is_link_end ps) 0 faults_new.link) (sym places) (subst (λ n. RoseBy (asks_among is_link_end steps) n faults_new.link) no_link story.counted.link);
      keeper = subst (λ ps. RoseBy (asks_among is_keeper_end ps) 0 faults_new.keeper) (sym places) (subst (λ n. RoseBy (asks_among is_keeper_end steps) n faults_new.keeper) no_keeper story.counted.keeper);
    }

-- a pass of the same setup and of the same place
pub at_same : (s t : Settings) (p q : CellFacts (Option Opened)) (pass : BookPass) → s ≡ t → p ≡ q → IsPassAt s p pass → IsPassAt t q pass
at_same s t p q pass is same at = subst (λ x. IsPassAt t x pass) same (subst (λ x. IsPassAt x p pass) is at)

-- a pass that has seen nothing is ready, where nothing was asked of its post
pub is_ready : (setup : Settings) (place : CellFacts (Option Opened)) (pass : BookPass) (scene : Option Scene) (faults : Faults) (number : ℕ) → OpenedBy setup place.terms → place.quota ≡ quota_of setup → number < setup.workers → pass ≡ first_pass place number → IfSome scene IsUnplayed → AreCounts 0 0 0 0 0 faults → IsReady setup place pass scene faults
is_ready setup place pass scene faults number opened quota below first unplayed faultless = subst (λ p. IsReady setup place p scene faults) (sym first) (record {
  at = first_is setup place number opened below;
  unseen = refl;
  left = omega (arith, quota);
  unplayed = unplayed;
  faultless = faultless;
})

-- so its worker may serve
pub may_serve_all : (setup same : Settings) (place : CellFacts (Option Opened)) (pass : BookPass) (scene : Option Scene) (faults : Faults) → same ≡ setup → IsReady setup place pass scene faults → MayServeAll same (rights_of pass) pass.seen
may_serve_all setup same place pass scene faults is ready = subst (λ s. MayServeAll s (rights_of pass) pass.seen) (sym is) (record {
  run = ready.at.run;
  idle = subst (λ seen. IsIdle seen pass.number) (sym ready.unseen) (inl refl);
  left = ready.left;
})
