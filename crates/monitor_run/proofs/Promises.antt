-- All that a run promises, from what its workers did and what its book keeps.
use Rattle.std.proofs.Common.{◌≡◌, ℕ, ◌≤◌, Bool, true, false, List, [], length, map, Option, Some, sym, ap, subst, ◌∙◌}
use Rattle.std.specs.Prelude.{IfSome, None, slice_get}
use Rattle.std.proofs.lemmas.List.{length-map}
use Rattle.std.specs.List.{AllByRecursion}
use Rattle.decision_log.specs.Typed.{IsTyped}
use Rattle.monitor_book.specs.declared.opened.Held.{Held}
use Rattle.monitor_book.specs.declared.opened.Opened.{Opened}
use Rattle.monitor_book.specs.Kept.{BookParts, IsBook}
use Rattle.monitor_book.specs.Lines.{LogMatches, decided_in}
use Rattle.outside.specs.declared.faults.Faults.{Faults}
use Rattle.outside.specs.Scene.{CountsAsTold, Scene}
use Rattle.outside.specs.Told.{Rose}
use Rattle.policy_laws.proofs.Alike.{shows_no_accounts}
use Rattle.policy_model.specs.declared.event.Event.{Event}
use Rattle.policy_model.specs.Journal.{has_lost}
use Rattle.policy_model.specs.Runs.{IsRun}
use Rattle.policy_model.specs.Settings.{IsInRange, Settings}
use Rattle.service_model.specs.Service.{Service}
use Rattle.session_core.specs.Parts.{setup_of}
use Rattle.session_core.proofs.ReplayLemmas.{consequences}
use Rattle.session_turns.specs.Passes.{opened_of}
use Rattle.monitor_run.specs.Headline.{KeepsNumbers, RunPromises}
use Rattle.monitor_run.specs.Posts.{PostNow, seen}
use Rattle.monitor_run.specs.Ran.{AllCountAsTold, RunEnded}
use Rattle.monitor_run.proofs.Headline.{conversations_match, ends_of_links, ends_of_starts, no_accept_failed, runs_to_quota, sessions_in_order, some_accept_failed, unfaulted, users_served}
use Rattle.monitor_run.proofs.Seen.{each_seen}

-- what the book of a run keeps, by what was fixed of it
pub record BookSays (setup : Settings) (journal : List Event) (held_old held_new : Held) (log_old log_new : ℕ) : Type 0 where
  pub in_range : IsInRange setup
  pub run : IsRun setup journal
  pub typed : AllByRecursion IsTyped (decided_in setup journal)
  pub lines : LogMatches setup journal held_old held_new
  pub rose : has_lost journal ≡ true → Rose log_old log_new
  pub kept : has_lost journal ≡ false → log_new ≡ log_old

pub book_says : (setup : Settings) (book : BookParts) (held : Held) (faults : ℕ) → IsBook book → Some (record { setup = setup; held = held; faults = faults }) ≡ Some (opened_of book) → BookSays setup book.journal held book.held faults book.faults
book_says setup book held faults is told =
    let same : record { setup = setup; held = held; faults = faults } ≡ opened_of book = once _ _ told in
    subst (λ (o : Opened). BookSays o.setup book.journal o.held book.held o.faults book.faults) (sym same) (record { in_range = is.history.in_range; run = is.history.run; typed = is.history.typed; lines = is.logged.lines; rose = is.logged.rose; kept = is.logged.kept })
  where
    once : (a b : Opened) → Some a ≡ Some b → a ≡ b
    once a b e = cc

-- the setup of a book is that which was fixed of it
pub book_setup : (opened : Opened) (book : BookParts) → Some opened ≡ Some (opened_of book) → opened.setup ≡ setup_of book.core
book_setup opened book told = cc

pub run_promises : {P : Type 0} (service : Service) (failed : Bool) (journal : List Event) (posts : List P) (scene : P → Option Scene) (faults : P → Faults) (held_old held_new : Held) (log_old log_new : ℕ) → RunEnded service failed journal posts scene faults → BookSays service.setup journal held_old held_new log_old log_new → length journal ≤ 1048576 → length posts ≡ service.setup.workers → AllCountAsTold scene faults posts → RunPromises service failed journal (map (seen scene faults) posts) held_old held_new log_old log_new
run_promises service failed journal posts scene faults held_old held_new log_old log_new ended says few one_each counted =
    record {
      legal = record { legal = says.run.legal; proper = says.run.proper; workers = says.run.workers; few = few };
      sessions = sessions_in_order service failed journal posts scene faults ended;
      conversations = conversations_match service failed journal posts scene faults ended;
      log = says.lines;
      consequences = consequences service.setup journal says.run.legal;
      unseen = shows_no_accounts service.setup journal says.run.legal;
      quota = runs_to_quota service failed journal posts scene faults ended;
      numbers = record {
        typed = says.typed;
        counted = each_seen scene faults posts (λ worker post. IfSome post.scene (λ s. CountsAsTold s post.faults)) counted.each;
        link = ends_of_links service failed journal posts scene faults ended few;
        keeper = ends_of_starts service failed journal posts scene faults ended few;
      };
      one_each = length-map posts (seen scene faults) ∙ one_each;
      lost = says.rose;
      kept = says.kept;
      accept_failed = some_accept_failed service failed journal posts scene faults ended;
      accepted = no_accept_failed service failed journal posts scene faults ended;
      unfaulted = unfaulted service failed journal posts scene faults ended says.run.legal few says.in_range;
      users = users_served service failed journal posts scene faults ended says.run.legal few says.in_range;
    }

-- a run of no event and no post
pub numbers_none : (setup : Settings) (journal : List Event) (posts : List PostNow) → journal ≡ [] → posts ≡ [] → KeepsNumbers setup journal posts
numbers_none setup journal posts events none = record {
  typed = subst (λ j. AllByRecursion IsTyped (decided_in setup j)) (sym events) tt;
  counted = λ worker post is. no_post worker post is;
  link = λ worker post is. no_post worker post is;
  keeper = λ worker post is. no_post worker post is;
} where
  no_post : {X : Type 0} (worker : ℕ) (post : PostNow) → slice_get posts worker ≡ Some post → X
  no_post worker post is = absurd (let e : None ≡ Some post = sym (ap (λ ps. slice_get ps worker) none) ∙ is in cc)

-- the same under the names of what was handed out
pub run_told : {P : Type 0} (scene : P → Option Scene) (faults : P → Faults) {service service' : Service} {failed failed' : Bool} {journal journal' : List Event} {posts posts' : List P} {held held_new held_new' : Held} {log log_new log_new' : ℕ} → service' ≡ service → failed' ≡ failed → journal' ≡ journal → posts' ≡ posts → held_new' ≡ held_new → log_new' ≡ log_new → RunPromises service failed journal (map (seen scene faults) posts) held held_new log log_new → RunPromises service' failed' journal' (map (seen scene faults) posts') held held_new' log log_new'
run_told {P} scene faults {service} {service'} {failed} {failed'} {journal} {journal'} {posts} {posts'} {held} {held_new} {held_new'} {log} {log_new} {log_new'} s f j p h l is =
    subst (λ s. RunPromises s failed' journal' (map (seen scene faults) posts') held held_new' log log_new') (sym s)
    (subst (λ b. RunPromises service b journal' (map (seen scene faults) posts') held held_new' log log_new') (sym f)
    (subst (λ es. RunPromises service failed es (map (seen scene faults) posts') held held_new' log log_new') (sym j)
    (subst (λ ps. RunPromises service failed journal (map (seen scene faults) ps) held held_new' log log_new') (sym p)
    (subst (λ o. RunPromises service failed journal (map (seen scene faults) posts) held o log log_new') (sym h)
    (subst (λ n. RunPromises service failed journal (map (seen scene faults) posts) held held_new log n) (sym l) is)))))
