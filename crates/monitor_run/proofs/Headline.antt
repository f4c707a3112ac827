-- The parts of the headline, from what the workers of a run did.
use Rattle.std.proofs.Common.{◌≡◌, ◌≢◌, ℕ, zero, suc, ◌+◌, ◌≤◌, Bool, true, false, ◌||◌, ◌&&◌, cond, eqb, List, [], ◌∷◌, ◌++◌, length, map, Option, Some, None, refl, sym, ap, subst, ◌∙◌, append-nil, count_by, eq-eqb, arith}
use Rattle.std.specs.Prelude.{IfSome, slice_get}
use Rattle.std.specs.List.{AllByRecursion, flat_map, last_or, list_any}
use Rattle.std.specs.Option.{option_map_or}
use Rattle.std.proofs.lemmas.List.Folds.{list_any-append}
use Rattle.std.proofs.lemmas.List.Sums.{count_by-le-length}
use Rattle.outside.specs.declared.act.Act.{Act}
use Rattle.outside.specs.declared.act.Act.TheVariants as acts
use Rattle.outside.specs.declared.act.Accepted.TheVariants as accepted
use Rattle.outside.specs.declared.faults.Faults.{Faults}
use Rattle.outside.specs.Scene.{Scene, is_failed_accept}
use Rattle.policy_model.specs.declared.event.Ask.{Ask}
use Rattle.policy_model.specs.declared.event.Event.{Event}
use Rattle.policy_model.specs.Asks.{is_lost, opens}
use Rattle.policy_model.specs.Journal.{Place, has_lost}
use Rattle.policy_model.specs.Legal.{IsLegal}
use Rattle.policy_model.specs.Settings.{IsInRange}
use Rattle.policy_model.specs.declared.ranges.TheConstants.{EVENTS_LIMIT}
use Rattle.policy_model.proofs.Lists.{last_or-push}
use Rattle.service_model.specs.Ends.{is_fault_end, is_keeper_end, is_link_end, is_lost_end}
use Rattle.service_model.specs.Places.{step_acts, worker_places}
use Rattle.service_model.specs.Service.{Service}
use Rattle.service_model.specs.Sittings.{AreSittingsOf, IsSitting, Sitting, all_steps}
use Rattle.service_model.specs.Stories.{AcceptFailed, IsStory, LastAccept, NoneLeft, Unasked, is_stop, story_acts}
use Rattle.service_model.proofs.Answered.{all_answered}
use Rattle.service_model.proofs.Ends.{lost_places}
use Rattle.service_model.proofs.Lists.{any-none, count-any, count-cons, count-none}
use Rattle.service_model.proofs.Places.{count_of-places}
use Rattle.service_model.proofs.Stories.{all_lost_ends, all_opened, never_stopped}
use Rattle.session_loop.specs.Stories.{RoseBy, asks_among}
use Rattle.monitor_run.specs.Headline.{ConversationsMatch, IsFaultless, RunsToQuota, ServesUsers, SessionsInOrder, SomeAcceptFailed, ends_by, ends_by_accept_fault, lost_by, openings_by}
use Rattle.monitor_run.specs.Posts.{EachPost, EachScene, seen}
use Rattle.monitor_run.specs.Ran.{RunEnded, WorkerRan}
use Rattle.monitor_run.proofs.Seen.{each_seen, seen_stands}
use Rattle.welcome_laws.proofs.Welcomed.{users_are_served, users_get_in}

-- ---- what the worker of each post did

get_past : {P : Type 0} (posts : List P) (k : ℕ) → slice_get posts k ≡ None → length posts ≤ k
get_past [] k h = omega arith
get_past (p ∷ ps) zero h = absurd cc
get_past (p ∷ ps) (suc k) h = omega (arith, get_past ps k h)

IfSome-weaker : {X : Type 0} (o : Option X) (P Q : X → Type 0) → ((x : X) → P x → Q x) → IfSome o P → IfSome o Q
IfSome-weaker None P Q weaker h = tt
IfSome-weaker (Some x) P Q weaker h = weaker x h

-- what a worker did is some sessions, which are all its events
sittings_of : (service : Service) (last : LastAccept) (journal : List Event) (worker : ℕ) (scene : Option Scene) (faults : Faults) → (ran : WorkerRan service last (worker_places journal worker) scene faults) → AreSittingsOf service journal worker ran.sittings
sittings_of service last journal worker scene faults ran = record { places = ran.all; each = ran.each; alone = ran.alone }

pub sessions_in_order : {P : Type 0} (service : Service) (failed : Bool) (journal : List Event) (posts : List P) (scene : P → Option Scene) (faults : P → Faults) → RunEnded service failed journal posts scene faults → SessionsInOrder service journal
sessions_in_order {P} service failed journal posts scene faults run = record { in_order = λ worker. go worker (slice_get posts worker) refl } where
  go : (worker : ℕ) (o : Option P) → slice_get posts worker ≡ o → (sittings : List Sitting) × AreSittingsOf service journal worker sittings
  go worker None is = ([], record { places = run.unbegun worker (get_past posts worker is); each = tt; alone = tt })
  go worker (Some post) is =
      let did = run.each worker post is in
      (did.2.sittings, sittings_of service did.0 journal worker (scene post) (faults post) did.2)

pub conversations_match : {P : Type 0} (service : Service) (failed : Bool) (journal : List Event) (posts : List P) (scene : P → Option Scene) (faults : P → Faults) → RunEnded service failed journal posts scene faults → ConversationsMatch service journal (map (seen scene faults) posts)
conversations_match service failed journal posts scene faults run = record {
  held = each_seen scene faults posts (λ worker post. IfSome post.scene (λ s. (sittings : List Sitting) × (last : LastAccept) × AreSittingsOf service journal worker sittings × IsStory sittings last s)) (λ worker post is.
      let did = run.each worker post is in
      IfSome-weaker (scene post) (IsStory did.2.sittings did.0) (λ s. (sittings : List Sitting) × (last : LastAccept) × AreSittingsOf service journal worker sittings × IsStory sittings last s)
      (λ s story. (did.2.sittings, did.0, sittings_of service did.0 journal worker (scene post) (faults post) did.2, story)) did.2.story);
}

-- ---- accepts by which no connection came

stop_behind : (done : List Act) (act : Act) → is_stop act ≡ true → list_any is_stop (done ++ act ∷ []) ≡ true
stop_behind done act h = list_any-append is_stop done (act ∷ []) ∙ go (list_any is_stop done) (is_stop act) h where
  go : (a b : Bool) → b ≡ true → (a || (b || false)) ≡ true
  go true b h = refl
  go false b h = ap (λ c. c || false) h

unstopped : (sittings : List Sitting) (last : LastAccept) (done : List Act) → done ≡ story_acts sittings last → list_any is_stop done ≡ false → last ≡ Unasked
unstopped sittings Unasked done is none = refl
unstopped sittings NoneLeft done is none = absurd (let e : true ≡ false = sym (ap (list_any is_stop) is ∙ stop_behind (step_acts (flat_map all_steps sittings)) (acts.Accept accepted.NoneLeft) refl) ∙ none in cc)
unstopped sittings AcceptFailed done is none = absurd (let e : true ≡ false = sym (ap (list_any is_stop) is ∙ stop_behind (step_acts (flat_map all_steps sittings)) (acts.Accept accepted.Failed) refl) ∙ none in cc)

failed_stops : (act : Act) → is_stop act ≡ false → is_failed_accept act ≡ false
failed_stops (acts.Accept accepted.Came) h = refl
failed_stops (acts.Accept accepted.NoneLeft) h = refl
failed_stops (acts.Accept accepted.Failed) h = absurd cc
failed_stops (acts.Start role outcome) h = refl
failed_stops (acts.Finish role) h = refl
failed_stops acts.HangUp h = refl
failed_stops (acts.ConnRecv max outcome) h = refl
failed_stops (acts.ConnSend bytes outcome) h = refl
failed_stops (acts.VaultRead uid name offset max outcome) h = refl
failed_stops (acts.VaultWrite uid name offset bytes outcome) h = refl
failed_stops (acts.Clock moment) h = refl

-- the last act, where there is one, is an accept that failed
abbrev is_fault : Option Act → Bool
is_fault o = option_map_or is_failed_accept o false

last_unfailed : (o : Option Act) (done : List Act) → is_fault o ≡ false → list_any is_stop done ≡ false → is_fault (last_or o done) ≡ false
last_unfailed o [] first none = first
last_unfailed o (act ∷ rest) first none = go (is_stop act) none (failed_stops act) (last_unfailed (Some act) rest) where
  go : (b : Bool) → (b || list_any is_stop rest) ≡ false → (b ≡ false → is_failed_accept act ≡ false) → (is_failed_accept act ≡ false → list_any is_stop rest ≡ false → is_fault (last_or (Some act) rest) ≡ false) → is_fault (last_or (Some act) rest) ≡ false
  go true none stops later = absurd cc
  go false none stops later = later (stops refl) none

-- the last act of a story is a failed accept just where the story says so
no_failed_accept : (service : Service) (sittings : List Sitting) (last : LastAccept) (s : Scene) → AllByRecursion (IsSitting service) sittings → last ≢ AcceptFailed → s.acts ≡ story_acts sittings last → ends_by_accept_fault s ≡ false
no_failed_accept service sittings Unasked s each ne is =
    let done = step_acts (flat_map all_steps sittings) in
    ap (λ done. is_fault (last_or None done)) (is ∙ append-nil done) ∙ last_unfailed None done refl (any-none is_stop done (never_stopped service sittings each))
no_failed_accept service sittings NoneLeft s each ne is =
    ap (λ done. is_fault (last_or None done)) is ∙ ap is_fault (last_or-push None (step_acts (flat_map all_steps sittings)) (acts.Accept accepted.NoneLeft))
no_failed_accept service sittings AcceptFailed s each ne is = absurd (ne refl)

failed_accept : (sittings : List Sitting) (s : Scene) → s.acts ≡ story_acts sittings AcceptFailed → ends_by_accept_fault s ≡ true
failed_accept sittings s is =
    ap (λ done. is_fault (last_or None done)) is ∙ ap is_fault (last_or-push None (step_acts (flat_map all_steps sittings)) (acts.Accept accepted.Failed))

pub some_accept_failed : {P : Type 0} (service : Service) (failed : Bool) (journal : List Event) (posts : List P) (scene : P → Option Scene) (faults : P → Faults) → RunEnded service failed journal posts scene faults → failed ≡ true → SomeAcceptFailed (map (seen scene faults) posts)
some_accept_failed service failed journal posts scene faults run h =
    let one = run.one h in
    record {
      worker = one.0;
      post = seen scene faults one.1;
      stands = seen_stands scene faults posts one.0 one.1 one.2;
      counted = one.3.failed refl;
      told = IfSome-weaker (scene one.1) (IsStory one.3.sittings AcceptFailed) (λ s. ends_by_accept_fault s ≡ true) (λ s story. failed_accept one.3.sittings s story.acts) one.3.story;
    }

pub no_accept_failed : {P : Type 0} (service : Service) (failed : Bool) (journal : List Event) (posts : List P) (scene : P → Option Scene) (faults : P → Faults) → RunEnded service failed journal posts scene faults → failed ≡ false → EachScene (map (seen scene faults) posts) (λ worker s. ends_by_accept_fault s ≡ false)
no_accept_failed service failed journal posts scene faults run h = each_seen scene faults posts (λ worker post. IfSome post.scene (λ s. ends_by_accept_fault s ≡ false)) (λ worker post is.
    let did = run.each worker post is in
    IfSome-weaker (scene post) (IsStory did.2.sittings did.0) (λ s. ends_by_accept_fault s ≡ false) (λ s story. no_failed_accept service did.2.sittings did.0 s did.2.each (did.1 h) story.acts) did.2.story)

-- ---- the length of the run

lost_none : (journal : List Event) (worker : ℕ) → lost_by journal worker ≡ false → lost_places (worker_places journal worker) ≡ 0
lost_none journal worker none =
    sym (count_of-places (λ e. is_lost e.decision) worker journal) ∙ count-any (λ e. eqb e.worker worker && is_lost e.decision) journal none

quota_told : (service : Service) (journal : List Event) (worker : ℕ) (last : LastAccept) (scene : Option Scene) (faults : Faults) (s : Scene) → (ran : WorkerRan service last (worker_places journal worker) scene faults) → IsStory ran.sittings last s → list_any is_stop s.acts ≡ false → lost_by journal worker ≡ false → openings_by journal worker ≡ service.setup.connections
quota_told service journal worker last scene faults s ran story unstop kept =
    let none = lost_none journal worker kept in
    let all = ran.quota (unstopped ran.sittings last s.acts story.acts unstop) none in
    count_of-places opens worker journal ∙ ap (count_by (λ p. opens p.event)) ran.all ∙ all_opened service ran.sittings ran.each (sym (ap lost_places ran.all) ∙ none) ∙ all

pub runs_to_quota : {P : Type 0} (service : Service) (failed : Bool) (journal : List Event) (posts : List P) (scene : P → Option Scene) (faults : P → Faults) → RunEnded service failed journal posts scene faults → RunsToQuota service.setup journal (map (seen scene faults) posts)
runs_to_quota service failed journal posts scene faults run = record {
  quota = each_seen scene faults posts (λ worker post. IfSome post.scene (λ s. list_any is_stop s.acts ≡ false → lost_by journal worker ≡ false → openings_by journal worker ≡ service.setup.connections)) (λ worker post is.
      let did = run.each worker post is in
      IfSome-weaker (scene post) (IsStory did.2.sittings did.0) (λ s. list_any is_stop s.acts ≡ false → lost_by journal worker ≡ false → openings_by journal worker ≡ service.setup.connections)
      (λ s story unstop kept. quota_told service journal worker did.0 (scene post) (faults post) s did.2 story unstop kept) did.2.story);
}

-- ---- the ends by a fault

ends_counted : (test : Ask → Bool) (journal : List Event) (worker count : ℕ) → RoseBy (asks_among test (worker_places journal worker)) 0 count → length journal ≤ 1048576 → ends_by test journal worker ≤ count
ends_counted test journal worker count rose few =
    let same : ends_by test journal worker ≡ asks_among test (worker_places journal worker) = count_of-places (λ e. test e.ask) worker journal in
    let le : ends_by test journal worker ≤ length journal = count_by-le-length (λ e. eqb e.worker worker && test e.ask) journal in
    omega (arith, same, le, few, rose.by)

pub ends_of_links : {P : Type 0} (service : Service) (failed : Bool) (journal : List Event) (posts : List P) (scene : P → Option Scene) (faults : P → Faults) → RunEnded service failed journal posts scene faults → length journal ≤ 1048576 → EachPost (map (seen scene faults) posts) (λ worker post. ends_by is_link_end journal worker ≤ post.faults.link)
ends_of_links service failed journal posts scene faults run few =
    each_seen scene faults posts (λ worker post. ends_by is_link_end journal worker ≤ post.faults.link) (λ worker post is. ends_counted is_link_end journal worker (faults post).link (run.each worker post is).2.link few)

pub ends_of_starts : {P : Type 0} (service : Service) (failed : Bool) (journal : List Event) (posts : List P) (scene : P → Option Scene) (faults : P → Faults) → RunEnded service failed journal posts scene faults → length journal ≤ 1048576 → EachPost (map (seen scene faults) posts) (λ worker post. ends_by is_keeper_end journal worker ≤ post.faults.keeper)
ends_of_starts service failed journal posts scene faults run few =
    each_seen scene faults posts (λ worker post. ends_by is_keeper_end journal worker ≤ post.faults.keeper) (λ worker post is. ends_counted is_keeper_end journal worker (faults post).keeper (run.each worker post is).2.keeper few)

-- ---- completeness

-- a test that no worker's events pass is passed by none
none_by_worker : (test : Event → Bool) (journal : List Event) → ((worker : ℕ) → count_by (λ e. eqb e.worker worker && test e) journal ≡ 0) → list_any test journal ≡ false
none_by_worker test [] none = refl
none_by_worker test (e ∷ es) none =
    let same : eqb e.worker e.worker ≡ true = eq-eqb e.worker e.worker refl in
    let own : cond (test e) 1 0 + count_by (λ x. eqb x.worker e.worker && test x) es ≡ 0 =
    ap (λ b. cond (b && test e) 1 0 + count_by (λ x. eqb x.worker e.worker && test x) es) (sym same) ∙ sym (count-cons (λ x. eqb x.worker e.worker && test x) e es) ∙ none e.worker in
    let later = none_by_worker test es (λ worker. let both = count-cons (λ x. eqb x.worker worker && test x) e es in omega (arith, both, none worker)) in
    go (test e) own later where
      go : (b : Bool) → cond b 1 0 + count_by (λ x. eqb x.worker e.worker && test x) es ≡ 0 → list_any test es ≡ false → (b || list_any test es) ≡ false
      go true own later = absurd (omega (arith, own))
      go false own later = later

faults_split : (places : List Place) → asks_among is_fault_end places ≤ asks_among is_link_end places + asks_among is_keeper_end places + asks_among is_lost_end places
faults_split [] = omega arith
faults_split (p ∷ ps) =
    let all = count-cons (λ x. is_fault_end x.event.ask) p ps in
    let link = count-cons (λ x. is_link_end x.event.ask) p ps in
    let keeper = count-cons (λ x. is_keeper_end x.event.ask) p ps in
    let lost = count-cons (λ x. is_lost_end x.event.ask) p ps in
    let one : cond (is_fault_end p.event.ask) 1 0 ≤ cond (is_link_end p.event.ask) 1 0 + cond (is_keeper_end p.event.ask) 1 0 + cond (is_lost_end p.event.ask) 1 0 = go (is_link_end p.event.ask) (is_keeper_end p.event.ask) (is_lost_end p.event.ask) in
    omega (arith, all, link, keeper, lost, one, faults_split ps) where
      go : (a b c : Bool) → cond (a || b || c) 1 0 ≤ cond a 1 0 + cond b 1 0 + cond c 1 0
      go true b c = omega arith
      go false true c = omega arith
      go false false true = omega arith
      go false false false = omega arith

lost_all : (journal : List Event) (worker : ℕ) → has_lost journal ≡ false → lost_places (worker_places journal worker) ≡ 0
lost_all journal worker none =
    sym (count_of-places (λ e. is_lost e.decision) worker journal)
    ∙ count-none (λ e. eqb e.worker worker && is_lost e.decision) (λ e. is_lost e.decision) journal (λ e. weaker (eqb e.worker worker) (is_lost e.decision)) (count-any (λ e. is_lost e.decision) journal none) where
      weaker : (a b : Bool) → (a && b) ≡ true → b ≡ true
      weaker true b h = h
      weaker false b h = absurd cc

none_rose : (n : ℕ) (count : ℕ) → RoseBy n 0 count → count ≡ 0 → n ≡ 0
none_rose n count rose none = omega (arith, rose.by, none)

no_fault_ends : {P : Type 0} (service : Service) (failed : Bool) (journal : List Event) (posts : List P) (scene : P → Option Scene) (faults : P → Faults) → RunEnded service failed journal posts scene faults → has_lost journal ≡ false → ((worker : ℕ) (post : P) → slice_get posts worker ≡ Some post → IsFaultless (seen scene faults post)) → (worker : ℕ) → asks_among is_fault_end (worker_places journal worker) ≡ 0
no_fault_ends {P} service failed journal posts scene faults run kept faultless worker = go (slice_get posts worker) refl where
  go : (o : Option P) → slice_get posts worker ≡ o → asks_among is_fault_end (worker_places journal worker) ≡ 0
  go None is = ap (asks_among is_fault_end) (run.unbegun worker (get_past posts worker is))
  go (Some post) is =
      let did = (run.each worker post is).2 in
      let none = faultless worker post is in
      let link = none_rose (asks_among is_link_end (worker_places journal worker)) (faults post).link did.link none.no_link_fault in
      let keeper = none_rose (asks_among is_keeper_end (worker_places journal worker)) (faults post).keeper did.keeper none.no_keeper_fault in
      let lost : asks_among is_lost_end (worker_places journal worker) ≤ lost_places (worker_places journal worker) = subst (λ ps. asks_among is_lost_end ps ≤ lost_places ps) (sym did.all) (all_lost_ends service did.sittings did.each) in
      omega (arith, faults_split (worker_places journal worker), link, keeper, lost, lost_all journal worker kept)

-- every worker's sessions were served whole, and users got in, where no post counts a fault and no decision was lost
module _ {P : Type 0} (service : Service) (failed : Bool) (journal : List Event) (posts : List P)
    (scene : P → Option Scene) (faults : P → Faults) (run : RunEnded service failed journal posts scene faults)
    (legal : IsLegal service.setup journal) (few : length journal ≤ EVENTS_LIMIT) (range : IsInRange service.setup)
    (none : EachPost (map (seen scene faults) posts) (λ worker post. IsFaultless post))
    (kept : has_lost journal ≡ false) where
  faultless : (worker : ℕ) (post : P) → slice_get posts worker ≡ Some post → IsFaultless (seen scene faults post)
  faultless worker post is = none worker (seen scene faults post) (seen_stands scene faults posts worker post is)

  pub unfaulted : list_any (λ e. is_fault_end e.ask) journal ≡ false
  unfaulted = none_by_worker (λ e. is_fault_end e.ask) journal
      (λ worker. count_of-places (λ e. is_fault_end e.ask) worker journal
      ∙ no_fault_ends service failed journal posts scene faults run kept faultless worker)

  served : (worker : ℕ) (post : P) → slice_get posts worker ≡ Some post
      → IfSome (scene post) (ServesUsers service journal worker)
  served worker post is =
      let did = run.each worker post is in
      let link = none_rose (asks_among is_link_end (worker_places journal worker)) (faults post).link did.2.link
      (faultless worker post is).no_link_fault in
      let each = all_answered service did.2.sittings did.2.each
      (sym (ap (asks_among is_link_end) did.2.all) ∙ link) in
      let own = sittings_of service did.0 journal worker (scene post) (faults post) did.2 in
      IfSome-weaker (scene post) (IsStory did.2.sittings did.0) (ServesUsers service journal worker)
      (λ s story. record {
        whole = record { sittings = did.2.sittings; last = did.0; served = own; story = story; answered = each };
        welcomed = users_get_in service journal legal few kept range unfaulted worker did.2.sittings own each;
        files = users_are_served service journal legal few kept range unfaulted worker did.2.sittings own each;
      }) did.2.story

  pub users_served : EachScene (map (seen scene faults) posts) (ServesUsers service journal)
  users_served =
      each_seen scene faults posts (λ worker post. IfSome post.scene (ServesUsers service journal worker)) served
