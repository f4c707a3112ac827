-- A session whose run meets all that is decided comes to log in, and so is welcomed.
use Rattle.std.proofs.Common.{◌≡◌, ◌≢◌, ℕ, ◌+◌, ◌<◌, Bool, true, false, ◌||◌, cond}
use Rattle.std.proofs.Common.{List, [], ◌∷◌, ◌++◌, length, map, take, get_or, filter}
use Rattle.std.proofs.Common.{Option, Some, None, refl, sym, ap, subst, ◌∙◌, arith, count_by}
use Rattle.std.specs.Prelude.{◌==◌, IfOk, IfSome, IsSome, Result, Ok, Err, slice_get}
use Rattle.std.specs.List.{AllByRecursion, flat_map, list_all, list_any}
use Rattle.std.proofs.lemmas.Bool.{or_parts}
use Rattle.std.proofs.Math.ListN.{get_or-append}
use Rattle.std.proofs.Math.Seq.{get_or-append_seam}
use Rattle.std.proofs.lemmas.List.{append-nil, length-append, take-append-le, take_at}
use Rattle.request_catalogue.specs.declared.texts.Name.{Name}
use Rattle.request_catalogue.specs.TextBytes.{name_bytes}
use Rattle.request_catalogue.specs.Texts.{is_typed_reply}
use Rattle.outside.specs.declared.act.Act.{Act}
use Rattle.outside.specs.declared.act.Talk.{Talk}
use Rattle.outside_memory.specs.declared.post.MemPost.{MemPost}
use Rattle.outside_memory.specs.MemPost.{faults_of, scene_of}
use Rattle.outside.specs.Scene.{Scene, bytes_at, came_count, is_coming}
use Rattle.policy_model.specs.declared.account.Account.{Account}
use Rattle.policy_model.specs.declared.event.Event.{Event}
use Rattle.policy_model.specs.Asks.{accepts, moment_of}
use Rattle.policy_model.specs.Journal.{Place, places_after}
use Rattle.policy_model.specs.Legal.{IsLegal, IsNext}
use Rattle.policy_model.specs.Logins.{challenged_user}
use Rattle.policy_model.specs.Settings.{IsInRange, Settings}
use Rattle.session_laws.proofs.Settling.{accepts_next}
use Rattle.child_protocol.specs.Commands.{PreCommand}
use Rattle.child_protocol.specs.Lines.{behind_lines}
use Rattle.service_model.specs.Ends.{is_fault_end, is_keeper_end, is_link_end, is_lost_end}
use Rattle.service_model.specs.Parts.{Part}
use Rattle.service_model.specs.Places.{step_acts}
use Rattle.service_model.specs.Service.{Service}
use Rattle.service_model.specs.Sittings.{AreAnswered, AreSittingsOf, IsSitting, Sitting, all_steps}
use Rattle.service_model.specs.Stories.{AcceptFailed, IsStory, LastAccept, NoneLeft, Unasked, last_acts, story_acts}
use Rattle.service_model.specs.Stories.{talk_of}
use Rattle.service_model.proofs.Answered.{all_answered}
use Rattle.service_model.proofs.Lists.{count-append, count-cons}
use Rattle.service_model.proofs.Stories.{all_came}
use Rattle.monitor_run.specs.Headline.{JournalIsLegal}
use Rattle.monitor_run.specs.Posts.{seen}
use Rattle.monitor_run.proofs.Seen.{seen_stands}
use Rattle.welcome_laws.specs.Client.{ClientSays, is_receiving}
use Rattle.welcome_laws.specs.Files.{AsksForFiles, BeginWithCommands}
use Rattle.welcome_laws.specs.Shipped.{IsSaidWhole, IsShipped, role_session, shipped_role}
use Rattle.welcome_laws.specs.Welcome.{AsksAfter, ComesToLogIn, sitting_session, texts_told}
use Rattle.login_laws.specs.Login.{ComesAfter}
use Rattle.welcome_laws.proofs.Welcomed.{users_are_served, users_get_in}
use Rattle.welcome_rows.specs.declared.serving.Visit.{Visit}
use Rattle.welcome_rows.specs.Met.{AcceptsAfter, IsMetInActs, IsMetInJournal, IsShippedTalk, asks_for_other}
use Rattle.welcome_rows.specs.Met.{earlier_of, goes_well, line_count, login_bytes, stands_in_way, visit_bytes}
use Rattle.welcome_rows.specs.Met.{wish_bytes, wishes_of}
use Rattle.welcome_rows.specs.Shown.{GetsIn, HasServed, planned}
use Rattle.welcome_rows.proofs.Acts.{client_of_first, few_of_children, well_of_later}
use Rattle.welcome_rows.proofs.Asked.{challenged_only, free_before, holder_own}
use Rattle.welcome_rows.proofs.LoginLines.{earlier_lines, has_response, said_behind, said_lines, wishes_begin}
use Rattle.welcome_rows.proofs.Readiness.{can_log_in, is_right}

-- ---- one connection, one session

none_last : (last : LastAccept) → came_count (last_acts last) ≡ 0
none_last Unasked = refl
none_last NoneLeft = refl
none_last AcceptFailed = refl

one_of : (sittings : List Sitting) → length sittings ≡ 1 → (sitting : Sitting) × (sittings ≡ sitting ∷ [])
one_of [] h = absurd cc
one_of (sitting ∷ []) h = (sitting, refl)
one_of (sitting ∷ other ∷ sittings) h = absurd (omega (arith, h))

one_session : (service : Service) (sittings : List Sitting) (last : LastAccept)
    → AllByRecursion (IsSitting service) sittings → came_count (story_acts sittings last) ≡ 1
    → (sitting : Sitting) × (sittings ≡ sitting ∷ [])
one_session service sittings last each one =
    let split = count-append is_coming (step_acts (flat_map all_steps sittings)) (last_acts last) in
    let all = all_came service sittings each in
    one_of sittings (omega (arith, one, split, all, none_last last))

-- ---- the children are the shipped ones

all_shipped : (entry : List ℕ × List ℕ) (parts : List Part) → AllByRecursion (IsShippedTalk entry) (map talk_of parts)
    → AllByRecursion (λ (part : Part). part.taken ++ part.unread ≡ bytes_at part.role (entry ∷ []) 1) parts
    → AllByRecursion IsShipped parts
all_shipped entry [] says has = tt
all_shipped entry (part ∷ parts) says has = (
  record {
    said = subst (IsSaidWhole (shipped_role part.role) (role_session part.role) part.sent) (sym has.0) says.0;
  },
  all_shipped entry parts says.1 has.1,
)

-- ---- no link failed

none_failed : (worker : ℕ) (before events : List Event) → list_any (λ e. is_fault_end e.ask) events ≡ false
    → count_by (λ p. is_link_end p.event.ask) (filter (λ p. p.event.worker == worker) (places_after before events)) ≡ 0
none_failed worker before [] sound = refl
none_failed worker before (e ∷ events) sound =
    by_worker (none_failed worker (before ++ e ∷ []) events both.1) (e.worker == worker) where
      both : (is_fault_end e.ask ≡ false) × (list_any (λ e. is_fault_end e.ask) events ≡ false)
      both = or_parts (is_fault_end e.ask) (list_any (λ e. is_fault_end e.ask) events) sound

      unfailed : is_link_end e.ask ≡ false
      unfailed =
          (or_parts (is_link_end e.ask) (is_keeper_end e.ask)
          (or_parts (is_link_end e.ask || is_keeper_end e.ask) (is_lost_end e.ask) both.0).0).0

      by_worker : count_by (λ p. is_link_end p.event.ask) (filter (λ p. p.event.worker == worker) (places_after
          (before ++ e ∷ []) events)) ≡ 0
          → (own : Bool) → count_by (λ p. is_link_end p.event.ask)
          (cond own (record { before = before; event = e } ∷ filter (λ p. p.event.worker == worker) (places_after
          (before ++ e ∷ []) events))
          (filter (λ p. p.event.worker == worker) (places_after (before ++ e ∷ []) events))) ≡ 0
      by_worker later false = later
      by_worker later true =
          count-cons (λ (p : Place). is_link_end p.event.ask) (record { before = before; event = e })
          (filter (λ p. p.event.worker == worker) (places_after (before ++ e ∷ []) events))
          ∙ ap (λ b. cond b 1 0 + count_by (λ p. is_link_end p.event.ask) (filter (λ p. p.event.worker == worker)
          (places_after (before ++ e ∷ []) events))) unfailed
          ∙ omega (arith, later)

all_whole : (service : Service) (journal : List Event) (worker : ℕ) (sittings : List Sitting)
    → AreSittingsOf service journal worker sittings → list_any (λ e. is_fault_end e.ask) journal ≡ false
    → AllByRecursion (λ s. AreAnswered service [] s.parts) sittings
all_whole service journal worker sittings are sound =
    all_answered service sittings are.each
    (ap (count_by (λ p. is_link_end p.event.ask)) (sym are.places) ∙ none_failed worker [] journal sound)

-- ---- who is accepted

front_next : (setup : Settings) (journal before : List Event) (e : Event) → IsLegal setup journal
    → ComesAfter journal before e → IsLegal setup before × IsNext setup before e
front_next setup journal before e legal comes =
    let rest = comes.rest in
    let whole = subst (IsLegal setup) comes.parts legal in
    let within : length before < length (before ++ e ∷ rest) = omega (arith, length-append before (e ∷ rest)) in (
      λ k d lt. subst (λ (x : Event). IsNext setup (take k before) x) (get_or-append before (e ∷ rest) d k lt)
          (subst (λ (l : List Event). IsNext setup l (get_or (before ++ e ∷ rest) k d))
          (take-append-le k before (e ∷ rest) (omega (arith, lt))) (whole k d (omega (arith, lt, within)))),
      subst (λ (x : Event). IsNext setup before x) (get_or-append_seam before e rest e)
          (subst (λ (l : List Event). IsNext setup l (get_or (before ++ e ∷ rest) (length before) e))
          (take_at before (e ∷ rest) (length before) refl) (whole (length before) e within)),
    )

accepted_only : (setup : Settings) (journal : List Event) → IsLegal setup journal → (user : Name) (session : ℕ)
    (before : List Event) (e : Event) → ComesAfter journal before e → e.session ≡ session → accepts e ≡ true
    → list_any (λ y. asks_for_other user y.ask) before ≡ false → challenged_user before session ≡ Some user
accepted_only setup journal legal user session before e comes own accepted free =
    let both = front_next setup journal before e legal comes in
    let a = accepts_next setup before e both.0 both.1 accepted in
    let is : challenged_user before session ≡ Some a.user = subst (λ (n : ℕ). challenged_user before n ≡ Some a.user) own
    a.challenged in
    is ∙ ap (λ (u : Name). Some u) (challenged_only user a.user session before free is)

-- ---- the lines after a login

asked_lines : (visit : Visit) (wants_files : Bool) (journal : List Event) (session : ℕ)
    → is_typed_reply visit.response ≡ true → (visit.mistyped ≢ [] → is_typed_reply visit.mistyped ≡ true)
    → (wants_files ≡ true → AcceptsAfter journal (line_count visit.mistyped))
    → (before : List Event) (e : Event) → ComesAfter journal before e → e.session ≡ session → accepts e ≡ true
    → BeginWithCommands (wishes_of wants_files) (behind_lines (texts_told before session)
    (login_bytes (name_bytes visit.user) visit.mistyped visit.response ++ wish_bytes wants_files))
asked_lines visit false journal session typed typed_too told before e comes own accepted = tt
asked_lines visit true journal session typed typed_too told before e comes own accepted =
    let lines = login_bytes (name_bytes visit.user) visit.mistyped visit.response ++ wish_bytes true in
    let behind = said_behind (name_bytes visit.user) visit.mistyped visit.response (wish_bytes true) visit.user.legal
    typed typed_too in
    let texts : texts_told before session ≡ line_count visit.mistyped = ap (texts_told before) (sym own)
    ∙ told refl before e comes accepted in
    subst (BeginWithCommands (wishes_of true)) (sym (ap (λ n. behind_lines n lines) texts ∙ behind))
    (wishes_begin true)

-- ---- all of it

module _ (service : Service) (journal : List Event) (worker : ℕ) (visit : Visit) (in_range : IsInRange service.setup)
    (legal : JournalIsLegal service.setup journal) (journal_met : IsMetInJournal service.setup journal visit) where
  abbrev user : Name
  user = visit.user

  abbrev account : Account
  account = journal_met.ready.account

  abbrev earlier : List PreCommand
  earlier = earlier_of (name_bytes visit.user) visit.mistyped

  meets : (scene : Scene) → IsMetInActs service.setup visit scene.acts scene.talks
      → scene.plan ≡ planned visit.script ∷ [] → (last : LastAccept) (sitting : Sitting)
      → AreSittingsOf service journal worker (sitting ∷ []) → IsStory (sitting ∷ []) last scene
      → GetsIn service journal worker visit
  meets scene acts_met plan last sitting are story = record {
    account = account;
    sitting = sitting;
    alone = are;
    answered = whole;
    comes = comes;
    welcomed = users_get_in service journal legal.legal legal.few journal_met.kept in_range journal_met.unfaulted worker
        (sitting ∷ []) are whole [] [] sitting refl user account visit.response comes;
    asks = asks;
    served = users_are_served service journal legal.legal legal.few journal_met.kept in_range journal_met.unfaulted
        worker (sitting ∷ []) are whole [] [] sitting refl user account visit.response comes
        (wishes_of visit.wants_files) asks;
  } where
    whole : AllByRecursion (λ s. AreAnswered service [] s.parts) (sitting ∷ [])
    whole = all_whole service journal worker (sitting ∷ []) are journal_met.unfaulted

    talks : scene.talks ≡ map talk_of sitting.parts
    talks = story.talks ∙ ap (map talk_of) (append-nil sitting.parts)

    says : ClientSays (visit_bytes visit) [] (story_acts (sitting ∷ []) last)
    says = subst (ClientSays (visit_bytes visit) []) story.acts acts_met.client

    free_of : (before : List Event) (e : Event)
        → AsksAfter journal (sitting_session sitting) user (1 + length earlier) before e
        → list_any (stands_in_way user (sitting_session sitting)) before ≡ false
    free_of before e asks =
        subst (λ (n : ℕ). list_any (stands_in_way user n) before ≡ false) asks.own
        (journal_met.alone before e asks.comes asks.asks)

    only_user : (before : List Event) (e : Event) → ComesAfter journal before e → e.session ≡ sitting_session sitting
        → accepts e ≡ true → list_any (λ y. asks_for_other user y.ask) journal ≡ false
        → challenged_user before (sitting_session sitting) ≡ Some user
    only_user before e comes own accepted none =
        accepted_only service.setup journal legal.legal user (sitting_session sitting) before e comes own accepted
        (free_before user journal before e none comes)

    comes : ComesToLogIn service journal user account visit.response sitting
    comes = record {
      earlier = earlier;
      lines = visit_bytes visit;
      are_earlier = earlier_lines (name_bytes user) visit.mistyped service.setup.tries in_range.tries.0 acts_met.tries;
      are_lines = said_lines (name_bytes user) visit.mistyped visit.response (wish_bytes visit.wants_files) user.legal
          acts_met.typed acts_met.typed_too;
      children = all_shipped (planned visit.script) sitting.parts
          (subst (AllByRecursion (IsShippedTalk (planned visit.script))) talks acts_met.shipped)
          (subst (λ (plan : List (List ℕ × List ℕ)). AllByRecursion (λ (part : Part). part.taken ++ part.unread ≡
          bytes_at part.role plan 1) sitting.parts)
          plan story.planned.0);
      client = client_of_first service.setup (visit_bytes visit) sitting last are.each.0.begins says;
      few = omega (arith, acts_met.few, few_of_children sitting last, ap (count_by is_receiving) story.acts);
      only = λ some. record {
        found = journal_met.ready.found;
        only = λ before e comes own accepted. only_user before e comes own accepted
            (journal_met.only (has_response (name_bytes user) visit.mistyped some));
      };
      ready = λ before e asks. can_log_in service.setup visit before journal_met.ready (sitting_session sitting)
          (free_of before e asks) (moment_of e.ask);
      right = λ before e asks words hex spelled. is_right service.setup visit before journal_met.ready
          (sitting_session sitting) (free_of before e asks) service.words words hex spelled;
      within = λ before e comes told held away asking. absurd (away (sym (holder_own user e.session before
          (journal_met.alone before e comes asking) (sitting_session sitting) held)));
    }

    asks : AsksForFiles service journal user account visit.response sitting comes (wishes_of visit.wants_files)
    asks = record {
      said = asked_lines visit visit.wants_files journal (sitting_session sitting) acts_met.typed acts_met.typed_too
          journal_met.told;
      granted = journal_met.ready.ready.granted;
      well = well_of_later service.setup (visit_bytes visit) sitting last are.each.0.begins says
          (ap (list_all goes_well) (sym story.acts) ∙ acts_met.files);
      few = omega (arith, acts_met.few, few_of_children sitting last, ap (count_by is_receiving) story.acts);
    }

  gets_in_by : (scene : Scene) → IsMetInActs service.setup visit scene.acts scene.talks
      → scene.plan ≡ planned visit.script ∷ [] → (sittings : List Sitting) (last : LastAccept)
      → AreSittingsOf service journal worker sittings → IsStory sittings last scene
      → GetsIn service journal worker visit
  gets_in_by scene acts_met plan sittings last are story =
      let one = one_session service sittings last are.each (ap came_count (sym story.acts) ∙ acts_met.one) in
      meets scene acts_met plan last one.0 (subst (AreSittingsOf service journal worker) one.1 are)
      (subst (λ (ss : List Sitting). IsStory ss last scene) one.1 story)

-- a visit whose post tells, and meets all that is decided
pub shown : (service : Service) (visits : List Visit) (journal : List Event) (posts : List MemPost)
    → HasServed service visits journal posts → (worker : ℕ) (visit : Visit) (post : MemPost)
    → slice_get visits worker ≡ Some visit → slice_get posts worker ≡ Some post
    → IsMetInJournal service.setup journal visit → (acts : List Act) (talks : List Talk)
    → IsMetInActs service.setup visit acts talks
    → IsSome (scene_of post) → IfSome (scene_of post) (λ s. acts ≡ s.acts)
    → IfSome (scene_of post) (λ s. talks ≡ s.talks)
    → GetsIn service journal worker visit
shown service visits journal posts served worker visit post visits_at posts_at journal_met acts talks acts_met some
    told spoke =
    by_scene (scene_of post) some told spoke
    (served.conversations.held worker (seen scene_of faults_of post)
    (seen_stands scene_of faults_of posts worker post posts_at))
    (served.plans worker visit post visits_at posts_at) where
      by_scene : (scene : Option Scene) → IsSome scene → IfSome scene (λ s. acts ≡ s.acts)
          → IfSome scene (λ s. talks ≡ s.talks)
          → IfSome scene (λ s. (sittings : List Sitting) × (last : LastAccept)
          × AreSittingsOf service journal worker sittings × IsStory sittings last s)
          → IfSome scene (λ s. s.plan ≡ planned visit.script ∷ []) → GetsIn service journal worker visit
      by_scene None some told spoke held plan = absurd cc
      by_scene (Some scene) some told spoke held plan =
          gets_in_by service journal worker visit served.in_range served.legal journal_met scene
          (subst (λ (ts : List Talk). IsMetInActs service.setup visit scene.acts ts) spoke
          (subst (λ (done : List Act). IsMetInActs service.setup visit done talks) told acts_met))
          plan held.0 held.1 held.2 held.3

-- what a success says of what its value tells
pub carried : {E P Q : Type 0} (r : Result Bool E) → (P → Q) → IfOk r (λ yes. yes ≡ true → P)
    → IfOk r (λ yes. yes ≡ true → Q)
carried (Ok shows) f h = λ is. f (h is)
carried (Err error) f h = h
