-- What one message leaves: the step that was served, and the session that goes on, ends or changes its child.
use Rattle.std.proofs.Common.{◌≡◌, ℕ, ◌+◌, ◌<◌, ◌≤◌, Bool, true, false, ◌&&◌, ◌||◌, cond, eqb, ◌++◌, length, List, [], ◌∷◌, take, Option, Some, None, Result, refl, sym, ap, subst, ◌∙◌, arith}
use Rattle.std.specs.Prelude.{IfOk, MatchResult, Ok, Err, is_some, slice_get}
use Rattle.std.specs.List.{AllByRecursion, find}
use Rattle.std.proofs.lemmas.Bool.{and_parts}
use Rattle.std.proofs.lemmas.List.{take_all}
use Rattle.imsg_frame.specs.Message.{IsMessage, Message}
use Rattle.request_catalogue.specs.declared.request.Bad.{Bad}
use Rattle.request_catalogue.specs.declared.request.Request.{Request}
use Rattle.request_catalogue.specs.declared.width.Width.{Width}
use Rattle.request_catalogue.specs.Catalogue.{IsRequest, RequestValue, payload_of, value_of as request_value}
use Rattle.request_catalogue.specs.Catalogue as requests
use Rattle.request_catalogue.specs.Reading.{request_of}
use Rattle.request_catalogue.specs.Replies.{AnswerValue}
use Rattle.request_catalogue.specs.Widths.{frame_max}
use Rattle.outside.specs.declared.act.Act.{Act}
use Rattle.outside.specs.Link.{Exchanged, Link}
use Rattle.outside.specs.Scene.{Played, Scene}
use Rattle.outside.specs.Told.{Goes}
use Rattle.outside.proofs.Exchanges.{Exchanges-none}
use Rattle.outside.proofs.Scenes.{Plays-none}
use Rattle.policy_model.specs.declared.account.Account.{Account}
use Rattle.policy_model.specs.declared.event.Ask.{Ask}
use Rattle.policy_model.specs.declared.event.Ask.TheVariants as asks
use Rattle.policy_model.specs.declared.event.Decision.{Decision}
use Rattle.policy_model.specs.declared.event.Decision.TheVariants as decisions
use Rattle.policy_model.specs.declared.event.Event.{Event}
use Rattle.policy_model.specs.declared.event.Why.TheVariants as whys
use Rattle.policy_model.specs.declared.phase.Phase.TheVariants as phases
use Rattle.policy_model.specs.Asks.{accepts, came_by_frame, closes_file, ends_session, exports, is_lost, is_permit, is_proper, opens_file, shown_of, value_of, label_named}
use Rattle.policy_model.specs.Cases.{is_export, account_named, number_named, handle_of}
use Rattle.policy_model.specs.Handles.{handle_opening}
use Rattle.policy_model.specs.Journal.{ask_count, has_event, open_session_of}
use Rattle.policy_model.specs.Logins.{challenged_user, verified_user}
use Rattle.policy_model.specs.Runs.{IsOfWorker, IsServing}
use Rattle.policy_model.specs.Settings.{Settings}
use Rattle.policy_model.proofs.Runs.{WentOn as KeptServing, goes_on, stays_open}
use Rattle.session_laws.proofs.HandleLaws.{no_handles_before}
use Rattle.session_laws.proofs.LoggedIn.{legal_verified}
use Rattle.session_laws.proofs.Numbers.{numbered_by_name}
use Rattle.session_laws.proofs.Permits.{permitted_export}
use Rattle.session_laws.proofs.Permitted.{exported_in_verified}
use Rattle.session_laws.proofs.PhaseLemmas.{phase_tests}
use Rattle.session_laws.proofs.SessionEvents.{has_event-own}
use Rattle.session_laws.proofs.UserLemmas.{verified_user-own}
use Rattle.child_keeper.specs.Tickets.{session_role}
use Rattle.service_model.specs.Answers.{answer_value, reply_to}
use Rattle.service_model.specs.Parts.{why_of}
use Rattle.service_model.specs.Requests.{Asks}
use Rattle.service_model.specs.Users.{File}
use Rattle.service_model.specs.Cases.{name_of_opening, role_of, reply_bytes, place_of}
use Rattle.session_turns.specs.Joins.{Joins, KeepsRights, OthersJoined, Rights}
use Rattle.session_asking.specs.declared.asking.Turn.{Turn}
use Rattle.session_asking.specs.declared.asking.Turn.TheVariants as turns
use Rattle.session_asking.specs.declared.live.LoggedIn.{LoggedIn}
use Rattle.session_asking.specs.declared.work.Outcome.{Outcome}
use Rattle.session_asking.specs.Asking.{IsTurnOf, clock_acts, read_value, state_by}
use Rattle.session_asking.specs.Known.{IsServed, IsStillOpen, Knows, NotesFiles, file_in}
use Rattle.session_asking.specs.Serving.{HandsWith, HasExported, HasServed, IsNewUser, IsProperTurn, Leaves, Serves, Whose, WentOn, moment}
use Rattle.session_asking.specs.Work.{done_operations}
use Rattle.session_asking.proofs.Answering.{IsAsked, IsDone, Steps-join, all_played, asked_by_message, is_reply, is_step, known_before, own_session, step_at}
use Rattle.session_asking.proofs.FileLemmas.{names_after}
use Rattle.session_asking.proofs.Knowing.{knows_own}

whole_cut : (xs ys : List ℕ) → xs ≡ ys → (n : ℕ) × (xs ≡ take n ys)
whole_cut xs ys is = (length ys, is ∙ sym (take_all (length ys) ys (omega arith)))

-- the answer was sent whole
pub served_whole : (w : Whose) (message : Message) (read : Result Request Bad) (ask : Ask) (user : Option LoggedIn) (old new : List Event) (e : Event) (s t : Option Scene) → (is : IsAsked w message read ask user old new e s t) → (outcome : Outcome) (piece : List ℕ) (last answer : AnswerValue) (reply : List ℕ) (u : Option Scene) (k l : Option Link) (turn : Turn) → IsDone w message read user e outcome piece last answer reply t u → Goes (Exchanged [] reply) k l → length reply ≤ frame_max w.service.setup.frames → IsTurnOf e turn → Serves w message turn (moment old s k) (moment new u l)
served_whole w message read ask user old new e s t is outcome piece last answer reply u k l turn done sent short follows = go turn follows where
  whole : reply ≡ reply_to w.service w.exported message (place_of is.joins.before e) (clock_acts e.ask ++ done.does.acts)
  whole = is_reply w message read ask user old new e s t is outcome piece last answer reply u done

  go : (turn : Turn) → IsTurnOf e turn → Serves w message turn (moment old s k) (moment new u l)
  go (turns.HandsOver event) follows = absurd follows
  go turns.GoesOn follows = record {
    step = step_at is.joins.before e message (clock_acts e.ask ++ done.does.acts);
    came = refl;
    is = is_step w message read ask user old new e s t is done.does.acts done.unhanded done.does.are;
    steps = Steps-join w.service.setup w.worker ask old new e message (clock_acts e.ask ++ done.does.acts) is.joins;
    acts = all_played w message read ask user old new e s t is done.does.acts u done.does.played;
    sent = reply;
    bytes = sent;
    answers = (record { unended = follows; unexported = done.unhanded; fits = subst (λ (b : List ℕ). length b ≤ frame_max w.service.setup.frames) whole short }, whole);
  }
  go (turns.Ends why) follows = record {
    step = step_at is.joins.before e message (clock_acts e.ask ++ done.does.acts);
    came = refl;
    is = is_step w message read ask user old new e s t is done.does.acts done.unhanded done.does.are;
    steps = Steps-join w.service.setup w.worker ask old new e message (clock_acts e.ask ++ done.does.acts) is.joins;
    acts = all_played w message read ask user old new e s t is done.does.acts u done.does.played;
    sent = reply;
    bytes = sent;
    answers = (record { cut = whole_cut reply (reply_to w.service w.exported message (place_of is.joins.before e) (clock_acts e.ask ++ done.does.acts)) whole; all = λ ne. whole }, λ ne. (follows.0, follows.1));
  }

-- a front of the answer was sent before the link failed
pub served_part : (w : Whose) (message : Message) (read : Result Request Bad) (ask : Ask) (user : Option LoggedIn) (old new : List Event) (e : Event) (s t : Option Scene) → (is : IsAsked w message read ask user old new e s t) → (outcome : Outcome) (piece : List ℕ) (last answer : AnswerValue) (reply : List ℕ) (u : Option Scene) (k l : Option Link) (n : ℕ) → IsDone w message read user e outcome piece last answer reply t u → Goes (Exchanged [] (take n reply)) k l → HasServed w message (turns.Ends whys.LinkFault) (moment old s k) (moment new u l)
served_part w message read ask user old new e s t is outcome piece last answer reply u k l n done sent = record {
  step = step_at is.joins.before e message (clock_acts e.ask ++ done.does.acts);
  came = refl;
  is = is_step w message read ask user old new e s t is done.does.acts done.unhanded done.does.are;
  steps = Steps-join w.service.setup w.worker ask old new e message (clock_acts e.ask ++ done.does.acts) is.joins;
  acts = all_played w message read ask user old new e s t is done.does.acts u done.does.played;
  sent = take n reply;
  bytes = sent;
  answers = (record { cut = (n, ap (take n) (is_reply w message read ask user old new e s t is outcome piece last answer reply u done)); all = λ ne. absurd (ne refl) }, λ ne. absurd (ne refl));
}

pub lost_is : (d : Decision) → is_lost d ≡ true → d ≡ decisions.Lost
lost_is (decisions.Permit value) h = absurd cc
lost_is (decisions.Deny rule detail) h = absurd cc
lost_is decisions.Lost h = refl

none_lost : (ask : Ask) (d : Decision) (file : ℕ → Option File) (bytes : List ℕ) → d ≡ decisions.Lost → [] ≡ done_operations ask d file bytes
none_lost (asks.ReadAt handle offset max) d file bytes h = rw h refl
none_lost (asks.WriteAt handle offset len) d file bytes h = rw h refl
none_lost _ d file bytes h = refl

lost_ends : (e : Event) → is_lost e.decision ≡ true → ends_session e ≡ true
lost_ends e h = go _ h where
  go : (b : Bool) → is_lost e.decision ≡ true → (b || is_lost e.decision) ≡ true
  go true h = refl
  go false h = h

lost_reply : (w : Whose) (message : Message) (before : List Event) (e : Event) (acts : List Act) → e.decision ≡ decisions.Lost → [] ≡ reply_to w.service w.exported message (place_of before e) acts
unfolding reply_to
lost_reply w message before e acts lost = sym (ap (λ d. reply_bytes w.service.setup.frames message e.session (answer_value w.service w.exported (place_of before e) acts (shown_of d))) lost)

unexported_lost : (e : Event) → e.decision ≡ decisions.Lost → exports e ≡ false
unexported_lost e lost = ap (λ d. is_export e.ask && is_permit d) lost ∙ never (is_export e.ask) where
  never : (b : Bool) → (b && false) ≡ false
  never true = refl
  never false = refl

-- a lost decision is answered nothing, and nothing is done after it
pub served_lost : (w : Whose) (message : Message) (read : Result Request Bad) (ask : Ask) (user : Option LoggedIn) (old new : List Event) (e : Event) (s t : Option Scene) → (is : IsAsked w message read ask user old new e s t) → (k : Option Link) → is_lost e.decision ≡ true → HasServed w message (turns.Ends whys.LogLost) (moment old s k) (moment new t k)
served_lost w message read ask user old new e s t is k is_it =
    let lost = lost_is e.decision is_it in
    let nothing : [] ≡ reply_to w.service w.exported message (place_of is.joins.before e) (clock_acts e.ask ++ []) = lost_reply w message is.joins.before e (clock_acts e.ask ++ []) lost in
    record {
      step = step_at is.joins.before e message (clock_acts e.ask ++ []);
      came = refl;
      is = is_step w message read ask user old new e s t is [] (unexported_lost e lost) (none_lost e.ask e.decision (file_in w.service.setup user) _ lost);
      steps = Steps-join w.service.setup w.worker ask old new e message (clock_acts e.ask ++ []) is.joins;
      acts = all_played w message read ask user old new e s t is [] t (Plays-none t);
      sent = [];
      bytes = Exchanges-none k;
      answers = (record { cut = (0, refl); all = λ ne. nothing }, λ ne. (lost_ends e is_it, sym (ap why_of lost)));
    }

no_clock : (ask : Ask) → is_export ask ≡ true → clock_acts ask ≡ []
no_clock (asks.Export len) h = refl
no_clock (asks.Challenge user now) h = absurd cc
no_clock _ h = refl

-- whose session a permitted EXPORT hands over
record Hands (setup : Settings) (before : List Event) (e : Event) : Type 0 where
  pub account : Account
  pub stands : slice_get setup.accounts (value_of e.decision) ≡ Some account
  pub below : value_of e.decision < length setup.accounts
  pub named : account_named setup (verified_user before e.session) ≡ Some account
  pub before_export : has_event before e.session exports ≡ false

hands : (setup : Settings) (worker : ℕ) (ask : Ask) (old new : List Event) (e : Event) → (joins : Joins setup worker ask old new e) → exports e ≡ true → Hands setup joins.before e
hands setup worker ask old new e joins exported =
    let verified = exported_in_verified setup joins.before e joins.next exported in
    let logged = legal_verified setup joins.before joins.others.run.legal e.session verified in
    let numbered = numbered_by_name setup logged.user logged.known.account logged.known.found in
    let number_is : value_of e.decision ≡ numbered.0 =
    (permitted_export setup joins.before e joins.next exported).1 ∙ ap (number_named setup) logged.verified ∙ ap (λ o. Rattle.std.specs.Prelude.unwrap_or o 0) numbered.1.number_is in
    let below = numbered.1.below in
    record {
      account = logged.known.account;
      stands = ap (slice_get setup.accounts) number_is ∙ numbered.1.stands;
      below = omega (arith, number_is, below);
      named = ap (account_named setup) logged.verified ∙ logged.known.found;
      before_export = (phase_tests joins.before e.session phases.Verified verified).1.0;
    }

-- a permitted EXPORT: the first child's part ends
pub has_exported : (w : Whose) (message : Message) (read : Result Request Bad) (ask : Ask) (user : Option LoggedIn) (old new : List Event) (e : Event) (s t : Option Scene) → (is : IsAsked w message read ask user old new e s t) → (k : Option Link) → exports e ≡ true → HasExported w message e (moment old s k) (moment new t k)
has_exported w message read ask user old new e s t is k exported =
    let setup = w.service.setup in
    let export : is_export ask ≡ true = ap is_export (sym is.joins.asks) ∙ (and_parts (is_export e.ask) (is_permit e.decision) exported).0 in
    let h = hands setup w.worker ask old new e is.joins exported in
    record {
      front = is.joins.before;
      exported = exported;
      came = record { framed = is.right; asked = asked_by_message w message read ask user old new e s t is };
      session_is = own_session w message read ask user old new e s t is;
      steps = Steps-join setup w.worker ask old new e message [] is.joins;
      acts = subst (λ acts. Goes (Played acts [] []) s t) (no_clock ask export) is.clock;
      bytes = Exchanges-none k;
      named = record { below = h.below };
      role = ap (session_role e.session) h.stands ∙ sym (ap (role_of e.session) h.named);
    }

-- what is said of the last of a list
last_all : {X : Type 0} (P : X → Type 0) (xs : List X) (x : X) → AllByRecursion P (xs ++ x ∷ []) → P x
last_all P [] x all = all.0
last_all P (y ∷ ys) x all = last_all P ys x all.1

-- the session of a worker is served up to just before its event
serving_before : (setup : Settings) (worker session : ℕ) (old before : List Event) → OthersJoined setup worker old before → IsServing setup old worker session → IsServing setup before worker session
serving_before setup worker session old before others serving =
    let stays = others.stays (λ z. serving.some (sym serving.opened ∙ z)) in
    let asks : ask_count before session ≡ ask_count old session = ap (ask_count before) (sym serving.opened) ∙ stays.asks ∙ ap (ask_count old) serving.opened in
    let below = serving.below in
    record { run = others.run; opened = others.opened ∙ serving.opened; some = serving.some; below = omega (arith, asks, below) }

-- a request after which the session goes on
went : (setup : Settings) (worker session : ℕ) (ask : Ask) (old new : List Event) (e : Event) → (joins : Joins setup worker ask old new e) → IsServing setup old worker session → came_by_frame ask ≡ true → is_proper ask ≡ true → ends_session e ≡ false → KeptServing setup joins.before e session
went setup worker session ask old new e joins serving request proper unended =
    let its = joins.its in
    let run = subst (AllByRecursion (IsOfWorker setup)) joins.grown joins.run.workers in
    let below = (last_all (IsOfWorker setup) joins.before e run).below in
    let served : IsServing setup joins.before e.worker session = subst (λ v. IsServing setup joins.before v session) (sym its) (serving_before setup worker session old joins.before joins.others serving) in
    goes_on setup joins.before e session served joins.next (ap came_by_frame joins.asks ∙ request) (ap is_proper joins.asks ∙ proper) below unended

asks_before : (setup : Settings) (worker session : ℕ) (old before : List Event) → OthersJoined setup worker old before → IsServing setup old worker session → ask_count before session ≡ ask_count old session
asks_before setup worker session old before others serving =
    ap (ask_count before) (sym serving.opened) ∙ (others.stays (λ z. serving.some (sym serving.opened ∙ z))).asks ∙ ap (ask_count old) serving.opened

pub went_on : (setup : Settings) (session : ℕ) (ask : Ask) (user after : Option LoggedIn) (rights_old rights_new : Rights) (old new : List Event) (e : Event) → (joins : Joins setup rights_old.worker ask old new e) → IsServed setup rights_old old session user → Knows setup joins.before session user → e.session ≡ session → came_by_frame ask ≡ true → is_proper ask ≡ true → KeepsRights 1 rights_old rights_new → ends_session e ≡ false → exports e ≡ false → NotesFiles e user after → WentOn setup session rights_old old rights_new new after
went_on setup session ask user after rights_old rights_new old new e joins served known own request proper rights unended unexported notes =
    let more = went setup rights_old.worker session ask old new e joins served.serving request proper unended in
    let count : ask_count new session ≡ ask_count old session + 1 = ap (λ j. ask_count j session) joins.grown ∙ more.asks ∙ ap (λ n. n + 1) (asks_before setup rights_old.worker session old joins.before joins.others served.serving) in
    let left = served.left in
    let made = rights.made in
    record {
      served = record {
        serving = subst (λ j. IsServing setup j rights_new.worker session) (sym joins.grown) (subst (λ v. IsServing setup (joins.before ++ e ∷ []) v session) (joins.its ∙ sym rights.worker) more.serving);
        known = subst (λ j. Knows setup j session after) (sym joins.grown) (knows_own setup joins.before e session user after known joins.next own unexported notes);
        left = omega (arith, left, made, count);
      };
      asks = count;
    }

pub still_open : (setup : Settings) (session : ℕ) (ask : Ask) (user : Option LoggedIn) (rights_old rights_new : Rights) (old new : List Event) (e : Event) → (joins : Joins setup rights_old.worker ask old new e) → IsServed setup rights_old old session user → came_by_frame ask ≡ true → KeepsRights 1 rights_old rights_new → IsStillOpen setup rights_new new session
still_open setup session ask user rights_old rights_new old new e joins served request rights =
    let left = served.left in
    let below = served.serving.below in
    let made = rights.made in
    record {
      run = joins.run;
      opened = ap (open_session_of new) rights.worker ∙ ap (λ j. open_session_of j rights_old.worker) joins.grown ∙ stays_open joins.before e rights_old.worker (ap came_by_frame joins.asks ∙ request) ∙ joins.others.opened ∙ served.serving.opened;
      left = omega (arith, left, below, made);
    }

-- what a permitted EXPORT isn't
record IsExportEvent (e : Event) : Type 0 where
  pub unended : ends_session e ≡ false
  pub unaccepted : accepts e ≡ false
  pub unopened : opens_file e ≡ false
  pub unclosed : (handle : ℕ) → closes_file handle e ≡ false

export_event : (e : Event) → exports e ≡ true → IsExportEvent e
export_event e exported = go e.ask e.decision refl refl (and_parts (is_export e.ask) (is_permit e.decision) exported) where
  go : (ask : Ask) (d : Decision) → e.ask ≡ ask → e.decision ≡ d → (is_export e.ask ≡ true) × (is_permit e.decision ≡ true) → IsExportEvent e
  go (asks.Export len) (decisions.Permit value) a h both = record { unended = rw (a, h) refl; unaccepted = rw a refl; unopened = rw a refl; unclosed = λ handle. rw a refl }
  go ask (decisions.Deny rule detail) a h both = let wrong : false ≡ true = ap is_permit (sym h) ∙ both.1 in absurd cc
  go ask decisions.Lost a h both = let wrong : false ≡ true = ap is_permit (sym h) ∙ both.1 in absurd cc
  go ask (decisions.Permit value) a h both = other ask (ap is_export (sym a) ∙ both.0) a h where
    other : (ask : Ask) → is_export ask ≡ true → e.ask ≡ ask → e.decision ≡ decisions.Permit value → IsExportEvent e
    other (asks.Export len) i a h = record { unended = rw (a, h) refl; unaccepted = rw a refl; unopened = rw a refl; unclosed = λ handle. rw a refl }
    other _ i a h = absurd cc

or_true : (b : Bool) → (b || true) ≡ true
or_true true = refl
or_true false = refl

-- a session that was handed to its user is served on, with the account that the EXPORT names
handed_on : (setup : Settings) (session : ℕ) (ask : Ask) (user : Option LoggedIn) (rights_old rights_new : Rights) (old new : List Event) (e : Event) → (joins : Joins setup rights_old.worker ask old new e) → IsServed setup rights_old old session user → e.session ≡ session → came_by_frame ask ≡ true → is_proper ask ≡ true → KeepsRights 1 rights_old rights_new → exports e ≡ true → (logged_in : LoggedIn) → IsNewUser logged_in e → IsServed setup rights_new new session (Some logged_in)
handed_on setup session ask user rights_old rights_new old new e joins served own request proper rights exported logged_in fresh =
    let is = export_event e exported in
    let h = hands setup rights_old.worker ask old new e joins exported in
    let before = joins.before in
    let more = went setup rights_old.worker session ask old new e joins served.serving request proper is.unended in
    let count : ask_count new session ≡ ask_count old session + 1 = ap (λ j. ask_count j session) joins.grown ∙ more.asks ∙ ap (λ n. n + 1) (asks_before setup rights_old.worker session old before joins.others served.serving) in
    let left = served.left in
    let made = rights.made in
    let known : Knows setup (before ++ e ∷ []) e.session (Some logged_in) = record {
      exported = has_event-own before e e.session exports refl ∙ ap (λ b. has_event before e.session exports || b) exported ∙ or_true (has_event before e.session exports);
      account = λ some.
          ap (account_named setup) (verified_user-own before e e.session refl ∙ ap (λ b. cond b (challenged_user before e.session) (verified_user before e.session)) is.unaccepted) ∙ h.named ∙ sym h.stands ∙ ap (slice_get setup.accounts) (sym fresh.account);
      files = λ handle.
          names_after before e e.session handle refl (λ opened. absurd (let wrong : false ≡ true = sym is.unopened ∙ opened in cc))
          ∙ ap (λ b. cond (b && eqb (handle_of e) handle) (label_named e.ask) (cond (closes_file handle e) None (name_of_opening (handle_opening before e.session handle)))) is.unopened
          ∙ ap (λ b. cond b None (name_of_opening (handle_opening before e.session handle))) (is.unclosed handle)
          ∙ ap (λ live. name_of_opening (find (λ o. eqb (handle_of o) handle) live)) (no_handles_before setup before joins.others.run.legal e.session h.before_export)
          ∙ sym (fresh.files handle);
    } in
    record {
      serving = subst (λ j. IsServing setup j rights_new.worker session) (sym joins.grown) (subst (λ v. IsServing setup (before ++ e ∷ []) v session) (joins.its ∙ sym rights.worker) more.serving);
      known = subst (λ j. Knows setup j session (Some logged_in)) (sym joins.grown) (subst (λ n. Knows setup (before ++ e ∷ []) n (Some logged_in)) own known);
      left = omega (arith, left, made, count);
    }

-- an EXPORT is one ask more
pub handed_with : (setup : Settings) (session : ℕ) (ask : Ask) (user : Option LoggedIn) (rights_old rights_new : Rights) (old new : List Event) (e : Event) → (joins : Joins setup rights_old.worker ask old new e) → IsServed setup rights_old old session user → e.session ≡ session → came_by_frame ask ≡ true → is_proper ask ≡ true → KeepsRights 1 rights_old rights_new → exports e ≡ true → HandsWith setup session old rights_new new e
handed_with setup session ask user rights_old rights_new old new e joins served own request proper rights exported =
    let more = went setup rights_old.worker session ask old new e joins served.serving request proper (export_event e exported).unended in
    record {
      served = handed_on setup session ask user rights_old rights_new old new e joins served own request proper rights exported;
      asks = ap (λ j. ask_count j session) joins.grown ∙ more.asks ∙ ap (λ n. n + 1) (asks_before setup rights_old.worker session old joins.before joins.others served.serving);
    }

-- an ask that was made, as the clauses of the calls say it
pub is_asked : (w : Whose) (message : Message) (read : Result Request Bad) (ask : Ask) (user : Option LoggedIn) (old new : List Event) (e : Event) (s t : Option Scene) (setup parts : Settings) (left : ℕ) → setup ≡ w.service.setup → parts ≡ w.service.setup → Joins setup w.worker ask old new e → IsServed w.service.setup (record { worker = w.worker; left = left }) old w.session user → came_by_frame ask ≡ true → IsMessage w.service.setup.frames (frame_max w.service.setup.frames) message → MatchResult read (λ r. request_of parts.frames message.header.kind message.header.flags message.body ≡ Ok (request_value r)) (λ bad. request_of parts.frames message.header.kind message.header.flags message.body ≡ Err bad) → MatchResult read (λ r. Asks w.service.words (request_value r) ask) (λ bad. ask ≡ asks.Bad bad.rule bad.detail) → Goes (Played (clock_acts ask) [] []) s t → IsAsked w message read ask user old new e s t
is_asked w message read ask user old new e s t setup parts left same parts_are joins served request right exact asked clock = record {
  joins = subst (λ x. Joins x w.worker ask old new e) same joins;
  opened = served.serving.opened;
  some = served.serving.some;
  known = served.known;
  request = request;
  right = right;
  exact = subst (λ (x : Settings). MatchResult read (λ r. request_of x.frames message.header.kind message.header.flags message.body ≡ Ok (request_value r)) (λ bad. request_of x.frames message.header.kind message.header.flags message.body ≡ Err bad)) parts_are exact;
  asks_it = asked;
  clock = clock;
}

-- what follows a request that was answered whole
pub leaves_after : (setup : Settings) (session : ℕ) (ask : Ask) (user after : Option LoggedIn) (rights_old rights_new : Rights) (old new : List Event) (e : Event) (turn : Turn) → (joins : Joins setup rights_old.worker ask old new e) → IsServed setup rights_old old session user → Knows setup joins.before session user → e.session ≡ session → came_by_frame ask ≡ true → is_proper ask ≡ true → KeepsRights 1 rights_old rights_new → exports e ≡ false → NotesFiles e user after → IsTurnOf e turn → Leaves setup session turn rights_old old rights_new new after
leaves_after setup session ask user after rights_old rights_new old new e turns.GoesOn joins served known own request proper rights unexported notes follows = went_on setup session ask user after rights_old rights_new old new e joins served known own request proper rights follows unexported notes
leaves_after setup session ask user after rights_old rights_new old new e (turns.Ends why) joins served known own request proper rights unexported notes follows = still_open setup session ask user rights_old rights_new old new e joins served request rights
leaves_after setup session ask user after rights_old rights_new old new e (turns.HandsOver event) joins served known own request proper rights unexported notes follows = absurd follows

-- what a permitted EXPORT hands on is its message's body
pub handed_state : (width : Width) (message : Message) (read : Result Request Bad) (words : List (List ℕ)) (ask : Ask) (e : Event) → IfOk read (λ r. IsRequest width message.header.kind message.header.flags message.body (request_value r)) → MatchResult read (λ r. Asks words (request_value r) ask) (λ bad. ask ≡ asks.Bad bad.rule bad.detail) → e.ask ≡ ask → exports e ≡ true → state_by (read_value read) ≡ message.body
unfolding payload_of
handed_state width message (Err bad) words ask e found asked same exported = absurd (not_bad (and_parts (is_export e.ask) (is_permit e.decision) exported).0) where
  not_bad : is_export e.ask ≡ true → ⊥
  not_bad h = let wrong : false ≡ true = sym (ap is_export (same ∙ asked)) ∙ h in absurd cc
handed_state width message (Ok request) words ask e found asked same exported = go (request_value request) asked found (ap is_export (sym same) ∙ (and_parts (is_export e.ask) (is_permit e.decision) exported).0) where
  go : (value : RequestValue) → Asks words value ask → IsRequest width message.header.kind message.header.flags message.body value → is_export ask ≡ true → state_by (Ok value) ≡ message.body
  go (requests.Export state) asked is h = sym is.spelled
  go requests.Banner asked is h = let wrong : false ≡ true = sym (ap is_export asked) ∙ h in absurd cc
  go (requests.Challenge user) asked is h = let wrong : false ≡ true = sym (ap is_export asked.3) ∙ h in absurd cc
  go (requests.Reply text) asked is h = let wrong : false ≡ true = sym (ap is_export asked.3) ∙ h in absurd cc
  go requests.Abandon asked is h = let wrong : false ≡ true = sym (ap is_export asked) ∙ h in absurd cc
  go requests.Import asked is h = let wrong : false ≡ true = sym (ap is_export asked) ∙ h in absurd cc
  go (requests.ReadAt handle offset max) asked is h = let wrong : false ≡ true = sym (ap is_export asked) ∙ h in absurd cc
  go (requests.WriteAt handle offset bytes) asked is h = let wrong : false ≡ true = sym (ap is_export asked) ∙ h in absurd cc
  go (requests.OpenFile mode name) asked is h = let wrong : false ≡ true = sym (ap is_export asked.2) ∙ h in absurd cc
  go (requests.CloseFile handle) asked is h = let wrong : false ≡ true = sym (ap is_export asked) ∙ h in absurd cc
  go (requests.Info number) asked is h = let wrong : false ≡ true = sym (ap is_export asked) ∙ h in absurd cc
  go (requests.Note text) asked is h = let wrong : false ≡ true = sym (ap is_export asked.2) ∙ h in absurd cc
  go requests.Finish asked is h = let wrong : false ≡ true = sym (ap is_export asked) ∙ h in absurd cc

-- a session exports once: nobody was its user before
nobody : (user : Option LoggedIn) → is_some user ≡ false → user ≡ None
nobody None h = refl
nobody (Some user) h = absurd cc

pub unlogged : (w : Whose) (message : Message) (read : Result Request Bad) (ask : Ask) (user : Option LoggedIn) (old new : List Event) (e : Event) (s t : Option Scene) → (is : IsAsked w message read ask user old new e s t) → exports e ≡ true → user ≡ None
unlogged w message read ask user old new e s t is exported =
    nobody user (sym (known_before w message read ask user old new e s t is).exported ∙ (hands w.service.setup w.worker ask old new e is.joins exported).before_export)

pub turn_stays : {X : Type 0} (e event : Event) (turn : Turn) → IsTurnOf e turn → turn ≡ turns.HandsOver event → X
turn_stays e event turn follows is = absurd (subst (IsTurnOf e) is follows)

-- what follows a request gives a reason that may be asked for, and never a fault of the link
pub turn_proper : (e : Event) (turn : Turn) → IsTurnOf e turn → IsProperTurn turn
turn_proper e turns.GoesOn follows = tt
turn_proper e (turns.Ends why) follows = follows.2
turn_proper e (turns.HandsOver event) follows = absurd follows

decided_why : (d : Decision) → why_of d ≡ whys.LinkFault → ⊥
decided_why (decisions.Permit value) is = absurd cc
decided_why (decisions.Deny rule detail) is = absurd cc
decided_why decisions.Lost is = absurd cc

pub turn_unfaulted : (e : Event) (turn : Turn) → IsTurnOf e turn → turn ≡ turns.Ends whys.LinkFault → ⊥
turn_unfaulted e turn follows is = decided_why e.decision (sym (subst (IsTurnOf e) is follows).1)
