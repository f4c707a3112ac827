-- What one message makes of a session: a step of its worker, with its acts and its answer.
use Rattle.std.proofs.Common.{◌≡◌, ◌≢◌, ℕ, zero, suc, Bool, true, false, ◌&&◌, ◌||◌, ◌++◌, List, [], ◌∷◌, map, filter_map, Option, Some, None, Result, Ok, Err, refl, sym, ap, subst, ◌∙◌, cond}
use Rattle.std.specs.Prelude.{MatchResult, is_some, slice_get}
use Rattle.std.specs.Int.{w32, to_le_bytes}
use Rattle.std.specs.List.{flat_map, list_any}
use Rattle.std.proofs.lemmas.List.{map-append}
use Rattle.imsg_frame.specs.Message.{IsMessage, Message, composed_of, spelling_of}
use Rattle.request_catalogue.specs.declared.kind.Kind.TheVariants as kinds
use Rattle.request_catalogue.specs.declared.request.Bad.{Bad}
use Rattle.request_catalogue.specs.declared.request.Request.{Request}
use Rattle.request_catalogue.specs.declared.width.Width.{Width}
use Rattle.request_catalogue.specs.Catalogue.{value_of}
use Rattle.request_catalogue.specs.Reading.{request_of}
use Rattle.request_catalogue.specs.Replies.{AnswerValue, Done, reply_kind_of, reply_of}
use Rattle.request_catalogue.specs.Widths.{frame_max}
use Rattle.outside.specs.declared.act.Act.{Act}
use Rattle.outside.specs.declared.act.Act.TheVariants as doings
use Rattle.outside.specs.Scene.{Played, Scene}
use Rattle.outside.specs.Told.{Goes}
use Rattle.outside.proofs.Scenes.{Plays-then}
use Rattle.policy_model.specs.declared.account.Account.{Account}
use Rattle.policy_model.specs.declared.event.Ask.{Ask}
use Rattle.policy_model.specs.declared.event.Ask.TheVariants as asks
use Rattle.policy_model.specs.declared.event.Decision.{Decision}
use Rattle.policy_model.specs.declared.event.Decision.TheVariants as decisions
use Rattle.policy_model.specs.declared.event.Event.{Event}
use Rattle.policy_model.specs.Asks.{came_by_frame, exports, is_login_denial, is_permit, kind_of, shown_of}
use Rattle.policy_model.specs.Cases.{is_export}
use Rattle.policy_model.specs.Journal.{Place, open_session_of}
use Rattle.policy_model.specs.Settings.{Settings}
use Rattle.policy_model.proofs.Runs.{next_session, no_begin}
use Rattle.policy_model.proofs.Verdicts.{session_of-other}
use Rattle.service_model.specs.Acts.{Operation, ReadsFile, Receives, bytes_read, failed_device, operation_of, operations_by, operations_of, write_operations, written_by, written_bytes}
use Rattle.service_model.specs.Answers.{answer_value, challenge_text, info_text, permitted_value, reply_to}
use Rattle.service_model.specs.Parts.{IsRequestStep}
use Rattle.service_model.specs.Places.{Step, worker_places}
use Rattle.service_model.specs.Requests.{Asks, IsAskOf}
use Rattle.service_model.specs.Service.{Service}
use Rattle.service_model.specs.Users.{File, file_at, user_at}
use Rattle.service_model.specs.Cases.{file_of, if_permitted, imported_state, outcome_value, reply_bytes, place_of}
use Rattle.service_model.proofs.Places.{worker_places-own}
use Rattle.session_turns.specs.Joins.{Joins}
use Rattle.session_asking.specs.declared.live.LoggedIn.{LoggedIn}
use Rattle.session_asking.specs.declared.work.Outcome.{Outcome}
use Rattle.session_asking.specs.Asking.{clock_acts, read_value}
use Rattle.session_asking.specs.Known.{Knows, account_in, file_in, names_in}
use Rattle.session_asking.specs.Serving.{Steps, Whose, moment}
use Rattle.session_asking.specs.Work.{Does, answered, done_operations, told, told_by, told_of}
use Rattle.session_asking.proofs.Done.{nothing_done}
use Rattle.session_asking.proofs.Knowing.{import_after, info_after, knows_others}

-- an ask was made by a message of a session that is known, and its event joined; s and t are what the post told before and after the clock
pub record IsAsked (w : Whose) (message : Message) (read : Result Request Bad) (ask : Ask) (user : Option LoggedIn) (old new : List Event) (e : Event) (s t : Option Scene) : Type 0 where
  pub joins : Joins w.service.setup w.worker ask old new e
  pub opened : open_session_of old w.worker ≡ w.session
  pub some : w.session ≢ 0
  pub known : Knows w.service.setup old w.session user
  pub request : came_by_frame ask ≡ true
  pub right : IsMessage w.service.setup.frames (frame_max w.service.setup.frames) message
  pub exact : MatchResult read (λ r. request_of w.service.setup.frames message.header.kind message.header.flags message.body ≡ Ok (value_of r)) (λ bad. request_of w.service.setup.frames message.header.kind message.header.flags message.body ≡ Err bad)
  pub asks_it : MatchResult read (λ r. Asks w.service.words (value_of r) ask) (λ bad. ask ≡ asks.Bad bad.rule bad.detail)
  pub clock : Goes (Played (clock_acts ask) [] []) s t

-- the session of a request's event is the one that is open, whatever other workers did since
pub own_session : (w : Whose) (message : Message) (read : Result Request Bad) (ask : Ask) (user : Option LoggedIn) (old new : List Event) (e : Event) (s t : Option Scene) → (is : IsAsked w message read ask user old new e s t) → e.session ≡ w.session
own_session w message read ask user old new e s t is =
    let request : came_by_frame e.ask ≡ true = ap came_by_frame is.joins.asks ∙ is.request in
    let before = is.joins.before in
    next_session w.service.setup before e is.joins.next ∙ session_of-other before e.worker e.ask e.decision (no_begin e.ask request) ∙ ap (open_session_of before) is.joins.its
    ∙ is.joins.others.opened ∙ is.opened

-- what is known just before the event
pub known_before : (w : Whose) (message : Message) (read : Result Request Bad) (ask : Ask) (user : Option LoggedIn) (old new : List Event) (e : Event) (s t : Option Scene) → (is : IsAsked w message read ask user old new e s t) → Knows w.service.setup is.joins.before e.session user
known_before w message read ask user old new e s t is =
    let stays = is.joins.others.stays (λ z. is.some (sym is.opened ∙ z)) in
    let known : Knows w.service.setup is.joins.before w.session user = subst (λ n. Knows w.service.setup is.joins.before n user) is.opened (knows_others w.service.setup old is.joins.before (open_session_of old w.worker) user stays (subst (λ n. Knows w.service.setup old n user) (sym is.opened) is.known)) in
    subst (λ n. Knows w.service.setup is.joins.before n user) (sym (own_session w message read ask user old new e s t is)) known

file_of-none : (o : Option Account) → file_of o None ≡ None
file_of-none None = refl
file_of-none (Some a) = refl

-- the file of a handle by what is known is the one by the journal
pub known_file : (setup : Settings) (p : Place) (user : Option LoggedIn) (handle : ℕ) → Knows setup p.before p.event.session user → file_in setup user handle ≡ file_at setup p handle
known_file setup p None handle known = sym (ap (file_of (user_at setup p)) (known.files handle) ∙ file_of-none (user_at setup p))
known_file setup p (Some user) handle known =
    ap (λ a. file_of a (names_in (Some user) handle)) (sym (known.account refl)) ∙ ap (file_of (user_at setup p)) (sym (known.files handle))

-- the operations of an event are the clock's, and those of its decision
pub operations_split : (setup : Settings) (p : Place) (user : Option LoggedIn) (ask : Ask) (message : Option Message) (bytes : List ℕ) → Knows setup p.before p.event.session user → came_by_frame ask ≡ true → (is_export ask && is_permit p.event.decision) ≡ false → written_bytes setup.frames message ≡ bytes → operations_by setup p ask message ≡ map operation_of (clock_acts ask) ++ done_operations ask p.event.decision (file_in setup user) bytes
operations_split setup p user asks.Begin message bytes known request unhanded is = absurd cc
operations_split setup p user (asks.End why) message bytes known request unhanded is = absurd cc
operations_split setup p user (asks.Export len) message bytes known request unhanded is = go _ p.event.decision unhanded where
  go : (operations : List Operation) (d : Decision) → is_permit d ≡ false → if_permitted d operations ≡ []
  go operations (decisions.Permit value) h = absurd cc
  go operations (decisions.Deny rule detail) h = refl
  go operations decisions.Lost h = refl
operations_split setup p user (asks.ReadAt handle offset max) message bytes known request unhanded is = rw (known_file setup p user handle known) refl
operations_split setup p user (asks.WriteAt handle offset len) message bytes known request unhanded is = rw (known_file setup p user handle known, is) refl
operations_split setup p user (asks.Challenge name now) message bytes known request unhanded is = refl
operations_split setup p user _ message bytes known request unhanded is = refl

ask_read : (width : Width) (words : List (List ℕ)) (message : Message) (read : Result Request Bad) (ask : Ask) → MatchResult read (λ r. request_of width message.header.kind message.header.flags message.body ≡ Ok (value_of r)) (λ bad. request_of width message.header.kind message.header.flags message.body ≡ Err bad) → MatchResult read (λ r. Asks words (value_of r) ask) (λ bad. ask ≡ asks.Bad bad.rule bad.detail) → IsAskOf width words message ask
ask_read width words message (Ok request) ask exact is = rw exact is
ask_read width words message (Err bad) ask exact is = rw exact is

written_read : (width : Width) (message : Message) (read : Result Request Bad) → MatchResult read (λ r. request_of width message.header.kind message.header.flags message.body ≡ Ok (value_of r)) (λ bad. request_of width message.header.kind message.header.flags message.body ≡ Err bad) → written_bytes width (Some message) ≡ written_by (read_value read)
written_read width message (Ok request) exact = ap written_by exact
written_read width message (Err bad) exact = ap written_by exact

-- an event came by its message
pub asked_by_message : (w : Whose) (message : Message) (read : Result Request Bad) (ask : Ask) (user : Option LoggedIn) (old new : List Event) (e : Event) (s t : Option Scene) → (is : IsAsked w message read ask user old new e s t) → IsAskOf w.service.setup.frames w.service.words message e.ask
asked_by_message w message read ask user old new e s t is = subst (IsAskOf w.service.setup.frames w.service.words message) (sym is.joins.asks) (ask_read w.service.setup.frames w.service.words message read ask is.exact is.asks_it)

-- the step of an event that came by a message
abbrev pub step_at : List Event → Event → Message → List Act → Step
step_at before e message acts = record { place = place_of before e; message = Some message; acts = acts }

pub Steps-join : (setup : Settings) (worker : ℕ) (ask : Ask) (old new : List Event) (e : Event) (message : Message) (acts : List Act) → (joins : Joins setup worker ask old new e) → Steps worker (step_at joins.before e message acts ∷ []) old new
Steps-join setup worker ask old new e message acts joins = record {
  own = ap (λ j. worker_places j worker) joins.grown ∙ worker_places-own worker joins.before e joins.its ∙ ap (λ ps. ps ++ place_of joins.before e ∷ []) joins.others.places;
}

-- an event that came by a message is a request's step
pub is_step : (w : Whose) (message : Message) (read : Result Request Bad) (ask : Ask) (user : Option LoggedIn) (old new : List Event) (e : Event) (s t : Option Scene) → (is : IsAsked w message read ask user old new e s t) → (acts : List Act) → exports e ≡ false → map operation_of acts ≡ done_operations e.ask e.decision (file_in w.service.setup user) (written_by (read_value read)) → IsRequestStep w.service (step_at is.joins.before e message (clock_acts e.ask ++ acts))
unfolding operations_of
is_step w message read ask user old new e s t is acts unhanded are =
    let setup = w.service.setup in
    let p = place_of is.joins.before e in
    let request : came_by_frame e.ask ≡ true = ap came_by_frame is.joins.asks ∙ is.request in
    record {
      request = request;
      came = record { framed = is.right; asked = asked_by_message w message read ask user old new e s t is };
      acts = record {
        operations = map-append operation_of (clock_acts e.ask) acts ∙ ap (λ xs. map operation_of (clock_acts e.ask) ++ xs) are
            ∙ sym (operations_split setup p user e.ask (Some message) (written_by (read_value read)) (known_before w message read ask user old new e s t is) request unhanded (written_read setup.frames message read is.exact));
      };
    }

-- what is told by what is known is what is told by the journal
pub told_known : (service : Service) (exported : List ℕ) (p : Place) (user : Option LoggedIn) (ask : Ask) (value : ℕ) (first : AnswerValue) → Knows service.setup p.before p.event.session user → (kind_of ask ≡ Some kinds.Import → is_some user ≡ true) → (kind_of ask ≡ Some kinds.Info → is_some user ≡ true) → told_by service exported (account_in service.setup user) ask value first ≡ told_by service exported (user_at service.setup p) ask value first
told_known service exported p user asks.Import value first known import info = ap (λ a. told_by service exported a asks.Import value first) (sym (known.account (import refl)))
told_known service exported p user (asks.Info number) value first known import info = ap (λ a. told_by service exported a (asks.Info number) value first) (sym (known.account (info refl)))
told_known service exported p user asks.Begin value first known import info = refl
told_known service exported p user asks.Banner value first known import info = refl
told_known service exported p user (asks.Challenge name now) value first known import info = refl
told_known service exported p user (asks.Reply words hex) value first known import info = refl
told_known service exported p user asks.Abandon value first known import info = refl
told_known service exported p user (asks.Export len) value first known import info = refl
told_known service exported p user (asks.ReadAt handle offset max) value first known import info = refl
told_known service exported p user (asks.WriteAt handle offset len) value first known import info = refl
told_known service exported p user (asks.OpenFile mode name) value first known import info = refl
told_known service exported p user (asks.CloseFile handle) value first known import info = refl
told_known service exported p user (asks.Note text) value first known import info = refl
told_known service exported p user asks.Finish value first known import info = refl
told_known service exported p user (asks.Bad rule detail) value first known import info = refl
told_known service exported p user (asks.End why) value first known import info = refl

-- an operation that reads
reads : Operation → Bool
reads (Receives max) = true
reads (ReadsFile uid name offset max) = true
reads _ = false

none_read : (acts : List Act) → list_any reads (map operation_of acts) ≡ false → flat_map bytes_read acts ≡ []
unfolding reads
none_read [] h = refl
none_read (act ∷ acts) h = one act h (none_read acts) where
  one : (act : Act) → (reads (operation_of act) || list_any reads (map operation_of acts)) ≡ false → (list_any reads (map operation_of acts) ≡ false → flat_map bytes_read acts ≡ []) → bytes_read act ++ flat_map bytes_read acts ≡ []
  one (doings.Accept outcome) h rest = rest h
  one (doings.Start role outcome) h rest = rest h
  one (doings.Finish role) h rest = rest h
  one doings.HangUp h rest = rest h
  one (doings.ConnRecv max outcome) h rest = absurd cc
  one (doings.ConnSend bytes outcome) h rest = rest h
  one (doings.VaultRead uid name offset max outcome) h rest = absurd cc
  one (doings.VaultWrite uid name offset bytes outcome) h rest = rest h
  one (doings.Clock moment) h rest = rest h

writes_alone : (handle : ℕ) (file : Option File) (offset : ℕ) (bytes : List ℕ) → list_any reads (write_operations handle file offset bytes) ≡ false
unfolding reads
writes_alone zero file offset bytes = refl
writes_alone (suc handle) (Some file) offset bytes = refl
writes_alone (suc handle) None offset bytes = refl

-- where nothing was done, nothing is told
quiet : (acts : List Act) (answer : AnswerValue) → map operation_of acts ≡ [] → outcome_value (slice_get (filter_map failed_device acts) 0) (flat_map bytes_read acts) ≡ answer → answer ≡ Done []
quiet acts answer none comes = sym (ap (λ xs. outcome_value (slice_get (filter_map failed_device xs) 0) (flat_map bytes_read xs)) (sym (nothing_done acts none)) ∙ comes)

silent : (acts : List Act) (body : List ℕ) → map operation_of acts ≡ [] → outcome_value (slice_get (filter_map failed_device acts) 0) body ≡ Done body
silent acts body none = ap (λ xs. outcome_value (slice_get (filter_map failed_device xs) 0) body) (nothing_done acts none)

-- what comes of a permitted ask, by what its operation came to
permitted_is : (service : Service) (exported : List ℕ) (p : Place) (ask : Ask) (value : ℕ) (file : ℕ → Option File) (bytes : List ℕ) (outcome : Outcome) (piece : List ℕ) (s t : Option Scene) → (does : Does (done_operations ask (decisions.Permit value) file bytes) outcome piece s t) → is_export ask ≡ false → permitted_value service exported p (clock_acts ask ++ does.acts) ask value ≡ Some (told_by service exported (user_at service.setup p) ask value (told outcome piece))
permitted_is service exported p asks.Banner value file bytes outcome piece s t does h = ap Some (silent does.acts service.setup.banner does.are)
permitted_is service exported p (asks.Challenge name now) value file bytes outcome piece s t does h = ap Some (silent does.acts (challenge_text service.setup name value) does.are)
permitted_is service exported p asks.Import value file bytes outcome piece s t does h = ap Some (silent does.acts (imported_state (user_at service.setup p) exported) does.are)
permitted_is service exported p (asks.OpenFile mode name) value file bytes outcome piece s t does h = ap Some (silent does.acts (to_le_bytes w32 value) does.are)
permitted_is service exported p (asks.Info number) value file bytes outcome piece s t does h = ap Some (silent does.acts (info_text service.forms number (user_at service.setup p) value) does.are)
permitted_is service exported p (asks.Export len) value file bytes outcome piece s t does h = absurd cc
permitted_is service exported p (asks.ReadAt handle offset max) value file bytes outcome piece s t does h = ap Some does.comes
permitted_is service exported p (asks.WriteAt handle offset len) value file bytes outcome piece s t does h =
    let none : list_any reads (map operation_of does.acts) ≡ false = ap (list_any reads) does.are ∙ writes_alone handle (file handle) offset bytes in
    ap Some (ap (outcome_value (slice_get (filter_map failed_device does.acts) 0)) (sym (none_read does.acts none)) ∙ does.comes)
permitted_is service exported p asks.Begin value file bytes outcome piece s t does h = ap Some (silent does.acts [] does.are ∙ sym (quiet does.acts (told outcome piece) does.are does.comes))
permitted_is service exported p (asks.Reply words hex) value file bytes outcome piece s t does h = ap Some (silent does.acts [] does.are ∙ sym (quiet does.acts (told outcome piece) does.are does.comes))
permitted_is service exported p asks.Abandon value file bytes outcome piece s t does h = ap Some (silent does.acts [] does.are ∙ sym (quiet does.acts (told outcome piece) does.are does.comes))
permitted_is service exported p (asks.CloseFile handle) value file bytes outcome piece s t does h = ap Some (silent does.acts [] does.are ∙ sym (quiet does.acts (told outcome piece) does.are does.comes))
permitted_is service exported p (asks.Note text) value file bytes outcome piece s t does h = ap Some (silent does.acts [] does.are ∙ sym (quiet does.acts (told outcome piece) does.are does.comes))
permitted_is service exported p asks.Finish value file bytes outcome piece s t does h = ap Some (silent does.acts [] does.are ∙ sym (quiet does.acts (told outcome piece) does.are does.comes))
permitted_is service exported p (asks.Bad rule detail) value file bytes outcome piece s t does h = ap Some (silent does.acts [] does.are ∙ sym (quiet does.acts (told outcome piece) does.are does.comes))
permitted_is service exported p (asks.End why) value file bytes outcome piece s t does h = ap Some (silent does.acts [] does.are ∙ sym (quiet does.acts (told outcome piece) does.are does.comes))

-- an event's operations were done, and this is told, answered and framed
pub record IsDone (w : Whose) (message : Message) (read : Result Request Bad) (user : Option LoggedIn) (e : Event) (outcome : Outcome) (piece : List ℕ) (last answer : AnswerValue) (reply : List ℕ) (t u : Option Scene) : Type 0 where
  pub does : Does (done_operations e.ask e.decision (file_in w.service.setup user) (written_by (read_value read))) outcome piece t u
  pub unhanded : exports e ≡ false
  pub tells : last ≡ told_of w.service w.exported (account_in w.service.setup user) e.ask e.decision (told outcome piece)
  pub gives : Some answer ≡ answered (shown_of e.decision) last
  pub framed : reply ≡ spelling_of w.service.setup.frames (composed_of (reply_kind_of message.header.kind message.header.flags) message.header.peerid w.session (reply_of answer))

not_exported : (ask : Ask) (d : Decision) → (is_export ask && is_permit d) ≡ false → is_permit d ≡ true → is_export ask ≡ false
not_exported ask d h permit = go (is_export ask) h where
  go : (b : Bool) → (b && is_permit d) ≡ false → b ≡ false
  go false h = refl
  go true h = absurd (let e : false ≡ true = sym h ∙ permit in cc)

-- what is answered is what is told of the decision, as it is shown
answer_is : (w : Whose) (message : Message) (read : Result Request Bad) (user : Option LoggedIn) (p : Place) (outcome : Outcome) (piece : List ℕ) (last answer : AnswerValue) (reply : List ℕ) (t u : Option Scene) → (done : IsDone w message read user p.event outcome piece last answer reply t u) → Knows w.service.setup p.before p.event.session user → ((kind_of p.event.ask ≡ Some kinds.Import) → is_permit p.event.decision ≡ true → is_some user ≡ true) → ((kind_of p.event.ask ≡ Some kinds.Info) → is_permit p.event.decision ≡ true → is_some user ≡ true) → (d : Decision) → p.event.decision ≡ d → answered (shown_of d) last ≡ answer_value w.service w.exported p (clock_acts p.event.ask ++ done.does.acts) (shown_of d)
answer_is w message read user p outcome piece last answer reply t u done known import info (decisions.Permit value) is =
    let permit : is_permit p.event.decision ≡ true = ap is_permit is in
    let does : Does (done_operations p.event.ask (decisions.Permit value) (file_in w.service.setup user) (written_by (read_value read))) outcome piece t u = subst (λ d. Does (done_operations p.event.ask d (file_in w.service.setup user) (written_by (read_value read))) outcome piece t u) is done.does in
    let same : Some (told_by w.service w.exported (account_in w.service.setup user) p.event.ask value (told outcome piece)) ≡ Some last = ap Some (sym (done.tells ∙ ap (λ d. told_of w.service w.exported (account_in w.service.setup user) p.event.ask d (told outcome piece)) is)) in
    sym (permitted_value_is done.does is ∙ ap Some (sym (told_known w.service w.exported p user p.event.ask value (told outcome piece) known (λ k. import k permit) (λ k. info k permit))) ∙ same) where
      permitted_value_is : (does : Does (done_operations p.event.ask p.event.decision (file_in w.service.setup user) (written_by (read_value read))) outcome piece t u) → p.event.decision ≡ decisions.Permit value → permitted_value w.service w.exported p (clock_acts p.event.ask ++ does.acts) p.event.ask value ≡ Some (told_by w.service w.exported (user_at w.service.setup p) p.event.ask value (told outcome piece))
      permitted_value_is does is =
          permitted_is w.service w.exported p p.event.ask value (file_in w.service.setup user) (written_by (read_value read)) outcome piece t u (record { acts = does.acts; are = does.are ∙ ap (λ d. done_operations p.event.ask d (file_in w.service.setup user) (written_by (read_value read))) is; comes = does.comes; played = does.played }) (not_exported p.event.ask p.event.decision done.unhanded (ap is_permit is))
answer_is w message read user p outcome piece last answer reply t u done known import info (decisions.Deny rule detail) is =
    let P : Decision → Type 0 = λ d. answered d last ≡ answer_value w.service w.exported p (clock_acts p.event.ask ++ done.does.acts) d in
    elim (is_login_denial (decisions.Deny rule detail)) as (λ b. P (cond b (decisions.Deny 16 0) (decisions.Deny rule detail))) [ true ↦ refl | false ↦ refl ]
answer_is w message read user p outcome piece last answer reply t u done known import info decisions.Lost is = refl

-- the reply is the answer to the message
pub is_reply : (w : Whose) (message : Message) (read : Result Request Bad) (ask : Ask) (user : Option LoggedIn) (old new : List Event) (e : Event) (s t : Option Scene) → (is : IsAsked w message read ask user old new e s t) → (outcome : Outcome) (piece : List ℕ) (last answer : AnswerValue) (reply : List ℕ) (u : Option Scene) → (done : IsDone w message read user e outcome piece last answer reply t u) → reply ≡ reply_to w.service w.exported message (place_of is.joins.before e) (clock_acts e.ask ++ done.does.acts)
unfolding reply_to
is_reply w message read ask user old new e s t is outcome piece last answer reply u done =
    let p = place_of is.joins.before e in
    let known = known_before w message read ask user old new e s t is in
    let request : came_by_frame e.ask ≡ true = ap came_by_frame is.joins.asks ∙ is.request in
    let import : kind_of e.ask ≡ Some kinds.Import → is_permit e.decision ≡ true → is_some user ≡ true = λ k permit. sym known.exported ∙ import_after w.service.setup is.joins.before e is.joins.next request permit k in
    let info : kind_of e.ask ≡ Some kinds.Info → is_permit e.decision ≡ true → is_some user ≡ true = λ k permit. sym known.exported ∙ info_after w.service.setup is.joins.before e is.joins.next request permit k in
    let value : Some answer ≡ answer_value w.service w.exported p (clock_acts e.ask ++ done.does.acts) (shown_of e.decision) = done.gives ∙ answer_is w message read user p outcome piece last answer reply t u done known import info e.decision refl in
    done.framed ∙ ap (λ n. reply_bytes w.service.setup.frames message n (Some answer)) (sym (own_session w message read ask user old new e s t is)) ∙ ap (reply_bytes w.service.setup.frames message e.session) value

-- all that was done for the event: the clock, and its operations
pub all_played : (w : Whose) (message : Message) (read : Result Request Bad) (ask : Ask) (user : Option LoggedIn) (old new : List Event) (e : Event) (s t : Option Scene) → (is : IsAsked w message read ask user old new e s t) → (acts : List Act) (u : Option Scene) → Goes (Played acts [] []) t u → Goes (Played (clock_acts e.ask ++ acts) [] []) s u
all_played w message read ask user old new e s t is acts u played =
    let clock : Goes (Played (clock_acts e.ask) [] []) s t = subst (λ a. Goes (Played (clock_acts a) [] []) s t) (sym is.joins.asks) is.clock in
    Plays-then (clock_acts e.ask) acts [] [] [] [] s t u clock played
