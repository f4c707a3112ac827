-- A shipped child's part of a session, step by step.
use Rattle.std.proofs.Common.{◌≡◌, ◌≢◌, ℕ, zero, suc, ◌+◌, ◌<◌, ◌^◌, Bool, arith, true, false, List, [], ◌∷◌, ◌++◌, length, map, Option, Some, None}
use Rattle.std.proofs.Common.{option_to_list, cond, Result, refl, sym, ap, subst, ◌∙◌, append_assoc}
use Rattle.std.specs.Prelude.{filter_map, slice_get}
use Rattle.std.specs.List.{AllByRecursion}
use Rattle.std.specs.Option.{option_map_or}
use Rattle.std.proofs.lemmas.Bool.{false≢true}
use Rattle.request_catalogue.specs.declared.request.Bad.{Bad}
use Rattle.request_catalogue.specs.declared.width.Width.TheVariants as widths
use Rattle.request_catalogue.specs.Catalogue.{IsInRange, RequestValue}
use Rattle.request_catalogue.specs.Catalogue as requests
use Rattle.request_catalogue.specs.Replies.{AnswerValue, Denied, Done}
use Rattle.imsg_frame.specs.Message.{Message, spelling_of}
use Rattle.imsg_frame.specs.Requests.{request_message}
use Rattle.outside.specs.declared.act.Act.{Act}
use Rattle.outside.specs.declared.act.Act.TheVariants as acts
use Rattle.outside.specs.declared.act.Failed.{Failed}
use Rattle.policy_model.specs.declared.event.Ask.{Ask}
use Rattle.policy_model.specs.declared.event.Ask.TheVariants as asks
use Rattle.policy_model.specs.declared.event.Decision.{Decision}
use Rattle.policy_model.specs.declared.event.Decision.TheVariants.{Deny, Permit}
use Rattle.policy_model.specs.declared.event.Event.{Event}
use Rattle.policy_model.specs.Asks.{ends_session, exports, is_permit, shown_of}
use Rattle.policy_model.specs.Journal.{Place, has_lost}
use Rattle.policy_model.specs.Legal.{IsLegal}
use Rattle.session_laws.specs.Judged.{is_over_phase}
use Rattle.session_laws.proofs.SessionEvents.{count_of-other, count_of-own}
use Rattle.child_protocol.specs.Exchanges.{Exchange, sends_text, texts_of}
use Rattle.child_protocol.specs.Frames.{frame_width, request_bytes}
use Rattle.child_protocol.specs.Pre.{say}
use Rattle.child_protocol.specs.Says.{Pre, Role, next_request}
use Rattle.child_protocol.proofs.Frames.{reads_in}
use Rattle.service_model.specs.Acts.{AreActsOf, ReadsClock, Receives, Sends, failed_device, operation_of, operations_by}
use Rattle.service_model.specs.Acts.{operations_of, written_by, written_bytes}
use Rattle.service_model.specs.Answers.{answer_to, answer_value, answers, done_body, permitted_value, reply_message}
use Rattle.service_model.specs.Answers.{reply_to}
use Rattle.service_model.specs.Cases.{message_bytes, outcome_value, reply_bytes}
use Rattle.service_model.specs.Parts.{EndsSession, EndsSo, GoesOn, HandsOver, IsRequestStep, PartEnd, step_bytes}
use Rattle.service_model.specs.Places.{Step, step_places}
use Rattle.service_model.specs.Requests.{Asks}
use Rattle.service_model.specs.Service.{Service}
use Rattle.login_laws.specs.Login.{is_talk}
use Rattle.login_laws.proofs.Judged.{talk_by_frame, talk_permitted}
use Rattle.login_laws.proofs.Stages.{Lasts, Stage, event_as, more, quiet, spelled, talk_on}
use Rattle.login_laws.proofs.Walk.{At, Comes, Next, Stands, State, next_place, not_own, own_session, stays}
use Rattle.welcome_laws.specs.Welcome.{tells_client, texts_told}
use Rattle.welcome_laws.proofs.Meeting.{IsReadable, Meets, alike, alone, answered, begins, had, meets, not_alone}
use Rattle.welcome_laws.proofs.Rounds.{Went}

-- ---- what is answered

-- the answer to a permitted request, none of whose acts failed
pub answer_done : (service : Service) (exported : List ℕ) (session : ℕ) (request : RequestValue) (step : Step)
    (ask : Ask) (value : ℕ) → step.message ≡ Some (request_message request) → step.place.event.session ≡ session
    → step.place.event.ask ≡ ask → step.place.event.decision ≡ Permit value
    → ((len : ℕ) → ask ≡ asks.Export len → ⊥) → filter_map failed_device step.acts ≡ []
    → answer_to service exported step ≡ spelling_of service.setup.frames
    (reply_message (request_message request) session (Done (done_body service exported step.place step.acts ask value)))
unfolding reply_to
answer_done service exported session request step ask value message own is permit none sound =
    ap (λ (m : Option Message). option_map_or (λ x. reply_to service exported x step.place step.acts) m []) message
    ∙ ap (λ (d : Decision). reply_bytes service.setup.frames (request_message request) step.place.event.session
    (answer_value service exported step.place step.acts (shown_of d))) permit
    ∙ ap (λ (a : Ask). reply_bytes service.setup.frames (request_message request) step.place.event.session
    (permitted_value service exported step.place step.acts a value)) is
    ∙ ap (reply_bytes service.setup.frames (request_message request) step.place.event.session) (by_ask ask none)
    ∙ ap (λ n. spelling_of service.setup.frames (reply_message (request_message request) n
    (Done (done_body service exported step.place step.acts ask value)))) own where
      outcome : (body : List ℕ) → outcome_value (slice_get (filter_map failed_device step.acts) 0) body ≡ Done body
      outcome body = ap (λ xs. outcome_value (slice_get xs 0) body) sound

      by_ask : (a : Ask) → ((len : ℕ) → a ≡ asks.Export len → ⊥)
          → permitted_value service exported step.place step.acts a value ≡ Some
          (Done (done_body service exported step.place step.acts a value))
      by_ask (asks.Export len) never = absurd (never len refl)
      by_ask a never =
          ap (λ (v : AnswerValue). Some v) (outcome (done_body service exported step.place step.acts a value))

-- the answer to a denial, as it is shown
pub answer_denied : (service : Service) (exported : List ℕ) (session : ℕ) (request : RequestValue) (step : Step)
    (rule detail : ℕ) → step.message ≡ Some (request_message request) → step.place.event.session ≡ session
    → shown_of step.place.event.decision ≡ Deny rule detail
    → answer_to service exported step ≡ spelling_of service.setup.frames
    (reply_message (request_message request) session (Denied rule detail))
unfolding reply_to
answer_denied service exported session request step rule detail message own shown =
    ap (λ (m : Option Message). option_map_or (λ x. reply_to service exported x step.place step.acts) m []) message
    ∙ ap (λ (d : Decision). reply_bytes service.setup.frames (request_message request) step.place.event.session
    (answer_value service exported step.place step.acts d)) shown
    ∙ ap (λ n. spelling_of service.setup.frames (reply_message (request_message request) n (Denied rule detail))) own

-- a request that writes a text is asked as one that does
text_asked : (words : List (List ℕ)) (request : RequestValue) (ask : Ask) → Asks words request ask
    → tells_client ask ≡ sends_text request
text_asked words requests.Banner ask is = ap tells_client is
text_asked words (requests.Challenge user) ask is = ap tells_client is.3
text_asked words (requests.Reply text) ask is = ap tells_client is.3
text_asked words requests.Abandon ask is = ap tells_client is
text_asked words (requests.Export state) ask is = ap tells_client is
text_asked words requests.Import ask is = ap tells_client is
text_asked words (requests.ReadAt handle offset max) ask is = ap tells_client is
text_asked words (requests.WriteAt zero offset bytes) ask is = ap tells_client is
text_asked words (requests.WriteAt (suc handle) offset bytes) ask is = ap tells_client is
text_asked words (requests.OpenFile mode name) ask is = ap tells_client is.2
text_asked words (requests.CloseFile handle) ask is = ap tells_client is
text_asked words (requests.Info number) ask is = ap tells_client is
text_asked words (requests.Note text) ask is = ap tells_client is.2
text_asked words requests.Finish ask is = ap tells_client is

one_text : (b : Bool) (n : ℕ) → n + cond b 1 0 ≡ cond b (suc n) n
one_text true n = omega arith
one_text false n = omega arith

-- what holds of an event with this ask and this decision
pub event_by : (P : Event → Type 0) (e : Event) (ask : Ask) (d : Decision) → e.ask ≡ ask → e.decision ≡ d
    → P (event_as e ask d) → P e
event_by P e ask d is decided h = subst P (sym (spelled e ask d is decided)) h

-- ---- a part, where it stands

module _ (service : Service) (journal : List Event) (worker session : ℕ) (legal : IsLegal service.setup journal)
    (none : has_lost journal ≡ false) (small : session < 2 ^ 32) (role : Role) (exported : List ℕ) (end : PartEnd)
    (final : Option Step) (rest unread : List ℕ) (ended : EndsSo service.setup.frames end final rest unread)
    (behind : List Place) where
  -- the steps that are left: those that the child is served on after, and the one that ends its part
  abbrev pub left_of : List Step → List Step
  left_of served = served ++ option_to_list final

  -- the session stands so; and its first child has written the texts of these exchanges
  pub record Standing (s : State) (Q : List Event → Type 0) (history : List Exchange) (before : List Event)
      : Type 0 where
    pub at : At service.setup worker session s before
    pub known : Q before
    pub told : role ≡ Pre → texts_told before session ≡ texts_of history

  others_stand : (s : State) (Q : List Event → Type 0) (history : List Exchange)
      → Lasts service.setup journal worker session Q → (before : List Event) (e : Event)
      → Comes service.setup journal before e → e.worker ≢ worker → Standing s Q history before
      → Standing s Q history (before ++ e ∷ [])
  others_stand s Q history lasts before e comes other x = record {
    at = stays service.setup journal worker session s before e comes other x.at;
    known = lasts.others s before e x.at comes other x.known;
    told = λ first. count_of-other before e session (λ y. tells_client y.ask)
        (not_own service.setup journal worker session s before e x.at comes other) ∙ x.told first;
  }

  at_standing : (s : State) (Q : List Event → Type 0) (history : List Exchange)
      → Lasts service.setup journal worker session Q → (before : List Event) (p : Place) (places : List Place)
      → Standing s Q history before → Stands journal worker before (p ∷ places)
      → Next service.setup journal worker (Standing s Q history) p places
  at_standing s Q history lasts before p places x stands =
      next_place service.setup journal worker legal none (Standing s Q history) (others_stand s Q history lasts) before
      p places x stands

  -- the session stands so, the child has had these exchanges, and these steps are left
  pub record Now (s : State) (Q : List Event → Type 0) (history : List Exchange) (served : List Step) : Type 0 where
    pub before : List Event
    pub stage : Standing s Q history before
    pub stands : Stands journal worker before (step_places (left_of served) ++ behind)
    pub each : AllByRecursion (IsRequestStep service) (left_of served)
    pub on : AllByRecursion (GoesOn service exported) served
    pub went : Went role session history (answers service exported (left_of served))
        (step_bytes service.setup.frames (left_of served) ++ (rest ++ unread))

  -- the step at which the child's next request is served
  pub record Served (request : RequestValue) (s : State) (Q : List Event → Type 0) (history : List Exchange)
      (served : List Step) : Type 0 where
    pub step : Step
    pub left : List Step
    pub are : left_of served ≡ step ∷ left
    pub is : IsRequestStep service step
    pub meets : Meets service request step (step_bytes service.setup.frames left ++ (rest ++ unread))
        (step_bytes service.setup.frames (left_of served) ++ (rest ++ unread))
    pub next : Next service.setup journal worker (Standing s Q history) step.place (step_places left ++ behind)
    pub went : Went role session history (answer_to service exported step ++ answers service exported left)
        (request_bytes request ++ (step_bytes service.setup.frames left ++ (rest ++ unread)))
    pub each : AllByRecursion (IsRequestStep service) left
    -- where it neither ends the session nor exports, it is one that the child is served on after
    pub inner : ends_session step.place.event ≡ false → exports step.place.event ≡ false
        → (more : List Step) × (served ≡ step ∷ more) × (left ≡ left_of more) × AllByRecursion (GoesOn service exported) more
    -- where it exports, it is the one that ends the part, which hands over
    pub last : ends_session step.place.event ≡ false → exports step.place.event ≡ true
        → (served ≡ []) × (final ≡ Some step) × (left ≡ []) × (end ≡ HandsOver)

  -- a step after which the part may end
  final_served : (step : Step) → final ≡ Some step → ends_session step.place.event ≡ false
      → (exports step.place.event ≡ true) × (end ≡ HandsOver)
  final_served step is going =
      by_end end (subst (λ (f : Option Step). EndsSo service.setup.frames end f rest unread) is ended) where
        by_end : (e : PartEnd) → EndsSo service.setup.frames e (Some step) rest unread
            → (exports step.place.event ≡ true) × (e ≡ HandsOver)
        by_end (EndsSession why) so = absurd (false≢true (sym going ∙ so.0))
        by_end HandsOver so = (so, refl)

  pub next_served : (request : RequestValue) (s : State) (Q : List Event → Type 0) (history : List Exchange)
      (served : List Step) → Lasts service.setup journal worker session Q → Now s Q history served
      → next_request role history ≡ Some request → IsInRange frame_width request → length history < 4097
      → Served request s Q history served
  next_served request s Q history [] lasts now asked in_range few =
      by_final final refl now.stands now.each now.went where
        by_final : (f : Option Step) → final ≡ f
            → Stands journal worker now.before (step_places (option_to_list f) ++ behind)
            → AllByRecursion (IsRequestStep service) (option_to_list f)
            → Went role session history (answers service exported (option_to_list f))
            (step_bytes service.setup.frames (option_to_list f) ++ (rest ++ unread))
            → Served request s Q history []
        by_final None is stands each went =
            absurd (by_end end (subst (λ (f : Option Step). EndsSo service.setup.frames end f rest unread) is
            ended)) where
              same : rest ++ unread ≡ request_bytes request
              same = alone role session history (rest ++ unread) request asked few went

              by_end : (e : PartEnd) → EndsSo service.setup.frames e None rest unread → ⊥
              by_end (EndsSession why) so = not_alone service.setup.frames why rest unread request in_range so same
              by_end HandsOver so = so
        by_final (Some step) is stands each went =
            let n = at_standing s Q history lasts now.before step.place behind now.stage stands in
            let m = meets service request step (step_bytes service.setup.frames (step ∷ []) ++ (rest ++ unread))
            (rest ++ unread) in_range each.0 (begins role session history (answers service exported (step ∷ []))
            (step_bytes service.setup.frames (step ∷ []) ++ (rest ++ unread)) request went asked few)
            (append_assoc (message_bytes service.setup.frames step.message) [] (rest ++ unread)) in
            record {
              step = step;
              left = [];
              are = ap (λ (f : Option Step). option_to_list f) is;
              is = each.0;
              meets = subst (λ (f : Option Step). Meets service request step (rest ++ unread)
                  (step_bytes service.setup.frames (option_to_list f) ++ (rest ++ unread))) (sym is) m;
              next = n;
              went = subst (λ b. Went role session history (answer_to service exported step ++ []) b) m.said_is went;
              each = tt;
              inner = λ going unexported. absurd (false≢true (sym unexported ∙ (final_served step is going).0));
              last = λ going exported'. (refl, is, refl, (final_served step is going).1);
            }
  next_served request s Q history (step ∷ more) lasts now asked in_range few =
      let n = at_standing s Q history lasts now.before step.place (step_places (left_of more) ++ behind) now.stage
      now.stands in
      let same = append_assoc (message_bytes service.setup.frames step.message)
      (step_bytes service.setup.frames (left_of more)) (rest ++ unread) in
      let m = meets service request step (step_bytes service.setup.frames (left_of (step ∷ more)) ++ (rest ++ unread))
      (step_bytes service.setup.frames (left_of more) ++ (rest ++ unread)) in_range now.each.0
      (begins role session history (answers service exported (left_of (step ∷ more)))
      (step_bytes service.setup.frames (left_of (step ∷ more)) ++ (rest ++ unread)) request now.went asked few) same in
      record {
        step = step;
        left = left_of more;
        are = refl;
        is = now.each.0;
        meets = m;
        next = n;
        went = subst (λ b. Went role session history (answer_to service exported step ++ answers service exported
            (left_of more)) b) m.said_is now.went;
        each = now.each.1;
        inner = λ going unexported. (more, refl, refl, now.on.1);
        last = λ going exported'. absurd (false≢true (sym now.on.0.unexported ∙ exported'));
      }

  told_on : (request : RequestValue) (answer : AnswerValue) (s : State) (Q : List Event → Type 0)
      (history : List Exchange) (served : List Step) (v : Served request s Q history served) → role ≡ Pre
      → texts_told (v.step.place.before ++ v.step.place.event ∷ []) session ≡ texts_of (had request answer ∷ history)
  told_on request answer s Q history served v first =
      let p = v.step.place in
      let n = v.next in
      let own = own_session service.setup journal worker session s p.before p.event n.holds.at n.comes n.own
      v.is.request in
      count_of-own p.before p.event session (λ y. tells_client y.ask) own
      ∙ ap (λ b. texts_told p.before session + cond b 1 0) (text_asked service.words request p.event.ask v.meets.asks)
      ∙ ap (λ n. n + cond (sends_text request) 1 0) (n.holds.told first) ∙ one_text (sends_text request)
      (texts_of history)

  -- after the answer to a request that neither ended the session nor exported
  pub record Behind (s : State) (Q : List Event → Type 0) (history : List Exchange) (served : List Step) (step : Step)
      (left : List Step) : Type 0 where
    pub more : List Step
    pub served_is : served ≡ step ∷ more
    pub left_is : left ≡ left_of more
    pub now : Now s Q history more

  pub answered_now : (request : RequestValue) (answer : AnswerValue) (s next : State) (Q R : List Event → Type 0)
      (history : List Exchange) (served : List Step) (v : Served request s Q history served)
      → next_request role history ≡ Some request → length history < 4097 → ends_session v.step.place.event ≡ false
      → exports v.step.place.event ≡ false
      → Stage service.setup journal worker session next R (v.step.place.before ++ v.step.place.event ∷ [])
      → answer_to service exported v.step ≡ spelling_of service.setup.frames
      (reply_message (request_message request) session answer) → IsReadable session request answer
      → Behind next R (had request answer ∷ history) served v.step v.left
  answered_now request answer s next Q R history served v asked few going unexported stage told read =
      let inner = v.inner going unexported in
      let reply = reply_message (request_message request) session answer in
      let a = alike service.setup.frames reply read.is refl in
      let heard : answer_to service exported v.step ++ answers service exported v.left ≡ spelling_of widths.Narrow reply
      ++ answers service exported v.left = ap (λ b. b ++ answers service exported v.left) (told ∙ sym a.spelled) in
      let w = answered role session history request answer (answers service exported v.left)
      (step_bytes service.setup.frames v.left ++ (rest ++ unread)) asked few read
      (subst (λ b. Went role session history b (request_bytes request
      ++ (step_bytes service.setup.frames v.left ++ (rest ++ unread)))) heard v.went) in
      record {
        more = inner.0;
        served_is = inner.1;
        left_is = inner.2;
        now = record {
          before = v.step.place.before ++ v.step.place.event ∷ [];
          stage = record { at = stage.at; known = stage.known; told = told_on request answer s Q history served v };
          stands = subst (λ steps. Stands journal worker (v.step.place.before ++ v.step.place.event ∷ [])
              (step_places steps ++ behind)) inner.2 v.next.behind;
          each = subst (λ steps. AllByRecursion (IsRequestStep service) steps) inner.2 v.each;
          on = inner.3;
          went = subst (λ steps. Went role session (had request answer ∷ history) (answers service exported steps)
              (step_bytes service.setup.frames steps ++ (rest ++ unread))) inner.2 w;
        };
      }

  -- ---- talk

  -- a request that is talk was permitted, and the session stands as before with one ask more
  pub record Talks (s : State) (Q : List Event → Type 0) (step : Step) : Type 0 where
    pub permit : step.place.event.decision ≡ Permit 0
    pub own : step.place.event.session ≡ session
    pub going : ends_session step.place.event ≡ false
    pub unexported : exports step.place.event ≡ false
    pub stage : Stage service.setup journal worker session (more 1 s) Q (step.place.before ++ step.place.event ∷ [])

  pub talks : (request : RequestValue) (s : State) (Q : List Event → Type 0) (history : List Exchange)
      (served : List Step) → Lasts service.setup journal worker session Q → (v : Served request s Q history served)
      → is_talk v.step.place.event.ask ≡ true → is_over_phase s.phase ≡ false → s.asked < service.setup.requests
      → Talks s Q v.step
  talks request s Q history served lasts v talk live few =
      let p = v.step.place in
      let n = v.next in
      let permit = talk_permitted service.setup journal worker session s p.before p.event n.holds.at n.comes n.own live
      few talk in
      let q = quiet p.event talk permit in
      let own = own_session service.setup journal worker session s p.before p.event n.holds.at n.comes n.own
      (talk_by_frame p.event.ask talk) in
      record {
        permit = permit;
        own = own;
        going = q.goes_on;
        unexported = q.exports_none;
        stage = record {
          at = talk_on service.setup journal worker session s p.before p.event n.holds.at n.comes n.own
              talk q;
          known = lasts.quiet p.before p.event n.holds.at.legal n.comes.next own q n.holds.known;
        };
      }

-- ---- the acts of talk

-- the acts of a text to the client
one_sent : (done : List Act) (text : List ℕ) → map operation_of done ≡ Sends text ∷ []
    → (outcome : Result (Unit {0}) Failed) × (done ≡ acts.ConnSend text outcome ∷ [])
one_sent [] text h = absurd cc
one_sent (acts.ConnSend bytes outcome ∷ []) text h =
    let same : bytes ≡ text = cc in (outcome, ap (λ b. acts.ConnSend b outcome ∷ []) same)
one_sent (acts.Accept outcome ∷ []) text h = absurd cc
one_sent (acts.Start role outcome ∷ []) text h = absurd cc
one_sent (acts.Finish role ∷ []) text h = absurd cc
one_sent (acts.HangUp ∷ []) text h = absurd cc
one_sent (acts.ConnRecv max outcome ∷ []) text h = absurd cc
one_sent (acts.VaultRead uid name offset max outcome ∷ []) text h = absurd cc
one_sent (acts.VaultWrite uid name offset bytes outcome ∷ []) text h = absurd cc
one_sent (acts.Clock moment ∷ []) text h = absurd cc
one_sent (a ∷ b ∷ done) text h = absurd cc

one_received : (done : List Act) (max : ℕ) → map operation_of done ≡ Receives max ∷ []
    → (outcome : Result (List ℕ) Failed) × (done ≡ acts.ConnRecv max outcome ∷ [])
one_received [] max h = absurd cc
one_received (acts.ConnRecv most outcome ∷ []) max h =
    let same : most ≡ max = cc in (outcome, ap (λ n. acts.ConnRecv n outcome ∷ []) same)
one_received (acts.Accept outcome ∷ []) max h = absurd cc
one_received (acts.Start role outcome ∷ []) max h = absurd cc
one_received (acts.Finish role ∷ []) max h = absurd cc
one_received (acts.HangUp ∷ []) max h = absurd cc
one_received (acts.ConnSend bytes outcome ∷ []) max h = absurd cc
one_received (acts.VaultRead uid name offset most outcome ∷ []) max h = absurd cc
one_received (acts.VaultWrite uid name offset bytes outcome ∷ []) max h = absurd cc
one_received (acts.Clock moment ∷ []) max h = absurd cc
one_received (a ∷ b ∷ done) max h = absurd cc

pub one_clock : (done : List Act) (moment : ℕ) → map operation_of done ≡ ReadsClock moment ∷ []
    → done ≡ acts.Clock moment ∷ []
one_clock [] moment h = absurd cc
one_clock (acts.Clock other ∷ []) moment h = let same : other ≡ moment = cc in ap (λ n. acts.Clock n ∷ []) same
one_clock (acts.Accept outcome ∷ []) moment h = absurd cc
one_clock (acts.Start role outcome ∷ []) moment h = absurd cc
one_clock (acts.Finish role ∷ []) moment h = absurd cc
one_clock (acts.HangUp ∷ []) moment h = absurd cc
one_clock (acts.ConnRecv max outcome ∷ []) moment h = absurd cc
one_clock (acts.ConnSend bytes outcome ∷ []) moment h = absurd cc
one_clock (acts.VaultRead uid name offset max outcome ∷ []) moment h = absurd cc
one_clock (acts.VaultWrite uid name offset bytes outcome ∷ []) moment h = absurd cc
one_clock (a ∷ b ∷ done) moment h = absurd cc

pub no_acts : (done : List Act) → map operation_of done ≡ [] → done ≡ []
no_acts [] h = refl
no_acts (a ∷ done) h = absurd cc

pub says_text : (service : Service) (step : Step) (text : List ℕ) → IsInRange frame_width (say text)
    → IsRequestStep service step → step.message ≡ Some (request_message (say text))
    → step.place.event.ask ≡ asks.WriteAt 0 0 (length text) → step.place.event.decision ≡ Permit 0
    → (outcome : Result (Unit {0}) Failed) × (step.acts ≡ acts.ConnSend text outcome ∷ [])
unfolding operations_of
says_text service step text in_range is message ask permit =
    one_sent step.acts text (is.acts.operations ∙ ops ask permit message) where
      written : written_bytes service.setup.frames (Some (request_message (say text))) ≡ text
      written = ap (λ (r : Result RequestValue Bad). written_by r) (reads_in (say text) in_range service.setup.frames)

      ops : step.place.event.ask ≡ asks.WriteAt 0 0 (length text) → step.place.event.decision ≡ Permit 0
          → step.message ≡ Some (request_message (say text))
          → operations_of service.setup step.place step.message ≡ Sends text ∷ []
      ops a d m =
          ap (λ (x : Option Message). operations_of service.setup step.place x) m
          ∙ ap (λ (k : Ask). operations_by service.setup step.place k (Some (request_message (say text)))) a
          ∙ ap (λ (x : Decision). cond (is_permit x) (Sends
          (written_bytes service.setup.frames (Some (request_message (say text)))) ∷ []) []) d
          ∙ ap (λ b. Sends b ∷ []) written

pub receives_bytes : (service : Service) (step : Step) (message : Option Message) (max : ℕ)
    → AreActsOf service.setup step.place message step.acts → step.place.event.ask ≡ asks.ReadAt 0 0 max
    → step.place.event.decision ≡ Permit 0
    → (outcome : Result (List ℕ) Failed) × (step.acts ≡ acts.ConnRecv max outcome ∷ [])
unfolding operations_of
receives_bytes service step message max are ask permit =
    one_received step.acts max (are.operations ∙ ap (λ (k : Ask). operations_by service.setup step.place k message) ask
    ∙ ap (λ (x : Decision). cond (is_permit x) (Receives max ∷ []) []) permit)
