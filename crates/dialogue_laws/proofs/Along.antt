-- A shipped child's part of a session, step by step: its session's events stay those of its dialogue.
use Rattle.std.proofs.Common.{◌≡◌, ◌≢◌, ℕ, ◌<◌, ◌≤◌, ◌^◌, true, false, List, [], ◌∷◌, ◌++◌, length, Option}
use Rattle.std.proofs.Common.{Some, None, option_to_list, refl, sym, ap, subst, ◌∙◌, append_assoc, arith}
use Rattle.std.specs.Prelude.{IsSomeAnd}
use Rattle.std.specs.List.{AllByRecursion}
use Rattle.std.proofs.lemmas.List.{length-append}
use Rattle.request_catalogue.specs.Catalogue.{RequestValue}
use Rattle.request_catalogue.specs.Replies.{AnswerValue, reply_kind_of}
use Rattle.request_catalogue.specs.Widths.{frame_max}
use Rattle.imsg_frame.specs.Message.{Message, composed_of, spelling_of}
use Rattle.imsg_frame.specs.Requests.{request_message}
use Rattle.imsg_frame.proofs.Spelling.{length-spelling_of}
use Rattle.policy_model.specs.declared.event.Decision.{Decision}
use Rattle.policy_model.specs.declared.event.Decision.TheVariants.{Deny, Lost, Permit}
use Rattle.policy_model.specs.declared.event.Event.{Event}
use Rattle.policy_model.specs.declared.ranges.TheConstants.{EVENTS_LIMIT}
use Rattle.policy_model.specs.Asks.{is_lost, is_permit, is_violation, shown_of}
use Rattle.policy_model.specs.Journal.{Place, events_of}
use Rattle.policy_model.specs.Legal.{IsLegal}
use Rattle.policy_model.specs.Settings.{IsInRange, Settings}
use Rattle.policy_model.proofs.Legal.{IsLegal-push}
use Rattle.session_laws.proofs.SessionEvents.{events_of-other, events_of-own}
use Rattle.child_protocol.specs.Exchanges.{Exchange}
use Rattle.child_protocol.specs.Frames.{request_bytes}
use Rattle.child_protocol.specs.Says.{Pre, Role, User, next_request}
use Rattle.service_model.specs.Answers.{answer_to, answers, reply_message}
use Rattle.service_model.specs.Cases.{message_bytes}
use Rattle.service_model.specs.Parts.{GoesOn, IsRequestStep, step_bytes}
use Rattle.service_model.specs.Places.{Step, step_places}
use Rattle.service_model.specs.Requests.{Asks, CameBy}
use Rattle.service_model.specs.Service.{Service}
use Rattle.login_laws.proofs.Walk.{At, Comes, Stands, State, after, goes_on, not_own, own_session, stays}
use Rattle.dialogue_laws.specs.Dialogue.{Answers, HasDialogue, StandsAlike}
use Rattle.dialogue_laws.proofs.PhaseLaw.{no_violation}
use Rattle.welcome_laws.proofs.Meeting.{had, meets}
use Rattle.welcome_laws.proofs.Rounds.{Went}
use Rattle.dialogue_laws.specs.Children.{AreDialogue, AreMild, IsExchanged, IsAskedNext}
use Rattle.dialogue_laws.proofs.Answering.{Answered, answered_on, kept_on, kind_asked, told_as}
use Rattle.dialogue_laws.proofs.Details.{denial_fits}
use Rattle.dialogue_laws.proofs.Following.{Follows, UnlessLost, follows, none_before, none_behind}
use Rattle.dialogue_laws.proofs.Hearing.{Took, reply_framed, says_first, took}
use Rattle.dialogue_laws.proofs.PreRanges.{pre_ranged}
use Rattle.dialogue_laws.proofs.Ranges.{IsHeard, Ranged}
use Rattle.dialogue_laws.proofs.UserRanges.{user_ranged}

ranged : (role : Role) (history : List Exchange) (request : RequestValue) → IsHeard role history
    → next_request role history ≡ Some request → Ranged request
ranged Pre history request heard next = pre_ranged history request heard next
ranged (User who) history request heard next = user_ranged who history request heard next

-- ---- a session's events are a child's dialogue

same_dialogue : (one two : List Event) (session : ℕ) (role : Role) (history : List Exchange)
    → events_of two session ≡ events_of one session → HasDialogue one session role history
    → HasDialogue two session role history
same_dialogue one two session Pre history same d =
    record { opening = d.opening; events = d.events; are = same ∙ d.are; opened = d.opened; early = d.early }
same_dialogue one two session (User who) history same d = record {
  opening = d.opening;
  exchange = d.exchange;
  earlier = d.earlier;
  first = d.first;
  second = d.second;
  are = same ∙ d.are;
  opened = d.opened;
  early = d.early;
  left = d.left;
  permitted = d.permitted;
  late = d.late;
}

longer_dialogue : (before : List Event) (session : ℕ) (role : Role) (history : List Exchange) (e : Event)
    (x : Exchange) → e.session ≡ session → next_request role history ≡ Some x.request → Answers e x
    → HasDialogue before session role history → HasDialogue (before ++ e ∷ []) session role (x ∷ history)
longer_dialogue before session Pre history e x own next answers d = record {
  opening = d.opening;
  events = d.events ++ e ∷ [];
  are = events_of-own before e session own ∙ ap (λ es. es ++ e ∷ []) d.are;
  opened = d.opened;
  early = (d.events, e, refl, next, answers, d.early);
}
longer_dialogue before session (User who) history e x own next answers d = record {
  opening = d.opening;
  exchange = d.exchange;
  earlier = d.earlier;
  first = d.first;
  second = d.second ++ e ∷ [];
  are = events_of-own before e session own ∙ ap (λ es. es ++ e ∷ []) d.are
      ∙ ap (λ es. d.opening ∷ es) (append_assoc d.first d.second (e ∷ []));
  opened = d.opened;
  early = d.early;
  left = d.left;
  permitted = d.permitted;
  late = (d.second, e, refl, next, answers, d.late);
}

-- a worker's open session stands after these exchanges
pub record Talked (setup : Settings) (worker session : ℕ) (role : Role) (history : List Exchange)
    (before : List Event) : Type 0 where
  pub state : State
  pub at : At setup worker session state before
  pub dialogue : HasDialogue before session role history

talked_aside : (setup : Settings) (journal : List Event) (worker session : ℕ) (role : Role) (history : List Exchange)
    (before : List Event) (e : Event) → Comes setup journal before e → e.worker ≢ worker
    → Talked setup worker session role history before → Talked setup worker session role history (before ++ e ∷ [])
talked_aside setup journal worker session role history before e comes other t = record {
  state = t.state;
  at = stays setup journal worker session t.state before e comes other t.at;
  dialogue = same_dialogue before (before ++ e ∷ []) session role history
      (events_of-other before e session (not_own setup journal worker session t.state before e t.at comes other))
      t.dialogue;
}

mild_of : (d : Decision) (requests : ℕ) → (is_lost d ≡ false → is_violation d ≡ true → d ≡ Deny 1 requests)
    → is_violation d ≡ true → d ≡ Deny 1 requests
mild_of (Permit value) requests kept violates = absurd cc
mild_of (Deny rule detail) requests kept violates = kept refl violates
mild_of Lost requests kept violates = absurd cc

pub permit_kept : (d : Decision) → is_permit d ≡ true → is_lost d ≡ false
permit_kept (Permit value) is = refl
permit_kept (Deny rule detail) is = absurd cc
permit_kept Lost is = absurd cc

none_more : {X : Type 0} (xs : List X) (x : X) → xs ++ x ∷ [] ≡ [] → ⊥
none_more [] x is = cc
none_more (y ∷ xs) x is = cc

-- the bytes of a step's message
bytes_some : (service : Service) (step : Step) → IsRequestStep service step
    → 1 ≤ length (message_bytes service.setup.frames step.message)
bytes_some service step is = by step.message is.came where
  by : (o : Option Message) → IsSomeAnd o (λ m. CameBy service m step.place.event.ask)
      → 1 ≤ length (message_bytes service.setup.frames o)
  by None came = absurd came
  by (Some m) came = omega (arith, length-spelling_of service.setup.frames m)

-- ---- the part

module _ (service : Service) (journal : List Event) (legal : IsLegal service.setup journal)
    (few : length journal ≤ EVENTS_LIMIT) (range : IsInRange service.setup) (worker session : ℕ)
    (small : session < 2 ^ 32) (role : Role) (exported : List ℕ) (final : Option Step) (last rest : List ℕ)
    (behind : List Place) where
  -- the steps that are left: those that the child is served on after, and the one that ends its part
  abbrev left_of : List Step → List Step
  left_of served = served ++ option_to_list final

  -- the bytes of these steps and of what is left over
  abbrev said_by : List Step → List ℕ
  said_by steps = step_bytes service.setup.frames steps ++ rest

  -- the child had these exchanges, and these steps are left
  pub record Now (history : List Exchange) (served : List Step) : Type 0 where
    pub before : List Event
    pub front : IsLegal service.setup before
    pub talked : UnlessLost (Talked service.setup worker session role history) before
    pub stands : Stands journal worker before (step_places (left_of served) ++ behind)
    pub each : AllByRecursion (IsRequestStep service) (left_of served)
    pub on : AllByRecursion (GoesOn service exported) served
    pub heard : IsHeard role history
    pub went : Went role session history (answers service exported served ++ last) (said_by (left_of served))

  -- the child's next request, at its step
  pub record First (history : List Exchange) (step : Step) (left : List Step) : Type 0 where
    pub request : RequestValue
    pub ranged : Ranged request
    pub asks : Asks service.words request step.place.event.ask
    pub said_is : said_by (step ∷ left) ≡ request_bytes request ++ said_by left
    pub follows : Follows service.setup journal worker (Talked service.setup worker session role history) step.place
        (step_places left ++ behind)
    pub asked : IsAskedNext service role history request step

  first : (history : List Exchange) (step : Step) (left : List Step) (before : List Event) (replies : List ℕ)
      → IsLegal service.setup before → UnlessLost (Talked service.setup worker session role history) before
      → Stands journal worker before (step.place ∷ (step_places left ++ behind)) → IsRequestStep service step
      → IsHeard role history → Went role session history replies (said_by (step ∷ left)) → First history step left
  first history step left before replies front talked stands is heard went =
      let regrouped = append_assoc (message_bytes service.setup.frames step.message)
      (step_bytes service.setup.frames left) rest in
      let some : 1 ≤ length (said_by (step ∷ left)) = omega (
        arith,
        ap length regrouped,
        length-append (message_bytes service.setup.frames step.message) (said_by left),
        bytes_some service step is,
      ) in
      let says = says_first role session history replies (said_by (step ∷ left)) went some in
      let request = says.request in
      let in_range = ranged role history request heard says.next in
      let m = meets service request step (said_by (step ∷ left)) (said_by left) in_range is says.begins regrouped in
      let f = follows service.setup journal worker legal (Talked service.setup worker session role history)
      (talked_aside service.setup journal worker session role history) before step.place (step_places left ++ behind)
      front talked stands in
      let p = step.place in
      record {
        request = request;
        ranged = in_range;
        asks = m.asks;
        said_is = m.said_is;
        follows = f;
        asked = record {
          next = says.next;
          message = m.message;
          stands = λ kept.
              let t = f.holds (none_before service.setup p.before p.event f.next kept) in
              let own = own_session service.setup journal worker session t.state p.before p.event t.at
              (record { next = f.next; kept = kept; stands = f.stands }) f.own is.request in
              subst (λ (n : ℕ). StandsAlike service.setup p.before n role history p.event) (sym own)
              (no_violation service.setup p.before worker session role history t.dialogue request says.next p.event
              (record {
                session_is = t.at.opened;
                some = t.at.some;
                next = f.next;
                own = f.own;
                kept = kept;
                kind = kind_asked service.words request p.event.ask m.asks;
              }));
        };
      }

  -- the request was answered, and the child has one exchange more
  record Onward (history : List Exchange) (request : RequestValue) (step : Step) (more : List Step) : Type 0 where
    pub answer : AnswerValue
    pub answered : IsExchanged service exported (had request answer) step
    pub now : Now (had request answer ∷ history) more

  onward : (history : List Exchange) (step : Step) (more : List Step) → Now history (step ∷ more)
      → (f : First history step (left_of more)) → 1 ≤ length (said_by (left_of more))
      → UnlessLost (Talked service.setup worker session role history) step.place.before
      → Onward history f.request step more
  onward history step more now f some talked = record {
    answer = t.answer;
    answered = record {
      told = answered;
      sent = a.sent
          ∙ ap (λ b. spelling_of service.setup.frames (composed_of (reply_kind_of m.header.kind m.header.flags)
          m.header.peerid session b)) t.same
          ∙ ap (λ n. spelling_of service.setup.frames (reply_message m n t.answer)) (sym own);
    };
    now = record {
      before = p.before ++ p.event ∷ [];
      front = IsLegal-push service.setup p.before p.event f.follows.legal f.follows.next;
      talked = λ none. on (talked (none_behind p.before p.event none).0);
      stands = f.follows.behind;
      each = now.each.1;
      on = now.on.1;
      heard = (f.asked.next, t.in_range, t.fits, now.heard);
      went = t.went;
    };
  } where
    p : Place
    p = step.place

    m : Message
    m = request_message f.request

    kept : is_lost p.event.decision ≡ false
    kept = kept_on p.event now.on.0.unended

    comes : Comes service.setup journal p.before p.event
    comes = record { next = f.follows.next; kept = kept; stands = f.follows.stands }

    before_it : Talked service.setup worker session role history p.before
    before_it = talked (none_before service.setup p.before p.event f.follows.next kept)

    own : p.event.session ≡ session
    own =
        own_session service.setup journal worker session before_it.state p.before p.event before_it.at comes
        f.follows.own now.each.0.request

    a : Answered service exported session f.request step
    a = answered_on service exported session f.request step f.asked.message own now.on.0

    t : Took role session history f.request a.value (answers service exported more ++ last) (said_by (left_of more))
    t =
        took service.setup.frames role session history f.request a.value (answers service exported more ++ last)
        (said_by (left_of more)) f.asked.next
        (reply_framed service.setup.frames session f.request a.value small
        (subst (λ (b : List ℕ). length b ≤ frame_max service.setup.frames) a.sent
        now.on.0.fits)) some
        (subst (λ b. Went role session history (b ++ (answers service exported more ++ last))
        (request_bytes f.request ++ said_by (left_of more))) a.sent
        (subst (λ b. Went role session history b (request_bytes f.request ++ said_by (left_of more)))
        (append_assoc (answer_to service exported step) (answers service exported more) last)
        (subst (λ b. Went role session history (answers service exported (step ∷ more) ++ last) b) f.said_is now.went)))

    short : length p.before ≤ EVENTS_LIMIT
    short =
        omega (
          arith,
          ap length f.follows.stands.parts,
          length-append p.before (p.event ∷ f.follows.stands.rest),
          few,
        )

    answered : Answers p.event (had f.request t.answer)
    answered = record {
      kind = kind_asked service.words f.request p.event.ask f.asks;
      told = told_as (shown_of p.event.decision) a.value t.answer a.told
          (denial_fits service.setup service.words p.before p.event f.request range f.follows.legal short f.follows.next
          kept f.ranged f.asks) t.in_range t.same;
    }

    on : Talked service.setup worker session role history p.before
        → Talked service.setup worker session role (had f.request t.answer ∷ history) (p.before ++ p.event ∷ [])
    on w = record {
      state = after w.state p.event;
      at = goes_on service.setup journal worker session w.state p.before p.event w.at comes f.follows.own
          now.each.0.request;
      dialogue = longer_dialogue p.before session role history p.event (had f.request t.answer) own f.asked.next
          answered w.dialogue;
    }

  -- an EXPORT that was permitted, by which the child leaves
  pub record Leaves (step : Step) : Type 0 where
    pub history : List Exchange
    pub request : RequestValue
    pub next : next_request role history ≡ Some request
    pub asks : Asks service.words request step.place.event.ask
    pub request_is : IsRequestStep service step
    pub follows : Follows service.setup journal worker (Talked service.setup worker session role history) step.place
        behind

  -- what is found along the steps that are left
  pub record Along (history : List Exchange) (served : List Step) : Type 0 where
    pub mild : AreMild service.setup (left_of served)
    pub dialogue : AreDialogue service exported role history (left_of served)
    pub leaves : (step : Step) → final ≡ Some step → Leaves step

  mild_at : (history : List Exchange) (request : RequestValue) (step : Step)
      → IsAskedNext service role history request step → is_violation step.place.event.decision ≡ true
      → step.place.event.decision ≡ Deny 1 service.setup.requests
  mild_at history request step asked =
      mild_of step.place.event.decision service.setup.requests (λ kept. (asked.stands kept).mild)

  pub along : (served : List Step) (history : List Exchange) → Now history served → Along history served
  along [] history now = by_final final refl now.stands now.each now.went where
    by_final : (o : Option Step) → final ≡ o
        → Stands journal worker now.before (step_places (option_to_list o) ++ behind)
        → AllByRecursion (IsRequestStep service) (option_to_list o)
        → Went role session history last (said_by (option_to_list o)) → Along history []
    by_final None is stands each went = record {
      mild = subst (λ (o : Option Step). AreMild service.setup (option_to_list o)) (sym is) tt;
      dialogue = subst (λ (o : Option Step). AreDialogue service exported role history (option_to_list o)) (sym is) tt;
      leaves = λ step some. absurd (let no : None ≡ Some step = sym is ∙ some in cc);
    }
    by_final (Some step) is stands each went =
        let f = first history step [] now.before last now.front now.talked stands each.0 now.heard went in
        record {
          mild = subst (λ (o : Option Step). AreMild service.setup (option_to_list o)) (sym is)
              (mild_at history f.request step f.asked, tt);
          dialogue = subst (λ (o : Option Step). AreDialogue service exported role history (option_to_list o)) (sym is)
              (f.request, f.asked);
          leaves = λ other some.
              let same : step ≡ other = (let e : Some step ≡ Some other = sym is ∙ some in cc) in
              subst Leaves same (record {
                history = history;
                request = f.request;
                next = f.asked.next;
                asks = f.asks;
                request_is = each.0;
                follows = f.follows;
              });
        }
  along (step ∷ more) history now =
      by_left (left_of more) refl
      (λ some. let o = onward history step more now f some f.follows.holds in (
        had f.request o.answer,
        refl,
        o.answered,
        along more (had f.request o.answer ∷ history) o.now,
      )) where
        f : First history step (left_of more)
        f =
            first history step (left_of more) now.before (answers service exported (step ∷ more) ++ last) now.front
            now.talked now.stands now.each.0 now.heard now.went

        by_left : (left : List Step) → left_of more ≡ left
            → (1 ≤ length (said_by (left_of more)) → (x : Exchange) × (x.request ≡ f.request)
            × IsExchanged service exported x step × Along (x ∷ history) more) → Along history (step ∷ more)
        by_left [] is goes = record {
          mild = (mild_at history f.request step f.asked, subst (AreMild service.setup) (sym is) tt);
          dialogue = subst (λ steps. AreDialogue service exported role history (step ∷ steps)) (sym is)
              (f.request, f.asked);
          leaves = λ other some. absurd (none_more more other
              (sym (ap (λ (o : Option Step). more ++ option_to_list o) some) ∙ is));
        }
        by_left (next ∷ steps) is goes =
            let each = subst (AllByRecursion (IsRequestStep service)) is now.each.1 in
            let regrouped = append_assoc (message_bytes service.setup.frames next.message)
            (step_bytes service.setup.frames steps) rest in
            let some : 1 ≤ length (said_by (next ∷ steps)) = omega (
              arith,
              ap length regrouped,
              length-append (message_bytes service.setup.frames next.message) (said_by steps),
              bytes_some service next each.0,
            ) in
            let r = goes (subst (λ left. 1 ≤ length (said_by left)) (sym is) some) in
            record {
              mild = (mild_at history f.request step f.asked, r.3.mild);
              dialogue = subst (λ left. AreDialogue service exported role history (step ∷ left)) (sym is) (
                r.0,
                subst (λ q. IsAskedNext service role history q step) (sym r.1) f.asked,
                r.2,
                subst (AreDialogue service exported role (r.0 ∷ history)) is r.3.dialogue,
              );
              leaves = r.3.leaves;
            }
