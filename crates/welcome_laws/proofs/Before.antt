-- The child before the login: its banner, the client's next line, and the text that answers a line.
use Rattle.std.proofs.Common.{◌≡◌, ℕ, suc, ◌+◌, ◌*◌, ◌<◌, ◌≤◌, ◌^◌, Bool, true, false, ◌&&◌, List, [], ◌∷◌, ◌++◌}
use Rattle.std.proofs.Common.{length, Option, Some, Result, Ok, Err, refl, sym, ap, subst, ◌∙◌, arith, lit<, lit≤, inl}
use Rattle.std.proofs.Common.{inr}
use Rattle.std.specs.Prelude.{codes, count_by, filter_map, nat_le}
use Rattle.std.specs.List.{flat_map, list_all}
use Rattle.std.proofs.lemmas.Bool.{and_parts, leb-true}
use Rattle.std.proofs.lemmas.List.{append-nil, length-append}
use Rattle.request_catalogue.specs.Catalogue.{RequestValue}
use Rattle.request_catalogue.specs.Catalogue as requests
use Rattle.request_catalogue.specs.Replies.{AnswerValue, Denied, Done, reply_of}
use Rattle.request_catalogue.specs.Texts.{is_printable, is_text}
use Rattle.imsg_frame.specs.Message.{Message, spelling_of}
use Rattle.imsg_frame.specs.Requests.{request_message}
use Rattle.outside.specs.declared.act.Act.{Act}
use Rattle.outside.specs.declared.act.Act.TheVariants as acts
use Rattle.outside.specs.declared.act.Failed.{Failed}
use Rattle.policy_model.specs.declared.event.Ask.{Ask}
use Rattle.policy_model.specs.declared.event.Ask.TheVariants as asks
use Rattle.policy_model.specs.declared.event.Decision.TheVariants.{Permit}
use Rattle.policy_model.specs.declared.event.Event.{Event}
use Rattle.policy_model.specs.declared.phase.Phase.{Phase}
use Rattle.policy_model.specs.declared.phase.Phase.TheVariants as phases
use Rattle.policy_model.specs.Asks.{came_by_frame, ends_session, exports}
use Rattle.policy_model.specs.Journal.{Place, has_lost}
use Rattle.policy_model.specs.Legal.{IsLegal}
use Rattle.policy_model.specs.Settings.{IsInRange as IsSetupInRange}
use Rattle.session_laws.specs.Judged.{is_over_phase}
use Rattle.child_protocol.specs.Commands.{pre_command}
use Rattle.child_protocol.specs.Exchanges.{Exchange}
use Rattle.child_protocol.specs.Lines.{HasLines, Line, behind_lines, front_of, line_end}
use Rattle.child_protocol.specs.Pre.{is_quit, pre_first, pre_next, read_more, say}
use Rattle.child_protocol.specs.Says.{Pre}
use Rattle.child_protocol.proofs.MoreBytes.{HasLines-more, behind_lines-more}
use Rattle.service_model.specs.Acts.{bytes_read, failed_device, operations_by, operations_of}
use Rattle.service_model.specs.Answers.{answer_to, done_body, reply_message}
use Rattle.service_model.specs.Parts.{EndsSo, PartEnd}
use Rattle.service_model.specs.Places.{Step, step_acts}
use Rattle.service_model.specs.Service.{Service}
use Rattle.service_model.proofs.Lists.{count-cons}
use Rattle.login_laws.specs.Login.{is_talk}
use Rattle.login_laws.proofs.Judged.{banner_permitted}
use Rattle.login_laws.proofs.Stages.{Lasts, Stage, banner_on, more, nothing}
use Rattle.login_laws.proofs.Walk.{State, own_session, start}
use Rattle.welcome_laws.specs.Client.{AgreesWith, is_receiving}
use Rattle.welcome_laws.proofs.Saying.{SaysThen}
use Rattle.welcome_laws.proofs.Lines.{IsWaiting, IsWhole, Tells, Waits, behind_shorter, first_next, greeted}
use Rattle.welcome_laws.proofs.Lines.{greeted_next, so_far}
use Rattle.welcome_laws.proofs.Lines.{waits_first, waits_more}
use Rattle.welcome_laws.proofs.Lines.{waits_next}
use Rattle.welcome_laws.proofs.Meeting.{IsReadable, had, readable}
use Rattle.welcome_laws.proofs.Serving.{Now, Served, Talks, answer_done, answered_now, event_by, left_of}
use Rattle.welcome_laws.proofs.Serving.{next_served, no_acts, receives_bytes, says_text, talks}

abbrev pub receives : List Step → ℕ
receives steps = count_by is_receiving (step_acts steps)

abbrev pub Nothing : List Event → Type 0
Nothing before = Unit {0}

abbrev pub line_phase : Bool → Phase
line_phase false = phases.Pre
line_phase true = phases.Challenged

-- the session of a child that takes lines: a challenge is open or not, and so many asks and denied replies were made
abbrev pub line_state : Bool → ℕ → ℕ → State
line_state challenged asked tried =
    record { phase = line_phase challenged; asked = asked; tried = tried; greeted = true; imported = false }

abbrev pub verified_state : ℕ → ℕ → State
verified_state asked tried =
    record { phase = phases.Verified; asked = asked; tried = tried; greeted = true; imported = false }

abbrev pub user_state : ℕ → ℕ → State
user_state asked tried =
    record { phase = phases.User; asked = asked; tried = tried; greeted = true; imported = false }

pub live_phase : (challenged : Bool) → is_over_phase (line_phase challenged) ≡ false
live_phase false = refl
live_phase true = refl

one_last : (n : ℕ) → 1 + n ≡ n + 1
one_last n = omega arith

none_more : (n : ℕ) → n ≡ 0 + n
none_more n = omega arith

-- a reply without a body, one with few bytes, and one that denies
pub short_reply : (body : List ℕ) → length body ≤ 16000 → length (reply_of (Done body)) ≤ 16368
unfolding reply_of
short_reply body few = omega (arith, few)

pub short_denial : (rule detail : ℕ) → length (reply_of (Denied rule detail)) ≤ 16368
unfolding reply_of
short_denial rule detail = omega arith

-- acts that the client has no part in
abbrev pub IsAside : List Act → Type 0
IsAside [] = Unit {0}
IsAside (acts.Clock moment ∷ []) = Unit {0}
IsAside _ = ⊥

pub no_part : (done : List Act) → done ≡ [] → IsAside done
no_part done is = subst IsAside (sym is) tt

pub clock_alone : (done : List Act) (now : ℕ) → done ≡ acts.Clock now ∷ [] → IsAside done
clock_alone done now is = subst IsAside (sym is) tt

aside_says : (Last : List ℕ → Type 0) (lines bytes : List ℕ) (done later : List Act) → IsAside done
    → SaysThen Last lines bytes (done ++ later) → SaysThen Last lines bytes later
aside_says Last lines bytes [] later is client = client
aside_says Last lines bytes (acts.Clock moment ∷ []) later is client = client
aside_says Last lines bytes _ later is client = absurd is

aside_counts : (done later : List Act) → IsAside done
    → count_by is_receiving (done ++ later) ≡ count_by is_receiving later
aside_counts [] later is = refl
aside_counts (acts.Clock moment ∷ []) later is =
    count-cons is_receiving (acts.Clock moment) later ∙ sym (none_more (count_by is_receiving later))
aside_counts _ later is = absurd is

module _ (service : Service) (journal : List Event) (worker session : ℕ) (legal : IsLegal service.setup journal)
    (none : has_lost journal ≡ false) (small : session < 2 ^ 32) (end : PartEnd) (final : Option Step)
    (rest unread : List ℕ) (ended : EndsSo service.setup.frames end final rest unread) (behind : List Place)
    (Last : List ℕ → Type 0) where
  -- the steps that are left, the session as it stands, and the step at which a request is served
  abbrev pub rest_of : List Step → List Step
  rest_of served =
      left_of service journal worker session legal none small Pre [] end final rest unread ended behind served

  abbrev pub Here : State → (List Event → Type 0) → List Exchange → List Step → Type 0
  Here s Q history served =
      Now service journal worker session legal none small Pre [] end final rest unread ended behind s Q history served

  abbrev pub Met : RequestValue → State → (List Event → Type 0) → List Exchange → List Step → Type 0
  Met request s Q history served =
      Served service journal worker session legal none small Pre [] end final rest unread ended behind request s Q
      history served

  -- ---- a text to the client

  record Said (s : State) (Q : List Event → Type 0) (history : List Exchange) (served : List Step)
      (lines bytes text : List ℕ) : Type 0 where
    pub steps : List Step
    pub now : Here (more 1 s) Q
        (had (say text) (Done []) ∷ history) steps
    pub client : SaysThen Last lines bytes (step_acts
        (rest_of steps))
    pub received : receives (rest_of steps) ≡ receives (rest_of served)

  says : (s : State) (Q : List Event → Type 0) (history : List Exchange) (served : List Step)
      (lines bytes text : List ℕ) → Lasts service.setup journal worker session Q
      → Here s Q history served
      → pre_next history ≡ Some (say text) → 1 ≤ length text → length text ≤ 16000 → length history < 4097
      → is_over_phase s.phase ≡ false → s.asked < service.setup.requests
      → SaysThen Last lines bytes (step_acts (rest_of served)) → Said s Q history served lines bytes text
  says s Q history served lines bytes text lasts now next some few short live asked client =
      let v = next_served service journal worker session legal none small Pre [] end final rest unread ended behind
      (say text) s Q history served lasts now next (lit< tt, lit< tt, some, few) short in
      let ask : v.step.place.event.ask ≡ asks.WriteAt 0 0 (length text) = v.meets.asks in
      let t = talks service journal worker session legal none small Pre [] end final rest unread ended behind (say text)
      s Q history served lasts v (ap is_talk ask) live asked in
      let sent = says_text service v.step text (lit< tt, lit< tt, some, few) v.is v.meets.message ask t.permit in
      let client' : SaysThen Last lines bytes (acts.ConnSend text sent.0 ∷ step_acts v.left) = subst
      (λ done. SaysThen Last lines bytes (done ++ step_acts v.left)) sent.1
      (subst (λ steps. SaysThen Last lines bytes (step_acts steps)) v.are client) in
      by_outcome v t sent.0 sent.1 client' where
        by_outcome : (v : Met (say text) s Q history served) → Talks service journal worker session legal none small Pre [] end
            final rest unread ended behind s Q v.step → (outcome : Result (Unit {0}) Failed)
            → v.step.acts ≡ acts.ConnSend text outcome ∷ []
            → SaysThen Last lines bytes (acts.ConnSend text outcome ∷ step_acts v.left)
            → Said s Q history served lines bytes text
        by_outcome v t (Err failed) is client' = absurd client'
        by_outcome v t (Ok done) is client' =
            let told = answer_done service [] session (say text) v.step (asks.WriteAt 0 0 (length text)) 0
            v.meets.message t.own v.meets.asks t.permit (λ len e. absurd cc) (ap (filter_map failed_device) is) in
            let b = answered_now service journal worker session legal none small Pre [] end final rest unread ended
            behind (say text) (Done []) s (more 1 s) Q Q history served v next short t.going t.unexported t.stage told
            (readable session (say text) (Done []) small tt refl (short_reply [] (lit≤ tt))) in
            record {
              steps = b.more;
              now = b.now;
              client = subst (λ steps. SaysThen Last lines bytes (step_acts steps)) b.left_is client';
              received = ap receives (sym b.left_is) ∙ none_more (receives v.left)
                  ∙ sym (ap receives v.are ∙ ap (λ done. count_by is_receiving (done ++ step_acts v.left)) is
                  ∙ count-cons is_receiving (acts.ConnSend text (Ok done)) (step_acts v.left));
            }

  -- ---- more bytes of the client

  record Read (s : State) (Q : List Event → Type 0) (history : List Exchange) (served : List Step)
      (lines bytes : List ℕ) : Type 0 where
    pub c : ℕ
    pub body : List ℕ
    pub few : length (c ∷ body) ≤ 512
    pub agrees : AgreesWith lines (bytes ++ c ∷ body)
    pub step : Step
    pub steps : List Step
    pub served_is : served ≡ step ∷ steps
    pub now : Here (more 1 s) Q
        (had read_more (Done (c ∷ body)) ∷ history) steps
    pub client : SaysThen Last lines (bytes ++ c ∷ body)
        (step_acts (rest_of steps))
    pub received : receives (rest_of served) ≡ receives (rest_of steps) + 1

  reads : (s : State) (Q : List Event → Type 0) (history : List Exchange) (served : List Step) (lines bytes : List ℕ)
      → Lasts service.setup journal worker session Q
      → Here s Q history served
      → pre_next history ≡ Some read_more → length history < 4097 → is_over_phase s.phase ≡ false
      → s.asked < service.setup.requests
      → SaysThen Last lines bytes (step_acts (rest_of served)) → Read s Q history served lines bytes
  reads s Q history served lines bytes lasts now next short live asked client =
      let v = next_served service journal worker session legal none small Pre [] end final rest unread ended behind
      read_more s Q history served lasts now next (lit< tt, lit< tt, lit≤ tt, lit≤ tt) short in
      let ask : v.step.place.event.ask ≡ asks.ReadAt 0 0 512 = v.meets.asks in
      let t = talks service journal worker session legal none small Pre [] end final rest unread ended behind read_more
      s Q history served lasts v (ap is_talk ask) live asked in
      let got = receives_bytes service v.step v.step.message 512 v.is.acts ask t.permit in
      let client' : SaysThen Last lines bytes (acts.ConnRecv 512 got.0 ∷ step_acts v.left) = subst
      (λ done. SaysThen Last lines bytes (done ++ step_acts v.left)) got.1
      (subst (λ steps. SaysThen Last lines bytes (step_acts steps)) v.are client) in
      by_outcome v t got.0 got.1 client' where
        by_outcome : (v : Met read_more s Q history served) → Talks service journal worker session legal none small Pre [] end
            final rest unread ended behind s Q v.step → (outcome : Result (List ℕ) Failed)
            → v.step.acts ≡ acts.ConnRecv 512 outcome ∷ []
            → SaysThen Last lines bytes (acts.ConnRecv 512 outcome ∷ step_acts v.left)
            → Read s Q history served lines bytes
        by_outcome v t (Err failed) is client' = absurd client'
        by_outcome v t (Ok []) is client' = absurd (omega (arith, client'.0))
        by_outcome v t (Ok (c ∷ body)) is client' =
            let body_is : done_body service [] v.step.place v.step.acts (asks.ReadAt 0 0 512) 0 ≡ c ∷ body = ap
            (flat_map bytes_read) is ∙ append-nil (c ∷ body) in
            let told = answer_done service [] session read_more v.step (asks.ReadAt 0 0 512) 0 v.meets.message t.own
            v.meets.asks t.permit (λ len e. absurd cc) (ap (filter_map failed_device) is) in
            let told' = subst (λ b. answer_to service [] v.step ≡ spelling_of service.setup.frames
            (reply_message (request_message read_more) session (Done b))) body_is told in
            let b = answered_now service journal worker session legal none small Pre [] end final rest unread ended
            behind read_more (Done (c ∷ body)) s (more 1 s) Q Q history served v next short t.going t.unexported t.stage
            told' (readable session read_more (Done (c ∷ body)) small tt client'.1
            (short_reply (c ∷ body) (omega (arith, client'.1)))) in
            record {
              c = c;
              body = body;
              few = client'.1;
              agrees = client'.2;
              step = v.step;
              steps = b.more;
              served_is = b.served_is;
              now = b.now;
              client = subst (λ steps. SaysThen Last lines (bytes ++ c ∷ body) (step_acts steps)) b.left_is client'.3;
              received = ap receives v.are ∙ ap (λ done. count_by is_receiving (done ++ step_acts v.left)) is
                  ∙ count-cons is_receiving (acts.ConnRecv 512 (Ok (c ∷ body))) (step_acts v.left)
                  ∙ ap (λ n. 1 + n) (ap receives b.left_is) ∙ one_last
                  (receives (rest_of b.more));
            }

  -- ---- a request that the client has no part in

  pub record Asked (request : RequestValue) (answer : AnswerValue) (next : State) (R : List Event → Type 0)
      (history : List Exchange) (served : List Step) (lines bytes : List ℕ) : Type 0 where
    pub steps : List Step
    pub now : Here next R (had request answer ∷ history) steps
    pub client : SaysThen Last lines bytes (step_acts (rest_of steps))
    pub received : receives (rest_of steps) ≡ receives (rest_of served)

  pub asked_aside : (request : RequestValue) (answer : AnswerValue) (s next : State) (Q R : List Event → Type 0)
      (history : List Exchange) (served : List Step) (lines bytes : List ℕ) → (v : Met request s Q history served)
      → pre_next history ≡ Some request → length history < 4097 → ends_session v.step.place.event ≡ false
      → exports v.step.place.event ≡ false
      → Stage service.setup journal worker session next R (v.step.place.before ++ v.step.place.event ∷ [])
      → answer_to service [] v.step ≡ spelling_of service.setup.frames
      (reply_message (request_message request) session answer) → IsReadable session request answer
      → IsAside v.step.acts → SaysThen Last lines bytes (step_acts (rest_of served))
      → Asked request answer next R history served lines bytes
  asked_aside request answer s next Q R history served lines bytes v some few going unexported stage told read aside
      client =
      let b = answered_now service journal worker session legal none small Pre [] end final rest unread ended behind
      request answer s next Q R history served v some few going unexported stage told read in
      let client' = aside_says Last lines bytes v.step.acts (step_acts v.left) aside
      (subst (λ steps. SaysThen Last lines bytes (step_acts steps)) v.are client) in
      record {
        steps = b.more;
        now = b.now;
        client = subst (λ steps. SaysThen Last lines bytes (step_acts steps)) b.left_is client';
        received = ap receives (sym b.left_is) ∙ sym (aside_counts v.step.acts (step_acts v.left) aside)
            ∙ sym (ap receives v.are);
      }

  -- ---- a whole line

  -- the client's next line is waited for, of which so much came
  record Expects (count : ℕ) (challenged : Bool) (s : State) (Q : List Event → Type 0) (lines : List ℕ) (left : ℕ)
      (steps : List Step) : Type 0 where
    pub history : List Exchange
    pub bytes : List ℕ
    pub asked : ℕ
    pub now : Here (record s { asked = asked }) Q history steps
    pub waits : Waits count challenged bytes history
    pub has : HasLines count bytes
    pub agrees : AgreesWith lines bytes
    pub client : SaysThen Last lines bytes (step_acts (rest_of steps))
    pub held : length (behind_lines count bytes) ≤ 812
    pub sum : length bytes ≤ 512 * asked
    pub spent : asked + receives (rest_of steps) ≤ left
    pub had_few : length history ≤ asked
    pub counted : count ≤ asked

  -- it came whole
  pub record Lined (count : ℕ) (challenged : Bool) (s : State) (Q : List Event → Type 0) (lines : List ℕ) (left : ℕ)
      : Type 0 where
    pub history : List Exchange
    pub steps : List Step
    pub bytes : List ℕ
    pub asked : ℕ
    pub now : Here (record s { asked = asked }) Q history steps
    pub waits : Waits count challenged bytes history
    pub whole : IsWhole count lines bytes
    pub agrees : AgreesWith lines bytes
    pub client : SaysThen Last lines bytes (step_acts (rest_of steps))
    pub held : length (behind_lines count bytes) ≤ 812
    pub sum : length bytes ≤ 512 * asked
    pub spent : asked + receives (rest_of steps) ≤ left
    pub had_few : length history ≤ asked
    pub counted : count ≤ asked

  at_line : (count : ℕ) (challenged : Bool) (s : State) (Q : List Event → Type 0) (lines : List ℕ) (left : ℕ)
      (steps : List Step) → (x : Expects count challenged s Q lines left steps) → IsWhole count lines x.bytes
      → Lined count challenged s Q lines left
  at_line count challenged s Q lines left steps x all = record {
    history = x.history;
    steps = steps;
    bytes = x.bytes;
    asked = x.asked;
    now = x.now;
    waits = x.waits;
    whole = all;
    agrees = x.agrees;
    client = x.client;
    held = x.held;
    sum = x.sum;
    spent = x.spent;
    had_few = x.had_few;
    counted = x.counted;
  }

  read_on : (count : ℕ) (challenged : Bool) (s : State) (Q : List Event → Type 0) (lines : List ℕ) (left : ℕ)
      (steps : List Step) → Lasts service.setup journal worker session Q → left < service.setup.requests
      → service.setup.requests ≤ 4096 → is_over_phase s.phase ≡ false
      → (x : Expects count challenged s Q lines left steps) → IsWaiting count lines x.bytes
      → (step : Step) × (more : List Step) × (steps ≡ step ∷ more) × Expects count challenged s Q lines left more
  read_on count challenged s Q lines left steps lasts room most live x wait =
      let r = reads (record s { asked = x.asked }) Q x.history steps lines x.bytes lasts x.now
      (x.waits.next ∙ ap (λ f. Some (pre_first f challenged)) wait.front)
      (omega (arith, x.had_few, x.spent, room, most)) live (omega (arith, x.spent, room)) x.client in
      let chunk = r.c ∷ r.body in (
        r.step,
        r.steps,
        r.served_is,
        record {
          history = had read_more (Done chunk) ∷ x.history;
          bytes = x.bytes ++ chunk;
          asked = x.asked + 1;
          now = r.now;
          waits = waits_more count challenged x.bytes x.history r.c r.body x.waits;
          has = HasLines-more count x.bytes chunk x.has;
          agrees = r.agrees;
          client = r.client;
          held = omega (
            arith,
            ap length (behind_lines-more count x.bytes chunk x.has),
            length-append (behind_lines count x.bytes) chunk,
            wait.few,
            r.few,
          );
          sum = omega (arith, length-append x.bytes chunk, x.sum, r.few);
          spent = omega (arith, x.spent, r.received);
          had_few = omega (arith, x.had_few);
          counted = omega (arith, x.counted);
        },
      )

  lined : (count : ℕ) (challenged : Bool) (s : State) (Q : List Event → Type 0) (lines : List ℕ) (left : ℕ)
      → Lasts service.setup journal worker session Q → HasLines (suc count) lines
      → ((e : ℕ) → line_end (behind_lines count lines) ≡ Some e → e ≤ 300)
      → left < service.setup.requests → service.setup.requests ≤ 4096 → is_over_phase s.phase ≡ false
      → (served : List Step) → Expects count challenged s Q lines left served → Lined count challenged s Q lines left
  lined count challenged s Q lines left lasts whole short room most live [] x =
      elim (so_far count lines x.bytes whole short x.has x.agrees) [
        | inl all ↦ at_line count challenged s Q lines left [] x all
        | inr wait ↦
            let r = read_on count challenged s Q lines left [] lasts room most live x wait in
            let no : [] ≡ r.0 ∷ r.1 = r.2 in
            absurd cc
      ]
  lined count challenged s Q lines left lasts whole short room most live (first ∷ served) x =
      elim (so_far count lines x.bytes whole short x.has x.agrees) [
        | inl all ↦ at_line count challenged s Q lines left (first ∷ served) x all
        | inr wait ↦
            let r = read_on count challenged s Q lines left (first ∷ served) lasts room most live x wait in
            let same : r.1 ≡ served = let both : first ∷ served ≡ r.0 ∷ r.1 = r.2 in cc in
            lined count challenged s Q lines left lasts whole short room most live served
            (subst (Expects count challenged s Q lines left) same r.3)
      ]

  -- ---- a line that is answered

  -- the client's line is answered by this text next
  pub record Answering (count : ℕ) (challenged : Bool) (s : State) (Q : List Event → Type 0) (lines text : List ℕ)
      (left : ℕ) : Type 0 where
    pub history : List Exchange
    pub steps : List Step
    pub bytes : List ℕ
    pub asked : ℕ
    pub now : Here (record s { asked = asked }) Q history steps
    pub tells : Tells count challenged bytes text history
    pub whole : IsWhole count lines bytes
    pub agrees : AgreesWith lines bytes
    pub client : SaysThen Last lines bytes (step_acts (rest_of steps))
    pub held : length (behind_lines count bytes) ≤ 812
    pub sum : length bytes ≤ 512 * asked
    pub spent : asked + 1 + receives (rest_of steps) ≤ left
    pub had_few : length history ≤ asked
    pub counted : count ≤ asked

  -- after that text the next line is waited for
  pub told : (count : ℕ) (challenged : Bool) (s : State) (Q : List Event → Type 0) (lines line text : List ℕ)
      (left : ℕ) → Lasts service.setup journal worker session Q → HasLines (suc (suc count)) lines
      → ((e : ℕ) → line_end (behind_lines (suc count) lines) ≡ Some e → e ≤ 300)
      → front_of (behind_lines count lines) ≡ Line line → is_quit (pre_command line) ≡ false
      → (1 ≤ length text) × (length text ≤ 16000) → left < service.setup.requests
      → service.setup.requests ≤ 4096 → is_over_phase s.phase ≡ false
      → Answering count challenged s Q lines text left → Lined (suc count) challenged s Q lines left
  told count challenged s Q lines line text left lasts whole short front stays size room most live a =
      let said = says (record s { asked = a.asked }) Q a.history a.steps lines a.bytes text lasts a.now a.tells.next
      size.0 size.1 (omega (arith, a.had_few, a.spent, room, most)) live (omega (arith, a.spent, room)) a.client in
      lined (suc count) challenged s Q lines left lasts whole short room most live said.steps (record {
        history = had (say text) (Done []) ∷ a.history;
        bytes = a.bytes;
        asked = a.asked + 1;
        now = said.now;
        waits = waits_next count challenged a.bytes line text a.history a.tells (a.whole.same ∙ front) stays;
        has = a.whole.whole;
        agrees = a.agrees;
        client = said.client;
        held = omega (arith, a.held, behind_shorter (behind_lines count a.bytes));
        sum = omega (arith, a.sum);
        spent = omega (arith, a.spent, said.received);
        had_few = omega (arith, a.had_few);
        counted = omega (arith, a.counted);
      })

  -- ---- the banner

  banner_few : IsSetupInRange service.setup → length service.setup.banner ≤ 200
  banner_few range =
      let s = service.setup in
      let front = is_text 1 100 s.socket && is_text 1 255 s.launcher && is_text 1 255 s.vault && is_text 1 255
      s.words in
      let is : is_text 0 200 s.banner ≡ true = (and_parts front (is_text 0 200 s.banner) range.texts).1 in
      leb-true (length s.banner) 200 (and_parts (nat_le 0 (length s.banner)) (nat_le (length s.banner) 200)
      (and_parts (nat_le 0 (length s.banner) && nat_le (length s.banner) 200) (list_all is_printable s.banner) is).0).1

  pub opened : IsSetupInRange service.setup → (lines : List ℕ) → HasLines 1 lines
      → ((e : ℕ) → line_end lines ≡ Some e → e ≤ 300) → (served : List Step) → Here start Nothing [] served
      → SaysThen Last lines [] (step_acts (rest_of served)) → receives (rest_of served) + 8 ≤ service.setup.requests
      → Lined 0 false (line_state false 0 0) Nothing lines (receives (rest_of served) + 2)
  unfolding operations_of
  opened range lines whole short served now client room =
      let lasts = nothing service.setup journal worker session in
      let v = next_served service journal worker session legal none small Pre [] end final rest unread ended behind
      requests.Banner start Nothing [] served lasts now first_next tt (lit< tt) in
      let ask : v.step.place.event.ask ≡ asks.Banner = v.meets.asks in
      let p = v.step.place in
      let n = v.next in
      let permit = banner_permitted service.setup journal worker session start p.before p.event n.holds.at n.comes n.own
      refl refl (omega (arith, room)) ask in
      let on = banner_on service.setup journal worker session start p.before p.event n.holds.at n.comes n.own refl ask
      permit in
      let own = own_session service.setup journal worker session start p.before p.event n.holds.at n.comes n.own
      (ap came_by_frame ask) in
      let idle = no_acts v.step.acts (v.is.acts.operations ∙ no_operations p v.step.message ask) in
      let told' = answer_done service [] session requests.Banner v.step asks.Banner 0 v.meets.message own ask permit
      (λ len e. absurd cc) (ap (filter_map failed_device) idle) in
      let b = asked_aside requests.Banner (Done service.setup.banner) start (line_state false 1 0) Nothing Nothing []
      served lines [] v first_next (lit< tt)
      (event_by (λ e. ends_session e ≡ false) p.event asks.Banner (Permit 0) ask permit refl)
      (event_by (λ e. exports e ≡ false) p.event asks.Banner (Permit 0) ask permit refl)
      (record { at = on; known = tt }) told'
      (readable session requests.Banner (Done service.setup.banner) small tt (banner_few range)
      (short_reply service.setup.banner (omega (arith, banner_few range)))) (no_part v.step.acts idle) client in
      let text = service.setup.banner ++ codes "\n" in
      let size : length text ≡ length service.setup.banner + 1 = length-append service.setup.banner (codes "\n") in
      let said = says (line_state false 1 0) Nothing (greeted service.setup.banner) b.steps lines [] text lasts b.now
      (greeted_next service.setup.banner) (omega (arith, size)) (omega (arith, size, banner_few range)) (lit< tt) refl
      (omega (arith, room)) b.client in
      lined 0 false (line_state false 0 0) Nothing lines (receives (rest_of served) + 2) lasts whole short
      (omega (arith, room)) range.requests.1 refl said.steps (record {
        history = had (say text) (Done []) ∷ greeted service.setup.banner;
        bytes = [];
        asked = 2;
        now = said.now;
        waits = waits_first service.setup.banner text;
        has = tt;
        agrees = inl (lines, refl);
        client = said.client;
        held = lit≤ tt;
        sum = lit≤ tt;
        spent = omega (arith, said.received, b.received);
        had_few = lit≤ tt;
        counted = lit≤ tt;
      })
    where
      no_operations : (p : Place) (message : Option Message) → p.event.ask ≡ asks.Banner
          → operations_of service.setup p message ≡ []
      no_operations p message is = ap (λ (k : Ask). operations_by service.setup p k message) is
