-- The child before the login: each line that a client may say before it logs in.
use Rattle.std.proofs.Common.{◌≡◌, ℕ, suc, ◌+◌, ◌*◌, ◌||◌, ◌<◌, ◌≤◌, ◌^◌, Bool, true, false, ◌&&◌, cond, List, [], ◌∷◌, ◌++◌}
use Rattle.std.proofs.Common.{length, Option, Some, refl, sym, ap, subst, ◌∙◌, arith, lit<, lit≤, inl}
use Rattle.std.proofs.Common.{inr, ◌⊎◌}
use Rattle.std.specs.Prelude.{codes, count_by, filter_map, fold, is_some, nat_le, nat_lt}
use Rattle.std.specs.List.{list_any}
use Rattle.std.proofs.lemmas.Bool.{and_parts, false≢true, or_parts}
use Rattle.std.proofs.lemmas.Bool.Decides.{nat_tests}
use Rattle.std.proofs.lemmas.List.{length-append}
use Rattle.request_catalogue.specs.declared.texts.Name.{Name}
use Rattle.request_catalogue.specs.Catalogue.{RequestValue}
use Rattle.request_catalogue.specs.Catalogue as requests
use Rattle.request_catalogue.specs.Replies.{AnswerValue, Denied, Done}
use Rattle.imsg_frame.specs.Message.{Message}
use Rattle.otp_hash.specs.SeedBytes.{seed_bytes}
use Rattle.otp_words.specs.Challenges.{challenge_of}
use Rattle.outside.specs.declared.act.Act.TheVariants as acts
use Rattle.policy_model.specs.declared.account.Account.{Account}
use Rattle.policy_model.specs.declared.event.Ask.{Ask}
use Rattle.policy_model.specs.declared.event.Ask.TheVariants as asks
use Rattle.policy_model.specs.declared.event.Decision.{Decision}
use Rattle.policy_model.specs.declared.event.Decision.TheVariants.{Deny, Lost, Permit}
use Rattle.policy_model.specs.declared.event.Event.{Event}
use Rattle.policy_model.specs.declared.ranges.TheConstants.{EVENTS_LIMIT}
use Rattle.policy_model.specs.declared.reading.TheConstants.{DECOYS_FROM}
use Rattle.policy_model.specs.Asks.{accepts, came_by_frame, ends_session, exports, is_login_denial, shown_of}
use Rattle.policy_model.specs.Decoys.{decoy_algo, decoy_number, decoy_seed}
use Rattle.policy_model.specs.Journal.{Place, has_lost}
use Rattle.policy_model.specs.Legal.{IsLegal}
use Rattle.policy_model.specs.Logins.{account_of, last_taking_of, session_taking}
use Rattle.child_protocol.specs.Commands.{PreCommand, pre_command}
use Rattle.child_protocol.specs.Commands as commands
use Rattle.child_protocol.specs.Exchanges.{Exchange}
use Rattle.child_protocol.specs.Lines.{HasLines, Line, behind_lines, front_of, line_end}
use Rattle.child_protocol.specs.Pre.{denied_text, is_quit, pre_first, pre_next, pre_request, say}
use Rattle.child_protocol.specs.Replies.{IsChallengeText}
use Rattle.child_protocol.specs.Says.{Pre}
use Rattle.service_model.specs.Acts.{ReadsClock, failed_device, operations_by, operations_of}
use Rattle.service_model.specs.Answers.{challenge_text, decoy_challenge_text}
use Rattle.service_model.specs.Cases.{account_challenge_text}
use Rattle.service_model.specs.Parts.{EndsSo, PartEnd}
use Rattle.service_model.specs.Places.{Step, step_acts, step_places}
use Rattle.service_model.specs.Service.{Service}
use Rattle.service_model.proofs.Lists.{count-cons}
use Rattle.login_laws.specs.Login.{ComesAfter}
use Rattle.login_laws.proofs.Stages.{IsLogged, Lasts, event_as, nothing, reply_on}
use Rattle.login_laws.proofs.Tries.{IsJudgedChallenge, IsJudgedReply, abandon_permitted, challenge_judged, reply_judged}
use Rattle.login_laws.proofs.Tries.{request_on, taking_few}
use Rattle.login_laws.proofs.Walk.{Next, State, own_session}
use Rattle.welcome_laws.specs.Client.{AgreesWith, AreEarlier, BeginWith, is_response, may_open}
use Rattle.welcome_laws.specs.Welcome.{AcceptsNobodyElse, texts_told}
use Rattle.welcome_laws.proofs.Saying.{SaysThen}
use Rattle.welcome_laws.proofs.Before as child
use Rattle.welcome_laws.proofs.Before.{Nothing, clock_alone, line_state, live_phase, no_part, short_denial, short_reply}
use Rattle.welcome_laws.proofs.Before.{verified_state}
use Rattle.welcome_laws.proofs.Lines.{Tells, Waits, denied_size}
use Rattle.welcome_laws.proofs.Lines.{named_user, replied_by, tells_at_once, tells_cancelled}
use Rattle.welcome_laws.proofs.Lines.{tells_challenge, tells_held, tells_wrong, typed_response}
use Rattle.welcome_laws.proofs.Meeting.{had, readable}
use Rattle.welcome_laws.proofs.Serving as serving
use Rattle.welcome_laws.proofs.Serving.{Now, Served, answer_denied, answer_done, event_by, left_of}
use Rattle.welcome_laws.proofs.Serving.{next_served, no_acts, one_clock}
use Rattle.welcome_laws.proofs.Texts.{challenge_fits, decoy_legal, decoy_low}

-- a denial of a reply ends no session
no_violation : (rule : ℕ) → (nat_le 13 rule && nat_le rule 16) ≡ true → (nat_le 1 rule && nat_le rule 7) ≡ false
no_violation rule login =
    let low = (and_parts (nat_le 13 rule) (nat_le rule 16) login).0 in
    let mild : nat_le rule 7 ≡ false = grind (arith, nat_tests, low) in
    both (nat_le 1 rule) (nat_le rule 7) mild where
      both : (a b : Bool) → b ≡ false → (a && b) ≡ false
      both true b h = h
      both false b h = refl

-- ---- lines that come one after the other

-- the first of these lines is whole
pub record FirstLine (bytes : List ℕ) : Type 0 where
  pub end : ℕ
  pub whole : line_end bytes ≡ Some end
  pub short : end ≤ 300

pub first_line : (command : PreCommand) (others earlier : List PreCommand) (bytes : List ℕ)
    → BeginWith (earlier ++ (command ∷ others)) bytes → FirstLine bytes
first_line command others [] bytes begin =
    record { end = begin.0.end; whole = begin.0.whole; short = begin.0.short }
first_line command others (c ∷ earlier) bytes begin =
    record { end = begin.0.end; whole = begin.0.whole; short = begin.0.short }

pub only_end : (o : Option ℕ) (end : ℕ) → o ≡ Some end → end ≤ 300 → (e : ℕ) → o ≡ Some e → e ≤ 300
only_end o end is le e same = let both : Some end ≡ Some e = sym is ∙ same in let it : end ≡ e = cc in omega
    (arith, le, it)

none_open : (challenged may : Bool) → (challenged ≡ true → may ≡ true) → may ≡ false → challenged ≡ false
none_open false may open_so closed = refl
none_open true may open_so closed = absurd (false≢true (sym closed ∙ open_so refl))

either_way : (a b : Bool) → b ≡ true → (a || b) ≡ true
either_way true b h = refl
either_way false b h = h

module _ (service : Service) (journal : List Event) (worker session : ℕ) (legal : IsLegal service.setup journal)
    (none : has_lost journal ≡ false) (small : session < 2 ^ 32) (end : PartEnd) (final : Option Step)
    (rest unread : List ℕ) (ended : EndsSo service.setup.frames end final rest unread) (behind : List Place)
    (Last : List ℕ → Type 0) where
  -- ---- where the session stands, of this child's part

  abbrev rest_of : List Step → List Step
  rest_of served =
      left_of service journal worker session legal none small Pre [] end final rest unread ended behind served

  abbrev Here : State → (List Event → Type 0) → List Exchange → List Step → Type 0
  Here s Q history served =
      Now service journal worker session legal none small Pre [] end final rest unread ended behind s Q history served

  abbrev Met : RequestValue → State → (List Event → Type 0) → List Exchange → List Step → Type 0
  Met request s Q history served =
      Served service journal worker session legal none small Pre [] end final rest unread ended behind request s Q
      history served

  abbrev Standing : State → (List Event → Type 0) → List Exchange → List Event → Type 0
  Standing s Q history before =
      serving.Standing service journal worker session legal none small Pre [] end final rest unread ended behind s Q
      history before

  abbrev Lined : ℕ → Bool → State → (List Event → Type 0) → List ℕ → ℕ → Type 0
  Lined count challenged s Q lines left =
      child.Lined service journal worker session legal none small end final rest unread ended behind Last count challenged s
      Q lines left

  abbrev Answering : ℕ → Bool → State → (List Event → Type 0) → List ℕ → List ℕ → ℕ → Type 0
  Answering count challenged s Q lines text left =
      child.Answering service journal worker session legal none small end final rest unread ended behind Last count
      challenged s Q lines text left

  abbrev Asked : RequestValue → AnswerValue → State → (List Event → Type 0) → List Exchange → List Step → List ℕ
      → List ℕ → Type 0
  Asked request answer next R history served lines bytes =
      child.Asked service journal worker session legal none small end final rest unread ended behind Last request answer next
      R history served lines bytes

  -- ---- a line that is answered at once

  at_once : (count : ℕ) (challenged : Bool) (s : State) (Q : List Event → Type 0) (lines line text : List ℕ) (left : ℕ)
      → front_of (behind_lines count lines) ≡ Line line → pre_request (pre_command line) challenged ≡ say text
      → Lined count challenged s Q lines left → Answering count challenged s Q lines text (left + 2)
  at_once count challenged s Q lines line text left front answer l = record {
    history = l.history;
    steps = l.steps;
    bytes = l.bytes;
    asked = l.asked;
    now = l.now;
    tells = tells_at_once count challenged l.bytes line text l.history l.waits (l.whole.same ∙ front) answer;
    whole = l.whole;
    agrees = l.agrees;
    client = l.client;
    held = l.held;
    sum = l.sum;
    spent = omega (arith, l.spent);
    had_few = l.had_few;
    counted = l.counted;
  }

  -- what a line leads to first
  pub leads : (count : ℕ) (challenged : Bool) (s : State) (Q : List Event → Type 0) (lines line : List ℕ) (left : ℕ)
      (command : PreCommand) (l : Lined count challenged s Q lines left)
      → front_of (behind_lines count lines) ≡ Line line → pre_command line ≡ command
      → pre_next l.history ≡ Some (pre_request command challenged)
  leads count challenged s Q lines line left command l front is =
      l.waits.next ∙ ap (λ f. Some (pre_first f challenged)) (l.whole.same ∙ front)
      ∙ ap (λ c. Some (pre_request c challenged)) is

  -- after a request that the client has no part in
  pub answering : (count : ℕ) (challenged to : Bool) (s next : State) (Q R : List Event → Type 0)
      (lines text : List ℕ) (left : ℕ) (request : RequestValue) (answer : AnswerValue)
      (l : Lined count challenged s Q lines left)
      → Asked request answer (record next { asked = l.asked + 1 }) R l.history l.steps lines l.bytes
      → Tells count to l.bytes text (had request answer ∷ l.history) → Answering count to next R lines text (left + 2)
  answering count challenged to s next Q R lines text left request answer l b tells = record {
    history = had request answer ∷ l.history;
    steps = b.steps;
    bytes = l.bytes;
    asked = l.asked + 1;
    now = b.now;
    tells = tells;
    whole = l.whole;
    agrees = l.agrees;
    client = b.client;
    held = l.held;
    sum = omega (arith, l.sum);
    spent = omega (arith, l.spent, b.received);
    had_few = omega (arith, l.had_few);
    counted = omega (arith, l.counted);
  }

  -- ---- `cancel`

  no_more_tried : (n : ℕ) → n + 0 ≡ n
  no_more_tried n = omega arith

  cancelled : (count tried : ℕ) (lines line : List ℕ) (left : ℕ) → left + 2 ≤ service.setup.requests
      → service.setup.requests ≤ 4096 → front_of (behind_lines count lines) ≡ Line line
      → pre_command line ≡ commands.Cancel → Lined count true (line_state true 0 tried) Nothing lines left
      → Answering count false (line_state false 0 tried) Nothing lines (codes "done\n") (left + 2)
  unfolding operations_of
  cancelled count tried lines line left room most front is l =
      let lasts = nothing service.setup journal worker session in
      let s = line_state true l.asked tried in
      let next = leads count true (line_state true 0 tried) Nothing lines line left commands.Cancel l front is in
      let short : length l.history < 4097 = omega (arith, l.had_few, l.spent, room, most) in
      let v = next_served service journal worker session legal none small Pre [] end final rest unread ended behind
      requests.Abandon s Nothing l.history l.steps lasts l.now next tt short in
      let p = v.step.place in
      let n = v.next in
      let ask : p.event.ask ≡ asks.Abandon = v.meets.asks in
      let permit = abandon_permitted service.setup journal worker session s p.before p.event n.holds.at n.comes n.own
      refl (omega (arith, l.spent, room)) ask in
      let on = request_on service.setup journal worker session s (line_state false (l.asked + 1) tried) p.before p.event
      asks.Abandon (Permit 0) n.holds.at n.comes n.own ask permit refl
      (ap (line_state false (l.asked + 1)) (no_more_tried tried)) in
      let own = own_session service.setup journal worker session s p.before p.event n.holds.at n.comes n.own
      (ap came_by_frame ask) in
      let idle = no_acts v.step.acts (v.is.acts.operations ∙ no_operations p v.step.message ask) in
      let told' = answer_done service [] session requests.Abandon v.step asks.Abandon 0 v.meets.message own ask permit
      (λ len e. absurd cc) (ap (filter_map failed_device) idle) in
      let b = child.asked_aside service journal worker session legal none small end final rest unread ended behind Last requests.Abandon (Done []) s (line_state false (l.asked + 1) tried) Nothing Nothing l.history
      l.steps lines l.bytes v next short
      (event_by (λ e. ends_session e ≡ false) p.event asks.Abandon (Permit 0) ask permit refl)
      (event_by (λ e. exports e ≡ false) p.event asks.Abandon (Permit 0) ask permit refl)
      (record { at = on; known = tt }) told'
      (readable session requests.Abandon (Done []) small tt refl (short_reply [] (lit≤ tt)))
      (no_part v.step.acts idle) l.client in
      answering count true false (line_state true 0 tried) (line_state false 0 tried) Nothing Nothing lines
      (codes "done\n") left requests.Abandon (Done []) l b (tells_cancelled count true l.bytes l.history l.waits)
    where
      no_operations : (p : Place) (message : Option Message) → p.event.ask ≡ asks.Abandon
          → operations_of service.setup p message ≡ []
      no_operations p message is = ap (λ (k : Ask). operations_by service.setup p k message) is

  -- ---- `user`, for any name

  pub clock_operations : (p : Place) (message : Option Message) (user : Name) (now : ℕ)
      → p.event.ask ≡ asks.Challenge user now → operations_of service.setup p message ≡ ReadsClock now ∷ []
  unfolding operations_of
  clock_operations p message user now is = ap (λ (k : Ask). operations_by service.setup p k message) is

  -- the challenge of any name is one
  record IsFitting (user : Name) (value : ℕ) : Type 0 where
    pub some : 1 ≤ length (challenge_text service.setup user value)
    pub few : length (challenge_text service.setup user value) ≤ 32
    pub reads : IsChallengeText (challenge_text service.setup user value)

  fitting : (user : Name) (value : ℕ)
      → (nat_lt value DECOYS_FROM ≡ true → (account : Account) × (account_of service.setup user ≡ Some account))
      → IsFitting user value
  fitting user value found = by_value (nat_lt value DECOYS_FROM) refl where
    low_value : nat_lt value DECOYS_FROM ≡ true → value ≤ 9999
    low_value lt = grind (arith, nat_tests, lt)

    of_text : (text : List ℕ) → challenge_text service.setup user value ≡ text → 1 ≤ length text → length text ≤ 32
        → IsChallengeText text → IsFitting user value
    of_text text is some few reads = record {
      some = subst (λ (t : List ℕ). 1 ≤ length t) (sym is) some;
      few = subst (λ (t : List ℕ). length t ≤ 32) (sym is) few;
      reads = subst IsChallengeText (sym is) reads;
    }

    by_value : (b : Bool) → nat_lt value DECOYS_FROM ≡ b → IsFitting user value
    by_value true low =
        let f = found low in
        let c = challenge_fits f.0.algo value (seed_bytes f.0.seed) (low_value low) f.0.seed.legal in
        of_text (challenge_of f.0.algo value (seed_bytes f.0.seed))
        (ap (λ b. cond b (account_challenge_text (account_of service.setup user) value)
        (decoy_challenge_text service.setup user)) low ∙ ap (λ o. account_challenge_text o value) f.1)
        c.some c.few c.reads
    by_value false high =
        let c = challenge_fits (decoy_algo service.setup user) (decoy_number service.setup user)
        (decoy_seed service.setup user) (decoy_low service.setup user) (decoy_legal service.setup user) in
        of_text (decoy_challenge_text service.setup user)
        (ap (λ b. cond b (account_challenge_text (account_of service.setup user) value)
        (decoy_challenge_text service.setup user)) high) c.some c.few c.reads

  -- the client is sent a challenge, or that the user is held
  record Named (count tried : ℕ) (lines : List ℕ) (left : ℕ) : Type 0 where
    pub challenged : Bool
    pub text : List ℕ
    pub size : (1 ≤ length text) × (length text ≤ 16000)
    pub answering : Answering count challenged (line_state challenged 0 tried) Nothing lines text (left + 2)

  named : length journal ≤ EVENTS_LIMIT → (count tried : ℕ) (lines line name : List ℕ) (left : ℕ)
      → tried < service.setup.tries → left + 2 ≤ service.setup.requests → service.setup.requests ≤ 4096
      → front_of (behind_lines count lines) ≡ Line line → pre_command line ≡ commands.User name
      → Lined count false (line_state false 0 tried) Nothing lines left → Named count tried lines left
  named numbers count tried lines line name left tries room most front is l =
      by_decision p.event.decision refl (challenge_judged service.setup journal worker session s p.before p.event user
      now n.holds.at n.comes n.own refl (omega (arith, l.spent, room)) tries ask) where
        lasts : Lasts service.setup journal worker session Nothing
        lasts = nothing service.setup journal worker session

        s : State
        s = line_state false l.asked tried

        next : pre_next l.history ≡ Some (requests.Challenge name)
        next = leads count false (line_state false 0 tried) Nothing lines line left (commands.User name) l front is

        short : length l.history < 4097
        short = omega (arith, l.had_few, l.spent, room, most)

        v : Met (requests.Challenge name) s Nothing l.history l.steps
        v =
            next_served service journal worker session legal none small Pre [] end final rest unread ended behind
            (requests.Challenge name) s Nothing l.history l.steps lasts l.now next (named_user line name is) short

        p : Place
        p = v.step.place

        n : Next service.setup journal worker (Standing s Nothing l.history) p (step_places v.left ++ behind)
        n = v.next

        user : Name
        user = v.meets.asks.0

        now : ℕ
        now = v.meets.asks.1

        ask : p.event.ask ≡ asks.Challenge user now
        ask = v.meets.asks.3

        own : p.event.session ≡ session
        own = own_session service.setup journal worker session s p.before p.event n.holds.at n.comes n.own
            (ap came_by_frame ask)

        clock : v.step.acts ≡ acts.Clock now ∷ []
        clock =
            one_clock v.step.acts now
            (v.is.acts.operations ∙ clock_operations p v.step.message user now ask)

        permitted : (value : ℕ) → p.event.decision ≡ Permit value
            → (nat_lt value DECOYS_FROM ≡ true → (account : Account) × (account_of service.setup user ≡ Some account))
            → Named count tried lines left
        permitted value permit found =
            let text = challenge_text service.setup user value in
            let fits = fitting user value found in
            let on = request_on service.setup journal worker session s (line_state true (l.asked + 1) tried) p.before
            p.event (asks.Challenge user now) (Permit value) n.holds.at n.comes n.own ask permit refl
            (ap (line_state true (l.asked + 1)) (no_more_tried tried)) in
            let told' = answer_done service [] session (requests.Challenge name) v.step (asks.Challenge user now) value
            v.meets.message own ask permit (λ len e. absurd cc) (ap (filter_map failed_device) clock) in
            let b = child.asked_aside service journal worker session legal none small end final rest unread ended behind Last (requests.Challenge name) (Done text) s (line_state true (l.asked + 1) tried) Nothing
            Nothing l.history l.steps lines l.bytes v next short
            (event_by (λ e. ends_session e ≡ false) p.event (asks.Challenge user now) (Permit value) ask permit refl)
            (event_by (λ e. exports e ≡ false) p.event (asks.Challenge user now) (Permit value) ask permit refl)
            (record { at = on; known = tt }) told'
            (readable session (requests.Challenge name) (Done text) small tt (fits.few, fits.reads)
            (short_reply text (omega (arith, fits.few)))) (clock_alone v.step.acts now clock) l.client in
            record {
              challenged = true;
              text = text;
              size = (fits.some, omega (arith, fits.few));
              answering = answering count false true (line_state false 0 tried) (line_state true 0 tried) Nothing
                  Nothing lines text left (requests.Challenge name) (Done text) l b
                  (tells_challenge count false l.bytes name text l.history l.waits);
            }

        held : (detail : ℕ) → p.event.decision ≡ Deny 12 detail
            → detail ≡ session_taking (last_taking_of p.before user) → Named count tried lines left
        held detail deny is =
            let low : detail < 2 ^ 32 = omega (
              arith,
              is,
              taking_few service.setup p.before user n.holds.at.legal,
              ap length n.comes.stands.parts,
              length-append p.before (p.event ∷ n.comes.stands.rest),
              numbers,
            ) in
            let on = request_on service.setup journal worker session s (line_state false (l.asked + 1) tried) p.before
            p.event (asks.Challenge user now) (Deny 12 detail) n.holds.at n.comes n.own ask deny refl
            (ap (line_state false (l.asked + 1)) (no_more_tried tried)) in
            let told' = answer_denied service [] session (requests.Challenge name) v.step 12 detail v.meets.message own
            (ap shown_of deny) in
            let b = child.asked_aside service journal worker session legal none small end final rest unread ended behind Last (requests.Challenge name) (Denied 12 detail) s (line_state false (l.asked + 1) tried)
            Nothing Nothing l.history l.steps lines l.bytes v next short
            (event_by (λ e. ends_session e ≡ false) p.event (asks.Challenge user now) (Deny 12 detail) ask deny refl)
            (event_by (λ e. exports e ≡ false) p.event (asks.Challenge user now) (Deny 12 detail) ask deny refl)
            (record { at = on; known = tt }) told'
            (readable session (requests.Challenge name) (Denied 12 detail) small (lit≤ tt, lit≤ tt, low) tt
            (short_denial 12 detail)) (clock_alone v.step.acts now clock) l.client in
            record {
              challenged = false;
              text = denied_text 12;
              size = denied_size 12 (lit≤ tt);
              answering = answering count false false (line_state false 0 tried) (line_state false 0 tried) Nothing
                  Nothing lines (denied_text 12) left (requests.Challenge name) (Denied 12 detail) l b
                  (tells_held count false l.bytes name detail l.history l.waits);
            }

        by_decision : (d : Decision) → p.event.decision ≡ d → IsJudgedChallenge service.setup p.before user d
            → Named count tried lines left
        by_decision (Permit value) is judged = permitted value is judged
        by_decision (Deny rule detail) is judged =
            held detail (is ∙ ap (λ r. Deny r detail) judged.0) judged.1
        by_decision Lost is judged = absurd judged

  -- ---- `resp`, where a challenge is open

  -- after a REPLY that was accepted
  pub record Accepted (user : Name) (account : Account) (lines : List ℕ) (left : ℕ) : Type 0 where
    pub before : List Event
    pub reply : Event
    pub replied : ComesAfter journal before reply
    pub own : reply.session ≡ session
    pub accepted : accepts reply ≡ true
    pub found : account_of service.setup user ≡ Some account
    pub response : List ℕ
    pub count : ℕ
    pub history : List Exchange
    pub steps : List Step
    pub bytes : List ℕ
    pub asked : ℕ
    pub tried : ℕ
    pub now : Here (verified_state asked tried) (IsLogged service.setup journal worker session user)
        (replied_by response history) steps
    pub waits : Waits count true bytes history
    pub held : length (behind_lines count bytes) ≤ 812
    pub sum : length bytes ≤ 512 * asked
    pub spent : asked ≤ left
    pub had_few : length history < asked
    pub counted : count < asked
    pub told : texts_told before session ≡ suc count
    pub has : HasLines (suc count) lines
    pub whole : HasLines (suc count) bytes
    pub agrees : AgreesWith lines bytes
    pub client : SaysThen Last lines bytes (step_acts (rest_of steps))

  pub no_operations : (p : Place) (message : Option Message) (words hex : Option ℕ) → p.event.ask ≡ asks.Reply words hex
      → operations_of service.setup p message ≡ []
  unfolding operations_of
  no_operations p message words hex is = ap (λ (k : Ask). operations_by service.setup p k message) is

  responded : (user : Name) (account : Account) (count tried : ℕ) (lines line response : List ℕ) (left total : ℕ) → left + 1 ≤ total
      → left + 2 ≤ service.setup.requests → service.setup.requests ≤ 4096
      → front_of (behind_lines count lines) ≡ Line line → pre_command line ≡ commands.Respond response
      → AcceptsNobodyElse service.setup journal session user account → HasLines (suc count) lines
      → Lined count true (line_state true 0 tried) Nothing lines left
      → Accepted user account lines total
      ⊎ Answering count false (line_state false 0 (tried + 1)) Nothing lines (denied_text 16) (left + 2)
  responded user account count tried lines line response left total within room most front is only has l =
      by_decision p.event.decision refl (reply_judged service.setup journal worker session s p.before p.event words hex
      n.holds.at n.comes n.own refl (omega (arith, l.spent, room)) ask) where
        lasts : Lasts service.setup journal worker session Nothing
        lasts = nothing service.setup journal worker session

        s : State
        s = line_state true l.asked tried

        next : pre_next l.history ≡ Some (requests.Reply response)
        next = leads count true (line_state true 0 tried) Nothing lines line left (commands.Respond response) l front is

        short : length l.history < 4097
        short = omega (arith, l.had_few, l.spent, room, most)

        v : Met (requests.Reply response) s Nothing l.history l.steps
        v =
            next_served service journal worker session legal none small Pre [] end final rest unread ended behind
            (requests.Reply response) s Nothing l.history l.steps lasts l.now next (typed_response line response is)
            short

        p : Place
        p = v.step.place

        n : Next service.setup journal worker (Standing s Nothing l.history) p (step_places v.left ++ behind)
        n = v.next

        words : Option ℕ
        words = v.meets.asks.0

        hex : Option ℕ
        hex = v.meets.asks.1

        ask : p.event.ask ≡ asks.Reply words hex
        ask = v.meets.asks.3

        own : p.event.session ≡ session
        own = own_session service.setup journal worker session s p.before p.event n.holds.at n.comes n.own
            (ap came_by_frame ask)

        idle : v.step.acts ≡ []
        idle = no_acts v.step.acts (v.is.acts.operations ∙ no_operations p v.step.message words hex ask)

        permitted : (value : ℕ) → p.event.decision ≡ Permit value → Accepted user account lines total
        permitted value permit =
            let yes = event_by (λ e. accepts e ≡ true) p.event (asks.Reply words hex) (Permit value) ask permit refl in
            let on = reply_on service.setup journal worker session s p.before p.event user words hex value n.holds.at
            n.comes n.own refl ask permit (only.only p.before p.event n.comes.stands own yes) in
            let told' = answer_done service [] session (requests.Reply response) v.step (asks.Reply words hex) value
            v.meets.message own ask permit (λ len e. absurd cc) (ap (filter_map failed_device) idle) in
            let b = child.asked_aside service journal worker session legal none small end final rest unread ended behind Last (requests.Reply response) (Done []) s (verified_state (l.asked + 1) tried) Nothing
            (IsLogged service.setup journal worker session user) l.history l.steps lines l.bytes v next short
            (event_by (λ e. ends_session e ≡ false) p.event (asks.Reply words hex) (Permit value) ask permit refl)
            (event_by (λ e. exports e ≡ false) p.event (asks.Reply words hex) (Permit value) ask permit refl)
            (record { at = on.at; known = on.logged }) told'
            (readable session (requests.Reply response) (Done []) small tt refl (short_reply [] (lit≤ tt)))
            (no_part v.step.acts idle) l.client in
            record {
              before = p.before;
              reply = p.event;
              replied = n.comes.stands;
              own = own;
              accepted = yes;
              found = only.found;
              response = response;
              count = count;
              history = l.history;
              steps = b.steps;
              bytes = l.bytes;
              asked = l.asked + 1;
              tried = tried;
              now = b.now;
              waits = l.waits;
              held = l.held;
              sum = omega (arith, l.sum);
              spent = omega (arith, l.spent, within);
              had_few = omega (arith, l.had_few);
              counted = omega (arith, l.counted);
              told = n.holds.told refl ∙ l.waits.texts;
              has = has;
              whole = l.whole.whole;
              agrees = l.agrees;
              client = b.client;
            }

        denied : (rule detail : ℕ) → p.event.decision ≡ Deny rule detail
            → is_login_denial (Deny rule detail) ≡ true
            → Answering count false (line_state false 0 (tried + 1)) Nothing lines (denied_text 16) (left + 2)
        denied rule detail deny login =
            let mild = no_violation rule login in
            let goes : ends_session (event_as p.event (asks.Reply words hex) (Deny rule detail)) ≡ false = rw mild refl
            in
            let on = request_on service.setup journal worker session s (line_state false (l.asked + 1) (tried + 1))
            p.before p.event (asks.Reply words hex) (Deny rule detail) n.holds.at n.comes n.own ask deny refl
            (rw (mild, login) refl) in
            let shown : shown_of p.event.decision ≡ Deny 16 0 = ap shown_of deny
            ∙ ap (λ b. cond b (Deny 16 0) (Deny rule detail)) login in
            let told' = answer_denied service [] session (requests.Reply response) v.step 16 0 v.meets.message own shown
            in
            let b = child.asked_aside service journal worker session legal none small end final rest unread ended behind Last (requests.Reply response) (Denied 16 0) s
            (line_state false (l.asked + 1) (tried + 1)) Nothing Nothing l.history l.steps lines l.bytes v next short
            (event_by (λ e. ends_session e ≡ false) p.event (asks.Reply words hex) (Deny rule detail) ask deny goes)
            (event_by (λ e. exports e ≡ false) p.event (asks.Reply words hex) (Deny rule detail) ask deny refl)
            (record { at = on; known = tt }) told'
            (readable session (requests.Reply response) (Denied 16 0) small (lit≤ tt, lit≤ tt, lit< tt) tt
            (short_denial 16 0)) (no_part v.step.acts idle) l.client in
            answering count true false (line_state true 0 tried) (line_state false 0 (tried + 1)) Nothing Nothing lines
            (denied_text 16) left (requests.Reply response) (Denied 16 0) l b
            (tells_wrong count true l.bytes response l.history l.waits)

        by_decision : (d : Decision) → p.event.decision ≡ d → IsJudgedReply d → Accepted user account lines total
            ⊎ Answering count false (line_state false 0 (tried + 1)) Nothing lines (denied_text 16) (left + 2)
        by_decision (Permit value) is judged = inl (permitted value is)
        by_decision (Deny rule detail) is judged = inr (denied rule detail is judged)
        by_decision Lost is judged = absurd judged

  -- ---- any of these lines

  -- the client's line is answered by a text, after which a challenge may be open
  record Passed (may : Bool) (count tried : ℕ) (lines : List ℕ) (left : ℕ) (command : PreCommand) : Type 0 where
    pub challenged : Bool
    pub tries : ℕ
    pub text : List ℕ
    pub size : (1 ≤ length text) × (length text ≤ 16000)
    pub open_so : challenged ≡ true → may_open may command ≡ true
    pub tried_so : tries ≤ tried + cond (is_response command) 1 0
    pub answering : Answering count challenged (line_state challenged 0 tries) Nothing lines text (left + 2)

  -- the line of the first of these commands came whole, and no challenge is open
  pub record Come (lines : List ℕ) (command : PreCommand) (others : List PreCommand) (place left : ℕ) : Type 0 where
    pub count : ℕ
    pub reached : count ≡ place
    pub tried : ℕ
    pub few : tried < service.setup.tries
    pub has : HasLines count lines
    pub begin : BeginWith (command ∷ others) (behind_lines count lines)
    pub lined : Lined count false (line_state false 0 tried) Nothing lines left

  module _ (numbers : length journal ≤ EVENTS_LIMIT) (most : service.setup.requests ≤ 4096) (user : Name)
      (account : Account) (lines : List ℕ) where
    at_text : (may : Bool) (count tried : ℕ) (challenged : Bool) (line text : List ℕ) (left : ℕ)
        (command : PreCommand) → front_of (behind_lines count lines) ≡ Line line
        → pre_request (pre_command line) challenged ≡ say text → (1 ≤ length text) × (length text ≤ 16000)
        → (challenged ≡ true → may_open may command ≡ true)
        → Lined count challenged (line_state challenged 0 tried) Nothing lines left
        → Passed may count tried lines left command
    at_text may count tried challenged line text left command front answer size open_so l = record {
      challenged = challenged;
      tries = tried;
      text = text;
      size = size;
      open_so = open_so;
      tried_so = omega arith;
      answering = at_once count challenged (line_state challenged 0 tried) Nothing lines line text left front answer l;
    }

    passed : (may : Bool) (count tried : ℕ) (challenged : Bool) (line : List ℕ) (left total : ℕ)
        (command : PreCommand) → left + 1 ≤ total → left + 2 ≤ service.setup.requests → tried < service.setup.tries
        → front_of (behind_lines count lines) ≡ Line line → pre_command line ≡ command → is_quit command ≡ false
        → (challenged ≡ true → may ≡ true)
        → (is_response command ≡ true → AcceptsNobodyElse service.setup journal session user account)
        → HasLines (suc count) lines → Lined count challenged (line_state challenged 0 tried) Nothing lines left
        → Accepted user account lines total ⊎ Passed may count tried lines left command
    passed may count tried challenged line left total (commands.Terminal text) within room tries front is stays open_so
        only has l =
        inr (at_text may count tried challenged line (codes "done\n") left (commands.Terminal text) front
        (ap (λ c. pre_request c challenged) is) (lit≤ tt, lit≤ tt) open_so l)
    passed may count tried true line left total (commands.User name) within room tries front is stays open_so only has l =
        inr (at_text may count tried true line (codes "what\n") left (commands.User name) front
        (ap (λ c. pre_request c true) is) (lit≤ tt, lit≤ tt) (λ yes. refl) l)
    passed may count tried false line left total (commands.User name) within room tries front is stays open_so only has l =
        let n = named numbers count tried lines line name left tries room most front is l in
        inr (record {
          challenged = n.challenged;
          tries = tried;
          text = n.text;
          size = n.size;
          open_so = λ yes. refl;
          tried_so = omega arith;
          answering = n.answering;
        })
    passed may count tried true line left total (commands.Respond text) within room tries front is stays open_so only has
        l =
        elim (responded user account count tried lines line text left total within room most front is (only refl) has l) [
          | inl a ↦ inl a
          | inr answering ↦ inr (record {
            challenged = false;
            tries = tried + 1;
            text = denied_text 16;
            size = denied_size 16 (lit≤ tt);
            open_so = λ yes. absurd cc;
            tried_so = omega arith;
            answering = answering;
          })
        ]
    passed may count tried false line left total (commands.Respond text) within room tries front is stays open_so only has
        l =
        inr (at_text may count tried false line (codes "what\n") left (commands.Respond text) front
        (ap (λ c. pre_request c false) is) (lit≤ tt, lit≤ tt) (λ yes. absurd cc) l)
    passed may count tried true line left total commands.Cancel within room tries front is stays open_so only has l =
        inr (record {
          challenged = false;
          tries = tried;
          text = codes "done\n";
          size = (lit≤ tt, lit≤ tt);
          open_so = λ yes. absurd cc;
          tried_so = omega arith;
          answering = cancelled count tried lines line left room most front is l;
        })
    passed may count tried false line left total commands.Cancel within room tries front is stays open_so only has l =
        inr (at_text may count tried false line (codes "what\n") left commands.Cancel front
        (ap (λ c. pre_request c false) is) (lit≤ tt, lit≤ tt) (λ yes. absurd cc) l)
    passed may count tried challenged line left total commands.Quit within room tries front is stays open_so only has l =
        absurd cc
    passed may count tried challenged line left total commands.Other within room tries front is stays open_so only has l =
        inr (at_text may count tried challenged line (codes "what\n") left commands.Other front
        (ap (λ c. pre_request c challenged) is) (lit≤ tt, lit≤ tt) open_so l)

    -- ---- all of them

    all_passed : (command : PreCommand) (others earlier : List PreCommand) (may : Bool) (count tried : ℕ)
        (challenged : Bool) (place left total : ℕ) → count + length earlier ≡ place → left + 2 * length earlier ≡ total → total + 2 ≤ service.setup.requests
        → HasLines count lines → BeginWith (earlier ++ (command ∷ others)) (behind_lines count lines)
        → list_any is_quit earlier ≡ false → (challenged ≡ true → may ≡ true) → fold may_open may earlier ≡ false
        → tried + count_by is_response earlier < service.setup.tries
        → (list_any is_response earlier ≡ true → AcceptsNobodyElse service.setup journal session user account)
        → Lined count challenged (line_state challenged 0 tried) Nothing lines left
        → Accepted user account lines total ⊎ Come lines command others place total
    all_passed command others [] may count tried challenged place left total at is room has begin stays open_so closed tries only
        l =
        let shut : challenged ≡ false = none_open challenged may open_so closed in
        inr (record {
          count = count;
          reached = reached_so count place at;
          tried = tried;
          few = omega (arith, tries);
          has = has;
          begin = begin;
          lined = subst (Lined count false (line_state false 0 tried) Nothing lines) (last left total is)
              (subst (λ c. Lined count c (line_state c 0 tried) Nothing lines left) shut l);
        })
      where
        reached_so : (a b : ℕ) → a + 0 ≡ b → a ≡ b
        reached_so a b e = omega (arith, e)

        last : (a b : ℕ) → a + 2 * 0 ≡ b → a ≡ b
        last a b e = omega (arith, e)
    all_passed command others (c ∷ earlier) may count tried challenged place left total at is room has begin stays open_so closed
        tries only l =
        let all = or_parts (is_quit c) (list_any is_quit earlier) stays in
        let counted = count-cons is_response c earlier in
        let whole : HasLines (suc count) lines = (has, ap is_some begin.0.whole) in
        let first = first_line command others earlier (behind_lines (suc count) lines) begin.1 in
        elim (passed may count tried challenged begin.0.text left total c (omega (arith, is)) (omega (arith, is, room))
        (omega (arith, tries)) begin.0.front begin.0.is all.0 open_so
        (λ yes. only (ap (λ b. b || list_any is_response earlier) yes)) whole l) [
          | inl a ↦ inl a
          | inr p ↦ all_passed command others earlier (may_open may c) (suc count) p.tries p.challenged place
              (left + 2) total (omega (arith, at)) (omega (arith, is)) room whole begin.1 all.1 p.open_so closed (omega (arith, tries, counted, p.tried_so))
              (λ yes. only (either_way (is_response c) (list_any is_response earlier) yes))
              (child.told service journal worker session legal none small end final rest unread ended behind Last count
              p.challenged (line_state p.challenged 0 p.tries) Nothing lines begin.0.text p.text (left + 2)
              (nothing service.setup journal worker session) (whole, ap is_some first.whole)
              (only_end (line_end (behind_lines (suc count) lines)) first.end first.whole first.short) begin.0.front
              (ap is_quit begin.0.is ∙ all.0) p.size (omega (arith, is, room)) most (live_phase p.challenged) p.answering)
        ]

    -- what comes of the lines that a client says before it logs in
    pub tried_all : (command : PreCommand) (others earlier : List PreCommand) (left : ℕ)
        → left + 2 * length earlier + 2 ≤ service.setup.requests
        → BeginWith (earlier ++ (command ∷ others)) lines → AreEarlier service.setup.tries earlier
        → (list_any is_response earlier ≡ true → AcceptsNobodyElse service.setup journal session user account)
        → Lined 0 false (line_state false 0 0) Nothing lines left
        → Accepted user account lines (left + 2 * length earlier) ⊎ Come lines command others (length earlier)
        (left + 2 * length earlier)
    tried_all command others earlier left room begin are only l =
        all_passed command others earlier false 0 0 false (length earlier) left (left + 2 * length earlier) (omega arith)
        refl room tt begin are.stays
        (λ yes. yes) are.closed (omega (arith, are.tried)) only l
