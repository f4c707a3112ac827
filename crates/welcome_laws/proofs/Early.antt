-- The child before the login, from the line by which it asks for the user to its EXPORT.
use Rattle.std.proofs.Common.{◌≡◌, ℕ, suc, ◌+◌, ◌*◌, ◌-◌, ◌<◌, ◌≤◌, ◌^◌, Bool, true, false, cond, List, [], ◌∷◌, ◌++◌}
use Rattle.std.proofs.Common.{length, Option, Some, refl, sym, ap, subst, ◌∙◌, arith, lit≤, inl}
use Rattle.std.proofs.Common.{inr}
use Rattle.std.specs.Prelude.{filter_map, is_some, nat_lt}
use Rattle.std.specs.List.{list_all, list_any}
use Rattle.std.proofs.lemmas.Bool.Decides.{nat_tests}
use Rattle.request_catalogue.specs.declared.texts.Name.{Name}
use Rattle.request_catalogue.specs.TextBytes.{name_bytes}
use Rattle.request_catalogue.specs.Catalogue as requests
use Rattle.request_catalogue.specs.Replies.{Done}
use Rattle.request_catalogue.proofs.TextLemmas.{same_from_name_bytes}
use Rattle.imsg_frame.specs.Message.{spelling_of}
use Rattle.imsg_frame.specs.Requests.{request_message}
use Rattle.otp_hash.specs.SeedBytes.{seed_bytes}
use Rattle.otp_words.specs.Candidates.{AreCandidatesOf}
use Rattle.otp_words.specs.Challenges.{challenge_of}
use Rattle.policy_model.specs.declared.account.Account.{Account}
use Rattle.policy_model.specs.declared.event.Ask.TheVariants as asks
use Rattle.policy_model.specs.declared.event.Decision.TheVariants.{Permit}
use Rattle.policy_model.specs.declared.event.Event.{Event}
use Rattle.policy_model.specs.declared.phase.Phase.TheVariants as phases
use Rattle.policy_model.specs.declared.ranges.TheConstants.{EVENTS_LIMIT}
use Rattle.policy_model.specs.declared.reading.TheConstants.{DECOYS_FROM}
use Rattle.policy_model.specs.declared.event.Ask.{Ask}
use Rattle.policy_model.specs.declared.event.Decision.{Decision}
use Rattle.policy_model.specs.Asks.{accepts, came_by_frame, ends_session, exports, is_permit, moment_of, opens_file}
use Rattle.policy_model.specs.Cases.{is_challenge_for}
use Rattle.policy_model.specs.Handles.{live_handles_of}
use Rattle.policy_model.specs.Journal.{Place, has_lost}
use Rattle.policy_model.specs.Legal.{IsLegal}
use Rattle.policy_model.specs.Logins.{account_of, current_sequence, replies_of}
use Rattle.policy_model.specs.Settings.{IsInRange as IsSetupInRange}
use Rattle.policy_model.specs.Verdict.{is_held, is_next_password, readings}
use Rattle.session_laws.specs.Handled.{handles_after}
use Rattle.session_laws.proofs.HandleLaws.{no_handles_before}
use Rattle.session_laws.proofs.HandleSteps.{live_handles_of-own}
use Rattle.session_laws.proofs.Holders.{legal_tied}
use Rattle.session_laws.proofs.Permits.{found_name, same_name-same}
use Rattle.session_laws.proofs.PhaseLemmas.{phase_tests}
use Rattle.session_laws.proofs.SessionEvents.{count_of-push}
use Rattle.child_protocol.specs.Commands.{PreCommand, Respond, User}
use Rattle.child_protocol.specs.Exchanges.{Exchange}
use Rattle.child_protocol.specs.Lines.{HasLines, behind_lines, line_end}
use Rattle.child_protocol.specs.Pre.{is_quit, state_at}
use Rattle.child_protocol.specs.Says.{Pre}
use Rattle.state_export.specs.Spelling.{IsState, StateValue, state_bytes}
use Rattle.service_model.specs.Acts.{export_operations, failed_device, operations_by, operations_of}
use Rattle.service_model.specs.Answers.{answer_to, challenge_text, decoy_challenge_text, reply_message}
use Rattle.service_model.specs.Cases.{account_challenge_text}
use Rattle.service_model.specs.Parts.{EndsSo, HandsOver, PartEnd}
use Rattle.service_model.specs.Places.{Step, step_acts, step_places}
use Rattle.service_model.specs.Service.{Service}
use Rattle.service_model.specs.Users.{user_role}
use Rattle.login_laws.specs.Login.{CanLogIn, ComesAfter, ComesWithinHold, IsRight}
use Rattle.login_laws.proofs.Held.{Holds}
use Rattle.login_laws.proofs.Judged.{challenge_permitted, export_permitted, passes, reply_permitted}
use Rattle.login_laws.proofs.Logins.{any_same, next_same}
use Rattle.login_laws.proofs.Stages.{IsLogged, Lasts, Stage, challenge_on, export_on, holding_from, logged}
use Rattle.login_laws.proofs.Stages.{nothing, reply_on}
use Rattle.login_laws.proofs.Walk.{Stands, State, own_session, start}
use Rattle.welcome_laws.specs.Client.{AgreesWith, AreEarlier, BeginWith, BeginsWith, is_response}
use Rattle.welcome_laws.specs.Welcome.{AcceptsNobodyElse, AsksAfter, tells_client, texts_told}
use Rattle.welcome_laws.proofs.Saying.{SaysThen, is_aside, says_after}
use Rattle.welcome_laws.proofs.Before as child
use Rattle.welcome_laws.proofs.Before.{Nothing, clock_alone, line_state, no_part, receives, short_reply, user_state}
use Rattle.welcome_laws.proofs.Before.{verified_state}
use Rattle.welcome_laws.proofs.Tries as tries
use Rattle.welcome_laws.proofs.Tries.{first_line, only_end}
use Rattle.welcome_laws.proofs.Lines.{behind_shorter, is_state, named_user, replied_by, replied_next, state_short}
use Rattle.welcome_laws.proofs.Lines.{tells_challenge, typed_response}
use Rattle.welcome_laws.proofs.Meeting.{readable}
use Rattle.welcome_laws.proofs.Serving.{Now, answer_done, event_by, left_of, next_served, no_acts, one_clock}
use Rattle.welcome_laws.proofs.Texts.{challenge_fits}

one_more : (n : ℕ) → suc n ≡ 1 + n
one_more n = omega arith

challenge_no_export : (user : Name) (now len : ℕ) → asks.Challenge user now ≡ asks.Export len → ⊥
challenge_no_export user now len e = cc

export_going : (e : Event) (len value : ℕ)
    → ends_session (record {
      worker = e.worker;
      session = e.session;
      ask = asks.Export len;
      decision = Permit value;
    }) ≡ false
export_going e len value = refl

module _ (service : Service) (journal : List Event) (worker session : ℕ) (legal : IsLegal service.setup journal)
    (none : has_lost journal ≡ false) (small : session < 2 ^ 32) (end : PartEnd) (final : Option Step)
    (rest unread : List ℕ) (ended : EndsSo service.setup.frames end final rest unread) (behind : List Place)
    (Last : List ℕ → Type 0) where
  -- ---- where the session stands, of this child's part

  abbrev rest_of : List Step → List Step
  rest_of served =
      left_of service journal worker session legal none small Pre [] end final rest unread ended behind served

  abbrev Here : State → (List Event → Type 0) → List Exchange → List Step → Type 0
  Here s Q history served =
      Now service journal worker session legal none small Pre [] end final rest unread ended behind s Q history served

  abbrev Lined : ℕ → Bool → State → (List Event → Type 0) → List ℕ → ℕ → Type 0
  Lined count challenged s Q lines left =
      child.Lined service journal worker session legal none small end final rest unread ended behind Last count challenged s
      Q lines left

  abbrev Accepted : Name → Account → List ℕ → ℕ → Type 0
  Accepted user account lines left =
      tries.Accepted service journal worker session legal none small end final rest unread ended behind Last user account
      lines left

  abbrev Come : Name → List ℕ → List ℕ → ℕ → ℕ → Type 0
  Come user lines response place left =
      tries.Come service journal worker session legal none small end final rest unread ended behind Last lines
      (User (name_bytes user)) (Respond response ∷ []) place left

  -- ---- the challenge

  -- the session holds the user, and wrote this many texts
  abbrev HoldsAfter : Name → List ℕ → ℕ → List Event → Type 0
  HoldsAfter user replies texts before = Holds session user replies before × (texts ≤ texts_told before session)

  no_fewer : (texts : ℕ) (before : List Event) (e : Event) → texts ≤ texts_told before session
      → texts ≤ texts_told (before ++ e ∷ []) session
  no_fewer texts before e le = omega (arith, le, count_of-push before e session (λ y. tells_client y.ask))

  -- while it does, other sessions ask for that user only within the hold
  abbrev IsInTime : Name → ℕ → Type 0
  IsInTime user texts =
      (before : List Event) (e : Event) → ComesAfter journal before e → texts ≤ texts_told before session
      → ComesWithinHold service.setup before session user e

  holding_on : (user : Name) (replies : List ℕ) (texts : ℕ) → IsInTime user texts
      → Lasts service.setup journal worker session (HoldsAfter user replies texts)
  holding_on user replies texts hold =
      holding_from service.setup journal worker session (λ before. texts ≤ texts_told before session) (no_fewer texts)
      user replies hold

  -- after its challenge the client is waited for once more, and the session holds the user
  record Taken (user : Name) (account : Account) (lines response : List ℕ) (texts left : ℕ) : Type 0 where
    pub before : List Event
    pub event : Event
    pub asks : AsksAfter journal session user texts before event
    pub count : ℕ
    pub tried : ℕ
    pub has : HasLines count lines
    pub begin : BeginsWith (Respond response) (behind_lines count lines)
    pub lined : Lined count true (line_state true 0 tried) (HoldsAfter user (replies_of before user) texts) lines left

  low_value : (value : ℕ) → nat_lt value DECOYS_FROM ≡ true → value ≤ 9999
  low_value value lt = grind (arith, nat_tests, lt)

  text_is : (user : Name) (account : Account) (value : ℕ) → account_of service.setup user ≡ Some account
      → nat_lt value DECOYS_FROM ≡ true
      → challenge_text service.setup user value ≡ challenge_of account.algo value (seed_bytes account.seed)
  text_is user account value found below =
      ap (λ b. cond b (account_challenge_text (account_of service.setup user) value)
      (decoy_challenge_text service.setup user)) below ∙ ap (λ o. account_challenge_text o value) found

  challenged : IsSetupInRange service.setup → (user : Name) (account : Account) (response lines : List ℕ)
      (place left : ℕ) → IsInTime user (1 + place)
      → ((before : List Event) (e : Event) → AsksAfter journal session user (1 + place) before e
      → CanLogIn service.setup before session user (moment_of e.ask) account) → left + 6 ≤ service.setup.requests
      → Come user lines response place left → Taken user account lines response (1 + place) (left + 2)
  challenged range user account response lines place left hold can room x =
      let l = x.lined in
      let first = x.begin.0 in
      let second = x.begin.1.0 in
      let lasts = nothing service.setup journal worker session in
      let name = name_bytes user in
      let s = line_state false l.asked x.tried in
      let next = tries.leads service journal worker session legal none small end final rest unread ended behind Last x.count
      false (line_state false 0 x.tried) Nothing lines first.text left (User name) l first.front first.is in
      let few : l.asked + 6 ≤ service.setup.requests = omega (arith, l.spent, room) in
      let short : length l.history < 4097 = omega (arith, few, l.had_few, range.requests.1) in
      let v = next_served service journal worker session legal none small Pre [] end final rest unread ended behind
      (requests.Challenge name) s Nothing l.history l.steps lasts l.now next (named_user first.text name first.is) short
      in
      let p = v.step.place in
      let n = v.next in
      let asked = v.meets.asks in
      let now = asked.1 in
      let ask : p.event.ask ≡ asks.Challenge user now = asked.3
      ∙ ap (λ u. asks.Challenge u now) (same_from_name_bytes asked.0 user asked.2) in
      let own = own_session service.setup journal worker session s p.before p.event n.holds.at n.comes n.own
      (ap came_by_frame ask) in
      let for_user : is_challenge_for user p.event.ask ≡ true = ap (is_challenge_for user) ask ∙ same_name-same user in
      let told_so : texts_told p.before session ≡ 1 + place = n.holds.told refl ∙ l.waits.texts
      ∙ ap (λ k. suc k) x.reached ∙ one_more place in
      let this : AsksAfter journal session user (1 + place) p.before p.event = record
      { comes = n.comes.stands; own = own; asks = for_user; told = told_so } in
      let c = can p.before p.event this in
      let free = subst (λ (m : ℕ). is_held service.setup p.before session user m ≡ false) (ap moment_of ask) c.free in
      let value = current_sequence p.before account - 1 in
      let permit = challenge_permitted service.setup journal worker session s p.before p.event user now account
      n.holds.at n.comes n.own refl (omega (arith, few)) x.few ask c.found c.live free in
      let on = challenge_on service.setup journal worker session s p.before p.event user now value account range
      n.holds.at n.comes n.own refl ask permit c.found c.live in
      let fits = challenge_fits account.algo value (seed_bytes account.seed) (low_value value on.low)
      account.seed.legal in
      let text = challenge_of account.algo value (seed_bytes account.seed) in
      let clock = one_clock v.step.acts now (v.is.acts.operations
      ∙ tries.clock_operations service journal worker session legal none small end final rest unread ended behind Last p
      v.step.message user now ask) in
      let told = answer_done service [] session (requests.Challenge name) v.step (asks.Challenge user now) value
      v.meets.message own ask permit (challenge_no_export user now) (ap (filter_map failed_device) clock) in
      let told' = subst (λ b. answer_to service [] v.step ≡ spelling_of service.setup.frames
      (reply_message (request_message (requests.Challenge name)) session (Done b)))
      (text_is user account value c.found on.low) told in
      let R = HoldsAfter user (replies_of p.before user) (1 + place) in
      let b = child.asked_aside service journal worker session legal none small end final rest unread ended behind Last
      (requests.Challenge name) (Done text) s (line_state true (l.asked + 1) x.tried) Nothing R l.history l.steps lines
      l.bytes v next short
      (event_by (λ e. ends_session e ≡ false) p.event (asks.Challenge user now) (Permit value) ask permit refl)
      (event_by (λ e. exports e ≡ false) p.event (asks.Challenge user now) (Permit value) ask permit refl)
      (record {
        at = on.at;
        known = (on.holds, no_fewer (1 + place) p.before p.event (omega (arith, told_so)));
      }) told'
      (readable session (requests.Challenge name) (Done text) small tt (fits.few, fits.reads)
      (short_reply text (omega (arith, fits.few)))) (clock_alone v.step.acts now clock) l.client in
      let answer = tries.answering service journal worker session legal none small end final rest unread ended behind Last
      x.count false true (line_state false 0 x.tried) (line_state true 0 x.tried) Nothing R lines text left
      (requests.Challenge name) (Done text) l b
      (tells_challenge x.count false l.bytes name text l.history l.waits) in
      let lasts' = holding_on user (replies_of p.before user) (1 + place) hold in
      record {
        before = p.before;
        event = p.event;
        asks = this;
        count = suc x.count;
        tried = x.tried;
        has = (x.has, ap is_some first.whole);
        begin = second;
        lined = child.told service journal worker session legal none small end final rest unread ended behind Last x.count
            true (line_state true 0 x.tried) R lines first.text text (left + 2) lasts'
            ((x.has, ap is_some first.whole), ap is_some second.whole)
            (only_end (line_end (behind_lines (suc x.count) lines)) second.end second.whole second.short) first.front
            (ap is_quit first.is) (fits.some, omega (arith, fits.few)) (omega (arith, room)) range.requests.1 refl
            answer;
      }

  -- ---- the reply

  accepted_by : IsSetupInRange service.setup → (user : Name) (account : Account) (response lines : List ℕ)
      (texts left : ℕ) → IsInTime user texts → account_of service.setup user ≡ Some account
      → (t : Taken user account lines response texts left)
      → ((words hex : Option ℕ) → AreCandidatesOf service.words response words hex → IsRight t.before account words hex)
      → left + 4 ≤ service.setup.requests → Accepted user account lines (left + 1)
  accepted_by range user account response lines texts left hold found t right room =
      let l = t.lined in
      let Q = HoldsAfter user (replies_of t.before user) texts in
      let s = line_state true l.asked t.tried in
      let lasts = holding_on user (replies_of t.before user) texts hold in
      let next = tries.leads service journal worker session legal none small end final rest unread ended behind Last t.count
      true (line_state true 0 t.tried) Q lines t.begin.text left (Respond response) l t.begin.front t.begin.is in
      let few : l.asked + 4 ≤ service.setup.requests = omega (arith, l.spent, room) in
      let short : length l.history < 4097 = omega (arith, few, l.had_few, range.requests.1) in
      let v = next_served service journal worker session legal none small Pre [] end final rest unread ended behind
      (requests.Reply response) s Q l.history l.steps lasts l.now next (typed_response t.begin.text response t.begin.is)
      short in
      let p = v.step.place in
      let n = v.next in
      let asked = v.meets.asks in
      let ask : p.event.ask ≡ asks.Reply asked.0 asked.1 = asked.3 in
      let own = own_session service.setup journal worker session s p.before p.event n.holds.at n.comes n.own
      (ap came_by_frame ask) in
      let tied = (legal_tied service.setup p.before n.holds.at.legal).holders user session n.holds.known.0.holder in
      let named = found_name service.setup user account found in
      let same : replies_of t.before account.name ≡ replies_of p.before account.name = ap (replies_of t.before) named
      ∙ sym n.holds.known.0.accepted ∙ ap (replies_of p.before) (sym named) in
      let is_right = right asked.0 asked.1 asked.2 in
      let pass = passes (is_next_password p.before account) (readings asked.0 asked.1)
      (any_same (is_next_password t.before account) (is_next_password p.before account) (readings asked.0 asked.1)
      (λ x. next_same t.before p.before account x same) is_right.next) in
      let permit = reply_permitted service.setup journal worker session s p.before p.event asked.0 asked.1 user account
      n.holds.at n.comes n.own refl (omega (arith, few)) ask tied.challenged tied.no_decoy n.holds.known.0.holder found
      pass in
      let on = reply_on service.setup journal worker session s p.before p.event user asked.0 asked.1 pass.password
      n.holds.at n.comes n.own refl ask permit tied.challenged in
      let idle = no_acts v.step.acts (v.is.acts.operations
      ∙ tries.no_operations service journal worker session legal none small end final rest unread ended behind Last p
      v.step.message asked.0 asked.1 ask) in
      let told = answer_done service [] session (requests.Reply response) v.step (asks.Reply asked.0 asked.1)
      pass.password v.meets.message own ask permit (λ len e. absurd cc) (ap (filter_map failed_device) idle) in
      let b = child.asked_aside service journal worker session legal none small end final rest unread ended behind Last
      (requests.Reply response) (Done []) s (verified_state (l.asked + 1) t.tried) Q
      (IsLogged service.setup journal worker session user) l.history l.steps lines l.bytes v next short
      (event_by (λ e. ends_session e ≡ false) p.event (asks.Reply asked.0 asked.1) (Permit pass.password) ask permit
      refl) (event_by (λ e. exports e ≡ false) p.event (asks.Reply asked.0 asked.1) (Permit pass.password) ask permit
      refl) (record { at = on.at; known = on.logged }) told
      (readable session (requests.Reply response) (Done []) small tt refl (short_reply [] (lit≤ tt)))
      (no_part v.step.acts idle) l.client in
      record {
        before = p.before;
        reply = p.event;
        replied = n.comes.stands;
        own = own;
        accepted = on.accepts;
        found = found;
        response = response;
        count = t.count;
        history = l.history;
        steps = b.steps;
        bytes = l.bytes;
        asked = l.asked + 1;
        tried = t.tried;
        now = b.now;
        waits = l.waits;
        held = l.held;
        sum = omega (arith, l.sum);
        spent = omega (arith, l.spent);
        had_few = omega (arith, l.had_few);
        counted = omega (arith, l.counted);
        told = n.holds.told refl ∙ l.waits.texts;
        has = (t.has, ap is_some t.begin.whole);
        whole = l.whole.whole;
        agrees = l.agrees;
        client = b.client;
      }

  -- ---- the export

  -- what the child before the login leaves
  pub record Left (user : Name) (account : Account) (lines : List ℕ) (room : ℕ) : Type 0 where
    pub before : List Event
    pub reply : Event
    pub replied : ComesAfter journal before reply
    pub own : reply.session ≡ session
    pub accepted : accepts reply ≡ true
    pub step : Step
    pub final_is : final ≡ Some step
    pub end_is : end ≡ HandsOver
    pub exported : exports step.place.event ≡ true
    pub exported_own : step.place.event.session ≡ session
    pub state : StateValue
    pub in_range : IsState state
    pub message : step.message ≡ Some (request_message (requests.Export (state_bytes state)))
    pub found : account_of service.setup user ≡ Some account
    pub logged_before : IsLogged service.setup journal worker session user step.place.before
    pub asked : ℕ
    pub tried : ℕ
    pub few : asked + 2 ≤ room
    pub stage : Stage service.setup journal worker session (user_state asked tried)
        (IsLogged service.setup journal worker session user) (step.place.before ++ step.place.event ∷ [])
    pub stands : Stands journal worker (step.place.before ++ step.place.event ∷ []) behind
    -- the lines that were taken, and the client's bytes
    pub count : ℕ
    pub bytes : List ℕ
    pub told : texts_told before session ≡ suc count
    pub has : HasLines (suc count) lines
    pub whole : HasLines (suc count) bytes
    pub agrees : AgreesWith lines bytes
    pub state_is : state ≡ state_at (suc count) bytes
    pub last : Last bytes
    pub closed : live_handles_of (step.place.before ++ step.place.event ∷ []) session ≡ []

  left_by : IsSetupInRange service.setup → (user : Name) (account : Account) (lines : List ℕ) (left total : ℕ)
      → left + 3 ≤ total → total ≤ service.setup.requests → Accepted user account lines left
      → Left user account lines total
  unfolding operations_of
  left_by range user account lines left total within room a =
      let Q = IsLogged service.setup journal worker session user in
      let s = verified_state a.asked a.tried in
      let state = state_at (suc a.count) a.bytes in
      let few : a.asked < service.setup.requests = omega (arith, a.spent, within, room) in
      let in_range = is_state (suc a.count) a.bytes
      (omega (arith, a.held, behind_shorter (behind_lines a.count a.bytes)))
      (omega (arith, a.counted, few, range.requests.1)) (omega (arith, a.sum, few, range.requests.1)) in
      let next = replied_next a.count a.response a.bytes a.history a.waits in
      let short : length (replied_by a.response a.history) < 4097 = omega (arith, few, a.had_few, range.requests.1) in
      let x = next_served service journal worker session legal none small Pre [] end final rest unread ended behind
      (requests.Export (state_bytes state)) s Q (replied_by a.response a.history) a.steps
      (logged service.setup journal worker session user) a.now next (state_short state in_range) short in
      let q = x.step.place in
      let m = x.next in
      let len = length (state_bytes state) in
      let ask : q.event.ask ≡ asks.Export len = x.meets.asks in
      let new = (phase_tests q.before session phases.Verified m.holds.at.phased).1.0 in
      let permit = export_permitted service.setup journal worker session s q.before q.event len m.holds.at m.comes m.own
      refl few ask new in
      let on = export_on service.setup journal worker session s q.before q.event user len permit.0 m.holds.at m.comes
      m.own refl ask permit.1 m.holds.known in
      let going = event_by (λ e. ends_session e ≡ false) q.event (asks.Export len) (Permit permit.0) ask permit.1
      (export_going q.event len permit.0) in
      let last = x.last going on.exports in
      let own = own_session service.setup journal worker session s q.before q.event m.holds.at m.comes m.own
      (ap came_by_frame ask) in
      let opens = event_by (λ e. opens_file e ≡ false) q.event (asks.Export len) (Permit permit.0) ask permit.1 refl in
      let operations = x.is.acts.operations ∙ ap (λ (k : Ask). operations_by service.setup q k x.step.message) ask
      ∙ ap (λ (d : Decision). cond (is_permit d) (export_operations q.event.session (user_role service.setup q)) [])
      permit.1 in
      let all = subst (λ steps'. SaysThen Last lines a.bytes (step_acts steps')) x.are a.client in
      let alone = subst (λ steps'. SaysThen Last lines a.bytes (x.step.acts ++ step_acts steps')) last.2 all in
      record {
        before = a.before;
        reply = a.reply;
        replied = a.replied;
        own = a.own;
        accepted = a.accepted;
        step = x.step;
        final_is = last.1;
        end_is = last.3;
        exported = on.exports;
        exported_own = own;
        state = state;
        in_range = in_range;
        message = x.meets.message;
        found = a.found;
        logged_before = m.holds.known;
        asked = a.asked + 1;
        tried = a.tried;
        few = omega (arith, a.spent, within);
        stage = record { at = on.at; known = on.logged };
        stands = subst (λ steps'. Stands journal worker (q.before ++ q.event ∷ []) (step_places steps' ++ behind))
            last.2 m.behind;
        count = a.count;
        bytes = a.bytes;
        told = a.told;
        has = a.has;
        whole = a.whole;
        agrees = a.agrees;
        state_is = refl;
        last = says_after Last lines a.bytes x.step.acts [] (ap (list_all is_aside) operations) alone;
        closed = live_handles_of-own q.before q.event session own
            ∙ ap (λ l. handles_after l q.event) (no_handles_before service.setup q.before m.holds.at.legal session new)
            ∙ ap (λ b. cond b (q.event ∷ []) []) opens;
      }

  -- ---- from the session's opening on

  pub early : IsSetupInRange service.setup → length journal ≤ EVENTS_LIMIT → (user : Name) (account : Account)
      (response lines : List ℕ) (earlier : List PreCommand)
      → BeginWith (earlier ++ (User (name_bytes user) ∷ Respond response ∷ [])) lines
      → AreEarlier service.setup.tries earlier
      → (list_any is_response earlier ≡ true → AcceptsNobodyElse service.setup journal session user account)
      → IsInTime user (1 + length earlier)
      → ((before : List Event) (e : Event) → AsksAfter journal session user (1 + length earlier) before e
      → CanLogIn service.setup before session user (moment_of e.ask) account)
      → ((before : List Event) (e : Event) → AsksAfter journal session user (1 + length earlier) before e
      → (words hex : Option ℕ) → AreCandidatesOf service.words response words hex → IsRight before account words hex)
      → (served : List Step) → Here start Nothing [] served → SaysThen Last lines [] (step_acts (rest_of served))
      → receives (rest_of served) + 2 * length earlier + 8 ≤ service.setup.requests
      → Left user account lines (receives (rest_of served) + 2 * length earlier + 8)
  early range numbers user account response lines earlier begin are only hold can right served now client room =
      let received = receives (rest_of served) in
      let command = User (name_bytes user) in
      let others = Respond response ∷ [] in
      let total = received + 2 * length earlier + 8 in
      let left = received + 2 + 2 * length earlier in
      let first = first_line command others earlier lines begin in
      let l = child.opened service journal worker session legal none small end final rest unread ended behind Last range
      lines (tt, ap is_some first.whole) (only_end (line_end lines) first.end first.whole first.short) served now client
      (omega (arith, room)) in
      elim (tries.tried_all service journal worker session legal none small end final rest unread ended behind Last numbers
      range.requests.1 user account lines command others earlier (received + 2) (omega (arith, room)) begin are only
      l) [
        | inl a ↦ left_by range user account lines left total (omega arith) room a
        | inr x ↦
            let t = challenged range user account response lines (length earlier) left hold can (omega (arith, room)) x
            in
            let found = (can t.before t.event t.asks).found in
            let a = accepted_by range user account response lines (1 + length earlier) (left + 2) hold found t
            (λ words hex c. right t.before t.event t.asks words hex c) (omega (arith, room)) in
            left_by range user account lines (left + 2 + 1) total (omega arith) room a
      ]
