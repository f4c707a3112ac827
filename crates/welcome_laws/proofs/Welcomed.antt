-- A session that comes to log in is welcomed.
use Rattle.std.proofs.Common.{◌≡◌, ◌≢◌, ℕ, zero, suc, ◌+◌, ◌*◌, ◌<◌, ◌≤◌, ◌^◌, Bool, true, false, ◌&&◌, cond, eqb, List, [], ◌∷◌, ◌++◌}
use Rattle.std.proofs.Common.{length, Option, Some, None, option_to_list, refl, sym, ap, subst, ◌∙◌, append_assoc}
use Rattle.std.proofs.Common.{Ok, arith, lit<}
use Rattle.std.specs.Prelude.{IsSomeAnd, codes, count_by}
use Rattle.std.specs.List.{AllByRecursion, flat_map, list_any}
use Rattle.std.specs.Option.{option_map_or}
use Rattle.std.proofs.lemmas.Bool.{false≢true, or_parts}
use Rattle.std.proofs.lemmas.List.{append-nil, length-append}
use Rattle.request_catalogue.specs.declared.texts.Name.{Name}
use Rattle.request_catalogue.specs.TextBytes.{name_bytes}
use Rattle.request_catalogue.specs.Catalogue as requests
use Rattle.request_catalogue.specs.Catalogue.{payload_of}
use Rattle.request_catalogue.specs.Replies.{Done}
use Rattle.imsg_frame.specs.Message.{Message}
use Rattle.outside.specs.declared.act.Act.TheVariants as acts
use Rattle.outside.specs.declared.act.Role.{Role as LaunchedRole}
use Rattle.outside.specs.declared.act.Role.TheVariants as launched
use Rattle.policy_model.specs.declared.account.Account.{Account}
use Rattle.policy_model.specs.declared.event.Ask.TheVariants as asks
use Rattle.policy_model.specs.declared.event.Event.{Event}
use Rattle.policy_model.specs.declared.event.Why.{Why}
use Rattle.policy_model.specs.declared.event.Why.TheVariants as whys
use Rattle.policy_model.specs.declared.ranges.TheConstants.{EVENTS_LIMIT}
use Rattle.policy_model.specs.Asks.{is_begin, is_permit, opens}
use Rattle.policy_model.specs.Cases.{account_named}
use Rattle.policy_model.specs.Journal.{Place, has_lost, openings_of}
use Rattle.policy_model.specs.Legal.{IsLegal}
use Rattle.policy_model.specs.Logins.{verified_user}
use Rattle.policy_model.specs.Settings.{IsInRange, Settings}
use Rattle.policy_model.proofs.Legal.{IsLegal-none}
use Rattle.policy_model.proofs.Runs.{next_session}
use Rattle.session_laws.proofs.Openings.{legal_numbered, openings_few, session_new}
use Rattle.session_laws.proofs.Permits.{found_name}
use Rattle.session_laws.proofs.SessionEvents.{count_of-new, count_of-own}
use Rattle.child_protocol.specs.Says.{Pre, User}
use Rattle.child_protocol.specs.Lines.{behind_lines}
use Rattle.child_protocol.specs.Pre.{say}
use Rattle.child_protocol.specs.User.{UserCommand, Who}
use Rattle.state_export.specs.Spelling.{StateValue, state_bytes}
use Rattle.service_model.specs.Answers.{answers}
use Rattle.service_model.specs.Cases.{role_of}
use Rattle.service_model.specs.Ends.{is_fault_end}
use Rattle.service_model.specs.Parts.{EndsSession, EndsSo, HandsOver, IsPart, Part, PartEnd, exported_by, requests_of}
use Rattle.service_model.specs.Parts.{step_bytes}
use Rattle.service_model.specs.Places.{Step, step_acts, step_places}
use Rattle.service_model.specs.Service.{Service}
use Rattle.service_model.specs.Sittings.{AreAnswered, AreParts, AreSittingsOf, EndsFirst, Follows, IsSitting, Sitting}
use Rattle.service_model.specs.Sittings.{all_steps}
use Rattle.service_model.specs.Users.{user_role}
use Rattle.service_model.proofs.Steps.{places-append}
use Rattle.login_laws.proofs.Files.{Has}
use Rattle.login_laws.proofs.Logins.{reach}
use Rattle.login_laws.proofs.Walk.{At, Stands, begun, places_behind, start}
use Rattle.welcome_laws.specs.Shipped.{IsSaidWhole, IsShipped, role_session, shipped_role}
use Rattle.welcome_laws.specs.Client.{is_receiving}
use Rattle.welcome_laws.specs.Files.{AreServed, AsksForFiles, BeginWithCommands, GoesWell, UsersAreServed}
use Rattle.welcome_laws.specs.Files.{bytes_received, later_acts}
use Rattle.welcome_laws.specs.Welcome.{ComesToLogIn, IsWelcomed, UsersGetIn, first_acts, tells_client, sitting_session}
use Rattle.welcome_laws.specs.Welcome.{texts_told}
use Rattle.welcome_laws.proofs.Before.{user_state}
use Rattle.welcome_laws.proofs.Early.{Left, early}
use Rattle.welcome_laws.proofs.Files.{all_done}
use Rattle.welcome_laws.proofs.Late.{Here, imports, late, left_after, told_state, welcome_short, welcome_text, who_of}
use Rattle.welcome_laws.proofs.Meeting.{had}
use Rattle.welcome_laws.proofs.Served.{not_received, receives_in, says}
use Rattle.welcome_laws.proofs.UserLines.{awaits_first}
use Rattle.welcome_laws.proofs.Saying.{SaysThen, says_then}
use Rattle.welcome_laws.proofs.Rounds.{Went, said_so}

-- ---- no session ends by a fault

all_pass : (test : Event → Bool) (worker : ℕ) (before events : List Event) → list_any test events ≡ false
    → AllByRecursion (λ (p : Place). test p.event ≡ false) (places_behind worker before events)
all_pass test worker before [] h = tt
all_pass test worker before (e ∷ events) h =
    let both = or_parts (test e) (list_any test events) h in
    by_worker (eqb e.worker worker) both.0 (all_pass test worker (before ++ e ∷ []) events both.1) where
      by_worker : (b : Bool) → test e ≡ false
          → AllByRecursion (λ (p : Place). test p.event ≡ false) (places_behind worker (before ++ e ∷ []) events)
          → AllByRecursion (λ (p : Place). test p.event ≡ false)
          (cond b (record { before = before; event = e } ∷ places_behind worker (before ++ e ∷ []) events)
          (places_behind worker (before ++ e ∷ []) events))
      by_worker true here more = (here, more)
      by_worker false here more = more

pub one_passes : {X : Type 0} (P : X → Type 0) (xs : List X) (y : X) (ys : List X) → AllByRecursion P (xs ++ (y ∷ ys)) → P y
one_passes P [] y ys all = all.0
one_passes P (x ∷ xs) y ys all = one_passes P xs y ys all.1

all_front : {X : Type 0} (P : X → Type 0) (xs ys : List X) → AllByRecursion P (xs ++ ys) → AllByRecursion P ys
all_front P [] ys all = all
all_front P (x ∷ xs) ys all = all_front P xs ys all.1

ends_first : (service : Service) (why : Why) (pre : Part) → is_fault_end (asks.End why) ≡ false
    → EndsFirst service why pre → IsPart service [] (EndsSession why) pre
ends_first service whys.KeeperFault pre sound ends = absurd (false≢true (sym sound))
ends_first service _ pre sound ends = ends

no_link : (why : Why) → is_fault_end (asks.End why) ≡ false → EndsSession why ≢ EndsSession whys.LinkFault
no_link why sound same =
    let link : why ≡ whys.LinkFault = cc in false≢true (sym sound ∙ ap (λ w. is_fault_end (asks.End w)) link)

-- ---- what a shipped child's part says

went_by : (service : Service) (exported : List ℕ) (end : PartEnd) (part : Part) (role : LaunchedRole) → part.role ≡ role
    → IsShipped part → IsPart service exported end part → part.sent ≡ answers service exported (requests_of part)
    → Went (shipped_role role) (role_session role) [] (answers service exported (requests_of part))
    (step_bytes service.setup.frames (requests_of part) ++ (part.rest ++ part.unread))
went_by service exported end part role is shipped part_is answered =
    let said = subst (λ (r : LaunchedRole). IsSaidWhole (shipped_role r) (role_session r) part.sent
    (part.taken ++ part.unread)) is shipped.said in
    let went = said_so (shipped_role role) (role_session role) part.sent (part.taken ++ part.unread) said in
    let bytes : part.taken ++ part.unread ≡ step_bytes service.setup.frames (requests_of part)
    ++ (part.rest ++ part.unread) = ap (λ t. t ++ part.unread) part_is.taken
    ∙ append_assoc (step_bytes service.setup.frames (requests_of part)) part.rest part.unread in
    subst (λ b. Went (shipped_role role) (role_session role) [] (answers service exported (requests_of part)) b) bytes
    (subst (λ r. Went (shipped_role role) (role_session role) [] r (part.taken ++ part.unread)) answered went)

pub flat-append : (xs ys : List Sitting) → flat_map all_steps (xs ++ ys) ≡ flat_map all_steps xs ++ flat_map all_steps ys
flat-append [] ys = refl
flat-append (x ∷ xs) ys =
    ap (λ s. all_steps x ++ s) (flat-append xs ys)
    ∙ sym (append_assoc (all_steps x) (flat_map all_steps xs) (flat_map all_steps ys))

-- a session that was just opened wrote no text
none_told : (setup : Settings) (before : List Event) (e : Event) → IsLegal setup before
    → e.session ≡ openings_of before + 1 → e.ask ≡ asks.Begin → texts_told (before ++ e ∷ []) e.session ≡ 0
none_told setup before e legal number is =
    count_of-own before e e.session (λ y. tells_client y.ask) refl
    ∙ ap (λ b. texts_told before e.session + cond b 1 0) (ap tells_client is)
    ∙ ap (λ n. n + 0) (count_of-new before (openings_of before) e.session (λ y. tells_client y.ask)
    (legal_numbered setup before legal) (omega (arith, number)))

user_no_pre : {who : Who} → User who ≡ Pre → ⊥
user_no_pre e = cc

handing : HandsOver ≢ EndsSession whys.LinkFault
handing same = absurd cc

abbrev body_of : Option Message → List ℕ
body_of o = option_map_or (λ (m : Message). m.body) o []

payload : (state : List ℕ) → payload_of (requests.Export state) ≡ state
unfolding payload_of
payload state = refl

module _ (service : Service) (journal : List Event) (legal : IsLegal service.setup journal)
    (few : length journal ≤ EVENTS_LIMIT) (none : has_lost journal ≡ false) (range : IsInRange service.setup)
    (sound : list_any (λ e. is_fault_end e.ask) journal ≡ false) (worker : ℕ) (user : Name) (account : Account)
    (response : List ℕ) where
  -- all that the client said to a session's first child
  abbrev pub heard_first : Sitting → List ℕ
  heard_first sitting = flat_map bytes_received (first_acts sitting.parts)

  -- the first child of a session that comes to log in has exported, and the user's begins
  pub record Enters (sitting : Sitting) (comes : ComesToLogIn service journal user account response sitting)
      : Type 0 where
    pub why : Why
    pub small : sitting_session sitting < 2 ^ 32
    pub pre : Part
    pub child : Part
    pub parts : sitting.parts ≡ pre ∷ child ∷ []
    pub ended : EndsSo service.setup.frames HandsOver pre.final pre.rest pre.unread
    pub behind : List Place
    pub room : ℕ
    pub room_is : room ≡ count_by is_receiving (first_acts sitting.parts) + 2 * length comes.earlier + 8
    pub left : Left service journal worker (sitting_session sitting) legal none small HandsOver pre.final pre.rest
        pre.unread ended behind (λ heard. heard ≡ heard_first sitting) user account comes.lines room
    pub role : child.role ≡ launched.User (sitting_session sitting) account.uid account.name
    pub named : account.name ≡ user
    pub later : EndsSo service.setup.frames (EndsSession why) child.final child.rest child.unread
    pub last : List Place
    pub now : Here service journal worker (sitting_session sitting) legal none small account left.state why child.final
        child.rest child.unread later last (user_state left.asked left.tried)
        (Has service.setup journal worker (sitting_session sitting) user []) [] child.served

  -- the session's parts, after its opening
  by_parts : (sitting : Sitting) (ending : Step) (why : Why) (before : List Event) (more : List Place)
      → (comes : ComesToLogIn service journal user account response sitting) → is_fault_end (asks.End why) ≡ false
      → sitting_session sitting < 2 ^ 32 → At service.setup worker (sitting_session sitting) start before
      → texts_told before (sitting_session sitting) ≡ 0
      → (parts : List Part) → sitting.parts ≡ parts → AreParts service why sitting.opening parts
      → AreAnswered service [] parts → AllByRecursion IsShipped parts
      → Stands journal worker before (step_places (flat_map requests_of parts ++ ending ∷ []) ++ more)
      → Enters sitting comes
  by_parts sitting ending why before more comes sound' small at untold [] is parts answered shipped stands =
      absurd (false≢true (sym sound' ∙ ap (λ w. is_fault_end (asks.End w)) parts.1))
  by_parts sitting ending why before more comes sound' small at untold (pre ∷ []) is parts answered shipped stands =
      let part = ends_first service why pre sound' parts.2 in
      let behind = step_places (ending ∷ []) ++ more in
      let session = sitting_session sitting in
      let client = subst (λ ps. SaysThen (λ heard. heard ≡ heard_first sitting) comes.lines [] (first_acts ps)) is
      (says_then (heard_first sitting) comes.lines [] (first_acts sitting.parts) refl comes.client) in
      let room = subst (λ ps. count_by is_receiving (first_acts ps) + 2 * length comes.earlier + 8
      ≤ service.setup.requests) is comes.few in
      let ended = part.ended (no_link why sound') in
      let there : step_places (flat_map requests_of (pre ∷ []) ++ ending ∷ []) ++ more ≡ step_places (requests_of pre)
      ++ behind = ap (λ steps. step_places (steps ++ ending ∷ []) ++ more) (append-nil (requests_of pre))
      ∙ ap (λ ps. ps ++ more) (places-append (requests_of pre) (ending ∷ []))
      ∙ append_assoc (step_places (requests_of pre)) (step_places (ending ∷ [])) more in
      let r = early service journal worker session legal none small (EndsSession why) pre.final pre.rest pre.unread
      ended behind (λ heard. heard ≡ heard_first sitting) range few user account response comes.lines comes.earlier
      comes.are_lines comes.are_earlier comes.only comes.within comes.ready comes.right pre.served
      (record {
        before = before;
        stage = record { at = at; known = tt; told = λ first. untold };
        stands = subst
            (λ ps. Stands journal worker before ps) there stands;
        each = part.each;
        on = part.on;
        went = went_by service []
            (EndsSession why) pre (launched.Pre session) parts.1 shipped.0 part answered.0;
      }) client room in
      let not_over : EndsSession why ≡ HandsOver = r.end_is in
      absurd cc
  by_parts sitting ending why before more comes sound' small at untold (pre ∷ child ∷ []) is parts answered shipped stands =
      let change = parts.2 in
      let session = sitting_session sitting in
      let last = step_places (ending ∷ []) ++ more in
      let behind = step_places (requests_of child) ++ last in
      let client = subst (λ ps. SaysThen (λ heard. heard ≡ heard_first sitting) comes.lines [] (first_acts ps)) is
      (says_then (heard_first sitting) comes.lines [] (first_acts sitting.parts) refl comes.client) in
      let room = subst (λ ps. count_by is_receiving (first_acts ps) + 2 * length comes.earlier + 8
      ≤ service.setup.requests) is comes.few in
      let ended = change.first.ended handing in
      let there : step_places (flat_map requests_of (pre ∷ child ∷ []) ++ ending ∷ []) ++ more ≡ step_places
      (requests_of pre) ++ behind =
      ap (λ steps. step_places ((requests_of pre ++ steps) ++ ending ∷ []) ++ more) (append-nil (requests_of child))
      ∙ ap (λ steps. step_places steps ++ more) (append_assoc (requests_of pre) (requests_of child) (ending ∷ []))
      ∙ ap (λ ps. ps ++ more) (places-append (requests_of pre) (requests_of child ++ ending ∷ [])
      ∙ ap (λ ps. step_places (requests_of pre) ++ ps) (places-append (requests_of child) (ending ∷ [])))
      ∙ append_assoc (step_places (requests_of pre)) (step_places (requests_of child) ++ step_places (ending ∷ [])) more
      ∙ ap (λ ps. step_places (requests_of pre) ++ ps)
      (append_assoc (step_places (requests_of child)) (step_places (ending ∷ [])) more) in
      let r = early service journal worker session legal none small HandsOver pre.final pre.rest pre.unread ended behind
      (λ heard. heard ≡ heard_first sitting) range few user account response comes.lines comes.earlier comes.are_lines
      comes.are_earlier comes.only comes.within comes.ready comes.right pre.served
      (record {
        before = before;
        stage = record { at = at; known = tt; told = λ first. untold };
        stands = subst
            (λ ps. Stands journal worker before ps) there stands;
        each = change.first.each;
        on = change.first.on;
        went =
            went_by service [] HandsOver pre (launched.Pre session) parts.1 shipped.0 change.first answered.0;
      }) client
      room in
      let found = r.found in
      let exported_is : exported_by pre.final ≡ state_bytes r.state = ap exported_by r.final_is
      ∙ ap (λ (o : Option Message). body_of o) r.message ∙ payload (state_bytes r.state) in
      let at_export : account_named service.setup (verified_user r.step.place.before r.step.place.event.session) ≡ Some
      account = ap (λ (k : ℕ). account_named service.setup (verified_user r.step.place.before k)) r.exported_own
      ∙ ap (account_named service.setup) r.logged_before.verified ∙ found in
      let verified : child.role ≡ user_role service.setup r.step.place = subst
      (λ f. IsSomeAnd f (λ s. child.role ≡ user_role service.setup s.place)) r.final_is change.verified in
      let role : child.role ≡ launched.User session account.uid account.name = verified
      ∙ ap (role_of r.step.place.event.session) at_export
      ∙ ap (λ (k : ℕ). launched.User k account.uid account.name) r.exported_own in
      let second = subst (λ b. IsPart service b (EndsSession why) child) exported_is change.second in
      let sent = subst (λ b. child.sent ≡ answers service b (requests_of child)) exported_is answered.1.0 in
      record {
        why = why;
        small = small;
        pre = pre;
        child = child;
        parts = is;
        ended = ended;
        behind = behind;
        room = count_by is_receiving (first_acts (pre ∷ child ∷ [])) + 2 * length comes.earlier + 8;
        room_is = ap (λ ps. count_by is_receiving (first_acts ps) + 2 * length comes.earlier + 8) (sym is);
        left = r;
        role = role;
        named = found_name service.setup user account found;
        later = second.ended (no_link why sound');
        last = last;
        now = record {
          before = r.step.place.before ++ r.step.place.event ∷ [];
          stage = record {
            at = r.stage.at;
            known = record { verified = r.stage.known.verified; handles = r.closed };
            told = λ first. absurd (user_no_pre first);
          };
          stands = r.stands;
          each = second.each;
          on = second.on;
          went = went_by service (state_bytes r.state) (EndsSession why) child
              (launched.User session account.uid account.name) role shipped.1.0 second sent;
        };
      }
  by_parts sitting ending why before more comes sound' small at untold (pre ∷ child ∷ other ∷ others) is parts answered shipped
      stands =
      absurd parts

  pub enters : (sittings earlier later : List Sitting) (sitting : Sitting)
      → AreSittingsOf service journal worker sittings → sittings ≡ earlier ++ (sitting ∷ later)
      → AreAnswered service [] sitting.parts
      → (comes : ComesToLogIn service journal user account response sitting) → Enters sitting comes
  enters sittings earlier later sitting served parts answered comes = by_ending sitting.ending refl is.round where
    before : List Step
    before = flat_map all_steps earlier

    is : IsSitting service sitting
    is =
        one_passes (IsSitting service) earlier sitting later
        (subst (AllByRecursion (IsSitting service)) parts served.each)

    rest : Option Step → List Place
    rest ending =
        step_places (flat_map requests_of sitting.parts ++ option_to_list ending) ++ step_places
        (flat_map all_steps later)

    all : (ending : Option Step) → sitting.ending ≡ ending
        → places_behind worker [] journal ≡ step_places before ++ (sitting.opening.place ∷ rest ending)
    all ending e =
        served.places ∙ ap (λ ss. step_places (flat_map all_steps ss)) parts
        ∙ ap step_places (flat-append earlier (sitting ∷ later))
        ∙ places-append before (all_steps sitting ++ flat_map all_steps later)
        ∙ ap (λ ps. step_places before ++ ps) (places-append (all_steps sitting) (flat_map all_steps later))
        ∙ ap (λ o. step_places before ++ (step_places
        (sitting.opening ∷ flat_map requests_of sitting.parts ++ option_to_list o) ++ step_places
        (flat_map all_steps later))) e

    by_ending : (ending : Option Step) → sitting.ending ≡ ending → Follows service sitting.opening sitting.parts ending
        → Enters sitting comes
    by_ending None e follows =
        let n = reach service.setup journal worker legal none (step_places before) [] sitting.opening.place (rest None)
        (IsLegal-none service.setup) (record { rest = journal; parts = refl; are = all None e }) in
        absurd (false≢true (sym n.comes.kept ∙ follows.0))
    by_ending (Some ending) e follows =
        let n = reach service.setup journal worker legal none (step_places before) [] sitting.opening.place
        (rest (Some ending)) (IsLegal-none service.setup)
        (record { rest = journal; parts = refl; are = all (Some ending) e }) in
        let p = sitting.opening.place in
        let opened : opens p.event ≡ true = ap (λ b. b && is_permit p.event.decision) (ap is_begin is.begins.ask)
        ∙ follows.0 in
        let number = session_new p.before p.event (next_session service.setup p.before p.event n.comes.next) opened in
        let small : p.event.session < 2 ^ 32 = omega (
          arith,
          number,
          openings_few p.before,
          ap length
              n.comes.stands.parts,
          length-append p.before (p.event ∷ n.comes.stands.rest),
          few,
        ) in
        let at = subst (λ (w : ℕ). At service.setup w p.event.session start (p.before ++ p.event ∷ [])) n.own
        (begun service.setup journal p.before p.event n.holds n.comes opened) in
        let round = follows.1 in
        let ends = round.1 in
        let tested = all_pass (λ e. is_fault_end e.ask) worker [] journal sound in
        let behind = all_front (λ (p : Place). is_fault_end p.event.ask ≡ false) (step_places before)
        (p ∷ rest (Some ending)) (subst (AllByRecursion (λ (p : Place). is_fault_end p.event.ask ≡ false))
        (all (Some ending) e) tested) in
        let split : rest (Some ending) ≡ step_places (flat_map requests_of sitting.parts)
        ++ (ending.place ∷ step_places (flat_map all_steps later)) = ap
        (λ ps. ps ++ step_places (flat_map all_steps later))
        (places-append (flat_map requests_of sitting.parts) (ending ∷ []))
        ∙ append_assoc (step_places (flat_map requests_of sitting.parts)) (ending.place ∷ [])
        (step_places (flat_map all_steps later)) in
        let ended = one_passes (λ (p : Place). is_fault_end p.event.ask ≡ false)
        (step_places (flat_map requests_of sitting.parts)) ending.place (step_places (flat_map all_steps later))
        (subst (AllByRecursion (λ (p : Place). is_fault_end p.event.ask ≡ false)) split behind.1) in
        let sound' : is_fault_end (asks.End round.0) ≡ false = ap is_fault_end (sym ends.ask) ∙ ended in
        let untold = none_told service.setup p.before p.event n.holds number is.begins.ask in
        by_parts sitting ending round.0 (p.before ++ p.event ∷ []) (step_places (flat_map all_steps later)) comes sound'
        small at untold sitting.parts refl round.2 answered comes.children n.behind

  -- such a session is welcomed
  pub welcomed : (sitting : Sitting) (comes : ComesToLogIn service journal user account response sitting)
      → Enters sitting comes → IsWelcomed journal user account sitting
  welcomed sitting comes x =
      let r = x.left in
      let w = late service journal worker (sitting_session sitting) legal none x.small account r.state x.why
      x.child.final x.child.rest x.child.unread x.later x.last range user r.asked r.tried r.found r.in_range
      (omega (arith, r.few, x.room_is, comes.few)) x.child.served x.now in
      record {
        before = r.before;
        reply = r.reply;
        replied = r.replied;
        own = r.own;
        accepted = r.accepted;
        pre = x.pre;
        child = x.child;
        parts = x.parts;
        export = r.step;
        final = r.final_is;
        exported = r.exported;
        role = x.role;
        named = x.named;
        import = w.import;
        welcome = w.welcome;
        later = w.later;
        served = w.served_is;
        permitted = w.permitted;
        outcome = w.outcome;
        told = w.told ∙ ap (λ (n : Name). acts.ConnSend (codes "welcome " ++ name_bytes n ++ codes "\n") w.outcome ∷ [])
            x.named;
      }

  -- and it is served what it asks for
  pub served : (sitting : Sitting) (comes : ComesToLogIn service journal user account response sitting)
      (commands : List UserCommand) → AsksForFiles service journal user account response sitting comes commands
      → Enters sitting comes → AreServed account commands sitting
  served sitting comes commands wants x =
      let session = sitting_session sitting in
      let r = x.left in
      let i = imports service journal worker session legal none x.small account r.state x.why x.child.final x.child.rest
      x.child.unread x.later x.last range user r.asked r.tried r.found r.in_range
      (omega (arith, r.few, x.room_is, comes.few)) x.child.served x.now in
      let left = left_after service journal worker session legal none x.small account r.state x.why x.child.final
      x.child.rest x.child.unread x.later x.last in
      let all : later_acts sitting.parts ≡ step_acts (left i.more) = ap later_acts x.parts
      ∙ append-nil (step_acts (requests_of x.child)) ∙ i.acts in
      let well = subst (GoesWell comes.lines r.bytes) all
      (subst (λ b. GoesWell comes.lines b (later_acts sitting.parts)) (sym r.last) wants.well) in
      let text = welcome_text account in
      let body = told_state service journal worker session legal none x.small account r.state x.why x.child.final
      x.child.rest x.child.unread x.later x.last in
      let t = says service journal worker session legal none x.small account r.state x.why x.child.final x.child.rest
      x.child.unread x.later x.last user r.found (r.asked + 1) r.tried [] (had requests.Import (Done body) ∷ []) i.more
      comes.lines r.bytes text i.now i.next (welcome_short account) (lit< tt)
      (omega (arith, r.few, x.room_is, comes.few)) well in
      let rest = step_acts (left t.asked.steps) in
      let told = acts.ConnSend text (Ok t.sent) in
      let counted : count_by is_receiving (later_acts sitting.parts) ≡ receives_in rest = ap receives_in
      (all ∙ t.asked.acts) ∙ not_received told rest refl in
      let begin = subst (λ n. BeginWithCommands commands (behind_lines n comes.lines)) r.told
      (wants.said r.before r.reply r.replied r.own r.accepted) in
      record {
        sent = t.sent;
        later = rest;
        welcomed = all ∙ t.asked.acts;
        done = all_done service journal worker session legal none x.small account r.state x.why x.child.final
            x.child.rest x.child.unread x.later x.last user r.found range.requests.1 r.tried (suc r.count) comes.lines
            commands zero t.asked.steps r.has begin wants.granted
            (record {
              history = had (say text) (Done []) ∷ had requests.Import (Done body) ∷ [];
              bytes = r.bytes;
              asked = r.asked + 1 + 1;
              now = t.asked.now;
              awaits = awaits_first (who_of account) (suc r.count) r.bytes body text
                  (i.left_unread ∙ ap (λ (s : StateValue). s.unread) r.state_is);
              has = r.whole;
              agrees = r.agrees;
              well = t.asked.well;
              few = omega (arith, wants.few, r.few, x.room_is, counted);
              had_few = omega arith;
            });
      }

pub users_get_in : (service : Service) (journal : List Event) → IsLegal service.setup journal
    → length journal ≤ EVENTS_LIMIT → has_lost journal ≡ false → IsInRange service.setup
    → list_any (λ e. is_fault_end e.ask) journal ≡ false → (worker : ℕ) (sittings : List Sitting)
    → AreSittingsOf service journal worker sittings
    → AllByRecursion (λ sitting. AreAnswered service [] sitting.parts) sittings → UsersGetIn service journal sittings
users_get_in service journal legal few none range sound worker sittings served answered earlier later sitting parts user
    account response comes =
    welcomed service journal legal few none range sound worker user account response sitting comes
    (enters service journal legal few none range sound worker user account response sittings earlier later sitting
    served parts (one_passes (λ (s : Sitting). AreAnswered service [] s.parts) earlier sitting later
    (subst (AllByRecursion (λ (s : Sitting). AreAnswered service [] s.parts)) parts answered)) comes)

pub users_are_served : (service : Service) (journal : List Event) → IsLegal service.setup journal
    → length journal ≤ EVENTS_LIMIT → has_lost journal ≡ false → IsInRange service.setup
    → list_any (λ e. is_fault_end e.ask) journal ≡ false → (worker : ℕ) (sittings : List Sitting)
    → AreSittingsOf service journal worker sittings
    → AllByRecursion (λ sitting. AreAnswered service [] sitting.parts) sittings
    → UsersAreServed service journal sittings
users_are_served service journal legal few none range sound worker sittings served_all answered earlier later sitting
    parts user account response comes commands wants =
    served service journal legal few none range sound worker user account response sitting comes commands wants
    (enters service journal legal few none range sound worker user account response sittings earlier later sitting
    served_all parts (one_passes (λ (s : Sitting). AreAnswered service [] s.parts) earlier sitting later
    (subst (AllByRecursion (λ (s : Sitting). AreAnswered service [] s.parts)) parts answered)) comes)
