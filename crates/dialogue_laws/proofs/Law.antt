-- The shipped children of a run's sessions keep the rules.
use Rattle.std.proofs.Common.{◌≡◌, ◌≢◌, ℕ, ◌<◌, ◌≤◌, ◌^◌, true, ◌&&◌, List, [], ◌∷◌, ◌++◌, length}
use Rattle.std.proofs.Common.{Option, Some, None, option_to_list, refl, sym, ap, subst, ◌∙◌, append_assoc, arith}
use Rattle.std.specs.Prelude.{IsSomeAnd, option_and_then, take}
use Rattle.std.specs.List.{AllByRecursion, flat_map}
use Rattle.std.proofs.lemmas.List.{append-nil, length-append}
use Rattle.request_catalogue.specs.Replies.{Done}
use Rattle.outside.specs.declared.act.Role.{Role as LaunchedRole}
use Rattle.outside.specs.declared.act.Role.TheVariants as launched
use Rattle.policy_model.specs.declared.account.Account.{Account}
use Rattle.policy_model.specs.declared.event.Decision.{Decision}
use Rattle.policy_model.specs.declared.event.Decision.TheVariants.{Deny, Lost, Permit}
use Rattle.policy_model.specs.declared.event.Event.{Event}
use Rattle.policy_model.specs.declared.event.Why.{Why}
use Rattle.policy_model.specs.declared.event.Why.TheVariants as whys
use Rattle.policy_model.specs.declared.ranges.TheConstants.{EVENTS_LIMIT}
use Rattle.policy_model.specs.Asks.{exports, is_begin, is_permit, opens, shown_of}
use Rattle.policy_model.specs.Journal.{Place, openings_of}
use Rattle.policy_model.specs.Legal.{IsLegal}
use Rattle.policy_model.specs.Logins.{account_of}
use Rattle.policy_model.specs.Settings.{IsInRange}
use Rattle.policy_model.proofs.Legal.{IsLegal-none, IsLegal-push}
use Rattle.policy_model.proofs.Runs.{next_session}
use Rattle.session_laws.specs.LoggedIn.{IsLoggedIn}
use Rattle.session_laws.proofs.LoggedIn.{legal_verified}
use Rattle.session_laws.proofs.Openings.{legal_numbered, openings_few, session_new}
use Rattle.session_laws.proofs.Permitted.{exported_in_verified}
use Rattle.session_laws.proofs.SessionEvents.{events_of-new, events_of-own}
use Rattle.child_protocol.specs.Says.{Pre}
use Rattle.service_model.specs.Answers.{answers}
use Rattle.service_model.specs.Cases.{role_of}
use Rattle.service_model.specs.Parts.{EndsSession, EndsSo, GoesOn, HandsOver, IsPart, IsRequestStep, Part, PartEnd}
use Rattle.service_model.specs.Parts.{exported_by, requests_of, step_bytes}
use Rattle.service_model.specs.Places.{Step, step_places}
use Rattle.service_model.specs.Service.{Service}
use Rattle.service_model.specs.Sittings.{AreParts, AreSittingsOf, ChangesUser, EndsFirst, Follows as FollowsOpening}
use Rattle.service_model.specs.Sittings.{IsSitting, Sitting, all_steps}
use Rattle.service_model.specs.Users.{user_role}
use Rattle.service_model.proofs.Steps.{places-append}
use Rattle.login_laws.proofs.Walk.{At, Comes, Stands, after, begun, goes_on, own_session, places_behind, start}
use Rattle.dialogue_laws.specs.Dialogue.{IsTold}
use Rattle.welcome_laws.specs.Shipped.{IsSaidWhole, IsShipped, role_session, shipped_role}
use Rattle.welcome_laws.proofs.Meeting.{had}
use Rattle.welcome_laws.proofs.Rounds.{Went, said_so}
use Rattle.welcome_laws.proofs.Welcomed.{flat-append, one_passes}
use Rattle.dialogue_laws.specs.Children.{AreDialogue, ChildrenKeepRules, KeepRules, KeepsRules}
use Rattle.dialogue_laws.proofs.Along.{Along, Leaves, Talked, along, permit_kept}
use Rattle.dialogue_laws.proofs.Answering.{export_asked, export_permitted, kind_asked}
use Rattle.dialogue_laws.proofs.Following.{UnlessLost, none_before, reach}

-- ---- a part

-- what is known of a part, whichever way it ended
record IsServed (service : Service) (exported : List ℕ) (part : Part) : Type 0 where
  pub each : AllByRecursion (IsRequestStep service) (requests_of part)
  pub on : AllByRecursion (GoesOn service exported) part.served
  pub taken : part.taken ≡ step_bytes service.setup.frames (requests_of part) ++ part.rest
  pub last : List ℕ
  pub sent : part.sent ≡ answers service exported part.served ++ last

served_by : (service : Service) (exported : List ℕ) (end : PartEnd) (part : Part) → IsPart service exported end part
    → IsServed service exported part
served_by service exported end part is =
    record { each = is.each; on = is.on; taken = is.taken; last = take is.sent.0 (answers service exported (option_to_list part.final)); sent = is.sent.1 }

served_first : (service : Service) (why : Why) (pre : Part) → EndsFirst service why pre → IsServed service [] pre
served_first service whys.KeeperFault pre ends = served_by service [] HandsOver pre ends.0
served_first service why pre ends = served_by service [] (EndsSession why) pre ends

went_by : (service : Service) (exported : List ℕ) (part : Part) (role : LaunchedRole) → part.role ≡ role
    → IsShipped part → (s : IsServed service exported part)
    → Went (shipped_role role) (role_session role) [] (answers service exported part.served ++ s.last)
    (step_bytes service.setup.frames (requests_of part) ++ (part.rest ++ part.unread))
went_by service exported part role is shipped s =
    let said = subst (λ (r : LaunchedRole). IsSaidWhole (shipped_role r) (role_session r) part.sent
    (part.taken ++ part.unread)) is shipped.said in
    let bytes : part.taken ++ part.unread ≡ step_bytes service.setup.frames (requests_of part)
    ++ (part.rest ++ part.unread) = ap (λ t. t ++ part.unread) s.taken
    ∙ append_assoc (step_bytes service.setup.frames (requests_of part)) part.rest part.unread in
    subst (λ b. Went (shipped_role role) (role_session role) [] (answers service exported part.served ++ s.last) b)
    bytes (subst (λ r. Went (shipped_role role) (role_session role) [] r (part.taken ++ part.unread)) s.sent
    (said_so (shipped_role role) (role_session role) part.sent (part.taken ++ part.unread) said))

told_export : (d : Decision) → is_permit d ≡ true → IsTold (shown_of d) (Done [])
told_export (Permit value) permit = refl
told_export (Deny rule detail) permit = absurd cc
told_export Lost permit = absurd cc

all_split : {X : Type 0} (P : X → Type 0) (before xs : List X)
    → ((earlier : List X) (x : X) (later : List X) → before ++ xs ≡ earlier ++ (x ∷ later) → P x) → AllByRecursion P xs
all_split P before [] each = tt
all_split P before (x ∷ xs) each = (
  each before x xs refl,
  all_split P (before ++ x ∷ []) xs (λ earlier y later is. each earlier y later
      (sym (append_assoc before (x ∷ []) xs) ∙ is)),
)

handing : HandsOver ≢ EndsSession whys.LinkFault
handing same = absurd cc

module _ (service : Service) (journal : List Event) (legal : IsLegal service.setup journal)
    (few : length journal ≤ EVENTS_LIMIT) (range : IsInRange service.setup) (worker : ℕ) where
  -- ---- the parts of a session

  along_part : (session : ℕ) (small : session < 2 ^ 32) (exported : List ℕ) (part : Part) (role : LaunchedRole)
      (behind : List Place) (before : List Event) → role_session role ≡ session → part.role ≡ role → IsShipped part
      → (s : IsServed service exported part) → IsLegal service.setup before
      → UnlessLost (Talked service.setup worker session (shipped_role role) []) before
      → Stands journal worker before (step_places (requests_of part) ++ behind)
      → Along service journal legal few range worker session small (shipped_role role) exported part.final s.last
      (part.rest ++ part.unread) behind [] part.served
  along_part session small exported part role behind before own is shipped s front talked stands =
      along service journal legal few range worker session small (shipped_role role) exported part.final s.last
      (part.rest ++ part.unread) behind part.served [] (record {
        before = before;
        front = front;
        talked = talked;
        stands = stands;
        each = s.each;
        on = s.on;
        heard = tt;
        went = subst (λ n. Went (shipped_role role) n [] (answers service exported part.served ++ s.last)
            (step_bytes service.setup.frames (requests_of part) ++ (part.rest ++ part.unread))) own
            (went_by service exported part role is shipped s);
      })

  -- the user's child begins after the EXPORT
  record Begins (session : ℕ) (step : Step) : Type 0 where
    pub account : Account
    pub role : user_role service.setup step.place ≡ launched.User session account.uid account.name
    pub talked : UnlessLost (Talked service.setup worker session
        (shipped_role (launched.User session account.uid account.name)) [])
        (step.place.before ++ step.place.event ∷ [])

  user_begins : (session : ℕ) (small : session < 2 ^ 32) (exported : List ℕ) (final : Option Step)
      (last rest : List ℕ) (behind : List Place) (step : Step)
      → Leaves service journal legal few range worker session small Pre exported final last rest behind step
      → exports step.place.event ≡ true → Begins session step
  user_begins session small exported final last rest behind step l exported' = record {
    account = found.known.account;
    role = ap (λ o. role_of e.session (option_and_then (account_of service.setup) o))
        found.verified
        ∙ ap (λ o. role_of e.session o) found.known.found
        ∙ ap (λ (n : ℕ). launched.User n found.known.account.uid found.known.account.name) own;
    talked = λ none. record {
      state = after t.state e;
      at = goes_on service.setup journal worker session t.state p.before e t.at comes l.follows.own
          l.request_is.request;
      dialogue = record {
        opening = t.dialogue.opening;
        exchange = had l.request (Done []);
        earlier = l.history;
        first = t.dialogue.events ++ e ∷ [];
        second = [];
        are = events_of-own p.before e session own ∙ ap (λ es. es ++ e ∷ []) t.dialogue.are
            ∙ ap (λ es. t.dialogue.opening ∷ es) (sym (append-nil (t.dialogue.events ++ e ∷ [])));
        opened = t.dialogue.opened;
        early = (
          t.dialogue.events,
          e,
          refl,
          l.next,
          record {
            kind = kind_asked service.words l.request e.ask l.asks;
            told = told_export e.decision permit;
          },
          t.dialogue.early,
        );
        left = export_asked l.request e (kind_asked service.words l.request e.ask l.asks) exported';
        permitted = refl;
        late = refl;
      };
    };
  } where
    p : Place
    p = step.place

    e : Event
    e = step.place.event

    permit : is_permit e.decision ≡ true
    permit = export_permitted e exported'

    comes : Comes service.setup journal p.before e
    comes = record { next = l.follows.next; kept = permit_kept e.decision permit; stands = l.follows.stands }

    t : Talked service.setup worker session Pre l.history p.before
    t =
        l.follows.holds (none_before service.setup p.before e l.follows.next
        comes.kept)

    own : e.session ≡ session
    own =
        own_session service.setup journal worker session t.state p.before e t.at comes l.follows.own
        l.request_is.request

    found : IsLoggedIn service.setup p.before e.session
    found =
        legal_verified service.setup p.before l.follows.legal e.session
        (exported_in_verified service.setup p.before e l.follows.next exported')

  keeps_part : (session : ℕ) (small : session < 2 ^ 32) (exported : List ℕ) (part : Part) (role : LaunchedRole)
      (last : List ℕ) (behind : List Place) → part.role ≡ role
      → Along service journal legal few range worker session small (shipped_role role) exported part.final last
      (part.rest ++ part.unread) behind [] part.served → KeepsRules service exported part
  keeps_part session small exported part role last behind is a = record {
    mild = a.mild;
    dialogue = subst (λ (r : LaunchedRole). AreDialogue service exported (shipped_role r) [] (requests_of part))
        (sym is) a.dialogue;
  }

  by_parts : (opening ending : Step) (why : Why) (before : List Event) (more : List Place)
      → opening.place.event.session < 2 ^ 32 → IsLegal service.setup before
      → UnlessLost (Talked service.setup worker opening.place.event.session Pre []) before → (parts : List Part)
      → AreParts service why opening parts → AllByRecursion IsShipped parts
      → Stands journal worker before (step_places (flat_map requests_of parts ++ ending ∷ []) ++ more)
      → KeepRules service [] parts
  by_parts opening ending why before more small front talked [] parts shipped stands = tt
  by_parts opening ending why before more small front talked (pre ∷ []) parts shipped stands =
      let session = opening.place.event.session in
      let behind = step_places (ending ∷ []) ++ more in
      let there : step_places (flat_map requests_of (pre ∷ []) ++ ending ∷ []) ++ more ≡ step_places (requests_of pre)
      ++ behind = ap (λ steps. step_places (steps ++ ending ∷ []) ++ more) (append-nil (requests_of pre))
      ∙ ap (λ ps. ps ++ more) (places-append (requests_of pre) (ending ∷ []))
      ∙ append_assoc (step_places (requests_of pre)) (step_places (ending ∷ [])) more in
      let s = served_first service why pre parts.2 in
      let a = along_part session small [] pre (launched.Pre session) behind before refl parts.1 shipped.0 s
      front talked (subst (λ ps. Stands journal worker before ps) there stands) in
      (keeps_part session small [] pre (launched.Pre session) s.last behind parts.1 a, tt)
  by_parts opening ending why before more small front talked (pre ∷ child ∷ []) parts shipped stands =
      by_final pre.final refl (change.first.ended handing) change.verified where
        session : ℕ
        session = opening.place.event.session

        change : ChangesUser service why pre child
        change = parts.2

        last : List Place
        last = step_places (ending ∷ []) ++ more

        behind : List Place
        behind = step_places (requests_of child) ++ last

        there : step_places (flat_map requests_of (pre ∷ child ∷ []) ++ ending ∷ []) ++ more ≡ step_places
            (requests_of pre) ++ behind
        there =
            ap (λ steps. step_places ((requests_of pre ++ steps) ++ ending ∷ []) ++ more)
            (append-nil (requests_of child))
            ∙ ap (λ steps. step_places steps ++ more) (append_assoc (requests_of pre) (requests_of child) (ending ∷ []))
            ∙ ap (λ ps. ps ++ more) (places-append (requests_of pre) (requests_of child ++ ending ∷ [])
            ∙ ap (λ ps. step_places (requests_of pre) ++ ps) (places-append (requests_of child) (ending ∷ [])))
            ∙ append_assoc (step_places (requests_of pre))
            (step_places (requests_of child) ++ step_places (ending ∷ [])) more
            ∙ ap (λ ps. step_places (requests_of pre) ++ ps)
            (append_assoc (step_places (requests_of child)) (step_places (ending ∷ [])) more)

        s : IsServed service [] pre
        s = served_by service [] HandsOver pre change.first

        c : IsServed service (exported_by pre.final) child
        c = served_by service (exported_by pre.final) (EndsSession why) child change.second

        a : Along service journal legal few range worker session small Pre [] pre.final s.last (pre.rest ++ pre.unread)
            behind [] pre.served
        a =
            along_part session small [] pre (launched.Pre session) behind before refl parts.1 shipped.0 s front
            talked (subst (λ ps. Stands journal worker before ps) there stands)

        by_final : (o : Option Step) → pre.final ≡ o → EndsSo service.setup.frames HandsOver o pre.rest pre.unread
            → IsSomeAnd o (λ step. child.role ≡ user_role service.setup step.place)
            → KeepRules service [] (pre ∷ child ∷ [])
        by_final None is ends verified = absurd ends
        by_final (Some step) is ends verified =
            let l = a.leaves step is in
            let u = user_begins session small [] pre.final s.last (pre.rest ++ pre.unread) behind step l ends in
            let p = step.place in
            let role = launched.User session u.account.uid u.account.name in
            let is_role = verified ∙ u.role in
            let exported = exported_by pre.final in
            let b = along_part session small exported child role last (p.before ++ p.event ∷ []) refl is_role
            shipped.1.0 c
            (IsLegal-push service.setup p.before p.event l.follows.legal l.follows.next) u.talked
            l.follows.behind in (
              keeps_part session small [] pre (launched.Pre session) s.last behind parts.1 a,
              (keeps_part session small exported child role c.last last is_role b, tt),
            )
  by_parts opening ending why before more small front talked (pre ∷ child ∷ other ∷ others) parts shipped
      stands =
      absurd parts

  -- ---- the sessions

  opened : (p : Place) → Comes service.setup journal p.before p.event → IsLegal service.setup p.before
      → p.event.worker ≡ worker → opens p.event ≡ true
      → Talked service.setup worker p.event.session Pre [] (p.before ++ p.event ∷ [])
  opened p comes front own opens' =
      let e = p.event in
      let number = session_new p.before e (next_session service.setup p.before e comes.next) opens' in
      record {
        state = start;
        at = subst (λ (w : ℕ). At service.setup w e.session start (p.before ++ e ∷ [])) own
            (begun service.setup journal p.before e front comes opens');
        dialogue = record {
          opening = e;
          events = [];
          are = events_of-own p.before e e.session refl ∙ ap (λ es. es ++ e ∷ [])
              (events_of-new p.before (openings_of p.before) e.session (legal_numbered service.setup p.before front)
              (omega (arith, number)));
          opened = opens';
          early = refl;
        };
      }

  keeps : (sittings earlier later : List Sitting) (sitting : Sitting)
      → AreSittingsOf service journal worker sittings → sittings ≡ earlier ++ (sitting ∷ later)
      → AllByRecursion IsShipped sitting.parts → KeepRules service [] sitting.parts
  keeps sittings earlier later sitting served parts shipped = by_ending sitting.ending refl is.round where
    before : List Step
    before = flat_map all_steps earlier

    is : IsSitting service sitting
    is =
        one_passes (IsSitting service) earlier sitting later
        (subst (AllByRecursion (IsSitting service)) parts served.each)

    rest : Option Step → List Place
    rest ending =
        step_places (flat_map requests_of sitting.parts ++ option_to_list ending) ++ step_places
        (flat_map all_steps later)

    all : (ending : Option Step) → sitting.ending ≡ ending
        → places_behind worker [] journal ≡ step_places before ++ (sitting.opening.place ∷ rest ending)
    all ending e =
        served.places ∙ ap (λ ss. step_places (flat_map all_steps ss)) parts
        ∙ ap step_places (flat-append earlier (sitting ∷ later))
        ∙ places-append before (all_steps sitting ++ flat_map all_steps later)
        ∙ ap (λ ps. step_places before ++ ps) (places-append (all_steps sitting) (flat_map all_steps later))
        ∙ ap (λ o. step_places before ++ (step_places
        (sitting.opening ∷ flat_map requests_of sitting.parts ++ option_to_list o) ++ step_places
        (flat_map all_steps later))) e

    by_ending : (ending : Option Step) → sitting.ending ≡ ending
        → FollowsOpening service sitting.opening sitting.parts ending → KeepRules service [] sitting.parts
    by_ending None e follows = subst (KeepRules service []) (sym follows.1) tt
    by_ending (Some ending) e follows =
        let p = sitting.opening.place in
        let f = reach service.setup journal worker legal (step_places before) [] p (rest (Some ending))
        (IsLegal-none service.setup) (record { rest = journal; parts = refl; are = all (Some ending) e }) in
        let opens' : opens p.event ≡ true = ap (λ b. b && is_permit p.event.decision) (ap is_begin is.begins.ask)
        ∙ follows.0 in
        let number = session_new p.before p.event (next_session service.setup p.before p.event f.next) opens' in
        let small : p.event.session < 2 ^ 32 = omega (
          arith,
          number,
          openings_few p.before,
          ap length f.stands.parts,
          length-append p.before (p.event ∷ f.stands.rest),
          few,
        ) in
        let comes : Comes service.setup journal p.before p.event = record {
          next = f.next;
          kept = permit_kept p.event.decision follows.0;
          stands = f.stands;
        } in
        by_parts sitting.opening ending follows.1.0 (p.before ++ p.event ∷ []) (step_places (flat_map all_steps later))
        small (IsLegal-push service.setup p.before p.event f.legal f.next)
        (λ none. opened p comes f.legal f.own opens') sitting.parts follows.1.2 shipped f.behind

pub children_keep_rules : (service : Service) (journal : List Event) → IsLegal service.setup journal
    → length journal ≤ EVENTS_LIMIT → IsInRange service.setup → (worker : ℕ) (sittings : List Sitting)
    → AreSittingsOf service journal worker sittings → ChildrenKeepRules service sittings
children_keep_rules service journal legal few range worker sittings served =
    all_split (λ (s : Sitting). AllByRecursion IsShipped s.parts → KeepRules service [] s.parts) [] sittings
    (λ earlier sitting later is shipped.
    keeps service journal legal few range worker sittings earlier later sitting served is shipped)
