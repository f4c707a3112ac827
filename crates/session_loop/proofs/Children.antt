-- The children of a session, one after the other.
use Rattle.std.proofs.Common.{◌≡◌, ◌≢◌, ℕ, ◌+◌, Bool, true, false, ◌&&◌, List, [], ◌∷◌, ◌++◌, Option, Some, None, Result, Ok, Err, refl, sym, ap, subst, ◌∙◌, append_assoc, append-nil, arith}
use Rattle.std.specs.Prelude.{IfSome, IsSomeAnd}
use Rattle.std.specs.Option.{option_map_or}
use Rattle.std.specs.List.{AllByRecursion, flat_map, list_any}
use Rattle.std.proofs.lemmas.List.Concat.{flat_map-append}
use Rattle.imsg_frame.specs.Message.{Message}
use Rattle.outside.specs.declared.act.Act.{Act}
use Rattle.outside.specs.declared.act.Act.TheVariants.{Finish, HangUp, Start}
use Rattle.outside.specs.declared.act.Failed.{Failed}
use Rattle.outside.specs.declared.act.Role.{Role}
use Rattle.outside.specs.declared.act.Role.TheVariants.{Pre}
use Rattle.outside.specs.declared.act.Talk.{Talk}
use Rattle.outside.specs.Link.{Exchanged, Link}
use Rattle.outside.specs.Scene.{Did, IsUnused, Played, Scene, bytes_at, came_count, is_coming, is_failed_start, planned_bytes}
use Rattle.outside.specs.Told.{Goes}
use Rattle.outside.proofs.Scenes.{Played-then, Plays-then}
use Rattle.outside.proofs.Told.{Goes-then}
use Rattle.policy_model.specs.declared.event.Ask.{Ask}
use Rattle.policy_model.specs.declared.event.Ask.TheVariants as asks
use Rattle.policy_model.specs.declared.event.Decision.{Decision}
use Rattle.policy_model.specs.declared.event.Decision.TheVariants as decisions
use Rattle.policy_model.specs.declared.event.Event.{Event}
use Rattle.policy_model.specs.declared.event.Why.{Why}
use Rattle.policy_model.specs.declared.event.Why.TheVariants as whys
use Rattle.policy_model.specs.Asks.{came_by_frame, exports, is_permit, shown_of}
use Rattle.policy_model.specs.Cases.{is_export}
use Rattle.policy_model.specs.Journal.{Place}
use Rattle.policy_model.specs.Settings.{Settings}
use Rattle.request_catalogue.specs.declared.width.Width.{Width}
use Rattle.child_keeper.specs.Starts.{ChangesChild}
use Rattle.child_keeper.specs.Tickets as tickets
use Rattle.service_model.specs.Acts.{Finishes, Starts, operations_by, operations_of}
use Rattle.service_model.specs.Answers.{answer_to, answer_value, answers, reply_to}
use Rattle.service_model.specs.Cases.{reply_bytes, message_bytes, place_of}
use Rattle.service_model.specs.Parts.{EndsSession, GoesOn, HandsOver, IsPart, IsRequestStep, Part, exported_by, requests_of, step_bytes}
use Rattle.service_model.specs.Places.{Step, step_acts, step_places, worker_places}
use Rattle.service_model.specs.Requests.{CameBy}
use Rattle.service_model.specs.Service.{Service}
use Rattle.service_model.specs.Sittings.{EndsFirst, IsEnding}
use Rattle.service_model.specs.Stories.{talk_of}
use Rattle.service_model.specs.Users.{user_role}
use Rattle.service_model.proofs.Lists.{All-push, count-append}
use Rattle.service_model.proofs.Steps.{acts-append, none_came_by, places-append}
use Rattle.session_asking.specs.Serving.{Moment, Steps, Whose, whose}
use Rattle.session_loop.specs.Child.{AsksFrom, HandsOn, export_step, left_in, receivings_in}
use Rattle.session_loop.proofs.AskOrder.{Asks-whole}
use Rattle.session_loop.specs.Sessions.{AfterChange, HasChildren, HasEnd, HasPart, HasSecond, IsPlannedPart}
use Rattle.session_loop.proofs.EndLemmas.{Goes-weaker, Returned, given_back}
use Rattle.session_loop.proofs.Turning.{Steps-then}

-- a permitted EXPORT is a request, for which the first child is given back and the user's is started, and nothing is told
export_request : (ask : Ask) → is_export ask ≡ true → came_by_frame ask ≡ true
export_request (asks.Export len) h = refl
export_request asks.Begin h = absurd cc
export_request (asks.End why) h = absurd cc
export_request _ h = refl

export_operations_are : (setup : Settings) (p : Place) (ask : Ask) (d : Decision) (message : Option Message) → p.event.decision ≡ d → (is_export ask && is_permit d) ≡ true → operations_by setup p ask message ≡ Finishes (Pre p.event.session) ∷ Starts (user_role setup p) ∷ []
export_operations_are setup p (asks.Export len) (decisions.Permit value) message e h = rw e refl
export_operations_are setup p (asks.Export len) (decisions.Deny rule detail) message e h = absurd cc
export_operations_are setup p (asks.Export len) decisions.Lost message e h = absurd cc
export_operations_are setup p _ d message e h = absurd cc

nothing_told : (service : Service) (exported : List ℕ) (p : Place) (acts : List Act) (ask : Ask) (d : Decision) → p.event.ask ≡ ask → (is_export ask && is_permit d) ≡ true → answer_value service exported p acts (shown_of d) ≡ None
nothing_told service exported p acts (asks.Export len) (decisions.Permit value) e h = rw e refl
nothing_told service exported p acts (asks.Export len) (decisions.Deny rule detail) e h = absurd cc
nothing_told service exported p acts (asks.Export len) decisions.Lost e h = absurd cc
nothing_told service exported p acts _ d e h = absurd cc

and_left : (a b : Bool) → (a && b) ≡ true → a ≡ true
and_left true b h = refl
and_left false b h = absurd cc

-- the step of an EXPORT, once its acts are done
abbrev done_step : List Event → Event → Message → List Act → Step
done_step front e message acts = record { place = place_of front e; message = Some message; acts = acts }

export_is : (service : Service) (front : List Event) (e : Event) (message : Message) (user : Role) (outcome : Result (Unit {0}) Failed) → CameBy service message e.ask → exports e ≡ true → user ≡ user_role service.setup (place_of front e) → IsRequestStep service (done_step front e message (Finish (Pre e.session) ∷ Start user outcome ∷ []))
unfolding operations_of
export_is service front e message user outcome came exported is = record {
  request = export_request e.ask (and_left (is_export e.ask) (is_permit e.decision) exported);
  came = came;
  acts = record { operations = ap (λ role. Finishes (Pre e.session) ∷ Starts role ∷ []) is ∙ sym (export_operations_are service.setup (place_of front e) e.ask e.decision (Some message) refl exported) };
}

export_untold : (service : Service) (exported : List ℕ) (front : List Event) (e : Event) (message : Message) (acts : List Act) → exports e ≡ true → answers service exported (done_step front e message acts ∷ []) ≡ []
unfolding reply_to
export_untold service exported front e message acts is =
    append-nil (reply_to service exported message (place_of front e) acts) ∙ ap (reply_bytes service.setup.frames message e.session) (nothing_told service exported (place_of front e) acts e.ask e.decision refl is)

-- which acts a step has says nothing of its bytes and its place
bytes_same : (width : Width) (xs : List Step) (front : List Event) (e : Event) (message : Message) (acts : List Act) → step_bytes width (xs ++ export_step front e message ∷ []) ≡ step_bytes width (xs ++ done_step front e message acts ∷ [])
bytes_same width xs front e message acts =
    flat_map-append (λ s. message_bytes width s.message) xs (export_step front e message ∷ []) ∙ sym (flat_map-append (λ s. message_bytes width s.message) xs (done_step front e message acts ∷ []))

places_same : (xs : List Step) (front : List Event) (e : Event) (message : Message) (acts : List Act) → step_places (xs ++ export_step front e message ∷ []) ≡ step_places (xs ++ done_step front e message acts ∷ [])
places_same xs front e message acts = places-append xs (export_step front e message ∷ []) ∙ sym (places-append xs (done_step front e message acts ∷ []))

-- the child before the login handed over: it was given back, and a start of the user's child was tried
record HasFirst (service : Service) (session worker : ℕ) (user : Role) (outcome : Result (Unit {0}) Failed) (e : Event) (state : List ℕ) (old new : List Event) (before after : Option Scene) : Type 0 where
  pub pre : Part
  pub role : pre.role ≡ Pre session
  pub is : IsPart service [] HandsOver pre
  pub final : Step
  pub ends : pre.final ≡ Some final
  pub starts : final.acts ≡ Finish (Pre session) ∷ Start user outcome ∷ []
  pub verified : user ≡ user_role service.setup final.place
  pub state_is : exported_by pre.final ≡ state
  pub steps : Steps worker (requests_of pre) old new
  pub played : Goes (Played (step_acts (requests_of pre)) (talk_of pre ∷ []) (pre.unread ∷ [])) before after
  pub planned : Goes (IsPlannedPart pre) before after

first_handed : (w : Whose) (e : Event) (state : List ℕ) (a b : Moment) (held : List ℕ) (user : Role) (outcome : Result (Unit {0}) Failed) (v : Option Scene) → w.exported ≡ [] → (have : HandsOn w e state a b held) → held ≡ [] → ChangesChild (Pre w.session) b.link user outcome b.scene v → IfSome a.link IsUnused → IfSome a.scene (λ s. IfSome a.link (λ l. l.left ≡ planned_bytes s (Pre w.session))) → user ≡ tickets.user_role w.service.setup e → HasFirst w.service w.session w.worker user outcome e state a.seen b.seen a.scene v
first_handed w e state a b held user outcome v nothing have none changes unused planned is =
    let service = w.service in
    let width = service.setup.frames in
    let acts : List Act = Finish (Pre w.session) ∷ Start user outcome ∷ [] in
    let final : Step = done_step have.front e have.message acts in
    let given = answers service [] have.served in
    let left = left_in b.link in
    let pre : Part = record { role = Pre w.session; served = have.served; final = Some final; taken = have.received; sent = given; rest = have.rest; unread = left; receivings = receivings_in b.link } in
    let taken : have.received ≡ step_bytes width (have.served ++ final ∷ []) ++ have.rest = ap (λ h. h ++ have.received) (sym none) ∙ have.framed ∙ ap (λ xs. xs ++ have.rest) (bytes_same width have.served have.front e have.message acts) in
    let verified : user ≡ user_role service.setup (place_of have.front e) = is ∙ have.role in
    let step_is : IsRequestStep service final = subst (λ n. IsRequestStep service (done_step have.front e have.message (Finish (Pre n) ∷ Start user outcome ∷ []))) have.session_is (export_is service have.front e have.message user outcome have.came have.exported verified) in
    let untold : answers service [] (final ∷ []) ≡ [] = export_untold service [] have.front e have.message acts have.exported in
    let bytes = subst (λ x. Goes (Exchanged have.received (answers service x have.served)) a.link b.link) nothing have.bytes in
    let back = given_back (step_acts have.served) (Pre w.session) have.received given a.scene b.scene changes.between a.link b.link have.acts changes.given_back bytes unused planned in
    let done : step_acts (have.served ++ final ∷ []) ≡ (step_acts have.served ++ Finish (Pre w.session) ∷ []) ++ Start user outcome ∷ [] = acts-append have.served (final ∷ []) ∙ sym (append_assoc (step_acts have.served) (Finish (Pre w.session) ∷ []) (Start user outcome ∷ [])) in
    record {
      pre = pre;
      role = refl;
      is = record {
        each = All-push (IsRequestStep service) have.served final have.each step_is;
        on = subst (λ x. AllByRecursion (GoesOn service x) have.served) nothing have.on;
        taken = taken;
        sent = (0, sym (append-nil given));
        whole = λ ne. sym (append-nil given) ∙ ap (λ told. given ++ told) (sym untold) ∙ sym (flat_map-append (answer_to service []) have.served (final ∷ []));
        in_order = Asks-whole service [] have.served held have.received a.link b.link none unused (subst (λ x. Goes (AsksFrom service x have.served held have.received) a.link b.link) nothing have.asks);
        ended = λ ne. have.exported;
      };
      final = final;
      ends = refl;
      starts = refl;
      verified = verified;
      state_is = have.body;
      steps = record { own = have.steps.own ∙ ap (λ ps. worker_places a.seen w.worker ++ ps) (places_same have.served have.front e have.message acts) };
      played = subst (λ (xs : List Act). Goes (Played xs (talk_of pre ∷ []) (pre.unread ∷ [])) a.scene v) (sym done)
          (Goes-then (Returned (step_acts have.served) (Pre w.session) have.received given left (receivings_in b.link)) (Played (Start user outcome ∷ []) [] []) (Played ((step_acts have.served ++ Finish (Pre w.session) ∷ []) ++ Start user outcome ∷ []) (talk_of pre ∷ []) (pre.unread ∷ []))
          (λ x y z first second. Played-then (step_acts have.served ++ Finish (Pre w.session) ∷ []) (Start user outcome ∷ []) (talk_of pre ∷ []) [] (pre.unread ∷ []) [] x y z first.played second) a.scene changes.between v back changes.started);
      planned = Goes-then (Returned (step_acts have.served) (Pre w.session) have.received given left (receivings_in b.link)) (Played (Start user outcome ∷ []) [] []) (IsPlannedPart pre) (λ x y z first second. first.planned) a.scene changes.between v back changes.started;
    }

-- the connections that came stay the same while a child is served
pub record SameRound (before after : Scene) : Type 0 where
  pub came : came_count after.acts ≡ came_count before.acts
  pub plan : after.plan ≡ before.plan

pub same_round : (done : List Act) (talks : List Talk) (unread : List (List ℕ)) (b a : Scene) → came_count done ≡ 0 → Played done talks unread b a → SameRound b a
same_round done talks unread b a none played = record {
  came = ap came_count played.acts ∙ count-append is_coming b.acts done ∙ ap (λ n. came_count b.acts + n) none ∙ omega arith;
  plan = played.plan;
}

pub planned_before : (part : Part) (b m a : Scene) → SameRound b m → IsPlannedPart part m a → IsPlannedPart part b a
planned_before part b m a same planned = planned ∙ ap (λ plan. bytes_at part.role plan (came_count m.acts)) same.plan ∙ ap (bytes_at part.role b.plan) same.came

abbrev AllPlanned : List Part → Scene → Scene → Type 0
AllPlanned parts b a = AllByRecursion (λ part. part.taken ++ part.unread ≡ bytes_at part.role b.plan (came_count b.acts)) parts

user_of : (setup : Settings) (o : Option Step) (final : Step) (role : Role) → o ≡ Some final → role ≡ user_role setup final.place → IsSomeAnd o (λ step. role ≡ user_role setup step.place)
user_of setup o final role is same = subst (λ x. IsSomeAnd x (λ step. role ≡ user_role setup step.place)) (sym is) same

abbrev acts_failed : Option Step → Bool
acts_failed o = list_any is_failed_start (option_map_or (λ step. step.acts) o [])

-- a session that its first child ended
ends_first : (service : Service) (why : Why) (pre : Part) → why ≢ whys.KeeperFault → IsPart service [] (EndsSession why) pre → EndsFirst service why pre
ends_first service whys.KeeperFault pre ne is = absurd (ne refl)
ends_first service whys.Finished pre ne is = is
ends_first service whys.ChildEnded pre ne is = is
ends_first service whys.Truncated pre ne is = is
ends_first service (whys.BadFrame len) pre ne is = is
ends_first service (whys.Violation rule) pre ne is = is
ends_first service whys.LinkFault pre ne is = is
ends_first service whys.LogLost pre ne is = is

pub children_one : (w : Whose) (why : Why) (a c : List Event) (s v : Option Scene) → w.exported ≡ [] → HasPart w (Pre w.session) why a c s v → HasChildren w.service w.session w.worker why a c s v
children_one w why a c s v nothing have =
    let part = have.part in
    let all : flat_map requests_of (part ∷ []) ++ have.ending ∷ [] ≡ requests_of part ++ have.ending ∷ [] = ap (λ xs. xs ++ have.ending ∷ []) (append-nil (requests_of part)) in
    record {
      parts = part ∷ [];
      are = λ opening opened same. (opened, have.role ∙ ap Pre (sym same), ends_first w.service why part have.served (subst (λ x. IsPart w.service x (EndsSession why) part) nothing have.is));
      ending = have.ending;
      ends = subst (λ role. IsEnding w.session role why have.ending) (sym have.role) have.ends;
      steps = subst (λ steps. Steps w.worker steps a c) (sym all) have.steps;
      played = subst (λ steps. Goes (Played (step_acts steps) (talk_of part ∷ []) (part.unread ∷ [])) s v) (sym all) have.played;
      planned = Goes-weaker (IsPlannedPart part) (AllPlanned (part ∷ [])) (λ x y h. (h, tt)) s v have.planned;
    }

pairs : (pre part : Part) (s u v : Option Scene) → Goes (AllPlanned (pre ∷ [])) s u → Goes SameRound s u → Goes (IsPlannedPart part) u v → Goes (AllPlanned (pre ∷ part ∷ [])) s v
pairs pre part s u None f r p = tt
pairs pre part s None (Some v) f r p = absurd p
pairs pre part None (Some u) (Some v) f r p = absurd f
pairs pre part (Some s) (Some u) (Some v) f r p = (f.0, (planned_before part s u v r p, tt))

-- a session of two children: the first handed over, and the user's was served to the end of its session
two : (w : Whose) (user : Role) (why : Why) (e : Event) (state : List ℕ) (a b c : List Event) (s u v : Option Scene) → (first : HasFirst w.service w.session w.worker user (Ok tt) e state a b s u) → HasPart (whose w.service state w.session w.worker) user why b c u v → HasChildren w.service w.session w.worker why a c s v
two w user why e state a b c s u v first second =
    let service = w.service in
    let pre = first.pre in
    let part = second.part in
    let later = requests_of part ++ second.ending ∷ [] in
    let all : flat_map requests_of (pre ∷ part ∷ []) ++ second.ending ∷ [] ≡ requests_of pre ++ later =
    ap (λ xs. (requests_of pre ++ xs) ++ second.ending ∷ []) (append-nil (requests_of part)) ∙ append_assoc (requests_of pre) (requests_of part) (second.ending ∷ []) in
    let both = Plays-then (step_acts (requests_of pre)) (step_acts later) (talk_of pre ∷ []) (talk_of part ∷ []) (pre.unread ∷ []) (part.unread ∷ []) s u v first.played second.played in
    let none = none_came_by service (requests_of pre) first.is.each in
    record {
      parts = pre ∷ part ∷ [];
      are = λ opening opened same. (
        opened,
        first.role ∙ ap Pre (sym same),
        record {
          first = first.is;
          started = ap acts_failed first.ends ∙ ap (list_any is_failed_start) first.starts;
          verified = user_of service.setup pre.final first.final part.role first.ends (second.role ∙ first.verified);
          second = subst (λ x. IsPart service x (EndsSession why) part) (sym first.state_is) second.is;
          served = second.served;
        },
      );
      ending = second.ending;
      ends = subst (λ role. IsEnding w.session role why second.ending) (sym second.role) second.ends;
      steps = subst (λ steps. Steps w.worker steps a c) (sym all) (Steps-then w.worker (requests_of pre) later a b c first.steps second.steps);
      played = subst (λ (xs : List Act). Goes (Played xs (talk_of pre ∷ talk_of part ∷ []) (pre.unread ∷ part.unread ∷ [])) s v) (sym (ap step_acts all ∙ acts-append (requests_of pre) later)) both;
      planned = pairs pre part s u v
          (Goes-weaker (IsPlannedPart pre) (AllPlanned (pre ∷ [])) (λ x y h. (h, tt)) s u first.planned)
          (Goes-weaker (Played (step_acts (requests_of pre)) (talk_of pre ∷ []) (pre.unread ∷ [])) SameRound (λ x y h. same_round (step_acts (requests_of pre)) (talk_of pre ∷ []) (pre.unread ∷ []) x y none h) s u first.played)
          second.planned;
    }

singles : (pre : Part) (s u v : Option Scene) → Goes (IsPlannedPart pre) s u → Did HangUp u v → Goes (AllPlanned (pre ∷ [])) s v
singles pre s u None p h = tt
singles pre s None (Some v) p h = absurd h
singles pre None (Some u) (Some v) p h = absurd p
singles pre (Some s) (Some u) (Some v) p h = (p, tt)

-- a session whose user's child could not be started
one_alone : (w : Whose) (user : Role) (failed : Failed) (e : Event) (state : List ℕ) (a b c : List Event) (s u v : Option Scene) → (first : HasFirst w.service w.session w.worker user (Err failed) e state a b s u) → Did HangUp u v → HasEnd w.session w.worker (Pre w.session) whys.KeeperFault (HangUp ∷ []) b c → HasChildren w.service w.session w.worker whys.KeeperFault a c s v
one_alone w user failed e state a b c s u v first hung end =
    let pre = first.pre in
    let all : flat_map requests_of (pre ∷ []) ++ end.ending ∷ [] ≡ requests_of pre ++ end.ending ∷ [] = ap (λ xs. xs ++ end.ending ∷ []) (append-nil (requests_of pre)) in
    let both = Plays-then (step_acts (requests_of pre)) (HangUp ∷ []) (talk_of pre ∷ []) [] (pre.unread ∷ []) [] s u v first.played hung in
    let done : step_acts (requests_of pre ++ end.ending ∷ []) ≡ step_acts (requests_of pre) ++ HangUp ∷ [] = acts-append (requests_of pre) (end.ending ∷ []) ∙ ap (λ xs. step_acts (requests_of pre) ++ (xs ++ [])) end.acts in
    record {
      parts = pre ∷ [];
      are = λ opening opened same. (opened, first.role ∙ ap Pre (sym same), (first.is, ap acts_failed first.ends ∙ ap (list_any is_failed_start) first.starts));
      ending = end.ending;
      ends = subst (λ role. IsEnding w.session role whys.KeeperFault end.ending) (sym first.role) end.ends;
      steps = subst (λ steps. Steps w.worker steps a c) (sym all) (Steps-then w.worker (requests_of pre) (end.ending ∷ []) a b c first.steps end.steps);
      played = subst (λ (xs : List Act). Goes (Played xs (talk_of pre ∷ []) (pre.unread ∷ [])) s v) (sym (ap step_acts all ∙ done)) both;
      planned = singles pre s u v first.planned hung;
    }

-- a session whose first child handed over
pub children_two : (w : Whose) (why : Why) (e : Event) (state : List ℕ) (a b : Moment) (c : List Event) (v : Option Scene) (held : List ℕ) → w.exported ≡ [] → HandsOn w e state a b held → held ≡ [] → IfSome a.link IsUnused → IfSome a.scene (λ s. IfSome a.link (λ l. l.left ≡ planned_bytes s (Pre w.session))) → HasSecond (whose w.service state w.session w.worker) (Pre w.session) b.link (tickets.user_role w.service.setup e) why b.seen c b.scene v → HasChildren w.service w.session w.worker why a.seen c a.scene v
children_two w why e state a b c v held nothing have none unused planned second = go second.outcome second.change second.rest where
  user : Role
  user = tickets.user_role w.service.setup e

  go : (outcome : Result (Unit {0}) Failed) → ChangesChild (Pre w.session) b.link user outcome b.scene second.mid → AfterChange (whose w.service state w.session w.worker) (Pre w.session) user outcome why b.seen c second.mid v → HasChildren w.service w.session w.worker why a.seen c a.scene v
  go (Ok done) change rest =
      two w user why e state a.seen b.seen c a.scene second.mid v (first_handed w e state a b held user (Ok done) second.mid nothing have none change unused planned refl) rest
  go (Err failed) change rest =
      subst (λ y. HasChildren w.service w.session w.worker y a.seen c a.scene v) (sym rest.0)
      (one_alone w user failed e state a.seen b.seen c a.scene second.mid v (first_handed w e state a b held user (Err failed) second.mid nothing have none change unused planned refl) rest.2 rest.1)

-- the same in the words of the session that the first child was served in
pub second_same : (w : Whose) (state : List ℕ) (service : Service) (session worker : ℕ) (role : Role) (link : Option Link) (e : Event) (why : Why) (b c : List Event) (s v : Option Scene) → service ≡ w.service → session ≡ w.session → worker ≡ w.worker → role ≡ Pre w.session → HasSecond (whose service state session worker) role link (tickets.user_role service.setup e) why b c s v → HasSecond (whose w.service state w.session w.worker) (Pre w.session) link (tickets.user_role w.service.setup e) why b c s v
second_same w state service session worker role link e why b c s v same_service same_session same_worker same_role second =
    subst (λ r. HasSecond (whose w.service state w.session w.worker) r link (tickets.user_role w.service.setup e) why b c s v) same_role
    (subst (λ n. HasSecond (whose w.service state w.session n) role link (tickets.user_role w.service.setup e) why b c s v) same_worker
    (subst (λ n. HasSecond (whose w.service state n worker) role link (tickets.user_role w.service.setup e) why b c s v) same_session
    (subst (λ (x : Service). HasSecond (whose x state session worker) role link (tickets.user_role x.setup e) why b c s v) same_service second)))
