-- The end of a session, and a child that is given back at it.
use Rattle.std.proofs.Common.{◌≡◌, ◌≢◌, ℕ, ◌<◌, List, [], ◌∷◌, ◌++◌, Option, Some, None, option_to_list, refl, sym, ap, subst, ◌∙◌, append_assoc, arith}
use Rattle.std.specs.Prelude.{IfSome}
use Rattle.std.proofs.lemmas.List.Concat.{flat_map-append}
use Rattle.outside.specs.declared.act.Act.{Act}
use Rattle.outside.specs.declared.act.Act.TheVariants.{Finish, HangUp}
use Rattle.outside.specs.declared.act.Role.{Role}
use Rattle.outside.specs.declared.act.Talk.{Talk}
use Rattle.outside.specs.declared.receiving.Receiving.{Receiving}
use Rattle.outside.specs.Link.{Exchanged, Link}
use Rattle.outside.specs.Scene.{GivenBack, IsUnused, Played, Scene, planned_bytes, talk_by}
use Rattle.outside.specs.Told.{Goes}
use Rattle.outside.proofs.Scenes.{Played-then}
use Rattle.outside.proofs.Told.{Goes-then}
use Rattle.policy_model.specs.declared.event.Ask.TheVariants as asks
use Rattle.policy_model.specs.declared.event.Decision.{Decision}
use Rattle.policy_model.specs.declared.event.Decision.TheVariants as decisions
use Rattle.policy_model.specs.declared.event.Event.{Event}
use Rattle.policy_model.specs.declared.event.Why.{Why}
use Rattle.policy_model.specs.declared.event.Why.TheVariants as whys
use Rattle.policy_model.specs.Asks.{is_begin, value_of}
use Rattle.policy_model.specs.Journal.{open_session_of}
use Rattle.policy_model.specs.Runs.{IsIdle}
use Rattle.policy_model.specs.Settings.{IsInRange, Settings}
use Rattle.otp_ledger.proofs.GoingLemmas.{accounts_few}
use Rattle.child_keeper.specs.Tickets.{NamesAccount}
use Rattle.policy_model.proofs.Runs.{idle_after, next_session}
use Rattle.policy_model.proofs.Verdicts.{session_of-other}
use Rattle.request_catalogue.specs.declared.width.Width.{Width}
use Rattle.service_model.specs.Acts.{Finishes, HangsUp, ending_operations}
use Rattle.service_model.specs.Answers.{answer_to, answers}
use Rattle.service_model.specs.Parts.{EndsSession, EndsSo, Part, step_bytes, why_of}
use Rattle.service_model.specs.Cases.{by_link, place_of}
use Rattle.service_model.specs.Places.{Step, step_acts, worker_places}
use Rattle.service_model.specs.Stories.{talk_of}
use Rattle.service_model.proofs.Places.{worker_places-own}
use Rattle.service_model.proofs.Steps.{acts-append}
use Rattle.session_asking.specs.Serving.{Moment, Whose}
use Rattle.child_keeper.specs.Starts.{IsNewChild}
use Rattle.session_asking.specs.declared.live.LoggedIn.{LoggedIn}
use Rattle.session_asking.specs.Known.{IsServed, IsStillOpen}
use Rattle.session_turns.specs.Joins.{Joins, KeepsRights, Rights}
use Rattle.session_loop.specs.Child.{Concludes, EndsWithin, left_in, receivings_in}
use Rattle.session_loop.proofs.AskOrder.{Asks-whole}
use Rattle.session_loop.specs.Sessions.{CanEnd, ClosesWith, EndsOpen, HasPart, IsOver, IsPlannedPart, LeavesWithin}
use Rattle.session_loop.proofs.Turning.{Steps-then}

-- an ask of a worker's session that is still open: it is that session's
open_now : (setup : Settings) (worker : ℕ) (why : Why) (old new : List Event) (e : Event) → (joins : Joins setup worker (asks.End why) old new e) → e.session ≡ open_session_of old worker
open_now setup worker why old new e joins =
    next_session setup joins.before e joins.next ∙ session_of-other joins.before e.worker e.ask e.decision (ap is_begin joins.asks) ∙ ap (open_session_of joins.before) joins.its ∙ joins.others.opened

pub ends_open : (setup : Settings) (worker : ℕ) (why : Why) (old new : List Event) (e : Event) → Joins setup worker (asks.End why) old new e → EndsOpen worker why old new
ends_open setup worker why old new e joins = record {
  by = λ live done are. record {
    ending = record { place = place_of joins.before e; message = None; acts = done };
    ends = record { ask = joins.asks; session_is = open_now setup worker why old new e joins; none = refl; operations = are };
    acts = refl;
    steps = record { own = ap (λ j. worker_places j worker) joins.grown ∙ worker_places-own worker joins.before e joins.its ∙ ap (λ ps. ps ++ place_of joins.before e ∷ []) joins.others.places };
  };
}

pub is_over : (setup : Settings) (rights : Rights) (why : Why) (old new : List Event) (e : Event) → CanEnd setup rights old → Joins setup rights.worker (asks.End why) old new e → IsOver setup rights.worker new
is_over setup rights why old new e can joins =
    let some : open_session_of joins.before e.worker ≢ 0 = λ none. can.some (sym joins.others.opened ∙ ap (open_session_of joins.before) (sym joins.its) ∙ none) in
    record {
      run = joins.run;
      idle = subst (λ j. IsIdle j rights.worker) (sym joins.grown) (subst (IsIdle (joins.before ++ e ∷ [])) joins.its (idle_after setup joins.before e why joins.next joins.asks some));
    }

no_keeper_by : (d : Decision) → whys.KeeperFault ≢ why_of d
no_keeper_by (decisions.Permit value) e = absurd cc
no_keeper_by (decisions.Deny rule detail) e = absurd cc
no_keeper_by decisions.Lost e = absurd cc

-- a child that was served doesn't end its session as one that could not be started
pub no_keeper : (width : Width) (why : Why) (final : Option Step) (rest unread : List ℕ) → (EndsSession why ≢ by_link → EndsSo width (EndsSession why) final rest unread) → why ≢ whys.KeeperFault
no_keeper width why final rest unread ended is = go final (subst (λ w. EndsSession w ≢ by_link → EndsSo width (EndsSession w) final rest unread) is ended (λ e. absurd cc)) where
  go : (final : Option Step) → EndsSo width (EndsSession whys.KeeperFault) final rest unread → ⊥
  go None ends = ends
  go (Some step) ends = no_keeper_by step.place.event.decision ends.1

-- what passed with a child that was given back
pub record Returned (acts : List Act) (role : Role) (received given left : List ℕ) (receivings : Option (List Receiving)) (before after : Scene) : Type 0 where
  pub played : Played (acts ++ Finish role ∷ []) (record { role = role; taken = received; sent = given; receivings = receivings } ∷ []) (left ∷ []) before after
  pub planned : received ++ left ≡ planned_bytes before role

returned_told : (acts : List Act) (role : Role) (received given : List ℕ) (s t u : Scene) (k l : Link) → Played acts [] [] s t → Played (Finish role ∷ []) (talk_by role l ∷ []) (l.left ∷ []) t u → Exchanged received given k l → IsUnused k → k.left ≡ planned_bytes s role → Returned acts role received given l.left l.receivings s u
returned_told acts role received given s t u k l served finished passed unused planned =
    let talk : Talk = talk_by role l in
    let taken : l.taken ≡ received = passed.taken ∙ ap (λ xs. xs ++ received) unused.taken in
    let sent : l.sent ≡ given = passed.sent ∙ ap (λ xs. xs ++ given) unused.sent in
    let same : talk ≡ record { role = role; taken = received; sent = given; receivings = l.receivings } = rw (taken, sent) refl in
    record {
      played = subst (λ (x : Talk). Played (acts ++ Finish role ∷ []) (x ∷ []) (l.left ∷ []) s u) same (Played-then acts (Finish role ∷ []) [] (talk ∷ []) [] (l.left ∷ []) s t u served finished);
      planned = sym passed.left ∙ planned;
    }

pub given_back : (acts : List Act) (role : Role) (received given : List ℕ) (s t u : Option Scene) (k l : Option Link) → Goes (Played acts [] []) s t → GivenBack role l t u → Goes (Exchanged received given) k l → IfSome k IsUnused → IfSome s (λ b. IfSome k (λ x. x.left ≡ planned_bytes b role)) → Goes (Returned acts role received given (left_in l) (receivings_in l)) s u
given_back acts role received given s t None k l served finished passed unused planned = tt
given_back acts role received given s t (Some u) k None served finished passed unused planned = absurd (let e = finished in cc)
given_back acts role received given s None (Some u) k (Some l) served finished passed unused planned = absurd finished
given_back acts role received given None (Some t) (Some u) k (Some l) served finished passed unused planned = absurd served
given_back acts role received given (Some s) (Some t) (Some u) None (Some l) served finished passed unused planned = absurd passed
given_back acts role received given (Some s) (Some t) (Some u) (Some k) (Some l) served finished passed unused planned = returned_told acts role received given s t u k l served finished passed unused planned

-- a weaker step
pub Goes-weaker : {X : Type 0} (P Q : X → X → Type 0) → ((a b : X) → P a b → Q a b) → (a b : Option X) → Goes P a b → Goes Q a b
Goes-weaker P Q weaker a None h = tt
Goes-weaker P Q weaker None (Some b) h = absurd h
Goes-weaker P Q weaker (Some a) (Some b) h = weaker a b h

finishes : (live : Role) (why : Why) → why ≢ whys.KeeperFault → Finishes live ∷ HangsUp ∷ [] ≡ ending_operations live why
finishes live whys.KeeperFault ne = absurd (ne refl)
finishes live whys.Finished ne = refl
finishes live whys.ChildEnded ne = refl
finishes live whys.Truncated ne = refl
finishes live (whys.BadFrame len) ne = refl
finishes live (whys.Violation rule) ne = refl
finishes live whys.LinkFault ne = refl
finishes live whys.LogLost ne = refl

-- what a child that was served to the end of its session had of it
pub has_part : (w : Whose) (live : Role) (why : Why) (a b : Moment) (c : List Event) (v : Option Scene) (held : List ℕ) → Concludes w why a b held → held ≡ [] → EndsOpen w.worker why b.seen c → open_session_of b.seen w.worker ≡ w.session → ClosesWith live b.link b.scene v → IfSome a.link IsUnused → IfSome a.scene (λ x. IfSome a.link (λ y. y.left ≡ planned_bytes x live)) → HasPart w live why a.seen c a.scene v
has_part w live why a b c v held concludes none ends opened closes unused planned =
    let width = w.service.setup.frames in
    let requests = concludes.served ++ option_to_list concludes.final in
    let given = answers w.service w.exported concludes.served ++ concludes.last in
    let left = left_in b.link in
    let taken : concludes.received ≡ step_bytes width requests ++ concludes.rest = ap (λ h. h ++ concludes.received) (sym none) ∙ concludes.framed in
    let part : Part = record { role = live; served = concludes.served; final = concludes.final; taken = concludes.received; sent = given; rest = concludes.rest; unread = left; receivings = receivings_in b.link } in
    let acts : List Act = Finish live ∷ HangUp ∷ [] in
    let no : why ≢ whys.KeeperFault = no_keeper width why concludes.final concludes.rest left concludes.ended in
    let end = ends.by live acts (finishes live why no) in
    let back = given_back (step_acts requests) live concludes.received given a.scene b.scene closes.between a.link b.link concludes.acts closes.given_back concludes.bytes unused planned in
    let done : List Act = (step_acts requests ++ Finish live ∷ []) ++ HangUp ∷ [] in
    let steps_acts : step_acts (requests ++ end.ending ∷ []) ≡ done = acts-append requests (end.ending ∷ []) ∙ ap (λ xs. step_acts requests ++ (xs ++ [])) end.acts ∙ sym (append_assoc (step_acts requests) (Finish live ∷ []) (HangUp ∷ [])) in
    record {
      part = part;
      role = refl;
      is = record { each = concludes.each; on = concludes.on; taken = taken; sent = (concludes.sent.cut.0, ap (λ l. answers w.service w.exported concludes.served ++ l) concludes.sent.cut.1); whole = λ ne. ap (λ l. answers w.service w.exported concludes.served ++ l) (concludes.sent.all ne) ∙ sym (flat_map-append (answer_to w.service w.exported) concludes.served (option_to_list concludes.final)); in_order = Asks-whole w.service w.exported concludes.served held concludes.received a.link b.link none unused concludes.asks; ended = concludes.ended };
      served = no;
      ending = end.ending;
      ends = subst (λ n. Rattle.service_model.specs.Sittings.IsEnding n live why end.ending) opened end.ends;
      steps = Steps-then w.worker requests (end.ending ∷ []) a.seen b.seen c concludes.steps end.steps;
      played = subst (λ (acts : List Act). Goes (Played acts (talk_of part ∷ []) (left ∷ [])) a.scene v) (sym steps_acts)
          (Goes-then (Returned (step_acts requests) live concludes.received given left (receivings_in b.link)) (Played (HangUp ∷ []) [] []) (Played done (talk_of part ∷ []) (left ∷ []))
          (λ x y z first second. Played-then (step_acts requests ++ Finish live ∷ []) (HangUp ∷ []) (talk_of part ∷ []) [] (left ∷ []) [] x y z first.played second) a.scene closes.between v back closes.closed);
      planned = Goes-then (Returned (step_acts requests) live concludes.received given left (receivings_in b.link)) (Played (HangUp ∷ []) [] []) (IsPlannedPart part) (λ x y z first second. first.planned) a.scene closes.between v back closes.closed;
    }

-- a session that is still open may be ended, and then its worker has made at most two asks more than the session may
pub can_end : (setup : Settings) (session : ℕ) (first rights : Rights) (old seen : List Event) (user : Option LoggedIn) → IsServed setup first old session user → (same : Settings) → same ≡ setup → IsStillOpen setup rights seen session × EndsWithin setup session first old rights → CanEnd same rights seen
can_end setup session first rights old seen user served same is still =
    subst (λ s. CanEnd s rights seen) (sym is) (record { run = still.0.run; some = λ none. served.serving.some (sym still.0.opened ∙ none); left = still.0.left })

pub leaves_within : (setup : Settings) (session : ℕ) (first rights last : Rights) (old : List Event) → EndsWithin setup session first old rights → KeepsRights 1 rights last → LeavesWithin setup session first old last
leaves_within setup session first rights last old within kept =
    let left = within.left in
    let made = kept.made in
    record { worker = kept.worker ∙ within.worker; left = omega (arith, left, made) }

-- the end of a session whose child isn't live may be asked for too
pub served_can_end : (setup : Settings) (session : ℕ) (rights : Rights) (seen : List Event) (user : Option LoggedIn) → IsServed setup rights seen session user → (same : Settings) → same ≡ setup → CanEnd same rights seen
served_can_end setup session rights seen user served same is =
    let left = served.left in
    let below = served.serving.below in
    subst (λ s. CanEnd s rights seen) (sym is) (record { run = served.serving.run; some = λ none. served.serving.some (sym served.serving.opened ∙ none); left = omega (arith, left, below) })

pub served_leaves : (setup : Settings) (session : ℕ) (rights last : Rights) (seen : List Event) (user : Option LoggedIn) → IsServed setup rights seen session user → KeepsRights 1 rights last → LeavesWithin setup session rights seen last
served_leaves setup session rights last seen user served kept =
    let below = served.serving.below in
    let made = kept.made in
    record { worker = kept.worker; left = omega (arith, below, made) }

-- a child that was just started is new under its own role
pub new_own : (role own : Role) (link : Option Link) (faults : ℕ) (scene : Option Scene) → IsNewChild role own link faults scene → IsNewChild own own link faults scene
new_own role own link faults scene new = subst (λ r. IsNewChild r own link faults scene) (sym new.right) new

-- the number of an account is a small one
pub few_accounts : (setup : Settings) (e : Event) → IsInRange setup → NamesAccount setup e → value_of e.decision < 4294967296
few_accounts setup e range named =
    let few = accounts_few setup range in
    let below = named.below in
    omega (arith, few, below)
