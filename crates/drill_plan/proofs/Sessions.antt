-- One session of a drill: what it asked and how it ended.
use Rattle.std.proofs.Common.{◌≡◌, ◌≢◌, ℕ, ◌+◌, ◌<◌, Bool, true, false, ◌&&◌, ◌||◌, List, [], ◌∷◌, ◌++◌, Option, Some, None, option_to_list, refl, sym, ap, subst, ◌∙◌, append_assoc, lit<}
use Rattle.std.specs.Prelude.{IsSomeAnd, codes}
use Rattle.std.specs.List.{AllByRecursion, flat_map, list_any}
use Rattle.std.proofs.lemmas.Bool.{and_parts, false≢true}
use Rattle.std.proofs.lemmas.List.{append-nil, map-append}
use Rattle.request_catalogue.specs.declared.kind.Kind.TheVariants as kinds
use Rattle.request_catalogue.specs.declared.width.Width.TheVariants.{Narrow}
use Rattle.request_catalogue.specs.Catalogue.{RequestValue}
use Rattle.request_catalogue.specs.Catalogue as requests
use Rattle.outside.specs.declared.act.Role.{Role}
use Rattle.outside.specs.declared.act.Role.TheVariants as roles
use Rattle.outside.specs.Scene.{bytes_at, bytes_for}
use Rattle.policy_model.specs.declared.account.Account.{Account}
use Rattle.policy_model.specs.declared.event.Ask.{Ask}
use Rattle.policy_model.specs.declared.event.Ask.TheVariants as asks
use Rattle.policy_model.specs.declared.event.Decision.TheVariants.{Permit}
use Rattle.policy_model.specs.declared.event.Event.{Event}
use Rattle.policy_model.specs.declared.event.Why.{Why}
use Rattle.policy_model.specs.declared.event.Why.TheVariants as whys
use Rattle.policy_model.specs.declared.phase.Phase.{Phase}
use Rattle.policy_model.specs.declared.phase.Phase.TheVariants.{Pre, Challenged, Verified, User, Over}
use Rattle.policy_model.specs.Asks.{accepts, ends_session, exports, is_end, is_lost, is_permit, is_violation, value_of}
use Rattle.policy_model.specs.Cases.{is_export, is_finish, account_named}
use Rattle.policy_model.specs.Journal.{Place, has_lost}
use Rattle.policy_model.specs.Legal.{IsLegal}
use Rattle.policy_model.specs.Phases.{phase_of, table_row}
use Rattle.policy_model.specs.Settings.{Settings}
use Rattle.policy_model.proofs.Legal.{IsLegal-push}
use Rattle.session_laws.proofs.LoggedIn.{legal_verified}
use Rattle.session_laws.proofs.Permits.{permit_value, permitted_export}
use Rattle.service_model.specs.Parts.{EndsSession, EndsSo, GoesOn, HandsOver, IsPart, Part, exported_by, requests_of}
use Rattle.service_model.specs.Places.{Step, step_places}
use Rattle.service_model.specs.Service.{Service}
use Rattle.service_model.specs.Sittings.{AreParts, ChangesUser, EndsFirst}
use Rattle.service_model.specs.Users.{user_at, user_role}
use Rattle.service_model.specs.Cases.{role_of, by_link}
use Rattle.drill_plan.specs.declared.class.Class.{Class}
use Rattle.drill_plan.specs.declared.class.Class.TheVariants.{LogsIn, Repeats, Exports, BreaksOff}
use Rattle.drill_plan.specs.Classes.{class_of}
use Rattle.drill_plan.specs.Drill.{AreAsked, drill_end}
use Rattle.drill_plan.specs.Passwords.{current_password, own_name, right_password, session_count}
use Rattle.drill_plan.specs.Plan.{broken_header, drill_plan, requests_bytes, session_bytes}
use Rattle.drill_plan.specs.Requests.{early_requests_by, user_requests_by}
use Rattle.drill_plan.proofs.Users.{is_own_name}
use Rattle.drill_plan.proofs.Apart.{entry_bytes, plan_entry}
use Rattle.drill_plan.proofs.Ends.{Heard, IsFree, breaks_off_end, export_refused, exports_end, file_is_used, logs_in_end, none_is_left, repeats_end}
use Rattle.drill_plan.proofs.Heard.{alone_of, asked_heard, asked_longer, broken_alone, broken_short, events_in, heard_join, heard_part, said_part, sent_early, sent_user}
use Rattle.drill_plan.proofs.Said.{AsksFirst}
use Rattle.drill_plan.proofs.Walk.{At, Comes, Next, Stands, next_place, start}

-- what is said of a session of a class: its asks are the table's, and it ended as the drill says
pub record Follows (table : List RequestValue) (class : Class) (why : Why) (steps : List Step) : Type 0 where
  pub asked : AreAsked table (events_in steps)
  pub ended : why ≡ drill_end class (list_any accepts (events_in steps))

ends_first : (service : Service) (why : Why) (pre : Part) → why ≢ whys.KeeperFault → EndsFirst service why pre → IsPart service [] (EndsSession why) pre
ends_first service whys.KeeperFault pre ne is = absurd (ne refl)
ends_first service whys.Finished pre ne is = is
ends_first service whys.ChildEnded pre ne is = is
ends_first service whys.Truncated pre ne is = is
ends_first service (whys.BadFrame len) pre ne is = is
ends_first service (whys.Violation rule) pre ne is = is
ends_first service whys.LinkFault pre ne is = is
ends_first service whys.LogLost pre ne is = is

not_child : (b : Bool) → drill_end LogsIn b ≢ whys.ChildEnded
not_child true e = absurd cc
not_child false e = absurd cc

-- what isn't an EXPORT
other_ask : (ask other : Ask) → ask ≡ other → is_export other ≡ false → is_export ask ≡ true → ⊥
other_ask ask other same not_export exported = false≢true (sym (ap is_export same ∙ not_export) ∙ exported)

-- where a child's EXPORT stands in its table
repeats_exports_none : (user : List ℕ) (current right : ℕ) (served : List Step) (step : Step) (left : List RequestValue) → AsksFirst (early_requests_by user current right Repeats) (served ++ step ∷ []) left → is_export step.place.event.ask ≡ true → ⊥
repeats_exports_none user current right [] step left asked exported = absurd (other_ask _ _ asked.0.3 refl exported)
repeats_exports_none user current right (a ∷ []) step left asked exported = absurd (other_ask _ _ asked.1.0.2 refl exported)
repeats_exports_none user current right (a ∷ b ∷ []) step left asked exported = absurd (other_ask _ _ asked.1.1.0 refl exported)
repeats_exports_none user current right (a ∷ b ∷ c ∷ []) step left asked exported = absurd asked.1.1.1
repeats_exports_none user current right (a ∷ b ∷ c ∷ d ∷ served) step left asked exported = absurd asked.1.1.1

breaks_exports_none : (user : List ℕ) (current right : ℕ) (served : List Step) (step : Step) (left : List RequestValue) → AsksFirst (early_requests_by user current right BreaksOff) (served ++ step ∷ []) left → is_export step.place.event.ask ≡ true → ⊥
breaks_exports_none user current right [] step left asked exported = absurd (other_ask _ _ asked.0.3 refl exported)
breaks_exports_none user current right (a ∷ []) step left asked exported = absurd (other_ask _ _ asked.1.0 refl exported)
breaks_exports_none user current right (a ∷ b ∷ []) step left asked exported = absurd (other_ask _ _ asked.1.1.0.3 refl exported)
breaks_exports_none user current right (a ∷ b ∷ c ∷ []) step left asked exported = absurd asked.1.1.1
breaks_exports_none user current right (a ∷ b ∷ c ∷ d ∷ served) step left asked exported = absurd asked.1.1.1

logs_exports_last : (user : List ℕ) (current right : ℕ) (served : List Step) (step : Step) (left : List RequestValue) → AsksFirst (early_requests_by user current right LogsIn) (served ++ step ∷ []) left → is_export step.place.event.ask ≡ true → left ≡ []
logs_exports_last user current right [] step left asked exported = absurd (other_ask _ _ asked.0 refl exported)
logs_exports_last user current right (a ∷ []) step left asked exported = absurd (other_ask _ _ asked.1.0.3 refl exported)
logs_exports_last user current right (a ∷ b ∷ []) step left asked exported = absurd (other_ask _ _ asked.1.1.0.2 refl exported)
logs_exports_last user current right (a ∷ b ∷ c ∷ []) step left asked exported = sym asked.1.1.1.1
logs_exports_last user current right (a ∷ b ∷ c ∷ d ∷ []) step left asked exported = absurd asked.1.1.1.1
logs_exports_last user current right (a ∷ b ∷ c ∷ d ∷ f ∷ served) step left asked exported = absurd asked.1.1.1.1

-- the phase in which an EXPORT is permitted
verified_phase : (phase : Phase) → (table_row phase kinds.Export).permitted ≡ true → phase ≡ Verified
verified_phase Verified h = refl
verified_phase Pre h = absurd cc
verified_phase Challenged h = absurd cc
verified_phase User h = absurd cc
verified_phase Over h = absurd cc

-- an EXPORT that is permitted goes on
export_goes_on : (e : Event) → is_lost e.decision ≡ false → exports e ≡ true → ends_session e ≡ false
export_goes_on e kept exported =
    let both = and_parts (is_export e.ask) (is_permit e.decision) exported in
    by_ask e.ask both.0 (permit_value e.decision both.1) where
      by_ask : (ask : Ask) → is_export ask ≡ true → e.decision ≡ Permit (value_of e.decision) → (is_end ask || is_finish ask && is_permit e.decision || is_violation e.decision || is_lost e.decision) ≡ false
      by_ask (asks.Export len) is permit = rw permit refl
      by_ask _ is permit = absurd cc

-- who a permitted EXPORT's session is logged in as has an account, so the user's child is one
user_child : (setup : Settings) (p : Place) → IsLegal setup p.before → Comes setup p.before p.event → exports p.event ≡ true → (account : Account) × (user_role setup p ≡ roles.User p.event.session account.uid account.name)
user_child setup p legal comes exported =
    let verified = verified_phase (phase_of p.before p.event.session) (permitted_export setup p.before p.event comes.next exported).0 in
    let logged = legal_verified setup p.before legal p.event.session verified in
    let at : user_at setup p ≡ Some logged.known.account = ap (account_named setup) logged.verified ∙ logged.known.found in
    (logged.known.account, ap (role_of p.event.session) at)

module _ (service : Service) (n worker session k : ℕ) (journal : List Event) (legal : IsLegal service.setup journal) (none : has_lost journal ≡ false) (sixteen : service.setup.requests ≡ 16) (three : service.setup.tries ≡ 3) (narrow : service.setup.frames ≡ Narrow)
    (below : worker < 4) (few : k < session_count n) (free : IsFree service.setup journal worker session legal none sixteen three (own_name worker)) where
  abbrev current : ℕ
  current = current_password n worker k

  abbrev right : ℕ
  right = right_password n worker k

  abbrev early : Class → List RequestValue
  early class = early_requests_by (own_name worker) current right class

  abbrev table : Class → List RequestValue
  table class = early class ++ user_requests_by class

  -- one child alone
  alone_follows : (class : Class) (why : Why) (before : List Event) (rest : List Place) (steps : List Step) → At service.setup worker session before start → Stands journal worker before (step_places steps ++ rest) → Heard (early class) (alone_of (broken_header class)) why steps → Follows (table class) class why steps
  alone_follows LogsIn why before rest steps at stands heard =
      let ended = logs_in_end service.setup journal worker session legal none sixteen three before rest whys.ChildEnded why _ _ _ [] steps (none_is_left service.setup journal worker session legal none sixteen three rest whys.ChildEnded why) at stands heard in
      let ne : why ≢ whys.ChildEnded = λ child. not_child (list_any accepts (events_in steps)) (sym ended ∙ child) in
      record { asked = asked_longer (early LogsIn) (user_requests_by LogsIn) whys.ChildEnded why steps ne heard; ended = ended }
  alone_follows Repeats why before rest steps at stands heard = record {
    asked = asked_heard (early Repeats) whys.ChildEnded why steps heard;
    ended = repeats_end service.setup journal worker session legal none sixteen three before rest whys.ChildEnded why _ _ steps free at stands heard;
  }
  alone_follows Exports why before rest steps at stands heard = record {
    asked = asked_heard (early Exports) whys.ChildEnded why steps heard;
    ended = exports_end service.setup journal worker session legal none sixteen three before rest whys.ChildEnded why _ steps at stands heard;
  }
  alone_follows BreaksOff why before rest steps at stands heard = record {
    asked = asked_heard (early BreaksOff) (alone_of (broken_header BreaksOff)) why steps heard;
    ended = breaks_off_end service.setup journal worker session legal none sixteen three before rest (alone_of (broken_header BreaksOff)) why _ _ steps free at stands heard ∙ broken_alone;
  }

  -- the first child handed over to the user's
  exports_once : (before : List Event) (rest : List Place) (served : List Step) (step : Step) (left : List RequestValue) (behind : List Step) → At service.setup worker session before start → Stands journal worker before (step_places ((served ++ step ∷ []) ++ behind) ++ rest)
      → AsksFirst (early Exports) (served ++ step ∷ []) left → is_permit step.place.event.decision ≡ true → ⊥
  exports_once before rest [] step left behind at stands asked permit =
      false≢true (sym (export_refused service.setup journal worker session legal none sixteen three before (step_places behind ++ rest) step.place _ at stands asked.0) ∙ permit)
  exports_once before rest (first ∷ []) step left behind at stands asked permit = asked.1
  exports_once before rest (first ∷ second ∷ served) step left behind at stands asked permit = asked.1

  both_follow : (class : Class) (why : Why) (before : List Event) (rest : List Place) (served : List Step) (step : Step) (left : List RequestValue) (behind : List Step) → At service.setup worker session before start → Stands journal worker before (step_places ((served ++ step ∷ []) ++ behind) ++ rest)
      → AsksFirst (early class) (served ++ step ∷ []) left → AllByRecursion (GoesOn service []) served → exports step.place.event ≡ true → is_lost step.place.event.decision ≡ false → Heard (user_requests_by class) whys.ChildEnded why behind → Follows (table class) class why ((served ++ step ∷ []) ++ behind)
  both_follow LogsIn why before rest served step left behind at stands asked on exported kept heard =
      let is = and_parts (is_export step.place.event.ask) (is_permit step.place.event.decision) exported in
      let all : AsksFirst (early LogsIn) (served ++ step ∷ []) [] = subst (λ l. AsksFirst (early LogsIn) (served ++ step ∷ []) l) (logs_exports_last (own_name worker) current right served step left asked is.0) asked in
      let full = heard_join service [] (early LogsIn) requests.Import (requests.OpenFile 3 (codes "notes") ∷ requests.WriteAt 1 0 (codes "drill") ∷ requests.ReadAt 1 0 16 ∷ requests.CloseFile 1 ∷ requests.Finish ∷ []) whys.ChildEnded why served step behind all on (export_goes_on step.place.event kept exported) heard in
      record {
        asked = asked_heard (table LogsIn) whys.ChildEnded why ((served ++ step ∷ []) ++ behind) full;
        ended = logs_in_end service.setup journal worker session legal none sixteen three before rest whys.ChildEnded why _ _ _ (user_requests_by LogsIn) ((served ++ step ∷ []) ++ behind) (file_is_used service.setup journal worker session legal none sixteen three rest whys.ChildEnded why (codes "notes") (codes "drill")) at stands full;
      }
  both_follow Repeats why before rest served step left behind at stands asked on exported kept heard =
      absurd (repeats_exports_none (own_name worker) current right served step left asked (and_parts (is_export step.place.event.ask) (is_permit step.place.event.decision) exported).0)
  both_follow Exports why before rest served step left behind at stands asked on exported kept heard =
      absurd (exports_once before rest served step left behind at stands asked (and_parts (is_export step.place.event.ask) (is_permit step.place.event.decision) exported).1)
  both_follow BreaksOff why before rest served step left behind at stands asked on exported kept heard =
      absurd (breaks_exports_none (own_name worker) current right served step left asked (and_parts (is_export step.place.event.ask) (is_permit step.place.event.decision) exported).0)

  -- the place of a step after others
  reach : (front : List Step) (step : Step) (before : List Event) (more : List Place) → IsLegal service.setup before → Stands journal worker before (step_places (front ++ step ∷ []) ++ more) → Next service.setup journal worker (IsLegal service.setup) step.place more
  reach [] step before more so stands = next_place service.setup journal worker legal none (IsLegal service.setup) (λ b e comes other l. IsLegal-push service.setup b e l comes.next) before step.place more so stands
  reach (first ∷ front) step before more so stands =
      let n = next_place service.setup journal worker legal none (IsLegal service.setup) (λ b e comes other l. IsLegal-push service.setup b e l comes.next) before first.place (step_places (front ++ step ∷ []) ++ more) so stands in
      reach front step (first.place.before ++ first.place.event ∷ []) more (IsLegal-push service.setup first.place.before first.place.event n.holds n.comes.next) n.behind

  abbrev IsPlannedPart : Part → Type 0
  IsPlannedPart part = part.taken ++ part.unread ≡ bytes_at part.role (drill_plan n worker) (k + 1)

  abbrev FollowsAll : Why → List Step → Type 0
  FollowsAll why steps = Follows (table (class_of n worker k)) (class_of n worker k) why steps

  by_role : (part : Part) (role : Role) → IsPlannedPart part → part.role ≡ role → part.taken ++ part.unread ≡ bytes_for role (session_bytes n worker k)
  by_role part role planned same = planned ∙ ap (λ r. bytes_at r (drill_plan n worker) (k + 1)) same ∙ entry_bytes role (drill_plan n worker) k (session_bytes n worker k) (plan_entry n worker k few)

  handing : HandsOver ≢ by_link
  handing e = absurd cc

  places-append : (xs ys : List Step) → step_places (xs ++ ys) ≡ step_places xs ++ step_places ys
  places-append xs ys = map-append (λ (s : Step). s.place) xs ys

  handed : (why : Why) (opening : Step) (pre user' : Part) (before : List Event) (rest : List Place) → why ≢ whys.LinkFault → pre.role ≡ roles.Pre opening.place.event.session → ChangesUser service why pre user' → IsPlannedPart pre → IsPlannedPart user' → At service.setup worker session before start
      → Stands journal worker before (step_places (requests_of pre ++ (requests_of user' ++ [])) ++ rest) → (final : Option Step) → pre.final ≡ final → FollowsAll why (requests_of pre ++ (requests_of user' ++ []))
  handed why opening pre user' before rest nl role change planned planned' at stands None is = absurd (subst (λ f. EndsSo service.setup.frames HandsOver f pre.rest pre.unread) is (change.first.ended handing))
  handed why opening pre user' before rest nl role change planned planned' at stands (Some step) is =
      let class = class_of n worker k in
      let exported = subst (λ f. EndsSo service.setup.frames HandsOver f pre.rest pre.unread) is (change.first.ended handing) in
      let same : requests_of pre ++ (requests_of user' ++ []) ≡ (pre.served ++ step ∷ []) ++ requests_of user' = ap (λ f. (pre.served ++ option_to_list f) ++ (requests_of user' ++ [])) is ∙ ap (λ r. (pre.served ++ step ∷ []) ++ r) (append-nil (requests_of user')) in
      let stands' = subst (λ steps. Stands journal worker before (step_places steps ++ rest)) same stands in
      let split : step_places ((pre.served ++ step ∷ []) ++ requests_of user') ++ rest ≡ step_places (pre.served ++ step ∷ []) ++ (step_places (requests_of user') ++ rest) =
      ap (λ ps. ps ++ rest) (places-append (pre.served ++ step ∷ []) (requests_of user')) ∙ append_assoc (step_places (pre.served ++ step ∷ [])) (step_places (requests_of user')) rest in
      let there = reach pre.served step before (step_places (requests_of user') ++ rest) at.legal (subst (λ ps. Stands journal worker before ps) split stands') in
      let child = user_child service.setup step.place there.holds there.comes exported in
      let verified : user'.role ≡ user_role service.setup step.place = subst (λ f. IsSomeAnd f (λ s. user'.role ≡ user_role service.setup s.place)) is change.verified in
      let said_first = said_part service pre (early class) (broken_header class) narrow (sent_early (own_name worker) current right class (is_own_name worker below)) (broken_short class) change.first.each change.first.taken (by_role pre (roles.Pre opening.place.event.session) planned role) in
      let asked = subst (λ f. AsksFirst (early class) (pre.served ++ option_to_list f) said_first.left) is said_first.asked in
      let heard = heard_part service (exported_by pre.final) why user' (user_requests_by class) [] narrow (sent_user class) (lit< tt) nl change.second
      (by_role user' (roles.User step.place.event.session child.0.uid child.0.name) planned' (verified ∙ child.1) ∙ sym (append-nil (requests_bytes (user_requests_by class)))) in
      subst (λ steps. FollowsAll why steps) (sym same) (both_follow class why before rest pre.served step said_first.left (requests_of user') at stands' asked change.first.on exported there.comes.kept heard)

  pub parts_follow : (why : Why) (opening : Step) (parts : List Part) (before : List Event) (rest : List Place) → why ≢ whys.LinkFault → why ≢ whys.KeeperFault → AreParts service why opening parts → AllByRecursion IsPlannedPart parts → At service.setup worker session before start
      → Stands journal worker before (step_places (flat_map requests_of parts) ++ rest) → FollowsAll why (flat_map requests_of parts)
  parts_follow why opening [] before rest nl nk are planned at stands = absurd (nk are.1)
  parts_follow why opening (pre ∷ []) before rest nl nk are planned at stands =
      let class = class_of n worker k in
      let is = ends_first service why pre nk are.2 in
      let heard = heard_part service [] why pre (early class) (broken_header class) narrow (sent_early (own_name worker) current right class (is_own_name worker below)) (broken_short class) nl is (by_role pre (roles.Pre opening.place.event.session) planned.0 are.1) in
      let none_more : requests_of pre ++ [] ≡ requests_of pre = append-nil (requests_of pre) in
      subst (λ steps. FollowsAll why steps) (sym none_more) (alone_follows class why before rest (requests_of pre) at (subst (λ steps. Stands journal worker before (step_places steps ++ rest)) none_more stands) heard)
  parts_follow why opening (pre ∷ user' ∷ []) before rest nl nk are planned at stands = handed why opening pre user' before rest nl are.1 are.2 planned.0 planned.1.0 at stands pre.final refl
  parts_follow why opening (pre ∷ user' ∷ other ∷ parts) before rest nl nk are planned at stands = absurd are
