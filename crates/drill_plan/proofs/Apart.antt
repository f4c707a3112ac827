-- No worker of a drill asks for another worker's user.
use Rattle.std.proofs.Common.{◌≡◌, ℕ, ◌+◌, ◌<◌, ◌≤◌, ◌⊎◌, Bool, true, false, cond, eqb, List, [], ◌∷◌, ◌++◌, length, get_or, Option, Some, None, option_to_list, refl, sym, ap, subst, ◌∙◌, arith, inl, inr, eq-eqb, lit<}
use Rattle.std.specs.Prelude.{codes, nat_lt, option_map, slice_get, unwrap_or, suc}
use Rattle.std.specs.List.{AllByRecursion, flat_map}
use Rattle.std.proofs.lemmas.Bool.{and_parts, false≢true}
use Rattle.std.proofs.lemmas.Fmt.{decimal_injective}
use Rattle.std.proofs.lemmas.List.{append-nil}
use Rattle.std.proofs.lemmas.List.FromFn.{get_or-map-range_with_len, length-map-range_with_len}
use Rattle.std.proofs.lemmas.Option.{slice_get-get_or}
use Rattle.std.specs.Fmt.{decimal}
use Rattle.request_catalogue.specs.declared.width.Width.TheVariants.{Narrow}
use Rattle.request_catalogue.specs.declared.texts.Name.{Name}
use Rattle.request_catalogue.specs.TextBytes.{name_bytes}
use Rattle.request_catalogue.specs.Catalogue.{RequestValue}
use Rattle.request_catalogue.specs.Catalogue as requests
use Rattle.outside.specs.declared.act.Role.{Role}
use Rattle.outside.specs.declared.act.Role.TheVariants as roles
use Rattle.outside.specs.Scene.{bytes_at, bytes_for}
use Rattle.policy_model.specs.declared.event.Event.{Event}
use Rattle.policy_model.specs.declared.event.Why.{Why}
use Rattle.policy_model.specs.declared.event.Why.TheVariants as whys
use Rattle.policy_model.specs.declared.reading.TheConstants.{DECOYS_FROM}
use Rattle.policy_model.specs.Asks.{is_permit, reserves, takes_user, value_of}
use Rattle.policy_model.specs.Cases.{is_challenge_for}
use Rattle.policy_model.specs.Journal.{Place}
use Rattle.session_laws.proofs.Permits.{same_from_same_name}
use Rattle.service_model.specs.Parts.{IsRequestStep, Part, requests_of, step_bytes}
use Rattle.service_model.specs.Places.{Step, step_places}
use Rattle.service_model.specs.Cases.{place_of, worker_places_after}
use Rattle.service_model.specs.Service.{Service}
use Rattle.service_model.specs.Sittings.{AreParts, EndsFirst, Follows, IsSitting, Sitting, all_steps}
use Rattle.service_model.specs.Stories.{ArePlanned, IsPlanned}
use Rattle.service_model.proofs.Lists.{All-append}
use Rattle.drill_plan.specs.declared.class.Class.{Class}
use Rattle.drill_plan.specs.declared.class.Class.TheVariants.{LogsIn, Repeats, Exports, BreaksOff}
use Rattle.drill_plan.specs.Classes.{class_of}
use Rattle.drill_plan.specs.Passwords.{current_password, own_name, right_password, session_count}
use Rattle.drill_plan.specs.Plan.{broken_header, drill_plan, requests_bytes, session_bytes}
use Rattle.drill_plan.specs.Requests.{IsAskFor, early_requests_by, user_requests_by}
use Rattle.drill_plan.proofs.Users.{is_own_name}
use Rattle.drill_plan.proofs.Heard.{broken_short, said_part, sent_early, sent_user}
use Rattle.drill_plan.proofs.Holding.{IsApart}
use Rattle.drill_plan.proofs.Said.{AsksFirst}

-- ---- the names of the table

abbrev pub NamesOwn : ℕ → RequestValue → Type 0
NamesOwn worker (requests.Challenge user) = (user ≡ own_name worker) ⊎ (user ≡ codes "nobody")
NamesOwn worker _ = Unit {0}

early_names : (worker current right : ℕ) (class : Class) → AllByRecursion (NamesOwn worker) (early_requests_by (own_name worker) current right class)
early_names worker current right LogsIn = (tt, (inl refl, (tt, (tt, tt))))
early_names worker current right Repeats = (inl refl, (tt, (tt, tt)))
early_names worker current right Exports = (tt, tt)
early_names worker current right BreaksOff = (inl refl, (tt, (inr refl, tt)))

user_names : (worker : ℕ) (class : Class) → AllByRecursion (NamesOwn worker) (user_requests_by class)
user_names worker LogsIn = (tt, (tt, (tt, (tt, (tt, (tt, tt))))))
user_names worker Repeats = tt
user_names worker Exports = tt
user_names worker BreaksOff = tt

same_worker : (v w : ℕ) → v < 4 → w < 4 → own_name v ≡ own_name w → v ≡ w
same_worker v w below_v below_w same =
    let digits : decimal v ≡ decimal w = cc in
    decimal_injective v w (omega (arith, below_v)) (omega (arith, below_w)) digits

no_worker : (w : ℕ) → codes "nobody" ≡ own_name w → ⊥
no_worker w same = let first : ◌≡◌ {A = ℕ} 110 100 = ap (λ (xs : List ℕ). get_or xs 0 0) same in absurd (omega (arith, first))

-- an event of a worker reserves no other worker's user
pub record IsOwn (worker : ℕ) (e : Event) : Type 0 where
  pub own : (other : ℕ) (user : Name) → other < 4 → name_bytes user ≡ own_name other → reserves user e ≡ true → worker ≡ other

no_challenge : (worker : ℕ) (e : Event) → ((user : Name) → is_challenge_for user e.ask ≡ false) → IsOwn worker e
no_challenge worker e none = record {
  own = λ other user lt named reserved. absurd (false≢true (sym (none user) ∙ (and_parts (is_challenge_for user e.ask) (is_permit e.decision) (and_parts (takes_user user e) (nat_lt (value_of e.decision) DECOYS_FROM) reserved).0).0));
}

own_request : (worker : ℕ) (request : RequestValue) (e : Event) → worker < 4 → NamesOwn worker request → IsAskFor request e.ask → IsOwn worker e
own_request worker (requests.Challenge name) e below names is = record {
  own = λ other user lt named reserved.
      let challenged = (and_parts (is_challenge_for user e.ask) (is_permit e.decision) (and_parts (takes_user user e) (nat_lt (value_of e.decision) DECOYS_FROM) reserved).0).0 in
      let same : is.0 ≡ user = same_from_same_name is.0 user (sym (ap (is_challenge_for user) is.3) ∙ challenged) in
      let bytes : name ≡ own_name other = sym is.2 ∙ ap name_bytes same ∙ named in
      elim names [ inl mine ↦ same_worker worker other below lt (sym mine ∙ bytes) | inr nobody ↦ absurd (no_worker other (sym nobody ∙ bytes)) ];
}
own_request worker requests.Banner e below names is = no_challenge worker e (λ user. ap (is_challenge_for user) is)
own_request worker (requests.Reply text) e below names is = no_challenge worker e (λ user. ap (is_challenge_for user) is.2)
own_request worker requests.Abandon e below names is = no_challenge worker e (λ user. ap (is_challenge_for user) is)
own_request worker (requests.Export state) e below names is = no_challenge worker e (λ user. ap (is_challenge_for user) is)
own_request worker requests.Import e below names is = no_challenge worker e (λ user. ap (is_challenge_for user) is)
own_request worker (requests.ReadAt handle offset max) e below names is = no_challenge worker e (λ user. ap (is_challenge_for user) is)
own_request worker (requests.WriteAt handle offset bytes) e below names is = no_challenge worker e (λ user. ap (is_challenge_for user) is)
own_request worker (requests.OpenFile mode name) e below names is = no_challenge worker e (λ user. ap (is_challenge_for user) is.2)
own_request worker (requests.CloseFile handle) e below names is = no_challenge worker e (λ user. ap (is_challenge_for user) is)
own_request worker (requests.Info number) e below names is = absurd is
own_request worker (requests.Note text) e below names is = absurd is
own_request worker requests.Finish e below names is = no_challenge worker e (λ user. ap (is_challenge_for user) is)

abbrev pub AreOwn : ℕ → List Step → Type 0
AreOwn worker steps = AllByRecursion (λ (x : Step). IsOwn worker x.place.event) steps

own_steps : (worker : ℕ) (all : List RequestValue) (steps : List Step) (left : List RequestValue) → worker < 4 → AllByRecursion (NamesOwn worker) all → AsksFirst all steps left → AreOwn worker steps
own_steps worker all [] left below names asked = tt
own_steps worker [] (step ∷ steps) left below names asked = absurd asked
own_steps worker (request ∷ all) (step ∷ steps) left below names asked = (own_request worker request step.place.event below names.0 asked.0, own_steps worker all steps left below names.1 asked.1)

-- ---- a session's parts

-- what each part has of its bytes
pub record Taken (service : Service) (part : Part) : Type 0 where
  pub each : AllByRecursion (IsRequestStep service) (requests_of part)
  pub taken : part.taken ≡ step_bytes service.setup.frames (requests_of part) ++ part.rest

ends_taken : (service : Service) (why : Why) (pre : Part) → EndsFirst service why pre → Taken service pre
ends_taken service whys.KeeperFault pre is = record { each = is.0.each; taken = is.0.taken }
ends_taken service whys.Finished pre is = record { each = is.each; taken = is.taken }
ends_taken service whys.ChildEnded pre is = record { each = is.each; taken = is.taken }
ends_taken service whys.Truncated pre is = record { each = is.each; taken = is.taken }
ends_taken service (whys.BadFrame len) pre is = record { each = is.each; taken = is.taken }
ends_taken service (whys.Violation rule) pre is = record { each = is.each; taken = is.taken }
ends_taken service whys.LinkFault pre is = record { each = is.each; taken = is.taken }
ends_taken service whys.LogLost pre is = record { each = is.each; taken = is.taken }

all_taken : (service : Service) (why : Why) (opening : Step) (parts : List Part) → AreParts service why opening parts → AllByRecursion (Taken service) parts
all_taken service why opening [] are = tt
all_taken service why opening (pre ∷ []) are = (ends_taken service why pre are.2, tt)
all_taken service why opening (pre ∷ user ∷ []) are = (record { each = are.2.first.each; taken = are.2.first.taken }, (record { each = are.2.second.each; taken = are.2.second.taken }, tt))
all_taken service why opening (pre ∷ user ∷ other ∷ parts) are = absurd are

-- the bytes of the plan's entry for a child
pub entry_bytes : (role : Role) (plan : List (List ℕ × List ℕ)) (k : ℕ) (entry : List ℕ × List ℕ) → slice_get plan k ≡ Some entry → bytes_at role plan (k + 1) ≡ bytes_for role entry
entry_bytes role plan k entry stands =
    let on : k + 1 ≡ suc k = omega arith in
    ap (bytes_at role plan) on ∙ ap (λ (o : Option (List ℕ × List ℕ)). unwrap_or (option_map (bytes_for role) o) []) stands

pub plan_entry : (n worker k : ℕ) → k < session_count n → slice_get (drill_plan n worker) k ≡ Some (session_bytes n worker k)
plan_entry n worker k lt =
    let within : k < length (drill_plan n worker) = omega (arith, lt, length-map-range_with_len (session_bytes n worker) 0 (session_count n)) in
    slice_get-get_or (drill_plan n worker) k (session_bytes n worker 0) within ∙ ap Some (get_or-map-range_with_len (session_bytes n worker) 0 (session_count n) k k (session_bytes n worker 0) lt (omega arith))

own_part : (service : Service) (n worker k : ℕ) (part : Part) → service.setup.frames ≡ Narrow → worker < 4 → Taken service part → (role : Role) → part.taken ++ part.unread ≡ bytes_for role (session_bytes n worker k) → AreOwn worker (requests_of part)
own_part service n worker k part narrow below taken (roles.Pre session) same =
    let class = class_of n worker k in
    let all = early_requests_by (own_name worker) (current_password n worker k) (right_password n worker k) class in
    let h = said_part service part all (broken_header class) narrow (sent_early (own_name worker) (current_password n worker k) (right_password n worker k) class (is_own_name worker below)) (broken_short class) taken.each taken.taken same in
    own_steps worker all (requests_of part) h.left below (early_names worker (current_password n worker k) (right_password n worker k) class) h.asked
own_part service n worker k part narrow below taken (roles.User session uid name) same =
    let all = user_requests_by (class_of n worker k) in
    let h = said_part service part all [] narrow (sent_user (class_of n worker k)) (lit< tt) taken.each taken.taken (same ∙ sym (append-nil (requests_bytes all))) in
    own_steps worker all (requests_of part) h.left below (user_names worker (class_of n worker k)) h.asked

own_parts : (service : Service) (n worker k : ℕ) (plan : List (List ℕ × List ℕ)) (parts : List Part) → service.setup.frames ≡ Narrow → worker < 4 → slice_get plan k ≡ Some (session_bytes n worker k) → AllByRecursion (Taken service) parts
    → AllByRecursion (λ (part : Part). part.taken ++ part.unread ≡ bytes_at part.role plan (k + 1)) parts → AreOwn worker (flat_map requests_of parts)
own_parts service n worker k plan [] narrow below stands taken planned = tt
own_parts service n worker k plan (part ∷ parts) narrow below stands taken planned =
    All-append (λ (x : Step). IsOwn worker x.place.event) (requests_of part) (flat_map requests_of parts)
    (own_part service n worker k part narrow below taken.0 part.role (planned.0 ∙ entry_bytes part.role plan k (session_bytes n worker k) stands))
    (own_parts service n worker k plan parts narrow below stands taken.1 planned.1)

own_behind : (service : Service) (n worker k : ℕ) (plan : List (List ℕ × List ℕ)) (opening : Step) (parts : List Part) (ending : Option Step) → service.setup.frames ≡ Narrow → worker < 4 → slice_get plan k ≡ Some (session_bytes n worker k) → Follows service opening parts ending
    → AllByRecursion (λ (part : Part). part.taken ++ part.unread ≡ bytes_at part.role plan (k + 1)) parts → AreOwn worker (flat_map requests_of parts ++ option_to_list ending)
own_behind service n worker k plan opening parts None narrow below stands round planned = subst (λ (ps : List Part). AreOwn worker (flat_map requests_of ps ++ [])) (sym round.1) tt
own_behind service n worker k plan opening parts (Some ending) narrow below stands round planned =
    All-append (λ (x : Step). IsOwn worker x.place.event) (flat_map requests_of parts) (ending ∷ [])
    (own_parts service n worker k plan parts narrow below stands (all_taken service round.1.0 opening parts round.1.2) planned)
    (no_challenge worker ending.place.event (λ user. ap (is_challenge_for user) round.1.1.ask), tt)

own_sitting : (service : Service) (n worker k : ℕ) (plan : List (List ℕ × List ℕ)) (sitting : Sitting) → service.setup.frames ≡ Narrow → worker < 4 → slice_get plan k ≡ Some (session_bytes n worker k) → IsSitting service sitting → IsPlanned plan (k + 1) sitting → AreOwn worker (all_steps sitting)
own_sitting service n worker k plan sitting narrow below stands is planned =
    (no_challenge worker sitting.opening.place.event (λ user. ap (is_challenge_for user) is.begins.ask), own_behind service n worker k plan sitting.opening sitting.parts sitting.ending narrow below stands is.round planned)

pub own_sittings : (service : Service) (n worker k : ℕ) (sittings : List Sitting) → service.setup.frames ≡ Narrow → worker < 4 → k + length sittings ≤ session_count n → AllByRecursion (IsSitting service) sittings → ArePlanned (drill_plan n worker) k sittings → AreOwn worker (flat_map all_steps sittings)
own_sittings service n worker k [] narrow below few each planned = tt
own_sittings service n worker k (sitting ∷ sittings) narrow below few each planned =
    All-append (λ (x : Step). IsOwn worker x.place.event) (all_steps sitting) (flat_map all_steps sittings)
    (own_sitting service n worker k (drill_plan n worker) sitting narrow below (plan_entry n worker k (omega (arith, few))) each.0 planned.0)
    (own_sittings service n worker (k + 1) sittings narrow below (omega (arith, few)) each.1 planned.1)

-- ---- the whole journal

abbrev pub OwnPlaces : ℕ → List Place → Type 0
OwnPlaces worker places = AllByRecursion (λ (p : Place). IsOwn worker p.event) places

pub own_places : (worker : ℕ) (steps : List Step) → AreOwn worker steps → OwnPlaces worker (step_places steps)
own_places worker [] all = tt
own_places worker (step ∷ steps) all = (all.0, own_places worker steps all.1)

behind_first : (worker : ℕ) (b : Bool) (p : Place) (places : List Place) → OwnPlaces worker (cond b (p ∷ places) places) → OwnPlaces worker places
behind_first worker true p places all = all.1
behind_first worker false p places all = all

pub all_apart : (events before : List Event) → ((worker : ℕ) → worker < 4 → OwnPlaces worker (worker_places_after worker before events)) → AllByRecursion (λ (e : Event). e.worker < 4) events → AllByRecursion IsApart events
all_apart [] before own below = tt
all_apart (e ∷ events) before own below =
    let mine = own e.worker below.0 in
    let first : OwnPlaces e.worker (place_of before e ∷ worker_places_after e.worker (before ++ e ∷ []) events) =
    subst (λ (b : Bool). OwnPlaces e.worker (cond b (place_of before e ∷ worker_places_after e.worker (before ++ e ∷ []) events) (worker_places_after e.worker (before ++ e ∷ []) events))) (eq-eqb e.worker e.worker refl) mine in (
      record { own = first.0.own },
      all_apart events (before ++ e ∷ []) (λ worker lt. behind_first worker (eqb e.worker worker) (place_of before e) (worker_places_after worker (before ++ e ∷ []) events) (own worker lt)) below.1,
    )
