-- The law: the phases are the same, and the request that is asked next is no violation.
use Rattle.std.proofs.Common.{◌≡◌, ◌≢◌, ℕ, Bool, true, false, not, ◌&&◌, ◌||◌, cond, eqb, List, [], ◌∷◌, ◌++◌, Some, None}
use Rattle.std.proofs.Common.{refl, sym, ap, subst, ◌∙◌, arith}
use Rattle.std.specs.Prelude.{nat_eq}
use Rattle.std.specs.List.{list_any}
use Rattle.std.proofs.lemmas.Bool.Decides.{nat_tests}
use Rattle.request_catalogue.specs.declared.kind.Kind.{Kind}
use Rattle.request_catalogue.specs.declared.kind.Kind.TheVariants as kinds
use Rattle.request_catalogue.specs.Catalogue.{RequestValue, kind_of as kind_of_request}
use Rattle.request_catalogue.specs.Catalogue as requests
use Rattle.request_catalogue.specs.Replies.{AnswerValue, Done, Denied, Device}
use Rattle.child_protocol.specs.Exchanges.{Exchange, ends_child, is_challenged, is_permitted, underway}
use Rattle.child_protocol.specs.Lines.{Front, More, TooLong, Line}
use Rattle.child_protocol.specs.Commands.{PreCommand, Terminal, User as UserCommand, Respond, Cancel, Quit, Other, pre_command}
use Rattle.child_protocol.specs.Phases.{is_export, is_of, is_reply, phase_by, phase_in, row_allows, was_had}
use Rattle.child_protocol.specs.Pre.{pre_denied, pre_done, pre_first, pre_follows, pre_is_last, pre_next, pre_request, pre_state}
use Rattle.child_protocol.specs.Says.{Role, Pre, User, next_request}
use Rattle.state_export.specs.Spelling.{StateValue}
use Rattle.policy_model.specs.declared.event.Ask.{Ask}
use Rattle.policy_model.specs.declared.event.Ask.TheVariants as asks
use Rattle.policy_model.specs.declared.event.Decision.{Decision}
use Rattle.policy_model.specs.declared.event.Decision.TheVariants.{Permit, Deny}
use Rattle.policy_model.specs.declared.event.Event.{Event}
use Rattle.policy_model.specs.declared.phase.Phase.{Phase}
use Rattle.policy_model.specs.declared.phase.Phase.TheVariants as phases
use Rattle.policy_model.specs.declared.phase.Row.{Row}
use Rattle.policy_model.specs.Asks.{came_by_frame, is_violation, kind_of, permits_kind}
use Rattle.policy_model.specs.Journal.{ask_count, has_event}
use Rattle.policy_model.specs.Phases.{phase_of, table_row}
use Rattle.policy_model.specs.Settings.{Settings}
use Rattle.policy_model.specs.Verdict.{info_verdict, kind_verdict, own_verdict, verdict_of}
use Rattle.policy_model.proofs.Runs.{next_decision}
use Rattle.session_laws.specs.Judged.{cell_decision, is_over_phase, request_decision}
use Rattle.session_laws.proofs.Judging.{cell_is, request_is}
use Rattle.drill_plan.proofs.Decided.{IsMild, mild_challenge, mild_close, mild_open, mild_read, mild_reply, mild_write}
use Rattle.dialogue_laws.specs.Dialogue.{AreExchanged, AsksNext, HasDialogue, HasEarlyDialogue, HasLateDialogue, StandsAlike}
use Rattle.dialogue_laws.proofs.Standing.{GoesOn, allowed_next, by_own, stands_early, stands_late, went_on}

-- ---- the rules of one kind of request are no violations

mild_kind : (setup : Settings) (journal : List Event) (session : ℕ) (ask : Ask)
    → IsMild (kind_verdict setup journal session ask)
unfolding kind_verdict info_verdict
mild_kind setup journal session (asks.Challenge user now) = mild_challenge setup journal session user now
mild_kind setup journal session (asks.Reply words hex) = mild_reply setup journal session words hex
mild_kind setup journal session (asks.ReadAt handle offset max) = mild_read setup journal session handle offset max
mild_kind setup journal session (asks.WriteAt handle offset len) = mild_write setup journal session handle offset len
mild_kind setup journal session (asks.OpenFile mode name) = mild_open setup journal session mode name
mild_kind setup journal session (asks.CloseFile handle) = mild_close setup journal session handle
mild_kind setup journal session (asks.Info number) = by (list_any (nat_eq number) setup.info) _ where
  by : (b : Bool) (value : ℕ) → IsMild (cond b (Permit value) (Deny 22 number))
  by true value = record { unviolated = refl }
  by false value = record { unviolated = refl }
mild_kind setup journal session (asks.Export len) = record { unviolated = refl }
mild_kind setup journal session asks.Begin = record { unviolated = refl }
mild_kind setup journal session asks.Banner = record { unviolated = refl }
mild_kind setup journal session asks.Abandon = record { unviolated = refl }
mild_kind setup journal session asks.Import = record { unviolated = refl }
mild_kind setup journal session (asks.Note text) = record { unviolated = refl }
mild_kind setup journal session asks.Finish = record { unviolated = refl }
mild_kind setup journal session (asks.Bad rule detail) = record { unviolated = refl }
mild_kind setup journal session (asks.End why) = record { unviolated = refl }

-- ---- a request that its phase allows

framed : (ask : Ask) (kind : Kind) → kind_of ask ≡ Some kind → came_by_frame ask ≡ true
framed asks.Begin kind is = absurd cc
framed (asks.Bad rule detail) kind is = absurd cc
framed (asks.End why) kind is = absurd cc
framed ask kind is = refl

unspent : (session requests : ℕ) (phase : Phase) (asked : ℕ) (ask : Ask) (own : Decision) → session ≢ 0
    → is_over_phase phase ≡ false → request_decision requests session phase asked ask own
    ≡ cond (eqb asked requests) (Deny 1 requests) own
unspent session requests phase asked ask own some live =
    let number : eqb session 0 ≡ false = grind (arith, nat_tests) in
    rw (number, live) refl

in_cell : (row : Row) (had : Bool) (ask : Ask) (d : Decision) → row_allows row had ≡ true → cell_decision row had ask d ≡ d
in_cell row had ask d allows = by row.permitted (row.once && had) allows where
  by : (p h : Bool) → (p && not h) ≡ true → cond (not p) (Deny 6 (Rattle.policy_model.specs.Asks.request_number ask)) (cond h (Deny 7 (Rattle.policy_model.specs.Asks.request_number ask)) d) ≡ d
  by true false is = refl
  by true true is = absurd cc
  by false h is = absurd cc

mild_next : (setup : Settings) (journal : List Event) (worker session : ℕ) (request : RequestValue) (e : Event)
    (phase : Phase) → AsksNext setup journal worker session request e → phase_of journal session ≡ phase
    → is_over_phase phase ≡ false
    → row_allows (table_row phase (kind_of_request request)) (has_event journal session (permits_kind
    (kind_of_request request))) ≡ true → is_violation e.decision ≡ true → e.decision ≡ Deny 1 setup.requests
mild_next setup journal worker session request e phase n phased live allows =
    by (eqb (ask_count journal session) setup.requests) decided where
      kind : Kind
      kind = kind_of_request request

      verdict : Decision
      verdict = kind_verdict setup journal session e.ask

      own : own_verdict setup journal session e.ask ≡ verdict
      own = sym (cell_is setup journal session phase (has_event journal session (permits_kind kind)) e.ask kind verdict
          n.kind (sym phased) refl (λ permitted. refl))
          ∙ in_cell (table_row phase kind) (has_event journal session (permits_kind kind)) e.ask verdict allows

      decided : e.decision ≡ cond (eqb (ask_count journal session) setup.requests) (Deny 1 setup.requests) verdict
      decided = next_decision setup journal e n.next n.kept ∙ ap (λ w. verdict_of setup journal w e.ask) n.own
          ∙ sym (request_is setup journal worker session phase (ask_count journal session) e.ask
          (own_verdict setup journal session e.ask) (framed e.ask kind n.kind) (sym n.session_is) (λ some. sym phased)
          (λ some. refl) (λ some going. refl))
          ∙ unspent session setup.requests phase (ask_count journal session) e.ask
          (own_verdict setup journal session e.ask) n.some live
          ∙ ap (cond (eqb (ask_count journal session) setup.requests) (Deny 1 setup.requests)) own

      by : (b : Bool) → e.decision ≡ cond b (Deny 1 setup.requests) verdict → is_violation e.decision ≡ true
          → e.decision ≡ Deny 1 setup.requests
      by true is violates = is
      by false is violates = absurd (let no : false ≡ true = sym (mild_kind setup journal session e.ask).unviolated
          ∙ sym (ap is_violation is) ∙ violates in cc)

-- ---- the child before the login asks for no import

abbrev imports : RequestValue → Bool
imports request = is_of kinds.Import request

command_none : (command : PreCommand) (challenged : Bool) → imports (pre_request command challenged) ≡ false
command_none (Terminal text) challenged = refl
command_none (UserCommand name) true = refl
command_none (UserCommand name) false = refl
command_none (Respond text) true = refl
command_none (Respond text) false = refl
command_none Cancel true = refl
command_none Cancel false = refl
command_none Quit challenged = refl
command_none Other challenged = refl

first_none : (front : Front) (challenged : Bool) → imports (pre_first front challenged) ≡ false
first_none More challenged = refl
first_none TooLong challenged = refl
first_none (Line text) challenged = command_none (pre_command text) challenged

done_none : (request : RequestValue) (body : List ℕ) (last : Bool) (next : RequestValue) (state : StateValue)
    → imports next ≡ false → imports (pre_done request body last next state) ≡ false
done_none requests.Banner body last next state none = refl
done_none (requests.WriteAt handle offset bytes) body true next state none = refl
done_none (requests.WriteAt handle offset bytes) body false next state none = none
done_none (requests.ReadAt handle offset max) [] last next state none = refl
done_none (requests.ReadAt handle offset max) (c ∷ body) last next state none = none
done_none (requests.Challenge user) body last next state none = refl
done_none (requests.Reply text) body last next state none = refl
done_none requests.Abandon body last next state none = refl
done_none (requests.Export exported) body last next state none = refl
done_none requests.Import body last next state none = refl
done_none (requests.OpenFile mode name) body last next state none = refl
done_none (requests.CloseFile handle) body last next state none = refl
done_none (requests.Info number) body last next state none = refl
done_none (requests.Note text) body last next state none = refl
done_none requests.Finish body last next state none = refl

denied_none : (request : RequestValue) (rule : ℕ) → imports (pre_denied request rule) ≡ false
denied_none requests.Banner rule = refl
denied_none (requests.WriteAt handle offset bytes) rule = refl
denied_none (requests.ReadAt handle offset max) rule = refl
denied_none (requests.Challenge user) rule = refl
denied_none (requests.Reply text) rule = refl
denied_none requests.Abandon rule = refl
denied_none (requests.Export exported) rule = refl
denied_none requests.Import rule = refl
denied_none (requests.OpenFile mode name) rule = refl
denied_none (requests.CloseFile handle) rule = refl
denied_none (requests.Info number) rule = refl
denied_none (requests.Note text) rule = refl
denied_none requests.Finish rule = refl

follows_none : (request : RequestValue) (answer : AnswerValue) (last : Bool) (next : RequestValue) (state : StateValue)
    → imports next ≡ false → imports (pre_follows request answer last next state) ≡ false
follows_none request (Done body) last next state none = done_none request body last next state none
follows_none request (Denied rule detail) last next state none = denied_none request rule
follows_none request (Device device) last next state none = refl

next_none : (history : List Exchange) (request : RequestValue) → pre_next history ≡ Some request
    → imports request ≡ false
unfolding pre_next
next_none [] request is = let same : requests.Banner ≡ request = (let e : Some requests.Banner ≡ Some request = is in cc) in
    ap imports (sym same)
next_none (x ∷ before) request is = by (ends_child x.request x.answer) _ (follows_none x.request x.answer
    (pre_is_last (underway before)) (pre_first (underway (x ∷ before)) (is_challenged (x ∷ before)))
    (pre_state (x ∷ before)) (first_none (underway (x ∷ before)) (is_challenged (x ∷ before)))) is where
      by : (b : Bool) (next : RequestValue) → imports next ≡ false → cond b None (Some next) ≡ Some request
          → imports request ≡ false
      by true next none is = absurd (let no : None ≡ Some request = is in cc)
      by false next none is = let same : next ≡ request = (let e : Some next ≡ Some request = is in cc) in
          subst (λ r. imports r ≡ false) same none

had_none : (history : List Exchange) (events : List Event) → AreExchanged Pre history events
    → was_had (is_of kinds.Import) history ≡ false
had_none [] events are = refl
had_none (x ∷ history) events (before, e, same, asked, is, rest) =
    ap (λ b. (b && is_permitted x.answer) || was_had (is_of kinds.Import) history) (next_none history x.request asked)
    ∙ had_none history before rest

-- ---- the law

goes_on : (role : Role) (history : List Exchange) (request : RequestValue) → next_request role history ≡ Some request
    → GoesOn history
goes_on role [] request asked = tt
goes_on role (x ∷ history) request asked = went_on role x history request asked

live_by : (a b c : Bool) → is_over_phase (phase_by a b c) ≡ false
live_by true b c = refl
live_by false true c = refl
live_by false false true = refl
live_by false false false = refl

early_law : (setup : Settings) (journal : List Event) (worker session : ℕ) (history : List Exchange)
    → HasEarlyDialogue journal session history → (request : RequestValue) → next_request Pre history ≡ Some request
    → (e : Event) → AsksNext setup journal worker session request e → StandsAlike setup journal session Pre history e
early_law setup journal worker session history d request asked e n =
    let own = by_own journal session (d.opening ∷ d.events) d.are in
    let s = stands_early session d.opening d.events history d.opened own.own d.early (goes_on Pre history request asked) in
    let phased = own.phase ∙ s.phase in
    let kind = kind_of_request request in
    let allows : row_allows (table_row (phase_in Pre history) kind) (has_event journal session (permits_kind kind)) ≡ true =
    ap (row_allows (table_row (phase_in Pre history) kind)) (own.bits kind ∙ s.bits kind)
    ∙ allowed_next Pre history d.events request d.early asked in
    record {
      phase = phased;
      mild = mild_next setup journal worker session request e (phase_in Pre history) n phased
          (live_by (was_had is_export history) (was_had is_reply history) (is_challenged history)) allows;
    }

-- of the user's child one kind of request is permitted once
once_user : (kind : Kind) (late early : Bool) → (kind ≡ kinds.Import → early ≡ false)
    → row_allows (table_row phases.User kind) late ≡ true → row_allows (table_row phases.User kind) (late || early) ≡ true
once_user kinds.Import late early none is = ap (λ b. true && not (true && (late || b))) (none refl)
    ∙ ap (λ b. true && not (true && b)) (Rattle.std.proofs.Math.Bool.or-false late) ∙ is
once_user kinds.Banner late early none is = is
once_user kinds.Challenge late early none is = is
once_user kinds.Reply late early none is = is
once_user kinds.Abandon late early none is = is
once_user kinds.Export late early none is = is
once_user kinds.ReadAt late early none is = is
once_user kinds.WriteAt late early none is = is
once_user kinds.OpenFile late early none is = is
once_user kinds.CloseFile late early none is = is
once_user kinds.Info late early none is = is
once_user kinds.Note late early none is = is
once_user kinds.Finish late early none is = is

late_law : (setup : Settings) (journal : List Event) (worker session : ℕ) (role : Role) (history : List Exchange)
    → phase_in role history ≡ phases.User → HasLateDialogue journal session role history → (request : RequestValue)
    → next_request role history ≡ Some request → (e : Event) → AsksNext setup journal worker session request e
    → StandsAlike setup journal session role history e
late_law setup journal worker session role history user d request asked e n =
    let own = by_own journal session (d.opening ∷ (d.first ++ d.second)) d.are in
    let front = front_own d.opening d.first d.second own.own in
    let going : GoesOn (d.exchange ∷ d.earlier) = left d.exchange d.left d.permitted in
    let s = stands_early session d.opening d.first (d.exchange ∷ d.earlier) d.opened front d.early going in
    let exported : phase_of (d.opening ∷ d.first) session ≡ phases.User = s.phase
    ∙ ap (λ b. phase_by (b || was_had is_export d.earlier) (was_had is_reply (d.exchange ∷ d.earlier)) (is_challenged (d.exchange ∷ d.earlier)))
    (ap (λ b. b && is_permitted d.exchange.answer) d.left ∙ d.permitted) in
    let l = stands_late session role (d.opening ∷ d.first) d.second history
    (λ kind. was_had (is_of kind) (d.exchange ∷ d.earlier)) exported s.bits own.own d.late
    (goes_on role history request asked) in
    let phased = own.phase ∙ l.phase in
    let kind = kind_of_request request in
    let table : row_allows (table_row phases.User kind) (was_had (is_of kind) history) ≡ true =
    ap (λ p. row_allows (table_row p kind) (was_had (is_of kind) history)) (sym user)
    ∙ allowed_next role history d.second request d.late asked in
    let allows : row_allows (table_row phases.User kind) (has_event journal session (permits_kind kind)) ≡ true =
    ap (row_allows (table_row phases.User kind)) (own.bits kind ∙ l.bits kind)
    ∙ once_user kind (was_had (is_of kind) history) (was_had (is_of kind) (d.exchange ∷ d.earlier))
    (λ same. ap (λ k. was_had (is_of k) (d.exchange ∷ d.earlier)) same ∙ had_none (d.exchange ∷ d.earlier) d.first d.early) table in
    record {
      phase = phased ∙ sym user;
      mild = mild_next setup journal worker session request e phases.User n phased refl allows;
    }
  where
    front_own : (o : Event) (xs ys : List Event)
        → Rattle.std.specs.List.AllByRecursion (λ x. x.session ≡ session) (o ∷ (xs ++ ys))
        → Rattle.std.specs.List.AllByRecursion (λ x. x.session ≡ session) (o ∷ xs)
    front_own o [] ys all = (all.0, tt)
    front_own o (x ∷ xs) ys all = (all.0, front_own x xs ys all.1)

    left : (x : Exchange) → is_export x.request ≡ true → is_permitted x.answer ≡ true
        → ends_child x.request x.answer ≡ false
    left x export permitted = by x.request x.answer export permitted where
      by : (r : RequestValue) (a : AnswerValue) → is_export r ≡ true → is_permitted a ≡ true → ends_child r a ≡ false
      by (requests.Export state) (Done body) export permitted = refl
      by (requests.Export state) (Device device) export permitted = refl
      by (requests.Export state) (Denied rule detail) export permitted = absurd cc
      by r a export permitted = absurd cc

pub no_violation : (setup : Settings) (journal : List Event) (worker session : ℕ) (role : Role)
    (history : List Exchange) → HasDialogue journal session role history → (request : RequestValue)
    → next_request role history ≡ Some request → (e : Event) → AsksNext setup journal worker session request e
    → StandsAlike setup journal session role history e
no_violation setup journal worker session Pre history d = early_law setup journal worker session history d
no_violation setup journal worker session (User who) history d = late_law setup journal worker session (User who) history refl d
