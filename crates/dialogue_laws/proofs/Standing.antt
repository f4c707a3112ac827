-- Where a session stands in a journal whose events of it are those of a child's dialogue.
use Rattle.std.proofs.Common.{◌≡◌, ℕ, Bool, true, false, ◌&&◌, ◌||◌, cond, eqb, List, [], ◌∷◌, ◌++◌, Option, Some, None}
use Rattle.std.proofs.Common.{refl, sym, ap, subst, ◌∙◌, append-nil, append_assoc, eq-eqb}
use Rattle.std.specs.List.{AllByRecursion}
use Rattle.std.proofs.lemmas.Bool.{eqb-true}
use Rattle.std.proofs.lemmas.List.Sums.{fold_push}
use Rattle.request_catalogue.specs.declared.kind.Kind.{Kind}
use Rattle.request_catalogue.specs.Catalogue.{RequestValue, kind_of as kind_of_request}
use Rattle.request_catalogue.specs.Replies.{AnswerValue}
use Rattle.child_protocol.specs.Exchanges.{Exchange, ends_child, is_challenged, is_permitted}
use Rattle.child_protocol.specs.Phases.{IsAllowed, is_export, is_of, is_reply, phase_by, was_had}
use Rattle.child_protocol.specs.Pre.{pre_next}
use Rattle.child_protocol.specs.User.{user_next}
use Rattle.child_protocol.specs.Says.{Role, Pre, User, exchanges_of, joined, next_request, says, with_answer}
use Rattle.child_protocol.proofs.UserPhaseLemmas.{allowed}
use Rattle.policy_model.specs.declared.event.Event.{Event}
use Rattle.policy_model.specs.declared.phase.Phase.TheVariants as phases
use Rattle.policy_model.specs.Asks.{accepts, exports, is_begin, is_login_step, is_permit, kind_of, opens, permits_kind}
use Rattle.policy_model.specs.declared.event.Ask.{Ask}
use Rattle.policy_model.specs.declared.event.Ask.TheVariants as asks
use Rattle.policy_model.specs.Journal.{events_of, has_event}
use Rattle.policy_model.specs.Phases.{phase_of}
use Rattle.session_laws.specs.Phased.{phase_after}
use Rattle.session_laws.proofs.Opened.{opening}
use Rattle.session_laws.proofs.PhaseLemmas.{phase_of-own, phase_of-pre}
use Rattle.session_laws.proofs.SessionEvents.{has_event-own, is_over-opened, last_event-own}
use Rattle.audit_check.proofs.Recent.{has_recent, phase_recent}
use Rattle.dialogue_laws.specs.Dialogue.{AreExchanged}
use Rattle.dialogue_laws.proofs.Steps.{stepped}

-- ---- what the child went on after

-- it asks nothing more after an answer that ended it
pub went_on : (role : Role) (x : Exchange) (history : List Exchange) (request : RequestValue)
    → next_request role (x ∷ history) ≡ Some request → ends_child x.request x.answer ≡ false
unfolding pre_next user_next
went_on Pre x history request is = by (ends_child x.request x.answer) _ is where
  by : (b : Bool) (o : Option RequestValue) → cond b None o ≡ Some request → b ≡ false
  by true o asked = absurd (let e : None ≡ Some request = asked in cc)
  by false o asked = refl
went_on (User who) x history request is = by (ends_child x.request x.answer) _ is where
  by : (b : Bool) (o : Option RequestValue) → cond b None o ≡ Some request → b ≡ false
  by true o asked = absurd (let e : None ≡ Some request = asked in cc)
  by false o asked = refl

-- the answers of exchanges, in order
abbrev answers_of : List Exchange → List AnswerValue
answers_of [] = []
answers_of (x ∷ history) = answers_of history ++ x.answer ∷ []

-- exchanges each of which is asked next are those of their answers
exchanges_are : (role : Role) (history : List Exchange) (events : List Event) → AreExchanged role history events
    → exchanges_of role (answers_of history) ≡ history
unfolding exchanges_of
exchanges_are role [] events are = refl
exchanges_are role (x ∷ history) events (before, e, same, asked, is, rest) =
    fold_push (with_answer role) [] (answers_of history) x.answer
    ∙ ap (λ h. with_answer role h x.answer) (exchanges_are role history before rest)
    ∙ ap (λ o. joined o history x.answer) asked

-- the phase table allows what is asked next
pub allowed_next : (role : Role) (history : List Exchange) (events : List Event) (request : RequestValue)
    → AreExchanged role history events → next_request role history ≡ Some request → IsAllowed role request history
unfolding says
allowed_next role history events request are asked =
    let same = exchanges_are role history events are in
    subst (IsAllowed role request) same (allowed role (answers_of history) request (ap (next_request role) same ∙ asked))

-- ---- a session's own events

own_all : (session : ℕ) (journal : List Event) → AllByRecursion (λ e. e.session ≡ session) (events_of journal session)
own_all session [] = tt
own_all session (e ∷ journal) = by (eqb e.session session) refl (own_all session journal) where
  by : (b : Bool) → eqb e.session session ≡ b → AllByRecursion (λ x. x.session ≡ session) (events_of journal session)
      → AllByRecursion (λ x. x.session ≡ session) (cond b (e ∷ events_of journal session) (events_of journal session))
  by true is rest = (eqb-true e.session session is, rest)
  by false is rest = rest

own_again : (session : ℕ) (events : List Event) → AllByRecursion (λ e. e.session ≡ session) events
    → events_of events session ≡ events
own_again session [] all = refl
own_again session (e ∷ events) all =
    ap (λ b. cond b (e ∷ events_of events session) (events_of events session)) (eq-eqb e.session session all.0)
    ∙ ap (λ es. e ∷ es) (own_again session events all.1)

-- a session stands by its own events
pub record StandsByOwn (journal : List Event) (session : ℕ) (events : List Event) : Type 0 where
  pub phase : phase_of journal session ≡ phase_of events session
  pub bits : (kind : Kind) → has_event journal session (permits_kind kind) ≡ has_event events session (permits_kind kind)
  pub own : AllByRecursion (λ e. e.session ≡ session) events

pub by_own : (journal : List Event) (session : ℕ) (events : List Event) → events_of journal session ≡ events
    → StandsByOwn journal session events
by_own journal session events are =
    let own = subst (AllByRecursion (λ e. e.session ≡ session)) are (own_all session journal) in
    let same = are ∙ sym (own_again session events own) in
    record {
      phase = phase_recent session journal events same;
      bits = λ kind. has_recent session (permits_kind kind) journal events same;
      own = own;
    }

-- ---- along a dialogue

all_front : {X : Type 0} (P : X → Type 0) (xs ys : List X) → AllByRecursion P (xs ++ ys) → AllByRecursion P xs
all_front P [] ys all = tt
all_front P (x ∷ xs) ys all = (all.0, all_front P xs ys all.1)

all_last : {X : Type 0} (P : X → Type 0) (xs : List X) (x : X) → AllByRecursion P (xs ++ x ∷ []) → P x
all_last P [] x all = all.0
all_last P (y ∷ xs) x all = all_last P xs x all.1

-- a request opens no session
closed_by : (e : Event) (kind : Kind) → kind_of e.ask ≡ Some kind → opens e ≡ false
closed_by e kind is = by e.ask is where
  by : (ask : Ask) → kind_of ask ≡ Some kind → (is_begin ask && is_permit e.decision) ≡ false
  by asks.Begin is = absurd cc
  by ask is = refl

or_swap : (a b : Bool) → (a || b) ≡ (b || a)
or_swap true true = refl
or_swap true false = refl
or_swap false true = refl
or_swap false false = refl

-- where a session stands after its opening
pub record IsOpen (session : ℕ) (events : List Event) : Type 0 where
  pub phase : phase_of events session ≡ phases.Pre
  pub bits : (kind : Kind) → has_event events session (permits_kind kind) ≡ false

pub opened_at : (session : ℕ) (e : Event) → e.session ≡ session → opens e ≡ true → IsOpen session (e ∷ [])
opened_at session e own opened =
    let o = opening e opened in
    subst (λ (s : ℕ). IsOpen s (e ∷ [])) own (record {
      phase = phase_of-pre (e ∷ []) e.session (is_over-opened [] e refl opened o.goes_on)
          (has_event-own [] e e.session exports refl ∙ o.exports_none)
          (has_event-own [] e e.session accepts refl ∙ o.accepts_none)
          (last_event-own [] e e.session is_login_step refl ∙ ap (λ b. cond b (Some e) None) o.no_step);
      bits = λ kind. has_event-own [] e e.session (permits_kind kind) refl ∙ o.permits_none kind;
    })

-- where it stands after the exchanges of its child before the login
pub record StandsEarly (session : ℕ) (events : List Event) (history : List Exchange) : Type 0 where
  pub phase : phase_of events session
      ≡ phase_by (was_had is_export history) (was_had is_reply history) (is_challenged history)
  pub bits : (kind : Kind) → has_event events session (permits_kind kind) ≡ was_had (is_of kind) history

-- the last of them ended no child
abbrev pub GoesOn : List Exchange → Type 0
GoesOn [] = Unit {0}
GoesOn (x ∷ history) = ends_child x.request x.answer ≡ false

pub stands_early : (session : ℕ) (e : Event) (events : List Event) (history : List Exchange) → opens e ≡ true
    → AllByRecursion (λ x. x.session ≡ session) (e ∷ events) → AreExchanged Pre history events → GoesOn history
    → StandsEarly session (e ∷ events) history
stands_early session e events [] opened own are going =
    let o = opened_at session e own.0 opened in
    subst (λ es. StandsEarly session (e ∷ es) []) (sym are) (record { phase = o.phase; bits = o.bits })
stands_early session e events (x ∷ history) opened own (before, last, same, asked, is, rest) going =
    let all = subst (λ es. AllByRecursion (λ y. y.session ≡ session) (e ∷ es)) same own in
    let front : AllByRecursion (λ y. y.session ≡ session) (e ∷ before) =
    (all.0, all_front (λ y. y.session ≡ session) before (last ∷ []) all.1) in
    let its = all_last (λ y. y.session ≡ session) before last all.1 in
    let s = stands_early session e before history opened front rest (ends_none history asked) in
    let closed = closed_by last (kind_of_request x.request) is.kind in
    let step = stepped last x is going in
    subst (λ es. StandsEarly session (e ∷ es) (x ∷ history)) (sym same) (record {
      phase = phase_of-own (e ∷ before) last session its closed ∙ ap (λ p. phase_after p last) s.phase
          ∙ step.phase (was_had is_export history) (was_had is_reply history) (is_challenged history);
      bits = λ kind. has_event-own (e ∷ before) last session (permits_kind kind) its
          ∙ ap (λ b. b || permits_kind kind last) (s.bits kind)
          ∙ ap (λ b. was_had (is_of kind) history || b) (step.bits kind)
          ∙ or_swap (was_had (is_of kind) history) (is_of kind x.request && is_permitted x.answer);
    })
  where
    ends_none : (h : List Exchange) → next_request Pre h ≡ Some x.request → GoesOn h
    ends_none [] asked = tt
    ends_none (y ∷ h) asked = went_on Pre y h x.request asked

-- where it stands after the exchanges of its user's child
pub record StandsLate (session : ℕ) (events : List Event) (history : List Exchange) (had : Kind → Bool) : Type 0 where
  pub phase : phase_of events session ≡ phases.User
  pub bits : (kind : Kind) → has_event events session (permits_kind kind) ≡ (was_had (is_of kind) history || had kind)

pub stands_late : (session : ℕ) (role : Role) (first events : List Event) (history : List Exchange) (had : Kind → Bool)
    → phase_of first session ≡ phases.User → ((kind : Kind) → has_event first session (permits_kind kind) ≡ had kind)
    → AllByRecursion (λ x. x.session ≡ session) (first ++ events) → AreExchanged role history events → GoesOn history
    → StandsLate session (first ++ events) history had
stands_late session role first events [] had phased bits own are going =
    subst (λ es. StandsLate session (first ++ es) [] had) (sym are) (subst (λ es. StandsLate session es [] had)
    (sym (append-nil first)) (record { phase = phased; bits = bits }))
stands_late session role first events (x ∷ history) had phased bits own (before, last, same, asked, is, rest) going =
    let all = subst (AllByRecursion (λ y. y.session ≡ session)) (ap (λ es. first ++ es) same
    ∙ sym (append_assoc first before (last ∷ []))) own in
    let front = all_front (λ y. y.session ≡ session) (first ++ before) (last ∷ []) all in
    let its = all_last (λ y. y.session ≡ session) (first ++ before) last all in
    let s = stands_late session role first before history had phased bits front rest (ends_none history asked) in
    let closed = closed_by last (kind_of_request x.request) is.kind in
    let step = stepped last x is going in
    subst (λ es. StandsLate session es (x ∷ history) had)
    (append_assoc first before (last ∷ []) ∙ ap (λ es. first ++ es) (sym same)) (record {
      phase = phase_of-own (first ++ before) last session its closed ∙ ap (λ p. phase_after p last) s.phase
          ∙ ap (λ b. cond b phases.Over phases.User) step.going;
      bits = λ kind. has_event-own (first ++ before) last session (permits_kind kind) its
          ∙ ap (λ b. b || permits_kind kind last) (s.bits kind)
          ∙ ap (λ b. (was_had (is_of kind) history || had kind) || b) (step.bits kind)
          ∙ turn (was_had (is_of kind) history) (had kind) (is_of kind x.request && is_permitted x.answer);
    })
  where
    turn : (a b c : Bool) → ((a || b) || c) ≡ ((c || a) || b)
    turn true true true = refl
    turn true true false = refl
    turn true false true = refl
    turn true false false = refl
    turn false true true = refl
    turn false true false = refl
    turn false false true = refl
    turn false false false = refl

    ends_none : (h : List Exchange) → next_request role h ≡ Some x.request → GoesOn h
    ends_none [] asked = tt
    ends_none (y ∷ h) asked = went_on role y h x.request asked
