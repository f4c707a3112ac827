-- What one more event makes of a session's phase.
use Rattle.std.proofs.Common.{◌≡◌, ◌≢◌, ℕ, Bool, true, false, ◌||◌, cond, List, [], ◌∷◌, ◌++◌, Option, Some, None, refl, sym, ap, subst, ◌∙◌}
use Rattle.policy_model.specs.declared.event.Event.{Event}
use Rattle.policy_model.specs.declared.phase.Phase.{Phase}
use Rattle.policy_model.specs.declared.phase.Phase.TheVariants.{Pre, Challenged, Verified, User, Over}
use Rattle.policy_model.specs.Asks.{accepts, ends_session, exports, is_login_step, opens, takes}
use Rattle.policy_model.specs.Journal.{has_event, last_event}
use Rattle.policy_model.specs.Phases.{is_over, phase_of}
use Rattle.policy_model.specs.Cases.{is_taking}
use Rattle.session_laws.specs.Judged.{is_over_phase}
use Rattle.session_laws.specs.Phased.{IsPhasedBy, phase_after}
use Rattle.session_laws.proofs.SessionEvents.{has_event-other, has_event-own, is_over-other, is_over-own, last_event-other, last_event-own}

-- the phase by its four tests
abbrev chain : Bool → Bool → Bool → Bool → Phase
chain o u v t = cond o Over (cond u User (cond v Verified (cond t Challenged Pre)))

phase_is : (journal : List Event) (session : ℕ) (o u v t : Bool) → is_over journal session ≡ o → has_event journal session exports ≡ u → has_event journal session accepts ≡ v → is_taking (last_event journal session is_login_step) ≡ t → phase_of journal session ≡ chain o u v t
unfolding phase_of
phase_is journal session o u v t ho hu hv ht =
    ap (λ b. chain b (has_event journal session exports) (has_event journal session accepts) (is_taking (last_event journal session is_login_step))) ho
    ∙ ap (λ b. chain o b (has_event journal session accepts) (is_taking (last_event journal session is_login_step))) hu
    ∙ ap (λ b. chain o u b (is_taking (last_event journal session is_login_step))) hv
    ∙ ap (λ b. chain o u v b) ht

chain_after : (o u v t e x a l k : Bool) → chain (o || e) (u || x) (v || a) (cond l k t) ≡ cond o Over (cond u (cond e Over User) (cond v (cond e Over (cond x User Verified)) (cond e Over (cond x User (cond a Verified (cond l (cond k Challenged Pre) (cond t Challenged Pre)))))))
chain_after true u v t e x a l k = refl
chain_after false true v t true x a l k = refl
chain_after false false true t true x a l k = refl
chain_after false false false t true x a l k = refl
chain_after false true v t false x a l k = refl
chain_after false false true t false true a l k = refl
chain_after false false true t false false a l k = refl
chain_after false false false t false true a l k = refl
chain_after false false false t false false true l k = refl
chain_after false false false t false false false true k = refl
chain_after false false false t false false false false k = refl

chain_split : (o u v t : Bool) (e : Event) → phase_after (chain o u v t) e ≡ cond o Over (cond u (cond (ends_session e) Over User) (cond v (cond (ends_session e) Over (cond (exports e) User Verified)) (cond (ends_session e) Over (cond (exports e) User (cond (accepts e) Verified (cond (is_login_step e) (cond (takes e) Challenged Pre) (cond t Challenged Pre)))))))
chain_split true u v t e = refl
chain_split false true v t e = refl
chain_split false false true t e = refl
chain_split false false false true e = refl
chain_split false false false false e = refl

taking_cond : (b : Bool) (e : Event) (o : Option Event) → is_taking (cond b (Some e) o) ≡ cond b (takes e) (is_taking o)
taking_cond true e o = refl
taking_cond false e o = refl

-- of a session after an event of it that doesn't open it
pub phase_of-own : (journal : List Event) (e : Event) (session : ℕ) → e.session ≡ session → opens e ≡ false → phase_of (journal ++ e ∷ []) session ≡ phase_after (phase_of journal session) e
phase_of-own journal e session own closed =
    let o = is_over journal session in
    let u = has_event journal session exports in
    let v = has_event journal session accepts in
    let t = is_taking (last_event journal session is_login_step) in
    phase_is (journal ++ e ∷ []) session (o || ends_session e) (u || exports e) (v || accepts e) (cond (is_login_step e) (takes e) t)
    (is_over-own journal e session own closed)
    (has_event-own journal e session exports own)
    (has_event-own journal e session accepts own)
    (ap is_taking (last_event-own journal e session is_login_step own) ∙ taking_cond (is_login_step e) e (last_event journal session is_login_step))
    ∙ chain_after o u v t (ends_session e) (exports e) (accepts e) (is_login_step e) (takes e)
    ∙ sym (ap (λ p. phase_after p e) (phase_is journal session o u v t refl refl refl refl) ∙ chain_split o u v t e)

-- of any other session
pub phase_of-other : (journal : List Event) (e : Event) (session : ℕ) → e.session ≢ session → phase_of (journal ++ e ∷ []) session ≡ phase_of journal session
phase_of-other journal e session other =
    let o = is_over journal session in
    let u = has_event journal session exports in
    let v = has_event journal session accepts in
    let t = is_taking (last_event journal session is_login_step) in
    phase_is (journal ++ e ∷ []) session o u v t
    (is_over-other journal e session other)
    (has_event-other journal e session exports other)
    (has_event-other journal e session accepts other)
    (ap is_taking (last_event-other journal e session is_login_step other))
    ∙ sym (phase_is journal session o u v t refl refl refl refl)

pub phased_by : (journal : List Event) (e : Event) → IsPhasedBy journal e
phased_by journal e = record { own = phase_of-own journal e e.session refl; other = phase_of-other journal e }

-- of one that is over
pub phase_of-over : (journal : List Event) (session : ℕ) → is_over journal session ≡ true → phase_of journal session ≡ Over
unfolding phase_of
phase_of-over journal session o = rw o refl

-- of one without an event of its login
pub phase_of-pre : (journal : List Event) (session : ℕ) → is_over journal session ≡ false → has_event journal session exports ≡ false → has_event journal session accepts ≡ false → last_event journal session is_login_step ≡ None → phase_of journal session ≡ Pre
phase_of-pre journal session o u v t = phase_is journal session false false false false o u v (ap is_taking t)

-- what each phase tells of its tests: over, an EXPORT, an accepted reply, the last login step takes
abbrev pub TestsOf : Phase → Bool → Bool → Bool → Bool → Type 0
TestsOf Over o u v t = o ≡ true
TestsOf User o u v t = (o ≡ false) × (u ≡ true)
TestsOf Verified o u v t = (o ≡ false) × ((u ≡ false) × (v ≡ true))
TestsOf Challenged o u v t = (o ≡ false) × ((u ≡ false) × ((v ≡ false) × (t ≡ true)))
TestsOf Pre o u v t = (o ≡ false) × ((u ≡ false) × ((v ≡ false) × (t ≡ false)))

tests_by : (o u v t : Bool) → TestsOf (chain o u v t) o u v t
tests_by true u v t = refl
tests_by false true v t = (refl, refl)
tests_by false false true t = (refl, (refl, refl))
tests_by false false false true = (refl, (refl, (refl, refl)))
tests_by false false false false = (refl, (refl, (refl, refl)))

pub phase_tests : (journal : List Event) (session : ℕ) (phase : Phase) → phase_of journal session ≡ phase → TestsOf phase (is_over journal session) (has_event journal session exports) (has_event journal session accepts) (is_taking (last_event journal session is_login_step))
phase_tests journal session phase h =
    let o = is_over journal session in
    let u = has_event journal session exports in
    let v = has_event journal session accepts in
    let t = is_taking (last_event journal session is_login_step) in
    subst (λ p. TestsOf p o u v t) (sym (phase_is journal session o u v t refl refl refl refl) ∙ h) (tests_by o u v t)

-- a session is over just where its phase is Over
over_by : (o u v t : Bool) → is_over_phase (chain o u v t) ≡ o
over_by true u v t = refl
over_by false true v t = refl
over_by false false true t = refl
over_by false false false true = refl
over_by false false false false = refl

pub over_is : (journal : List Event) (session : ℕ) → is_over_phase (phase_of journal session) ≡ is_over journal session
over_is journal session =
    let o = is_over journal session in
    let u = has_event journal session exports in
    let v = has_event journal session accepts in
    let t = is_taking (last_event journal session is_login_step) in
    ap is_over_phase (phase_is journal session o u v t refl refl refl refl) ∙ over_by o u v t
