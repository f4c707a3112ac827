-- What each request of a login makes of its session.
use Rattle.std.proofs.Common.{◌≡◌, ◌≢◌, ℕ, ◌+◌, Bool, true, false, ◌||◌, cond, nat_lt, List, [], ◌∷◌, ◌++◌, Option}
use Rattle.std.proofs.Common.{Some, refl, sym, ap, subst, ◌∙◌, arith}
use Rattle.std.specs.Option.{option_to_list}
use Rattle.std.proofs.Math.Bool.{or-false}
use Rattle.std.proofs.lemmas.Bool.{and_from}
use Rattle.std.proofs.lemmas.List.{append-nil}
use Rattle.request_catalogue.specs.declared.kind.Kind.TheVariants as kinds
use Rattle.request_catalogue.specs.declared.texts.Name.{Name}
use Rattle.policy_model.specs.declared.account.Account.{Account}
use Rattle.policy_model.specs.declared.event.Ask.{Ask}
use Rattle.policy_model.specs.declared.event.Ask.TheVariants as asks
use Rattle.policy_model.specs.declared.event.Decision.{Decision}
use Rattle.policy_model.specs.declared.event.Decision.TheVariants.{Permit}
use Rattle.policy_model.specs.declared.event.Event.{Event}
use Rattle.policy_model.specs.declared.phase.Phase.{Phase}
use Rattle.policy_model.specs.declared.phase.Phase.TheVariants.{Pre, Challenged, Verified, User, Over}
use Rattle.policy_model.specs.declared.reading.TheConstants.{DECOYS_FROM}
use Rattle.policy_model.specs.Asks.{accepts, came_by_frame, closes_file, ends_session, exports, is_denied_reply}
use Rattle.policy_model.specs.Asks.{is_login_step, leaves, opens_file, permits_kind, takes, takes_user, value_of}
use Rattle.policy_model.specs.Legal.{IsLegal, IsNext}
use Rattle.policy_model.specs.Logins.{account_of, challenged_user, is_live, replies_of, verified_user}
use Rattle.policy_model.specs.Phases.{is_over}
use Rattle.policy_model.specs.Settings.{IsInRange, Settings}
use Rattle.policy_model.proofs.LoginLemmas.{replies_of-push}
use Rattle.session_laws.specs.Judged.{is_over_phase}
use Rattle.session_laws.specs.Phased.{phase_after}
use Rattle.session_laws.proofs.Holders.{holder_of-taken}
use Rattle.session_laws.proofs.Permits.{same_name-same}
use Rattle.session_laws.proofs.Permitted.{reserves_from}
use Rattle.session_laws.proofs.PhaseLemmas.{over_is}
use Rattle.session_laws.proofs.Settling.{live_reserves, unaccepted}
use Rattle.session_laws.proofs.UserLemmas.{verified_user-own, verified_user-other}
use Rattle.login_laws.specs.Login.{ComesAfter, ComesWithinHold, RepliesWithinHold, is_talk}
use Rattle.login_laws.proofs.Held.{Holds, others_leave, own_leaves}
use Rattle.login_laws.proofs.Judged.{talk_by_frame}
use Rattle.login_laws.proofs.Walk.{At, Comes, State, goes_on, not_own, own_session, stays}

-- an event with its ask and its decision
abbrev pub event_as : Event → Ask → Decision → Event
event_as e ask d = record { worker = e.worker; session = e.session; ask = ask; decision = d }

pub spelled : (e : Event) (ask : Ask) (d : Decision) → e.ask ≡ ask → e.decision ≡ d → e ≡ event_as e ask d
spelled e ask d is decided = ap (λ (a : Ask). event_as e a e.decision) is ∙ ap (event_as e ask) decided

-- ---- talk

-- an event that touches no login
pub record IsQuiet (e : Event) : Type 0 where
  pub goes_on : ends_session e ≡ false
  pub exports_none : exports e ≡ false
  pub accepts_none : accepts e ≡ false
  pub takes_none : takes e ≡ false
  pub no_step : is_login_step e ≡ false
  pub leaves_none : leaves e ≡ false
  pub denies_none : is_denied_reply e ≡ false
  pub greets_none : permits_kind kinds.Banner e ≡ false
  pub imports_none : permits_kind kinds.Import e ≡ false
  pub takes_nobody : (user : Name) → takes_user user e ≡ false
  pub opens_none : opens_file e ≡ false
  pub closes_none : (handle : ℕ) → closes_file handle e ≡ false

quiet_by : (e : Event) (ask : Ask) → is_talk ask ≡ true → IsQuiet (event_as e ask (Permit 0))
quiet_by e (asks.ReadAt handle offset max) is =
    record {
      goes_on = refl;
      exports_none = refl;
      accepts_none = refl;
      takes_none = refl;
      no_step = refl;
      leaves_none =
          refl;
      denies_none = refl;
      greets_none = refl;
      imports_none = refl;
      takes_nobody = λ user. refl;
      opens_none = refl;
      closes_none = λ handle. refl;
    }
quiet_by e (asks.WriteAt handle offset len) is =
    record {
      goes_on = refl;
      exports_none = refl;
      accepts_none = refl;
      takes_none = refl;
      no_step = refl;
      leaves_none =
          refl;
      denies_none = refl;
      greets_none = refl;
      imports_none = refl;
      takes_nobody = λ user. refl;
      opens_none = refl;
      closes_none = λ handle. refl;
    }
quiet_by e (asks.Note text) is =
    record {
      goes_on = refl;
      exports_none = refl;
      accepts_none = refl;
      takes_none = refl;
      no_step = refl;
      leaves_none =
          refl;
      denies_none = refl;
      greets_none = refl;
      imports_none = refl;
      takes_nobody = λ user. refl;
      opens_none = refl;
      closes_none = λ handle. refl;
    }
quiet_by e _ is = absurd cc

pub quiet : (e : Event) → is_talk e.ask ≡ true → e.decision ≡ Permit 0 → IsQuiet e
quiet e is permit = subst IsQuiet (sym (spelled e e.ask (Permit 0) refl permit)) (quiet_by e e.ask is)

phase_stays : (phase : Phase) (e : Event) → IsQuiet e → phase_after phase e ≡ phase
phase_stays Over e q = refl
phase_stays User e q = let ends = q.goes_on in rw ends refl
phase_stays Verified e q = let ends = q.goes_on in let exported = q.exports_none in rw (ends, exported) refl
phase_stays Challenged e q =
    let ends = q.goes_on in let exported = q.exports_none in let silent = q.accepts_none in let step = q.no_step in rw
    (ends, exported, silent, step) refl
phase_stays Pre e q =
    let ends = q.goes_on in let exported = q.exports_none in let silent = q.accepts_none in let step = q.no_step in rw
    (ends, exported, silent, step) refl

-- so many asks more
abbrev pub more : ℕ → State → State
more n s = record s { asked = s.asked + n }

module _ (setup : Settings) (journal : List Event) (worker session : ℕ) where
  -- after talk the session stands as before, with one ask more
  pub talk_on : (s : State) (before : List Event) (e : Event) → At setup worker session s before
      → Comes setup journal before e → e.worker ≡ worker → is_talk e.ask ≡ true → IsQuiet e
      → At setup worker session (more 1 s) (before ++ e ∷ [])
  talk_on s before e at comes own talk q =
      let on = goes_on setup journal worker session s before e at comes own (talk_by_frame e.ask talk) in
      record {
        legal = on.legal;
        opened = on.opened;
        some = on.some;
        phased = on.phased ∙ phase_stays s.phase e q;
        counted = on.counted;
        tries = on.tries ∙ ap (λ b. s.tried + cond b 1 0) q.denies_none ∙ omega arith;
        greeted = on.greeted ∙ ap (λ b. s.greeted || b) q.greets_none ∙ or-false s.greeted;
        imported = on.imported ∙ ap (λ b. s.imported || b) q.imports_none ∙ or-false s.imported;
      }

  -- what else is known of the session, which neither others nor talk change
  pub record Lasts (Q : List Event → Type 0) : Type 0 where
    pub others : (s : State) (before : List Event) (e : Event) → At setup worker session s before
        → Comes setup journal before e → e.worker ≢ worker → Q before → Q (before ++ e ∷ [])
    pub quiet : (before : List Event) (e : Event) → IsLegal setup before → IsNext setup before e → e.session ≡ session
        → IsQuiet e → Q before → Q (before ++ e ∷ [])

  -- the session stands so, and that is known of it
  pub record Stage (s : State) (Q : List Event → Type 0) (before : List Event) : Type 0 where
    pub at : At setup worker session s before
    pub known : Q before

  pub others_stay : (s : State) (Q : List Event → Type 0) → Lasts Q → (before : List Event) (e : Event)
      → Comes setup journal before e → e.worker ≢ worker → Stage s Q before → Stage s Q (before ++ e ∷ [])
  others_stay s Q lasts before e comes other stage =
      record {
        at = stays setup journal worker session s before e comes other stage.at;
        known = lasts.others s before e
            stage.at comes other stage.known;
      }

  -- nothing more is known
  pub nothing : Lasts (λ before. Unit {0})
  nothing = record { others = λ s before e at comes other known. tt; quiet = λ before e legal next own q known. tt }

  -- the session holds a user, from when on this holds
  pub holding_from : (P : List Event → Type 0) → ((before : List Event) (e : Event) → P before → P (before ++ e ∷ []))
      → (user : Name) (replies : List ℕ)
      → ((before : List Event) (e : Event) → ComesAfter journal before e → P before
      → ComesWithinHold setup before session user e)
      → Lasts (λ before. Holds session user replies before × P before)
  holding_from P later user replies hold = record {
    others = λ s before e at comes other known. (
      others_leave setup journal session user replies before e (hold before e comes.stands known.1) at.legal comes
          (not_own setup journal worker session s before e at comes other) known.0,
      later before e known.1,
    );
    quiet = λ before e legal next own q known. (
      own_leaves setup session user replies before e legal next (q.takes_nobody user) q.accepts_none q.leaves_none
          known.0,
      later before e known.1,
    );
  }

  -- the session holds a user
  pub holding : (user : Name) (replies : List ℕ) → RepliesWithinHold setup journal session user
      → Lasts (Holds session user replies)
  holding user replies hold = record {
    others = λ s before e at comes other held. others_leave setup journal session user replies before e
        (hold.within before e comes.stands) at.legal comes
        (not_own setup journal worker session s before e at comes other) held;
    quiet = λ before e legal next own q held. own_leaves setup session user replies before e legal next
        (q.takes_nobody user) q.accepts_none q.leaves_none held;
  }

  -- it is logged in
  pub record IsLogged (user : Name) (before : List Event) : Type 0 where
    pub verified : verified_user before session ≡ Some user

  pub logged : (user : Name) → Lasts (IsLogged user)
  logged user = record {
    others = λ s before e at comes other known. record {
      verified = verified_user-other before e session
          (not_own setup journal worker session s before e at comes other) ∙ known.verified;
    };
    quiet = λ before e legal next own q known. record {
      verified = verified_user-own before e session own
          ∙ ap (λ b. cond b (challenged_user before session) (verified_user before session)) q.accepts_none
          ∙ known.verified;
    };
  }

  -- ---- the steps of the login

  pub banner_on : (s : State) (before : List Event) (e : Event) → At setup worker session s before
      → Comes setup journal before e → e.worker ≡ worker → s.phase ≡ Pre → e.ask ≡ asks.Banner → e.decision ≡ Permit 0
      → At setup worker session (record s { asked = s.asked + 1; greeted = true }) (before ++ e ∷ [])
  banner_on s before e at comes own pre is permit =
      let on = goes_on setup journal worker session s before e at comes own (ap came_by_frame is) in
      let all = subst (λ (x : Event). (phase_after Pre x ≡ Pre) × (is_denied_reply x ≡ false)
      × (permits_kind kinds.Banner x ≡ true) × (permits_kind kinds.Import x ≡ false))
      (sym (spelled e asks.Banner (Permit 0) is permit)) (refl, refl, refl, refl) in
      record {
        legal = on.legal;
        opened = on.opened;
        some = on.some;
        phased = on.phased ∙ ap (λ p. phase_after p e) pre ∙ all.0 ∙ sym pre;
        counted = on.counted;
        tries = on.tries ∙ ap (λ b. s.tried + cond b 1 0) all.1 ∙ omega arith;
        greeted = on.greeted ∙ ap (λ b. s.greeted || b) all.2 ∙ or_true s.greeted;
        imported = on.imported ∙ ap (λ b. s.imported || b) all.3 ∙ or-false s.imported;
      } where
        or_true : (b : Bool) → (b || true) ≡ true
        or_true true = refl
        or_true false = refl

  -- after its challenge the session holds the user
  pub record IsTaken (s : State) (user : Name) (value : ℕ) (before : List Event) (e : Event) : Type 0 where
    pub low : nat_lt value DECOYS_FROM ≡ true
    pub at : At setup worker session (record s { phase = Challenged; asked = s.asked + 1 }) (before ++ e ∷ [])
    pub holds : Holds session user (replies_of before user) (before ++ e ∷ [])

  pub challenge_on : (s : State) (before : List Event) (e : Event) (user : Name) (now value : ℕ) (account : Account)
      → IsInRange setup → At setup worker session s before → Comes setup journal before e → e.worker ≡ worker
      → s.phase ≡ Pre → e.ask ≡ asks.Challenge user now → e.decision ≡ Permit value
      → account_of setup user ≡ Some account → is_live before account ≡ true
      → IsTaken s user value before e
  challenge_on s before e user now value account range at comes own pre is permit found live =
      let request : came_by_frame e.ask ≡ true = ap came_by_frame is in
      let on = goes_on setup journal worker session s before e at comes own request in
      let its = own_session setup journal worker session s before e at comes own request in
      let all = subst (λ (x : Event). (phase_after Pre x ≡ Challenged) × (is_denied_reply x ≡ false)
      × (permits_kind kinds.Banner x ≡ false) × (permits_kind kinds.Import x ≡ false) × (accepts x ≡ false))
      (sym (spelled e (asks.Challenge user now) (Permit value) is permit)) (refl, refl, refl, refl, refl) in
      let taken = subst (λ (x : Event). takes_user user x ≡ true)
      (sym (spelled e (asks.Challenge user now) (Permit value) is permit)) (and_from _ _ (same_name-same user) refl) in
      let reserved = live_reserves setup before e user account range comes.next taken found live in
      let going : is_over before e.session ≡ false = ap (is_over before) its ∙ sym (over_is before session)
      ∙ ap is_over_phase (at.phased ∙ pre) in
      record {
        low = ap (λ (d : Decision). nat_lt (value_of d) DECOYS_FROM) (sym permit) ∙ (reserves_from user e reserved).1;
        at = record {
          legal = on.legal;
          opened = on.opened;
          some = on.some;
          phased = on.phased ∙ ap (λ p. phase_after p e) pre ∙ all.0;
          counted = on.counted;
          tries = on.tries ∙ ap (λ b. s.tried + cond b 1 0) all.1 ∙ omega arith;
          greeted = on.greeted ∙ ap (λ b. s.greeted || b) all.2 ∙ or-false s.greeted;
          imported = on.imported ∙ ap (λ b. s.imported || b) all.3 ∙ or-false s.imported;
        };
        holds = record {
          holder = holder_of-taken before e user reserved going ∙ ap (λ n. Some n) its;
          accepted = replies_of-push user before e ∙ ap (λ o. replies_of before user ++ option_to_list o)
              (unaccepted before e user all.4) ∙ append-nil (replies_of before user);
        };
      }

  -- after its accepted reply it is logged in
  pub record IsAccepted (s : State) (user : Name) (before : List Event) (e : Event) : Type 0 where
    pub at : At setup worker session (record s { phase = Verified; asked = s.asked + 1 }) (before ++ e ∷ [])
    pub logged : IsLogged user (before ++ e ∷ [])
    pub accepts : accepts e ≡ true

  pub reply_on : (s : State) (before : List Event) (e : Event) (user : Name) (words hex : Option ℕ) (value : ℕ)
      → At setup worker session s before → Comes setup journal before e → e.worker ≡ worker → s.phase ≡ Challenged
      → e.ask ≡ asks.Reply words hex → e.decision ≡ Permit value → challenged_user before session ≡ Some user
      → IsAccepted s user before e
  reply_on s before e user words hex value at comes own phase is permit challenged =
      let request : came_by_frame e.ask ≡ true = ap came_by_frame is in
      let on = goes_on setup journal worker session s before e at comes own request in
      let its = own_session setup journal worker session s before e at comes own request in
      let all = subst (λ (x : Event). (phase_after Challenged x ≡ Verified) × (is_denied_reply x ≡ false)
      × (permits_kind kinds.Banner x ≡ false) × (permits_kind kinds.Import x ≡ false) × (accepts x ≡ true))
      (sym (spelled e (asks.Reply words hex) (Permit value) is permit)) (refl, refl, refl, refl, refl) in
      record {
        at = record {
          legal = on.legal;
          opened = on.opened;
          some = on.some;
          phased = on.phased ∙ ap (λ p. phase_after p e) phase ∙ all.0;
          counted = on.counted;
          tries = on.tries ∙ ap (λ b. s.tried + cond b 1 0) all.1 ∙ omega arith;
          greeted = on.greeted ∙ ap (λ b. s.greeted || b) all.2 ∙ or-false s.greeted;
          imported = on.imported ∙ ap (λ b. s.imported || b) all.3 ∙ or-false s.imported;
        };
        logged = record {
          verified = verified_user-own before e session its
              ∙ ap (λ b. cond b (challenged_user before session) (verified_user before session)) all.4 ∙ challenged;
        };
        accepts = all.4;
      }

  -- after its export the user's child runs
  pub record IsExported (s : State) (user : Name) (before : List Event) (e : Event) : Type 0 where
    pub at : At setup worker session (record s { phase = User; asked = s.asked + 1 }) (before ++ e ∷ [])
    pub logged : IsLogged user (before ++ e ∷ [])
    pub exports : exports e ≡ true

  pub export_on : (s : State) (before : List Event) (e : Event) (user : Name) (len value : ℕ)
      → At setup worker session s before → Comes setup journal before e → e.worker ≡ worker → s.phase ≡ Verified
      → e.ask ≡ asks.Export len → e.decision ≡ Permit value → IsLogged user before → IsExported s user before e
  export_on s before e user len value at comes own phase is permit known =
      let request : came_by_frame e.ask ≡ true = ap came_by_frame is in
      let on = goes_on setup journal worker session s before e at comes own request in
      let its = own_session setup journal worker session s before e at comes own request in
      let all = subst (λ (x : Event). (phase_after Verified x ≡ User) × (is_denied_reply x ≡ false)
      × (permits_kind kinds.Banner x ≡ false) × (permits_kind kinds.Import x ≡ false) × (accepts x ≡ false)
      × (exports x ≡ true)) (sym (spelled e (asks.Export len) (Permit value) is permit))
      (refl, refl, refl, refl, refl, refl) in
      record {
        at = record {
          legal = on.legal;
          opened = on.opened;
          some = on.some;
          phased = on.phased ∙ ap (λ p. phase_after p e) phase ∙ all.0;
          counted = on.counted;
          tries = on.tries ∙ ap (λ b. s.tried + cond b 1 0) all.1 ∙ omega arith;
          greeted = on.greeted ∙ ap (λ b. s.greeted || b) all.2 ∙ or-false s.greeted;
          imported = on.imported ∙ ap (λ b. s.imported || b) all.3 ∙ or-false s.imported;
        };
        logged = record {
          verified = verified_user-own before e session its
              ∙ ap (λ b. cond b (challenged_user before session) (verified_user before session)) all.4 ∙ known.verified;
        };
        exports = all.5;
      }

  -- and after an import it goes on
  pub record IsImported (s : State) (user : Name) (before : List Event) (e : Event) : Type 0 where
    pub at : At setup worker session (record s { asked = s.asked + 1; imported = true }) (before ++ e ∷ [])
    pub logged : IsLogged user (before ++ e ∷ [])

  pub import_on : (s : State) (before : List Event) (e : Event) (user : Name) → At setup worker session s before
      → Comes setup journal before e → e.worker ≡ worker → s.phase ≡ User → e.ask ≡ asks.Import → e.decision ≡ Permit 0
      → IsLogged user before → IsImported s user before e
  import_on s before e user at comes own phase is permit known =
      let request : came_by_frame e.ask ≡ true = ap came_by_frame is in
      let on = goes_on setup journal worker session s before e at comes own request in
      let its = own_session setup journal worker session s before e at comes own request in
      let all = subst (λ (x : Event). (phase_after User x ≡ User) × (is_denied_reply x ≡ false)
      × (permits_kind kinds.Banner x ≡ false) × (permits_kind kinds.Import x ≡ true) × (accepts x ≡ false))
      (sym (spelled e asks.Import (Permit 0) is permit)) (refl, refl, refl, refl, refl) in
      record {
        at = record {
          legal = on.legal;
          opened = on.opened;
          some = on.some;
          phased = on.phased ∙ ap (λ p. phase_after p e) phase ∙ all.0 ∙ sym phase;
          counted = on.counted;
          tries = on.tries ∙ ap (λ b. s.tried + cond b 1 0) all.1 ∙ omega arith;
          greeted = on.greeted ∙ ap (λ b. s.greeted || b) all.2 ∙ or-false s.greeted;
          imported = on.imported ∙ ap (λ b. s.imported || b) all.3 ∙ or_true s.imported;
        };
        logged = record {
          verified = verified_user-own before e session its
              ∙ ap (λ b. cond b (challenged_user before session) (verified_user before session)) all.4 ∙ known.verified;
        };
      } where
        or_true : (b : Bool) → (b || true) ≡ true
        or_true true = refl
        or_true false = refl
