-- What is decided of the files of a session that is logged in, and what it makes of them.
use Rattle.std.proofs.Common.{◌≡◌, ℕ, ◌<◌, Bool, true, false, not, cond, eqb, nat_le, List, [], ◌∷◌, ◌++◌}
use Rattle.std.proofs.Common.{length, Option, Some, None, refl, sym, ap, subst, ◌∙◌, eq-eqb, filter}
use Rattle.std.specs.Prelude.{◌==◌, ◌||◌, is_none, unwrap_or}
use Rattle.std.specs.List.{find}
use Rattle.std.specs.Option.{option_map_or}
use Rattle.std.proofs.lemmas.Bool.{and_from}
use Rattle.request_catalogue.specs.declared.kind.Kind.TheVariants as kinds
use Rattle.request_catalogue.specs.declared.texts.Label.{Label}
use Rattle.request_catalogue.specs.declared.texts.Name.{Name}
use Rattle.policy_model.specs.declared.account.Account.{Account}
use Rattle.policy_model.specs.declared.account.Grant.{Grant}
use Rattle.policy_model.specs.declared.event.Ask.TheVariants as asks
use Rattle.policy_model.specs.declared.event.Decision.{Decision}
use Rattle.policy_model.specs.declared.event.Decision.TheVariants.{Permit, Deny}
use Rattle.policy_model.specs.declared.event.Event.{Event}
use Rattle.policy_model.specs.declared.handles.TheConstants.{HANDLE_NUMBERS}
use Rattle.policy_model.specs.declared.phase.Phase.TheVariants.{User}
use Rattle.policy_model.specs.Asks.{accepts, came_by_frame, closes_file, kind_of, mode_of, opens_file, permits_kind}
use Rattle.policy_model.specs.Asks.{value_of}
use Rattle.policy_model.specs.Cases.{account_named, grant_verdict, grants_of, handle_of, use_verdict}
use Rattle.policy_model.specs.Handles.{handle_opening, live_handles_of}
use Rattle.policy_model.specs.Journal.{has_event}
use Rattle.policy_model.specs.Logins.{account_of, challenged_user, verified_user}
use Rattle.policy_model.specs.Phases.{table_row}
use Rattle.policy_model.specs.Settings.{Settings, same_label}
use Rattle.policy_model.specs.Verdict.{allows, kind_verdict, open_verdict}
use Rattle.session_laws.specs.Handled.{handles_after}
use Rattle.session_laws.specs.Judged.{cell_decision, is_over_phase}
use Rattle.session_laws.proofs.HandleSteps.{live_handles_of-other, live_handles_of-own}
use Rattle.session_laws.proofs.Judging.{close_is, read_is, write_is}
use Rattle.session_laws.proofs.UserLemmas.{verified_user-other, verified_user-own}
use Rattle.login_laws.proofs.Judged.{decided}
use Rattle.login_laws.proofs.Stages.{Lasts, spelled}
use Rattle.login_laws.proofs.Walk.{At, Comes, State, not_own}

-- what neither opens nor closes a file leaves the open ones
kept : (live : List Event) (e : Event) → opens_file e ≡ false → ((handle : ℕ) → closes_file handle e ≡ false)
    → handles_after live e ≡ live
kept [] e opens closes = ap (λ b. cond b (e ∷ []) []) opens
kept (o ∷ live) e opens closes =
    ap (λ b. cond (not b) (o ∷ filter (λ x. not (closes_file (handle_of x) e)) live)
    (filter (λ x. not (closes_file (handle_of x) e)) live) ++ cond (opens_file e) (e ∷ []) []) (closes (handle_of o))
    ∙ ap (λ xs. o ∷ xs) (kept live e opens closes)

abbrev free_in : List Event → ℕ
free_in live = unwrap_or (find (λ n. is_none (find (λ e. value_of e.decision == n) live)) HANDLE_NUMBERS) 0

-- an OPEN, by the files that are open and the grant
abbrev open_by : ℕ → List Event → Option Grant → Decision
open_by mode live found = cond (nat_le 8 (length live)) (Deny 19 8) (grant_verdict (free_in live) mode found)

-- whether a grant allows a mode
abbrev pub is_allowed_by : ℕ → Option Grant → Bool
is_allowed_by mode found = option_map_or (λ g. allows g.mode mode) found false

allowed_so : (mode : ℕ) (found : Option Grant) → is_allowed_by mode found ≡ true → grant_verdict 1 mode found ≡ Permit 1
allowed_so mode None may = absurd cc
allowed_so mode (Some g) may = ap (λ b. cond b (Permit 1) (Deny 21 mode)) may

module _ (setup : Settings) (journal : List Event) (worker session : ℕ) where
  -- the session is logged in as this user, and these OPENs gave the files that it has open
  pub record Has (user : Name) (live : List Event) (before : List Event) : Type 0 where
    pub verified : verified_user before session ≡ Some user
    pub handles : live_handles_of before session ≡ live

  -- after an event of its own that accepts no reply, and opens and closes no file
  pub leaves_files : (user : Name) (live before : List Event) (e : Event) → e.session ≡ session → accepts e ≡ false
      → opens_file e ≡ false → ((handle : ℕ) → closes_file handle e ≡ false) → Has user live before
      → Has user live (before ++ e ∷ [])
  leaves_files user live before e own silent opens closes known = record {
    verified = verified_user-own before e session own
        ∙ ap (λ b. cond b (challenged_user before session) (verified_user before session)) silent ∙ known.verified;
    handles = live_handles_of-own before e session own ∙ ap (λ l. handles_after l e) known.handles
        ∙ kept live e opens closes;
  }

  pub having : (user : Name) (live : List Event) → Lasts setup journal worker session (Has user live)
  having user live = record {
    others = λ s before e at comes other known.
        let away = not_own setup journal worker session s before e at comes other in record {
          verified = verified_user-other before e session away ∙ known.verified;
          handles = live_handles_of-other before e session away ∙ known.handles;
        };
    quiet = λ before e legal next own q known. leaves_files user live before e own q.accepts_none q.opens_none
        q.closes_none known;
  }

  -- ---- OPEN

  pub open_permitted : (s : State) (before : List Event) (e : Event) (user : Name) (account : Account) (mode : ℕ)
      (label : Label) → At setup worker session s before → Comes setup journal before e → e.worker ≡ worker
      → s.phase ≡ User → s.asked < setup.requests → e.ask ≡ asks.OpenFile mode label
      → account_of setup user ≡ Some account → Has user [] before
      → is_allowed_by mode (find (λ g. same_label g.name label) account.grants) ≡ true → e.decision ≡ Permit 1
  unfolding kind_verdict open_verdict
  open_permitted s before e user account mode label at comes own phase few is found known may =
      let had = has_event before session (permits_kind kinds.OpenFile) in
      decided setup journal worker session s before e kinds.OpenFile had at comes own (ap came_by_frame is)
      (ap is_over_phase phase) few (ap kind_of is) refl
      ∙ ap (λ p. cell_decision (table_row p kinds.OpenFile) had e.ask (kind_verdict setup before session e.ask)) phase
      ∙ ap (kind_verdict setup before session) is
      ∙ ap (λ l. open_by mode l (find (λ g. same_label g.name label)
      (grants_of (account_named setup (verified_user before session))))) known.handles
      ∙ ap (λ o. open_by mode [] (find (λ g. same_label g.name label) (grants_of (account_named setup o))))
      known.verified
      ∙ ap (λ o. open_by mode [] (find (λ g. same_label g.name label) (grants_of o))) found
      ∙ allowed_so mode (find (λ g. same_label g.name label) account.grants) may

  -- after it the file is open
  pub opens_one : (user : Name) (before : List Event) (e : Event) (mode value : ℕ) (label : Label)
      → e.session ≡ session → e.ask ≡ asks.OpenFile mode label → e.decision ≡ Permit value → Has user [] before
      → Has user (e ∷ []) (before ++ e ∷ [])
  opens_one user before e mode value label own is permit known =
      let as_is = sym (spelled e (asks.OpenFile mode label) (Permit value) is permit) in
      let silent = subst (λ (x : Event). accepts x ≡ false) as_is refl in
      let opens = subst (λ (x : Event). opens_file x ≡ true) as_is refl in record {
        verified = verified_user-own before e session own
            ∙ ap (λ b. cond b (challenged_user before session) (verified_user before session)) silent ∙ known.verified;
        handles = live_handles_of-own before e session own ∙ ap (λ l. handles_after l e) known.handles
            ∙ ap (λ b. cond b (e ∷ []) []) opens;
      }

  -- ---- READ and WRITE of a file that is open

  abbrev used : ℕ → ℕ → List Event → Decision
  used handle needed live = use_verdict handle needed (find (λ x. value_of x.decision == handle) live)

  used_so : (o : Event) (handle needed : ℕ) → handle_of o ≡ handle → allows (mode_of o.ask) needed ≡ true
      → used handle needed (o ∷ []) ≡ Permit 0
  used_so o handle needed is may =
      ap (λ b. use_verdict handle needed (cond b (Some o) None)) (eq-eqb (handle_of o) handle is)
      ∙ ap (λ b. cond b (Permit 0) (Deny 18 handle)) may

  pub read_permitted : (s : State) (before : List Event) (e : Event) (user : Name) (o : Event) (handle offset max : ℕ)
      → At setup worker session s before → Comes setup journal before e → e.worker ≡ worker → s.phase ≡ User
      → s.asked < setup.requests → e.ask ≡ asks.ReadAt handle offset max → eqb handle 0 ≡ false
      → Has user (o ∷ []) before → handle_of o ≡ handle → allows (mode_of o.ask) 1 ≡ true → e.decision ≡ Permit 0
  read_permitted s before e user o handle offset max at comes own phase few is some known opened may =
      let had = has_event before session (permits_kind kinds.ReadAt) in
      decided setup journal worker session s before e kinds.ReadAt had at comes own (ap came_by_frame is)
      (ap is_over_phase phase) few (ap kind_of is) refl
      ∙ ap (λ p. cell_decision (table_row p kinds.ReadAt) had e.ask (kind_verdict setup before session e.ask)) phase
      ∙ ap (kind_verdict setup before session) is ∙ sym (read_is setup before session handle offset max)
      ∙ ap (λ b. cond b (Permit 0) (used handle 1 (live_handles_of before session))) some
      ∙ ap (used handle 1) known.handles ∙ used_so o handle 1 opened may

  pub write_permitted : (s : State) (before : List Event) (e : Event) (user : Name) (o : Event) (handle offset len : ℕ)
      → At setup worker session s before → Comes setup journal before e → e.worker ≡ worker → s.phase ≡ User
      → s.asked < setup.requests → e.ask ≡ asks.WriteAt handle offset len → eqb handle 0 ≡ false
      → Has user (o ∷ []) before → handle_of o ≡ handle → allows (mode_of o.ask) 2 ≡ true → e.decision ≡ Permit 0
  write_permitted s before e user o handle offset len at comes own phase few is some known opened may =
      let had = has_event before session (permits_kind kinds.WriteAt) in
      decided setup journal worker session s before e kinds.WriteAt had at comes own (ap came_by_frame is)
      (ap is_over_phase phase) few (ap kind_of is) refl
      ∙ ap (λ p. cell_decision (table_row p kinds.WriteAt) had e.ask (kind_verdict setup before session e.ask)) phase
      ∙ ap (kind_verdict setup before session) is ∙ sym (write_is setup before session handle offset len)
      ∙ ap (λ b. cond b (Permit 0) (used handle 2 (live_handles_of before session))) some
      ∙ ap (used handle 2) known.handles ∙ used_so o handle 2 opened may

  -- ---- CLOSE

  pub close_permitted : (s : State) (before : List Event) (e : Event) (user : Name) (o : Event) (handle : ℕ)
      → At setup worker session s before → Comes setup journal before e → e.worker ≡ worker → s.phase ≡ User
      → s.asked < setup.requests → e.ask ≡ asks.CloseFile handle → eqb handle 0 ≡ false → Has user (o ∷ []) before
      → handle_of o ≡ handle → e.decision ≡ Permit 0
  close_permitted s before e user o handle at comes own phase few is some known opened =
      let had = has_event before session (permits_kind kinds.CloseFile) in
      decided setup journal worker session s before e kinds.CloseFile had at comes own (ap came_by_frame is)
      (ap is_over_phase phase) few (ap kind_of is) refl
      ∙ ap (λ p. cell_decision (table_row p kinds.CloseFile) had e.ask (kind_verdict setup before session e.ask)) phase
      ∙ ap (kind_verdict setup before session) is ∙ sym (close_is setup before session handle)
      ∙ ap (λ b. cond (b || is_none (handle_opening before session handle)) (Deny 17 handle) (Permit 0)) some
      ∙ ap (λ l. cond (is_none (find (λ x. value_of x.decision == handle) l)) (Deny 17 handle) (Permit 0))
      known.handles
      ∙ ap (λ b. cond (is_none (cond b (Some o) None)) (Deny 17 handle) (Permit 0)) (eq-eqb (handle_of o) handle opened)

  -- after it no file is open
  pub closes_one : (user : Name) (before : List Event) (e o : Event) (handle : ℕ) → e.session ≡ session
      → e.ask ≡ asks.CloseFile handle → e.decision ≡ Permit 0 → handle_of o ≡ handle → Has user (o ∷ []) before
      → Has user [] (before ++ e ∷ [])
  closes_one user before e o handle own is permit opened known =
      let as_is = sym (spelled e (asks.CloseFile handle) (Permit 0) is permit) in
      let silent = subst (λ (x : Event). accepts x ≡ false) as_is refl in
      let opens = subst (λ (x : Event). opens_file x ≡ false) as_is refl in
      let closes = subst (λ (x : Event). closes_file (handle_of o) x ≡ true) as_is
      (and_from _ _ (eq-eqb handle (handle_of o) (sym opened)) refl) in record {
        verified = verified_user-own before e session own
            ∙ ap (λ b. cond b (challenged_user before session) (verified_user before session)) silent ∙ known.verified;
        handles = live_handles_of-own before e session own ∙ ap (λ l. handles_after l e) known.handles
            ∙ ap (λ b. cond (not b) (o ∷ []) [] ++ cond (opens_file e) (e ∷ []) []) closes
            ∙ ap (λ b. cond b (e ∷ []) []) opens;
      }
