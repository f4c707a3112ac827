-- What a request and its answer make of the child's phase, and its event of the session's.
use Rattle.std.proofs.Common.{◌≡◌, Bool, true, false, not, ◌&&◌, ◌||◌, cond, Option, Some}
use Rattle.std.proofs.Common.{refl, sym, ap, ◌∙◌, arith}
use Rattle.std.proofs.lemmas.Bool.Decides.{nat_tests}
use Rattle.std.specs.Prelude.{◌==◌, nat_le, is_some}
use Rattle.std.specs.Option.{option_map_or}
use Rattle.request_catalogue.specs.declared.kind.Kind.{Kind}
use Rattle.request_catalogue.specs.declared.kind.Kind.TheVariants as kinds
use Rattle.request_catalogue.specs.Kinds.{kind_number}
use Rattle.request_catalogue.specs.Catalogue as requests
use Rattle.request_catalogue.specs.Catalogue.{RequestValue}
use Rattle.request_catalogue.specs.Replies.{AnswerValue}
use Rattle.child_protocol.specs.Exchanges.{Exchange, challenged_by, ends_child, is_permitted}
use Rattle.child_protocol.specs.Exchanges as exchanges
use Rattle.child_protocol.specs.Phases.{is_export, is_of, is_reply, phase_by}
use Rattle.policy_model.specs.declared.event.Ask.{Ask}
use Rattle.policy_model.specs.declared.event.Ask.TheVariants as asks
use Rattle.policy_model.specs.declared.event.Decision.{Decision}
use Rattle.policy_model.specs.declared.event.Decision.TheVariants.{Permit, Deny, Lost}
use Rattle.policy_model.specs.declared.event.Event.{Event}
use Rattle.policy_model.specs.declared.phase.Phase.{Phase}
use Rattle.policy_model.specs.declared.phase.Phase.TheVariants as phases
use Rattle.policy_model.specs.Asks.{accepts, challenge_name, ends_session, exports, gives_up, is_end, is_kind}
use Rattle.policy_model.specs.Asks.{is_login_denial, is_login_step, is_lost, is_permit, is_violation, kind_of, permits_kind, request_number}
use Rattle.policy_model.specs.Asks.{shown_of, takes}
use Rattle.session_laws.specs.Phased.{phase_after}
use Rattle.dialogue_laws.specs.Dialogue.{Answers, IsTold}

-- ---- phases by tests

-- what an event makes of a phase, by what it is
abbrev phase_then : Bool → Bool → Bool → Bool → Phase → Phase
phase_then export reply step take phases.Over = phases.Over
phase_then export reply step take phases.User = phases.User
phase_then export reply step take phases.Verified = cond export phases.User phases.Verified
phase_then export reply step take phase =
    cond export phases.User (cond reply phases.Verified (cond step (cond take phases.Challenged phases.Pre) phase))

then_by : (x r l t a b c : Bool) → phase_then x r l t (phase_by a b c) ≡ phase_by (x || a) (r || b) (cond l t c)
then_by true r l t true b c = refl
then_by false r l t true b c = refl
then_by true r l t false true c = refl
then_by false true l t false true c = refl
then_by false false l t false true c = refl
then_by true r l t false false true = refl
then_by true r l t false false false = refl
then_by false true l t false false true = refl
then_by false true l t false false false = refl
then_by false false true true false false true = refl
then_by false false true true false false false = refl
then_by false false true false false false true = refl
then_by false false true false false false false = refl
then_by false false false t false false true = refl
then_by false false false t false false false = refl

-- of an event that doesn't end its session
after_then : (phase : Phase) (e : Event) → ends_session e ≡ false
    → phase_after phase e ≡ phase_then (exports e) (accepts e) (is_login_step e) (takes e) phase
after_then phases.Over e going = refl
after_then phases.User e going = rw going refl
after_then phases.Verified e going = rw going refl
after_then phases.Pre e going = rw going refl
after_then phases.Challenged e going = rw going refl

-- ---- an event of a request

-- the kinds by which a child's phase goes
abbrev is_at : Kind → RequestValue → Bool
is_at kind request = is_of kind request

export_at : (request : RequestValue) → is_export request ≡ is_of kinds.Export request
export_at requests.Banner = refl
export_at (requests.Challenge user) = refl
export_at (requests.Reply text) = refl
export_at requests.Abandon = refl
export_at (requests.Export state) = refl
export_at requests.Import = refl
export_at (requests.ReadAt handle offset max) = refl
export_at (requests.WriteAt handle offset bytes) = refl
export_at (requests.OpenFile mode name) = refl
export_at (requests.CloseFile handle) = refl
export_at (requests.Info number) = refl
export_at (requests.Note text) = refl
export_at requests.Finish = refl

reply_at : (request : RequestValue) → is_reply request ≡ is_of kinds.Reply request
reply_at requests.Banner = refl
reply_at (requests.Challenge user) = refl
reply_at (requests.Reply text) = refl
reply_at requests.Abandon = refl
reply_at (requests.Export state) = refl
reply_at requests.Import = refl
reply_at (requests.ReadAt handle offset max) = refl
reply_at (requests.WriteAt handle offset bytes) = refl
reply_at (requests.OpenFile mode name) = refl
reply_at (requests.CloseFile handle) = refl
reply_at (requests.Info number) = refl
reply_at (requests.Note text) = refl
reply_at requests.Finish = refl

finish_at : (request : RequestValue) → exchanges.is_finish request ≡ is_of kinds.Finish request
finish_at requests.Banner = refl
finish_at (requests.Challenge user) = refl
finish_at (requests.Reply text) = refl
finish_at requests.Abandon = refl
finish_at (requests.Export state) = refl
finish_at requests.Import = refl
finish_at (requests.ReadAt handle offset max) = refl
finish_at (requests.WriteAt handle offset bytes) = refl
finish_at (requests.OpenFile mode name) = refl
finish_at (requests.CloseFile handle) = refl
finish_at (requests.Info number) = refl
finish_at (requests.Note text) = refl
finish_at requests.Finish = refl

-- whether a challenge is open, by the kind of the request
challenged_at : (request : RequestValue) (answer : AnswerValue) (before : Bool) → challenged_by request answer before
    ≡ cond (is_of kinds.Challenge request && is_permitted answer || (is_of kinds.Reply request
    || is_of kinds.Abandon request && is_permitted answer)) (is_of kinds.Challenge request && is_permitted answer) before
challenged_at requests.Banner answer before = refl
challenged_at (requests.Challenge user) answer before = by (is_permitted answer) where
  by : (p : Bool) → (p || before) ≡ cond (p || false) p before
  by true = refl
  by false = refl
challenged_at (requests.Reply text) answer before = refl
challenged_at requests.Abandon answer before = by (is_permitted answer) before where
  by : (p b : Bool) → (not p && b) ≡ cond p false b
  by true b = refl
  by false b = refl
challenged_at (requests.Export state) answer before = refl
challenged_at requests.Import answer before = refl
challenged_at (requests.ReadAt handle offset max) answer before = refl
challenged_at (requests.WriteAt handle offset bytes) answer before = refl
challenged_at (requests.OpenFile mode name) answer before = refl
challenged_at (requests.CloseFile handle) answer before = refl
challenged_at (requests.Info number) answer before = refl
challenged_at (requests.Note text) answer before = refl
challenged_at requests.Finish answer before = refl

-- a CHALLENGE names its user
challenge_at : (ask : Ask) → is_some (challenge_name ask) ≡ is_kind kinds.Challenge ask
challenge_at asks.Begin = refl
challenge_at asks.Banner = refl
challenge_at (asks.Challenge user now) = refl
challenge_at (asks.Reply words hex) = refl
challenge_at asks.Abandon = refl
challenge_at (asks.Export len) = refl
challenge_at asks.Import = refl
challenge_at (asks.ReadAt handle offset max) = refl
challenge_at (asks.WriteAt handle offset len) = refl
challenge_at (asks.OpenFile mode name) = refl
challenge_at (asks.CloseFile handle) = refl
challenge_at (asks.Info number) = refl
challenge_at (asks.Note text) = refl
challenge_at asks.Finish = refl
challenge_at (asks.Bad rule detail) = refl
challenge_at (asks.End why) = refl

-- an ask that is a request is no end
no_end : (ask : Ask) (kind : Kind) → kind_of ask ≡ Some kind → is_end ask ≡ false
no_end (asks.End why) kind is = absurd cc
no_end asks.Begin kind is = absurd cc
no_end (asks.Bad rule detail) kind is = absurd cc
no_end ask kind is = refl

and_none : (b : Bool) → (b && false) ≡ false
and_none true = refl
and_none false = refl

-- a child that was told of no violation was shown none
unviolated : (d : Decision) (answer : AnswerValue) → IsTold (shown_of d) answer → exchanges.is_violation answer ≡ false
    → (is_violation d ≡ false) × (is_lost d ≡ false) × (is_permit d ≡ is_permitted answer)
unviolated (Permit value) answer told mild = (refl, refl, sym told)
unviolated Lost answer told mild = absurd told
unviolated (Deny rule detail) answer told mild = by (is_login_denial (Deny rule detail)) refl told where
  by : (b : Bool) → is_login_denial (Deny rule detail) ≡ b → IsTold (cond b (Deny 16 0) (Deny rule detail)) answer
      → (is_violation (Deny rule detail) ≡ false) × (false ≡ false) × (false ≡ is_permitted answer)
  by true login told =
      (high login, refl, sym (ap is_permitted told)) where
        high : is_login_denial (Deny rule detail) ≡ true → is_violation (Deny rule detail) ≡ false
        high login = grind (arith, nat_tests)
  by false login told =
      (low (nat_le rule 7) refl, refl, sym (ap is_permitted told)) where
        low : (b : Bool) → nat_le rule 7 ≡ b → (nat_le 1 rule && nat_le rule 7) ≡ false
        low true is = absurd (let no : false ≡ true = sym mild ∙ ap exchanges.is_violation told ∙ is in cc)
        low false is = ap (λ c. nat_le 1 rule && c) is ∙ and_none (nat_le 1 rule)

-- ---- the step

-- what is known of an event whose request's answer the child went on after
pub record Stepped (e : Event) (x : Exchange) : Type 0 where
  pub going : ends_session e ≡ false
  pub bits : (kind : Kind) → permits_kind kind e ≡ (is_of kind x.request && is_permitted x.answer)
  pub phase : (a b c : Bool) → phase_after (phase_by a b c) e
      ≡ phase_by ((is_export x.request && is_permitted x.answer) || a) ((is_reply x.request && is_permitted x.answer) || b)
      (challenged_by x.request x.answer c)

pub stepped : (e : Event) (x : Exchange) → Answers e x → ends_child x.request x.answer ≡ false → Stepped e x
stepped e x is going =
    let number : request_number e.ask ≡ kind_number (requests.kind_of x.request) = ap (λ (o : Option Kind). option_map_or kind_number o 0) is.kind in
    let ends = no_or (exchanges.is_finish x.request) (exchanges.is_violation x.answer) going in
    let told = unviolated e.decision x.answer is.told ends.1 in
    let bits : (kind : Kind) → permits_kind kind e ≡ (is_of kind x.request && is_permitted x.answer) = λ kind.
    ap (λ n. n == kind_number kind && is_permit e.decision) number
    ∙ ap (λ b. is_of kind x.request && b) told.2 in
    let goes : ends_session e ≡ false =
    ap (λ b. b || permits_kind kinds.Finish e || is_violation e.decision || is_lost e.decision)
    (no_end e.ask (requests.kind_of x.request) is.kind)
    ∙ ap (λ b. b || is_violation e.decision || is_lost e.decision)
    (bits kinds.Finish ∙ ap (λ b. b && is_permitted x.answer) (sym (finish_at x.request) ∙ ends.0))
    ∙ ap (λ b. b || is_lost e.decision) told.0 ∙ told.1 in
    let take : takes e ≡ (is_of kinds.Challenge x.request && is_permitted x.answer) = ap (λ b. b && is_permit e.decision) (challenge_at e.ask) ∙ bits kinds.Challenge in
    let gives : gives_up e ≡ (is_of kinds.Reply x.request || is_of kinds.Abandon x.request && is_permitted x.answer) =
    ap (λ n. n == kind_number kinds.Reply || permits_kind kinds.Abandon e) number
    ∙ ap (λ b. is_of kinds.Reply x.request || b) (bits kinds.Abandon) in
    let step : is_login_step e ≡ (is_of kinds.Challenge x.request && is_permitted x.answer || (is_of kinds.Reply x.request
    || is_of kinds.Abandon x.request && is_permitted x.answer)) = ap (λ b. b || gives_up e) take
    ∙ ap (λ b. is_of kinds.Challenge x.request && is_permitted x.answer || b) gives in
    record {
      going = goes;
      bits = bits;
      phase = λ a b c. after_then (phase_by a b c) e goes
          ∙ then_by (exports e) (accepts e) (is_login_step e) (takes e) a b c
          ∙ ap (λ x'. phase_by (x' || a) (accepts e || b) (cond (is_login_step e) (takes e) c)) (bits kinds.Export ∙ ap (λ b. b && is_permitted x.answer) (sym (export_at x.request)))
          ∙ ap (λ r. phase_by ((is_export x.request && is_permitted x.answer) || a) (r || b) (cond (is_login_step e) (takes e) c)) (bits kinds.Reply ∙ ap (λ b. b && is_permitted x.answer) (sym (reply_at x.request)))
          ∙ ap (phase_by ((is_export x.request && is_permitted x.answer) || a) ((is_reply x.request && is_permitted x.answer) || b)) (ap (λ l. cond l (takes e) c) step ∙ ap (λ t. cond (is_of kinds.Challenge x.request && is_permitted x.answer || (is_of kinds.Reply x.request
          || is_of kinds.Abandon x.request && is_permitted x.answer)) t c) take ∙ sym (challenged_at x.request x.answer c));
    } where
      no_or : (a b : Bool) → (a || b) ≡ false → (a ≡ false) × (b ≡ false)
      no_or true b is = absurd cc
      no_or false b is = (refl, is)
