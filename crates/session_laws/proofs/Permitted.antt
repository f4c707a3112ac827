-- A permitted request of a legal journal: its session isn't over, and its cell of the phase table isn't empty.
use Rattle.std.proofs.Common.{◌≡◌, ℕ, Bool, true, false, ◌&&◌, ◌||◌, cond, eqb, List, length, Option, Some, None, refl, ap, subst, ◌∙◌}
use Rattle.std.proofs.lemmas.Bool.{and_parts, false_from_ne_true, or_parts}
use Rattle.std.specs.Prelude.{is_some, nat_lt}
use Rattle.request_catalogue.specs.declared.kind.Kind.{Kind}
use Rattle.request_catalogue.specs.declared.kind.Kind.TheVariants as kinds
use Rattle.request_catalogue.specs.declared.texts.Name.{Name}
use Rattle.policy_model.specs.declared.event.Ask.{Ask}
use Rattle.policy_model.specs.declared.event.Ask.TheVariants as asks
use Rattle.policy_model.specs.declared.event.Decision.{Decision}
use Rattle.policy_model.specs.declared.event.Decision.TheVariants.{Permit, Deny, Lost}
use Rattle.policy_model.specs.declared.event.Event.{Event}
use Rattle.policy_model.specs.declared.phase.Phase.{Phase}
use Rattle.policy_model.specs.declared.phase.Phase.TheVariants.{Pre, Challenged, Verified, User, Over}
use Rattle.policy_model.specs.declared.reading.TheConstants.{DECOYS_FROM}
use Rattle.policy_model.specs.Asks.{accepts, challenge_name, came_by_frame, ends_session, exports, gives_up, is_login_step, is_permit, kind_of, opens, request_number, reserves, takes, takes_user, value_of}
use Rattle.policy_model.specs.Cases.{is_challenge_for, is_export, is_reply, table_verdict}
use Rattle.policy_model.specs.Journal.{ask_count}
use Rattle.policy_model.specs.Legal.{IsNext}
use Rattle.policy_model.specs.Phases.{is_over, phase_of, table_row}
use Rattle.policy_model.specs.Settings.{Settings}
use Rattle.policy_model.specs.Logins.{was_decoyed}
use Rattle.policy_model.specs.Verdict.{decoy_verdict, kind_verdict, own_verdict, readings, reply_verdict, request_verdict}
use Rattle.session_laws.proofs.Permits.{permit_from, request_permit, row_permit, same_from_same_name}

-- 1. What every permitted request tells

pub record IsLive (journal : List Event) (session : ℕ) (ask : Ask) : Type 0 where
  pub some : eqb session 0 ≡ false
  pub live : is_over journal session ≡ false
  pub cell : (kind : Kind) → kind_of ask ≡ Some kind → (table_row (phase_of journal session) kind).permitted ≡ true

cell_permitted : (setup : Settings) (journal : List Event) (session value : ℕ) (ask : Ask) (kind : Kind) → own_verdict setup journal session ask ≡ Permit value → kind_of ask ≡ Some kind → (table_row (phase_of journal session) kind).permitted ≡ true
cell_permitted setup journal session value asks.Begin kind h is = absurd cc
cell_permitted setup journal session value (asks.Bad rule detail) kind h is = absurd cc
cell_permitted setup journal session value (asks.End why) kind h is = absurd cc
cell_permitted setup journal session value ask kind h is = go (kind_of ask) is h where
  go : (o : Option Kind) → o ≡ Some kind → table_verdict setup journal session ask o ≡ Permit value → (table_row (phase_of journal session) kind).permitted ≡ true
  go None is h = absurd cc
  go (Some k) is h =
      let same : k ≡ kind = cc in
      subst (λ (x : Kind). (table_row (phase_of journal session) x).permitted ≡ true) same (row_permit setup journal session k ask (table_row (phase_of journal session) k) value h).0

pub permitted_live : (setup : Settings) (journal : List Event) (e : Event) → IsNext setup journal e → came_by_frame e.ask ≡ true → is_permit e.decision ≡ true → IsLive journal e.session e.ask
permitted_live setup journal e next request permit =
    let h = request_permit setup journal e next request permit in
    let a = permit_from (eqb e.session 0 || is_over journal e.session) 6 (request_number e.ask) (value_of e.decision) _ h in
    let b = permit_from (eqb (ask_count journal e.session) setup.requests) 1 setup.requests (value_of e.decision) _ a.1 in
    let n = or_parts (eqb e.session 0) (is_over journal e.session) a.0 in
    record { some = n.0; live = n.1; cell = λ kind is. cell_permitted setup journal e.session (value_of e.decision) e.ask kind b.1 is }

-- 2. What a permitted CHALLENGE is and isn't

pub record IsTaking (e : Event) : Type 0 where
  pub by_frame : came_by_frame e.ask ≡ true
  pub permitted : is_permit e.decision ≡ true
  pub kind : kind_of e.ask ≡ Some kinds.Challenge
  pub opens_none : opens e ≡ false
  pub goes_on : ends_session e ≡ false
  pub gives_none : gives_up e ≡ false
  pub exports_none : exports e ≡ false
  pub no_reply : is_reply e.ask ≡ false
  pub step : is_login_step e ≡ true

taking_by : (worker session : ℕ) (ask : Ask) (d : Decision) → takes (record { worker = worker; session = session; ask = ask; decision = d }) ≡ true → IsTaking (record { worker = worker; session = session; ask = ask; decision = d })
taking_by worker session (asks.Challenge user now) (Permit value) h = record { by_frame = refl; permitted = refl; kind = refl; opens_none = refl; goes_on = refl; gives_none = refl; exports_none = refl; no_reply = refl; step = refl }
taking_by worker session (asks.Challenge user now) (Deny rule detail) h = absurd cc
taking_by worker session (asks.Challenge user now) Lost h = absurd cc
taking_by worker session _ d h = absurd cc

pub taking : (e : Event) → takes e ≡ true → IsTaking e
taking e h = taking_by e.worker e.session e.ask e.decision h

-- of one for a user, and one that isn't a decoy
pub takes_from : (user : Name) (e : Event) → takes_user user e ≡ true → (takes e ≡ true) × (challenge_name e.ask ≡ Some user)
takes_from user e h =
    let both = and_parts (is_challenge_for user e.ask) (is_permit e.decision) h in
    let name = named e.ask both.0 in
    (ap (λ o. is_some o && is_permit e.decision) name ∙ both.1, name) where
      named : (ask : Ask) → is_challenge_for user ask ≡ true → challenge_name ask ≡ Some user
      named (asks.Challenge name now) h = ap (λ (n : Name). Some n) (same_from_same_name name user h)
      named _ h = absurd cc

pub reserves_from : (user : Name) (e : Event) → reserves user e ≡ true → (takes_user user e ≡ true) × (nat_lt (value_of e.decision) DECOYS_FROM ≡ true)
reserves_from user e h = and_parts (takes_user user e) (nat_lt (value_of e.decision) DECOYS_FROM) h

-- 3. What a session in Challenged may not

pub no_taking : (setup : Settings) (journal : List Event) (e : Event) → IsNext setup journal e → phase_of journal e.session ≡ Challenged → takes e ≡ false
no_taking setup journal e next phase = false_from_ne_true (takes e) (λ h.
    let t = taking e h in
    let live = permitted_live setup journal e next t.by_frame t.permitted in
    let cell : (table_row Challenged kinds.Challenge).permitted ≡ true = subst (λ (p : Phase). (table_row p kinds.Challenge).permitted ≡ true) phase (live.cell kinds.Challenge t.kind) in
    absurd cc)

export_kind : (ask : Ask) → is_export ask ≡ true → (came_by_frame ask ≡ true) × (kind_of ask ≡ Some kinds.Export)
export_kind (asks.Export len) h = (refl, refl)
export_kind _ h = absurd cc

pub no_exporting : (setup : Settings) (journal : List Event) (e : Event) → IsNext setup journal e → phase_of journal e.session ≡ Challenged → exports e ≡ false
no_exporting setup journal e next phase = false_from_ne_true (exports e) (λ h.
    let both = and_parts (is_export e.ask) (is_permit e.decision) h in
    let k = export_kind e.ask both.0 in
    let live = permitted_live setup journal e next k.0 both.1 in
    let cell : (table_row Challenged kinds.Export).permitted ≡ true = subst (λ (p : Phase). (table_row p kinds.Export).permitted ≡ true) phase (live.cell kinds.Export k.1) in
    absurd cc)

-- a permitted CHALLENGE comes in Pre, and a permitted REPLY in Challenged
pre_only : (phase : Phase) → (table_row phase kinds.Challenge).permitted ≡ true → phase ≡ Pre
pre_only Pre h = refl
pre_only Challenged h = absurd cc
pre_only Verified h = absurd cc
pre_only User h = absurd cc
pre_only Over h = absurd cc

pub taken_in_pre : (setup : Settings) (journal : List Event) (e : Event) → IsNext setup journal e → takes e ≡ true → phase_of journal e.session ≡ Pre
taken_in_pre setup journal e next h =
    let t = taking e h in
    pre_only (phase_of journal e.session) ((permitted_live setup journal e next t.by_frame t.permitted).cell kinds.Challenge t.kind)

challenged_only : (phase : Phase) → (table_row phase kinds.Reply).permitted ≡ true → phase ≡ Challenged
challenged_only Pre h = absurd cc
challenged_only Challenged h = refl
challenged_only Verified h = absurd cc
challenged_only User h = absurd cc
challenged_only Over h = absurd cc

reply_kind : (ask : Ask) → is_reply ask ≡ true → (came_by_frame ask ≡ true) × (kind_of ask ≡ Some kinds.Reply)
reply_kind (asks.Reply words hex) h = (refl, refl)
reply_kind _ h = absurd cc

pub accepted_in_challenged : (setup : Settings) (journal : List Event) (e : Event) → IsNext setup journal e → accepts e ≡ true → phase_of journal e.session ≡ Challenged
accepted_in_challenged setup journal e next h =
    let both = and_parts (is_reply e.ask) (is_permit e.decision) h in
    let k = reply_kind e.ask both.0 in
    challenged_only (phase_of journal e.session) ((permitted_live setup journal e next k.0 both.1).cell kinds.Reply k.1)

-- a permitted EXPORT comes in Verified
verified_only : (phase : Phase) → (table_row phase kinds.Export).permitted ≡ true → phase ≡ Verified
verified_only Pre h = absurd cc
verified_only Challenged h = absurd cc
verified_only Verified h = refl
verified_only User h = absurd cc
verified_only Over h = absurd cc

pub exported_in_verified : (setup : Settings) (journal : List Event) (e : Event) → IsNext setup journal e → exports e ≡ true → phase_of journal e.session ≡ Verified
exported_in_verified setup journal e next h =
    let both = and_parts (is_export e.ask) (is_permit e.decision) h in
    let k = export_kind e.ask both.0 in
    verified_only (phase_of journal e.session) ((permitted_live setup journal e next k.0 both.1).cell kinds.Export k.1)

-- a permitted REPLY isn't one to a decoy
not_decoyed : (b : Bool) (passwords : List ℕ) (value : ℕ) (d : Decision) → cond b (decoy_verdict passwords) d ≡ Permit value → b ≡ false
not_decoyed false passwords value d h = refl
not_decoyed true passwords value d h =
    let deny : Deny 16 0 ≡ Permit value = (permit_from (eqb (length passwords) 0) 14 0 value (Deny 16 0) h).1 in
    absurd cc

reply_to_user : (setup : Settings) (journal : List Event) (session : ℕ) (ask : Ask) (value : ℕ) → is_reply ask ≡ true → request_verdict setup journal session ask ≡ Permit value → was_decoyed journal session ≡ false
unfolding kind_verdict reply_verdict
reply_to_user setup journal session (asks.Reply words hex) value is h =
    let a = permit_from (eqb session 0 || is_over journal session) 6 3 value _ h in
    let b = permit_from (eqb (ask_count journal session) setup.requests) 1 setup.requests value _ a.1 in
    let r = row_permit setup journal session kinds.Reply (asks.Reply words hex) (table_row (phase_of journal session) kinds.Reply) value b.1 in
    not_decoyed (was_decoyed journal session) (readings words hex) value _ r.1
reply_to_user setup journal session _ value is h = absurd cc

pub accepted_no_decoy : (setup : Settings) (journal : List Event) (e : Event) → IsNext setup journal e → accepts e ≡ true → was_decoyed journal e.session ≡ false
accepted_no_decoy setup journal e next h =
    let is = and_parts (is_reply e.ask) (is_permit e.decision) h in
    reply_to_user setup journal e.session e.ask (value_of e.decision) is.0 (request_permit setup journal e next (reply_kind e.ask is.0).0 is.1)
