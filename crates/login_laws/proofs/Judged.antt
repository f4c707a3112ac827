-- What is decided of a session's request, by where the session stands.
use Rattle.std.proofs.Common.{◌≡◌, ◌≢◌, ℕ, ◌-◌, ◌<◌, Bool, true, false, not, ◌||◌, cond, eqb, nat_le, List, [], ◌∷◌}
use Rattle.std.proofs.Common.{length, Option, Some, refl, sym, ap, ◌∙◌, arith}
use Rattle.std.specs.List.{find, list_any}
use Rattle.std.proofs.lemmas.Bool.{eq-eqb}
use Rattle.std.proofs.lemmas.Bool.Decides.{nat_tests}
use Rattle.request_catalogue.specs.declared.kind.Kind.{Kind}
use Rattle.request_catalogue.specs.declared.kind.Kind.TheVariants as kinds
use Rattle.request_catalogue.specs.declared.texts.Name.{Name}
use Rattle.policy_model.specs.declared.account.Account.{Account}
use Rattle.policy_model.specs.declared.event.Ask.{Ask}
use Rattle.policy_model.specs.declared.event.Ask.TheVariants as asks
use Rattle.policy_model.specs.declared.event.Decision.{Decision}
use Rattle.policy_model.specs.declared.event.Decision.TheVariants.{Permit, Deny}
use Rattle.policy_model.specs.declared.event.Event.{Event}
use Rattle.policy_model.specs.declared.phase.Phase.{Phase}
use Rattle.policy_model.specs.declared.phase.Phase.TheVariants.{Pre, Challenged, Verified, User, Over}
use Rattle.policy_model.specs.Asks.{came_by_frame, is_denied_reply, kind_of, permits_kind}
use Rattle.policy_model.specs.Cases.{is_holder}
use Rattle.policy_model.specs.Journal.{count_of, has_event}
use Rattle.policy_model.specs.Logins.{account_of, challenged_user, current_sequence, holder_of, is_live, last_taking_of}
use Rattle.policy_model.specs.Logins.{session_taking, was_decoyed}
use Rattle.policy_model.specs.Phases.{table_row}
use Rattle.policy_model.specs.Settings.{Settings}
use Rattle.policy_model.specs.Verdict.{account_verdict, challenge_verdict, decoy_challenge, is_held, is_next_password}
use Rattle.policy_model.specs.Verdict.{kind_verdict, own_verdict, readings, user_verdict, verdict_of}
use Rattle.policy_model.proofs.Runs.{next_decision}
use Rattle.session_laws.specs.Judged.{cell_decision, is_over_phase, request_decision}
use Rattle.session_laws.proofs.Judging.{cell_is, free_is, read_is, reply_is, request_is, write_is}
use Rattle.login_laws.specs.Login.{is_talk}
use Rattle.login_laws.proofs.Walk.{At, Comes, State}

-- a request of a session that goes on and has asks left is judged by its own verdict
unspent : (session requests : ℕ) (phase : Phase) (asked : ℕ) (ask : Ask) (own : Decision) → session ≢ 0
    → is_over_phase phase ≡ false → asked < requests → request_decision requests session phase asked ask own ≡ own
unspent session requests phase asked ask own some live few =
    let number : eqb session 0 ≡ false = grind (arith, nat_tests) in
    let below : eqb asked requests ≡ false = grind (arith, nat_tests) in
    rw (number, live, below) refl

judged : (setup : Settings) (journal : List Event) (worker session : ℕ) (s : State) (before : List Event) (e : Event)
    → At setup worker session s before → Comes setup journal before e → e.worker ≡ worker → came_by_frame e.ask ≡ true
    → is_over_phase s.phase ≡ false → s.asked < setup.requests
    → e.decision ≡ own_verdict setup before session e.ask
judged setup journal worker session s before e at comes own request live few =
    next_decision setup before e comes.next comes.kept ∙ ap (λ (w : ℕ). verdict_of setup before w e.ask) own
    ∙ sym (request_is setup before worker session s.phase s.asked e.ask (own_verdict setup before session e.ask) request
    (sym at.opened) (λ some. sym at.phased) (λ some. sym at.counted) (λ some live. refl))
    ∙ unspent session setup.requests s.phase s.asked e.ask (own_verdict setup before session e.ask) at.some live few

-- and by its cell of the table
pub decided : (setup : Settings) (journal : List Event) (worker session : ℕ) (s : State) (before : List Event)
    (e : Event) (kind : Kind) (had : Bool) → At setup worker session s before → Comes setup journal before e
    → e.worker ≡ worker → came_by_frame e.ask ≡ true → is_over_phase s.phase ≡ false → s.asked < setup.requests
    → kind_of e.ask ≡ Some kind → has_event before session (permits_kind kind) ≡ had
    → e.decision ≡ cell_decision (table_row s.phase kind) had e.ask (kind_verdict setup before session e.ask)
decided setup journal worker session s before e kind had at comes own request live few is seen =
    judged setup journal worker session s before e at comes own request live few
    ∙ sym (cell_is setup before session s.phase had e.ask kind (kind_verdict setup before session e.ask) is
    (sym at.phased) (sym seen) (λ permitted. refl))

-- ---- talk

free_read : (phase : Phase) (had : Bool) (ask : Ask) (d : Decision) → is_over_phase phase ≡ false
    → cell_decision (table_row phase kinds.ReadAt) had ask d ≡ d
free_read Pre had ask d live = refl
free_read Challenged had ask d live = refl
free_read Verified had ask d live = refl
free_read User had ask d live = refl
free_read Over had ask d live = absurd cc

free_write : (phase : Phase) (had : Bool) (ask : Ask) (d : Decision) → is_over_phase phase ≡ false
    → cell_decision (table_row phase kinds.WriteAt) had ask d ≡ d
free_write Pre had ask d live = refl
free_write Challenged had ask d live = refl
free_write Verified had ask d live = refl
free_write User had ask d live = refl
free_write Over had ask d live = absurd cc

free_note : (phase : Phase) (had : Bool) (ask : Ask) (d : Decision) → is_over_phase phase ≡ false
    → cell_decision (table_row phase kinds.Note) had ask d ≡ d
free_note Pre had ask d live = refl
free_note Challenged had ask d live = refl
free_note Verified had ask d live = refl
free_note User had ask d live = refl
free_note Over had ask d live = absurd cc

pub talk_by_frame : (ask : Ask) → is_talk ask ≡ true → came_by_frame ask ≡ true
talk_by_frame (asks.ReadAt handle offset max) is = refl
talk_by_frame (asks.WriteAt handle offset len) is = refl
talk_by_frame (asks.Note text) is = refl
talk_by_frame _ is = absurd cc

-- talk is permitted
pub talk_permitted : (setup : Settings) (journal : List Event) (worker session : ℕ) (s : State) (before : List Event)
    (e : Event) → At setup worker session s before → Comes setup journal before e → e.worker ≡ worker
    → is_over_phase s.phase ≡ false → s.asked < setup.requests → is_talk e.ask ≡ true → e.decision ≡ Permit 0
talk_permitted setup journal worker session s before e at comes own live few talk = by_ask e.ask refl talk where
  cell : (kind : Kind) → kind_of e.ask ≡ Some kind
      → e.decision ≡ cell_decision (table_row s.phase kind) (has_event before session (permits_kind kind)) e.ask
      (kind_verdict setup before session e.ask)
  cell kind is =
      decided setup journal worker session s before e kind (has_event before session (permits_kind kind)) at comes own
      (talk_by_frame e.ask talk) live few is refl

  by_ask : (ask : Ask) → e.ask ≡ ask → is_talk ask ≡ true → e.decision ≡ Permit 0
  by_ask (asks.ReadAt handle offset max) is zero =
      cell kinds.ReadAt (ap kind_of is) ∙ free_read s.phase (has_event before session (permits_kind kinds.ReadAt)) e.ask
      (kind_verdict setup before session e.ask) live
      ∙ ap (kind_verdict setup before session) is ∙ sym (read_is setup before session handle offset max) ∙ rw zero refl
  by_ask (asks.WriteAt handle offset len) is zero =
      cell kinds.WriteAt (ap kind_of is) ∙ free_write s.phase (has_event before session (permits_kind kinds.WriteAt))
      e.ask (kind_verdict setup before session e.ask) live
      ∙ ap (kind_verdict setup before session) is ∙ sym (write_is setup before session handle offset len) ∙ rw zero refl
  by_ask (asks.Note text) is t =
      cell kinds.Note (ap kind_of is) ∙ free_note s.phase (has_event before session (permits_kind kinds.Note)) e.ask
      (kind_verdict setup before session e.ask) live
      ∙ ap (kind_verdict setup before session) is ∙ sym (free_is setup before session (asks.Note text) refl)
  by_ask _ is t = absurd cc

-- the banner is permitted once before the login, and an IMPORT once after it
pub banner_permitted : (setup : Settings) (journal : List Event) (worker session : ℕ) (s : State) (before : List Event)
    (e : Event) → At setup worker session s before → Comes setup journal before e → e.worker ≡ worker → s.phase ≡ Pre
    → s.greeted ≡ false → s.asked < setup.requests → e.ask ≡ asks.Banner → e.decision ≡ Permit 0
banner_permitted setup journal worker session s before e at comes own pre new few is =
    decided setup journal worker session s before e kinds.Banner false at comes own (ap came_by_frame is)
    (ap is_over_phase pre) few (ap kind_of is) (at.greeted ∙ new)
    ∙ ap (λ p. cell_decision (table_row p kinds.Banner) false e.ask (kind_verdict setup before session e.ask)) pre
    ∙ ap (kind_verdict setup before session) is ∙ sym (free_is setup before session asks.Banner refl)

pub import_permitted : (setup : Settings) (journal : List Event) (worker session : ℕ) (s : State) (before : List Event)
    (e : Event) → At setup worker session s before → Comes setup journal before e → e.worker ≡ worker → s.phase ≡ User
    → s.imported ≡ false → s.asked < setup.requests → e.ask ≡ asks.Import → e.decision ≡ Permit 0
import_permitted setup journal worker session s before e at comes own in_user new few is =
    decided setup journal worker session s before e kinds.Import false at comes own (ap came_by_frame is)
    (ap is_over_phase in_user) few (ap kind_of is) (at.imported ∙ new)
    ∙ ap (λ p. cell_decision (table_row p kinds.Import) false e.ask (kind_verdict setup before session e.ask)) in_user
    ∙ ap (kind_verdict setup before session) is ∙ sym (free_is setup before session asks.Import refl)

-- ---- the login

-- a CHALLENGE for a user that can log in, and whom no other session holds within the hold
pub challenge_permitted : (setup : Settings) (journal : List Event) (worker session : ℕ) (s : State)
    (before : List Event) (e : Event) (user : Name) (now : ℕ) (account : Account) → At setup worker session s before
    → Comes setup journal before e → e.worker ≡ worker → s.phase ≡ Pre → s.asked < setup.requests
    → s.tried < setup.tries
    → e.ask ≡ asks.Challenge user now → account_of setup user ≡ Some account → is_live before account ≡ true
    → is_held setup before session user now ≡ false → e.decision ≡ Permit (current_sequence before account - 1)
unfolding kind_verdict challenge_verdict
challenge_permitted setup journal worker session s before e user now account at comes own pre few tries is found live
    free =
    let had = has_event before session (permits_kind kinds.Challenge) in
    let untired : nat_le setup.tries (count_of before session is_denied_reply) ≡ false = ap (nat_le setup.tries)
    at.tries ∙ below s.tried setup.tries tries in
    decided setup journal worker session s before e kinds.Challenge had at comes own (ap came_by_frame is)
    (ap is_over_phase pre) few (ap kind_of is) refl
    ∙ ap (λ p. cell_decision (table_row p kinds.Challenge) had e.ask (kind_verdict setup before session e.ask)) pre
    ∙ ap (kind_verdict setup before session) is
    ∙ ap (λ b. cond b (Deny 8 setup.tries) (account_verdict setup before session user now (account_of setup user)))
    untired
    ∙ ap (account_verdict setup before session user now) found
    ∙ ap (λ b. cond (not b) (decoy_challenge setup user)
    (cond (is_held setup before session user now) (Deny 12 (session_taking (last_taking_of before user)))
    (Permit (current_sequence before account - 1)))) live
    ∙ ap (λ b. cond b (Deny 12 (session_taking (last_taking_of before user)))
    (Permit (current_sequence before account - 1))) free where
      below : (a b : ℕ) → a < b → nat_le b a ≡ false
      below a b lt = grind (arith, nat_tests, lt)

-- one of the readings passes
pub record Passes (test : ℕ → Bool) (readings : List ℕ) : Type 0 where
  pub password : ℕ
  pub found : find test readings ≡ Some password
  pub passes : test password ≡ true

pub passes : (test : ℕ → Bool) (readings : List ℕ) → list_any test readings ≡ true → Passes test readings
passes test [] any = absurd cc
passes test (x ∷ xs) any = by_test (λ h. passes test xs h) (test x) refl (list_any test (x ∷ xs)) refl any where
  by_test : (list_any test xs ≡ true → Passes test xs) → (b : Bool) → test x ≡ b → (c : Bool)
      → (test x || list_any test xs) ≡ c → c ≡ true → Passes test (x ∷ xs)
  by_test others true is c same any' =
      record { password = x; found = ap (λ b. cond b (Some x) (find test xs)) is; passes = is }
  by_test others false is c same any' =
      let p = others (sym (ap (λ b. b || list_any test xs) is) ∙ same ∙ any') in record
      { password = p.password; found = ap (λ b. cond b (Some x) (find test xs)) is ∙ p.found; passes = p.passes }

any_from : (test : ℕ → Bool) (xs : List ℕ) (password : ℕ) → find test xs ≡ Some password → list_any test xs ≡ true
any_from test [] password h = absurd cc
any_from test (x ∷ xs) password h = by_test (λ g. any_from test xs password g) (test x) refl h where
  by_test : (find test xs ≡ Some password → list_any test xs ≡ true) → (b : Bool) → test x ≡ b
      → cond b (Some x) (find test xs) ≡ Some password → (test x || list_any test xs) ≡ true
  by_test others true t h' = ap (λ b. b || list_any test xs) t
  by_test others false t h' = ap (λ b. b || list_any test xs) t ∙ others h'

some_readings : (test : ℕ → Bool) (readings : List ℕ) → list_any test readings ≡ true → eqb (length readings) 0 ≡ false
some_readings test [] any = absurd cc
some_readings test (x ∷ xs) any = grind (arith, nat_tests)

-- a REPLY of the session that holds the user, with the next password
pub reply_permitted : (setup : Settings) (journal : List Event) (worker session : ℕ) (s : State) (before : List Event)
    (e : Event) (words hex : Option ℕ) (user : Name) (account : Account) → At setup worker session s before
    → Comes setup journal before e → e.worker ≡ worker → s.phase ≡ Challenged → s.asked < setup.requests
    → e.ask ≡ asks.Reply words hex → challenged_user before session ≡ Some user → was_decoyed before session ≡ false
    → holder_of before user ≡ Some session → account_of setup user ≡ Some account
    → (p : Passes (is_next_password before account) (readings words hex)) → e.decision ≡ Permit p.password
reply_permitted setup journal worker session s before e words hex user account at comes own phase few is challenged
    no_decoy holder found p =
    let had = has_event before session (permits_kind kinds.Reply) in
    let holds : is_holder session (holder_of before user) ≡ true = ap (is_holder session) holder
    ∙ eq-eqb session session refl in
    let some : eqb (length (readings words hex)) 0 ≡ false = some_readings (is_next_password before account)
    (readings words hex) (any_from (is_next_password before account) (readings words hex) p.password p.found) in
    decided setup journal worker session s before e kinds.Reply had at comes own (ap came_by_frame is)
    (ap is_over_phase phase) few (ap kind_of is) refl
    ∙ ap (λ q. cell_decision (table_row q kinds.Reply) had e.ask (kind_verdict setup before session e.ask)) phase
    ∙ ap (kind_verdict setup before session) is
    ∙ sym (reply_is setup before session words hex user (user_verdict setup before session (readings words hex) user)
    no_decoy challenged refl)
    ∙ rw (holds, some, found, p.found) refl

-- an EXPORT after it
pub export_permitted : (setup : Settings) (journal : List Event) (worker session : ℕ) (s : State) (before : List Event)
    (e : Event) (len : ℕ) → At setup worker session s before → Comes setup journal before e → e.worker ≡ worker
    → s.phase ≡ Verified → s.asked < setup.requests → e.ask ≡ asks.Export len
    → has_event before session (permits_kind kinds.Export) ≡ false
    → (value : ℕ) × (e.decision ≡ Permit value)
unfolding kind_verdict
export_permitted setup journal worker session s before e len at comes own phase few is new = (
  _,
  decided setup journal worker session s before e kinds.Export false at comes own (ap came_by_frame is)
      (ap is_over_phase phase) few (ap kind_of is) new
      ∙ ap (λ p. cell_decision (table_row p kinds.Export) false e.ask (kind_verdict setup before session e.ask)) phase
      ∙ ap (kind_verdict setup before session) is,
)
