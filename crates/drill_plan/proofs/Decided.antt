-- What is decided of the requests of a drill, by where their session stands.
use Rattle.std.proofs.Common.{◌≡◌, ◌≢◌, ℕ, ◌-◌, ◌<◌, Bool, true, false, not, ◌||◌, cond, eqb, nat_le, List, length, Option, Some, None, refl, sym, ap, ◌∙◌, arith}
use Rattle.std.specs.Prelude.{is_none, ◌==◌}
use Rattle.std.specs.List.{find, list_any}
use Rattle.std.proofs.lemmas.Bool.Decides.{nat_tests}
use Rattle.request_catalogue.specs.declared.kind.Kind.{Kind}
use Rattle.request_catalogue.specs.declared.texts.Label.{Label}
use Rattle.request_catalogue.specs.declared.texts.Name.{Name}
use Rattle.policy_model.specs.declared.account.Account.{Account}
use Rattle.policy_model.specs.declared.account.Grant.{Grant}
use Rattle.policy_model.specs.declared.event.Ask.{Ask}
use Rattle.policy_model.specs.declared.event.Ask.TheVariants as asks
use Rattle.policy_model.specs.declared.event.Decision.{Decision}
use Rattle.policy_model.specs.declared.event.Decision.TheVariants.{Permit, Deny}
use Rattle.policy_model.specs.declared.event.Event.{Event}
use Rattle.policy_model.specs.declared.phase.Phase.{Phase}
use Rattle.policy_model.specs.Asks.{came_by_frame, mode_of, is_denied_reply, is_permit, is_violation, kind_of}
use Rattle.policy_model.specs.Handles.{free_handle_of, handle_opening, live_handles_of}
use Rattle.policy_model.specs.Journal.{count_of}
use Rattle.policy_model.specs.Logins.{account_of, challenged_user, current_sequence, holder_of, is_live, last_taking_of, session_taking, verified_user, was_accepted, was_decoyed}
use Rattle.policy_model.specs.Phases.{table_row}
use Rattle.policy_model.specs.Settings.{Settings, same_label}
use Rattle.policy_model.specs.Verdict.{allows, decoy_challenge, account_verdict, challenge_verdict, close_verdict, handle_verdict, is_held, is_next_password, kind_verdict, open_verdict, own_verdict, readings, reply_verdict, verdict_of}
use Rattle.policy_model.specs.Cases.{account_named, is_holder, grant_verdict, grants_of, is_other, login_verdict, matching_verdict, readings_verdict, use_verdict}
use Rattle.policy_model.proofs.Runs.{next_decision}
use Rattle.session_laws.specs.Judged.{cell_decision, is_over_phase, request_decision}
use Rattle.session_laws.proofs.Judging.{cell_is, request_is}
use Rattle.drill_plan.proofs.Walk.{At, Comes, State}

-- a request of a session that goes on and has asks left is judged by its own verdict
unspent : (session requests : ℕ) (phase : Phase) (asked : ℕ) (ask : Ask) (own : Decision) → session ≢ 0 → is_over_phase phase ≡ false → asked < requests → request_decision requests session phase asked ask own ≡ own
unspent session requests phase asked ask own some live few =
    let number : eqb session 0 ≡ false = grind (arith, nat_tests) in
    let below : eqb asked requests ≡ false = grind (arith, nat_tests) in
    rw (number, live, below) refl

judged : (setup : Settings) (worker session : ℕ) (before : List Event) (s : State) (e : Event) → At setup worker session before s → Comes setup before e → e.worker ≡ worker → came_by_frame e.ask ≡ true → is_over_phase s.phase ≡ false → s.asked < setup.requests
    → e.decision ≡ own_verdict setup before session e.ask
judged setup worker session before s e at comes own request live few =
    next_decision setup before e comes.next comes.kept ∙ ap (λ (w : ℕ). verdict_of setup before w e.ask) own
    ∙ sym (request_is setup before worker session s.phase s.asked e.ask (own_verdict setup before session e.ask) request (sym at.opened) (λ some. sym at.phased) (λ some. sym at.counted) (λ some live. refl))
    ∙ unspent session setup.requests s.phase s.asked e.ask (own_verdict setup before session e.ask) at.some live few

-- and by its cell of the table
pub decided : (setup : Settings) (worker session : ℕ) (before : List Event) (s : State) (e : Event) (kind : Kind) → At setup worker session before s → Comes setup before e → e.worker ≡ worker → came_by_frame e.ask ≡ true → is_over_phase s.phase ≡ false → s.asked < setup.requests
    → kind_of e.ask ≡ Some kind → e.decision ≡ cell_decision (table_row s.phase kind) (s.had kind) e.ask (kind_verdict setup before session e.ask)
decided setup worker session before s e kind at comes own request live few is =
    judged setup worker session before s e at comes own request live few
    ∙ sym (cell_is setup before session s.phase (s.had kind) e.ask kind (kind_verdict setup before session e.ask) is (sym at.phased) (sym (at.bits kind)) (λ permitted. refl))

-- ---- no rule of one kind of request is a violation

pub record IsMild (decision : Decision) : Type 0 where
  pub unviolated : is_violation decision ≡ false

either : (b : Bool) (x y : Decision) → IsMild x → IsMild y → IsMild (cond b x y)
either true x y p q = p
either false x y p q = q

mild_use : (handle needed : ℕ) (o : Option Event) → IsMild (use_verdict handle needed o)
mild_use handle needed None = record { unviolated = refl }
mild_use handle needed (Some e) = either (allows (mode_of e.ask) needed) (Permit 0) (Deny 18 handle) (record { unviolated = refl }) (record { unviolated = refl })

mild_grant : (free mode : ℕ) (o : Option Grant) → IsMild (grant_verdict free mode o)
mild_grant free mode None = record { unviolated = refl }
mild_grant free mode (Some grant) = either (allows grant.mode mode) (Permit free) (Deny 21 mode) (record { unviolated = refl }) (record { unviolated = refl })

mild_account : (setup : Settings) (journal : List Event) (session : ℕ) (user : Name) (now : ℕ) (o : Option Account) → IsMild (account_verdict setup journal session user now o)
mild_account setup journal session user now None = record { unviolated = refl }
mild_account setup journal session user now (Some account) = either (not (is_live journal account)) (decoy_challenge setup user) (cond (is_held setup journal session user now) (Deny 12 (session_taking (last_taking_of journal user))) (Permit (current_sequence journal account - 1))) (record { unviolated = refl }) (either (is_held setup journal session user now) (Deny 12 (session_taking (last_taking_of journal user))) (Permit (current_sequence journal account - 1)) (record { unviolated = refl }) (record { unviolated = refl }))

pub mild_challenge : (setup : Settings) (journal : List Event) (session : ℕ) (user : Name) (now : ℕ) → IsMild (kind_verdict setup journal session (asks.Challenge user now))
unfolding kind_verdict challenge_verdict
mild_challenge setup journal session user now = either (nat_le setup.tries (count_of journal session is_denied_reply)) (Deny 8 setup.tries) (account_verdict setup journal session user now (account_of setup user)) (record { unviolated = refl }) (mild_account setup journal session user now (account_of setup user))

mild_matching : (journal : List Event) (account : Account) (passwords : List ℕ) (o : Option ℕ) → IsMild (matching_verdict journal account passwords o)
mild_matching journal account passwords None = either (list_any (was_accepted journal account) passwords) (Deny 15 0) (Deny 16 0) (record { unviolated = refl }) (record { unviolated = refl })
mild_matching journal account passwords (Some password) = record { unviolated = refl }

mild_readings : (journal : List Event) (passwords : List ℕ) (o : Option Account) → IsMild (readings_verdict journal passwords o)
mild_readings journal passwords None = record { unviolated = refl }
mild_readings journal passwords (Some account) = mild_matching journal account passwords (find (is_next_password journal account) passwords)

mild_login : (setup : Settings) (journal : List Event) (session : ℕ) (passwords : List ℕ) (o : Option Name) → IsMild (login_verdict setup journal session passwords o)
mild_login setup journal session passwords None = record { unviolated = refl }
mild_login setup journal session passwords (Some user) =
    let held : Bool = not (is_holder session (holder_of journal user)) in
    let none : Bool = length passwords == 0 in
    let read : Decision = readings_verdict journal passwords (account_of setup user) in
    either held (Deny 13 (session_taking (last_taking_of journal user))) (cond none (Deny 14 0) read) (record { unviolated = refl }) (either none (Deny 14 0) read (record { unviolated = refl }) (mild_readings journal passwords (account_of setup user)))

pub mild_reply : (setup : Settings) (journal : List Event) (session : ℕ) (words hex : Option ℕ) → IsMild (kind_verdict setup journal session (asks.Reply words hex))
unfolding kind_verdict reply_verdict
mild_reply setup journal session words hex =
    let none : Bool = length (readings words hex) == 0 in
    either (was_decoyed journal session) (cond none (Deny 14 0) (Deny 16 0)) (login_verdict setup journal session (readings words hex) (challenged_user journal session)) (either none (Deny 14 0) (Deny 16 0) (record { unviolated = refl }) (record { unviolated = refl })) (mild_login setup journal session (readings words hex) (challenged_user journal session))

pub mild_read : (setup : Settings) (journal : List Event) (session handle offset max : ℕ) → IsMild (kind_verdict setup journal session (asks.ReadAt handle offset max))
unfolding kind_verdict handle_verdict
mild_read setup journal session handle offset max = either (handle == 0) (Permit 0) (use_verdict handle 1 (handle_opening journal session handle)) (record { unviolated = refl }) (mild_use handle 1 (handle_opening journal session handle))

pub mild_write : (setup : Settings) (journal : List Event) (session handle offset len : ℕ) → IsMild (kind_verdict setup journal session (asks.WriteAt handle offset len))
unfolding kind_verdict handle_verdict
mild_write setup journal session handle offset len = either (handle == 0) (Permit 0) (use_verdict handle 2 (handle_opening journal session handle)) (record { unviolated = refl }) (mild_use handle 2 (handle_opening journal session handle))

pub mild_open : (setup : Settings) (journal : List Event) (session mode : ℕ) (name : Label) → IsMild (kind_verdict setup journal session (asks.OpenFile mode name))
unfolding kind_verdict open_verdict
mild_open setup journal session mode name =
    let grant : Option Grant = find (λ g. same_label g.name name) (grants_of (account_named setup (verified_user journal session))) in
    either (nat_le 8 (length (live_handles_of journal session))) (Deny 19 8) (grant_verdict (free_handle_of journal session) mode grant) (record { unviolated = refl }) (mild_grant (free_handle_of journal session) mode grant)

pub mild_close : (setup : Settings) (journal : List Event) (session handle : ℕ) → IsMild (kind_verdict setup journal session (asks.CloseFile handle))
unfolding kind_verdict close_verdict
mild_close setup journal session handle = either (handle == 0 || is_none (handle_opening journal session handle)) (Deny 17 handle) (Permit 0) (record { unviolated = refl }) (record { unviolated = refl })

-- an EXPORT that the table allows is permitted
pub exported : (setup : Settings) (journal : List Event) (session len : ℕ) → is_permit (kind_verdict setup journal session (asks.Export len)) ≡ true
unfolding kind_verdict
exported setup journal session len = refl

-- a CHALLENGE for a user that no other session holds is permitted where no reply of the session was denied
pub taken : (setup : Settings) (journal : List Event) (session : ℕ) (user : Name) (now : ℕ) → nat_le setup.tries 0 ≡ false → count_of journal session is_denied_reply ≡ 0 → is_other session (holder_of journal user) ≡ false → is_permit (kind_verdict setup journal session (asks.Challenge user now)) ≡ true
unfolding kind_verdict challenge_verdict
taken setup journal session user now some untried free = rw (untried, some) (by_account (account_of setup user)) where
  by_cond : (b : Bool) (x y : Decision) → is_permit x ≡ true → is_permit y ≡ true → is_permit (cond b x y) ≡ true
  by_cond true x y p q = p
  by_cond false x y p q = q

  by_account : (o : Option Account) → is_permit (account_verdict setup journal session user now o) ≡ true
  by_account None = refl
  by_account (Some account) = by_cond (not (is_live journal account)) _ _ refl (rw free refl)
