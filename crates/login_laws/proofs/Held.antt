-- A user that a session holds, after one more event.
use Rattle.std.proofs.Common.{◌≡◌, ◌≢◌, ℕ, ◌+◌, ◌-◌, ◌<◌, true, false, not, ◌||◌, cond, eqb, nat_le, nat_lt, List, []}
use Rattle.std.proofs.Common.{◌∷◌, ◌++◌, Option, Some, None, refl, sym, ap, subst, ◌∙◌, arith}
use Rattle.std.proofs.lemmas.Bool.{and_from, and_parts, false_from_ne_true, false≢true, ne_eqb}
use Rattle.std.proofs.lemmas.Bool.Decides.{nat_tests}
use Rattle.request_catalogue.specs.declared.kind.Kind.TheVariants as kinds
use Rattle.request_catalogue.specs.declared.texts.Name.{Name}
use Rattle.policy_model.specs.declared.account.Account.{Account}
use Rattle.policy_model.specs.declared.event.Ask.{Ask}
use Rattle.policy_model.specs.declared.event.Ask.TheVariants as asks
use Rattle.policy_model.specs.declared.event.Decision.TheVariants.{Permit, Deny}
use Rattle.policy_model.specs.declared.event.Event.{Event}
use Rattle.policy_model.specs.Asks.{accepts, came_by_frame, is_denied_reply, is_permit, leaves, moment_of, reserves}
use Rattle.policy_model.specs.Asks.{takes_user, value_of}
use Rattle.policy_model.specs.Cases.{is_challenge_for, is_holder, is_other, taking_moment}
use Rattle.policy_model.specs.Journal.{ask_count, count_of}
use Rattle.policy_model.specs.Legal.{IsLegal, IsNext}
use Rattle.policy_model.specs.Logins.{account_of, current_sequence, holder_of, is_live, last_taking_of, replies_of}
use Rattle.policy_model.specs.Logins.{reply_for, session_taking}
use Rattle.policy_model.specs.Phases.{is_over, phase_of, table_row}
use Rattle.policy_model.specs.Settings.{Settings}
use Rattle.policy_model.specs.Verdict.{account_verdict, challenge_verdict, decoy_challenge, is_held, kind_verdict}
use Rattle.policy_model.specs.Verdict.{request_verdict}
use Rattle.session_laws.specs.Tied.{LeavesUser}
use Rattle.session_laws.proofs.Permits.{new_reply, permit_from, request_permit, row_permit, same_from_same_name}
use Rattle.session_laws.proofs.Permitted.{reserves_from}
use Rattle.session_laws.proofs.Settling.{leaves_user, reserves_live, unaccepted}
use Rattle.login_laws.specs.Login.{ComesWithinHold}
use Rattle.login_laws.proofs.Walk.{Comes}

-- a session holds a user, whose permitted replies so far are these
pub record Holds (session : ℕ) (user : Name) (replies : List ℕ) (before : List Event) : Type 0 where
  pub holder : holder_of before user ≡ Some session
  pub accepted : replies_of before user ≡ replies

pub still_holds : (session : ℕ) (user : Name) (replies : List ℕ) (before : List Event) (e : Event)
    → LeavesUser before e user → Holds session user replies before → Holds session user replies (before ++ e ∷ [])
still_holds session user replies before e leaves held =
    record { holder = leaves.holder ∙ held.holder; accepted = leaves.replies ∙ held.accepted }

-- a permitted CHALLENGE for a user that can log in comes where no other session holds the user within the hold
not_held : (setup : Settings) (before : List Event) (session : ℕ) (ask : Ask) (user : Name) (account : Account)
    (value : ℕ) → is_challenge_for user ask ≡ true → request_verdict setup before session ask ≡ Permit value
    → account_of setup user ≡ Some account → is_live before account ≡ true
    → is_held setup before session user (moment_of ask) ≡ false
unfolding kind_verdict challenge_verdict
not_held setup before session (asks.Challenge name now) user account value is h found live =
    let a = permit_from (eqb session 0 || is_over before session) 6 2 value _ h in
    let b = permit_from (eqb (ask_count before session) setup.requests) 1 setup.requests value _ a.1 in
    let r = row_permit setup before session kinds.Challenge (asks.Challenge name now)
    (table_row (phase_of before session) kinds.Challenge) value b.1 in
    let c = permit_from (nat_le setup.tries (count_of before session is_denied_reply)) 8 setup.tries value _ r.1 in
    let named = subst (λ (u : Name). account_verdict setup before session u now (account_of setup u) ≡ Permit value)
    (same_from_same_name name user is) c.1 in
    let known = sym (ap (account_verdict setup before session user now) found) ∙ named in
    let lives = sym (ap (λ b. cond (not b) (decoy_challenge setup user)
    (cond (is_held setup before session user now) (Deny 12 (session_taking (last_taking_of before user)))
    (Permit (current_sequence before account - 1)))) live) ∙ known in
    (permit_from (is_held setup before session user now) 12 (session_taking (last_taking_of before user)) value _
    lives).0
not_held setup before session _ user account value is h found live = absurd cc

request_challenge : (user : Name) (ask : Ask) → is_challenge_for user ask ≡ true → came_by_frame ask ≡ true
request_challenge user (asks.Challenge name now) h = refl
request_challenge user _ h = absurd cc

other_holder : (session other : ℕ) (o : Option ℕ) → o ≡ Some session → other ≢ session → is_holder other o ≡ false
other_holder session other o is away = ap (is_holder other) is ∙ ne_eqb session other (λ same. away (sym same))

within_is_held : (setup : Settings) (before : List Event) (session other : ℕ) (user : Name) (now : ℕ)
    → holder_of before user ≡ Some session → other ≢ session
    → now < taking_moment (last_taking_of before user) + setup.hold → is_held setup before other user now ≡ true
within_is_held setup before session other user now is away lt =
    and_from (is_other other (holder_of before user))
    (nat_lt now (taking_moment (last_taking_of before user) + setup.hold))
    (ap (is_other other) is ∙ ap not (ne_eqb session other (λ same. away (sym same))))
    (grind (arith, nat_tests, lt))

-- an event of another session, that doesn't ask for the user later than the hold
pub others_leave : (setup : Settings) (journal : List Event) (session : ℕ) (user : Name) (replies : List ℕ)
    (before : List Event) (e : Event) → ComesWithinHold setup before session user e → IsLegal setup before
    → Comes setup journal before e → e.session ≢ session
    → Holds session user replies before → Holds session user replies (before ++ e ∷ [])
others_leave setup journal session user replies before e hold legal comes away held =
    still_holds session user replies before e (leaves_user setup before e user legal comes.next reserves_nobody
    (unreplied (reply_for user (record { before = before; event = e })) refl)
    (λ left. other_holder session e.session (holder_of before user) held.holder away)) held where
      reserves_nobody : reserves user e ≡ false
      reserves_nobody = false_from_ne_true (reserves user e) (λ reserved.
          let live = reserves_live setup before e user comes.next reserved in
          let taken = (reserves_from user e reserved).0 in
          let is = and_parts (is_challenge_for user e.ask) (is_permit e.decision) taken in
          let free = not_held setup before e.session e.ask user live.account (value_of e.decision) is.0
          (request_permit setup before e comes.next (request_challenge user e.ask is.0) is.1) live.numbered.found
          live.live in
          let lt = hold held.holder away is.0 in
          false≢true (sym free ∙ within_is_held setup before session e.session user (moment_of e.ask) held.holder away
          lt))

      unreplied : (o : Option ℕ) → reply_for user (record { before = before; event = e }) ≡ o
          → reply_for user (record { before = before; event = e }) ≡ None
      unreplied None r = r
      unreplied (Some password) r =
          let a = new_reply setup before e user password comes.next r in
          absurd (false≢true (sym (other_holder session e.session (holder_of before user) held.holder away) ∙ a.holds))

-- an event of its own that takes and accepts nobody, by which the session doesn't leave whom it holds
pub own_leaves : (setup : Settings) (session : ℕ) (user : Name) (replies : List ℕ) (before : List Event) (e : Event)
    → IsLegal setup before → IsNext setup before e → takes_user user e ≡ false → accepts e ≡ false → leaves e ≡ false
    → Holds session user replies before → Holds session user replies (before ++ e ∷ [])
own_leaves setup session user replies before e legal next untaken silent stays held =
    still_holds session user replies before e (leaves_user setup before e user legal next reserves_nobody
    (unaccepted before e user silent) (λ left. absurd (false≢true (sym stays ∙ left)))) held where
      reserves_nobody : reserves user e ≡ false
      reserves_nobody =
          false_from_ne_true (reserves user e) (λ reserved. false≢true
          (sym untaken ∙ (reserves_from user e reserved).0))
