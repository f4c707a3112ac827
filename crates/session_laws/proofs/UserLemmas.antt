-- What one more event makes of the user that a session is challenged for and logged in as.
use Rattle.std.proofs.Common.{◌≡◌, ◌≢◌, ℕ, ◌<◌, Bool, true, false, cond, List, [], ◌∷◌, ◌++◌, Option, Some, None, refl, ap, ◌∙◌}
use Rattle.std.specs.Prelude.{nat_le}
use Rattle.policy_model.specs.declared.event.Event.{Event}
use Rattle.policy_model.specs.declared.reading.TheConstants.{DECOYS_FROM}
use Rattle.policy_model.specs.Asks.{accepts, challenge_name, takes, value_of}
use Rattle.policy_model.specs.Journal.{is_own, last_event}
use Rattle.policy_model.specs.Logins.{challenged_user, verified_user, was_decoyed}
use Rattle.policy_model.specs.Cases.{is_decoy, user_named}
use Rattle.policy_model.specs.Runs.{AreNumbered}
use Rattle.policy_model.proofs.LoginLemmas.{challenged_user-push, verified_user-push}
use Rattle.session_laws.proofs.SessionEvents.{last_event-new, last_event-push, other_is, own_is}

-- 1. The user of the last permitted CHALLENGE

pub challenged_user-own : (journal : List Event) (e : Event) (session : ℕ) → e.session ≡ session → challenged_user (journal ++ e ∷ []) session ≡ cond (takes e) (challenge_name e.ask) (challenged_user journal session)
challenged_user-own journal e session own = challenged_user-push journal session e ∙ ap (λ b. cond b (challenge_name e.ask) (challenged_user journal session)) (own_is e session takes own)

-- after an event that isn't a permitted CHALLENGE of the session
pub challenged_user-kept : (journal : List Event) (e : Event) (session : ℕ) → is_own session takes e ≡ false → challenged_user (journal ++ e ∷ []) session ≡ challenged_user journal session
challenged_user-kept journal e session kept = challenged_user-push journal session e ∙ ap (λ b. cond b (challenge_name e.ask) (challenged_user journal session)) kept

pub challenged_user-other : (journal : List Event) (e : Event) (session : ℕ) → e.session ≢ session → challenged_user (journal ++ e ∷ []) session ≡ challenged_user journal session
challenged_user-other journal e session other = challenged_user-kept journal e session (other_is e session takes other)

pub challenged_user-new : (journal : List Event) (last session : ℕ) → AreNumbered journal last → last < session → challenged_user journal session ≡ None
unfolding challenged_user
challenged_user-new journal last session all lt = ap user_named (last_event-new journal last session takes all lt)

-- 2. Whether it was a decoy

decoy_cond : (b : Bool) (e : Event) (o : Option Event) → is_decoy (cond b (Some e) o) ≡ cond b (nat_le DECOYS_FROM (value_of e.decision)) (is_decoy o)
decoy_cond true e o = refl
decoy_cond false e o = refl

pub was_decoyed-push : (journal : List Event) (e : Event) (session : ℕ) → was_decoyed (journal ++ e ∷ []) session ≡ cond (is_own session takes e) (nat_le DECOYS_FROM (value_of e.decision)) (was_decoyed journal session)
unfolding was_decoyed
was_decoyed-push journal e session = ap is_decoy (last_event-push journal e session takes) ∙ decoy_cond (is_own session takes e) e (last_event journal session takes)

pub was_decoyed-own : (journal : List Event) (e : Event) (session : ℕ) → e.session ≡ session → was_decoyed (journal ++ e ∷ []) session ≡ cond (takes e) (nat_le DECOYS_FROM (value_of e.decision)) (was_decoyed journal session)
was_decoyed-own journal e session own = was_decoyed-push journal e session ∙ ap (λ b. cond b (nat_le DECOYS_FROM (value_of e.decision)) (was_decoyed journal session)) (own_is e session takes own)

pub was_decoyed-kept : (journal : List Event) (e : Event) (session : ℕ) → is_own session takes e ≡ false → was_decoyed (journal ++ e ∷ []) session ≡ was_decoyed journal session
was_decoyed-kept journal e session kept = was_decoyed-push journal e session ∙ ap (λ b. cond b (nat_le DECOYS_FROM (value_of e.decision)) (was_decoyed journal session)) kept

pub was_decoyed-other : (journal : List Event) (e : Event) (session : ℕ) → e.session ≢ session → was_decoyed (journal ++ e ∷ []) session ≡ was_decoyed journal session
was_decoyed-other journal e session other = was_decoyed-kept journal e session (other_is e session takes other)

pub was_decoyed-new : (journal : List Event) (last session : ℕ) → AreNumbered journal last → last < session → was_decoyed journal session ≡ false
unfolding was_decoyed
was_decoyed-new journal last session all lt = ap is_decoy (last_event-new journal last session takes all lt)

-- 3. The user that the session is logged in as

pub verified_user-own : (journal : List Event) (e : Event) (session : ℕ) → e.session ≡ session → verified_user (journal ++ e ∷ []) session ≡ cond (accepts e) (challenged_user journal session) (verified_user journal session)
verified_user-own journal e session own = verified_user-push session journal e ∙ ap (λ b. cond b (challenged_user journal session) (verified_user journal session)) (own_is e session accepts own)

-- after an event that isn't a permitted REPLY of the session
pub verified_user-kept : (journal : List Event) (e : Event) (session : ℕ) → is_own session accepts e ≡ false → verified_user (journal ++ e ∷ []) session ≡ verified_user journal session
verified_user-kept journal e session kept = verified_user-push session journal e ∙ ap (λ b. cond b (challenged_user journal session) (verified_user journal session)) kept

pub verified_user-other : (journal : List Event) (e : Event) (session : ℕ) → e.session ≢ session → verified_user (journal ++ e ∷ []) session ≡ verified_user journal session
verified_user-other journal e session other = verified_user-kept journal e session (other_is e session accepts other)
