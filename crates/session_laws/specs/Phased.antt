-- Inner: what one more event makes of the phase of a session.
use Rattle.std.specs.Prelude.{ℕ, ◌≡◌, ◌≢◌, false, List, [], ◌∷◌, ◌++◌, if◌then◌else◌}
use Rattle.policy_model.specs.declared.event.Event.{Event}
use Rattle.policy_model.specs.declared.phase.Phase.{Phase}
use Rattle.policy_model.specs.declared.phase.Phase.TheVariants.{Pre, Challenged, Verified, User, Over}
use Rattle.policy_model.specs.Asks.{accepts, ends_session, exports, is_login_step, opens, takes}
use Rattle.policy_model.specs.Phases.{phase_of}

-- an event of a session before its login: it ends, its user's child runs, it
-- is logged in, it has challenged or has given up, or it stays
abbrev pub early_after : Phase → Event → Phase
early_after phase e =
    if ends_session e then Over
    else (if exports e then User
    else (if accepts e then Verified
    else (if is_login_step e then (if takes e then Challenged else Pre) else phase)))

-- what an event of a session that doesn't open it makes of its phase
abbrev pub phase_after : Phase → Event → Phase
phase_after Over e = Over
phase_after User e = if ends_session e then Over else User
phase_after Verified e = if ends_session e then Over else (if exports e then User else Verified)
phase_after phase e = early_after phase e

-- the phases of all sessions after one more event: that of its own session where it doesn't open it, and of any other
pub record IsPhasedBy (journal : List Event) (e : Event) : Type 0 where
  pub own : opens e ≡ false → phase_of (journal ++ e ∷ []) e.session ≡ phase_after (phase_of journal e.session) e
  pub other : (session : ℕ) → e.session ≢ session → phase_of (journal ++ e ∷ []) session ≡ phase_of journal session
