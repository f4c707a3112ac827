-- Inner: the workers' open sessions, and a session that was just opened.
use Rattle.std.specs.Prelude.{ℕ, ◌≡◌, ◌≢◌, false, List, [], None}
use Rattle.request_catalogue.specs.declared.kind.Kind.{Kind}
use Rattle.policy_model.specs.declared.event.Event.{Event}
use Rattle.policy_model.specs.declared.phase.Phase.TheVariants.{Pre}
use Rattle.policy_model.specs.Asks.{is_denied_reply, permits_kind}
use Rattle.policy_model.specs.Handles.{live_handles_of}
use Rattle.policy_model.specs.Journal.{ask_count, count_of, has_event, open_session_of}
use Rattle.policy_model.specs.Logins.{challenged_user, was_decoyed}
use Rattle.policy_model.specs.Phases.{phase_of}

-- the open sessions of two workers differ, where the first has one
pub record AreApart (journal : List Event) : Type 0 where
  pub apart : (v w : ℕ) → v ≢ w → open_session_of journal v ≢ 0 → open_session_of journal v ≢ open_session_of journal w

-- a session was just opened: it stands before its login, has asked for
-- nothing, was permitted nothing, and has no user and no handle
pub record IsFresh (journal : List Event) (session : ℕ) : Type 0 where
  pub phase : phase_of journal session ≡ Pre
  pub asked : ask_count journal session ≡ 0
  pub tries : count_of journal session is_denied_reply ≡ 0
  pub bits : (kind : Kind) → has_event journal session (permits_kind kind) ≡ false
  pub user : challenged_user journal session ≡ None
  pub decoyed : was_decoyed journal session ≡ false
  pub handles : live_handles_of journal session ≡ []
