-- Inner: what one more event makes of what is counted of a session, and of its users.
use Rattle.std.specs.Prelude.{ℕ, ◌≡◌, ◌+◌, ◌||◌, Bool, List, [], ◌∷◌, ◌++◌, nat_le, if◌then◌else◌}
use Rattle.policy_model.specs.declared.event.Event.{Event}
use Rattle.policy_model.specs.declared.reading.TheConstants.{DECOYS_FROM}
use Rattle.policy_model.specs.Asks.{accepts, came_by_frame, challenge_name, takes, value_of}
use Rattle.policy_model.specs.Journal.{ask_count, count_of, has_event}
use Rattle.policy_model.specs.Logins.{challenged_user, verified_user, was_decoyed}

-- an event counts for its own session
pub record CountsForItsOwn (journal : List Event) (e : Event) : Type 0 where
  pub asked : ask_count (journal ++ e ∷ []) e.session ≡ ask_count journal e.session + (if came_by_frame e.ask then 1
      else 0)
  pub counted : (test : Event → Bool) → count_of (journal ++ e ∷ []) e.session test ≡ count_of journal e.session test
      + (if test e then 1 else 0)
  pub seen : (test : Event → Bool) → has_event (journal ++ e ∷ []) e.session test ≡ (has_event journal e.session test
      || test e)
  pub challenged : challenged_user (journal ++ e ∷ []) e.session ≡ (if takes e then challenge_name e.ask
      else challenged_user journal e.session)
  pub decoyed : was_decoyed (journal ++ e ∷ []) e.session ≡ (if takes e then nat_le DECOYS_FROM (value_of e.decision)
      else was_decoyed journal e.session)
  pub verified : verified_user (journal ++ e ∷ []) e.session ≡ (if accepts e then challenged_user journal e.session
      else verified_user journal e.session)

-- and leaves any other as it is
pub record LeavesOthers (journal : List Event) (e : Event) (session : ℕ) : Type 0 where
  pub asked : ask_count (journal ++ e ∷ []) session ≡ ask_count journal session
  pub counted : (test : Event → Bool) → count_of (journal ++ e ∷ []) session test ≡ count_of journal session test
  pub seen : (test : Event → Bool) → has_event (journal ++ e ∷ []) session test ≡ has_event journal session test
  pub challenged : challenged_user (journal ++ e ∷ []) session ≡ challenged_user journal session
  pub decoyed : was_decoyed (journal ++ e ∷ []) session ≡ was_decoyed journal session
  pub verified : verified_user (journal ++ e ∷ []) session ≡ verified_user journal session
