-- Inner: what one event makes of the core.
use Rattle.std.specs.Prelude.{◌≡◌, Bool, true, false, List, [], ◌∷◌, ◌++◌, if◌then◌else◌}
use Rattle.policy_model.specs.declared.event.Decision.TheVariants.{Lost}
use Rattle.policy_model.specs.declared.event.Event.{Event}
use Rattle.policy_model.specs.Asks.{is_begin}
use Rattle.session_core.specs.Parts.{CoreParts}
use Rattle.session_core.specs.Standing.{Stands}

-- the event where its line is lost: nothing was decided, and an opening has no session
abbrev pub lost_of : Event → Event
lost_of e = record e { session = if is_begin e.ask then 0 else e.session; decision = Lost }

-- the event is the next one and the core stands after it; or it is lost and the core is as it was
pub record Settles (lost : Bool) (following : Event) (old new : CoreParts) (e : Event) : Type 0 where
  pub next : lost ≡ false → e ≡ following
  pub stands : lost ≡ false → (journal : List Event) → Stands old journal → Stands new (journal ++ e ∷ [])
  pub nowhere : lost ≡ true → e ≡ lost_of following
  pub same : lost ≡ true → new ≡ old
