-- Inner: steps of the search through a log.
use Rattle.std.specs.Prelude.{ℕ, ◌≡◌, ◌≢◌, ◌==◌, ◌&&◌, ◌||◌, not, Bool, true, false, List, [], ◌∷◌, ◌++◌, nat_le}
use Rattle.std.specs.Prelude.{if◌then◌else◌}
use Rattle.request_catalogue.specs.declared.rules.TheConstants.{NO_MATCH, NO_READING, PASSWORD_USED, USER_HELD}
use Rattle.policy_model.specs.declared.event.Ask.{Ask}
use Rattle.policy_model.specs.declared.event.Ask.TheVariants as asks
use Rattle.policy_model.specs.declared.event.Decision.{Decision}
use Rattle.policy_model.specs.declared.event.Decision.TheVariants.{Permit, Deny, Lost}
use Rattle.policy_model.specs.declared.event.Event.{Event}
use Rattle.policy_model.specs.Journal.{events_of, is_turn_of, open_session_of}

-- a decision that may rest on what stands before its session: a permit, or a denial by one of the rules 12 to 16
abbrev pub rests_on_accounts : Decision → Bool
rests_on_accounts (Permit value) = true
rests_on_accounts (Deny rule detail) = nat_le USER_HELD rule && nat_le rule NO_MATCH
rests_on_accounts Lost = false

-- a denial for lack of a reading
abbrev pub is_no_reading : Decision → Bool
is_no_reading (Deny rule detail) = rule == NO_READING
is_no_reading _ = false

-- a denial that may be one on a reply whose readings decide, after a challenge that names a decoy or doesn't
abbrev pub may_be_denied : ℕ → ℕ → Bool → Bool
may_be_denied rule detail decoyed =
    detail == 0 && (rule == NO_READING || rule == NO_MATCH || rule == PASSWORD_USED && not decoyed)

-- an ask whose verdict rests on its own session alone, and not on a user's logins or on how many sessions were opened
abbrev pub is_local : Ask → Bool
is_local asks.Begin = false
is_local (asks.Challenge user now) = false
is_local (asks.Reply words hex) = false
is_local (asks.Info number) = false
is_local _ = true

-- a list of events says of a worker which session it has open, and has all events of that session, as a log does
pub record IsRecent (recent : List Event) (worker : ℕ) (events : List Event) : Type 0 where
  pub session : open_session_of recent worker ≡ open_session_of events worker
  pub own : open_session_of events worker ≢ 0 → events_of recent (open_session_of events worker) ≡ events_of events
      (open_session_of events worker)

-- what an event of a worker makes of such a list: a permitted opening or end begins it anew
abbrev pub own_after : Event → List Event → List Event
own_after e recent = if is_turn_of e.worker e then e ∷ [] else recent ++ e ∷ []

-- what an event makes of the list of a worker
abbrev pub recent_after : ℕ → Event → List Event → List Event
recent_after worker e recent = if worker == e.worker then own_after e recent else recent
