-- Inner: what one more event makes of a session's live handles, and what holds of them in every legal journal.
use Rattle.std.specs.Prelude.{ℕ, ◌≡◌, ◌≢◌, ◌≤◌, ◌<◌, ◌==◌, true, not, List, [], ◌∷◌, ◌++◌, filter, length, map, None}
use Rattle.std.specs.Prelude.{if◌then◌else◌}
use Rattle.std.specs.List.{list_all}
use Rattle.policy_model.specs.declared.event.Event.{Event}
use Rattle.policy_model.specs.Asks.{closes_file, opens_file}
use Rattle.policy_model.specs.Cases.{handle_of}
use Rattle.policy_model.specs.Handles.{free_handle_of, handle_opening, live_handles_of}
use Rattle.policy_model.specs.Settings.{are_distinct, is_number}

-- those that an event of the session doesn't close, and after them the one that it opens
abbrev pub handles_after : List Event → Event → List Event
handles_after live e = filter (λ o. not (closes_file (handle_of o) e)) live ++ (if opens_file e then e ∷ [] else [])

-- the live handles of all sessions after one more event
pub record HandlesGoOn (journal : List Event) (e : Event) : Type 0 where
  pub own : live_handles_of (journal ++ e ∷ []) e.session ≡ handles_after (live_handles_of journal e.session) e
  pub other : (session : ℕ) → e.session ≢ session → live_handles_of (journal ++ e ∷ []) session ≡ live_handles_of
      journal session

-- a session has at most 8 live handles, each of 1 to 8, and no two are the same
pub record HandlesDiffer (journal : List Event) (session : ℕ) : Type 0 where
  pub few : length (live_handles_of journal session) ≤ 8
  pub within : list_all (λ o. is_number 1 8 (handle_of o)) (live_handles_of journal session) ≡ true
  pub distinct : are_distinct ◌==◌ (map handle_of (live_handles_of journal session)) ≡ true

-- a permitted OPEN finds fewer than 8, and gives the least that isn't live
pub record GivesLeast (journal : List Event) (e : Event) : Type 0 where
  pub room : length (live_handles_of journal e.session) < 8
  pub least : handle_of e ≡ free_handle_of journal e.session
  pub within : is_number 1 8 (handle_of e) ≡ true
  pub free : handle_opening journal e.session (handle_of e) ≡ None
