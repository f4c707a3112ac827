-- Believed: a worker's steps at their places in the journal.
use Rattle.std.specs.Prelude.{ℕ, ◌==◌, List, map, filter, Option}
use Rattle.std.specs.List.{flat_map}
use Rattle.imsg_frame.specs.Message.{Message}
use Rattle.outside.specs.declared.act.Act.{Act}
use Rattle.policy_model.specs.declared.event.Event.{Event}
use Rattle.policy_model.specs.Journal.{Place, places_of}

-- an event at its place, with the child's message that brought it, if one did, and the operations done for it
pub record Step : Type 0 where
  pub place : Place
  pub message : Option Message
  pub acts : List Act

-- the places of a worker's events in a journal
abbrev pub worker_places : List Event → ℕ → List Place
worker_places journal worker = filter (λ place. place.event.worker == worker) (places_of journal)

-- the places of these steps in the journal
abbrev pub step_places : List Step → List Place
step_places steps = map (λ s. s.place) steps

-- the operations of these steps, in order
abbrev pub step_acts : List Step → List Act
step_acts steps = flat_map (λ s. s.acts) steps
