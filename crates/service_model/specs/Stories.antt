-- Believed: all that a worker did, against what its post reports.
use Rattle.std.specs.Prelude.{◌≡◌, ℕ, ◌+◌, Bool, true, false, List, [], ◌∷◌, ◌++◌, map}
use Rattle.std.specs.List.{flat_map, list_any, AllByRecursion}
use Rattle.outside.specs.declared.act.Act.{Act}
use Rattle.outside.specs.declared.act.Act.TheVariants.{Accept}
use Rattle.outside.specs.declared.act.Accepted.TheVariants as accepted
use Rattle.outside.specs.declared.act.Talk.{Talk}
use Rattle.outside.specs.Scene.{Scene, bytes_at}
use Rattle.service_model.specs.Places.{step_acts}
use Rattle.service_model.specs.Parts.{Part}
use Rattle.service_model.specs.Sittings.{Sitting, all_steps, ends_worker}

-- how a worker stopped: by an accept that found no connection or failed, or without one
pub data LastAccept : Type 0 where
  Unasked : LastAccept
  NoneLeft : LastAccept
  AcceptFailed : LastAccept

-- the operation of a last accept, if there was one
abbrev pub last_acts : LastAccept → List Act
last_acts Unasked = []
last_acts NoneLeft = Accept accepted.NoneLeft ∷ []
last_acts AcceptFailed = Accept accepted.Failed ∷ []

-- an accept that brought no connection
abbrev pub is_stop : Act → Bool
is_stop (Accept accepted.NoneLeft) = true
is_stop (Accept accepted.Failed) = true
is_stop _ = false

-- what each child of these sessions had, in order
abbrev pub parts_of : List Sitting → List Part
parts_of sittings = flat_map (λ s. s.parts) sittings

-- what a post reports of one child: its role, the bytes taken from it and sent to it, and the receivings
abbrev pub talk_of : Part → Talk
talk_of part =
    record { role = part.role; taken = part.taken; sent = part.sent; receivings = part.receivings }

-- all that a session's children sent, taken or left unread, is what the plan has for the connection with this number
abbrev pub IsPlanned : List (List ℕ × List ℕ) → ℕ → Sitting → Type 0
IsPlanned plan number sitting =
    AllByRecursion (λ part. part.taken ++ part.unread ≡ bytes_at part.role plan number) sitting.parts

-- each of these sessions has what the plan has for its connection, in order
abbrev pub ArePlanned : List (List ℕ × List ℕ) → ℕ → List Sitting → Type 0
ArePlanned plan count [] = Unit {0}
ArePlanned plan count (sitting ∷ sittings) = IsPlanned plan (count + 1) sitting × ArePlanned plan (count + 1) sittings

-- the operations of a worker's sessions and of its last accept
abbrev pub story_acts : List Sitting → LastAccept → List Act
story_acts sittings last = step_acts (flat_map all_steps sittings) ++ last_acts last

-- after a session that lost its opening, or ended by a lost decision, its worker accepts no more
abbrev pub NoAcceptBehindLoss : List Sitting → LastAccept → Type 0
NoAcceptBehindLoss sittings last = list_any ends_worker sittings ≡ true → last ≡ Unasked

-- a post reports exactly what a worker with these sessions and this last accept did
pub record IsStory (sittings : List Sitting) (last : LastAccept) (scene : Scene) : Type 0 where
  pub acts : scene.acts ≡ story_acts sittings last
  pub talks : scene.talks ≡ map talk_of (parts_of sittings)
  pub unread : scene.unread ≡ map (λ part. part.unread) (parts_of sittings)
  pub planned : ArePlanned scene.plan 0 sittings
  pub halted : NoAcceptBehindLoss sittings last
