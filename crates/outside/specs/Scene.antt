-- Believed: what a post reports, and what each call adds to that.
use Rattle.std.specs.Prelude.{◌≡◌, ℕ, ◌-◌, ◌^◌, min, Bool, true, false, List, [], ◌∷◌, ◌++◌, count_by, slice_get, take}
use Rattle.std.specs.Prelude.{zero, suc, unwrap_or, Option, Some, None, option_map, Result, Ok, Err, IfSome}
use Rattle.outside.specs.declared.act.Failed.{Failed}
use Rattle.outside.specs.declared.act.Role.{Role}
use Rattle.outside.specs.declared.act.Role.TheVariants.{Pre, User}
use Rattle.outside.specs.declared.act.Accepted.{Accepted}
use Rattle.outside.specs.declared.act.Accepted.TheVariants.{Came, NoneLeft, Failed as AcceptFailed}
use Rattle.outside.specs.declared.act.Act.{Act}
use Rattle.outside.specs.declared.act.Act.TheVariants.{Accept, ConnRecv, ConnSend, Finish, Start, VaultRead, VaultWrite}
use Rattle.outside.specs.declared.act.Talk.{Talk}
use Rattle.outside.specs.declared.faults.Faults.{Faults}
use Rattle.outside.specs.Faults.{AreCounts}
use Rattle.outside.specs.Told.{Goes}
use Rattle.outside.specs.Link.{Link}

-- what a post reports: operations, talks with children, bytes not received, and what each connection's children send
pub record Scene : Type 0 where
  pub acts : List Act
  pub talks : List Talk
  pub unread : List (List ℕ)
  pub plan : List (List ℕ × List ℕ)

-- these operations were done, these children given back and these bytes left unread; the plan stays
pub record Played (done : List Act) (finished : List Talk) (remains : List (List ℕ))
    (before after : Scene) : Type 0 where
  pub acts : after.acts ≡ before.acts ++ done
  pub talks : after.talks ≡ before.talks ++ finished
  pub unread : after.unread ≡ before.unread ++ remains
  pub plan : after.plan ≡ before.plan

-- one operation was done, and no child given back
abbrev pub Did : Act → Option Scene → Option Scene → Type 0
Did act = Goes (Played (act ∷ []) [] [])

-- what an accept came to
abbrev pub accepted_outcome : {Conn : Type 0} → Result (Option Conn) Failed → Accepted
accepted_outcome (Ok (Some _)) = Came
accepted_outcome (Ok None) = NoneLeft
accepted_outcome (Err _) = AcceptFailed

-- whether a start succeeded
abbrev pub started_outcome : {Child : Type 0} → Result Child Failed → Result (Unit {0}) Failed
started_outcome (Ok _) = Ok tt
started_outcome (Err failed) = Err failed

-- what a receiving or a reading came to: the bytes that it put to the front of the buffer
abbrev pub received_outcome : Result ℕ Failed → List ℕ → Result (List ℕ) Failed
received_outcome (Ok n) buffer = Ok (take n buffer)
received_outcome (Err failed) buffer = Err failed

-- whether the operation is an accept by which a connection came
abbrev pub is_coming : Act → Bool
is_coming (Accept Came) = true
is_coming _ = false

-- how many connections came
abbrev pub came_count : List Act → ℕ
came_count acts = count_by is_coming acts

-- of the bytes planned for a connection's two children, those of this role's
abbrev pub bytes_for : Role → List ℕ × List ℕ → List ℕ
bytes_for (Pre _) entry = entry.0
bytes_for (User _ _ _) entry = entry.1

-- what the child of this role has to send over the connection with this number, counted from 1; nothing for 0
abbrev pub bytes_at : Role → List (List ℕ × List ℕ) → ℕ → List ℕ
bytes_at role plan zero = []
bytes_at role plan (suc k) = unwrap_or (option_map (bytes_for role) (slice_get plan k)) []

-- the bytes that the plan has for a child of this role in the connection that came last
abbrev pub planned_bytes : Scene → Role → List ℕ
planned_bytes scene role = bytes_at role scene.plan (came_count scene.acts)

-- a child that was just started: nothing taken from it or sent to it, and no receiving asked of it
pub record IsUnused (link : Link) : Type 0 where
  pub taken : link.taken ≡ []
  pub sent : link.sent ≡ []
  pub unasked : IfSome link.receivings (λ receivings. receivings ≡ [])

-- what passed with a child of this role, by what its stream reports
abbrev pub talk_by : Role → Link → Talk
talk_by role link =
    record { role = role; taken = link.taken; sent = link.sent; receivings = link.receivings }

-- a child was given back: where it tells, its bytes go to what the post tells; else the post
-- doesn't tell any more
abbrev pub GivenBack : Role → Option Link → Option Scene → Option Scene → Type 0
GivenBack role None before after = after ≡ None
GivenBack role (Some link) before after =
    Goes (Played (Finish role ∷ []) (talk_by role link ∷ []) (link.left ∷ [])) before after

-- nothing was asked of a post yet
pub record IsUnplayed (scene : Scene) : Type 0 where
  pub acts : scene.acts ≡ []
  pub talks : scene.talks ≡ []
  pub unread : scene.unread ≡ []

-- a post that was just made, by what these say of it: where it tells, nothing was asked of it, and
-- its counts are 0
pub record IsFresh {P : Type 0} (scene : P → Option Scene) (faults : P → Faults) (post : P) : Type 0 where
  pub unplayed : IfSome (scene post) IsUnplayed
  pub faultless : AreCounts 0 0 0 0 0 (faults post)

-- an operation is an accept, and it failed
abbrev pub is_failed_accept : Act → Bool
is_failed_accept (Accept AcceptFailed) = true
is_failed_accept _ = false

-- an operation is the start of a child, and it failed
abbrev pub is_failed_start : Act → Bool
is_failed_start (Start role (Err failed)) = true
is_failed_start _ = false

-- an operation is a receiving from the client or a sending to it, and it failed
abbrev pub is_failed_conn : Act → Bool
is_failed_conn (ConnRecv max (Err failed)) = true
is_failed_conn (ConnSend bytes (Err failed)) = true
is_failed_conn _ = false

-- an operation is a reading of a user's file or a writing into it, and it failed
abbrev pub is_failed_vault : Act → Bool
is_failed_vault (VaultRead uid name offset max (Err failed)) = true
is_failed_vault (VaultWrite uid name offset bytes (Err failed)) = true
is_failed_vault _ = false

-- so many faults as a count of 64 bits shows them: it stops at its greatest number
abbrev pub counted : ℕ → ℕ
counted number = min number (2 ^ 64 - 1)

-- a post counts exactly the failed operations that it reports, as far as a count goes
pub record CountsAsTold (scene : Scene) (faults : Faults) : Type 0 where
  pub accept : faults.accept ≡ counted (count_by is_failed_accept scene.acts)
  pub keeper : faults.keeper ≡ counted (count_by is_failed_start scene.acts)
  pub conn : faults.conn ≡ counted (count_by is_failed_conn scene.acts)
  pub vault : faults.vault ≡ counted (count_by is_failed_vault scene.acts)
