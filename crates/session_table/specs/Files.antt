-- Inner: the files that a session has open, as a list.
use Rattle.std.specs.Prelude.{ℕ, ◌≡◌, ◌++◌, ◌≤◌, ◌==◌, ◌||◌, Bool, true, List, [], ◌∷◌, filter, length, not, Option}
use Rattle.std.specs.Prelude.{Some, None, is_none, nat_le, unwrap_or, if◌then◌else◌}
use Rattle.std.specs.List.{find}
use Rattle.request_catalogue.specs.declared.rules.TheConstants.{HANDLES_SPENT, MODE_LACKING, NO_HANDLE}
use Rattle.request_catalogue.specs.declared.texts.Label.{Label}
use Rattle.policy_model.specs.declared.account.Grant.{Grant}
use Rattle.policy_model.specs.declared.event.Ask.{Ask}
use Rattle.policy_model.specs.declared.event.Ask.TheVariants as asks
use Rattle.policy_model.specs.declared.event.Decision.{Decision}
use Rattle.policy_model.specs.declared.event.Decision.TheVariants.{Permit, Deny}
use Rattle.policy_model.specs.declared.event.Event.{Event}
use Rattle.policy_model.specs.declared.handles.TheConstants.{HANDLE_NUMBERS}
use Rattle.policy_model.specs.Asks.{is_permit, mode_of, opens_file, value_of}
use Rattle.policy_model.specs.Settings.{same_label}
use Rattle.policy_model.specs.Verdict.{allows}
use Rattle.policy_model.specs.Cases.{grant_verdict, handle_of}
use Rattle.session_table.specs.declared.handles.LiveHandle.{LiveHandle}

-- the file with this handle
abbrev pub file_at : ℕ → List LiveHandle → Option LiveHandle
file_at handle live = find (λ file. file.handle == handle) live

-- no file has this handle
abbrev pub is_free : ℕ → List LiveHandle → Bool
is_free handle live = is_none (file_at handle live)

-- the least handle of 1 to 8 that is free, and 0 where there is none
abbrev pub free_of : List LiveHandle → ℕ
free_of live = unwrap_or (find (λ n. is_free n live) HANDLE_NUMBERS) 0

-- the files but the one of this handle
abbrev pub without : ℕ → List LiveHandle → List LiveHandle
without handle live = filter (λ file. not (file.handle == handle)) live

-- the handles are different ones of 1 to a number
abbrev pub AreUpTo : ℕ → List LiveHandle → Type 0
AreUpTo most [] = Unit {0}
AreUpTo most (file ∷ live) =
    (1 ≤ file.handle) × (file.handle ≤ most) × (is_free file.handle live ≡ true) × AreUpTo most live

-- the handles are different ones of 1 to 8
abbrev pub AreHandles : List LiveHandle → Type 0
AreHandles live = AreUpTo 8 live

-- the decision on an OPEN: rules 19, 20, 21, else the least free handle
abbrev pub open_decision : List LiveHandle → List Grant → ℕ → Label → Decision
open_decision live grants mode name =
    if nat_le 8 (length live) then Deny HANDLES_SPENT 8
    else grant_verdict (free_of live) mode (find (λ g. same_label g.name name) grants)

-- what a permit gives is a handle of 1 to 8 that is free
abbrev pub IsNewHandle : List LiveHandle → Decision → Type 0
IsNewHandle live (Permit value) = (1 ≤ value) × (value ≤ 8) × (is_free value live ≡ true)
IsNewHandle live _ = Unit {0}

-- the decision on a use of a file: rules 17 and 18
abbrev pub use_by : ℕ → ℕ → Option LiveHandle → Decision
use_by handle needed None = Deny NO_HANDLE handle
use_by handle needed (Some file) = if allows file.mode needed then Permit 0 else Deny MODE_LACKING handle

-- the decision on a READ or WRITE; 0 is the client's connection
abbrev pub use_decision : List LiveHandle → ℕ → ℕ → Decision
use_decision live handle needed = if handle == 0 then Permit 0 else use_by handle needed (file_at handle live)

-- the decision on a CLOSE: rule 17
abbrev pub close_decision : List LiveHandle → ℕ → Decision
close_decision live handle = if handle == 0 || is_free handle live then Deny NO_HANDLE handle else Permit 0

-- what is told of a file
abbrev pub told_of : Option LiveHandle → Option (ℕ × ℕ)
told_of None = None
told_of (Some file) = Some (file.grant, file.mode)

abbrev pub look_of : ℕ → List LiveHandle → Option (ℕ × ℕ)
look_of handle live = told_of (file_at handle live)

-- the file that an OPEN opens for this grant
abbrev pub file_opened : Event → ℕ → LiveHandle
file_opened e grant = record { handle = handle_of e; grant = grant; mode = mode_of e.ask }

-- after a permitted ask of the session, an OPEN with this value and for this grant
abbrev pub files_by : List LiveHandle → ℕ → ℕ → Ask → List LiveHandle
files_by live grant value (asks.OpenFile mode name) = live ++ record { handle = value; grant = grant; mode = mode } ∷ []
files_by live grant value (asks.CloseFile handle) = without handle live
files_by live grant value _ = live

-- after an event of the session
abbrev pub files_after : List LiveHandle → Event → ℕ → List LiveHandle
files_after live e grant = if is_permit e.decision then files_by live grant (value_of e.decision) e.ask else live

-- a file that is opened has a new handle
pub record FitsFiles (live : List LiveHandle) (e : Event) : Type 0 where
  pub new : opens_file e ≡ true → IsNewHandle live e.decision
