-- Believed: what comes of the first line of an input.
use Rattle.std.specs.Prelude.{ℕ, ◌≡◌, List, Option, Some, None, Result, Ok, Err}
use Rattle.outside.specs.Link.{Link}
use Rattle.outside.specs.Told.{Goes}
use Rattle.request_catalogue.specs.declared.texts.Name.{Name}
use Rattle.policy_model.specs.Settings.{Settings}
use Rattle.otp_extended.specs.declared.response.Response.{Response}
use Rattle.otp_extended.specs.declared.renewal.Renewed.{Renewed}
use Rattle.otp_extended.specs.declared.run.Renewal.{Renewal}
use Rattle.trouble.specs.declared.response.LineFault.TheVariants as line_faults
use Rattle.trouble.specs.declared.trouble.Trouble.{Trouble}
use Rattle.trouble.specs.declared.trouble.Trouble.TheVariants as troubles
use Rattle.otp_mode.specs.Lines.{line_of}
use Rattle.otp_mode.specs.Outcome.{OnlyReceived}
use Rattle.otp_extended.specs.Parts.{parts_of}
use Rattle.otp_extended.specs.Renewals.{IsRenewed, renewal_of, spent_of}
use Rattle.otp_extended.specs.Responses.{IsReading}

-- what comes of a response: the new chain in the setup, or the first fault; memory can run out only with a new chain
abbrev pub IsMade : Settings → Name → Response → Result Renewal Trouble → Type 0
IsMade setup user response (Ok made) =
    (renewal_of setup user response ≡ Ok made.renewed) × IsRenewed setup made.setup user (spent_of response)
    made.renewed
IsMade setup user response (Err (troubles.NoRenewal fault)) = renewal_of setup user response ≡ Err fault
IsMade setup user response (Err troubles.OutOfMemory) = (new : Renewed) × (renewal_of setup user response ≡ Ok new)
IsMade setup user response (Err _) = ⊥

-- a line reads as a response, and this comes of it
abbrev pub IsMadeOf : Settings → List (List ℕ) → Name → List ℕ → Result Renewal Trouble → Type 0
IsMadeOf setup dictionary user line result =
    (response : Response) × IsReading dictionary (parts_of line) (Ok response) × IsMade setup user response result

-- what comes of a line; without one it was too long
abbrev pub ComesOf : Settings → List (List ℕ) → Name → Option (List ℕ) → Result Renewal Trouble → Type 0
ComesOf setup dictionary user None result = result ≡ Err (troubles.ResponseRefused line_faults.TooLong)
ComesOf setup dictionary user (Some line) (Err (troubles.ResponseRefused (line_faults.Unreadable fault))) =
    IsReading dictionary (parts_of line) (Err fault)
ComesOf setup dictionary user (Some line) result = IsMadeOf setup dictionary user line result

-- at most 4,096 bytes were received, nothing was sent, and this comes of the first line of the whole input
pub record Comes (setup : Settings) (dictionary : List (List ℕ)) (user : Name) (result : Result Renewal Trouble)
    (before after : Link) : Type 0 where
  pub received : OnlyReceived before after
  pub comes : ComesOf setup dictionary user (line_of before.left) result

-- what came of an input: the renewal that its first line makes or its fault, unless the ends failed
abbrev pub IsOutcome : Settings → List (List ℕ) → Name → Option Link → Option Link → Type 0
    → Result Renewal Trouble → Type 0
IsOutcome setup dictionary user before after EndsFailed (Ok made) =
    Goes (Comes setup dictionary user (Ok made)) before after
IsOutcome setup dictionary user before after EndsFailed (Err troubles.EndsFailed) =
    EndsFailed × Goes OnlyReceived before after
IsOutcome setup dictionary user before after EndsFailed (Err troubles.OutOfMemory) =
    Goes (Comes setup dictionary user (Err troubles.OutOfMemory)) before after
IsOutcome setup dictionary user before after EndsFailed (Err (troubles.ResponseRefused fault)) =
    Goes (Comes setup dictionary user (Err (troubles.ResponseRefused fault))) before after
IsOutcome setup dictionary user before after EndsFailed (Err (troubles.NoRenewal fault)) =
    Goes (Comes setup dictionary user (Err (troubles.NoRenewal fault))) before after
IsOutcome setup dictionary user before after EndsFailed (Err _) = ⊥
