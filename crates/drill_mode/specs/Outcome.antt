-- Believed: what the mode `drill` came to, and why.
use Rattle.std.specs.Prelude.{◌≡◌, ℕ, Bool, true, false, List, [], Option, Vec, Result, Ok, Err}
use Rattle.std.specs.Global.{Global}
use Rattle.outside.specs.Link.{Exchanged, Link, SendsPart}
use Rattle.outside.specs.Told.{Goes}
use Rattle.policy_model.specs.declared.event.Event.{Event}
use Rattle.trouble.specs.declared.trouble.Trouble.{Trouble}
use Rattle.trouble.specs.declared.trouble.Trouble.TheVariants as troubles
use Rattle.drill_mode.specs.CountsText.{counts_text}
use Rattle.drill_mode.specs.Drilled.{IsDrilled}

-- what each end of `drill` means: the counts of the drill's journal were sent, whole or in part, or nothing was
abbrev pub IsOutcome : ℕ → Option Link → Option Link → Type 0 → Result (Vec Event Global) Trouble → Type 0
IsOutcome n before after EndsFailed (Ok journal) =
    IsDrilled n journal.items × Goes (Exchanged [] (counts_text journal.items)) before after
IsOutcome n before after EndsFailed (Err troubles.EndsFailed) =
    EndsFailed × ((journal : List Event) × IsDrilled n journal × SendsPart (counts_text journal) before after)
IsOutcome n before after EndsFailed (Err troubles.OutOfMemory) = after ≡ before
IsOutcome n before after EndsFailed (Err _) = ⊥

-- whether the mode ended before it told anything
abbrev pub ends_untold : Result (Vec Event Global) Trouble → Bool
ends_untold (Ok journal) = false
ends_untold (Err troubles.EndsFailed) = false
ends_untold (Err _) = true
