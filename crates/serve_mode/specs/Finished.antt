-- Inner: how a run was finished.
use Rattle.std.specs.Prelude.{◌≡◌, Bool, List, Option, Result}
use Rattle.otp_ledger.specs.Accounts.{LedgerParts}
use Rattle.outside.specs.Files.{Contents}
use Rattle.policy_model.specs.declared.event.Event.{Event}
use Rattle.policy_model.specs.Journal.{has_lost}
use Rattle.policy_model.specs.Settings.{Settings}
use Rattle.trouble.specs.declared.trouble.Trouble.{Trouble}
use Rattle.serve_mode.specs.Steps.{WritesBack, run_end}
use Rattle.serve_mode.specs.Words.{Source}

-- the accounts of a run were written back, and it ended as this, its journal and its accepts say
pub record IsFinished (source : Source) (setup : Settings) (ledger : LedgerParts) (journal : List Event) (failed : Bool)
    (old new : Option Contents) (ReplaceRose : Type 0) (end : Result (Unit {0}) Trouble) : Type 0 where
  pub written : Result (Unit {0}) Trouble
  pub writes : WritesBack source setup ledger old new ReplaceRose written
  pub ended : end ≡ run_end written (has_lost journal) failed
