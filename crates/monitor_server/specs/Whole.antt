-- Believed: all that the top call says of a command, of which it has a clause a part.
use Rattle.std.specs.Prelude.{ℕ, List, Option}
use Rattle.info_hooks.specs.declared.key.Key.{Key}
use Rattle.outside.specs.Files.{Contents}
use Rattle.trouble.specs.Status.{status_of}
use Rattle.serve_mode.specs.Keeping.{IsKept}
use Rattle.serve_mode.specs.Words.{Source}
use Rattle.monitor_server.specs.Around.{Around, Said, run_around}
use Rattle.monitor_server.specs.Headline.{StatusHasCause}
use Rattle.monitor_server.specs.Modes.{AuditMode, ChangesFiles, CheckMode, ChildMode, DrillMode, EnrolMode, KeepsMode}
use Rattle.monitor_server.specs.Modes.{LeavesRest, PasswordMode, RecoverMode, RenewMode, ServeMode, ServeRan}
use Rattle.monitor_server.specs.Touching.{TouchesFilesNamed}

-- the mode `serve` ran as it promises, by all its clauses
pub record HasServed {F S K E : Type 0} (source : Source) (forms : List Key) (contents : F → Option Contents)
    (before after : Around F S K E) (said : Said) : Type 0 where
  pub ran : ServeRan source forms contents before after said
  pub kept : IsKept source forms (status_of ran.end) said.journal said.posts (run_around contents before)
      (run_around contents after)

-- all that the top call promises of a command line, a part a mode
pub record Whole {F S K E : Type 0} (words : List (List ℕ)) (forms : List Key) (contents : F → Option Contents)
    (before after : Around F S K E) (said : Said) : Type 0 where
  pub causes : StatusHasCause words said.status
  pub serve : ServeMode words forms contents before after said
  pub keeps : KeepsMode words forms contents before after said
  pub password : PasswordMode words contents before after said
  pub check : CheckMode words forms contents before after said
  pub child : ChildMode words before after said
  pub audit : AuditMode words contents before after said
  pub renew : RenewMode words contents before after said
  pub drill : DrillMode words before after said
  pub recover : RecoverMode words contents before after said
  pub enrol : EnrolMode words before after said
  pub leaves : LeavesRest words before after said
  pub changes : ChangesFiles words contents before after said
  pub touches : TouchesFilesNamed words contents before after
