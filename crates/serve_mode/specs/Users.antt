-- Believed: what a run of the mode `serve` means for its users.
use Rattle.std.specs.Prelude.{◌≡◌, ℕ, List}
use Rattle.monitor_run.specs.Headline.{ServesUsers}
use Rattle.monitor_run.specs.Posts.{EachScene, PostNow}
use Rattle.policy_laws.specs.Consequences.{HasConsequences}
use Rattle.policy_laws.specs.Strangers.{ShowsNoAccounts}
use Rattle.policy_model.specs.declared.event.Event.{Event}
use Rattle.service_model.specs.Service.{Service}
use Rattle.serve_mode.specs.AroundRun.{AroundRun}
use Rattle.serve_mode.specs.Headline.{NoFault}

-- what every legal journal ensures, what strangers learn, and that users get in and are served, where nothing failed
pub record KeepsUsers (service : Service) (status : ℕ) (journal : List Event) (posts : List PostNow)
    (before after : AroundRun) : Type 0 where
  pub consequences : HasConsequences service.setup journal
  pub unseen : ShowsNoAccounts service.setup journal
  pub users : NoFault posts before after → status ≡ 0 → EachScene posts (ServesUsers service journal)
