-- Believed: what a run of the mode `serve` keeps: its promises, and what they mean for users, accounts and numbers.
use Rattle.std.specs.Prelude.{◌≡◌, ℕ, List, []}
use Rattle.info_hooks.specs.declared.key.Key.{Key}
use Rattle.monitor_run.specs.Headline.{KeepsNumbers}
use Rattle.monitor_run.specs.Posts.{PostNow}
use Rattle.outside.specs.Files.{SameFiles}
use Rattle.outside.specs.Told.{Goes}
use Rattle.policy_model.specs.declared.event.Event.{Event}
use Rattle.service_model.specs.Service.{Service}
use Rattle.serve_mode.specs.Accounts.{AccountsMatch}
use Rattle.serve_mode.specs.AroundRun.{AroundRun}
use Rattle.serve_mode.specs.Headline.{OfServed, ServePromises}
use Rattle.serve_mode.specs.Users.{KeepsUsers}
use Rattle.serve_mode.specs.Words.{Source}

-- what a run did by a service, what that means for its users, what becomes of the accounts, and its numbers
pub record ServeKeeps (source : Source) (service : Service) (status : ℕ) (journal : List Event) (posts : List PostNow)
    (before after : AroundRun) : Type 0 where
  pub serves : ServePromises service status journal posts before after
  pub users : KeepsUsers service status journal posts before after
  pub accounts : AccountsMatch source service.setup status journal before.files after.files
  pub numbers : KeepsNumbers service.setup journal posts

-- what the service has by which it served, and that without posts no file changes
pub record IsKept (source : Source) (forms : List Key) (status : ℕ) (journal : List Event) (posts : List PostNow)
    (before after : AroundRun) : Type 0 where
  pub keeps : OfServed source forms posts before after
      (λ service. ServeKeeps source service status journal posts before after)
  pub unchanged : posts ≡ [] → Goes SameFiles before.files.contents after.files.contents
