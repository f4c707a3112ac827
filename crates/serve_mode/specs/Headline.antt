-- Believed: what the mode `serve` promises besides what its run does.
use Rattle.std.specs.Prelude.{◌≡◌, ◌≢◌, ◌⊎◌, ℕ, Bool, true, false, ◌==◌, List, [], ◌∷◌, length, Result, Err}
use Rattle.std.specs.List.{list_any}
use Rattle.info_hooks.specs.declared.key.Key.{Key}
use Rattle.monitor_book.specs.Lines.{IsUnwritten, LogMatches}
use Rattle.monitor_run.specs.Headline.{ConversationsMatch, IsFaultless}
use Rattle.monitor_run.specs.Headline.{JournalIsLegal, RunsToQuota, SessionsInOrder, SomeAcceptFailed}
use Rattle.monitor_run.specs.Headline.{ends_by_accept_fault}
use Rattle.monitor_run.specs.Posts.{EachPost, EachScene, PostNow}
use Rattle.outside.specs.declared.place.Place.{Place as SitePlace}
use Rattle.outside.specs.Told.{Gains, Rose}
use Rattle.policy_model.specs.declared.event.Event.{Event}
use Rattle.policy_model.specs.Journal.{has_lost}
use Rattle.policy_model.specs.Settings.{Settings}
use Rattle.service_model.specs.Ends.{is_fault_end}
use Rattle.service_model.specs.Service.{Service}
use Rattle.trouble.specs.declared.trouble.Trouble.{Trouble}
use Rattle.trouble.specs.declared.trouble.Trouble.TheVariants.{OutOfMemory}
use Rattle.trouble.specs.Status.{status_of}
use Rattle.serve_mode.specs.AroundRun.{AroundRun}
use Rattle.serve_mode.specs.Services.{IsEndedBy, IsServedBy, tell_throughout}
use Rattle.serve_mode.specs.Words.{Plain, Source}

-- ---- where it listens

-- where a setup's workers serve: its socket, launcher, vault and number of workers
abbrev pub setup_place : Settings → SitePlace
setup_place setup =
    record { socket = setup.socket; launcher = setup.launcher; vault = setup.vault; workers = setup.workers }

-- the places where a run listens: the setup's if there are posts, otherwise none
abbrev pub served_places : Settings → List PostNow → List SitePlace
served_places setup [] = []
served_places setup (post ∷ posts) = setup_place setup ∷ []

-- ---- the statuses and their causes

-- the statuses of a run that went on to write the accounts back: 0 (success), 7, 8 and 10
abbrev pub is_run_status : ℕ → Bool
is_run_status status = list_any (λ s. s == status) (0 ∷ 7 ∷ 8 ∷ 10 ∷ [])

-- the statuses with which nobody was served: 3, 4, 5, 6 and 13
abbrev pub is_unserved_status : ℕ → Bool
is_unserved_status status = list_any (λ s. s == status) (3 ∷ 4 ∷ 5 ∷ 6 ∷ 13 ∷ [])

-- a status comes only for its cause: 3 a failed read, 6 listen, 8 replace, 10 accept, 7 a decision lost by the log
pub record ServeHasCause (status : ℕ) (journal : List Event) (posts : List PostNow)
    (before after : AroundRun) : Type 0 where
  pub unserved : is_unserved_status status ≡ true → posts ≡ []
  pub begun : is_run_status status ≡ true → posts ≢ []
  pub unbegun : posts ≡ [] → journal ≡ []
  pub read_fault : status ≡ 3 → Rose before.files.read_faults after.files.read_faults
  pub listen_fault : status ≡ 6 → Rose before.listen_faults after.listen_faults
  -- once a decision is lost, the status is 7 or 9
  pub lost : has_lost journal ≡ true → (status ≡ 7) ⊎ (status ≡ 9)
  pub log_lost : status ≡ 7 → (has_lost journal ≡ true) × Rose before.log_faults after.log_faults
  pub accept_fault : status ≡ 10 → SomeAcceptFailed posts
  pub replace_fault : status ≡ 8 → Rose before.files.replace_faults after.files.replace_faults

-- ---- completeness

-- no fault of reading, replacing, listening, the log, accepts, starts or links was counted
pub record NoFault (posts : List PostNow) (before after : AroundRun) : Type 0 where
  pub read : ¬ Rose before.files.read_faults after.files.read_faults
  pub replace : ¬ Rose before.files.replace_faults after.files.replace_faults
  pub listen : ¬ Rose before.listen_faults after.listen_faults
  pub log : ¬ Rose before.log_faults after.log_faults
  pub each : EachPost posts (λ worker post. IsFaultless post)

-- ---- all of it

-- all that is promised of a run by one service: setup, word list and forms
pub record ServePromises (service : Service) (status : ℕ) (journal : List Event)
    (posts : List PostNow) (before after : AroundRun) : Type 0 where
  pub legal : JournalIsLegal service.setup journal
  pub sessions : SessionsInOrder service journal
  pub one_each : posts ≢ [] → length posts ≡ service.setup.workers
  pub listens : Gains before.listens (served_places service.setup posts) after.listens
  pub conversations : ConversationsMatch service journal posts
  pub log : LogMatches service.setup journal before.held after.held
  pub quota : RunsToQuota service.setup journal posts
  -- at 0 no decision was lost and no last accept failed
  pub kept : status ≡ 0 → has_lost journal ≡ false
  pub accepted : status ≡ 0 → EachScene posts (λ worker s. ends_by_accept_fault s ≡ false)
  -- without a counted fault the status is 0 or 9 (out of memory), and at 0 no session ended by a fault
  pub succeeds : NoFault posts before after → (status ≡ 0) ⊎ (status ≡ 9)
  pub answered : NoFault posts before after → status ≡ 0 → list_any (λ e. is_fault_end e.ask) journal ≡ false

-- what it served by has these promises: the plain setup, or what the files gave
pub record OfServed (source : Source) (forms : List Key) (posts : List PostNow) (before after : AroundRun)
    (Promises : Service → Type 0) : Type 0 where
  pub some : (posts ≡ []) ⊎ ((service : Service)
      × IsServedBy source forms before.files.contents after.files.contents service × Promises service)
  -- where the files report before and after, whatever service they give has them, so no other
  pub all : (service : Service) → tell_throughout source before.files.contents after.files.contents ≡ true
      → IsServedBy source forms before.files.contents after.files.contents service → Promises service

-- what `serve` promises however it ends: its status has a cause, and if it served every promise holds
pub record ServeEnded (source : Source) (forms : List Key) (end : Result (Unit {0}) Trouble)
    (journal : List Event) (posts : List PostNow) (before after : AroundRun) : Type 0 where
  pub causes : ServeHasCause (status_of end) journal posts before after
  pub ended : (trouble : Trouble) → end ≡ Err trouble
      → IsEndedBy source forms after.files.contents (Rose before.files.read_faults after.files.read_faults) trouble
  -- by the plain setup memory doesn't run out once there are posts
  pub printed : end ≡ Err OutOfMemory → posts ≢ [] → source ≢ Plain
  pub promises : OfServed source forms posts before after
      (λ service. ServePromises service (status_of end) journal posts before after)
  pub unlogged : posts ≡ [] → IsUnwritten before.held after.held
  pub unlistened : posts ≡ [] → Gains before.listens [] after.listens
