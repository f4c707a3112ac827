-- Inner: the steps of serving: what was read, that nobody was served, what was written back, how it ended.
use Rattle.std.specs.Prelude.{◌≡◌, ◌⊎◌, ℕ, Bool, true, false, List, [], Option, Some, None, IfSome, Result, Ok, Err}
use Rattle.info_hooks.specs.declared.key.Key.{Key}
use Rattle.monitor_book.specs.declared.opened.Held.{Held}
use Rattle.monitor_run.specs.Posts.{PostNow}
use Rattle.monitor_run.specs.Prepared.{LogStays}
use Rattle.otp_ledger.specs.Accounts.{LedgerParts}
use Rattle.otp_words.specs.Dictionaries.{plain_words}
use Rattle.account_writer.specs.CurrentSetup.{IsSetupAfter}
use Rattle.outside.specs.declared.place.Place.{Place as SitePlace}
use Rattle.outside.specs.Files.{Contents, MayBeReplaced, Replaced, SameFiles}
use Rattle.outside.specs.Told.{Gains, Goes}
use Rattle.policy_model.specs.declared.event.Event.{Event}
use Rattle.policy_model.specs.Settings.{Settings, plain_settings}
use Rattle.service_model.specs.Service.{Service}
use Rattle.service_reading.specs.Found.{IsServiceIn}
use Rattle.fresh_log.specs.Fresh.{IsFresh}
use Rattle.trouble.specs.declared.trouble.LogFault.TheVariants as log_faults
use Rattle.trouble.specs.declared.trouble.ServeFault.TheVariants as serving
use Rattle.trouble.specs.declared.trouble.Trouble.{Trouble}
use Rattle.trouble.specs.declared.trouble.Trouble.TheVariants as troubles
use Rattle.serve_mode.specs.AroundRun.{AroundRun}
use Rattle.trouble.specs.Status.{status_of}
use Rattle.serve_mode.specs.Headline.{ServeEnded}
use Rattle.serve_mode.specs.Services.{IsUnfresh, IsUnread}
use Rattle.serve_mode.specs.Keeping.{IsKept}
use Rattle.serve_mode.specs.Words.{Named, Plain, Source}

-- the service of a setup, of words and of what can be said
abbrev pub service_by : Settings → List (List ℕ) → List Key → Service
service_by setup words forms = record { setup = setup; words = words; forms = forms }

-- this setup and these words were read
abbrev pub IsReadFrom : Source → List Key → Option Contents → Settings → List (List ℕ) → Type 0
IsReadFrom Plain forms contents setup words = (setup ≡ plain_settings) × (words ≡ plain_words)
IsReadFrom (Named name log) forms contents setup words = IsServiceIn forms contents name setup words

-- the durable log that a source names
abbrev pub log_of : Source → Option (List ℕ)
log_of Plain = None
log_of (Named name log) = log

-- why a log is refused: it isn't fresh, its reading failed, or there was no memory for its name
abbrev pub IsLogRefused : Option (List ℕ) → Option Contents → Type 0 → Trouble → Type 0
IsLogRefused (Some log) contents ReadFailed (troubles.LogRefused log_faults.NotFresh) =
    IfSome contents (λ files. IsFresh (files log) → ⊥)
IsLogRefused (Some log) contents ReadFailed troubles.ReadFailed = ReadFailed
IsLogRefused (Some log) contents ReadFailed troubles.OutOfMemory = Unit {0}
IsLogRefused _ contents ReadFailed _ = ⊥

-- why there is nothing to begin with: nothing was read to serve with, the log isn't fresh, or out of memory
abbrev pub IsUnready : Source → List Key → Option Contents → Type 0 → Trouble → Type 0
IsUnready source forms contents ReadFailed (troubles.LogRefused log_faults.NotFresh) = IsUnfresh source forms contents
IsUnready source forms contents ReadFailed troubles.OutOfMemory = Unit {0}
IsUnready source forms contents ReadFailed trouble = IsUnread source forms contents ReadFailed trouble

-- out of memory, or the site could not listen; the log stays, and the site listened nowhere
pub record IsNotServed (trouble : Trouble) (listens_old listens_new : Option (List SitePlace))
    (held_old held_new : Held) (log_old log_new : ℕ) (ListenRose : Type 0) : Type 0 where
  pub why : (trouble ≡ troubles.OutOfMemory) ⊎ ((trouble ≡ troubles.Serving serving.ListenFailed) × ListenRose)
  pub listens : Gains listens_old [] listens_new
  pub log : LogStays held_old held_new log_old log_new

-- what was done to write the accounts that a ledger knows back to where the setup came from
abbrev pub WritesNamed : List ℕ → Settings → LedgerParts → Option Contents → Option Contents → Type 0
    → Result (Unit {0}) Trouble → Type 0
WritesNamed name setup ledger old new ReplaceRose (Ok done) =
    (bytes : List ℕ) × IsSetupAfter setup ledger bytes × Goes (Replaced name bytes) old new
WritesNamed name setup ledger old new ReplaceRose (Err troubles.OutOfMemory) = Goes SameFiles old new
WritesNamed name setup ledger old new ReplaceRose (Err troubles.ReplaceFailed) =
    (bytes : List ℕ) × IsSetupAfter setup ledger bytes × ReplaceRose × Goes (MayBeReplaced name bytes) old new
WritesNamed name setup ledger old new ReplaceRose (Err _) = ⊥

abbrev pub WritesBack : Source → Settings → LedgerParts → Option Contents → Option Contents → Type 0
    → Result (Unit {0}) Trouble → Type 0
WritesBack Plain setup ledger old new ReplaceRose written = (written ≡ Ok tt) × Goes SameFiles old new
WritesBack (Named name log) setup ledger old new ReplaceRose written =
    WritesNamed name setup ledger old new ReplaceRose written

-- how a run ends: the first of these, that the accounts found no memory, that a decision
-- was lost, that an accept failed, and that the accounts were not written
abbrev pub run_end : Result (Unit {0}) Trouble → Bool → Bool → Result (Unit {0}) Trouble
run_end (Err troubles.OutOfMemory) lost failed = Err troubles.OutOfMemory
run_end written true failed = Err (troubles.Serving serving.LogLost)
run_end written false true = Err (troubles.Serving serving.AcceptFailed)
run_end written false false = written

-- all that is promised of a run: what it did, and what it keeps besides
pub record RunEnded (source : Source) (forms : List Key) (end : Result (Unit {0}) Trouble)
    (journal : List Event) (posts : List PostNow) (before after : AroundRun) : Type 0 where
  pub serve : ServeEnded source forms end journal posts before after
  pub kept : IsKept source forms (status_of end) journal posts before after
