-- Believed: what a run serves by, and what is known of the troubles of one.
use Rattle.std.specs.Prelude.{◌≡◌, ℕ, Bool, true, ◌&&◌, List, [], Option, Some, None, IfSome, is_some, is_ok, Ok, codes}
use Rattle.info_hooks.specs.declared.key.Key.{Key}
use Rattle.otp_words.specs.Dictionaries.{plain_words}
use Rattle.outside.specs.Files.{Contents}
use Rattle.request_catalogue.specs.declared.width.Width.TheVariants.{Narrow}
use Rattle.account_file.specs.Entries.{SetupEntries, entries_of}
use Rattle.service_model.specs.Service.{Service}
use Rattle.service_reading.specs.Found.{service_in}
use Rattle.fresh_log.specs.Fresh.{IsFresh}
use Rattle.trouble.specs.declared.trouble.LogFault.TheVariants as log_faults
use Rattle.trouble.specs.declared.trouble.ServeFault.TheVariants as serving
use Rattle.trouble.specs.declared.trouble.Trouble.{Trouble}
use Rattle.trouble.specs.declared.trouble.Trouble.TheVariants as troubles
use Rattle.trouble.specs.Reading.{IsUnreadService}
use Rattle.serve_mode.specs.Words.{Named, Plain, Source}

-- the plain setup: one worker, one connection, 64 requests, 3 tries, a hold of 30 seconds, no accounts
abbrev pub plain_entries : SetupEntries
plain_entries = record {
  texts = record {
    socket = codes "otplogd.sock";
    launcher = codes "otplogd";
    vault = codes "vault";
    words = codes "words";
    banner = [];
  };
  salt = codes "decoy";
  frames = Narrow;
  counts = record { workers = 1; connections = 1; requests = 64; tries = 3; hold = 30000 };
  info = [];
  accounts = [];
}

-- a durable log that is named is there and has no records
abbrev pub HasFreshLog : Option (List ℕ) → Contents → Type 0
HasFreshLog None files = Unit {0}
HasFreshLog (Some log) files = IsFresh (files log)

-- what a run served by: the plain setup and list, or what the files gave before, with a fresh log, if they report
abbrev pub IsServedBy : Source → List Key → Option Contents → Option Contents → Service → Type 0
IsServedBy Plain forms old new service =
    (service.forms ≡ forms) × (service.words ≡ plain_words) × (entries_of service.setup ≡ plain_entries)
IsServedBy (Named name log) forms old new service =
    (service.forms ≡ forms) × (is_some new ≡ true → IfSome old (λ files.
    (service_in forms files name ≡ Ok (record { entries = entries_of service.setup; words = service.words }))
    × HasFreshLog log files))

-- the files report before and after the run, if the setup comes from a file
abbrev pub tell_throughout : Source → Option Contents → Option Contents → Bool
tell_throughout Plain old new = true
tell_throughout (Named name log) old new = is_some old && is_some new

-- the files, if they report, give a service, but the named log is missing or isn't fresh
abbrev pub IsUnfresh : Source → List Key → Option Contents → Type 0
IsUnfresh (Named name (Some log)) forms contents =
    IfSome contents (λ files. (is_ok (service_in forms files name) ≡ true) × (IsFresh (files log) → ⊥))
IsUnfresh _ forms contents = ⊥

-- a run may start: the named files, if they report, give a service, and a named log has no records
abbrev pub IsServable : Source → List Key → Option Contents → Type 0
IsServable Plain forms contents = Unit {0}
IsServable (Named name log) forms contents =
    IfSome contents (λ files. (is_ok (service_in forms files name) ≡ true) × HasFreshLog log files)

-- why nothing was read to serve by; for the plain setup nothing is read
abbrev pub IsUnread : Source → List Key → Option Contents → Type 0 → Trouble → Type 0
IsUnread Plain forms contents ReadFailed trouble = ⊥
IsUnread (Named name log) forms contents ReadFailed trouble = IsUnreadService forms contents name ReadFailed trouble

-- what the files say of a run that ended by this trouble: why nobody was served, or that a run might start
abbrev pub IsEndedBy : Source → List Key → Option Contents → Type 0 → Trouble → Type 0
IsEndedBy source forms contents ReadFailed troubles.OutOfMemory = Unit {0}
IsEndedBy source forms contents ReadFailed (troubles.Serving serving.LogLost) = Unit {0}
IsEndedBy source forms contents ReadFailed (troubles.Serving serving.AcceptFailed) = Unit {0}
IsEndedBy source forms contents ReadFailed troubles.ReplaceFailed = Unit {0}
IsEndedBy source forms contents ReadFailed (troubles.LogRefused log_faults.NotFresh) = IsUnfresh source forms contents
-- the site is asked to listen only where everything that a run needs was read
IsEndedBy source forms contents ReadFailed (troubles.Serving serving.ListenFailed) = IsServable source forms contents
IsEndedBy source forms contents ReadFailed trouble = IsUnread source forms contents ReadFailed trouble
