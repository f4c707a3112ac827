-- Believed: what is around a run.
use Rattle.std.specs.Prelude.{ℕ, List, Option}
use Rattle.monitor_book.specs.declared.opened.Held.{Held}
use Rattle.outside.specs.declared.place.Place.{Place as SitePlace}
use Rattle.outside.specs.FilesNow.{FilesNow}

-- what is around a run at one moment: the files, where the site listened, what the log holds, and counts of faults
pub record AroundRun : Type 0 where
  pub files : FilesNow
  pub listens : Option (List SitePlace)
  pub listen_faults : ℕ
  pub held : Held
  pub log_faults : ℕ

-- what is around a run, by its parts
abbrev pub around_run : FilesNow → Option (List SitePlace) → ℕ → Held → ℕ → AroundRun
around_run files listens listen_faults held log_faults =
    record { files = files; listens = listens; listen_faults = listen_faults; held = held; log_faults = log_faults }
