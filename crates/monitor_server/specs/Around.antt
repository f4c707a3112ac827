-- Believed: what is around a call at one moment, what the call says, and the counts that rose meanwhile.
use Rattle.std.specs.Prelude.{ℕ, List, [], Option, None}
use Rattle.monitor_book.specs.declared.opened.Held.{Held}
use Rattle.outside.specs.declared.place.Place.{Place as SitePlace}
use Rattle.outside.specs.Files.{Contents}
use Rattle.outside.specs.FilesNow as told
use Rattle.outside.specs.Link.{Link}
use Rattle.outside.specs.Told.{Goes, Rose}
use Rattle.outside.specs.Touched.{Touched}
use Rattle.policy_model.specs.declared.event.Event.{Event}
use Rattle.monitor_run.specs.Posts.{PostNow}
use Rattle.serve_mode.specs.AroundRun.{AroundRun, around_run}
use Rattle.monitor_server.specs.declared.report.Answer.{Answer}
use Rattle.monitor_server.specs.declared.report.Detail.{Detail}

-- ---- what is around a call

-- the files: themselves, how many readings and replacings failed, which were touched; a clause asks them what stands in
-- them (`contents files.it`), as a function is no value
pub record FilesNow (F : Type 0) : Type 0 where
  pub it : F
  pub read_faults : ℕ
  pub replace_faults : ℕ
  pub touched : Option Touched

-- the files with what stands in them, of which this reports it
abbrev pub files_with : {F : Type 0} → (F → Option Contents) → FilesNow F → told.FilesNow
files_with contents files = record {
  contents = contents files.it;
  read_faults = files.read_faults;
  replace_faults = files.replace_faults;
  touched = files.touched;
}

-- the site: itself, where it reports that it listened, and how often it could not
pub record SiteNow (S : Type 0) : Type 0 where
  pub it : S
  pub listens : Option (List SitePlace)
  pub faults : ℕ

-- the log: itself, what it reports that it holds, by its bytes and by the lengths of its appends, and how many failed
pub record LogNow (K : Type 0) : Type 0 where
  pub it : K
  pub held : Held
  pub faults : ℕ

-- the ends: themselves, what they report of the bytes that pass, and how many calls failed
pub record EndsNow (E : Type 0) : Type 0 where
  pub it : E
  pub link : Option Link
  pub faults : ℕ

-- what is around a call at one moment
pub record Around (F S K E : Type 0) : Type 0 where
  pub files : FilesNow F
  pub site : SiteNow S
  pub log : LogNow K
  pub ends : EndsNow E

-- what of it a run of `serve` is over
abbrev pub run_around : {F S K E : Type 0} → (F → Option Contents) → Around F S K E → AroundRun
run_around contents around = around_run (files_with contents around.files) around.site.listens around.site.faults
    around.log.held around.log.faults

-- what of it a mode without threads is run over
pub record SidesNow (F E : Type 0) : Type 0 where
  pub files : FilesNow F
  pub ends : EndsNow E

-- the files and the ends of what is around a call
abbrev pub sides_of : {F S K E : Type 0} → Around F S K E → SidesNow F E
sides_of around = record { files = around.files; ends = around.ends }

-- what is around a call that is given no site and no log
abbrev pub only_sides : {F E : Type 0} → SidesNow F E → Around F (Unit {0}) (Unit {0}) E
only_sides sides = record {
  files = sides.files;
  site = record { it = tt; listens = None; faults = 0 };
  log = record { it = tt; held = record { bytes = None; lengths = None }; faults = 0 };
  ends = sides.ends;
}

-- ---- what a call says

-- its exit status and what that alone doesn't say, all events, and the workers' posts
pub record Said : Type 0 where
  pub status : ℕ
  pub detail : Detail
  pub journal : List Event
  pub posts : List PostNow

-- of what is said, what comes of words that serve nobody
abbrev pub answer_in : Said → Answer
answer_in said = record { status = said.status; detail = said.detail }

-- no more than this is said: no event, and no post
abbrev pub only_answer : Answer → Said
only_answer answer = record { status = answer.status; detail = answer.detail; journal = []; posts = [] }

-- ---- between two moments

-- a reading of a file failed
abbrev pub ReadRose : {F : Type 0} → FilesNow F → FilesNow F → Type 0
ReadRose before after = Rose before.read_faults after.read_faults

-- a replacing of a file failed
abbrev pub ReplaceRose : {F : Type 0} → FilesNow F → FilesNow F → Type 0
ReplaceRose before after = Rose before.replace_faults after.replace_faults

-- a call on the ends failed
abbrev pub EndsRose : {E : Type 0} → EndsNow E → EndsNow E → Type 0
EndsRose before after = Rose before.faults after.faults

-- what stands in the files went by this step, where they report it
abbrev pub FilesGo : {F : Type 0} → (Contents → Contents → Type 0) → (F → Option Contents) → FilesNow F → FilesNow F
    → Type 0
FilesGo Step contents before after = Goes Step (contents before.it) (contents after.it)
