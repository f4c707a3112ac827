-- Believed: what each mode promises, and what it leaves as it was.
use Rattle.std.specs.Prelude.{◌≡◌, ◌≢◌, ◌⊎◌, ℕ, cond, nat_lt, List, [], Option, Some, None, Result, Ok, Err, Vec}
use Rattle.std.specs.Global.{Global}
use Rattle.info_hooks.specs.declared.key.Key.{Key}
use Rattle.outside.specs.Files.{Contents, SameFiles}
use Rattle.outside.specs.Told.{Goes}
use Rattle.policy_model.specs.declared.event.Event.{Event}
use Rattle.serve_mode.specs.Headline.{ServeEnded}
use Rattle.serve_mode.specs.Keeping.{IsKept}
use Rattle.serve_mode.specs.Words.{Plain, Source}
use Rattle.trouble.specs.declared.trouble.LogFault.TheVariants as log_faults
use Rattle.trouble.specs.declared.trouble.Trouble.{Trouble}
use Rattle.trouble.specs.declared.trouble.Trouble.TheVariants as troubles
use Rattle.trouble.specs.Status.{status_of}
use Rattle.otp_mode.specs.Asking.{AsksForLine}
use Rattle.otp_mode.specs.Exact.{IsExact}
use Rattle.otp_mode.specs.Outcome.{IsOutcome}
use Rattle.otp_mode.specs.Words.{OtpParts}
use Rattle.check_mode.specs.declared.finding.Finding.{Finding}
use Rattle.check_mode.specs.Outcome as checks
use Rattle.child_mode.specs.declared.run.ChildRun.{ChildRun}
use Rattle.child_mode.specs.Outcome as children
use Rattle.child_mode.specs.Words.{ChildParts}
use Rattle.audit_check.specs.declared.answer.Audit.{Audit}
use Rattle.audit_check.specs.declared.answer.Audit.TheVariants as answers
use Rattle.audit_mode.specs.Outcome as audits
use Rattle.audit_mode.specs.Words.{AuditParts}
use Rattle.drill_mode.specs.Outcome as drills
use Rattle.enrol_mode.specs.Exact as enrols_exact
use Rattle.enrol_mode.specs.Outcome as enrols
use Rattle.enrol_mode.specs.Words.{EnrolParts}
use Rattle.otp_extended.specs.declared.renewal.Renewed.{Renewed}
use Rattle.otp_extended.specs.Commands.{RenewParts}
use Rattle.renew_mode.specs.Outcome as renews
use Rattle.recover_mode.specs.declared.line.Recovery.{Recovery}
use Rattle.recover_mode.specs.Outcome as recoveries
use Rattle.recover_mode.specs.Returning.{BringsBack}
use Rattle.recover_mode.specs.Words.{RecoverParts}
use Rattle.monitor_server.specs.declared.report.Answer.{Answer}
use Rattle.monitor_server.specs.declared.report.Detail.{Detail}
use Rattle.monitor_server.specs.declared.report.Detail.TheVariants.{AuditNo, FewRequests, LogBad, LogNotFresh, Missing}
use Rattle.monitor_server.specs.declared.report.Detail.TheVariants.{Nothing, RenewBad, SetupBad, WordsBad}
use Rattle.monitor_server.specs.declared.report.TheConstants.{FEW_REQUESTS}
use Rattle.monitor_server.specs.Around.{Around, EndsNow, EndsRose, FilesGo, ReadRose, ReplaceRose}
use Rattle.monitor_server.specs.Around.{Said, SidesNow, answer_in, run_around, sides_of}
use Rattle.monitor_server.specs.Commands.{asks_audit, asks_check, asks_child, asks_drill, asks_enrol, asks_otp}
use Rattle.monitor_server.specs.Commands.{asks_recover, asks_renew, asks_serve}
use Rattle.monitor_server.specs.Headline.{IsUnserved}

-- the detail of a trouble: what is missing, refused or bad, or why a response renews nothing
abbrev pub trouble_detail : Trouble → Detail
trouble_detail (troubles.Missing file) = Missing file
trouble_detail (troubles.SetupRefused fault) = SetupBad fault
trouble_detail (troubles.WordsRefused fault) = WordsBad fault
trouble_detail (troubles.LogRefused log_faults.NotFresh) = LogNotFresh
trouble_detail (troubles.LogRefused (log_faults.Record number)) = LogBad number
trouble_detail (troubles.NoRenewal fault) = RenewBad fault
trouble_detail _ = Nothing

-- the detail of an end of `serve`, `otp`, `renew` or `recover`: that of its trouble, if it had one
abbrev pub detail_of : {A : Type 0} → Result A Trouble → Detail
detail_of (Ok _) = Nothing
detail_of (Err trouble) = trouble_detail trouble

-- the mode `serve` ended as it promises (`ServeEnded`), and the status and the detail say how
pub record ServeRan {F S K E : Type 0} (source : Source) (forms : List Key) (contents : F → Option Contents)
    (before after : Around F S K E) (said : Said) : Type 0 where
  pub end : Result (Unit {0}) Trouble
  pub status_is : said.status ≡ status_of end
  pub detail_is : said.detail ≡ detail_of end
  pub ended : ServeEnded source forms end said.journal said.posts (run_around contents before)
      (run_around contents after)

-- `serve` ran as it promises (`ServeRan`), if the command line asks for it
pub record ServeMode {F S K E : Type 0} (words : List (List ℕ)) (forms : List Key) (contents : F → Option Contents)
    (before after : Around F S K E) (said : Said) : Type 0 where
  pub ran : (source : Source) → asks_serve words ≡ Some source → ServeRan source forms contents before after said

-- what a run of `serve` keeps besides (`IsKept`), if the command line asks for it
pub record KeepsMode {F S K E : Type 0} (words : List (List ℕ)) (forms : List Key) (contents : F → Option Contents)
    (before after : Around F S K E) (said : Said) : Type 0 where
  pub kept : (source : Source) → asks_serve words ≡ Some source
      → IsKept source forms said.status said.journal said.posts (run_around contents before)
      (run_around contents after)

-- the mode `otp` came to an outcome that fits what the files and the ends report, and status and detail say which
pub record PasswordRan {F E : Type 0} (parts : OtpParts) (contents : F → Option Contents)
    (before after : SidesNow F E) (answer : Answer) : Type 0 where
  pub outcome : Result (Unit {0}) Trouble
  pub status_is : answer.status ≡ status_of outcome
  pub detail_is : answer.detail ≡ detail_of outcome
  pub cause : IsOutcome parts (contents after.files.it) before.ends.link after.ends.link
      (ReadRose before.files after.files) (EndsRose before.ends after.ends) outcome
  pub exact : IsExact parts (contents after.files.it) before.ends.link after.ends.link
      (ReadRose before.files after.files) (EndsRose before.ends after.ends) outcome
  pub asked : Goes AsksForLine before.ends.link after.ends.link

-- `otp` ran as it promises, or ended with 9 (out of memory), if the command line asks for it
pub record PasswordMode {F S K E : Type 0} (words : List (List ℕ)) (contents : F → Option Contents)
    (before after : Around F S K E) (said : Said) : Type 0 where
  pub ran : (parts : OtpParts) → asks_otp words ≡ Some parts
      → (said.status ≡ 9) ⊎ PasswordRan parts contents (sides_of before) (sides_of after) (answer_in said)

-- the detail of an end of `check`: what is missing or refused, or that a right setup allows few requests
abbrev pub checked_detail : Result Finding Trouble → Detail
checked_detail (Ok finding) = cond (nat_lt finding.requests FEW_REQUESTS) (FewRequests finding.requests) Nothing
checked_detail (Err trouble) = trouble_detail trouble

-- the mode `check` came to an outcome that fits what the files and the ends report, and status and detail say which
pub record CheckRan {F E : Type 0} (forms : List Key) (setup : List ℕ) (contents : F → Option Contents)
    (before after : SidesNow F E) (answer : Answer) : Type 0 where
  pub outcome : Result Finding Trouble
  pub status_is : answer.status ≡ status_of outcome
  pub detail_is : answer.detail ≡ checked_detail outcome
  pub cause : checks.IsOutcome forms setup (contents after.files.it) before.ends.link after.ends.link
      (ReadRose before.files after.files) (EndsRose before.ends after.ends) outcome

-- `check` ran as it promises, or ended with 9 (out of memory), if the command line asks for it
pub record CheckMode {F S K E : Type 0} (words : List (List ℕ)) (forms : List Key) (contents : F → Option Contents)
    (before after : Around F S K E) (said : Said) : Type 0 where
  pub ran : (setup : List ℕ) → asks_check words ≡ Some setup
      → (said.status ≡ 9) ⊎ CheckRan forms setup contents (sides_of before) (sides_of after) (answer_in said)

-- a child's mode came to an outcome that fits what the ends report, and the status says which
pub record ChildRan {E : Type 0} (parts : ChildParts) (before after : EndsNow E) (status : ℕ) : Type 0 where
  pub outcome : ChildRun
  pub status_is : status ≡ children.run_status outcome
  pub cause : children.IsOutcome parts before.link after.link (EndsRose before after) outcome

-- a child's mode ran as it promises, or ended with 9 (out of memory), if the command line asks for it
pub record ChildMode {F S K E : Type 0} (words : List (List ℕ)) (before after : Around F S K E) (said : Said)
    : Type 0 where
  pub ran : (parts : ChildParts) → asks_child words ≡ Some parts
      → (said.status ≡ 9) ⊎ ChildRan parts before.ends after.ends said.status

-- the detail of an end of `audit`: the first fault of the log, or what is missing or refused
abbrev pub audit_detail : Result Audit Trouble → Detail
audit_detail (Ok (answers.No place why)) = AuditNo place why
audit_detail (Ok (answers.Yes events)) = Nothing
audit_detail (Err trouble) = trouble_detail trouble

-- the mode `audit` came to an outcome that fits what the files and the ends report, and status and detail say which
pub record AuditRan {F E : Type 0} (parts : AuditParts) (contents : F → Option Contents)
    (before after : SidesNow F E) (answer : Answer) : Type 0 where
  pub outcome : Result Audit Trouble
  pub status_is : answer.status ≡ audits.audit_status outcome
  pub detail_is : answer.detail ≡ audit_detail outcome
  pub cause : audits.IsOutcome parts (contents after.files.it) before.ends.link after.ends.link
      (ReadRose before.files after.files) (EndsRose before.ends after.ends) outcome

-- `audit` ran as it promises, or ended with 9 (out of memory), if the command line asks for it
pub record AuditMode {F S K E : Type 0} (words : List (List ℕ)) (contents : F → Option Contents)
    (before after : Around F S K E) (said : Said) : Type 0 where
  pub ran : (parts : AuditParts) → asks_audit words ≡ Some parts
      → (said.status ≡ 9) ⊎ AuditRan parts contents (sides_of before) (sides_of after) (answer_in said)

-- the mode `renew` came to an outcome that fits what the files and the ends report, and status and detail say which
pub record RenewRan {F E : Type 0} (parts : RenewParts) (contents : F → Option Contents)
    (before after : SidesNow F E) (answer : Answer) : Type 0 where
  pub outcome : Result Renewed Trouble
  pub status_is : answer.status ≡ status_of outcome
  pub detail_is : answer.detail ≡ detail_of outcome
  pub cause : renews.IsOutcome parts (contents before.files.it) (contents after.files.it)
      before.ends.link after.ends.link
      (ReadRose before.files after.files) (ReplaceRose before.files after.files) (EndsRose before.ends after.ends)
      outcome
  pub asked : Goes AsksForLine before.ends.link after.ends.link
  pub spares : FilesGo (renews.Spares parts.setup) contents before.files after.files
  pub unwritten : answer.status ≢ 0 → answer.status ≢ 8 → answer.status ≢ 11
      → FilesGo SameFiles contents before.files after.files

-- `renew` ran as it promises, or ended with 9 and neither sent nor received, if the command line asks for it
pub record RenewMode {F S K E : Type 0} (words : List (List ℕ)) (contents : F → Option Contents)
    (before after : Around F S K E) (said : Said) : Type 0 where
  pub ran : (parts : RenewParts) → asks_renew words ≡ Some parts
      → (said.status ≡ 9) × (after.ends.link ≡ before.ends.link)
      ⊎ RenewRan parts contents (sides_of before) (sides_of after) (answer_in said)

-- the mode `recover` came to an outcome that fits what the files and the ends report, and status and detail say which
pub record RecoverRan {F E : Type 0} (parts : RecoverParts) (contents : F → Option Contents)
    (before after : SidesNow F E) (answer : Answer) : Type 0 where
  pub outcome : Result Recovery Trouble
  pub status_is : answer.status ≡ status_of outcome
  pub detail_is : answer.detail ≡ detail_of outcome
  pub cause : recoveries.IsOutcome parts (contents before.files.it) (contents after.files.it)
      before.ends.link after.ends.link
      (ReadRose before.files after.files) (ReplaceRose before.files after.files) (EndsRose before.ends after.ends)
      outcome
  pub logged : FilesGo (BringsBack parts outcome) contents before.files after.files
  pub spares : FilesGo (recoveries.Spares parts) contents before.files after.files
  pub unwritten : answer.status ≢ 0 → answer.status ≢ 8 → answer.status ≢ 11
      → FilesGo SameFiles contents before.files after.files

-- `recover` ran as it promises, or ended with 9 (out of memory), if the command line asks for it
pub record RecoverMode {F S K E : Type 0} (words : List (List ℕ)) (contents : F → Option Contents)
    (before after : Around F S K E) (said : Said) : Type 0 where
  pub ran : (parts : RecoverParts) → asks_recover words ≡ Some parts
      → (said.status ≡ 9) ⊎ RecoverRan parts contents (sides_of before) (sides_of after) (answer_in said)

-- the mode `enrol` came to an outcome that fits what the ends report, and the status says which
pub record EnrolRan {E : Type 0} (parts : EnrolParts) (before after : EndsNow E) (status : ℕ) : Type 0 where
  pub outcome : Result (Unit {0}) Trouble
  pub status_is : status ≡ status_of outcome
  pub cause : enrols.IsOutcome parts before.link after.link (EndsRose before after) outcome
  pub exact : enrols_exact.IsExact before.link after.link (EndsRose before after) outcome
  pub asked : Goes AsksForLine before.link after.link

-- `enrol` ran as it promises, or ended with 9 and neither sent nor received, if the command line asks for it
pub record EnrolMode {F S K E : Type 0} (words : List (List ℕ)) (before after : Around F S K E) (said : Said)
    : Type 0 where
  pub ran : (parts : EnrolParts) → asks_enrol words ≡ Some parts
      → (said.status ≡ 9) × (after.ends.link ≡ before.ends.link) ⊎ EnrolRan parts before.ends after.ends said.status

-- the journal that a drill gives; empty if it failed
abbrev pub drilled_journal : Result (Vec Event Global) Trouble → List Event
drilled_journal (Ok journal) = journal.items
drilled_journal (Err _) = []

-- the mode `drill` came to an outcome that fits what the ends report; the status says which, and its journal is given
pub record DrillRan {E : Type 0} (number : ℕ) (before after : EndsNow E) (said : Said) : Type 0 where
  pub outcome : Result (Vec Event Global) Trouble
  pub status_is : said.status ≡ status_of outcome
  pub journal_is : said.journal ≡ drilled_journal outcome
  pub cause : drills.IsOutcome number before.link after.link (EndsRose before after) outcome

-- `drill` ran as it promises, if the command line asks for it
pub record DrillMode {F S K E : Type 0} (words : List (List ℕ)) (before after : Around F S K E) (said : Said)
    : Type 0 where
  pub ran : (number : ℕ) → asks_drill words ≡ Some number → DrillRan number before.ends after.ends said

-- only `serve`, `renew` (the setup's) and `recover` (the setup's and the log's, with status 0, 8 or 11) change files
pub record ChangesFiles {F S K E : Type 0} (words : List (List ℕ)) (contents : F → Option Contents)
    (before after : Around F S K E) (said : Said) : Type 0 where
  pub same : asks_serve words ≡ None → asks_renew words ≡ None → asks_recover words ≡ None
      → FilesGo SameFiles contents before.files after.files
  pub spares : (parts : RenewParts) → asks_renew words ≡ Some parts
      → FilesGo (renews.Spares parts.setup) contents before.files after.files
  pub recovered : (parts : RecoverParts) → asks_recover words ≡ Some parts
      → FilesGo (recoveries.Spares parts) contents before.files after.files
  pub unwritten : asks_serve words ≡ None → said.status ≢ 0 → said.status ≢ 8 → said.status ≢ 11
      → FilesGo SameFiles contents before.files after.files

-- what a mode doesn't use it leaves as it was: files, site, ends, log, posts, journal; only some statuses have a detail
pub record LeavesRest {F S K E : Type 0} (words : List (List ℕ)) (before after : Around F S K E) (said : Said)
    : Type 0 where
  pub files : asks_serve words ≡ None → asks_otp words ≡ None → asks_check words ≡ None → asks_audit words ≡ None
      → asks_renew words ≡ None → asks_recover words ≡ None → after.files ≡ before.files
  pub plain_setup : asks_serve words ≡ Some Plain → after.files ≡ before.files
  pub ends : asks_otp words ≡ None → asks_check words ≡ None → asks_child words ≡ None → asks_audit words ≡ None
      → asks_renew words ≡ None → asks_drill words ≡ None → asks_recover words ≡ None → asks_enrol words ≡ None
      → after.ends ≡ before.ends
  pub site : asks_serve words ≡ None → after.site ≡ before.site
  pub unserved : asks_serve words ≡ None → IsUnserved before after said
  pub eventless : asks_serve words ≡ None → asks_drill words ≡ None → said.journal ≡ []
  pub unread : (parts : OtpParts) → asks_otp words ≡ Some parts → parts.list ≡ None → after.files ≡ before.files
  pub silent : (said.status ≡ 3) ⊎ (said.status ≡ 9) × (asks_renew words ≡ None) × (asks_enrol words ≡ None)
      → after.ends ≡ before.ends
  pub unprinted : asks_check words ≡ None → (said.status ≡ 4) ⊎ (said.status ≡ 5) ⊎ (said.status ≡ 13)
      → after.ends ≡ before.ends
  pub plain : (said.status ≡ 0 → asks_check words ≡ None) → said.status ≢ 4 → said.status ≢ 5 → said.status ≢ 13
      → said.status ≢ 14 → said.status ≢ 15 → said.detail ≡ Nothing
