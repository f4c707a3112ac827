-- All that the top call says, for each command and for words that are none.
use Rattle.std.proofs.Common.{◌≡◌, ◌≢◌, ◌⊎◌, ℕ, false, List, [], Option, Some, None, Err, refl, sym, ap, subst, ◌∙◌, inl, inr}
use Rattle.std.specs.Prelude.{is_some}
use Rattle.info_hooks.specs.declared.key.Key.{Key}
use Rattle.outside.specs.Files.{Contents, SameFiles}
use Rattle.monitor_book.specs.Lines.{IsUnwritten}
use Rattle.monitor_book.proofs.LogLemmas.{unwritten}
use Rattle.outside.specs.Told.{Gains, Goes, Rose}
use Rattle.outside.proofs.Told.{Gains-none, Goes-same}
use Rattle.trouble.specs.declared.trouble.Trouble.TheVariants as troubles
use Rattle.trouble.specs.Status.{status_of}
use Rattle.otp_mode.specs.Words.{OtpParts, otp_command}
use Rattle.check_mode.specs.Words.{check_command}
use Rattle.child_mode.specs.Words.{ChildParts, child_command}
use Rattle.audit_mode.specs.Outcome as audits
use Rattle.audit_mode.specs.Words.{AuditParts, audit_command}
use Rattle.drill_mode.specs.Words.{drill_command}
use Rattle.enrol_mode.specs.Command as enrolments_command
use Rattle.enrol_mode.specs.Words.{EnrolParts, enrol_command}
use Rattle.otp_extended.specs.Commands.{RenewParts, renew_command}
use Rattle.renew_mode.specs.Outcome.{Spares}
use Rattle.recover_mode.specs.Outcome as recovered
use Rattle.recover_mode.specs.Words.{RecoverParts, recover_command}
use Rattle.serve_mode.specs.Keeping.{IsKept}
use Rattle.serve_mode.specs.Words.{Plain, Source, files_of, serve_command, setups_of}
use Rattle.setup_reading.specs.Touching.{TouchesNamed}
use Rattle.serve_mode.proofs.Promises.{memory_why, unserved_ended}
use Rattle.otp_mode.specs.Command.{command_parts}
use Rattle.child_mode.specs.Commands.{parts_of}
use Rattle.audit_mode.specs.Commands as audits_command
use Rattle.otp_extended.specs.Commands as renewals
use Rattle.recover_mode.specs.Commands as recoveries_command
use Rattle.monitor_server.specs.declared.command.AloneCommand.{AloneCommand}
use Rattle.monitor_server.specs.declared.command.AloneCommand.TheVariants as alone
use Rattle.monitor_server.specs.declared.command.Unread.{Unread}
use Rattle.monitor_server.specs.declared.command.Unread.TheVariants as unread
use Rattle.monitor_server.specs.Alone.{IsRunOf, SparesRest, unread_answer}
use Rattle.monitor_server.specs.declared.report.Detail.TheVariants.{Nothing}
use Rattle.monitor_server.specs.Around.{Around, EndsNow, FilesGo, FilesNow, ReadRose, Said, answer_in, files_with, only_answer, run_around, sides_of}
use Rattle.monitor_server.specs.Commands.{AsksAlone, IsCommand, IsReading, asks_audit, asks_check, asks_child, asks_drill, asks_enrol, asks_otp, asks_recover, asks_renew, asks_serve}
use Rattle.monitor_server.specs.Headline.{IsStatus, StatusHasCause, UsesEndsAlone, UsesNothing}
use Rattle.monitor_server.specs.Modes.{AuditRan, ChangesFiles, CheckRan, ChildRan, DrillRan, EnrolRan, LeavesRest, PasswordRan, RecoverRan, RenewRan, audit_detail, checked_detail, detail_of}
use Rattle.monitor_server.specs.Touching.{TouchesFilesNamed, TouchesGiven}
use Rattle.monitor_server.specs.Whole.{HasServed, Whole}
use Rattle.monitor_server.proofs.Apart.{AskOnly, Recover, Renew, none-some, only_audit, only_check, only_child, only_drill, only_enrol, only_otp, only_recover, only_renew, only_serve, spoken}
use Rattle.monitor_server.proofs.Touching.{touches_alone, touches_same, touches_served}
use Rattle.monitor_server.proofs.Told.{IsModeStatus, audit_plain, audit_status, check_plain, check_status, child_status, detail-by, drill_status, ended_plain, ended_status, enrol_files, enrol_status, moded, password_status, recover_status, renew_status, served, uncommanded, unremembered}

-- ---- the files that are changed

-- each file is as it was
pub changes-none : {F S K E : Type 0} {words : List (List ℕ)} {contents : F → Option Contents} {before after : Around F S K E} {said : Said} → FilesGo SameFiles contents before.files after.files → ChangesFiles words contents before after said
changes-none {contents = contents} {before = before} {after = after} goes = record {
  same = λ _ _ _. goes;
  spares = λ parts _. go (Spares parts.setup) (λ a b kept. record { others = λ other _. kept.same other }) (contents before.files.it) (contents after.files.it) goes;
  recovered = λ parts _. go (recovered.Spares parts) (λ a b kept. record { others = λ other _ _. kept.same other }) (contents before.files.it) (contents after.files.it) goes;
  unwritten = λ _ _ _ _. goes;
} where
  go : (step : Contents → Contents → Type 0) → ((a b : Contents) → SameFiles a b → step a b) → (old new : Option Contents) → Goes SameFiles old new → Goes step old new
  go step of old None goes = tt
  go step of None (Some new) goes = absurd goes
  go step of (Some old) (Some new) goes = of old new goes

-- what stands in files that are as they were
kept_files : {F : Type 0} (contents : F → Option Contents) (before after : FilesNow F) → after ≡ before → FilesGo SameFiles contents before after
kept_files contents before after same = subst (λ (files : FilesNow _). FilesGo SameFiles contents before files) (sym same) (Goes-same SameFiles (λ files. record { same = λ name. refl }) (contents before.it))

-- the setup's file may have been written
pub changes-renewed : {F S K E : Type 0} (words : List (List ℕ)) (parts : RenewParts) (contents : F → Option Contents) (before after : Around F S K E) (said : Said) → asks_renew words ≡ Some parts → RenewRan parts contents (sides_of before) (sides_of after) (answer_in said) → AskOnly words Renew → ChangesFiles words contents before after said
changes-renewed words parts contents before after said asked ran only = record {
  same = λ _ none _. none-some (asks_renew words) parts none asked;
  spares = λ other is.
      let same : parts ≡ other = (let e : Some parts ≡ Some other = sym asked ∙ is in cc) in
      subst (λ (p : RenewParts). FilesGo (Spares p.setup) contents before.files after.files) same ran.spares;
  recovered = λ other is. none-some (asks_recover words) other (only.recover refl) is;
  unwritten = λ _. ran.unwritten;
}

-- the setup's file and the log's may have been written
pub changes-recovered : {F S K E : Type 0} (words : List (List ℕ)) (parts : RecoverParts) (contents : F → Option Contents) (before after : Around F S K E) (said : Said) → asks_recover words ≡ Some parts → RecoverRan parts contents (sides_of before) (sides_of after) (answer_in said) → AskOnly words Recover → ChangesFiles words contents before after said
changes-recovered words parts contents before after said asked ran only = record {
  same = λ _ _ none. none-some (asks_recover words) parts none asked;
  spares = λ other is. none-some (asks_renew words) other (only.renew refl) is;
  recovered = λ other is.
      let same : parts ≡ other = (let e : Some parts ≡ Some other = sym asked ∙ is in cc) in
      subst (λ (p : RecoverParts). FilesGo (recovered.Spares p) contents before.files after.files) same ran.spares;
  unwritten = λ _. ran.unwritten;
}

-- ---- all that is said of each command

-- where nobody was served, and a mode ran
moded-leaves : {F S K E : Type 0} {words : List (List ℕ)} {before after : Around F S K E} {said : Said} → asks_serve words ≡ None → (asks_otp words ≡ None → asks_check words ≡ None → asks_audit words ≡ None → asks_renew words ≡ None → asks_recover words ≡ None → after.files ≡ before.files) → (asks_otp words ≡ None → asks_check words ≡ None → asks_child words ≡ None → asks_audit words ≡ None → asks_renew words ≡ None → asks_drill words ≡ None → asks_recover words ≡ None → asks_enrol words ≡ None → after.ends ≡ before.ends) → UsesNothing before after said → ((parts : OtpParts) → asks_otp words ≡ Some parts → parts.list ≡ None → after.files ≡ before.files) → ((said.status ≡ 3) ⊎ (said.status ≡ 9) × (asks_renew words ≡ None) × (asks_enrol words ≡ None) → after.ends ≡ before.ends) → (asks_check words ≡ None → (said.status ≡ 4) ⊎ (said.status ≡ 5) ⊎ (said.status ≡ 13) → after.ends ≡ before.ends) → ((said.status ≡ 0 → asks_check words ≡ None) → said.status ≢ 4 → said.status ≢ 5 → said.status ≢ 13 → said.status ≢ 14 → said.status ≢ 15 → said.detail ≡ Nothing) → LeavesRest words before after said
moded-leaves {words = words} unserved files ends unused unread silent unprinted plain = record {
  files = λ _. files;
  plain_setup = λ plain. none-some (asks_serve words) Plain unserved plain;
  ends = ends;
  site = λ _. unused.site;
  unserved = λ _. record { log = unused.log; workers = unused.workers };
  eventless = λ _ _. unused.events;
  unread = unread;
  silent = silent;
  unprinted = unprinted;
  plain = plain;
}

-- a mode that is silent with 9 too
three_or_nine : {A B C D : Type 0} → A ⊎ B × C × D → A ⊎ B
three_or_nine (inl a) = inl a
three_or_nine (inr both) = inr both.0

-- where the input isn't taken first
taking_none : {A B : Type 0} → A ⊎ B → A ⊎ B × (false ≡ false)
taking_none (inl a) = inl a
taking_none (inr b) = inr (b, refl)

-- what a run keeps, by the status that is said
is_kept : {F S K E : Type 0} (forms : List Key) (contents : F → Option Contents) (before after : Around F S K E) (said : Said) (source : Source)
    → HasServed source forms contents before after said → IsKept source forms said.status said.journal said.posts (run_around contents before) (run_around contents after)
is_kept forms contents before after said source done = subst (λ (n : ℕ). IsKept source forms n said.journal said.posts (run_around contents before) (run_around contents after)) (sym done.ran.status_is) done.kept

module _ {F S K E : Type 0} {words : List (List ℕ)} {forms : List Key} {contents : F → Option Contents} {before after : Around F S K E} {said : Said} where
  pub whole-served : (source : Source) → asks_serve words ≡ Some source → HasServed source forms contents before after said → (source ≡ Plain → after.files ≡ before.files) → after.ends ≡ before.ends → TouchesNamed (files_of source) (setups_of source) (setups_of source) (files_with contents before.files) (files_with contents after.files)
      → Whole words forms contents before after said
  whole-served source asked done plain ends touches = let only = only_serve words source asked in let ran = done.ran in record {
    causes = served words source said.status asked (spoken serve_command words source asked) (subst IsStatus (sym ran.status_is) (ended_status ran.end).0) (λ two. (ended_status ran.end).1 (sym ran.status_is ∙ two));
    serve = record { ran = λ other is. (served_for other is).ran };
    keeps = record { kept = λ other is. is_kept forms contents before after said other (served_for other is) };
    password = record { ran = λ other is. none-some (asks_otp words) other (only.otp refl) is };
    check = record { ran = λ other is. none-some (asks_check words) other (only.check refl) is };
    child = record { ran = λ other is. none-some (asks_child words) other (only.child refl) is };
    audit = record { ran = λ other is. none-some (asks_audit words) other (only.audit refl) is };
    renew = record { ran = λ other is. none-some (asks_renew words) other (only.renew refl) is };
    drill = record { ran = λ other is. none-some (asks_drill words) other (only.drill refl) is };
    recover = record { ran = λ other is. none-some (asks_recover words) other (only.recover refl) is };
    enrol = record { ran = λ other is. none-some (asks_enrol words) other (only.enrol refl) is };
    leaves = record {
      files = λ none _ _ _ _ _. none-some (asks_serve words) source none asked;
      plain_setup = λ is. plain (once source Plain (sym asked ∙ is));
      ends = λ _ _ _ _ _ _ _ _. ends;
      site = λ none. none-some (asks_serve words) source none asked;
      unserved = λ none. none-some (asks_serve words) source none asked;
      eventless = λ none _. none-some (asks_serve words) source none asked;
      unread = λ parts is _. none-some (asks_otp words) parts (only.otp refl) is;
      silent = λ _. ends;
      unprinted = λ _ _. ends;
      plain = λ _. detail-by status_of detail_of ran.end said.status said.detail ran.status_is ran.detail_is (ended_plain ran.end);
    };
    changes = record {
      same = λ none _ _. none-some (asks_serve words) source none asked;
      spares = λ parts is. none-some (asks_renew words) parts (only.renew refl) is;
      recovered = λ parts is. none-some (asks_recover words) parts (only.recover refl) is;
      unwritten = λ none _ _ _. none-some (asks_serve words) source none asked;
    };
    touches = touches_served words contents before after source asked touches;
  } where
    once : (a b : Source) → Some a ≡ Some b → a ≡ b
    once a b e = cc

    served_for : (other : Source) → asks_serve words ≡ Some other → HasServed other forms contents before after said
    served_for other is = subst (λ s. HasServed s forms contents before after said) (once source other (sym asked ∙ is)) done

  pub whole-password : (parts : OtpParts) → asks_otp words ≡ Some parts → PasswordRan parts contents (sides_of before) (sides_of after) (answer_in said) → UsesNothing before after said → (parts.list ≡ None → after.files ≡ before.files) → ((said.status ≡ 3) ⊎ (said.status ≡ 9) → after.ends ≡ before.ends) → ((said.status ≡ 4) ⊎ (said.status ≡ 5) ⊎ (said.status ≡ 13) → after.ends ≡ before.ends) → FilesGo SameFiles contents before.files after.files → TouchesFilesNamed words contents before after
      → Whole words forms contents before after said
  whole-password parts asked ran unused unread silent at_list goes touches =
      let status_is = sym ran.status_is in
      let of : IsModeStatus said.status = subst IsModeStatus status_is (password_status _ _ _ _ _ parts ran.outcome ran.cause) in
      let only = only_otp words parts asked in
      record {
        causes = moded words said.status (inr (inl (parts, asked))) (spoken otp_command words parts asked) of;
        serve = record { ran = λ other is. none-some (asks_serve words) other (only.serve refl) is };
        keeps = record { kept = λ other is. none-some (asks_serve words) other (only.serve refl) is };
        password = record {
          ran = λ other is.
              let same : parts ≡ other = (let e : Some parts ≡ Some other = sym asked ∙ is in cc) in
              inr (subst (λ p. PasswordRan p contents (sides_of before) (sides_of after) (answer_in said)) same ran);
        };
        check = record { ran = λ other is. none-some (asks_check words) other (only.check refl) is };
        child = record { ran = λ other is. none-some (asks_child words) other (only.child refl) is };
        audit = record { ran = λ other is. none-some (asks_audit words) other (only.audit refl) is };
        renew = record { ran = λ other is. none-some (asks_renew words) other (only.renew refl) is };
        drill = record { ran = λ other is. none-some (asks_drill words) other (only.drill refl) is };
        recover = record { ran = λ other is. none-some (asks_recover words) other (only.recover refl) is };
        enrol = record { ran = λ other is. none-some (asks_enrol words) other (only.enrol refl) is };
        leaves = moded-leaves (only.serve refl) (λ none _ _ _ _. none-some (asks_otp words) parts none asked) (λ none _ _ _ _ _ _ _. none-some (asks_otp words) parts none asked) unused (λ other is none. unread (ap (λ (p : OtpParts). p.list) (let e : Some parts ≡ Some other = sym asked ∙ is in let same : parts ≡ other = cc in same) ∙ none)) (λ how. silent (three_or_nine how)) (λ _. at_list) (λ _. detail-by status_of detail_of ran.outcome said.status said.detail ran.status_is ran.detail_is (ended_plain ran.outcome));
        changes = changes-none goes;
        touches = touches;
      }

  pub whole-checked : (setup : List ℕ) → asks_check words ≡ Some setup → CheckRan forms setup contents (sides_of before) (sides_of after) (answer_in said) → UsesNothing before after said → ((said.status ≡ 3) ⊎ (said.status ≡ 9) → after.ends ≡ before.ends) → FilesGo SameFiles contents before.files after.files → TouchesFilesNamed words contents before after
      → Whole words forms contents before after said
  whole-checked setup asked ran unused silent goes touches =
      let status_is = sym ran.status_is in
      let of : IsModeStatus said.status = subst IsModeStatus status_is (check_status _ _ _ _ _ _ _ ran.outcome ran.cause) in
      let only = only_check words setup asked in
      record {
        causes = moded words said.status (inr (inr (inl (setup, asked)))) (spoken check_command words setup asked) of;
        serve = record { ran = λ other is. none-some (asks_serve words) other (only.serve refl) is };
        keeps = record { kept = λ other is. none-some (asks_serve words) other (only.serve refl) is };
        password = record { ran = λ other is. none-some (asks_otp words) other (only.otp refl) is };
        check = record {
          ran = λ other is.
              let same : setup ≡ other = (let e : Some setup ≡ Some other = sym asked ∙ is in cc) in
              inr (subst (λ p. CheckRan forms p contents (sides_of before) (sides_of after) (answer_in said)) same ran);
        };
        child = record { ran = λ other is. none-some (asks_child words) other (only.child refl) is };
        audit = record { ran = λ other is. none-some (asks_audit words) other (only.audit refl) is };
        renew = record { ran = λ other is. none-some (asks_renew words) other (only.renew refl) is };
        drill = record { ran = λ other is. none-some (asks_drill words) other (only.drill refl) is };
        recover = record { ran = λ other is. none-some (asks_recover words) other (only.recover refl) is };
        enrol = record { ran = λ other is. none-some (asks_enrol words) other (only.enrol refl) is };
        leaves = moded-leaves (only.serve refl) (λ _ none _ _ _. none-some (asks_check words) setup none asked) (λ _ none _ _ _ _ _ _. none-some (asks_check words) setup none asked) unused (λ parts is _. none-some (asks_otp words) parts (only.otp refl) is) (λ how. silent (three_or_nine how)) (λ none _. none-some (asks_check words) setup none asked) (λ zero. detail-by status_of checked_detail ran.outcome said.status said.detail ran.status_is ran.detail_is (check_plain ran.outcome (λ e. none-some (asks_check words) setup (zero (ran.status_is ∙ e)) asked)));
        changes = changes-none goes;
        touches = touches;
      }

  pub whole-child : (parts : ChildParts) → asks_child words ≡ Some parts → ChildRan parts before.ends after.ends said.status → said.detail ≡ Nothing → UsesNothing before after said → ((said.status ≡ 3) ⊎ (said.status ≡ 9) → after.ends ≡ before.ends) → ((said.status ≡ 4) ⊎ (said.status ≡ 5) ⊎ (said.status ≡ 13) → after.ends ≡ before.ends) → after.files ≡ before.files → FilesGo SameFiles contents before.files after.files → TouchesFilesNamed words contents before after
      → Whole words forms contents before after said
  whole-child parts asked ran plain unused silent no_file files goes touches =
      let status_is = sym ran.status_is in
      let of : IsModeStatus said.status = subst IsModeStatus status_is (child_status ran.outcome) in
      let only = only_child words parts asked in
      record {
        causes = moded words said.status (inr (inr (inr (inl (parts, asked))))) (spoken child_command words parts asked) of;
        serve = record { ran = λ other is. none-some (asks_serve words) other (only.serve refl) is };
        keeps = record { kept = λ other is. none-some (asks_serve words) other (only.serve refl) is };
        password = record { ran = λ other is. none-some (asks_otp words) other (only.otp refl) is };
        check = record { ran = λ other is. none-some (asks_check words) other (only.check refl) is };
        child = record {
          ran = λ other is.
              let same : parts ≡ other = (let e : Some parts ≡ Some other = sym asked ∙ is in cc) in
              inr (subst (λ p. ChildRan p before.ends after.ends said.status) same ran);
        };
        audit = record { ran = λ other is. none-some (asks_audit words) other (only.audit refl) is };
        renew = record { ran = λ other is. none-some (asks_renew words) other (only.renew refl) is };
        drill = record { ran = λ other is. none-some (asks_drill words) other (only.drill refl) is };
        recover = record { ran = λ other is. none-some (asks_recover words) other (only.recover refl) is };
        enrol = record { ran = λ other is. none-some (asks_enrol words) other (only.enrol refl) is };
        leaves = moded-leaves (only.serve refl) (λ _ _ _ _ _. files) (λ _ _ none _ _ _ _ _. none-some (asks_child words) parts none asked) unused (λ _ _ _. files) (λ how. silent (three_or_nine how)) (λ _. no_file) (λ _ _ _ _ _ _. plain);
        changes = changes-none goes;
        touches = touches;
      }

  pub whole-audited : (parts : AuditParts) → asks_audit words ≡ Some parts → AuditRan parts contents (sides_of before) (sides_of after) (answer_in said) → UsesNothing before after said → ((said.status ≡ 3) ⊎ (said.status ≡ 9) → after.ends ≡ before.ends) → ((said.status ≡ 4) ⊎ (said.status ≡ 5) ⊎ (said.status ≡ 13) → after.ends ≡ before.ends) → FilesGo SameFiles contents before.files after.files → TouchesFilesNamed words contents before after
      → Whole words forms contents before after said
  whole-audited parts asked ran unused silent at_file goes touches =
      let status_is = sym ran.status_is in
      let of : IsModeStatus said.status = subst IsModeStatus status_is (audit_status _ _ _ _ _ parts ran.outcome ran.cause) in
      let only = only_audit words parts asked in
      record {
        causes = moded words said.status (inr (inr (inr (inr (inl (parts, asked)))))) (spoken audit_command words parts asked) of;
        serve = record { ran = λ other is. none-some (asks_serve words) other (only.serve refl) is };
        keeps = record { kept = λ other is. none-some (asks_serve words) other (only.serve refl) is };
        password = record { ran = λ other is. none-some (asks_otp words) other (only.otp refl) is };
        check = record { ran = λ other is. none-some (asks_check words) other (only.check refl) is };
        child = record { ran = λ other is. none-some (asks_child words) other (only.child refl) is };
        audit = record {
          ran = λ other is.
              let same : parts ≡ other = (let e : Some parts ≡ Some other = sym asked ∙ is in cc) in
              inr (subst (λ p. AuditRan p contents (sides_of before) (sides_of after) (answer_in said)) same ran);
        };
        renew = record { ran = λ other is. none-some (asks_renew words) other (only.renew refl) is };
        drill = record { ran = λ other is. none-some (asks_drill words) other (only.drill refl) is };
        recover = record { ran = λ other is. none-some (asks_recover words) other (only.recover refl) is };
        enrol = record { ran = λ other is. none-some (asks_enrol words) other (only.enrol refl) is };
        leaves = moded-leaves (only.serve refl) (λ _ _ none _ _. none-some (asks_audit words) parts none asked) (λ _ _ _ none _ _ _ _. none-some (asks_audit words) parts none asked) unused (λ other is _. none-some (asks_otp words) other (only.otp refl) is) (λ how. silent (three_or_nine how)) (λ _. at_file) (λ _. detail-by audits.audit_status audit_detail ran.outcome said.status said.detail ran.status_is ran.detail_is (audit_plain ran.outcome));
        changes = changes-none goes;
        touches = touches;
      }

  pub whole-renewed : (parts : RenewParts) → asks_renew words ≡ Some parts → RenewRan parts contents (sides_of before) (sides_of after) (answer_in said) → UsesNothing before after said → ((said.status ≡ 3) ⊎ (said.status ≡ 4) ⊎ (said.status ≡ 5) ⊎ (said.status ≡ 13) → after.ends ≡ before.ends) → TouchesFilesNamed words contents before after
      → Whole words forms contents before after said
  whole-renewed parts asked ran unused at_files touches =
      let status_is = sym ran.status_is in
      let of : IsModeStatus said.status = subst IsModeStatus status_is (renew_status _ _ _ _ _ _ _ parts ran.outcome ran.cause) in
      let only = only_renew words parts asked in
      record {
        causes = moded words said.status (inr (inr (inr (inr (inr (inl (parts, asked))))))) (spoken renew_command words parts asked) of;
        serve = record { ran = λ other is. none-some (asks_serve words) other (only.serve refl) is };
        keeps = record { kept = λ other is. none-some (asks_serve words) other (only.serve refl) is };
        password = record { ran = λ other is. none-some (asks_otp words) other (only.otp refl) is };
        check = record { ran = λ other is. none-some (asks_check words) other (only.check refl) is };
        child = record { ran = λ other is. none-some (asks_child words) other (only.child refl) is };
        audit = record { ran = λ other is. none-some (asks_audit words) other (only.audit refl) is };
        renew = record {
          ran = λ other is.
              let same : parts ≡ other = (let e : Some parts ≡ Some other = sym asked ∙ is in cc) in
              inr (subst (λ p. RenewRan p contents (sides_of before) (sides_of after) (answer_in said)) same ran);
        };
        drill = record { ran = λ other is. none-some (asks_drill words) other (only.drill refl) is };
        recover = record { ran = λ other is. none-some (asks_recover words) other (only.recover refl) is };
        enrol = record { ran = λ other is. none-some (asks_enrol words) other (only.enrol refl) is };
        leaves = moded-leaves (only.serve refl) (λ _ _ _ none _. none-some (asks_renew words) parts none asked) (λ _ _ _ _ none _ _ _. none-some (asks_renew words) parts none asked) unused (λ other is _. none-some (asks_otp words) other (only.otp refl) is) silent (λ _ how. at_files (inr how)) (λ _. detail-by status_of detail_of ran.outcome said.status said.detail ran.status_is ran.detail_is (ended_plain ran.outcome));
        changes = changes-renewed words parts contents before after said asked ran only;
        touches = touches;
      } where
        silent : (said.status ≡ 3) ⊎ (said.status ≡ 9) × (asks_renew words ≡ None) × (asks_enrol words ≡ None) → after.ends ≡ before.ends
        silent (inl three) = at_files (inl three)
        silent (inr nine) = none-some (asks_renew words) parts nine.1 asked

  pub whole-drilled : (number : ℕ) → asks_drill words ≡ Some number → DrillRan number before.ends after.ends said → UsesEndsAlone before after said → ((said.status ≡ 3) ⊎ (said.status ≡ 9) → after.ends ≡ before.ends) → ((said.status ≡ 4) ⊎ (said.status ≡ 5) ⊎ (said.status ≡ 13) → after.ends ≡ before.ends)
      → Whole words forms contents before after said
  whole-drilled number asked ran alone silent no_file =
      let of : IsModeStatus said.status = subst IsModeStatus (sym ran.status_is) (drill_status _ _ _ number ran.outcome ran.cause) in
      let only = only_drill words number asked in
      record {
        causes = moded words said.status (inr (inr (inr (inr (inr (inr (inl (number, asked)))))))) (spoken drill_command words number asked) of;
        serve = record { ran = λ other is. none-some (asks_serve words) other (only.serve refl) is };
        keeps = record { kept = λ other is. none-some (asks_serve words) other (only.serve refl) is };
        password = record { ran = λ other is. none-some (asks_otp words) other (only.otp refl) is };
        check = record { ran = λ other is. none-some (asks_check words) other (only.check refl) is };
        child = record { ran = λ other is. none-some (asks_child words) other (only.child refl) is };
        audit = record { ran = λ other is. none-some (asks_audit words) other (only.audit refl) is };
        renew = record { ran = λ other is. none-some (asks_renew words) other (only.renew refl) is };
        drill = record {
          ran = λ other is.
              let same : number ≡ other = (let e : Some number ≡ Some other = sym asked ∙ is in cc) in
              subst (λ n. DrillRan n before.ends after.ends said) same ran;
        };
        recover = record { ran = λ other is. none-some (asks_recover words) other (only.recover refl) is };
        enrol = record { ran = λ other is. none-some (asks_enrol words) other (only.enrol refl) is };
        leaves = record {
          files = λ _ _ _ _ _ _. alone.files;
          plain_setup = λ _. alone.files;
          ends = λ _ _ _ _ _ none _ _. none-some (asks_drill words) number none asked;
          site = λ _. alone.site;
          unserved = λ _. record { log = alone.log; workers = alone.workers };
          eventless = λ _ none. none-some (asks_drill words) number none asked;
          unread = λ _ _ _. alone.files;
          silent = λ how. silent (three_or_nine how);
          unprinted = λ _. no_file;
          plain = λ _ _ _ _ _ _. alone.plain;
        };
        changes = changes-none (kept_files contents before.files after.files alone.files);
        touches = touches_same words contents before after alone.files;
      }

  pub whole-recovered : (parts : RecoverParts) → asks_recover words ≡ Some parts → RecoverRan parts contents (sides_of before) (sides_of after) (answer_in said) → UsesNothing before after said → ((said.status ≡ 3) ⊎ (said.status ≡ 9) → after.ends ≡ before.ends) → ((said.status ≡ 4) ⊎ (said.status ≡ 5) ⊎ (said.status ≡ 13) → after.ends ≡ before.ends) → TouchesFilesNamed words contents before after
      → Whole words forms contents before after said
  whole-recovered parts asked ran unused silent at_files touches =
      let status_is = sym ran.status_is in
      let of : IsModeStatus said.status = subst IsModeStatus status_is (recover_status _ _ _ _ _ _ _ parts ran.outcome ran.cause) in
      let only = only_recover words parts asked in
      record {
        causes = moded words said.status (inr (inr (inr (inr (inr (inr (inr (inl (parts, asked))))))))) (spoken recover_command words parts asked) of;
        serve = record { ran = λ other is. none-some (asks_serve words) other (only.serve refl) is };
        keeps = record { kept = λ other is. none-some (asks_serve words) other (only.serve refl) is };
        password = record { ran = λ other is. none-some (asks_otp words) other (only.otp refl) is };
        check = record { ran = λ other is. none-some (asks_check words) other (only.check refl) is };
        child = record { ran = λ other is. none-some (asks_child words) other (only.child refl) is };
        audit = record { ran = λ other is. none-some (asks_audit words) other (only.audit refl) is };
        renew = record { ran = λ other is. none-some (asks_renew words) other (only.renew refl) is };
        drill = record { ran = λ other is. none-some (asks_drill words) other (only.drill refl) is };
        recover = record {
          ran = λ other is.
              let same : parts ≡ other = (let e : Some parts ≡ Some other = sym asked ∙ is in cc) in
              inr (subst (λ p. RecoverRan p contents (sides_of before) (sides_of after) (answer_in said)) same ran);
        };
        enrol = record { ran = λ other is. none-some (asks_enrol words) other (only.enrol refl) is };
        leaves = moded-leaves (only.serve refl) (λ _ _ _ _ none. none-some (asks_recover words) parts none asked) (λ _ _ _ _ _ _ none _. none-some (asks_recover words) parts none asked) unused (λ other is _. none-some (asks_otp words) other (only.otp refl) is) (λ how. silent (three_or_nine how)) (λ _. at_files) (λ _. detail-by status_of detail_of ran.outcome said.status said.detail ran.status_is ran.detail_is (ended_plain ran.outcome));
        changes = changes-recovered words parts contents before after said asked ran only;
        touches = touches;
      }

  pub whole-enrolled : (parts : EnrolParts) → asks_enrol words ≡ Some parts → EnrolRan parts before.ends after.ends said.status → said.detail ≡ Nothing → UsesNothing before after said → after.files ≡ before.files → FilesGo SameFiles contents before.files after.files → TouchesFilesNamed words contents before after
      → Whole words forms contents before after said
  whole-enrolled parts asked ran plain unused files goes touches =
      let of : IsModeStatus said.status = subst IsModeStatus (sym ran.status_is) (enrol_status _ _ _ parts ran.outcome ran.cause) in
      let only = only_enrol words parts asked in
      record {
        causes = moded words said.status (inr (inr (inr (inr (inr (inr (inr (inr (parts, asked))))))))) (spoken enrol_command words parts asked) of;
        serve = record { ran = λ other is. none-some (asks_serve words) other (only.serve refl) is };
        keeps = record { kept = λ other is. none-some (asks_serve words) other (only.serve refl) is };
        password = record { ran = λ other is. none-some (asks_otp words) other (only.otp refl) is };
        check = record { ran = λ other is. none-some (asks_check words) other (only.check refl) is };
        child = record { ran = λ other is. none-some (asks_child words) other (only.child refl) is };
        audit = record { ran = λ other is. none-some (asks_audit words) other (only.audit refl) is };
        renew = record { ran = λ other is. none-some (asks_renew words) other (only.renew refl) is };
        drill = record { ran = λ other is. none-some (asks_drill words) other (only.drill refl) is };
        recover = record { ran = λ other is. none-some (asks_recover words) other (only.recover refl) is };
        enrol = record {
          ran = λ other is.
              let same : parts ≡ other = (let e : Some parts ≡ Some other = sym asked ∙ is in cc) in
              inr (subst (λ p. EnrolRan p before.ends after.ends said.status) same ran);
        };
        leaves = moded-leaves (only.serve refl) (λ _ _ _ _ _. files) (λ _ _ _ _ _ _ _ none. none-some (asks_enrol words) parts none asked) unused (λ _ _ _. files) silent (λ _ how. absurd (enrol_files _ _ _ parts ran.outcome said.status ran.cause ran.status_is (inr how))) (λ _ _ _ _ _ _. plain);
        changes = changes-none goes;
        touches = touches;
      } where
        silent : (said.status ≡ 3) ⊎ (said.status ≡ 9) × (asks_renew words ≡ None) × (asks_enrol words ≡ None) → after.ends ≡ before.ends
        silent (inl three) = absurd (enrol_files _ _ _ parts ran.outcome said.status ran.cause ran.status_is (inl three))
        silent (inr nine) = none-some (asks_enrol words) parts nine.2 asked

  -- a command that is done without threads
  pub whole-alone : (command : AloneCommand) → AsksAlone words command
      → IsRunOf command forms contents (sides_of before) (sides_of after) (answer_in said)
      → SparesRest command contents (sides_of before) (sides_of after) said.status → UsesNothing before after said → TouchesGiven command contents (sides_of before) (sides_of after)
      → Whole words forms contents before after said
  whole-alone (alone.Password command) asked ran spares unused given =
      whole-password (command_parts command) asked ran unused (λ none. spares.unread (ap is_some none))
      (λ how. spares.silent (taking_none how)) (spares.unprinted refl) (spares.unwritten refl)
      (touches_alone words contents before after (alone.Password command) asked given)
  whole-alone (alone.Check setup) asked ran spares unused given =
      whole-checked setup.now asked ran unused (λ how. spares.silent (taking_none how)) (spares.unwritten refl)
      (touches_alone words contents before after (alone.Check setup) asked given)
  whole-alone (alone.Child command) asked ran spares unused given =
      whole-child (parts_of command) asked ran.0 ran.1 unused (λ how. spares.silent (taking_none how))
      (spares.unprinted refl) (spares.unread refl) (spares.unwritten refl)
      (touches_alone words contents before after (alone.Child command) asked given)
  whole-alone (alone.Audit command) asked ran spares unused given =
      whole-audited (audits_command.command_parts command) asked ran unused (λ how. spares.silent (taking_none how))
      (spares.unprinted refl) (spares.unwritten refl)
      (touches_alone words contents before after (alone.Audit command) asked given)
  whole-alone (alone.Renew command) asked ran spares unused given =
      whole-renewed (renewals.command_parts command) asked ran unused at_files
      (touches_alone words contents before after (alone.Renew command) asked given) where
        at_files : (said.status ≡ 3) ⊎ (said.status ≡ 4) ⊎ (said.status ≡ 5) ⊎ (said.status ≡ 13) → after.ends ≡ before.ends
        at_files (inl three) = spares.silent (inl three)
        at_files (inr how) = spares.unprinted refl how
  whole-alone (alone.Recover command) asked ran spares unused given =
      whole-recovered (recoveries_command.command_parts command) asked ran unused
      (λ how. spares.silent (taking_none how)) (spares.unprinted refl)
      (touches_alone words contents before after (alone.Recover command) asked given)
  whole-alone (alone.Enrol command) asked ran spares unused given =
      whole-enrolled (enrolments_command.command_parts command) asked ran.0 ran.1 unused (spares.unread refl)
      (spares.unwritten refl)
      (touches_alone words contents before after (alone.Enrol command) asked given)

  -- nothing was done
  whole-nothing : StatusHasCause words said.status → (said.status ≡ 9) ⊎ (IsCommand words → ⊥) → said.detail ≡ Nothing → said.journal ≡ [] → said.posts ≡ [] → after ≡ before
      → Whole words forms contents before after said
  whole-nothing known why plain events workers same = record {
    causes = known;
    serve = record { ran = λ source asked. (unremembered_serve source (nine why (inl (source, asked)))).ran };
    keeps = record { kept = λ source asked. is_kept forms contents before after said source (unremembered_serve source (nine why (inl (source, asked)))) };
    password = record { ran = λ parts asked. ran why (inr (inl (parts, asked))) };
    check = record { ran = λ setup asked. ran why (inr (inr (inl (setup, asked)))) };
    child = record { ran = λ parts asked. ran why (inr (inr (inr (inl (parts, asked))))) };
    audit = record { ran = λ parts asked. ran why (inr (inr (inr (inr (inl (parts, asked)))))) };
    renew = record { ran = λ parts asked. inl (nine why (inr (inr (inr (inr (inr (inl (parts, asked))))))), told) };
    drill = record { ran = λ number asked. unremembered_drill number (nine why (inr (inr (inr (inr (inr (inr (inl (number, asked))))))))) };
    recover = record { ran = λ parts asked. ran why (inr (inr (inr (inr (inr (inr (inr (inl (parts, asked))))))))) };
    enrol = record { ran = λ parts asked. inl (nine why (inr (inr (inr (inr (inr (inr (inr (inr (parts, asked))))))))), told) };
    leaves = record {
      files = λ _ _ _ _ _ _. files;
      plain_setup = λ _. files;
      ends = λ _ _ _ _ _ _ _ _. ends;
      site = λ _. ap (λ (a : Around F S K E). a.site) same;
      unserved = λ _. record { log = ap (λ (a : Around F S K E). a.log) same; workers = workers };
      eventless = λ _ _. events;
      unread = λ _ _ _. files;
      silent = λ _. ends;
      unprinted = λ _ _. ends;
      plain = λ _ _ _ _ _ _. plain;
    };
    changes = changes-none (kept_files contents before.files after.files files);
    touches = touches_same words contents before after files;
  } where
    files : after.files ≡ before.files
    files = ap (λ (a : Around F S K E). a.files) same

    ends : after.ends ≡ before.ends
    ends = ap (λ (a : Around F S K E). a.ends) same

    told : after.ends.link ≡ before.ends.link
    told = ap (λ (e : EndsNow E). e.link) ends

    ran : {A : Type 0} → (said.status ≡ 9) ⊎ (IsCommand words → ⊥) → IsCommand words → (said.status ≡ 9) ⊎ A
    ran (inl nine) command = inl nine
    ran (inr none) command = absurd (none command)

    nine : (said.status ≡ 9) ⊎ (IsCommand words → ⊥) → IsCommand words → said.status ≡ 9
    nine (inl is) command = is
    nine (inr none) command = absurd (none command)

    unremembered_serve : (source : Source) → said.status ≡ 9 → HasServed source forms contents before after said
    unremembered_serve source is =
        let logs = subst (λ (a : Around F S K E). IsUnwritten before.log.held a.log.held) (sym same) (unwritten before.log.held) in
        let placed = subst (λ (a : Around F S K E). Gains before.site.listens [] a.site.listens) (sym same) (Gains-none before.site.listens) in
        let run = unserved_ended source forms troubles.OutOfMemory (Err troubles.OutOfMemory) said.journal said.posts (run_around contents before) (run_around contents after)
        refl (memory_why source forms (contents before.files.it) (contents after.files.it) (ReadRose before.files after.files) (Rose before.site.faults after.site.faults)) events workers (kept_files contents before.files after.files files) placed logs in
        record {
          ran = record { end = Err troubles.OutOfMemory; status_is = is; detail_is = plain; ended = run.serve };
          kept = run.kept;
        }

    unremembered_drill : (number : ℕ) → said.status ≡ 9 → DrillRan number before.ends after.ends said
    unremembered_drill number is = record { outcome = Err troubles.OutOfMemory; status_is = is; journal_is = events; cause = told }

  -- words that were not read
  pub whole-unread : (why : Unread) → IsReading words (Err why) → said ≡ only_answer (unread_answer why) → after ≡ before
      → Whole words forms contents before after said
  whole-unread unread.NoCommand none is = whole-nothing (uncommanded words said.status none (ap (λ (s : Said). s.status) is)) (inr none) (ap (λ (s : Said). s.detail) is) (ap (λ (s : Said). s.journal) is) (ap (λ (s : Said). s.posts) is)
  whole-unread unread.OutOfMemory spoken is = whole-nothing (unremembered words said.status spoken (ap (λ (s : Said). s.status) is)) (inl (ap (λ (s : Said). s.status) is)) (ap (λ (s : Said). s.detail) is) (ap (λ (s : Said). s.journal) is) (ap (λ (s : Said). s.posts) is)
