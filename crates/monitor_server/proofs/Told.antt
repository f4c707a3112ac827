-- What the statuses and the details of the modes tell.
use Rattle.std.proofs.Common.{◌≡◌, ◌≢◌, ◌≤◌, ◌⊎◌, ℕ, Bool, true, false, ◌&&◌, ◌||◌, List, [], ◌∷◌, Some, None, Result, Ok, Err, refl, sym, ap, subst, ◌∙◌, inl, inr, arith}
use Rattle.std.specs.Prelude.{not, ◌==◌, Option, Vec}
use Rattle.std.specs.Global.{Global}
use Rattle.std.specs.List.{list_any}
use Rattle.info_hooks.specs.declared.key.Key.{Key}
use Rattle.outside.specs.Files.{Contents}
use Rattle.outside.specs.Link.{Link}
use Rattle.command_line.specs.Words.{words_without_hyphen}
use Rattle.trouble.specs.declared.trouble.ServeFault.{ServeFault}
use Rattle.trouble.specs.declared.trouble.ServeFault.TheVariants as serving
use Rattle.trouble.specs.declared.trouble.Trouble.{Trouble}
use Rattle.trouble.specs.declared.trouble.Trouble.TheVariants as troubles
use Rattle.trouble.specs.Status.{status_of, trouble_status}
use Rattle.otp_mode.specs.Outcome as otps
use Rattle.otp_mode.specs.Words.{OtpParts}
use Rattle.check_mode.specs.Outcome as checks
use Rattle.recover_mode.specs.declared.line.Recovery.{Recovery}
use Rattle.recover_mode.specs.Ends.{may_be_written}
use Rattle.recover_mode.specs.Outcome as recoveries
use Rattle.recover_mode.specs.Words.{RecoverParts}
use Rattle.policy_model.specs.declared.event.Event.{Event}
use Rattle.drill_mode.specs.Outcome as drills
use Rattle.enrol_mode.specs.Outcome as enrols
use Rattle.enrol_mode.specs.Words.{EnrolParts}
use Rattle.check_mode.specs.declared.finding.Finding.{Finding}
use Rattle.child_mode.specs.declared.run.ChildRun.{ChildRun}
use Rattle.child_mode.specs.declared.run.ChildRun.TheVariants as runs
use Rattle.child_mode.specs.Outcome as children
use Rattle.child_protocol.specs.declared.run.ChildEnd.TheVariants as ends
use Rattle.audit_check.specs.declared.answer.Audit.{Audit}
use Rattle.audit_check.specs.declared.answer.Audit.TheVariants as answers
use Rattle.audit_mode.specs.Outcome as audits
use Rattle.audit_mode.specs.Words.{AuditParts}
use Rattle.otp_extended.specs.declared.renewal.Renewed.{Renewed}
use Rattle.otp_extended.specs.Commands.{RenewParts}
use Rattle.renew_mode.specs.Ends as renew_ends
use Rattle.renew_mode.specs.Outcome as renewals
use Rattle.serve_mode.specs.Words.{Source}
use Rattle.monitor_server.specs.declared.report.Detail.{Detail}
use Rattle.monitor_server.specs.declared.report.Detail.TheVariants.{Nothing}
use Rattle.monitor_server.specs.Commands.{IsCommand, asks_serve}
use Rattle.monitor_server.specs.Headline.{IsStatus, StatusHasCause, is_serve_status, statuses}
use Rattle.monitor_server.specs.Modes.{audit_detail, checked_detail, detail_of, trouble_detail}

-- a status of a mode that serves nobody
abbrev pub is_mode_status : ℕ → Bool
is_mode_status status = list_any (λ s. s == status) statuses && not (list_any (λ s. s == status) (2 ∷ 6 ∷ 7 ∷ 10 ∷ []))

abbrev pub IsModeStatus : ℕ → Type 0
IsModeStatus status = is_mode_status status ≡ true

-- a status of which the detail tells nothing
pub record IsPlainStatus (status : ℕ) : Type 0 where
  pub four : status ≢ 4
  pub five : status ≢ 5
  pub thirteen : status ≢ 13
  pub fourteen : status ≢ 14
  pub fifteen : status ≢ 15

-- a mode that doesn't come to the troubles of serving has the status of another mode
mode_status : {A : Type 0} (Came : Result A Trouble → Type 0) → ((fault : ServeFault) → Came (Err (troubles.Serving fault)) → ⊥) → (outcome : Result A Trouble) → Came outcome → IsModeStatus (status_of outcome)
mode_status Came never (Ok done) came = refl
mode_status Came never (Err troubles.OutOfMemory) came = refl
mode_status Came never (Err troubles.ReadFailed) came = refl
mode_status Came never (Err (troubles.Missing file)) came = refl
mode_status Came never (Err (troubles.SetupRefused fault)) came = refl
mode_status Came never (Err (troubles.WordsRefused fault)) came = refl
mode_status Came never (Err (troubles.LogRefused fault)) came = refl
mode_status Came never (Err troubles.ReplaceFailed) came = refl
mode_status Came never (Err troubles.EndsFailed) came = refl
mode_status Came never (Err troubles.PhraseRefused) came = refl
mode_status Came never (Err (troubles.Serving fault)) came = absurd (never fault came)
mode_status Came never (Err (troubles.ResponseRefused fault)) came = refl
mode_status Came never (Err (troubles.NoRenewal fault)) came = refl

pub password_status : (contents : Option Contents) (before after : Option Link) (R E : Type 0) (parts : OtpParts) (outcome : Result (Unit {0}) Trouble) → otps.IsOutcome parts contents before after R E outcome → IsModeStatus (status_of outcome)
password_status contents before after R E parts outcome cause = mode_status (otps.IsOutcome parts contents before after R E) (λ fault came. never parts.list fault came.0) outcome cause where
  never : (list : Option (List ℕ)) (fault : ServeFault) → otps.IsUnlisted contents list R (troubles.Serving fault) → ⊥
  never None fault why = why
  never (Some name) fault why = why

pub enrol_status : (before after : Option Link) (E : Type 0) (parts : EnrolParts) (outcome : Result (Unit {0}) Trouble) → enrols.IsOutcome parts before after E outcome → IsModeStatus (status_of outcome)
enrol_status before after E parts outcome cause = mode_status (enrols.IsOutcome parts before after E) (λ fault came. came) outcome cause

pub check_status : (forms : List Key) (name : List ℕ) (contents : Option Contents) (before after : Option Link) (R E : Type 0) (outcome : Result Finding Trouble) → checks.IsOutcome forms name contents before after R E outcome → IsModeStatus (status_of outcome)
check_status forms name contents before after R E outcome cause = mode_status (checks.IsOutcome forms name contents before after R E) (λ fault came. let untold : false ≡ true = came.0.0 in cc) outcome cause

pub recover_status : (old new : Option Contents) (before after : Option Link) (R P E : Type 0) (parts : RecoverParts) (outcome : Result Recovery Trouble) → recoveries.IsOutcome parts old new before after R P E outcome → IsModeStatus (status_of outcome)
recover_status old new before after R P E parts outcome cause = mode_status (recoveries.IsOutcome parts old new before after R P E) (λ fault came. came.0.why) outcome cause

-- with another status than 0, 8 and 11 it wrote nothing
pub recover_unwritten : (outcome : Result Recovery Trouble) → status_of outcome ≢ 0 → status_of outcome ≢ 8 → status_of outcome ≢ 11 → may_be_written outcome ≡ false
recover_unwritten (Ok recovery) zero eight eleven = absurd (zero refl)
recover_unwritten (Err troubles.ReplaceFailed) zero eight eleven = absurd (eight refl)
recover_unwritten (Err troubles.EndsFailed) zero eight eleven = absurd (eleven refl)
recover_unwritten (Err troubles.OutOfMemory) zero eight eleven = refl
recover_unwritten (Err troubles.ReadFailed) zero eight eleven = refl
recover_unwritten (Err (troubles.Missing file)) zero eight eleven = refl
recover_unwritten (Err (troubles.SetupRefused fault)) zero eight eleven = refl
recover_unwritten (Err (troubles.WordsRefused fault)) zero eight eleven = refl
recover_unwritten (Err (troubles.LogRefused fault)) zero eight eleven = refl
recover_unwritten (Err (troubles.Serving fault)) zero eight eleven = refl
recover_unwritten (Err (troubles.ResponseRefused fault)) zero eight eleven = refl
recover_unwritten (Err (troubles.NoRenewal fault)) zero eight eleven = refl
recover_unwritten (Err troubles.PhraseRefused) zero eight eleven = refl

pub drill_status : (before after : Option Link) (E : Type 0) (number : ℕ) (outcome : Result (Vec Event Global) Trouble) → drills.IsOutcome number before after E outcome → IsModeStatus (status_of outcome)
drill_status before after E number outcome cause = mode_status (drills.IsOutcome number before after E) (λ fault came. came) outcome cause

pub audit_status : (contents : Option Contents) (before after : Option Link) (R E : Type 0) (parts : AuditParts) (outcome : Result Audit Trouble) → audits.IsOutcome parts contents before after R E outcome → IsModeStatus (audits.audit_status outcome)
audit_status contents before after R E parts (Ok (answers.Yes events)) cause = refl
audit_status contents before after R E parts (Ok (answers.No place why)) cause = refl
audit_status contents before after R E parts (Err trouble) cause = mode_status (audits.IsOutcome parts contents before after R E) (λ fault came. came.0) (Err trouble) cause

pub renew_status : (old new : Option Contents) (before after : Option Link) (R P E : Type 0) (parts : RenewParts) (outcome : Result Renewed Trouble) → renewals.IsOutcome parts old new before after R P E outcome → IsModeStatus (status_of outcome)
renew_status old new before after R P E parts outcome cause = mode_status (renewals.IsOutcome parts old new before after R P E) (λ fault came. came.why) outcome cause

-- with another status than 0, 8 and 11 it wrote nothing
pub renew_unwritten : (outcome : Result Renewed Trouble) → status_of outcome ≢ 0 → status_of outcome ≢ 8 → status_of outcome ≢ 11 → renew_ends.may_be_written outcome ≡ false
renew_unwritten (Ok renewed) zero eight eleven = absurd (zero refl)
renew_unwritten (Err troubles.ReplaceFailed) zero eight eleven = absurd (eight refl)
renew_unwritten (Err troubles.EndsFailed) zero eight eleven = absurd (eleven refl)
renew_unwritten (Err troubles.OutOfMemory) zero eight eleven = refl
renew_unwritten (Err troubles.ReadFailed) zero eight eleven = refl
renew_unwritten (Err (troubles.Missing file)) zero eight eleven = refl
renew_unwritten (Err (troubles.SetupRefused fault)) zero eight eleven = refl
renew_unwritten (Err (troubles.WordsRefused fault)) zero eight eleven = refl
renew_unwritten (Err (troubles.LogRefused fault)) zero eight eleven = refl
renew_unwritten (Err (troubles.Serving fault)) zero eight eleven = refl
renew_unwritten (Err troubles.PhraseRefused) zero eight eleven = refl
renew_unwritten (Err (troubles.ResponseRefused fault)) zero eight eleven = refl
renew_unwritten (Err (troubles.NoRenewal fault)) zero eight eleven = refl

-- the mode `enrol` reads no file
pub enrol_files : (before after : Option Link) (E : Type 0) (parts : EnrolParts) (outcome : Result (Unit {0}) Trouble) (status : ℕ) → enrols.IsOutcome parts before after E outcome → status ≡ status_of outcome → (status ≡ 3) ⊎ (status ≡ 4) ⊎ (status ≡ 5) ⊎ (status ≡ 13) → ⊥
enrol_files before after E parts outcome status cause is how = go outcome cause is (within how) where
  within : (status ≡ 3) ⊎ (status ≡ 4) ⊎ (status ≡ 5) ⊎ (status ≡ 13) → ((3 ≤ status) × (status ≤ 5)) ⊎ (status ≡ 13)
  within (inl e) = inl (omega (arith, e), omega (arith, e))
  within (inr (inl e)) = inl (omega (arith, e), omega (arith, e))
  within (inr (inr (inl e))) = inl (omega (arith, e), omega (arith, e))
  within (inr (inr (inr e))) = inr e

  go : (outcome : Result (Unit {0}) Trouble) → enrols.IsOutcome parts before after E outcome → status ≡ status_of outcome → ((3 ≤ status) × (status ≤ 5)) ⊎ (status ≡ 13) → ⊥
  go (Ok done) cause is (inl few) = omega (arith, is, few.0, few.1)
  go (Ok done) cause is (inr e) = omega (arith, is, e)
  go (Err troubles.OutOfMemory) cause is (inl few) = omega (arith, is, few.0, few.1)
  go (Err troubles.OutOfMemory) cause is (inr e) = omega (arith, is, e)
  go (Err troubles.EndsFailed) cause is (inl few) = omega (arith, is, few.0, few.1)
  go (Err troubles.EndsFailed) cause is (inr e) = omega (arith, is, e)
  go (Err troubles.PhraseRefused) cause is (inl few) = omega (arith, is, few.0, few.1)
  go (Err troubles.PhraseRefused) cause is (inr e) = omega (arith, is, e)
  go (Err troubles.ReadFailed) cause is how = cause
  go (Err (troubles.Missing _)) cause is how = cause
  go (Err (troubles.SetupRefused _)) cause is how = cause
  go (Err (troubles.WordsRefused _)) cause is how = cause
  go (Err (troubles.LogRefused _)) cause is how = cause
  go (Err (troubles.Serving _)) cause is how = cause
  go (Err (troubles.ResponseRefused _)) cause is how = cause
  go (Err (troubles.NoRenewal _)) cause is how = cause
  go (Err troubles.ReplaceFailed) cause is how = cause

pub child_status : (outcome : ChildRun) → IsModeStatus (children.run_status outcome)
child_status (runs.Ended ends.Done) = refl
child_status (runs.Ended ends.LinkEnded) = refl
child_status (runs.Ended ends.LinkFault) = refl
child_status (runs.Ended ends.Unreadable) = refl
child_status (runs.Ended ends.Spent) = refl
child_status runs.OutOfMemory = refl

trouble_plain : (trouble : Trouble) → IsPlainStatus (trouble_status trouble) → trouble_detail trouble ≡ Nothing
trouble_plain troubles.OutOfMemory plain = refl
trouble_plain troubles.ReadFailed plain = refl
trouble_plain (troubles.Missing file) plain = absurd (plain.four refl)
trouble_plain (troubles.SetupRefused fault) plain = absurd (plain.five refl)
trouble_plain (troubles.WordsRefused fault) plain = absurd (plain.five refl)
trouble_plain (troubles.LogRefused fault) plain = absurd (plain.thirteen refl)
trouble_plain (troubles.Serving fault) plain = refl
trouble_plain (troubles.ResponseRefused fault) plain = refl
trouble_plain (troubles.NoRenewal fault) plain = absurd (plain.fifteen refl)
trouble_plain troubles.ReplaceFailed plain = refl
trouble_plain troubles.EndsFailed plain = refl
trouble_plain troubles.PhraseRefused plain = refl

pub ended_plain : {A : Type 0} (outcome : Result A Trouble) → IsPlainStatus (status_of outcome) → detail_of outcome ≡ Nothing
ended_plain (Ok done) plain = refl
ended_plain (Err trouble) plain = trouble_plain trouble plain

pub check_plain : (outcome : Result Finding Trouble) → status_of outcome ≢ 0 → IsPlainStatus (status_of outcome) → checked_detail outcome ≡ Nothing
check_plain (Ok finding) some plain = absurd (some refl)
check_plain (Err trouble) some plain = trouble_plain trouble plain

pub audit_plain : (outcome : Result Audit Trouble) → IsPlainStatus (audits.audit_status outcome) → audit_detail outcome ≡ Nothing
audit_plain (Ok (answers.Yes events)) plain = refl
audit_plain (Ok (answers.No place why)) plain = absurd (plain.fourteen refl)
audit_plain (Err trouble) plain = trouble_plain trouble plain

-- a detail that the outcome of a mode tells
pub detail-by : {A : Type 0} (status_of : A → ℕ) (detail_by : A → Detail) (outcome : A) (status : ℕ) (detail : Detail) → status ≡ status_of outcome → detail ≡ detail_by outcome → (IsPlainStatus (status_of outcome) → detail_by outcome ≡ Nothing) → status ≢ 4 → status ≢ 5 → status ≢ 13 → status ≢ 14 → status ≢ 15 → detail ≡ Nothing
detail-by status_of detail_by outcome status detail is told plain four five thirteen fourteen fifteen =
    told ∙ plain (record { four = λ e. four (is ∙ e); five = λ e. five (is ∙ e); thirteen = λ e. thirteen (is ∙ e); fourteen = λ e. fourteen (is ∙ e); fifteen = λ e. fifteen (is ∙ e) })

-- a mode that ends has a status of the list, and never says that its words are no command
pub ended_status : {A : Type 0} (outcome : Result A Trouble) → IsStatus (status_of outcome) × (status_of outcome ≢ 2)
ended_status (Ok done) = (refl, λ e. omega (arith, e))
ended_status (Err troubles.OutOfMemory) = (refl, λ e. omega (arith, e))
ended_status (Err troubles.ReadFailed) = (refl, λ e. omega (arith, e))
ended_status (Err (troubles.Missing file)) = (refl, λ e. omega (arith, e))
ended_status (Err (troubles.SetupRefused fault)) = (refl, λ e. omega (arith, e))
ended_status (Err (troubles.WordsRefused fault)) = (refl, λ e. omega (arith, e))
ended_status (Err (troubles.LogRefused fault)) = (refl, λ e. omega (arith, e))
ended_status (Err (troubles.Serving serving.ListenFailed)) = (refl, λ e. omega (arith, e))
ended_status (Err (troubles.Serving serving.LogLost)) = (refl, λ e. omega (arith, e))
ended_status (Err (troubles.Serving serving.AcceptFailed)) = (refl, λ e. omega (arith, e))
ended_status (Err troubles.ReplaceFailed) = (refl, λ e. omega (arith, e))
ended_status (Err troubles.EndsFailed) = (refl, λ e. omega (arith, e))
ended_status (Err troubles.PhraseRefused) = (refl, λ e. omega (arith, e))
ended_status (Err (troubles.ResponseRefused fault)) = (refl, λ e. omega (arith, e))
ended_status (Err (troubles.NoRenewal fault)) = (refl, λ e. omega (arith, e))

-- ---- why a status came

-- words that are no command
pub uncommanded : (words : List (List ℕ)) (status : ℕ) → ¬ (IsCommand words) → status ≡ 2 → StatusHasCause words status
uncommanded words status no_command is = record {
  listed = subst IsStatus (sym is) refl;
  no_words = λ _. is;
  no_command = λ _. inl is;
  command = λ _. no_command;
  unserved = λ _. ap is_serve_status is;
}

-- out of memory for words of which none begins with a hyphen
pub unremembered : (words : List (List ℕ)) (status : ℕ) → words_without_hyphen words ≢ None → status ≡ 9 → StatusHasCause words status
unremembered words status spoken is = record {
  listed = subst IsStatus (sym is) refl;
  no_words = λ none. absurd (spoken none);
  no_command = λ _. inr is;
  command = λ e. absurd (omega (arith, is, e));
  unserved = λ _. ap is_serve_status is;
}

-- the words are those of another mode than `serve`
pub moded : (words : List (List ℕ)) (status : ℕ) → IsCommand words → words_without_hyphen words ≢ None → IsModeStatus status → StatusHasCause words status
moded words status command spoken of = record {
  listed = left (list_any (λ s. s == status) statuses) (not (list_any (λ s. s == status) (2 ∷ 6 ∷ 7 ∷ 10 ∷ []))) of;
  no_words = λ none. absurd (spoken none);
  no_command = λ ne. absurd (ne command);
  command = λ e. absurd (let f : true ≡ false = sym of ∙ ap is_mode_status e in cc);
  unserved = λ _. go (2 == status) (6 == status) (7 == status) (10 == status) (right (list_any (λ s. s == status) statuses) (list_any (λ s. s == status) (2 ∷ 6 ∷ 7 ∷ 10 ∷ [])) of);
} where
  left : (a b : Bool) → (a && b) ≡ true → a ≡ true
  left true b h = refl
  left false b h = absurd cc

  right : (a b : Bool) → (a && not b) ≡ true → b ≡ false
  right true true h = absurd cc
  right true false h = refl
  right false b h = absurd cc

  go : (a b c d : Bool) → (a || (b || (c || (d || false)))) ≡ false → (b || (c || (d || false))) ≡ false
  go true b c d h = absurd cc
  go false b c d h = h

-- the words are those of `serve`
pub served : (words : List (List ℕ)) (source : Source) (status : ℕ) → asks_serve words ≡ Some source → words_without_hyphen words ≢ None → IsStatus status → status ≢ 2 → StatusHasCause words status
served words source status asked spoken listed other = record {
  listed = listed;
  no_words = λ none. absurd (spoken none);
  no_command = λ ne. absurd (ne (inl (source, asked)));
  command = λ e. absurd (other e);
  unserved = λ none. absurd (let e : None ≡ Some source = sym none ∙ asked in cc);
}
