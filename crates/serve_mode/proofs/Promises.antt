-- All that serving by a service promises, where somebody was served and where nobody was.
use Rattle.std.proofs.Common.{◌≡◌, ◌≢◌, ◌⊎◌, ℕ, ◌≤◌, Bool, true, false, List, [], ◌∷◌, ◌++◌, length, Option, Some, None, Result, Ok, Err, refl, sym, ap, subst, ◌∙◌, arith, inl, inr, append-nil}
use Rattle.std.specs.Prelude.{IfSome, slice_get, is_some}
use Rattle.std.specs.Result.{result_map_both}
use Rattle.info_hooks.specs.declared.key.Key.{Key}
use Rattle.monitor_book.specs.declared.opened.Held.{Held}
use Rattle.monitor_book.specs.Lines.{AppendsLines, HoldsLines, IsUnwritten, LogMatches}
use Rattle.monitor_run.specs.Headline.{JournalIsLegal, RunPromises}
use Rattle.monitor_run.specs.Posts.{PostNow}
use Rattle.monitor_run.proofs.Promises.{numbers_none}
use Rattle.otp_ledger.specs.Accounts.{LedgerParts}
use Rattle.otp_ledger.specs.Standing.{StandsFor}
use Rattle.outside.specs.Files.{Contents, MayBeReplaced, Replaced, SameFiles}
use Rattle.outside.specs.FilesNow.{FilesNow}
use Rattle.outside.specs.Told.{Gains, Goes, Rose}
use Rattle.outside.proofs.Told.{Goes-then, Rose-within}
use Rattle.policy_laws.proofs.Alike.{shows_no_accounts}
use Rattle.policy_model.specs.declared.event.Event.{Event}
use Rattle.policy_model.specs.Journal.{has_lost, kept_events}
use Rattle.policy_model.specs.Settings.{Settings}
use Rattle.account_writer.specs.CurrentSetup.{setup_after}
use Rattle.account_writer.specs.Written.{IsFileOf}
use Rattle.account_writer.proofs.BehindLemmas.{file_read}
use Rattle.account_file.specs.Entries.{entries_of}
use Rattle.setup_reading.specs.Read.{judged_setup}
use Rattle.setup_reading.proofs.ReadLemmas.{judged-short}
use Rattle.policy_model.proofs.Legal.{IsLegal-none}
use Rattle.service_model.specs.Places.{worker_places}
use Rattle.service_model.specs.Service.{Service}
use Rattle.service_reading.specs.Found as services
use Rattle.session_core.proofs.ReplayLemmas.{consequences}
use Rattle.trouble.specs.declared.trouble.LogFault.TheVariants as log_faults
use Rattle.trouble.specs.declared.trouble.ServeFault.TheVariants as serving
use Rattle.trouble.specs.declared.trouble.Trouble.{Trouble}
use Rattle.trouble.specs.declared.trouble.Trouble.TheVariants as troubles
use Rattle.trouble.specs.Reading.{service_in, trouble_of_service}
use Rattle.trouble.specs.Status.{status_of, trouble_status}
use Rattle.serve_mode.proofs.StillLemmas.{IsServiceOf, plain_service, service_of, service_still}
use Rattle.serve_mode.specs.Accounts.{AccountsMatch, AreAccountsWritten}
use Rattle.serve_mode.specs.AroundRun.{AroundRun}
use Rattle.serve_mode.specs.Headline.{NoFault, OfServed, ServeHasCause, ServePromises, is_run_status, is_unserved_status, served_places, setup_place}
use Rattle.fresh_log.specs.Fresh.{IsFresh}
use Rattle.serve_mode.specs.Services.{IsEndedBy, IsServable, IsServedBy, IsUnfresh, IsUnread, tell_throughout}
use Rattle.serve_mode.specs.Steps.{IsUnready, RunEnded, WritesBack, WritesNamed, run_end}
use Rattle.serve_mode.specs.Keeping.{ServeKeeps}
use Rattle.serve_mode.specs.Users.{KeepsUsers}
use Rattle.serve_mode.specs.Words.{Named, Plain, Source}

-- ---- the end of a run

-- what a run's end tells
record EndTells (end : Result (Unit {0}) Trouble) (written : Result (Unit {0}) Trouble) (lost failed : Bool) : Type 0 where
  pub served : is_unserved_status (status_of end) ≡ false
  pub six : status_of end ≢ 6
  pub three : status_of end ≢ 3
  pub lost_is : lost ≡ true → (status_of end ≡ 7) ⊎ (status_of end ≡ 9)
  pub seven : status_of end ≡ 7 → lost ≡ true
  pub ten : status_of end ≡ 10 → failed ≡ true
  pub eight : status_of end ≡ 8 → written ≡ Err troubles.ReplaceFailed
  pub zero : status_of end ≡ 0 → (lost ≡ false) × (failed ≡ false) × (written ≡ Ok tt)
  pub printed : is_run_status (status_of end) ≡ true → written ≢ Err troubles.OutOfMemory
  pub unprinted : is_run_status (status_of end) ≡ false → written ≡ Err troubles.OutOfMemory
  pub well : lost ≡ false → failed ≡ false → written ≢ Err troubles.ReplaceFailed → (status_of end ≡ 0) ⊎ (status_of end ≡ 9)

-- no memory was found for the accounts
at_no_memory : (end written : Result (Unit {0}) Trouble) (lost failed : Bool) → status_of end ≡ 9 → written ≡ Err troubles.OutOfMemory → EndTells end written lost failed
at_no_memory end written lost failed is oom = record {
  served = ap is_unserved_status is;
  six = λ e. omega (arith, is, e);
  three = λ e. omega (arith, is, e);
  lost_is = λ h. inr is;
  seven = λ e. absurd (omega (arith, is, e));
  ten = λ e. absurd (omega (arith, is, e));
  eight = λ e. absurd (omega (arith, is, e));
  zero = λ e. absurd (omega (arith, is, e));
  printed = λ e. absurd (let f : true ≡ false = sym e ∙ ap is_run_status is in cc);
  unprinted = λ e. oom;
  well = λ h k r. inr is;
}

-- a decision was lost
at_loss : (end written : Result (Unit {0}) Trouble) (lost failed : Bool) → status_of end ≡ 7 → lost ≡ true → written ≢ Err troubles.OutOfMemory → EndTells end written lost failed
at_loss end written lost failed is some printed = record {
  served = ap is_unserved_status is;
  six = λ e. omega (arith, is, e);
  three = λ e. omega (arith, is, e);
  lost_is = λ h. inl is;
  seven = λ e. some;
  ten = λ e. absurd (omega (arith, is, e));
  eight = λ e. absurd (omega (arith, is, e));
  zero = λ e. absurd (omega (arith, is, e));
  printed = λ e. printed;
  unprinted = λ e. absurd (let f : true ≡ false = sym (ap is_run_status is) ∙ e in cc);
  well = λ h k r. absurd (let f : true ≡ false = sym some ∙ h in cc);
}

-- an accept failed
at_accept : (end written : Result (Unit {0}) Trouble) (lost failed : Bool) → status_of end ≡ 10 → lost ≡ false → failed ≡ true → written ≢ Err troubles.OutOfMemory → EndTells end written lost failed
at_accept end written lost failed is kept some printed = record {
  served = ap is_unserved_status is;
  six = λ e. omega (arith, is, e);
  three = λ e. omega (arith, is, e);
  lost_is = λ h. absurd (let f : false ≡ true = sym kept ∙ h in cc);
  seven = λ e. absurd (omega (arith, is, e));
  ten = λ e. some;
  eight = λ e. absurd (omega (arith, is, e));
  zero = λ e. absurd (omega (arith, is, e));
  printed = λ e. printed;
  unprinted = λ e. absurd (let f : true ≡ false = sym (ap is_run_status is) ∙ e in cc);
  well = λ h k r. absurd (let f : true ≡ false = sym some ∙ k in cc);
}

-- the accounts were not written
at_replace : (end written : Result (Unit {0}) Trouble) (lost failed : Bool) → status_of end ≡ 8 → lost ≡ false → written ≡ Err troubles.ReplaceFailed → EndTells end written lost failed
at_replace end written lost failed is kept unwritten = record {
  served = ap is_unserved_status is;
  six = λ e. omega (arith, is, e);
  three = λ e. omega (arith, is, e);
  lost_is = λ h. absurd (let f : false ≡ true = sym kept ∙ h in cc);
  seven = λ e. absurd (omega (arith, is, e));
  ten = λ e. absurd (omega (arith, is, e));
  eight = λ e. unwritten;
  zero = λ e. absurd (omega (arith, is, e));
  printed = λ e h. absurd (let f : ◌≡◌ {A = Result (Unit {0}) Trouble} (Err troubles.ReplaceFailed) (Err troubles.OutOfMemory) = sym unwritten ∙ h in cc);
  unprinted = λ e. absurd (let f : true ≡ false = sym (ap is_run_status is) ∙ e in cc);
  well = λ h k r. absurd (r unwritten);
}

-- all went well
at_success : (end written : Result (Unit {0}) Trouble) (lost failed : Bool) → status_of end ≡ 0 → lost ≡ false → failed ≡ false → written ≡ Ok tt → EndTells end written lost failed
at_success end written lost failed is kept none done = record {
  served = ap is_unserved_status is;
  six = λ e. omega (arith, is, e);
  three = λ e. omega (arith, is, e);
  lost_is = λ h. absurd (let f : false ≡ true = sym kept ∙ h in cc);
  seven = λ e. absurd (omega (arith, is, e));
  ten = λ e. absurd (omega (arith, is, e));
  eight = λ e. absurd (omega (arith, is, e));
  zero = λ e. (kept, none, done);
  printed = λ e h. absurd (let f : ◌≡◌ {A = Result (Unit {0}) Trouble} (Ok tt) (Err troubles.OutOfMemory) = sym done ∙ h in cc);
  unprinted = λ e. absurd (let f : true ≡ false = sym (ap is_run_status is) ∙ e in cc);
  well = λ h k r. inl is;
}

-- what writing back comes to
abbrev IsWritten : Result (Unit {0}) Trouble → Type 0
IsWritten written = (written ≡ Ok tt) ⊎ (written ≡ Err troubles.OutOfMemory) ⊎ (written ≡ Err troubles.ReplaceFailed)

named_end : (name : List ℕ) (setup : Settings) (ledger : LedgerParts) (old new : Option Contents) (ReplaceRose : Type 0) (written : Result (Unit {0}) Trouble) → WritesNamed name setup ledger old new ReplaceRose written → IsWritten written
named_end name setup ledger old new ReplaceRose (Ok done) w = inl refl
named_end name setup ledger old new ReplaceRose (Err troubles.OutOfMemory) w = inr (inl refl)
named_end name setup ledger old new ReplaceRose (Err troubles.ReplaceFailed) w = inr (inr refl)
named_end name setup ledger old new ReplaceRose (Err troubles.ReadFailed) w = absurd w
named_end name setup ledger old new ReplaceRose (Err (troubles.Missing _)) w = absurd w
named_end name setup ledger old new ReplaceRose (Err (troubles.SetupRefused _)) w = absurd w
named_end name setup ledger old new ReplaceRose (Err (troubles.WordsRefused _)) w = absurd w
named_end name setup ledger old new ReplaceRose (Err (troubles.LogRefused (log_faults.Record _))) w = absurd w
named_end name setup ledger old new ReplaceRose (Err (troubles.LogRefused log_faults.NotFresh)) w = absurd w
named_end name setup ledger old new ReplaceRose (Err (troubles.Serving _)) w = absurd w
named_end name setup ledger old new ReplaceRose (Err (troubles.ResponseRefused _)) w = absurd w
named_end name setup ledger old new ReplaceRose (Err (troubles.NoRenewal _)) w = absurd w
named_end name setup ledger old new ReplaceRose (Err troubles.EndsFailed) w = absurd w
named_end name setup ledger old new ReplaceRose (Err troubles.PhraseRefused) w = absurd w

written_end : (source : Source) (setup : Settings) (ledger : LedgerParts) (old new : Option Contents) (ReplaceRose : Type 0) (written : Result (Unit {0}) Trouble) → WritesBack source setup ledger old new ReplaceRose written → IsWritten written
written_end Plain setup ledger old new ReplaceRose written w = inl w.0
written_end (Named name log) setup ledger old new ReplaceRose written w = named_end name setup ledger old new ReplaceRose written w

-- the same for each way of writing back, of losing and of accepting
end_tells : (written : Result (Unit {0}) Trouble) (lost failed : Bool) → IsWritten written → EndTells (run_end written lost failed) written lost failed
end_tells written lost failed (inr (inl oom)) = subst (λ w. EndTells (run_end w lost failed) w lost failed) (sym oom) (at_no_memory (Err troubles.OutOfMemory) (Err troubles.OutOfMemory) lost failed refl refl)
end_tells written lost failed (inl done) = subst (λ w. EndTells (run_end w lost failed) w lost failed) (sym done) (go lost failed) where
  go : (lost failed : Bool) → EndTells (run_end (Ok tt) lost failed) (Ok tt) lost failed
  go true failed = at_loss (Err (troubles.Serving serving.LogLost)) (Ok tt) true failed refl refl (λ e. absurd cc)
  go false true = at_accept (Err (troubles.Serving serving.AcceptFailed)) (Ok tt) false true refl refl refl (λ e. absurd cc)
  go false false = at_success (Ok tt) (Ok tt) false false refl refl refl refl
end_tells written lost failed (inr (inr not)) = subst (λ w. EndTells (run_end w lost failed) w lost failed) (sym not) (go lost failed) where
  go : (lost failed : Bool) → EndTells (run_end (Err troubles.ReplaceFailed) lost failed) (Err troubles.ReplaceFailed) lost failed
  go true failed = at_loss (Err (troubles.Serving serving.LogLost)) (Err troubles.ReplaceFailed) true failed refl refl (λ e. absurd cc)
  go false true = at_accept (Err (troubles.Serving serving.AcceptFailed)) (Err troubles.ReplaceFailed) false true refl refl refl (λ e. absurd cc)
  go false false = at_replace (Err troubles.ReplaceFailed) (Err troubles.ReplaceFailed) false false refl refl refl

-- that the accounts were not replaced has its cause
replace_rose : (source : Source) (setup : Settings) (ledger : LedgerParts) (old new : Option Contents) (ReplaceRose : Type 0) (written : Result (Unit {0}) Trouble) → WritesBack source setup ledger old new ReplaceRose written → written ≡ Err troubles.ReplaceFailed → ReplaceRose
replace_rose Plain setup ledger old new ReplaceRose written w is = absurd (let f : ◌≡◌ {A = Result (Unit {0}) Trouble} (Ok tt) (Err troubles.ReplaceFailed) = sym w.0 ∙ is in cc)
replace_rose (Named name log) setup ledger old new ReplaceRose written w is = (subst (WritesNamed name setup ledger old new ReplaceRose) is w).2

-- ---- the accounts

same_then : (old mid new : Option Contents) (step : Contents → Contents → Type 0) → ((a b c : Contents) → SameFiles a b → step b c → step a c) → Goes SameFiles old mid → Goes step mid new → Goes step old new
same_then old mid new step through kept goes = Goes-then SameFiles step step through old mid new kept goes

replaced_through : (name bytes : List ℕ) (a b c : Contents) → SameFiles a b → Replaced name bytes b c → Replaced name bytes a c
replaced_through name bytes a b c kept r = record { file = r.file; others = λ other ne. r.others other ne ∙ kept.same other }

pub same_through : (a b c : Contents) → SameFiles a b → SameFiles b c → SameFiles a c
same_through a b c p q = record { same = λ name. q.same name ∙ p.same name }

maybe_through : (name bytes : List ℕ) (a b c : Contents) → SameFiles a b → MayBeReplaced name bytes b c → MayBeReplaced name bytes a c
maybe_through name bytes a b c kept m = record { either = go m.either } where
  go : SameFiles b c ⊎ Replaced name bytes b c → SameFiles a c ⊎ Replaced name bytes a c
  go (inl same) = inl (same_through a b c kept same)
  go (inr replaced) = inr (replaced_through name bytes a b c kept replaced)

-- the file of a setup is read as this setup
file_judged : (setup : Settings) (bytes : List ℕ) → IsFileOf setup bytes → judged_setup bytes ≡ Ok (entries_of setup)
file_judged setup bytes is = judged-short bytes (entries_of setup) is.few (file_read setup bytes is)

accounts_named : (name : List ℕ) (setup : Settings) (ledger : LedgerParts) (end written : Result (Unit {0}) Trouble) (lost failed : Bool) (journal : List Event) (before after : FilesNow) (mid : Option Contents) → EndTells end written lost failed → StandsFor ledger (kept_events journal) → Goes SameFiles before.contents mid → WritesNamed name setup ledger mid after.contents (Rose before.replace_faults after.replace_faults) written → IsWritten written → AreAccountsWritten name setup (status_of end) journal before after
accounts_named name setup ledger end written lost failed journal before after mid tells stands kept w (inl done) =
    let did = subst (WritesNamed name setup ledger mid after.contents (Rose before.replace_faults after.replace_faults)) done w in
    let file = did.1.by_journal (kept_events journal) stands in
    let goes = same_then before.contents mid after.contents (Replaced name did.0) (replaced_through name did.0) kept did.2 in
    record {
      bytes = did.0;
      spells = λ _. file_judged (setup_after setup (kept_events journal)) did.0 file;
      file = λ _. file;
      written = λ _. goes;
      tried = λ _. inl goes;
      failed = λ e. absurd (let f : ◌≡◌ {A = Result (Unit {0}) Trouble} (Ok tt) (Err troubles.ReplaceFailed) = sym done ∙ tells.eight e in cc);
      unwritten = λ e. absurd (let f : ◌≡◌ {A = Result (Unit {0}) Trouble} (Ok tt) (Err troubles.OutOfMemory) = sym done ∙ tells.unprinted e in cc);
    }
accounts_named name setup ledger end written lost failed journal before after mid tells stands kept w (inr (inl oom)) =
    let did = subst (WritesNamed name setup ledger mid after.contents (Rose before.replace_faults after.replace_faults)) oom w in
    record {
      bytes = [];
      spells = λ e. absurd (tells.printed e oom);
      file = λ e. absurd (tells.printed e oom);
      written = λ e. absurd (tells.printed (ap is_run_status e) oom);
      tried = λ h. absurd (ran h);
      failed = λ e. absurd (tells.printed (ap is_run_status e) oom);
      unwritten = λ _. same_then before.contents mid after.contents SameFiles same_through kept did;
    } where
      ran : (status_of end ≡ 7) ⊎ (status_of end ≡ 10) → ⊥
      ran (inl e) = tells.printed (ap is_run_status e) oom
      ran (inr e) = tells.printed (ap is_run_status e) oom
accounts_named name setup ledger end written lost failed journal before after mid tells stands kept w (inr (inr not)) =
    let did = subst (WritesNamed name setup ledger mid after.contents (Rose before.replace_faults after.replace_faults)) not w in
    let file = did.1.by_journal (kept_events journal) stands in
    let goes = same_then before.contents mid after.contents (MayBeReplaced name did.0) (maybe_through name did.0) kept did.3 in
    record {
      bytes = did.0;
      spells = λ _. file_judged (setup_after setup (kept_events journal)) did.0 file;
      file = λ _. file;
      written = λ e. absurd (let f : ◌≡◌ {A = Result (Unit {0}) Trouble} (Err troubles.ReplaceFailed) (Ok tt) = sym not ∙ (tells.zero e).2 in cc);
      tried = λ _. inr (did.2, goes);
      failed = λ _. (did.2, goes);
      unwritten = λ e. absurd (let f : ◌≡◌ {A = Result (Unit {0}) Trouble} (Err troubles.ReplaceFailed) (Err troubles.OutOfMemory) = sym not ∙ tells.unprinted e in cc);
    }

accounts_match : (source : Source) (setup : Settings) (ledger : LedgerParts) (end written : Result (Unit {0}) Trouble) (lost failed : Bool) (journal : List Event) (before after : FilesNow) (mid : Option Contents) → EndTells end written lost failed → StandsFor ledger (kept_events journal) → Goes SameFiles before.contents mid → WritesBack source setup ledger mid after.contents (Rose before.replace_faults after.replace_faults) written → IsWritten written → AccountsMatch source setup (status_of end) journal before after
accounts_match Plain setup ledger end written lost failed journal before after mid tells stands kept w is = same_then before.contents mid after.contents SameFiles same_through kept w.1
accounts_match (Named name log) setup ledger end written lost failed journal before after mid tells stands kept w is = accounts_named name setup ledger end written lost failed journal before after mid tells stands kept w is

-- what is known of an end of a run that was served is what its trouble says
served_ends : (source : Source) (forms : List Key) (contents : Option Contents) (ReadFailed : Type 0) (written : Result (Unit {0}) Trouble) (lost failed : Bool) → IsWritten written → (trouble : Trouble) → run_end written lost failed ≡ Err trouble → IsEndedBy source forms contents ReadFailed trouble
served_ends source forms contents R written lost failed is trouble ends = at is where
  Known : Trouble → Type 0
  Known t = IsEndedBy source forms contents R t

  named : (known : Trouble) → Known known → ◌≡◌ {A = Result (Unit {0}) Trouble} (Err known) (Err trouble) → Known trouble
  named known has e = subst Known (let same : known ≡ trouble = cc in same) has

  whole : (lost failed : Bool) → run_end (Ok tt) lost failed ≡ Err trouble → Known trouble
  whole true failed e = named (troubles.Serving serving.LogLost) tt e
  whole false true e = named (troubles.Serving serving.AcceptFailed) tt e
  whole false false e = absurd cc

  unwritten : (lost failed : Bool) → run_end (Err troubles.ReplaceFailed) lost failed ≡ Err trouble → Known trouble
  unwritten true failed e = named (troubles.Serving serving.LogLost) tt e
  unwritten false true e = named (troubles.Serving serving.AcceptFailed) tt e
  unwritten false false e = named troubles.ReplaceFailed tt e

  at : IsWritten written → Known trouble
  at (inl done) = whole lost failed (subst (λ w. run_end w lost failed ≡ Err trouble) done ends)
  at (inr (inl oom)) = named troubles.OutOfMemory tt (subst (λ w. run_end w lost failed ≡ Err trouble) oom ends)
  at (inr (inr not)) = unwritten lost failed (subst (λ w. run_end w lost failed ≡ Err trouble) not ends)

-- the plain setup's accounts are written nowhere, so no memory is needed for them
plain_printed : (source : Source) (setup : Settings) (ledger : LedgerParts) (old new : Option Contents)
    (ReplaceRose : Type 0) (written : Result (Unit {0}) Trouble) (lost failed : Bool)
    → WritesBack source setup ledger old new ReplaceRose written
    → run_end written lost failed ≡ Err troubles.OutOfMemory → source ≢ Plain
plain_printed source setup ledger old new ReplaceRose written lost failed w is plain =
    let did = subst (λ s. WritesBack s setup ledger old new ReplaceRose written) plain w in
    at lost failed (subst (λ r. run_end r lost failed ≡ Err troubles.OutOfMemory) did.0 is) where
      at : (lost failed : Bool) → run_end (Ok tt) lost failed ≡ Err troubles.OutOfMemory → ⊥
      at true failed is = absurd cc
      at false true is = absurd cc
      at false false is = absurd cc

-- ---- where somebody was served

module _ (source : Source) (service : Service) (ledger : LedgerParts) (written : Result (Unit {0}) Trouble) (failed : Bool) (journal : List Event) (posts : List PostNow) (before after : AroundRun) (mid : Option Contents) (ran : RunPromises service failed journal posts before.held after.held before.log_faults after.log_faults) (writes : WritesBack source service.setup ledger mid after.files.contents (Rose before.files.replace_faults after.files.replace_faults) written) where
  tells : EndTells (run_end written (has_lost journal) failed) written (has_lost journal) failed
  tells = end_tells written (has_lost journal) failed (written_end source service.setup ledger mid after.files.contents (Rose before.files.replace_faults after.files.replace_faults) written writes)

  served_causes : 1 ≤ service.setup.workers → ServeHasCause (status_of (run_end written (has_lost journal) failed)) journal posts before after
  served_causes some = record {
    unserved = λ h. absurd (let f : true ≡ false = sym h ∙ tells.served in cc);
    unbegun = λ none. absurd (let f : length posts ≡ 0 = ap length none in omega (arith, f, ran.one_each, some));
    begun = λ _ none. let f : length posts ≡ 0 = ap length none in omega (arith, f, ran.one_each, some);
    read_fault = λ e. absurd (tells.three e);
    listen_fault = λ e. absurd (tells.six e);
    lost = tells.lost_is;
    log_lost = λ e. (tells.seven e, ran.lost (tells.seven e));
    accept_fault = λ e. ran.accept_failed (tells.ten e);
    replace_fault = λ e. replace_rose source service.setup ledger mid after.files.contents (Rose before.files.replace_faults after.files.replace_faults) written writes (tells.eight e);
  }

  -- without a fault nothing was lost, no accept failed and the accounts were replaced
  none_lost : NoFault posts before after → has_lost journal ≡ false
  none_lost none = go (has_lost journal) refl where
    go : (b : Bool) → has_lost journal ≡ b → b ≡ false
    go true is = absurd (none.log (ran.lost is))
    go false is = refl

  none_failed : NoFault posts before after → failed ≡ false
  none_failed none = go failed refl where
    go : (b : Bool) → failed ≡ b → b ≡ false
    go true is = absurd (let some = ran.accept_failed is in omega (arith, some.counted, (none.each some.worker some.post some.stands).no_accept_fault))
    go false is = refl

  served_promises : 1 ≤ service.setup.workers → StandsFor ledger (kept_events journal) → Goes SameFiles before.files.contents mid → Gains before.listens (setup_place service.setup ∷ []) after.listens
      → ServePromises service (status_of (run_end written (has_lost journal) failed)) journal posts before after
  served_promises some stands kept listens = record {
    legal = ran.legal;
    sessions = ran.sessions;
    one_each = λ _. ran.one_each;
    listens = listened posts ran.one_each;
    conversations = ran.conversations;
    log = ran.log;
    quota = ran.quota;
    kept = λ e. (tells.zero e).0;
    accepted = λ e. ran.accepted (tells.zero e).1;
    succeeds = λ none. tells.well (none_lost none) (none_failed none) (λ e. none.replace (replace_rose source service.setup ledger mid after.files.contents (Rose before.files.replace_faults after.files.replace_faults) written writes e));
    answered = λ none e. ran.unfaulted none.each (tells.zero e).0;
  } where
    listened : (posts : List PostNow) → length posts ≡ service.setup.workers → Gains before.listens (served_places service.setup posts) after.listens
    listened [] none = absurd (omega (arith, none, some))
    listened (post ∷ posts) one_each = listens

  served_accounts : StandsFor ledger (kept_events journal) → Goes SameFiles before.files.contents mid
      → AccountsMatch source service.setup (status_of (run_end written (has_lost journal) failed)) journal before.files after.files
  served_accounts stands kept = accounts_match source service.setup ledger (run_end written (has_lost journal) failed) written (has_lost journal) failed journal before.files after.files mid tells stands kept writes (written_end source service.setup ledger mid after.files.contents (Rose before.files.replace_faults after.files.replace_faults) written writes)

  served_users : KeepsUsers service (status_of (run_end written (has_lost journal) failed)) journal posts before after
  served_users = record {
    consequences = ran.consequences;
    unseen = ran.unseen;
    users = λ none e. ran.users none.each (tells.zero e).0;
  }

  -- what the service that was served by has, it has by whatever service the files give
  of_served : (forms : List Key) (Promises : Service → Type 0)
      → IsServedBy source forms before.files.contents after.files.contents service
      → ((other : Service) → IsServiceOf source forms before.files.contents after.files.contents other → other ≡ service)
      → Promises service → OfServed source forms posts before after Promises
  of_served forms Promises by same own = record {
    some = inr (service, by, own);
    all = λ other told asked.
        let is = service_of source forms before.files.contents after.files.contents other told asked in
        subst Promises (sym (same other is)) own;
  }

  -- all of it, under the name of the end that was handed out
  pub served_ended : (forms : List Key) (end : Result (Unit {0}) Trouble) → end ≡ run_end written (has_lost journal) failed → IsServedBy source forms before.files.contents after.files.contents service → ((other : Service) → IsServiceOf source forms before.files.contents after.files.contents other → other ≡ service) → 1 ≤ service.setup.workers → StandsFor ledger (kept_events journal) → Goes SameFiles before.files.contents mid → Gains before.listens (setup_place service.setup ∷ []) after.listens
      → RunEnded source forms end journal posts before after
  served_ended forms end is by same some stands kept listens =
      let promises = served_promises some stands kept listens in
      let serve = λ (s : Service). ServePromises s (status_of (run_end written (has_lost journal) failed)) journal posts before after in
      let keeps = λ (s : Service). ServeKeeps source s (status_of (run_end written (has_lost journal) failed)) journal posts before after in
      subst (λ e. RunEnded source forms e journal posts before after) (sym is) (record {
        kept = record {
          keeps = of_served forms keeps by same (record {
            serves = promises;
            users = served_users;
            accounts = served_accounts stands kept;
            numbers = ran.numbers;
          });
          unchanged = λ none. absurd (unserved none);
        };
        serve = record {
          causes = served_causes some;
          ended = λ trouble e. served_ends source forms after.files.contents (Rose before.files.read_faults after.files.read_faults) written (has_lost journal) failed (written_end source service.setup ledger mid after.files.contents (Rose before.files.replace_faults after.files.replace_faults) written writes) trouble e;
          printed = λ e _. plain_printed source service.setup ledger mid after.files.contents (Rose before.files.replace_faults after.files.replace_faults) written (has_lost journal) failed writes e;
          promises = of_served forms serve by same promises;
          unlogged = λ none. absurd (unserved none);
          unlistened = λ none. absurd (unserved none);
        };
      }) where
        unserved : posts ≡ [] → ⊥
        unserved none = let f : length posts ≡ 0 = ap length none in omega (arith, f, ran.one_each, some)

-- ---- where nobody was served

no_post : {X : Type 0} (posts : List PostNow) (worker : ℕ) (post : PostNow) → posts ≡ [] → slice_get posts worker ≡ Some post → X
no_post posts worker post none is = absurd (let e : None ≡ Some post = sym (ap (λ ps. slice_get ps worker) none) ∙ is in cc)

log_unchanged : (setup : Settings) (held_old held_new : Held) → IsUnwritten held_old held_new → LogMatches setup [] held_old held_new
log_unchanged setup held_old held_new same = record {
  lines = lines held_old.bytes held_new.bytes same.bytes;
  appends = appends held_old.lengths held_new.lengths same.lengths;
} where
  lines : (before after : Option (List ℕ)) → Gains before [] after → Goes (HoldsLines setup []) before after
  lines before None gains = tt
  lines None (Some after) gains = absurd gains
  lines (Some before) (Some after) gains = record { lines = (0, gains ∙ sym (append-nil (before ++ []))) }

  appends : (before after : Option (List ℕ)) → Gains before [] after → Goes (AppendsLines []) before after
  appends before None gains = tt
  appends None (Some after) gains = absurd gains
  appends (Some before) (Some after) gains = record { appends = (0, gains ∙ sym (append-nil (before ++ []))) }

module _ (source : Source) (service : Service) (status : ℕ) (journal : List Event) (posts : List PostNow) (events : journal ≡ []) (none : posts ≡ []) where
  legal : JournalIsLegal service.setup journal
  legal = subst (JournalIsLegal service.setup) (sym events) (record { legal = IsLegal-none service.setup; proper = tt; workers = tt; few = omega arith })

  unserved_promises : (before after : AroundRun)
      → is_run_status status ≡ false → Gains before.listens [] after.listens → IsUnwritten before.held after.held → (NoFault posts before after → status ≡ 9)
      → ServePromises service status journal posts before after
  unserved_promises before after not_run listens log nine = record {
    legal = legal;
    sessions = record { in_order = λ worker. ([], record { places = ap (λ j. worker_places j worker) events; each = tt; alone = tt }) };
    one_each = λ some. absurd (some none);
    listens = subst (λ ps. Gains before.listens (served_places service.setup ps) after.listens) (sym none) listens;
    conversations = record { held = λ worker post is. no_post posts worker post none is };
    log = subst (λ j. LogMatches service.setup j before.held after.held) (sym events) (log_unchanged service.setup before.held after.held log);
    quota = record { quota = λ worker post is. no_post posts worker post none is };
    kept = λ e. absurd (run e);
    accepted = λ e. absurd (run e);
    succeeds = λ h. inr (nine h);
    answered = λ h e. absurd (run e);
  } where
    run : status ≡ 0 → ⊥
    run e = let f : true ≡ false = sym (ap is_run_status e) ∙ not_run in absurd cc

  unserved_accounts : (before after : AroundRun) → is_run_status status ≡ false
      → Goes SameFiles before.files.contents after.files.contents
      → AccountsMatch source service.setup status journal before.files after.files
  unserved_accounts before after not_run kept = accounts source where
    run : status ≡ 0 → ⊥
    run e = let f : true ≡ false = sym (ap is_run_status e) ∙ not_run in absurd cc

    not : (n : ℕ) → is_run_status n ≡ true → status ≡ n → ⊥
    not n is e = let f : true ≡ false = sym is ∙ ap is_run_status (sym e) ∙ not_run in absurd cc

    accounts : (source : Source) → AccountsMatch source service.setup status journal before.files after.files
    accounts Plain = kept
    accounts (Named name log) = record {
      bytes = [];
      spells = λ e. absurd (let f : true ≡ false = sym e ∙ not_run in cc);
      file = λ e. absurd (let f : true ≡ false = sym e ∙ not_run in cc);
      written = λ e. absurd (run e);
      tried = λ h. absurd (either h);
      failed = λ e. absurd (not 8 refl e);
      unwritten = λ _. kept;
    } where
      either : (status ≡ 7) ⊎ (status ≡ 10) → ⊥
      either (inl e) = not 7 refl e
      either (inr e) = not 10 refl e

  unserved_users : (before after : AroundRun) → KeepsUsers service status journal posts before after
  unserved_users before after = record {
    consequences = consequences service.setup journal legal.legal;
    unseen = shows_no_accounts service.setup journal legal.legal;
    users = λ _ _ worker post is. no_post posts worker post none is;
  }

  unserved_causes : (before after : AroundRun) → is_run_status status ≡ false → (status ≡ 3 → (Rose before.files.read_faults after.files.read_faults)) → (status ≡ 6 → (Rose before.listen_faults after.listen_faults)) → ServeHasCause status journal posts before after
  unserved_causes before after not_run read listen = record {
    unserved = λ _. none;
    unbegun = λ _. events;
    begun = λ e _. let f : true ≡ false = sym e ∙ not_run in absurd cc;
    read_fault = read;
    listen_fault = listen;
    lost = λ h. absurd (let e : false ≡ true = sym (ap has_lost events) ∙ h in cc);
    log_lost = λ e. absurd (not 7 refl e);
    accept_fault = λ e. absurd (not 10 refl e);
    replace_fault = λ e. absurd (not 8 refl e);
  } where
    not : (n : ℕ) → is_run_status n ≡ true → status ≡ n → ⊥
    not n is e = let f : true ≡ false = sym is ∙ ap is_run_status (sym e) ∙ not_run in absurd cc

-- nobody was served, for an error that isn't that of a run
pub record TellsUnserved (error : Trouble) (ReadRose ListenRose : Type 0) : Type 0 where
  pub not_run : is_run_status (trouble_status error) ≡ false
  pub three : trouble_status error ≡ 3 → ReadRose
  pub six : trouble_status error ≡ 6 → ListenRose

-- why nobody was served, by all that is said of it
pub record TellsWhy (source : Source) (forms : List Key) (old new : Option Contents) (error : Trouble) (ReadRose ListenRose : Type 0) : Type 0 where
  pub tells : TellsUnserved error ReadRose ListenRose
  pub nine : (service : Service) → IsServiceOf source forms old new service → ¬ ReadRose → ¬ ListenRose → trouble_status error ≡ 9
  pub ended : IsEndedBy source forms new ReadRose error

pub unserved_ended : (source : Source) (forms : List Key) (error : Trouble) (end : Result (Unit {0}) Trouble) (journal : List Event) (posts : List PostNow) (before after : AroundRun)
    → end ≡ Err error → TellsWhy source forms before.files.contents after.files.contents error (Rose before.files.read_faults after.files.read_faults) (Rose before.listen_faults after.listen_faults) → journal ≡ [] → posts ≡ [] → Goes SameFiles before.files.contents after.files.contents → Gains before.listens [] after.listens → IsUnwritten before.held after.held
    → RunEnded source forms end journal posts before after
unserved_ended source forms error end journal posts before after is why events none kept listens log =
    subst (λ e. RunEnded source forms e journal posts before after) (sym is) (record {
      kept = record {
        keeps = record {
          some = inl none;
          all = λ service told asked. record {
            serves = serves service told asked;
            users = unserved_users source service (trouble_status error) journal posts events none before after;
            accounts = unserved_accounts source service (trouble_status error) journal posts events none before after why.tells.not_run kept;
            numbers = numbers_none service.setup journal posts events none;
          };
        };
        unchanged = λ _. kept;
      };
      serve = record {
        causes = unserved_causes source (plain_service forms) (trouble_status error) journal posts events none before after why.tells.not_run why.tells.three why.tells.six;
        ended = λ trouble e. subst (IsEndedBy source forms after.files.contents (Rose before.files.read_faults after.files.read_faults)) (let f : ◌≡◌ {A = Result (Unit {0}) Trouble} (Err error) (Err trouble) = e in let same : error ≡ trouble = cc in same) why.ended;
        printed = λ _ some. absurd (some none);
        promises = record { some = inl none; all = serves };
        unlogged = λ _. log;
        unlistened = λ _. listens;
      };
    }) where
      serves : (service : Service) → tell_throughout source before.files.contents after.files.contents ≡ true → IsServedBy source forms before.files.contents after.files.contents service → ServePromises service (trouble_status error) journal posts before after
      serves service told asked = unserved_promises source service (trouble_status error) journal posts events none before after why.tells.not_run listens log (λ fault. why.nine service (service_of source forms before.files.contents after.files.contents service told asked) fault.read fault.listen)

-- ---- why nobody was served

-- where the files spell a service nothing is wrong with it
said_none : (forms : List Key) (old new : Option Contents) (name : List ℕ) (log : Option (List ℕ)) (service : Service) (trouble : Trouble) → Goes SameFiles old new → IsServiceOf (Named name log) forms old new service → IfSome new (λ files. service_in forms files name ≡ Err trouble) → ⊥
said_none forms old new name log service trouble kept is said = at old new is.told is.still kept said where
  at : (old new : Option Contents) → old ≡ Some is.files → is_some new ≡ true → Goes SameFiles old new → IfSome new (λ files. service_in forms files name ≡ Err trouble) → ⊥
  at old None told still kept said = absurd cc
  at None (Some later) told still kept said = kept
  at (Some files) (Some later) told still kept said =
      let same : files ≡ is.files = cc in
      let found = service_still forms files later name kept ∙ ap (λ (c : Contents). services.service_in forms c name) same ∙ is.found in
      let both = sym said ∙ ap (result_map_both (λ f. f) trouble_of_service) found in
      absurd cc

-- out of memory
pub memory_why : (source : Source) (forms : List Key) (old new : Option Contents) (ReadRose ListenRose : Type 0) → TellsWhy source forms old new troubles.OutOfMemory ReadRose ListenRose
memory_why source forms old new ReadRose ListenRose = record {
  tells = record { not_run = refl; three = λ e. absurd (omega (arith, e)); six = λ e. absurd (omega (arith, e)) };
  nine = λ service is read listen. refl;
  ended = tt;
}

-- a service that the files spell has a fresh log, so a log that isn't fresh is of none
unfresh_none : (source : Source) (forms : List Key) (old new : Option Contents) (service : Service) → IsUnfresh source forms new → Goes SameFiles old new → IsServiceOf source forms old new service → ⊥
unfresh_none Plain forms old new service unfresh kept is = unfresh
unfresh_none (Named name None) forms old new service unfresh kept is = unfresh
unfresh_none (Named name (Some log)) forms old new service unfresh kept is = go old new is.told is.still kept unfresh where
  go : (old new : Option Contents) → old ≡ Some is.files → is_some new ≡ true → Goes SameFiles old new → IsUnfresh (Named name (Some log)) forms new → ⊥
  go old None told still kept unfresh = absurd cc
  go None (Some later) told still kept unfresh = kept
  go (Some files) (Some later) told still kept unfresh =
      let same : files ≡ is.files = cc in
      unfresh.1 (subst IsFresh (sym (kept.same log ∙ ap (λ (c : Contents). c log) same)) is.fresh)

-- the files were not read, or say that one is missing or refused
unread_why : (name : List ℕ) (log : Option (List ℕ)) (forms : List Key) (old new : Option Contents) (ReadRose ListenRose : Type 0) (trouble : Trouble) → IsUnread (Named name log) forms new ReadRose trouble → Goes SameFiles old new → TellsWhy (Named name log) forms old new trouble ReadRose ListenRose
unread_why name log forms old new R L troubles.ReadFailed why kept = record {
  tells = record { not_run = refl; three = λ _. why; six = λ e. absurd (omega (arith, e)) };
  nine = λ service is read listen. absurd (read why);
  ended = why;
}
unread_why name log forms old new R L troubles.OutOfMemory why kept = memory_why (Named name log) forms old new R L
unread_why name log forms old new R L (troubles.Missing file) why kept = record {
  tells = record { not_run = refl; three = λ e. absurd (omega (arith, e)); six = λ e. absurd (omega (arith, e)) };
  nine = λ service is read listen. absurd (said_none forms old new name log service (troubles.Missing file) kept is why.1);
  ended = why;
}
unread_why name log forms old new R L (troubles.SetupRefused fault) why kept = record {
  tells = record { not_run = refl; three = λ e. absurd (omega (arith, e)); six = λ e. absurd (omega (arith, e)) };
  nine = λ service is read listen. absurd (said_none forms old new name log service (troubles.SetupRefused fault) kept is why.1);
  ended = why;
}
unread_why name log forms old new R L (troubles.WordsRefused fault) why kept = record {
  tells = record { not_run = refl; three = λ e. absurd (omega (arith, e)); six = λ e. absurd (omega (arith, e)) };
  nine = λ service is read listen. absurd (said_none forms old new name log service (troubles.WordsRefused fault) kept is why.1);
  ended = why;
}
unread_why name log forms old new R L (troubles.LogRefused (log_faults.Record _)) why kept = absurd why
unread_why name log forms old new R L (troubles.LogRefused log_faults.NotFresh) why kept = absurd why
unread_why name log forms old new R L (troubles.Serving _) why kept = absurd why
unread_why name log forms old new R L (troubles.ResponseRefused _) why kept = absurd why
unread_why name log forms old new R L (troubles.NoRenewal _) why kept = absurd why
unread_why name log forms old new R L troubles.ReplaceFailed why kept = absurd why
unread_why name log forms old new R L troubles.EndsFailed why kept = absurd why
unread_why name log forms old new R L troubles.PhraseRefused why kept = absurd why

unread_of : (source : Source) (forms : List Key) (old new : Option Contents) (ReadRose ListenRose : Type 0) (trouble : Trouble) → IsUnread source forms new ReadRose trouble → Goes SameFiles old new → TellsWhy source forms old new trouble ReadRose ListenRose
unread_of Plain forms old new R L trouble why kept = absurd why
unread_of (Named name log) forms old new R L trouble why kept = unread_why name log forms old new R L trouble why kept

-- there was nothing to begin with
pub unready_why : (source : Source) (forms : List Key) (old new : Option Contents) (ReadRose ListenRose : Type 0) (trouble : Trouble) → IsUnready source forms new ReadRose trouble → Goes SameFiles old new → TellsWhy source forms old new trouble ReadRose ListenRose
unready_why source forms old new R L (troubles.LogRefused log_faults.NotFresh) why kept = record {
  tells = record { not_run = refl; three = λ e. absurd (omega (arith, e)); six = λ e. absurd (omega (arith, e)) };
  nine = λ service is read listen. absurd (unfresh_none source forms old new service why kept is);
  ended = why;
}
unready_why source forms old new R L troubles.OutOfMemory why kept = memory_why source forms old new R L
unready_why source forms old new R L troubles.ReadFailed why kept = unread_of source forms old new R L troubles.ReadFailed why kept
unready_why source forms old new R L (troubles.Missing file) why kept = unread_of source forms old new R L (troubles.Missing file) why kept
unready_why source forms old new R L (troubles.SetupRefused fault) why kept = unread_of source forms old new R L (troubles.SetupRefused fault) why kept
unready_why source forms old new R L (troubles.WordsRefused fault) why kept = unread_of source forms old new R L (troubles.WordsRefused fault) why kept
unready_why source forms old new R L (troubles.LogRefused (log_faults.Record number)) why kept = unread_of source forms old new R L (troubles.LogRefused (log_faults.Record number)) why kept
unready_why source forms old new R L (troubles.Serving fault) why kept = unread_of source forms old new R L (troubles.Serving fault) why kept
unready_why source forms old new R L (troubles.ResponseRefused fault) why kept = unread_of source forms old new R L (troubles.ResponseRefused fault) why kept
unready_why source forms old new R L (troubles.NoRenewal fault) why kept = unread_of source forms old new R L (troubles.NoRenewal fault) why kept
unready_why source forms old new R L troubles.ReplaceFailed why kept = unread_of source forms old new R L troubles.ReplaceFailed why kept
unready_why source forms old new R L troubles.EndsFailed why kept = unread_of source forms old new R L troubles.EndsFailed why kept
unready_why source forms old new R L troubles.PhraseRefused why kept = unread_of source forms old new R L troubles.PhraseRefused why kept

-- a run that could not begin: out of memory, or the site could not listen
pub not_served_why : (source : Source) (forms : List Key) (old new : Option Contents) (ReadRose ListenRose : Type 0) (error : Trouble) → IsServable source forms new → (error ≡ troubles.OutOfMemory) ⊎ ((error ≡ troubles.Serving serving.ListenFailed) × ListenRose) → TellsWhy source forms old new error ReadRose ListenRose
not_served_why source forms old new ReadRose ListenRose error ready (inl oom) = subst (λ e. TellsWhy source forms old new e ReadRose ListenRose) (sym oom) (memory_why source forms old new ReadRose ListenRose)
not_served_why source forms old new ReadRose ListenRose error ready (inr (failed, rose)) = subst (λ e. TellsWhy source forms old new e ReadRose ListenRose) (sym failed) (record {
  tells = record { not_run = refl; three = λ e. absurd (omega (arith, e)); six = λ _. rose };
  nine = λ service is read none. absurd (none rose);
  ended = ready;
})

-- a fault of replacing that was counted after a moment was counted after an earlier one
pub writes_more : (source : Source) (setup : Settings) (ledger : LedgerParts) (old new : Option Contents) (first mid last : ℕ) (written : Result (Unit {0}) Trouble) → first ≤ mid → WritesBack source setup ledger old new (Rose mid last) written → WritesBack source setup ledger old new (Rose first last) written
writes_more Plain setup ledger old new first mid last written low w = w
writes_more (Named name log) setup ledger old new first mid last written low w = go written w where
  go : (written : Result (Unit {0}) Trouble) → WritesNamed name setup ledger old new (Rose mid last) written → WritesNamed name setup ledger old new (Rose first last) written
  go (Ok done) w = w
  go (Err troubles.OutOfMemory) w = w
  go (Err troubles.ReplaceFailed) w = (w.0, w.1, Rose-within first mid last last low w.2 (omega arith), w.3)
  go (Err troubles.ReadFailed) w = absurd w
  go (Err (troubles.Missing _)) w = absurd w
  go (Err (troubles.SetupRefused _)) w = absurd w
  go (Err (troubles.WordsRefused _)) w = absurd w
  go (Err (troubles.LogRefused (log_faults.Record _))) w = absurd w
  go (Err (troubles.LogRefused log_faults.NotFresh)) w = absurd w
  go (Err (troubles.Serving _)) w = absurd w
  go (Err (troubles.ResponseRefused _)) w = absurd w
  go (Err (troubles.NoRenewal _)) w = absurd w
  go (Err troubles.EndsFailed) w = absurd w
  go (Err troubles.PhraseRefused) w = absurd w

-- where the files tell after a run, they told before its accounts were written
pub told_before : (source : Source) (setup : Settings) (ledger : LedgerParts) (old new : Option Contents) (ReplaceRose : Type 0) (written : Result (Unit {0}) Trouble) → WritesBack source setup ledger old new ReplaceRose written → is_some new ≡ true → is_some old ≡ true
told_before source setup ledger None None ReplaceRose written w some = some
told_before source setup ledger (Some old) new ReplaceRose written w some = refl
told_before source setup ledger None (Some new) ReplaceRose written w some = absurd (go source w) where
  go : (source : Source) → WritesBack source setup ledger None (Some new) ReplaceRose written → ⊥
  go Plain w = w.1
  go (Named name log) w = at written w where
    at : (written : Result (Unit {0}) Trouble) → WritesNamed name setup ledger None (Some new) ReplaceRose written → ⊥
    at (Ok done) w = w.2
    at (Err troubles.OutOfMemory) w = w
    at (Err troubles.ReplaceFailed) w = w.3
    at (Err troubles.ReadFailed) w = w
    at (Err (troubles.Missing _)) w = w
    at (Err (troubles.SetupRefused _)) w = w
    at (Err (troubles.WordsRefused _)) w = w
    at (Err (troubles.LogRefused (log_faults.Record _))) w = w
    at (Err (troubles.LogRefused log_faults.NotFresh)) w = w
    at (Err (troubles.Serving _)) w = w
    at (Err (troubles.ResponseRefused _)) w = w
    at (Err (troubles.NoRenewal _)) w = w
    at (Err troubles.EndsFailed) w = w
    at (Err troubles.PhraseRefused) w = w
