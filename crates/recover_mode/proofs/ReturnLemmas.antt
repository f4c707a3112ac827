-- What a run logged is what is written.
use Rattle.std.proofs.Common.{◌≡◌, ℕ, List, [], ◌∷◌, map, Option, Some, None, Result, Ok, Err, IfSome, refl, sym, ap, subst, ◌∙◌}
use Rattle.std.specs.Prelude.{option_map}
use Rattle.outside.specs.Files.{Contents}
use Rattle.outside.specs.Link.{Link}
use Rattle.outside.specs.Told.{Goes}
use Rattle.policy_model.specs.declared.account.Account.{Account}
use Rattle.policy_model.specs.declared.event.Event.{Event}
use Rattle.policy_model.specs.Settings.{Settings}
use Rattle.otp_ledger.specs.Accounts.{AccountState, new_state}
use Rattle.account_file.specs.Entries.{entries_of}
use Rattle.policy_model.specs.Logins.{account_after}
use Rattle.account_writer.specs.CurrentSetup.{current_accounts, current_setup, setup_after}
use Rattle.account_writer.specs.Written.{IsFileOf}
use Rattle.setup_reading.specs.Read.{judged_setup, setup_in}
use Rattle.durable_log.specs.Records.{HasRecords}
use Rattle.ledger_journal.specs.declared.answer.Recovered.{Recovered}
use Rattle.ledger_journal.specs.declared.answer.RecoverError.{RecoverError}
use Rattle.ledger_journal.specs.declared.answer.RecoverError.TheVariants as log_errors
use Rattle.ledger_journal.specs.Journals.{IsBackAt, IsRecoveredAs, IsThereAlready, IsWhole, chain_after, chain_known, records_of}
use Rattle.trouble.specs.declared.trouble.LogFault.TheVariants as log_faults
use Rattle.trouble.specs.declared.trouble.Trouble.{Trouble}
use Rattle.trouble.specs.declared.trouble.Trouble.TheVariants as troubles
use Rattle.recover_mode.specs.declared.line.Recovery.{Recovery}
use Rattle.recover_mode.specs.declared.texts.Texts.{Texts}
use Rattle.recover_mode.specs.Bases.{HasBasis, image_in}
use Rattle.trouble.specs.Reading.{trouble_of_log}
use Rattle.recover_mode.specs.Outcome.{IsOutcome, Spares}
use Rattle.recover_mode.specs.Recovering.{AreTexts, AreWritten, IsRefused}
use Rattle.recover_mode.specs.Returning.{BringsBack, HasRun, HasRunAlready, IsCounted, IsSpelled}
use Rattle.recover_mode.specs.Words.{RecoverParts}
use Rattle.account_file.proofs.Once.{setup_once}
use Rattle.recover_mode.proofs.RunLemmas.{IsOutcome-spares}

-- ---- the accounts

-- accounts of which a ledger knows what a journal says are those that the journal leaves
known-accounts : (journal : List Event) (accounts : List Account) (states : List AccountState) → map chain_known states ≡ map (chain_after journal) accounts → current_accounts accounts states ≡ map (account_after journal) accounts
known-accounts journal [] states e = refl
known-accounts journal (account ∷ accounts) [] e = absurd cc
known-accounts journal (account ∷ accounts) (state ∷ states) e =
    let first : chain_known state ≡ chain_after journal account = cc in
    let rest : map chain_known states ≡ map (chain_after journal) accounts = cc in
    let more = known-accounts journal accounts states rest in
    λ i. (record account { sequence = (first i).0; password = (first i).1 }) ∷ more i

known-setup : (setup : Settings) (journal : List Event) (states : List AccountState) → map chain_known states ≡ map (chain_after journal) setup.accounts → current_setup setup states ≡ setup_after setup journal
known-setup setup journal states e = ap (λ (accounts : List Account). record setup { accounts = accounts }) (known-accounts journal setup.accounts states e)

-- a ledger of its own knows of each account what the setup says
new-accounts : (accounts : List Account) → current_accounts accounts (map new_state accounts) ≡ accounts
new-accounts [] = refl
new-accounts (account ∷ accounts) = ap (λ rest. account ∷ rest) (new-accounts accounts)

own-setup : (setup : Settings) (states : List AccountState) → states ≡ map new_state setup.accounts → current_setup setup states ≡ setup
own-setup setup states e = ap (current_setup setup) e ∙ ap (λ (accounts : List Account). record setup { accounts = accounts }) (new-accounts setup.accounts)

-- ---- the setup that the file spells

spelled-once : (parts : RecoverParts) (one other : Settings) (files : Contents) → setup_in files parts.setup ≡ Some (Ok (entries_of one)) → setup_in files parts.setup ≡ Some (Ok (entries_of other)) → one ≡ other
spelled-once parts one other files e f =
    let g = sym e ∙ f in
    let h : entries_of one ≡ entries_of other = cc in
    setup_once one other h

written-spelled : (parts : RecoverParts) (setup target : Settings) (image : List ℕ) (texts : Texts) (old new : Contents) (made : AreTexts parts setup image texts) → AreWritten texts old new → current_setup setup made.recovered.ledger.accounts ≡ target → IsSpelled parts target new
written-spelled parts setup target image texts old new made written same ne =
    let there : new parts.setup ≡ Some texts.bytes.items = ap new (sym made.setup_file) ∙ written.setup (λ e. ne (sym made.setup_file ∙ e ∙ made.log_file)) in
    let file : IsFileOf target texts.bytes.items = subst (λ (s : Settings). IsFileOf s texts.bytes.items) same made.written in (
      ap (option_map judged_setup) there ∙ ap Some (made.spelled ∙ ap (λ (s : Settings). Ok (entries_of s)) same),
      subst (λ (f : Option (List ℕ)). IfSome f (IsFileOf target)) (sym there) file,
    )

-- ---- the log of a run

-- it isn't refused
not-refused : (P : Recovered → Type 0) (error : RecoverError) (number : ℕ) → trouble_of_log error ≡ troubles.LogRefused (log_faults.Record number) → IsRecoveredAs P (Err error) → ⊥
not-refused P log_errors.NoLog number told back = back
not-refused P (log_errors.Line n) number told back = back
not-refused P log_errors.OutOfMemory number told back = cc

-- it is that of the image that was read
logged-image : (parts : RecoverParts) (setup : Settings) (image : List ℕ) (files : Contents) (records : List (List ℕ)) → HasBasis parts setup image files → HasRecords (image_in (files parts.log)) records → HasRecords image records
logged-image parts setup image files records stood logged = subst (λ i. HasRecords i records) (sym stood.logged) logged

-- what is written of a recovery, and what it counts
record IsKept (parts : RecoverParts) (setup : Settings) (journal : List Event) (counts : Recovery) (new : Contents) : Type 0 where
  counted : IsCounted journal counts
  spelled : IsSpelled parts setup new

kept-logged : (parts : RecoverParts) (read setup : Settings) (image : List ℕ) (texts : Texts) (journal : List Event) (old new : Contents) → HasBasis parts read image old → AreTexts parts read image texts → AreWritten texts old new → HasRun parts setup journal old → IsKept parts (setup_after setup journal) journal texts.recovery new
kept-logged parts read setup image texts journal old new stood made written run =
    let same = spelled-once parts read setup old stood.spelled run.spelled in
    let back = made.answered.back journal (subst (λ s. IsWhole s journal) (sym same) run.whole) (logged-image parts read image old (records_of journal) stood run.logged) in
    record {
      counted = record { lines = made.lines ∙ back.lines; accepted = made.accepted ∙ back.accepted };
      spelled = written-spelled parts read (setup_after setup journal) image texts old new made written (known-setup read journal made.recovered.ledger.accounts back.chains ∙ ap (λ s. setup_after s journal) same);
    }

kept-again : (parts : RecoverParts) (read first setup : Settings) (image : List ℕ) (texts : Texts) (journal : List Event) (old new : Contents) → HasBasis parts read image old → AreTexts parts read image texts → AreWritten texts old new → HasRunAlready parts first setup journal old → IsKept parts setup journal texts.recovery new
kept-again parts read first setup image texts journal old new stood made written run =
    let same = spelled-once parts read setup old stood.spelled run.spelled in
    let again = made.answered.again first journal run.whole (ap (λ (s : Settings). s.accounts) same ∙ run.already) (logged-image parts read image old (records_of journal) stood run.logged) in
    record {
      counted = record { lines = made.lines ∙ again.lines; accepted = made.accepted ∙ again.accepted };
      spelled = written-spelled parts read setup image texts old new made written (own-setup read made.recovered.ledger.accounts again.own.states ∙ same);
    }

refused-logged : (parts : RecoverParts) (read setup : Settings) (image : List ℕ) (number : ℕ) (journal : List Event) (old : Contents) → HasBasis parts read image old → IsRefused read image number → HasRun parts setup journal old → ⊥
refused-logged parts read setup image number journal old stood refused run =
    let same = spelled-once parts read setup old stood.spelled run.spelled in
    let back = refused.answered.back journal (subst (λ s. IsWhole s journal) (sym same) run.whole) (logged-image parts read image old (records_of journal) stood run.logged) in
    not-refused (IsBackAt read journal) refused.error number refused.told back

refused-again : (parts : RecoverParts) (read first setup : Settings) (image : List ℕ) (number : ℕ) (journal : List Event) (old : Contents) → HasBasis parts read image old → IsRefused read image number → HasRunAlready parts first setup journal old → ⊥
refused-again parts read first setup image number journal old stood refused run =
    let same = spelled-once parts read setup old stood.spelled run.spelled in
    let again = refused.answered.again first journal run.whole (ap (λ (s : Settings). s.accounts) same ∙ run.already) (logged-image parts read image old (records_of journal) stood run.logged) in
    not-refused (IsThereAlready read journal) refused.error number refused.told again

counted-as : (journal : List Event) (recovery counts : Recovery) → recovery ≡ counts → IsCounted journal counts → IsCounted journal recovery
counted-as journal recovery counts same counted = subst (IsCounted journal) (sym same) counted

told-back : (parts : RecoverParts) (old new : Contents) (before after : Option Link) (R P E : Type 0) (result : Result Recovery Trouble) → IsOutcome parts (Some old) (Some new) before after R P E result → BringsBack parts result old new
told-back parts old new before after R P E (Ok recovery) h = record {
  logged = λ setup journal run.
      let kept = kept-logged parts h.setup setup h.image h.texts journal old new h.stood h.made h.put.1 run in
      (counted-as journal recovery h.texts.recovery h.put.0 kept.counted, kept.spelled);
  again = λ first setup journal run.
      let kept = kept-again parts h.setup first setup h.image h.texts journal old new h.stood h.made h.put.1 run in
      (counted-as journal recovery h.texts.recovery h.put.0 kept.counted, kept.spelled);
}
told-back parts old new before after R P E (Err troubles.EndsFailed) h = record {
  logged = λ setup journal run. (kept-logged parts h.setup setup h.image h.texts journal old new h.stood h.made h.put.1 run).spelled;
  again = λ first setup journal run. (kept-again parts h.setup first setup h.image h.texts journal old new h.stood h.made h.put.1 run).spelled;
}
told-back parts old new before after R P E (Err (troubles.LogRefused (log_faults.Record number))) h = record {
  logged = λ setup journal run. refused-logged parts h.0.setup setup h.0.image number journal old h.0.stood h.0.refused run;
  again = λ first setup journal run. refused-again parts h.0.setup first setup h.0.image number journal old h.0.stood h.0.refused run;
}
told-back parts old new before after R P E (Err troubles.ReplaceFailed) h = record { logged = λ _ _ _. tt; again = λ _ _ _ _. tt }
told-back parts old new before after R P E (Err troubles.OutOfMemory) h = record { logged = λ _ _ _. tt; again = λ _ _ _ _. tt }
told-back parts old new before after R P E (Err troubles.ReadFailed) h = record { logged = λ _ _ _. tt; again = λ _ _ _ _. tt }
told-back parts old new before after R P E (Err (troubles.Missing _)) h = record { logged = λ _ _ _. tt; again = λ _ _ _ _. tt }
told-back parts old new before after R P E (Err (troubles.SetupRefused _)) h = record { logged = λ _ _ _. tt; again = λ _ _ _ _. tt }
told-back parts old new before after R P E (Err (troubles.Serving _)) h = record { logged = λ _ _ _. tt; again = λ _ _ _ _. tt }
told-back parts old new before after R P E (Err (troubles.ResponseRefused _)) h = record { logged = λ _ _ _. tt; again = λ _ _ _ _. tt }
told-back parts old new before after R P E (Err (troubles.NoRenewal _)) h = record { logged = λ _ _ _. tt; again = λ _ _ _ _. tt }
told-back parts old new before after R P E (Err (troubles.LogRefused log_faults.NotFresh)) h = absurd h.0.why
told-back parts old new before after R P E (Err (troubles.WordsRefused _)) h = record { logged = λ _ _ _. tt; again = λ _ _ _ _. tt }
told-back parts old new before after R P E (Err troubles.PhraseRefused) h = record { logged = λ _ _ _. tt; again = λ _ _ _ _. tt }

pub BringsBack-of : (parts : RecoverParts) (old new : Option Contents) (before after : Option Link) (R P E : Type 0) (result : Result Recovery Trouble) → IsOutcome parts old new before after R P E result → Goes (BringsBack parts result) old new
BringsBack-of parts old None before after R P E result h = tt
BringsBack-of parts None (Some new) before after R P E result h =
    let spares : Goes (Spares parts) None (Some new) = IsOutcome-spares parts None (Some new) before after R P E result h in
    absurd spares
BringsBack-of parts (Some old) (Some new) before after R P E result h = told-back parts old new before after R P E result h
