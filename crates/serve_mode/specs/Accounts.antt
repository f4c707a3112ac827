-- Believed: what becomes of the setup's file in a run of the mode `serve`.
use Rattle.std.specs.Prelude.{◌≡◌, ◌⊎◌, ℕ, true, false, List, Ok}
use Rattle.account_file.specs.Entries.{entries_of}
use Rattle.account_writer.specs.CurrentSetup.{setup_after}
use Rattle.account_writer.specs.Written.{IsFileOf}
use Rattle.setup_reading.specs.Read.{judged_setup}
use Rattle.outside.specs.Files.{MayBeReplaced, Replaced, SameFiles}
use Rattle.outside.specs.FilesNow.{FilesNow}
use Rattle.outside.specs.Told.{Goes, Rose}
use Rattle.policy_model.specs.declared.event.Event.{Event}
use Rattle.policy_model.specs.Journal.{kept_events}
use Rattle.policy_model.specs.Settings.{Settings}
use Rattle.serve_mode.specs.Headline.{is_run_status}
use Rattle.serve_mode.specs.Words.{Named, Plain, Source}

-- a replacing failed, and the file of this name has these bytes or is as it was
abbrev pub MayStay : List ℕ → List ℕ → FilesNow → FilesNow → Type 0
MayStay name bytes before after =
    Rose before.replace_faults after.replace_faults × Goes (MayBeReplaced name bytes) before.contents after.contents

-- the setup's file becomes that after the kept events, or may stay where replacing failed; only with 0, 7, 8 and 10
pub record AreAccountsWritten (name : List ℕ) (setup : Settings) (status : ℕ) (journal : List Event)
    (before after : FilesNow) : Type 0 where
  pub bytes : List ℕ
  -- what the next run reads
  pub spells : is_run_status status ≡ true → judged_setup bytes
      ≡ Ok (entries_of (setup_after setup (kept_events journal)))
  -- nothing else stands in it, and the text that `enrol` prints may be appended
  pub file : is_run_status status ≡ true → IsFileOf (setup_after setup (kept_events journal)) bytes
  pub written : status ≡ 0 → Goes (Replaced name bytes) before.contents after.contents
  pub tried : (status ≡ 7) ⊎ (status ≡ 10) → Goes (Replaced name bytes) before.contents after.contents
      ⊎ MayStay name bytes before after
  pub failed : status ≡ 8 → MayStay name bytes before after
  pub unwritten : is_run_status status ≡ false → Goes SameFiles before.contents after.contents

-- what becomes of the files: the plain setup changes none, a named setup file gets the accounts as the run left them
abbrev pub AccountsMatch : Source → Settings → ℕ → List Event → FilesNow → FilesNow → Type 0
AccountsMatch Plain setup status journal before after = Goes SameFiles before.contents after.contents
AccountsMatch (Named name log) setup status journal before after =
    AreAccountsWritten name setup status journal before after
