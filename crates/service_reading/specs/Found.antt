-- Believed: the setup and the word list in files, or why there are none.
use Rattle.std.specs.Prelude.{◌≡◌, ℕ, ◌==◌, Bool, List, Option, Result, Ok, IfSome}
use Rattle.std.specs.Bool.{then_some}
use Rattle.std.specs.List.{list_all, list_any}
use Rattle.std.specs.Result.{result_map_both}
use Rattle.request_catalogue.specs.Results.{demand, ◌>>=◌}
use Rattle.outside.specs.Files.{Contents}
use Rattle.otp_words.specs.Lists.{dictionary_of}
use Rattle.file_front.specs.Lists.{list_text}
use Rattle.info_hooks.specs.declared.key.Key.{Key}
use Rattle.policy_model.specs.Settings.{Settings}
use Rattle.account_file.specs.declared.fault.SetupFault.{SetupFault}
use Rattle.account_file.specs.declared.fault.SetupKey.TheVariants as keys
use Rattle.account_file.specs.declared.fault.SetupRule.TheVariants as rules
use Rattle.account_file.specs.Entries.{SetupEntries, entries_of}
use Rattle.account_file.specs.Faults.{demand_at}
use Rattle.setup_reading.specs.Read.{setup_in}
use Rattle.service_reading.specs.declared.error.ServiceError.{ServiceError}
use Rattle.service_reading.specs.declared.error.ServiceError.TheVariants as errors

-- there is a form for each of these numbers
abbrev pub are_said : List Key → List ℕ → Bool
are_said forms numbers = list_all (λ number. list_any (λ key. key.number == number) forms) numbers

-- a setup whose numbers of information all have a form, otherwise a fault
abbrev pub informed : List Key → SetupEntries → Result SetupEntries SetupFault
informed forms entries = demand_at 0 keys.Info rules.NoHook (then_some (are_said forms entries.info) entries)

-- what a setup file says, and the words of the list that it names
pub record FoundService : Type 0 where
  pub entries : SetupEntries
  pub words : List (List ℕ)

-- what a setup's file and the word list that it names say, or the first of them that is missing or refused
abbrev pub service_in : List Key → Contents → List ℕ → Result FoundService ServiceError
service_in forms files name = do
  setup ← demand errors.SetupMissing (setup_in files name)
  entries ← result_map_both (λ e. e) errors.SetupRefused (setup >>= informed forms)
  text ← demand errors.WordsMissing (list_text (files entries.texts.words))
  words ← result_map_both (λ w. w) errors.WordsRefused (dictionary_of text)
  Ok (record { entries = entries; words = words })

-- the named file spells this setup, and the word list that it names has these words, if the files report
abbrev pub IsServiceIn : List Key → Option Contents → List ℕ → Settings → List (List ℕ) → Type 0
IsServiceIn forms contents name setup words =
    IfSome contents (λ files. service_in forms files name ≡ Ok (record { entries = entries_of setup; words = words }))
