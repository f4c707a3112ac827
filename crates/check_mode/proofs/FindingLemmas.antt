-- What is found of a setup, as the files say it.
use Rattle.std.proofs.Common.{◌≡◌, ℕ, List, Option, Some, None, Ok, ap}
use Rattle.std.specs.Prelude.{IfSome}
use Rattle.std.specs.Result.{result_map_both}
use Rattle.account_file.specs.Entries.{entries_of}
use Rattle.info_hooks.specs.declared.key.Key.{Key}
use Rattle.outside.specs.Files.{Contents}
use Rattle.policy_model.specs.Settings.{Settings}
use Rattle.service_reading.specs.Found.{IsServiceIn}
use Rattle.trouble.specs.Reading.{trouble_of_service}
use Rattle.check_mode.specs.Findings.{finding_of, found_in}

-- a setup that was read is found so
pub found_read : (forms : List Key) (contents : Option Contents) (name : List ℕ) (setup : Settings) (words : List (List ℕ)) → IsServiceIn forms contents name setup words → IfSome contents (λ files. found_in forms files name ≡ Ok (finding_of (record { entries = entries_of setup; words = words })))
found_read forms None name setup words there = tt
found_read forms (Some files) name setup words there =
    ap (λ found. result_map_both finding_of (λ trouble. trouble) (result_map_both (λ f. f) trouble_of_service found)) there
