-- Believed: the setup and the image of a recovery.
use Rattle.std.specs.Prelude.{◌≡◌, ℕ, List, [], take, Option, Some, None, Ok}
use Rattle.outside.specs.Files.{Contents}
use Rattle.policy_model.specs.Settings.{Settings}
use Rattle.account_file.specs.Entries.{entries_of}
use Rattle.setup_reading.specs.Read.{setup_in}
use Rattle.durable_log.specs.Journal.{image_of}
use Rattle.recover_mode.specs.Words.{RecoverParts}

-- the image of a log: the first 271,581,189 bytes of its file; without a file, the image of no records
abbrev pub image_in : Option (List ℕ) → List ℕ
image_in None = image_of []
image_in (Some bytes) = take 271581189 bytes

-- the setup file spells this setup, and the log's file has this image
pub record HasBasis (parts : RecoverParts) (setup : Settings) (image : List ℕ) (files : Contents) : Type 0 where
  pub spelled : setup_in files parts.setup ≡ Some (Ok (entries_of setup))
  pub logged : image ≡ image_in (files parts.log)
