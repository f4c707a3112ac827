-- Believed: which files are read and replaced where a setup is named.
use Rattle.std.specs.Prelude.{◌≡◌, ◌≤◌, ℕ, IsTrue, List, [], ◌++◌, Option, Some, Ok, IfSome}
use Rattle.std.specs.Option.{option_to_list}
use Rattle.outside.specs.Files.{Contents}
use Rattle.outside.specs.FilesNow.{FilesNow, OnlyReads}
use Rattle.outside.specs.Told.{Goes}
use Rattle.outside.specs.Touched.{TouchesOnly, has_name}
use Rattle.policy_model.specs.Settings.{Settings}
use Rattle.account_file.specs.Entries.{entries_of}
use Rattle.setup_reading.specs.Read.{setup_in}

-- a file of one of these names spelled a setup that names this word list, if the files report before and after
pub record IsListNamed (setups : List (List ℕ)) (old new : Option Contents) (list : List ℕ) : Type 0 where
  pub file : List ℕ
  pub among : IsTrue (has_name file setups)
  pub setup : Settings
  pub spelled : Goes (λ files _. setup_in files file ≡ Some (Ok (entries_of setup))) old new
  pub names : list ≡ setup.words

-- nothing was done with files but reading the first and perhaps one word list, named by a setup in one of the second
pub record ReadsNamed (names setups : List (List ℕ)) (before after : FilesNow) : Type 0 where
  pub list : Option (List ℕ)
  pub named : IfSome list (IsListNamed setups before.contents after.contents)
  pub reads : OnlyReads (names ++ option_to_list list) before after

-- nothing was done with files but replacing these
pub record OnlyReplaces (names : List (List ℕ)) (before after : FilesNow) : Type 0 where
  pub told : Goes (λ _ _. Unit {0}) before.contents after.contents
  pub read_faults : before.read_faults ≤ after.read_faults
  pub replace_faults : before.replace_faults ≤ after.replace_faults
  pub touched : Goes (TouchesOnly [] names) before.touched after.touched

-- no file was read but the first and perhaps one word list, named by a setup in one of the second; none was replaced
-- but the third; no count fell
pub record TouchesNamed (names setups replaces : List (List ℕ)) (before after : FilesNow) : Type 0 where
  pub list : Option (List ℕ)
  pub named : IfSome list (IsListNamed setups before.contents after.contents)
  pub read_faults : before.read_faults ≤ after.read_faults
  pub replace_faults : before.replace_faults ≤ after.replace_faults
  pub touched : Goes (TouchesOnly (names ++ option_to_list list) replaces) before.touched after.touched
