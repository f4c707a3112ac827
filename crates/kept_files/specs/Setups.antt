-- Inner: what is kept where a setup is named.
use Rattle.std.specs.Prelude.{◌≡◌, ℕ, List, ◌++◌, Option, Some, Ok, IfSome, IsTrue}
use Rattle.std.specs.Option.{option_to_list}
use Rattle.outside.specs.Touched.{has_name}
use Rattle.policy_model.specs.Settings.{Settings}
use Rattle.account_file.specs.Entries.{entries_of}
use Rattle.setup_reading.specs.Read.{judged_setup}
use Rattle.setup_reading.specs.Touching.{IsListNamed}
use Rattle.kept_files.specs.Kept.{KeepsMore, Kept, KeptNow, is_kept, kept_files}

-- this text, if there is one, spells a setup that names this word list
pub record SpellsList (text : Option (List ℕ)) (list : List ℕ) : Type 0 where
  pub bytes : List ℕ
  pub there : text ≡ Some bytes
  pub setup : Settings
  pub spelled : judged_setup bytes ≡ Ok (entries_of setup)
  pub names : list ≡ setup.words

-- this is the word list that a text names, or none where the text spells no setup
pub record IsListOf (text list : Option (List ℕ)) : Type 0 where
  pub spelled : IfSome list (SpellsList text)
  pub only : (other : List ℕ) → SpellsList text other → list ≡ Some other

-- a word list is named by the setup that is kept of one of these files
abbrev pub IsListKept : List (List ℕ) → Kept → List ℕ → Type 0
IsListKept setups kept = IsListNamed setups (Some (kept_files kept)) (Some (kept_files kept))

-- nothing was done with the files but reading the first and perhaps one word list, named by a setup kept of the second
pub record ReadsKept (names setups : List (List ℕ)) (before after : KeptNow) : Type 0 where
  pub list : Option (List ℕ)
  pub named : IfSome list (IsListKept setups after.kept)
  pub more : KeepsMore (names ++ option_to_list list) before after

-- each file of the first names is kept, and each word list that is named by a setup kept of one of the second
pub record KeepsThese (names setups : List (List ℕ)) (kept : Kept) : Type 0 where
  pub files : (name : List ℕ) → IsTrue (has_name name names) → IsTrue (is_kept name kept)
  pub lists : (list : List ℕ) → IsListKept setups kept list → IsTrue (is_kept list kept)
