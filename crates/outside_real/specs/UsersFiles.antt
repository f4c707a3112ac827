-- Inner: where a user's file lies in a vault.
use Rattle.std.specs.Prelude.{◌≡◌, ℕ, List, ◌++◌, codes}
use Rattle.std.specs.Fmt.{decimal}
use Rattle.std.specs.String.{string_bytes}
use Rattle.outside_real.specs.declared.vault.UserFile.{UserFile}

-- the path of a user's folder: the vault's, a slash, and the user's number in decimal digits
abbrev pub folder_path : List ℕ → ℕ → List ℕ
folder_path vault uid = vault ++ codes "/" ++ decimal uid

-- the path of a user's file: the folder's, a slash, and the file's name
abbrev pub file_path : List ℕ → ℕ → List ℕ → List ℕ
file_path vault uid name = folder_path vault uid ++ codes "/" ++ name

-- it is the file of this user and name in a vault
pub record IsUsersFile (vault : List ℕ) (uid : ℕ) (name : List ℕ) (file : UserFile) : Type 0 where
  pub folder : string_bytes file.folder ≡ folder_path vault uid
  pub path : string_bytes file.path ≡ file_path vault uid name
