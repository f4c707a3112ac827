-- Inner: what stands in a list of files.
use Rattle.std.specs.Prelude.{ℕ, ◌==◌, ◌&&◌, Bool, List, find, option_map}
use Rattle.std.specs.Str.{bytes_eq}
use Rattle.outside_memory.specs.Vaults.{Vault}
use Rattle.outside_memory.specs.declared.kept_file.KeptFile.{KeptFile}

-- whether it is the user's file of this name
abbrev pub is_file : ℕ → List ℕ → KeptFile → Bool
is_file uid name f = (f.uid == uid) && bytes_eq f.name name

-- the bytes of the first file of this user and name, if there is one
abbrev pub files_of : List KeptFile → Vault
files_of files uid name = option_map (λ f. f.bytes) (find (is_file uid name) files)

-- a file of no user
abbrev pub file_entry : List ℕ × List ℕ → KeptFile
file_entry pair = record { uid = 0; name = pair.0; bytes = pair.1 }
