-- Inner: the users' files of a quiet post.
use Rattle.outside_memory.specs.Vaults.{Vault}
use Rattle.outside_memory.specs.declared.shelf.Shelf.{Shelf}
use Rattle.outside_memory.specs.KeptFile.{files_of}

-- the files of a shelf
abbrev pub shelf_files : Shelf → Vault
shelf_files s = files_of s.files.items
