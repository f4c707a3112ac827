-- Inner: what real files keep of the files that were read.
use Rattle.std.specs.Prelude.{◌≡◌, ◌≢◌, ℕ, IsSome, List, Option}
use Rattle.std.specs.BTreeMap.{get_by_text}
use Rattle.system_calls.specs.declared.named.Found.{Found}
use Rattle.real_files.specs.declared.seen.SeenFiles.{SeenFiles}

-- how the file at a path was found first, or left since then, if it was read
abbrev pub found_at : SeenFiles → List ℕ → Option Found
found_at seen path = get_by_text seen.files path

-- no file that was found is forgotten, or found otherwise
abbrev pub KeepsFindings : SeenFiles → SeenFiles → Type 0
KeepsFindings before after =
    (path : List ℕ) → IsSome (found_at before path) → found_at after path ≡ found_at before path

-- how each other file was found is as it was
abbrev pub SameOthers : List ℕ → SeenFiles → SeenFiles → Type 0
SameOthers path before after = (other : List ℕ) → other ≢ path → found_at after other ≡ found_at before other
