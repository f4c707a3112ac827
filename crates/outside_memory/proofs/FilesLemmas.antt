use Rattle.std.proofs.Common.{◌≡◌, ℕ, Bool, true, false, List, [], ◌∷◌, Some, map, cond, option_map, refl}
use Rattle.std.specs.List.{find}
use Rattle.std.specs.Str.{bytes_eq}
use Rattle.outside.specs.Files.{file_of}
use Rattle.outside_memory.specs.KeptFile.{file_entry, files_of, is_file}

-- the first of two, or what the others give
same_first : (b : Bool) (p : List ℕ × List ℕ) (ps : List (List ℕ × List ℕ)) (name : List ℕ) → files_of (map file_entry ps) 0 name ≡ file_of ps name → option_map (λ f. f.bytes) (cond b (Some (file_entry p)) (find (is_file 0 name) (map file_entry ps))) ≡ option_map (λ q. q.1) (cond b (Some p) (find (λ q. bytes_eq q.0 name) ps))
same_first true p ps name rest = refl
same_first false p ps name rest = rest

-- the files of no user are those of the pairs
same_file : (pairs : List (List ℕ × List ℕ)) (name : List ℕ) → files_of (map file_entry pairs) 0 name ≡ file_of pairs name
same_file [] name = refl
same_file (p ∷ ps) name = same_first (bytes_eq p.0 name) p ps name (same_file ps name)

pub files-same : (pairs : List (List ℕ × List ℕ)) → files_of (map file_entry pairs) 0 ≡ file_of pairs
files-same pairs = λ i name. same_file pairs name i
