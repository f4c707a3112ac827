use Rattle.std.proofs.Common.{arith, ◌+◌, ◌<◌, ◌≤◌, ◌≡◌, ◌≢◌, ◌⊎◌, inl, inr, ℕ, Bool, true, false, ◌&&◌, eqb, List, [], ◌∷◌, ◌++◌, get_or, set, Some, None, option_map, ap, ◌∙◌, refl, sym}
use Rattle.std.specs.List.{position}
use Rattle.std.specs.Str.{bytes_eq}
use Rattle.std.proofs.lemmas.Bool.{eq-eqb, eqb-true, ne_eqb}
use Rattle.std.proofs.lemmas.List.Folds.{find-set, find_past}
use Rattle.std.proofs.lemmas.List.Quantifiers.{position-Some}
use Rattle.outside_memory.specs.Vaults.{FileSet}
use Rattle.outside_memory.specs.declared.kept_file.KeptFile.{KeptFile}
use Rattle.outside_memory.specs.Pieces.{fits_written}
use Rattle.outside_memory.specs.declared.room.Pieces.{Pieces}
use Rattle.outside_memory.specs.KeptFile.{files_of, is_file}
use Rattle.outside_memory.proofs.FindLemmas.{bytes_eq-other, bytes_eq-same, find-first-none, find-none, find-second-none, position-is}

-- a test of two parts passes where both do
both-true : (a b : Bool) → a ≡ true → b ≡ true → (a && b) ≡ true
both-true true b at bt = bt
both-true false b at bt = at

-- a test of two parts that passes, and another of which a part doesn't
other-false : (a b a' b' : Bool) → (a && b) ≡ true → ((a ≡ true → a' ≡ false) ⊎ (b ≡ true → b' ≡ false)) → (a' && b') ≡ false
other-false false b a' b' passes either = absurd (let e : false ≡ true = passes in cc)
other-false true b false b' passes either = refl
other-false true b true b' passes (inl fails) = absurd (let e : true ≡ false = fails refl in cc)
other-false true b true b' passes (inr fails) = fails passes

-- a file passes the test of its user and name
its_own : (uid : ℕ) (name : List ℕ) (f : KeptFile) → f.uid ≡ uid → f.name ≡ name → is_file uid name f ≡ true
its_own uid name f same named =
    both-true (eqb f.uid uid) (bytes_eq f.name name) (eq-eqb f.uid uid same) (bytes_eq-same f.name name named)

-- and no other's
no_others : (uid other_uid : ℕ) (name other : List ℕ) (f : KeptFile) → is_file uid name f ≡ true → (other_uid ≢ uid) ⊎ (other ≢ name) → is_file other_uid other f ≡ false
no_others uid other_uid name other f own (inl ne) =
    other-false (eqb f.uid uid) (bytes_eq f.name name) (eqb f.uid other_uid) (bytes_eq f.name other) own (inl (λ t. ne_eqb f.uid other_uid (λ e. ne (sym e ∙ eqb-true f.uid uid t))))
no_others uid other_uid name other f own (inr ne) =
    other-false (eqb f.uid uid) (bytes_eq f.name name) (eqb f.uid other_uid) (bytes_eq f.name other) own (inr (λ t. bytes_eq-other f.name name other t ne))

-- a file that is there is set
pub FileSet-set : (files : List KeptFile) (uid : ℕ) (name bytes : List ℕ) (i : ℕ) (f : KeptFile) → f.uid ≡ uid → f.name ≡ name → f.bytes ≡ bytes → position (is_file uid name) files ≡ Some i → FileSet uid name bytes (files_of files) (files_of (set files i f))
FileSet-set files uid name bytes i f same named holds at =
    let found = position-Some (is_file uid name) files i f at in
    let own = its_own uid name f same named in
    record {
      file = ap (option_map (λ g. g.bytes)) (find-set (is_file uid name) files i f (position-is (is_file uid name) files i at) found.0 own) ∙ ap Some holds;
      others = λ ou o ne. ap (option_map (λ g. g.bytes)) (find_past (is_file ou o) files i f f (no_others uid ou name o (get_or files i f) found.1 ne) (no_others uid ou name o f own ne));
    }

-- a file that isn't there is added
pub FileSet-push : (files : List KeptFile) (uid : ℕ) (name bytes : List ℕ) (f : KeptFile) → f.uid ≡ uid → f.name ≡ name → f.bytes ≡ bytes → position (is_file uid name) files ≡ None → FileSet uid name bytes (files_of files) (files_of (files ++ f ∷ []))
FileSet-push files uid name bytes f same named holds at =
    let own = its_own uid name f same named in
    record {
      file = ap (option_map (λ g. g.bytes)) (find-first-none (is_file uid name) files f (find-none (is_file uid name) files at) own) ∙ ap Some holds;
      others = λ ou o ne. ap (option_map (λ g. g.bytes)) (find-second-none (is_file ou o) files f (no_others uid ou name o f own ne));
    }

-- what fits once it is written fits before, and to its end
pub fits-true : (p : Pieces) (name old offset bytes : ℕ) → fits_written p name old offset bytes ≡ true → (1 < p.count) × (old ≤ p.size) × (0 < bytes → offset + bytes ≤ p.size)
fits-true p name old offset bytes e = (grind arith, grind arith, λ more. grind arith)
