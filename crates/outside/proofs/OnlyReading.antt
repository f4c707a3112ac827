-- What several readings of files leave.
use Rattle.std.proofs.Common.{ℕ, List, [], ◌++◌, arith, refl, ◌∙◌}
use Rattle.outside.specs.Files.{Contents, SameFiles}
use Rattle.outside.specs.FilesNow.{FilesNow, OnlyReads}
use Rattle.outside.proofs.Told.{Goes-same, Goes-then}
use Rattle.outside.proofs.Touching.{HasAll, Touches-none, Touches-then, Touches-wider, name_left, name_right}

-- every file is as it was, over two steps
pub same_then : (a b c : Contents) → SameFiles a b → SameFiles b c → SameFiles a c
same_then a b c f s = record { same = λ name. s.same name ∙ f.same name }

pub reads_none : (names : List (List ℕ)) (a : FilesNow) → OnlyReads names a a
reads_none names a = record {
  kept = Goes-same SameFiles (λ x. record { same = λ name. refl }) a.contents;
  read_faults = omega arith;
  replace_faults = omega arith;
  touched = Touches-none names [] a.touched;
}

pub reads_then : (names : List (List ℕ)) (a b c : FilesNow) → OnlyReads names a b → OnlyReads names b c → OnlyReads names a c
reads_then names a b c f s =
    let low = f.read_faults in
    let high = s.read_faults in
    let low' = f.replace_faults in
    let high' = s.replace_faults in
    record {
      kept = Goes-then SameFiles SameFiles SameFiles same_then a.contents b.contents c.contents f.kept s.kept;
      read_faults = omega (arith, low, high);
      replace_faults = omega (arith, low', high');
      touched = Touches-then names [] a.touched b.touched c.touched f.touched s.touched;
    }

pub reads_wider : (names more : List (List ℕ)) → HasAll more names → (a b : FilesNow) → OnlyReads names a b → OnlyReads more a b
reads_wider names more all a b reads = record {
  kept = reads.kept;
  read_faults = reads.read_faults;
  replace_faults = reads.replace_faults;
  touched = Touches-wider names [] more [] all (λ name h. h) a.touched b.touched reads.touched;
}

-- two steps, each with names of its own
pub reads_both : (names names' : List (List ℕ)) (a b c : FilesNow) → OnlyReads names a b → OnlyReads names' b c → OnlyReads (names ++ names') a c
reads_both names names' a b c f s =
    reads_then (names ++ names') a b c
    (reads_wider names (names ++ names') (λ name h. name_left name names names' h) a b f)
    (reads_wider names' (names ++ names') (λ name h. name_right name names names' h) b c s)
