-- What a replacing that fails leaves below.
use Rattle.std.proofs.Common.{◌≡◌, ℕ, List, refl, inl, inr, arith}
use Rattle.outside.specs.Files.{MayBeReplaced, SameFiles}
use Rattle.outside.specs.FilesNow.{FilesNow}
use Rattle.outside.specs.Told.{Goes, next_count}
use Rattle.outside.specs.Touched.{MayHaveReplaced}
use Rattle.outside.proofs.Told.{Goes-same}
use Rattle.kept_files.specs.Kept.{SparesBelow}

-- nothing was asked of the files below
pub spares_none : (name bytes : List ℕ) (a : FilesNow) → SparesBelow name bytes a a
spares_none name bytes a = record {
  contents = Goes-same (MayBeReplaced name bytes) (λ x. record { either = inl (record { same = λ other. refl }) }) a.contents;
  fault = inl (Goes-same SameFiles (λ x. record { same = λ other. refl }) a.contents);
  read_faults = refl;
  touched = Goes-same (MayHaveReplaced name) (λ x. record { either = inl refl }) a.touched;
}

-- the replacing failed there
pub spares_failed : (name bytes : List ℕ) (a b : FilesNow) → Goes (MayBeReplaced name bytes) a.contents b.contents → b.replace_faults ≡ next_count a.replace_faults → b.read_faults ≡ a.read_faults → Goes (MayHaveReplaced name) a.touched b.touched → SparesBelow name bytes a b
spares_failed name bytes a b contents rose same touched = record {
  contents = contents;
  fault = inr (record { rose = omega (arith, rose) });
  read_faults = same;
  touched = touched;
}
