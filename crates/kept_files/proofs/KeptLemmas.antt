-- What is kept after files were read.
use Rattle.std.proofs.Common.{◌≡◌, ◌≢◌, ◌⊎◌, inl, inr, ℕ, Bool, true, false, List, [], ◌∷◌, ◌++◌, Option, Some, None, refl, sym, ap, subst, ◌∙◌}
use Rattle.std.specs.Prelude.{IsTrue, option_map, take}
use Rattle.std.specs.Str.{bytes_eq}
use Rattle.std.proofs.lemmas.Slice.Eq.{bytes_eq-Decides}
use Rattle.outside.specs.Files.{Contents, SameFiles}
use Rattle.outside.specs.FilesNow.{OnlyReads}
use Rattle.outside.specs.Told.{Goes}
use Rattle.outside.proofs.OnlyReading.{reads_both, reads_none, reads_wider}
use Rattle.outside.proofs.Touching.{HasAll}
use Rattle.kept_files.specs.Kept.{IsFrontOf, IsKept, Kept, KeptNow, KeepsAll, KeepsFile, KeepsMore, Mirrors, is_kept, kept_files}

-- a name is another or the same
pub same_or_other : (a b : List ℕ) → (a ≡ b) ⊎ (a ≢ b)
same_or_other a b = go (bytes_eq a b) refl where
  go : (t : Bool) → bytes_eq a b ≡ t → (a ≡ b) ⊎ (a ≢ b)
  go true e = inl ((bytes_eq-Decides a b).0 e)
  go false e = inr (λ same. let e' = (bytes_eq-Decides a b).1 same in cc)

-- what stood in files that stay as they are stands in them still
front_later : (old new : Option Contents) (name : List ℕ) (front : Option (List ℕ)) → Goes SameFiles old new
    → IsFrontOf old name front → IsFrontOf new name front
front_later old None name front goes is = tt
front_later None (Some new) name front goes is = absurd goes
front_later (Some old) (Some new) name front goes is = is ∙ sym (ap (option_map (take 8388609)) (goes.same name))

mirrors_later : (old new : Option Contents) (kept : Kept) → Goes SameFiles old new → Mirrors old kept → Mirrors new kept
mirrors_later old new kept goes held = record {
  each = λ name there. front_later old new name (kept_files kept name) goes (held.each name there);
}

mirrors_file : (old new : Option Contents) (name : List ℕ) (before after : Kept) → Goes SameFiles old new
    → KeepsFile new name before after → Mirrors old before → Mirrors new after
mirrors_file old new name before after goes step held = go step.either where
  go : (after ≡ before) ⊎ (is_kept name before ≡ false) × IsKept new name after → Mirrors new after
  go (inl same) = subst (Mirrors new) (sym same) (mirrors_later old new before goes held)
  go (inr first) = record { each = λ one there. which one there (same_or_other one name) } where
    which : (one : List ℕ) → IsTrue (is_kept one after) → (one ≡ name) ⊎ (one ≢ name) → IsFrontOf new one (kept_files after one)
    which one there (inl is) = subst (λ n. IsFrontOf new n (kept_files after n)) (sym is) first.1.front
    which one there (inr other) =
        subst (IsFrontOf new one) (sym (step.others.files one other))
        (front_later old new one (kept_files before one) goes (held.each one (subst IsTrue (step.others.kept one other) there)))

not_both : (b : Bool) → IsTrue b → b ≡ false → ⊥
not_both true t f = absurd cc
not_both false t f = absurd cc

all_file : (contents : Option Contents) (name : List ℕ) (before after : Kept) → KeepsFile contents name before after → KeepsAll before after
all_file contents name before after step = go step.either where
  go : (after ≡ before) ⊎ (is_kept name before ≡ false) × IsKept contents name after → KeepsAll before after
  go (inl same) = record {
    kept = λ one there. subst (λ k. IsTrue (is_kept one k)) (sym same) there;
    files = λ one there. ap (λ k. kept_files k one) same;
  }
  go (inr first) = record {
    kept = λ one there. subst IsTrue (sym (step.others.kept one (other one there))) there;
    files = λ one there. step.others.files one (other one there);
  } where
    other : (one : List ℕ) → IsTrue (is_kept one before) → one ≢ name
    other one there is = not_both (is_kept name before) (subst (λ n. IsTrue (is_kept n before)) is there) first.0

pub all_same : (a b : Kept) → b ≡ a → KeepsAll a b
all_same a b same = record {
  kept = λ one there. subst (λ k. IsTrue (is_kept one k)) (sym same) there;
  files = λ one there. ap (λ k. kept_files k one) same;
}

-- ---- one step

-- a file more is kept
pub more_file : (name : List ℕ) (a b : KeptNow) → KeepsFile b.under.contents name a.kept b.kept → OnlyReads (name ∷ []) a.under b.under → KeepsMore (name ∷ []) a b
more_file name a b step reads = record {
  reads = reads;
  still = all_file b.under.contents name a.kept b.kept step;
  mirrors = mirrors_file a.under.contents b.under.contents name a.kept b.kept reads.kept step;
}

-- nothing more is kept
pub more_same : (names : List (List ℕ)) (a b : KeptNow) → b.kept ≡ a.kept → OnlyReads names a.under b.under → KeepsMore names a b
more_same names a b same reads = record {
  reads = reads;
  still = all_same a.kept b.kept same;
  mirrors = λ held. subst (Mirrors b.under.contents) (sym same) (mirrors_later a.under.contents b.under.contents a.kept reads.kept held);
}

-- ---- several steps

pub more_none : (names : List (List ℕ)) (a : KeptNow) → KeepsMore names a a
more_none names a = more_same names a a refl (reads_none names a.under)

pub more_both : (names names' : List (List ℕ)) (a b c : KeptNow) → KeepsMore names a b → KeepsMore names' b c → KeepsMore (names ++ names') a c
more_both names names' a b c f s = record {
  reads = reads_both names names' a.under b.under c.under f.reads s.reads;
  still = record {
    kept = λ one there. s.still.kept one (f.still.kept one there);
    files = λ one there. s.still.files one (f.still.kept one there) ∙ f.still.files one there;
  };
  mirrors = λ held. s.mirrors (f.mirrors held);
}

pub more_wider : (names more : List (List ℕ)) → HasAll more names → (a b : KeptNow) → KeepsMore names a b → KeepsMore more a b
more_wider names more all a b keeps = record {
  reads = reads_wider names more all a.under b.under keeps.reads;
  still = keeps.still;
  mirrors = keeps.mirrors;
}
