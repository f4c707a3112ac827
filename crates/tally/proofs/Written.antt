-- What a vector of passes holds after a slice of it was lent.
use Rattle.std.proofs.Common.{◌≡◌, ℕ, ◌<◌, ◌++◌, List, length, take, drop, sym, ap, subst, ◌∙◌}
use Rattle.std.proofs.Math.Seq.{take-append_seam}
use Rattle.std.specs.Prelude.{slice_index_or}
use Rattle.turn_cell.specs.Facts.{PassFacts, CellFacts, IsSamePass, AreNewPasses, AreAllPasses}
use Rattle.turn_cell.proofs.Ends.{all_new, all_same}

-- the whole vector was lent, so it holds what was written
pub written_whole : {X : Type 0} (xs zs : List X) (n : ℕ) → n ≡ length xs → take n (xs ++ zs) ≡ xs
written_whole xs zs n e = subst (λ (k : ℕ). take k (xs ++ zs) ≡ xs) (sym e) (take-append_seam xs zs)

-- all passes of a new cell are all its passes still, whatever calls were made by those that were lent
pub all_written : {R T : Type 0} (c : CellFacts T) (ps lent after : List (PassFacts R T)) (n : ℕ) → AreNewPasses c ps → lent ≡ ps → n ≡ length ps → length after ≡ length lent
    → ((k : ℕ) (d : PassFacts R T) → k < length lent → IsSamePass (slice_index_or after k d) (slice_index_or lent k d)) → AreAllPasses c (take n (after ++ drop (length after) ps))
all_written {R} {T} c ps lent after n news lent_is n_is len same =
    let all = all_same c lent after (subst (λ (l : List (PassFacts R T)). AreAllPasses c l) (sym lent_is) (all_new c ps news)) len same in
    let n_after : n ≡ length after = n_is ∙ (ap (λ (l : List (PassFacts R T)). length l) (sym lent_is) ∙ sym len) in
    subst (λ (l : List (PassFacts R T)). AreAllPasses c l) (sym (written_whole after (drop (length after) ps) n n_after)) all
