-- A legal journal and the event that follows it.
use Rattle.std.proofs.Common.{◌≡◌, List, [], ◌∷◌, ◌++◌, length, get_or, take, sym, ap, subst, ◌∙◌, inl, inr, arith}
use Rattle.std.proofs.lemmas.Bool.{cases_lt}
use Rattle.std.proofs.lemmas.List.{length-append, take-append-le}
use Rattle.std.proofs.Math.Seq.{get_or-append_seam, take-append_seam}
use Rattle.std.proofs.Math.ListN.{get_or-append}
use Rattle.policy_model.specs.declared.event.Event.{Event}
use Rattle.policy_model.specs.Legal.{IsLegal, IsNext}
use Rattle.policy_model.specs.Settings.{Settings}

-- the empty journal is legal
pub IsLegal-none : (setup : Settings) → IsLegal setup []
IsLegal-none setup k d lt = absurd (omega (arith, lt))

-- a legal journal and an event that may follow it
pub IsLegal-push : (setup : Settings) (journal : List Event) (e : Event) → IsLegal setup journal → IsNext setup journal e → IsLegal setup (journal ++ e ∷ [])
IsLegal-push setup journal e legal next k d lt =
    elim (cases_lt k (length journal)) [
      | inl below ↦
          let same : get_or (journal ++ e ∷ []) k d ≡ get_or journal k d = get_or-append journal (e ∷ []) d k below in
          let front : take k (journal ++ e ∷ []) ≡ take k journal = take-append-le k journal (e ∷ []) (omega (arith, below)) in
          subst (λ b. IsNext setup b (get_or (journal ++ e ∷ []) k d)) (sym front) (subst (λ x. IsNext setup (take k journal) x) (sym same) (legal k d below))
      | inr le ↦
          let here : k ≡ length journal = omega (arith, lt, le, length-append journal (e ∷ [])) in
          let same : get_or (journal ++ e ∷ []) k d ≡ e = ap (λ i. get_or (journal ++ e ∷ []) i d) here ∙ get_or-append_seam journal e [] d in
          let front : take k (journal ++ e ∷ []) ≡ journal = ap (λ i. take i (journal ++ e ∷ [])) here ∙ take-append_seam journal (e ∷ []) in
          subst (λ b. IsNext setup b (get_or (journal ++ e ∷ []) k d)) (sym front) (subst (λ x. IsNext setup journal x) (sym same) next)
    ]
