use Rattle.std.proofs.Common.{◌≡◌, ℕ, ◌<◌, List, [], ◌∷◌, ◌++◌, All, length, get_or, subst, ap, ◌∙◌, arith, length-append}
use Rattle.std.proofs.Math.Seq.{get_or-append_seam}
use Rattle.std.proofs.lemmas.List.Elements.{All-get_or}
use Rattle.outside_memory.specs.Blank.{BlankStream, IsRoomy}

-- where all have the room, the last one has it
pub roomy_last : (cuts : List ℕ) (size : ℕ) (all rest : List BlankStream) (last : BlankStream) → all ≡ rest ++ last ∷ [] → All (IsRoomy cuts size) all → IsRoomy cuts size last
roomy_last cuts size all rest last e each =
    let fits : length rest < length all = omega (arith, ap length e, length-append rest (last ∷ [])) in
    subst (IsRoomy cuts size) (ap (λ l. get_or l (length rest) last) e ∙ get_or-append_seam rest last [] last) (All-get_or (IsRoomy cuts size) all (length rest) last fits each)
