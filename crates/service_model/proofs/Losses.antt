-- Sessions after which a worker goes on, and one after them.
use Rattle.std.proofs.Common.{◌≡◌, Bool, true, false, ◌||◌, List, [], ◌∷◌, ◌++◌, refl, sym, ◌∙◌}
use Rattle.std.specs.List.{AllByRecursion, list_any}
use Rattle.service_model.specs.Sittings.{NoneBehindLoss, Sitting, ends_worker}
use Rattle.service_model.specs.Stories.{LastAccept, NoAcceptBehindLoss}

-- its worker goes on after it
abbrev pub GoesOnBehind : Sitting → Type 0
GoesOnBehind sitting = ends_worker sitting ≡ false

not-both : {A : Type 0} (b : Bool) → b ≡ false → b ≡ true → A
not-both b not is = absurd (let e : false ≡ true = sym not ∙ is in cc)

-- after sessions after which the worker went on, any one may be the last
pub alone-push : (ss : List Sitting) (s : Sitting) → AllByRecursion GoesOnBehind ss → NoneBehindLoss (ss ++ s ∷ [])
alone-push [] s each = (λ h. refl, tt)
alone-push (x ∷ xs) s each = (λ h. not-both (ends_worker x) each.0 h, alone-push xs s each.1)

pub alone-all : (ss : List Sitting) → AllByRecursion GoesOnBehind ss → NoneBehindLoss ss
alone-all [] each = tt
alone-all (x ∷ xs) each = (λ h. not-both (ends_worker x) each.0 h, alone-all xs each.1)

-- none of them ends the worker
none-ends : (ss : List Sitting) → AllByRecursion GoesOnBehind ss → list_any ends_worker ss ≡ false
none-ends [] each = refl
none-ends (x ∷ xs) each = neither (ends_worker x) (list_any ends_worker xs) each.0 (none-ends xs each.1) where
  neither : (a b : Bool) → a ≡ false → b ≡ false → (a || b) ≡ false
  neither true b not none = absurd cc
  neither false b not none = none

-- so any accept may stand after them
pub halted-none : (ss : List Sitting) (last : LastAccept) → AllByRecursion GoesOnBehind ss → NoAcceptBehindLoss ss last
halted-none ss last each = λ h. not-both (list_any ends_worker ss) (none-ends ss each) h
