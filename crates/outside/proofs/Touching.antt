-- Which files were read and replaced, over several calls.
use Rattle.std.proofs.Common.{◌≡◌, Bool, true, false, ◌||◌, inl, inr, List, [], ◌∷◌, ◌++◌, Option, Some, None, Result, Ok, Err, ℕ, refl, sym, subst}
use Rattle.std.specs.Prelude.{IsTrue, OnErr, OnOk}
use Rattle.std.specs.Str.{bytes_eq}
use Rattle.std.proofs.lemmas.List.Folds.{list_any-append}
use Rattle.outside.specs.declared.act.Failed.{Failed}
use Rattle.outside.specs.Told.{Goes}
use Rattle.outside.specs.Touched.{HasRead, HasReplaced, MayHaveRead, MayHaveReplaced, Touched, TouchesOnly, has_name, with_name}
use Rattle.outside.proofs.Told.{Goes-same, Goes-then}

-- whether a name is among two lists of names
has_either : (name : List ℕ) (xs ys : List (List ℕ)) → has_name name (xs ++ ys) ≡ (has_name name xs || has_name name ys)
has_either name xs ys = list_any-append (λ other. bytes_eq other name) xs ys

or_left : (a b : Bool) → IsTrue a → IsTrue (a || b)
or_left true b h = refl
or_left false b h = absurd (let e = h in cc)

or_right : (a b : Bool) → IsTrue b → IsTrue (a || b)
or_right true b h = refl
or_right false b h = h

or_case : (a b c : Bool) → (IsTrue a → IsTrue c) → (IsTrue b → IsTrue c) → IsTrue (a || b) → IsTrue c
or_case true b c f g h = f refl
or_case false b c f g h = g h

pub name_left : (name : List ℕ) (xs ys : List (List ℕ)) → IsTrue (has_name name xs) → IsTrue (has_name name (xs ++ ys))
name_left name xs ys h = rw (has_either name xs ys) (or_left (has_name name xs) (has_name name ys) h)

pub name_right : (name : List ℕ) (xs ys : List (List ℕ)) → IsTrue (has_name name ys) → IsTrue (has_name name (xs ++ ys))
name_right name xs ys h = rw (has_either name xs ys) (or_right (has_name name xs) (has_name name ys) h)

pub name_case : (name : List ℕ) (xs ys zs : List (List ℕ)) → (IsTrue (has_name name xs) → IsTrue (has_name name zs)) → (IsTrue (has_name name ys) → IsTrue (has_name name zs)) → IsTrue (has_name name (xs ++ ys)) → IsTrue (has_name name zs)
name_case name xs ys zs f g h =
    or_case (has_name name xs) (has_name name ys) (has_name name zs) f g (subst IsTrue (has_either name xs ys) h)

-- one list of names has all of another
abbrev pub HasAll : List (List ℕ) → List (List ℕ) → Type 0
HasAll more few = (name : List ℕ) → IsTrue (has_name name few) → IsTrue (has_name name more)

-- among these names and one more
with_within : (one : List ℕ) (names : List (List ℕ)) → HasAll (names ++ one ∷ []) (with_name one names)
with_within one names name h = go (has_name one names) refl where
  go : (b : Bool) → has_name one names ≡ b → IsTrue (has_name name (names ++ one ∷ []))
  go true e = name_left name names (one ∷ []) (subst (λ xs. IsTrue (has_name name xs)) (with_is e) h) where
    with_is : has_name one names ≡ true → with_name one names ≡ names
    with_is e' = rw e' refl
  go false e = subst (λ xs. IsTrue (has_name name xs)) (with_is e) h where
    with_is : has_name one names ≡ false → with_name one names ≡ names ++ one ∷ []
    with_is e' = rw e' refl

-- ---- what touches only some files

pub touches_none : (reads replaces : List (List ℕ)) (a : Touched) → TouchesOnly reads replaces a a
touches_none reads replaces a = record {
  read = λ name h. name_left name a.read reads h;
  replaced = λ name h. name_left name a.replaced replaces h;
}

pub touches_wider : (reads replaces reads' replaces' : List (List ℕ)) → HasAll reads' reads → HasAll replaces' replaces → (a b : Touched) → TouchesOnly reads replaces a b → TouchesOnly reads' replaces' a b
touches_wider reads replaces reads' replaces' more more' a b only = record {
  read = λ name h. name_case name a.read reads (a.read ++ reads') (λ l. name_left name a.read reads' l) (λ r. name_right name a.read reads' (more name r)) (only.read name h);
  replaced = λ name h. name_case name a.replaced replaces (a.replaced ++ replaces') (λ l. name_left name a.replaced replaces' l) (λ r. name_right name a.replaced replaces' (more' name r)) (only.replaced name h);
}

pub touches_then : (reads replaces : List (List ℕ)) (a b c : Touched) → TouchesOnly reads replaces a b → TouchesOnly reads replaces b c → TouchesOnly reads replaces a c
touches_then reads replaces a b c f s = record {
  read = λ name h. name_case name b.read reads (a.read ++ reads) (λ l. f.read name l) (λ r. name_right name a.read reads r) (s.read name h);
  replaced = λ name h. name_case name b.replaced replaces (a.replaced ++ replaces) (λ l. f.replaced name l) (λ r. name_right name a.replaced replaces r) (s.replaced name h);
}

read_touches : (one : List ℕ) (a b : Touched) → HasRead one a b → TouchesOnly (one ∷ []) [] a b
read_touches one a b has = record {
  read = λ name h. with_within one a.read name (subst (λ xs. IsTrue (has_name name xs)) has.read h);
  replaced = λ name h. name_left name a.replaced [] (subst (λ xs. IsTrue (has_name name xs)) has.replaced h);
}

replaced_touches : (one : List ℕ) (a b : Touched) → HasReplaced one a b → TouchesOnly [] (one ∷ []) a b
replaced_touches one a b has = record {
  read = λ name h. name_left name a.read [] (subst (λ xs. IsTrue (has_name name xs)) has.read h);
  replaced = λ name h. with_within one a.replaced name (subst (λ xs. IsTrue (has_name name xs)) has.replaced h);
}

may_read_touches : (one : List ℕ) (a b : Touched) → MayHaveRead one a b → TouchesOnly (one ∷ []) [] a b
may_read_touches one a b may = elim may.either [
  | inl same ↦ subst (λ x. TouchesOnly (one ∷ []) [] a x) (sym same) (touches_none (one ∷ []) [] a)
  | inr has ↦ read_touches one a b has
]

may_replaced_touches : (one : List ℕ) (a b : Touched) → MayHaveReplaced one a b → TouchesOnly [] (one ∷ []) a b
may_replaced_touches one a b may = elim may.either [
  | inl same ↦ subst (λ x. TouchesOnly [] (one ∷ []) a x) (sym same) (touches_none [] (one ∷ []) a)
  | inr has ↦ replaced_touches one a b has
]

-- the same of files that may cease to tell
goes_weaker : (P Q : Touched → Touched → Type 0) → ((a b : Touched) → P a b → Q a b) → (a b : Option Touched) → Goes P a b → Goes Q a b
goes_weaker P Q weaker a None h = tt
goes_weaker P Q weaker None (Some b) h = absurd h
goes_weaker P Q weaker (Some a) (Some b) h = weaker a b h

pub Touches-none : (reads replaces : List (List ℕ)) (a : Option Touched) → Goes (TouchesOnly reads replaces) a a
Touches-none reads replaces a = Goes-same (TouchesOnly reads replaces) (touches_none reads replaces) a

pub Touches-wider : (reads replaces reads' replaces' : List (List ℕ)) → HasAll reads' reads → HasAll replaces' replaces → (a b : Option Touched) → Goes (TouchesOnly reads replaces) a b → Goes (TouchesOnly reads' replaces') a b
Touches-wider reads replaces reads' replaces' more more' a b h =
    goes_weaker (TouchesOnly reads replaces) (TouchesOnly reads' replaces') (touches_wider reads replaces reads' replaces' more more') a b h

pub Touches-then : (reads replaces : List (List ℕ)) (a b c : Option Touched) → Goes (TouchesOnly reads replaces) a b → Goes (TouchesOnly reads replaces) b c → Goes (TouchesOnly reads replaces) a c
Touches-then reads replaces a b c f s =
    Goes-then (TouchesOnly reads replaces) (TouchesOnly reads replaces) (TouchesOnly reads replaces) (touches_then reads replaces) a b c f s

-- what two steps touch, of which each touches some
pub Touches-both : (reads replaces reads' replaces' : List (List ℕ)) (a b c : Option Touched) → Goes (TouchesOnly reads replaces) a b → Goes (TouchesOnly reads' replaces') b c → Goes (TouchesOnly (reads ++ reads') (replaces ++ replaces')) a c
Touches-both reads replaces reads' replaces' a b c f s =
    Touches-then (reads ++ reads') (replaces ++ replaces') a b c
    (Touches-wider reads replaces (reads ++ reads') (replaces ++ replaces') (λ name h. name_left name reads reads' h) (λ name h. name_left name replaces replaces' h) a b f)
    (Touches-wider reads' replaces' (reads ++ reads') (replaces ++ replaces') (λ name h. name_right name reads reads' h) (λ name h. name_right name replaces replaces' h) b c s)

-- a call that reads a file touches no other
pub Touches-read : {X : Type 0} (result : Result X Failed) (one : List ℕ) (a b : Option Touched) → OnOk result (Goes (HasRead one) a b) → OnErr result (Goes (MayHaveRead one) a b) → Goes (TouchesOnly (one ∷ []) []) a b
Touches-read (Ok x) one a b ok err = goes_weaker (HasRead one) (TouchesOnly (one ∷ []) []) (read_touches one) a b ok
Touches-read (Err e) one a b ok err = goes_weaker (MayHaveRead one) (TouchesOnly (one ∷ []) []) (may_read_touches one) a b err

-- a call that replaces a file touches no other
pub Touches-replaced : {X : Type 0} (result : Result X Failed) (one : List ℕ) (a b : Option Touched) → OnOk result (Goes (HasReplaced one) a b) → OnErr result (Goes (MayHaveReplaced one) a b) → Goes (TouchesOnly [] (one ∷ [])) a b
Touches-replaced (Ok x) one a b ok err = goes_weaker (HasReplaced one) (TouchesOnly [] (one ∷ [])) (replaced_touches one) a b ok
Touches-replaced (Err e) one a b ok err = goes_weaker (MayHaveReplaced one) (TouchesOnly [] (one ∷ [])) (may_replaced_touches one) a b err
