-- Items that are read one after the other.
use Rattle.std.proofs.Common.{◌≡◌, ℕ, zero, suc, ◌+◌, ◌<◌, ◌≤◌, Bool, true, false, not, List, [], ◌∷◌, ◌++◌, length, map, drop, get_or, refl, sym, ap, ◌∙◌, subst, arith, ◌||◌, Result, Ok, Err}
use Rattle.std.specs.List.{list_all, list_any}
use Rattle.std.proofs.lemmas.Bool.{and_parts, and_from, false≢true}
use Rattle.std.proofs.lemmas.List.{drop_more}
use Rattle.std.proofs.lemmas.List.Folds.{list_any-append}
use Rattle.std.specs.Prelude.{IsErrAnd}
use Rattle.account_file.specs.declared.fault.SetupError.{SetupError}
use Rattle.account_file.specs.declared.fault.SetupError.TheVariants.{Refused, OutOfMemory}
use Rattle.account_file.specs.Faults.{Answers}
use Rattle.request_catalogue.specs.Results.{◌>>=◌}
use Rattle.toml.specs.Data.{Data, array, no_items}
use Rattle.toml.specs.View.{view}
use Rattle.toml.specs.declared.value.Value.{Value}
use Rattle.policy_model.specs.Settings.{are_distinct}
use Rattle.account_file.specs.declared.fault.SetupFault.{SetupFault}
use Rattle.account_file.specs.Trees.{read_behind}

-- what no item stands for
abbrev pub nothing : Data
nothing = array no_items

-- the items left, after what was read so far, are read as all items
pub record IsReadTo {A : Type 0} (read : List A → Data → Result A SetupFault) (all : List Data) (i : ℕ) (xs : List A) : Type 0 where
  pub so_far : read_behind read xs (drop i all) ≡ read_behind read [] all

-- before the first item
pub read_none : {A : Type 0} (read : List A → Data → Result A SetupFault) (all : List Data) → IsReadTo read all 0 []
read_none read all = record { so_far = refl }

-- an item, and those after it
abbrev pub and_then : {A : Type 0} → (List A → Data → Result A SetupFault) → List A → List Data → Result A SetupFault → Result (List A) SetupFault
and_then read xs rest r = r >>= (λ a. read_behind read (xs ++ a ∷ []) rest)

-- the items left begin with the one at their place
left_at : {A : Type 0} (read : List A → Data → Result A SetupFault) (all : List Data) (i : ℕ) (xs : List A) (d : Data) → i < length all → get_or all i nothing ≡ d → read_behind read xs (drop i all) ≡ and_then read xs (drop (i + 1) all) (read xs d)
left_at read all i xs d lt e = ap (read_behind read xs) (drop_more all i nothing lt ∙ ap (λ (x : Data). x ∷ drop (i + 1) all) e)

-- the items with a fault at a place have that fault
pub read_stop : {A : Type 0} (read : List A → Data → Result A SetupFault) (all : List Data) (i : ℕ) (xs : List A) (d : Data) (f : SetupFault) → IsReadTo read all i xs → i < length all → get_or all i nothing ≡ d → read xs d ≡ Err f → read_behind read [] all ≡ Err f
read_stop read all i xs d f is lt e fault = sym is.so_far ∙ left_at read all i xs d lt e ∙ ap (and_then read xs (drop (i + 1) all)) fault

-- one item more
pub read_more : {A : Type 0} (read : List A → Data → Result A SetupFault) (all : List Data) (i : ℕ) (xs : List A) (d : Data) (a : A) → IsReadTo read all i xs → i < length all → get_or all i nothing ≡ d → read xs d ≡ Ok a → IsReadTo read all (i + 1) (xs ++ a ∷ [])
read_more read all i xs d a is lt e value = record { so_far = sym (left_at read all i xs d lt e ∙ ap (and_then read xs (drop (i + 1) all)) value) ∙ is.so_far }

-- all items
pub read_all : {A : Type 0} (read : List A → Data → Result A SetupFault) (all : List Data) (i : ℕ) (xs : List A) → IsReadTo read all i xs → drop i all ≡ [] → read_behind read [] all ≡ Ok xs
read_all read all i xs is none = sym is.so_far ∙ ap (read_behind read xs) none

-- or false
or_nothing : (b : Bool) → (b || (false || false)) ≡ b
or_nothing true = refl
or_nothing false = refl

-- neither where not either
or_false : (a b : Bool) → (a || b) ≡ false → (a ≡ false) × (b ≡ false)
or_false true b e = absurd (false≢true (sym e))
or_false false b e = (refl, e)

-- one more that none is the same as
pub distinct_more : {A : Type 0} (same : A → A → Bool) (xs : List A) (x : A) → are_distinct same xs ≡ true → list_any (λ y. same y x) xs ≡ false → are_distinct same (xs ++ x ∷ []) ≡ true
distinct_more same [] x apart new = refl
distinct_more same (y ∷ ys) x apart new =
    let parts = and_parts (not (list_any (same y) ys)) (are_distinct same ys) apart in
    let other = or_false (same y x) (list_any (λ z. same z x) ys) new in
    let any : list_any (same y) (ys ++ x ∷ []) ≡ list_any (same y) ys = list_any-append (same y) ys (x ∷ []) ∙ rw other.0 (or_nothing (list_any (same y) ys)) in
    and_from _ _ (ap not any ∙ parts.0) (distinct_more same ys x parts.1 other.1)

-- one more that passes
pub list_all_more : {A : Type 0} (p : A → Bool) (xs : List A) (x : A) → list_all p xs ≡ true → p x ≡ true → list_all p (xs ++ x ∷ []) ≡ true
list_all_more p [] x passes here = rw here refl
list_all_more p (y ∷ ys) x passes here =
    let parts = and_parts (p y) (list_all p ys) passes in
    and_from _ _ parts.0 (list_all_more p ys x parts.1 here)

-- a refusal that is handed on
pub refused_on : {A B : Type 0} (view : A → B) (r : Result A SetupError) (f : SetupFault) (expected : Result B SetupFault) → IsErrAnd r (λ e. e ≡ Refused f) → expected ≡ Err f → Answers view r expected
refused_on view (Ok a) f expected is e = absurd is
refused_on {A} view (Err fault) f expected is e = subst (λ (x : SetupError). Answers view (Err x) expected) (sym is) e

-- the value at a place, as data
pub view_at : (vs : List Value) (i : ℕ) (x : Value) → i < length vs → x ≡ get_or vs i x → get_or (map view vs) i nothing ≡ view x
view_at [] i x lt e = absurd (omega arith)
view_at (v ∷ vs) zero x lt e = ap view (sym e)
view_at (v ∷ vs) (suc i) x lt e = view_at vs i x (omega arith) e

-- nothing is left after the last
pub none_left : (vs : List Value) (i : ℕ) → length vs ≤ i → drop i (map view vs) ≡ []
none_left [] zero le = refl
none_left [] (suc i) le = refl
none_left (v ∷ vs) zero le = absurd (omega arith)
none_left (v ∷ vs) (suc i) le = none_left vs i (omega arith)

-- an error that stands for a definition's fault stands for another's
error_on : {A B C D : Type 0} (view : A → B) (inner_view : C → D) (e : SetupError) (inner : Result D SetupFault) (expected : Result B SetupFault) → Answers inner_view (Err e) inner → ((f : SetupFault) → inner ≡ Err f → expected ≡ Err f) → Answers view (Err e) expected
error_on view inner_view (Refused f) inner expected is on = on f is
error_on view inner_view OutOfMemory inner expected is on = tt

-- an error that is handed on
pub handed_on : {A B C D : Type 0} (view : A → B) (inner_view : C → D) (r : Result A SetupError) (e : SetupError) (inner : Result D SetupFault) (expected : Result B SetupFault) → IsErrAnd r (λ x. x ≡ e) → Answers inner_view (Err e) inner → ((f : SetupFault) → inner ≡ Err f → expected ≡ Err f) → Answers view r expected
handed_on view inner_view (Ok a) e inner expected same is on = absurd same
handed_on view inner_view (Err x) e inner expected same is on = subst (λ (y : SetupError). Answers view (Err y) expected) (sym same) (error_on view inner_view e inner expected is on)
