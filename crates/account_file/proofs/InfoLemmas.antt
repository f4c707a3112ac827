-- Lists of which all items pass as something.
use Rattle.std.proofs.Common.{◌≡◌, ℕ, suc, ◌+◌, ◌<◌, ◌≤◌, Bool, true, false, List, [], ◌∷◌, ◌++◌, length, map, drop, get_or, refl, sym, ap, ◌∙◌, arith, append_assoc, Option, Some, None, Result, Ok}
use Rattle.std.specs.Option.{is_some, option_map, option_and_then}
use Rattle.std.proofs.lemmas.List.{append-nil, drop_more, drop_all}
use Rattle.std.specs.Prelude.{ℤ, pos, negsuc, nat_le, ◌==◌}
use Rattle.std.specs.Bool.{then_some}
use Rattle.std.specs.List.{list_all}
use Rattle.std.proofs.lemmas.Bool.{and_from, and_parts, false≢true}
use Rattle.std.proofs.lemmas.Bool.Decides.{nat_tests}
use Rattle.request_catalogue.specs.Results.{◌>>=◌}
use Rattle.toml.specs.Data.{Data, Items, as_integer, as_array}
use Rattle.toml.specs.View.{view, items_view}
use Rattle.toml.specs.declared.value.Value.{Value}
use Rattle.policy_model.specs.Settings.{is_number, are_distinct, are_numbers}
use Rattle.account_file.specs.declared.fault.SetupKey.TheVariants.{Info}
use Rattle.account_file.specs.declared.fault.SetupRule.TheVariants as rules
use Rattle.account_file.specs.declared.fault.SetupFault.{SetupFault}
use Rattle.account_file.specs.Faults.{demand_at}
use Rattle.account_file.specs.Keys.{number_in, passed, read_number}
use Rattle.account_file.specs.Numbers.{all_some, info_items, info_number}
use Rattle.account_file.specs.Setups.{read_info}
use Rattle.account_file.specs.Trees.{data_of, read_behind}
use Rattle.account_file.proofs.KeyLemmas.{data_of-view}

-- what passed so far, with what follows
abbrev pub after_some : {B : Type 0} → List B → Option (List B) → Option (List B)
after_some xs o = option_map (λ ys. xs ++ ys) o

-- what the items so far pass as, with what follows, is what all items pass as
pub record IsSomeTo {A B : Type 0} (test : A → Option B) (all : List A) (i : ℕ) (xs : List B) : Type 0 where
  pub so_far : after_some xs (all_some test (drop i all)) ≡ all_some test all

-- nothing after nothing
after_some-none : {B : Type 0} (o : Option (List B)) → after_some [] o ≡ o
after_some-none None = refl
after_some-none (Some ys) = refl

-- before the first item
pub some_none : {A B : Type 0} (test : A → Option B) (all : List A) → IsSomeTo test all 0 []
some_none test all = record { so_far = after_some-none (all_some test all) }

-- an item that passes as nothing
pub some_stop : {A B : Type 0} (test : A → Option B) (all : List A) (i : ℕ) (xs : List B) (d : A) → IsSomeTo test all i xs → i < length all → test (get_or all i d) ≡ None → all_some test all ≡ None
some_stop {A} {B} test all i xs d is lt none =
    sym is.so_far
    ∙ ap (λ (t : List A). after_some xs (all_some test t)) (drop_more all i d lt)
    ∙ ap (λ (o : Option B). after_some xs (option_and_then (λ b. option_map (λ bs. b ∷ bs) (all_some test (drop (i + 1) all))) o)) none

-- one more in front of what follows
more_some : {B : Type 0} (xs : List B) (b : B) (o : Option (List B)) → after_some xs (option_map (λ bs. b ∷ bs) o) ≡ after_some (xs ++ b ∷ []) o
more_some xs b None = refl
more_some {B} xs b (Some ys) = ap (λ (zs : List B). Some zs) (sym (append_assoc xs (b ∷ []) ys))

-- one item more
pub some_more : {A B : Type 0} (test : A → Option B) (all : List A) (i : ℕ) (xs : List B) (d : A) (b : B) → IsSomeTo test all i xs → i < length all → test (get_or all i d) ≡ Some b → IsSomeTo test all (i + 1) (xs ++ b ∷ [])
some_more {A} {B} test all i xs d b is lt some = record {
  so_far =
      sym (more_some xs b (all_some test (drop (i + 1) all)))
      ∙ sym (ap (λ (o : Option B). after_some xs (option_and_then (λ c. option_map (λ bs. c ∷ bs) (all_some test (drop (i + 1) all))) o)) some)
      ∙ sym (ap (λ (t : List A). after_some xs (all_some test t)) (drop_more all i d lt))
      ∙ is.so_far;
}

-- all items
pub some_all : {A B : Type 0} (test : A → Option B) (all : List A) (i : ℕ) (xs : List B) → IsSomeTo test all i xs → length all ≤ i → Some xs ≡ all_some test all
some_all {A} {B} test all i xs is le =
    sym (ap (λ (ys : List B). Some ys) (append-nil xs)) ∙ sym (ap (λ (t : List A). after_some xs (all_some test t)) (drop_all i all le)) ∙ is.so_far

-- what a test lets through
then_some-parts : {A : Type 0} (test : Bool) (x v : A) → then_some test x ≡ Some v → (test ≡ true) × (x ≡ v)
then_some-parts true x v e = (refl, cc)
then_some-parts false x v e = absurd (cc)

-- what an item passes as is in its range
number_in-range : (low high : ℕ) (z : ℤ) (n : ℕ) → number_in low high z ≡ Some n → is_number low high n ≡ true
number_in-range low high (pos m) n e =
    let parts = then_some-parts (is_number low high m) m n e in
    ap (is_number low high) (sym parts.1) ∙ parts.0
number_in-range low high (negsuc m) n e = absurd (false≢true (ap is_some e))

-- a number of information is in its range
info_number-range : (o : Option ℤ) (n : ℕ) → option_and_then (number_in 1 1000) o ≡ Some n → is_number 1 1000 n ≡ true
info_number-range None n e = absurd (false≢true (ap is_some e))
info_number-range (Some z) n e = number_in-range 1 1000 z n e

-- by what the first item and the others pass as
info_range_first : (o : Option ℕ) (os : Option (List ℕ)) (ns : List ℕ) (count : ℕ) → ((n : ℕ) → o ≡ Some n → is_number 1 1000 n ≡ true) → ((ms : List ℕ) → os ≡ Some ms → (length ms ≡ count) × (list_all (is_number 1 1000) ms ≡ true)) → option_and_then (λ b. option_map (λ bs. b ∷ bs) os) o ≡ Some ns → (length ns ≡ suc count) × (list_all (is_number 1 1000) ns ≡ true)
info_range_first None os ns count first rest e = absurd (false≢true (ap is_some e))
info_range_first (Some n) None ns count first rest e = absurd (false≢true (ap is_some e))
info_range_first (Some n) (Some ms) ns count first rest e =
    let same : n ∷ ms ≡ ns = cc in
    let others = rest ms refl in
    (ap length (sym same) ∙ ap suc others.0, ap (list_all (is_number 1 1000)) (sym same) ∙ and_from _ _ (first n refl) others.1)

-- as many as there are items, each in its range
info_range : (all : List Data) (ns : List ℕ) → all_some info_number all ≡ Some ns → (length ns ≡ length all) × (list_all (is_number 1 1000) ns ≡ true)
info_range [] ns e =
    let same : [] ≡ ns = cc in
    (ap length (sym same), ap (list_all (is_number 1 1000)) (sym same))
info_range (d ∷ ds) ns e = info_range_first (info_number d) (all_some info_number ds) ns (length ds) (λ n. info_number-range (as_integer d) n) (λ ms. info_range ds ms) e

-- at most 32 different numbers of information
pub info_in_range : (all : List Data) (ns : List ℕ) → Some ns ≡ all_some info_number all → length all ≤ 32 → are_distinct ◌==◌ ns ≡ true → are_numbers ns ≡ true
info_in_range all ns e few apart =
    let parts = info_range all ns (sym e) in
    let count : nat_le (length ns) 32 ≡ true = grind (arith, nat_tests, parts.0) in
    and_from _ _ (and_from _ _ count parts.1) apart

-- an item, read as a number of information
abbrev read_one : List ℕ → Data → Result ℕ SetupFault
read_one earlier d = read_number 0 Info 1 1000 (Some d)

-- the numbers of items, read one after the other
abbrev each_number : List Data → Result (List ℕ) SetupFault
each_number ds = demand_at 0 Info rules.Range (passed (λ all. nat_le (length all) 32) ds) >>= read_behind read_one []

abbrev different : List ℕ → Result (List ℕ) SetupFault
different info = demand_at 0 Info rules.Twice (passed (are_distinct ◌==◌) info)

-- the numbers of a list of data
abbrev pub info_of : List Data → Result (List ℕ) SetupFault
info_of ds = demand_at 0 Info rules.Kind (passed (list_all (λ d. is_some (as_integer d))) ds) >>= (λ integers. each_number ds >>= different)

-- a first item that is whole, and those after it
one_number : (before : List ℕ) (z : ℤ) (n : Option ℕ) (ds : List Data) → number_in 1 1000 z ≡ n → ((m : ℕ) → read_behind read_one (before ++ m ∷ []) ds ≡ demand_at 0 Info rules.Range (after_some (before ++ m ∷ []) (all_some info_number ds))) → (demand_at 0 Info rules.Range n >>= (λ m. read_behind read_one (before ++ m ∷ []) ds)) ≡ demand_at 0 Info rules.Range (after_some before (option_and_then (λ b. option_map (λ bs. b ∷ bs) (all_some info_number ds)) n))
one_number before z None ds is rest = refl
one_number before z (Some m) ds is rest =
    rest m ∙ ap (λ (o : Option (List ℕ)). demand_at 0 Info rules.Range o) (sym (more_some before m (all_some info_number ds)))

first_number : (before : List ℕ) (o : Option ℤ) (ds : List Data) → is_some o ≡ true → ((m : ℕ) → read_behind read_one (before ++ m ∷ []) ds ≡ demand_at 0 Info rules.Range (after_some (before ++ m ∷ []) (all_some info_number ds))) → ((demand_at 0 Info rules.Kind o >>= (λ z. demand_at 0 Info rules.Range (number_in 1 1000 z))) >>= (λ m. read_behind read_one (before ++ m ∷ []) ds)) ≡ demand_at 0 Info rules.Range (after_some before (option_and_then (λ b. option_map (λ bs. b ∷ bs) (all_some info_number ds)) (option_and_then (number_in 1 1000) o)))
first_number before None ds there rest = absurd (false≢true there)
first_number before (Some z) ds there rest = one_number before z (number_in 1 1000 z) ds refl rest

-- whole numbers, read one after the other, are those that pass
numbers_are : (before : List ℕ) (ds : List Data) → list_all (λ d. is_some (as_integer d)) ds ≡ true → read_behind read_one before ds ≡ demand_at 0 Info rules.Range (after_some before (all_some info_number ds))
numbers_are before [] whole = ap (λ (xs : List ℕ). Ok xs) (sym (append-nil before))
numbers_are before (d ∷ ds) whole =
    let parts = and_parts (is_some (as_integer d)) (list_all (λ x. is_some (as_integer x)) ds) whole in
    first_number before (as_integer d) ds parts.0 (λ m. numbers_are (before ++ m ∷ []) ds parts.1)

-- by whether all items are whole numbers, and are few
info_by : (ds : List Data) (whole few : Bool) → list_all (λ d. is_some (as_integer d)) ds ≡ whole → nat_le (length ds) 32 ≡ few → info_of ds ≡ info_items ds
info_by ds false few is count = rw is refl
info_by ds true false is count = rw (is, count) refl
info_by ds true true is count =
    rw (is, count) (ap (λ (r : Result (List ℕ) SetupFault). r >>= different) (numbers_are [] ds is ∙ ap (λ (o : Option (List ℕ)). demand_at 0 Info rules.Range o) (after_some-none (all_some info_number ds))))

pub info_is : (ds : List Data) → info_of ds ≡ info_items ds
info_is ds = info_by ds _ _ refl refl

-- the numbers of an array
abbrev info_from : Option Items → Result (List ℕ) SetupFault
info_from o = demand_at 0 Info rules.Kind o >>= (λ items. demand_at 0 Info rules.Kind (passed (list_all (λ d. is_some (as_integer d))) (data_of items)) >>= (λ integers. (demand_at 0 Info rules.Kind o >>= (λ all. demand_at 0 Info rules.Range (passed (λ ds. nat_le (length ds) 32) (data_of all)) >>= read_behind read_one [])) >>= different))

-- the numbers of an array that is kept
pub info_of-view : (value : Data) (vs : List Value) → Some (items_view vs) ≡ as_array value → read_info (Some value) ≡ info_items (map view vs)
info_of-view value vs e = ap info_from (sym e) ∙ ap info_of (data_of-view vs) ∙ info_is (map view vs)

-- an item that fails
pub fails_at : {A : Type 0} (p : A → Bool) (all : List A) (i : ℕ) (d : A) (r : Bool) → i < length all → p (get_or all i d) ≡ false → list_all p (drop i all) ≡ r → false ≡ r
fails_at {A} p all i d r lt fails known =
    let cut : list_all p (drop i all) ≡ false = ap (list_all p) (drop_more all i d lt) ∙ rw fails refl in
    sym cut ∙ known

-- an item that passes
pub passes_at : {A : Type 0} (p : A → Bool) (all : List A) (i : ℕ) (d : A) (r : Bool) → i < length all → p (get_or all i d) ≡ true → list_all p (drop i all) ≡ r → list_all p (drop (i + 1) all) ≡ r
passes_at {A} p all i d r lt passes known =
    let cut : list_all p (drop i all) ≡ list_all p (drop (i + 1) all) = ap (list_all p) (drop_more all i d lt) ∙ rw passes refl in
    sym cut ∙ known
