-- Keys and strings of tables.
use Rattle.std.proofs.Common.{◌≡◌, ℕ, Bool, true, false, not, List, [], ◌∷◌, map, refl, sym, ap, ◌∙◌, arith, Option, Some, Result, Ok, Err, String, Global, string_bytes}
use Rattle.std.specs.Bool.{then_some}
use Rattle.std.specs.List.{list_all, list_any}
use Rattle.std.specs.Str.{bytes_eq}
use Rattle.std.specs.Map.{keys_of as entry_keys}
use Rattle.toml.specs.Data.{Data, Items, as_array, as_str}
use Rattle.std.specs.Prelude.{nat_le, length, ◌≤◌, ◌<◌, ◌==◌}
use Rattle.std.proofs.lemmas.Bool.Decides.{nat_tests}
use Rattle.std.proofs.lemmas.List.{length-map}
use Rattle.request_catalogue.specs.Results.{◌>>=◌}
use Rattle.toml.specs.View.{view, items_view, members_view}
use Rattle.toml.specs.declared.value.Value.{Value}
use Rattle.account_file.specs.declared.fault.SetupRule.TheVariants as rules
use Rattle.account_file.specs.declared.fault.Spot.{Spot}
use Rattle.account_file.specs.declared.fault.SetupFault.{SetupFault}
use Rattle.account_file.specs.Accounts.{untaken}
use Rattle.account_file.specs.Faults.{demand_at}
use Rattle.account_file.specs.Keys.{passed, read_as, read_number, read_spelled}
use Rattle.account_file.specs.Levels.{keys_at}
use Rattle.account_file.specs.Spots.{read_items, spot_fault}
use Rattle.account_file.specs.Trees.{are_known, data_of}
use Rattle.account_file.specs.declared.known.Level.{Level}

-- some value of other values
pub list_any-map : {X Y : Type 0} (p : X → Bool) (f : Y → X) (ys : List Y) → list_any p (map f ys) ≡ list_any (λ y. p (f y)) ys
list_any-map p f [] = refl
list_any-map p f (y ∷ ys) = rw (list_any-map p f ys) refl

-- a key of a map has a meaning
abbrev pub is_known_at : Level → String Global → Bool
is_known_at level k = list_any (bytes_eq (string_bytes k)) (keys_at level)

-- the keys of a map's entries
pub keys_known : (known : List (List ℕ)) (es : List (String Global × Value)) → are_known known (members_view es) ≡ list_all (λ k. list_any (bytes_eq (string_bytes k)) known) (entry_keys es)
keys_known known [] = refl
keys_known known (e ∷ es) = rw (keys_known known es) refl

-- a string that passes a test, beside others that may have it
pub new_string_read : {E G : Type 0} (spot : Spot) (test : List ℕ → Bool) (f : E → List ℕ) (entry : G → E) (others : List G) (value : Option Data) (text bytes name : List ℕ) (taken : Bool) → read_as spot.account spot.key as_str value ≡ Ok text → bytes ≡ text → name ≡ bytes → true ≡ test bytes → taken ≡ list_any (λ g. bytes_eq (f (entry g)) name) others → untaken spot.account spot.key (λ n. list_any (λ e. bytes_eq (f e) n) (map entry others)) (read_spelled spot.account spot.key (passed test) value) ≡ demand_at spot.account spot.key rules.Twice (then_some (not taken) name)
new_string_read {E} spot test f entry others value text bytes name taken read cut same legal among =
    let passes : test name ≡ true = ap test same ∙ sym legal in
    let any : list_any (λ (e : E). bytes_eq (f e) name) (map entry others) ≡ taken = list_any-map (λ (e : E). bytes_eq (f e) name) entry others ∙ sym among in
    ap (λ (r : Result (List ℕ) SetupFault). untaken spot.account spot.key (λ n. list_any (λ (e : E). bytes_eq (f e) n) (map entry others)) (r >>= (λ b. demand_at spot.account spot.key rules.Text (passed test b)))) (read ∙ ap (λ (b : List ℕ). Ok b) (sym (same ∙ cut)))
    ∙ rw (passes, any) refl

-- the items of an array that is kept, as a list
pub data_of-view : (vs : List Value) → data_of (items_view vs) ≡ map view vs
data_of-view [] = refl
data_of-view (v ∷ vs) = ap (λ (ds : List Data). view v ∷ ds) (data_of-view vs)

-- the items of an array, by how many they are
items_by : (spot : Spot) (most : ℕ) (d : Data) (vs : List Value) → Some (items_view vs) ≡ as_array d → read_items spot most d ≡ demand_at spot.account spot.key rules.Range (then_some (nat_le (length vs) most) (map view vs))
items_by spot most d vs e =
    ap (λ (o : Option Items). demand_at spot.account spot.key rules.Kind o >>= (λ items. demand_at spot.account spot.key rules.Range (then_some (nat_le (length (data_of items)) most) (data_of items)))) (sym e)
    ∙ ap (λ (ds : List Data). demand_at spot.account spot.key rules.Range (then_some (nat_le (length ds) most) ds)) (data_of-view vs)
    ∙ ap (λ (n : ℕ). demand_at spot.account spot.key rules.Range (then_some (nat_le n most) (map view vs))) (length-map vs view)

-- the items of an array of so many
pub items_few : (spot : Spot) (most : ℕ) (d : Data) (vs : List Value) → Some (items_view vs) ≡ as_array d → length vs ≤ most → read_items spot most d ≡ Ok (map view vs)
items_few spot most d vs e few =
    let test : nat_le (length vs) most ≡ true = grind (arith, nat_tests) in
    items_by spot most d vs e ∙ rw test refl

-- the items of an array of more
pub items_many : (spot : Spot) (most : ℕ) (d : Data) (vs : List Value) → Some (items_view vs) ≡ as_array d → most < length vs → read_items spot most d ≡ Err (spot_fault spot rules.Range)
items_many spot most d vs e many =
    let test : nat_le (length vs) most ≡ false = grind (arith, nat_tests) in
    items_by spot most d vs e ∙ rw test refl

-- a user number, beside others that may have it
pub uid_read : {E G : Type 0} (spot : Spot) (f : E → ℕ) (entry : G → E) (others : List G) (value : Option Data) (uid : ℕ) (taken : Bool) → read_number spot.account spot.key 1 4294967294 value ≡ Ok uid → taken ≡ list_any (λ g. f (entry g) == uid) others → untaken spot.account spot.key (λ n. list_any (λ e. f e == n) (map entry others)) (read_number spot.account spot.key 1 4294967294 value) ≡ demand_at spot.account spot.key rules.Twice (then_some (not taken) uid)
uid_read {E} spot f entry others value uid taken read among =
    let any : list_any (λ (e : E). f e == uid) (map entry others) ≡ taken = list_any-map (λ (e : E). f e == uid) entry others ∙ sym among in
    ap (untaken spot.account spot.key (λ n. list_any (λ (e : E). f e == n) (map entry others))) read
    ∙ ap (λ (t : Bool). demand_at spot.account spot.key rules.Twice (then_some (not t) uid)) any
