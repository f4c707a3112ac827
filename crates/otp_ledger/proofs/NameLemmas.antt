-- What a search by name finds, and what a name more makes of the array.
use Rattle.std.proofs.Common.{◌≡◌, ℕ, zero, suc, ◌+◌, ◌-◌, ◌<◌, ◌≤◌, Bool, true, false, not, cond, List, ◌∷◌, [], ◌++◌, length, get_or, take, drop, Option, Some, None, Result, Ok, Err, IfOk, IfErr, eqb, nat_lt, refl, sym, ap, subst, ◌∙◌, arith, inl, inr, ◌⊎◌}
use Rattle.std.specs.Prelude.{option_map, position}
use Rattle.std.specs.Option.{option_or}
use Rattle.std.specs.List.{find, insert, position_or_len}
use Rattle.std.specs.List.Sorted.{IsBinarySearchResult, IsNonDecreasingBy, IsSearchInRange}
use Rattle.std.specs.Ordering.{is_eq, is_lt, ordering_index, ordering_reverse}
use Rattle.std.specs.Cmp.{IsTotalOrder}
use Rattle.std.specs.declared.cmp.Ordering.TheVariants.{Less, Equal, Greater}
use Rattle.std.proofs.lemmas.Bool.{cases_lt}
use Rattle.std.proofs.lemmas.Bool.Decides.{nat_tests}
use Rattle.std.proofs.lemmas.Cmp.{lists_total, nat_cmp_total, on_total}
use Rattle.std.proofs.lemmas.List.Edits.{get_or-insert_above, get_or-insert_at, get_or-insert_below, length-insert}
use Rattle.std.proofs.lemmas.List.Folds.{find-append, position_or_len_push}
use Rattle.std.proofs.lemmas.List.Sorted.{searchable_from_sorted}
use Rattle.std.proofs.lemmas.Map.Text.{is_eq-slice_cmp}
use Rattle.std.proofs.lemmas.Slice.Eq.{bytes_eq-Decides}
use Rattle.std.proofs.lemmas.List.{length-append, length-take, take-append-drop, take_more}
use Rattle.request_catalogue.proofs.TextLemmas.{same_from_name_bytes}
use Rattle.policy_model.specs.declared.account.Account.{Account}
use Rattle.request_catalogue.specs.declared.texts.Name.{Name}
use Rattle.request_catalogue.specs.TextBytes.{name_bytes}
use Rattle.policy_model.specs.Settings.{same_name}
use Rattle.otp_ledger.specs.declared.names.Named.{Named}
use Rattle.otp_ledger.specs.Names.{AreNamed, IsNameGap, IsNamedHere, name_cmp, number_named, number_with}

name_total : IsTotalOrder name_cmp
name_total = on_total name_bytes (lists_total nat_cmp_total)

searchable : (names : List Named) (user : Name) → AreNamed names → IsNonDecreasingBy (λ e. ordering_index (name_cmp e.name user)) names
searchable names user r = searchable_from_sorted name_total (λ (e : Named). e.name) names user (λ k d low lt. ap is_lt (name_total.antisymm (get_or names (k + 1) d).name (get_or names k d).name ∙ ap ordering_reverse (r.rises k (k + 1) d (omega arith) lt)))

same_is : (a b : Name) → is_eq (name_cmp a b) ≡ same_name a b
same_is a b = is_eq-slice_cmp (name_bytes a) (name_bytes b)

turned : (a b : Name) → name_cmp a b ≡ Less → name_cmp b a ≡ Greater
turned a b h = name_total.antisymm b a ∙ ap ordering_reverse h

turned_back : (a b : Name) → name_cmp a b ≡ Greater → name_cmp b a ≡ Less
turned_back a b h = name_total.antisymm b a ∙ ap ordering_reverse h

-- what a search answers
pub found_here : (names : List Named) (user : Name) (r : Result ℕ ℕ) → IsSearchInRange r (length names) → IsBinarySearchResult (λ e. name_cmp e.name user) names r → IfOk r (IsNamedHere names user)
found_here names user (Ok i) bound position = record { in_range = bound; same = λ d. position d }
found_here names user (Err i) bound position = tt

pub found_gap : (names : List Named) (user : Name) (r : Result ℕ ℕ) → AreNamed names → IsSearchInRange r (length names) → IsBinarySearchResult (λ e. name_cmp e.name user) names r → IfErr r (IsNameGap names user)
found_gap names user (Ok i) rising bound position = tt
found_gap names user (Err i) rising bound position =
    let parts = position (searchable names user rising) in
    record { in_range = bound; below = λ k d lt. parts.0 k d (omega arith) lt; above = λ k d le lt. parts.1 k d le lt }

find_at : {X : Type 0} (p : X → Bool) (xs : List X) (i : ℕ) (d : X) → i < length xs → p (get_or xs i d) ≡ true → ((k : ℕ) → k < i → p (get_or xs k d) ≡ false) → find p xs ≡ Some (get_or xs i d)
find_at p [] i d lt here none = absurd (omega arith)
find_at p (x ∷ xs) zero d lt here none = ap (λ b. cond b (Some x) (find p xs)) here
find_at p (x ∷ xs) (suc i) d lt here none = ap (λ b. cond b (Some x) (find p xs)) (none 0 (omega arith)) ∙ find_at p xs i d (omega arith) here (λ k lt. none (suc k) (omega arith))

find_no : {X : Type 0} (p : X → Bool) (xs : List X) (d : X) → ((k : ℕ) → k < length xs → p (get_or xs k d) ≡ false) → find p xs ≡ None
find_no p [] d none = refl
find_no p (x ∷ xs) d none = ap (λ b. cond b (Some x) (find p xs)) (none 0 (omega arith)) ∙ find_no p xs d (λ k lt. none (suc k) (omega arith))

-- those before a name that is there are other names
below_other : (a b user : Name) → name_cmp a b ≡ Less → name_cmp b user ≡ Equal → same_name a user ≡ false
below_other a b user less same =
    let above : name_cmp user a ≡ Greater = sym (name_total.congr b user a same) ∙ turned a b less in
    sym (same_is a user) ∙ ap is_eq (turned_back user a above)

-- the number of a name that is there
pub number_here : (names : List Named) (user : Name) (i : ℕ) (d : Named) → AreNamed names → IsNamedHere names user i → number_named names user ≡ Some (get_or names i d).account
number_here names user i d r here =
    ap (option_map (λ (e : Named). e.account)) (find_at (λ e. same_name e.name user) names i d here.in_range (sym (same_is (get_or names i d).name user) ∙ ap is_eq (here.same d)) (λ k low. below_other (get_or names k d).name (get_or names i d).name user (r.rises k i d low here.in_range) (here.same d)))

-- where a name's gap is, it isn't
none_in_gap : (names : List Named) (user : Name) (i : ℕ) (d : Named) → IsNameGap names user i → find (λ e. same_name e.name user) names ≡ None
none_in_gap names user i d gap = find_no (λ e. same_name e.name user) names d (λ k lt. go k lt (cases_lt k i)) where
  go : (k : ℕ) → k < length names → (k < i) ⊎ (i ≤ k) → same_name (get_or names k d).name user ≡ false
  go k lt (inl low) = sym (same_is (get_or names k d).name user) ∙ ap is_eq (gap.below k d low)
  go k lt (inr high) = sym (same_is (get_or names k d).name user) ∙ ap is_eq (gap.above k d high lt)

any_named : Name → Named
any_named user = record { name = user; account = 0 }

pub number_in_gap : (names : List Named) (user : Name) (i : ℕ) → IsNameGap names user i → number_named names user ≡ None
number_in_gap names user i gap = ap (option_map (λ (e : Named). e.account)) (none_in_gap names user i (any_named user) gap)

-- the names still rise with one in its gap
pub names_rise : (names : List Named) (named : Named) (i : ℕ) → AreNamed names → IsNameGap names named.name i → AreNamed (insert names i named)
names_rise names named i r gap = record { rises = λ a b d lt bound. go a b d lt (omega (arith, bound, length-insert names i named gap.in_range)) (cases_lt b i) (cases_lt a i) } where
  low : (a : ℕ) (d : Named) → a < i → get_or (insert names i named) a d ≡ get_or names a d
  low a d lt = get_or-insert_below names i named d a lt gap.in_range

  at : (a : ℕ) (d : Named) → a ≡ i → get_or (insert names i named) a d ≡ named
  at a d here = ap (λ n. get_or (insert names i named) n d) here ∙ get_or-insert_at names i named d gap.in_range

  high : (a c : ℕ) (d : Named) → a ≡ c + 1 → i ≤ c → get_or (insert names i named) a d ≡ get_or names c d
  high a c d is le = ap (λ n. get_or (insert names i named) n d) is ∙ get_or-insert_above names i named d c le gap.in_range

  joined : (x y u v : Named) → x ≡ u → y ≡ v → name_cmp u.name v.name ≡ Less → name_cmp x.name y.name ≡ Less
  joined x y u v p q h = subst (λ z. name_cmp z.name y.name ≡ Less) (sym p) (subst (λ z. name_cmp u.name z.name ≡ Less) (sym q) h)

  same : (a : ℕ) → i ≤ a → (a ≡ i) ⊎ (i ≤ a - 1)
  same a le = elim (cases_lt i a) [ inl lt ↦ inr (omega arith) | inr ge ↦ inl (omega arith) ]

  above : (a b : ℕ) (d : Named) → a < b → b < length names + 1 → i ≤ b - 1 → i < b → (a < i) ⊎ (i ≤ a) → name_cmp (get_or (insert names i named) a d).name (get_or (insert names i named) b d).name ≡ Less
  above a b d lt bound le up (inl under) = joined _ _ (get_or names a d) (get_or names (b - 1) d) (low a d under) (high b (b - 1) d (omega arith) le) (r.rises a (b - 1) d (omega arith) (omega arith))
  above a b d lt bound le up (inr over) = elim (same a over) [
    | inl here ↦ joined _ _ named (get_or names (b - 1) d) (at a d here) (high b (b - 1) d (omega arith) le) (turned_back (get_or names (b - 1) d).name named.name (gap.above (b - 1) d le (omega arith)))
    | inr more ↦ elim (cases_lt i a) [
      | inl past ↦ joined _ _ (get_or names (a - 1) d) (get_or names (b - 1) d) (high a (a - 1) d (omega arith) more) (high b (b - 1) d (omega arith) le) (r.rises (a - 1) (b - 1) d (omega arith) (omega arith))
      | inr ge ↦ joined _ _ named (get_or names (b - 1) d) (at a d (omega arith)) (high b (b - 1) d (omega arith) le) (turned_back (get_or names (b - 1) d).name named.name (gap.above (b - 1) d le (omega arith)))
    ]
  ]

  go : (a b : ℕ) (d : Named) → a < b → b < length names + 1 → (b < i) ⊎ (i ≤ b) → (a < i) ⊎ (i ≤ a) → name_cmp (get_or (insert names i named) a d).name (get_or (insert names i named) b d).name ≡ Less
  go a b d lt bound (inl under) side = joined _ _ (get_or names a d) (get_or names b d) (low a d (omega arith)) (low b d under) (r.rises a b d lt (omega (arith, gap.in_range)))
  go a b d lt bound (inr over) side = elim (cases_lt i b) [
    | inl past ↦ above a b d lt bound (omega arith) past side
    | inr ge ↦ joined _ _ (get_or names a d) named (low a d (omega arith)) (at b d (omega arith)) (gap.below a d (omega arith))
  ]

some_no : (x : Named) → Some x ≡ None → ⊥
some_no x h = cc

no_number : (n : ℕ) → None ≡ Some n → ⊥
no_number n h = cc

-- a name in its gap is found, and the others as before
find_insert : (p : Named → Bool) (names : List Named) (named : Named) (i : ℕ) → (p named ≡ true → find p names ≡ None) → find p (insert names i named) ≡ cond (p named) (Some named) (find p names)
find_insert p names named i alone =
    find-append p (take i names) (named ∷ drop i names)
    ∙ go (p named) (find p (take i names)) (find p (drop i names)) (λ is. split ∙ alone is)
    ∙ ap (λ o. cond (p named) (Some named) o) split where
      split : option_or (find p (take i names)) (find p (drop i names)) ≡ find p names
      split = sym (find-append p (take i names) (drop i names)) ∙ ap (find p) (take-append-drop i names)

      go : (b : Bool) (front back : Option Named) → (b ≡ true → option_or front back ≡ None) → option_or front (cond b (Some named) back) ≡ cond b (Some named) (option_or front back)
      go false front back alone = refl
      go true None back alone = refl
      go true (Some x) back alone = absurd (some_no x (alone refl))

-- the number of a name, where one more is named after the others or not
abbrev with_one : Option ℕ → ℕ → Bool → Option ℕ
with_one (Some n) account named = Some n
with_one None account named = cond named (Some account) None

with_one_is : (o : Option ℕ) (named : Named) (user : Name) → with_one o named.account (same_name named.name user) ≡ number_with o named user
with_one_is (Some n) named user = refl
with_one_is None named user = refl

pub number_insert : (names : List Named) (named : Named) (i : ℕ) (user : Name) → IsNameGap names named.name i → number_named (insert names i named) user ≡ number_with (number_named names user) named user
number_insert names named i user gap =
    ap (option_map (λ (e : Named). e.account)) (find_insert (λ e. same_name e.name user) names named i other)
    ∙ go (same_name named.name user) (find (λ e. same_name e.name user) names) other
    ∙ with_one_is (number_named names user) named user where
      other : same_name named.name user ≡ true → find (λ e. same_name e.name user) names ≡ None
      other is = let same : named.name ≡ user = same_from_name_bytes named.name user ((bytes_eq-Decides (name_bytes named.name) (name_bytes user)).0 is) in none_in_gap names user i (any_named user) (subst (λ u. IsNameGap names u i) same gap)

      go : (b : Bool) (o : Option Named) → (b ≡ true → o ≡ None) → option_map (λ (e : Named). e.account) (cond b (Some named) o) ≡ with_one (option_map (λ (e : Named). e.account) o) named.account b
      go true None alone = refl
      go false None alone = refl
      go false (Some x) alone = refl
      go true (Some x) alone = absurd (some_no x (alone refl))

-- a name that is there before keeps its number
pub number_stays : (names : List Named) (named : Named) (i : ℕ) (user : Name) → AreNamed names → IsNamedHere names named.name i → number_named names user ≡ number_with (number_named names user) named user
number_stays names named i user r here = go (number_named names user) (same_name named.name user) there ∙ with_one_is (number_named names user) named user where
  there : same_name named.name user ≡ true → number_named names user ≡ Some (get_or names i named).account
  there is = let same : named.name ≡ user = same_from_name_bytes named.name user ((bytes_eq-Decides (name_bytes named.name) (name_bytes user)).0 is) in number_here names user i named r (subst (λ u. IsNamedHere names u i) same here)

  go : (o : Option ℕ) (b : Bool) → (b ≡ true → o ≡ Some (get_or names i named).account) → o ≡ with_one o named.account b
  go (Some n) b h = refl
  go None false h = refl
  go None true h = absurd (no_number (get_or names i named).account (h refl))

position_or_len-le : {X : Type 0} (p : X → Bool) (xs : List X) → position_or_len p xs ≤ length xs
position_or_len-le p [] = omega arith
position_or_len-le p (x ∷ xs) = go (p x) (position_or_len-le p xs) where
  go : (b : Bool) → position_or_len p xs ≤ length xs → cond (not b) (1 + position_or_len p xs) 0 ≤ suc (length xs)
  go true h = omega arith
  go false h = omega arith

-- the first place of a list to which one was appended
place_push : {X : Type 0} (p : X → Bool) (xs : List X) (x : X) → position p (xs ++ x ∷ []) ≡ with_one (position p xs) (length xs) (p x)
place_push p xs x = at_length (length-append xs (x ∷ [])) ∙ ap (λ k. cond (nat_lt k (length xs + 1)) (Some k) None) (position_or_len_push p xs x) ∙ go (position_or_len p xs) (length xs) (p x) (position_or_len-le p xs) where
  at_length : length (xs ++ x ∷ []) ≡ length xs + 1 → position p (xs ++ x ∷ []) ≡ cond (nat_lt (position_or_len p (xs ++ x ∷ [])) (length xs + 1)) (Some (position_or_len p (xs ++ x ∷ []))) None
  at_length h = ap (λ n. cond (nat_lt (position_or_len p (xs ++ x ∷ [])) n) (Some (position_or_len p (xs ++ x ∷ []))) None) h

  go : (k n : ℕ) (b : Bool) → k ≤ n → cond (nat_lt (cond (eqb k n) (n + cond b 0 1) k) (n + 1)) (Some (cond (eqb k n) (n + cond b 0 1) k)) None ≡ with_one (cond (nat_lt k n) (Some k) None) n b
  go k n b le = by (cases_lt k n) where
    last : (b : Bool) → cond (nat_lt (n + cond b 0 1) (n + 1)) (Some (n + cond b 0 1)) None ≡ cond b (Some n) None
    last true = let test : nat_lt (n + 0) (n + 1) ≡ true = grind (arith, nat_tests) in let all : n + 0 ≡ n = omega arith in rw test (ap (λ (m : ℕ). Some m) all)
    last false = let test : nat_lt (n + 1) (n + 1) ≡ false = grind (arith, nat_tests) in rw test refl

    by : (k < n) ⊎ (n ≤ k) → cond (nat_lt (cond (eqb k n) (n + cond b 0 1) k) (n + 1)) (Some (cond (eqb k n) (n + cond b 0 1) k)) None ≡ with_one (cond (nat_lt k n) (Some k) None) n b
    by (inl lt) =
        let below : nat_lt k n ≡ true = grind (arith, nat_tests, lt) in
        let other : eqb k n ≡ false = grind (arith, nat_tests, lt) in
        let more : nat_lt k (n + 1) ≡ true = grind (arith, nat_tests, lt) in
        rw (other, below, more) refl
    by (inr ge) =
        let here : k ≡ n = omega arith in
        let below : nat_lt k n ≡ false = grind (arith, nat_tests, ge) in
        let same : eqb k n ≡ true = grind (arith, nat_tests, here) in
        rw (same, below) (last b)

-- the names of one account more
pub names_more : (accounts : List Account) (i : ℕ) (account : Account) (named : Named) (o : Option ℕ) (user : Name) → i < length accounts → account ≡ get_or accounts i account → named.name ≡ account.name → named.account ≡ i → o ≡ position (λ (a : Account). same_name a.name user) (take i accounts) → number_with o named user ≡ position (λ (a : Account). same_name a.name user) (take (i + 1) accounts)
names_more accounts i account named o user lt here name number so_far =
    let front : length (take i accounts) ≡ i = length-take i accounts ∙ omega arith in
    sym (with_one_is o named user)
    ∙ ap (λ x. with_one x named.account (same_name named.name user)) so_far
    ∙ ap (λ n. with_one (position (λ (a : Account). same_name a.name user) (take i accounts)) n (same_name named.name user)) (number ∙ sym front)
    ∙ ap (λ n. with_one (position (λ (a : Account). same_name a.name user) (take i accounts)) (length (take i accounts)) (same_name n user)) name
    ∙ sym (place_push (λ (a : Account). same_name a.name user) (take i accounts) account)
    ∙ ap (position (λ (a : Account). same_name a.name user)) (ap (λ x. take i accounts ++ x ∷ []) here ∙ sym (take_more accounts i account lt))
