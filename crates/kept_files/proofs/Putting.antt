-- A file is put to those that are kept.
use Rattle.std.proofs.Common.{◌≡◌, ◌≢◌, inr, ◌||◌, ℕ, Bool, true, false, IfSome, List, [], ◌∷◌, ◌++◌, Option, Some, None, refl, sym, ap, ◌∙◌}
use Rattle.std.specs.Prelude.{is_some, option_map, take}
use Rattle.std.specs.List.{find}
use Rattle.std.specs.Option.{option_or}
use Rattle.std.specs.Str.{bytes_eq}
use Rattle.std.proofs.lemmas.Bool.{false_from_ne_true}
use Rattle.std.proofs.lemmas.List.Folds.{find-append, list_any-append}
use Rattle.std.proofs.lemmas.Slice.Eq.{bytes_eq-Decides}
use Rattle.outside.specs.Files.{Contents, file_of}
use Rattle.outside.specs.Touched.{has_name}
use Rattle.kept_files.specs.Kept.{IsFrontOf, Kept, KeepsFile, PutsFile, is_kept, kept_files}

own_name : (name : List ℕ) → bytes_eq name name ≡ true
own_name name = (bytes_eq-Decides name name).1 refl

other_name : (name other : List ℕ) → other ≢ name → bytes_eq name other ≡ false
other_name name other ne = false_from_ne_true (bytes_eq name other) (λ t. ne (sym ((bytes_eq-Decides name other).0 t)))

neither_left : (a b : Bool) → (a || b) ≡ false → a ≡ false
neither_left true b e = absurd cc
neither_left false b e = refl

no_file : (o : Option (List ℕ × List ℕ)) → is_some (option_map (λ (p : List ℕ × List ℕ). p.1) o) ≡ false → o ≡ None
no_file None e = refl
no_file (Some p) e = absurd cc

or_none : {Y : Type 0} (o : Option Y) → option_or o None ≡ o
or_none None = refl
or_none (Some y) = refl

-- the file of a name after one more was added
added : (pairs : List (List ℕ × List ℕ)) (name bytes : List ℕ) → is_some (file_of pairs name) ≡ false → file_of (pairs ++ (name, bytes) ∷ []) name ≡ Some bytes
added pairs name bytes none =
    let passes = λ (p : List ℕ × List ℕ). bytes_eq p.0 name in
    let found : find passes (pairs ++ (name, bytes) ∷ []) ≡ Some (name, bytes) =
    rw (find-append passes pairs ((name, bytes) ∷ []), no_file (find passes pairs) none, own_name name) refl in
    ap (option_map (λ p. p.1)) found

-- the files of other names
unadded : (pairs : List (List ℕ × List ℕ)) (name bytes other : List ℕ) → other ≢ name → file_of (pairs ++ (name, bytes) ∷ []) other ≡ file_of pairs other
unadded pairs name bytes other ne =
    let passes = λ (p : List ℕ × List ℕ). bytes_eq p.0 other in
    let same : find passes (pairs ++ (name, bytes) ∷ []) ≡ find passes pairs =
    rw (find-append passes pairs ((name, bytes) ∷ []), other_name name other ne) (or_none (find passes pairs)) in
    ap (option_map (λ p. p.1)) same

-- whether other names are missing
unmissed : (names : List (List ℕ)) (name other : List ℕ) → other ≢ name → has_name other (names ++ name ∷ []) ≡ has_name other names
unmissed names name other ne =
    rw (list_any-append (λ one. bytes_eq one other) names (name ∷ []), other_name name other ne) (or_false (has_name other names))
  where
    or_false : (b : Bool) → (b || false) ≡ b
    or_false true = refl
    or_false false = refl

or_true : (b : Bool) → (b || true) ≡ true
or_true true = refl
or_true false = refl

missed : (names : List (List ℕ)) (name : List ℕ) → has_name name (names ++ name ∷ []) ≡ true
missed names name =
    rw (list_any-append (λ one. bytes_eq one name) names (name ∷ []), own_name name) (or_true (has_name name names))

-- a file that was there is kept
pub puts_there : (kept : Kept) (name bytes : List ℕ) (there : List (List ℕ × List ℕ)) → is_kept name kept ≡ false
    → there ≡ kept.there ++ (name, bytes) ∷ [] → PutsFile name (Some bytes) kept (record { there = there; missing = kept.missing })
puts_there kept name bytes there new is =
    let none = neither_left (is_some (kept_files kept name)) (has_name name kept.missing) new in
    let holds = ap (λ pairs. file_of pairs name) is ∙ added kept.there name bytes none in
    let same = λ (other : List ℕ) (ne : other ≢ name). ap (λ pairs. file_of pairs other) is ∙ unadded kept.there name bytes other ne in
    record {
      kept = ap (λ (o : Option (List ℕ)). is_some o || has_name name kept.missing) holds;
      holds = holds;
      others = record {
        files = same;
        kept = λ other ne. ap (λ (o : Option (List ℕ)). is_some o || has_name other kept.missing) (same other ne);
      };
    }

-- that there is no file is kept
pub puts_missing : (kept : Kept) (name : List ℕ) (missing : List (List ℕ)) → is_kept name kept ≡ false
    → missing ≡ kept.missing ++ name ∷ [] → PutsFile name None kept (record { there = kept.there; missing = missing })
puts_missing kept name missing new is =
    let none = neither_left (is_some (kept_files kept name)) (has_name name kept.missing) new in
    let has = ap (has_name name) is ∙ missed kept.missing name in
    record {
      kept = ap (λ (b : Bool). is_some (kept_files kept name) || b) has ∙ or_true (is_some (kept_files kept name));
      holds = ap (option_map (λ (p : List ℕ × List ℕ). p.1)) (no_file (find (λ p. bytes_eq p.0 name) kept.there) none);
      others = record {
        files = λ other ne. refl;
        kept = λ other ne. ap (λ (b : Bool). is_some (kept_files kept other) || b) (ap (has_name other) is ∙ unmissed kept.missing name other ne);
      };
    }

-- what was put is the front that was read
pub puts_front : {A : Type 0} (items : A → List ℕ) (found : Option A) (contents : Option Contents) (name : List ℕ) (before after : Kept)
    → is_kept name before ≡ false → PutsFile name (option_map items found) before after
    → IfSome contents (λ there. option_map items found ≡ option_map (take 8388609) (there name))
    → KeepsFile contents name before after
puts_front items found contents name before after new puts front = record {
  either = inr (new, record { there = puts.kept; front = go contents front });
  others = puts.others;
} where
  go : (c : Option Contents) → IfSome c (λ there. option_map items found ≡ option_map (take 8388609) (there name)) → IsFrontOf c name (kept_files after name)
  go None f = tt
  go (Some there) f = puts.holds ∙ f
