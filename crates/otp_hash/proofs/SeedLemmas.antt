-- Seeds are short lists of lower-case letters and digits, and equal values where those are equal.
use Rattle.std.proofs.Common.{◌≡◌, ℕ, suc, ◌<◌, ◌≤◌, true, List, [], ◌∷◌, map, length, get_or, take, refl, arith, ◌&&◌}
use Rattle.std.proofs.Props.{props}
use Rattle.std.specs.Prelude.{nat_le}
use Rattle.std.proofs.lemmas.Bool.Decides.{nat_tests}
use Rattle.std.proofs.lemmas.Bool.{and_parts, and_from}
use Rattle.std.proofs.lemmas.List.{length-map}
use Rattle.std.specs.Char.{is_ascii_alphanumeric, to_ascii_lowercase}
use Rattle.std.specs.List.{list_all}
use mathlib.Core.HLevel.{is_prop→PathP}
use Rattle.fixed_list.specs.FixedList.{list_of}
use Rattle.fixed_list.proofs.Lists.{length-list_of_le, get_or-list_of, same_from_list_of}
use Rattle.otp_hash.specs.declared.seed.Seed.{Seed}
use Rattle.otp_hash.specs.Seeds.{is_seed_text, is_seed_byte, is_seed}
use Rattle.otp_hash.specs.SeedBytes.{seed_bytes}

-- seeds of equal bytes are equal
pub same_from_seed_bytes : (a b : Seed) → seed_bytes a ≡ seed_bytes b → a ≡ b
same_from_seed_bytes a b e =
    let p : a.text ≡ b.text = same_from_list_of a.text b.text e in
    λ i. record { text = p i; legal = is_prop→PathP (λ j. is_seed (list_of (p j)) ≡ true) (λ j. hlevel props) a.legal b.legal i }

-- a seed is short
pub length-seed_bytes : (x : Seed) → length (seed_bytes x) ≤ 16
length-seed_bytes x = length-list_of_le x.text

-- a seed is bytes
pub get_or-seed_bytes : (x : Seed) (i : ℕ) → get_or (seed_bytes x) i 0 < 256
get_or-seed_bytes x i = get_or-list_of x.text i

-- a seed's text is short
pub length-is_seed_text : (bytes : List ℕ) → is_seed_text bytes ≡ true → length bytes ≤ 16
unfolding is_seed_text
length-is_seed_text bytes e =
    let bounds = and_parts (nat_le 1 (length bytes) && nat_le (length bytes) 16) (list_all is_ascii_alphanumeric bytes) e in
    let most = and_parts (nat_le 1 (length bytes)) (nat_le (length bytes) 16) bounds.0 in
    grind (arith, nat_tests)

-- a list whose front is that of another in lower case
pub take-lowercased : (text bytes : List ℕ) → length bytes ≤ length text → ((k : ℕ) → k < length bytes → get_or text k 0 ≡ to_ascii_lowercase (get_or bytes k 0)) → take (length bytes) text ≡ map to_ascii_lowercase bytes
take-lowercased text [] le same = refl
take-lowercased [] (b ∷ bytes) le same = absurd (omega arith)
take-lowercased (t ∷ text) (b ∷ bytes) le same =
    let head : t ≡ to_ascii_lowercase b = same 0 (omega arith) in
    let rest : take (length bytes) text ≡ map to_ascii_lowercase bytes = take-lowercased text bytes (omega arith) (λ k lt. same (suc k) (omega arith)) in
    cc

-- a letter or digit is in lower case a letter or digit of a seed
is_seed_byte-lowercase : (c : ℕ) → is_ascii_alphanumeric c ≡ true → is_seed_byte (to_ascii_lowercase c) ≡ true
is_seed_byte-lowercase c e = grind (arith)

-- letters and digits are in lower case those of a seed
list_all-lowercase : (bytes : List ℕ) → list_all is_ascii_alphanumeric bytes ≡ true → list_all is_seed_byte (map to_ascii_lowercase bytes) ≡ true
list_all-lowercase [] e = refl
list_all-lowercase (c ∷ cs) e =
    let parts = and_parts (is_ascii_alphanumeric c) (list_all is_ascii_alphanumeric cs) e in
    and_from _ _ (is_seed_byte-lowercase c parts.0) (list_all-lowercase cs parts.1)

-- a seed's text in lower case is a seed
pub is_seed-map_lowercase : (bytes : List ℕ) → is_seed_text bytes ≡ true → is_seed (map to_ascii_lowercase bytes) ≡ true
unfolding is_seed_text is_seed
is_seed-map_lowercase bytes e =
    let parts = and_parts (nat_le 1 (length bytes) && nat_le (length bytes) 16) (list_all is_ascii_alphanumeric bytes) e in
    simp length-map (and_from _ _ parts.0 (list_all-lowercase bytes parts.1))
