-- Names, labels and seeds are texts in UTF-8.
use Rattle.std.proofs.Common.{◌≡◌, ℕ, ◌<◌, Bool, true, ◌&&◌, List, [], ◌∷◌, length, nat_le, arith}
use Rattle.std.specs.Char.{is_ascii_lowercase}
use Rattle.std.specs.List.{list_all}
use Rattle.std.specs.Str.{IsAscii, IsUtf8}
use Rattle.std.proofs.lemmas.Bool.{and_parts}
use Rattle.std.proofs.lemmas.Bool.Decides.{nat_tests}
use Rattle.std.proofs.lemmas.Str.{IsUtf8-from_ascii}
use Rattle.std.proofs.lemmas.Str.Ascii.{IsAscii-cons, IsAscii-nil}
use Rattle.otp_hash.specs.Seeds.{is_seed, is_seed_byte}
use Rattle.request_catalogue.specs.Texts.{begins_name, continues_label, continues_name, is_label, is_name}

-- bytes that pass a test which only ASCII passes
all_ascii : (p : ℕ → Bool) → ((c : ℕ) → p c ≡ true → c < 128) → (bytes : List ℕ) → list_all p bytes ≡ true → IsAscii bytes
all_ascii p small [] legal = IsAscii-nil
all_ascii p small (c ∷ cs) legal =
    let parts = and_parts (p c) (list_all p cs) legal in
    IsAscii-cons c cs (small c parts.0) (all_ascii p small cs parts.1)

name_first : (c : ℕ) → begins_name c ≡ true → c < 128
name_first c legal = grind (arith, nat_tests, legal)

name_next : (c : ℕ) → continues_name c ≡ true → c < 128
name_next c legal = grind (arith, nat_tests, legal)

label_first : (c : ℕ) → is_ascii_lowercase c ≡ true → c < 128
label_first c legal = grind (arith, nat_tests, legal)

label_next : (c : ℕ) → continues_label c ≡ true → c < 128
label_next c legal = grind (arith, nat_tests, legal)

seed_next : (c : ℕ) → is_seed_byte c ≡ true → c < 128
seed_next c legal = grind (arith, nat_tests, legal)

name_ascii : (bytes : List ℕ) → is_name bytes ≡ true → IsAscii bytes
unfolding is_name
name_ascii [] legal = IsAscii-nil
name_ascii (c ∷ cs) legal =
    let parts = and_parts (nat_le (length (c ∷ cs)) 32 && begins_name c) (list_all continues_name cs) legal in
    IsAscii-cons c cs (name_first c (and_parts (nat_le (length (c ∷ cs)) 32) (begins_name c) parts.0).1) (all_ascii continues_name name_next cs parts.1)

label_ascii : (bytes : List ℕ) → is_label bytes ≡ true → IsAscii bytes
unfolding is_label
label_ascii [] legal = IsAscii-nil
label_ascii (c ∷ cs) legal =
    let parts = and_parts (nat_le (length (c ∷ cs)) 64 && is_ascii_lowercase c) (list_all continues_label cs) legal in
    IsAscii-cons c cs (label_first c (and_parts (nat_le (length (c ∷ cs)) 64) (is_ascii_lowercase c) parts.0).1) (all_ascii continues_label label_next cs parts.1)

seed_ascii : (bytes : List ℕ) → is_seed bytes ≡ true → IsAscii bytes
unfolding is_seed
seed_ascii bytes legal = all_ascii is_seed_byte seed_next bytes (and_parts (nat_le 1 (length bytes) && nat_le (length bytes) 16) (list_all is_seed_byte bytes) legal).1

pub name_is_text : (bytes : List ℕ) → is_name bytes ≡ true → IsUtf8 bytes
name_is_text bytes legal = IsUtf8-from_ascii bytes (name_ascii bytes legal)

pub label_is_text : (bytes : List ℕ) → is_label bytes ≡ true → IsUtf8 bytes
label_is_text bytes legal = IsUtf8-from_ascii bytes (label_ascii bytes legal)

pub seed_is_text : (bytes : List ℕ) → is_seed bytes ≡ true → IsUtf8 bytes
seed_is_text bytes legal = IsUtf8-from_ascii bytes (seed_ascii bytes legal)
