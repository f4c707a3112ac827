-- Believed: the rules for names, labels, notes and typed replies.
use Rattle.std.specs.Prelude.{ℕ, Bool, false, List, [], ◌∷◌, length, nat_le, ◌==◌, ◌&&◌, ◌||◌}
use Rattle.std.specs.List.{list_all}
use Rattle.std.specs.Char.{is_ascii_lowercase, is_ascii_digit}

-- a printable byte: space to `~`
abbrev pub is_printable : ℕ → Bool
is_printable c = nat_le 32 c && nat_le c 126

-- a text of `low` to `high` printable bytes
abbrev pub is_text : ℕ → ℕ → List ℕ → Bool
is_text low high bytes = nat_le low (length bytes) && nat_le (length bytes) high && list_all is_printable bytes

-- a name begins with `a` to `z` or `_`
abbrev pub begins_name : ℕ → Bool
begins_name c = is_ascii_lowercase c || c == 95

-- a name goes on with `a` to `z`, `0` to `9`, `_` or `-`
abbrev pub continues_name : ℕ → Bool
continues_name c = is_ascii_lowercase c || is_ascii_digit c || c == 95 || c == 45

-- a label goes on with `a` to `z`, `0` to `9`, `.`, `_` or `-`
abbrev pub continues_label : ℕ → Bool
continues_label c = is_ascii_lowercase c || is_ascii_digit c || c == 46 || c == 95 || c == 45

-- 1 to `most` bytes, of which the first passes one test and all others another
abbrev pub is_word : ℕ → (ℕ → Bool) → (ℕ → Bool) → List ℕ → Bool
is_word most begins continues [] = false
is_word most begins continues (c ∷ cs) = nat_le (length (c ∷ cs)) most && begins c && list_all continues cs

-- a user's name: 1 to 32 bytes, first a lower-case letter or `_`
unfoldable pub is_name : List ℕ → Bool
is_name bytes = is_word 32 begins_name continues_name bytes

-- a file's label: 1 to 64 bytes, first a lower-case letter
unfoldable pub is_label : List ℕ → Bool
is_label bytes = is_word 64 is_ascii_lowercase continues_label bytes

-- a note: 1 to 64 printable bytes
unfoldable pub is_note : List ℕ → Bool
is_note bytes = is_text 1 64 bytes

-- a tab or a printable byte
abbrev pub is_typed : ℕ → Bool
is_typed c = c == 9 || is_printable c

-- a typed reply: 1 to 256 bytes, each a tab or printable
unfoldable pub is_typed_reply : List ℕ → Bool
is_typed_reply bytes = nat_le 1 (length bytes) && nat_le (length bytes) 256 && list_all is_typed bytes
