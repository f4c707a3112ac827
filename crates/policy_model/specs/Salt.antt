-- Believed: the salt of the plain setup, as a value.
use Rattle.std.specs.Prelude.{ℕ, ◌≡◌, ◌<◌, zero, suc, true, nat_lt, List, [], ◌∷◌, ◌++◌, codes, replicate, slice_index}
use Rattle.std.specs.List.{list_all}
use Rattle.std.proofs.Common.{lit≤, refl}
use Rattle.std.proofs.lemmas.Bool.{and_parts, ltb-true}
use Rattle.fixed_list.specs.FixedList.{list_of}
use Rattle.fixed_list.specs.declared.FixedList.{FixedList}
use Rattle.otp_hash.specs.Seeds.{is_seed}
use Rattle.otp_hash.specs.declared.seed.Seed.{Seed}

-- if all bytes of a list are below 256, the byte at each place is
pub small_at : (bytes : List ℕ) → list_all (λ b. nat_lt b 256) bytes ≡ true → (k : ℕ) → slice_index bytes k < 256
small_at [] all k = lit≤ tt
small_at (b ∷ bytes) all zero = ltb-true b 256 (and_parts (nat_lt b 256) (list_all (λ x. nat_lt x 256) bytes) all).0
small_at (b ∷ bytes) all (suc k) =
    small_at bytes (and_parts (nat_lt b 256) (list_all (λ x. nat_lt x 256) bytes) all).1 k

-- the room of that text: its five bytes, and zeros after them
abbrev pub salt_room : List ℕ
salt_room = codes "decoy" ++ replicate 11 0

-- the text of that salt, in a list of fixed room
abbrev pub salt_text : FixedList 16
salt_text = record {
  bytes = salt_room;
  len = 5;
  whole = refl;
  small = small_at salt_room refl;
  within = lit≤ tt;
  padded = refl;
}

-- the salt of the plain setup: the seed `decoy`
unfoldable pub plain_salt : Seed
unfolding list_of is_seed
plain_salt = record { text = salt_text; legal = refl }
