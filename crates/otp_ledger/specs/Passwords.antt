-- Inner: the two rising arrays of accepted passwords.
use Rattle.std.specs.Prelude.{ℕ, ◌≡◌, ◌≤◌, ◌<◌, ◌+◌, ◌-◌, List, ◌++◌, vec_len, vec_capacity}
use Rattle.otp_ledger.specs.declared.kept.Kept.{Kept}
use Rattle.otp_ledger.specs.declared.passwords.Passwords.{Passwords}
use Rattle.otp_ledger.specs.Kept.{AreSplit, has_entry}

-- the entries of both
abbrev pub all_of : Passwords → List Kept
all_of p = p.settled.items ++ p.recent.items

-- how many more passwords may be accepted
abbrev pub room_of : Passwords → ℕ
room_of p = vec_capacity p.settled - (vec_len p.settled + vec_len p.recent)

-- both rise and have no entry in common; the large one has room for
-- the entries of the small one, and this has room at all
pub record ArePasswords (p : Passwords) : Type 0 where
  pub split : AreSplit p.settled.items p.recent.items
  pub fits : vec_len p.settled + vec_len p.recent ≤ vec_capacity p.settled
  pub some : 0 < vec_capacity p.recent

-- an array has the entries of both, and no other
abbrev pub HaveEntriesOf : Passwords → List Kept → Type 0
HaveEntriesOf p kept = (account password : ℕ) → has_entry account password kept ≡ has_entry account password (all_of p)
