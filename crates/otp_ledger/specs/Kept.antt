-- Inner: rising arrays of accepted passwords.
use Rattle.std.specs.Prelude.{ℕ, ◌≡◌, ◌≤◌, ◌<◌, ◌+◌, ◌-◌, ◌==◌, ◌&&◌, ◌||◌, Bool, true, false, List, ◌∷◌, ◌++◌, take}
use Rattle.std.specs.Prelude.{drop, length, slice_index_or, nat_lt}
use Rattle.std.specs.List.{list_any}
use Rattle.std.specs.Ordering.{nat_cmp, ordering_then}
use Rattle.std.specs.declared.cmp.Ordering.{Ordering}
use Rattle.std.specs.declared.cmp.Ordering.TheVariants.{Less, Greater}
use Rattle.otp_ledger.specs.declared.kept.Kept.{Kept}
use Rattle.otp_ledger.specs.Accounts.{AccountState, was_accepted}

-- by account, and then by password
abbrev pub kept_cmp : Kept → Kept → Ordering
kept_cmp a b = ordering_then (nat_cmp a.account b.account) (nat_cmp a.password b.password)

-- the entries rise strictly, first by account and then by password
pub record IsRising (kept : List Kept) : Type 0 where
  pub rises : (i j : ℕ) (d : Kept) → i < j → j < length kept → kept_cmp (slice_index_or kept i d)
      (slice_index_or kept j d) ≡ Less

-- the entry is at this place
pub record IsHere (kept : List Kept) (entry : Kept) (i : ℕ) : Type 0 where
  pub in_range : i < length kept
  pub same : (d : Kept) → slice_index_or kept i d ≡ entry

-- the entry would go at this place: those before it are below, those from it on above
pub record IsGap (kept : List Kept) (entry : Kept) (i : ℕ) : Type 0 where
  pub in_range : i ≤ length kept
  pub below : (k : ℕ) (d : Kept) → k < i → kept_cmp (slice_index_or kept k d) entry ≡ Less
  pub above : (k : ℕ) (d : Kept) → i ≤ k → k < length kept → kept_cmp (slice_index_or kept k d) entry ≡ Greater

-- all entries before a place are below an entry
pub record IsStart (kept : List Kept) (first : ℕ) (entry : Kept) : Type 0 where
  pub below : (k : ℕ) (d : Kept) → k < first → kept_cmp (slice_index_or kept k d) entry ≡ Less

-- all entries from a place on are above an entry
pub record IsStop (kept : List Kept) (end : ℕ) (entry : Kept) : Type 0 where
  pub above : (k : ℕ) (d : Kept) → end ≤ k → k < length kept → kept_cmp (slice_index_or kept k d) entry ≡ Greater

-- an entry of an account with a password
abbrev pub is_entry : ℕ → ℕ → Kept → Bool
is_entry account password k = k.account == account && k.password == password

abbrev pub has_entry : ℕ → ℕ → List Kept → Bool
has_entry account password kept = list_any (is_entry account password) kept

-- an array has the entries of another, and this one
abbrev pub AddsEntry : List Kept → Kept → List Kept → Type 0
AddsEntry old entry new =
    (account password : ℕ) → has_entry account password new ≡ (is_entry account password entry
    || has_entry account password old)

-- two rising arrays with no entry in common
pub record AreSplit (settled recent : List Kept) : Type 0 where
  pub settled_rises : IsRising settled
  pub recent_rises : IsRising recent
  pub apart : (account password : ℕ) → has_entry account password recent ≡ true → has_entry account password settled
      ≡ false

-- a rising array has the entries of two
pub record IsMerged (settled recent merged : List Kept) : Type 0 where
  pub rising : IsRising merged
  pub entries : (account password : ℕ) → has_entry account password merged ≡ (has_entry account password settled
      || has_entry account password recent)

-- an entry comes to its place among those before the end, and those from
-- there on move up past it, and past as many places as are left
pub record IsMovedUp (old : List Kept) (end left : ℕ) (entry : Kept) (place : ℕ) (new : List Kept) : Type 0 where
  pub gap : IsGap (take end old) entry place
  pub front : take place new ≡ take place old
  pub rest : drop (place + left) new ≡ entry ∷ (take (end - place) (drop place old) ++ drop (end + left + 1) old)

-- the array has the accepted passwords of each account and nothing else
pub record AreEntries (kept : List Kept) (accounts : List AccountState) : Type 0 where
  pub entries : (account password : ℕ) (d : AccountState) → has_entry account password kept
      ≡ (nat_lt account (length accounts) && was_accepted (slice_index_or accounts account d) password)
