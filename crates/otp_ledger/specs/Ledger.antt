-- Inner: what contracts see of a ledger's fields, and what holds of them.
use Rattle.std.specs.Prelude.{ℕ, ◌≡◌, ◌≤◌, ◌<◌, ◌+◌, length, map, slice_index_or}
use Rattle.request_catalogue.specs.declared.texts.Name.{Name}
use Rattle.policy_model.specs.Settings.{IsInRange, account_number}
use Rattle.otp_ledger.specs.declared.ledger.Ledger.TheInside.{Inside}
use Rattle.otp_ledger.specs.declared.rows.AccountRow.{AccountRow}
use Rattle.otp_ledger.specs.Accounts.{LedgerParts}
use Rattle.otp_ledger.specs.Kept.{AreEntries}
use Rattle.otp_ledger.specs.Passwords.{ArePasswords, all_of, room_of}
use Rattle.otp_ledger.specs.Names.{AreNamed, number_named}
use Rattle.otp_ledger.specs.Rows.{state_of}

abbrev pub parts_of : Inside → LedgerParts
parts_of l = record { setup = l.setup; accounts = map state_of l.rows.items; spent = l.spent; cap = l.cap }

-- the arrays rise, have just the accepted passwords, and have room for those that are still to come; no sequence is
-- above its first one, nor that above 9,999; the names rise, and are those of the setup's accounts
pub record IsLedger (l : Inside) : Type 0 where
  pub in_range : IsInRange l.setup
  pub passwords : ArePasswords l.passwords
  pub entries : AreEntries (all_of l.passwords) (map state_of l.rows.items)
  pub few : (account : ℕ) (d : AccountRow) → account < length l.rows.items
      → (slice_index_or l.rows.items account d).sequence ≤ (slice_index_or l.rows.items account d).start
  pub short : (account : ℕ) (d : AccountRow) → account < length l.rows.items
      → (slice_index_or l.rows.items account d).start ≤ 9999
  pub room : l.cap ≤ room_of l.passwords + l.spent
  pub accounts : length l.rows.items ≡ length l.setup.accounts
  pub named : AreNamed l.names.items
  pub numbers : (user : Name) → number_named l.names.items user ≡ account_number l.setup user
