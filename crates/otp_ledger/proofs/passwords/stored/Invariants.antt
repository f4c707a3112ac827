use Rattle.std.proofs.Common.{◌≤◌, ◌+◌, length, map, take, vec_capacity, vec_len}
use Rattle.otp_ledger.specs.Kept.{AreEntries, IsRising}
use Rattle.otp_ledger.specs.Rows.{new_row, state_of}
use Rattle.otp_ledger.proofs.passwords.stored.Given as goal

abbrev pub invariant-loop-i : goal.invariant-loop-i
invariant-loop-i l = record {
  rising : IsRising l.kept.items;
  entries : AreEntries l.kept.items (map state_of (map new_row (take l.i l.accounts)));
  len : vec_len l.kept ≤ l.i;
  room : length l.accounts + l.cap ≤ vec_capacity l.kept;
}
