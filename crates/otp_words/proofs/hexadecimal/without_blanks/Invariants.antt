use Rattle.std.proofs.Common.{◌≡◌, ◌≤◌, ◌++◌, length, take, drop}
use Rattle.std.specs.Prelude.{filter}
use Rattle.otp_words.specs.Blanks.{is_no_blank}
use Rattle.otp_words.proofs.hexadecimal.without_blanks.Given as goal

abbrev pub invariant-loop-byte : goal.invariant-loop-byte
invariant-loop-byte l = record {
  few : l.count ≤ 16;
  long : length l.digits ≡ 16;
  kept : take l.count l.digits ++ filter is_no_blank (drop l.byte-index l.text) ≡ filter is_no_blank l.text;
}
