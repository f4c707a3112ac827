use Rattle.std.proofs.Common.{◌≡◌, ◌+◌, ◌*◌, ◌^◌, ◌<◌, drop}
use Rattle.std.specs.Prelude.{fold}
use Rattle.std.specs.Str.{str_to_ascii_uppercase}
use Rattle.otp_words.specs.Digits.{number_of}
use Rattle.otp_words.proofs.dictionary.packed.Given as goal

abbrev pub invariant-loop-byte : goal.invariant-loop-byte
invariant-loop-byte l = record {
  rest : fold (λ number digit. number * 2 ^ 8 + digit) l.number (drop l.byte-index (str_to_ascii_uppercase l.word)) ≡ number_of 8 (str_to_ascii_uppercase l.word);
  small : l.number < 2 ^ (8 * l.byte-index);
}
