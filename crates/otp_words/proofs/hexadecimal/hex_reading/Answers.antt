use Rattle.std.proofs.Common.{◌∙◌, sym, ap, ℕ, Some}
use Rattle.std.specs.Int.{w64, from_be_bytes}
use Rattle.std.specs.Option.{option_map}
use Rattle.otp_words.proofs.HexLemmas.{other_reading, reading_of}
use Rattle.otp_words.proofs.hexadecimal.hex_reading.Goals as goal

pub returns-in_err-digits : goal.returns-in_err-digits
returns-in_err-digits c = c.from_residual.ensures ∙ sym (other_reading c.args.text.now c.in_err-digits.ensures)

pub returns-in_err-bytes : goal.returns-in_err-bytes
returns-in_err-bytes c =
    c.from_residual-in_err-bytes.ensures
    ∙ sym (reading_of c.args.text.now c.in_ok-digits.digits c.from_hex.result c.ok.result c.in_ok-digits.ensures c.from_hex.ensures c.ok.ensures.value ∙ ap (option_map (from_be_bytes w64)) c.in_err-bytes.was)

pub returns : goal.returns
returns c =
    ap (λ (n : ℕ). Some n) c.from_be_bytes.ensures
    ∙ sym (reading_of c.args.text.now c.in_ok-digits.digits c.from_hex.result c.ok.result c.in_ok-digits.ensures c.from_hex.ensures c.ok.ensures.value ∙ ap (option_map (from_be_bytes w64)) c.in_ok-bytes.was)
