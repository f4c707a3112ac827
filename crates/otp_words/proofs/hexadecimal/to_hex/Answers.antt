use Rattle.std.proofs.Common.{◌≡◌, ◌∙◌, length, ap, drop}
use Rattle.std.proofs.lemmas.List.{take_at}
use Rattle.otp_words.specs.Hex.{hex_text}
use Rattle.otp_words.proofs.HexText.{hex_reading-hex_text, length-hex_text}
use Rattle.otp_words.proofs.hexadecimal.to_hex.Goals as goal

pub returns-clause-read_back : goal.returns-clause-read_back
returns-clause-read_back c =
    let same : c.copy_from_slice.new.self ≡ hex_text c.args.password = c.copy_from_slice.ensures.after ∙ c.hex_text.ensures in
    rw (take_at c.copy_from_slice.new.self (drop 19 c.args.out.now) 19 (ap length same ∙ length-hex_text c.args.password), same) (hex_reading-hex_text c.args.password c.ranges.password.fits)
