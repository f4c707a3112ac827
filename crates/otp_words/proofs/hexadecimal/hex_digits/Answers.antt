use Rattle.std.proofs.Common.{◌≡◌, ◌∙◌, ap, map, refl, length, ◌*◌}
use Rattle.std.specs.Char.{to_ascii_uppercase}
use Rattle.hex.specs.Hex.{encode_upper}
use Rattle.otp_words.proofs.HexLemmas.{encode_lower-upper, on_ok}
use Rattle.otp_words.proofs.hexadecimal.hex_digits.Goals as goal

pub returns : goal.returns
returns c =
    let bytes = c.to_be_bytes.result in
    let room : 16 ≡ 2 * length bytes = rw c.to_be_bytes.ensures refl in
    let written = on_ok c.encode_to_slice.result _ (c.encode_to_slice.ensures.fits.1 room) c.encode_to_slice.ensures.written in
    c.upper_digits.ensures ∙ ap (map to_ascii_uppercase) written ∙ encode_lower-upper bytes ∙ ap encode_upper c.to_be_bytes.ensures
