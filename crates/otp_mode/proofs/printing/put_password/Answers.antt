use Rattle.std.proofs.Common.{◌≡◌, [], ◌∷◌, ◌++◌, arith, length, length-append}
use Rattle.std.specs.Option.{option_copied}
use Rattle.otp_words.specs.Hex.{hex_text}
use Rattle.otp_mode.specs.Output.{words_line}
use Rattle.otp_mode.proofs.TextLemmas.{two-written}
use Rattle.otp_mode.proofs.printing.put_password.Goals as goal

pub returns-clause-written : goal.returns-clause-written
returns-clause-written c =
    let hex = hex_text c.args.password in
    let first = hex ++ 10 ∷ [] in
    let len : length first ≡ c.put_hex-end.result = omega (arith, c.put_hex-end.ensures.len, c.put_hex-end.ensures.text_len, length-append hex (10 ∷ [])) in
    two-written first (words_line (option_copied c.args.list) c.args.password) _ _ c.put_hex-end.new.out c.put_words.new.out _ c.put_hex-end.result c.put_words.result c.put_hex-end.ensures.written len c.put_words.ensures.written c.put_words.ensures.len
