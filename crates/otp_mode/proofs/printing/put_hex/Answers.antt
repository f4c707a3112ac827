use Rattle.std.proofs.Common.{arith}
use Rattle.otp_words.specs.Hex.{hex_text}
use Rattle.otp_mode.proofs.TextLemmas.{length-written, newline-behind}
use Rattle.otp_mode.proofs.printing.put_hex.Goals as goal

pub returns-clause-text_len : goal.returns-clause-text_len
returns-clause-text_len c =
    length-written (hex_text c.args.password) c.args.out.now c.to_hex-end.new.out 19 c.to_hex-end.ensures.written c.to_hex-end.auto.out (omega (arith, c.requires))

pub returns-clause-written : goal.returns-clause-written
returns-clause-written c =
    let text = hex_text c.args.password in
    let len = length-written text c.args.out.now c.to_hex-end.new.out 19 c.to_hex-end.ensures.written c.to_hex-end.auto.out (omega (arith, c.requires)) in
    rw c.to_hex-end.ensures.len (newline-behind text c.args.out.now c.to_hex-end.new.out 19 c.to_hex-end.ensures.written len (omega (arith, c.requires)))
