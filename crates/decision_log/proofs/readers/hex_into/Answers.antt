use Rattle.std.proofs.Common.{◌≡◌, ◌/◌, ℕ, List, Ok, ◌++◌, refl, ap, sym, ◌∙◌, drop, length, take, arith}
use Rattle.std.proofs.lemmas.List.{length-take-le, take_at}
use Rattle.hex.specs.Hex.{decode_of}
use Rattle.hex.proofs.HexLemmas.{decode_of-ok}
use Rattle.decision_log.proofs.Hexes.{hex_ok, hex_judged, no_hex_err, no_hex_odd, no_hex_long}
use Rattle.decision_log.proofs.readers.hex_into.Goals as goal
use Rattle.decision_log.proofs.readers.hex_into.Goals.{then-digits-eq1-via-then-digits-eq1, then-digits-eq1-via-else-digits-eq1+then-len-gt-HEX_MAX}

pub returns-then-digits-eq1-clause-told : goal.returns-then-digits-eq1-clause-told
returns-then-digits-eq1-clause-told c =
    elim c.then-digits-eq1.branch [
      | then-digits-eq1-via-then-digits-eq1 w ↦ no_hex_odd c.args.digits.now w.if-digits-eq1.true
      | then-digits-eq1-via-else-digits-eq1+then-len-gt-HEX_MAX w ↦ no_hex_long c.args.digits.now w.if-len-gt-HEX_MAX.true
    ]

pub returns-in-Ok-clause-told : goal.returns-in-Ok-clause-told
returns-in-Ok-clause-told c =
    let digits = c.args.digits.now in
    let n = length digits / 2 in
    let out = c.decode_to_slice.new.out in
    let whole = length-take-le n c.args.room.now (omega (arith, c.requires, c.if-len-gt-HEX_MAX.false)) in
    let is : decode_of digits ≡ Ok out = hex_ok digits out (length (take n c.args.room.now)) c.decode_to_slice.result (omega (arith, whole, c.if-digits-eq1.false)) c.decode_to_slice.ensures.value c.in-Ok.is in
    let twice = (decode_of-ok digits out is).2 in
    let long : length out ≡ n = omega (arith, twice) in
    let front : take n (out ++ drop n c.args.room.now) ≡ out = take_at out (drop n c.args.room.now) n long in
    hex_judged digits (take n (out ++ drop n c.args.room.now)) (out ++ drop n c.args.room.now) n c.is_lower.result c.then_some.result c.then_some.ensures c.if-len-gt-HEX_MAX.false refl (is ∙ ap (λ (x : List ℕ). Ok x) (sym front)) c.is_lower.ensures

pub returns-in-Err-clause-told : goal.returns-in-Err-clause-told
returns-in-Err-clause-told c =
    let digits = c.args.digits.now in
    let n = length digits / 2 in
    let whole = length-take-le n c.args.room.now (omega (arith, c.requires, c.if-len-gt-HEX_MAX.false)) in
    no_hex_err digits c.decode_to_slice.new.out (length (take n c.args.room.now)) c.decode_to_slice.result c.in-Err.field-0 (omega (arith, whole, c.if-digits-eq1.false)) c.decode_to_slice.ensures.value c.in-Err.is
