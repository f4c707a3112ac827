use Rattle.std.proofs.Common.{rules, arith, ◌≡◌, ◌^◌, slice_set, ◌≤◌, ◌<◌, ◌+◌, ◌-◌, ◌/◌, ◌%◌, ◌++◌, List, length, drop, take, ℕ, ap, sym, ◌∙◌, refl, append-nil}
use Rattle.std.specs.Fmt.{decimal}
use Rattle.std.proofs.lemmas.Fmt.{decimal_nonempty}
use Rattle.std.proofs.lemmas.List.{length-set}
use Rattle.text_line.proofs.Decimals.{first_digit, length-decimal-word, length-decimal_step, next_digit}
use Rattle.text_line.proofs.put_decimal.Goals as goal

-- there is room for the digits of a tenth
tenth : (left start : ℕ) → 10 ≤ left → left < 2 ^ 64 → length (decimal left) ≤ start + 1 → (1 ≤ start) × (length (decimal (left / 10)) ≤ start - 1 + 1)
tenth left start ge small room =
    let one = length-decimal_step left ge small in
    let some : 0 < length (decimal (left / 10)) = decimal_nonempty (left / 10) (omega (arith, small)) in
    (omega (arith, room, one, some), omega (arith, room, one, some))

pub loop-left-init : goal.loop-left-init
loop-left-init c = (sym (append-nil (decimal c.args.number)), length-decimal-word c.args.number c.ranges.number.fits, search rules, refl, refl)

pub overflow_sub-start-in-loop-left : goal.overflow_sub-start-in-loop-left
overflow_sub-start-in-loop-left c = (tenth c.loop-left.left c.loop-left.start c.loop-left-test.true c.loop-left.auto.left-fits.fits c.loop-left.invariant.1).0

pub loop-left-preserved : goal.loop-left-preserved
loop-left-preserved c =
    let l = c.loop-left in
    let is = l.invariant in
    let small = l.auto.left-fits.fits in
    let room = tenth l.left l.start c.loop-left-test.true small is.1 in (
      next_digit l.digits c.args.number l.left l.start c.loop-left-test.true small room.0 (omega (arith, is.2, is.3)) is.0,
      room.1,
      omega (arith, is.2, room.0),
      length-set l.digits l.start (48 + l.left % 10) ∙ is.3,
      refl,
    )

-- the digits that are put
put_text : (digits : List ℕ) (number left start : ℕ) → left < 10 → (decimal number ≡ decimal left ++ drop (start + 1) digits) × (length (decimal left) ≤ start + 1) × (start + 1 ≤ 20) × (length digits ≡ 20) × (number ≡ number) → take (20 - start) (drop start (slice_set digits start (48 + left))) ≡ decimal number
put_text digits number left start lt is = first_digit digits 20 number left start lt is.3 (omega (arith, is.2)) is.0

pub put-requires : goal.put-requires
put-requires c = rw (put_text c.loop-left.digits c.args.number c.loop-left.left c.loop-left.start c.loop-left-test.false c.loop-left.invariant) c.requires

pub returns : goal.returns
returns c =
    let text = put_text c.loop-left.digits c.args.number c.loop-left.left c.loop-left.start c.loop-left-test.false c.loop-left.invariant in
    record {
      text_is = c.put.ensures.text_is ∙ ap (λ xs. c.args.line.now.items ++ xs) text;
      len = c.put.ensures.len ∙ ap (λ xs. length c.args.line.now.items + length xs) text;
    }
