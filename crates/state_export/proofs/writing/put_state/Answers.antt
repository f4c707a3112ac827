use Rattle.std.proofs.Common.{◌≡◌, ℕ, List, ◌++◌, ◌∷◌, [], codes, drop, ap, ◌∙◌, append_assoc, arith}
use Rattle.std.specs.Int.{w32, to_le_bytes}
use Rattle.state_export.specs.Spelling.{field_bytes, state_bytes, value_of}
use Rattle.state_export.proofs.Puts.{at_first, on}
use Rattle.state_export.proofs.writing.put_state.Goals as goal

-- the parts of a state, one after the other
as_state : (front lines bytes rest : List ℕ) → front ++ 3 ∷ 8 ∷ 0 ∷ [] ++ lines ++ bytes ++ rest ≡ front ++ 3 ∷ 8 ∷ 0 ∷ (lines ++ bytes) ++ rest
as_state front lines bytes rest =
    ap (λ (x : List ℕ). x ++ rest) (append_assoc (front ++ 3 ∷ 8 ∷ 0 ∷ []) lines bytes ∙ append_assoc front (3 ∷ 8 ∷ 0 ∷ []) (lines ++ bytes))

pub returns-clause-written : goal.returns-clause-written
unfolding state_bytes
returns-clause-written c =
    let out = c.args.out.now in
    let s = value_of c.args.state.now in
    let one = codes "OTS1" in
    let two = one ++ field_bytes 1 s.terminal in
    let three = two ++ field_bytes 2 s.unread in
    let four = three ++ 3 ∷ 8 ∷ 0 ∷ [] in
    let none = at_first 0 out (omega arith) in
    let first = on [] one out out c.put-at.new.out 0 c.put-at.result none c.put-at.ensures.end c.put-at.ensures.out in
    let second = on one (field_bytes 1 s.terminal) out c.put-at.new.out c.put_field-at.new.out c.put-at.result c.put_field-at.result first c.put_field-at.ensures.end c.put_field-at.ensures.out in
    let third = on two (field_bytes 2 s.unread) out c.put_field-at.new.out c.put_field-at-2.new.out c.put_field-at.result c.put_field-at-2.result second c.put_field-at-2.ensures.end c.put_field-at-2.ensures.out in
    let fourth = on three (3 ∷ 8 ∷ 0 ∷ []) out c.put_field-at-2.new.out c.put-at-2.new.out c.put_field-at-2.result c.put-at-2.result third c.put-at-2.ensures.end c.put-at-2.ensures.out in
    let fifth = on four c.to_le_bytes.result out c.put-at-2.new.out c.put-at-3.new.out c.put-at-2.result c.put-at-3.result fourth c.put-at-3.ensures.end c.put-at-3.ensures.out in
    let sixth = on (four ++ c.to_le_bytes.result) c.to_le_bytes-2.result out c.put-at-3.new.out c.put.new.out c.put-at-3.result c.put.result fifth c.put.ensures.end c.put.ensures.out in
    sixth.is
    ∙ ap (λ (x : List ℕ). four ++ x ++ c.to_le_bytes-2.result ++ drop c.put.result out) c.to_le_bytes.ensures
    ∙ ap (λ (x : List ℕ). four ++ to_le_bytes w32 s.lines ++ x ++ drop c.put.result out) c.to_le_bytes-2.ensures
    ∙ as_state three (to_le_bytes w32 s.lines) (to_le_bytes w32 s.bytes) (drop c.put.result out)
