use Rattle.std.proofs.Common.{◌≡◌, ℕ, ◌+◌, List, ◌++◌, ◌∷◌, [], take, drop, ap, ◌∙◌, append_assoc, length, arith}
use Rattle.std.specs.Int.{w16, to_le_bytes}
use Rattle.state_export.specs.Spelling.{field_bytes}
use Rattle.state_export.proofs.Puts.{at_first, on}
use Rattle.state_export.proofs.writing.put_field.Goals as goal

-- three parts after a front, as one field
as_field : (front content rest : List ℕ) (tag low high : ℕ) → front ++ tag ∷ [] ++ low ∷ high ∷ [] ++ content ++ rest ≡ front ++ tag ∷ low ∷ high ∷ content ++ rest
as_field front content rest tag low high =
    ap (λ (x : List ℕ). x ++ content ++ rest) (append_assoc front (tag ∷ []) (low ∷ high ∷ [])) ∙ ap (λ (x : List ℕ). x ++ rest) (append_assoc front (tag ∷ low ∷ high ∷ []) content)

-- where the field ends
end : (at a b c tag : ℕ) (part content : List ℕ) → a ≡ at + 1 → b ≡ a + length part → part ≡ to_le_bytes w16 (length content) → c ≡ b + length content → c ≡ at + length (field_bytes tag content)
end at a b c tag part content first second two third = omega (arith, ap length two)

pub returns-clause-out : goal.returns-clause-out
returns-clause-out c =
    let out = c.args.out.now in
    let at = c.args.at in
    let none = at_first at out (omega (arith, c.requires.room)) in
    let one = on (take at out) (c.args.tag ∷ []) out out c.put-at.new.out at c.put-at.result none c.put-at.ensures.end c.put-at.ensures.out in
    let two = on (take at out ++ c.args.tag ∷ []) c.to_le_bytes.result out c.put-at.new.out c.put-at-2.new.out c.put-at.result c.put-at-2.result one c.put-at-2.ensures.end c.put-at-2.ensures.out in
    let three = on (take at out ++ c.args.tag ∷ [] ++ c.to_le_bytes.result) c.args.content.now out c.put-at-2.new.out c.put.new.out c.put-at-2.result c.put.result two c.put.ensures.end c.put.ensures.out in
    three.is
    ∙ ap (λ (x : List ℕ). take at out ++ c.args.tag ∷ [] ++ x ++ c.args.content.now ++ drop c.put.result out) c.to_le_bytes.ensures
    ∙ as_field (take at out) c.args.content.now (drop c.put.result out) c.args.tag _ _
    ∙ ap (λ (n : ℕ). take at out ++ field_bytes c.args.tag c.args.content.now ++ drop n out) (end c.args.at c.put-at.result c.put-at-2.result c.put.result c.args.tag c.to_le_bytes.result c.args.content.now c.put-at.ensures.end c.put-at-2.ensures.end c.to_le_bytes.ensures c.put.ensures.end)

pub returns-clause-end : goal.returns-clause-end
returns-clause-end c = end c.args.at c.put-at.result c.put-at-2.result c.put.result c.args.tag c.to_le_bytes.result c.args.content.now c.put-at.ensures.end c.put-at-2.ensures.end c.to_le_bytes.ensures c.put.ensures.end
