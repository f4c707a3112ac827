use Rattle.std.proofs.Common.{◌≡◌, ◌∷◌, [], ◌++◌, ◌+◌, ◌-◌, cond, length, drop, slice_set, List, sym, ap, ◌∙◌, rules}
use lib.Seq.{paste}
use Rattle.otp_ledger.specs.declared.kept.Kept.{Kept}
use Rattle.otp_ledger.proofs.PlacingLemmas.{placed}
use Rattle.otp_ledger.proofs.kept.insert_at.Goals as goal

pub returns-then-is_ok-clause-items : goal.returns-then-is_ok-clause-items
returns-then-is_ok-clause-items c =
    let old : List Kept = c.args.kept.now.items in
    let place = c.args.place in
    let entry = c.args.entry in
    let pushed : c.push.new.self.items ≡ old ++ entry ∷ [] = c.push.ensures.items ∙ ap (λ b. cond b (old ++ entry ∷ []) old) (sym c.if-is_ok.ensures.value) in
    let end_is : c.len-end.result ≡ length old = search rules in
    ap (λ l. slice_set l place entry) c.copy_within.ensures.items
    ∙ ap (λ l. slice_set (paste l (place + 1) (drop place l) (c.len-end.result - place)) place entry) pushed
    ∙ ap (λ n. slice_set (paste (old ++ entry ∷ []) (place + 1) (drop place (old ++ entry ∷ [])) (n - place)) place entry) end_is
    ∙ placed old place entry (search rules)
