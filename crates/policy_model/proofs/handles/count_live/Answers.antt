use Rattle.std.proofs.Common.{◌+◌, ◌∷◌, cond, drop, length, sym, ap, ◌∙◌, arith}
use Rattle.std.proofs.lemmas.List.{take_rest}
use Rattle.policy_model.specs.Handles.{live_handles_of}
use Rattle.policy_model.proofs.HandleLemmas.{is_live, live_handles_of-drop, live_handles_of-end}
use Rattle.policy_model.proofs.handles.count_live.Goals as goal
use Rattle.policy_model.proofs.handles.count_live.Goals.{then-is_live, else-is_live}

pub loop-i-preserved : goal.loop-i-preserved
loop-i-preserved c =
    let s = c.args.session in
    let j = c.args.journal.now in
    let i = c.loop-i.i in
    let e = c.index-journal-i.result in
    let rest = live_handles_of (drop (i + 1) j) s in
    let live = c.is_live.ensures ∙ ap (is_live s e) (take_rest j (i + 1)) in
    let all = ap length (live_handles_of-drop s j i e c.loop-i-test.true c.index-journal-i.is ∙ ap (λ b. cond b (e ∷ rest) rest) (sym live)) in
    elim c.if-is_live.branch [
      | then-is_live w ↦ (omega (arith, all ∙ ap (λ b. length (cond b (e ∷ rest) rest)) w.if-is_live.true), omega arith)
      | else-is_live w ↦ (omega (arith, all ∙ ap (λ b. length (cond b (e ∷ rest) rest)) w.if-is_live.false), omega arith)
    ]

pub returns : goal.returns
returns c =
    omega (arith, ap length (live_handles_of-end c.args.session c.args.journal.now c.loop-i.i c.loop-i-test.false))
