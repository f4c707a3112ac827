use Rattle.std.proofs.Common.{◌≡◌, ◌+◌, ◌==◌, true, false, cond, Some, drop, sym, ap, ◌∙◌, eq-eqb}
use Rattle.std.proofs.lemmas.Bool.{ne_eqb}
use Rattle.std.specs.List.{find}
use Rattle.std.proofs.lemmas.List.{take_rest}
use Rattle.policy_model.specs.Cases.{handle_of}
use Rattle.policy_model.specs.Handles.{handle_opening}
use Rattle.policy_model.proofs.HandleLemmas.{is_live, live_handles_of-end, handle_opening-live, handle_opening-other}
use Rattle.policy_model.proofs.handles.opening.Goals as goal
use Rattle.policy_model.proofs.handles.opening.Goals.{else-is_live-via-then-is_live+else-handle, else-is_live-via-else-is_live}

pub returns-then-handle : goal.returns-then-handle
returns-then-handle c =
    let s = c.args.session in
    let j = c.args.journal.now in
    let i = c.loop-i.i in
    let e = c.index-journal-i.result in
    let live = sym (ap (is_live s e) (take_rest j (i + 1))) ∙ sym c.is_live.ensures ∙ c.if-is_live.true in
    let same : (handle_of e == c.args.handle) ≡ true = eq-eqb (handle_of e) c.args.handle (sym c.handle.ensures ∙ c.if-handle.true) in
    sym (c.loop-i.invariant ∙ handle_opening-live s c.args.handle j i e c.loop-i-test.true c.index-journal-i.is live ∙ ap (λ b. cond b (Some e) (handle_opening (drop (i + 1) j) s c.args.handle)) same)

pub loop-i-preserved : goal.loop-i-preserved
loop-i-preserved c =
    let s = c.args.session in
    let j = c.args.journal.now in
    let i = c.loop-i.i in
    let e = c.index-journal-i.result in
    let is = sym (ap (is_live s e) (take_rest j (i + 1))) ∙ sym c.is_live.ensures in
    elim c.else-is_live.branch [
      | else-is_live-via-then-is_live+else-handle w ↦
          let other : (handle_of e == c.args.handle) ≡ false = ne_eqb (handle_of e) c.args.handle (λ h. w.if-handle.false (w.handle.ensures ∙ h)) in
          c.loop-i.invariant ∙ handle_opening-live s c.args.handle j i e c.loop-i-test.true c.index-journal-i.is (is ∙ w.if-is_live.true) ∙ ap (λ b. cond b (Some e) (handle_opening (drop (i + 1) j) s c.args.handle)) other
      | else-is_live-via-else-is_live w ↦ c.loop-i.invariant ∙ handle_opening-other s c.args.handle j i e c.loop-i-test.true c.index-journal-i.is (is ∙ w.if-is_live.false)
    ]

pub returns : goal.returns
returns c =
    sym (c.loop-i.invariant ∙ ap (find (λ e. handle_of e == c.args.handle)) (live_handles_of-end c.args.session c.args.journal.now c.loop-i.i c.loop-i-test.false))
