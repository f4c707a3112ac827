use Rattle.std.proofs.Common.{◌∙◌, ap, sym, subst, ◌≡◌, ◌<◌, ◌+◌, ◌++◌, [], ◌∷◌, drop, take, List, ℕ}
use Rattle.std.proofs.lemmas.List.{take-append-drop}
use Rattle.policy_model.specs.declared.ranges.TheConstants.{EVENTS_LIMIT}
use Rattle.audit_check.proofs.Fronts.{stands_next}
use Rattle.audit_check.proofs.auditing.read_log.Goals as goal
use Rattle.audit_check.specs.Said.{Says}

pub loop-rest-preserved : goal.loop-rest-preserved
loop-rest-preserved c =
    let n : ℕ = c.line_len.result in
    let rest : List ℕ = c.loop-rest.rest.now in
    let front : take n rest ≡ c.split_at.result.0.now = sym c.split_at.ensures.front in
    let back : drop n rest ≡ c.split_at.result.1.now = sym c.split_at.ensures.back in
    let parts : rest ≡ c.split_at.result.0.now ++ c.split_at.result.1.now = sym (take-append-drop n rest) ∙ ap (λ x. x ++ drop n rest) front ∙ ap (λ x. c.split_at.result.0.now ++ x) back in
    let before = c.loop-rest.invariant.events in
    let kept = c.loop-rest.invariant.kept in
    record {
      events = before ++ c.in-Ok.event ∷ [];
      stands = stands_next c.args.setup.now c.args.text.now rest c.split_at.result.0.now c.split_at.result.1.now before c.in-Ok.event c.loop-rest.invariant.stands parts (subst (λ (n : ℕ). n < EVENTS_LIMIT) kept.counted c.in-Ok.ensures.0) (subst (λ (n : ℕ). Says (n + 1) c.split_at.result.0.now c.in-Ok.event) kept.counted c.in-Ok.ensures.1) (c.in-Ok.ensures.2 before kept);
      kept = c.in_ok-push-in-Ok.ensures before kept;
    }
