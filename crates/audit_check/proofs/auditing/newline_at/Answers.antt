use Rattle.std.proofs.Common.{ℕ, arith, eqb, get_or, length, sym}
use Rattle.std.proofs.lemmas.Bool.{false_from_ne_true}
use Rattle.std.proofs.lemmas.List.Sums.{position_or_len_is}
use Rattle.audit_check.proofs.auditing.newline_at.Goals as goal

pub returns-in-None-clause-at : goal.returns-in-None-clause-at
returns-in-None-clause-at c =
    sym (position_or_len_is (λ (x : ℕ). eqb x 10) c.args.text.now (length c.args.text.now) 0 (omega arith)
    (λ k lt. false_from_ne_true (eqb (get_or c.args.text.now k 0) 10) (c.in-None.ensures k (omega arith) lt))
    (λ lt. absurd (omega (arith, lt))))

pub returns-in-Some-clause-at : goal.returns-in-Some-clause-at
returns-in-Some-clause-at c =
    let found = c.in-Some.ensures in
    let high = found.0.high in
    sym (position_or_len_is (λ (x : ℕ). eqb x 10) c.args.text.now c.in-Some.at 0 (omega (arith, high))
    (λ k lt. false_from_ne_true (eqb (get_or c.args.text.now k 0) 10) (found.0.before k (omega arith) lt))
    (λ lt. found.1))
