use Rattle.std.proofs.Common.{◌≡◌, ◌∙◌, ◌<◌, ap, arith, get_or, nat_lt, sym, true}
use Rattle.std.proofs.lemmas.Bool.Decides.{nat_tests}
use Rattle.otp_ledger.specs.Accounts.{AccountState, state_at}
use Rattle.policy_model.specs.Settings.{Settings}
use Rattle.ledger_journal.proofs.SpendLemmas.{algo_at, other_test, spent_test, verified_test}
use Rattle.ledger_journal.proofs.spending.verifies.Goals as goal
use Rattle.ledger_journal.proofs.spending.verifies.Goals.{then-current-gt0, else-current-gt0}

pub returns-then-step-current : goal.returns-then-step-current
returns-then-step-current c =
    let state : AccountState = state_at c.args.ledger.now c.args.account in
    let own = c.as_slice.ensures ∙ ap (λ (s : Settings). s.accounts) (c.parts.ensures.value ∙ c.setup.ensures.value) in
    let algo = algo_at c.args.ledger.now c.as_slice.result.now c.args.account c.index-as_slice-account.result c.requires.known own c.requires.account in
    elim c.if-current-gt0.branch [
      | then-current-gt0 w ↦
          verified_test state (get_or c.as_slice.result.now c.args.account c.index-as_slice-account.result).algo c.args.password w.step.result c.current-current.result.password c.current-current.result.sequence c.was_accepted.result algo w.step.ensures c.current-current.ensures.password c.current-current.ensures.sequence w.if-current-gt0.true (sym w.value-is ∙ c.if-step-current.true) c.was_accepted.ensures
      | else-current-gt0 w ↦ absurd (let e : nat_lt 0 c.current-current.result.sequence ≡ true = sym w.value-is ∙ c.if-step-current.true in let lt : 0 < c.current-current.result.sequence = grind (arith, nat_tests, e) in omega (arith, lt, w.if-current-gt0.false))
    ]

pub returns-else-step-current : goal.returns-else-step-current
returns-else-step-current c =
    let state : AccountState = state_at c.args.ledger.now c.args.account in
    let own = c.as_slice.ensures ∙ ap (λ (s : Settings). s.accounts) (c.parts.ensures.value ∙ c.setup.ensures.value) in
    let algo = algo_at c.args.ledger.now c.as_slice.result.now c.args.account c.index-as_slice-account.result c.requires.known own c.requires.account in
    c.if-step-current.false
    ∙ elim c.if-current-gt0.branch [
      | then-current-gt0 w ↦
          other_test state (get_or c.as_slice.result.now c.args.account c.index-as_slice-account.result).algo c.args.password w.step.result c.current-current.result.password algo w.step.ensures c.current-current.ensures.password (sym w.value-is ∙ c.if-step-current.false)
      | else-current-gt0 w ↦ spent_test state c.args.password c.current-current.result.sequence c.current-current.ensures.sequence w.if-current-gt0.false
    ]
