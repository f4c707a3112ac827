use Rattle.std.proofs.Common.{[], subst, sym}
use Rattle.otp_ledger.specs.Accounts.{LedgerParts}
use Rattle.ledger_journal.specs.Recovering.{HasAccepted}
use Rattle.ledger_journal.proofs.SpendLemmas.{none_accepted}
use Rattle.ledger_journal.proofs.recovery.answer_by.Goals as goal

pub spent_answer-requires-clause-own : goal.spent_answer-requires-clause-own
spent_answer-requires-clause-own c =
    subst (λ (l : LedgerParts). HasAccepted l.setup [] l) (sym c.in_ok-ledger.ensures.value) (none_accepted c.args.setup.now c.in-Ok.cap)
