use Rattle.std.proofs.Common.{◌∙◌, ap}
use Rattle.otp_ledger.specs.Accounts.{AccountState, current_of}
use Rattle.otp_ledger.proofs.StandingLemmas.{stands_at}
use Rattle.otp_ledger.proofs.ledger.Ledger.current.Goals as goal

pub returns-clause-stands : goal.returns-clause-stands
returns-clause-stands c = record {
  by_journal = λ journal a st place. (
    ap (λ (s : AccountState). s.sequence) (c.row-row.ensures.state ∙ stands_at c.args.self.now journal c.args.account a st place),
    c.row-row.ensures.password ∙ ap current_of (stands_at c.args.self.now journal c.args.account a st place),
  );
}
