use Rattle.std.proofs.Common.{◌≡◌, ℕ, List, Result, Ok, Err, IfOk, ap, subst, ◌∙◌}
use Rattle.policy_model.specs.Settings.{Settings}
use Rattle.account_file.specs.Entries.{entries_of}
use Rattle.account_writer.specs.CurrentSetup.{current_setup}
use Rattle.account_writer.specs.Written.{IsFileOf}
use Rattle.account_writer.proofs.BehindLemmas.{file_read}
use Rattle.otp_ledger.specs.Accounts.{LedgerParts}
use Rattle.setup_reading.specs.Read.{judged_setup}
use Rattle.setup_reading.proofs.ReadLemmas.{judged-short}
use Rattle.renew_mode.proofs.RenewLemmas.{new-setup}
use Rattle.renew_mode.proofs.texts.setup_bytes.Goals as goal

-- the file of a setup is read as this setup
judged : {V E : Type 0} (items : V → List ℕ) (s : Settings) (r : Result V E) → IfOk r (λ bytes. IsFileOf s (items bytes))
    → IfOk r (λ bytes. judged_setup (items bytes) ≡ Ok (entries_of s))
judged items s (Err error) is = tt
judged items s (Ok bytes) is = judged-short (items bytes) (entries_of s) is.few (file_read s (items bytes) is)

pub returns-clause-written : goal.returns-clause-written
returns-clause-written c =
    let setup = c.args.setup.now in
    let same : current_setup setup c.in_ok-ledger.ledger.accounts ≡ setup =
    ap (λ (l : LedgerParts). current_setup setup l.accounts) c.in_ok-ledger.ensures.value ∙ new-setup setup in
    subst (λ s. IfOk c.write_accounts.result (λ bytes. IsFileOf s bytes.items)) same
    c.write_accounts.ensures.written

pub returns-clause-spelled : goal.returns-clause-spelled
returns-clause-spelled c =
    judged (λ v. v.items) c.args.setup.now c.write_accounts.result (returns-clause-written c)
