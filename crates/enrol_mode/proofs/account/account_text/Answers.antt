use Rattle.std.proofs.Common.{◌≡◌, ℕ, List, Result, Ok, Err}
use Rattle.std.specs.Prelude.{IfOk}
use Rattle.policy_model.specs.declared.account.Account.{Account}
use Rattle.account_file.specs.Entries.{account_entry}
use Rattle.account_writer.specs.Written.{IsTextOf}
use Rattle.enrol_mode.specs.Accounts.{IsEnrolText, new_entry}
use Rattle.enrol_mode.specs.Command.{command_parts}
use Rattle.enrol_mode.specs.Words.{EnrolParts}
use Rattle.enrol_mode.proofs.account.account_text.Goals as goal

text_for : {V E : Type 0} (items : V → List ℕ) (parts : EnrolParts) (phrase : List ℕ) (a : Account) (r : Result V E)
    → account_entry a ≡ new_entry parts phrase → IfOk r (λ text. IsTextOf a (items text))
    → IfOk r (λ text. IsEnrolText parts phrase (items text))
text_for items parts phrase a (Err e) entry spells = tt
text_for items parts phrase a (Ok text) entry spells = record { account = a; entry = entry; spells = spells }

pub returns : goal.returns
returns c =
    text_for (λ v. v.items) (command_parts c.args.command.now) c.args.phrase.now c.new_account-account.result
    c.write_account.result c.new_account-account.ensures.entry c.write_account.ensures
