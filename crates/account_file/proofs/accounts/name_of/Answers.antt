use Rattle.std.proofs.Common.{true, false, Err, ◌∙◌, sym, ap}
use Rattle.request_catalogue.specs.Texts.{is_name}
use Rattle.request_catalogue.specs.TextBytes.{name_bytes}
use Rattle.account_file.specs.declared.fault.SetupFault.{SetupFault}
use Rattle.account_file.specs.Entries.{AccountEntry, account_entry}
use Rattle.account_file.proofs.KeyLemmas.{new_string_read}
use Rattle.account_file.proofs.accounts.name_of.Goals as goal

pub returns-then-is_named-clause-read : goal.returns-then-is_named-clause-read
returns-then-is_named-clause-read c =
    new_string_read c.args.spot is_name (λ (e : AccountEntry). e.name) account_entry c.args.others.now _ c.in_ok-text.text.now c.as_bytes.result.now (name_bytes c.in-Some.name) true c.in_ok-text.ensures c.as_bytes.ensures.value c.in-Some.ensures.found c.in-Some.ensures.rule c.if-is_named.ensures
    ∙ ap (λ (f : SetupFault). Err f) (sym c.breaks-then-is_named.ensures)

pub returns-clause-read : goal.returns-clause-read
returns-clause-read c = new_string_read c.args.spot is_name (λ (e : AccountEntry). e.name) account_entry c.args.others.now _ c.in_ok-text.text.now c.as_bytes.result.now (name_bytes c.in-Some.name) false c.in_ok-text.ensures c.as_bytes.ensures.value c.in-Some.ensures.found c.in-Some.ensures.rule c.if-is_named.ensures
