use Rattle.std.proofs.Common.{true, false, codes, Err, ◌∙◌, sym, ap}
use Rattle.toml.specs.Data.{get_member}
use Rattle.toml.specs.View.{table_view}
use Rattle.account_file.specs.declared.fault.SetupFault.{SetupFault}
use Rattle.account_file.specs.Entries.{AccountEntry, account_entry}
use Rattle.account_file.proofs.KeyLemmas.{uid_read}
use Rattle.account_file.proofs.accounts.read_uid.Goals as goal

pub returns-then-is_numbered-clause-read : goal.returns-then-is_numbered-clause-read
returns-then-is_numbered-clause-read c =
    uid_read c.args.spot (λ (e : AccountEntry). e.uid) account_entry c.args.others.now (get_member (codes "uid") (table_view c.args.table.now)) c.in_ok-uid.uid true c.in_ok-uid.ensures.read c.if-is_numbered.ensures
    ∙ ap (λ (f : SetupFault). Err f) (sym c.breaks.ensures)

pub returns-clause-read : goal.returns-clause-read
returns-clause-read c = uid_read c.args.spot (λ (e : AccountEntry). e.uid) account_entry c.args.others.now (get_member (codes "uid") (table_view c.args.table.now)) c.in_ok-uid.uid false c.in_ok-uid.ensures.read c.if-is_numbered.ensures
