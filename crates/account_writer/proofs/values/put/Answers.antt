use Rattle.std.proofs.Common.{◌∙◌, ℕ, List, ap}
use Rattle.toml.specs.View.{members_view, table_view, view}
use Rattle.account_writer.specs.Puts.{put_member}
use Rattle.account_writer.proofs.PutLemmas.{put_entry}
use Rattle.account_writer.proofs.values.put.Goals as goal

pub returns : goal.returns
returns c =
    ap members_view c.in_ok-insert.ensures.entries
    ∙ put_entry c.args.table.now.entries c.in_ok-key.key c.args.value
    ∙ ap (λ (k : List ℕ). put_member k (view c.args.value) (table_view c.args.table.now)) c.in_ok-key.ensures.ok
