use Rattle.std.proofs.Common.{◌≡◌, true, map, length}
use Rattle.std.specs.Prelude.{◌==◌}
use Rattle.std.specs.List.{list_all}
use Rattle.policy_model.specs.Settings.{is_account, are_distinct, same_name}
use Rattle.toml.specs.View.{view}
use Rattle.account_file.specs.Accounts.{next_account}
use Rattle.account_file.specs.Entries.{account_entry}
use Rattle.account_file.proofs.EachLemmas.{IsReadTo}
use Rattle.account_file.proofs.accounts.each_account.Given as goal

abbrev pub invariant-loop-item : goal.invariant-loop-item
invariant-loop-item l = record {
  read : IsReadTo next_account (map view l.items) l.item-index (map account_entry l.accounts.items);
  len : length l.accounts.items ≡ l.item-index;
  legal : list_all is_account l.accounts.items ≡ true;
  names : are_distinct (λ a b. same_name a.name b.name) l.accounts.items ≡ true;
  uids : are_distinct (λ a b. a.uid == b.uid) l.accounts.items ≡ true;
}
