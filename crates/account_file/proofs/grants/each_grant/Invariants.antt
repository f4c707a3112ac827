use Rattle.std.proofs.Common.{◌≡◌, true, map, length}
use Rattle.std.specs.List.{list_all}
use Rattle.policy_model.specs.Settings.{is_number, are_distinct, same_label}
use Rattle.toml.specs.View.{view}
use Rattle.account_file.specs.Accounts.{read_grant}
use Rattle.account_file.specs.Texts.{grant_entry}
use Rattle.account_file.proofs.EachLemmas.{IsReadTo}
use Rattle.account_file.proofs.grants.each_grant.Given as goal

abbrev pub invariant-loop-item : goal.invariant-loop-item
invariant-loop-item l = record {
  read : IsReadTo (read_grant l.account) (map view l.items) l.item-index (map grant_entry l.grants.items);
  len : length l.grants.items ≡ l.item-index;
  modes : list_all (λ g. is_number 1 3 g.mode) l.grants.items ≡ true;
  different : are_distinct (λ a b. same_label a.name b.name) l.grants.items ≡ true;
}
