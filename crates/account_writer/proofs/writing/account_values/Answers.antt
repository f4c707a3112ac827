use Rattle.std.proofs.Common.{◌≡◌, ◌∙◌, ◌<◌, ◌≤◌, List, length, map, get_or, sym, ap, arith, rules}
use Rattle.std.specs.List.{list_all}
use Rattle.std.proofs.lemmas.List.{take_all}
use Rattle.policy_model.specs.declared.account.Account.{Account}
use Rattle.policy_model.specs.Settings.{Settings}
use Rattle.toml.specs.Data.{table}
use Rattle.toml.specs.View.{table_view, view}
use Rattle.account_writer.specs.CurrentSetup.{current_accounts}
use Rattle.account_writer.specs.Puts.{is_writable, with_current}
use Rattle.account_writer.specs.Tables.{account_data}
use Rattle.account_writer.proofs.CurrentLemmas.{current_here, length-current, values_more, writable_more}
use Rattle.account_writer.proofs.writing.account_values.Goals as goal

pub current-requires : goal.current-requires
current-requires c =
    let own : c.as_slice-accounts.result.now ≡ c.setup.result.now.accounts = c.as_slice-accounts.ensures ∙ ap (λ (s : Settings). s.accounts) c.parts.ensures.value in
    omega (arith, c.loop-i-test.true, ap length own, c.setup.ensures.accounts)

pub loop-i-preserved : goal.loop-i-preserved
loop-i-preserved c =
    let accounts = c.as_slice-accounts.result.now in
    let states = c.args.ledger.now.accounts in
    let own : accounts ≡ c.setup.result.now.accounts = c.as_slice-accounts.ensures ∙ ap (λ (s : Settings). s.accounts) c.parts.ensures.value in
    let same : length accounts ≡ length states = ap length own ∙ c.setup.ensures.accounts in
    let i = c.loop-i.i in
    let account = c.index-accounts-i.result in
    let all : List Account = current_accounts accounts states in
    let new : Account = with_current account c.current.result in
    let within : i < length all = omega (arith, c.loop-i-test.true, length-current accounts states same) in
    let few : i < length states = omega (arith, c.loop-i-test.true, same) in
    let here : get_or all i account ≡ new = current_here accounts states i account c.current.result c.loop-i-test.true few c.index-accounts-i.is c.current.ensures.sequence c.current.ensures.password in
    let seen : view c.from.result ≡ table (table_view c.in_ok-table.table) = search (rules, c.from.ensures) in
    rw c.in_ok-push.ensures.items
    (record {
      values = values_more account_data all c.loop-i.values.items i new account c.from.result within c.loop-i.invariant.values here (seen ∙ ap table c.in_ok-table.ensures.table);
      writable = writable_more all i new account within c.loop-i.invariant.writable here c.in_ok-table.ensures.writable;
    })

pub returns-clause-values : goal.returns-clause-values
returns-clause-values c =
    let accounts = c.as_slice-accounts.result.now in
    let states = c.args.ledger.now.accounts in
    let own : accounts ≡ c.args.ledger.now.setup.accounts = c.as_slice-accounts.ensures ∙ ap (λ (s : Settings). s.accounts) (c.parts.ensures.value ∙ c.setup.ensures.value) in
    let same : length accounts ≡ length states = ap length (c.as_slice-accounts.ensures ∙ ap (λ (s : Settings). s.accounts) c.parts.ensures.value) ∙ c.setup.ensures.accounts in
    let long : length (current_accounts accounts states) ≤ c.loop-i.i = omega (arith, c.loop-i-test.false, length-current accounts states same) in
    c.loop-i.invariant.values ∙ ap (map account_data) (take_all c.loop-i.i (current_accounts accounts states) long ∙ ap (λ (all : List Account). current_accounts all states) own)

pub returns-clause-writable : goal.returns-clause-writable
returns-clause-writable c =
    let accounts = c.as_slice-accounts.result.now in
    let states = c.args.ledger.now.accounts in
    let own : accounts ≡ c.args.ledger.now.setup.accounts = c.as_slice-accounts.ensures ∙ ap (λ (s : Settings). s.accounts) (c.parts.ensures.value ∙ c.setup.ensures.value) in
    let same : length accounts ≡ length states = ap length (c.as_slice-accounts.ensures ∙ ap (λ (s : Settings). s.accounts) c.parts.ensures.value) ∙ c.setup.ensures.accounts in
    let long : length (current_accounts accounts states) ≤ c.loop-i.i = omega (arith, c.loop-i-test.false, length-current accounts states same) in
    sym (ap (list_all is_writable) (take_all c.loop-i.i (current_accounts accounts states) long ∙ ap (λ (all : List Account). current_accounts all states) own)) ∙ c.loop-i.invariant.writable
