use Rattle.std.proofs.Common.{◌≡◌, ◌∙◌, ◌+◌, ◌<◌, ◌∷◌, [], ℕ, List, map, length, length-append, refl, sym, ap, arith}
use Rattle.std.specs.Prelude.{◌==◌}
use Rattle.std.proofs.lemmas.List.{length-map, map-append}
use Rattle.policy_model.specs.declared.account.Account.{Account}
use Rattle.policy_model.specs.Settings.{is_account, same_name}
use Rattle.toml.specs.Data.{Data}
use Rattle.toml.specs.View.{view}
use Rattle.account_file.specs.Accounts.{read_account, next_account}
use Rattle.account_file.specs.Entries.{account_entry}
use Rattle.account_file.proofs.EachLemmas.{read_none, read_stop, read_more, read_all, handed_on, distinct_more, list_all_more, view_at, none_left}
use Rattle.account_file.proofs.accounts.each_account.Goals as goal

pub loop-item-init : goal.loop-item-init
loop-item-init c = rw c.new-accounts.ensures.items (record { read = read_none next_account (map view c.args.items.now); len = refl; legal = refl; names = refl; uids = refl })

-- an account after the same others
behind : (place : ℕ) (value : Data) (accounts seen : List Account) → place ≡ length accounts + 1 → seen ≡ accounts → next_account (map account_entry accounts) value ≡ read_account place (map account_entry seen) value
behind place value accounts seen at same =
    let next : length (map account_entry accounts) + 1 ≡ place = ap (λ (n : ℕ). n + 1) (length-map accounts account_entry) ∙ sym at in
    ap (λ (n : ℕ). read_account n (map account_entry accounts) value) next
    ∙ ap (λ (all : List Account). read_account place (map account_entry all) value) (sym same)

pub overflow_cast-place : goal.overflow_cast-place
overflow_cast-place c = omega (arith, c.loop-item.invariant.len, c.loop-item.accounts.ok.0)

pub overflow_add-place : goal.overflow_add-place
overflow_add-place c = omega (arith, c.len.ensures, c.loop-item.accounts.ok.0, c.loop-item.invariant.len, c.loop-item-test.true, c.requires)

pub returns-in_err-account-clause-read : goal.returns-in_err-account-clause-read
returns-in_err-account-clause-read c =
    let vs = c.args.items.now in
    let i = c.loop-item.item-index in
    let accounts = c.loop-item.accounts.items in
    let within : i < length (map view vs) = simp length-map c.loop-item-test.true in
    let place : c.len.result + 1 ≡ length accounts + 1 = omega (arith, c.len.ensures, c.loop-item.accounts.ok.0) in
    let there = behind (c.len.result + 1) (view c.item-item.result) accounts c.as_slice.result.now place c.as_slice.ensures.value in
    handed_on _ account_entry c.from_residual.result c.in_err-account.field-0.0 _ _ c.from_residual.ensures.1 c.in_err-account.ensures.read
    (λ f fault. read_stop next_account (map view vs) i (map account_entry accounts) (view c.item-item.result) f c.loop-item.invariant.read within (view_at vs i c.item-item.result c.loop-item-test.true c.item-item.is) (there ∙ fault))

pub loop-item-preserved : goal.loop-item-preserved
loop-item-preserved c =
    let vs = c.args.items.now in
    let i = c.loop-item.item-index in
    let accounts = c.loop-item.accounts.items in
    let account = c.in_ok-account.account in
    let within : i < length (map view vs) = simp length-map c.loop-item-test.true in
    let at = view_at vs i c.item-item.result c.loop-item-test.true c.item-item.is in
    let place : c.len.result + 1 ≡ length accounts + 1 = omega (arith, c.len.ensures, c.loop-item.accounts.ok.0) in
    let value = behind (c.len.result + 1) (view c.item-item.result) accounts c.as_slice.result.now place c.as_slice.ensures.value ∙ c.in_ok-account.ensures.read in
    let new_name = rw c.as_slice.ensures.value at c.in_ok-account.ensures.new_name in
    let new_uid = rw c.as_slice.ensures.value at c.in_ok-account.ensures.new_uid in
    rw c.in_ok-push.ensures.items
    (record {
      read = rw (map-append account_entry accounts (account ∷ [])) (read_more next_account (map view vs) i (map account_entry accounts) (view c.item-item.result) (account_entry account) c.loop-item.invariant.read within at value);
      len = length-append accounts (account ∷ []) ∙ ap (λ (n : ℕ). n + 1) c.loop-item.invariant.len;
      legal = list_all_more is_account accounts account c.loop-item.invariant.legal c.in_ok-account.ensures.legal;
      names = distinct_more (λ (a b : Account). same_name a.name b.name) accounts account c.loop-item.invariant.names new_name;
      uids = distinct_more (λ (a b : Account). a.uid == b.uid) accounts account c.loop-item.invariant.uids new_uid;
    })

pub returns-clause-read : goal.returns-clause-read
returns-clause-read c = read_all next_account (map view c.args.items.now) c.loop-item.item-index (map account_entry c.loop-item.accounts.items) c.loop-item.invariant.read (none_left c.args.items.now c.loop-item.item-index c.loop-item-test.false)
