use Rattle.std.proofs.Common.{◌≡◌, ◌∙◌, ◌+◌, ◌<◌, ◌∷◌, [], ℕ, List, map, length, length-append, refl, sym, ap}
use Rattle.std.proofs.lemmas.List.{length-map, map-append}
use Rattle.policy_model.specs.declared.account.Grant.{Grant}
use Rattle.policy_model.specs.Settings.{is_number, same_label}
use Rattle.toml.specs.Data.{Data}
use Rattle.toml.specs.View.{view}
use Rattle.account_file.specs.Accounts.{read_grant}
use Rattle.account_file.specs.Texts.{grant_entry}
use Rattle.account_file.proofs.EachLemmas.{read_none, read_stop, read_more, read_all, refused_on, distinct_more, list_all_more, view_at, none_left}
use Rattle.account_file.proofs.grants.each_grant.Goals as goal

pub loop-item-init : goal.loop-item-init
loop-item-init c = rw c.new-grants.ensures.items (record { read = read_none (read_grant c.args.account) (map view c.args.items.now); len = refl; modes = refl; different = refl })

-- a grant after the same others
behind : (account : ℕ) (value : Data) (grants seen : List Grant) → seen ≡ grants → read_grant account (map grant_entry grants) value ≡ read_grant account (map grant_entry seen) value
behind account value grants seen same = ap (λ (gs : List Grant). read_grant account (map grant_entry gs) value) (sym same)

pub returns-in_err-grant-clause-read : goal.returns-in_err-grant-clause-read
returns-in_err-grant-clause-read c =
    let vs = c.args.items.now in
    let i = c.loop-item.item-index in
    let within : i < length (map view vs) = simp length-map c.loop-item-test.true in
    let fault = behind c.args.account (view c.item-item.result) c.loop-item.grants.items c.as_slice.result.now c.as_slice.ensures.value ∙ c.in_err-grant.ensures.read in
    refused_on _ c.from_residual.result c.in_err-grant.field-0.0 _ c.from_residual.ensures.1
    (read_stop (read_grant c.args.account) (map view vs) i (map grant_entry c.loop-item.grants.items) (view c.item-item.result) c.in_err-grant.field-0.0 c.loop-item.invariant.read within (view_at vs i c.item-item.result c.loop-item-test.true c.item-item.is) fault)

pub loop-item-preserved : goal.loop-item-preserved
loop-item-preserved c =
    let vs = c.args.items.now in
    let i = c.loop-item.item-index in
    let grants = c.loop-item.grants.items in
    let grant = c.in_ok-grant.grant in
    let within : i < length (map view vs) = simp length-map c.loop-item-test.true in
    let at = view_at vs i c.item-item.result c.loop-item-test.true c.item-item.is in
    let value = behind c.args.account (view c.item-item.result) grants c.as_slice.result.now c.as_slice.ensures.value ∙ c.in_ok-grant.ensures.read in
    let new = rw c.as_slice.ensures.value at c.in_ok-grant.ensures.new in
    rw c.in_ok-push.ensures.items
    (record {
      read = rw (map-append grant_entry grants (grant ∷ [])) (read_more (read_grant c.args.account) (map view vs) i (map grant_entry grants) (view c.item-item.result) (grant_entry grant) c.loop-item.invariant.read within at value);
      len = length-append grants (grant ∷ []) ∙ ap (λ (n : ℕ). n + 1) c.loop-item.invariant.len;
      modes = list_all_more (λ (g : Grant). is_number 1 3 g.mode) grants grant c.loop-item.invariant.modes c.in_ok-grant.ensures.in_range;
      different = distinct_more (λ (a b : Grant). same_label a.name b.name) grants grant c.loop-item.invariant.different new;
    })

pub returns-clause-read : goal.returns-clause-read
returns-clause-read c = read_all (read_grant c.args.account) (map view c.args.items.now) c.loop-item.item-index (map grant_entry c.loop-item.grants.items) c.loop-item.invariant.read (none_left c.args.items.now c.loop-item.item-index c.loop-item-test.false)
