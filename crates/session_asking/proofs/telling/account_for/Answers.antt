use Rattle.std.proofs.Common.{◌≡◌, Bor, Some, ap, sym, ◌∙◌}
use Rattle.std.specs.Prelude.{option_map, slice_get}
use Rattle.policy_model.specs.declared.account.Account.{Account}
use Rattle.session_asking.proofs.Naming.{for_user}
use Rattle.session_asking.proofs.telling.account_for.Goals as goal

pub returns-in-Some : goal.returns-in-Some
returns-in-Some c =
    let stands : slice_get c.args.setup.now.accounts c.likely.result ≡ Some c.in-Some.account.now = sym c.numbered.ensures.account ∙ ap (option_map (λ (a : Bor Account). a.now)) c.in-Some.is in
    λ lt. for_user c.args.setup.now c.args.user.now c.likely.result c.args.value c.in-Some.account.now c.numbered.ensures.in_range stands (sym c.is_for.ensures ∙ c.if-is_for.true) lt
