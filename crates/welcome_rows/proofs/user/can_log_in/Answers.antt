use Rattle.std.proofs.Common.{ap, sym, ◌∙◌}
use Rattle.policy_model.specs.Settings.{Settings, same_name}
use Rattle.welcome_rows.proofs.Readiness.{found_in}
use Rattle.welcome_rows.proofs.user.can_log_in.Goals as goal

pub returns-then-is_named : goal.returns-then-is_named
returns-then-is_named c =
    λ ready. record {
      account = c.account-item.result;
      found = found_in (λ a. same_name a.name c.args.visit.now.user) c.args.setup.now.accounts
          c.as_slice-account-items.result.now c.loop-account.account-index c.account-item.result
          (c.as_slice-account-items.ensures ∙ ap (λ (s : Settings). s.accounts) c.parts.ensures.value)
          c.loop-account.invariant c.loop-account-test.true c.account-item.is
          (sym c.is_named.ensures ∙ c.if-is_named.true);
      ready = c.is_ready.ensures ready;
    }
