use Rattle.std.proofs.Common.{◌≡◌, drop}
use Rattle.policy_model.specs.Settings.{same_name}
use Rattle.std.specs.List.{find}
use Rattle.welcome_rows.proofs.user.can_log_in.Given as goal

abbrev pub invariant-loop-account : goal.invariant-loop-account
invariant-loop-account l =
    find (λ a. same_name a.name l.visit.user) l.setup.accounts ≡ find (λ a. same_name a.name l.visit.user)
    (drop l.account-index l.setup.accounts)
