use Rattle.std.proofs.Common.{ap, ◌∙◌}
use Rattle.std.specs.Prelude.{position}
use Rattle.policy_model.specs.Settings.{same_name}
use Rattle.policy_model.proofs.setup.Setup.find.Goals as goal

pub returns-in-None : goal.returns-in-None
returns-in-None c =
    c.in-None.ensures.place
    ∙ ap (λ accounts. position (λ a. same_name a.name c.args.user.now) accounts) (c.as_slice.ensures ∙ ap (λ s. s.accounts) c.self.view_is)

pub returns-in-Some : goal.returns-in-Some
returns-in-Some c =
    c.in-Some.ensures.place
    ∙ ap (λ accounts. position (λ a. same_name a.name c.args.user.now) accounts) (c.as_slice.ensures ∙ ap (λ s. s.accounts) c.self.view_is)
