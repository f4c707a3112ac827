-- An event that was added with the policy's decision is the policy's next event.
use Rattle.std.proofs.Common.{◌≡◌, ℕ, List, [], ◌∷◌, ◌++◌, ap, ◌∙◌}
use Rattle.policy_model.specs.declared.event.Ask.{Ask}
use Rattle.policy_model.specs.declared.event.Decision.{Decision}
use Rattle.policy_model.specs.declared.event.Event.{Event}
use Rattle.policy_model.specs.Legal.{event_with, next_event}
use Rattle.policy_model.specs.Settings.{Settings}
use Rattle.policy_model.specs.Verdict.{verdict_of}

pub adds_next : (setup : Settings) (before judged followed after : List Event) (worker : ℕ) (ask : Ask) (decision : Decision) (e : Event) → judged ≡ before → decision ≡ verdict_of setup judged worker ask → followed ≡ before → e ≡ event_with followed worker ask decision → after ≡ before ++ e ∷ [] → after ≡ before ++ next_event setup before worker ask ∷ []
adds_next setup before judged followed after worker ask decision e same verdict still event added =
    let decided : decision ≡ verdict_of setup before worker ask = verdict ∙ ap (λ journal. verdict_of setup journal worker ask) same in
    let is : e ≡ next_event setup before worker ask = event ∙ ap (λ journal. event_with journal worker ask decision) still ∙ ap (event_with before worker ask) decided in
    added ∙ ap (λ x. before ++ x ∷ []) is
