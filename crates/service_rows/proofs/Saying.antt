-- What was said over a link that still tells.
use Rattle.std.proofs.Common.{◌≡◌, ◌≢◌, ℕ, List, [], Option, Some, None, IfSome, subst, ◌∙◌}
use Rattle.std.proofs.lemmas.Bool.{false≢true}
use Rattle.std.specs.Prelude.{IsSome}
use Rattle.outside.specs.Link.{Link}
use Rattle.child_protocol.specs.Says.{Role}
use Rattle.child_protocol.specs.Runs.{HasRun}
use Rattle.child_protocol.specs.declared.run.ChildEnd.{ChildEnd}
use Rattle.child_protocol.specs.declared.run.ChildEnd.TheVariants as ends
use Rattle.welcome_laws.specs.Shipped.{IsSaidWhole}

pub told_said : (role : Role) (session : ℕ) (replies said bytes : List ℕ) (end : ChildEnd) (before after : Option Link)
    → before ≡ Some (record { left = replies; taken = []; sent = []; receivings = Some [] })
    → HasRun role session end before after → end ≢ ends.LinkFault → IsSome after → IfSome after (λ l. bytes ≡ l.sent)
    → said ≡ bytes → IsSaidWhole role session replies said
told_said role session replies said bytes end before (Some l) start run unfailed some sent same = record {
  end = end;
  after = l;
  run = subst (λ (b : Option Link). HasRun role session end b (Some l)) start run;
  unfailed = unfailed;
  sent = same ∙ sent;
}
told_said role session replies said bytes end before None start run unfailed some sent same = absurd (false≢true some)
