use Rattle.std.proofs.Common.{◌≡◌, sym, ap, subst, arith}
use Rattle.std.specs.List.{All}
use Rattle.std.proofs.lemmas.Grind.{common_steps}
use Rattle.std.proofs.lemmas.List.Elements.{All-push}
use Rattle.monitor_run.proofs.prepared.desks_of.Goals as goal

pub loop-preserved : goal.loop-preserved
loop-preserved g c =
    let kept = c.loop.invariant in
    let service = g.T.Texts.service c.args.texts.now in
    let desk = c.in_ok-new.field-0 in
    let made = c.in_ok-new.ensures in
    record {
      count = grind (arith, common_steps);
      end_is = kept.end_is;
      each = subst (All (λ d. g.T.Texts.service d.replies.texts.now ≡ service)) (sym c.in_ok-push.ensures.items)
          (All-push (λ d. g.T.Texts.service d.replies.texts.now ≡ service) c.loop.desks.items desk kept.each (ap g.T.Texts.service made));
    }
