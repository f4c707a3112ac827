use Rattle.std.proofs.Common.{◌≡◌, length}
use Rattle.std.specs.List.{All}
use Rattle.monitor_run.proofs.prepared.desks_of.Given as goal

abbrev pub invariant-loop : goal.invariant-loop
invariant-loop g l = record {
  count : length l.desks.items ≡ l.counter;
  end_is : l.end ≡ (g.T.Texts.service l.texts).setup.workers;
  each : All (λ d. g.T.Texts.service d.replies.texts.now ≡ g.T.Texts.service l.texts) l.desks.items;
}
