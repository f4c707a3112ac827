use Rattle.std.proofs.Common.{Some, length, refl, ap, subst, arith}
use Rattle.policy_model.specs.Settings.{Settings, quota_of}
use Rattle.turn_cell.specs.Facts.{IsCellOf}
use Rattle.monitor_book.specs.Lines.{held_by}
use Rattle.monitor_run.proofs.prepared.prepare.Goals as goal

pub invariant_of-result : goal.invariant_of-result
invariant_of-result g c = (
  record {
    opened = record { setup = (g.T.Texts.service c.args.texts.now).setup; held = held_by g.K.Sink.held g.K.Sink.lengths c.args.log; faults = g.K.Sink.faults c.args.log };
    cell = subst (λ (s : Settings). IsCellOf c.in_ok-cell.cell (Some (record { setup = s; held = held_by g.K.Sink.held g.K.Sink.lengths c.args.log; faults = g.K.Sink.faults c.args.log })) s.workers (quota_of s)) c.setup.ensures.value c.in_ok-cell.ensures.cell;
    setup_is = refl;
    new = c.in_ok-cell.ensures.new;
    desks_are = c.in-Ok.ensures.count;
    none = ap length c.in-Ok-with_capacity.ensures.items;
    rooms = omega (arith, c.in-Ok.ensures.count, c.len.ensures, c.in-Ok-with_capacity.ensures.capacity, c.in-Ok.desks.ok);
  },
  c.in-Ok.ensures.each,
)
