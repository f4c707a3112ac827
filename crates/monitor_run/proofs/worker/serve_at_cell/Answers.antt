use Rattle.std.proofs.Common.{◌∙◌}
use Rattle.monitor_run.proofs.Workers.{at_same, may_serve_all}
use Rattle.monitor_run.proofs.worker.serve_at_cell.Goals as goal

pub serve_worker-end-requires-clause-may_serve : goal.serve_worker-end-requires-clause-may_serve
serve_worker-end-requires-clause-may_serve g c κs within =
    let service = g.T.Texts.service c.args.worker.now.desk.replies.texts.now in (
      c.setup-setup.ensures.value,
      may_serve_all service.setup c.setup-setup.result.now c.args.cell.now c.args.worker.now.pass (g.P.Post.scene c.args.worker.now.post) (g.P.Post.faults c.args.worker.now.post) c.setup-setup.ensures.value c.requires.ready,
    )

pub returns : goal.returns
returns g c =
    let run = c.serve_worker-end.ensures in
    record {
      served = record {
        at = at_same _ _ _ _ c.serve_worker-end.new.turns.pass.now (run.turns.1 ∙ c.setup-setup.ensures.value) run.turns.0.1 run.turns.2.0;
        number_is = run.ended.worker;
        story = run.story;
        failed = run.ended.accept_fault;
      };
    }
