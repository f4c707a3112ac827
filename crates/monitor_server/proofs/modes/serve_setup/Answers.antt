use Rattle.monitor_server.proofs.Before.{served_from}
use Rattle.monitor_server.proofs.Touching.{touched_serving}
use Rattle.monitor_server.proofs.modes.serve_setup.Goals as goal

pub returns-clause-serve : goal.returns-clause-serve
returns-clause-serve g c =
    let run = c.run_serve-end in
    served_from c.world.view_is (record {
      ran = record {
        end = run.result.end;
        status_is = c.status_of.ensures;
        detail_is = c.detail_of.ensures;
        ended = run.ensures.ended.serve;
      };
      kept = run.ensures.ended.kept;
    })

pub returns-clause-touches : goal.returns-clause-touches
returns-clause-touches g c = touched_serving g.F.Files.contents c.world.view_is c.run_serve-end.ensures.files
