use Rattle.std.proofs.Common.{◌++◌, ◌||◌, map, reverse, sym, ap, ◌∙◌, arith}
use Rattle.std.specs.List.{list_any}
use Rattle.std.proofs.lemmas.Grind.{common_steps}
use Rattle.session_loop.specs.Stories.{is_accept_fault}
use Rattle.monitor_run.proofs.Gathered.{moved_back, test_moved}
use Rattle.monitor_run.proofs.gathering.part.Goals as goal

pub loop-preserved : goal.loop-preserved
loop-preserved g c =
    let kept = c.loop.invariant in
    let w = c.in-Some.worker in
    record {
      left = grind (arith, common_steps);
      end_is = kept.end_is;
      posts_fit = grind (arith, common_steps);
      passes_fit = grind (arith, common_steps);
      posts = ap (λ xs. xs ++ reverse (map (λ w. w.post) c.pop.new.self.items)) c.push_reserved.ensures.items ∙ moved_back (λ w. w.post) c.loop.posts.items c.pop.new.self.items w ∙ ap (λ ws. c.loop.posts.items ++ reverse (map (λ w. w.post) ws)) (sym c.in-Some.ensures.items) ∙ kept.posts;
      passes = ap (λ xs. xs ++ reverse (map (λ w. w.pass) c.pop.new.self.items)) c.push_reserved-in-loop.ensures.items ∙ moved_back (λ w. w.pass) c.loop.passes.items c.pop.new.self.items w ∙ ap (λ ws. c.loop.passes.items ++ reverse (map (λ w. w.pass) ws)) (sym c.in-Some.ensures.items) ∙ kept.passes;
      fails = ap (λ b. (c.loop.failed || b) || list_any (λ w. is_accept_fault w.end) c.pop.new.self.items) c.is_accept_fault-failed.ensures ∙ test_moved (λ w. is_accept_fault w.end) c.pop.new.self.items w c.loop.failed ∙ ap (λ ws. c.loop.failed || list_any (λ w. is_accept_fault w.end) ws) (sym c.in-Some.ensures.items) ∙ kept.fails;
    }
