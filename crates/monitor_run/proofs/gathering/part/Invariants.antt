use Rattle.std.proofs.Common.{◌≡◌, ◌+◌, ◌≤◌, ◌++◌, ◌||◌, length, map, reverse, vec_capacity}
use Rattle.std.specs.List.{list_any}
use Rattle.session_loop.specs.Stories.{is_accept_fault}
use Rattle.monitor_run.proofs.gathering.part.Given as goal

abbrev pub invariant-loop : goal.invariant-loop
invariant-loop g l = record {
  left : length l.workers.items + l.counter ≡ length l.initial.workers.items;
  end_is : l.end ≡ length l.initial.workers.items;
  posts_fit : length l.posts.items + length l.workers.items ≤ vec_capacity l.posts;
  passes_fit : length l.passes.items + length l.workers.items ≤ vec_capacity l.passes;
  posts : l.posts.items ++ reverse (map (λ w. w.post) l.workers.items) ≡ l.initial.posts.items ++ reverse (map (λ w. w.post) l.initial.workers.items);
  passes : l.passes.items ++ reverse (map (λ w. w.pass) l.workers.items) ≡ l.initial.passes.items ++ reverse (map (λ w. w.pass) l.initial.workers.items);
  fails : (l.failed || list_any (λ w. is_accept_fault w.end) l.workers.items) ≡ list_any (λ w. is_accept_fault w.end) l.initial.workers.items;
}
