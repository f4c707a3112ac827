use Rattle.std.proofs.Common.{◌≡◌, ◌+◌, ◌++◌, length, map, reverse, vec_capacity}
use Rattle.monitor_run.proofs.gathering.gather.Given as goal

abbrev pub invariant-loop : goal.invariant-loop
invariant-loop g l = record {
  left : length l.posts.items + l.counter ≡ length l.fn.posts.items;
  end_is : l.end ≡ length l.fn.posts.items;
  same_passes : length l.passes.items ≡ length l.posts.items;
  same_desks : length l.desks.items ≡ length l.posts.items;
  made : length l.workers.items ≡ l.counter;
  posts : l.posts.items ++ reverse (map (λ w. w.post) l.workers.items) ≡ l.fn.posts.items;
  passes : l.passes.items ++ reverse (map (λ w. w.pass) l.workers.items) ≡ l.fn.passes.items;
  desks : l.desks.items ++ reverse (map (λ w. w.desk) l.workers.items) ≡ l.fn.desks.items;
  room : vec_capacity l.workers ≡ vec_capacity l.fn.workers;
  posts_room : vec_capacity l.posts ≡ vec_capacity l.fn.posts;
  passes_room : vec_capacity l.passes ≡ vec_capacity l.fn.passes;
}
