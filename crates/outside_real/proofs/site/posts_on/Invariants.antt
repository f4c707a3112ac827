use Rattle.std.proofs.Common.{◌≡◌, vec_len}
use Rattle.std.specs.Prelude.{All}
use Rattle.outside_real.specs.RealPost.{IsFreshPost, IsPostAt}
use Rattle.outside_real.proofs.site.posts_on.Given as goal

abbrev pub invariant-loop : goal.invariant-loop
invariant-loop g l =
    (vec_len l.posts ≡ l.counter) × All IsFreshPost l.posts.items × All (IsPostAt l.place) l.posts.items
