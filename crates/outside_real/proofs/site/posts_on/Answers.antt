use Rattle.std.proofs.Common.{arith, [], ◌∷◌, ◌++◌}
use Rattle.std.proofs.lemmas.List.Elements.{All-push, All-same}
use Rattle.outside_real.specs.RealPost.{IsFreshPost, IsPostAt}
use Rattle.outside_real.proofs.site.posts_on.Goals as goal

-- one more post was pushed, and it is fresh and of the place
pub loop-preserved : goal.loop-preserved
loop-preserved g c =
    let pushed = c.in_ok-push.ensures in
    let before = c.loop.posts.items in
    let post = c.in_ok-post_on.field-0 in
    let made = c.in_ok-post_on.ensures in
    let place = c.args.place.now in (
      grind (arith, pushed.len, c.loop.invariant.0),
      All-same IsFreshPost c.push.new.self.items (before ++ post ∷ []) pushed.items (All-push IsFreshPost before post c.loop.invariant.1 made.fresh),
      All-same (IsPostAt place) c.push.new.self.items (before ++ post ∷ []) pushed.items (All-push (IsPostAt place) before post c.loop.invariant.2 made.from),
    )
