use Rattle.std.proofs.Common.{◌∷◌, [], ◌++◌, List, ap, subst, sym, take, ◌+◌, ◌∙◌}
use Rattle.std.proofs.lemmas.List.{take_more}
use Rattle.outside_memory.specs.declared.post.MemPost.{MemPost}
use Rattle.welcome_rows.specs.declared.serving.Visit.{Visit}
use Rattle.welcome_rows.specs.Shown.{AreNewPosts}
use Rattle.welcome_rows.proofs.Posts.{new_more}
use Rattle.welcome_rows.proofs.serving.posts_of.Goals as goal

pub loop-visit-preserved : goal.loop-visit-preserved
loop-visit-preserved c =
    let visits = c.args.visits.now in
    let visit = c.visit-item.result in
    let i = c.loop-visit.visit-index in
    let first = take_more visits i visit c.loop-visit-test.true
    ∙ ap (λ (v : Visit). take i visits ++ v ∷ []) (sym c.visit-item.is) in
    subst (λ (posts : List MemPost). AreNewPosts (take (i + 1) visits) posts) (sym c.in_ok-push.ensures.items)
    (subst (λ (vs : List Visit). AreNewPosts vs (c.loop-visit.posts.items ++ c.in_ok-post_of.field-0 ∷ [])) (sym first)
    (new_more (take i visits) c.loop-visit.posts.items visit c.in_ok-post_of.field-0 c.loop-visit.invariant
    c.in_ok-post_of.ensures))
