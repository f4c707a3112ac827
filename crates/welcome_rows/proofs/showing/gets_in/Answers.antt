use Rattle.std.proofs.Common.{◌≡◌, List, Option, Some, length, refl, sym, subst, true}
use Rattle.std.specs.Prelude.{IfSome, slice_get}
use Rattle.std.proofs.lemmas.Option.{slice_get_read}
use Rattle.outside_memory.specs.declared.post.MemPost.{MemPost}
use Rattle.policy_model.specs.declared.event.Event.{Event}
use Rattle.service_model.specs.Service.{Service}
use Rattle.welcome_rows.specs.declared.serving.Visit.{Visit}
use Rattle.welcome_rows.specs.Met.{IsMetInJournal}
use Rattle.welcome_rows.specs.Shown.{GetsIn, service_by}
use Rattle.welcome_rows.proofs.Meets.{carried, shown}
use Rattle.welcome_rows.proofs.showing.gets_in.Goals as goal

pub returns : goal.returns
returns c =
    let some : c.tells.result ≡ true = search (c.if-not-tells.false) in
    let met : c.is_met_in_journal.result ≡ true = search (c.if-not-is_met_in_journal.false) in
    let v = c.in-Some-Some.ensures.lookup in
    let p = c.in-Some-Some.ensures'.lookup in
    let service : Service = service_by c.args.house.now.setup c.args.house.now.dictionary in
    let visits = c.args.visits.now in
    let journal = c.args.served.now.journal.items in
    let posts = c.args.served.now.posts.items in
    let worker = c.args.worker in
    let visit = c.in-Some-Some.visit.now in
    let post = c.in-Some-Some.post.now in
    let visit_at : slice_get visits worker ≡ Some visit = slice_get_read visits (length visits) worker visit refl
    v.3.0 v.1 in
    let found : slice_get c.deref.result.now worker ≡ Some post = slice_get_read c.deref.result.now
    (length c.deref.result.now) worker post refl p.3.0 p.1 in
    let post_at : slice_get posts worker ≡ Some post = subst (λ (ps : List MemPost). slice_get ps worker ≡ Some post)
    c.deref.ensures.value found in
    let journal_met : IsMetInJournal service.setup journal visit = subst
    (λ (events : List Event). IsMetInJournal c.args.house.now.setup events visit) c.deref-else-not-tells.ensures.value
    (c.is_met_in_journal.ensures met) in
    carried c.is_met_in_acts.result
    (λ acts_met. subst (λ (o : Option Visit). IfSome o (λ visit. GetsIn service journal worker visit))
    (sym visit_at) (shown service visits journal posts c.requires worker visit post visit_at post_at journal_met
    c.acts.result.now c.talks.result.now acts_met (c.tells.ensures.0 some) c.acts.ensures.acts c.talks.ensures))
    c.is_met_in_acts.ensures
