use Rattle.std.proofs.Common.{◌≡◌, ◌<◌, ℕ, List, length, drop, sym, ap, subst, ◌∙◌, arith}
use Rattle.std.specs.List.{All}
use Rattle.std.specs.Prelude.{Option as Maybe, slice_index_or}
use Rattle.turn_cell.specs.Facts.{PassFacts, first_pass, StartsWith, replies_of}
use Rattle.tally.proofs.Written.{written_whole, all_written}
use Rattle.tally.proofs.threads.call_all.Goals as goal

pub close-requires-clause-all : goal.close-requires-clause-all
close-requires-clause-all g c κs within =
    all_written c.in_ok-cell.cell c.in_ok-cell.passes.items c.deref_mut.result.now c.call_from_all.new.passes c.in_ok-cell.passes.len c.in_ok-cell.ensures.passes c.deref_mut.ensures.value (let b = c.in_ok-cell.passes.ok in omega arith) c.call_from_all.auto.passes c.call_from_all.ensures.same

pub returns-clause-calls : goal.returns-clause-calls
returns-clause-calls g c n h =
    let d : PassFacts g.row.O-Reply.Denot (Maybe g.row.O-Terms.Denot) = first_pass c.in_ok-cell.cell 0 in
    let p = slice_index_or c.call_from_all.new.passes n d in
    let news = c.in_ok-cell.ensures.passes in
    let cell = c.in_ok-cell.ensures.cell in
    let low_new : n < length c.in_ok-cell.passes.items = let a = news.0 in let b = cell.1 in omega arith in
    let old_is : slice_index_or c.deref_mut.result.now n d ≡ first_pass c.in_ok-cell.cell n = ap (λ (l : List (PassFacts g.row.O-Reply.Denot (Maybe g.row.O-Terms.Denot))). slice_index_or l n d) c.deref_mut.ensures.value ∙ news.1 n d low_new in
    let low : n < length c.deref_mut.result.now = let a = ap (λ (l : List (PassFacts g.row.O-Reply.Denot (Maybe g.row.O-Terms.Denot))). length l) c.deref_mut.ensures.value in omega arith in
    let news_len : length c.call_from_all.new.passes ≡ length c.deref_mut.result.now = c.call_from_all.auto.passes in
    let low_after : n < length c.call_from_all.new.passes = omega arith in
    let number : p.number ≡ n = (c.call_from_all.ensures.same n d low).0 ∙ ap (λ (q : PassFacts g.row.O-Reply.Denot (Maybe g.row.O-Terms.Denot)). q.number) old_is in
    let none_yet : length (slice_index_or c.deref_mut.result.now n d).mine ≡ 0 = ap (λ (q : PassFacts g.row.O-Reply.Denot (Maybe g.row.O-Terms.Denot)). length q.mine) old_is in
    let made : length p.mine ≡ c.args.times = let a = c.call_from_all.ensures.mine n d low in omega arith in
    let same_len : c.in_ok-cell.passes.len ≡ length c.call_from_all.new.passes = let a = ap (λ (l : List (PassFacts g.row.O-Reply.Denot (Maybe g.row.O-Terms.Denot))). length l) c.deref_mut.ensures.value in let b = c.in_ok-cell.passes.ok in omega arith in
    let back = written_whole c.call_from_all.new.passes (drop (length c.call_from_all.new.passes) c.in_ok-cell.passes.items) c.in_ok-cell.passes.len same_len in
    let P : PassFacts g.row.O-Reply.Denot (Maybe g.row.O-Terms.Denot) → Type 0 = λ q. StartsWith (g.O.Object.history c.close.result) q.seen × (replies_of g.O.Object.owner q.number (g.O.Object.history c.close.result) ≡ q.mine) in
    let own = (subst (λ (l : List (PassFacts g.row.O-Reply.Denot (Maybe g.row.O-Terms.Denot))). All P l) back c.close.ensures.passes n d low_after).1 in
    ap (λ (k : ℕ). length (replies_of g.O.Object.owner k (g.O.Object.history c.close.result))) (sym number) ∙ (ap (λ (l : List g.row.O-Reply.Denot). length l) own ∙ made)
