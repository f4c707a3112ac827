use Rattle.std.proofs.Common.{◌≡◌, ap, arith, length, ◌∙◌}
use Rattle.session_turns.proofs.Passes.{one_back}
use Rattle.serving_tests.proofs.turns.a_session_begins_and_ends.Goals as goal

pub close_cell-requires-clause-all : goal.close_cell-requires-clause-all
close_cell-requires-clause-all g c κs =
    let count : c.in-Ok.cell.passes ≡ 1 = c.in-Ok.ensures.cell.1 ∙ ap (λ s. s.workers) (c.in_ok-book.ensures.setup ∙ c.in_ok-setup.ensures) in
    let long : length c.in-Ok.passes.items ≡ 1 = c.in-Ok.ensures.new.0 ∙ count in
    let old = c.index_mut.result.now in
    let number : c.serve_at_cell-permitted.new.pass.number ≡ 0 = c.serve_at_cell-permitted.ensures.number ∙ ap (λ p. p.number) (c.index_mut.ensures.value ∙ c.in-Ok.ensures.new.1 0 old (omega (arith, long))) in
    (one_back c.in_ok-setup.setup c.in-Ok.cell c.in-Ok.passes.items c.serve_at_cell-permitted.new.pass long count c.serve_at_cell-permitted.ensures.may number).0

pub close_cell-requires-clause-own : goal.close_cell-requires-clause-own
close_cell-requires-clause-own g c κs =
    let count : c.in-Ok.cell.passes ≡ 1 = c.in-Ok.ensures.cell.1 ∙ ap (λ s. s.workers) (c.in_ok-book.ensures.setup ∙ c.in_ok-setup.ensures) in
    let long : length c.in-Ok.passes.items ≡ 1 = c.in-Ok.ensures.new.0 ∙ count in
    let old = c.index_mut.result.now in
    let number : c.serve_at_cell-permitted.new.pass.number ≡ 0 = c.serve_at_cell-permitted.ensures.number ∙ ap (λ p. p.number) (c.index_mut.ensures.value ∙ c.in-Ok.ensures.new.1 0 old (omega (arith, long))) in
    (one_back c.in_ok-setup.setup c.in-Ok.cell c.in-Ok.passes.items c.serve_at_cell-permitted.new.pass long count c.serve_at_cell-permitted.ensures.may number).1
