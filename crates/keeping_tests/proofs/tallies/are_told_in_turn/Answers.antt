use Rattle.std.proofs.Common.{◌≡◌, arith, length, rules, slice_set}
use Rattle.turn_cell.proofs.Ends.{all_new, all_after, set_length}
use Rattle.keeping_tests.proofs.tallies.are_told_in_turn.Goals as goal

pub close-tally-requires-clause-all : goal.close-tally-requires-clause-all
close-tally-requires-clause-all g c κs =
    let cell = c.in-Ok.cell in
    let news = c.in-Ok.passes.items in
    let count : length news ≡ 2 = search rules in
    let zero_all = all_new cell news c.in-Ok.ensures.passes in
    let one_all = all_after cell news 0 c.call-first.new.pass c.index_mut.result.now zero_all (omega arith) c.index_mut.ensures.value c.call-first.ensures.same in
    let one_count = set_length news 0 c.call-first.new.pass in
    let two_all = all_after cell _ 1 c.call-second.new.pass c.index_mut-2.result.now one_all (omega arith) c.index_mut-2.ensures.value c.call-second.ensures.same in
    let two_count = set_length (slice_set news 0 c.call-first.new.pass) 1 c.call-second.new.pass in
    all_after cell _ 0 c.call-third.new.pass c.index_mut-3.result.now two_all (omega arith) c.index_mut-3.ensures.value c.call-third.ensures.same
