use Rattle.std.proofs.Common.{◌≡◌, ◌<◌, ◌+◌, ◌-◌, List, length, take, get_or, subst, ◌∙◌, arith}
use Rattle.std.proofs.lemmas.List.{get_or_default}
use Rattle.otp_ledger.specs.declared.kept.Kept.{Kept}
use Rattle.otp_ledger.proofs.MergeLemmas.{IsMerging, absent_in, absent_in_front, merging_ends, merging_goes_on}
use Rattle.otp_ledger.proofs.merging.merge_last.Goals as goal

abbrev pub no_entry : Kept
no_entry = record { account = 0; password = 0 }

pub move_up-end-requires-clause-absent : goal.move_up-end-requires-clause-absent
move_up-end-requires-clause-absent c =
    let recent = c.args.recent.now in
    let settled : List Kept = take c.args.settled c.args.kept.now.items in
    let m = c.loop-left.invariant.merging in
    let place = c.loop-left.left - 1 in
    let in' : c.loop-left.left - 1 < length recent = omega (arith, m.left_within, c.loop-left-test.true) in
    let entry : Kept = get_or recent place no_entry in
    absent_in_front settled c.loop-left.kept.items c.loop-left.end entry.account entry.password m.front (absent_in settled recent place entry c.requires.split in' (λ d. get_or_default recent place d no_entry in'))

pub loop-left-preserved : goal.loop-left-preserved
loop-left-preserved c =
    let recent = c.args.recent.now in
    let settled : List Kept = take c.args.settled c.args.kept.now.items in
    let m = c.loop-left.invariant.merging in
    let place = c.loop-left.left - 1 in
    let in' : c.loop-left.left - 1 < length recent = omega (arith, m.left_within, c.loop-left-test.true) in
    let entry : Kept = get_or recent place no_entry in
    let one : c.loop-left.left ≡ (c.loop-left.left - 1) + 1 = omega (arith, c.loop-left-test.true) in
    let again : IsMerging settled recent c.loop-left.kept.items c.loop-left.end (place + 1) = subst (IsMerging settled recent c.loop-left.kept.items c.loop-left.end) one m in
    let long : length c.move_up-end.new.kept.items ≡ length c.loop-left.kept.items = omega (arith, c.move_up-end.ensures.len, c.move_up-end.new.kept.ok.0, c.loop-left.kept.ok.0) in
    record {
      merging = merging_goes_on settled recent c.loop-left.kept.items c.move_up-end.new.kept.items c.loop-left.end place c.move_up-end.result entry c.requires.split again (λ d. get_or_default recent place d no_entry in') long c.move_up-end.ensures.moved;
      len = c.move_up-end.ensures.len ∙ c.loop-left.invariant.len;
      capacity = c.move_up-end.ensures.capacity ∙ c.loop-left.invariant.capacity;
    }

pub returns-clause-merged : goal.returns-clause-merged
returns-clause-merged c =
    merging_ends (take c.args.settled c.args.kept.now.items) c.args.recent.now c.loop-left.kept.items c.loop-left.end c.loop-left.left (omega (arith, c.loop-left-test.false)) c.requires.split c.loop-left.invariant.merging
