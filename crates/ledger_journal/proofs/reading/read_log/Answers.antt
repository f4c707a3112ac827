use Rattle.std.proofs.Common.{◌++◌, ◌∷◌, [], arith}
use Rattle.std.proofs.lemmas.List.Elements.{All-nil}
use Rattle.ledger_journal.proofs.ImageLemmas.{Short, cut_has_none, marked, short_on, walk_on, walked_len}
use Rattle.ledger_journal.proofs.reading.read_log.Goals as goal

pub loop-bytes-init : goal.loop-bytes-init
loop-bytes-init c = record {
  records = [];
  image_is = marked c.args.image.now c.in-Some.rest.now c.in-Some.ensures.cases.0 c.in-Some.ensures.cases.1;
  short = All-nil Short;
  read = c.new-log.ensures c.args.setup.now;
}

pub read-requires-clause-fits : goal.read-requires-clause-fits
read-requires-clause-fits c =
    let inv = c.loop-bytes.invariant in
    omega (arith, inv.read.counted, walked_len c.args.image.now inv.records c.loop-bytes.rest.now inv.image_is)

pub loop-bytes-preserved : goal.loop-bytes-preserved
loop-bytes-preserved c =
    let inv = c.loop-bytes.invariant in
    record {
      records = inv.records ++ c.in-Opened.bytes.now ∷ [];
      image_is = walk_on c.args.image.now inv.records c.loop-bytes.rest.now c.in-Opened.bytes.now c.in-Opened.behind.now inv.image_is c.in-Opened.ensures;
      short = short_on inv.records c.loop-bytes.rest.now c.in-Opened.bytes.now c.in-Opened.behind.now inv.short c.in-Opened.ensures;
      read = c.in_ok-read-in-Opened.ensures inv.records inv.read;
    }

pub returns-in-Cut : goal.returns-in-Cut
returns-in-Cut c =
    let inv = c.loop-bytes.invariant in
    cut_has_none c.args.image.now inv.records c.loop-bytes.rest.now inv.image_is inv.short c.in-Cut.ensures
