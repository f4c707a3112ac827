use Rattle.std.proofs.Common.{arith, sym, ◌∙◌}
use Rattle.otp_ledger.proofs.PartLemmas.{stop_from}
use Rattle.otp_ledger.proofs.places.is_stop.Goals as goal

pub returns-else-end-kept : goal.returns-else-end-kept
returns-else-end-kept c is = stop_from c.args.kept.now c.args.end c.args.entry.now _ c.requires.rising (omega (arith, c.requires.within, c.if-end-kept.false)) (sym c.is_below.ensures ∙ is)
