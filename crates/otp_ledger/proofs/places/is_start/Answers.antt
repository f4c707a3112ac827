use Rattle.std.proofs.Common.{arith, sym, ◌∙◌}
use Rattle.otp_ledger.proofs.PartLemmas.{start_from}
use Rattle.otp_ledger.proofs.places.is_start.Goals as goal

pub returns-else-first-eq0 : goal.returns-else-first-eq0
returns-else-first-eq0 c is = start_from c.args.kept.now c.args.first c.args.entry.now _ c.requires.rising (omega (arith, c.if-first-eq0.false)) c.requires.within (sym c.is_below.ensures ∙ is)
