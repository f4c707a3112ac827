use Rattle.std.proofs.Common.{[], ◌∷◌, ap, arith, length, length-append, subst, sym}
use Rattle.audit_check.specs.History.{AreIdle}
use Rattle.audit_check.proofs.KeptLemmas.{idle_more}
use Rattle.audit_check.proofs.history.no_events.Goals as goal

pub loop-i-preserved : goal.loop-i-preserved
loop-i-preserved c = record {
  same = let l = ap length c.in_ok-push.ensures.items in omega (arith, l, length-append c.loop-i.recent.items (c.new.result ∷ []), c.loop-i.invariant.same);
  none = subst AreIdle (sym c.in_ok-push.ensures.items) (idle_more c.loop-i.recent.items c.new.result c.new.ensures.items c.loop-i.invariant.none);
}
