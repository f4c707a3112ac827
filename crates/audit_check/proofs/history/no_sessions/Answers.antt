use Rattle.std.proofs.Common.{[], ◌∷◌, ap, arith, length, length-append, subst, sym}
use Rattle.audit_check.specs.Seats.{AreVacant, vacant}
use Rattle.audit_check.proofs.SeatLemmas.{vacant_more}
use Rattle.audit_check.proofs.history.no_sessions.Goals as goal

pub loop-i-preserved : goal.loop-i-preserved
loop-i-preserved c = record {
  same = let l = ap length c.in_ok-push.ensures.items in omega (arith, l, length-append c.loop-i.seats.items (vacant ∷ []), c.loop-i.invariant.same);
  none = subst AreVacant (sym c.in_ok-push.ensures.items) (vacant_more c.loop-i.seats.items c.loop-i.invariant.none);
}
