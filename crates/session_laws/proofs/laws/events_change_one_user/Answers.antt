use Rattle.session_laws.proofs.Settling.{accepts_next, leaves_others, leaves_user, live_reserves, reserves_live, unaccepted}
use Rattle.session_laws.proofs.laws.events_change_one_user.Goals as goal

pub returns : goal.returns
returns c = λ setup journal e follows. record {
  reserved = λ user reserved. reserves_live setup journal e user follows.next reserved;
  live = λ user account in_range taken found live. live_reserves setup journal e user account in_range follows.next taken found live;
  accepted = accepts_next setup journal e follows.legal follows.next;
  others = λ user kept other. leaves_others setup journal e user follows.legal follows.next kept other;
  left = λ user kept silent apart. leaves_user setup journal e user follows.legal follows.next kept (unaccepted journal e user silent) apart;
}
