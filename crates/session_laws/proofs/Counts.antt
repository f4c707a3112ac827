-- What one more event makes of what is counted of each session, in one.
use Rattle.std.proofs.Common.{◌≢◌, ℕ, List, refl}
use Rattle.policy_model.specs.declared.event.Event.{Event}
use Rattle.session_laws.specs.Counted.{CountsForItsOwn, LeavesOthers}
use Rattle.session_laws.proofs.SessionEvents.{ask_count-other, ask_count-own, count_of-other, count_of-own, has_event-other, has_event-own}
use Rattle.session_laws.proofs.UserLemmas.{challenged_user-other, challenged_user-own, verified_user-other, verified_user-own, was_decoyed-other, was_decoyed-own}

pub counts_own : (journal : List Event) (e : Event) → CountsForItsOwn journal e
counts_own journal e = record {
  asked = ask_count-own journal e e.session refl;
  counted = λ test. count_of-own journal e e.session test refl;
  seen = λ test. has_event-own journal e e.session test refl;
  challenged = challenged_user-own journal e e.session refl;
  decoyed = was_decoyed-own journal e e.session refl;
  verified = verified_user-own journal e e.session refl;
}

pub leaves_others : (journal : List Event) (e : Event) (session : ℕ) → e.session ≢ session → LeavesOthers journal e session
leaves_others journal e session other = record {
  asked = ask_count-other journal e session other;
  counted = λ test. count_of-other journal e session test other;
  seen = λ test. has_event-other journal e session test other;
  challenged = challenged_user-other journal e session other;
  decoyed = was_decoyed-other journal e session other;
  verified = verified_user-other journal e session other;
}
