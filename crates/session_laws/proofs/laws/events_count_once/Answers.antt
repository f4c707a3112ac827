use Rattle.session_laws.proofs.Counts.{counts_own, leaves_others}
use Rattle.session_laws.proofs.laws.events_count_once.Goals as goal

pub returns : goal.returns
returns c = λ journal e. record { own = counts_own journal e; others = leaves_others journal e }
