-- Believed: what is counted of a journal.
use Rattle.std.specs.Prelude.{ℕ, Bool, true, false, ◌==◌, List, count_by}
use Rattle.policy_model.specs.declared.event.Ask.{Ask}
use Rattle.policy_model.specs.declared.event.Ask.TheVariants as asks
use Rattle.policy_model.specs.declared.event.Decision.{Decision}
use Rattle.policy_model.specs.declared.event.Decision.TheVariants as decisions
use Rattle.policy_model.specs.declared.event.Event.{Event}
use Rattle.policy_model.specs.declared.event.Why.{Why}
use Rattle.policy_model.specs.declared.event.Why.TheVariants as whys
use Rattle.policy_model.specs.Asks.{accepts, is_permit, opens}
use Rattle.drill_mode.specs.declared.counted.Counted.{Counted}
use Rattle.drill_mode.specs.declared.counted.Counted.TheVariants.{Accepted, Denied, End, Events, Permitted, Rule}
use Rattle.drill_mode.specs.declared.counted.Counted.TheVariants.{Sessions}
use Rattle.drill_mode.specs.declared.counted.EndKind.{EndKind}
use Rattle.drill_mode.specs.declared.counted.EndKind.TheVariants as kinds

-- a denial, by whatever rule
abbrev pub is_denial : Decision → Bool
is_denial (decisions.Deny rule detail) = true
is_denial _ = false

-- a denial by this rule
abbrev pub is_denial_by : ℕ → Decision → Bool
is_denial_by rule (decisions.Deny first detail) = first == rule
is_denial_by rule _ = false

-- the reason of an end is of this kind
abbrev pub is_of_kind : EndKind → Why → Bool
is_of_kind kinds.Finished whys.Finished = true
is_of_kind kinds.ChildEnded whys.ChildEnded = true
is_of_kind kinds.Truncated whys.Truncated = true
is_of_kind kinds.BadFrame (whys.BadFrame len) = true
is_of_kind kinds.Violation (whys.Violation rule) = true
is_of_kind kinds.LinkFault whys.LinkFault = true
is_of_kind kinds.KeeperFault whys.KeeperFault = true
is_of_kind kinds.LogLost whys.LogLost = true
is_of_kind _ _ = false

-- an end of this kind
abbrev pub is_end_of : EndKind → Ask → Bool
is_end_of kind (asks.End why) = is_of_kind kind why
is_end_of kind _ = false

-- an event is one that this count counts
abbrev pub is_counted : Counted → Event → Bool
is_counted Sessions e = opens e
is_counted Events e = true
is_counted Permitted e = is_permit e.decision
is_counted Denied e = is_denial e.decision
is_counted Accepted e = accepts e
is_counted (Rule rule) e = is_denial_by rule e.decision
is_counted (End kind) e = is_end_of kind e.ask

-- how many events of a journal a count counts
abbrev pub count_in : List Event → Counted → ℕ
count_in journal counted = count_by (is_counted counted) journal
