-- The event that the policy gives to an ask follows the journal, and isn't lost.
use Rattle.std.proofs.Common.{◌≡◌, ℕ, false, ◌||◌, cond, List, [], ◌∷◌, ◌++◌, sym, ap, ◌∙◌, ◌<◌}
use Rattle.policy_model.specs.Runs.{IsOfWorker}
use Rattle.std.specs.List.{AllByRecursion}
use Rattle.std.proofs.lemmas.Bool.{false≢true}
use Rattle.policy_model.specs.declared.event.Ask.{Ask}
use Rattle.policy_model.specs.declared.event.Decision.TheVariants.{Lost}
use Rattle.policy_model.specs.declared.event.Event.{Event}
use Rattle.policy_model.specs.Asks.{is_lost}
use Rattle.policy_model.specs.Journal.{has_lost}
use Rattle.policy_model.specs.Legal.{IsLegal, IsNext, event_with, next_event}
use Rattle.policy_model.specs.Settings.{Settings}
use Rattle.policy_model.specs.Verdict.{verdict_of}
use Rattle.policy_model.proofs.Legal.{IsLegal-push}
use Rattle.policy_model.proofs.Runs.{has_lost-push}
use Rattle.session_laws.proofs.NeverLost.{never_lost}

pub next_event_kept : (setup : Settings) (journal : List Event) (worker : ℕ) (ask : Ask) → is_lost (next_event setup journal worker ask).decision ≡ false
next_event_kept setup journal worker ask = never_lost setup journal worker ask

pub next_event_follows : (setup : Settings) (journal : List Event) (worker : ℕ) (ask : Ask) → has_lost journal ≡ false → IsNext setup journal (next_event setup journal worker ask)
next_event_follows setup journal worker ask kept = record {
  decided = ap (λ b. event_with journal worker ask (cond b Lost (verdict_of setup journal worker ask))) (sym (never_lost setup journal worker ask));
  lost = λ h. absurd (false≢true (sym kept ∙ h));
}

-- so a legal journal without a lost decision goes on as one
pub legal_goes_on : (setup : Settings) (journal : List Event) (worker : ℕ) (ask : Ask) → IsLegal setup journal → has_lost journal ≡ false → IsLegal setup (journal ++ next_event setup journal worker ask ∷ [])
legal_goes_on setup journal worker ask legal kept = IsLegal-push setup journal (next_event setup journal worker ask) legal (next_event_follows setup journal worker ask kept)

pub kept_goes_on : (setup : Settings) (journal : List Event) (worker : ℕ) (ask : Ask) → has_lost journal ≡ false → has_lost (journal ++ next_event setup journal worker ask ∷ []) ≡ false
kept_goes_on setup journal worker ask kept = has_lost-push journal (next_event setup journal worker ask) ∙ ap (λ b. b || is_lost (verdict_of setup journal worker ask)) kept ∙ never_lost setup journal worker ask

-- and so does one whose events are all of workers that the setup has
pub workers_go_on : (setup : Settings) (journal : List Event) (e : Event) → AllByRecursion (IsOfWorker setup) journal → e.worker < setup.workers → AllByRecursion (IsOfWorker setup) (journal ++ e ∷ [])
workers_go_on setup [] e all below = (record { below = below }, tt)
workers_go_on setup (x ∷ xs) e all below = (all.0, workers_go_on setup xs e all.1 below)
