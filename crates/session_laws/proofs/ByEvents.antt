-- What holds of no event, and goes on by each event that may follow, holds of a legal journal.
use Rattle.std.proofs.Common.{ℕ, zero, suc, ◌≤◌, ◌<◌, List, [], ◌∷◌, ◌++◌, length, get_or, take, sym, subst, arith}
use Rattle.std.proofs.Math.Seq.{take-suc}
use Rattle.std.proofs.lemmas.List.{take_all}
use Rattle.policy_model.specs.declared.event.Ask.TheVariants as asks
use Rattle.policy_model.specs.declared.event.Decision.TheVariants.{Lost}
use Rattle.policy_model.specs.declared.event.Event.{Event}
use Rattle.policy_model.specs.Legal.{IsLegal, IsNext}
use Rattle.policy_model.specs.Settings.{Settings}
use Rattle.policy_model.proofs.Legal.{IsLegal-none, IsLegal-push}

-- any event
pub some_event : Event
some_event = record { worker = 0; session = 0; ask = asks.Begin; decision = Lost }

pub by_events : (setup : Settings) (P : List Event → Type 0) → P [] → ((journal : List Event) (e : Event) → IsNext setup journal e → P journal → P (journal ++ e ∷ [])) → (journal : List Event) → IsLegal setup journal → P journal
by_events setup P none more journal legal = subst P (take_all (length journal) journal (omega arith)) (go (length journal) (omega arith)) where
  go : (k : ℕ) → k ≤ length journal → P (take k journal)
  go zero le = none
  go (suc k) le =
      let lt : k < length journal = omega arith in
      subst P (sym (take-suc journal k some_event lt)) (more (take k journal) (get_or journal k some_event) (legal k some_event lt) (go k (omega arith)))

-- the same, where the front is known to be legal
pub by_legal_events : (setup : Settings) (P : List Event → Type 0) → P [] → ((journal : List Event) (e : Event) → IsLegal setup journal → IsNext setup journal e → P journal → P (journal ++ e ∷ [])) → (journal : List Event) → IsLegal setup journal → P journal
by_legal_events setup P none more journal legal = (by_events setup (λ j. IsLegal setup j × P j) (IsLegal-none setup, none) (λ j e next h. (IsLegal-push setup j e h.0 next, more j e h.0 next h.1)) journal legal).1
