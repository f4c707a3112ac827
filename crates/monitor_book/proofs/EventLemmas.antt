-- What a lost event is, and what it leaves as it was.
use Rattle.std.proofs.Common.{◌≡◌, ℕ, Bool, true, false, ◌&&◌, ◌||◌, not, cond, eqb, List, [], ◌∷◌, refl, sym, ap, ◌∙◌}
use Rattle.std.specs.Prelude.{filter, None}
use Rattle.std.specs.List.{last_or}
use Rattle.policy_model.specs.declared.event.Ask.{Ask}
use Rattle.policy_model.specs.declared.event.Ask.TheVariants as asks
use Rattle.policy_model.specs.declared.event.Decision.{Decision}
use Rattle.policy_model.specs.declared.event.Decision.TheVariants.{Permit, Deny, Lost}
use Rattle.policy_model.specs.declared.event.Event.{Event}
use Rattle.policy_model.specs.Asks.{is_begin, is_end, is_lost, is_permit}
use Rattle.policy_model.specs.Journal.{is_turn_of, kept_events, open_session_of}
use Rattle.policy_model.specs.Cases.{session_opened}
use Rattle.policy_model.specs.Legal.{event_with, next_event, session_of}
use Rattle.policy_model.specs.Settings.{Settings}
use Rattle.monitor_book.specs.Entering.{lost_of}

-- lost events leave every worker's session as it was
turn_kept : (worker : ℕ) (e : Event) → is_lost e.decision ≡ true → is_turn_of worker e ≡ false
turn_kept worker e lost = go (eqb e.worker worker) (is_begin e.ask) (is_end e.ask) e.decision lost where
  go : (own begin end : Bool) (d : Decision) → is_lost d ≡ true → (own && (begin || end) && is_permit d) ≡ false
  go true true end Lost h = refl
  go true false true Lost h = refl
  go true false false Lost h = refl
  go false begin end Lost h = refl
  go own begin end (Permit value) h = absurd cc
  go own begin end (Deny rule detail) h = absurd cc

turns_kept : (worker : ℕ) (journal : List Event) → filter (is_turn_of worker) (kept_events journal) ≡ filter (is_turn_of worker) journal
turns_kept worker [] = refl
turns_kept worker (e ∷ es) = go (is_lost e.decision) refl (turns_kept worker es) where
  go : (lost : Bool) → is_lost e.decision ≡ lost → filter (is_turn_of worker) (kept_events es) ≡ filter (is_turn_of worker) es → filter (is_turn_of worker) (cond (not lost) (e ∷ kept_events es) (kept_events es)) ≡ cond (is_turn_of worker e) (e ∷ filter (is_turn_of worker) es) (filter (is_turn_of worker) es)
  go false is rest = ap (λ xs. cond (is_turn_of worker e) (e ∷ xs) xs) rest
  go true is rest = rest ∙ sym (ap (λ b. cond b (e ∷ filter (is_turn_of worker) es) (filter (is_turn_of worker) es)) (turn_kept worker e is))

pub session_kept : (worker : ℕ) (journal : List Event) → open_session_of (kept_events journal) worker ≡ open_session_of journal worker
session_kept worker journal = ap (λ xs. session_opened (last_or None xs)) (turns_kept worker journal)

-- a lost event with a session
lost_event : ℕ → Ask → ℕ → Event
lost_event worker ask session = record { worker = worker; session = session; ask = ask; decision = Lost }

-- a lost event's session is that of a journal's kept events
pub lost_kept : (worker : ℕ) (ask : Ask) (journal : List Event) → event_with (kept_events journal) worker ask Lost ≡ event_with journal worker ask Lost
unfolding session_of lost_event
lost_kept worker asks.Begin journal = refl
lost_kept worker ask journal = ap (lost_event worker ask) (session_kept worker journal)

-- the event that is lost in place of the policy's
pub lost_next : (setup : Settings) (journal : List Event) (worker : ℕ) (ask : Ask) → lost_of (next_event setup journal worker ask) ≡ event_with journal worker ask Lost
unfolding session_of
lost_next setup journal worker asks.Begin = refl
lost_next setup journal worker ask = refl
