-- What a book keeps of its log.
use Rattle.std.proofs.Common.{◌≡◌, ℕ, zero, suc, ◌<◌, Bool, true, false, cond, eqb, eq-eqb, List, [], ◌∷◌, ◌++◌, length, take, Option, Some, None, refl, sym, ap, subst, ◌∙◌, append-nil, arith}
use Rattle.std.specs.Prelude.{slice_index_or}
use Rattle.std.specs.List.{All, AllByRecursion}
use Rattle.service_model.specs.Places.{worker_places}
use Rattle.service_model.specs.Cases.{worker_places_after}
use Rattle.monitor_book.specs.declared.opened.Held.{Held}
use Rattle.monitor_book.specs.declared.opened.Opened.{Opened}
use Rattle.monitor_book.specs.Kept.{BookParts, IsBook}
use Rattle.monitor_book.specs.Lines.{AppendsLines, HoldsLines, IsUnwritten, LogMatches}
use Rattle.monitor_book.proofs.LogLemmas.{unwritten}
use Rattle.outside.specs.Told.{Gains, Goes}
use Rattle.policy_model.specs.declared.event.Event.{Event}
use Rattle.policy_model.specs.Journal.{has_lost}
use Rattle.policy_model.specs.Runs.{IsOfWorker, IsRun}
use Rattle.policy_model.specs.Settings.{Settings}
use Rattle.session_core.specs.Parts.{setup_of}
use Rattle.session_turns.specs.Passes.{BookPass, IsHeldBy, opened_of}
use Rattle.turn_cell.specs.Facts.{AreNewPasses, CellFacts, first_pass}
use Rattle.monitor_run.specs.Prepared.{LogStays}

-- a log that is as it was
pub log_same : (before after : Held) (faults_old faults_new : ℕ) → after ≡ before → faults_new ≡ faults_old → LogStays before after faults_old faults_new
log_same before after faults_old faults_new same faults = record { held = subst (λ held. IsUnwritten before held) (sym same) (unwritten before); faults = faults }

take-nothing : (n : ℕ) → take {A = ℕ} n [] ≡ []
take-nothing zero = refl
take-nothing (suc n) = refl

-- nothing was written for no event
no_line : (setup : Settings) (before after : Option (List ℕ)) → Goes (HoldsLines setup []) before after → Gains before [] after
no_line setup before None lines = tt
no_line setup None (Some after) lines = absurd lines
no_line setup (Some before) (Some after) lines = lines.lines.1 ∙ ap (λ t. (before ++ []) ++ t) (take-nothing lines.lines.0) ∙ append-nil (before ++ [])

no_append : (before after : Option (List ℕ)) → Goes (AppendsLines []) before after → Gains before [] after
no_append before None appends = tt
no_append None (Some after) appends = absurd appends
no_append (Some before) (Some after) appends = appends.appends.1 ∙ append-nil (before ++ [])

nothing_held : (setup : Settings) (before after : Held) → LogMatches setup [] before after → IsUnwritten before after
nothing_held setup before after log = record {
  bytes = no_line setup before.bytes after.bytes log.lines;
  lengths = no_append before.lengths after.lengths log.appends;
}

pub nothing_logged : (book : BookParts) → IsBook book → book.journal ≡ [] → LogStays book.held_first book.held book.faults_first book.faults
nothing_logged book is none = record {
  held = nothing_held (setup_of book.core) book.held_first book.held (subst (λ j. LogMatches (setup_of book.core) j book.held_first book.held) none is.logged.lines);
  faults = is.logged.kept (ap has_lost none);
}

-- ---- a cell that nobody called

-- where each worker of the setup has no place, there is no event
no_events : (setup : Settings) (journal : List Event) → AllByRecursion (IsOfWorker setup) journal → ((worker : ℕ) → worker < setup.workers → worker_places journal worker ≡ []) → journal ≡ []
no_events setup [] all none = refl
no_events setup (e ∷ es) all none = absurd (go (eqb e.worker e.worker) (eq-eqb e.worker e.worker refl) (none e.worker all.0.below)) where
  go : (b : Bool) → b ≡ true → cond b (record { before = []; event = e } ∷ worker_places_after e.worker (e ∷ []) es) (worker_places_after e.worker (e ∷ []) es) ≡ [] → ⊥
  go true is places = absurd cc
  go false is places = absurd cc

pub none_called : (setup : Settings) (place : CellFacts (Option Opened)) (passes : List BookPass) (journal : List Event) → IsRun setup journal → place.passes ≡ setup.workers → AreNewPasses place passes → All (IsHeldBy journal) passes → journal ≡ []
none_called setup place passes journal run count new held = no_events setup journal run.workers none where
  none : (worker : ℕ) → worker < setup.workers → worker_places journal worker ≡ []
  none worker lt =
      let within : worker < length passes = omega (arith, new.0, count, lt) in
      let first : slice_index_or passes worker (first_pass place worker) ≡ first_pass place worker = new.1 worker (first_pass place worker) within in
      let holds = subst (IsHeldBy journal) first (held worker (first_pass place worker) within) in
      holds.1

-- the log of a run that nobody was served by
pub unserved_log : (setup : Settings) (place : CellFacts (Option Opened)) (passes : List BookPass) (book : BookParts) (terms : Option Opened) (held : Held) (faults : ℕ) → IsBook book → terms ≡ Some (record { setup = setup; held = held; faults = faults }) → terms ≡ Some (opened_of book) → place.passes ≡ setup.workers → AreNewPasses place passes → All (IsHeldBy book.journal) passes → LogStays held book.held faults book.faults
unserved_log setup place passes book terms held faults is told opened count new all =
    let same : record { setup = setup; held = held; faults = faults } ≡ opened_of book = opened_once _ _ (sym told ∙ opened) in
    let setup_is : setup_of book.core ≡ setup = sym (ap (λ (o : Opened). o.setup) same) in
    let none = none_called setup place passes book.journal (subst (λ s. IsRun s book.journal) setup_is is.history.run) count new all in
    let stays = nothing_logged book is none in
    subst (λ (o : Opened). LogStays o.held book.held o.faults book.faults) (sym same) stays
  where
    opened_once : (a b : Opened) → Some a ≡ Some b → a ≡ b
    opened_once a b e = cc
