-- The places of a worker, where others alone lengthened the journal.
use Rattle.std.proofs.Common.{◌≡◌, Bool, true, false, cond, eqb, ℕ, List, [], ◌∷◌, ◌++◌, refl, sym, ap, ◌∙◌, append-nil, filter, ◌==◌}
use Rattle.std.proofs.lemmas.List.{append_cancel_left}
use Rattle.std.proofs.lemmas.List.Elements.{filter-append}
use Rattle.service_model.proofs.Places.{worker_places_after-append}
use Rattle.service_model.specs.Places.{worker_places}
use Rattle.service_model.specs.Cases.{place_of, worker_places_after}
use Rattle.policy_model.specs.declared.event.Event.{Event}
use Rattle.turn_cell.specs.Facts.{StartsWith}

-- the events of a worker, in order
abbrev pub own : ℕ → List Event → List Event
own worker journal = filter (λ e. e.worker == worker) journal

pub own-append : (worker : ℕ) (old rest : List Event) → own worker (old ++ rest) ≡ own worker old ++ own worker rest
own-append worker old rest = filter-append (λ e. eqb e.worker worker) old rest

-- where a worker has as many events as before, none of those that follow is its own
pub none_joined : (worker : ℕ) (old rest : List Event) → own worker (old ++ rest) ≡ own worker old → own worker rest ≡ []
none_joined worker old rest same = append_cancel_left (own worker old) (own worker rest) [] (sym (own-append worker old rest) ∙ same ∙ sym (append-nil (own worker old)))

no_places : (worker : ℕ) (before rest : List Event) → own worker rest ≡ [] → worker_places_after worker before rest ≡ []
no_places worker before [] h = refl
no_places worker before (e ∷ es) h = go (eqb e.worker worker) h (no_places worker (before ++ e ∷ []) es) where
  go : (b : Bool) → cond b (e ∷ own worker es) (own worker es) ≡ [] → (own worker es ≡ [] → worker_places_after worker (before ++ e ∷ []) es ≡ []) → cond b (place_of before e ∷ worker_places_after worker (before ++ e ∷ []) es) (worker_places_after worker (before ++ e ∷ []) es) ≡ []
  go true h rest = absurd cc
  go false h rest = rest h

-- a longer journal with the same events of a worker has the same places of it
pub places_by_events : (worker : ℕ) (old rest : List Event) → own worker (old ++ rest) ≡ own worker old → worker_places (old ++ rest) worker ≡ worker_places old worker
places_by_events worker old rest same =
    worker_places_after-append worker [] old rest ∙ ap (λ ps. worker_places old worker ++ ps) (no_places worker old rest (none_joined worker old rest same)) ∙ append-nil (worker_places old worker)

-- the places of a worker by the whole history are those by what its pass has seen
pub places_of_all : (worker : ℕ) (seen history : List Event) → StartsWith history seen → own worker history ≡ own worker seen → worker_places history worker ≡ worker_places seen worker
places_of_all worker seen history (rest, is) same =
    ap (λ journal. worker_places journal worker) is ∙ places_by_events worker seen rest (sym (ap (own worker) is) ∙ same)
