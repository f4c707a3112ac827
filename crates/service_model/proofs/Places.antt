-- The places of a worker, with more events.
use Rattle.std.proofs.Common.{◌≡◌, ◌≢◌, ℕ, ◌+◌, Bool, true, false, ◌&&◌, cond, eqb, List, [], ◌∷◌, ◌++◌, refl, sym, ap, ◌∙◌, append_assoc, count_by, eq-eqb, arith, zero-add}
use Rattle.std.proofs.lemmas.Bool.Decides.{nat_tests}
use Rattle.std.proofs.lemmas.List.{append-nil}
use Rattle.policy_model.specs.declared.event.Event.{Event}
use Rattle.policy_model.specs.Journal.{Place}
use Rattle.service_model.proofs.Lists.{count-cons}
use Rattle.service_model.specs.Cases.{place_of, worker_places_after}
use Rattle.service_model.specs.Places.{worker_places}

pub worker_places_after-append : (worker : ℕ) (before xs ys : List Event) → worker_places_after worker before (xs ++ ys) ≡ worker_places_after worker before xs ++ worker_places_after worker (before ++ xs) ys
worker_places_after-append worker before [] ys = ap (λ b. worker_places_after worker b ys) (sym (append-nil before))
worker_places_after-append worker before (x ∷ xs) ys = go (eqb x.worker worker) (worker_places_after-append worker (before ++ x ∷ []) xs ys ∙ ap (λ b. front ++ worker_places_after worker b ys) (append_assoc before (x ∷ []) xs)) where
  front : List Place
  front = worker_places_after worker (before ++ x ∷ []) xs

  all : List Place
  all = worker_places_after worker (before ++ x ∷ []) (xs ++ ys)

  go : (b : Bool) → all ≡ front ++ worker_places_after worker (before ++ (x ∷ xs)) ys → cond b (place_of before x ∷ all) all ≡ cond b (place_of before x ∷ front) front ++ worker_places_after worker (before ++ (x ∷ xs)) ys
  go true rest = ap (λ ps. place_of before x ∷ ps) rest
  go false rest = rest

one_place : (worker : ℕ) (before : List Event) (e : Event) → worker_places (before ++ e ∷ []) worker ≡ worker_places before worker ++ cond (eqb e.worker worker) (place_of before e ∷ []) []
one_place worker before e = worker_places_after-append worker [] before (e ∷ [])

-- an event of the worker is one place more
pub worker_places-own : (worker : ℕ) (before : List Event) (e : Event) → e.worker ≡ worker → worker_places (before ++ e ∷ []) worker ≡ worker_places before worker ++ place_of before e ∷ []
worker_places-own worker before e its =
    let same : eqb e.worker worker ≡ true = eq-eqb e.worker worker its in
    one_place worker before e ∙ ap (λ b. worker_places before worker ++ cond b (place_of before e ∷ []) []) same

-- an event of another worker is none
pub worker_places-other : (worker : ℕ) (before : List Event) (e : Event) → e.worker ≢ worker → worker_places (before ++ e ∷ []) worker ≡ worker_places before worker
worker_places-other worker before e other =
    let apart : eqb e.worker worker ≡ false = grind (arith, nat_tests, other) in
    one_place worker before e ∙ ap (λ b. worker_places before worker ++ cond b (place_of before e ∷ []) []) apart ∙ append-nil (worker_places before worker)

count_after : (f : Event → Bool) (worker : ℕ) (before journal : List Event) → count_by (λ e. eqb e.worker worker && f e) journal ≡ count_by (λ p. f p.event) (worker_places_after worker before journal)
count_after f worker before [] = refl
count_after f worker before (e ∷ es) =
    count-cons (λ x. eqb x.worker worker && f x) e es
    ∙ ap (λ n. cond (eqb e.worker worker && f e) 1 0 + n) (count_after f worker (before ++ e ∷ []) es)
    ∙ go (eqb e.worker worker) where
      rest : List Place
      rest = worker_places_after worker (before ++ e ∷ []) es

      go : (b : Bool) → cond (b && f e) 1 0 + count_by (λ p. f p.event) rest ≡ count_by (λ p. f p.event) (cond b (place_of before e ∷ rest) rest)
      go true = sym (count-cons (λ p. f p.event) (place_of before e) rest)
      go false = zero-add (count_by (λ p. f p.event) rest)

-- the events of a worker that pass a test, by its places
pub count_of-places : (f : Event → Bool) (worker : ℕ) (journal : List Event) → count_by (λ e. eqb e.worker worker && f e) journal ≡ count_by (λ p. f p.event) (worker_places journal worker)
count_of-places f worker journal = count_after f worker [] journal
