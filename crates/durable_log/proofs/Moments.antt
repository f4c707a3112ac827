-- How what holds at each moment goes on.
use Rattle.std.proofs.Common.{◌≡◌, ℕ, ◌+◌, ◌*◌, ◌<◌, ◌≤◌, List, [], ◌∷◌, ◌++◌, length, refl, sym, subst, arith, length-append}
use Rattle.std.proofs.lemmas.List.{take_at, take_all, take-append-le}
use Rattle.durable_log.specs.Disk.{AtEachMoment, DiskState}
use Rattle.durable_log.specs.Records.{HasRecords}
use Rattle.durable_log.specs.Journal.{HasAnswered}

-- what holds at each moment up to one implies the next
pub weaken : (since : ℕ) (P Q : ℕ → List ℕ → Type 0) (states : List DiskState) → ((k : ℕ) (image : List ℕ) → since ≤ k → k < length states → P k image → Q k image) → AtEachMoment since P states → AtEachMoment since Q states
weaken since P Q [] step all = tt
weaken since P Q (state ∷ older) step all = (
  λ here image left. step (length older) image here (omega arith) (all.0 here image left),
  weaken since P Q older (λ k image from below. step k image from (omega arith)) all.1,
)

module _ (given : List (List ℕ)) (piece : List ℕ) (first : ℕ) where
  abbrev more : List (List ℕ)
  more = given ++ piece ∷ []

  length-more : length more ≡ length given + 1
  length-more = length-append given (piece ∷ [])

  -- as a record's calls begin, its piece is given too
  pub begins : (answered : ℕ) (states : List DiskState) → length given ≤ answered → length states ≤ first + 4 * length given + 1
      → AtEachMoment first (HasAnswered given (length given) first) states → AtEachMoment first (HasAnswered more answered first) states
  begins answered states enough few all = weaken first (HasAnswered given (length given) first) (HasAnswered more answered first) states step all
    where
      step : (k : ℕ) (image : List ℕ) → first ≤ k → k < length states → HasAnswered given (length given) first k image → HasAnswered more answered first k image
      step k image from below has = record {
        count = has.count;
        least_of = omega (arith, has.least_of, few, below, from, enough);
        most_of = omega (arith, has.most_of, length-more);
        records = subst (λ (l : List (List ℕ)). HasRecords image l) (sym (take-append-le has.count given (piece ∷ []) (omega (arith, has.most_of)))) has.records;
      }

  -- before it is opened an image has the records before
  pub not_yet : (answered k : ℕ) (image : List ℕ) → first + 4 * length given + 1 ≤ k → k ≤ first + 4 * length given + 3 → HasRecords image given → HasAnswered more answered first k image
  not_yet answered k image from to has = record {
    count = length given;
    least_of = omega (arith, from, to);
    most_of = omega (arith, from, to, length-more);
    records = subst (λ (l : List (List ℕ)). HasRecords image l) (sym (take_at given (piece ∷ []) (length given) refl)) has;
  }

  -- where it isn't answered an image has those before too
  pub not_answered : (k : ℕ) (image : List ℕ) → first + 4 * length given + 1 ≤ k → HasRecords image given → HasAnswered more (length given) first k image
  not_answered k image from has = record {
    count = length given;
    least_of = omega (arith, from);
    most_of = omega (arith, from, length-more);
    records = subst (λ (l : List (List ℕ)). HasRecords image l) (sym (take_at given (piece ∷ []) (length given) refl)) has;
  }

  -- once its calls began an image may have it
  pub already : (answered k : ℕ) (image : List ℕ) → first + 4 * length given + 1 ≤ k → answered ≤ length given + 1 → HasRecords image more → HasAnswered more answered first k image
  already answered k image from few has = record {
    count = length given + 1;
    least_of = omega (arith, from, few);
    most_of = omega (arith, from, length-more);
    records = subst (λ (l : List (List ℕ)). HasRecords image l) (sym (take_all (length given + 1) more (omega (arith, length-more)))) has;
  }

-- nothing is asked of the moments before
pub too_early : (since : ℕ) (P : ℕ → List ℕ → Type 0) (states : List DiskState) → length states ≤ since → AtEachMoment since P states
too_early since P [] few = tt
too_early since P (state ∷ older) few = (λ from image left. absurd (omega arith), too_early since P older (omega arith))
