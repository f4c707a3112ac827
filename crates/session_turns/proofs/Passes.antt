-- A worker's pass: at the start, after a call, and at the end of the run.
use Rattle.std.proofs.Common.{◌≡◌, ℕ, ◌+◌, ◌-◌, ◌<◌, List, [], ◌∷◌, ◌++◌, Option, length, slice_index_or, slice_set, zero, suc, refl, sym, ap, subst, ◌∙◌, arith, length-append}
use Rattle.std.specs.List.{All, Any}
use Rattle.monitor_book.specs.declared.opened.Opened.{Opened}
use Rattle.monitor_book.specs.Kept.{worker_of}
use Rattle.policy_model.specs.declared.event.Ask.{Ask}
use Rattle.policy_model.specs.declared.event.Event.{Event}
use Rattle.policy_model.specs.Runs.{IsRun}
use Rattle.policy_model.specs.Settings.{Settings}
use Rattle.policy_model.proofs.Runs.{IsRun-none}
use Rattle.service_model.specs.Places.{worker_places}
use Rattle.turn_cell.specs.Facts.{AreAllPasses, AreNewPasses, CellFacts, HoldsPass, first_pass, replies_of}
use Rattle.turn_cell.specs.Turns.{LegalAt}
use Rattle.session_turns.specs.Joins.{Joins, KeepsRights}
use Rattle.session_turns.specs.Passes.{BookPass, IsCalled, IsPassAt, IsHeldBy, OpenedBy, OwnsAll, RunsBy, rights_of}
use Rattle.session_turns.proofs.Asked.{joins}
use Rattle.session_turns.proofs.Places.{places_of_all}

-- 1. At the start

-- a pass that has seen nothing
pub first_is : (setup : Settings) (place : CellFacts (Option Opened)) (number : ℕ) → OpenedBy setup place.terms → number < setup.workers → IsPassAt setup place (first_pass place number)
first_is setup place number opened below = record {
  here = refl;
  same = refl;
  opened = opened;
  below = below;
  own = refl;
  run = IsRun-none setup;
}

-- each pass of a new cell
pub new_are : (setup : Settings) (place : CellFacts (Option Opened)) (passes : List BookPass) → OpenedBy setup place.terms → place.passes ≡ setup.workers → AreNewPasses place passes → All (IsPassAt setup place) passes
new_are setup place passes opened count (long, new) k d lt = subst (IsPassAt setup place) (sym (new k d lt)) (first_is setup place k opened (omega (arith, long, count, lt)))

-- 2. After a call

run_of : (setup : Settings) (terms : Option Opened) (seen : List Event) → OpenedBy setup terms → LegalAt RunsBy terms seen → IsRun setup seen
run_of setup terms seen (opened, is, same) legal = subst (λ s. IsRun s seen) same (subst (λ t. LegalAt RunsBy t seen) is legal)

-- so the worker knows
pub record Asked (setup : Settings) (place : CellFacts (Option Opened)) (ask : Ask) (old new : BookPass) (e : Event) : Type 0 where
  pub may : IsPassAt setup place new
  pub joins : Joins setup old.number ask old.seen new.seen e
  pub rights : KeepsRights 1 (rights_of old) (rights_of new)

pub asked : (setup : Settings) (place : CellFacts (Option Opened)) (ask : Ask) (old new : BookPass) (e : Event) → IsPassAt setup place old → 0 < old.quota - length old.mine → IsCalled old new ask e → Asked setup place ask old new e
asked setup place ask old new e at room called =
    let number : new.number ≡ old.number = called.same.0 in
    let terms : new.terms ≡ place.terms = called.same.2 ∙ at.same in
    let quota : new.quota ≡ old.quota = called.same.4 in
    let run : IsRun setup new.seen = run_of setup place.terms new.seen at.opened (subst (λ t. LegalAt RunsBy t new.seen) terms called.legal) in
    let owned : replies_of worker_of old.number new.seen ≡ old.mine ++ e ∷ [] = ap (λ n. replies_of worker_of n new.seen) (sym number) ∙ called.owned ∙ called.mine in
    let made : length new.mine ≡ length old.mine + 1 = ap length called.mine ∙ length-append old.mine (e ∷ []) in
    record {
      may = record {
        here = called.same.1 ∙ at.here;
        same = terms;
        opened = at.opened;
        below = subst (λ n. n < setup.workers) (sym number) at.below;
        own = called.owned;
        run = run;
      };
      joins = joins setup old.number ask old.seen new.seen old.mine e at.run run called.seen called.ends at.own owned called.reply.0 called.reply.1;
      rights = record { worker = number; made = omega (arith, made, quota, room) };
    }

-- 3. At the end of the run

-- a worker's story by what its pass has seen is its story by the whole history
pub places_held : (history : List Event) (pass : BookPass) → OwnsAll pass → HoldsPass worker_of history pass → worker_places history pass.number ≡ worker_places pass.seen pass.number
places_held history pass own (longer, mine) = places_of_all pass.number pass.seen history longer (mine ∙ sym own)

pub all_held : (history : List Event) (passes : List BookPass) → All OwnsAll passes → All (HoldsPass worker_of history) passes → All (IsHeldBy history) passes
all_held history passes own held k d lt =
    let pass : BookPass = slice_index_or passes k d in
    let holds : HoldsPass worker_of history pass = held k d lt in
    (holds.0, places_held history pass (own k d lt) holds)

-- passes that may ask, of which each number has one, are all that the cell needs back
pub all_back : (setup : Settings) (place : CellFacts (Option Opened)) (passes : List BookPass) → All (IsPassAt setup place) passes → ((n : ℕ) → n < place.passes → Any (λ p. p.number ≡ n) passes) → AreAllPasses place passes × All OwnsAll passes
all_back setup place passes are each =
    let here : All (λ p. p.cell ≡ place.id) passes = λ k d lt. let at : IsPassAt setup place (slice_index_or passes k d) = are k d lt in at.here in
    let own : All OwnsAll passes = λ k d lt. let at : IsPassAt setup place (slice_index_or passes k d) = are k d lt in at.own in
    ((here, each), own)

-- the same of the one pass of a cell
pub one_back : (setup : Settings) (place : CellFacts (Option Opened)) (passes : List BookPass) (pass : BookPass) → length passes ≡ 1 → place.passes ≡ 1 → IsPassAt setup place pass → pass.number ≡ 0 → AreAllPasses place (slice_set passes 0 pass) × All OwnsAll (slice_set passes 0 pass)
one_back setup place [] pass long count at number = absurd (omega (arith, long))
one_back setup place (p ∷ []) pass long count at number = all_back setup place (pass ∷ []) are each where
  are : All (IsPassAt setup place) (pass ∷ [])
  are zero d lt = at
  are (suc k) d lt = absurd (omega (arith, lt))

  each : (n : ℕ) → n < place.passes → Any (λ q. q.number ≡ n) (pass ∷ [])
  each n lt = (0, pass, omega arith, refl, omega (arith, number, count, lt))
one_back setup place (p ∷ q ∷ passes) pass long count at number = absurd (omega (arith, long))
