-- A worker's next place in a legal journal, of which decisions may be lost.
use Rattle.std.proofs.Common.{◌≡◌, ◌≢◌, ℕ, ◌<◌, Bool, true, false, cond, eqb, List, [], ◌∷◌, ◌++◌, length, get_or}
use Rattle.std.proofs.Common.{refl, sym, subst, ◌∙◌, append_assoc, arith, eq-eqb}
use Rattle.std.proofs.lemmas.Bool.{eqb-true, false_from_ne_true, false≢true, or_parts}
use Rattle.std.proofs.lemmas.List.{length-append, take_at}
use Rattle.std.proofs.Math.Seq.{get_or-append_seam}
use Rattle.policy_model.specs.declared.event.Event.{Event}
use Rattle.policy_model.specs.Asks.{is_lost}
use Rattle.policy_model.specs.Journal.{Place, has_lost}
use Rattle.policy_model.specs.Legal.{IsLegal, IsNext}
use Rattle.policy_model.specs.Settings.{Settings}
use Rattle.policy_model.proofs.Legal.{IsLegal-push}
use Rattle.policy_model.proofs.Runs.{has_lost-push}
use Rattle.login_laws.specs.Login.{ComesAfter}
use Rattle.login_laws.proofs.Walk.{Comes, Stands, place_of, places_behind}

-- where an event's decision wasn't lost, none before it was
pub none_before : (setup : Settings) (before : List Event) (e : Event) → IsNext setup before e
    → is_lost e.decision ≡ false → has_lost before ≡ false
none_before setup before e next kept =
    false_from_ne_true (has_lost before) (λ lost. false≢true (sym kept ∙ next.lost lost))

pub none_behind : (before : List Event) (e : Event) → has_lost (before ++ e ∷ []) ≡ false
    → (has_lost before ≡ false) × (is_lost e.decision ≡ false)
none_behind before e none = or_parts (has_lost before) (is_lost e.decision) (sym (has_lost-push before e) ∙ none)

-- what holds of a journal, unless a decision in it was lost
abbrev pub UnlessLost : (List Event → Type 0) → List Event → Type 0
UnlessLost P before = has_lost before ≡ false → P before

-- the next place of the worker
pub record Follows (setup : Settings) (journal : List Event) (worker : ℕ) (P : List Event → Type 0) (p : Place)
    (places : List Place) : Type 0 where
  pub legal : IsLegal setup p.before
  pub next : IsNext setup p.before p.event
  pub stands : ComesAfter journal p.before p.event
  pub own : p.event.worker ≡ worker
  pub holds : UnlessLost P p.before
  pub behind : Stands journal worker (p.before ++ p.event ∷ []) places

next_at : (setup : Settings) (before rest : List Event) (e : Event) → IsLegal setup (before ++ e ∷ rest)
    → IsNext setup before e
next_at setup before rest e legal =
    let within : length before < length (before ++ e ∷ rest) = omega (arith, length-append before (e ∷ rest)) in
    subst (λ x. IsNext setup before x) (get_or-append_seam before e rest e)
    (subst (λ l. IsNext setup l (get_or (before ++ e ∷ rest) (length before) e))
    (take_at before (e ∷ rest) (length before) refl) (legal (length before) e within))

module _ (setup : Settings) (journal : List Event) (worker : ℕ) (all : IsLegal setup journal)
    (P : List Event → Type 0)
    (left : (before : List Event) (e : Event) → Comes setup journal before e → e.worker ≢ worker → P before
    → P (before ++ e ∷ [])) where
  walk : (rest before : List Event) (p : Place) (places : List Place) → IsLegal setup before → UnlessLost P before
      → journal ≡ before ++ rest → places_behind worker before rest ≡ p ∷ places
      → Follows setup journal worker P p places
  walk [] before p places legal holds parts are = absurd cc
  walk (e ∷ rest) before p places legal holds parts are =
      by_worker (eqb e.worker worker) refl are
      (λ other. walk rest (before ++ e ∷ []) p places (IsLegal-push setup before e legal next)
      (λ none. let both = none_behind before e none in
      left before e (record { next = next; kept = both.1; stands = here }) other (holds both.0)) longer) where
        next : IsNext setup before e
        next = next_at setup before rest e (subst (IsLegal setup) parts all)

        here : ComesAfter journal before e
        here = record { rest = rest; parts = parts }

        longer : journal ≡ (before ++ e ∷ []) ++ rest
        longer = parts ∙ sym (append_assoc before (e ∷ []) rest)

        by_worker : (b : Bool) → eqb e.worker worker ≡ b
            → cond b (place_of before e ∷ places_behind worker (before ++ e ∷ []) rest)
            (places_behind worker (before ++ e ∷ []) rest) ≡ p ∷ places
            → (e.worker ≢ worker → places_behind worker (before ++ e ∷ []) rest ≡ p ∷ places
            → Follows setup journal worker P p places) → Follows setup journal worker P p places
        by_worker true its are' others =
            let found : place_of before e ≡ p = cc in
            let behind : places_behind worker (before ++ e ∷ []) rest ≡ places = cc in
            subst (λ q. Follows setup journal worker P q places) found (record {
              legal = legal;
              next = next;
              stands = here;
              own = eqb-true e.worker worker its;
              holds = holds;
              behind = record { rest = rest; parts = longer; are = behind };
            })
        by_worker false its are' others = others (λ same. let yes = eq-eqb e.worker worker same in absurd cc) are'

  pub follows : (before : List Event) (p : Place) (places : List Place) → IsLegal setup before → UnlessLost P before
      → Stands journal worker before (p ∷ places) → Follows setup journal worker P p places
  follows before p places legal holds stands =
      walk stands.rest before p places legal holds stands.parts stands.are

-- the place after these places of the worker
abbrev Known : List Event → Type 0
Known before = Unit {0}

pub reach : (setup : Settings) (journal : List Event) (worker : ℕ) → IsLegal setup journal
    → (earlier : List Place) (before : List Event) (p : Place) (places : List Place) → IsLegal setup before
    → Stands journal worker before (earlier ++ (p ∷ places)) → Follows setup journal worker Known p places
reach setup journal worker all [] before p places legal stands =
    follows setup journal worker all Known (λ b e comes other known. tt) before p places legal (λ none. tt) stands
reach setup journal worker all (q ∷ earlier) before p places legal stands =
    let f = follows setup journal worker all Known (λ b e comes other known. tt) before q (earlier ++ (p ∷ places))
    legal (λ none. tt) stands in
    reach setup journal worker all earlier (q.before ++ q.event ∷ []) p places
    (IsLegal-push setup q.before q.event f.legal f.next) f.behind
