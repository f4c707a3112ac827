-- The events that were decided stay in the ranges of their types.
use Rattle.std.proofs.Common.{◌≡◌, Bool, true, false, not, List, [], ◌∷◌, ◌++◌, Option, Some, None, refl, sym, ap, subst, ◌∙◌}
use Rattle.std.specs.Prelude.{find, option_map}
use Rattle.std.specs.List.{AllByRecursion}
use Rattle.std.specs.Option.{option_to_list}
use Rattle.std.proofs.lemmas.List.{append-nil}
use Rattle.std.proofs.lemmas.List.Folds.{find-append}
use Rattle.policy_model.specs.declared.event.Event.{Event}
use Rattle.policy_model.specs.Asks.{is_lost}
use Rattle.policy_model.specs.Journal.{has_lost, kept_events}
use Rattle.policy_model.specs.Legal.{next_event}
use Rattle.policy_model.specs.Settings.{Settings}
use Rattle.policy_model.proofs.Lists.{filter-push}
use Rattle.decision_log.specs.Typed.{IsTyped}
use Rattle.monitor_book.specs.Lines.{decided_in}
use Rattle.monitor_book.proofs.LogLemmas.{find_again, find_none, kept_all, kept_lost}

all_push : (xs : List Event) (e : Event) → AllByRecursion IsTyped xs → IsTyped e → AllByRecursion IsTyped (xs ++ e ∷ [])
all_push [] e all one = (one, tt)
all_push (x ∷ xs) e all one = (all.0, all_push xs e all.1 one)

-- the decided events, by those that were kept and the first that was lost
abbrev decided_of : Settings → List Event → Option Event → List Event
decided_of setup kept lost = kept ++ option_to_list (option_map (λ e. next_event setup kept e.worker e.ask) lost)

decided_is : (setup : Settings) (journal kept : List Event) (lost : Option Event) → kept_events journal ≡ kept → find (λ e. is_lost e.decision) journal ≡ lost → decided_in setup journal ≡ decided_of setup kept lost
decided_is setup journal kept lost same found =
    ap (λ xs. decided_of setup xs (find (λ e. is_lost e.decision) journal)) same ∙ ap (decided_of setup kept) found

-- one event more
pub typed_push : (setup : Settings) (journal : List Event) (e : Event)
    → AllByRecursion IsTyped (decided_in setup journal)
    → (has_lost journal ≡ true → is_lost e.decision ≡ true)
    → (is_lost e.decision ≡ false → e ≡ next_event setup journal e.worker e.ask)
    → (has_lost journal ≡ false → IsTyped (next_event setup journal e.worker e.ask))
    → AllByRecursion IsTyped (decided_in setup (journal ++ e ∷ []))
typed_push setup journal e before stays is typed = go (has_lost journal) (is_lost e.decision) refl refl where
  old : has_lost journal ≡ false → AllByRecursion IsTyped journal
  old none = subst (AllByRecursion IsTyped) (decided_is setup journal journal None (kept_all journal none) (find_none journal none) ∙ append-nil journal) before

  go : (past now : Bool) → has_lost journal ≡ past → is_lost e.decision ≡ now → AllByRecursion IsTyped (decided_in setup (journal ++ e ∷ []))
  go true now past lost =
      let same = decided_is setup (journal ++ e ∷ []) (kept_events journal) (find (λ x. is_lost x.decision) journal) (kept_lost journal e (stays past)) (find_again journal e past) in
      subst (AllByRecursion IsTyped) (sym same) before
  go false true past lost =
      let found : find (λ x. is_lost x.decision) (journal ++ e ∷ []) ≡ Some e = find-append (λ x. is_lost x.decision) journal (e ∷ []) ∙ rw (find_none journal past, lost) refl in
      let same = decided_is setup (journal ++ e ∷ []) journal (Some e) (kept_lost journal e lost ∙ kept_all journal past) found in
      subst (AllByRecursion IsTyped) (sym same) (all_push journal (next_event setup journal e.worker e.ask) (old past) (typed past))
  go false false past kept =
      let all : kept_events (journal ++ e ∷ []) ≡ journal ++ e ∷ [] = filter-push (λ x. not (is_lost x.decision)) journal e ∙ rw kept (ap (λ xs. xs ++ e ∷ []) (kept_all journal past)) in
      let found : find (λ x. is_lost x.decision) (journal ++ e ∷ []) ≡ None = find-append (λ x. is_lost x.decision) journal (e ∷ []) ∙ rw (find_none journal past, kept) refl in
      let same : decided_in setup (journal ++ e ∷ []) ≡ journal ++ e ∷ [] = decided_is setup (journal ++ e ∷ []) (journal ++ e ∷ []) None all found ∙ append-nil (journal ++ e ∷ []) in
      subst (AllByRecursion IsTyped) (sym same) (all_push journal e (old past) (subst IsTyped (sym (is kept)) (typed past)))
