-- The events that a run decided are those of a run of which nothing was lost.
use Rattle.std.proofs.Common.{◌≡◌, ℕ, zero, suc, ◌+◌, ◌≤◌, Bool, true, false, not, ◌||◌, cond, inl, inr, List, [], ◌∷◌, ◌++◌, length, take, filter, find, refl, sym, ◌∙◌, ap, subst, arith, Option, Some, None, option_map, length-append, length-take}
use Rattle.std.specs.List.{AllByRecursion}
use Rattle.std.specs.Option.{option_to_list}
use Rattle.std.proofs.lemmas.Bool.{cases_lt}
use Rattle.std.proofs.lemmas.List.{append-nil, take_all}
use Rattle.policy_model.specs.declared.event.Event.{Event}
use Rattle.policy_model.specs.Asks.{is_lost}
use Rattle.policy_model.specs.Journal.{has_lost, kept_events}
use Rattle.policy_model.specs.Legal.{IsLegal, IsNext, next_event}
use Rattle.policy_model.specs.Runs.{IsProperEvent}
use Rattle.policy_model.specs.Settings.{Settings}
use Rattle.decision_log.specs.Typed.{IsTyped}
use Rattle.policy_model.proofs.Legal.{IsLegal-none, IsLegal-push}
use Rattle.policy_model.proofs.Lists.{filter-push}
use Rattle.policy_laws.proofs.Sequences.{IsLegal-take}
use Rattle.session_laws.proofs.ByEvents.{by_legal_events}
use Rattle.session_laws.proofs.NextEvents.{kept_goes_on, legal_goes_on}
use Rattle.monitor_book.proofs.LogLemmas.{kept_all, kept_lost}
use Rattle.ledger_journal.specs.Journals.{IsWhole}
use Rattle.monitor_book.specs.Lines.{decided_in, lost_event}
use Rattle.recovery_law.specs.Surviving.{IsRunOf}

module _ {X : Type 0} (P : X → Type 0) where
  all_filter : (q : X → Bool) (xs : List X) → AllByRecursion P xs → AllByRecursion P (filter q xs)
  all_filter q [] all = tt
  all_filter q (x ∷ xs) all = go (q x) (all_filter q xs all.1) where
    go : (b : Bool) → AllByRecursion P (filter q xs) → AllByRecursion P (cond b (x ∷ filter q xs) (filter q xs))
    go true rest = (all.0, rest)
    go false rest = rest

  all_take : (n : ℕ) (xs : List X) → AllByRecursion P xs → AllByRecursion P (take n xs)
  all_take zero xs all = tt
  all_take (suc n) [] all = tt
  all_take (suc n) (x ∷ xs) all = (all.0, all_take n xs all.1)

  all_more : (xs : List X) (x : X) → AllByRecursion P xs → P x → AllByRecursion P (xs ++ x ∷ [])
  all_more [] x all is = (is, tt)
  all_more (y ∷ xs) x all is = (all.0, all_more xs x all.1 is)

-- none of those that were kept is lost
none_lost : (journal : List Event) → has_lost (kept_events journal) ≡ false
none_lost [] = refl
none_lost (e ∷ journal) = go (is_lost e.decision) refl (none_lost journal) where
  go : (b : Bool) → is_lost e.decision ≡ b → has_lost (kept_events journal) ≡ false → has_lost (cond (not b) (e ∷ kept_events journal) (kept_events journal)) ≡ false
  go true is rest = rest
  go false is rest = ap (λ b. b || has_lost (kept_events journal)) is ∙ rest

lost_take : (n : ℕ) (journal : List Event) → has_lost journal ≡ false → has_lost (take n journal) ≡ false
lost_take zero journal none = refl
lost_take (suc n) [] none = refl
lost_take (suc n) (e ∷ journal) none = go (is_lost e.decision) none (lost_take n journal) where
  go : (b : Bool) → (b || has_lost journal) ≡ false → (has_lost journal ≡ false → has_lost (take n journal) ≡ false) → (b || has_lost (take n journal)) ≡ false
  go true h rest = absurd cc
  go false h rest = rest h

-- those that were kept are a legal journal
kept_legal : (setup : Settings) (journal : List Event) → IsLegal setup journal → IsLegal setup (kept_events journal)
kept_legal setup journal legal = by_legal_events setup (λ j. IsLegal setup (kept_events j)) (IsLegal-none setup) more journal legal where
  more : (j : List Event) (e : Event) → IsLegal setup j → IsNext setup j e → IsLegal setup (kept_events j) → IsLegal setup (kept_events (j ++ e ∷ []))
  more j e whole next kept = go (is_lost e.decision) refl (has_lost j) refl where
    go : (b : Bool) → is_lost e.decision ≡ b → (had : Bool) → has_lost j ≡ had → IsLegal setup (kept_events (j ++ e ∷ []))
    go true lost had is = subst (IsLegal setup) (sym (kept_lost j e lost)) kept
    go false stays true is = absurd (let no : false ≡ true = sym stays ∙ next.lost is in cc no)
    go false stays false is =
        let all : kept_events (j ++ e ∷ []) ≡ j ++ e ∷ [] = filter-push (λ x. not (is_lost x.decision)) j e ∙ rw stays (ap (λ xs. xs ++ e ∷ []) (kept_all j is)) in
        subst (IsLegal setup) (sym all) (IsLegal-push setup j e whole next)

-- what is found is one of those
found_is : {X : Type 0} (P : X → Type 0) (q : X → Bool) (xs : List X) (x : X) → AllByRecursion P xs → find q xs ≡ Some x → P x
found_is P q [] x all is = absurd cc
found_is P q (y ∷ xs) x all is = go (q y) is (found_is P q xs x all.1) where
  go : (b : Bool) → cond b (Some y) (find q xs) ≡ Some x → (find q xs ≡ Some x → P x) → P x
  go true same rest = let e : y ≡ x = cc in subst P e all.0
  go false same rest = rest same

-- those that aren't and the first that is are no more than all
found_few : {X : Type 0} (q : X → Bool) (xs : List X) → length (filter (λ x. not (q x)) xs) + length (option_to_list (find q xs)) ≤ length xs
found_few q [] = omega arith
found_few q (x ∷ xs) = go (q x) (found_few q xs) where
  go : (b : Bool) → length (filter (λ y. not (q y)) xs) + length (option_to_list (find q xs)) ≤ length xs
      → length (cond (not b) (x ∷ filter (λ y. not (q y)) xs) (filter (λ y. not (q y)) xs)) + length (option_to_list (cond b (Some x) (find q xs))) ≤ suc (length xs)
  go true rest = omega (arith, rest)
  go false rest = omega (arith, rest)

mapped_few : {X Y : Type 0} (f : X → Y) (o : Option X) → length (option_to_list (option_map f o)) ≡ length (option_to_list o)
mapped_few f None = refl
mapped_few f (Some x) = refl

module _ (setup : Settings) (journal : List Event) (run : IsRunOf setup journal) where
  -- the events that are kept
  abbrev kept : List Event
  kept = kept_events journal

  -- the event that would have been
  abbrev next : Event → Event
  next e = next_event setup kept e.worker e.ask

  abbrev with_lost : Option Event → List Event
  with_lost o = kept ++ option_to_list (option_map next o)

  legal_with : (o : Option Event) → IsLegal setup (with_lost o)
  legal_with None = subst (IsLegal setup) (sym (append-nil kept)) (kept_legal setup journal run.legal)
  legal_with (Some e) = legal_goes_on setup kept e.worker e.ask (kept_legal setup journal run.legal) (none_lost journal)

  none_with : (o : Option Event) → has_lost (with_lost o) ≡ false
  none_with None = ap has_lost (append-nil kept) ∙ none_lost journal
  none_with (Some e) = kept_goes_on setup kept e.worker e.ask (none_lost journal)

  proper_kept : AllByRecursion IsProperEvent kept
  proper_kept = all_filter IsProperEvent (λ e. not (is_lost e.decision)) journal run.proper

  proper_with : (o : Option Event) → find (λ e. is_lost e.decision) journal ≡ o → AllByRecursion IsProperEvent (with_lost o)
  proper_with None is = subst (AllByRecursion IsProperEvent) (sym (append-nil kept)) proper_kept
  proper_with (Some e) is =
      let found : IsProperEvent e = found_is IsProperEvent (λ x. is_lost x.decision) journal e run.proper is in
      all_more IsProperEvent kept (next e) proper_kept (record { proper = found.proper })

  pub decided_few : length (decided_in setup journal) ≤ length journal
  decided_few = omega (arith, length-append kept (option_to_list (lost_event setup journal)), mapped_few next (find (λ e. is_lost e.decision) journal), found_few (λ e. is_lost e.decision) journal)

  legal_take : (n : ℕ) (events : List Event) → IsLegal setup events → IsLegal setup (take n events)
  legal_take n events legal = elim (cases_lt n (length events)) [
    | inl lt ↦ IsLegal-take setup events n (omega (arith, lt)) legal
    | inr le ↦ subst (IsLegal setup) (sym (take_all n events le)) legal
  ]

  -- the first of them are a run of which nothing was lost
  pub first_whole : (n : ℕ) → IsWhole setup (take n (decided_in setup journal))
  first_whole n = record {
    in_range = run.in_range;
    legal = legal_take n (decided_in setup journal) (legal_with (find (λ e. is_lost e.decision) journal));
    proper = all_take IsProperEvent n (decided_in setup journal) (proper_with (find (λ e. is_lost e.decision) journal) refl);
    kept = lost_take n (decided_in setup journal) (none_with (find (λ e. is_lost e.decision) journal));
    few = omega (arith, length-take n (decided_in setup journal), decided_few, run.few);
    typed = all_take IsTyped n (decided_in setup journal) run.typed;
  }
