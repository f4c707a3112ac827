-- Information found by its number, by the forms and by the functions that say them.
use Rattle.std.proofs.Common.{◌≡◌, ◌==◌, ℕ, Bool, true, false, ◌||◌, cond, eqb, List, [], ◌∷◌, map, Option, Some, None, refl, sym, ap, ◌∙◌}
use Rattle.std.specs.Prelude.{IfSome, find, is_some, option_map}
use Rattle.std.specs.List.{list_any}
use Rattle.info_hooks.specs.declared.card.Card.{Card}
use Rattle.info_hooks.specs.declared.key.Key.{Key}
use Rattle.info_hooks.specs.Said.{said}

module _ {W : Type 0} (key : W → Key) (number : ℕ) where
  pub has_found : (hooks : List W) → is_some (find (λ h. (key h).number == number) hooks) ≡ list_any (λ k. k.number == number) (map key hooks)
  has_found [] = refl
  has_found (h ∷ hs) = go (eqb (key h).number number) (has_found hs) where
    go : (b : Bool) → is_some (find (λ h. (key h).number == number) hs) ≡ list_any (λ k. k.number == number) (map key hs) → is_some (cond b (Some h) (find (λ h. (key h).number == number) hs)) ≡ (b || list_any (λ k. k.number == number) (map key hs))
    go true rest = refl
    go false rest = rest

  pub found_by_form : (hooks : List W) → find (λ k. k.number == number) (map key hooks) ≡ option_map key (find (λ h. (key h).number == number) hooks)
  found_by_form [] = refl
  found_by_form (h ∷ hs) = go (eqb (key h).number number) (found_by_form hs) where
    go : (b : Bool) → find (λ k. k.number == number) (map key hs) ≡ option_map key (find (λ h. (key h).number == number) hs) → cond b (Some (key h)) (find (λ k. k.number == number) (map key hs)) ≡ option_map key (cond b (Some h) (find (λ h. (key h).number == number) hs))
    go true rest = refl
    go false rest = rest

  -- what a function says that was found is what its form says
  pub said_found : (hooks : List W) (card : Card) (text : List ℕ) → is_some (find (λ h. (key h).number == number) hooks) ≡ true → IfSome (find (λ h. (key h).number == number) hooks) (λ h. text ≡ said (key h).form card) → Some text ≡ option_map (λ k. said k.form card) (find (λ k. k.number == number) (map key hooks))
  said_found hooks card text some says = go (find (λ h. (key h).number == number) hooks) some says ∙ sym (ap (option_map (λ k. said k.form card)) (found_by_form hooks)) where
    go : (o : Option W) → is_some o ≡ true → IfSome o (λ h. text ≡ said (key h).form card) → Some text ≡ option_map (λ k. said k.form card) (option_map key o)
    go None some says = absurd cc
    go (Some h) some says = ap Some says

  pub none_found : (hooks : List W) (card : Card) → is_some (find (λ h. (key h).number == number) hooks) ≡ false → ◌≡◌ {A = Option (List ℕ)} None (option_map (λ k. said k.form card) (find (λ k. k.number == number) (map key hooks)))
  none_found hooks card none = go (find (λ h. (key h).number == number) hooks) none ∙ sym (ap (option_map (λ k. said k.form card)) (found_by_form hooks)) where
    go : (o : Option W) → is_some o ≡ false → ◌≡◌ {A = Option (List ℕ)} None (option_map (λ k. said k.form card) (option_map key o))
    go None none = refl
    go (Some h) none = absurd cc
