-- Replies that are accepted after so many texts to their client.
use Rattle.std.proofs.Common.{◌≡◌, ℕ, ◌+◌, ◌<◌, ◌≤◌, ◌⊎◌, inl, inr, true, List, ◌∷◌, length, take, get_or}
use Rattle.std.proofs.Common.{refl, sym, ap, ◌∙◌, arith}
use Rattle.std.proofs.lemmas.Bool.{cases_lt}
use Rattle.std.proofs.lemmas.List.{length-append, take_at}
use Rattle.std.proofs.Math.Seq.{get_or-append_seam}
use Rattle.policy_model.specs.declared.event.Event.{Event}
use Rattle.policy_model.specs.Asks.{accepts}
use Rattle.login_laws.specs.Login.{ComesAfter}
use Rattle.welcome_laws.specs.Welcome.{texts_told}
use Rattle.welcome_rows.specs.Met.{AcceptsAfter}

-- each accepted REPLY among the first events comes so
abbrev pub AcceptsSoFar : List Event → ℕ → ℕ → Type 0
AcceptsSoFar journal texts i =
    (before : List Event) (e : Event) → ComesAfter journal before e → length before < i → accepts e ≡ true
    → texts_told before e.session ≡ texts

pub one_told : (journal : List Event) (texts i : ℕ) (x : Event) → x ≡ get_or journal i x
    → (accepts x ≡ true → texts_told (take i journal) x.session ≡ texts) → AcceptsSoFar journal texts i
    → AcceptsSoFar journal texts (i + 1)
one_told journal texts i x is told so_far before e comes lt accepted = by (cases_lt (length before) i) where
  events : length before ≡ i → take i journal ≡ before
  events same =
      ap (λ n. take n journal) (sym same) ∙ ap (λ (j : List Event). take (length before) j) comes.parts
      ∙ take_at before (e ∷ comes.rest) (length before) refl

  event : length before ≡ i → x ≡ e
  event same =
      is ∙ ap (λ n. get_or journal n x) (sym same) ∙ ap (λ (j : List Event). get_or j (length before) x) comes.parts
      ∙ get_or-append_seam before e comes.rest x

  here : length before ≡ i → texts_told before e.session ≡ texts
  here same =
      ap (λ (j : List Event). texts_told j e.session) (sym (events same))
      ∙ ap (λ (y : Event). texts_told (take i journal) y.session) (sym (event same))
      ∙ told (ap accepts (event same) ∙ accepted)

  by : (length before < i) ⊎ (i ≤ length before) → texts_told before e.session ≡ texts
  by (inl earlier) = so_far before e comes earlier accepted
  by (inr past) = here (omega (arith, lt, past))

pub all_told : (journal : List Event) (texts i : ℕ) → length journal ≤ i → AcceptsSoFar journal texts i
    → AcceptsAfter journal texts
all_told journal texts i le so_far before e comes accepted =
    so_far before e comes
    (omega (
      arith,
      le,
      ap (λ (j : List Event). length j) comes.parts,
      length-append before (e ∷ comes.rest),
    ))
    accepted
