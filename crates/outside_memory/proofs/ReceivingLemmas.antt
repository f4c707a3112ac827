use Rattle.std.proofs.Common.{◌≡◌, ℕ, ◌+◌, ◌<◌, ◌≤◌, Bool, true, false, IsTrue, List, [], ◌∷◌, ◌++◌, length, take, drop, min, All, IfSome, Option, Some, arith, refl, sym, append-nil, length-take, length-drop}
use Rattle.std.proofs.Math.Seq.{take-add}
use Rattle.std.proofs.lemmas.List.{take-append-drop, drop-drop, drop_all}
use Rattle.outside.specs.Told.{Goes, told_if}
use Rattle.outside.specs.declared.receiving.Receiving.{Receiving}
use Rattle.outside.specs.Link.{Exchanged, IsAskedOnce}
use Rattle.outside_memory.specs.MemStream.{link_at}
use Rattle.outside_memory.specs.Repeating.{next_item}

-- the next n bytes of the input are received
Exchanged-next : (input sent : List ℕ) (at n : ℕ) (old new : Option (List Receiving)) → Exchanged (take n (drop at input)) [] (link_at input sent at old) (link_at input sent (at + n) new)
Exchanged-next input sent at n old new = record {
  left = rw (← drop-drop n at input) (sym (take-append-drop n (drop at input)));
  taken = take-add at n input;
  sent = sym (append-nil sent);
}

-- the next bytes were given
pub Goes-gave : (before after : Bool) (input sent got input' sent' : List ℕ) (at n at' : ℕ) (old new : Option (List Receiving)) → (IsTrue after → IsTrue before) → input' ≡ input → sent' ≡ sent → at' ≡ at + n → got ≡ take n (drop at input) → Goes (Exchanged got []) (told_if before (link_at input sent at old)) (told_if after (link_at input' sent' at' new))
Goes-gave before false input sent got input' sent' at n at' old new keeps same kept moved is = tt
Goes-gave false true input sent got input' sent' at n at' old new keeps same kept moved is = absurd (let e = keeps refl in cc)
Goes-gave true true input sent got input' sent' at n at' old new keeps same kept moved is =
    rw (same, kept, moved, is) (Exchanged-next input sent at n old new)

-- a receiving was asked, and failed
pub Goes-unmoved : (before after : Bool) (input sent : List ℕ) (at : ℕ) (old new : Option (List Receiving)) → (IsTrue after → IsTrue before) → Goes (Exchanged [] []) (told_if before (link_at input sent at old)) (told_if after (link_at input sent at new))
Goes-unmoved before false input sent at old new keeps = tt
Goes-unmoved false true input sent at old new keeps = absurd (let e = keeps refl in cc)
Goes-unmoved true true input sent at old new keeps = record { left = refl; taken = sym (append-nil (take at input)); sent = sym (append-nil sent) }

-- a receiving was noted
pub Goes-asked : (before after : Bool) (input sent : List ℕ) (at to : ℕ) (old new : List Receiving) → (IsTrue after → IsTrue before) → (IsTrue after → new ≡ old ++ record { taken = at; sent = length sent } ∷ []) → at ≤ length input → Goes IsAskedOnce (told_if before (link_at input sent at (Some old))) (told_if after (link_at input sent to (Some new)))
Goes-asked before false input sent at to old new keeps noted fits = tt
Goes-asked false true input sent at to old new keeps noted fits = absurd (let e = keeps refl in cc)
Goes-asked true true input sent at to old new keeps noted fits =
    let e : length (take at input) ≡ at = omega (arith, length-take at input, fits) in rw e (noted refl)

-- the first cut is at least 1, where each is and there is one
next_item-pos : (cs : List ℕ) → All (λ c. 1 ≤ c) cs → 0 < length cs → 1 ≤ next_item cs
next_item-pos [] each some = absurd (omega arith)
next_item-pos (c ∷ cs) each some = each 0 0 (omega arith)

-- nothing is received from a stream that tells only where nothing is left
pub left-none : (telling : Bool) (input sent input' cs : List ℕ) (at n room at' : ℕ) (receivings : Option (List Receiving)) → All (λ c. 1 ≤ c) cs → (IsTrue telling → 0 < length cs) → input' ≡ input → at' ≡ at + n → 0 < room → n ≡ min (next_item cs) (min room (length (drop at input))) → n ≡ 0 → IfSome (told_if telling (link_at input' sent at' receivings)) (λ l. l.left ≡ [])
left-none false input sent input' cs at n room at' receivings each some same moved roomy is none = tt
left-none true input sent input' cs at n room at' receivings each some same moved roomy is none =
    let pos = next_item-pos cs each (some refl) in
    rw (same, moved) (drop_all (at + n) input (omega (arith, length-drop at input)))
