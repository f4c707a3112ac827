-- A line is asked for step by step.
use Rattle.std.proofs.Common.{◌≡◌, ℕ, ◌+◌, ◌≤◌, Bool, false, List, [], ◌∷◌, ◌++◌, length, map, take, Option, Some, None, refl, sym, ap, ◌∙◌, subst, arith, append-nil, length-append}
use Rattle.std.proofs.lemmas.Grind.{common_steps}
use Rattle.std.proofs.lemmas.List.{length-take-le}
use Rattle.std.specs.Prelude.{◌==◌}
use Rattle.std.specs.List.{list_any}
use Rattle.outside.specs.declared.receiving.Receiving.{Receiving}
use Rattle.outside.specs.Link.{Exchanged, IsAskedOnce, IsUnasked, Link, receiving_at}
use Rattle.outside.specs.Told.{Gains, Goes}
use Rattle.outside.proofs.Told.{Gains-none, Gains-then, Goes-same, Goes-then}
use Rattle.otp_mode.specs.Asking.{AreAskedAt, AsksWithin, receiving_after}

abbrev pub has_newline : List ℕ → Bool
has_newline bytes = list_any (λ c. c == 10) bytes

-- one place more, at the end
at-more : (input : List ℕ) (least : ℕ) (places : List ℕ) (most : ℕ) → has_newline (take most input) ≡ false → AreAskedAt input least places most → AreAskedAt input least (places ++ most ∷ []) (most + 1)
at-more input least [] most none at = (at, none, omega arith)
at-more input least (place ∷ places) most none at = (at.0, at.1, at-more input (place + 1) places most none at.2)

at-wider : (input : List ℕ) (least : ℕ) (places : List ℕ) (most most' : ℕ) → most ≤ most' → AreAskedAt input least places most → AreAskedAt input least places most'
at-wider input least [] most most' wide at = omega (arith, wide, at)
at-wider input least (place ∷ places) most most' wide at = (at.0, at.1, at-wider input (place + 1) places most most' wide at.2)

pub Asks-wider : (most most' : ℕ) → most ≤ most' → (before after : Option Link) → Goes (AsksWithin most) before after → Goes (AsksWithin most') before after
Asks-wider most most' wide before None asks = tt
Asks-wider most most' wide None (Some after) asks = absurd asks
Asks-wider most most' wide (Some before) (Some after) asks =
    record { places = asks.places; at = at-wider before.left 0 asks.places most most' wide asks.at; asked = asks.asked }

-- nothing is asked
asks-none : (most : ℕ) (link : Link) → AsksWithin most link link
asks-none most link = record { places = []; at = omega arith; asked = Gains-none link.receivings }

pub Asks-none : (most : ℕ) (link : Option Link) → Goes (AsksWithin most) link link
Asks-none most link = Goes-same (AsksWithin most) (asks-none most) link

-- what was asked before nothing more is
asks-unasked : (most : ℕ) (a b c : Link) → AsksWithin most a b → IsUnasked b c → AsksWithin most a c
asks-unasked most a b c asks none = record {
  places = asks.places;
  at = asks.at;
  asked = subst (λ w. Gains a.receivings w c.receivings) (append-nil (map (receiving_after a) asks.places)) (Gains-then a.receivings b.receivings c.receivings (map (receiving_after a) asks.places) [] asks.asked none);
}

pub Asks-unasked : (most : ℕ) (a b c : Option Link) → Goes (AsksWithin most) a b → Goes IsUnasked b c → Goes (AsksWithin most) a c
Asks-unasked most a b c = Goes-then (AsksWithin most) IsUnasked (AsksWithin most) (asks-unasked most) a b c

-- as many bytes of an input as were received are those
take-received : (got rest : List ℕ) (n : ℕ) → length got ≡ n → take n (got ++ rest) ≡ got
take-received got rest n len = grind (arith, common_steps, len)

map-append : (f : ℕ → Receiving) (xs ys : List ℕ) → map f (xs ++ ys) ≡ map f xs ++ map f ys
map-append f [] ys = refl
map-append f (x ∷ xs) ys = ap (λ w. f x ∷ w) (map-append f xs ys)

-- a receiving is asked where these bytes, without a newline, were received
asks-more : (n : ℕ) (got : List ℕ) (first mid last : Link) → length got ≡ n → has_newline got ≡ false → Exchanged got [] first mid → AsksWithin n first mid → IsAskedOnce mid last → AsksWithin (n + 1) first last
asks-more n got first mid last len none passed asks once =
    let input : take n first.left ≡ got = ap (take n) passed.left ∙ take-received got mid.left n len in
    let taken : length mid.taken ≡ length first.taken + n = ap length passed.taken ∙ length-append first.taken got ∙ ap (λ k. length first.taken + k) len in
    let sent : length mid.sent ≡ length first.sent = ap length (passed.sent ∙ append-nil first.sent) in
    let here : receiving_at mid ≡ receiving_after first n = cc in
    record {
      places = asks.places ++ n ∷ [];
      at = at-more first.left 0 asks.places n (ap has_newline input ∙ none) asks.at;
      asked = subst (λ w. Gains first.receivings w last.receivings) (ap (λ r. map (receiving_after first) asks.places ++ r ∷ []) here ∙ sym (map-append (receiving_after first) asks.places (n ∷ []))) (Gains-then first.receivings mid.receivings last.receivings (map (receiving_after first) asks.places) (receiving_at mid ∷ []) asks.asked once);
    }

pub Asks-more : (n : ℕ) (got : List ℕ) (first mid last : Option Link) → length got ≡ n → has_newline got ≡ false → Goes (Exchanged got []) first mid → Goes (AsksWithin n) first mid → Goes IsAskedOnce mid last → Goes (AsksWithin (n + 1)) first last
Asks-more n got first mid None len none passed asks once = tt
Asks-more n got first None (Some last) len none passed asks once = absurd once
Asks-more n got None (Some mid) (Some last) len none passed asks once = absurd passed
Asks-more n got (Some first) (Some mid) (Some last) len none passed asks once = asks-more n got first mid last len none passed asks once

-- the same of the first bytes of a buffer
pub asked-once : (n : ℕ) (buf : List ℕ) (first mid last : Option Link) → n ≤ length buf → has_newline (take n buf) ≡ false → Goes (Exchanged (take n buf) []) first mid → Goes (AsksWithin n) first mid → Goes IsAskedOnce mid last → Goes (AsksWithin (n + 1)) first last
asked-once n buf first mid last within = Asks-more n (take n buf) first mid last (length-take-le n buf within)
