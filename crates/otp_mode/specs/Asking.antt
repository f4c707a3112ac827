-- Believed: how a line is asked for.
use Rattle.std.specs.Prelude.{◌≡◌, ℕ, ◌+◌, ◌≤◌, ◌==◌, Bool, true, false, List, [], ◌∷◌, length, map, take, Option}
use Rattle.std.specs.List.{list_any}
use Rattle.outside.specs.declared.receiving.Receiving.{Receiving}
use Rattle.outside.specs.Link.{Link}
use Rattle.outside.specs.Told.{Gains, Goes}

-- these places of an input begin at the first number at least, each after the one before and below the last number, and
-- no newline stands before any
abbrev pub AreAskedAt : List ℕ → ℕ → List ℕ → ℕ → Type 0
AreAskedAt input least [] most = least ≤ most
AreAskedAt input least (place ∷ places) most =
    (least ≤ place) × (list_any (λ c. c == 10) (take place input) ≡ false) × AreAskedAt input (place + 1) places most

-- a receiving that is asked of a stream after this many bytes more
abbrev pub receiving_after : Link → ℕ → Receiving
receiving_after link more = record { taken = length link.taken + more; sent = length link.sent }

-- every receiving was asked at another place of the input, below this number of bytes, and none after a newline
pub record AsksWithin (most : ℕ) (before after : Link) : Type 0 where
  pub places : List ℕ
  pub at : AreAskedAt before.left 0 places most
  pub asked : Gains before.receivings (map (receiving_after before) places) after.receivings

-- a line was asked for: no receiving came after a newline, after 4,096 bytes, or a second time at one place
abbrev pub AsksForLine : Link → Link → Type 0
AsksForLine before after = AsksWithin 4096 before after

-- a mode that ended early asked nothing of its ends, any other asked for one line
pub record AsksOneLine {E : Type 0} (early : Bool) (link : E → Option Link) (before after : E) : Type 0 where
  pub unasked : early ≡ true → after ≡ before
  pub line : Goes AsksForLine (link before) (link after)
