-- Believed: spaces and tabs.
use Rattle.std.specs.Prelude.{◌≡◌, ℕ, ◌≤◌, Bool, true, not, List, length, ◌==◌, ◌||◌}
use Rattle.std.specs.List.{list_all}

-- a space or a tab
abbrev pub is_blank : ℕ → Bool
is_blank c = c == 32 || c == 9

-- neither a space nor a tab
abbrev pub is_no_blank : ℕ → Bool
is_no_blank c = not (is_blank c)

-- one or more spaces and tabs
pub record IsGap (gap : List ℕ) : Type 0 where
  pub some : 1 ≤ length gap
  pub blank : list_all is_blank gap ≡ true
