-- Believed: which words a command may have.
use Rattle.std.specs.Prelude.{ℕ, Bool, false, not, ◌==◌, List, [], ◌∷◌, map, Option}
use Rattle.std.specs.Bool.{then_some}
use Rattle.std.specs.List.{list_any}
use Rattle.command_line.specs.declared.command.CommandLine.{CommandLine}

-- a word begins with a hyphen (45)
abbrev pub begins_with_hyphen : List ℕ → Bool
begins_with_hyphen [] = false
begins_with_hyphen (c ∷ _) = c == 45

-- there is a word, and none begins with a hyphen
abbrev pub are_plain : List (List ℕ) → Bool
are_plain [] = false
are_plain (mode ∷ further) = not (list_any begins_with_hyphen (mode ∷ further))

-- the words of a command line, if there is one and none begins with a hyphen
abbrev pub words_without_hyphen : List (List ℕ) → Option (List (List ℕ))
words_without_hyphen words = then_some (are_plain words) words

-- the words of a command line, in their order
abbrev pub words_of_line : CommandLine → List (List ℕ)
words_of_line line = line.mode.now ∷ map (λ word. word.now) line.further.items
