-- Believed: the words that a text lists, or its first fault.
use Rattle.std.specs.Prelude.{ℕ, ◌+◌, List, [], ◌∷◌, length, map, take, slice_index_or, Option, Some, None, Result, Ok}
use Rattle.std.specs.Prelude.{Err, min, nat_le, not, ◌==◌, ◌&&◌, if◌then◌else◌}
use Rattle.std.specs.Option.{option_map}
use Rattle.std.specs.Char.{is_ascii_alphabetic}
use Rattle.std.specs.List.{list_all, list_any, filter_map, range_with_len}
use Rattle.std.specs.Str.{bytes_eq, str_to_ascii_uppercase}
use Rattle.std.specs.Str.Lines.{lines}
use Rattle.otp_words.specs.declared.fault.DictRule.{DictRule}
use Rattle.otp_words.specs.declared.fault.DictRule.TheVariants as rules_of
use Rattle.otp_words.specs.declared.fault.DictFault.{DictFault}

-- the rule that a line breaks after these words, if any: its length, its letters, or a word that was there
unfoldable pub rule_of : List (List ℕ) → List ℕ → Option DictRule
rule_of earlier line =
    if not (nat_le 1 (length line) && nat_le (length line) 4) then Some rules_of.Length
    else if not (list_all is_ascii_alphabetic line) then Some rules_of.Letter
    else if list_any (λ word. bytes_eq word (str_to_ascii_uppercase line)) earlier then Some rules_of.Twice
    else None

-- the fault of a rule in the line of this number, which stops at the greatest that fits
abbrev pub fault_at : ℕ → DictRule → DictFault
fault_at number rule = record { line = min number 4294967295; rule = rule }

-- the fault of the line at a place, given the lines before it, if it has one
abbrev pub fault_of : List (List ℕ) → ℕ → Option DictFault
fault_of lines i =
    option_map (fault_at (i + 1)) (rule_of (map str_to_ascii_uppercase (take i lines)) (slice_index_or lines i []))

-- the faults of all lines, in their order
abbrev pub faults_of : List (List ℕ) → List DictFault
faults_of lines = filter_map (fault_of lines) (range_with_len 0 (length lines))

-- the first of these faults; without one the words of the lines, if they are 2,048
abbrev pub judged : List (List ℕ) → List DictFault → Result (List (List ℕ)) DictFault
judged lines (fault ∷ faults) = Err fault
judged lines [] =
    if length lines == 2048 then Ok (map str_to_ascii_uppercase lines) else Err (fault_at (length lines) rules_of.Count)

-- the words of a list's lines, or its first fault
unfoldable pub dictionary_of : List ℕ → Result (List (List ℕ)) DictFault
dictionary_of text = judged (lines text) (faults_of (lines text))
