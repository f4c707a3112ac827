-- Believed: the text of what a journal comes to, line by line.
use Rattle.std.specs.Prelude.{ℕ, ◌==◌, List, [], ◌∷◌, ◌++◌, codes, flat_map, if◌then◌else◌}
use Rattle.std.specs.Fmt.{decimal}
use Rattle.std.specs.List.{range_with_len}
use Rattle.policy_model.specs.declared.event.Event.{Event}
use Rattle.drill_mode.specs.declared.counted.Counted.{Counted}
use Rattle.drill_mode.specs.declared.counted.Counted.TheVariants.{Accepted, Denied, End, Events, Permitted, Rule}
use Rattle.drill_mode.specs.declared.counted.Counted.TheVariants.{Sessions}
use Rattle.drill_mode.specs.declared.counted.EndKind.{EndKind}
use Rattle.drill_mode.specs.declared.counted.EndKind.TheVariants as kinds
use Rattle.drill_mode.specs.Counted.{count_in}

-- the word of a kind of end
abbrev pub kind_word : EndKind → List ℕ
kind_word kinds.Finished = codes "finished"
kind_word kinds.ChildEnded = codes "child-ended"
kind_word kinds.Truncated = codes "truncated"
kind_word kinds.BadFrame = codes "bad-frame"
kind_word kinds.Violation = codes "violation"
kind_word kinds.LinkFault = codes "link-fault"
kind_word kinds.KeeperFault = codes "keeper-fault"
kind_word kinds.LogLost = codes "log-lost"

-- the words of a count
abbrev pub counted_words : Counted → List ℕ
counted_words Sessions = codes "sessions"
counted_words Events = codes "events"
counted_words Permitted = codes "permitted"
counted_words Denied = codes "denied"
counted_words Accepted = codes "accepted"
counted_words (Rule rule) = codes "rule " ++ decimal rule
counted_words (End kind) = codes "end " ++ kind_word kind

-- the line of a count: its words and the number
abbrev pub line_in : List Event → Counted → List ℕ
line_in journal counted = counted_words counted ++ codes " " ++ decimal (count_in journal counted) ++ codes "\n"

-- the line of a count, if it isn't 0
abbrev pub line_where_some : List Event → Counted → List ℕ
line_where_some journal counted = if count_in journal counted == 0 then [] else line_in journal counted

-- the totals that always have a line, in this order
abbrev pub totals : List Counted
totals = Sessions ∷ Events ∷ Permitted ∷ Denied ∷ Accepted ∷ []

-- the kinds of ends, in the order of their lines
abbrev pub end_kinds : List EndKind
end_kinds = kinds.Finished ∷ kinds.ChildEnded ∷ kinds.Truncated ∷ kinds.BadFrame ∷ kinds.Violation ∷ kinds.LinkFault
    ∷ kinds.KeeperFault ∷ kinds.LogLost ∷ []

-- a line for each total
unfoldable pub totals_text : List Event → List ℕ
totals_text journal = flat_map (line_in journal) totals

-- a line for each of the 22 rules that denied something, in rising order
unfoldable pub rules_text : List Event → List ℕ
rules_text journal = flat_map (λ rule. line_where_some journal (Rule rule)) (range_with_len 1 22)

-- a line for each kind of end that came
unfoldable pub ends_text : List Event → List ℕ
ends_text journal = flat_map (λ kind. line_where_some journal (End kind)) end_kinds

-- the counts of a journal as `drill` prints them: totals, then rules, then kinds of ends
abbrev pub counts_text : List Event → List ℕ
counts_text journal = totals_text journal ++ rules_text journal ++ ends_text journal
