-- Believed: the text of a line, and the log's text.
use Rattle.std.specs.Prelude.{ℕ, ◌+◌, List, [], ◌∷◌, ◌++◌, codes}
use Rattle.std.specs.Fmt.{decimal}
use Rattle.std.specs.Int.{w64, to_be_bytes}
use Rattle.hex.specs.Hex.{encode_lower}
use Rattle.request_catalogue.specs.TextBytes.{label_bytes, name_bytes, note_bytes}
use Rattle.policy_model.specs.declared.event.Ask.{Ask}
use Rattle.policy_model.specs.declared.event.Ask.TheVariants as asks
use Rattle.policy_model.specs.declared.event.Decision.{Decision}
use Rattle.policy_model.specs.declared.event.Decision.TheVariants as decisions
use Rattle.policy_model.specs.declared.event.Event.{Event}
use Rattle.policy_model.specs.declared.event.Why.{Why}
use Rattle.policy_model.specs.declared.event.Why.TheVariants as whys
use Rattle.policy_model.specs.Journal.{kept_events}

-- a space, and a number in decimal
abbrev pub spaced : ℕ → List ℕ
spaced n = codes " " ++ decimal n

-- a space, and bytes in hexadecimal
abbrev pub spaced_hex : List ℕ → List ℕ
spaced_hex bytes = codes " " ++ encode_lower bytes

-- why a session ended, as a log spells it
abbrev pub why_text : Why → List ℕ
why_text whys.Finished = codes "finished"
why_text whys.ChildEnded = codes "child-ended"
why_text whys.Truncated = codes "truncated"
why_text (whys.BadFrame len) = codes "bad-frame" ++ spaced len
why_text (whys.Violation rule) = codes "violation" ++ spaced rule
why_text whys.LinkFault = codes "link-fault"
why_text whys.KeeperFault = codes "keeper-fault"
why_text whys.LogLost = codes "log-lost"

-- an ask as a log spells it, a file's label and a note in hexadecimal
abbrev pub ask_text : Ask → List ℕ
ask_text asks.Begin = codes "open"
ask_text asks.Banner = codes "banner"
ask_text (asks.Challenge user now) = codes "challenge " ++ name_bytes user ++ spaced now
ask_text (asks.Reply words hex) = codes "reply"
ask_text asks.Abandon = codes "abandon"
ask_text (asks.Export len) = codes "export" ++ spaced len
ask_text asks.Import = codes "import"
ask_text (asks.ReadAt handle offset max) = codes "read" ++ spaced handle ++ spaced offset ++ spaced max
ask_text (asks.WriteAt handle offset len) = codes "write" ++ spaced handle ++ spaced offset ++ spaced len
ask_text (asks.OpenFile mode name) = codes "grant" ++ spaced mode ++ spaced_hex (label_bytes name)
ask_text (asks.CloseFile handle) = codes "close" ++ spaced handle
ask_text (asks.Info number) = codes "info" ++ spaced number
ask_text (asks.Note text) = codes "note" ++ spaced_hex (note_bytes text)
ask_text asks.Finish = codes "finish"
ask_text (asks.Bad rule detail) = codes "bad" ++ spaced rule ++ spaced detail
ask_text (asks.End why) = codes "end " ++ why_text why

-- what a permit gives, where a log shows it: a number, or the accepted password in 16 hexadecimal digits
abbrev pub value_text : Ask → ℕ → List ℕ
value_text (asks.Challenge user now) value = spaced value
value_text (asks.Export len) value = spaced value
value_text (asks.OpenFile mode name) value = spaced value
value_text (asks.Info number) value = spaced value
value_text (asks.Reply words hex) value = spaced_hex (to_be_bytes w64 value)
value_text _ value = []

-- a decision as a log spells it; a lost one has no text
abbrev pub decision_text : Ask → Decision → List ℕ
decision_text ask (decisions.Permit value) = codes "permit" ++ value_text ask value
decision_text ask (decisions.Deny rule detail) = codes "deny" ++ spaced rule ++ spaced detail
decision_text ask decisions.Lost = []

-- the line of an event: its number, the worker, the session, the ask and the decision
unfoldable pub line_of : ℕ → Event → List ℕ
line_of number e =
    decimal number ++ codes " w" ++ decimal e.worker ++ codes " s" ++ decimal e.session ++ codes " " ++ ask_text e.ask
    ++ codes " " ++ decision_text e.ask e.decision ++ codes "\n"

-- the lines of these events, numbered on from so many before them
abbrev pub lines_after : ℕ → List Event → List ℕ
lines_after count [] = []
lines_after count (e ∷ events) = line_of (count + 1) e ++ lines_after (count + 1) events

-- the text of a log: the lines of the events that weren't lost, numbered from 1
abbrev pub log_text : List Event → List ℕ
log_text journal = lines_after 0 (kept_events journal)
