-- Inner: the text of what a line that was read says.
use Rattle.std.specs.Prelude.{ℕ, List, [], ◌++◌, codes}
use Rattle.std.specs.Fmt.{decimal}
use Rattle.std.specs.Int.{w64, to_be_bytes}
use Rattle.policy_model.specs.declared.event.Decision.{Decision}
use Rattle.policy_model.specs.declared.event.Decision.TheVariants as decisions
use Rattle.decision_log.specs.Log.{spaced, spaced_hex, why_text}
use Rattle.decision_log.specs.Values.{AskValue, Begin, Banner, Challenge, Reply, Abandon, Export, Import, ReadAt}
use Rattle.decision_log.specs.Values.{WriteAt, OpenFile, CloseFile, Info, Note, Finish, Bad, End, LineValue}

-- what was asked; a file's name and a note in hexadecimal
abbrev pub asked_text : AskValue → List ℕ
asked_text Begin = codes "open"
asked_text Banner = codes "banner"
asked_text (Challenge user now) = codes "challenge " ++ user ++ spaced now
asked_text Reply = codes "reply"
asked_text Abandon = codes "abandon"
asked_text (Export len) = codes "export" ++ spaced len
asked_text Import = codes "import"
asked_text (ReadAt handle offset max) = codes "read" ++ spaced handle ++ spaced offset ++ spaced max
asked_text (WriteAt handle offset len) = codes "write" ++ spaced handle ++ spaced offset ++ spaced len
asked_text (OpenFile mode name) = codes "grant" ++ spaced mode ++ spaced_hex name
asked_text (CloseFile handle) = codes "close" ++ spaced handle
asked_text (Info number) = codes "info" ++ spaced number
asked_text (Note text) = codes "note" ++ spaced_hex text
asked_text Finish = codes "finish"
asked_text (Bad rule detail) = codes "bad" ++ spaced rule ++ spaced detail
asked_text (End why) = codes "end " ++ why_text why

-- what a permit gives: a number, or the accepted password as 16 hexadecimal digits; of other asks nothing is shown
abbrev pub shown_text : AskValue → ℕ → List ℕ
shown_text (Challenge user now) value = spaced value
shown_text (Export len) value = spaced value
shown_text (OpenFile mode name) value = spaced value
shown_text (Info number) value = spaced value
shown_text Reply value = spaced_hex (to_be_bytes w64 value)
shown_text _ value = []

-- what was decided; a lost decision has no text
abbrev pub decided_text : AskValue → Decision → List ℕ
decided_text ask (decisions.Permit value) = codes "permit" ++ shown_text ask value
decided_text ask (decisions.Deny rule detail) = codes "deny" ++ spaced rule ++ spaced detail
decided_text ask decisions.Lost = []

-- the text of a line: the number, the worker, the session, the ask and the decision
unfoldable pub line_text : LineValue → List ℕ
line_text v =
    decimal v.number ++ codes " w" ++ decimal v.worker ++ codes " s" ++ decimal v.session ++ codes " "
    ++ asked_text v.ask ++ codes " " ++ decided_text v.ask v.decision ++ codes "\n"
