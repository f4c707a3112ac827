-- Believed: what a child asked and was answered, by the whole list.
use Rattle.std.specs.Prelude.{ℕ, zero, suc, Bool, true, false, List, [], ◌∷◌, ◌++◌, Result, Ok, Err, nat_le, not, ◌&&◌}
use Rattle.std.specs.Prelude.{◌||◌, cond}
use Rattle.request_catalogue.specs.Catalogue.{RequestValue, Challenge, Reply, Abandon, Import, ReadAt, WriteAt, Finish}
use Rattle.request_catalogue.specs.Replies.{AnswerValue, Done, Denied}
use Rattle.child_protocol.specs.Lines.{Front, More, behind_lines, front_of}
use Rattle.state_export.specs.declared.fault.ImportFault.{ImportFault}
use Rattle.state_export.specs.Reading.{import_of}
use Rattle.state_export.specs.Spelling.{ImportValue}

-- a request and its answer; lists of them have the latest first
pub record Exchange : Type 0 where
  pub request : RequestValue
  pub answer : AnswerValue

-- the client's bytes that the child before left unread
abbrev pub imported_unread : Result ImportValue ImportFault → List ℕ
imported_unread (Err fault) = []
imported_unread (Ok found) = found.state.unread

-- the client's bytes with those that an exchange brought: read from the connection, or left by the child before
abbrev pub with_bytes : RequestValue → AnswerValue → List ℕ → List ℕ
with_bytes (ReadAt zero offset max) (Done body) before = before ++ body
with_bytes Import (Done body) before = before ++ imported_unread (import_of body)
with_bytes _ _ before = before

-- all bytes of the client that a child had, with those that the child before left
abbrev pub client_bytes : List Exchange → List ℕ
client_bytes [] = []
client_bytes (e ∷ before) = with_bytes e.request e.answer (client_bytes before)

-- the request writes to the client
abbrev pub sends_text : RequestValue → Bool
sends_text (WriteAt zero offset bytes) = true
sends_text _ = false

-- how many texts the client was sent: a greeting, and then one for each line
abbrev pub texts_of : List Exchange → ℕ
texts_of [] = zero
texts_of (e ∷ before) = cond (sends_text e.request) (suc (texts_of before)) (texts_of before)

-- the client's line of this number, counted from 1; no line for 0
abbrev pub front_at : ℕ → List ℕ → Front
front_at zero bytes = More
front_at (suc count) bytes = front_of (behind_lines count bytes)

-- the client's line that the child's next text answers; the greeting answers none
abbrev pub underway : List Exchange → Front
underway history = front_at (texts_of history) (client_bytes history)

-- a request was permitted, even where a device failed
abbrev pub is_permitted : AnswerValue → Bool
is_permitted (Denied rule detail) = false
is_permitted _ = true

-- whether a challenge is open after an exchange: a permitted CHALLENGE opens one; a REPLY and a permitted ABANDON close
-- it
abbrev pub challenged_by : RequestValue → AnswerValue → Bool → Bool
challenged_by (Challenge user) answer before = is_permitted answer || before
challenged_by (Reply text) answer before = false
challenged_by Abandon answer before = not (is_permitted answer) && before
challenged_by _ _ before = before

-- a challenge is open, by what the child was answered
abbrev pub is_challenged : List Exchange → Bool
is_challenged [] = false
is_challenged (e ∷ before) = challenged_by e.request e.answer (is_challenged before)

-- a denial by one of the rules 1 to 7, after which a child ends
abbrev pub is_violation : AnswerValue → Bool
is_violation (Denied rule detail) = nat_le rule 7
is_violation _ = false

-- the request is FINISH
abbrev pub is_finish : RequestValue → Bool
is_finish Finish = true
is_finish _ = false

-- a child ends after the answer to FINISH, and after a denial by one of the rules 1 to 7
abbrev pub ends_child : RequestValue → AnswerValue → Bool
ends_child request answer = is_finish request || is_violation answer
