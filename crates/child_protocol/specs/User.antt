-- Believed: the dialogue of the user's child.
use Rattle.std.specs.Prelude.{ℕ, ◌≤◌, ◌<◌, ◌^◌, IsTrue, zero, suc, Bool, true, false, List, [], ◌∷◌, ◌++◌, length, take}
use Rattle.std.specs.Prelude.{drop, position, Option, Some, None, option_and_then, Result, Ok, Err, codes, nat_lt, ◌==◌}
use Rattle.std.specs.Prelude.{◌&&◌, if◌then◌else◌, cond}
use Rattle.std.specs.Bool.{then_some}
use Rattle.std.specs.Fmt.{decimal}
use Rattle.std.specs.Str.{bytes_eq}
use Rattle.std.specs.Int.{w32, from_le_bytes}
use Rattle.request_catalogue.specs.Catalogue.{RequestValue, Import, ReadAt, WriteAt, OpenFile, CloseFile, Info, Note}
use Rattle.request_catalogue.specs.Catalogue.{Finish}
use Rattle.request_catalogue.specs.Replies.{AnswerValue, Done, Denied, Device}
use Rattle.request_catalogue.specs.Texts.{is_label, is_note, is_text}
use Rattle.text_line.specs.Reading.{decimal_of}
use Rattle.child_protocol.specs.Lines.{Front, More, TooLong, Line}
use Rattle.child_protocol.specs.Commands.{text_behind}
use Rattle.state_export.specs.declared.fault.ImportFault.{ImportFault}
use Rattle.state_export.specs.Reading.{import_of}
use Rattle.state_export.specs.Spelling.{ImportValue}
use Rattle.child_protocol.specs.Exchanges.{Exchange, underway, ends_child}
use Rattle.child_protocol.specs.Pre.{say, read_more, denied_text}

-- what a line to the user's child asks
pub data UserCommand : Type 0 where
  Get : (name : List ℕ) → UserCommand
  Put : (name text : List ℕ) → UserCommand
  Tell : (number : ℕ) → UserCommand
  Remark : (text : List ℕ) → UserCommand
  Leave : UserCommand
  Unknown : UserCommand

-- the command if its parts are legal, and otherwise an unknown one
abbrev pub if_legal : Bool → UserCommand → UserCommand
if_legal true command = command
if_legal false command = Unknown

-- what `put` may write to a file: 1 to 200 printable bytes
unfoldable pub is_content : List ℕ → Bool
is_content text = is_text 1 200 text

-- a `put` needs a legal name and a legal text
abbrev pub put_parts : List ℕ → List ℕ → UserCommand
put_parts name text = if_legal (is_label name && is_content text) (Put name text)

-- a `put` needs a space between name and text
abbrev pub put_command : List ℕ → Option ℕ → UserCommand
put_command text None = Unknown
put_command text (Some i) = put_parts (take i text) (drop (suc i) text)

-- where the first space of a text stands
unfoldable pub space_in : List ℕ → Option ℕ
space_in text = position (λ c. c == 32) text

-- the number of 32 bits that a text spells in decimal digits without a leading zero
unfoldable pub number_of : List ℕ → Option ℕ
number_of text = option_and_then (λ n. then_some (nat_lt n (2 ^ 32)) n) (decimal_of text)

-- an `info` needs a number of 32 bits
abbrev pub tell_command : Option ℕ → UserCommand
tell_command None = Unknown
tell_command (Some number) = Tell number

-- `quit`, or an unknown line
abbrev pub leave_command : List ℕ → UserCommand
leave_command line = if bytes_eq line (codes "quit") then Leave else Unknown

-- `note TEXT`, or what else the line is
abbrev pub note_command : List ℕ → Option (List ℕ) → UserCommand
note_command line None = leave_command line
note_command line (Some text) = if_legal (is_note text) (Remark text)

-- `info NUMBER`, or what else the line is
abbrev pub info_command : List ℕ → Option (List ℕ) → UserCommand
info_command line None = note_command line (text_behind (codes "note ") line)
info_command line (Some text) = tell_command (number_of text)

-- `put NAME TEXT`, or what else the line is
abbrev pub put_or_command : List ℕ → Option (List ℕ) → UserCommand
put_or_command line None = info_command line (text_behind (codes "info ") line)
put_or_command line (Some text) = put_command text (space_in text)

-- `get NAME`, or what else the line is
abbrev pub get_command : List ℕ → Option (List ℕ) → UserCommand
get_command line None = put_or_command line (text_behind (codes "put ") line)
get_command line (Some name) = if_legal (is_label name) (Get name)

-- the command that a line to the user's child is
unfoldable pub user_command : List ℕ → UserCommand
user_command line = get_command line (text_behind (codes "get ") line)

-- the parts of a command pass their tests
abbrev pub IsLegalUser : UserCommand → Type 0
IsLegalUser (Get name) = IsTrue (is_label name)
IsLegalUser (Put name text) = IsTrue (is_label name) × (1 ≤ length text) × (length text ≤ 200)
IsLegalUser (Tell number) = number < 2 ^ 32
IsLegalUser (Remark text) = IsTrue (is_note text)
IsLegalUser _ = Unit {0}

-- the command of the line underway; an unknown one if no line is
abbrev pub command_at : Front → UserCommand
command_at (Line text) = user_command text
command_at _ = Unknown

-- the first request of a command; `quit` and an unknown line lead to a text
abbrev pub user_request : UserCommand → RequestValue
user_request (Get name) = OpenFile 1 name
user_request (Put name text) = OpenFile 2 name
user_request (Tell number) = Info number
user_request (Remark text) = Note text
user_request Leave = say (codes "bye\n")
user_request Unknown = say (codes "what\n")

-- what the front of the client's bytes leads to: read more, say `long`, or do the line's command
abbrev pub user_first : Front → RequestValue
user_first More = read_more
user_first TooLong = say (codes "long\n")
user_first (Line text) = user_request (user_command text)

-- the command is `quit`
abbrev pub is_leave : UserCommand → Bool
is_leave Leave = true
is_leave _ = false

-- after the text for this line comes FINISH: it was `quit`, or too long
abbrev pub user_is_last : Front → Bool
user_is_last More = false
user_is_last TooLong = true
user_is_last (Line text) = is_leave (user_command text)

-- what follows an OPEN: `get` reads up to 4,000 bytes, `put` writes its text
abbrev pub opened_request : UserCommand → ℕ → RequestValue
opened_request (Get name) handle = ReadAt handle 0 4000
opened_request (Put name text) handle = WriteAt handle 0 text
opened_request _ handle = Finish

-- what the client is told of a file: its size and bytes, `done`, or `fault 2`
abbrev pub told_by : RequestValue → AnswerValue → RequestValue
told_by request (Device device) = say (codes "fault 2\n")
told_by (ReadAt handle offset max) (Done body) = say (codes "size " ++ decimal (length body) ++ codes "\n" ++ body)
told_by (WriteAt handle offset bytes) (Done body) = say (codes "done\n")
told_by _ _ = Finish

-- what the client is told once a file was closed
abbrev pub file_text : List Exchange → RequestValue
file_text [] = Finish
file_text (e ∷ before) = told_by e.request e.answer

-- the user whom a child serves: number and name
pub record Who : Type 0 where
  pub uid : ℕ
  pub name : List ℕ

-- what follows the IMPORT: a welcome if the record names the user whom the child serves, otherwise FINISH
abbrev pub greeting_of : Who → Result ImportValue ImportFault → RequestValue
greeting_of who (Err fault) = Finish
greeting_of who (Ok found) =
    if found.uid == who.uid && bytes_eq found.user who.name then say (codes "welcome " ++ who.name ++ codes "\n")
    else Finish

-- what follows a READ: a file is closed; from the client more bytes lead on, and none lead to FINISH
abbrev pub read_done : ℕ → List ℕ → RequestValue → RequestValue
read_done zero [] next = Finish
read_done zero (c ∷ body) next = next
read_done (suc handle) body next = CloseFile (suc handle)

-- what follows a WRITE: a file is closed; after a text comes the next line, or FINISH after the last
abbrev pub write_done : ℕ → Bool → RequestValue → RequestValue
write_done zero last next = cond last Finish next
write_done (suc handle) last next = CloseFile (suc handle)

-- what follows a request that was done, by the client's line, the exchanges before it, and what the next line leads to
abbrev pub user_done : Who → RequestValue → List ℕ → Front → List Exchange → RequestValue → RequestValue
user_done who Import body line before next = greeting_of who (import_of body)
user_done who (WriteAt handle offset bytes) body line before next = write_done handle (user_is_last line) next
user_done who (ReadAt handle offset max) body line before next = read_done handle body next
user_done who (OpenFile mode name) body line before next = opened_request (command_at line) (from_le_bytes w32 body)
user_done who (CloseFile handle) body line before next = file_text before
user_done who (Info number) text line before next = say (text ++ codes "\n")
user_done who (Note text) body line before next = say (codes "done\n")
user_done who _ body line before next = Finish

-- a denied OPEN or INFO tells the client its rule; any other denial leads to FINISH
abbrev pub user_denied : RequestValue → ℕ → RequestValue
user_denied (OpenFile mode name) rule = say (denied_text rule)
user_denied (Info number) rule = say (denied_text rule)
user_denied _ rule = Finish

-- a device fault closes a file; on the connection it leads to FINISH
abbrev pub handle_failed : ℕ → RequestValue
handle_failed zero = Finish
handle_failed (suc handle) = CloseFile (suc handle)

-- what follows a device fault: a file is closed, anything else leads to FINISH
abbrev pub user_failed : RequestValue → RequestValue
user_failed (ReadAt handle offset max) = handle_failed handle
user_failed (WriteAt handle offset bytes) = handle_failed handle
user_failed _ = Finish

-- what follows an answer: done, denied, or a device that failed
abbrev pub user_follows : Who → RequestValue → AnswerValue → Front → List Exchange → RequestValue → RequestValue
user_follows who request (Done body) line before next = user_done who request body line before next
user_follows who request (Denied rule detail) line before next = user_denied request rule
user_follows who request (Device device) line before next = user_failed request

-- what the user's child asks after these exchanges; nothing where it ends
unfoldable pub user_next : Who → List Exchange → Option RequestValue
user_next who [] = Some Import
user_next who (e ∷ before) =
    cond (ends_child e.request e.answer) None
    (Some (user_follows who e.request e.answer (underway before) before (user_first (underway (e ∷ before)))))
