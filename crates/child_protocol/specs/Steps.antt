-- Inner: the table of a dialogue: what a child keeps and asks after an answer, by its place.
use Rattle.std.specs.Prelude.{◌≡◌, ℕ, suc, ◌+◌, ◌≤◌, ◌<◌, ◌^◌, Bool, true, false, ◌&&◌, ◌==◌, cond, nat_le, List, []}
use Rattle.std.specs.Prelude.{◌∷◌, ◌++◌, length, Option, Some, None, Result, Ok, codes}
use Rattle.std.specs.Fmt.{decimal}
use Rattle.std.specs.Int.{w32, from_le_bytes}
use Rattle.std.specs.Str.{bytes_eq}
use Rattle.request_catalogue.specs.Catalogue.{RequestValue, Export, ReadAt, WriteAt, CloseFile, Finish}
use Rattle.request_catalogue.specs.Replies.{AnswerValue, Done, Denied, Device}
use Rattle.state_export.specs.declared.fault.ImportFault.{ImportFault}
use Rattle.state_export.specs.Reading.{import_of}
use Rattle.state_export.specs.Spelling.{ImportValue, StateValue, state_bytes}
use Rattle.child_protocol.specs.Lines.{Front, More, TooLong, Line, behind_line, front_of}
use Rattle.child_protocol.specs.Commands.{pre_command}
use Rattle.child_protocol.specs.Pre.{say, read_more, denied_text, pre_request, terminal_by}
use Rattle.child_protocol.specs.User.{Who, UserCommand, Put, user_command, user_request}
use Rattle.child_protocol.specs.Says.{Role, Pre, User}
use Rattle.child_protocol.specs.Frames.{IsTurn}
use Rattle.child_protocol.specs.Places.{Heard, Kept, place_by, user_place_by}
use Rattle.child_protocol.specs.declared.place.Place.{Place}
use Rattle.child_protocol.specs.declared.place.Place.TheVariants as places
use Rattle.child_protocol.specs.declared.turn.Turn.{Turn}

-- what is kept then, and what is asked, if anything
pub record Move : Type 0 where
  pub kept : Kept
  pub asks : Option RequestValue

-- this is asked, at this place
abbrev pub asking : Place → RequestValue → Kept → Move
asking place request kept = record { kept = record kept { place = place }; asks = Some request }

abbrev pub ended : Kept → Move
ended kept = record { kept = record kept { place = places.Ended }; asks = None }

abbrev pub finishing : Kept → Move
finishing kept = asking places.Finishing Finish kept

-- a text is sent, and after it comes the next line
abbrev pub saying : List ℕ → Kept → Move
saying text kept = asking places.Saying (say text) kept

abbrev pub getting : ℕ → Kept → Move
getting handle kept = asking places.Getting (ReadAt handle 0 4000) (record kept { handle = handle })

abbrev pub putting : ℕ → Kept → Move
putting handle kept = asking places.Putting (WriteAt handle 0 kept.text) (record kept { handle = handle })

-- the file is closed, and the client is told this then
abbrev pub closing : List ℕ → Kept → Move
closing told kept = asking places.Closing (CloseFile kept.handle) (record kept { text = told })

-- the state that is left
abbrev pub kept_state : Heard → StateValue
kept_state heard = record { terminal = heard.terminal; unread = heard.held; lines = heard.lines; bytes = heard.read }

abbrev pub exporting : Kept → Move
exporting kept = asking places.Exporting (Export (state_bytes (kept_state kept.heard))) kept

abbrev pub marked : Bool → Kept → Kept
marked challenged kept = record kept { heard = record kept.heard { challenged = challenged } }

abbrev pub with_more : List ℕ → Kept → Kept
with_more body kept =
    record kept { heard = record kept.heard { held = kept.heard.held ++ body; read = kept.heard.read + length body } }

-- the line in front is taken, and the terminal that it gives, if it does
abbrev pub line_taken : List ℕ → Heard → Heard
line_taken terminal heard =
    record heard { held = behind_line heard.held; terminal = terminal; lines = suc heard.lines }

-- what is kept of a command's text
abbrev pub text_by : UserCommand → List ℕ → List ℕ
text_by (Put name text) before = text
text_by _ before = before

-- what the front of the client's bytes leads to before the login
abbrev pub pre_move : Front → Kept → Move
pre_move More kept = asking places.Reading read_more kept
pre_move TooLong kept = asking places.Parting (say (codes "long\n")) kept
pre_move (Line text) kept =
    asking (place_by (pre_command text) kept.heard.challenged) (pre_request (pre_command text) kept.heard.challenged)
    (record kept { heard = line_taken (terminal_by (pre_command text) kept.heard.terminal) kept.heard })

-- and for a user
abbrev pub user_move : Front → Kept → Move
user_move More kept = asking places.Reading read_more kept
user_move TooLong kept = asking places.Parting (say (codes "long\n")) kept
user_move (Line text) kept =
    asking (user_place_by (user_command text)) (user_request (user_command text))
    (record kept {
      heard = line_taken kept.heard.terminal kept.heard;
      text = text_by (user_command text) kept.text;
    })

abbrev pub front_move : Role → Front → Kept → Move
front_move Pre front kept = pre_move front kept
front_move (User who) front kept = user_move front kept

abbrev pub next_line : Role → Kept → Move
next_line role kept = front_move role (front_of kept.heard.held) kept

-- more bytes of the client, or their end
abbrev pub reading : Role → List ℕ → Kept → Move
reading role [] kept = finishing kept
reading role (c ∷ body) kept = next_line role (with_more (c ∷ body) kept)

-- what was left is for the user
abbrev pub is_for : Who → ImportValue → Bool
is_for who found = found.uid == who.uid && bytes_eq found.user who.name

abbrev pub welcoming : List ℕ → List ℕ → Kept → Move
welcoming name unread kept =
    saying (codes "welcome " ++ name ++ codes "\n") (record kept { heard = record kept.heard { held = unread } })

-- what was left is held, if it is for the user
abbrev pub importing : Role → Result ImportValue ImportFault → Kept → Move
importing (User who) (Ok found) kept =
    cond (is_for who found) (welcoming who.name found.state.unread kept) (finishing kept)
importing role left kept = finishing kept

-- what the client is told of a file that was read
abbrev pub size_text : List ℕ → List ℕ
size_text body = codes "size " ++ decimal (length body) ++ codes "\n" ++ body

-- the table's rows where the request was done
abbrev pub done_move : Role → Place → List ℕ → Kept → Move
done_move role places.Greeting body kept = saying (body ++ codes "\n") kept
done_move role places.Importing body kept = importing role (import_of body) kept
done_move role places.Saying body kept = next_line role kept
done_move role places.Parting body kept = finishing kept
done_move role places.Reading body kept = reading role body kept
done_move role places.Challenging body kept = saying body (marked true kept)
done_move role places.Replying body kept = exporting kept
done_move role places.Abandoning body kept = saying (codes "done\n") (marked false kept)
done_move role places.OpeningGet body kept = getting (from_le_bytes w32 body) kept
done_move role places.OpeningPut body kept = putting (from_le_bytes w32 body) kept
done_move role places.Getting body kept = closing (size_text body) kept
done_move role places.Putting body kept = closing (codes "done\n") kept
done_move role places.Closing body kept = saying kept.text kept
done_move role places.Noting body kept = saying (codes "done\n") kept
done_move role places.Asking body kept = saying (body ++ codes "\n") kept
done_move role _ body kept = ended kept

-- those where it was denied by no violation
abbrev pub denied_move : Place → ℕ → Kept → Move
denied_move places.Challenging rule kept = saying (denied_text rule) kept
denied_move places.Replying rule kept = saying (denied_text rule) (marked false kept)
denied_move places.OpeningGet rule kept = saying (denied_text rule) kept
denied_move places.OpeningPut rule kept = saying (denied_text rule) kept
denied_move places.Asking rule kept = saying (denied_text rule) kept
denied_move places.Finishing rule kept = ended kept
denied_move _ rule kept = finishing kept

-- those where the outside failed
abbrev pub failed_move : Place → Kept → Move
failed_move places.Getting kept = closing (codes "fault 2\n") kept
failed_move places.Putting kept = closing (codes "fault 2\n") kept
failed_move places.Finishing kept = ended kept
failed_move _ kept = finishing kept

abbrev pub move : Role → AnswerValue → Kept → Move
move role (Done body) kept = done_move role kept.place body kept
move role (Denied rule detail) kept = cond (nat_le rule 7) (ended kept) (denied_move kept.place rule kept)
move role (Device device) kept = failed_move kept.place kept

-- a child takes this move
pub record Takes (to : Move) (after : Kept) (turn : Turn) (old new : List ℕ) : Type 0 where
  pub kept : after ≡ to.kept
  pub asks : IsTurn to.asks turn old new

-- the counts fit their types, and the texts their frames, where they are used
abbrev pub IsUsable : Place → Kept → Type 0
IsUsable places.Saying kept = kept.heard.lines + 1 < 2 ^ 32
IsUsable places.Reading kept =
    (kept.heard.lines + 1 < 2 ^ 32) × (kept.heard.read + 512 < 2 ^ 32) × (length kept.heard.held ≤ 300)
IsUsable places.OpeningPut kept = 1 ≤ length kept.text
IsUsable places.Closing kept = 1 ≤ length kept.text
IsUsable _ kept = Unit {0}
