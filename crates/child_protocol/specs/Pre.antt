-- Believed: the dialogue of the child before the login.
use Rattle.std.specs.Prelude.{ℕ, zero, suc, Bool, true, false, List, [], ◌∷◌, ◌++◌, length, Option, Some, None, codes}
use Rattle.std.specs.Prelude.{cond}
use Rattle.std.specs.Fmt.{decimal}
use Rattle.request_catalogue.specs.Catalogue.{RequestValue, Banner, Challenge, Reply, Abandon, Export, ReadAt, WriteAt}
use Rattle.request_catalogue.specs.Catalogue.{Finish}
use Rattle.request_catalogue.specs.Replies.{AnswerValue, Done, Denied, Device}
use Rattle.child_protocol.specs.Lines.{Front, More, TooLong, Line, behind_lines, front_of}
use Rattle.child_protocol.specs.Commands.{PreCommand, Terminal, User, Respond, Cancel, Quit, pre_command}
use Rattle.state_export.specs.Spelling.{StateValue, state_bytes}
use Rattle.child_protocol.specs.Exchanges.{Exchange, client_bytes, texts_of, underway, is_challenged, ends_child}

-- a WRITE of this text to the client
abbrev pub say : List ℕ → RequestValue
say text = WriteAt 0 0 text

-- a READ of up to 512 bytes from the client
abbrev pub read_more : RequestValue
read_more = ReadAt 0 0 512

-- what the client is told of a denial: `denied RULE`
abbrev pub denied_text : ℕ → List ℕ
denied_text rule = codes "denied " ++ decimal rule ++ codes "\n"

-- the first request of a command, which depends on whether a challenge is open
abbrev pub pre_request : PreCommand → Bool → RequestValue
pre_request (Terminal text) challenged = say (codes "done\n")
pre_request (User name) false = Challenge name
pre_request (Respond text) true = Reply text
pre_request Cancel true = Abandon
pre_request Quit challenged = say (codes "bye\n")
pre_request _ challenged = say (codes "what\n")

-- what the front of the client's bytes leads to: read more, say `long`, or do the line's command
abbrev pub pre_first : Front → Bool → RequestValue
pre_first More challenged = read_more
pre_first TooLong challenged = say (codes "long\n")
pre_first (Line text) challenged = pre_request (pre_command text) challenged

-- the command is `quit`
abbrev pub is_quit : PreCommand → Bool
is_quit Quit = true
is_quit _ = false

-- after the text for this line comes FINISH: it was `quit`, or too long
abbrev pub pre_is_last : Front → Bool
pre_is_last More = false
pre_is_last TooLong = true
pre_is_last (Line text) = is_quit (pre_command text)

-- the terminal after a command: `term NAME` changes it
abbrev pub terminal_by : PreCommand → List ℕ → List ℕ
terminal_by (Terminal text) before = text
terminal_by _ before = before

-- the terminal after one more line
abbrev pub terminal_at : Front → List ℕ → List ℕ
terminal_at (Line text) before = terminal_by (pre_command text) before
terminal_at _ before = before

-- the terminal that the last of so many lines gave, of those that give one
abbrev pub terminal_in : ℕ → List ℕ → List ℕ
terminal_in zero bytes = []
terminal_in (suc count) bytes = terminal_at (front_of (behind_lines count bytes)) (terminal_in count bytes)

-- the state once so many lines were taken: terminal, unread bytes, and the counts of lines and of bytes
abbrev pub state_at : ℕ → List ℕ → StateValue
state_at lines bytes =
    record {
      terminal = terminal_in lines bytes;
      unread = behind_lines lines bytes;
      lines = lines;
      bytes = length bytes;
    }

-- the state that the child before the login exports after these exchanges
abbrev pub pre_state : List Exchange → StateValue
pre_state history = state_at (texts_of history) (client_bytes history)

-- what follows a request that was done; an accepted REPLY leads to the EXPORT
abbrev pub pre_done : RequestValue → List ℕ → Bool → RequestValue → StateValue → RequestValue
pre_done Banner text last next state = say (text ++ codes "\n")
pre_done (WriteAt handle offset bytes) body last next state = cond last Finish next
pre_done (ReadAt handle offset max) [] last next state = Finish
pre_done (ReadAt handle offset max) (c ∷ body) last next state = next
pre_done (Challenge user) text last next state = say text
pre_done (Reply text) body last next state = Export (state_bytes state)
pre_done Abandon body last next state = say (codes "done\n")
pre_done _ body last next state = Finish

-- a denied CHALLENGE or REPLY tells the client its rule; any other denial leads to FINISH
abbrev pub pre_denied : RequestValue → ℕ → RequestValue
pre_denied (Challenge user) rule = say (denied_text rule)
pre_denied (Reply text) rule = say (denied_text rule)
pre_denied _ rule = Finish

-- what follows an answer: done, denied, or a device that failed
abbrev pub pre_follows : RequestValue → AnswerValue → Bool → RequestValue → StateValue → RequestValue
pre_follows request (Done body) last next state = pre_done request body last next state
pre_follows request (Denied rule detail) last next state = pre_denied request rule
pre_follows request (Device device) last next state = Finish

-- what the child before the login asks after these exchanges; nothing where it ends
unfoldable pub pre_next : List Exchange → Option RequestValue
pre_next [] = Some Banner
pre_next (e ∷ before) =
    cond (ends_child e.request e.answer) None
    (Some (pre_follows e.request e.answer (pre_is_last (underway before))
    (pre_first (underway (e ∷ before)) (is_challenged (e ∷ before))) (pre_state (e ∷ before))))
