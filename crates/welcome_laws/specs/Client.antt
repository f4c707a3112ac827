-- Believed: a client that sends lines, and last `user NAME` and a response.
use Rattle.std.specs.Prelude.{◌≡◌, ◌⊎◌, ℕ, ◌≤◌, ◌<◌, Bool, true, false, Some, Ok, Err, count_by, fold}
use Rattle.std.specs.Prelude.{List, [], ◌∷◌, ◌++◌, length}
use Rattle.std.specs.List.{list_any}
use Rattle.outside.specs.declared.act.Act.{Act}
use Rattle.outside.specs.declared.act.Act.TheVariants as acts
use Rattle.child_protocol.specs.Commands.{Cancel, PreCommand, Respond, User, pre_command}
use Rattle.child_protocol.specs.Lines.{Line, behind_line, front_of, line_end}
use Rattle.child_protocol.specs.Pre.{is_quit}

-- bytes begin with a whole line of this command, with at most 300 bytes before its newline
pub record BeginsWith (command : PreCommand) (bytes : List ℕ) : Type 0 where
  pub end : ℕ
  pub whole : line_end bytes ≡ Some end
  pub short : end ≤ 300
  pub text : List ℕ
  pub front : front_of bytes ≡ Line text
  pub is : pre_command text ≡ command

-- bytes begin with whole lines of these commands, one after the other
abbrev pub BeginWith : List PreCommand → List ℕ → Type 0
BeginWith [] bytes = Unit {0}
BeginWith (command ∷ commands) bytes = BeginsWith command bytes × BeginWith commands (behind_line bytes)

-- a line `resp TEXT`
abbrev pub is_response : PreCommand → Bool
is_response (Respond text) = true
is_response _ = false

-- whether a challenge may be open after a line: `user` may open one, and `resp` and `cancel` leave none
abbrev pub may_open : Bool → PreCommand → Bool
may_open before (User name) = true
may_open before (Respond text) = false
may_open before Cancel = false
may_open before _ = before

-- lines that a client may say before it logs in: no `quit`, after the last `user` a `resp` or a `cancel`, and fewer
-- `resp` than the setup allows tries
pub record AreEarlier (tries : ℕ) (earlier : List PreCommand) : Type 0 where
  pub stays : list_any is_quit earlier ≡ false
  pub closed : fold may_open false earlier ≡ false
  pub tried : count_by is_response earlier < tries

-- the bytes are a first part of the lines, or begin with them
abbrev pub AgreesWith : List ℕ → List ℕ → Type 0
AgreesWith lines bytes =
    ((more : List ℕ) × (lines ≡ bytes ++ more)) ⊎ ((more : List ℕ) × (bytes ≡ lines ++ more))

-- the client's receives bring these lines in pieces of any size, then anything; each brings at least one byte, and no
-- receive or send fails
abbrev pub ClientSays : List ℕ → List ℕ → List Act → Type 0
ClientSays lines before [] = Unit {0}
ClientSays lines before (acts.ConnRecv max (Ok bytes) ∷ done) =
    (1 ≤ length bytes) × (length bytes ≤ max) × AgreesWith lines (before ++ bytes)
    × ClientSays lines (before ++ bytes) done
ClientSays lines before (acts.ConnRecv max (Err failed) ∷ done) = ⊥
ClientSays lines before (acts.ConnSend bytes (Err failed) ∷ done) = ⊥
ClientSays lines before (act ∷ done) = ClientSays lines before done

-- an operation that receives from the client
abbrev pub is_receiving : Act → Bool
is_receiving (acts.ConnRecv max outcome) = true
is_receiving _ = false
