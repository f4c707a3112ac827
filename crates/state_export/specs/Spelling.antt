-- Believed: an exported state and an import record, and their spellings.
use Rattle.std.specs.Prelude.{ℕ, ◌^◌, ◌<◌, ◌≤◌, List, ◌∷◌, ◌++◌, codes, length, IsTrue}
use Rattle.std.specs.Int.{w16, w32, to_le_bytes}
use Rattle.request_catalogue.specs.Texts.{is_name}
use Rattle.request_catalogue.specs.TextBytes.{name_bytes}
use Rattle.state_export.specs.declared.import.Import.{Import}
use Rattle.state_export.specs.declared.state.State.{State}

-- what the child before the login leaves: the terminal, the client's unread bytes, and how many lines and bytes it had
pub record StateValue : Type 0 where
  pub terminal : List ℕ
  pub unread : List ℕ
  pub lines : ℕ
  pub bytes : ℕ

abbrev pub value_of : State → StateValue
value_of s = record { terminal = s.terminal.now; unread = s.unread.now; lines = s.lines; bytes = s.bytes }

-- its parts are in their ranges
pub record IsState (s : StateValue) : Type 0 where
  pub terminal : length s.terminal ≤ 64
  pub unread : length s.unread ≤ 4096
  pub lines : s.lines < 2 ^ 32
  pub bytes : s.bytes < 2 ^ 32

-- a field: its tag, the length of its content, and the content
abbrev pub field_bytes : ℕ → List ℕ → List ℕ
field_bytes tag content = tag ∷ to_le_bytes w16 (length content) ++ content

-- the content of the third field: the two counts
abbrev pub counts_bytes : StateValue → List ℕ
counts_bytes s = to_le_bytes w32 s.lines ++ to_le_bytes w32 s.bytes

-- the one spelling of a state: `OTS1` and three fields
unfoldable pub state_bytes : StateValue → List ℕ
state_bytes s = codes "OTS1" ++ field_bytes 1 s.terminal ++ field_bytes 2 s.unread ++ field_bytes 3 (counts_bytes s)

-- what the user's child imports: the user's number and name, and the state that was exported
pub record ImportValue : Type 0 where
  pub uid : ℕ
  pub user : List ℕ
  pub state : StateValue

abbrev pub import_value : Import → ImportValue
import_value i = record { uid = i.uid; user = name_bytes i.user; state = value_of i.state }

pub record IsImport (i : ImportValue) : Type 0 where
  pub uid : i.uid < 2 ^ 32
  pub user : IsTrue (is_name i.user)
  pub state : IsState i.state

-- the spelling of an import record: the user's number, the length of the name, the name, and a state as it was exported
unfoldable pub import_bytes : ℕ → List ℕ → List ℕ → List ℕ
import_bytes uid user state = to_le_bytes w32 uid ++ length user ∷ user ++ state
