-- Believed: reading an exported state and an import record.
use Rattle.std.specs.Prelude.{ℕ, List, codes, drop, length, take, Result, Ok, Err, nat_le, slice_index, ◌==◌, ◌&&◌}
use Rattle.std.specs.Bool.{then_some}
use Rattle.std.specs.Int.{w16, w32}
use Rattle.std.specs.Str.{bytes_eq}
use Rattle.request_catalogue.specs.Fields.{number_at}
use Rattle.request_catalogue.specs.Results.{demand, ◌>>=◌}
use Rattle.request_catalogue.specs.Texts.{is_name}
use Rattle.state_export.specs.declared.fault.ImportFault.{ImportFault}
use Rattle.state_export.specs.declared.fault.ImportFault.TheVariants.{Head, State as InState}
use Rattle.state_export.specs.declared.fault.StateFault.{StateFault}
use Rattle.state_export.specs.declared.fault.StateFault.TheVariants.{Length, Magic, Missing, Tag, Trailing}
use Rattle.state_export.specs.Spelling.{ImportValue, StateValue}

-- a field that was read: its content, and the bytes after it
pub record Field : Type 0 where
  pub content : List ℕ
  pub behind : List ℕ

-- the content of a field whose length is in range, and the bytes after it
abbrev pub content_of : ℕ → ℕ → ℕ → List ℕ → Result Field StateFault
content_of low high len bytes =
    demand Length (then_some (nat_le low len && nat_le len high && nat_le len (length bytes))
    (record { content = take len bytes; behind = drop len bytes }))

-- the field at the front of these bytes, if it has this tag and a content of `low` to `high` bytes
abbrev pub field_of : ℕ → ℕ → ℕ → List ℕ → Result Field StateFault
field_of tag low high bytes = do
  there ← demand Missing (then_some (nat_le 3 (length bytes)) bytes)
  tagged ← demand Tag (then_some (slice_index there 0 == tag) there)
  content_of low high (number_at w16 1 tagged) (drop 3 tagged)

-- the state that bytes spell, or their first fault
unfoldable pub state_of : List ℕ → Result StateValue StateFault
state_of bytes = do
  fields ← demand Magic (then_some (bytes_eq (take 4 bytes) (codes "OTS1")) (drop 4 bytes))
  terminal ← field_of 1 0 64 fields
  unread ← field_of 2 0 4096 terminal.behind
  counts ← field_of 3 8 8 unread.behind
  demand Trailing (then_some (length counts.behind == 0) (record {
    terminal = terminal.content;
    unread = unread.content;
    lines = number_at w32 0 counts.content;
    bytes = number_at w32 4 counts.content;
  }))

-- the import record of a user and a state, or the state's fault
abbrev pub imported : ℕ → List ℕ → Result StateValue StateFault → Result ImportValue ImportFault
imported uid user (Ok state) = Ok (record { uid = uid; user = user; state = state })
imported uid user (Err fault) = Err (InState fault)

-- the import record that bytes spell, or their first fault
unfoldable pub import_of : List ℕ → Result ImportValue ImportFault
import_of bytes = do
  there ← demand Head (then_some (nat_le 5 (length bytes)) bytes)
  user ← demand Head (then_some (nat_le (slice_index there 4) (length (drop 5 there)))
      (take (slice_index there 4) (drop 5 there)))
  named ← demand Head (then_some (is_name user) user)
  imported (number_at w32 0 there) named (state_of (drop (slice_index there 4) (drop 5 there)))
