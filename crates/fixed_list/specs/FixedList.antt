-- Believed: what contracts see of a list of fixed room: its bytes.
use Rattle.std.specs.Prelude.{ℕ, List, take}
use Rattle.fixed_list.specs.declared.FixedList.{FixedList}

-- the bytes of a list of fixed room
unfoldable pub list_of : {N : ℕ} → FixedList N → List ℕ
list_of l = take l.len l.bytes
