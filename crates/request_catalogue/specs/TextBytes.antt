-- Believed: the bytes of a name, a label and a note.
use Rattle.std.specs.Prelude.{ℕ, List}
use Rattle.fixed_list.specs.FixedList.{list_of}
use Rattle.request_catalogue.specs.declared.texts.Name.{Name}
use Rattle.request_catalogue.specs.declared.texts.Label.{Label}
use Rattle.request_catalogue.specs.declared.texts.Note.{Note}

-- the bytes of a name
abbrev pub name_bytes : Name → List ℕ
name_bytes n = list_of n.text

-- the bytes of a label
abbrev pub label_bytes : Label → List ℕ
label_bytes l = list_of l.text

-- the bytes of a note
abbrev pub note_bytes : Note → List ℕ
note_bytes n = list_of n.text
