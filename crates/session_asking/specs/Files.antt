-- Inner: the names of open files by their handles.
use Rattle.std.specs.Prelude.{ℕ, zero, suc, List, Option, None, slice_index_or}
use Rattle.request_catalogue.specs.declared.texts.Label.{Label}

-- the name at a handle from 1 on
abbrev pub name_in : List (Option Label) → ℕ → Option Label
name_in names zero = None
name_in names (suc place) = slice_index_or names place None
