-- Believed: what contracts see of short texts, their bytes.
use Rattle.std.specs.Prelude.{ℕ, List}
use Rattle.fixed_list.specs.FixedList.{list_of}
use Rattle.info_hooks.specs.declared.card.InfoText.{InfoText}
use Rattle.info_hooks.specs.declared.card.Short.{Short}

-- the bytes of a short text
abbrev pub short_bytes : Short → List ℕ
short_bytes s = list_of s.text

abbrev pub info_bytes : InfoText → List ℕ
info_bytes t = list_of t.text
