-- Inner: the words that a launcher is given, as one text.
use Rattle.std.specs.Prelude.{ℕ, List}
use Rattle.std.specs.List.{join_with_byte}
use Rattle.outside.specs.declared.act.Role.{Role}
use Rattle.outside.specs.Launching.{launch_words}

-- the words that a launcher is given, with a space between two
abbrev pub launch_text : Role → List ℕ
launch_text role = join_with_byte 32 (launch_words role)
