-- Believed: the command lines of the modes of the children.
use Rattle.std.specs.Prelude.{ℕ, ◌&&◌, nat_le, if◌then◌else◌, List, [], ◌∷◌, codes, Option, Some, None, option_map}
use Rattle.std.specs.Prelude.{option_and_then}
use Rattle.std.specs.Bool.{then_some}
use Rattle.std.specs.Str.{bytes_eq}
use Rattle.request_catalogue.specs.Texts.{is_name}
use Rattle.text_line.specs.Reading.{decimal_of}
use Rattle.child_protocol.specs.Says.{Role, Pre, User}

-- which child is to run, and for which session
pub record ChildParts : Type 0 where
  pub role : Role
  pub session : ℕ

-- the greatest number of a session
abbrev pub session_max : ℕ
session_max = 262144

-- the greatest number of a user
abbrev pub uid_max : ℕ
uid_max = 4294967294

-- the number that a word spells, from 1 to a greatest one, without a leading zero
abbrev pub number_within : ℕ → List ℕ → Option ℕ
number_within max word = option_and_then (λ n. then_some (nat_le 1 n && nat_le n max) n) (decimal_of word)

-- what `child-pre` and one further word ask for
abbrev pub pre_parts : List ℕ → List ℕ → Option ChildParts
pre_parts mode session =
    if bytes_eq mode (codes "child-pre")
    then option_map (λ s. record { role = Pre; session = s }) (number_within session_max session)
    else None

-- what `child-user` and three further words ask for
abbrev pub user_parts : List ℕ → List ℕ → List ℕ → List ℕ → Option ChildParts
user_parts mode session uid name =
    if bytes_eq mode (codes "child-user") && is_name name
    then option_and_then (λ s. option_map (λ u. record { role = User (record { uid = u; name = name }); session = s })
    (number_within uid_max uid)) (number_within session_max session)
    else None

-- what the command line `child-pre SESSION` or `child-user SESSION UID NAME` asks for; any other asks for nothing
abbrev pub child_command : List (List ℕ) → Option ChildParts
child_command (mode ∷ session ∷ []) = pre_parts mode session
child_command (mode ∷ session ∷ uid ∷ name ∷ []) = user_parts mode session uid name
child_command _ = None
