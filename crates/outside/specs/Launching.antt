-- Inner: the words that a launcher is given.
use Rattle.std.specs.Prelude.{ℕ, List, [], ◌∷◌, codes}
use Rattle.std.specs.Fmt.{decimal}
use Rattle.request_catalogue.specs.TextBytes.{name_bytes}
use Rattle.outside.specs.declared.act.Role.{Role}
use Rattle.outside.specs.declared.act.Role.TheVariants.{Pre, User}

-- the words that a launcher is given for a child of this role
abbrev pub launch_words : Role → List (List ℕ)
launch_words (Pre session) = codes "child-pre" ∷ decimal session ∷ []
launch_words (User session uid user) = codes "child-user" ∷ decimal session ∷ decimal uid ∷ name_bytes user ∷ []
