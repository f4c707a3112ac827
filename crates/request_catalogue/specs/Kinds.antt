-- Believed: the kinds of requests and their numbers.
use Rattle.std.specs.Prelude.{ℕ, List, [], ◌∷◌, Option, find, ◌==◌}
use Rattle.request_catalogue.specs.declared.kind.Kind.{Kind}
use Rattle.request_catalogue.specs.declared.kind.Kind.TheVariants as kinds

-- the number of a kind in a message's header
abbrev pub kind_number : Kind → ℕ
kind_number kinds.Banner = 1
kind_number kinds.Challenge = 2
kind_number kinds.Reply = 3
kind_number kinds.Abandon = 4
kind_number kinds.Export = 5
kind_number kinds.Import = 6
kind_number kinds.ReadAt = 7
kind_number kinds.WriteAt = 8
kind_number kinds.OpenFile = 9
kind_number kinds.CloseFile = 10
kind_number kinds.Info = 11
kind_number kinds.Note = 12
kind_number kinds.Finish = 13

-- the thirteen kinds of requests
abbrev pub all_kinds : List Kind
all_kinds = kinds.Banner ∷ kinds.Challenge ∷ kinds.Reply ∷ kinds.Abandon ∷ kinds.Export ∷ kinds.Import ∷ kinds.ReadAt
    ∷ kinds.WriteAt ∷ kinds.OpenFile ∷ kinds.CloseFile ∷ kinds.Info ∷ kinds.Note ∷ kinds.Finish ∷ []

-- the kind of a number, if it has one
unfoldable pub kind_numbered : ℕ → Option Kind
kind_numbered number = find (λ k. kind_number k == number) all_kinds
