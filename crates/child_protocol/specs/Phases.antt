-- Inner: the phase of a child's session, by what it asked and was
-- answered, and what the phase table says of its next request.
use Rattle.std.specs.Prelude.{◌≡◌, Bool, true, false, List, [], ◌∷◌, not, ◌&&◌, ◌||◌, ◌==◌}
use Rattle.request_catalogue.specs.declared.kind.Kind.{Kind}
use Rattle.request_catalogue.specs.Kinds.{kind_number}
use Rattle.request_catalogue.specs.Catalogue.{RequestValue, Reply, Export, kind_of}
use Rattle.policy_model.specs.declared.phase.Phase.{Phase}
use Rattle.policy_model.specs.declared.phase.Phase.TheVariants as phases
use Rattle.policy_model.specs.declared.phase.Row.{Row}
use Rattle.policy_model.specs.Phases.{table_row}
use Rattle.child_protocol.specs.Exchanges.{Exchange, is_permitted, is_challenged}
use Rattle.child_protocol.specs.Says.{Role}
use Rattle.child_protocol.specs.Says as roles

abbrev pub is_reply : RequestValue → Bool
is_reply (Reply text) = true
is_reply _ = false

abbrev pub is_export : RequestValue → Bool
is_export (Export state) = true
is_export _ = false

-- a request of this kind
abbrev pub is_of : Kind → RequestValue → Bool
is_of kind request = kind_number (kind_of request) == kind_number kind

-- such a request was permitted
abbrev pub was_had : (RequestValue → Bool) → List Exchange → Bool
was_had test [] = false
was_had test (e ∷ before) = (test e.request && is_permitted e.answer) || was_had test before

-- the phase, by whether the state was exported, a reply was permitted, and a challenge is open
abbrev pub phase_by : Bool → Bool → Bool → Phase
phase_by true verified challenged = phases.User
phase_by false true challenged = phases.Verified
phase_by false false true = phases.Challenged
phase_by false false false = phases.Pre

-- the phase of a child's session after these exchanges
abbrev pub phase_in : Role → List Exchange → Phase
phase_in roles.Pre history = phase_by (was_had is_export history) (was_had is_reply history) (is_challenged history)
phase_in (roles.User who) history = phases.User

-- a cell of the table is there, and where it permits once, the request was not had
abbrev pub row_allows : Row → Bool → Bool
row_allows row had = row.permitted && not (row.once && had)

-- the phase table allows the request after these exchanges
abbrev pub IsAllowed : Role → RequestValue → List Exchange → Type 0
IsAllowed role request history =
    row_allows (table_row (phase_in role history) (kind_of request)) (was_had (is_of (kind_of request)) history) ≡ true
