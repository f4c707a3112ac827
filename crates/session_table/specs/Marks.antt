-- Inner: which kinds of requests a session was permitted, as a test by each kind's number.
use Rattle.std.specs.Prelude.{◌≡◌, ◌==◌, ◌||◌, Bool, true, false, List, Option, Some, None, replicate, slice_index_or}
use Rattle.std.specs.Prelude.{slice_set, if◌then◌else◌}
use Rattle.request_catalogue.specs.declared.kind.Kind.{Kind}
use Rattle.request_catalogue.specs.Kinds.{kind_number}
use Rattle.policy_model.specs.declared.event.Event.{Event}
use Rattle.policy_model.specs.Asks.{is_permit, kind_of}

-- nothing was permitted
abbrev pub no_marks : List Bool
no_marks = replicate 14 false

-- a request of the kind was permitted
abbrev pub has_mark : Kind → List Bool → Bool
has_mark kind marks = slice_index_or marks (kind_number kind) false

abbrev pub with_mark : Kind → List Bool → List Bool
with_mark kind marks = slice_set marks (kind_number kind) true

-- just this kind was added
pub record IsMarked (kind : Kind) (old new : List Bool) : Type 0 where
  pub marks : (other : Kind) → has_mark other new ≡ (has_mark other old || kind_number kind == kind_number other)

-- after an ask of this kind, permitted or not
abbrev pub marks_by : Option Kind → Bool → List Bool → List Bool
marks_by None permitted marks = marks
marks_by (Some kind) permitted marks = if permitted then with_mark kind marks else marks

-- after an event of the session
abbrev pub marks_after : List Bool → Event → List Bool
marks_after marks e = marks_by (kind_of e.ask) (is_permit e.decision) marks
