-- Inner: where a site listened.
use Rattle.std.specs.Prelude.{List, [], ◌∷◌, Result, Ok, Err}
use Rattle.outside.specs.declared.act.Failed.{Failed}
use Rattle.outside.specs.declared.place.Place.{Place}

-- the places where a call listened: its place, where it succeeded
abbrev pub places_listened : {X : Type 0} → Result X Failed → Place → List Place
places_listened (Ok _) place = place ∷ []
places_listened (Err _) place = []
