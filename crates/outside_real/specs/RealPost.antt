-- Inner: what contracts see of a real post.
use Rattle.std.specs.Prelude.{◌≡◌, None}
use Rattle.outside.specs.declared.faults.Faults.{Faults}
use Rattle.outside.specs.declared.place.Place.{Place}
use Rattle.outside.specs.Scene.{IsFresh}
use Rattle.outside_real.specs.declared.post.RealPost.{RealPost}

-- how many faults it had, by kind
abbrev pub faults_of : {R : Type 0} → RealPost R → Faults
faults_of p = p.faults

-- the place where its clients come in, whose launcher starts its children and whose vault has its users' files
abbrev pub place_of : {R : Type 0} → RealPost R → Place
place_of p = p.place

-- a post that was just made: its counts are 0
abbrev pub IsFreshPost : {R : Type 0} → RealPost R → Type 0
IsFreshPost post = IsFresh (λ _. None) faults_of post

-- a post of this place
pub record IsPostAt {R : Type 0} (place : Place) (post : RealPost R) : Type 0 where
  pub at : place_of post ≡ place
