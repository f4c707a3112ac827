-- Inner: what contracts see of a site in memory.
use Rattle.std.specs.Prelude.{ℕ, List, [], Option, Some, None}
use Rattle.outside.specs.declared.place.Place.{Place}
use Rattle.outside.specs.declared.post.Post.{Ghosts as PostGhosts}
use Rattle.outside.specs.declared.stream.Stream.{Ghosts as StreamGhosts}
use Rattle.outside_memory.specs.declared.site.MemSite.{MemSite}
use Rattle.outside.specs.Told.{told_if}

module _ {P Conn Child : Type 0} {post : PostGhosts P Conn Child} {stream : StreamGhosts Child} where
  -- the posts that the site still holds
  abbrev pub posts_of : MemSite P Conn Child post stream → List P
  posts_of s = elim s.posts [ None ↦ [] | Some posts ↦ posts.items ]

  -- where it listened, if it tells that
  abbrev pub listens_of : MemSite P Conn Child post stream → Option (List Place)
  listens_of s = told_if s.telling s.places.items

  -- how many of its calls failed
  abbrev pub listen_faults_of : MemSite P Conn Child post stream → ℕ
  listen_faults_of s = s.listen_faults
