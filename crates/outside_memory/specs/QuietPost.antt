-- Inner: what contracts see of a quiet post.
use Rattle.std.specs.Prelude.{ℕ, ◌-◌, ◌&&◌, Bool, List, nat_lt, Option}
use Rattle.outside.specs.declared.faults.Faults.{Faults}
use Rattle.outside_memory.specs.declared.script.Script.{Script}
use Rattle.outside.specs.Faults.{no_faults}
use Rattle.outside.specs.Scene.{Scene}
use Rattle.outside_memory.specs.Script.{plan_of}
use Rattle.outside.specs.Told.{told_if}
use Rattle.outside_memory.specs.Vaults.{Vault}
use Rattle.outside_memory.specs.declared.quiet_post.QuietPost.{QuietPost}
use Rattle.outside_memory.specs.declared.room.Pieces.{Pieces}
use Rattle.outside_memory.specs.Pieces.{has_piece, without}
use Rattle.outside_memory.specs.Shelf.{shelf_files}
use Rattle.outside_memory.specs.Transcript.{scene_with}

-- what the post tells
abbrev pub scene_of : QuietPost → Option Scene
scene_of p = scene_with p.transcript (plan_of p.scripts.items)

-- how many faults it had, by kind: none
abbrev pub faults_of : QuietPost → Faults
faults_of p = no_faults

-- what stands in the users' files, if it is told
abbrev pub users_files : QuietPost → Option Vault
users_files p = told_if p.transcript.telling (shelf_files p.shelf)

-- what a quiet post has left: whether it tells, the room for acts and talks, how many streams for
-- children and the size of each, the buffers for bytes, the cuts of its children and connections, the
-- moments that its clock has still to give, the scripts, and how many connections came
pub record PostStock : Type 0 where
  pub telling : Bool
  pub acts : ℕ
  pub talks : ℕ
  pub streams : ℕ
  pub stream_size : ℕ
  pub pieces : Pieces
  pub cuts : List ℕ
  pub moments : List ℕ
  pub scripts : List Script
  pub came : ℕ

-- what the post has left
abbrev pub post_stock : QuietPost → PostStock
post_stock p = record {
  telling = p.transcript.telling;
  acts = p.transcript.acts_left;
  talks = p.transcript.talks_left;
  streams = p.blanks.count;
  stream_size = p.blanks.size;
  pieces = p.shelf.buffers.pieces;
  cuts = p.blanks.cuts;
  moments = p.moments;
  scripts = p.scripts.items;
  came = p.came;
}

-- what is left after an act without bytes: the post tells where it told before and there was room
-- for the act
abbrev pub after_act : PostStock → PostStock
after_act s = record s { telling = s.telling && nat_lt 0 s.acts; acts = s.acts - 1 }

-- what is left after an act with so many bytes: the post tells where it told before and there was
-- room for the act and a buffer for the bytes
abbrev pub after_bytes : ℕ → PostStock → PostStock
after_bytes bytes s = record s {
  telling = s.telling && (has_piece s.pieces bytes && nat_lt 0 s.acts);
  acts = s.acts - 1;
  pieces = without 1 s.pieces;
}
