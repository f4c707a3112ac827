-- Inner: what contracts see of a post in memory.
use Rattle.std.specs.Prelude.{◌≡◌, ℕ, ◌+◌, ◌-◌, ◌^◌, min, List, [], drop, get_or, length, slice_get, Option, option_map}
use Rattle.std.specs.Prelude.{unwrap_or}
use Rattle.outside.specs.declared.faults.Faults.{Faults}
use Rattle.outside_memory.specs.declared.conn.MemConn.{MemConn}
use Rattle.outside_memory.specs.declared.fail.CallKind.TheVariants.{Accept, Start, ConnRecv, ConnSend, VaultRead}
use Rattle.outside_memory.specs.declared.fail.CallKind.TheVariants.{VaultWrite}
use Rattle.outside_memory.specs.declared.fail.Fail.{Fail}
use Rattle.outside_memory.specs.declared.script.Script.{Script}
use Rattle.outside_memory.specs.declared.post.MemPost.{MemPost}
use Rattle.outside_memory.specs.Failures.{failure_of}
use Rattle.outside.specs.Scene.{Scene}
use Rattle.outside_memory.specs.Script.{plan_of}
use Rattle.outside_memory.specs.Shelf.{shelf_files}
use Rattle.outside.specs.Told.{next_count, told_if}
use Rattle.outside_memory.specs.Transcript.{scene_with}
use Rattle.outside_memory.specs.Vaults.{Vault}

-- what the post tells
abbrev pub scene_of : MemPost → Option Scene
scene_of p = scene_with p.transcript (plan_of p.scripts.items)

-- how many faults it had, by kind
abbrev pub faults_of : MemPost → Faults
faults_of p = p.faults

-- what stands in the users' files, if it is told
abbrev pub users_files : MemPost → Option Vault
users_files p = told_if p.tells_files (shelf_files p.shelf)

-- how many calls of each kind were made
pub record CallsMade : Type 0 where
  pub accepts : ℕ
  pub starts : ℕ
  pub conn_recvs : ℕ
  pub conn_sends : ℕ
  pub vault_reads : ℕ
  pub vault_writes : ℕ

-- what a post in memory goes by: the calls of it and of the child that it starts next that are to
-- fail, the cuts of its children and connections, the moments that its clock has still to give, the
-- room for acts, the scripts, how many connections came, and the calls made
pub record PostSchedule : Type 0 where
  pub fails : List Fail
  pub child_fails : List Fail
  pub cuts : List ℕ
  pub moments : List ℕ
  pub room : ℕ
  pub scripts : List Script
  pub came : ℕ
  pub made : CallsMade

-- what the post goes by
abbrev pub post_schedule : MemPost → PostSchedule
post_schedule p = record {
  fails = p.fails.items;
  child_fails = p.child_fails.items;
  cuts = p.cuts.items;
  moments = p.moments;
  room = p.transcript.room;
  scripts = p.scripts.items;
  came = p.came;
  made = record {
    accepts = p.made.accepts;
    starts = p.made.starts;
    conn_recvs = p.made.conn_recvs;
    conn_sends = p.made.conn_sends;
    vault_reads = p.made.vault_reads;
    vault_writes = p.made.vault_writes;
  };
}

-- the failure of the next accept, if it is to fail
abbrev pub accept_failure : PostSchedule → Option ℕ
accept_failure s = failure_of s.fails Accept (next_count s.made.accepts)

-- the failure of the next start, if it is to fail
abbrev pub start_failure : PostSchedule → Option ℕ
start_failure s = failure_of s.fails Start (next_count s.made.starts)

-- the failure of the next receiving from a client, if it is to fail
abbrev pub conn_recv_failure : PostSchedule → Option ℕ
conn_recv_failure s = failure_of s.fails ConnRecv (next_count s.made.conn_recvs)

-- the failure of the next send to a client, if it is to fail
abbrev pub conn_send_failure : PostSchedule → Option ℕ
conn_send_failure s = failure_of s.fails ConnSend (next_count s.made.conn_sends)

-- the failure of the next reading of a user's file, if it is to fail
abbrev pub vault_read_failure : PostSchedule → Option ℕ
vault_read_failure s = failure_of s.fails VaultRead (next_count s.made.vault_reads)

-- the failure of the next writing into a user's file, if it is to fail
abbrev pub vault_write_failure : PostSchedule → Option ℕ
vault_write_failure s = failure_of s.fails VaultWrite (next_count s.made.vault_writes)

-- what the client of the script with this number sends; nothing where there is none
abbrev pub client_bytes : List Script → ℕ → List ℕ
client_bytes scripts number = unwrap_or (option_map (λ s. s.client) (slice_get scripts number)) []

-- what the client of a connection has still to send
abbrev pub client_left : List Script → MemConn → List ℕ
client_left scripts conn = drop conn.taken (client_bytes scripts conn.script)

-- the length of a connection's next piece: the cut of its number, or the last one
abbrev pub conn_piece : List ℕ → MemConn → ℕ
conn_piece cuts conn = get_or cuts (min conn.pieces (length cuts - 1)) 0

-- a connection by which so many more bytes were received
pub record HasReceived (count : ℕ) (before after : MemConn) : Type 0 where
  pub script : after.script ≡ before.script
  pub taken : after.taken ≡ min (before.taken + count) (2 ^ 64 - 1)
  pub pieces : after.pieces ≡ next_count before.pieces
