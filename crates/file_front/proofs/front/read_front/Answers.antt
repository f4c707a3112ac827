use Rattle.std.proofs.Common.{◌≡◌, ◌-◌, ◌≤◌, ◌++◌, Some, arith, drop, length, length-take, vec_len}
use Rattle.outside.specs.FilesNow.{files_now}
use Rattle.file_front.proofs.FrontLemmas.{HasFront-more, Reads-more}
use Rattle.file_front.proofs.front.read_front.Goals as goal

-- a piece more was read, of files that stayed as they were
pub loop-piece-preserved : goal.loop-piece-preserved
loop-piece-preserved g c =
    let contents = g.F.Files.contents in
    let now = files_now g.F.Files.contents g.F.Files.read_faults g.F.Files.replace_faults g.F.Files.touched in
    let before = contents c.loop-piece.files in
    let after = contents c.read.new.self in
    let read = c.in_ok-read.ensures in
    let n = c.in-Some.n in
    let same : c.in_ok-word.word ≡ c.args.name.now = grind arith in
    let found : c.in_ok-read.field-0 ≡ Some n = grind arith in
    let within : n ≤ length c.read.new.buf = grind arith in
    let held = c.loop-piece.invariant in
    let in_room : n ≤ c.min-room.result = omega (arith, within, c.read.auto.buf, length-take c.min-room.result c.loop-piece.piece) in
    let room_left : c.min-room.result ≤ c.args.limit - vec_len c.loop-piece.bytes = grind arith in
    let added = c.in_ok-extend_from_slice-in-Some.ensures.len in
    let short = length-take n (c.read.new.buf ++ drop c.min-room.result c.loop-piece.piece) in (
      omega (arith, added, short, in_room, room_left, held.0),
      rw c.in_ok-extend_from_slice-in-Some.ensures.items (HasFront-more before after c.in_ok-word.word c.args.name.now same c.loop-piece.bytes.items c.read.new.buf _ c.in_ok-read.field-0 n _ _ read.same held.1 found (grind arith) within read.found),
      Reads-more _ c.in_ok-word.word c.args.name.now same (now c.args.files.now) (now c.loop-piece.files) (now c.read.new.self) held.2 read.same read.kept read.others c.read.ensures.touched_ok c.read.ensures.touched_err,
    )
