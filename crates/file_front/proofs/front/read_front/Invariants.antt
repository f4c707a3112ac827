use Rattle.std.proofs.Common.{◌-◌, ◌≤◌, ◌∷◌, [], vec_len}
use Rattle.outside.specs.FilesNow.{OnlyReads, files_now}
use Rattle.file_front.proofs.FrontLemmas.{HasFront}
use Rattle.file_front.proofs.front.read_front.Given as goal

abbrev pub invariant-loop-piece : goal.invariant-loop-piece
invariant-loop-piece g l =
    let now = files_now g.F.Files.contents g.F.Files.read_faults g.F.Files.replace_faults g.F.Files.touched in
    (vec_len l.bytes ≤ l.limit) × HasFront (g.F.Files.contents l.files) l.name l.bytes.items × OnlyReads (l.name ∷ []) (now l.initial.files) (now l.files)

abbrev pub decreases-loop-piece : goal.decreases-loop-piece
decreases-loop-piece g l = l.limit - vec_len l.bytes
