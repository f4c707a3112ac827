use Rattle.std.proofs.Common.{◌≡◌, ◌-◌, ◌≤◌, false, [], length, take}
use Rattle.outside.specs.Link.{Exchanged}
use Rattle.outside.specs.Told.{Goes}
use Rattle.otp_mode.specs.Asking.{AsksWithin}
use Rattle.otp_mode.proofs.Asking.{has_newline}
use Rattle.otp_mode.proofs.line.receive_line.Given as goal

abbrev pub invariant-loop-filled : goal.invariant-loop-filled
invariant-loop-filled g l =
    (l.filled ≤ 4096) × Goes (Exchanged (take l.filled l.buf) []) (g.E.Stream.link l.initial.ends) (g.E.Stream.link l.ends) × (g.E.Stream.faults l.initial.ends ≤ g.E.Stream.faults l.ends) × (length l.buf ≡ 4096)
    × (has_newline (take l.filled l.buf) ≡ false) × Goes (AsksWithin l.filled) (g.E.Stream.link l.initial.ends) (g.E.Stream.link l.ends)

abbrev pub decreases-loop-filled : goal.decreases-loop-filled
decreases-loop-filled g l = 4096 - l.filled
