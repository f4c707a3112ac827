use Rattle.std.proofs.Common.{List, ℕ, ◌++◌, drop, ap, ◌∙◌, ◌+◌, length}
use Rattle.imsg_frame.specs.Message.{spelling_of}
use Rattle.imsg_frame.proofs.Arrays.{put_mid-behind_front}
use Rattle.imsg_frame.proofs.Spelling.{length-header_bytes, spelling_of-alike}
use Rattle.imsg_frame.proofs.composing.compose.Goals as goal

pub returns-clause-written : goal.returns-clause-written
unfolding spelling_of
returns-clause-written c =
    rw (c.write.ensures, c.copy_from_slice.ensures.after) (put_mid-behind_front c.args.out.now _ c.args.body.now 16 (length-header_bytes _ _))

pub returns-clause-alike : goal.returns-clause-alike
returns-clause-alike c short either =
    returns-clause-written c ∙ ap (λ (spelled : List ℕ). spelled ++ drop (16 + length c.args.body.now) c.args.out.now) (spelling_of-alike c.args.width either c.args.kind c.args.peerid c.args.pid c.args.body.now c.ranges.kind.fits c.ranges.peerid.fits c.ranges.pid.fits short)
