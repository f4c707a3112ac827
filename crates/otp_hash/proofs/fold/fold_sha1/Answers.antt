use Rattle.std.proofs.Common.{refl}
use Rattle.otp_hash.specs.Hashing.{folded_sha1}
use Rattle.otp_hash.proofs.fold.fold_sha1.Goals as goal

pub returns : goal.returns
unfolding folded_sha1
returns c = rw (c.copy_from_slice.ensures.after, c.copy_from_slice-2.ensures.after, c.to_le_bytes.ensures, c.to_le_bytes-2.ensures, c.word.ensures, c.word-2.ensures, c.word-3.ensures, c.word-4.ensures, c.word-5.ensures) refl
