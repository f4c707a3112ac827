use Rattle.std.proofs.Common.{refl}
use Rattle.imsg_frame.specs.Message.{header_bytes}
use Rattle.imsg_frame.proofs.Spelling.{four_parts}
use Rattle.imsg_frame.proofs.header.Header.to_bytes.Goals as goal

pub returns : goal.returns
unfolding header_bytes
returns c =
    let parts = four_parts _ c.len_to_bytes.ensures.four in
    rw (
      c.copy_from_slice.ensures.after,
      c.copy_from_slice-2.ensures.after,
      c.copy_from_slice-3.ensures.after,
      c.copy_from_slice-4.ensures.after,
      c.to_le_bytes.ensures,
      c.to_le_bytes-2.ensures,
      c.to_le_bytes-3.ensures,
      ← c.len_to_bytes.ensures.bytes,
      parts.4,
    ) refl
