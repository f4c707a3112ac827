use Rattle.imsg_frame.proofs.Spelling.{header_bytes-from_fields}
use Rattle.imsg_frame.proofs.header.Header.from_front.Goals as goal

pub returns-clause-bytes : goal.returns-clause-bytes
returns-clause-bytes c =
    header_bytes-from_fields c.args.width c.args.bytes.now _ c.u32_at.ensures c.len_and_flags-len.ensures.bytes c.u32_at-2.ensures c.u32_at-3.ensures
