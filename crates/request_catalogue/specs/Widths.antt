-- Believed: what the two widths of frames allow, in bytes.
use Rattle.std.specs.Prelude.{ℕ}
use Rattle.request_catalogue.specs.declared.width.Width.{Width}
use Rattle.request_catalogue.specs.declared.width.Width.TheVariants as widths

-- the most bytes of a frame, its header of 16 bytes included
abbrev pub frame_max : Width → ℕ
frame_max widths.Narrow = 16384
frame_max widths.Wide = 65536

-- the most bytes of a frame's body
abbrev pub body_max : Width → ℕ
body_max widths.Narrow = 16368
body_max widths.Wide = 65520

-- the most bytes that one request reads or writes
abbrev pub transfer_max : Width → ℕ
transfer_max widths.Narrow = 16000
transfer_max widths.Wide = 60000
