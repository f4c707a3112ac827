-- A request in either width.
use Rattle.std.proofs.Common.{◌≡◌, refl, arith, Ok}
use Rattle.request_catalogue.specs.declared.width.Width.{Width}
use Rattle.request_catalogue.specs.declared.width.Width.TheVariants as widths
use Rattle.request_catalogue.specs.Kinds.{kind_number}
use Rattle.request_catalogue.specs.Catalogue.{RequestValue, IsInRange, kind_of, payload_of, Banner, Challenge, Reply, Abandon, Export, Import, ReadAt, WriteAt, OpenFile, CloseFile, Info, Note, Finish}
use Rattle.request_catalogue.specs.Reading.{request_of}
use Rattle.request_catalogue.proofs.Messages.{IsRequest-request_of}
use Rattle.child_protocol.specs.Frames.{frame_width}

-- what is in the narrow range is in the wide one
in_wide_range : (value : RequestValue) → IsInRange frame_width value → IsInRange widths.Wide value
in_wide_range Banner range = range
in_wide_range (Challenge user) range = range
in_wide_range (Reply text) range = range
in_wide_range Abandon range = range
in_wide_range (Export state) range = range
in_wide_range Import range = range
in_wide_range (ReadAt handle offset max) range = (range.0, range.1, range.2, omega (arith, range.3))
in_wide_range (WriteAt handle offset bytes) range = (range.0, range.1, range.2, omega (arith, range.3))
in_wide_range (OpenFile mode name) range = range
in_wide_range (CloseFile handle) range = range
in_wide_range (Info number) range = range
in_wide_range (Note text) range = range
in_wide_range Finish range = range

in_either_range : (either : Width) (value : RequestValue) → IsInRange frame_width value → IsInRange either value
in_either_range widths.Narrow value range = range
in_either_range widths.Wide value range = in_wide_range value range

-- it is read as itself
pub reads_in : (value : RequestValue) → IsInRange frame_width value → (either : Width) → request_of either (kind_number (kind_of value)) 0 (payload_of value) ≡ Ok value
reads_in value range either = IsRequest-request_of either (kind_number (kind_of value)) 0 (payload_of value) value (record { no_flags = refl; of_kind = refl; in_range = in_either_range either value range; spelled = refl })
