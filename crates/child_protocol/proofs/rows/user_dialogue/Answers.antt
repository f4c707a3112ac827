use Rattle.std.proofs.Common.{refl}
use Rattle.std.specs.Fmt.{digits}
use Rattle.request_catalogue.specs.Fields.{number_at}
use Rattle.request_catalogue.specs.Texts.{is_label, is_name, is_note}
use Rattle.text_line.specs.Reading.{decimal_of}
use Rattle.child_protocol.specs.Lines.{line_end, front_of}
use Rattle.state_export.specs.Spelling.{state_bytes}
use Rattle.state_export.specs.Reading.{import_of, state_of}
use Rattle.child_protocol.specs.User.{user_command, user_next, number_of, is_content, space_in}
use Rattle.child_protocol.specs.Says.{exchanges_of, says}
use Rattle.child_protocol.proofs.rows.user_dialogue.Goals as goal

pub returns : goal.returns
unfolding line_end says exchanges_of user_next front_of user_command is_label is_note digits state_bytes import_of state_of number_at is_name decimal_of number_of is_content space_in
returns c = record {
  begins = refl;
  reads_the_file = refl;
  closes = refl;
  tells = refl;
  faults = refl;
}
