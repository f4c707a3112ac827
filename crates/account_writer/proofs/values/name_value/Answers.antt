use Rattle.account_writer.proofs.AsciiLemmas.{name_is_text}
use Rattle.account_writer.proofs.values.name_value.Goals as goal

pub text_value-requires : goal.text_value-requires
text_value-requires c = name_is_text c.as_slice.result.now c.as_slice.ensures.legal
