use Rattle.account_writer.proofs.AsciiLemmas.{label_is_text}
use Rattle.account_writer.proofs.values.label_value.Goals as goal

pub text_value-requires : goal.text_value-requires
text_value-requires c = label_is_text c.as_slice.result.now c.as_slice.ensures.legal
