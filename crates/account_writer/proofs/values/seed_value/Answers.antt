use Rattle.account_writer.proofs.AsciiLemmas.{seed_is_text}
use Rattle.account_writer.proofs.values.seed_value.Goals as goal

pub text_value-requires : goal.text_value-requires
text_value-requires c = seed_is_text c.as_slice.result.now c.as_slice.ensures.legal
