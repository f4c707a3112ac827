use Rattle.std.proofs.Common.{refl, ◌∙◌}
use Rattle.setup_reading.proofs.ReadLemmas.{judged-short}
use Rattle.recover_mode.proofs.texts.recovered_texts.Goals as goal

pub returns : goal.returns
returns c = record {
  setup_file = c.in_ok-of.ensures ∙ c.as_bytes.ensures.value;
  log_file = c.in_ok-of-2.ensures ∙ c.as_bytes-2.ensures.value;
  spelled = judged-short _ _ c.in_ok-write_accounts.ensures.written.few c.in_ok-write_accounts.ensures.current;
  written = c.in_ok-write_accounts.ensures.written;
  lines = refl;
  accepted = refl;
  line = c.in_ok-recovery_line.ensures;
}
