use Rattle.std.proofs.Common.{rules, refl, ◌∙◌}
use Rattle.otp_ledger.proofs.PartLemmas.{entry_in_part}
use Rattle.otp_ledger.proofs.places.Places.has_entry.Goals as goal

pub returns-then-is_stop : goal.returns-then-is_stop
returns-then-is_stop c = c.has_entry.ensures ∙ entry_in_part c.args.kept.now c.of-first.result.0 c.of-first.result.1 (record { account = c.args.account; password = c.args.password }) (search rules) (search rules) (c.if-is_start.ensures refl) (c.if-is_stop.ensures refl)
