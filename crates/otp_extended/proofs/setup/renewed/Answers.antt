use Rattle.std.proofs.Common.{subst, sym}
use Rattle.policy_model.specs.Settings.{IsInRange}
use Rattle.std.proofs.lemmas.Bool.{false≢true}
use Rattle.otp_extended.proofs.SetupLemmas.{made_range}
use Rattle.otp_extended.proofs.setup.renewed.Goals as goal

pub unreachable-requires : goal.unreachable-requires
unreachable-requires c =
    false≢true (c.in-Err.ensures.refused.1 (made_range c.parts-parts.result.now c.in_ok-parts_with.field-0 c.args.new.now c.as_slice.result.now c.in_ok-accounts.accounts (subst IsInRange (sym c.parts-parts.ensures.value) c.parts-parts.ensures.in_range) c.as_slice.ensures c.in_ok-accounts.ensures c.in_ok-parts_with.ensures c.requires.sequence))
