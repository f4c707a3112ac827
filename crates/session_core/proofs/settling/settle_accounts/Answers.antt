use Rattle.std.proofs.Common.{ap}
use Rattle.std.specs.Option.{option_copied}
use Rattle.session_core.proofs.settling.settle_accounts.Goals as goal

pub settle_session-requires : goal.settle_session-requires
settle_session-requires c = record { number = c.requires.number; spends = λ h. c.requires.fits.spends c.in-Some.row.now (ap option_copied c.in-Some.is) h }
