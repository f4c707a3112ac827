use Rattle.std.proofs.Common.{◌≡◌, true}
use Rattle.otp_ledger.specs.Kept.{has_entry}
use Rattle.otp_ledger.proofs.KeptLemmas.{here_is}
use Rattle.otp_ledger.proofs.kept.gap_of.Goals as goal

pub returns-in-Ok : goal.returns-in-Ok
returns-in-Ok c =
    let there : has_entry c.args.entry.now.account c.args.entry.now.password c.args.kept.now ≡ true = here_is c.args.kept.now c.args.entry.now c.in-Ok.place c.in-Ok.ensures.found in
    absurd (cc (there, c.requires.absent))
