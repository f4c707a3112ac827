use Rattle.std.proofs.Common.{sym}
use Rattle.otp_ledger.proofs.NameLemmas.{number_here, number_in_gap}
use Rattle.otp_ledger.proofs.names.number_of.Goals as goal

pub returns-in-Ok : goal.returns-in-Ok
returns-in-Ok c = sym (number_here c.args.names.now c.args.user.now c.in-Ok.place c.index-names-place.result c.requires c.in-Ok.ensures.found)

pub returns-in-Err : goal.returns-in-Err
returns-in-Err c = sym (number_in_gap c.args.names.now c.args.user.now c.in-Err.field-0 c.in-Err.ensures.absent)
