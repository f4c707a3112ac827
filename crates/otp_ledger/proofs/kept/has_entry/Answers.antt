use Rattle.std.proofs.Common.{◌∙◌}
use Rattle.otp_ledger.proofs.KeptLemmas.{search_is}
use Rattle.otp_ledger.proofs.kept.has_entry.Goals as goal

pub returns : goal.returns
returns c = c.is_ok.ensures.value ∙ search_is c.args.kept.now (record { account = c.args.account; password = c.args.password }) c.search.result c.search.ensures.found c.search.ensures.absent
