use Rattle.std.proofs.Common.{None, ap, sym}
use Rattle.std.specs.Prelude.{unwrap_or}
use Rattle.audit_check.proofs.KeptLemmas.{last_at}
use Rattle.audit_check.proofs.accounts.last_or.Goals as goal

pub returns-in-len1-up : goal.returns-in-len1-up
returns-in-len1-up c = sym (ap (λ o. unwrap_or o c.args.other) (last_at None c.args.passwords.now c.in-len1-up.len_at_least))
