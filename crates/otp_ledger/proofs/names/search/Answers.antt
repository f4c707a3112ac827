use Rattle.std.proofs.Common.{rules}
use Rattle.std.proofs.lemmas.Fn.{always_returns_same}
use Rattle.otp_ledger.specs.declared.names.Named.{Named}
use Rattle.otp_ledger.specs.Names.{name_cmp}
use Rattle.otp_ledger.proofs.NameLemmas.{found_gap, found_here}
use Rattle.otp_ledger.proofs.names.search.Goals as goal

pub returns-clause-found : goal.returns-clause-found
returns-clause-found c =
    found_here c.args.names.now c.args.user.now c.binary_search_by.result c.binary_search_by.ensures.bound
    (c.binary_search_by.ensures.position (λ (e : Named). name_cmp e.name c.args.user.now) (always_returns_same _ _ _ (λ a r g called. search rules)))

pub returns-clause-absent : goal.returns-clause-absent
returns-clause-absent c =
    found_gap c.args.names.now c.args.user.now c.binary_search_by.result c.requires c.binary_search_by.ensures.bound
    (c.binary_search_by.ensures.position (λ (e : Named). name_cmp e.name c.args.user.now) (always_returns_same _ _ _ (λ a r g called. search rules)))
