use Rattle.std.proofs.Common.{rules}
use Rattle.std.proofs.lemmas.Fn.{always_returns_same}
use Rattle.otp_ledger.specs.Kept.{kept_cmp}
use Rattle.otp_ledger.proofs.KeptLemmas.{entry_found, gap_found}
use Rattle.otp_ledger.proofs.kept.search.Goals as goal

pub returns-clause-found : goal.returns-clause-found
returns-clause-found c =
    entry_found c.args.kept.now c.args.entry.now c.binary_search_by.result c.binary_search_by.ensures.bound
    (c.binary_search_by.ensures.position (λ y. kept_cmp y c.args.entry.now) (always_returns_same _ _ _ (λ a r g called. search rules)))

pub returns-clause-absent : goal.returns-clause-absent
returns-clause-absent c =
    gap_found c.args.kept.now c.args.entry.now c.binary_search_by.result c.requires c.binary_search_by.ensures.bound
    (c.binary_search_by.ensures.position (λ y. kept_cmp y c.args.entry.now) (always_returns_same _ _ _ (λ a r g called. search rules)))
