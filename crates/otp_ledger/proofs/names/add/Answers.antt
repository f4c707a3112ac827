use Rattle.std.proofs.Common.{◌∙◌, ap, subst, sym}
use Rattle.otp_ledger.specs.Names.{AreNamed, IsNameGap, IsNamedHere, number_named}
use Rattle.otp_ledger.proofs.NameLemmas.{names_rise, number_insert, number_stays}
use Rattle.otp_ledger.proofs.names.add.Goals as goal

pub returns-in-Ok-clause-numbers : goal.returns-in-Ok-clause-numbers
returns-in-Ok-clause-numbers c user =
    number_stays c.args.names.now.items c.args.named c.in-Ok.field-0 user c.requires (subst (λ xs. IsNamedHere xs c.args.named.name c.in-Ok.field-0) c.as_slice.ensures.value c.in-Ok.ensures.found)

pub returns-in_ok-insert-in-Err-clause-rising : goal.returns-in_ok-insert-in-Err-clause-rising
returns-in_ok-insert-in-Err-clause-rising c =
    subst AreNamed (sym c.in_ok-insert-in-Err.ensures.items)
    (names_rise c.args.names.now.items c.args.named c.in-Err.place c.requires (subst (λ xs. IsNameGap xs c.args.named.name c.in-Err.place) c.as_slice.ensures.value c.in-Err.ensures.absent))

pub returns-in_ok-insert-in-Err-clause-numbers : goal.returns-in_ok-insert-in-Err-clause-numbers
returns-in_ok-insert-in-Err-clause-numbers c user =
    ap (λ xs. number_named xs user) c.in_ok-insert-in-Err.ensures.items
    ∙ number_insert c.args.names.now.items c.args.named c.in-Err.place user (subst (λ xs. IsNameGap xs c.args.named.name c.in-Err.place) c.as_slice.ensures.value c.in-Err.ensures.absent)
