use Rattle.std.proofs.Common.{◌≡◌, ◌∙◌, sym, ap, subst}
use Rattle.std.specs.List.{insert}
use Rattle.otp_ledger.specs.Kept.{IsGap, IsHere, IsRising, has_entry}
use Rattle.otp_ledger.proofs.KeptLemmas.{entries_insert, entries_there, rising_insert}
use Rattle.otp_ledger.proofs.kept.keep.Goals as goal

pub returns-in-Err-clause-rising : goal.returns-in-Err-clause-rising
returns-in-Err-clause-rising c =
    let old = c.args.kept.now.items in
    let items : c.insert_at.new.kept.items ≡ insert old c.in-Err.place c.args.entry = c.insert_at.ensures.items in
    subst IsRising (sym items) (rising_insert old c.args.entry c.in-Err.place c.requires.rising (subst (λ xs. IsGap xs c.args.entry c.in-Err.place) c.as_slice.ensures.value c.in-Err.ensures.absent))

pub returns-in-Err-clause-entries : goal.returns-in-Err-clause-entries
returns-in-Err-clause-entries c account password =
    let old = c.args.kept.now.items in
    let items : c.insert_at.new.kept.items ≡ insert old c.in-Err.place c.args.entry = c.insert_at.ensures.items in
    ap (has_entry account password) items ∙ entries_insert old c.args.entry c.in-Err.place account password

pub returns-in_default-clause-entries : goal.returns-in_default-clause-entries
returns-in_default-clause-entries c account password =
    entries_there c.args.kept.now.items c.args.entry c.in_default.field-0 account password (subst (λ xs. IsHere xs c.args.entry c.in_default.field-0) c.as_slice.ensures.value c.in_default.ensures.found)
