use Rattle.std.proofs.Common.{◌≡◌, ◌∙◌, ◌<◌, ◌∷◌, ◌||◌, List, Some, ap, arith, get_or, length, nat_eq, set, slice_get, sym}
use Rattle.std.proofs.lemmas.Option.{slice_get-get_or}
use Rattle.policy_model.specs.declared.account.Account.{Account}
use Rattle.policy_model.specs.Settings.{Settings}
use Rattle.ledger_journal.specs.declared.login.Login.{Login}
use Rattle.ledger_journal.specs.Reads.{AreSeen}
use Rattle.ledger_journal.proofs.PassLemmas.{nobody_passed, passed_is, seen_on}
use Rattle.ledger_journal.proofs.passing.is_passed.Goals as goal

pub returns-in_default-clause-passed : goal.returns-in_default-clause-passed
returns-in_default-clause-passed c = λ later seen. sym (nobody_passed c.args.setup.now c.args.login.now later c.in_default.is)

seen_now : (c : goal.After-index) (later : List Login) → AreSeen c.args.setup.now later c.args.seen.now.items → AreSeen c.args.setup.now (c.args.login.now ∷ later) (set c.args.seen.now.items c.in-Some.account (c.index_mut.result.now || nat_eq (get_or c.as_slice.result.now c.in-Some.account c.index-as_slice-number.result).password c.args.login.now.password))
seen_now c later seen =
    let accounts : List Account = c.as_slice.result.now in
    let own : accounts ≡ c.args.setup.now.accounts = c.as_slice.ensures ∙ ap (λ (s : Settings). s.accounts) c.parts.ensures.value in
    let lt : c.in-Some.account < length c.args.setup.now.accounts = c.requires.within c.in-Some.account c.in-Some.is in
    let below : c.in-Some.account < length accounts = (let e = ap length own in omega (arith, lt, e)) in
    let stands : slice_get c.args.setup.now.accounts c.in-Some.account ≡ Some (get_or accounts c.in-Some.account c.index-as_slice-number.result) = ap (λ l. slice_get l c.in-Some.account) (sym own) ∙ slice_get-get_or accounts c.in-Some.account c.index-as_slice-number.result below in
    seen_on c.args.setup.now later c.args.login.now c.in-Some.account (get_or accounts c.in-Some.account c.index-as_slice-number.result) c.args.seen.now.items c.index_mut.result.now seen c.in-Some.is stands lt c.index_mut.ensures.value

pub returns-clause-seen : goal.returns-clause-seen
returns-clause-seen c = λ later seen. seen_now c later seen

pub returns-clause-passed : goal.returns-clause-passed
returns-clause-passed c = λ later seen.
    c.index.ensures
    ∙ passed_is c.args.setup.now later c.args.login.now c.in-Some.account (set c.args.seen.now.items c.in-Some.account (c.index_mut.result.now || nat_eq (get_or c.as_slice.result.now c.in-Some.account c.index-as_slice-number.result).password c.args.login.now.password)) c.index.result.now (seen_now c later seen) c.in-Some.is (c.requires.within c.in-Some.account c.in-Some.is)
