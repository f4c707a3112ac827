use Rattle.std.proofs.Common.{◌≡◌, ◌∙◌, ◌&&◌, List, ap, arith, length, not, subst, sym}
use Rattle.std.specs.List.{AllByRecursion}
use Rattle.policy_model.specs.Settings.{Settings}
use Rattle.ledger_journal.specs.declared.login.Login.{Login}
use Rattle.ledger_journal.specs.Logins.{left_of, logins_of}
use Rattle.ledger_journal.specs.Reads.{IsWithin}
use Rattle.ledger_journal.specs.Recovering.{is_none_left}
use Rattle.ledger_journal.proofs.AnswerLemmas.{first_fault, recovered}
use Rattle.ledger_journal.proofs.PassLemmas.{all_left}
use Rattle.ledger_journal.proofs.recovery.spent_answer.Goals as goal

pub spend_all-refused-requires-clause-within : goal.spend_all-refused-requires-clause-within
spend_all-refused-requires-clause-within c =
    let setup : Settings = c.args.ledger.setup in
    subst (λ (l : List Login). AllByRecursion (IsWithin setup) l) (sym c.requires.left) (all_left (IsWithin setup) setup c.args.log.now.logins.items c.requires.read.read.within)

pub returns-in-Some : goal.returns-in-Some
returns-in-Some c = λ records r.
    let setup : Settings = c.args.ledger.setup in
    let left : List Login = c.args.left.now in
    let is : left ≡ left_of setup (logins_of setup records) = c.requires.left ∙ ap (left_of setup) r.logins in
    first_fault setup records left c.spend_all-refused.new.ledger is c.args.log.now.bad c.spend_all-refused.result c.in-Some.number r.first_bad c.spend_all-refused.ensures (sym c.first_of.ensures ∙ c.in-Some.is)

pub returns-in-None : goal.returns-in-None
returns-in-None c = λ records r.
    let setup : Settings = c.args.ledger.setup in
    let left : List Login = c.args.left.now in
    let is : left ≡ left_of setup (logins_of setup records) = c.requires.left ∙ ap (left_of setup) r.logins in
    let accepted : c.len.result ≡ length (logins_of setup records) = (let h = ap length r.logins in omega (arith, h, c.len.ensures, c.args.log.now.logins.ok.0)) in
    let already : c.are_passed.result ≡ (not (is_none_left (logins_of setup records)) && is_none_left left) =
    c.are_passed.ensures
    ∙ ap (λ l. not (is_none_left l) && is_none_left left) (c.as_slice.ensures.value ∙ r.logins) in
    recovered setup records left c.args.log.now.bad c.spend_all-refused.result (record { ledger = c.spend_all-refused.new.ledger; lines = c.args.log.now.count; accepted = c.len.result; already = c.are_passed.result }) is r.first_bad c.spend_all-refused.ensures (sym c.first_of.ensures ∙ c.in-None.is) r.counted accepted already
