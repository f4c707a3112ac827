use Rattle.std.proofs.Common.{ℕ, ◌∙◌, Global, List, Vec, ap, get_or}
use Rattle.std.proofs.lemmas.Option.{get_or_from_slice_get}
use Rattle.policy_model.specs.declared.account.Account.{Account}
use Rattle.policy_model.specs.Settings.{Settings}
use Rattle.audit_check.specs.History.{is_next_by}
use Rattle.audit_check.proofs.KeptLemmas.{next_told}
use Rattle.audit_check.proofs.accounts.is_next.Goals as goal

pub returns : goal.returns
returns c = λ events kept a stands.
    c.is_next_by.ensures
    ∙ ap (λ (x : Account). is_next_by x c.as_slice-2.result.now c.args.password)
    (c.index-as_slice-account.is
    ∙ ap (λ (l : List Account). get_or l c.args.account c.index-as_slice-account.result) (c.as_slice.ensures ∙ ap (λ (s : Settings). s.accounts) c.parts.ensures.value)
    ∙ get_or_from_slice_get c.args.setup.now.accounts c.args.account a c.index-as_slice-account.result stands)
    ∙ next_told events a c.as_slice-2.result.now c.args.password
    (c.as_slice-2.ensures.value ∙ ap (λ (v : Vec ℕ Global). v.items) c.index.ensures ∙ kept.replies c.args.account a c.index.result.now stands)
