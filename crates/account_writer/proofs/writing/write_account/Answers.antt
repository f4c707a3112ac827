use Rattle.std.proofs.Common.{◌≡◌, ◌∙◌, ℕ, false, List, ◌∷◌, Result, Ok, Err, IsUtf8, ap, sym, subst, string_bytes}
use Rattle.std.specs.Prelude.{IfOk}
use Rattle.toml.specs.Data.{Members, members_have_valid_dates}
use Rattle.toml.specs.Text.{IsDocumentText}
use Rattle.policy_model.specs.declared.account.Account.{Account}
use Rattle.account_writer.specs.Puts.{alone}
use Rattle.account_writer.specs.Written.{IsTextOf}
use Rattle.account_writer.proofs.BehindLemmas.{alone_dated, is_text}
use Rattle.account_writer.proofs.writing.write_account.Goals as goal

-- bytes that are a text after an empty line
spaced_text : {V E : Type 0} (items : V → List ℕ) (a : Account) (text : List ℕ) (r : Result V E)
    → IfOk r (λ bytes. items bytes ≡ 10 ∷ text) → IfOk r (λ bytes. IsUtf8 (items bytes))
    → (IsUtf8 (10 ∷ text) → IsTextOf a (10 ∷ text)) → IfOk r (λ bytes. IsTextOf a (items bytes))
spaced_text items a text (Err e) is utf8 spells = tt
spaced_text items a text (Ok bytes) is utf8 spells = subst (IsTextOf a) (sym is) (spells (subst IsUtf8 is utf8))

pub printed-requires : goal.printed-requires
printed-requires c = ap members_have_valid_dates c.in_ok-table.ensures.table ∙ alone_dated c.args.account.now

pub returns : goal.returns
returns c =
    let a = c.args.account.now in
    let printed : IsDocumentText false (alone a) (string_bytes c.in_ok-text.text) = subst
    (λ (m : Members). IsDocumentText false m (string_bytes c.in_ok-text.text)) c.in_ok-table.ensures.table
    c.in_ok-text.ensures in
    let text : IsDocumentText false (alone a) c.as_str.result.now = subst (IsDocumentText false (alone a))
    (sym c.as_str.ensures.value) printed in
    spaced_text (λ v. v.items) a c.as_str.result.now c.spaced.result c.spaced.ensures.bytes c.spaced.ensures.utf8
    (λ utf8. is_text a c.as_str.result.now c.requires c.in_ok-table.ensures.writable utf8 text)
