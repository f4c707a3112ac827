use Rattle.std.proofs.Common.{ℕ, List, true, false, Err, ◌∙◌, sym, ap}
use Rattle.request_catalogue.specs.Texts.{is_label}
use Rattle.request_catalogue.specs.TextBytes.{label_bytes}
use Rattle.account_file.specs.declared.fault.SetupFault.{SetupFault}
use Rattle.account_file.specs.Texts.{grant_entry}
use Rattle.account_file.proofs.KeyLemmas.{new_string_read}
use Rattle.account_file.proofs.grants.label_of.Goals as goal

pub returns-then-is_granted-clause-read : goal.returns-then-is_granted-clause-read
returns-then-is_granted-clause-read c =
    new_string_read c.args.spot is_label (λ (g : List ℕ × ℕ). g.0) grant_entry c.args.others.now _ c.in_ok-text.text.now c.as_bytes.result.now (label_bytes c.in-Some.name) true c.in_ok-text.ensures c.as_bytes.ensures.value c.in-Some.ensures.found c.in-Some.ensures.rule c.if-is_granted.ensures
    ∙ ap (λ (f : SetupFault). Err f) (sym c.breaks-then-is_granted.ensures)

pub returns-clause-read : goal.returns-clause-read
returns-clause-read c = new_string_read c.args.spot is_label (λ (g : List ℕ × ℕ). g.0) grant_entry c.args.others.now _ c.in_ok-text.text.now c.as_bytes.result.now (label_bytes c.in-Some.name) false c.in_ok-text.ensures c.as_bytes.ensures.value c.in-Some.ensures.found c.in-Some.ensures.rule c.if-is_granted.ensures
