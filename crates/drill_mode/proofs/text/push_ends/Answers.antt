use Rattle.std.proofs.Common.{◌≡◌, ℕ, ◌++◌, List, ap, arith, get_or, take, ◌∙◌}
use Rattle.std.specs.List.{flat_map}
use Rattle.std.specs.String.{string_bytes}
use Rattle.drill_mode.specs.declared.counted.Counted.TheVariants.{End}
use Rattle.drill_mode.specs.declared.counted.EndKind.{EndKind}
use Rattle.drill_mode.specs.declared.counted.EndKind.TheVariants.{Finished}
use Rattle.drill_mode.specs.CountsText.{end_kinds, ends_text, line_where_some}
use Rattle.drill_mode.proofs.LineLemmas.{taken_more}
use Rattle.drill_mode.proofs.text.push_ends.Goals as goal

pub loop-kind-preserved : goal.loop-kind-preserved
loop-kind-preserved c =
    let line : EndKind → List ℕ = λ kind. line_where_some c.args.journal.now (End kind) in
    c.in_ok-push_where_some.ensures
    ∙ ap (λ text. text ++ line (get_or end_kinds c.loop-kind.kind-index Finished)) c.loop-kind.invariant
    ∙ taken_more line (string_bytes c.args.text.now) end_kinds c.loop-kind.kind-index Finished c.loop-kind-test.true

pub returns : goal.returns
unfolding ends_text
returns c =
    let line : EndKind → List ℕ = λ kind. line_where_some c.args.journal.now (End kind) in
    let all : c.loop-kind.kind-index ≡ 8 = omega arith in
    c.loop-kind.invariant ∙ ap (λ n. string_bytes c.args.text.now ++ flat_map line (take n end_kinds)) all
