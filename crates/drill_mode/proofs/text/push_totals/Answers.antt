use Rattle.std.proofs.Common.{◌≡◌, ◌++◌, ap, arith, get_or, take, ◌∙◌}
use Rattle.std.specs.List.{flat_map}
use Rattle.std.specs.String.{string_bytes}
use Rattle.drill_mode.specs.declared.counted.Counted.TheVariants.{Sessions}
use Rattle.drill_mode.specs.CountsText.{line_in, totals, totals_text}
use Rattle.drill_mode.proofs.LineLemmas.{taken_more}
use Rattle.drill_mode.proofs.text.push_totals.Goals as goal

pub loop-total-preserved : goal.loop-total-preserved
loop-total-preserved c =
    let line = line_in c.args.journal.now in
    c.in_ok-push_line.ensures
    ∙ ap (λ text. text ++ line (get_or totals c.loop-total.total-index Sessions)) c.loop-total.invariant
    ∙ taken_more line (string_bytes c.args.text.now) totals c.loop-total.total-index Sessions c.loop-total-test.true

pub returns : goal.returns
unfolding totals_text
returns c =
    let all : c.loop-total.total-index ≡ 5 = omega arith in
    c.loop-total.invariant ∙ ap (λ n. string_bytes c.args.text.now ++ flat_map (line_in c.args.journal.now) (take n totals)) all
