use Rattle.std.proofs.Common.{◌≡◌, ℕ, ◌++◌, ◌-◌, List, arith, ap, ◌∙◌}
use Rattle.std.specs.List.{flat_map, range_with_len}
use Rattle.std.specs.String.{string_bytes}
use Rattle.drill_mode.specs.declared.counted.Counted.TheVariants.{Rule}
use Rattle.drill_mode.specs.CountsText.{line_where_some, rules_text}
use Rattle.drill_mode.proofs.LineLemmas.{counted_more}
use Rattle.drill_mode.proofs.text.push_rules.Goals as goal

pub loop-rule-preserved : goal.loop-rule-preserved
loop-rule-preserved c =
    let line : ℕ → List ℕ = λ rule. line_where_some c.args.journal.now (Rule rule) in
    c.in_ok-push_where_some.ensures
    ∙ ap (λ text. text ++ line c.loop-rule.rule) c.loop-rule.invariant
    ∙ counted_more line (string_bytes c.args.text.now) c.loop-rule.rule c.loop-rule.auto.rule

pub returns : goal.returns
unfolding rules_text
returns c =
    let line : ℕ → List ℕ = λ rule. line_where_some c.args.journal.now (Rule rule) in
    let all : c.loop-rule.rule - 1 ≡ 22 = omega arith in
    c.loop-rule.invariant ∙ ap (λ n. string_bytes c.args.text.now ++ flat_map line (range_with_len 1 n)) all
