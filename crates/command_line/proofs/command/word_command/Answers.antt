use Rattle.std.proofs.Common.{◌≡◌, ◌∙◌, rules, ap, ap₂, codes, Option, Some, None}
use Rattle.std.proofs.lemmas.Result.{IfOk-weaker}
use Rattle.std.specs.Option.{IsSomeAnd}
use Rattle.clap.specs.Lexer.{usize_max}
use Rattle.clap.specs.declared.builder.action.ArgAction.TheVariants.{Append}
use Rattle.clap.specs.declared.builder.range.ValueRange.{ValueRange}
use Rattle.clap.specs.Words.{Rule, app_of, new_rule, rule_of, with_rule}
use Rattle.command_line.specs.Command.{bare_command, further_rule, mode_rule}
use Rattle.command_line.proofs.command.word_command.Goals as goal

abbrev any_number : ValueRange
any_number = record { start_inclusive = 0; end_inclusive = usize_max }

some_given : (o : Option ValueRange) (r : ValueRange) → IsSomeAnd o (λ x. x ≡ r) → o ≡ Some r
some_given None r given = absurd given
some_given (Some x) r given = ap Some given

pub returns : goal.returns
returns c =
    let mode_is : rule_of c.required-mode.result ≡ mode_rule = search rules in
    let words_is : rule_of c.action-2.result ≡ record (new_rule (codes "words")) { action = Some Append } = search rules in
    let given : c.num_args-further.result.num_vals ≡ Some any_number = some_given _ _ c.num_args-further.ensures.1 in
    let further_is : rule_of c.num_args-further.result ≡ further_rule =
    ap rule_of c.num_args-further.ensures.0 ∙ ap₂ (λ (r : Rule) (n : Option ValueRange). record r { range = n }) words_is given in
    let bare_is : app_of c.disable_version_flag.result ≡ bare_command = search rules in
    let with_mode = c.in_ok-arg.ensures.shape (search rules) ∙ ap₂ with_rule bare_is mode_is in
    IfOk-weaker c.arg-2.result _ _ (λ r added. added.shape (search rules) ∙ ap₂ with_rule with_mode further_is) c.arg-2.ensures
