use Rattle.std.proofs.Common.{◌≡◌, ◌∙◌, ◌≤◌, arith, ap, ap₂, length}
use Rattle.std.proofs.lemmas.List.{map-id}
use Rattle.clap.specs.Lexer.{usize_max}
use Rattle.clap.specs.Words.{app_of, is_simple, matches_of, takes}
use Rattle.command_line.specs.Command.{word_command}
use Rattle.command_line.proofs.WordLemmas.{all_found, mode_found, plain_taken, simple}
use Rattle.command_line.proofs.command.matches_of.Goals as goal

pub want_of_memory-requires : goal.want_of_memory-requires
want_of_memory-requires c =
    let short : length c.args.words.now ≤ usize_max = omega arith in
    let app_is : app_of c.in_ok-command.command ≡ word_command = c.in_ok-command.ensures in
    c.in-Err.ensures.passes (ap₂ takes app_is (map-id c.args.words.now) ∙ plain_taken c.args.words.now c.requires short)

pub returns-in-Ok-clause-all : goal.returns-in-Ok-clause-all
returns-in-Ok-clause-all c =
    let app_is : app_of c.in_ok-command.command ≡ word_command = c.in_ok-command.ensures in
    let rows = c.in-Ok.ensures.matches (ap is_simple app_is ∙ simple) in
    all_found c.in-Ok.found c.args.words.now c.requires (rows.0 ∙ ap₂ matches_of app_is (map-id c.args.words.now))

pub returns-in-Ok-clause-mode : goal.returns-in-Ok-clause-mode
returns-in-Ok-clause-mode c =
    let app_is : app_of c.in_ok-command.command ≡ word_command = c.in_ok-command.ensures in
    let rows = c.in-Ok.ensures.matches (ap is_simple app_is ∙ simple) in
    mode_found c.in-Ok.found c.args.words.now c.requires (rows.0 ∙ ap₂ matches_of app_is (map-id c.args.words.now))
