-- Inner: how `clap` is told to read the words of a command.
use Rattle.std.specs.Prelude.{ℕ, true, ◌++◌, List, [], codes, Some, option_map, unwrap_or}
use Rattle.std.specs.Option.{option_to_list}
use Rattle.clap.specs.Lexer.{usize_max}
use Rattle.clap.specs.Simple.{on_top}
use Rattle.clap.specs.Words.{App, Rule, first_value, found_of, matched_of, new_app, new_rule}
use Rattle.clap.specs.Words.{raw_values, with_rule}
use Rattle.clap.specs.declared.builder.action.ArgAction.TheVariants.{Append, Set}
use Rattle.clap.specs.declared.parser.matches.ArgMatches.{ArgMatches}

-- the argument for the mode: one word, which can't be left out
abbrev pub mode_rule : Rule
mode_rule = record (new_rule (codes "mode")) { action = Some Set; required = true }

-- the argument for the words after it, any number of them
abbrev pub further_rule : Rule
further_rule = record (new_rule (codes "words")) {
  action = Some Append;
  range = Some (record { start_inclusive = 0; end_inclusive = usize_max });
}

-- the command without arguments: it has no flags, and the program's name isn't among its words
abbrev pub bare_command : App
bare_command = on_top (λ s. record s {
  no_binary_name = true;
  disable_help_flag = true;
  disable_version_flag = true;
}) (new_app (codes "otplogd"))

-- the command: a mode, and the words after it
abbrev pub word_command : App
word_command = with_rule (with_rule bare_command mode_rule) further_rule

-- the words that were found: the mode, and those after it
abbrev pub words_found : ArgMatches → List (List ℕ)
words_found m = option_to_list (first_value (found_of m) (codes "mode"))
    ++ unwrap_or (option_map raw_values (matched_of (found_of m) (codes "words"))) []
