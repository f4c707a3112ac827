-- Believed: the line that the mode `check` sends.
use Rattle.std.specs.Prelude.{ℕ, List, [], ◌++◌, codes, Result, Ok, Err}
use Rattle.std.specs.Fmt.{decimal}
use Rattle.otp_words.specs.declared.fault.DictRule.{DictRule}
use Rattle.otp_words.specs.declared.fault.DictRule.TheVariants as rules
use Rattle.account_file.specs.Spellings.{key_word, rule_word}
use Rattle.trouble.specs.declared.trouble.FileKind.TheVariants as kinds
use Rattle.trouble.specs.declared.trouble.Trouble.{Trouble}
use Rattle.trouble.specs.declared.trouble.Trouble.TheVariants as troubles
use Rattle.check_mode.specs.declared.finding.Finding.{Finding}

-- the word for a rule of word lists
abbrev pub list_rule_word : DictRule → List ℕ
list_rule_word rules.Count = codes "count"
list_rule_word rules.Length = codes "length"
list_rule_word rules.Letter = codes "letter"
list_rule_word rules.Twice = codes "twice"

-- the line that says what was found; empty where no line tells it
abbrev pub line_of : Result Finding Trouble → List ℕ
line_of (Ok finding) =
    codes "ok accounts " ++ decimal finding.accounts ++ codes " workers " ++ decimal finding.workers ++ codes "\n"
line_of (Err (troubles.Missing kinds.Setup)) = codes "missing setup\n"
line_of (Err (troubles.Missing kinds.Words)) = codes "missing words\n"
line_of (Err (troubles.SetupRefused fault)) =
    codes "refused setup " ++ key_word fault.key ++ codes " " ++ rule_word fault.rule ++ codes " "
    ++ decimal fault.account ++ codes "\n"
line_of (Err (troubles.WordsRefused fault)) =
    codes "refused words " ++ decimal fault.line ++ codes " " ++ list_rule_word fault.rule ++ codes "\n"
line_of (Err _) = []
