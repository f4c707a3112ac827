-- Believed: what the top call promises of its status, for all words.
use Rattle.std.specs.Prelude.{◌≡◌, ◌⊎◌, ℕ, Bool, true, false, ◌==◌, List, [], ◌∷◌, None}
use Rattle.std.specs.List.{list_any}
use Rattle.command_line.specs.Words.{words_without_hyphen}
use Rattle.monitor_server.specs.declared.report.Detail.TheVariants.{Nothing}
use Rattle.monitor_server.specs.Around.{Around, Said}
use Rattle.monitor_server.specs.Commands.{IsCommand, asks_serve}

-- nobody was served: there is no post, and the log is as it was
pub record IsUnserved {F S K E : Type 0} (before after : Around F S K E) (said : Said) : Type 0 where
  pub log : after.log ≡ before.log
  pub workers : said.posts ≡ []

-- nothing was used but files and ends: no event, no post, and the site and the log are as they were
pub record UsesNothing {F S K E : Type 0} (before after : Around F S K E) (said : Said) : Type 0 where
  pub site : after.site ≡ before.site
  pub log : after.log ≡ before.log
  pub events : said.journal ≡ []
  pub workers : said.posts ≡ []

-- of what is around the ends alone were used, nobody was served, and there is no more to tell than the status
pub record UsesEndsAlone {F S K E : Type 0} (before after : Around F S K E) (said : Said) : Type 0 where
  pub files : after.files ≡ before.files
  pub site : after.site ≡ before.site
  pub log : after.log ≡ before.log
  pub workers : said.posts ≡ []
  pub plain : said.detail ≡ Nothing

-- the exit statuses of the program
abbrev pub statuses : List ℕ
statuses = 0 ∷ 2 ∷ 3 ∷ 4 ∷ 5 ∷ 6 ∷ 7 ∷ 8 ∷ 9 ∷ 10 ∷ 11 ∷ 12 ∷ 13 ∷ 14 ∷ 15 ∷ []

-- the status is one of the program's
abbrev pub IsStatus : ℕ → Type 0
IsStatus status = list_any (λ s. s == status) statuses ≡ true

-- the statuses that only `serve` ends with: 6 it couldn't listen, 7 a decision was lost, 10 an accept failed
abbrev pub is_serve_status : ℕ → Bool
is_serve_status status = list_any (λ s. s == status) (6 ∷ 7 ∷ 10 ∷ [])

-- what the exit status says of the command line: 2 only for no command; 6, 7 and 10 only for `serve`
pub record StatusHasCause (words : List (List ℕ)) (status : ℕ) : Type 0 where
  pub listed : IsStatus status
  pub no_words : words_without_hyphen words ≡ None → status ≡ 2
  pub no_command : ¬ (IsCommand words) → (status ≡ 2) ⊎ (status ≡ 9)
  pub command : status ≡ 2 → ¬ (IsCommand words)
  pub unserved : asks_serve words ≡ None → is_serve_status status ≡ false
