use Rattle.std.proofs.Common.{◌≡◌, ◌∙◌, ◌≤◌, ◌&&◌, ◌||◌, ℕ, Bool, true, false, not, refl, sym, ap, ap₂, arith, List, [], ◌∷◌, ◌++◌, length, Option, Some, None, codes, append-nil, append_assoc, true≢false}
use Rattle.std.proofs.lemmas.Bool.{le-leb}
use Rattle.std.specs.Prelude.{is_some, unwrap_or}
use Rattle.std.specs.Option.{option_to_list}
use Rattle.std.specs.List.{fold, list_all, list_any}
use Rattle.std.specs.Str.{bytes_eq}
use Rattle.clap.specs.Lexer.{long_of, short_of, usize_max}
use Rattle.clap.specs.Walk.{Held, Row, Rule, Step, Text, Walk, after_step, finished, idle, nothing_held, positional, reading_by, value, walk, walk_from, walked, word_met}
use Rattle.clap.specs.Simple.{Shape, built, entered, is_simple, matches_of}
use Rattle.clap.specs.Takes.{default_passes, entered_passes, is_valid, settle_passes, takes, turn_passes, walk_passes}
use Rattle.clap.specs.declared.parser.matches.ValueSource.TheVariants.{CommandLine}
use Rattle.clap.specs.Words.{all_of, first_of, first_value, found_of, rows_of}
use Rattle.clap.specs.declared.parser.matches.ArgMatches.{ArgMatches}
use Rattle.clap.proofs.WalkLemmas.{first_value-rows, raw_values-rows}
use Rattle.command_line.specs.Command.{mode_rule, word_command, words_found}
use Rattle.command_line.specs.Words.{are_plain, begins_with_hyphen}

-- ---- a word that doesn't begin with a hyphen

long_none : (word : Text) → begins_with_hyphen word ≡ false → long_of word ≡ None
long_none [] plain = refl
long_none (c ∷ cs) plain = rw plain refl

short_none : (word : Text) → begins_with_hyphen word ≡ false → short_of word ≡ None
short_none [] plain = refl
short_none (c ∷ cs) plain = rw plain refl

no_dashes : (word : Text) → begins_with_hyphen word ≡ false → bytes_eq word (45 ∷ 45 ∷ []) ≡ false
no_dashes [] plain = refl
no_dashes (c ∷ cs) plain = rw plain refl

-- ---- the command as it is built

abbrev shape : Shape
shape = (built word_command).top

abbrev arguments : List Rule
arguments = shape.rules

-- the row of an argument that was given these values
abbrev row : Text → List Text → Row
row id values = record { id = id; values = values; count = None; source = Some CommandLine; reading = reading_by mode_rule }

-- the walk after the mode
abbrev behind_mode : Text → Walk
behind_mode mode = record {
  held = record { rows = []; pending = Some (codes "mode", mode ∷ []); skip = 0 };
  waiting = idle;
  position = 2;
  is_trailing = false;
  stopped = None;
}

-- the walk after further words
abbrev behind : Text → List Text → Walk
behind mode further = record {
  held = record { rows = row (codes "mode") (mode ∷ []) ∷ []; pending = Some (codes "words", further); skip = 0 };
  waiting = positional;
  position = 2;
  is_trailing = false;
  stopped = None;
}

met_idle : (position : ℕ) (word : Text) (h : Held) → begins_with_hyphen word ≡ false → word_met arguments [] false idle position word h ≡ (h, value)
met_idle position word h plain =
    let dashes = no_dashes word plain in
    let long = long_none word plain in
    let short = short_none word plain in
    rw (dashes, long, short) refl

met_positional : (position : ℕ) (word : Text) (h : Held) → begins_with_hyphen word ≡ false → word_met arguments [] false positional position word h ≡ (h, value)
met_positional position word h plain =
    let dashes = no_dashes word plain in
    let long = long_none word plain in
    let short = short_none word plain in
    rw (dashes, long, short) refl

abbrev step : Walk → Text → Held × Step → Walk
step w word met = after_step arguments word w met.0 met.1

walked_mode : (mode : Text) → begins_with_hyphen mode ≡ false → walked arguments [] (walk_from nothing_held) mode ≡ behind_mode mode
unfolding walked
walked_mode mode plain = ap (step (walk_from nothing_held) mode) (met_idle 1 mode nothing_held plain)

walked_next : (mode word : Text) → begins_with_hyphen word ≡ false → walked arguments [] (behind_mode mode) word ≡ behind mode (word ∷ [])
unfolding walked
walked_next mode word plain = ap (step (behind_mode mode) word) (met_idle 2 word _ plain)

walked_more : (mode : Text) (seen : List Text) (word : Text) → begins_with_hyphen word ≡ false → walked arguments [] (behind mode seen) word ≡ behind mode (seen ++ word ∷ [])
unfolding walked
walked_more mode seen word plain = ap (step (behind mode seen) word) (met_positional 2 word _ plain)

neither : (a b : Bool) → (a || b) ≡ false → (a ≡ false) × (b ≡ false)
neither true b e = absurd (true≢false e)
neither false b e = (refl, e)

walk_further : (mode : Text) (seen further : List Text) → list_any begins_with_hyphen further ≡ false
    → fold (walked arguments []) (behind mode seen) further ≡ behind mode (seen ++ further)
walk_further mode seen [] plain = ap (behind mode) (sym (append-nil seen))
walk_further mode seen (word ∷ rest) plain =
    let each = neither _ _ plain in
    ap (λ (w : Walk). fold (walked arguments []) w rest) (walked_more mode seen word each.0) ∙ walk_further mode (seen ++ word ∷ []) rest each.1
    ∙ ap (behind mode) (append_assoc seen (word ∷ []) rest)

-- where the walk ends
abbrev walk_end : Text → List Text → Walk
walk_end mode [] = behind_mode mode
walk_end mode (word ∷ rest) = behind mode (word ∷ rest)

walk_is : (mode : Text) (further : List Text) → list_any begins_with_hyphen (mode ∷ further) ≡ false
    → walk arguments [] nothing_held (mode ∷ further) ≡ walk_end mode further
walk_is mode [] plain = walked_mode mode (neither _ _ plain).0
walk_is mode (word ∷ rest) plain =
    let each = neither _ _ plain in
    let both = neither _ _ each.1 in
    ap (λ (w : Walk). fold (walked arguments []) w (word ∷ rest)) (walked_mode mode each.0)
    ∙ ap (λ (w : Walk). fold (walked arguments []) w rest) (walked_next mode word both.0)
    ∙ walk_further mode (word ∷ []) rest both.1

-- ---- the walk passes

turn_mode : (mode : Text) → begins_with_hyphen mode ≡ false → turn_passes shape [] (walk_from nothing_held) mode ≡ true
turn_mode mode plain =
    let dashes = no_dashes mode plain in
    let long = long_none mode plain in
    let short = short_none mode plain in
    rw (dashes, long, short) refl

turn_next : (mode word : Text) → begins_with_hyphen word ≡ false → turn_passes shape [] (behind_mode mode) word ≡ true
turn_next mode word plain =
    let dashes = no_dashes word plain in
    let long = long_none word plain in
    let short = short_none word plain in
    rw (dashes, long, short) refl

turn_more : (mode : Text) (seen : List Text) (word : Text) → begins_with_hyphen word ≡ false → turn_passes shape [] (behind mode seen) word ≡ true
turn_more mode seen word plain =
    let dashes = no_dashes word plain in
    let long = long_none word plain in
    let short = short_none word plain in
    rw (dashes, long, short) refl

passes_further : (mode : Text) (seen further : List Text) → list_any begins_with_hyphen further ≡ false → walk_passes shape [] (behind mode seen) further ≡ true
unfolding walk_passes
passes_further mode seen [] plain = refl
passes_further mode seen (word ∷ rest) plain =
    let each = neither _ _ plain in
    ap₂ ◌&&◌ (turn_more mode seen word each.0)
    (ap (λ (w : Walk). walk_passes shape [] w rest) (walked_more mode seen word each.0) ∙ passes_further mode (seen ++ word ∷ []) rest each.1)

passes_behind_mode : (mode : Text) (further : List Text) → list_any begins_with_hyphen further ≡ false → walk_passes shape [] (behind_mode mode) further ≡ true
unfolding walk_passes
passes_behind_mode mode [] plain = refl
passes_behind_mode mode (word ∷ rest) plain =
    let each = neither _ _ plain in
    ap₂ ◌&&◌ (turn_next mode word each.0)
    (ap (λ (w : Walk). walk_passes shape [] w rest) (walked_next mode word each.0) ∙ passes_further mode (word ∷ []) rest each.1)

passes : (mode : Text) (further : List Text) → list_any begins_with_hyphen (mode ∷ further) ≡ false
    → walk_passes shape [] (walk_from nothing_held) (mode ∷ further) ≡ true
unfolding walk_passes
passes mode further plain =
    let each = neither _ _ plain in
    ap₂ ◌&&◌ (turn_mode mode each.0)
    (ap (λ (w : Walk). walk_passes shape [] w further) (walked_mode mode each.0) ∙ passes_behind_mode mode further each.1)

-- ---- what is found

-- the rows that are found
abbrev pub rows_of_words : Text → List Text → List Row
rows_of_words mode [] = row (codes "mode") (mode ∷ []) ∷ []
rows_of_words mode (word ∷ rest) = row (codes "mode") (mode ∷ []) ∷ row (codes "words") (word ∷ rest) ∷ []

rows_at_end : (mode : Text) (further : List Text) → finished arguments (walk_end mode further).held ≡ rows_of_words mode further
rows_at_end mode [] = refl
rows_at_end mode (word ∷ rest) = refl

-- the words are found, the mode in its row and the others in theirs
pub matches_are : (mode : Text) (further : List Text) → list_any begins_with_hyphen (mode ∷ further) ≡ false
    → matches_of word_command (mode ∷ further) ≡ rows_of_words mode further
matches_are mode further plain = ap (λ (w : Walk). finished arguments w.held) (walk_is mode further plain) ∙ rows_at_end mode further

pub simple : is_simple word_command ≡ true
simple = refl

-- what decides whether the command takes the words, from where the walk ends and whether it passes
abbrev ends_well : Walk → Bool → Bool
ends_well w walk_passed = entered_passes (built word_command) w.stopped && (walk_passed && (settle_passes arguments false w.held
    && (list_all default_passes arguments && is_valid shape (finished arguments w.held) (is_some (entered (built word_command) w.stopped)))))

any_text : (words : List Text) → list_all (λ _. true) words ≡ true
any_text [] = refl
any_text (word ∷ rest) = any_text rest

end_passes : (mode : Text) (further : List Text) → length further ≤ usize_max → ends_well (walk_end mode further) true ≡ true
end_passes mode [] short = refl
end_passes mode (word ∷ rest) short =
    let fits = le-leb (length (word ∷ rest)) usize_max short in
    let least = le-leb 0 (length (word ∷ rest)) (omega arith) in
    let texts = any_text rest in
    rw (least, fits, texts) refl

-- the command takes the words
pub taken : (mode : Text) (further : List Text) → list_any begins_with_hyphen (mode ∷ further) ≡ false → length further ≤ usize_max
    → takes word_command (mode ∷ further) ≡ true
taken mode further plain short = ap₂ ends_well (walk_is mode further plain) (passes mode further plain) ∙ end_passes mode further short

-- ---- plain words

hyphens_none : (mode : Text) (further : List Text) → are_plain (mode ∷ further) ≡ true → list_any begins_with_hyphen (mode ∷ further) ≡ false
hyphens_none mode further plain = go (list_any begins_with_hyphen (mode ∷ further)) plain
  where
    go : (b : Bool) → not b ≡ true → b ≡ false
    go true e = sym e
    go false e = refl

-- the command takes plain words
pub plain_taken : (words : List Text) → are_plain words ≡ true → length words ≤ usize_max → takes word_command words ≡ true
plain_taken [] plain short = absurd (true≢false (sym plain))
plain_taken (mode ∷ further) plain short = taken mode further (hyphens_none mode further plain) (omega arith)

-- the words of these rows
abbrev words_in : List Row → List Text
words_in rows = option_to_list (first_of (codes "mode") rows) ++ unwrap_or (all_of (codes "words") rows) []

words_of_rows : (mode : Text) (further : List Text) → words_in (rows_of_words mode further) ≡ mode ∷ further
words_of_rows mode [] = refl
words_of_rows mode (word ∷ rest) = refl

mode_of_rows : (mode : Text) (further : List Text) → is_some (first_of (codes "mode") (rows_of_words mode further)) ≡ true
mode_of_rows mode [] = refl
mode_of_rows mode (word ∷ rest) = refl

-- all words are found
pub all_found : (m : ArgMatches) (words : List Text) → are_plain words ≡ true → rows_of (found_of m) ≡ matches_of word_command words → words_found m ≡ words
all_found m [] plain rows = absurd (true≢false (sym plain))
all_found m (mode ∷ further) plain rows =
    ap₂ (λ (first : Option Text) (rest : Option (List Text)). option_to_list first ++ unwrap_or rest [])
    (first_value-rows (found_of m) (codes "mode")) (raw_values-rows (found_of m) (codes "words"))
    ∙ ap words_in (rows ∙ matches_are mode further (hyphens_none mode further plain)) ∙ words_of_rows mode further

-- the mode is found
pub mode_found : (m : ArgMatches) (words : List Text) → are_plain words ≡ true → rows_of (found_of m) ≡ matches_of word_command words
    → is_some (first_value (found_of m) (codes "mode")) ≡ true
mode_found m [] plain rows = absurd (true≢false (sym plain))
mode_found m (mode ∷ further) plain rows =
    ap is_some (first_value-rows (found_of m) (codes "mode"))
    ∙ ap (λ rs. is_some (first_of (codes "mode") rs)) (rows ∙ matches_are mode further (hyphens_none mode further plain)) ∙ mode_of_rows mode further
