-- An ask by its word.
use Rattle.std.proofs.Common.{◌≡◌, List, ℕ, Option, Some, Result, Ok, sym, ap, subst, ◌∙◌}
use Rattle.std.specs.Prelude.{find}
use Rattle.std.specs.Str.{bytes_eq}
use Rattle.request_catalogue.specs.Results.{demand, ◌>>=◌}
use Rattle.decision_log.specs.declared.logged.LineFault.{LineFault}
use Rattle.decision_log.specs.declared.logged.LineFault.TheVariants as faults
use Rattle.decision_log.specs.declared.words.AskWord.{AskWord}
use Rattle.decision_log.specs.Parts.{Gives, Read, behind_part, behind_space, first_part}
use Rattle.decision_log.specs.Reading.{ask_behind, ask_read}
use Rattle.decision_log.specs.Values.{AskValue}
use Rattle.decision_log.specs.Words.{ask_word, ask_words}

-- what stands after the word that was found
abbrev by_word : List ℕ → Option AskWord → Result (Read AskValue) LineFault
by_word rest o = (demand faults.Word o >>= word_read rest) >>= (λ w. ask_behind w.value w.rest)
  where
    word_read : List ℕ → AskWord → Result (Read AskWord) LineFault
    word_read rest word = Ok (record { value = word; rest = rest })

-- what is read by a word that was found
pub asked : {A : Type 0} (view : A → Read AskValue) (result : Result A LineFault) (text bytes rest : List ℕ) (word : AskWord) (o : Option AskWord) → bytes ≡ first_part (behind_space text) → rest ≡ behind_part (behind_space text) → o ≡ find (λ w. bytes_eq (ask_word w) bytes) ask_words → o ≡ Some word → Gives view result (ask_behind word rest) → Gives view result (ask_read text)
asked view result text bytes rest word o first behind found is given =
    let same : find (λ w. bytes_eq (ask_word w) (first_part (behind_space text))) ask_words ≡ Some word = ap (λ (x : List ℕ). find (λ w. bytes_eq (ask_word w) x) ask_words) (sym first) ∙ sym found ∙ is in
    let read : ask_read text ≡ ask_behind word rest =
    ap (by_word (behind_part (behind_space text))) same
    ∙ ap (λ (x : List ℕ). ask_behind word x) (sym behind) in
    subst (Gives view result) (sym read) given
