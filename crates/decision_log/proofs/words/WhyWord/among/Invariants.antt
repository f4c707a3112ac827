use Rattle.std.proofs.Common.{◌≡◌, drop}
use Rattle.std.specs.Prelude.{find}
use Rattle.std.specs.Str.{bytes_eq}
use Rattle.decision_log.specs.Words.{why_word}
use Rattle.decision_log.proofs.words.WhyWord.among.Given as goal

abbrev pub invariant-loop-word : goal.invariant-loop-word
invariant-loop-word l = find (λ w. bytes_eq (why_word w) l.bytes) l.words ≡ find (λ w. bytes_eq (why_word w) l.bytes) (drop l.word-index l.words)
