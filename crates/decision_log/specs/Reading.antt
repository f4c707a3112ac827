-- Believed: reading a line of the log, up to the first part that doesn't read.
use Rattle.std.specs.Prelude.{ℕ, ◌^◌, List, codes, Result, Ok, find}
use Rattle.std.specs.Bool.{then_some}
use Rattle.std.specs.Str.{bytes_eq}
use Rattle.request_catalogue.specs.Results.{demand, ◌>>=◌}
use Rattle.request_catalogue.specs.Texts.{is_label, is_note}
use Rattle.policy_model.specs.declared.event.Decision.{Decision}
use Rattle.policy_model.specs.declared.event.Decision.TheVariants as decisions
use Rattle.policy_model.specs.declared.event.Why.{Why}
use Rattle.policy_model.specs.declared.event.Why.TheVariants as whys
use Rattle.decision_log.specs.declared.logged.LineFault.{LineFault}
use Rattle.decision_log.specs.declared.logged.LineFault.TheVariants as faults
use Rattle.decision_log.specs.declared.words.AskWord.{AskWord}
use Rattle.decision_log.specs.declared.words.AskWord.TheVariants as ask_
use Rattle.decision_log.specs.declared.words.DecisionWord.{DecisionWord}
use Rattle.decision_log.specs.declared.words.DecisionWord.TheVariants as decision_
use Rattle.decision_log.specs.declared.words.WhyWord.{WhyWord}
use Rattle.decision_log.specs.declared.words.WhyWord.TheVariants as why_
use Rattle.decision_log.specs.Parts.{Read, hex_in, lettered, name_in, next, number_below, one, part, password_in}
use Rattle.decision_log.specs.Parts.{rule_in, three, two}
use Rattle.decision_log.specs.Values.{AskValue, Begin, Banner, Challenge, Reply, Abandon, Export, Import, ReadAt}
use Rattle.decision_log.specs.Values.{WriteAt, OpenFile, CloseFile, Info, Note, Finish, Bad, End, LineValue}
use Rattle.decision_log.specs.Words.{ask_word, ask_words, decision_word, decision_words, why_word, why_words}

-- a value for which nothing more is read
abbrev pub done : {A : Type 0} → A → List ℕ → Result (Read A) LineFault
done value rest = Ok (record { value = value; rest = rest })

-- the word of an ask that a part is
abbrev pub ask_word_in : List ℕ → Result AskWord LineFault
ask_word_in bytes = demand faults.Word (find (λ w. bytes_eq (ask_word w) bytes) ask_words)

-- the word of a decision that a part is
abbrev pub decision_word_in : List ℕ → Result DecisionWord LineFault
decision_word_in bytes = demand faults.Word (find (λ w. bytes_eq (decision_word w) bytes) decision_words)

-- the word of a reason that a part is
abbrev pub why_word_in : List ℕ → Result WhyWord LineFault
why_word_in bytes = demand faults.Word (find (λ w. bytes_eq (why_word w) bytes) why_words)

-- what follows the word of a reason: a length, a rule or nothing
abbrev pub why_behind : WhyWord → List ℕ → Result (Read Why) LineFault
why_behind why_.Finished = done whys.Finished
why_behind why_.ChildEnded = done whys.ChildEnded
why_behind why_.Truncated = done whys.Truncated
why_behind why_.BadFrame = one (number_below (2 ^ 16)) (λ len. whys.BadFrame len)
why_behind why_.Violation = one (rule_in 1 7) (λ rule. whys.Violation rule)
why_behind why_.LinkFault = done whys.LinkFault
why_behind why_.KeeperFault = done whys.KeeperFault
why_behind why_.LogLost = done whys.LogLost

-- the reason of an end at the front of the rest of a line, and what is left
abbrev pub why_read : List ℕ → Result (Read Why) LineFault
why_read text = do
  word ← next why_word_in text
  why_behind word.value word.rest

-- the end of a session, with the reason that is read
abbrev pub end_read : List ℕ → Result (Read AskValue) LineFault
end_read text = do
  why ← why_read text
  Ok (record { value = End why.value; rest = why.rest })

-- what follows the word of an ask: its numbers and texts
abbrev pub ask_behind : AskWord → List ℕ → Result (Read AskValue) LineFault
ask_behind ask_.Open = done Begin
ask_behind ask_.Banner = done Banner
ask_behind ask_.Challenge = two name_in (number_below (2 ^ 64)) Challenge
ask_behind ask_.Reply = done Reply
ask_behind ask_.Abandon = done Abandon
ask_behind ask_.Export = one (number_below (2 ^ 16)) Export
ask_behind ask_.Import = done Import
ask_behind ask_.Read = three (number_below (2 ^ 32)) (number_below (2 ^ 64)) (number_below (2 ^ 16)) ReadAt
ask_behind ask_.Write = three (number_below (2 ^ 32)) (number_below (2 ^ 64)) (number_below (2 ^ 16)) WriteAt
ask_behind ask_.Grant = two (number_below (2 ^ 8)) (hex_in is_label) OpenFile
ask_behind ask_.Close = one (number_below (2 ^ 32)) CloseFile
ask_behind ask_.Info = one (number_below (2 ^ 32)) Info
ask_behind ask_.Note = one (hex_in is_note) Note
ask_behind ask_.Finish = done Finish
ask_behind ask_.Bad = two (rule_in 2 5) (number_below (2 ^ 32)) Bad
ask_behind ask_.End = end_read

-- the ask at the front of the rest of a line, and what is left
abbrev pub ask_read : List ℕ → Result (Read AskValue) LineFault
ask_read text = do
  word ← next ask_word_in text
  ask_behind word.value word.rest

-- the value of a permit, read where a line shows it
abbrev pub value_behind : ℕ → AskValue → List ℕ → Result (Read Decision) LineFault
value_behind session Begin = done (decisions.Permit session)
value_behind session (Challenge user now) = one (number_below (2 ^ 64)) (λ value. decisions.Permit value)
value_behind session Reply = one password_in (λ value. decisions.Permit value)
value_behind session (Export len) = one (number_below (2 ^ 64)) (λ value. decisions.Permit value)
value_behind session (OpenFile mode name) = one (number_below (2 ^ 64)) (λ value. decisions.Permit value)
value_behind session (Info number) = one (number_below (2 ^ 64)) (λ value. decisions.Permit value)
value_behind session _ = done (decisions.Permit 0)

-- what follows the word of a decision: a permit's value, or a denial's rule and detail
abbrev pub decision_behind : ℕ → AskValue → DecisionWord → List ℕ → Result (Read Decision) LineFault
decision_behind session ask decision_.Permit = value_behind session ask
decision_behind session ask decision_.Deny =
    two (rule_in 1 22) (number_below (2 ^ 32)) (λ rule detail. decisions.Deny rule detail)

-- the decision at the front of the rest of a line, and what is left
abbrev pub decision_read : ℕ → AskValue → List ℕ → Result (Read Decision) LineFault
decision_read session ask text = do
  word ← next decision_word_in text
  decision_behind session ask word.value word.rest

-- the line that a text is, or the fault of its first part that doesn't read
unfoldable pub line_read : List ℕ → Result LineValue LineFault
line_read text = do
  number ← part (number_below (2 ^ 32)) text
  worker ← next (lettered 119) number.rest
  session ← next (lettered 115) worker.rest
  ask ← ask_read session.rest
  decision ← decision_read session.value ask.value ask.rest
  demand faults.End (then_some (bytes_eq decision.rest (codes "\n"))
      (record {
        number = number.value;
        worker = worker.value;
        session = session.value;
        ask = ask.value;
        decision = decision.value;
      }))
