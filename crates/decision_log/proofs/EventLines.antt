-- The line of an event is the text of what it says.
use Rattle.std.proofs.Common.{◌≡◌, ℕ, List, ◌++◌, codes, drop, length, take, Ok, refl, sym, ap, ◌∙◌}
use Rattle.std.specs.Fmt.{decimal}
use Rattle.std.proofs.lemmas.List.{take_at}
use Rattle.policy_model.specs.declared.event.Ask.{Ask}
use Rattle.policy_model.specs.declared.event.Ask.TheVariants as asks
use Rattle.policy_model.specs.declared.event.Decision.{Decision}
use Rattle.policy_model.specs.declared.event.Decision.TheVariants as decisions
use Rattle.policy_model.specs.declared.event.Event.{Event}
use Rattle.decision_log.specs.Log.{ask_text, decision_text, line_of, value_text}
use Rattle.decision_log.specs.LineTexts.{asked_text, decided_text, line_text, shown_text}
use Rattle.decision_log.specs.Reading.{line_read}
use Rattle.decision_log.specs.Values.{IsLine, ask_value, line_value}
use Rattle.decision_log.proofs.Lines.{line_forth}

ask_is : (ask : Ask) → ask_text ask ≡ asked_text (ask_value ask)
ask_is asks.Begin = refl
ask_is asks.Banner = refl
ask_is (asks.Challenge user now) = refl
ask_is (asks.Reply words hex) = refl
ask_is asks.Abandon = refl
ask_is (asks.Export len) = refl
ask_is asks.Import = refl
ask_is (asks.ReadAt handle offset max) = refl
ask_is (asks.WriteAt handle offset len) = refl
ask_is (asks.OpenFile mode name) = refl
ask_is (asks.CloseFile handle) = refl
ask_is (asks.Info number) = refl
ask_is (asks.Note text) = refl
ask_is asks.Finish = refl
ask_is (asks.Bad rule detail) = refl
ask_is (asks.End why) = refl

value_is : (ask : Ask) (value : ℕ) → value_text ask value ≡ shown_text (ask_value ask) value
value_is asks.Begin value = refl
value_is asks.Banner value = refl
value_is (asks.Challenge user now) value = refl
value_is (asks.Reply words hex) value = refl
value_is asks.Abandon value = refl
value_is (asks.Export len) value = refl
value_is asks.Import value = refl
value_is (asks.ReadAt handle offset max) value = refl
value_is (asks.WriteAt handle offset len) value = refl
value_is (asks.OpenFile mode name) value = refl
value_is (asks.CloseFile handle) value = refl
value_is (asks.Info number) value = refl
value_is (asks.Note text) value = refl
value_is asks.Finish value = refl
value_is (asks.Bad rule detail) value = refl
value_is (asks.End why) value = refl

decision_is : (ask : Ask) (decision : Decision) → decision_text ask decision ≡ decided_text (ask_value ask) decision
decision_is ask (decisions.Permit value) = ap (λ t. codes "permit" ++ t) (value_is ask value)
decision_is ask (decisions.Deny rule detail) = refl
decision_is ask decisions.Lost = refl

pub line_is : (number : ℕ) (e : Event) → line_of number e ≡ line_text (line_value number e)
unfolding line_of line_text
line_is number e =
    ap (λ (t : List ℕ). decimal number ++ codes " w" ++ decimal e.worker ++ codes " s" ++ decimal e.session ++ codes " " ++ t ++ codes " " ++ decision_text e.ask e.decision ++ codes "\n") (ask_is e.ask)
    ∙ ap (λ (t : List ℕ). decimal number ++ codes " w" ++ decimal e.worker ++ codes " s" ++ decimal e.session ++ codes " " ++ asked_text (ask_value e.ask) ++ codes " " ++ t ++ codes "\n") (decision_is e.ask e.decision)

-- the line of an event is read as what it says
pub event_forth : (number : ℕ) (e : Event) → IsLine (line_value number e) → line_read (line_of number e) ≡ Ok (line_value number e)
event_forth number e range = ap line_read (line_is number e) ∙ line_forth (line_value number e) range

-- a line that stands at the front is read
pub is_read_back : (number : ℕ) (e : Event) → IsLine (line_value number e) → (n : ℕ) (out old : List ℕ) → n ≡ length (line_of number e) → out ≡ line_of number e ++ drop n old → line_read (take n out) ≡ Ok (line_value number e)
is_read_back number e range n out old len written =
    ap (λ (x : List ℕ). line_read (take n x)) written ∙ ap line_read (take_at (line_of number e) (drop n old) n (sym len)) ∙ event_forth number e range
