-- A line says one event alone.
use Rattle.std.proofs.Common.{◌≡◌, ℕ, List, Option, Some, None, refl, sym, ap, ◌∙◌}
use Rattle.std.specs.Prelude.{option_map}
use Rattle.request_catalogue.specs.declared.texts.Label.{Label}
use Rattle.request_catalogue.specs.declared.texts.Name.{Name}
use Rattle.request_catalogue.specs.declared.texts.Note.{Note}
use Rattle.request_catalogue.specs.TextBytes.{label_bytes, name_bytes, note_bytes}
use Rattle.request_catalogue.proofs.TextLemmas.{same_from_label_bytes, same_from_name_bytes, same_from_note_bytes}
use Rattle.policy_model.specs.declared.event.Ask.{Ask}
use Rattle.policy_model.specs.declared.event.Ask.TheVariants as asks
use Rattle.policy_model.specs.declared.event.Decision.{Decision}
use Rattle.policy_model.specs.declared.event.Event.{Event}
use Rattle.policy_laws.specs.Strangers.{without_readings}
use Rattle.decision_log.specs.declared.logged.Logged.{Logged}
use Rattle.decision_log.specs.declared.logged.LoggedAsk.{LoggedAsk}
use Rattle.decision_log.specs.declared.logged.LoggedAsk.TheVariants as logged
use Rattle.decision_log.specs.Logged.{logged_ask, logged_value}
use Rattle.decision_log.specs.Values.{AskValue, Banner, Challenge, Reply, Abandon, Export, Import, ReadAt, WriteAt, OpenFile, CloseFile, Info, Note as NoteValue, Finish, Bad, End, LineValue, ask_value, line_value}
use Rattle.audit_check.specs.Events.{ask_said, event_said}

-- the name, the label and the note in an ask
abbrev name_in : Ask → Option Name
name_in (asks.Challenge user now) = Some user
name_in _ = None

abbrev label_in : Ask → Option Label
label_in (asks.OpenFile mode name) = Some name
label_in _ = None

abbrev note_in : Ask → Option Note
note_in (asks.Note text) = Some text
note_in _ = None

-- their bytes
abbrev name_value : AskValue → Option (List ℕ)
name_value (Challenge user now) = Some user
name_value _ = None

abbrev label_value : AskValue → Option (List ℕ)
label_value (OpenFile mode name) = Some name
label_value _ = None

abbrev note_value : AskValue → Option (List ℕ)
note_value (NoteValue text) = Some text
note_value _ = None

named : (a : Ask) → option_map name_bytes (name_in a) ≡ name_value (ask_value a)
named (asks.Challenge user now) = refl
named _ = refl

labelled : (a : Ask) → option_map label_bytes (label_in a) ≡ label_value (ask_value a)
labelled (asks.OpenFile mode name) = refl
labelled _ = refl

noted : (a : Ask) → option_map note_bytes (note_in a) ≡ note_value (ask_value a)
noted (asks.Note text) = refl
noted _ = refl

by_bytes : {X : Type 0} (bytes : X → List ℕ) → ((a b : X) → bytes a ≡ bytes b → a ≡ b) → (x y : Option X) → option_map bytes x ≡ option_map bytes y → x ≡ y
by_bytes bytes same None None e = refl
by_bytes bytes same None (Some b) e = absurd cc
by_bytes bytes same (Some a) None e = absurd cc
by_bytes bytes same (Some a) (Some b) e = let inner : bytes a ≡ bytes b = cc in ap (λ x. Some x) (same a b inner)

-- an ask made again of its value and these
abbrev made : AskValue → Option Name → Option Label → Option Note → Ask
made Banner n l t = asks.Banner
made (Challenge user now) (Some n) l t = asks.Challenge n now
made Reply n l t = asks.Reply None None
made Abandon n l t = asks.Abandon
made (Export len) n l t = asks.Export len
made Import n l t = asks.Import
made (ReadAt handle offset max) n l t = asks.ReadAt handle offset max
made (WriteAt handle offset len) n l t = asks.WriteAt handle offset len
made (OpenFile mode text) n (Some l) t = asks.OpenFile mode l
made (CloseFile handle) n l t = asks.CloseFile handle
made (Info number) n l t = asks.Info number
made (NoteValue text) n l (Some t) = asks.Note t
made Finish n l t = asks.Finish
made (Bad rule detail) n l t = asks.Bad rule detail
made (End why) n l t = asks.End why
made _ n l t = asks.Begin

made_again : (a : Ask) → made (ask_value a) (name_in a) (label_in a) (note_in a) ≡ without_readings a
made_again (asks.Reply words hex) = refl
made_again _ = refl

-- what a line says of an ask is that ask alone
pub same_ask : (a b : Ask) → ask_value a ≡ ask_value b → without_readings a ≡ without_readings b
same_ask a b e =
    let n = by_bytes name_bytes same_from_name_bytes (name_in a) (name_in b) (named a ∙ ap name_value e ∙ sym (named b)) in
    let l = by_bytes label_bytes same_from_label_bytes (label_in a) (label_in b) (labelled a ∙ ap label_value e ∙ sym (labelled b)) in
    let t = by_bytes note_bytes same_from_note_bytes (note_in a) (note_in b) (noted a ∙ ap note_value e ∙ sym (noted b)) in
    sym (made_again a)
    ∙ ap (λ v. made v (name_in a) (label_in a) (note_in a)) e
    ∙ ap (λ x. made (ask_value b) x (label_in a) (note_in a)) n
    ∙ ap (λ x. made (ask_value b) (name_in b) x (note_in a)) l
    ∙ ap (λ x. made (ask_value b) (name_in b) (label_in b) x) t
    ∙ made_again b

abbrev event_of : ℕ → ℕ → Ask → Decision → Event
event_of worker session ask decision = record { worker = worker; session = session; ask = ask; decision = decision }

-- and of an event
pub same_event : (n m : ℕ) (e f : Event) → without_readings e.ask ≡ e.ask → without_readings f.ask ≡ f.ask → line_value n e ≡ line_value m f → e ≡ f
same_event n m e f shown other h =
    let ask : e.ask ≡ f.ask = sym shown ∙ same_ask e.ask f.ask (ap (λ (v : LineValue). v.ask) h) ∙ other in
    ap (λ x. event_of x e.session e.ask e.decision) (ap (λ (v : LineValue). v.worker) h)
    ∙ ap (λ x. event_of f.worker x e.ask e.decision) (ap (λ (v : LineValue). v.session) h)
    ∙ ap (λ x. event_of f.worker f.session x e.decision) ask
    ∙ ap (λ x. event_of f.worker f.session f.ask x) (ap (λ (v : LineValue). v.decision) h)

-- the event that a line was read as
ask_of : (l : LoggedAsk) → ask_value (ask_said l) ≡ logged_ask l
ask_of logged.Begin = refl
ask_of _ = refl

pub said_shown : (l : LoggedAsk) → without_readings (ask_said l) ≡ ask_said l
said_shown logged.Reply = refl
said_shown _ = refl

abbrev line_with : ℕ → ℕ → ℕ → Decision → AskValue → LineValue
line_with number worker session decision ask = record { number = number; worker = worker; session = session; ask = ask; decision = decision }

pub said_value : (number : ℕ) (l : Logged) → l.number ≡ number → logged_value l ≡ line_value number (event_said l)
said_value number l h =
    ap (λ n. line_with n l.worker l.session l.decision (logged_ask l.what)) h
    ∙ ap (line_with number l.worker l.session l.decision) (sym (ask_of l.what))
