-- Inner: the events of a log. A line shows all of an event but a reply's readings, so a reply of a log has none.
use Rattle.std.specs.Prelude.{None}
use Rattle.policy_model.specs.declared.event.Ask.{Ask}
use Rattle.policy_model.specs.declared.event.Ask.TheVariants as asks
use Rattle.policy_model.specs.declared.event.Event.{Event}
use Rattle.policy_laws.specs.Strangers.{without_readings}
use Rattle.decision_log.specs.declared.logged.Logged.{Logged}
use Rattle.decision_log.specs.declared.logged.LoggedAsk.{LoggedAsk}
use Rattle.decision_log.specs.declared.logged.LoggedAsk.TheVariants as logged

-- an event as a log shows it
abbrev pub shown_event : Event → Event
shown_event e = record { worker = e.worker; session = e.session; ask = without_readings e.ask; decision = e.decision }

-- the ask and the event that a line was read as
abbrev pub ask_said : LoggedAsk → Ask
ask_said logged.Begin = asks.Begin
ask_said logged.Banner = asks.Banner
ask_said (logged.Challenge user now) = asks.Challenge user now
ask_said logged.Reply = asks.Reply None None
ask_said logged.Abandon = asks.Abandon
ask_said (logged.Export len) = asks.Export len
ask_said logged.Import = asks.Import
ask_said (logged.ReadAt handle offset max) = asks.ReadAt handle offset max
ask_said (logged.WriteAt handle offset len) = asks.WriteAt handle offset len
ask_said (logged.OpenFile mode name) = asks.OpenFile mode name
ask_said (logged.CloseFile handle) = asks.CloseFile handle
ask_said (logged.Info number) = asks.Info number
ask_said (logged.Note text) = asks.Note text
ask_said logged.Finish = asks.Finish
ask_said (logged.Bad rule detail) = asks.Bad rule detail
ask_said (logged.End why) = asks.End why

abbrev pub event_said : Logged → Event
event_said l = record { worker = l.worker; session = l.session; ask = ask_said l.what; decision = l.decision }
