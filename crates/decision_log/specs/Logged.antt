-- Inner: what a line that was read says.
use Rattle.request_catalogue.specs.TextBytes.{label_bytes, name_bytes, note_bytes}
use Rattle.decision_log.specs.declared.logged.Logged.{Logged}
use Rattle.decision_log.specs.declared.logged.LoggedAsk.{LoggedAsk}
use Rattle.decision_log.specs.declared.logged.LoggedAsk.TheVariants as logged
use Rattle.decision_log.specs.Values.{AskValue, Begin, Banner, Challenge, Reply, Abandon, Export, Import, ReadAt}
use Rattle.decision_log.specs.Values.{WriteAt, OpenFile, CloseFile, Info, Note, Finish, Bad, End, LineValue}

abbrev pub logged_ask : LoggedAsk → AskValue
logged_ask logged.Begin = Begin
logged_ask logged.Banner = Banner
logged_ask (logged.Challenge user now) = Challenge (name_bytes user) now
logged_ask logged.Reply = Reply
logged_ask logged.Abandon = Abandon
logged_ask (logged.Export len) = Export len
logged_ask logged.Import = Import
logged_ask (logged.ReadAt handle offset max) = ReadAt handle offset max
logged_ask (logged.WriteAt handle offset len) = WriteAt handle offset len
logged_ask (logged.OpenFile mode name) = OpenFile mode (label_bytes name)
logged_ask (logged.CloseFile handle) = CloseFile handle
logged_ask (logged.Info number) = Info number
logged_ask (logged.Note text) = Note (note_bytes text)
logged_ask logged.Finish = Finish
logged_ask (logged.Bad rule detail) = Bad rule detail
logged_ask (logged.End why) = End why

abbrev pub logged_value : Logged → LineValue
logged_value l =
    record { number = l.number; worker = l.worker; session = l.session; ask = logged_ask l.what; decision = l.decision }
