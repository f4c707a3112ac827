-- Believed: which ask a child makes by a message.
use Rattle.std.specs.Prelude.{◌≡◌, ℕ, List, length, Option, MatchResult}
use Rattle.imsg_frame.specs.Message.{Message, IsMessage}
use Rattle.request_catalogue.specs.declared.texts.Name.{Name}
use Rattle.request_catalogue.specs.declared.texts.Label.{Label}
use Rattle.request_catalogue.specs.declared.texts.Note.{Note}
use Rattle.request_catalogue.specs.declared.width.Width.{Width}
use Rattle.request_catalogue.specs.TextBytes.{name_bytes, label_bytes, note_bytes}
use Rattle.request_catalogue.specs.Catalogue.{RequestValue}
use Rattle.request_catalogue.specs.Catalogue as requests
use Rattle.request_catalogue.specs.Reading.{request_of}
use Rattle.request_catalogue.specs.Widths.{frame_max}
use Rattle.otp_words.specs.Candidates.{AreCandidatesOf}
use Rattle.policy_model.specs.declared.event.Ask.{Ask}
use Rattle.policy_model.specs.declared.event.Ask.TheVariants as asks
use Rattle.service_model.specs.Service.{Service}

-- the ask that a request makes: a CHALLENGE at some moment, a REPLY with the readings of its text
abbrev pub Asks : List (List ℕ) → RequestValue → Ask → Type 0
Asks words requests.Banner ask = ask ≡ asks.Banner
Asks words (requests.Challenge user) ask =
    (name : Name) × (now : ℕ) × (name_bytes name ≡ user) × (ask ≡ asks.Challenge name now)
Asks words (requests.Reply text) ask =
    (spelled : Option ℕ) × (hex : Option ℕ) × AreCandidatesOf words text spelled hex × (ask ≡ asks.Reply spelled hex)
Asks words requests.Abandon ask = ask ≡ asks.Abandon
Asks words (requests.Export state) ask = ask ≡ asks.Export (length state)
Asks words requests.Import ask = ask ≡ asks.Import
Asks words (requests.ReadAt handle offset max) ask = ask ≡ asks.ReadAt handle offset max
Asks words (requests.WriteAt handle offset bytes) ask = ask ≡ asks.WriteAt handle offset (length bytes)
Asks words (requests.OpenFile mode bytes) ask =
    (name : Label) × (label_bytes name ≡ bytes) × (ask ≡ asks.OpenFile mode name)
Asks words (requests.CloseFile handle) ask = ask ≡ asks.CloseFile handle
Asks words (requests.Info number) ask = ask ≡ asks.Info number
Asks words (requests.Note bytes) ask = (text : Note) × (note_bytes text ≡ bytes) × (ask ≡ asks.Note text)
Asks words requests.Finish ask = ask ≡ asks.Finish

-- the ask of a message: that of the request that it is, or the rule that it breaks
abbrev pub IsAskOf : Width → List (List ℕ) → Message → Ask → Type 0
IsAskOf width words message ask =
    MatchResult (request_of width message.header.kind message.header.flags message.body) (λ value. Asks words value ask)
    (λ bad. ask ≡ asks.Bad bad.rule bad.detail)

-- this is the ask that a child makes by this message, a whole frame
pub record CameBy (service : Service) (message : Message) (ask : Ask) : Type 0 where
  pub framed : IsMessage service.setup.frames (frame_max service.setup.frames) message
  pub asked : IsAskOf service.setup.frames service.words message ask
