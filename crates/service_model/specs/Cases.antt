-- Inner: names for the lemmas, of places and of what may be missing.
use Rattle.std.specs.Prelude.{ℕ, ◌==◌, List, [], filter, Option, option_map, if◌then◌else◌}
use Rattle.std.specs.Option.{option_and_then, option_map_or}
use Rattle.imsg_frame.specs.Message.{Message, spelling_of}
use Rattle.request_catalogue.specs.declared.texts.Label.{Label}
use Rattle.request_catalogue.specs.declared.width.Width.{Width}
use Rattle.request_catalogue.specs.Replies.{AnswerValue, Done, Device}
use Rattle.request_catalogue.specs.TextBytes.{name_bytes}
use Rattle.otp_hash.specs.SeedBytes.{seed_bytes}
use Rattle.otp_words.specs.Challenges.{challenge_of}
use Rattle.outside.specs.declared.act.Role.{Role}
use Rattle.outside.specs.declared.act.Role.TheVariants.{Pre, User}
use Rattle.policy_model.specs.declared.account.Account.{Account}
use Rattle.policy_model.specs.declared.event.Decision.{Decision}
use Rattle.policy_model.specs.declared.event.Event.{Event}
use Rattle.policy_model.specs.declared.event.Why.TheVariants as whys
use Rattle.policy_model.specs.Asks.{is_permit, label_named}
use Rattle.policy_model.specs.Journal.{Place, places_after}
use Rattle.state_export.specs.Spelling.{import_bytes}
use Rattle.service_model.specs.Acts.{Operation}
use Rattle.service_model.specs.Answers.{reply_message}
use Rattle.service_model.specs.Parts.{EndsSession, PartEnd}
use Rattle.service_model.specs.Users.{File}

abbrev pub place_of : List Event → Event → Place
place_of before event = record { before = before; event = event }

-- the places of a worker's events in the second list, where the first one stands before it
abbrev pub worker_places_after : ℕ → List Event → List Event → List Place
worker_places_after worker before events = filter (λ place. place.event.worker == worker) (places_after before events)

abbrev pub role_of : ℕ → Option Account → Role
role_of session user = option_map_or (λ account. User session account.uid account.name) user (Pre session)

abbrev pub name_of_opening : Option Event → Option Label
name_of_opening opening = option_and_then (λ e. label_named e.ask) opening

abbrev pub file_of : Option Account → Option Label → Option File
file_of user name =
    option_and_then (λ account. option_map (λ label. record { uid = account.uid; name = label }) name) user

abbrev pub if_permitted : Decision → List Operation → List Operation
if_permitted decision operations = if is_permit decision then operations else []

abbrev pub account_challenge_text : Option Account → ℕ → List ℕ
account_challenge_text user number =
    option_map_or (λ account. challenge_of account.algo number (seed_bytes account.seed)) user []

abbrev pub imported_state : Option Account → List ℕ → List ℕ
imported_state user exported =
    option_map_or (λ account. import_bytes account.uid (name_bytes account.name) exported) user []

abbrev pub outcome_value : Option ℕ → List ℕ → AnswerValue
outcome_value failed body = option_map_or Device failed (Done body)

abbrev pub reply_bytes : Width → Message → ℕ → Option AnswerValue → List ℕ
reply_bytes width message session value =
    option_map_or (λ answer. spelling_of width (reply_message message session answer)) value []

abbrev pub message_bytes : Width → Option Message → List ℕ
message_bytes width message = option_map_or (spelling_of width) message []

abbrev pub by_link : PartEnd
by_link = EndsSession whys.LinkFault
