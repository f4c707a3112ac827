-- Believed: what a child is answered to its requests.
use Rattle.std.specs.Prelude.{ℕ, ◌==◌, nat_lt, List, [], filter_map, find, slice_get, Option, Some, None, if◌then◌else◌}
use Rattle.std.specs.Int.{w32, to_le_bytes}
use Rattle.std.specs.List.{flat_map}
use Rattle.std.specs.Option.{option_map_or}
use Rattle.imsg_frame.specs.Message.{Message, spelling_of, composed_of}
use Rattle.info_hooks.specs.declared.key.Key.{Key}
use Rattle.info_hooks.specs.Said.{said}
use Rattle.request_catalogue.specs.declared.texts.Name.{Name}
use Rattle.request_catalogue.specs.TextBytes.{name_bytes}
use Rattle.request_catalogue.specs.Replies.{AnswerValue, Done, Denied, Device, reply_of, reply_kind_of}
use Rattle.otp_hash.specs.SeedBytes.{seed_bytes}
use Rattle.otp_words.specs.Challenges.{challenge_of}
use Rattle.outside.specs.declared.act.Act.{Act}
use Rattle.policy_model.specs.declared.account.Account.{Account}
use Rattle.policy_model.specs.declared.event.Ask.{Ask}
use Rattle.policy_model.specs.declared.event.Ask.TheVariants as asks
use Rattle.policy_model.specs.declared.event.Decision.{Decision}
use Rattle.policy_model.specs.declared.event.Decision.TheVariants as decisions
use Rattle.policy_model.specs.declared.reading.TheConstants.{DECOYS_FROM}
use Rattle.policy_model.specs.Asks.{shown_of}
use Rattle.policy_model.specs.Decoys.{decoy_algo, decoy_number, decoy_seed}
use Rattle.policy_model.specs.Journal.{Place}
use Rattle.policy_model.specs.Logins.{account_of}
use Rattle.policy_model.specs.Settings.{Settings}
use Rattle.state_export.specs.Spelling.{import_bytes}
use Rattle.service_model.specs.Service.{Service}
use Rattle.service_model.specs.Acts.{bytes_read, failed_device}
use Rattle.service_model.specs.Places.{Step}
use Rattle.service_model.specs.Users.{user_at}

-- the challenge of a name's decoy
abbrev pub decoy_challenge_text : Settings → Name → List ℕ
decoy_challenge_text setup user = challenge_of (decoy_algo setup user) (decoy_number setup user) (decoy_seed setup user)

-- the challenge that a permitted CHALLENGE brings: the account's with that number, or the decoy's from 10,000 on
abbrev pub challenge_text : Settings → Name → ℕ → List ℕ
challenge_text setup user value =
    if nat_lt value DECOYS_FROM
    then option_map_or (λ account. challenge_of account.algo value (seed_bytes account.seed))
    (account_of setup user) []
    else decoy_challenge_text setup user

-- an information text: the form of this number, said of the user who is logged in
abbrev pub info_text : List Key → ℕ → Option Account → ℕ → List ℕ
info_text forms number user sequence =
    option_map_or (λ key. option_map_or (λ account. said key.form
    (record { name = account.name; uid = account.uid; algo = account.algo; sequence = sequence })) user [])
    (find (λ key. key.number == number) forms) []

-- the body for a permitted ask: banner, challenge, import record, bytes read, a handle, an information text, or nothing
abbrev pub done_body : Service → List ℕ → Place → List Act → Ask → ℕ → List ℕ
done_body service exported p done asks.Banner value = service.setup.banner
done_body service exported p done (asks.Challenge user now) value = challenge_text service.setup user value
done_body service exported p done asks.Import value =
    option_map_or (λ account. import_bytes account.uid (name_bytes account.name) exported) (user_at service.setup p) []
done_body service exported p done (asks.ReadAt handle offset max) value = flat_map bytes_read done
done_body service exported p done (asks.OpenFile mode name) value = to_le_bytes w32 value
done_body service exported p done (asks.Info number) value =
    info_text service.forms number (user_at service.setup p) value
done_body service exported p done _ value = []

-- the answer to a permitted ask: the first device that failed, otherwise done with its body; none to an EXPORT
abbrev pub permitted_value : Service → List ℕ → Place → List Act → Ask → ℕ → Option AnswerValue
permitted_value service exported p done (asks.Export len) value = None
permitted_value service exported p done ask value =
    Some (option_map_or Device (slice_get (filter_map failed_device done) 0)
    (Done (done_body service exported p done ask value)))

-- the answer to a decision, as it is shown; none to a lost one
abbrev pub answer_value : Service → List ℕ → Place → List Act → Decision → Option AnswerValue
answer_value service exported p done (decisions.Permit value) =
    permitted_value service exported p done p.event.ask value
answer_value service exported p done (decisions.Deny rule detail) = Some (Denied rule detail)
answer_value service exported p done decisions.Lost = None

-- the reply to a message: the kind that replies to its own, its peer, the session as process, and the answer
abbrev pub reply_message : Message → ℕ → AnswerValue → Message
reply_message message session answer =
    composed_of (reply_kind_of message.header.kind message.header.flags) message.header.peerid session (reply_of answer)

-- the frame that answers a message at this place, after this export; none to a lost decision and to a permitted EXPORT
unfoldable pub reply_to : Service → List ℕ → Message → Place → List Act → List ℕ
reply_to service exported message p done =
    option_map_or (λ answer. spelling_of service.setup.frames (reply_message message p.event.session answer))
    (answer_value service exported p done (shown_of p.event.decision)) []

-- the bytes that a child is sent for a step; none if no message brought it
abbrev pub answer_to : Service → List ℕ → Step → List ℕ
answer_to service exported step =
    option_map_or (λ message. reply_to service exported message step.place step.acts) step.message []

-- the bytes that a child is sent for these steps, in order
abbrev pub answers : Service → List ℕ → List Step → List ℕ
answers service exported steps = flat_map (answer_to service exported) steps
