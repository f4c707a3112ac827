-- Believed: a session that logs in, and what has to hold meanwhile.
use Rattle.std.specs.Prelude.{ℕ, ◌≡◌, ◌≢◌, ◌<◌, ◌≤◌, ◌+◌, ◌-◌, ◌==◌, Bool, true, false, Option, Some}
use Rattle.std.specs.Prelude.{List, [], ◌∷◌, ◌++◌, length, filter}
use Rattle.std.specs.List.{list_all, list_any}
use Rattle.std.specs.Option.{option_map_or}
use Rattle.request_catalogue.specs.declared.kind.Kind.TheVariants as kinds
use Rattle.request_catalogue.specs.declared.texts.Name.{Name}
use Rattle.policy_model.specs.declared.account.Account.{Account}
use Rattle.policy_model.specs.declared.event.Ask.{Ask}
use Rattle.policy_model.specs.declared.event.Ask.TheVariants as asks
use Rattle.policy_model.specs.declared.event.Event.{Event}
use Rattle.policy_model.specs.Asks.{accepts, challenge_name, exports, is_kind, is_permit, is_user, moment_of, opens}
use Rattle.policy_model.specs.Asks.{value_of}
use Rattle.policy_model.specs.Journal.{Place, places_of}
use Rattle.policy_model.specs.Logins.{account_of, current_sequence, holder_of, is_live, last_taking_of}
use Rattle.policy_model.specs.Logins.{verified_account}
use Rattle.policy_model.specs.Settings.{Settings}
use Rattle.policy_model.specs.Verdict.{is_held, is_next_password, readings}

-- ---- the other sessions

-- a journal begins with these events, and this event is the next
pub record ComesAfter (journal before : List Event) (e : Event) : Type 0 where
  pub rest : List Event
  pub parts : journal ≡ before ++ e ∷ rest

-- the moment at which a user was last taken; 0 if never
abbrev pub taken_at : List Event → Name → ℕ
taken_at before user = option_map_or (λ e. moment_of e.ask) (last_taking_of before user) 0

-- an ask is a CHALLENGE for this user
abbrev pub asks_for : Name → Ask → Bool
asks_for user ask = is_user user (challenge_name ask)

-- if this session holds the user, another session's CHALLENGE for that user comes before the hold has run out
abbrev pub ComesWithinHold : Settings → List Event → ℕ → Name → Event → Type 0
ComesWithinHold setup before session user e =
    holder_of before user ≡ Some session → e.session ≢ session → asks_for user e.ask ≡ true
    → moment_of e.ask < taken_at before user + setup.hold

-- each event does so
pub record RepliesWithinHold (setup : Settings) (journal : List Event) (session : ℕ) (user : Name) : Type 0 where
  pub within : (before : List Event) (e : Event) → ComesAfter journal before e
      → ComesWithinHold setup before session user e

-- ---- the user

-- just before the CHALLENGE the account is enabled and has a password left, and no other session holds the user within
-- the hold
pub record CanLogIn (setup : Settings) (before : List Event) (session : ℕ) (user : Name) (now : ℕ)
    (account : Account) : Type 0 where
  pub found : account_of setup user ≡ Some account
  pub live : is_live before account ≡ true
  pub free : is_held setup before session user now ≡ false

-- one of a reply's two readings is the account's next password: it hashes to the current one and wasn't accepted before
pub record IsRight (before : List Event) (account : Account) (words hex : Option ℕ) : Type 0 where
  pub next : list_any (is_next_password before account) (readings words hex) ≡ true

-- ---- what the session asks

-- requests that leave the login as it is: bytes of the client's connection, and notes
abbrev pub is_talk : Ask → Bool
is_talk (asks.ReadAt handle offset max) = handle == 0
is_talk (asks.WriteAt handle offset len) = handle == 0
is_talk (asks.Note text) = true
is_talk _ = false

abbrev pub are_talk : List Place → Bool
are_talk places = list_all (λ p. is_talk p.event.ask) places

abbrev pub is_banner : Ask → Bool
is_banner asks.Banner = true
is_banner _ = false

-- a BANNER, or nothing
abbrev pub is_greeting : List Place → Bool
is_greeting [] = true
is_greeting (p ∷ []) = is_banner p.event.ask
is_greeting (p ∷ q ∷ places) = false

-- the places of a session that logs in: its opening, the banner, and, with talk between them, a CHALLENGE, a REPLY
-- and an EXPORT
pub record LoginPlaces : Type 0 where
  pub opening : Place
  pub greeting : List Place
  pub first : List Place
  pub challenge : Place
  pub second : List Place
  pub reply : Place
  pub third : List Place
  pub export : Place

abbrev pub login_places : LoginPlaces → List Place
login_places l =
    l.opening ∷ (l.greeting ++ (l.first ++ (l.challenge ∷ (l.second ++ (l.reply ∷ (l.third ++ (l.export ∷ [])))))))

-- the places of a worker in a journal
abbrev pub places_by : List Event → ℕ → List Place
places_by journal worker = filter (λ place. place.event.worker == worker) (places_of journal)

-- among the worker's places stand those of a session that asks for this user, replies with these readings and exports;
-- it makes no more asks than the setup allows; the user can log in, and the reply comes within the hold
pub record AsksToLogIn (setup : Settings) (journal : List Event) (worker : ℕ) (user : Name) (account : Account)
    (words hex : Option ℕ) (l : LoginPlaces) (rest : List Place) : Type 0 where
  pub earlier : List Place
  pub places : places_by journal worker ≡ earlier ++ (login_places l ++ rest)
  pub opened : opens l.opening.event ≡ true
  pub greeted : is_greeting l.greeting ≡ true
  pub talked : are_talk (l.first ++ (l.second ++ l.third)) ≡ true
  pub challenges : l.challenge.event.ask ≡ asks.Challenge user (moment_of l.challenge.event.ask)
  pub replies : l.reply.event.ask ≡ asks.Reply words hex
  pub exports : is_kind kinds.Export l.export.event.ask ≡ true
  pub few : length (login_places l) ≤ setup.requests + 1
  pub ready : CanLogIn setup l.challenge.before l.opening.event.session user (moment_of l.challenge.event.ask) account
  pub right : IsRight l.challenge.before account words hex
  pub within : RepliesWithinHold setup journal l.opening.event.session user

-- ---- what comes of it

-- it was challenged with the number of the next password; its REPLY was accepted, with a password that was still the
-- next; its EXPORT was permitted, and it is logged in as that user
pub record IsLoggedInBy (setup : Settings) (journal : List Event) (user : Name) (account : Account)
    (words hex : Option ℕ) (l : LoginPlaces) : Type 0 where
  pub challenged : is_permit l.challenge.event.decision ≡ true
  pub number : value_of l.challenge.event.decision ≡ current_sequence l.challenge.before account - 1
  pub replied : accepts l.reply.event ≡ true
  pub password : is_next_password l.reply.before account (value_of l.reply.event.decision) ≡ true
  pub exported : exports l.export.event ≡ true
  pub logged_in : verified_account setup l.export.before l.export.event.session ≡ Some account
