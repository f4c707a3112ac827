-- Inner: the exchanges that a child stands for, by what it keeps.
use Rattle.std.specs.Prelude.{◌≡◌, ℕ, suc, ◌*◌, ◌≤◌, Bool, false, true, List, [], length, Option}
use Rattle.fixed_list.specs.FixedList.{list_of}
use Rattle.request_catalogue.specs.TextBytes.{name_bytes}
use Rattle.request_catalogue.specs.Catalogue.{RequestValue, Banner, Import}
use Rattle.request_catalogue.specs.Replies.{AnswerValue}
use Rattle.child_protocol.specs.Lines.{Front, HasLines, behind_lines}
use Rattle.child_protocol.specs.Exchanges.{Exchange, client_bytes, texts_of, underway, is_challenged}
use Rattle.child_protocol.specs.Pre.{say, pre_first, pre_is_last, terminal_in}
use Rattle.child_protocol.specs.User.{Get, Put, command_at, file_text, user_first, user_is_last}
use Rattle.child_protocol.specs.Says.{Role, Pre, User, next_request, exchanges_of}
use Rattle.child_protocol.specs.Places.{Heard, Kept, asked_at}
use Rattle.child_protocol.specs.declared.place.Place.{Place}
use Rattle.child_protocol.specs.declared.place.Place.TheVariants as places
use Rattle.child_protocol.specs.declared.child.Child.{Child}
use Rattle.child_protocol.specs.declared.dialogue.Dialogue.{Dialogue}
use Rattle.child_protocol.specs.declared.dialogue.Whose.{Whose}
use Rattle.child_protocol.specs.declared.dialogue.Whose.TheVariants as whose

abbrev pub kept_of : Dialogue → Kept
kept_of core =
    record {
      place = core.place;
      heard =
          record {
            held = core.held.items;
            terminal = list_of core.terminal;
            challenged = core.challenged;
            lines = core.lines;
            read = core.read;
          };
      text = core.text.items;
      handle = core.handle;
    }

abbrev pub role_value : Whose → Role
role_value whose.Pre = Pre
role_value (whose.User uid name) = User (record { uid = uid; name = name_bytes name })

-- what a child keeps that asked nothing yet
abbrev pub fresh : Kept
fresh =
    record {
      place = places.New;
      heard = record { held = []; terminal = []; challenged = false; lines = 0; read = 0 };
      text = [];
      handle = 0;
    }

-- what a child asks first, and where
abbrev pub first_place : Role → Place
first_place Pre = places.Greeting
first_place (User who) = places.Importing

abbrev pub first_request : Role → RequestValue
first_request Pre = Banner
first_request (User who) = Import

-- what the front of the client's bytes leads to
abbrev pub line_request : Role → Front → Bool → RequestValue
line_request Pre front challenged = pre_first front challenged
line_request (User who) front challenged = user_first front

-- after the text for this line comes FINISH
abbrev pub is_last : Role → Front → Bool
is_last Pre front = pre_is_last front
is_last (User who) front = user_is_last front

-- the terminal and the count of bytes, which only the child before the login exports
abbrev pub HasState : Role → Heard → List ℕ → Type 0
HasState Pre heard bytes = (heard.terminal ≡ terminal_in heard.lines bytes) × (heard.read ≡ length bytes)
HasState (User who) heard bytes = Unit {0}

-- the bytes, lines and choices kept are those of the exchanges
pub record Keeps (role : Role) (heard : Heard) (history : List Exchange) : Type 0 where
  pub held : heard.held ≡ behind_lines heard.lines (client_bytes history)
  pub whole : HasLines heard.lines (client_bytes history)
  pub state : HasState role heard (client_bytes history)
  pub challenged : heard.challenged ≡ is_challenged history
  pub few_lines : heard.lines ≤ length history
  pub few_bytes : heard.read ≤ 512 * length history

-- a line, or the greeting, is underway, and after its text comes the next line
pub record IsOnLine (role : Role) (heard : Heard) (history : List Exchange) : Type 0 where
  pub keeps : Keeps role heard history
  pub texts : texts_of history ≡ heard.lines
  pub goes_on : is_last role (underway history) ≡ false

-- less than a line is held, and more bytes were asked for
pub record IsReading (role : Role) (heard : Heard) (history : List Exchange) : Type 0 where
  pub keeps : Keeps role heard history
  pub texts : texts_of history ≡ suc heard.lines
  pub short : length heard.held ≤ 300

abbrev pub IsPre : Role → Type 0
IsPre Pre = Unit {0}
IsPre (User who) = ⊥

abbrev pub IsUser : Role → Type 0
IsUser Pre = ⊥
IsUser (User who) = Unit {0}

-- how the exchanges are at a place, by the text that was asked with
abbrev pub IsLineAt : Place → Role → Kept → List ℕ → List Exchange → Type 0
IsLineAt places.New role kept word history = ⊥
IsLineAt places.Greeting role kept word history = IsPre role × IsOnLine role kept.heard history
IsLineAt places.Importing role kept word history = IsUser role × (history ≡ []) × IsOnLine role kept.heard history
IsLineAt places.Saying role kept word history = IsOnLine role kept.heard history
IsLineAt places.Parting role kept word history = is_last role (underway history) ≡ true
IsLineAt places.Reading role kept word history = IsReading role kept.heard history
IsLineAt places.Challenging role kept word history = IsPre role × IsOnLine role kept.heard history
IsLineAt places.Replying role kept word history = IsPre role × IsOnLine role kept.heard history
IsLineAt places.Abandoning role kept word history = IsPre role × IsOnLine role kept.heard history
IsLineAt places.Exporting role kept word history = IsPre role × Unit {0}
IsLineAt places.OpeningGet role kept word history =
    IsUser role × IsOnLine role kept.heard history × (command_at (underway history) ≡ Get word)
IsLineAt places.OpeningPut role kept word history =
    IsUser role × IsOnLine role kept.heard history × (command_at (underway history) ≡ Put word kept.text)
    × (1 ≤ length kept.text)
IsLineAt places.Getting role kept word history = IsUser role × IsOnLine role kept.heard history × (1 ≤ kept.handle)
IsLineAt places.Putting role kept word history = IsUser role × IsOnLine role kept.heard history × (1 ≤ kept.handle)
IsLineAt places.Closing role kept word history =
    IsUser role × IsOnLine role kept.heard history × (file_text history ≡ say kept.text) × (1 ≤ length kept.text)
IsLineAt places.Noting role kept word history = IsUser role × IsOnLine role kept.heard history
IsLineAt places.Asking role kept word history = IsUser role × IsOnLine role kept.heard history
IsLineAt places.Finishing role kept word history = Unit {0}
IsLineAt places.Ended role kept word history = Unit {0}

-- this is asked after these exchanges, at the place where the child is
pub record IsAt (role : Role) (kept : Kept) (asks : Option RequestValue) (history : List Exchange) : Type 0 where
  pub word : List ℕ
  pub number : ℕ
  pub asks_is : asks ≡ asked_at kept.place kept word number
  pub next : next_request role history ≡ asks
  pub line : IsLineAt kept.place role kept word history

-- a child that keeps this stands for these exchanges
abbrev pub Stands : Role → Kept → List Exchange → Type 0
Stands role kept history = (asks : Option RequestValue) × IsAt role kept asks history

-- a child stands for these answers
abbrev pub StandsFor : Role → Kept → List AnswerValue → Type 0
StandsFor role kept answers = Stands role kept (exchanges_of role answers)

-- a child's dialogue, and the answers that it stands for
abbrev pub role_in : Child → Role
role_in child = role_value child.whose

abbrev pub stands_for : Child → List AnswerValue → Type 0
stands_for child answers = StandsFor (role_in child) (kept_of child.dialogue) answers

-- it asked nothing yet
abbrev pub IsNew : Child → Type 0
IsNew child = kept_of child.dialogue ≡ fresh
