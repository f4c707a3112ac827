-- Believed: the operations that are done for an event.
use Rattle.std.specs.Prelude.{◌≡◌, ℕ, zero, List, [], ◌∷◌, map, Option, Some, None, Result, Ok, Err, if◌then◌else◌}
use Rattle.std.specs.Option.{option_map_or}
use Rattle.imsg_frame.specs.Message.{Message}
use Rattle.request_catalogue.specs.declared.request.Bad.{Bad}
use Rattle.request_catalogue.specs.declared.texts.Label.{Label}
use Rattle.request_catalogue.specs.declared.width.Width.{Width}
use Rattle.request_catalogue.specs.Catalogue.{RequestValue}
use Rattle.request_catalogue.specs.Catalogue as requests
use Rattle.request_catalogue.specs.Reading.{request_of}
use Rattle.outside.specs.declared.act.Act.{Act}
use Rattle.outside.specs.declared.act.Act.TheVariants as acts
use Rattle.outside.specs.declared.act.Accepted.{Accepted}
use Rattle.outside.specs.declared.act.Accepted.TheVariants as accepted
use Rattle.outside.specs.declared.act.Role.{Role}
use Rattle.outside.specs.declared.act.Role.TheVariants.{Pre}
use Rattle.policy_model.specs.declared.event.Ask.{Ask}
use Rattle.policy_model.specs.declared.event.Ask.TheVariants as asks
use Rattle.policy_model.specs.declared.event.Why.{Why}
use Rattle.policy_model.specs.declared.event.Why.TheVariants as whys
use Rattle.policy_model.specs.declared.event.Decision.{Decision}
use Rattle.policy_model.specs.declared.event.Decision.TheVariants as decisions
use Rattle.policy_model.specs.Asks.{is_permit}
use Rattle.policy_model.specs.Journal.{Place}
use Rattle.policy_model.specs.Settings.{Settings}
use Rattle.service_model.specs.Users.{File, file_at, user_role}

-- what is asked of the outside, apart from what comes of it; of an accept the outcome stays, of the clock the moment
pub data Operation : Type 0 where
  Accepts : (outcome : Accepted) → Operation
  Starts : (role : Role) → Operation
  Finishes : (role : Role) → Operation
  HangsUp : Operation
  Receives : (max : ℕ) → Operation
  Sends : (bytes : List ℕ) → Operation
  ReadsFile : (uid : ℕ) (name : Label) (offset max : ℕ) → Operation
  WritesFile : (uid : ℕ) (name : Label) (offset : ℕ) (bytes : List ℕ) → Operation
  ReadsClock : (moment : ℕ) → Operation

-- an operation apart from what came of it
abbrev pub operation_of : Act → Operation
operation_of (acts.Accept outcome) = Accepts outcome
operation_of (acts.Start role outcome) = Starts role
operation_of (acts.Finish role) = Finishes role
operation_of acts.HangUp = HangsUp
operation_of (acts.ConnRecv max outcome) = Receives max
operation_of (acts.ConnSend bytes outcome) = Sends bytes
operation_of (acts.VaultRead uid name offset max outcome) = ReadsFile uid name offset max
operation_of (acts.VaultWrite uid name offset bytes outcome) = WritesFile uid name offset bytes
operation_of (acts.Clock moment) = ReadsClock moment

-- the bytes of a request that is a WRITE; none of any other
abbrev pub written_by : Result RequestValue Bad → List ℕ
written_by (Ok (requests.WriteAt handle offset bytes)) = bytes
written_by _ = []

-- the bytes that a WRITE's message has to write
abbrev pub written_bytes : Width → Option Message → List ℕ
written_bytes width message =
    option_map_or (λ m. written_by (request_of width m.header.kind m.header.flags m.body)) message []

-- an opening: a connection came and a child is started, or, if it was lost, the connection is closed
abbrev pub opening_operations : ℕ → Decision → List Operation
opening_operations session (decisions.Permit value) = Accepts accepted.Came ∷ Starts (Pre session) ∷ []
opening_operations session decisions.Lost = Accepts accepted.Came ∷ HangsUp ∷ []
opening_operations session (decisions.Deny rule detail) = []

-- a session's end: its live child is given back, if it has one, and the connection is closed
abbrev pub ending_operations : Role → Why → List Operation
ending_operations live whys.KeeperFault = HangsUp ∷ []
ending_operations live _ = Finishes live ∷ HangsUp ∷ []

-- a READ: from the client at handle 0, otherwise of the handle's file
abbrev pub read_operations : ℕ → Option File → ℕ → ℕ → List Operation
read_operations zero file offset max = Receives max ∷ []
read_operations _ (Some file) offset max = ReadsFile file.uid file.name offset max ∷ []
read_operations _ None offset max = []

-- a WRITE: to the client at handle 0, otherwise to the handle's file
abbrev pub write_operations : ℕ → Option File → ℕ → List ℕ → List Operation
write_operations zero file offset bytes = Sends bytes ∷ []
write_operations _ (Some file) offset bytes = WritesFile file.uid file.name offset bytes ∷ []
write_operations _ None offset bytes = []

-- a permitted EXPORT: the child before the login is given back, and the user's is started
abbrev pub export_operations : ℕ → Role → List Operation
export_operations session user = Finishes (Pre session) ∷ Starts user ∷ []

-- the operations for each kind of ask: a denied request has none, but every CHALLENGE reads the clock
abbrev pub operations_by : Settings → Place → Ask → Option Message → List Operation
operations_by setup p asks.Begin message = opening_operations p.event.session p.event.decision
operations_by setup p (asks.Challenge user now) message = ReadsClock now ∷ []
operations_by setup p (asks.Export len) message =
    if is_permit p.event.decision then export_operations p.event.session (user_role setup p) else []
operations_by setup p (asks.ReadAt handle offset max) message =
    if is_permit p.event.decision then read_operations handle (file_at setup p handle) offset max else []
operations_by setup p (asks.WriteAt handle offset len) message =
    if is_permit p.event.decision then write_operations handle (file_at setup p handle) offset
    (written_bytes setup.frames message) else []
operations_by setup p _ message = []

-- the operations that an opening or a request calls for
unfoldable pub operations_of : Settings → Place → Option Message → List Operation
operations_of setup p message = operations_by setup p p.event.ask message

-- exactly the operations were done that an opening or a request calls for
pub record AreActsOf (setup : Settings) (place : Place) (message : Option Message) (done : List Act) : Type 0 where
  pub operations : map operation_of done ≡ operations_of setup place message

-- the device of an operation that failed: 1 is the client's connection, 2 the users' files
abbrev pub failed_device : Act → Option ℕ
failed_device (acts.ConnRecv max (Err failed)) = Some 1
failed_device (acts.ConnSend bytes (Err failed)) = Some 1
failed_device (acts.VaultRead uid name offset max (Err failed)) = Some 2
failed_device (acts.VaultWrite uid name offset bytes (Err failed)) = Some 2
failed_device _ = None

-- the bytes that an operation received or read; none for any other
abbrev pub bytes_read : Act → List ℕ
bytes_read (acts.ConnRecv max (Ok bytes)) = bytes
bytes_read (acts.VaultRead uid name offset max (Ok bytes)) = bytes
bytes_read _ = []
