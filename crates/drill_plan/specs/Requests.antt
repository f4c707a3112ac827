-- Believed: the table of a drill: what each session asks, a line a class.
use Rattle.std.specs.Prelude.{◌≡◌, ℕ, List, [], ◌∷◌, ◌++◌, codes, length, Some, None}
use Rattle.request_catalogue.specs.declared.texts.Label.{Label}
use Rattle.request_catalogue.specs.declared.texts.Name.{Name}
use Rattle.request_catalogue.specs.Catalogue.{RequestValue, Abandon, Banner, Challenge, CloseFile, Export, Finish}
use Rattle.request_catalogue.specs.Catalogue.{Import, OpenFile, ReadAt, Reply, WriteAt}
use Rattle.request_catalogue.specs.TextBytes.{label_bytes, name_bytes}
use Rattle.policy_model.specs.declared.event.Ask.{Ask}
use Rattle.policy_model.specs.declared.event.Ask.TheVariants as asks
use Rattle.policy_model.specs.Settings.{password_text}
use Rattle.state_export.specs.Spelling.{state_bytes}
use Rattle.drill_plan.specs.declared.class.Class.{Class}
use Rattle.drill_plan.specs.declared.class.Class.TheVariants.{LogsIn, Repeats, Exports, BreaksOff}
use Rattle.drill_plan.specs.Classes.{class_of}
use Rattle.drill_plan.specs.Passwords.{current_password, own_name, right_password}

-- the smallest state that a child can export
abbrev pub least_record : List ℕ
least_record = state_bytes (record { terminal = []; unread = []; lines = 0; bytes = 0 })

-- what the child before the login asks in a session of this class, by the user's current password and the right one
abbrev pub early_requests_by : List ℕ → ℕ → ℕ → Class → List RequestValue
early_requests_by user current right LogsIn =
    Banner ∷ Challenge user ∷ Reply (password_text right) ∷ Export least_record ∷ []
early_requests_by user current right Repeats = Challenge user ∷ Reply (password_text current) ∷ Finish ∷ []
early_requests_by user current right Exports = Export least_record ∷ []
early_requests_by user current right BreaksOff = Challenge user ∷ Abandon ∷ Challenge (codes "nobody") ∷ []

-- what the user's child asks in a session of this class: only a login has one
abbrev pub user_requests_by : Class → List RequestValue
user_requests_by LogsIn =
    Import ∷ OpenFile 3 (codes "notes") ∷ WriteAt 1 0 (codes "drill") ∷ ReadAt 1 0 16 ∷ CloseFile 1 ∷ Finish ∷ []
user_requests_by _ = []

-- what the child before the login asks in a session of the drill
abbrev pub early_requests : ℕ → ℕ → ℕ → List RequestValue
early_requests n worker session =
    early_requests_by (own_name worker) (current_password n worker session) (right_password n worker session)
    (class_of n worker session)

-- what the user's child asks in a session of the drill
abbrev pub user_requests : ℕ → ℕ → ℕ → List RequestValue
user_requests n worker session = user_requests_by (class_of n worker session)

-- all that a worker's session asks in the drill of n
abbrev pub drill_requests : ℕ → ℕ → ℕ → List RequestValue
drill_requests n worker session = early_requests n worker session ++ user_requests n worker session

-- an ask is that of a request of the table: a CHALLENGE at any moment, a REPLY in hexadecimal digits alone
abbrev pub IsAskFor : RequestValue → Ask → Type 0
IsAskFor Banner ask = ask ≡ asks.Banner
IsAskFor (Challenge user) ask = (name : Name) × (now : ℕ) × (name_bytes name ≡ user) × (ask ≡ asks.Challenge name now)
IsAskFor (Reply text) ask = (password : ℕ) × (text ≡ password_text password) × (ask ≡ asks.Reply None (Some password))
IsAskFor Abandon ask = ask ≡ asks.Abandon
IsAskFor (Export state) ask = ask ≡ asks.Export (length state)
IsAskFor Import ask = ask ≡ asks.Import
IsAskFor (ReadAt handle offset max) ask = ask ≡ asks.ReadAt handle offset max
IsAskFor (WriteAt handle offset bytes) ask = ask ≡ asks.WriteAt handle offset (length bytes)
IsAskFor (OpenFile mode bytes) ask = (name : Label) × (label_bytes name ≡ bytes) × (ask ≡ asks.OpenFile mode name)
IsAskFor (CloseFile handle) ask = ask ≡ asks.CloseFile handle
IsAskFor Finish ask = ask ≡ asks.Finish
IsAskFor _ ask = ⊥
