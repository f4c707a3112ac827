-- Believed: the thirteen requests, and the one payload of each.
use Rattle.std.specs.Prelude.{◌≡◌, ℕ, ◌^◌, ◌<◌, ◌≤◌, List, [], ◌∷◌, ◌++◌, length, IsTrue}
use Rattle.std.specs.Int.{w16, w32, w64, to_le_bytes}
use Rattle.request_catalogue.specs.declared.width.Width.{Width}
use Rattle.request_catalogue.specs.declared.kind.Kind.{Kind}
use Rattle.request_catalogue.specs.declared.kind.Kind.TheVariants as kinds
use Rattle.request_catalogue.specs.declared.request.Request.{Request}
use Rattle.request_catalogue.specs.declared.request.Request.TheVariants as requests
use Rattle.request_catalogue.specs.Texts.{is_name, is_label, is_note, is_typed_reply}
use Rattle.request_catalogue.specs.Widths.{transfer_max}
use Rattle.request_catalogue.specs.TextBytes.{name_bytes, label_bytes, note_bytes}
use Rattle.request_catalogue.specs.Kinds.{kind_number}

-- one of the thirteen requests, as plain values
pub data RequestValue : Type 0 where
  Banner : RequestValue
  Challenge : (user : List ℕ) → RequestValue
  Reply : (text : List ℕ) → RequestValue
  Abandon : RequestValue
  Export : (state : List ℕ) → RequestValue
  Import : RequestValue
  ReadAt : (handle offset max : ℕ) → RequestValue
  WriteAt : (handle offset : ℕ) (bytes : List ℕ) → RequestValue
  OpenFile : (mode : ℕ) (name : List ℕ) → RequestValue
  CloseFile : (handle : ℕ) → RequestValue
  Info : (number : ℕ) → RequestValue
  Note : (text : List ℕ) → RequestValue
  Finish : RequestValue

-- what is asked, of a request in memory
abbrev pub value_of : Request → RequestValue
value_of requests.Banner = Banner
value_of (requests.Challenge user) = Challenge (name_bytes user)
value_of (requests.Reply text) = Reply text.now
value_of requests.Abandon = Abandon
value_of (requests.Export state) = Export state.now
value_of requests.Import = Import
value_of (requests.ReadAt handle offset max) = ReadAt handle offset max
value_of (requests.WriteAt handle offset bytes) = WriteAt handle offset bytes.now
value_of (requests.OpenFile mode name) = OpenFile mode (label_bytes name)
value_of (requests.CloseFile handle) = CloseFile handle
value_of (requests.Info number) = Info number
value_of (requests.Note text) = Note (note_bytes text)
value_of requests.Finish = Finish

-- the kind of a request
abbrev pub kind_of : RequestValue → Kind
kind_of Banner = kinds.Banner
kind_of (Challenge user) = kinds.Challenge
kind_of (Reply text) = kinds.Reply
kind_of Abandon = kinds.Abandon
kind_of (Export state) = kinds.Export
kind_of Import = kinds.Import
kind_of (ReadAt handle offset max) = kinds.ReadAt
kind_of (WriteAt handle offset bytes) = kinds.WriteAt
kind_of (OpenFile mode name) = kinds.OpenFile
kind_of (CloseFile handle) = kinds.CloseFile
kind_of (Info number) = kinds.Info
kind_of (Note text) = kinds.Note
kind_of Finish = kinds.Finish

-- the parts of a request are in their ranges, of which two go by the width of the frames
abbrev pub IsInRange : Width → RequestValue → Type 0
IsInRange width Banner = Unit {0}
IsInRange width (Challenge user) = IsTrue (is_name user)
IsInRange width (Reply text) = IsTrue (is_typed_reply text)
IsInRange width Abandon = Unit {0}
IsInRange width (Export state) = length state ≤ 8192
IsInRange width Import = Unit {0}
IsInRange width (ReadAt handle offset max) =
    (handle < 2 ^ 32) × (offset < 2 ^ 64) × (1 ≤ max) × (max ≤ transfer_max width)
IsInRange width (WriteAt handle offset bytes) =
    (handle < 2 ^ 32) × (offset < 2 ^ 64) × (1 ≤ length bytes) × (length bytes ≤ transfer_max width)
IsInRange width (OpenFile mode name) = (1 ≤ mode) × (mode ≤ 3) × IsTrue (is_label name)
IsInRange width (CloseFile handle) = handle < 2 ^ 32
IsInRange width (Info number) = number < 2 ^ 32
IsInRange width (Note text) = IsTrue (is_note text)
IsInRange width Finish = Unit {0}

-- the one payload of a request; numbers have their lowest byte first
unfoldable pub payload_of : RequestValue → List ℕ
payload_of Banner = []
payload_of (Challenge user) = user
payload_of (Reply text) = text
payload_of Abandon = []
payload_of (Export state) = state
payload_of Import = []
payload_of (ReadAt handle offset max) = to_le_bytes w32 handle ++ to_le_bytes w64 offset ++ to_le_bytes w16 max
payload_of (WriteAt handle offset bytes) = to_le_bytes w32 handle ++ to_le_bytes w64 offset ++ bytes
payload_of (OpenFile mode name) = mode ∷ name
payload_of (CloseFile handle) = to_le_bytes w32 handle
payload_of (Info number) = to_le_bytes w32 number
payload_of (Note text) = text
payload_of Finish = []

-- a message of this kind, flags and body is this request, in frames of this width
pub record IsRequest (width : Width) (kind flags : ℕ) (body : List ℕ) (value : RequestValue) : Type 0 where
  pub no_flags : flags ≡ 0
  pub of_kind : kind_number (kind_of value) ≡ kind
  pub in_range : IsInRange width value
  pub spelled : body ≡ payload_of value
