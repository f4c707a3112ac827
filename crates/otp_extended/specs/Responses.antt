-- Believed: the responses of RFC 2243 in the profile that this program reads.
use Rattle.std.specs.Prelude.{ℕ, ◌≡◌, ◌≤◌, ◌<◌, ◌^◌, true, List, [], ◌∷◌, ◌++◌, map, codes, Option, Some, None, Result}
use Rattle.std.specs.Prelude.{Ok, Err, if◌then◌else◌}
use Rattle.std.specs.Char.{to_ascii_lowercase}
use Rattle.std.specs.Str.{bytes_eq}
use Rattle.otp_hash.specs.declared.chain.Algo.{Algo}
use Rattle.otp_hash.specs.Names.{algo_name}
use Rattle.otp_hash.specs.SeedBytes.{seed_bytes}
use Rattle.otp_hash.specs.Seeds.{is_seed_text}
use Rattle.otp_words.specs.Blanks.{IsGap}
use Rattle.otp_words.specs.Challenges.{IsNumber}
use Rattle.otp_words.specs.Hex.{hex_reading}
use Rattle.otp_words.specs.Words.{IsSixWords}
use Rattle.otp_extended.specs.declared.response.Form.{Form}
use Rattle.otp_extended.specs.declared.response.Form.TheVariants.{Hexadecimal, Words}
use Rattle.otp_extended.specs.declared.response.Kind.{Kind}
use Rattle.otp_extended.specs.declared.response.Kind.TheVariants as kinds
use Rattle.otp_extended.specs.declared.response.Response.{Response}
use Rattle.otp_extended.specs.declared.response.Response.TheVariants.{Plain, Init}
use Rattle.trouble.specs.declared.response.ResponseFault.{ResponseFault}
use Rattle.trouble.specs.declared.response.ResponseFault.TheVariants as faults

-- the kind of response that a word names, in any letter case
unfoldable pub kind_of : List ℕ → Option Kind
kind_of word =
    let lower = map to_ascii_lowercase word in
    if bytes_eq lower (codes "hex") then Some (kinds.Plain Hexadecimal)
    else (if bytes_eq lower (codes "word") then Some (kinds.Plain Words)
    else (if bytes_eq lower (codes "init-hex") then Some (kinds.Init Hexadecimal)
    else (if bytes_eq lower (codes "init-word") then Some (kinds.Init Words)
    else None)))

-- a text spells a password in this form: 16 hexadecimal digits with blanks anywhere, or six words with right check bits
abbrev pub Spells : List (List ℕ) → Form → List ℕ → ℕ → Type 0
Spells dictionary Hexadecimal text password = hex_reading text ≡ Some password
Spells dictionary Words text password = (password < 2 ^ 64) × IsSixWords dictionary text password

-- a text spells some password
abbrev pub SpellsSome : List (List ℕ) → Form → List ℕ → Type 0
SpellsSome dictionary form text = (password : ℕ) × Spells dictionary form text password

-- a text spells no password
abbrev pub SpellsNone : List (List ℕ) → Form → List ℕ → Type 0
SpellsNone dictionary form text = (password : ℕ) → Spells dictionary form text password → ⊥

-- a text is a new chain's parameters: algorithm, number from 1 and seed, with spaces or tabs between and nowhere else
pub record AreParams (text : List ℕ) (algo : Algo) (sequence : ℕ) (seed : List ℕ) : Type 0 where
  pub gap : List ℕ
  pub digits : List ℕ
  pub second_gap : List ℕ
  pub name : List ℕ
  pub spelled : text ≡ algo_name algo ++ (gap ++ (digits ++ (second_gap ++ name)))
  pub parted : IsGap gap
  pub number : IsNumber digits sequence
  pub from_one : 1 ≤ sequence
  pub parted_again : IsGap second_gap
  pub legal : is_seed_text name ≡ true
  pub in_lower_case : seed ≡ map to_ascii_lowercase name

-- a text is the parameters of some chain
abbrev pub IsSomeParams : List ℕ → Type 0
IsSomeParams text = (algo : Algo) × (sequence : ℕ) × (seed : List ℕ) × AreParams text algo sequence seed

-- a text is the parameters of no chain
abbrev pub IsNoParams : List ℕ → Type 0
IsNoParams text = (algo : Algo) (sequence : ℕ) (seed : List ℕ) → AreParams text algo sequence seed → ⊥

-- what one part reads as: a password, or that it spells none
abbrev pub IsPlainOf : List (List ℕ) → Form → List ℕ → Result Response ResponseFault → Type 0
IsPlainOf dictionary form current (Ok (Plain password)) = Spells dictionary form current password
IsPlainOf dictionary form current (Err faults.Current) = SpellsNone dictionary form current
IsPlainOf dictionary form current _ = ⊥

-- those three parts: a password, the parameters of the new chain, and its password; or the first that doesn't read
abbrev pub IsInitOf : List (List ℕ) → Form → List ℕ → List ℕ → List ℕ → Result Response ResponseFault → Type 0
IsInitOf dictionary form current params new (Ok (Init spent algo sequence seed password)) =
    Spells dictionary form current spent × AreParams params algo sequence (seed_bytes seed)
    × Spells dictionary form new password
IsInitOf dictionary form current params new (Err faults.Current) = SpellsNone dictionary form current
IsInitOf dictionary form current params new (Err faults.Params) = SpellsSome dictionary form current × IsNoParams params
IsInitOf dictionary form current params new (Err faults.New) =
    SpellsSome dictionary form current × IsSomeParams params × SpellsNone dictionary form new
IsInitOf dictionary form current params new _ = ⊥

-- a plain response has one part after the kind's word
abbrev pub IsPlain : List (List ℕ) → Form → List (List ℕ) → Result Response ResponseFault → Type 0
IsPlain dictionary form (current ∷ []) result = IsPlainOf dictionary form current result
IsPlain dictionary form _ result = result ≡ Err faults.Parts

-- a response that begins a new chain has three parts after the kind's word
abbrev pub IsInit : List (List ℕ) → Form → List (List ℕ) → Result Response ResponseFault → Type 0
IsInit dictionary form (current ∷ params ∷ new ∷ []) result = IsInitOf dictionary form current params new result
IsInit dictionary form _ result = result ≡ Err faults.Parts

-- what the parts after the kind's word read as, by that kind
abbrev pub IsReadingBy : List (List ℕ) → Option Kind → List (List ℕ) → Result Response ResponseFault → Type 0
IsReadingBy dictionary None parts result = result ≡ Err faults.Kind
IsReadingBy dictionary (Some (kinds.Plain form)) parts result = IsPlain dictionary form parts result
IsReadingBy dictionary (Some (kinds.Init form)) parts result = IsInit dictionary form parts result

-- what the parts of a text between its colons read as: a response, or the first fault
abbrev pub IsReading : List (List ℕ) → List (List ℕ) → Result Response ResponseFault → Type 0
IsReading dictionary (word ∷ part ∷ parts) result = IsReadingBy dictionary (kind_of word) (part ∷ parts) result
IsReading dictionary _ result = result ≡ Err faults.Kind
