-- Believed: fronts of a stream, and its cut into messages.
use Rattle.std.specs.Prelude.{◌≡◌, ℕ, ◌<◌, ◌≤◌, ◌⊎◌, List, [], ◌++◌, length, min}
use Rattle.std.specs.List.{flat_map, AllByRecursion}
use Rattle.request_catalogue.specs.declared.width.Width.{Width}
use Rattle.imsg_frame.specs.Fields.{length_field}
use Rattle.imsg_frame.specs.Message.{Message, spelling_of, IsMessage}

-- these bytes begin with this whole message
pub record IsWholeFront (width : Width) (max : ℕ) (bytes : List ℕ) (message : Message) : Type 0 where
  pub right : IsMessage width max message
  pub front : (rest : List ℕ) × (bytes ≡ spelling_of width message ++ rest)

-- these bytes begin with a whole header whose length is wrong; `len` is that length, or 65,535 if it is greater
pub record IsBadFront (width : Width) (max : ℕ) (bytes : List ℕ) (len : ℕ) : Type 0 where
  pub header : 16 ≤ length bytes
  pub field : min (length_field width bytes) 65535 ≡ len
  pub wrong : (length_field width bytes < 16) ⊎ (max < length_field width bytes)

-- the header's length is right, and fewer bytes than that are there
pub record IsShortFront (width : Width) (max : ℕ) (bytes : List ℕ) : Type 0 where
  pub low : 16 ≤ length_field width bytes
  pub high : length_field width bytes ≤ max
  pub short : length bytes < length_field width bytes

-- less than a whole frame, which may still become one: no whole header, or a right length and fewer bytes
abbrev pub IsPartialFront : Width → ℕ → List ℕ → Type 0
IsPartialFront width max bytes = (length bytes < 16) ⊎ IsShortFront width max bytes

-- no frame can be taken from these bytes: less than a whole one is in front, or a bad header
abbrev pub IsLastFront : Width → ℕ → List ℕ → Type 0
IsLastFront width max bytes = IsPartialFront width max bytes ⊎ ((len : ℕ) × IsBadFront width max bytes len)

-- the bytes are the messages' spellings, one after the other, followed by rest
pub record IsCut (width : Width) (max : ℕ) (bytes : List ℕ) (messages : List Message) (rest : List ℕ) : Type 0 where
  pub parts : bytes ≡ flat_map (spelling_of width) messages ++ rest
  pub each : AllByRecursion (IsMessage width max) messages

-- a cut that goes as far as there are frames
pub record IsLongestCut (width : Width) (max : ℕ) (bytes : List ℕ) (messages : List Message)
    (rest : List ℕ) : Type 0 where
  pub cut : IsCut width max bytes messages rest
  pub last : IsLastFront width max rest

-- the messages were added after those before, and with the rest they are a cut of the bytes
abbrev pub AddsCut : Width → ℕ → List Message → List ℕ → List Message → List ℕ → Type 0
AddsCut width max before bytes after rest =
    (added : List Message) × (after ≡ before ++ added) × IsCut width max bytes added rest

-- what is held is less than a whole frame and all was fed, or a bad header is in front
abbrev pub IsStop : Width → ℕ → List ℕ → List ℕ → Type 0
IsStop width max held unfed =
    (IsPartialFront width max held × (unfed ≡ [])) ⊎ ((len : ℕ) × IsBadFront width max held len)
