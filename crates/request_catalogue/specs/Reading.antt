-- Believed: the table of requests, and what is wrong with any other message.
use Rattle.std.specs.Prelude.{◌≡◌, ◌≢◌, ℕ, ◌+◌, ◌%◌, List, [], ◌∷◌, length, drop, Option, Some, None, Result, Err}
use Rattle.std.specs.Prelude.{ok_or, if◌then◌else◌, nat_le, ◌==◌, ◌&&◌}
use Rattle.std.specs.Bool.{then_some}
use Rattle.std.specs.Int.{w16, w32, w64}
use Rattle.request_catalogue.specs.declared.rules.TheConstants.{BAD_PAYLOAD, DESCRIPTOR_FLAG, OTHER_FLAGS, UNKNOWN_KIND}
use Rattle.request_catalogue.specs.declared.width.Width.{Width}
use Rattle.request_catalogue.specs.declared.kind.Kind.{Kind}
use Rattle.request_catalogue.specs.declared.kind.Kind.TheVariants as kinds
use Rattle.request_catalogue.specs.declared.request.Bad.{Bad}
use Rattle.request_catalogue.specs.Texts.{is_name, is_label, is_note, is_typed_reply}
use Rattle.request_catalogue.specs.Widths.{transfer_max}
use Rattle.request_catalogue.specs.Fields.{number_at}
use Rattle.request_catalogue.specs.Kinds.{kind_number, kind_numbered}
use Rattle.request_catalogue.specs.Catalogue.{RequestValue, Banner, Challenge, Reply, Abandon, Export, Import, ReadAt}
use Rattle.request_catalogue.specs.Catalogue.{WriteAt, OpenFile, CloseFile, Info, Note, Finish, kind_of, IsInRange}
use Rattle.request_catalogue.specs.Catalogue.{payload_of}

-- the table of requests: what a payload asks in a message of each kind, if it is a right one
unfoldable pub asked_by : Width → Kind → List ℕ → Option RequestValue
asked_by width kinds.Banner payload = then_some (length payload == 0) Banner
asked_by width kinds.Challenge payload = then_some (is_name payload) (Challenge payload)
asked_by width kinds.Reply payload = then_some (is_typed_reply payload) (Reply payload)
asked_by width kinds.Abandon payload = then_some (length payload == 0) Abandon
asked_by width kinds.Export payload = then_some (nat_le (length payload) 8192) (Export payload)
asked_by width kinds.Import payload = then_some (length payload == 0) Import
asked_by width kinds.ReadAt payload =
    then_some (length payload == 14 && nat_le 1 (number_at w16 12 payload) && nat_le (number_at w16 12 payload)
    (transfer_max width)) (ReadAt (number_at w32 0 payload) (number_at w64 4 payload) (number_at w16 12 payload))
asked_by width kinds.WriteAt payload =
    then_some (nat_le 13 (length payload) && nat_le (length payload) (transfer_max width + 12))
    (WriteAt (number_at w32 0 payload) (number_at w64 4 payload) (drop 12 payload))
asked_by width kinds.OpenFile [] = None
asked_by width kinds.OpenFile (mode ∷ name) =
    then_some (nat_le 1 mode && nat_le mode 3 && is_label name) (OpenFile mode name)
asked_by width kinds.CloseFile payload = then_some (length payload == 4) (CloseFile (number_at w32 0 payload))
asked_by width kinds.Info payload = then_some (length payload == 4) (Info (number_at w32 0 payload))
asked_by width kinds.Note payload = then_some (is_note payload) (Note payload)
asked_by width kinds.Finish payload = then_some (length payload == 0) Finish

-- what a message without flags asks; rule 4 for an unknown kind, rule 5 for a bad payload
abbrev pub asked : Width → ℕ → List ℕ → Option Kind → Result RequestValue Bad
asked width kind body None = Err (record { rule = UNKNOWN_KIND; detail = kind })
asked width kind body (Some k) = ok_or (asked_by width k body) (record { rule = BAD_PAYLOAD; detail = kind })

-- the request that a message is, or the first of rules 2 to 5 that it breaks, with its detail
unfoldable pub request_of : Width → ℕ → ℕ → List ℕ → Result RequestValue Bad
request_of width kind flags body =
    if flags % 2 == 1 then Err (record { rule = DESCRIPTOR_FLAG; detail = flags })
    else (if flags == 0 then asked width kind body (kind_numbered kind)
    else Err (record { rule = OTHER_FLAGS; detail = flags }))

-- why a message is no request: the first of four rules that it breaks, and its detail
pub data IsFault (width : Width) (kind flags : ℕ) (body : List ℕ) : Bad → Type 0 where
  HasDescriptor : flags % 2 ≡ 1 → IsFault width kind flags body (record { rule = DESCRIPTOR_FLAG; detail = flags })
  HasOtherFlags : flags % 2 ≡ 0 → flags ≢ 0
      → IsFault width kind flags body (record { rule = OTHER_FLAGS; detail = flags })
  HasUnknownKind : flags ≡ 0 → ((k : Kind) → kind_number k ≢ kind)
      → IsFault width kind flags body (record { rule = UNKNOWN_KIND; detail = kind })
  HasBadPayload : flags ≡ 0 → (k : Kind) → kind_number k ≡ kind → ((value : RequestValue) → kind_of value ≡ k
      → IsInRange width value → body ≢ payload_of value)
      → IsFault width kind flags body (record { rule = BAD_PAYLOAD; detail = kind })
