-- Believed: what a child's run sends and takes, and how it ends.
use Rattle.std.specs.Prelude.{◌≡◌, ◌⊎◌, ℕ, ◌<◌, ◌≤◌, List, [], ◌∷◌, ◌++◌, length, take, Option, Some, None, Result, Ok}
use Rattle.std.specs.Prelude.{Err, IfSome}
use Rattle.imsg_frame.specs.Message.{Message, spelling_of, IsMessage}
use Rattle.imsg_frame.specs.Cut.{IsWholeFront, IsPartialFront, IsBadFront}
use Rattle.outside.specs.Link.{Link, Exchanged}
use Rattle.outside.specs.Told.{Goes}
use Rattle.request_catalogue.specs.Catalogue.{RequestValue}
use Rattle.request_catalogue.specs.Replies.{AnswerValue}
use Rattle.child_protocol.specs.Exchanges.{Exchange}
use Rattle.child_protocol.specs.Says.{Role, exchanges_of, says}
use Rattle.child_protocol.specs.Frames.{frame_width, request_bytes}
use Rattle.child_protocol.specs.Replies.{IsReply}
use Rattle.child_protocol.specs.declared.turn.Turn.{Turn}
use Rattle.child_protocol.specs.declared.run.ChildEnd.{ChildEnd}
use Rattle.child_protocol.specs.declared.run.ChildEnd.TheVariants as ends

-- the frames of the requests that were answered, in order
abbrev pub asked_bytes : List Exchange → List ℕ
asked_bytes [] = []
asked_bytes (e ∷ before) = asked_bytes before ++ request_bytes e.request

-- the frames of these messages, in order; the list has the latest first
abbrev pub reply_bytes : List Message → List ℕ
reply_bytes [] = []
reply_bytes (message ∷ before) = reply_bytes before ++ spelling_of frame_width message

-- each message is the reply to the request at its place, with the answer there
abbrev pub AreReplies : ℕ → List Exchange → List Message → Type 0
AreReplies session [] [] = Unit {0}
AreReplies session [] (message ∷ messages) = ⊥
AreReplies session (e ∷ before) [] = ⊥
AreReplies session (e ∷ before) (message ∷ messages) =
    IsMessage frame_width 16384 message × IsReply session e.request message e.answer
    × AreReplies session before messages

-- a message replies to this request with no answer at all
abbrev pub IsNoReply : ℕ → RequestValue → Message → Type 0
IsNoReply session request message = (answer : AnswerValue) → IsReply session request message answer → ⊥

-- the table of ends: which answers a child had, which bytes it took after their replies, and what it sent
abbrev pub EndsSo : ChildEnd → Role → ℕ → List AnswerValue → List ℕ → List ℕ → Option Link → Type 0
EndsSo ends.Done role session answers rest sent link =
    (says role answers ≡ None) × (sent ≡ asked_bytes (exchanges_of role answers))
EndsSo ends.Spent role session answers rest sent link =
    (length answers ≡ 4097) × (sent ≡ asked_bytes (exchanges_of role answers))
    × ((request : RequestValue) × (says role answers ≡ Some request))
EndsSo ends.LinkEnded role session answers rest sent link =
    (request : RequestValue) × (says role answers ≡ Some request)
    × (sent ≡ asked_bytes (exchanges_of role answers) ++ request_bytes request) × IsPartialFront frame_width 16384
    rest × IfSome link (λ l. l.left ≡ [])
EndsSo ends.Unreadable role session answers rest sent link =
    (request : RequestValue) × (says role answers ≡ Some request)
    × (sent ≡ asked_bytes (exchanges_of role answers) ++ request_bytes request)
    × (((len : ℕ) × IsBadFront frame_width 16384 rest len)
    ⊎ ((message : Message) × IsWholeFront frame_width 16384 rest message × IsNoReply session request message))
EndsSo ends.LinkFault role session answers rest sent link =
    (request : RequestValue) × (says role answers ≡ Some request)
    × ((n : ℕ) × (sent ≡ asked_bytes (exchanges_of role answers) ++ take n (request_bytes request)))

-- a child's run over its link: it took the replies of some answers, at most 4,097, sent the requests that they lead to,
-- and ended so
pub record HasRun (role : Role) (session : ℕ) (end : ChildEnd) (before after : Option Link) : Type 0 where
  pub answers : List AnswerValue
  pub few : length answers ≤ 4097
  pub each_asked : length (exchanges_of role answers) ≡ length answers
  pub messages : List Message
  pub replies : AreReplies session (exchanges_of role answers) messages
  pub rest : List ℕ
  pub sent : List ℕ
  pub passed : Goes (Exchanged (reply_bytes messages ++ rest) sent) before after
  pub ends_so : EndsSo end role session answers rest sent after

-- a run is underway: this request was put, and all before it were sent and answered
pub record IsRunning (role : Role) (session : ℕ) (stands : List AnswerValue → Type 0) (count len : ℕ)
    (out held : List ℕ) (before after : Option Link) : Type 0 where
  pub answers : List AnswerValue
  pub stands_for : stands answers
  pub counted : length answers ≡ count
  pub each_asked : length (exchanges_of role answers) ≡ length answers
  pub request : RequestValue
  pub asked : says role answers ≡ Some request
  pub within : len ≤ length out
  pub put : take len out ≡ request_bytes request
  pub messages : List Message
  pub replies : AreReplies session (exchanges_of role answers) messages
  pub passed : Goes (Exchanged (reply_bytes messages ++ held) (asked_bytes (exchanges_of role answers))) before after

-- what came of waiting for a frame: with these bytes held and received, one was taken; or the end comes
abbrev pub Hears : Result Turn ChildEnd → (Message → Turn → Type 0) → List ℕ → List ℕ → Option Link → Type 0
Hears (Ok turn) Took bytes held link =
    (message : Message) × IsMessage frame_width 16384 message × (bytes ≡ spelling_of frame_width message ++ held)
    × Took message turn
Hears (Err ends.LinkEnded) Took bytes held link =
    IsPartialFront frame_width 16384 bytes × IfSome link (λ l. l.left ≡ [])
Hears (Err ends.Unreadable) Took bytes held link = (len : ℕ) × IsBadFront frame_width 16384 bytes len
Hears (Err ends.LinkFault) Took bytes held link = Unit {0}
Hears (Err _) Took bytes held link = ⊥

-- some bytes were received
pub record Receives (bytes held : List ℕ) (before after : Option Link) : Type 0 where
  pub more : List ℕ
  pub held_is : held ≡ bytes ++ more
  pub passed : Goes (Exchanged more []) before after

-- what came of receiving: some bytes, or the end comes
abbrev pub Brings : Option ChildEnd → List ℕ → List ℕ → Option Link → Type 0
Brings None bytes held link = length bytes < length held
Brings (Some ends.LinkEnded) bytes held link = IfSome link (λ l. l.left ≡ [])
Brings (Some ends.LinkFault) bytes held link = Unit {0}
Brings (Some _) bytes held link = ⊥
