-- What the reader's answers say of a session's bytes, and that each turn leaves less to do.
use Rattle.std.proofs.Common.{◌≡◌, ℕ, ◌+◌, ◌<◌, ◌≤◌, List, ◌++◌, Option, refl, sym, ap, subst, ◌∙◌, arith}
use Rattle.imsg_frame.specs.Answer.{AfterNext, HasLenOf, IsAnswer, IsFrameOf, given_as, rested}
use Rattle.imsg_frame.specs.Cut.{IsBadFront, IsPartialFront}
use Rattle.imsg_frame.specs.declared.header.Header.{Header}
use Rattle.imsg_frame.specs.declared.reader.Next.{Next}
use Rattle.imsg_frame.specs.declared.reader.Next.TheVariants as next
use Rattle.imsg_frame.specs.Held.{Held}
use Rattle.imsg_frame.specs.Message.{IsMessage, spelling_of}
use Rattle.outside.specs.Link.{Link}
use Rattle.policy_model.specs.declared.event.Event.{Event}
use Rattle.policy_model.specs.Journal.{ask_count}
use Rattle.policy_model.specs.Settings.{Settings}
use Rattle.request_catalogue.specs.declared.width.Width.{Width}
use Rattle.request_catalogue.specs.declared.width.Width.TheVariants as widths
use Rattle.request_catalogue.specs.Widths.{frame_max}
use Rattle.session_asking.specs.declared.asking.Turn.{Turn}
use Rattle.session_asking.specs.declared.asking.Turn.TheVariants as turns
use Rattle.session_asking.specs.declared.live.LoggedIn.{LoggedIn}
use Rattle.session_asking.specs.Known.{IsServed, IsStillOpen}
use Rattle.session_asking.specs.Serving.{Leaves}
use Rattle.session_turns.specs.Joins.{KeepsRights, Rights}
use Rattle.session_loop.specs.Child.{Advances, EndsWithin, IsForSessions, IsStillReading, Receives, SpendsOn}

-- the message of a frame that was given stood in front, and what follows it is held
pub front_right : (width : Width) (reader : Held) (given : List ℕ) (answer : Next) (header : Header) → answer ≡ next.Frame header → IsForSessions width reader → IsAnswer reader.width reader.max reader.bytes given answer → IsMessage width (frame_max width) (given_as header given)
front_right width reader given answer header is frames tells =
    let message = given_as header given in
    let in_front : IsFrameOf message given answer = subst (IsFrameOf message given) (sym is) refl in
    subst (λ x. IsMessage x (frame_max width) message) frames.right (subst (λ m. IsMessage reader.width m message) frames.max ((tells.frame message).0 in_front).right)

pub front_taken : (width : Width) (old new : Held) (answer : Next) (header : Header) → answer ≡ next.Frame header → IsForSessions width old → AfterNext old answer new → old.bytes ≡ spelling_of width (given_as header new.given) ++ new.bytes
front_taken width old new answer header is frames after =
    let taken : AfterNext old (next.Frame header) new = subst (λ a. AfterNext old a new) is after in
    taken.bytes ∙ ap (λ x. spelling_of x (given_as header new.given) ++ new.bytes) frames.right

pub frame_len : (answer : Next) (header : Header) (len : ℕ) → answer ≡ next.Frame header → HasLenOf answer len → (16 ≤ header.len) × (header.len ≡ len)
frame_len answer header len is has = subst (λ a. HasLenOf a len) is has

-- the reader is still for sessions
pub frames_kept : (width : Width) (old new : Held) (answer : Next) → AfterNext old answer new → IsForSessions width old → IsForSessions width new
frames_kept width old new (next.Frame header) after frames = record { right = after.width ∙ frames.right; max = after.max ∙ frames.max }
frames_kept width old new next.NotYet after frames = record { right = ap (λ r. r.width) after ∙ frames.right; max = ap (λ r. r.max) after ∙ frames.max }
frames_kept width old new (next.Bad len) after frames = record { right = ap (λ r. r.width) after ∙ frames.right; max = ap (λ r. r.max) after ∙ frames.max }

pub nothing_taken : (old new : Held) (answer : Next) → answer ≡ next.NotYet → AfterNext old answer new → new ≡ rested old
nothing_taken old new answer is after = subst (λ a. AfterNext old a new) is after

pub bad_front : (width : Width) (reader : Held) (given : List ℕ) (len : ℕ) (answer : Next) → answer ≡ next.Bad len → IsForSessions width reader → IsAnswer reader.width reader.max reader.bytes given answer → IsBadFront width (frame_max width) reader.bytes len
bad_front width reader given len answer is frames tells =
    subst (λ x. IsBadFront x (frame_max width) reader.bytes len) frames.right (subst (λ m. IsBadFront reader.width m reader.bytes len) frames.max ((tells.bad len).0 is))

-- less than a frame stands in front
pub partial_front : (width : Width) (reader same : Held) (given : List ℕ) (answer : Next) → answer ≡ next.NotYet → same ≡ rested reader → IsForSessions width reader → IsAnswer reader.width reader.max reader.bytes given answer → IsPartialFront same.width (frame_max same.width) same.bytes
partial_front width reader same given answer is kept frames tells =
    subst (λ r. IsPartialFront r.width (frame_max r.width) r.bytes) (sym kept)
    (subst (λ x. IsPartialFront reader.width (frame_max x) reader.bytes) (sym frames.right) (subst (λ m. IsPartialFront reader.width m reader.bytes) frames.max (tells.not_yet.0 is)))

-- with each message there is one ask less to come, and with each receiving less room in the reader
max_small : (width : Width) → frame_max width ≤ 65536
max_small widths.Narrow = omega arith
max_small widths.Wide = omega arith

message_less : (requests max asks_old asks_new held_old held_new : ℕ) → max ≤ 65536 → asks_new ≡ asks_old + 1 → asks_new ≤ requests → Advances requests max asks_old asks_new held_old held_new
message_less requests max asks_old asks_new held_old held_new small made below = record { less = omega arith }

received_less : (requests max asks held_old held_new : ℕ) → asks ≤ requests → held_old < held_new → held_new ≤ max → Advances requests max asks asks held_old held_new
received_less requests max asks held_old held_new below more within = record { less = omega arith }

pub message_advances : (setup : Settings) (session : ℕ) (turn : Turn) (rights_old rights_new : Rights) (old new : List Event) (user : Option LoggedIn) (held_old held_new : ℕ) → Leaves setup session turn rights_old old rights_new new user → turn ≡ turns.GoesOn → Advances setup.requests (frame_max setup.frames) (ask_count old session) (ask_count new session) held_old held_new
message_advances setup session turns.GoesOn rights_old rights_new old new user held_old held_new leaves is = message_less setup.requests (frame_max setup.frames) (ask_count old session) (ask_count new session) held_old held_new (max_small setup.frames) leaves.asks leaves.served.serving.below
message_advances setup session (turns.Ends why) rights_old rights_new old new user held_old held_new leaves is = absurd cc
message_advances setup session (turns.HandsOver e) rights_old rights_new old new user held_old held_new leaves is = absurd cc

pub received_advances : (requests max asks : ℕ) (turn : Turn) (held_old held_new : ℕ) → asks ≤ requests → IsStillReading turn held_old held_new max → turn ≡ turns.GoesOn → Advances requests max asks asks held_old held_new
received_advances requests max asks turns.GoesOn held_old held_new below reads is = received_less requests max asks held_old held_new below reads.0 reads.1
received_advances requests max asks (turns.Ends why) held_old held_new below reads is = absurd cc
received_advances requests max asks (turns.HandsOver e) held_old held_new below reads is = absurd cc

-- what is left to a worker after a message
pub message_spends : (setup : Settings) (session : ℕ) (turn : Turn) (rights_old rights_new : Rights) (old new : List Event) (before user : Option LoggedIn) → IsServed setup rights_old old session before → Leaves setup session turn rights_old old rights_new new user → KeepsRights 1 rights_old rights_new → SpendsOn setup session turn rights_old old rights_new new user
message_spends setup session turns.GoesOn rights_old rights_new old new before user served leaves rights =
    let asks = leaves.asks in
    let made = rights.made in
    (leaves.served, record { worker = rights.worker; made = omega (arith, asks, made) })
message_spends setup session (turns.Ends why) rights_old rights_new old new before user served leaves rights =
    let made = rights.made in
    let below = served.serving.below in
    (leaves, record { worker = rights.worker; left = omega (arith, made, below) })
message_spends setup session (turns.HandsOver e) rights_old rights_new old new before user served leaves rights =
    let asks = leaves.asks in
    let made = rights.made in
    (leaves.served, record { worker = rights.worker; made = omega (arith, asks, made) })

-- a session whose end may be asked for
pub still_open : (setup : Settings) (session : ℕ) (rights : Rights) (seen : List Event) (user : Option LoggedIn) → IsServed setup rights seen session user → IsStillOpen setup rights seen session × EndsWithin setup session rights seen rights
still_open setup session rights seen user served =
    let left = served.left in
    let below = served.serving.below in
    (record { run = served.serving.run; opened = served.serving.opened; left = omega (arith, left, below) }, record { worker = refl; left = omega (arith, below) })

-- what is left after bytes that were received
pub received_spends : (width : Width) (setup : Settings) (session : ℕ) (turn : Turn) (rights : Rights) (seen : List Event) (user : Option LoggedIn) (held_old held_new : List ℕ) (k l : Option Link) → Receives width turn held_old held_new k l → IsServed setup rights seen session user → SpendsOn setup session turn rights seen rights seen user
received_spends width setup session turns.GoesOn rights seen user held_old held_new k l received served = (served, record { worker = refl; made = refl })
received_spends width setup session (turns.Ends why) rights seen user held_old held_new k l received served = still_open setup session rights seen user served
received_spends width setup session (turns.HandsOver e) rights seen user held_old held_new k l received served = absurd received

-- receiving hands nothing over
pub received_once : (width : Width) (turn : Turn) (e : Event) (held_old held_new : List ℕ) (k l : Option Link) → Receives width turn held_old held_new k l → turn ≡ turns.HandsOver e → ⊥
received_once width turn e held_old held_new k l received is = subst (λ t. Receives width t held_old held_new k l) is received
