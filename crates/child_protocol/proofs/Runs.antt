-- The run of a child over its link.
use Rattle.std.proofs.Common.{◌≡◌, inl, inr, ℕ, suc, ◌+◌, ◌≤◌, List, [], ◌∷◌, ◌++◌, length, take, drop, append_assoc, append-nil, length-append, refl, sym, ap, subst, ◌∙◌, arith, Option, Some, None, Ok, Err}
use Rattle.std.proofs.Math.Seq.{take-append_seam}
use Rattle.imsg_frame.specs.Message.{Message, IsMessage, spelling_of}
use Rattle.imsg_frame.specs.Cut.{IsPartialFront, IsBadFront}
use Rattle.imsg_frame.specs.Held.{Held}
use Rattle.imsg_frame.specs.Answer.{AfterNext, HasLenOf, IsAnswer, IsFrameOf, given_as, rested}
use Rattle.imsg_frame.specs.declared.header.Header.{Header}
use Rattle.imsg_frame.specs.declared.reader.Next.{Next}
use Rattle.imsg_frame.specs.declared.reader.Next.TheVariants as next
use Rattle.outside.specs.Link.{Exchanged, Link, SendsPart}
use Rattle.outside.specs.Told.{Goes, Rose, next_count}
use Rattle.outside.proofs.Exchanges.{Exchanges-none, Exchanges-then}
use Rattle.request_catalogue.specs.Catalogue.{RequestValue}
use Rattle.request_catalogue.specs.Replies.{AnswerValue}
use Rattle.child_protocol.specs.Exchanges.{Exchange}
use Rattle.child_protocol.specs.Says.{Role, joined, exchanges_of, says}
use Rattle.request_catalogue.specs.declared.width.Width.{Width}
use Rattle.child_protocol.specs.Frames.{IsPut, IsTurn, frame_width, request_bytes}
use Rattle.child_protocol.specs.Cores.{HasBegun, IsTaken, IsRefused, TakesMessage}
use Rattle.child_protocol.specs.Runs.{asked_bytes, reply_bytes, AreReplies, IsNoReply, HasRun, IsRunning, Hears, Receives, Brings}
use Rattle.child_protocol.specs.declared.turn.Turn.{Turn}
use Rattle.child_protocol.specs.declared.turn.Turn.TheVariants as turns
use Rattle.child_protocol.specs.declared.run.ChildEnd.{ChildEnd}
use Rattle.child_protocol.specs.declared.run.ChildEnd.TheVariants as ends
use Rattle.child_protocol.proofs.Replies.{exchanges_of-push}

-- what stands in front of a reader
pub front_right : (width : Width) (max : ℕ) (bytes given : List ℕ) (answer : Next) (header : Header) → answer ≡ next.Frame header → width ≡ frame_width → max ≡ 16384 → IsAnswer width max bytes given answer → IsMessage frame_width 16384 (given_as header given)
front_right width max bytes given answer header is narrow limit tells =
    let message = given_as header given in
    let in_front : IsFrameOf message given answer = subst (IsFrameOf message given) (sym is) refl in
    subst (λ w. IsMessage w 16384 message) narrow (subst (λ m. IsMessage width m message) limit ((tells.frame message).0 in_front).right)

pub front_taken : (old new : Held) (answer : Next) (header : Header) → answer ≡ next.Frame header → old.width ≡ frame_width → AfterNext old answer new → old.bytes ≡ spelling_of frame_width (given_as header new.given) ++ new.bytes
front_taken old new answer header is narrow after =
    let taken : AfterNext old (next.Frame header) new = subst (λ a. AfterNext old a new) is after in
    subst (λ w. old.bytes ≡ spelling_of w (given_as header new.given) ++ new.bytes) narrow taken.bytes

pub frame_len : (answer : Next) (header : Header) (len : ℕ) → answer ≡ next.Frame header → HasLenOf answer len → (16 ≤ header.len) × (header.len ≡ len)
frame_len answer header len is has = subst (λ a. HasLenOf a len) is has

pub nothing_taken : (old new : Held) (answer : Next) → answer ≡ next.NotYet → AfterNext old answer new → new ≡ rested old
nothing_taken old new answer is after = subst (λ a. AfterNext old a new) is after

pub bad_front : (width : Width) (max len : ℕ) (bytes given : List ℕ) (answer : Next) → answer ≡ next.Bad len → width ≡ frame_width → max ≡ 16384 → IsAnswer width max bytes given answer → IsBadFront frame_width 16384 bytes len
bad_front width max len bytes given answer is narrow limit tells = subst (λ w. IsBadFront w 16384 bytes len) narrow (subst (λ m. IsBadFront width m bytes len) limit ((tells.bad len).0 is))

pub partial_front : (width : Width) (max : ℕ) (bytes given : List ℕ) (answer : Next) → answer ≡ next.NotYet → width ≡ frame_width → max ≡ 16384 → IsAnswer width max bytes given answer → IsPartialFront frame_width 16384 bytes
partial_front width max bytes given answer is narrow limit tells = subst (λ w. IsPartialFront w 16384 bytes) narrow (subst (λ m. IsPartialFront width m bytes) limit (tells.not_yet.0 is))

-- a count that went up by one rose
pub counted : (before after : ℕ) → after ≡ next_count before → Rose before after
counted before after is = record { rose = omega (arith, is) }

-- a count that rose in between rose
pub Rose-within : (a b c d : ℕ) → a ≤ b → Rose b c → c ≤ d → Rose a d
Rose-within a b c d low rose high = record { rose = omega (arith, low, rose.rose, high) }

pub Receives-none : (bytes : List ℕ) (l : Option Link) → Receives bytes bytes l l
Receives-none bytes l = record { more = []; held_is = sym (append-nil bytes); passed = Exchanges-none l }

pub Receives-then : (a b c : List ℕ) (l m n : Option Link) → Receives a b l m → Receives b c m n → Receives a c l n
Receives-then a b c l m n first second = record {
  more = first.more ++ second.more;
  held_is = second.held_is ∙ ap (λ (x : List ℕ). x ++ second.more) first.held_is ∙ append_assoc a first.more second.more;
  passed = Exchanges-then first.more [] second.more [] l m n first.passed second.passed;
}

put_front : (request : RequestValue) (len : ℕ) (old new : List ℕ) → IsPut request len old new → (len ≤ length new) × (take len new ≡ request_bytes request)
put_front request len old new put =
    let whole : length new ≡ length (request_bytes request) + length (drop len old) = ap length put.out ∙ length-append (request_bytes request) (drop len old) in
    let front : take len new ≡ request_bytes request = rw (put.out, put.len_is) (take-append_seam (request_bytes request) (drop (length (request_bytes request)) old)) in
    (omega (arith, whole, put.len_is), front)

-- a run begins
pub begun : (role : Role) (session : ℕ) (stands : List AnswerValue → Type 0) (len : ℕ) (old new held : List ℕ) (l : Option Link) → held ≡ [] → stands [] → HasBegun role len old new → IsRunning role session stands 0 len new held l l
unfolding exchanges_of
begun role session stands len old new held l empty at has =
    let front = put_front has.request len old new has.put in
    let P : List ℕ → Type 0 = λ h. Goes (Exchanged h []) l l in
    record {
      answers = [];
      stands_for = at;
      counted = refl;
      each_asked = refl;
      request = has.request;
      asked = has.asked;
      within = front.0;
      put = front.1;
      messages = [];
      replies = tt;
      passed = subst P (sym empty) (Exchanges-none l);
    }

-- a request was sent, and these bytes stand after the replies before
pub record Waits (role : Role) (session : ℕ) (stands : List AnswerValue → Type 0) (count : ℕ) (bytes : List ℕ) (before after : Option Link) : Type 0 where
  pub answers : List AnswerValue
  pub stands_for : stands answers
  pub counted : length answers ≡ count
  pub each_asked : length (exchanges_of role answers) ≡ length answers
  pub request : RequestValue
  pub asked : says role answers ≡ Some request
  pub messages : List Message
  pub replies : AreReplies session (exchanges_of role answers) messages
  pub passed : Goes (Exchanged (reply_bytes messages ++ bytes) (asked_bytes (exchanges_of role answers) ++ request_bytes request)) before after

pub waits : (role : Role) (session : ℕ) (stands : List AnswerValue → Type 0) (count len : ℕ) (out held bytes : List ℕ) (k l m n : Option Link) → IsRunning role session stands count len out held k l
    → Goes (Exchanged [] (take len out)) l m → Receives held bytes m n → Waits role session stands count bytes k n
waits role session stands count len out held bytes k l m n run sent received =
    let asked : List ℕ = asked_bytes (exchanges_of role run.answers) in
    let front : List ℕ = reply_bytes run.messages in
    let P : List ℕ → Type 0 = λ g. Goes (Exchanged [] g) l m in
    let all : Goes (Exchanged (((front ++ held) ++ []) ++ received.more) ((asked ++ request_bytes run.request) ++ [])) k n =
    Exchanges-then ((front ++ held) ++ []) (asked ++ request_bytes run.request) received.more [] k m n (Exchanges-then (front ++ held) asked [] (request_bytes run.request) k l m run.passed (subst P run.put sent)) received.passed in
    let taken : ((front ++ held) ++ []) ++ received.more ≡ front ++ bytes =
    ap (λ (x : List ℕ). x ++ received.more) (append-nil (front ++ held)) ∙ append_assoc front held received.more ∙ ap (λ (x : List ℕ). front ++ x) (sym received.held_is) in
    let Q : List ℕ → Type 0 = λ r. Goes (Exchanged r (asked ++ request_bytes run.request)) k n in
    let R : List ℕ → Type 0 = λ g. Goes (Exchanged (((front ++ held) ++ []) ++ received.more) g) k n in
    record {
      answers = run.answers;
      stands_for = run.stands_for;
      counted = run.counted;
      each_asked = run.each_asked;
      request = run.request;
      asked = run.asked;
      messages = run.messages;
      replies = run.replies;
      passed = subst Q taken (subst R (append-nil (asked ++ request_bytes run.request)) all);
    }

-- the request's sending failed
pub fault_sending : (role : Role) (session : ℕ) (stands : List AnswerValue → Type 0) (count len : ℕ) (out held : List ℕ) (k l m : Option Link) → IsRunning role session stands count len out held k l
    → count ≤ 4097 → SendsPart (take len out) l m → HasRun role session ends.LinkFault k m
fault_sending role session stands count len out held k l m run few part =
    let asked : List ℕ = asked_bytes (exchanges_of role run.answers) in
    let front : List ℕ = reply_bytes run.messages in
    let P : List ℕ → Type 0 = λ b. Goes (Exchanged [] (take part.0 b)) l m in
    let Q : List ℕ → Type 0 = λ r. Goes (Exchanged r (asked ++ take part.0 (request_bytes run.request))) k m in
    record {
      answers = run.answers;
      few = omega (arith, run.counted, few);
      each_asked = run.each_asked;
      messages = run.messages;
      replies = run.replies;
      rest = held;
      sent = asked ++ take part.0 (request_bytes run.request);
      passed = subst Q (append-nil (front ++ held)) (Exchanges-then (front ++ held) asked [] (take part.0 (request_bytes run.request)) k l m run.passed (subst P run.put part.1));
      ends_so = (run.request, run.asked, (part.0, refl));
    }

-- so many were sent and answered
pub spent : (role : Role) (session : ℕ) (stands : List AnswerValue → Type 0) (count len : ℕ) (out held : List ℕ) (k l : Option Link) → IsRunning role session stands count len out held k l → count ≡ 4097 → HasRun role session ends.Spent k l
spent role session stands count len out held k l run all = record {
  answers = run.answers;
  few = omega (arith, run.counted, all);
  each_asked = run.each_asked;
  messages = run.messages;
  replies = run.replies;
  rest = held;
  sent = asked_bytes (exchanges_of role run.answers);
  passed = run.passed;
  ends_so = (run.counted ∙ all, refl, (run.request, run.asked));
}

take-all : (bytes : List ℕ) → take (length bytes) bytes ≡ bytes
take-all [] = refl
take-all (b ∷ bytes) = ap (λ (x : List ℕ). b ∷ x) (take-all bytes)

-- the end came while a frame was waited for
pub ended_waiting : (role : Role) (session : ℕ) (stands : List AnswerValue → Type 0) (count : ℕ) (bytes held : List ℕ) (k l : Option Link) (end : ChildEnd) (Took : Message → Turn → Type 0) → Waits role session stands count bytes k l
    → count ≤ 4097 → Hears (Err end) Took bytes held l → HasRun role session end k l
ended_waiting role session stands count bytes held k l ends.Done Took w few hears = absurd hears
ended_waiting role session stands count bytes held k l ends.Spent Took w few hears = absurd hears
ended_waiting role session stands count bytes held k l ends.LinkEnded Took w few hears = record {
  answers = w.answers;
  few = omega (arith, w.counted, few);
  each_asked = w.each_asked;
  messages = w.messages;
  replies = w.replies;
  rest = bytes;
  sent = asked_bytes (exchanges_of role w.answers) ++ request_bytes w.request;
  passed = w.passed;
  ends_so = (w.request, w.asked, refl, hears.0, hears.1);
}
ended_waiting role session stands count bytes held k l ends.Unreadable Took w few hears = record {
  answers = w.answers;
  few = omega (arith, w.counted, few);
  each_asked = w.each_asked;
  messages = w.messages;
  replies = w.replies;
  rest = bytes;
  sent = asked_bytes (exchanges_of role w.answers) ++ request_bytes w.request;
  passed = w.passed;
  ends_so = (w.request, w.asked, refl, inl hears);
}
ended_waiting role session stands count bytes held k l ends.LinkFault Took w few hears = record {
  answers = w.answers;
  few = omega (arith, w.counted, few);
  each_asked = w.each_asked;
  messages = w.messages;
  replies = w.replies;
  rest = bytes;
  sent = asked_bytes (exchanges_of role w.answers) ++ request_bytes w.request;
  passed = w.passed;
  ends_so = (w.request, w.asked, (length (request_bytes w.request), ap (λ (x : List ℕ). asked_bytes (exchanges_of role w.answers) ++ x) (sym (take-all (request_bytes w.request)))));
}

-- of any answers that the child stood for, it took the message
abbrev pub TookBy : Role → ℕ → (List AnswerValue → Type 0) → (List AnswerValue → Type 0) → List ℕ → List ℕ → Message → Turn → Type 0
TookBy role session before after old new message turn = (answers : List AnswerValue) → before answers → TakesMessage role session answers message after turn old new

-- the exchange of what was asked with its answer
one_more : (role : Role) (answers : List AnswerValue) (request : RequestValue) (answer : AnswerValue) → says role answers ≡ Some request → exchanges_of role (answers ++ answer ∷ []) ≡ record { request = request; answer = answer } ∷ exchanges_of role answers
unfolding says
one_more role answers request answer asked = exchanges_of-push role answers answer ∙ ap (λ (o : Option RequestValue). joined o (exchanges_of role answers) answer) asked

-- a reply was taken: what was passed, with one exchange more
record Passed (role : Role) (session : ℕ) (stands : List AnswerValue → Type 0) (count : ℕ) (turn : Turn) (held old new : List ℕ) (before after : Option Link) : Type 0 where
  answers : List AnswerValue
  stands_for : stands answers
  counted : length answers ≡ suc count
  each_asked : length (exchanges_of role answers) ≡ length answers
  messages : List Message
  replies : AreReplies session (exchanges_of role answers) messages
  passed : Goes (Exchanged (reply_bytes messages ++ held) (asked_bytes (exchanges_of role answers))) before after
  asks : IsTurn (says role answers) turn old new

taken_one : (role : Role) (session : ℕ) (before after : List AnswerValue → Type 0) (count : ℕ) (turn : Turn) (message : Message) (bytes held old new : List ℕ) (k l : Option Link) (w : Waits role session before count bytes k l)
    → IsMessage frame_width 16384 message → bytes ≡ spelling_of frame_width message ++ held → IsTaken role session w.answers message after turn old new → Passed role session after count turn held old new k l
taken_one role session before after count turn message bytes held old new k l w right is taken =
    let same : taken.request ≡ w.request = (let both : Some taken.request ≡ Some w.request = sym taken.asked ∙ w.asked in cc) in
    let e : Exchange = record { request = taken.request; answer = taken.answer } in
    let h : List Exchange = exchanges_of role w.answers in
    let more : exchanges_of role (w.answers ++ taken.answer ∷ []) ≡ e ∷ h = one_more role w.answers taken.request taken.answer taken.asked in
    let len : length (w.answers ++ taken.answer ∷ []) ≡ length w.answers + 1 = length-append w.answers (taken.answer ∷ []) in
    let front : List ℕ = reply_bytes w.messages in
    let bytes_are : front ++ bytes ≡ (front ++ spelling_of frame_width message) ++ held = ap (λ (x : List ℕ). front ++ x) is ∙ sym (append_assoc front (spelling_of frame_width message) held) in
    let P : List Exchange → Type 0 = λ x. AreReplies session x (message ∷ w.messages) in
    let Q : List ℕ → Type 0 = λ r. Goes (Exchanged r (asked_bytes h ++ request_bytes w.request)) k l in
    let R : RequestValue → Type 0 = λ q. Goes (Exchanged ((front ++ spelling_of frame_width message) ++ held) (asked_bytes h ++ request_bytes q)) k l in
    let S : List Exchange → Type 0 = λ x. Goes (Exchanged ((front ++ spelling_of frame_width message) ++ held) (asked_bytes x)) k l in
    let each : length (e ∷ h) ≡ length w.answers + 1 = omega (arith, w.each_asked) in
    record {
      answers = w.answers ++ taken.answer ∷ [];
      stands_for = taken.stands_for;
      counted = omega (arith, len, w.counted);
      each_asked = ap length more ∙ each ∙ sym len;
      messages = message ∷ w.messages;
      replies = subst P (sym more) (right, taken.reply, w.replies);
      passed = subst S (sym more) (subst R (sym same) (subst Q bytes_are w.passed));
      asks = taken.asks;
    }

asks_some : (o : Option RequestValue) (len : ℕ) (old new : List ℕ) → IsTurn o (turns.Asked len) old new → (request : RequestValue) × (o ≡ Some request) × IsPut request len old new
asks_some None len old new is = absurd is
asks_some (Some request) len old new is = (request, refl, is)

asks_none : (o : Option RequestValue) (old new : List ℕ) → IsTurn o turns.Ended old new → o ≡ None
asks_none None old new is = refl
asks_none (Some request) old new is = absurd is

-- the next request was put
pub goes_on : (role role' : Role) (session session' : ℕ) (before after : List AnswerValue → Type 0) (count len : ℕ) (bytes held old new : List ℕ) (k l : Option Link) → Waits role session before count bytes k l → role' ≡ role → session' ≡ session
    → Hears (Ok (turns.Asked len)) (TookBy role' session' before after old new) bytes held l → IsRunning role session after (count + 1) len new held k l
goes_on role role' session session' before after count len bytes held old new k l w same_role same_session hears =
    let P : Role → Type 0 = λ r. IsTaken r session' w.answers hears.0 after (turns.Asked len) old new in
    let Q : ℕ → Type 0 = λ s. IsTaken role s w.answers hears.0 after (turns.Asked len) old new in
    let taken = subst Q same_session (subst P same_role (hears.3 w.answers w.stands_for)) in
    let passed = taken_one role session before after count (turns.Asked len) hears.0 bytes held old new k l w hears.1 hears.2 taken in
    let some = asks_some (says role passed.answers) len old new passed.asks in
    let front = put_front some.0 len old new some.2 in
    record {
      answers = passed.answers;
      stands_for = passed.stands_for;
      counted = omega (arith, passed.counted);
      each_asked = passed.each_asked;
      request = some.0;
      asked = some.1;
      within = front.0;
      put = front.1;
      messages = passed.messages;
      replies = passed.replies;
      passed = passed.passed;
    }

-- the dialogue is over
pub done : (role role' : Role) (session session' : ℕ) (before after : List AnswerValue → Type 0) (count : ℕ) (bytes held old new : List ℕ) (k l : Option Link) → Waits role session before count bytes k l → role' ≡ role → session' ≡ session → suc count ≤ 4097
    → Hears (Ok turns.Ended) (TookBy role' session' before after old new) bytes held l → HasRun role session ends.Done k l
done role role' session session' before after count bytes held old new k l w same_role same_session few hears =
    let P : Role → Type 0 = λ r. IsTaken r session' w.answers hears.0 after turns.Ended old new in
    let Q : ℕ → Type 0 = λ s. IsTaken role s w.answers hears.0 after turns.Ended old new in
    let taken = subst Q same_session (subst P same_role (hears.3 w.answers w.stands_for)) in
    let passed = taken_one role session before after count turns.Ended hears.0 bytes held old new k l w hears.1 hears.2 taken in
    record {
      answers = passed.answers;
      few = omega (arith, passed.counted, few);
      each_asked = passed.each_asked;
      messages = passed.messages;
      replies = passed.replies;
      rest = held;
      sent = asked_bytes (exchanges_of role passed.answers);
      passed = passed.passed;
      ends_so = (asks_none (says role passed.answers) old new passed.asks, refl);
    }

-- a frame came that is no reply
pub unreadable : (role role' : Role) (session session' : ℕ) (before after : List AnswerValue → Type 0) (count : ℕ) (bytes held old new : List ℕ) (k l : Option Link) → Waits role session before count bytes k l → role' ≡ role → session' ≡ session → count ≤ 4097
    → Hears (Ok turns.Unreadable) (TookBy role' session' before after old new) bytes held l → HasRun role session ends.Unreadable k l
unreadable role role' session session' before after count bytes held old new k l w same_role same_session few hears =
    let P : Role → Type 0 = λ r. IsRefused r session' w.answers hears.0 in
    let Q : ℕ → Type 0 = λ s. IsRefused role s w.answers hears.0 in
    let refused = subst Q same_session (subst P same_role (hears.3 w.answers w.stands_for)) in
    record {
      answers = w.answers;
      few = omega (arith, w.counted, few);
      each_asked = w.each_asked;
      messages = w.messages;
      replies = w.replies;
      rest = bytes;
      sent = asked_bytes (exchanges_of role w.answers) ++ request_bytes w.request;
      passed = w.passed;
      ends_so = (
        w.request,
        w.asked,
        refl,
        inr (
          hears.0,
          record { right = hears.1; front = (held, hears.2) },
          (let same : refused.request ≡ w.request = (let both : Some refused.request ≡ Some w.request = sym refused.asked ∙ w.asked in cc) in
              subst (λ (q : RequestValue). IsNoReply session q hears.0) same refused.none),
        ),
      );
    }

-- the end came instead of more bytes, after less than a frame
pub brought : (end : ChildEnd) (old new held : List ℕ) (l : Option Link) (Took : Message → Turn → Type 0) → IsPartialFront frame_width 16384 old → Brings (Some end) old new l → (Some end ≡ Some ends.LinkEnded → new ≡ old) → Hears (Err end) Took new held l
brought ends.Done old new held l Took front brings same = absurd brings
brought ends.Spent old new held l Took front brings same = absurd brings
brought ends.Unreadable old new held l Took front brings same = absurd brings
brought ends.LinkFault old new held l Took front brings same = tt
brought ends.LinkEnded old new held l Took front brings same = (subst (λ (b : List ℕ). IsPartialFront frame_width 16384 b) (sym (same refl)) front, brings)
