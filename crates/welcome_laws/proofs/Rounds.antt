-- What a shipped child asked and was answered, in order, by the contract of its run.
use Rattle.std.proofs.Common.{◌≡◌, ◌≢◌, ℕ, ◌+◌, ◌≤◌, List, [], ◌∷◌, ◌++◌, length, Option, Some, None, refl, sym, ap}
use Rattle.std.proofs.Common.{subst, ◌∙◌, append_assoc, arith, inl, inr, ◌⊎◌}
use Rattle.std.specs.List.{flat_map, fold}
use Rattle.std.proofs.lemmas.List.{append-nil}
use Rattle.imsg_frame.specs.Message.{IsMessage, Message, spelling_of}
use Rattle.imsg_frame.specs.Cut.{IsBadFront, IsPartialFront, IsWholeFront}
use Rattle.imsg_frame.proofs.Fronts.{IsBadFront-append, whole_not_bad, whole_not_partial}
use Rattle.imsg_frame.proofs.Spelling.{one_message}
use Rattle.request_catalogue.specs.Catalogue.{RequestValue}
use Rattle.request_catalogue.specs.Replies.{AnswerValue}
use Rattle.outside.specs.Link.{Link}
use Rattle.child_protocol.specs.Exchanges.{Exchange}
use Rattle.child_protocol.specs.Frames.{frame_width, request_bytes}
use Rattle.child_protocol.specs.Replies.{IsReply}
use Rattle.child_protocol.specs.Runs.{AreReplies, EndsSo, HasRun, IsNoReply, asked_bytes, reply_bytes}
use Rattle.child_protocol.specs.Says.{Role, exchanges_of, joined, next_request, says, with_answer}
use Rattle.child_protocol.specs.declared.run.ChildEnd.{ChildEnd}
use Rattle.child_protocol.specs.declared.run.ChildEnd.TheVariants as ends
use Rattle.welcome_laws.specs.Shipped.{IsSaidWhole}

-- ---- a list of exchanges, the latest first, is a dialogue

abbrev pub IsDialogue : Role → List Exchange → Type 0
IsDialogue role [] = Unit {0}
IsDialogue role (e ∷ before) = (next_request role before ≡ Some e.request) × IsDialogue role before

joined_few : (o : Option RequestValue) (history : List Exchange) (answer : AnswerValue)
    → length (joined o history answer) ≤ length history + 1
joined_few None history answer = omega arith
joined_few (Some request) history answer = omega arith

fold_few : (role : Role) (answers : List AnswerValue) (history : List Exchange)
    → length (fold (with_answer role) history answers) ≤ length history + length answers
fold_few role [] history = omega arith
fold_few role (a ∷ answers) history =
    omega (arith, fold_few role answers (with_answer role history a), joined_few (next_request role history) history a)

dialogue : (role : Role) (answers : List AnswerValue) (history : List Exchange) → IsDialogue role history
    → length (fold (with_answer role) history answers) ≡ length history + length answers
    → IsDialogue role (fold (with_answer role) history answers)
dialogue role [] history is all = is
dialogue role (a ∷ answers) history is all =
    by_next (next_request role history) refl (λ e more len. dialogue role answers (e ∷ history) more len) where
      by_next : (o : Option RequestValue) → next_request role history ≡ o
          → ((e : Exchange) → IsDialogue role (e ∷ history)
          → length (fold (with_answer role) (e ∷ history) answers) ≡ length (e ∷ history) + length answers
          → IsDialogue role (fold (with_answer role) (e ∷ history) answers))
          → IsDialogue role (fold (with_answer role) (with_answer role history a) answers)
      by_next None n others =
          let same : length (fold (with_answer role) history answers) ≡ length history + length (a ∷ answers) = ap
          (λ (o : Option RequestValue). length (fold (with_answer role) (joined o history a) answers)) (sym n) ∙ all in
          absurd (omega (arith, same, fold_few role answers history))
      by_next (Some request) n others =
          let e : Exchange = record { request = request; answer = a } in
          let same : length (fold (with_answer role) (e ∷ history) answers) ≡ length history + length (a ∷ answers) = ap
          (λ (o : Option RequestValue). length (fold (with_answer role) (joined o history a) answers)) (sym n) ∙ all in
          subst (λ (o : Option RequestValue). IsDialogue role (fold (with_answer role) (joined o history a) answers))
          (sym n) (others e (n, is) (omega (arith, same)))

pub is_dialogue : (role : Role) (answers : List AnswerValue) → length (exchanges_of role answers) ≡ length answers
    → IsDialogue role (exchanges_of role answers)
unfolding exchanges_of
is_dialogue role answers all = dialogue role answers [] tt (omega (arith, all))

-- ---- in order

-- an exchange with the message that brought its answer
pub record Round : Type 0 where
  pub exchange : Exchange
  pub message : Message

-- after these exchanges come these rounds
abbrev pub Runs : Role → ℕ → List Exchange → List Round → Type 0
Runs role session history [] = Unit {0}
Runs role session history (r ∷ rounds) =
    (next_request role history ≡ Some r.exchange.request) × IsMessage frame_width 16384 r.message
    × IsReply session r.exchange.request r.message r.exchange.answer × Runs role session (r.exchange ∷ history) rounds

-- the bytes that were sent, and those that came
abbrev pub asked : List Round → List ℕ
asked rounds = flat_map (λ r. request_bytes r.exchange.request) rounds

abbrev pub heard : List Round → List ℕ
heard rounds = flat_map (λ r. spelling_of frame_width r.message) rounds

abbrev pub behind : List Exchange → List Round → List Exchange
behind history [] = history
behind history (r ∷ rounds) = behind (r.exchange ∷ history) rounds

-- the rounds of exchanges and messages, the latest first, before others
abbrev rounds_of : List Exchange → List Message → List Round → List Round
rounds_of [] messages others = others
rounds_of (e ∷ before) [] others = others
rounds_of (e ∷ before) (m ∷ messages) others = rounds_of before messages (record { exchange = e; message = m } ∷ others)

runs : (role : Role) (session : ℕ) (history : List Exchange) (messages : List Message) (others : List Round)
    → IsDialogue role history → AreReplies session history messages → Runs role session history others
    → Runs role session [] (rounds_of history messages others)
runs role session [] [] others is are more = more
runs role session [] (m ∷ messages) others is are more = absurd are
runs role session (e ∷ before) [] others is are more = absurd are
runs role session (e ∷ before) (m ∷ messages) others is are more =
    runs role session before messages (record { exchange = e; message = m } ∷ others) is.1 are.2
    (is.0, are.0, are.1, more)

asked_rounds : (session : ℕ) (history : List Exchange) (messages : List Message) (others : List Round)
    → AreReplies session history messages
    → asked (rounds_of history messages others) ≡ asked_bytes history ++ asked others
asked_rounds session [] [] others are = refl
asked_rounds session [] (m ∷ messages) others are = absurd are
asked_rounds session (e ∷ before) [] others are = absurd are
asked_rounds session (e ∷ before) (m ∷ messages) others are =
    asked_rounds session before messages (record { exchange = e; message = m } ∷ others) are.2
    ∙ sym (append_assoc (asked_bytes before) (request_bytes e.request) (asked others))

heard_rounds : (session : ℕ) (history : List Exchange) (messages : List Message) (others : List Round)
    → AreReplies session history messages
    → heard (rounds_of history messages others) ≡ reply_bytes messages ++ heard others
heard_rounds session [] [] others are = refl
heard_rounds session [] (m ∷ messages) others are = absurd are
heard_rounds session (e ∷ before) [] others are = absurd are
heard_rounds session (e ∷ before) (m ∷ messages) others are =
    heard_rounds session before messages (record { exchange = e; message = m } ∷ others) are.2
    ∙ sym (append_assoc (reply_bytes messages) (spelling_of frame_width m) (heard others))

behind_rounds : (session : ℕ) (history : List Exchange) (messages : List Message) (others : List Round)
    → AreReplies session history messages → behind [] (rounds_of history messages others) ≡ behind history others
behind_rounds session [] [] others are = refl
behind_rounds session [] (m ∷ messages) others are = absurd are
behind_rounds session (e ∷ before) [] others are = absurd are
behind_rounds session (e ∷ before) (m ∷ messages) others are =
    behind_rounds session before messages (record { exchange = e; message = m } ∷ others) are.2

-- ---- the end

-- no reply to the request stands in front of these bytes
pub record Unheard (session : ℕ) (request : RequestValue) (bytes : List ℕ) : Type 0 where
  pub none : (message : Message) (answer : AnswerValue) (more : List ℕ) → IsMessage frame_width 16384 message
      → IsReply session request message answer → bytes ≡ spelling_of frame_width message ++ more → ⊥

-- how a child ends whose link doesn't fail: its dialogue does, it had 4,097 answers, or it asked once more and no reply
-- came
abbrev pub Ended : Role → ℕ → List Exchange → List ℕ → List ℕ → Type 0
Ended role session history left out =
    ((next_request role history ≡ None) × (out ≡ []))
    ⊎ (((4097 ≤ length history) × (out ≡ [])) ⊎ ((request : RequestValue) × (next_request role history ≡ Some request)
    × (out ≡ request_bytes request) × Unheard session request left))

-- a child said this to these replies, after these exchanges
pub record Went (role : Role) (session : ℕ) (history : List Exchange) (replies said : List ℕ) : Type 0 where
  pub rounds : List Round
  pub runs : Runs role session history rounds
  pub left : List ℕ
  pub out : List ℕ
  pub replies_are : replies ≡ heard rounds ++ left
  pub said_is : said ≡ asked rounds ++ out
  pub ended : Ended role session (behind history rounds) left out

unheard_partial : (session : ℕ) (request : RequestValue) (bytes : List ℕ) → IsPartialFront frame_width 16384 bytes
    → Unheard session request bytes
unheard_partial session request bytes partial =
    record {
      none = λ message answer more is reply same. whole_not_partial frame_width 16384 bytes message
          (record { right = is; front = (more, same) }) partial;
    }

unheard_bad : (session : ℕ) (request : RequestValue) (bytes more : List ℕ) (len : ℕ)
    → IsBadFront frame_width 16384 bytes len → Unheard session request (bytes ++ more)
unheard_bad session request bytes more len bad =
    record {
      none = λ message answer rest is reply same. whole_not_bad frame_width 16384 (bytes ++ more) message len
          (record { right = is; front = (rest, same) }) (IsBadFront-append frame_width 16384 bytes more len bad);
    }

unheard_other : (session : ℕ) (request : RequestValue) (bytes more : List ℕ) (first : Message)
    → IsWholeFront frame_width 16384 bytes first → IsNoReply session request first
    → Unheard session request (bytes ++ more)
unheard_other session request bytes more first whole none = record {
  none = λ message answer rest is reply same.
      let regrouped : spelling_of frame_width first ++ (whole.front.0 ++ more) ≡ spelling_of frame_width message
      ++ rest = sym (append_assoc (spelling_of frame_width first) whole.front.0 more)
      ∙ ap (λ b. b ++ more) (sym whole.front.1) ∙ same in
      let both = one_message frame_width 16384 16384 first message (whole.front.0 ++ more) rest whole.right is
      regrouped in
      none answer (subst (λ m. IsReply session request m answer) (sym both.0) reply);
}

says_is : (role : Role) (answers : List AnswerValue) → says role answers ≡ next_request role (exchanges_of role answers)
unfolding says
says_is role answers = refl

module _ (role : Role) (session : ℕ) (replies said : List ℕ) where
  of_run : (end : ChildEnd) (after : Link)
      → HasRun role session end (Some (record { left = replies; taken = []; sent = []; receivings = Some [] })) (Some after)
      → end ≢ ends.LinkFault → said ≡ after.sent → Went role session [] replies said
  of_run end after run unfailed sent = by_end end run.ends_so unfailed where
    history : List Exchange
    history = exchanges_of role run.answers

    rounds : List Round
    rounds = rounds_of history run.messages []

    went : Runs role session [] rounds
    went = runs role session history run.messages [] (is_dialogue role run.answers run.each_asked) run.replies tt

    there : behind [] rounds ≡ history
    there = behind_rounds session history run.messages [] run.replies

    came : replies ≡ heard rounds ++ (run.rest ++ after.left)
    came =
        run.passed.left
        ∙ append_assoc (reply_bytes run.messages) run.rest after.left
        ∙ ap (λ b. b ++ (run.rest ++ after.left)) (sym
        (heard_rounds session history run.messages [] run.replies ∙ append-nil (reply_bytes run.messages)))

    given : asked rounds ≡ asked_bytes history
    given = asked_rounds session history run.messages [] run.replies ∙ append-nil (asked_bytes history)

    goes : (out : List ℕ) → run.sent ≡ asked_bytes history ++ out
        → Ended role session history (run.rest ++ after.left) out → Went role session [] replies said
    goes out all ended = record {
      rounds = rounds;
      runs = went;
      left = run.rest ++ after.left;
      out = out;
      replies_are = came;
      said_is = sent ∙ run.passed.sent ∙ all ∙ ap (λ b. b ++ out) (sym given);
      ended = subst (λ h. Ended role session h (run.rest ++ after.left) out) (sym there) ended;
    }

    by_end : (e : ChildEnd) → EndsSo e role session run.answers run.rest run.sent (Some after) → e ≢ ends.LinkFault
        → Went role session [] replies said
    by_end ends.Done so un =
        goes [] (so.1 ∙ sym (append-nil (asked_bytes history))) (inl (sym (says_is role run.answers) ∙ so.0, refl))
    by_end ends.Spent so un =
        goes [] (so.1 ∙ sym (append-nil (asked_bytes history))) (inr (inl (omega (arith, so.0, run.each_asked), refl)))
    by_end ends.LinkEnded so un =
        goes (request_bytes so.0) so.2 (inr (inr (
          so.0,
          sym (says_is role run.answers)
              ∙ so.1,
          refl,
          subst (Unheard session so.0) (sym (append-nil run.rest) ∙ ap (λ b. run.rest ++ b) (sym so.4))
              (unheard_partial session so.0 run.rest so.3),
        )))
    by_end ends.Unreadable so un = goes (request_bytes so.0) so.2 (inr (inr (
      so.0,
      sym (says_is role run.answers) ∙ so.1,
      refl,
      elim so.3 [
        | inl bad ↦ unheard_bad session so.0 run.rest after.left bad.0 bad.1
        | inr other ↦ unheard_other session so.0 run.rest after.left other.0 other.1 other.2
      ],
    )))
    by_end ends.LinkFault so un = absurd (un refl)

  pub said_so : IsSaidWhole role session replies said → Went role session [] replies said
  said_so is = of_run is.end is.after is.run is.unfailed is.sent
