-- What a shipped child asks first by its bytes, and the answer that it took where it asked once more.
use Rattle.std.proofs.Common.{◌≡◌, ℕ, ◌+◌, ◌<◌, ◌≤◌, ◌^◌, Bool, true, false, ◌&&◌, cond, List, [], ◌∷◌, ◌++◌, length}
use Rattle.std.proofs.Common.{Some, None, refl, sym, ap, subst, ◌∙◌, append_assoc, arith, inl, inr, lit<}
use Rattle.std.specs.Prelude.{nat_le, ◌==◌}
use Rattle.std.proofs.lemmas.Bool.{and_parts, leb-true}
use Rattle.std.proofs.lemmas.List.{append-nil, append_cancel_left, length-append}
use Rattle.request_catalogue.specs.declared.width.Width.{Width}
use Rattle.request_catalogue.specs.Catalogue.{RequestValue}
use Rattle.request_catalogue.specs.Replies.{AnswerValue, IsAnswer, reply_kind_of, reply_of}
use Rattle.request_catalogue.specs.Widths.{frame_max}
use Rattle.imsg_frame.specs.Message.{IsMessage, Message, spelling_of}
use Rattle.imsg_frame.specs.Requests.{request_message}
use Rattle.imsg_frame.proofs.Fronts.{FitsFields-composed}
use Rattle.imsg_frame.proofs.Spelling.{length-spelling_of, one_message}
use Rattle.child_protocol.specs.Exchanges.{Exchange}
use Rattle.child_protocol.specs.Frames.{frame_width, request_bytes}
use Rattle.child_protocol.specs.Replies.{FitsForm, form_of}
use Rattle.child_protocol.specs.Says.{Role, next_request}
use Rattle.service_model.specs.Answers.{reply_message}
use Rattle.welcome_laws.proofs.Meeting.{Begins, alike, had, same_request}
use Rattle.welcome_laws.proofs.Rounds.{Ended, Round, Runs, Went, asked, behind, heard}

-- ---- what it asks first

-- a child asks this next, and its bytes begin with it
pub record Says (role : Role) (history : List Exchange) (said : List ℕ) : Type 0 where
  pub request : RequestValue
  pub next : next_request role history ≡ Some request
  pub begins : Begins request said

pub says_first : (role : Role) (session : ℕ) (history : List Exchange) (replies said : List ℕ)
    → Went role session history replies said → 1 ≤ length said → Says role history said
says_first role session history replies said went some =
    by_rounds went.rounds went.runs went.said_is went.ended where
      by_rounds : (rounds : List Round) → Runs role session history rounds → said ≡ asked rounds ++ went.out
          → Ended role session (behind history rounds) went.left went.out → Says role history said
      by_rounds [] runs is (inl done) = absurd (omega (arith, ap length (is ∙ done.1), some))
      by_rounds [] runs is (inr (inl spent)) = absurd (omega (arith, ap length (is ∙ spent.1), some))
      by_rounds [] runs is (inr (inr last)) = record {
        request = last.0;
        next = last.1;
        begins = record { more = []; said_is = is ∙ last.2 ∙ sym (append-nil (request_bytes last.0)) };
      }
      by_rounds (r ∷ rounds) runs is ended = record {
        request = r.exchange.request;
        next = runs.0;
        begins = record {
          more = asked rounds ++ went.out;
          said_is = is ∙ append_assoc (request_bytes r.exchange.request) (asked rounds) went.out;
        };
      }

-- ---- the answer that it took

reply_small : (kind flags : ℕ) → reply_kind_of kind flags < 2 ^ 32
reply_small kind flags = by (flags == 0 && nat_le 1 kind && nat_le kind 13) refl where
  by : (b : Bool) → (flags == 0 && nat_le 1 kind && nat_le kind 13) ≡ b
      → cond b (kind + 256) 256 < 2 ^ 32
  by true is = omega (arith, leb-true kind 13 (and_parts (flags == 0 && nat_le 1 kind) (nat_le kind 13) is).1)
  by false is = lit< tt

-- an answer of at most one frame is a message
pub reply_framed : (width : Width) (session : ℕ) (request : RequestValue) (value : AnswerValue) → session < 2 ^ 32
    → length (spelling_of width (reply_message (request_message request) session value)) ≤ frame_max width
    → IsMessage width (frame_max width) (reply_message (request_message request) session value)
reply_framed width session request value small fits =
    let m = request_message request in
    let within : 16 + length (reply_of value) ≤ frame_max width = omega (
      arith,
      length-spelling_of width (reply_message m session value),
      fits,
    ) in
    record {
      fields = FitsFields-composed width (reply_kind_of m.header.kind m.header.flags) 0 session (reply_of value)
          (reply_small m.header.kind m.header.flags) (lit< tt) small within;
      len = refl;
      within = within;
    }

-- the child took an answer that is spelled as the monitor's, and went on
pub record Took (role : Role) (session : ℕ) (history : List Exchange) (request : RequestValue) (value : AnswerValue)
    (replies said : List ℕ) : Type 0 where
  pub answer : AnswerValue
  pub in_range : IsAnswer answer
  pub fits : FitsForm (form_of request) answer
  pub same : reply_of value ≡ reply_of answer
  pub went : Went role session (had request answer ∷ history) replies said

pub took : (width : Width) (role : Role) (session : ℕ) (history : List Exchange) (request : RequestValue)
    (value : AnswerValue) (replies said : List ℕ) → next_request role history ≡ Some request
    → IsMessage width (frame_max width) (reply_message (request_message request) session value) → 1 ≤ length said
    → Went role session history (spelling_of width (reply_message (request_message request) session value) ++ replies)
    (request_bytes request ++ said) → Took role session history request value replies said
took width role session history request value replies said next right some went =
    by_rounds went.rounds went.runs went.replies_are went.said_is went.ended where
      reply : Message
      reply = reply_message (request_message request) session value

      nothing : request_bytes request ++ said ≡ request_bytes request → ⊥
      nothing same = absurd (omega (arith, ap length same, length-append (request_bytes request) said, some))

      by_rounds : (rounds : List Round) → Runs role session history rounds
          → spelling_of width reply ++ replies ≡ heard rounds ++ went.left
          → request_bytes request ++ said ≡ asked rounds ++ went.out
          → Ended role session (behind history rounds) went.left went.out
          → Took role session history request value replies said
      by_rounds [] runs came given (inl done) = let none : Some request ≡ None = sym next ∙ done.0 in absurd cc
      by_rounds [] runs came given (inr (inl spent)) =
          absurd (omega (arith, ap length (given ∙ spent.1), length-append (request_bytes request) said, some))
      by_rounds [] runs came given (inr (inr last)) =
          absurd (nothing (given ∙ last.2
          ∙ ap request_bytes (same_request (next_request role history) last.0 request last.1 next)))
      by_rounds (r ∷ rounds) runs came given ended =
          let same = same_request (next_request role history) r.exchange.request request runs.0 next in
          let a = alike width r.message runs.1 runs.2.header.1 in
          let more = heard rounds ++ went.left in
          let first = one_message width (frame_max width) 16384 reply r.message replies more right a.is
          (came ∙ append_assoc (spelling_of frame_width r.message) (heard rounds) went.left
          ∙ ap (λ b. b ++ more) a.spelled) in
          let exchange_is : r.exchange ≡ had request r.exchange.answer = ap (λ q. had q r.exchange.answer) same in
          let rest : request_bytes request ++ said ≡ request_bytes request ++ (asked rounds ++ went.out) = given
          ∙ append_assoc (request_bytes r.exchange.request) (asked rounds) went.out
          ∙ ap (λ q. request_bytes q ++ (asked rounds ++ went.out)) same in
          record {
            answer = r.exchange.answer;
            in_range = runs.2.in_range;
            fits = subst (λ q. FitsForm (form_of q) r.exchange.answer) same runs.2.fits;
            same = ap (λ (m : Message). m.body) first.0 ∙ runs.2.spelled;
            went = record {
              rounds = rounds;
              runs = subst (λ e. Runs role session (e ∷ history) rounds) exchange_is runs.3;
              left = went.left;
              out = went.out;
              replies_are = first.1;
              said_is = append_cancel_left (request_bytes request) said (asked rounds ++ went.out) rest;
              ended = subst (λ e. Ended role session (behind (e ∷ history) rounds) went.left went.out) exchange_is
                  ended;
            };
          }
