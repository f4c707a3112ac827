-- The next request of a shipped child, and the step at which it is served.
use Rattle.std.proofs.Common.{◌≡◌, ℕ, ◌+◌, ◌<◌, ◌≤◌, ◌^◌, Bool, true, ◌&&◌, List, [], ◌∷◌, ◌++◌, length, Option, Some}
use Rattle.std.proofs.Common.{None, Result, refl, sym, ap, subst, ◌∙◌, append_assoc, arith, inl, inr, lit<, lit≤}
use Rattle.std.specs.Prelude.{IsSomeAnd, MatchResult, nat_le}
use Rattle.std.specs.Char.{is_ascii_lowercase}
use Rattle.std.specs.List.{list_all}
use Rattle.std.proofs.lemmas.Bool.{and_parts, false≢true, leb-true}
use Rattle.std.proofs.lemmas.List.{append-nil, append_cancel_left, length-append}
use Rattle.request_catalogue.specs.declared.request.Bad.{Bad}
use Rattle.request_catalogue.specs.declared.width.Width.{Width}
use Rattle.request_catalogue.specs.declared.width.Width.TheVariants as widths
use Rattle.request_catalogue.specs.Catalogue.{IsInRange, RequestValue, kind_of, payload_of}
use Rattle.request_catalogue.specs.Catalogue as requests
use Rattle.request_catalogue.specs.Kinds.{kind_number}
use Rattle.request_catalogue.specs.Replies.{AnswerValue, IsAnswer, answered_by, reply_kind_of, reply_of}
use Rattle.request_catalogue.specs.Texts.{begins_name, continues_label, continues_name, is_label, is_name, is_note}
use Rattle.request_catalogue.specs.Texts.{is_printable, is_typed, is_typed_reply, is_word}
use Rattle.request_catalogue.specs.Widths.{frame_max}
use Rattle.request_catalogue.proofs.ReplyTable.{answered_by-reply_of}
use Rattle.imsg_frame.specs.Message.{IsMessage, Message, composed_of, spelling_of}
use Rattle.imsg_frame.specs.Cut.{IsPartialFront}
use Rattle.imsg_frame.specs.Requests.{request_message}
use Rattle.imsg_frame.proofs.Fronts.{FitsFields-composed, IsBadFront-append, whole_not_bad, whole_not_partial}
use Rattle.imsg_frame.proofs.Spelling.{length-spelling_of, narrow_is_wide, one_message}
use Rattle.policy_model.specs.declared.event.Ask.TheVariants as policy_asks
use Rattle.policy_model.specs.declared.event.Why.{Why}
use Rattle.policy_model.specs.declared.event.Why.TheVariants as whys
use Rattle.child_protocol.specs.Exchanges.{Exchange}
use Rattle.child_protocol.specs.Frames.{frame_width, request_bytes}
use Rattle.child_protocol.specs.Replies.{FitsForm, IsReply, form_of}
use Rattle.child_protocol.specs.Says.{Role, next_request}
use Rattle.child_protocol.proofs.Frames.{reads_in}
use Rattle.service_model.specs.Answers.{reply_message}
use Rattle.service_model.specs.Cases.{message_bytes}
use Rattle.service_model.specs.Parts.{EndsAlone, IsRequestStep}
use Rattle.service_model.specs.Places.{Step}
use Rattle.service_model.specs.Requests.{Asks, CameBy, IsAskOf}
use Rattle.service_model.specs.Service.{Service}
use Rattle.welcome_laws.proofs.Rounds.{Ended, Round, Runs, Went, asked, behind, heard}

-- ---- a request's message is one, in either width

word_short : (most : ℕ) (begins continues : ℕ → Bool) (bytes : List ℕ) → is_word most begins continues bytes ≡ true
    → length bytes ≤ most
word_short most begins continues [] is = absurd (false≢true is)
word_short most begins continues (c ∷ cs) is =
    leb-true (length (c ∷ cs)) most (and_parts (nat_le (length (c ∷ cs)) most) (begins c)
    (and_parts (nat_le (length (c ∷ cs)) most && begins c) (list_all continues cs) is).0).0

reply_short : (text : List ℕ) → is_typed_reply text ≡ true → length text ≤ 256
unfolding is_typed_reply
reply_short text is =
    leb-true (length text) 256 (and_parts (nat_le 1 (length text)) (nat_le (length text) 256)
    (and_parts (nat_le 1 (length text) && nat_le (length text) 256) (list_all is_typed text) is).0).1

pub name_short : (user : List ℕ) → is_name user ≡ true → length user ≤ 32
unfolding is_name
name_short user is = word_short 32 begins_name continues_name user is

label_short : (name : List ℕ) → is_label name ≡ true → length name ≤ 64
unfolding is_label
label_short name is = word_short 64 is_ascii_lowercase continues_label name is

note_short : (text : List ℕ) → is_note text ≡ true → length text ≤ 64
unfolding is_note
note_short text is =
    leb-true (length text) 64 (and_parts (nat_le 1 (length text)) (nat_le (length text) 64)
    (and_parts (nat_le 1 (length text) && nat_le (length text) 64) (list_all is_printable text) is).0).1

short_payload : (request : RequestValue) → IsInRange frame_width request → length (payload_of request) ≤ 16368
unfolding payload_of
short_payload requests.Banner is = lit≤ tt
short_payload (requests.Challenge user) is = omega (arith, name_short user is)
short_payload (requests.Reply text) is = omega (arith, reply_short text is)
short_payload requests.Abandon is = lit≤ tt
short_payload (requests.Export state) is = omega (arith, is)
short_payload requests.Import is = lit≤ tt
short_payload (requests.ReadAt handle offset max) is = lit≤ tt
short_payload (requests.WriteAt handle offset bytes) is = omega (arith, is.3)
short_payload (requests.OpenFile mode name) is = omega (arith, label_short name is.2)
short_payload (requests.CloseFile handle) is = lit≤ tt
short_payload (requests.Info number) is = lit≤ tt
short_payload (requests.Note text) is = omega (arith, note_short text is)
short_payload requests.Finish is = lit≤ tt

small_kind : (request : RequestValue) → kind_number (kind_of request) < 2 ^ 32
small_kind requests.Banner = lit< tt
small_kind (requests.Challenge user) = lit< tt
small_kind (requests.Reply text) = lit< tt
small_kind requests.Abandon = lit< tt
small_kind (requests.Export state) = lit< tt
small_kind requests.Import = lit< tt
small_kind (requests.ReadAt handle offset max) = lit< tt
small_kind (requests.WriteAt handle offset bytes) = lit< tt
small_kind (requests.OpenFile mode name) = lit< tt
small_kind (requests.CloseFile handle) = lit< tt
small_kind (requests.Info number) = lit< tt
small_kind (requests.Note text) = lit< tt
small_kind requests.Finish = lit< tt

-- the kind of the reply
reply_kind : (request : RequestValue)
    → reply_kind_of (kind_number (kind_of request)) 0 ≡ kind_number (kind_of request) + 256
reply_kind requests.Banner = refl
reply_kind (requests.Challenge user) = refl
reply_kind (requests.Reply text) = refl
reply_kind requests.Abandon = refl
reply_kind (requests.Export state) = refl
reply_kind requests.Import = refl
reply_kind (requests.ReadAt handle offset max) = refl
reply_kind (requests.WriteAt handle offset bytes) = refl
reply_kind (requests.OpenFile mode name) = refl
reply_kind (requests.CloseFile handle) = refl
reply_kind (requests.Info number) = refl
reply_kind (requests.Note text) = refl
reply_kind requests.Finish = refl

composed_is_message : (kind peerid pid : ℕ) (body : List ℕ) → kind < 2 ^ 32 → peerid < 2 ^ 32 → pid < 2 ^ 32
    → length body ≤ 16368 → IsMessage widths.Narrow 16384 (composed_of kind peerid pid body)
composed_is_message kind peerid pid body k e p short =
    record {
      fields = FitsFields-composed widths.Narrow kind peerid pid body k e p (omega (arith, short));
      len = refl;
      within = omega (arith, short);
    }

pub is_message : (request : RequestValue) → IsInRange frame_width request
    → IsMessage widths.Narrow 16384 (request_message request)
is_message request is =
    composed_is_message (kind_number (kind_of request)) 0 0 (payload_of request) (small_kind request) (lit< tt)
    (lit< tt) (short_payload request is)

-- a narrow message without flags, in any width
pub record Alike (width : Width) (m : Message) : Type 0 where
  pub is : IsMessage width 16384 m
  pub spelled : spelling_of widths.Narrow m ≡ spelling_of width m

pub alike : (width : Width) (m : Message) → IsMessage widths.Narrow 16384 m → m.header.flags ≡ 0 → Alike width m
alike widths.Narrow m is none = record { is = is; spelled = refl }
alike widths.Wide m is none = let both = narrow_is_wide 16384 m is none in record { is = both.0; spelled = both.1 }

-- ---- what is asked next

pub same_request : (o : Option RequestValue) (one two : RequestValue) → o ≡ Some one → o ≡ Some two → one ≡ two
same_request o one two p q = let both : Some one ≡ Some two = sym p ∙ q in cc

pub same_answer : (one two : AnswerValue) → IsAnswer one → IsAnswer two → reply_of one ≡ reply_of two → one ≡ two
same_answer one two p q same =
    let both : Some one ≡ Some two = sym (answered_by-reply_of one p) ∙ ap answered_by same
    ∙ answered_by-reply_of two q in cc

-- the bytes of a child whose next request is known begin with its frame
pub record Begins (request : RequestValue) (said : List ℕ) : Type 0 where
  pub more : List ℕ
  pub said_is : said ≡ request_bytes request ++ more

pub begins : (role : Role) (session : ℕ) (history : List Exchange) (replies said : List ℕ) (request : RequestValue)
    → Went role session history replies said → next_request role history ≡ Some request → length history < 4097
    → Begins request said
begins role session history replies said request went next few =
    by_rounds went.rounds went.runs went.said_is went.ended where
      by_rounds : (rounds : List Round) → Runs role session history rounds → said ≡ asked rounds ++ went.out
          → Ended role session (behind history rounds) went.left went.out → Begins request said
      by_rounds [] runs is (inl done) = let none : Some request ≡ None = sym next ∙ done.0 in absurd cc
      by_rounds [] runs is (inr (inl spent)) = absurd (omega (arith, few, spent.0))
      by_rounds [] runs is (inr (inr last)) =
          record {
            more = [];
            said_is = is ∙ last.2 ∙ ap request_bytes
                (same_request (next_request role history) last.0 request last.1 next)
                ∙ sym (append-nil (request_bytes request));
          }
      by_rounds (r ∷ rounds) runs is ended = record {
        more = asked rounds ++ went.out;
        said_is = is ∙ append_assoc (request_bytes r.exchange.request) (asked rounds) went.out
            ∙ ap (λ q. request_bytes q ++ (asked rounds ++ went.out))
            (same_request (next_request role history) r.exchange.request request runs.0 next);
      }

-- an answer that the child takes as the reply to its request
pub record IsReadable (session : ℕ) (request : RequestValue) (answer : AnswerValue) : Type 0 where
  pub is : IsMessage widths.Narrow 16384 (reply_message (request_message request) session answer)
  pub reply : IsReply session request (reply_message (request_message request) session answer) answer

pub readable : (session : ℕ) (request : RequestValue) (answer : AnswerValue) → session < 2 ^ 32 → IsAnswer answer
    → FitsForm (form_of request) answer → length (reply_of answer) ≤ 16368 → IsReadable session request answer
readable session request answer small is fits short = record {
  is = composed_is_message (reply_kind_of (kind_number (kind_of request)) 0) 0 session (reply_of answer)
      (subst (λ (n : ℕ). n < 2 ^ 32) (sym (reply_kind request))
      (wide (kind_number (kind_of request)) (few_kinds request))) (lit< tt) small short;
  reply = record { header = (reply_kind request, refl, refl, refl); in_range = is; spelled = refl; fits = fits };
} where
  few_kinds : (request : RequestValue) → kind_number (kind_of request) ≤ 13
  few_kinds requests.Banner = lit≤ tt
  few_kinds (requests.Challenge user) = lit≤ tt
  few_kinds (requests.Reply text) = lit≤ tt
  few_kinds requests.Abandon = lit≤ tt
  few_kinds (requests.Export state) = lit≤ tt
  few_kinds requests.Import = lit≤ tt
  few_kinds (requests.ReadAt handle offset max) = lit≤ tt
  few_kinds (requests.WriteAt handle offset bytes) = lit≤ tt
  few_kinds (requests.OpenFile mode name) = lit≤ tt
  few_kinds (requests.CloseFile handle) = lit≤ tt
  few_kinds (requests.Info number) = lit≤ tt
  few_kinds (requests.Note text) = lit≤ tt
  few_kinds requests.Finish = lit≤ tt

  wide : (n : ℕ) → n ≤ 13 → n + 256 < 2 ^ 32
  wide n le = omega (arith, le)

abbrev pub had : RequestValue → AnswerValue → Exchange
had request answer = record { request = request; answer = answer }

-- after its answer
pub answered : (role : Role) (session : ℕ) (history : List Exchange) (request : RequestValue) (answer : AnswerValue)
    (replies said : List ℕ) → next_request role history ≡ Some request → length history < 4097
    → IsReadable session request answer
    → Went role session history (spelling_of widths.Narrow (reply_message (request_message request) session answer)
    ++ replies) (request_bytes request ++ said) → Went role session (had request answer ∷ history) replies said
answered role session history request answer replies said next few read went =
    by_rounds went.rounds went.runs went.replies_are went.said_is went.ended where
      reply : Message
      reply = reply_message (request_message request) session answer

      by_rounds : (rounds : List Round) → Runs role session history rounds
          → spelling_of widths.Narrow reply ++ replies ≡ heard rounds ++ went.left
          → request_bytes request ++ said ≡ asked rounds ++ went.out
          → Ended role session (behind history rounds) went.left went.out
          → Went role session (had request answer ∷ history) replies said
      by_rounds [] runs came given (inl done) = let none : Some request ≡ None = sym next ∙ done.0 in absurd cc
      by_rounds [] runs came given (inr (inl spent)) = absurd (omega (arith, few, spent.0))
      by_rounds [] runs came given (inr (inr last)) =
          let same = same_request (next_request role history) last.0 request last.1 next in
          absurd (last.3.none reply answer replies read.is
          (subst (λ q. IsReply session q reply answer) (sym same) read.reply) (sym came))
      by_rounds (r ∷ rounds) runs came given ended =
          let same = same_request (next_request role history) r.exchange.request request runs.0 next in
          let first = one_message widths.Narrow 16384 16384 reply r.message replies (heard rounds ++ went.left) read.is
          runs.1 (came ∙ append_assoc (spelling_of frame_width r.message) (heard rounds) went.left) in
          let answer_is : r.exchange.answer ≡ answer = same_answer r.exchange.answer answer runs.2.in_range
          read.reply.in_range (sym runs.2.spelled ∙ ap (λ (m : Message). m.body) (sym first.0)) in
          let exchange_is : r.exchange ≡ had request answer = ap (λ q. had q r.exchange.answer) same
          ∙ ap (had request) answer_is in
          let rest : request_bytes request ++ said ≡ request_bytes request ++ (asked rounds ++ went.out) = given
          ∙ append_assoc (request_bytes r.exchange.request) (asked rounds) went.out
          ∙ ap (λ q. request_bytes q ++ (asked rounds ++ went.out)) same in
          record {
            rounds = rounds;
            runs = subst (λ e. Runs role session (e ∷ history) rounds) exchange_is runs.3;
            left = went.left;
            out = went.out;
            replies_are = first.1;
            said_is = append_cancel_left (request_bytes request) said (asked rounds ++ went.out) rest;
            ended = subst (λ e. Ended role session (behind (e ∷ history) rounds) went.left went.out) exchange_is ended;
          }

-- a child that is sent nothing more has asked once more
pub alone : (role : Role) (session : ℕ) (history : List Exchange) (said : List ℕ) (request : RequestValue)
    → next_request role history ≡ Some request → length history < 4097 → Went role session history [] said
    → said ≡ request_bytes request
alone role session history said request next few went =
    by_rounds went.rounds went.runs went.replies_are went.said_is went.ended where
      by_rounds : (rounds : List Round) → Runs role session history rounds → [] ≡ heard rounds ++ went.left
          → said ≡ asked rounds ++ went.out → Ended role session (behind history rounds) went.left went.out
          → said ≡ request_bytes request
      by_rounds [] runs came given (inl done) = let none : Some request ≡ None = sym next ∙ done.0 in absurd cc
      by_rounds [] runs came given (inr (inl spent)) = absurd (omega (arith, few, spent.0))
      by_rounds [] runs came given (inr (inr last)) =
          given ∙ last.2 ∙ ap request_bytes (same_request (next_request role history) last.0 request last.1 next)
      by_rounds (r ∷ rounds) runs came given ended =
          absurd (omega (
            arith,
            ap length came,
            length-append (spelling_of frame_width r.message ++ heard rounds) went.left,
            length-append (spelling_of frame_width r.message) (heard rounds),
            length-spelling_of frame_width r.message,
          ))

-- ---- the step at which it is served

-- no part ends by itself after a whole frame
pub not_alone : (width : Width) (why : Why) (rest unread : List ℕ) (request : RequestValue)
    → IsInRange frame_width request → EndsAlone width why rest unread → rest ++ unread ≡ request_bytes request → ⊥
unfolding request_bytes
not_alone width why rest unread request is ends same = by_why why ends where
  m : Message
  m = request_message request

  a : Alike width m
  a = alike width m (is_message request is) refl

  whole : (bytes : List ℕ) → bytes ≡ request_bytes request → (max : ℕ) → IsMessage width max m
      → IsPartialFront width max bytes → ⊥
  whole bytes so max right partial =
      whole_not_partial width max bytes m (record {
        right = right;
        front =
            ([], so ∙ a.spelled ∙ sym (append-nil (spelling_of width m)));
      }) partial

  right : (w : Width) → IsMessage w 16384 m → IsMessage w (frame_max w) m
  right widths.Narrow h = h
  right widths.Wide h = record { fields = h.fields; len = h.len; within = omega (arith, h.within) }

  by_why : (why : Why) → EndsAlone width why rest unread → ⊥
  by_why whys.ChildEnded h =
      let none : [] ≡ request_bytes request = sym (ap (λ r. r ++ unread) h.0 ∙ h.1) ∙ same in
      omega (arith, ap length none, length-spelling_of widths.Narrow m)
  by_why whys.Truncated h =
      whole rest (sym (append-nil rest) ∙ ap (λ u. rest ++ u) (sym h.1) ∙ same) (frame_max width) (right width a.is) h.2
  by_why (whys.BadFrame len) h =
      whole_not_bad width (frame_max width) (rest ++ unread) m len
      (record { right = right width a.is; front = ([], same ∙ a.spelled ∙ sym (append-nil (spelling_of width m))) })
      (IsBadFront-append width (frame_max width) rest unread len h)
  by_why _ h = h

-- what the next step's message is, and what it asks
pub record Meets (service : Service) (request : RequestValue) (step : Step) (behind said : List ℕ) : Type 0 where
  pub message : step.message ≡ Some (request_message request)
  pub asks : Asks service.words request step.place.event.ask
  pub said_is : said ≡ request_bytes request ++ behind

pub meets : (service : Service) (request : RequestValue) (step : Step) (said behind : List ℕ)
    → IsInRange frame_width request → IsRequestStep service step → Begins request said
    → said ≡ message_bytes service.setup.frames step.message ++ behind → Meets service request step behind said
unfolding request_bytes
meets service request step said behind is step_is begins' same = by_message step.message refl step_is.came where
  width : Width
  width = service.setup.frames

  a : Alike width (request_message request)
  a = alike width (request_message request) (is_message request is) refl

  by_message : (o : Option Message) → step.message ≡ o → IsSomeAnd o (λ m. CameBy service m step.place.event.ask)
      → Meets service request step behind said
  by_message None o came = absurd came
  by_message (Some m) o came =
      let regrouped : spelling_of width m ++ behind ≡ spelling_of width (request_message request) ++ begins'.more = sym
      (same ∙ ap (λ x. message_bytes width x ++ behind) o) ∙ begins'.said_is ∙ ap (λ b. b ++ begins'.more) a.spelled in
      let both = one_message width (frame_max width) 16384 m (request_message request) behind begins'.more came.framed
      a.is regrouped in
      let value = reads_in request is width in
      let asked_so = subst (λ x. IsAskOf width service.words x step.place.event.ask) both.0 came.asked in
      record {
        message = o ∙ ap (λ (x : Message). Some x) both.0;
        asks = subst (λ (r : Result RequestValue Bad). MatchResult r (λ v. Asks service.words v step.place.event.ask)
            (λ bad. step.place.event.ask ≡ policy_asks.Bad bad.rule bad.detail)) value asked_so;
        said_is = begins'.said_is ∙ ap (λ b. request_bytes request ++ b) (sym both.1);
      }
