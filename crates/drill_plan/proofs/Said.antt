-- What a child's bytes are, that are requests of a drill one after the other: what it asked of them.
use Rattle.std.proofs.Common.{◌≡◌, ℕ, ◌^◌, ◌<◌, ◌≤◌, List, [], ◌∷◌, ◌++◌, length, Option, Some, None, Result, Ok, refl, sym, ap, subst, ◌∙◌, append_assoc, arith, lit<, lit≤, Bool, true, ◌&&◌}
use Rattle.std.specs.Prelude.{IsSomeAnd, MatchResult, nat_le}
use Rattle.std.specs.Char.{is_ascii_lowercase}
use Rattle.std.specs.List.{AllByRecursion, list_all}
use Rattle.std.proofs.lemmas.Bool.{and_parts, false≢true, leb-true}
use Rattle.std.proofs.lemmas.List.{length-append}
use Rattle.request_catalogue.specs.declared.width.Width.TheVariants.{Narrow}
use Rattle.request_catalogue.specs.declared.request.Bad.{Bad}
use Rattle.request_catalogue.specs.Catalogue.{IsInRange, IsRequest, RequestValue, kind_of, payload_of}
use Rattle.request_catalogue.specs.Catalogue as requests
use Rattle.request_catalogue.specs.Kinds.{kind_number}
use Rattle.request_catalogue.specs.Reading.{request_of}
use Rattle.request_catalogue.specs.Texts.{begins_name, continues_label, continues_name, is_label, is_name, is_typed, is_typed_reply, is_word}
use Rattle.request_catalogue.specs.Widths.{frame_max}
use Rattle.otp_words.specs.Candidates.{AreCandidatesOf}
use Rattle.request_catalogue.proofs.Messages.{IsRequest-request_of}
use Rattle.imsg_frame.specs.Message.{IsMessage, Message, spelling_of}
use Rattle.imsg_frame.specs.Requests.{request_message}
use Rattle.imsg_frame.proofs.Fronts.{FitsFields-composed}
use Rattle.imsg_frame.proofs.Spelling.{length-spelling_of, one_message}
use Rattle.policy_model.specs.declared.event.Ask.{Ask}
use Rattle.policy_model.specs.declared.event.Ask.TheVariants as asks
use Rattle.policy_model.specs.Settings.{password_text}
use Rattle.service_model.specs.Parts.{IsRequestStep, step_bytes}
use Rattle.service_model.specs.Cases.{message_bytes}
use Rattle.service_model.specs.Places.{Step}
use Rattle.service_model.specs.Requests.{Asks, CameBy, IsAskOf}
use Rattle.service_model.specs.Service.{Service}
use Rattle.drill_plan.specs.Plan.{request_bytes, requests_bytes}
use Rattle.drill_plan.specs.Requests.{IsAskFor}
use Rattle.drill_plan.proofs.Texts.{is_password_text}
use Rattle.drill_plan.proofs.Readings.{number_of, readings, same_text}

-- a request that a drill may have: in its ranges, a reply with a password's digits, and no information and no note
abbrev pub IsSent : RequestValue → Type 0
IsSent (requests.Reply text) = (password : ℕ) × (text ≡ password_text password)
IsSent (requests.Info number) = ⊥
IsSent (requests.Note text) = ⊥
IsSent request = IsInRange Narrow request

in_range : (request : RequestValue) → IsSent request → IsInRange Narrow request
in_range requests.Banner is = is
in_range (requests.Challenge user) is = is
in_range (requests.Reply text) is = ap is_typed_reply is.1 ∙ is_password_text is.0
in_range requests.Abandon is = is
in_range (requests.Export state) is = is
in_range requests.Import is = is
in_range (requests.ReadAt handle offset max) is = is
in_range (requests.WriteAt handle offset bytes) is = is
in_range (requests.OpenFile mode name) is = is
in_range (requests.CloseFile handle) is = is
in_range (requests.Info number) is = absurd is
in_range (requests.Note text) is = absurd is
in_range requests.Finish is = is

-- what it asks is what the drill says that it asks
ask_for : (words : List (List ℕ)) (request : RequestValue) (ask : Ask) → IsSent request → Asks words request ask → IsAskFor request ask
ask_for words requests.Banner ask is asked = asked
ask_for words (requests.Challenge user) ask is asked = asked
ask_for words (requests.Reply text) ask is asked =
    let are = subst (λ (t : List ℕ). AreCandidatesOf words t asked.0 asked.1) is.1 asked.2 in
    let read = readings words is.0 asked.0 asked.1 are in
    (number_of is.0, is.1 ∙ same_text is.0, asked.3 ∙ ap (λ (o : Option ℕ). asks.Reply o asked.1) read.0 ∙ ap (asks.Reply None) read.1)
ask_for words requests.Abandon ask is asked = asked
ask_for words (requests.Export state) ask is asked = asked
ask_for words requests.Import ask is asked = asked
ask_for words (requests.ReadAt handle offset max) ask is asked = asked
ask_for words (requests.WriteAt handle offset bytes) ask is asked = asked
ask_for words (requests.OpenFile mode name) ask is asked = asked
ask_for words (requests.CloseFile handle) ask is asked = asked
ask_for words (requests.Info number) ask is asked = absurd is
ask_for words (requests.Note text) ask is asked = absurd is
ask_for words requests.Finish ask is asked = asked

word_short : (most : ℕ) (begins continues : ℕ → Bool) (bytes : List ℕ) → is_word most begins continues bytes ≡ true → length bytes ≤ most
word_short most begins continues [] is = absurd (false≢true is)
word_short most begins continues (c ∷ cs) is =
    leb-true (length (c ∷ cs)) most (and_parts (nat_le (length (c ∷ cs)) most) (begins c) (and_parts (nat_le (length (c ∷ cs)) most && begins c) (list_all continues cs) is).0).0

reply_short : (text : List ℕ) → is_typed_reply text ≡ true → length text ≤ 256
unfolding is_typed_reply
reply_short text is = leb-true (length text) 256 (and_parts (nat_le 1 (length text)) (nat_le (length text) 256) (and_parts (nat_le 1 (length text) && nat_le (length text) 256) (list_all is_typed text) is).0).1

name_short : (user : List ℕ) → is_name user ≡ true → length user ≤ 32
unfolding is_name
name_short user is = word_short 32 begins_name continues_name user is

label_short : (name : List ℕ) → is_label name ≡ true → length name ≤ 64
unfolding is_label
label_short name is = word_short 64 is_ascii_lowercase continues_label name is

-- a request's message is one
short_payload : (request : RequestValue) → IsSent request → length (payload_of request) ≤ 16368
unfolding payload_of
short_payload requests.Banner is = lit≤ tt
short_payload (requests.Challenge user) is = omega (arith, name_short user is)
short_payload (requests.Reply text) is = omega (arith, reply_short text (in_range (requests.Reply text) is))
short_payload requests.Abandon is = lit≤ tt
short_payload (requests.Export state) is = omega (arith, is)
short_payload requests.Import is = lit≤ tt
short_payload (requests.ReadAt handle offset max) is = lit≤ tt
short_payload (requests.WriteAt handle offset bytes) is = omega (arith, is.3)
short_payload (requests.OpenFile mode name) is = omega (arith, label_short name is.2)
short_payload (requests.CloseFile handle) is = lit≤ tt
short_payload (requests.Info number) is = absurd is
short_payload (requests.Note text) is = absurd is
short_payload requests.Finish is = lit≤ tt

small_kind : (request : RequestValue) → kind_number (kind_of request) < 2 ^ 32
small_kind requests.Banner = lit< tt
small_kind (requests.Challenge user) = lit< tt
small_kind (requests.Reply text) = lit< tt
small_kind requests.Abandon = lit< tt
small_kind (requests.Export state) = lit< tt
small_kind requests.Import = lit< tt
small_kind (requests.ReadAt handle offset max) = lit< tt
small_kind (requests.WriteAt handle offset bytes) = lit< tt
small_kind (requests.OpenFile mode name) = lit< tt
small_kind (requests.CloseFile handle) = lit< tt
small_kind (requests.Info number) = lit< tt
small_kind (requests.Note text) = lit< tt
small_kind requests.Finish = lit< tt

pub is_message : (request : RequestValue) → IsSent request → IsMessage Narrow 16384 (request_message request)
is_message request is =
    let short = short_payload request is in
    record { fields = FitsFields-composed Narrow (kind_number (kind_of request)) 0 0 (payload_of request) (small_kind request) (lit< tt) (lit< tt) (omega arith); len = refl; within = omega arith }

-- a message that is a request's message asks for the request
asked_by_message : (words : List (List ℕ)) (request : RequestValue) (ask : Ask) → IsSent request → IsAskOf Narrow words (request_message request) ask → IsAskFor request ask
asked_by_message words request ask is asked =
    let value : request_of Narrow (kind_number (kind_of request)) 0 (payload_of request) ≡ Ok request =
    IsRequest-request_of Narrow (kind_number (kind_of request)) 0 (payload_of request) request (record { no_flags = refl; of_kind = refl; in_range = in_range request is; spelled = refl }) in
    ask_for words request ask is (subst (λ (r : Result RequestValue Bad). MatchResult r (λ v. Asks words v ask) (λ bad. ask ≡ asks.Bad bad.rule bad.detail)) value asked)

-- the steps ask for the first of the requests, and the others are left
abbrev pub AsksFirst : List RequestValue → List Step → List RequestValue → Type 0
AsksFirst all [] left = all ≡ left
AsksFirst [] (step ∷ steps) left = ⊥
AsksFirst (request ∷ all) (step ∷ steps) left = IsAskFor request step.place.event.ask × AsksFirst all steps left

-- bytes of steps, of which the requests' bytes and a tail of fewer than 16 are what they and others after them are
pub record Said (all : List RequestValue) (tail : List ℕ) (steps : List Step) (behind : List ℕ) : Type 0 where
  pub left : List RequestValue
  pub asked : AsksFirst all steps left
  pub sent : AllByRecursion IsSent left
  pub behind_is : behind ≡ requests_bytes left ++ tail

first_bytes : (message : Message) (more behind tail : List ℕ) → length tail < 16 → (spelling_of Narrow message ++ more) ++ behind ≡ tail → ⊥
first_bytes message more behind tail short same =
    absurd (omega (arith, ap length same, length-append (spelling_of Narrow message ++ more) behind, length-append (spelling_of Narrow message) more, length-spelling_of Narrow message))

pub said : (service : Service) (all : List RequestValue) (tail : List ℕ) (steps : List Step) (behind : List ℕ) → service.setup.frames ≡ Narrow → AllByRecursion IsSent all → length tail < 16 → AllByRecursion (IsRequestStep service) steps
    → step_bytes Narrow steps ++ behind ≡ requests_bytes all ++ tail → Said all tail steps behind
said service all tail [] behind narrow sent short each same = record { left = all; asked = refl; sent = sent; behind_is = same }
said service [] tail (step ∷ steps) behind narrow sent short each same = by_message step.message each.0.came same where
  by_message : (message : Option Message) → IsSomeAnd message (λ m. CameBy service m step.place.event.ask) → (message_bytes Narrow message ++ step_bytes Narrow steps) ++ behind ≡ tail → Said [] tail (step ∷ steps) behind
  by_message None came same' = absurd came
  by_message (Some message) came same' = absurd (first_bytes message (step_bytes Narrow steps) behind tail short same')
said service (request ∷ all) tail (step ∷ steps) behind narrow sent short each same = by_message (said service all tail steps behind narrow sent.1 short each.1) step.message each.0.came same where
  by_message : (step_bytes Narrow steps ++ behind ≡ requests_bytes all ++ tail → Said all tail steps behind) → (message : Option Message) → IsSomeAnd message (λ m. CameBy service m step.place.event.ask)
      → (message_bytes Narrow message ++ step_bytes Narrow steps) ++ behind ≡ (request_bytes request ++ requests_bytes all) ++ tail → Said (request ∷ all) tail (step ∷ steps) behind
  by_message others None came same' = absurd came
  by_message others (Some message) came same' =
      let framed = subst (λ w. IsMessage w (frame_max w) message) narrow came.framed in
      let regrouped : spelling_of Narrow message ++ (step_bytes Narrow steps ++ behind) ≡ spelling_of Narrow (request_message request) ++ (requests_bytes all ++ tail) =
      sym (append_assoc (spelling_of Narrow message) (step_bytes Narrow steps) behind) ∙ same' ∙ append_assoc (request_bytes request) (requests_bytes all) tail in
      let both = one_message Narrow 16384 16384 message (request_message request) (step_bytes Narrow steps ++ behind) (requests_bytes all ++ tail) framed (is_message request sent.0) regrouped in
      let more = others both.1 in
      let asked = subst (λ m. IsAskOf Narrow service.words m step.place.event.ask) both.0 (subst (λ w. IsAskOf w service.words message step.place.event.ask) narrow came.asked) in
      record { left = more.left; asked = (asked_by_message service.words request step.place.event.ask sent.0 asked, more.asked); sent = more.sent; behind_is = more.behind_is }
