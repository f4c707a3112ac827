-- Messages to a child.
use Rattle.std.proofs.Common.{◌≡◌, ℕ, ◌*◌, ◌<◌, ◌≤◌, List, [], ◌∷◌, ◌++◌, length, refl, sym, ap, subst, ◌∙◌, arith, Option, Some}
use Rattle.imsg_frame.specs.Message.{Message}
use Rattle.request_catalogue.specs.declared.kind.Kind.{Kind}
use Rattle.request_catalogue.specs.Catalogue.{RequestValue, Banner, Import, kind_of}
use Rattle.request_catalogue.specs.Replies.{AnswerValue}
use Rattle.child_protocol.specs.Exchanges.{Exchange}
use Rattle.child_protocol.specs.Pre.{pre_next}
use Rattle.child_protocol.specs.User.{user_next}
use Rattle.child_protocol.specs.Says.{Role, Pre, User, exchanges_of, says}
use Rattle.child_protocol.specs.Frames.{IsTurn}
use Rattle.child_protocol.specs.Replies.{FitsForm, IsReplyOf, form_of}
use Rattle.child_protocol.specs.Places.{Kept, IsAsked, request_at}
use Rattle.child_protocol.specs.Steps.{IsUsable, Move, Takes, move}
use Rattle.child_protocol.specs.Stands.{IsAt, IsLineAt, StandsFor, IsOnLine, first_place, first_request, fresh}
use Rattle.child_protocol.specs.Cores.{IsRefused, IsShort, TakesMessage}
use Rattle.child_protocol.specs.declared.form.Form.{Form}
use Rattle.child_protocol.specs.declared.place.Place.{Place}
use Rattle.child_protocol.specs.declared.place.Place.TheVariants as places
use Rattle.child_protocol.specs.declared.turn.Turn.{Turn}
use Rattle.child_protocol.proofs.Replies.{Asked, exchanges_of-push, exchanges_few, reply_taken, reply_refused}
use Rattle.child_protocol.proofs.Steps.{arrives, asked_last}

-- a child that asked nothing yet begins
new_line : (role : Role) → IsOnLine role fresh.heard []
new_line Pre = record { keeps = record { held = refl; whole = tt; state = (refl, refl); challenged = refl; few_lines = omega arith; few_bytes = omega arith }; texts = refl; goes_on = refl }
new_line (User who) = record { keeps = record { held = refl; whole = tt; state = tt; challenged = refl; few_lines = omega arith; few_bytes = omega arith }; texts = refl; goes_on = refl }

new_at : (role : Role) → StandsFor role (record fresh { place = first_place role }) []
unfolding exchanges_of pre_next user_next
new_at Pre = (Some Banner, record { word = []; number = 0; asks_is = refl; next = refl; line = (tt, new_line Pre) })
new_at (User who) = (Some Import, record { word = []; number = 0; asks_is = refl; next = refl; line = (tt, refl, new_line (User who)) })

pub begins : (role : Role) (before after : Kept) → before ≡ fresh → after ≡ record before { place = first_place role } → StandsFor role after []
begins role before after new after_is =
    let P : Kept → Type 0 = λ k. StandsFor role k [] in
    subst P (sym (after_is ∙ ap (λ (k : Kept). record k { place = first_place role }) new)) (new_at role)

pub first_asked : (role : Role) → says role [] ≡ Some (first_request role)
unfolding says exchanges_of pre_next user_next
first_asked Pre = refl
first_asked (User who) = refl

-- the kind and the form of what is asked at a place
pub record IsOf (place : Place) (kind : Kind) (form : Form) : Type 0 where
  pub kind_is : (kept : Kept) (word : List ℕ) (number : ℕ) → kind ≡ kind_of (request_at place kept word number)
  pub form_is : (kept : Kept) (word : List ℕ) (number : ℕ) → form ≡ form_of (request_at place kept word number)

asked_of : (role : Role) (kept : Kept) (kind : Kind) (form : Form) (answers : List AnswerValue) → IsOf kept.place kind form → IsAsked kept.place → StandsFor role kept answers → Asked role kind form (exchanges_of role answers)
asked_of role kept kind form answers of asked stands = record {
  request = request_at kept.place kept stands.1.word stands.1.number;
  next = asked_last role kept stands.0 (exchanges_of role answers) stands.1 asked;
  kind_is = of.kind_is kept stands.1.word stands.1.number;
  form_is = of.form_is kept stands.1.word stands.1.number;
}

-- the counts fit, and the texts are some, since a run is short
ready_at : (place : Place) (role : Role) (kept : Kept) (word : List ℕ) (history : List Exchange) → IsLineAt place role kept word history → length history < 4097 → IsUsable place kept
ready_at places.Saying role kept word history line short = (let few : kept.heard.lines ≤ length history = line.keeps.few_lines in omega arith)
ready_at places.Reading role kept word history line short =
    let few : kept.heard.lines ≤ length history = line.keeps.few_lines in
    let bytes : kept.heard.read ≤ 512 * length history = line.keeps.few_bytes in
    (omega arith, omega arith, line.short)
ready_at places.OpeningPut role kept word history line short = line.3
ready_at places.Closing role kept word history line short = line.3
ready_at _ role kept word history line short = tt

pub ready : (role : Role) (kept : Kept) → IsShort (StandsFor role kept) → IsUsable kept.place kept
ready role kept has = ready_at kept.place role kept has.1.1.word (exchanges_of role has.0) has.1.1.line (omega (arith, exchanges_few role has.0, has.2))

-- the move that a reply leads to
moved : (role : Role) (kept : Kept) (kind : Kind) (form : Form) (answer : AnswerValue) (answers : List AnswerValue) → IsOf kept.place kind form → IsAsked kept.place → FitsForm form answer → (stands : StandsFor role kept answers)
    → IsAt role (move role answer kept).kept (move role answer kept).asks (exchanges_of role (answers ++ answer ∷ []))
moved role kept kind form answer answers of asked fits stands =
    let to : Move = move role answer kept in
    let P : Form → Type 0 = λ f. FitsForm f answer in
    let Q : List Exchange → Type 0 = λ h. IsAt role to.kept to.asks h in
    subst Q (sym (exchanges_of-push role answers answer))
    (arrives role kept stands.0 answer (exchanges_of role answers) stands.1 asked (subst P (of.form_is kept stands.1.word stands.1.number) fits))

-- a reply was taken
pub message_taken : (role : Role) (session : ℕ) (kind : Kind) (form : Form) (before after : Kept) (message : Message) (found : AnswerValue) (turn : Turn) (old new : List ℕ) → IsOf before.place kind form → IsAsked before.place
    → IsReplyOf session kind form message found → Takes (move role found before) after turn old new
    → (answers : List AnswerValue) → StandsFor role before answers → TakesMessage role session answers message (StandsFor role after) turn old new
message_taken role session kind form before after message found turn old new of asked reply takes answers stands =
    let to : Move = move role found before in
    let now = moved role before kind form found answers of asked reply.fits stands in
    let history : List Exchange = exchanges_of role (answers ++ found ∷ []) in
    let P : Kept → Type 0 = λ k. IsAt role k to.asks history in
    let Q : Option RequestValue → Type 0 = λ o. IsTurn o turn old new in
    reply_taken role session kind form (StandsFor role after) message found turn old new answers (asked_of role before kind form answers of asked stands) reply
    (to.asks, subst P (sym takes.kept) now) (subst Q (sym now.next) takes.asks)

-- a message that is no reply was not taken
pub message_refused : (role : Role) (session : ℕ) (kind : Kind) (form : Form) (before : Kept) (message : Message) → IsOf before.place kind form → IsAsked before.place
    → ((answer : AnswerValue) → IsReplyOf session kind form message answer → ⊥)
    → (answers : List AnswerValue) → StandsFor role before answers → IsRefused role session answers message
message_refused role session kind form before message of asked none answers stands =
    reply_refused role session kind form message answers (asked_of role before kind form answers of asked stands) none
