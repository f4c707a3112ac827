-- What a frame that was taken does to the frames and the bytes that are held.
use Rattle.std.proofs.Common.{◌≡◌, ℕ, ◌<◌, List, [], ◌∷◌, ◌++◌, length, refl, sym, ap, subst, ◌∙◌, append_assoc, arith, inl, inr}
use Rattle.std.proofs.lemmas.List.{length-append, map_push}
use Rattle.imsg_frame.specs.declared.header.Header.{Header}
use Rattle.imsg_frame.specs.declared.frame.OwnedFrame.{OwnedFrame}
use Rattle.imsg_frame.specs.declared.reader.Next.{Next}
use Rattle.imsg_frame.specs.declared.reader.Next.TheVariants as next
use Rattle.request_catalogue.specs.declared.width.Width.{Width}
use Rattle.imsg_frame.specs.Message.{Message, owned_message_of, messages_in, spelling_of, IsMessage}
use Rattle.imsg_frame.specs.Held.{Held}
use Rattle.imsg_frame.specs.Cut.{IsCut, AddsCut, IsLastFront}
use Rattle.imsg_frame.specs.Answer.{IsAnswer, HasGiven, AfterNext, given_as, rested}
use Rattle.imsg_frame.proofs.Spelling.{length-spelling_of}
use Rattle.imsg_frame.proofs.Cuts.{IsCut-more}

-- what next said, where it gave a frame
record Gave (h : Header) (old new : Held) : Type 0 where
  right : IsMessage old.width old.max (given_as h new.given)
  after : HasGiven old (given_as h new.given) new

Gave-from_answer : (answer : Next) (h : Header) (old new : Held) → answer ≡ next.Frame h → IsAnswer old.width old.max old.bytes new.given answer → AfterNext old answer new → Gave h old new
Gave-from_answer answer h old new is says after =
    let says_frame = subst (λ (a : Next). IsAnswer old.width old.max old.bytes new.given a) is says in
    record { right = ((says_frame.frame (given_as h new.given)).0 refl).right; after = subst (λ (a : Next). AfterNext old a new) is after }

-- the frame that next gave is one message more, and what is held then is the rest
pub IsCut-next : (width : Width) (max : ℕ) (bytes : List ℕ) (messages : List Message) (answer : Next) (h : Header) (old new : Held) → answer ≡ next.Frame h → IsAnswer old.width old.max old.bytes new.given answer → AfterNext old answer new
    → old.width ≡ width → old.max ≡ max → IsCut width max bytes messages old.bytes → IsCut width max bytes (messages ++ given_as h new.given ∷ []) new.bytes
IsCut-next width max bytes messages answer h old new is says after same_width same_max cut =
    let gave = Gave-from_answer answer h old new is says after in
    let spelled : old.bytes ≡ spelling_of width (given_as h new.given) ++ new.bytes = gave.after.bytes ∙ ap (λ (w : Width). spelling_of w (given_as h new.given) ++ new.bytes) same_width in
    let held : IsCut width max bytes messages (spelling_of width (given_as h new.given) ++ new.bytes) = subst (λ (b : List ℕ). IsCut width max bytes messages b) spelled cut in
    let right : IsMessage width old.max (given_as h new.given) = subst (λ (w : Width). IsMessage w old.max (given_as h new.given)) same_width gave.right in
    IsCut-more width max bytes messages (given_as h new.given) new.bytes (subst (λ (n : ℕ). IsMessage width n (given_as h new.given)) same_max right) held

-- and it was added
pub AddsCut-next : (width : Width) (max : ℕ) (before messages after : List Message) (bytes : List ℕ) (answer : Next) (h : Header) (old new : Held) → answer ≡ next.Frame h → IsAnswer old.width old.max old.bytes new.given answer → AfterNext old answer new
    → old.width ≡ width → old.max ≡ max → messages ++ given_as h new.given ∷ [] ≡ after → AddsCut width max before bytes messages old.bytes → AddsCut width max before bytes after new.bytes
AddsCut-next width max before messages after bytes answer h old new is says after_next same_width same_max pushed adds =
    (adds.0 ++ given_as h new.given ∷ [], sym pushed ∙ ap (λ (ms : List Message). ms ++ given_as h new.given ∷ []) adds.1 ∙ append_assoc before adds.0 (given_as h new.given ∷ []), IsCut-next width max bytes adds.0 answer h old new is says after_next same_width same_max adds.2)

-- and fewer bytes are held
pub held-falls : (answer : Next) (h : Header) (old new : Held) → answer ≡ next.Frame h → IsAnswer old.width old.max old.bytes new.given answer → AfterNext old answer new → length new.bytes < length old.bytes
held-falls answer h old new is says after =
    let gave = Gave-from_answer answer h old new is says after in
    omega (arith, ap length gave.after.bytes, length-append (spelling_of old.width (given_as h new.given)) new.bytes, length-spelling_of old.width (given_as h new.given))

pub max-next : (answer : Next) (old new : Held) → AfterNext old answer new → new.max ≡ old.max
max-next (next.Frame h) old new after = after.max
max-next next.NotYet old new after = ap (λ (r : Held). r.max) after
max-next (next.Bad len) old new after = ap (λ (r : Held). r.max) after

pub width-next : (answer : Next) (old new : Held) → AfterNext old answer new → new.width ≡ old.width
width-next (next.Frame h) old new after = after.width
width-next next.NotYet old new after = ap (λ (h : Held). h.width) after
width-next (next.Bad len) old new after = ap (λ (h : Held). h.width) after

-- the frame was added to the frames
pub messages_in-push : (frames now : List OwnedFrame) (owned : OwnedFrame) (message : Message) → now ≡ frames ++ owned ∷ [] → owned_message_of owned ≡ message → messages_in frames ++ message ∷ [] ≡ messages_in now
messages_in-push frames now owned message pushed same =
    ap (λ (m : Message). messages_in frames ++ m ∷ []) (sym same) ∙ sym (map_push owned_message_of frames owned) ∙ ap messages_in (sym pushed)

-- an answer that is no frame
pub record Rested (old new : Held) : Type 0 where
  pub same : new ≡ rested old
  pub last : IsLastFront old.width old.max old.bytes

pub Rested-from_answer : (answer : Next) (old new : Held) → ((h : Header) → answer ≡ next.Frame h → ⊥) → IsAnswer old.width old.max old.bytes new.given answer → AfterNext old answer new → Rested old new
Rested-from_answer (next.Frame h) old new no_frame is after = absurd (no_frame h refl)
Rested-from_answer next.NotYet old new no_frame is after = record { same = after; last = inl (is.not_yet.0 refl) }
Rested-from_answer (next.Bad len) old new no_frame is after = record { same = after; last = inr (len, (is.bad len).0 refl) }
