-- The receivings that are asked of a child, in order.
use Rattle.std.proofs.Common.{◌≡◌, ℕ, ◌+◌, List, [], ◌∷◌, ◌++◌, length, Option, Some, None, refl, sym, ap, subst, ◌∙◌, append_assoc, arith}
use Rattle.std.specs.Prelude.{IfSome}
use Rattle.std.specs.List.{AllByRecursion}
use Rattle.std.proofs.lemmas.List.{length-append}
use Rattle.std.proofs.lemmas.List.Concat.{flat_map-append}
use Rattle.imsg_frame.specs.Cut.{IsPartialFront}
use Rattle.outside.specs.declared.receiving.Receiving.{Receiving}
use Rattle.outside.specs.Link.{Exchanged, IsAskedOnce, IsUnasked, Link, receiving_at}
use Rattle.outside.specs.Scene.{IsUnused}
use Rattle.outside.specs.Told.{Gains, Goes}
use Rattle.outside.proofs.Told.{Gains-then}
use Rattle.request_catalogue.specs.declared.width.Width.{Width}
use Rattle.request_catalogue.specs.Widths.{frame_max}
use Rattle.service_model.specs.Answers.{answer_to, answers}
use Rattle.service_model.specs.Cases.{message_bytes}
use Rattle.service_model.specs.Parts.{IsInOrder, step_bytes}
use Rattle.service_model.specs.Places.{Step}
use Rattle.service_model.specs.Service.{Service}
use Rattle.service_model.proofs.Lists.{All-append}
use Rattle.session_loop.specs.Child.{AsksFrom, IsAskedFrom, receivings_in}

-- what holds of each element of a list, weaker
All-weaker : {X : Type 0} (P Q : X → Type 0) → ((x : X) → P x → Q x) → (xs : List X) → AllByRecursion P xs → AllByRecursion Q xs
All-weaker P Q weaker [] each = tt
All-weaker P Q weaker (x ∷ xs) each = (weaker x each.0, All-weaker P Q weaker xs each.1)

pub bytes-append : (width : Width) (xs ys : List Step) → step_bytes width (xs ++ ys) ≡ step_bytes width xs ++ step_bytes width ys
bytes-append width xs ys = flat_map-append (λ s. message_bytes width s.message) xs ys

pub answers-append : (service : Service) (exported : List ℕ) (xs ys : List Step) → answers service exported (xs ++ ys) ≡ answers service exported xs ++ answers service exported ys
answers-append service exported xs ys = flat_map-append (answer_to service exported) xs ys

-- a receiving that was in order still is, after more requests and bytes
order_longer : (service : Service) (exported : List ℕ) (xs ys : List Step) (bytes more : List ℕ) (r : Receiving) → IsInOrder service exported xs bytes r → IsInOrder service exported (xs ++ ys) (bytes ++ more) r
order_longer service exported xs ys bytes more r is = record {
  answered = is.answered;
  later = is.later ++ ys;
  served_is = ap (λ zs. zs ++ ys) is.served_is ∙ append_assoc is.answered is.later ys;
  held = is.held;
  partial = is.partial;
  behind = is.behind ++ more;
  taken_is = ap (λ zs. zs ++ more) is.taken_is ∙ append_assoc (step_bytes service.setup.frames is.answered ++ is.held) is.behind more;
  had_taken = is.had_taken;
  had_sent = is.had_sent;
}

-- one that is in order after some requests is so among all
order_later : (service : Service) (exported : List ℕ) (xs ys : List Step) (first held more : List ℕ) (r : Receiving) → first ≡ step_bytes service.setup.frames xs ++ held → IsInOrder service exported ys (held ++ more) r → IsInOrder service exported (xs ++ ys) (first ++ more) (record { taken = length (step_bytes service.setup.frames xs) + r.taken; sent = length (answers service exported xs) + r.sent })
order_later service exported xs ys first held more r framed is =
    let width = service.setup.frames in
    let own = step_bytes width is.answered ++ is.held in
    let whole : step_bytes width xs ++ own ≡ step_bytes width (xs ++ is.answered) ++ is.held = sym (append_assoc (step_bytes width xs) (step_bytes width is.answered) is.held) ∙ ap (λ z. z ++ is.held) (sym (bytes-append width xs is.answered)) in
    record {
      answered = xs ++ is.answered;
      later = is.later;
      served_is = ap (λ zs. xs ++ zs) is.served_is ∙ sym (append_assoc xs is.answered is.later);
      held = is.held;
      partial = is.partial;
      behind = is.behind;
      taken_is = ap (λ z. z ++ more) framed ∙ append_assoc (step_bytes width xs) held more ∙ ap (λ z. step_bytes width xs ++ z) is.taken_is ∙ sym (append_assoc (step_bytes width xs) own is.behind) ∙ ap (λ z. z ++ is.behind) whole;
      had_taken = ap (λ n. length (step_bytes width xs) + n) is.had_taken ∙ sym (length-append (step_bytes width xs) own) ∙ ap length whole;
      had_sent = ap (λ n. length (answers service exported xs) + n) is.had_sent ∙ sym (length-append (answers service exported xs) (answers service exported is.answered)) ∙ ap length (sym (answers-append service exported xs is.answered));
    }

asked_longer : (service : Service) (exported : List ℕ) (xs ys : List Step) (bytes more : List ℕ) (taken sent held : ℕ) (r : Receiving) → IsAskedFrom service exported xs bytes taken sent held r → IsAskedFrom service exported (xs ++ ys) (bytes ++ more) taken sent held r
asked_longer service exported xs ys bytes more taken sent held r asked = record {
  counted = asked.counted;
  is = order_longer service exported xs ys bytes more asked.counted asked.is;
  had_taken = asked.had_taken;
  had_sent = asked.had_sent;
}

asked_later : (service : Service) (exported : List ℕ) (xs ys : List Step) (first held more : List ℕ) (taken sent old taken' sent' : ℕ) (r : Receiving) → first ≡ step_bytes service.setup.frames xs ++ held → taken' + old ≡ taken + (length (step_bytes service.setup.frames xs) + length held) → sent' ≡ sent + length (answers service exported xs) → IsAskedFrom service exported ys (held ++ more) taken' sent' (length held) r → IsAskedFrom service exported (xs ++ ys) (first ++ more) taken sent old r
asked_later service exported xs ys first held more taken sent old taken' sent' r framed from_taken from_sent asked =
    let had_taken = asked.had_taken in
    let had_sent = asked.had_sent in
    record {
      counted = record { taken = length (step_bytes service.setup.frames xs) + asked.counted.taken; sent = length (answers service exported xs) + asked.counted.sent };
      is = order_later service exported xs ys first held more asked.counted framed asked.is;
      had_taken = omega (arith, had_taken, from_taken);
      had_sent = omega (arith, had_sent, from_sent);
    }

asks_then : (service : Service) (exported : List ℕ) (xs ys : List Step) (h r i r' : List ℕ) (a b c : Link) → h ++ r ≡ step_bytes service.setup.frames xs ++ i → Exchanged r (answers service exported xs) a b → AsksFrom service exported xs h r a b → AsksFrom service exported ys i r' b c → AsksFrom service exported (xs ++ ys) h (r ++ r') a c
asks_then service exported xs ys h r i r' a b c framed passed first second =
    let width = service.setup.frames in
    let Old = IsAskedFrom service exported xs (h ++ r) (length a.taken) (length a.sent) (length h) in
    let New = IsAskedFrom service exported ys (i ++ r') (length b.taken) (length b.sent) (length i) in
    let All = IsAskedFrom service exported (xs ++ ys) (h ++ (r ++ r')) (length a.taken) (length a.sent) (length h) in
    let joined : IsAskedFrom service exported (xs ++ ys) ((h ++ r) ++ r') (length a.taken) (length a.sent) (length h) ≡ All = ap (λ z. IsAskedFrom service exported (xs ++ ys) z (length a.taken) (length a.sent) (length h)) (append_assoc h r r') in
    let took : length b.taken ≡ length a.taken + length r = ap length passed.taken ∙ length-append a.taken r in
    let gave : length b.sent ≡ length a.sent + length (answers service exported xs) = ap length passed.sent ∙ length-append a.sent (answers service exported xs) in
    let lengths : length h + length r ≡ length (step_bytes width xs) + length i = sym (length-append h r) ∙ ap length framed ∙ length-append (step_bytes width xs) i in
    let from_taken : length b.taken + length h ≡ length a.taken + (length (step_bytes width xs) + length i) = omega (arith, took, lengths) in
    record {
      more = first.more ++ second.more;
      gained = Gains-then a.receivings b.receivings c.receivings first.more second.more first.gained second.gained;
      each = All-append All first.more second.more
          (All-weaker Old All (λ x asked. subst (λ z. IsAskedFrom service exported (xs ++ ys) z (length a.taken) (length a.sent) (length h) x) (append_assoc h r r') (asked_longer service exported xs ys (h ++ r) r' (length a.taken) (length a.sent) (length h) x asked)) first.more first.each)
          (All-weaker New All (λ x asked. subst (λ z. IsAskedFrom service exported (xs ++ ys) z (length a.taken) (length a.sent) (length h) x) (append_assoc h r r') (asked_later service exported xs ys (h ++ r) i r' (length a.taken) (length a.sent) (length h) (length b.taken) (length b.sent) x framed from_taken gave asked)) second.more second.each);
    }

-- those of two stretches of serving
pub Asks-then : (service : Service) (exported : List ℕ) (xs ys : List Step) (h r i r' : List ℕ) (a b c : Option Link) → h ++ r ≡ step_bytes service.setup.frames xs ++ i → Goes (Exchanged r (answers service exported xs)) a b → Goes (AsksFrom service exported xs h r) a b → Goes (AsksFrom service exported ys i r') b c → Goes (AsksFrom service exported (xs ++ ys) h (r ++ r')) a c
Asks-then service exported xs ys h r i r' a b None framed passed first second = tt
Asks-then service exported xs ys h r i r' a None (Some c) framed passed first second = absurd second
Asks-then service exported xs ys h r i r' None (Some b) (Some c) framed passed first second = absurd first
Asks-then service exported xs ys h r i r' (Some a) (Some b) (Some c) framed passed first second = asks_then service exported xs ys h r i r' a b c framed passed first second

-- none was asked
pub Asks-none : (service : Service) (exported : List ℕ) (xs : List Step) (h r : List ℕ) (a b : Option Link) → Goes IsUnasked a b → Goes (AsksFrom service exported xs h r) a b
Asks-none service exported xs h r a None unasked = tt
Asks-none service exported xs h r None (Some b) unasked = absurd unasked
Asks-none service exported xs h r (Some a) (Some b) unasked = record { more = []; gained = unasked; each = tt }

asked_once : (service : Service) (exported held received : List ℕ) (a : Link) → IsPartialFront service.setup.frames (frame_max service.setup.frames) held → IsAskedFrom service exported [] (held ++ received) (length a.taken) (length a.sent) (length held) (receiving_at a)
asked_once service exported held received a partial = record {
  counted = record { taken = length held; sent = 0 };
  is = record {
    answered = [];
    later = [];
    served_is = refl;
    held = held;
    partial = partial;
    behind = received;
    taken_is = refl;
    had_taken = refl;
    had_sent = refl;
  };
  had_taken = refl;
  had_sent = omega arith;
}

-- one was asked, where no whole frame was held
pub Asks-once : (service : Service) (exported held received : List ℕ) (a b : Option Link) → IsPartialFront service.setup.frames (frame_max service.setup.frames) held → Goes IsAskedOnce a b → Goes (AsksFrom service exported [] held received) a b
Asks-once service exported held received a None partial asked = tt
Asks-once service exported held received None (Some b) partial asked = absurd asked
Asks-once service exported held received (Some a) (Some b) partial asked =
    record { more = receiving_at a ∷ []; gained = asked; each = (asked_once service exported held received a partial, tt) }

-- counted from its start, a child's receivings are in order
order_whole : (service : Service) (exported : List ℕ) (xs : List Step) (received : List ℕ) (r : Receiving) → IsAskedFrom service exported xs received 0 0 0 r → IsInOrder service exported xs received r
order_whole service exported xs received r asked =
    let taken = asked.had_taken in
    let sent = asked.had_sent in
    let same_taken : r.taken ≡ asked.counted.taken = omega (arith, taken) in
    let same_sent : r.sent ≡ asked.counted.sent = omega (arith, sent) in
    record {
      answered = asked.is.answered;
      later = asked.is.later;
      served_is = asked.is.served_is;
      held = asked.is.held;
      partial = asked.is.partial;
      behind = asked.is.behind;
      taken_is = asked.is.taken_is;
      had_taken = same_taken ∙ asked.is.had_taken;
      had_sent = same_sent ∙ asked.is.had_sent;
    }

asks_whole : (service : Service) (exported : List ℕ) (xs : List Step) (held received : List ℕ) (a b : Link) → held ≡ [] → IsUnused a → AsksFrom service exported xs held received a b → IfSome b.receivings (AllByRecursion (IsInOrder service exported xs received))
asks_whole service exported xs held received a b none unused asks = go a.receivings b.receivings unused.unasked asks.gained where
  each : AllByRecursion (IsInOrder service exported xs received) asks.more
  each = All-weaker (IsAskedFrom service exported xs (held ++ received) (length a.taken) (length a.sent) (length held)) (IsInOrder service exported xs received) (λ r asked. order_whole service exported xs received r (at_start r asked)) asks.more asks.each where
    at_start : (r : Receiving) → IsAskedFrom service exported xs (held ++ received) (length a.taken) (length a.sent) (length held) r → IsAskedFrom service exported xs received 0 0 0 r
    at_start r asked =
        let first = subst (λ (h : List ℕ). IsAskedFrom service exported xs (h ++ received) (length a.taken) (length a.sent) (length h) r) none asked in
        let second = subst (λ (t : List ℕ). IsAskedFrom service exported xs received (length t) (length a.sent) 0 r) unused.taken first in
        subst (λ (t : List ℕ). IsAskedFrom service exported xs received 0 (length t) 0 r) unused.sent second

  go : (old new : Option (List Receiving)) → IfSome old (λ rs. rs ≡ []) → Gains old asks.more new → IfSome new (AllByRecursion (IsInOrder service exported xs received))
  go old None nothing gained = tt
  go None (Some rs) nothing gained = absurd gained
  go (Some qs) (Some rs) nothing gained = subst (AllByRecursion (IsInOrder service exported xs received)) (sym (gained ∙ ap (λ zs. zs ++ asks.more) nothing)) each

pub Asks-whole : (service : Service) (exported : List ℕ) (xs : List Step) (held received : List ℕ) (a b : Option Link) → held ≡ [] → IfSome a IsUnused → Goes (AsksFrom service exported xs held received) a b → IfSome (receivings_in b) (AllByRecursion (IsInOrder service exported xs received))
Asks-whole service exported xs held received a None none unused asks = tt
Asks-whole service exported xs held received None (Some b) none unused asks = absurd asks
Asks-whole service exported xs held received (Some a) (Some b) none unused asks = asks_whole service exported xs held received a b none unused asks
