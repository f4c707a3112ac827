-- Cuts of a stream, one message more, and that two which go as far are one.
use Rattle.std.proofs.Common.{◌≡◌, ℕ, List, [], ◌∷◌, ◌++◌, take, drop, refl, sym, ap, subst, ◌∙◌, append_assoc, inl, inr}
use Rattle.std.specs.List.{flat_map, AllByRecursion}
use Rattle.std.proofs.lemmas.List.{append-nil, take-append-drop}
use Rattle.std.proofs.lemmas.List.Concat.{flat_map-append}
use Rattle.request_catalogue.specs.declared.width.Width.{Width}
use Rattle.imsg_frame.specs.Message.{Message, spelling_of, IsMessage}
use Rattle.imsg_frame.specs.Cut.{IsCut, IsLongestCut, IsLastFront, IsStop, AddsCut, IsWholeFront}
use Rattle.imsg_frame.proofs.Spelling.{one_message}
use Rattle.imsg_frame.proofs.Fronts.{whole_not_partial, whole_not_bad, IsBadFront-append}

pub IsCut-none : (width : Width) (max : ℕ) (bytes : List ℕ) → IsCut width max bytes [] bytes
IsCut-none width max bytes = record { parts = refl; each = tt }

-- nothing was added yet
pub AddsCut-none : (width : Width) (max : ℕ) (before : List Message) (bytes : List ℕ) → AddsCut width max before bytes before bytes
AddsCut-none width max before bytes = ([], sym (append-nil before), IsCut-none width max bytes)

All-append : (width : Width) (max : ℕ) (ms ns : List Message) → AllByRecursion (IsMessage width max) ms → AllByRecursion (IsMessage width max) ns → AllByRecursion (IsMessage width max) (ms ++ ns)
All-append width max [] ns p q = q
All-append width max (m ∷ ms) ns p q = (p.0, All-append width max ms ns p.1 q)

-- a cut, and then one of its rest
pub IsCut-trans : (width : Width) (max : ℕ) (bytes : List ℕ) (ms : List Message) (rest : List ℕ) (ns : List Message) (last : List ℕ) → IsCut width max bytes ms rest → IsCut width max rest ns last → IsCut width max bytes (ms ++ ns) last
IsCut-trans width max bytes ms rest ns last first second = record {
  parts = first.parts ∙ ap (λ (more : List ℕ). flat_map (spelling_of width) ms ++ more) second.parts ∙ sym (append_assoc (flat_map (spelling_of width) ms) (flat_map (spelling_of width) ns) last)
      ∙ ap (λ (front : List ℕ). front ++ last) (sym (flat_map-append (spelling_of width) ms ns));
  each = All-append width max ms ns first.each second.each;
}

-- more bytes after the stream come after the rest
pub IsCut-append : (width : Width) (max : ℕ) (bytes : List ℕ) (ms : List Message) (rest more : List ℕ) → IsCut width max bytes ms rest → IsCut width max (bytes ++ more) ms (rest ++ more)
IsCut-append width max bytes ms rest more cut = record { parts = ap (λ (front : List ℕ). front ++ more) cut.parts ∙ append_assoc (flat_map (spelling_of width) ms) rest more; each = cut.each }

-- one message more
pub IsCut-more : (width : Width) (max : ℕ) (bytes : List ℕ) (ms : List Message) (m : Message) (rest : List ℕ) → IsMessage width max m → IsCut width max bytes ms (spelling_of width m ++ rest) → IsCut width max bytes (ms ++ m ∷ []) rest
IsCut-more width max bytes ms m rest right cut = IsCut-trans width max bytes ms (spelling_of width m ++ rest) (m ∷ []) rest cut (record { parts = ap (λ (front : List ℕ). front ++ rest) (sym (append-nil (spelling_of width m))); each = (right, tt) })

-- the first n bytes of the rest were fed, and then messages were added
pub AddsCut-fed : (width : Width) (max : ℕ) (before between after : List Message) (bytes held rest fed held_after : List ℕ) (n : ℕ) → AddsCut width max before bytes between (held ++ rest) → fed ≡ held ++ take n rest
    → AddsCut width max between fed after held_after → AddsCut width max before bytes after (held_after ++ drop n rest)
AddsCut-fed width max before between after bytes held rest fed held_after n first fed_is second =
    let parts : held ++ rest ≡ fed ++ drop n rest =
    ap (λ (more : List ℕ). held ++ more) (sym (take-append-drop n rest)) ∙ sym (append_assoc held (take n rest) (drop n rest)) ∙ ap (λ (front : List ℕ). front ++ drop n rest) (sym fed_is) in
    let cut = IsCut-trans width max bytes first.0 (held ++ rest) second.0 (held_after ++ drop n rest) first.2
    (subst (λ (b : List ℕ). IsCut width max b second.0 (held_after ++ drop n rest)) (sym parts) (IsCut-append width max fed second.0 held_after (drop n rest) second.2)) in
    (first.0 ++ second.0, second.1 ∙ ap (λ (ms : List Message). ms ++ second.0) first.1 ∙ append_assoc before first.0 second.0, cut)

whole_not_last : (width : Width) (max : ℕ) (bytes : List ℕ) (m : Message) → IsWholeFront width max bytes m → IsLastFront width max bytes → ⊥
whole_not_last width max bytes m w last = elim last [ inl p ↦ whole_not_partial width max bytes m w p | inr b ↦ whole_not_bad width max bytes m b.0 w b.1 ]

-- a stream with a message more in front
IsWholeFront-cons : (width : Width) (max : ℕ) (m : Message) (ms : List Message) (rest : List ℕ) → IsMessage width max m → IsWholeFront width max (flat_map (spelling_of width) (m ∷ ms) ++ rest) m
IsWholeFront-cons width max m ms rest right = record { right = right; front = (flat_map (spelling_of width) ms ++ rest, append_assoc (spelling_of width m) (flat_map (spelling_of width) ms) rest) }

same_messages : (width : Width) (max : ℕ) (ms ns : List Message) (x y : List ℕ) → AllByRecursion (IsMessage width max) ms → AllByRecursion (IsMessage width max) ns → IsLastFront width max x → IsLastFront width max y → flat_map (spelling_of width) ms ++ x ≡ flat_map (spelling_of width) ns ++ y → ms ≡ ns
same_messages width max [] [] x y p q last_x last_y e = refl
same_messages width max [] (n ∷ ns) x y p q last_x last_y e =
    absurd (whole_not_last width max x n (subst (λ (bytes : List ℕ). IsWholeFront width max bytes n) (sym e) (IsWholeFront-cons width max n ns y q.0)) last_x)
same_messages width max (m ∷ ms) [] x y p q last_x last_y e =
    absurd (whole_not_last width max y m (subst (λ (bytes : List ℕ). IsWholeFront width max bytes m) e (IsWholeFront-cons width max m ms x p.0)) last_y)
same_messages width max (m ∷ ms) (n ∷ ns) x y p q last_x last_y e =
    let regrouped : spelling_of width m ++ (flat_map (spelling_of width) ms ++ x) ≡ spelling_of width n ++ (flat_map (spelling_of width) ns ++ y) =
    sym (append_assoc (spelling_of width m) (flat_map (spelling_of width) ms) x) ∙ e ∙ append_assoc (spelling_of width n) (flat_map (spelling_of width) ns) y in
    let one = one_message width max max m n (flat_map (spelling_of width) ms ++ x) (flat_map (spelling_of width) ns ++ y) p.0 q.0 regrouped in
    let others = same_messages width max ms ns x y p.1 q.1 last_x last_y one.1 in
    let first = one.0 in
    cc

-- two cuts of one stream that go as far as there are frames have the same messages
pub IsLongestCut-same : (width : Width) (max : ℕ) (bytes : List ℕ) (ms ns : List Message) (x y : List ℕ) → IsLongestCut width max bytes ms x → IsLongestCut width max bytes ns y → ms ≡ ns
IsLongestCut-same width max bytes ms ns x y p q =
    same_messages width max ms ns x y p.cut.each q.cut.each p.last q.last (sym p.cut.parts ∙ q.cut.parts)

-- where reading stopped, no frame can be taken from the held bytes and the others
pub IsLastFront-from_stop : (width : Width) (max : ℕ) (held unfed : List ℕ) → IsStop width max held unfed → IsLastFront width max (held ++ unfed)
IsLastFront-from_stop width max held unfed stop =
    elim stop [
      | inl p ↦ subst (λ (bytes : List ℕ). IsLastFront width max bytes) (sym (ap (λ (more : List ℕ). held ++ more) p.1 ∙ append-nil held)) (inl p.0)
      | inr b ↦ inr (b.0, IsBadFront-append width max held unfed b.0 b.1)
    ]
