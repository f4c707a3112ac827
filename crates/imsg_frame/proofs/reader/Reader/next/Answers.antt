use Rattle.std.proofs.Common.{◌<◌, ◌≤◌, length, take, drop, refl, sym, ap, ◌∙◌, arith, inl, inr}
use Rattle.std.proofs.lemmas.Slice.{between_is}
use Rattle.imsg_frame.specs.Cut.{IsPartialFront}
use Rattle.imsg_frame.specs.Held.{Held}
use Rattle.imsg_frame.proofs.Arrays.{all_held}
use Rattle.imsg_frame.proofs.Fronts.{answer_not_yet, answer_bad, answer_frame, wrong_len, not_whole, IsBadFront-from_header, IsShortFront-from_header, Parts-from_header, spelled}
use Rattle.imsg_frame.proofs.reader.Reader.next.Goals as goal

pub returns-then-held-lt-HEADER_LEN-clause-answer : goal.returns-then-held-lt-HEADER_LEN-clause-answer
returns-then-held-lt-HEADER_LEN-clause-answer c =
    let s = c.self.inside in
    let held = all_held s.given s.ring.items c.args.self.now.bytes (ap (λ (h : Held). h.given) c.self.view_is ∙ c.leave.ensures.given) (ap (λ (h : Held). h.bytes) c.self.view_is ∙ c.leave.ensures.bytes) in
    answer_not_yet _ _ _ _ (inl (omega (arith, ap length held, c.len-held.ensures.len, c.if-held-lt-HEADER_LEN.true)))

pub returns-then-not-is_right_len-clause-answer : goal.returns-then-not-is_right_len-clause-answer
returns-then-not-is_right_len-clause-answer c =
    let s = c.self.inside in
    let h = c.front_header-header.ensures in
    let held = all_held s.given s.ring.items c.args.self.now.bytes (ap (λ (h : Held). h.given) c.self.view_is ∙ c.leave.ensures.given) (ap (λ (h : Held). h.bytes) c.self.view_is ∙ c.leave.ensures.bytes) in
    let width = ap (λ (h : Held). h.width) c.self.view_is ∙ c.leave.ensures.width in
    let max = ap (λ (h : Held). h.max) c.self.view_is ∙ c.leave.ensures.max in
    let long : 16 ≤ length s.ring.items = omega (arith, c.len-held.ensures.len, c.if-held-lt-HEADER_LEN.false) in
    let right = c.is_right_len-then-not-is_right_len.ensures.1 in
    let wrong = wrong_len _ s.ring.capacity (λ is. let yes = right (is.0, omega (arith, is.1, c.capacity.ensures.capacity)) in absurd cc) in
    let bad = IsBadFront-from_header s.width s.ring.capacity s.ring.items c.front_header-header.result long h.bytes h.fields wrong in
    let told = c.told_len.ensures in
    rw (← held, ← width, ← max, told) (answer_bad _ _ _ _ _ bad)

pub returns-then-is_right_len-clause-answer : goal.returns-then-is_right_len-clause-answer
returns-then-is_right_len-clause-answer c =
    let s = c.self.inside in
    let h = c.front_header-header.ensures in
    let held = all_held s.given s.ring.items c.args.self.now.bytes (ap (λ (h : Held). h.given) c.self.view_is ∙ c.leave.ensures.given) (ap (λ (h : Held). h.bytes) c.self.view_is ∙ c.leave.ensures.bytes) in
    let width = ap (λ (h : Held). h.width) c.self.view_is ∙ c.leave.ensures.width in
    let max = ap (λ (h : Held). h.max) c.self.view_is ∙ c.leave.ensures.max in
    let right = c.is_right_len-then-not-is_right_len.ensures.0 c.if-is_right_len.true in
    let whole = c.is_right_len.ensures.1 in
    let less = not_whole _ _ right.0 (λ is. let yes = whole is in absurd cc) in
    let short : length s.ring.items < c.front_header-header.result.len = omega (arith, c.len-held.ensures.len, less) in
    let partial : IsPartialFront s.width s.ring.capacity s.ring.items = inr (IsShortFront-from_header _ _ _ _ h.bytes h.fields right.0 (omega (arith, right.1, c.capacity.ensures.capacity)) short) in
    rw (← held, ← width, ← max) (answer_not_yet _ _ _ _ partial)

pub returns-clause-answer : goal.returns-clause-answer
returns-clause-answer c =
    let s = c.self.inside in
    let h = c.front_header-header.ensures in
    let f = c.front_header-header.result in
    let held = all_held s.given s.ring.items c.args.self.now.bytes (ap (λ (h : Held). h.given) c.self.view_is ∙ c.leave.ensures.given) (ap (λ (h : Held). h.bytes) c.self.view_is ∙ c.leave.ensures.bytes) in
    let width = ap (λ (h : Held). h.width) c.self.view_is ∙ c.leave.ensures.width in
    let max = ap (λ (h : Held). h.max) c.self.view_is ∙ c.leave.ensures.max in
    let right = c.is_right_len.ensures.0 c.if-not-is_right_len.false in
    let whole : f.len ≤ length s.ring.items = omega (arith, right.1, c.len-held.ensures.len) in
    let within : f.len ≤ s.ring.capacity = omega (arith, whole, c.self.invariant.within) in
    let parts = Parts-from_header s.width s.ring.capacity s.ring.items f (drop 16 (take f.len s.ring.items)) (drop f.len s.ring.items) h.bytes h.fields right.0 within whole (sym (between_is s.ring.items 16 f.len)) refl in
    rw (← held, ← width, ← max) (answer_frame _ _ _ _ _ (record { right = parts.right; front = (_, parts.is) }))

pub returns-clause-after : goal.returns-clause-after
returns-clause-after c =
    let s = c.self.inside in
    let h = c.front_header-header.ensures in
    let f = c.front_header-header.result in
    let held = all_held s.given s.ring.items c.args.self.now.bytes (ap (λ (h : Held). h.given) c.self.view_is ∙ c.leave.ensures.given) (ap (λ (h : Held). h.bytes) c.self.view_is ∙ c.leave.ensures.bytes) in
    let width = ap (λ (h : Held). h.width) c.self.view_is ∙ c.leave.ensures.width in
    let max = ap (λ (h : Held). h.max) c.self.view_is ∙ c.leave.ensures.max in
    let right = c.is_right_len.ensures.0 c.if-not-is_right_len.false in
    let whole : f.len ≤ length s.ring.items = omega (arith, right.1, c.len-held.ensures.len) in
    let within : f.len ≤ s.ring.capacity = omega (arith, whole, c.self.invariant.within) in
    let parts = Parts-from_header s.width s.ring.capacity s.ring.items f (drop 16 (take f.len s.ring.items)) (drop f.len s.ring.items) h.bytes h.fields right.0 within whole (sym (between_is s.ring.items 16 f.len)) refl in
    rw (← held, ← width) (record { width = refl; max = max; given = spelled s.width s.ring.items f h.bytes right.0; bytes = parts.is })
