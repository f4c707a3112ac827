-- What a disk in memory tells of its calls.
use Rattle.std.proofs.Common.{◌≡◌, inl, inr, ℕ, suc, zero, ◌+◌, ◌-◌, ◌<◌, ◌≤◌, ◌&&◌, max, Bool, true, false, List, [], ◌∷◌, ◌++◌, length, take, drop, get_or, replicate, refl, sym, ◌∙◌, ap, subst, arith, append_assoc, length-append, length-take, length-drop}
use Rattle.std.proofs.lemmas.List.{take_at, take_more, drop_at, length-replicate}
use Rattle.std.specs.Prelude.{is_ok, IfOk, IfSome, IsSomeAnd, OnErr, OnOk, Result, Ok, Err, Vec}
use Rattle.std.specs.declared.alloc.AllocError.{AllocError}
use Rattle.std.specs.declared.alloc.Global.{Global}
use Rattle.outside.specs.declared.act.Failed.{Failed}
use Rattle.outside.specs.Told.{Goes, told_if}
use Rattle.durable_log.specs.declared.memory.call.DiskCall.{DiskCall}
use Rattle.durable_log.specs.declared.memory.call.DiskCall.TheVariants.{Write, Sync}
use Rattle.durable_log.specs.Disk.{DiskState, HalfWrote, IsCall, IsTorn, MayLeave, Story, moment_of, not_synced, overwritten, settled, states_of, synced, then_state, wrote}
use Rattle.durable_log.proofs.Told.{goes_map}
use Rattle.durable_log.specs.MemDisk.{AreWithin, IsWithin, begun, filled, state_after, state_at, states_from, story_from}

pub story_push : (s : Story) (calls : List DiskCall) (call : DiskCall) → story_from s (calls ++ call ∷ []) ≡ then_state (story_from s calls) (state_after (story_from s calls).now call)
story_push s [] call = refl
story_push s (c ∷ calls) call = story_push (then_state s (state_after s.now c)) calls call

pub story_now : (s : Story) (calls : List DiskCall) → (story_from s calls).now ≡ states_from s.now calls
story_now s [] = refl
story_now s (c ∷ calls) = story_now (then_state s (state_after s.now c)) calls

-- one call more is told, if memory was found for it
pub told_push : (telling kept : Bool) (first : List ℕ) (calls more : List DiskCall) (call : DiskCall) → (kept ≡ true → more ≡ calls ++ call ∷ [])
    → Goes (λ b a. a ≡ then_state b (state_after b.now call)) (told_if telling (story_from (begun first) calls)) (told_if (telling && kept) (story_from (begun first) more))
told_push false kept first calls more call is = tt
told_push true false first calls more call is = tt
told_push true true first calls more call is = ap (λ (l : List DiskCall). story_from (begun first) l) (is refl) ∙ story_push (begun first) calls call

within_more : (s : DiskState) (calls : List DiskCall) (call : DiskCall) → AreWithin s calls → IsWithin (states_from s calls) call → AreWithin s (calls ++ call ∷ [])
within_more s [] call all here = (here, tt)
within_more s (c ∷ calls) call all here = (all.0, within_more (state_after s c) calls call all.1 here)

not_true : {X : Type 0} → false ≡ true → X
not_true wrong = absurd (cc wrong)

pub within_push : (telling kept : Bool) (first : List ℕ) (calls more : List DiskCall) (call : DiskCall) → (kept ≡ true → more ≡ calls ++ call ∷ []) → (telling ≡ true → AreWithin (settled first) calls)
    → (telling ≡ true → IsWithin (story_from (begun first) calls).now call) → (telling && kept) ≡ true → AreWithin (settled first) more
within_push false kept first calls more call is all here told = not_true told
within_push true false first calls more call is all here told = not_true told
within_push true true first calls more call is all here told =
    subst (λ (l : List DiskCall). AreWithin (settled first) l) (sym (is refl)) (within_more (settled first) calls call (all refl) (subst (λ (s : DiskState). IsWithin s call) (story_now (begun first) calls) (here refl)))

-- a write that fails leaves what is read
pub unwritten : (at : ℕ) (bytes : List ℕ) (b a : Story) → a ≡ then_state b (state_after b.now (Write at bytes false)) → HalfWrote at bytes b a
unwritten at bytes b a is = record { reads = b.now.reads; torn = record { front = refl; back = refl; no_shorter = omega arith; no_longer = omega arith }; is = is }

-- the states that were before stay
record Grown (calls : ℕ) (s t : Story) : Type 0 where
  pub newer : List DiskState
  pub count : length newer ≡ calls
  pub is : states_of t ≡ newer ++ states_of s

grown : (s : Story) (calls : List DiskCall) → Grown (length calls) s (story_from s calls)
grown s [] = record { newer = []; count = refl; is = refl }
grown s (c ∷ calls) =
    let next : Story = then_state s (state_after s.now c) in
    let rest : Grown (length calls) next (story_from next calls) = grown next calls in
    record {
      newer = rest.newer ++ next.now ∷ [];
      count = omega (arith, rest.count, length-append rest.newer (next.now ∷ []));
      is = rest.is ∙ sym (append_assoc rest.newer (next.now ∷ []) (states_of s));
    }

pub moment_from : (first : List ℕ) (calls : List DiskCall) → moment_of (story_from (begun first) calls) ≡ length calls
moment_from first calls =
    let g : Grown (length calls) (begun first) (story_from (begun first) calls) = grown (begun first) calls in
    let whole : length (states_of (story_from (begun first) calls)) ≡ length (g.newer ++ states_of (begun first)) = ap (λ (l : List DiskState). length l) g.is in
    omega (arith, whole, g.count, length-append g.newer (states_of (begun first)))

get_behind : (xs : List DiskState) (y : DiskState) (ys : List DiskState) (d : DiskState) (n : ℕ) → n ≡ length xs → get_or (xs ++ y ∷ ys) n d ≡ y
get_behind [] y ys d n is = let same : n ≡ 0 = omega arith in ap (λ (k : ℕ). get_or (y ∷ ys) k d) same
get_behind (x ∷ xs) y ys d zero is = absurd (omega arith)
get_behind (x ∷ xs) y ys d (suc n) is = get_behind xs y ys d n (omega arith)

pub state_from : (s : Story) (calls : List DiskCall) (k : ℕ) (d : DiskState) → k ≤ length calls → get_or (states_of (story_from s calls)) (length calls - k) d ≡ states_from s.now (take k calls)
state_from s calls zero d few =
    let g : Grown (length calls) s (story_from s calls) = grown s calls in
    ap (λ (l : List DiskState). get_or l (length calls - 0) d) g.is ∙ get_behind g.newer s.now s.past d (length calls - 0) (omega (arith, g.count))
state_from s [] (suc k) d few = absurd (omega arith)
state_from s (c ∷ calls) (suc k) d few =
    let same : length (c ∷ calls) - suc k ≡ length calls - k = omega arith in
    ap (λ (n : ℕ). get_or (states_of (story_from (then_state s (state_after s.now c)) calls)) n d) same ∙ state_from (then_state s (state_after s.now c)) calls k d (omega arith)

pub state_is : (first : List ℕ) (calls : List DiskCall) (k : ℕ) → k ≤ length calls → state_at k (story_from (begun first) calls) ≡ states_from (settled first) (take k calls)
state_is first calls k few =
    let same : moment_of (story_from (begun first) calls) - k ≡ length calls - k = omega (arith, moment_from first calls) in
    ap (λ (n : ℕ). get_or (states_of (story_from (begun first) calls)) n (story_from (begun first) calls).now) same ∙ state_from (begun first) calls k (story_from (begun first) calls).now few

-- one step more of a loop over calls
pub states_more : (s : DiskState) (calls : List DiskCall) (call : DiskCall) → states_from s (calls ++ call ∷ []) ≡ state_after (states_from s calls) call
states_more s [] call = refl
states_more s (c ∷ calls) call = states_more (state_after s c) calls call

-- the filled image is one that a crash may leave
length-overwritten : (old : List ℕ) (at : ℕ) (bytes : List ℕ) → at ≤ length old → length (overwritten old at bytes) ≡ max (length old) (at + length bytes)
length-overwritten old at bytes within = omega (arith, length-append (take at old) (bytes ++ drop (at + length bytes) old), length-append bytes (drop (at + length bytes) old), length-take at old, length-drop (at + length bytes) old)

torn_over : (old : List ℕ) (at : ℕ) (bytes : List ℕ) → at ≤ length old → IsTorn at (length bytes) old (overwritten old at bytes)
torn_over old at bytes within =
    let front : length (take at old) ≡ at = omega (arith, length-take at old) in
    let both : length (take at old ++ bytes) ≡ at + length bytes = omega (arith, front, length-append (take at old) bytes) in
    record {
      front = take_at (take at old) (bytes ++ drop (at + length bytes) old) at front;
      back = ap (λ (l : List ℕ). drop (at + length bytes) l) (sym (append_assoc (take at old) bytes (drop (at + length bytes) old))) ∙ drop_at (take at old ++ bytes) (drop (at + length bytes) old) (at + length bytes) both;
      no_shorter = omega (arith, length-overwritten old at bytes within);
      no_longer = omega (arith, length-overwritten old at bytes within);
    }

-- of a state: its filled image may be left, and is as long as what is read
record IsLaid (fill : ℕ) (s : DiskState) : Type 0 where
  pub left : MayLeave s (filled fill s)
  pub long : length s.reads ≤ length (filled fill s)

laid_write : (fill : ℕ) (s : DiskState) (at : ℕ) (bytes reads : List ℕ) → IsLaid fill s → at ≤ length s.reads → length reads ≤ max (length s.reads) (at + length bytes)
    → IsLaid fill (record { reads = reads; safe = s.safe; loose = (at, length bytes) ∷ s.loose })
laid_write fill s at bytes reads laid within few =
    let fills : List ℕ = replicate (length bytes) fill in
    let count : length fills ≡ length bytes = length-replicate (length bytes) fill in
    let inside : at ≤ length (filled fill s) = omega (arith, laid.long, within) in
    record {
      left = (filled fill s, laid.left, subst (λ (n : ℕ). IsTorn at n (filled fill s) (overwritten (filled fill s) at fills)) count (torn_over (filled fill s) at fills inside));
      long = omega (arith, few, laid.long, count, length-overwritten (filled fill s) at fills inside);
    }

laid_after : (fill : ℕ) (s : DiskState) (call : DiskCall) → IsLaid fill s → IsWithin s call → IsLaid fill (state_after s call)
laid_after fill s (Write at bytes true) laid within = laid_write fill s at bytes (overwritten s.reads at bytes) laid within (omega (arith, length-overwritten s.reads at bytes within))
laid_after fill s (Write at bytes false) laid within = laid_write fill s at bytes s.reads laid within (omega arith)
laid_after fill s (Sync true) laid within = record { left = refl; long = omega arith }
laid_after fill s (Sync false) laid within = laid

laid_from : (fill : ℕ) (s : DiskState) (calls : List DiskCall) (k : ℕ) → IsLaid fill s → AreWithin s calls → IsLaid fill (states_from s (take k calls))
laid_from fill s calls zero laid all = laid
laid_from fill s [] (suc k) laid all = laid
laid_from fill s (c ∷ calls) (suc k) laid all = laid_from fill (state_after s c) calls k (laid_after fill s c laid all.0) all.1

pub filled_left : (fill : ℕ) (first : List ℕ) (calls : List DiskCall) (k : ℕ) → AreWithin (settled first) calls → k ≤ length calls → MayLeave (state_at k (story_from (begun first) calls)) (filled fill (state_at k (story_from (begun first) calls)))
filled_left fill first calls k all few =
    let laid : IsLaid fill (states_from (settled first) (take k calls)) = laid_from fill (settled first) calls k (record { left = refl; long = omega arith }) all in
    subst (λ (s : DiskState). MayLeave s (filled fill s)) (sym (state_is first calls k few)) laid.left

pub states_take : (s : DiskState) (calls : List DiskCall) (k : ℕ) (call : DiskCall) → k < length calls → get_or calls k call ≡ call → states_from s (take (k + 1) calls) ≡ state_after (states_from s (take k calls)) call
states_take s calls k call below is =
    ap (λ (l : List DiskCall). states_from s l) (take_more calls k call below ∙ ap (λ (c : DiskCall). take k calls ++ c ∷ []) is) ∙ states_more s (take k calls) call

-- of a call's result: what is told after it
module _ (telling kept : Bool) (first : List ℕ) (calls more : List DiskCall) where
  pub wrote_told : (result : Result (Unit {0}) Failed) (done : Bool) (at : ℕ) (bytes : List ℕ) → done ≡ is_ok result → (kept ≡ true → more ≡ calls ++ Write at bytes done ∷ [])
      → OnOk result (Goes (λ b a. a ≡ wrote at bytes b) (told_if telling (story_from (begun first) calls)) (told_if (telling && kept) (story_from (begun first) more)))
  wrote_told (Ok _) done at bytes is keeps = told_push telling kept first calls more (Write at bytes true) (λ told. keeps told ∙ ap (λ (d : Bool). calls ++ Write at bytes d ∷ []) is)
  wrote_told (Err _) done at bytes is keeps = tt

  pub part_told : (result : Result (Unit {0}) Failed) (done : Bool) (at : ℕ) (bytes : List ℕ) → done ≡ is_ok result → (kept ≡ true → more ≡ calls ++ Write at bytes done ∷ [])
      → OnErr result (Goes (HalfWrote at bytes) (told_if telling (story_from (begun first) calls)) (told_if (telling && kept) (story_from (begun first) more)))
  part_told (Ok _) done at bytes is keeps = tt
  part_told (Err _) done at bytes is keeps = goes_map (λ b a wrote. unwritten at bytes b a wrote) _ _ (told_push telling kept first calls more (Write at bytes false) (λ told. keeps told ∙ ap (λ (d : Bool). calls ++ Write at bytes d ∷ []) is))

  pub synced_told : (result : Result (Unit {0}) Failed) (done : Bool) → done ≡ is_ok result → (kept ≡ true → more ≡ calls ++ Sync done ∷ [])
      → OnOk result (Goes (λ b a. a ≡ synced b) (told_if telling (story_from (begun first) calls)) (told_if (telling && kept) (story_from (begun first) more)))
  synced_told (Ok _) done is keeps = told_push telling kept first calls more (Sync true) (λ told. keeps told ∙ ap (λ (d : Bool). calls ++ Sync d ∷ []) is)
  synced_told (Err _) done is keeps = tt

  pub not_synced_told : (result : Result (Unit {0}) Failed) (done : Bool) → done ≡ is_ok result → (kept ≡ true → more ≡ calls ++ Sync done ∷ [])
      → OnErr result (Goes (λ b a. a ≡ not_synced b) (told_if telling (story_from (begun first) calls)) (told_if (telling && kept) (story_from (begun first) more)))
  not_synced_told (Ok _) done is keeps = tt
  not_synced_told (Err _) done is keeps = told_push telling kept first calls more (Sync false) (λ told. keeps told ∙ ap (λ (d : Bool). calls ++ Sync d ∷ []) is)

  pub within_wrote : (done : Bool) (at : ℕ) (bytes : List ℕ) → (kept ≡ true → more ≡ calls ++ Write at bytes done ∷ []) → (telling ≡ true → AreWithin (settled first) calls)
      → IfSome (told_if telling (story_from (begun first) calls)) (λ s. at ≤ length s.now.reads) → (telling && kept) ≡ true → AreWithin (settled first) more
  within_wrote done at bytes keeps all here = within_push telling kept first calls more (Write at bytes done) keeps all (λ told. subst (λ (t : Bool). IfSome (told_if t (story_from (begun first) calls)) (λ s. at ≤ length s.now.reads)) told here)

  pub within_synced : (done : Bool) → (kept ≡ true → more ≡ calls ++ Sync done ∷ []) → (telling ≡ true → AreWithin (settled first) calls) → (telling && kept) ≡ true → AreWithin (settled first) more
  within_synced done keeps all = within_push telling kept first calls more (Sync done) keeps all (λ _. tt)

-- the image that is shown
module _ (telling : Bool) (first : List ℕ) (calls : List DiskCall) (k : ℕ) where
  pub few_calls : (t : Bool) → IsSomeAnd (told_if t (story_from (begun first) calls)) (λ s. k ≤ moment_of s) → k ≤ length calls
  few_calls false none = absurd none
  few_calls true few = omega (arith, few, moment_from first calls)

  image_now : (t : Bool) (fill : ℕ) (items : List ℕ) → k ≤ length calls → items ≡ filled fill (states_from (settled first) (take k calls)) → IfSome (told_if t (story_from (begun first) calls)) (λ s. items ≡ filled fill (state_at k s))
  image_now false fill items few is = tt
  image_now true fill items few is = is ∙ ap (λ (s : DiskState). filled fill s) (sym (state_is first calls k few))

  left_now : (t : Bool) (fill : ℕ) (items : List ℕ) → (t ≡ true → AreWithin (settled first) calls) → k ≤ length calls → items ≡ filled fill (states_from (settled first) (take k calls)) → IfSome (told_if t (story_from (begun first) calls)) (λ s. MayLeave (state_at k s) items)
  left_now false fill items all few is = tt
  left_now true fill items all few is =
      let same : items ≡ filled fill (state_at k (story_from (begun first) calls)) = is ∙ ap (λ (s : DiskState). filled fill s) (sym (state_is first calls k few)) in
      subst (λ (l : List ℕ). MayLeave (state_at k (story_from (begun first) calls)) l) (sym same) (filled_left fill first calls k (all refl) few)

  -- the bytes that were read and the calls that were looked at are those of the disk
  from_these : (fill : ℕ) (f : List ℕ) (cs : List DiskCall) (items : List ℕ) → f ≡ first → cs ≡ take k calls → items ≡ filled fill (states_from (settled f) cs) → items ≡ filled fill (states_from (settled first) (take k calls))
  from_these fill f cs items first_is calls_are is =
      is ∙ ap (λ (l : List ℕ). filled fill (states_from (settled l) cs)) first_is ∙ ap (λ (l : List DiskCall). filled fill (states_from (settled first) l)) calls_are

  pub image_told : (fill : ℕ) (f : List ℕ) (cs : List DiskCall) (result : Result (Vec ℕ Global) AllocError) → f ≡ first → cs ≡ take k calls → k ≤ length calls
      → IfOk result (λ v. v.items ≡ filled fill (states_from (settled f) cs)) → IfOk result (λ v. IfSome (told_if telling (story_from (begun first) calls)) (λ s. v.items ≡ filled fill (state_at k s)))
  image_told fill f cs (Ok v) first_is calls_are few is = image_now telling fill v.items few (from_these fill f cs v.items first_is calls_are is)
  image_told fill f cs (Err _) first_is calls_are few is = tt

  pub left_told : (fill : ℕ) (f : List ℕ) (cs : List DiskCall) (result : Result (Vec ℕ Global) AllocError) → f ≡ first → cs ≡ take k calls → k ≤ length calls → (telling ≡ true → AreWithin (settled first) calls)
      → IfOk result (λ v. v.items ≡ filled fill (states_from (settled f) cs)) → IfOk result (λ v. IfSome (told_if telling (story_from (begun first) calls)) (λ s. MayLeave (state_at k s) v.items))
  left_told fill f cs (Ok v) first_is calls_are few all is = left_now telling fill v.items all few (from_these fill f cs v.items first_is calls_are is)
  left_told fill f cs (Err _) first_is calls_are few all is = tt

-- what is read may be left
pub read_left : (at : ℕ) (bytes : List ℕ) (before after : Story) → IsCall at bytes before after → at ≤ length before.now.reads → MayLeave before.now before.now.reads → MayLeave after.now after.now.reads
read_left at bytes before after (inl is) within left = rw is (before.now.reads, left, torn_over before.now.reads at bytes within)
read_left at bytes before after (inr (inl half)) within left = rw half.is (before.now.reads, left, half.torn)
read_left at bytes before after (inr (inr (inl is))) within left = rw is refl
read_left at bytes before after (inr (inr (inr is))) within left = rw is left

-- how many calls are kept
pub calls_told : (telling : Bool) (first : List ℕ) (calls : List DiskCall) (n : ℕ) → n ≤ length calls → IfSome (told_if telling (story_from (begun first) calls)) (λ s. n ≤ moment_of s)
calls_told false first calls n few = tt
calls_told true first calls n few = omega (arith, few, moment_from first calls)
