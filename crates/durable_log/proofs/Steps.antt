-- The two steps of a record, from story to story.
use Rattle.std.proofs.Common.{◌≡◌, ◌⊎◌, inl, inr, ℕ, ◌+◌, ◌*◌, ◌<◌, ◌≤◌, ◌^◌, List, [], ◌∷◌, ◌++◌, length, get_or, drop, refl, sym, ◌∙◌, ap, subst, arith, length-append}
use Rattle.durable_log.specs.Disk.{AtEachMoment, DiskState, HalfWroteSafely, IsTorn, MayLeave, MayStand, Story, moment_of, overwritten, settled, states_of, then_state, wrote, wrote_safely}
use Rattle.durable_log.specs.Records.{HasRecords, opened, record_bytes}
use Rattle.durable_log.specs.Journal.{behind_of, HasAnswered, IsAtRest, LosesNothing, image_of}
use Rattle.durable_log.proofs.Images.{front_of, image_is, image_push, length-closed, length-staged, opened-push, torn_behind, torn_gate, wrote_behind, wrote_gate}
use Rattle.durable_log.proofs.Reading.{AreShort, closed_has, gate_has, image_has, short_push}
use Rattle.durable_log.proofs.Moments.{already, begins, not_answered, not_yet}

-- what may stand after a write over settled bytes is those bytes, torn
pub torn_settled : (at size : ℕ) (reads bytes : List ℕ) (state : DiskState) → state ≡ settled bytes → (image : List ℕ) → MayStand state.safe ((at, size) ∷ state.loose) image → IsTorn at size bytes image
torn_settled at size reads bytes state is image left =
    let there : MayStand bytes ((at, size) ∷ []) image = subst (λ (s : DiskState). MayStand s.safe ((at, size) ∷ s.loose) image) is left in
    subst (λ (b : List ℕ). IsTorn at size b image) there.1 there.2

module _ (given : List (List ℕ)) (piece : List ℕ) (gate : ℕ) where
  abbrev more : List (List ℕ)
  more = given ++ piece ∷ []

  abbrev staged : List ℕ
  staged = front_of given ++ 0 ∷ behind_of piece

  -- so many calls for the record of the piece were made
  pub record InRecord (calls : ℕ) (first now : Story) : Type 0 where
    pub newer : List DiskState
    pub later : states_of now ≡ newer ++ states_of first
    pub short : AreShort given
    pub piece_short : length piece < 2 ^ 16
    pub place : gate ≡ 4 + length (opened given)
    pub count : moment_of now ≡ moment_of first + 4 * length given + calls
    pub each : (answered : ℕ) → length given ≤ answered → answered ≤ length given + 1 → AtEachMoment (moment_of first) (HasAnswered more answered (moment_of first)) (states_of now)

  pub starts : (first now : Story) → LosesNothing given (length given) first now → IsAtRest gate given first now → length piece < 2 ^ 16 → InRecord 0 first now
  starts first now loses rest short = record {
    newer = loses.newer;
    later = loses.later;
    short = loses.short;
    piece_short = short;
    place = rest.place;
    count = omega (arith, rest.calls);
    each = λ answered from to. begins given piece (moment_of first) answered (states_of now) from (omega (arith, rest.calls)) loses.each;
  }

  -- one call more
  pub goes_on : (calls : ℕ) (first now : Story) (state : DiskState) → InRecord calls first now
      → ((answered : ℕ) → length given ≤ answered → answered ≤ length given + 1 → (image : List ℕ) → MayLeave state image → HasAnswered more answered (moment_of first) (moment_of first + 4 * length given + (calls + 1)) image)
      → InRecord (calls + 1) first (then_state now state)
  goes_on calls first now state so_far here = record {
    newer = state ∷ so_far.newer;
    later = ap (λ (l : List DiskState). state ∷ l) so_far.later;
    short = so_far.short;
    piece_short = so_far.piece_short;
    place = so_far.place;
    count = omega (arith, so_far.count);
    each = λ answered from to. (λ _ image left. subst (λ (k : ℕ). HasAnswered more answered (moment_of first) k image) (moment so_far.count) (here answered from to image left), so_far.each answered from to);
  }
    where
      moment : moment_of now ≡ moment_of first + 4 * length given + calls → moment_of first + 4 * length given + (calls + 1) ≡ length (states_of now)
      moment count = omega (arith, count)

  -- a call that failed is the record's last
  pub breaks_off : (calls : ℕ) (first now : Story) (state : DiskState) → InRecord calls first now
      → ((image : List ℕ) → MayLeave state image → HasAnswered more (length given) (moment_of first) (moment_of first + 4 * length given + (calls + 1)) image)
      → LosesNothing more (length given) first (then_state now state)
  breaks_off calls first now state so_far here = record {
    newer = state ∷ so_far.newer;
    later = ap (λ (l : List DiskState). state ∷ l) so_far.later;
    short = short_push given piece so_far.short so_far.piece_short;
    few = omega (arith, length-append given (piece ∷ []));
    each = (λ _ image left. subst (λ (k : ℕ). HasAnswered more (length given) (moment_of first) k image) (moment so_far.count) (here image left), so_far.each (length given) (omega arith) (omega arith));
  }
    where
      moment : moment_of now ≡ moment_of first + 4 * length given + calls → moment_of first + 4 * length given + (calls + 1) ≡ length (states_of now)
      moment count = omega (arith, count)

  pub answered_all : (first now : Story) → InRecord 4 first now → LosesNothing more (length more) first now
  answered_all first now done = record {
    newer = done.newer;
    later = done.later;
    short = short_push given piece done.short done.piece_short;
    few = omega arith;
    each = done.each (length more) (omega (arith, length-append given (piece ∷ []))) (omega (arith, length-append given (piece ∷ [])));
  }

  front_place : gate ≡ 4 + length (opened given) → gate ≡ length (front_of given)
  front_place place = omega (arith, place)

  -- after the first write an image has the records before
  behind_has : (first now : Story) → InRecord 0 first now → now.now ≡ settled (image_of given) → (image : List ℕ) → MayStand now.now.safe ((gate + 1, length (behind_of piece)) ∷ now.now.loose) image → HasRecords image given
  behind_has first now so_far is image left =
      let torn : IsTorn (gate + 1) (length (behind_of piece)) (image_of given) image = torn_settled (gate + 1) (length (behind_of piece)) [] (image_of given) now.now is image left in
      let closed : IsTorn (gate + 1) (length (behind_of piece)) (front_of given ++ 0 ∷ []) image = subst (λ (l : List ℕ). IsTorn (gate + 1) (length (behind_of piece)) l image) (image_is given) torn in
      closed_has given 0 (drop (gate + 1) image) image so_far.short (omega arith) (torn_behind (front_of given) gate (front_place so_far.place) (length (behind_of piece)) image closed)

  -- after the second it has these, or one more
  gate_left : (first now : Story) → InRecord 2 first now → now.now ≡ settled staged → (image : List ℕ) → MayStand now.now.safe ((gate, 1) ∷ now.now.loose) image → HasRecords image given ⊎ HasRecords image more
  gate_left first now so_far is image left =
      let torn : IsTorn gate 1 staged image = torn_settled gate 1 [] staged now.now is image left in
      gate_has given piece (get_or image gate 0) image so_far.short so_far.piece_short (torn_gate (front_of given) gate (front_place so_far.place) (behind_of piece) image torn)

  staged_has : AreShort given → (image : List ℕ) → image ≡ staged → HasRecords image given
  staged_has short image is = closed_has given 0 (behind_of piece) image short (omega arith) is

  reads_staged : (now : Story) → gate ≡ 4 + length (opened given) → now.now ≡ settled (image_of given) → (wrote (gate + 1) (behind_of piece) now).now.reads ≡ staged
  reads_staged now place is =
      ap (λ (s : DiskState). overwritten s.reads (gate + 1) (behind_of piece)) is
      ∙ ap (λ (l : List ℕ). overwritten l (gate + 1) (behind_of piece)) (image_is given)
      ∙ wrote_behind (front_of given) gate (front_place place) (behind_of piece)

  reads_more : (now : Story) → gate ≡ 4 + length (opened given) → now.now ≡ settled staged → (wrote gate (1 ∷ []) now).now.reads ≡ image_of more
  reads_more now place is =
      ap (λ (s : DiskState). overwritten s.reads gate (1 ∷ [])) is
      ∙ wrote_gate (front_of given) gate (front_place place) (behind_of piece)
      ∙ sym (image_push given piece)

  -- the record stands after the closed gate, and is safe there
  pub record IsStaged (first now : Story) : Type 0 where
    pub so_far : InRecord 2 first now
    pub state : now.now ≡ settled staged

  pub first_safe : (first now next : Story) → InRecord 0 first now → IsAtRest gate given first now → next ≡ wrote_safely (gate + 1) (behind_of piece) now → IsStaged first next
  first_safe first now next so_far rest is =
      let one : InRecord 1 first (wrote (gate + 1) (behind_of piece) now) = goes_on 0 first now (wrote (gate + 1) (behind_of piece) now).now so_far
      (λ answered from to image left. not_yet given piece (moment_of first) answered _ image (omega arith) (omega arith) (behind_has first now so_far rest.state image left)) in
      let reads : (wrote (gate + 1) (behind_of piece) now).now.reads ≡ staged = reads_staged now so_far.place rest.state in
      let two : InRecord 2 first (wrote_safely (gate + 1) (behind_of piece) now) = goes_on 1 first (wrote (gate + 1) (behind_of piece) now) (wrote_safely (gate + 1) (behind_of piece) now).now one
      (λ answered from to image left. not_yet given piece (moment_of first) answered _ image (omega arith) (omega arith) (staged_has so_far.short image (left ∙ reads))) in
      record { so_far = subst (λ (s : Story). InRecord 2 first s) (sym is) two; state = ap (λ (s : Story). s.now) is ∙ ap (λ (l : List ℕ). settled l) reads }

  pub first_half : (first now next : Story) → InRecord 0 first now → IsAtRest gate given first now → HalfWroteSafely (gate + 1) (behind_of piece) now next → LosesNothing more (length given) first next
  first_half first now next so_far rest (inl half) =
      subst (λ (s : Story). LosesNothing more (length given) first s) (sym half.is)
      (breaks_off 0 first now (record { reads = half.reads; safe = now.now.safe; loose = (gate + 1, length (behind_of piece)) ∷ now.now.loose }) so_far
      (λ image left. not_answered given piece (moment_of first) _ image (omega arith) (behind_has first now so_far rest.state image left)))
  first_half first now next so_far rest (inr is) =
      let one : InRecord 1 first (wrote (gate + 1) (behind_of piece) now) = goes_on 0 first now (wrote (gate + 1) (behind_of piece) now).now so_far
      (λ answered from to image left. not_yet given piece (moment_of first) answered _ image (omega arith) (omega arith) (behind_has first now so_far rest.state image left)) in
      subst (λ (s : Story). LosesNothing more (length given) first s) (sym is)
      (breaks_off 1 first (wrote (gate + 1) (behind_of piece) now) (wrote (gate + 1) (behind_of piece) now).now one
      (λ image left. not_answered given piece (moment_of first) _ image (omega arith) (behind_has first now so_far rest.state image left)))

  opens : (answered calls : ℕ) (first : Story) (image : List ℕ) → length given ≤ answered → answered ≤ length given + 1 → calls ≡ 3 → HasRecords image given ⊎ HasRecords image more → HasAnswered more answered (moment_of first) (moment_of first + 4 * length given + calls) image
  opens answered calls first image from to is (inl has) = not_yet given piece (moment_of first) answered _ image (omega arith) (omega arith) has
  opens answered calls first image from to is (inr has) = already given piece (moment_of first) answered _ image (omega arith) to has

  opens_not : (calls : ℕ) (first : Story) (image : List ℕ) → 1 ≤ calls → HasRecords image given ⊎ HasRecords image more → HasAnswered more (length given) (moment_of first) (moment_of first + 4 * length given + calls) image
  opens_not calls first image some (inl has) = not_answered given piece (moment_of first) _ image (omega arith) has
  opens_not calls first image some (inr has) = already given piece (moment_of first) (length given) _ image (omega arith) (omega arith) has

  pub second_half : (first now next : Story) → IsStaged first now → HalfWroteSafely gate (1 ∷ []) now next → LosesNothing more (length given) first next
  second_half first now next is_staged (inl half) =
      subst (λ (s : Story). LosesNothing more (length given) first s) (sym half.is)
      (breaks_off 2 first now (record { reads = half.reads; safe = now.now.safe; loose = (gate, 1) ∷ now.now.loose }) is_staged.so_far
      (λ image left. opens_not 3 first image (omega arith) (gate_left first now is_staged.so_far is_staged.state image left)))
  second_half first now next is_staged (inr is) =
      let three : InRecord 3 first (wrote gate (1 ∷ []) now) = goes_on 2 first now (wrote gate (1 ∷ []) now).now is_staged.so_far
      (λ answered from to image left. opens answered 3 first image from to refl (gate_left first now is_staged.so_far is_staged.state image left)) in
      subst (λ (s : Story). LosesNothing more (length given) first s) (sym is)
      (breaks_off 3 first (wrote gate (1 ∷ []) now) (wrote gate (1 ∷ []) now).now three
      (λ image left. opens_not 4 first image (omega arith) (gate_left first now is_staged.so_far is_staged.state image left)))

  pub second_safe : (first now next : Story) → IsStaged first now → next ≡ wrote_safely gate (1 ∷ []) now → LosesNothing more (length more) first next × IsAtRest (gate + (length piece + 3)) more first next
  second_safe first now next is_staged is =
      let three : InRecord 3 first (wrote gate (1 ∷ []) now) = goes_on 2 first now (wrote gate (1 ∷ []) now).now is_staged.so_far
      (λ answered from to image left. opens answered 3 first image from to refl (gate_left first now is_staged.so_far is_staged.state image left)) in
      let reads : (wrote gate (1 ∷ []) now).now.reads ≡ image_of more = reads_more now is_staged.so_far.place is_staged.state in
      let short : AreShort more = short_push given piece is_staged.so_far.short is_staged.so_far.piece_short in
      let four : InRecord 4 first (wrote_safely gate (1 ∷ []) now) = goes_on 3 first (wrote gate (1 ∷ []) now) (wrote_safely gate (1 ∷ []) now).now three
      (λ answered from to image left. already given piece (moment_of first) answered _ image (omega arith) to (subst (λ (c : List ℕ). HasRecords c more) (sym (left ∙ reads)) (image_has more short))) in
      let done : InRecord 4 first next = subst (λ (s : Story). InRecord 4 first s) (sym is) four in (
        answered_all first next done,
        record {
          state = ap (λ (s : Story). s.now) is ∙ ap (λ (l : List ℕ). settled l) reads;
          place = omega (arith, is_staged.so_far.place, grown);
          calls = omega (arith, done.count, length-append given (piece ∷ []));
        },
      )
    where
      grown : length (opened more) ≡ length (opened given) + (length piece + 3)
      grown =
          let whole : length (opened more) ≡ length (opened given) + length (record_bytes piece) = ap (λ (l : List ℕ). length l) (opened-push given piece) ∙ length-append (opened given) (record_bytes piece) in
          omega (arith, whole)

-- the first write begins at the end of what is read, the second before it
pub at_rest_length : (given : List (List ℕ)) (gate : ℕ) (first now : Story) → IsAtRest gate given first now → gate + 1 ≤ length now.now.reads
at_rest_length given gate first now rest =
    let whole : length now.now.reads ≡ length (front_of given ++ 0 ∷ []) = ap (λ (s : DiskState). length s.reads) rest.state ∙ ap (λ (l : List ℕ). length l) (image_is given) in
    let long : length (front_of given ++ 0 ∷ []) ≡ gate + 1 = length-closed (front_of given) gate (omega (arith, rest.place)) in
    omega (arith, whole, long)

pub staged_length : (given : List (List ℕ)) (piece : List ℕ) (gate : ℕ) (first now : Story) → IsStaged given piece gate first now → gate ≤ length now.now.reads
staged_length given piece gate first now is_staged =
    let whole : length now.now.reads ≡ length (front_of given ++ 0 ∷ behind_of piece) = ap (λ (s : DiskState). length s.reads) is_staged.state in
    let long : length (front_of given ++ 0 ∷ behind_of piece) ≡ gate + 1 + length (behind_of piece) = length-staged (front_of given) gate (omega (arith, is_staged.so_far.place)) (behind_of piece) in
    omega (arith, whole, long)
