-- An append, from log to log.
use Rattle.std.proofs.Common.{◌≡◌, ℕ, suc, ◌+◌, ◌*◌, ◌<◌, ◌≤◌, ◌^◌, Bool, true, false, List, [], ◌∷◌, ◌++◌, length, take, drop, refl, sym, ◌∙◌, ap, subst, arith, append_assoc, length-append, length-take, length-drop, Option, Some, None, IfSome, option_map, if◌then◌else◌}
use Rattle.std.proofs.lemmas.List.{append-nil, take_at}
use Rattle.std.proofs.lemmas.List.Folds.{concat-append}
use Rattle.std.specs.List.{concat}
use Rattle.outside.specs.Told.{Gains, GainsPart, Goes}
use Rattle.durable_log.specs.Appending.{BreaksOff, IsDone, KeepsAll, KeepsSome, end_of}
use Rattle.durable_log.specs.Disk.{DiskState, HalfWroteSafely, MayStand, Story, moment_of, settled, wrote_safely}
use Rattle.durable_log.specs.Journal.{HasAnswered, IsAtRest, IsLog, Keeps, LogParts, LosesNothing, behind_of, held_of, image_of, log_parts, pieces_of, records_of}
use Rattle.durable_log.specs.Records.{HasRecords}
use Rattle.durable_log.proofs.Moments.{too_early}
use Rattle.durable_log.proofs.Pieces.{few_pieces, joined_pieces, next_piece, no_pieces}
use Rattle.durable_log.proofs.Reading.{AreShort, image_has, image_records}
use Rattle.durable_log.proofs.Steps.{InRecord, IsStaged, at_rest_length, first_half, first_safe, second_half, second_safe, staged_length, starts}
use Rattle.durable_log.proofs.Told.{goes_both, goes_now, goes_on}

-- a log without records
fresh_story : (s : Story) → s.now ≡ settled (image_of []) → LosesNothing [] 0 s s × IsAtRest 4 [] s s
fresh_story s is = (
  record {
    newer = [];
    later = refl;
    short = none;
    few = omega arith;
    each = (λ _ image left. here image (subst (λ (d : DiskState). MayStand d.safe d.loose image) is left), too_early (moment_of s) (HasAnswered [] 0 (moment_of s)) s.past (omega arith));
  },
  record { state = is; place = refl; calls = omega arith },
)
  where
    none : AreShort []
    none k d below = absurd (omega arith)

    here : (image : List ℕ) → image ≡ image_of [] → HasAnswered [] 0 (moment_of s) (moment_of s) image
    here image same = record { count = 0; least_of = omega arith; most_of = omega arith; records = subst (λ (c : List ℕ). HasRecords c []) (sym same) (image_has [] none) }

pub fresh : (first : Option Story) (faults : ℕ) → IfSome first (λ s. s.now ≡ settled (image_of [])) → Keeps [] 0 (log_parts first first 4 false faults 0)
fresh None faults is = record { told = tt; rest = λ _. tt; all = λ _. refl }
fresh (Some s) faults is = record { told = (fresh_story s is).0; rest = λ _. (fresh_story s is).1; all = λ _. refl }

pub fresh_log : (first : Option Story) (faults : ℕ) → IfSome first (λ s. s.now ≡ settled (image_of [])) → IsLog (log_parts first first 4 false faults 0)
fresh_log first faults is = record { given = []; answered = 0; keeps = fresh first faults is; small = omega arith }

-- a log that goes on stands for the records that it was given
pub record Stands (given : List (List ℕ)) (gate : ℕ) (first now : Option Story) : Type 0 where
  pub told : Goes (LosesNothing given (length given)) first now
  pub rest : Goes (IsAtRest gate given) first now

pub stands : (given : List (List ℕ)) (answered : ℕ) (log : LogParts) → Keeps given answered log → log.stopped ≡ false → Stands given log.gate log.first log.now
stands given answered log keeps going = record {
  told = subst (λ (n : ℕ). Goes (LosesNothing given n) log.first log.now) (keeps.all going) keeps.told;
  rest = keeps.rest going;
}

-- where an append has come to: these bytes are left of it
pub record InLoop (old : LogParts) (bytes rest : List ℕ) (log : LogParts) : Type 0 where
  pub done : List (List ℕ)
  pub cut : pieces_of bytes ≡ done ++ pieces_of rest
  pub is_log : IsLog old
  pub was : old.stopped ≡ false
  pub going : log.stopped ≡ false
  pub since : Goes (λ _ _. Unit {0}) old.now log.now
  pub keeps : (given : List (List ℕ)) (answered : ℕ) → Keeps given answered old → Keeps (given ++ done) (answered + length done) log
  pub faults : log.faults ≡ old.faults
  pub refused : log.refused ≡ old.refused
  pub place : log.gate + length rest ≡ old.gate + length bytes + 3 * length done
  pub fits : 0 < length done → log.gate + 1 ≤ 271581189
  pub still : length done ≡ 0 → log.now ≡ old.now
  pub small : log.gate < 2 ^ 32

since_itself : (now : Option Story) → Goes (λ _ _. Unit {0}) now now
since_itself None = tt
since_itself (Some s) = tt

still_tells : (S : Story → Story → Type 0) (f n m : Option Story) → Goes (λ _ _. Unit {0}) f n → Goes S n m → Goes (λ _ _. Unit {0}) f m
still_tells S f n None so_far step = tt
still_tells S f None (Some m) so_far step = absurd step
still_tells S None (Some n) (Some m) so_far step = absurd so_far
still_tells S (Some f) (Some n) (Some m) so_far step = tt

pub enters : (old : LogParts) (bytes : List ℕ) → IsLog old → old.stopped ≡ false → InLoop old bytes bytes old
enters old bytes is_log going = record {
  done = [];
  cut = refl;
  is_log = is_log;
  was = going;
  going = going;
  since = since_itself old.now;
  keeps = λ given answered keeps. subst (λ (g : List (List ℕ)). Keeps g (answered + 0) old) (sym (append-nil given)) (subst (λ (n : ℕ). Keeps given n old) (let e : answered ≡ answered + 0 = omega arith in e) keeps);
  faults = refl;
  refused = refl;
  place = omega arith;
  fits = λ some. absurd (omega arith);
  still = λ _. refl;
  small = is_log.small;
}

-- the next piece
pub length-piece : (rest : List ℕ) → length (take 256 rest) ≤ 256
length-piece rest = omega (arith, length-take 256 rest)

pub piece_short : (rest : List ℕ) → length (take 256 rest) < 2 ^ 16
piece_short rest = omega (arith, length-piece rest)

starts_told : (given : List (List ℕ)) (piece : List ℕ) (gate : ℕ) (first now : Option Story) → length piece < 2 ^ 16 → Stands given gate first now → Goes (λ f n. InRecord given piece gate 0 f n × IsAtRest gate given f n) first now
starts_told given piece gate first now short is = goes_both (λ f n loses rest. (starts given piece gate f n loses rest short, rest)) first now is.told is.rest

pub staged_told : (given : List (List ℕ)) (piece : List ℕ) (gate : ℕ) (first now next : Option Story) → length piece < 2 ^ 16 → Stands given gate first now
    → Goes (λ b a. a ≡ wrote_safely (gate + 1) (behind_of piece) b) now next → Goes (IsStaged given piece gate) first next
staged_told given piece gate first now next short is wrote =
    goes_on (λ f n m both done. first_safe given piece gate f n m both.0 both.1 done) first now next (starts_told given piece gate first now short is) wrote

-- no log that has stopped goes on
not_going : {X : Type 0} → true ≡ false → X
not_going stopped = absurd (cc stopped)

-- a write failed
pub first_broken : (given : List (List ℕ)) (piece : List ℕ) (gate : ℕ) (first now next : Option Story) → length piece < 2 ^ 16 → Stands given gate first now
    → Goes (HalfWroteSafely (gate + 1) (behind_of piece)) now next → Goes (LosesNothing (given ++ piece ∷ []) (length given)) first next
first_broken given piece gate first now next short is half =
    goes_on (λ f n m both wrote. first_half given piece gate f n m both.0 both.1 wrote) first now next (starts_told given piece gate first now short is) half

pub second_broken : (given : List (List ℕ)) (piece : List ℕ) (gate : ℕ) (first now next : Option Story) → Goes (IsStaged given piece gate) first now
    → Goes (HalfWroteSafely gate (1 ∷ [])) now next → Goes (LosesNothing (given ++ piece ∷ []) (length given)) first next
second_broken given piece gate first now next is half = goes_on (λ f n m staged wrote. second_half given piece gate f n m staged wrote) first now next is half

-- what is held
held_going : (log : LogParts) → log.stopped ≡ false → held_of log ≡ option_map (λ s. concat (records_of s.now.reads)) log.now
held_going log going = ap (λ (b : Bool). if b then None else option_map (λ s. concat (records_of s.now.reads)) log.now) going

held_stopped : (log : LogParts) → log.stopped ≡ true → held_of log ≡ None
held_stopped log is = ap (λ (b : Bool). if b then None else option_map (λ s. concat (records_of s.now.reads)) log.now) is

reads_as : (given : List (List ℕ)) (gate : ℕ) (f n : Story) → LosesNothing given (length given) f n → IsAtRest gate given f n → concat (records_of n.now.reads) ≡ concat given
reads_as given gate f n loses rest = ap (λ (s : DiskState). concat (records_of s.reads)) rest.state ∙ ap (λ (l : List (List ℕ)). concat l) (image_records given loses.short)

reads_now : (given : List (List ℕ)) (gate : ℕ) (first now : Option Story) → Stands given gate first now → IfSome now (λ n. concat (records_of n.now.reads) ≡ concat given)
reads_now given gate first now is = goes_now (λ f n same. same) first now (goes_both {C = λ f n. concat (records_of n.now.reads) ≡ concat given} (reads_as given gate) first now is.told is.rest)

gains_told : (given done : List (List ℕ)) (bytes : List ℕ) (b a : Option Story) → concat done ≡ bytes → Goes (λ _ _. Unit {0}) b a → IfSome b (λ n. concat (records_of n.now.reads) ≡ concat given) → IfSome a (λ n. concat (records_of n.now.reads) ≡ concat (given ++ done))
    → Gains (option_map (λ s. concat (records_of s.now.reads)) b) bytes (option_map (λ s. concat (records_of s.now.reads)) a)
gains_told given done bytes b None joined since before after = tt
gains_told given done bytes None (Some a) joined since before after = absurd since
gains_told given done bytes (Some b) (Some a) joined since before after =
    after ∙ concat-append given done ∙ ap (λ (l : List ℕ). concat given ++ l) joined ∙ ap (λ (l : List ℕ). l ++ bytes) (sym before)

gains_all : (old new : LogParts) (given done : List (List ℕ)) (bytes : List ℕ) → old.stopped ≡ false → new.stopped ≡ false → concat done ≡ bytes → Goes (λ _ _. Unit {0}) old.now new.now
    → Stands given old.gate old.first old.now → Stands (given ++ done) new.gate new.first new.now → Gains (held_of old) bytes (held_of new)
gains_all old new given done bytes was is joined since before after =
    subst (λ (h : Option (List ℕ)). Gains h bytes (held_of new)) (sym (held_going old was))
    (subst (λ (h : Option (List ℕ)). Gains (option_map (λ s. concat (records_of s.now.reads)) old.now) bytes h) (sym (held_going new is))
    (gains_told given done bytes old.now new.now joined since (reads_now given old.gate old.first old.now before) (reads_now (given ++ done) new.gate new.first new.now after)))

part_stopped : (old new : LogParts) (bytes : List ℕ) → new.stopped ≡ true → GainsPart (held_of old) bytes (held_of new)
part_stopped old new bytes is = (0, subst (λ (h : Option (List ℕ)). Gains (held_of old) (take 0 bytes) h) (sym (held_stopped new is)) tt)

-- all pieces are done
module _ (old : LogParts) (bytes rest : List ℕ) (log : LogParts) (l : InLoop old bytes rest log) where
  keeps_now : Keeps (l.is_log.given ++ l.done) (l.is_log.answered + length l.done) log
  keeps_now = l.keeps l.is_log.given l.is_log.answered l.is_log.keeps

  pub log_now : IsLog log
  log_now = record { given = l.is_log.given ++ l.done; answered = l.is_log.answered + length l.done; keeps = keeps_now; small = l.small }

  all_done : length rest ≡ 0 → pieces_of bytes ≡ l.done
  all_done none = l.cut ∙ ap (λ (p : List (List ℕ)). l.done ++ p) (no_pieces rest none) ∙ append-nil l.done

  pub gains_at_end : length rest ≡ 0 → Gains (held_of old) bytes (held_of log)
  gains_at_end none = gains_all old log l.is_log.given l.done bytes l.was l.going (ap (λ (d : List (List ℕ)). concat d) (sym (all_done none)) ∙ joined_pieces bytes) l.since (stands l.is_log.given l.is_log.answered old l.is_log.keeps l.was) (stands (l.is_log.given ++ l.done) (l.is_log.answered + length l.done) log keeps_now l.going)

  pub keeps_at_end : length rest ≡ 0 → KeepsAll bytes old log
  keeps_at_end none given answered keeps = subst (λ (d : List (List ℕ)). Keeps (given ++ d) (answered + length d) log) (sym (all_done none)) (l.keeps given answered keeps)

  pub done_at_end : length rest ≡ 0 → IsDone bytes old log
  done_at_end none =
      let same_length : length (pieces_of bytes) ≡ length l.done = ap (λ (p : List (List ℕ)). length p) (all_done none) in
      record {
        was = l.was;
        is = l.going;
        place = omega (arith, l.place, none, same_length);
        fits = fits same_length;
        faults = l.faults;
        refused = l.refused;
      }
    where
      fits : length (pieces_of bytes) ≡ length l.done → 0 < length bytes → end_of old bytes + 1 ≤ 271581189
      fits same_length some =
          let next : length (pieces_of bytes) ≡ suc (length (pieces_of (drop 256 bytes))) = ap (λ (p : List (List ℕ)). length p) (next_piece bytes some) in
          let below : log.gate + 1 ≤ 271581189 = l.fits (omega (arith, next, same_length)) in
          omega (arith, below, l.place, none, same_length)

  -- with the next piece
  more_cut : 0 < length rest → pieces_of bytes ≡ (l.done ++ take 256 rest ∷ []) ++ pieces_of (drop 256 rest)
  more_cut some = l.cut ∙ ap (λ (p : List (List ℕ)). l.done ++ p) (next_piece rest some) ∙ sym (append_assoc l.done (take 256 rest ∷ []) (pieces_of (drop 256 rest)))

  first_done : take (length l.done) (pieces_of bytes) ≡ l.done
  first_done = ap (λ (p : List (List ℕ)). take (length l.done) p) l.cut ∙ take_at l.done (pieces_of rest) (length l.done) refl

  first_more : 0 < length rest → take (length l.done + 1) (pieces_of bytes) ≡ l.done ++ take 256 rest ∷ []
  first_more some = ap (λ (p : List (List ℕ)). take (length l.done + 1) p) (more_cut some) ∙ take_at (l.done ++ take 256 rest ∷ []) (pieces_of (drop 256 rest)) (length l.done + 1) (length-append l.done (take 256 rest ∷ []))

  stopped_keeps : (given : List (List ℕ)) (answered : ℕ) (new : LogParts) → new.stopped ≡ true → Goes (LosesNothing given answered) new.first new.now → Keeps given answered new
  stopped_keeps given answered new is told = record { told = told; rest = λ going. not_going (sym is ∙ going); all = λ going. not_going (sym is ∙ going) }

  -- it stops before the next record
  pub stays : (new : LogParts) → new.stopped ≡ true → ((given : List (List ℕ)) (answered : ℕ) → Goes (LosesNothing given answered) log.first log.now → Goes (LosesNothing given answered) new.first new.now) → KeepsSome bytes old new
  stays new is same given answered keeps = record {
    begun = length l.done;
    done = length l.done;
    least = omega arith;
    most = omega arith;
    keeps = subst (λ (d : List (List ℕ)). Keeps (given ++ d) (answered + length l.done) new) (sym first_done) (stopped_keeps (given ++ l.done) (answered + length l.done) new is (same (given ++ l.done) (answered + length l.done) (l.keeps given answered keeps).told));
  }

  -- it stops in the next record
  pub breaks : (new : LogParts) → 0 < length rest → new.stopped ≡ true
      → ((given : List (List ℕ)) → Stands given log.gate log.first log.now → Goes (LosesNothing (given ++ take 256 rest ∷ []) (length given)) new.first new.now) → KeepsSome bytes old new
  breaks new some is broken given answered keeps =
      let before : Keeps (given ++ l.done) (answered + length l.done) log = l.keeps given answered keeps in
      let told : Goes (LosesNothing ((given ++ l.done) ++ take 256 rest ∷ []) (length (given ++ l.done))) new.first new.now = broken (given ++ l.done) (stands (given ++ l.done) (answered + length l.done) log before l.going) in
      let lists : (given ++ l.done) ++ take 256 rest ∷ [] ≡ given ++ take (length l.done + 1) (pieces_of bytes) = append_assoc given l.done (take 256 rest ∷ []) ∙ ap (λ (d : List (List ℕ)). given ++ d) (sym (first_more some)) in
      record {
        begun = length l.done + 1;
        done = length l.done;
        least = omega arith;
        most = omega arith;
        keeps = subst (λ (d : List (List ℕ)). Keeps d (answered + length l.done) new) lists
            (stopped_keeps ((given ++ l.done) ++ take 256 rest ∷ []) (answered + length l.done) new is
            (subst (λ (n : ℕ). Goes (LosesNothing ((given ++ l.done) ++ take 256 rest ∷ []) n) new.first new.now) (sym (before.all l.going)) told));
      }

  -- what was kept of some log is kept of one
  pub some_log : (new : LogParts) → new.gate < 2 ^ 32 → KeepsSome bytes old new → IsLog new
  some_log new small some =
      let off : BreaksOff l.is_log.given l.is_log.answered bytes new = some l.is_log.given l.is_log.answered l.is_log.keeps in
      record { given = l.is_log.given ++ take off.begun (pieces_of bytes); answered = l.is_log.answered + off.done; keeps = off.keeps; small = small }

  -- the next record doesn't fit
  pub too_far : (n : ℕ) → 0 < length rest → n ≤ length rest → 271581189 < log.gate + n + 4 → 271581189 < end_of old bytes + 1
  too_far n some few far =
      let more : length (pieces_of bytes) ≡ length ((l.done ++ take 256 rest ∷ []) ++ pieces_of (drop 256 rest)) = ap (λ (p : List (List ℕ)). length p) (more_cut some) in
      omega (arith, more, length-append (l.done ++ take 256 rest ∷ []) (pieces_of (drop 256 rest)), length-append l.done (take 256 rest ∷ []), l.place, few, far)

  -- and where it is the only one none is done
  pub is_first : 0 < length rest → length bytes ≤ 256 → log.now ≡ old.now
  is_first some short =
      let more : length (pieces_of bytes) ≡ length ((l.done ++ take 256 rest ∷ []) ++ pieces_of (drop 256 rest)) = ap (λ (p : List (List ℕ)). length p) (more_cut some) in
      l.still (omega (arith, more, few_pieces bytes short, length-append (l.done ++ take 256 rest ∷ []) (pieces_of (drop 256 rest)), length-append l.done (take 256 rest ∷ [])))

  -- the next record is done
  pub advances : (mid : Option Story) (new : LogParts) → 0 < length rest
      → Goes (λ b a. a ≡ wrote_safely (log.gate + 1) (behind_of (take 256 rest)) b) log.now mid
      → Goes (λ b a. a ≡ wrote_safely log.gate (1 ∷ []) b) mid new.now
      → new.first ≡ log.first
      → new.gate ≡ log.gate + (length (take 256 rest) + 3) → new.stopped ≡ false → new.faults ≡ log.faults → new.refused ≡ log.refused → log.gate + length (take 256 rest) + 4 ≤ 271581189
      → InLoop old bytes (drop 256 rest) new
  advances mid new some one two first gate going faults refused fits = record {
    done = l.done ++ take 256 rest ∷ [];
    cut = more_cut some;
    is_log = l.is_log;
    was = l.was;
    going = going;
    since = still_tells _ old.now mid new.now (still_tells _ old.now log.now mid l.since one) two;
    keeps = keeps_more;
    faults = faults ∙ l.faults;
    refused = refused ∙ l.refused;
    place = omega (arith, l.place, gate, length-append l.done (take 256 rest ∷ []), length-take 256 rest, length-drop 256 rest);
    fits = λ _. omega (arith, gate, fits);
    still = λ none. absurd (omega (arith, none, length-append l.done (take 256 rest ∷ [])));
    small = omega (arith, gate, fits);
  }
    where
      keeps_more : (given : List (List ℕ)) (answered : ℕ) → Keeps given answered old → Keeps (given ++ (l.done ++ take 256 rest ∷ [])) (answered + length (l.done ++ take 256 rest ∷ [])) new
      keeps_more given answered keeps =
          let piece = take 256 rest in
          let before : Keeps (given ++ l.done) (answered + length l.done) log = l.keeps given answered keeps in
          let staged : Goes (IsStaged (given ++ l.done) piece log.gate) log.first mid = staged_told (given ++ l.done) piece log.gate log.first log.now mid (piece_short rest) (stands (given ++ l.done) (answered + length l.done) log before l.going) one in
          let told : Goes (LosesNothing ((given ++ l.done) ++ piece ∷ []) (length ((given ++ l.done) ++ piece ∷ []))) new.first new.now =
          subst (λ (f : Option Story). Goes (LosesNothing ((given ++ l.done) ++ piece ∷ []) (length ((given ++ l.done) ++ piece ∷ []))) f new.now) (sym first)
          (goes_on (λ f n m staged done. (second_safe (given ++ l.done) piece log.gate f n m staged done).0) log.first mid new.now staged two) in
          let rests : Goes (IsAtRest (log.gate + (length piece + 3)) ((given ++ l.done) ++ piece ∷ [])) new.first new.now =
          subst (λ (f : Option Story). Goes (IsAtRest (log.gate + (length piece + 3)) ((given ++ l.done) ++ piece ∷ [])) f new.now) (sym first)
          (goes_on (λ f n m staged done. (second_safe (given ++ l.done) piece log.gate f n m staged done).1) log.first mid new.now staged two) in
          let count : length ((given ++ l.done) ++ piece ∷ []) ≡ answered + length (l.done ++ piece ∷ []) = omega (arith, before.all l.going, length-append (given ++ l.done) (piece ∷ []), length-append l.done (piece ∷ [])) in
          subst (λ (d : List (List ℕ)). Keeps d (answered + length (l.done ++ piece ∷ [])) new) (append_assoc given l.done (piece ∷ []))
          (record {
            told = subst (λ (n : ℕ). Goes (LosesNothing ((given ++ l.done) ++ piece ∷ []) n) new.first new.now) count told;
            rest = λ _. subst (λ (n : ℕ). Goes (IsAtRest n ((given ++ l.done) ++ piece ∷ [])) new.first new.now) (sym gate) rests;
            all = λ _. sym count;
          })

-- a log that stopped before stays as it is
pub refused_keeps : (old new : LogParts) (bytes : List ℕ) → new.stopped ≡ true → ((given : List (List ℕ)) (answered : ℕ) → Goes (LosesNothing given answered) old.first old.now → Goes (LosesNothing given answered) new.first new.now) → KeepsSome bytes old new
refused_keeps old new bytes is same given answered keeps = record {
  begun = 0;
  done = 0;
  least = omega arith;
  most = omega arith;
  keeps = subst (λ (d : List (List ℕ)). Keeps d (answered + 0) new) (sym (append-nil given))
      (subst (λ (n : ℕ). Keeps given n new) (let e : answered ≡ answered + 0 = omega arith in e)
      (record { told = same given answered keeps.told; rest = λ going. not_going (sym is ∙ going); all = λ going. not_going (sym is ∙ going) }));
}

pub first_fits : (given : List (List ℕ)) (gate : ℕ) (first now : Option Story) → Stands given gate first now → IfSome now (λ s. gate + 1 ≤ length s.now.reads)
first_fits given gate first now is = goes_now (λ f n rest. at_rest_length given gate f n rest) first now is.rest

pub second_fits : (given : List (List ℕ)) (piece : List ℕ) (gate : ℕ) (first now : Option Story) → Goes (IsStaged given piece gate) first now → IfSome now (λ s. gate ≤ length s.now.reads)
second_fits given piece gate first now is = goes_now (λ f n staged. staged_length given piece gate f n staged) first now is
