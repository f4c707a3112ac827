-- What an append makes of the lines that a log was given.
use Rattle.std.proofs.Common.{◌≡◌, ℕ, zero, suc, ◌+◌, ◌<◌, ◌≤◌, ◌^◌, ◌==◌, not, leb, Bool, true, false, List, [], ◌∷◌, ◌++◌, length, take, sym, ◌∙◌, ap, subst, arith, length-append, Option, Some, None, IfSome, option_map, is_some, if◌then◌else◌}
use Rattle.std.specs.List.{AllByRecursion, concat, prefix_len}
use Rattle.std.proofs.lemmas.Bool.{and_parts, leb-true}
use Rattle.std.proofs.lemmas.Bool.Decides.{nat_tests}
use Rattle.std.proofs.lemmas.List.{append-nil, take_all, take-append-le}
use Rattle.std.proofs.lemmas.List.Folds.{concat-append}
use Rattle.outside.specs.Told.{Gains, GainsPart}
use Rattle.durable_log.specs.Appending.{BreaksOff, KeepsAll, KeepsSome}
use Rattle.durable_log.specs.Disk.{DiskState, Story, moment_of, settled, states_of}
use Rattle.durable_log.specs.Journal.{HasAnswered, Keeps, LogParts, LosesNothing, held_of, image_of, log_parts, pieces_of, records_of}
use Rattle.durable_log.specs.Records.{HasRecords}
use Rattle.durable_log.proofs.Moments.{weaken}
use Rattle.durable_log.proofs.Pieces.{one_piece}
use Rattle.durable_log.proofs.Reading.{short_push}
use Rattle.durable_log.proofs.Told.{goes_map}
use Rattle.line_log.specs.Kept.{IsLine, IsLineLog, KeepsLines, LineParts, given_at_last, given_of, line_parts}
use Rattle.line_log.specs.Line.{is_line}

-- a line's length
pub line_few : (bytes : List ℕ) → is_line bytes ≡ true → length bytes ≤ 256
line_few bytes is = leb-true (length bytes) 256 (and_parts _ _ is).0

pub line_some : (bytes : List ℕ) → is_line bytes ≡ true → 0 < length bytes
line_some bytes is =
    let n = prefix_len (λ c. not (c == 10)) bytes in
    let same : (n + 1 == length bytes) ≡ true = (and_parts (leb (length bytes) 256) (n + 1 == length bytes) is).1 in
    grind (arith, nat_tests)

-- a line more may be given
more_given : (lines : List (List ℕ)) (answered : ℕ) (bytes : List ℕ) (f n : Story) → length bytes < 2 ^ 16 → LosesNothing lines answered f n → LosesNothing (lines ++ bytes ∷ []) answered f n
more_given lines answered bytes f n short loses = record {
  newer = loses.newer;
  later = loses.later;
  short = short_push lines bytes loses.short short;
  few = omega (arith, loses.few, length-append lines (bytes ∷ []));
  each = weaken (moment_of f) (HasAnswered lines answered (moment_of f)) (HasAnswered (lines ++ bytes ∷ []) answered (moment_of f)) (states_of n) step loses.each;
}
  where
    step : (k : ℕ) (image : List ℕ) → moment_of f ≤ k → k < length (states_of n) → HasAnswered lines answered (moment_of f) k image → HasAnswered (lines ++ bytes ∷ []) answered (moment_of f) k image
    step k image from below has = record {
      count = has.count;
      least_of = has.least_of;
      most_of = omega (arith, has.most_of, length-append lines (bytes ∷ []));
      records = subst (λ (l : List (List ℕ)). HasRecords image l) (sym (take-append-le has.count lines (bytes ∷ []) (omega (arith, has.most_of)))) has.records;
    }

-- whatever was begun of a line, it may be given
begun_given : (lines : List (List ℕ)) (answered begun : ℕ) (bytes : List ℕ) (f n : Story) → length bytes < 2 ^ 16 → LosesNothing (lines ++ take begun (bytes ∷ [])) answered f n → LosesNothing (lines ++ bytes ∷ []) answered f n
begun_given lines answered zero bytes f n short loses = more_given lines answered bytes f n short (subst (λ (l : List (List ℕ)). LosesNothing l answered f n) (append-nil lines) loses)
begun_given lines answered (suc begun) bytes f n short loses = subst (λ (l : List (List ℕ)). LosesNothing (lines ++ l) answered f n) (take_all (suc begun) (bytes ∷ []) (omega arith)) loses

-- all lines and one more
each_push : (lines : List (List ℕ)) (bytes : List ℕ) → AllByRecursion IsLine lines → is_line bytes ≡ true → AllByRecursion IsLine (lines ++ bytes ∷ [])
each_push [] bytes each is = (record { is = is }, tt)
each_push (line ∷ lines) bytes each is = (each.0, each_push lines bytes each.1 is)

-- the lines joined
joined_push : (lines : List (List ℕ)) (bytes : List ℕ) → concat (lines ++ bytes ∷ []) ≡ concat lines ++ bytes
joined_push lines bytes = concat-append lines (bytes ∷ []) ∙ ap (λ (l : List ℕ). concat lines ++ l) (append-nil bytes)

joined_gains : (lines : List (List ℕ)) (bytes : List ℕ) (before after : Option (List ℕ)) → IfSome before (λ given. given ≡ concat lines) → Gains before bytes after → IfSome after (λ given. given ≡ concat (lines ++ bytes ∷ []))
joined_gains lines bytes before None was gains = tt
joined_gains lines bytes None (Some a) was gains = absurd gains
joined_gains lines bytes (Some b) (Some a) was gains = gains ∙ ap (λ (l : List ℕ). l ++ bytes) was ∙ sym (joined_push lines bytes)

-- a log that is made holds nothing
fresh_held : (first : Option Story) (faults : ℕ) → IfSome first (λ s. s.now ≡ settled (image_of [])) → IfSome (held_of (log_parts first first 4 false faults 0)) (λ given. given ≡ [])
fresh_held None faults is = tt
fresh_held (Some s) faults is = ap (λ (d : DiskState). concat (records_of d.reads)) is

pub fresh_lines : (first : Option Story) (faults : ℕ) (log before : LogParts) (last : List ℕ) → log ≡ log_parts first first 4 false faults 0 → IfSome first (λ s. s.now ≡ settled (image_of [])) → Keeps [] 0 log → KeepsLines [] 0 (line_parts log before last 0)
fresh_lines first faults log before last is clean keeps = record {
  each = tt;
  told = keeps.told;
  joined = subst (λ (l : LogParts). IfSome (given_of (line_parts l before last 0)) (λ given. given ≡ [])) (sym is) (fresh_held first faults clean);
  all = λ _. keeps;
  most = omega arith;
}

-- what is told of nothing more
pub gains_none : (bytes : List ℕ) (given : Option (List ℕ)) → GainsPart given bytes given
gains_none bytes None = (0, tt)
gains_none bytes (Some given) = (0, sym (append-nil given))

last_joined : (lines : List (List ℕ)) (bytes : List ℕ) (now : Option Story) (held : Option (List ℕ)) → IfSome held (λ given. given ≡ concat lines) → IfSome (if is_some now then option_map (λ h. h ++ bytes) held else None) (λ given. given ≡ concat (lines ++ bytes ∷ []))
last_joined lines bytes None held was = tt
last_joined lines bytes (Some s) None was = tt
last_joined lines bytes (Some s) (Some h) was = ap (λ (l : List ℕ). l ++ bytes) was ∙ sym (joined_push lines bytes)

last_gains : (bytes : List ℕ) (now : Option Story) (held : Option (List ℕ)) → GainsPart held bytes (if is_some now then option_map (λ h. h ++ bytes) held else None)
last_gains bytes None held = (0, tt)
last_gains bytes (Some s) None = (0, tt)
last_gains bytes (Some s) (Some h) = (length bytes, ap (λ (l : List ℕ). h ++ l) (sym (take_all (length bytes) bytes (omega arith))))

-- a line is appended to a log that goes on
module _ (parts : LineParts) (bytes : List ℕ) (is : is_line bytes ≡ true) (going : parts.log.stopped ≡ false) (l : IsLineLog parts) where
  one : pieces_of bytes ≡ bytes ∷ []
  one = one_piece bytes (line_some bytes is) (line_few bytes is)

  keeps_now : Keeps l.lines l.answered parts.log
  keeps_now = l.keeps.all going

  held_now : IfSome (held_of parts.log) (λ given. given ≡ concat l.lines)
  held_now = subst (λ (b : Bool). IfSome (if b then given_at_last parts else held_of parts.log) (λ given. given ≡ concat l.lines)) going l.keeps.joined

  -- it is done
  pub line_kept : (new before : LogParts) (last : List ℕ) (refused : ℕ) → new.stopped ≡ false → KeepsAll bytes parts.log new → Gains (held_of parts.log) bytes (held_of new) → IsLineLog (line_parts new before last refused)
  line_kept new before last refused goes all gains =
      let kept : Keeps (l.lines ++ bytes ∷ []) (l.answered + 1) new = subst (λ (p : List (List ℕ)). Keeps (l.lines ++ p) (l.answered + length p) new) one (all l.lines l.answered keeps_now) in
      record {
        lines = l.lines ++ bytes ∷ [];
        answered = l.answered + 1;
        keeps = record {
          each = each_push l.lines bytes l.keeps.each is;
          told = kept.told;
          joined = subst (λ (b : Bool). IfSome (if b then given_at_last (line_parts new before last refused) else held_of new) (λ given. given ≡ concat (l.lines ++ bytes ∷ []))) (sym goes)
              (joined_gains l.lines bytes (held_of parts.log) (held_of new) held_now gains);
          all = λ _. kept;
          most = omega (arith, l.keeps.most, length-append l.lines (bytes ∷ []));
        };
      }

  pub gains_line : (new before : LogParts) (last : List ℕ) (refused : ℕ) → new.stopped ≡ false → Gains (held_of parts.log) bytes (held_of new) → Gains (given_of parts) bytes (given_of (line_parts new before last refused))
  gains_line new before last refused goes gains =
      subst (λ (b : Bool). Gains (if b then given_at_last parts else held_of parts.log) bytes (given_of (line_parts new before last refused))) (sym going)
      (subst (λ (b : Bool). Gains (held_of parts.log) bytes (if b then given_at_last (line_parts new before last refused) else held_of new)) (sym goes) gains)

  -- it fails
  pub line_broken : (new : LogParts) (refused : ℕ) → new.stopped ≡ true → KeepsSome bytes parts.log new → IsLineLog (line_parts new parts.log bytes refused)
  line_broken new refused stopped some =
      let off : BreaksOff l.lines l.answered bytes new = some l.lines l.answered keeps_now in
      let few : length bytes ≤ 256 = line_few bytes is in
      record {
        lines = l.lines ++ bytes ∷ [];
        answered = l.answered + off.done;
        keeps = record {
          each = each_push l.lines bytes l.keeps.each is;
          told = goes_map (λ f n loses. begun_given l.lines (l.answered + off.done) off.begun bytes f n (omega (arith, few)) (subst (λ (p : List (List ℕ)). LosesNothing (l.lines ++ take off.begun p) (l.answered + off.done) f n) one loses)) new.first new.now off.keeps.told;
          joined = subst (λ (b : Bool). IfSome (if b then given_at_last (line_parts new parts.log bytes refused) else held_of new) (λ given. given ≡ concat (l.lines ++ bytes ∷ []))) (sym stopped)
              (last_joined l.lines bytes new.now (held_of parts.log) held_now);
          all = λ goes. absurd (let no : true ≡ false = sym stopped ∙ goes in cc no);
          most = omega (arith, keeps_now.all going, length-append l.lines (bytes ∷ []));
        };
      }

  pub gains_last : (new : LogParts) (refused : ℕ) → new.stopped ≡ true → GainsPart (given_of parts) bytes (given_of (line_parts new parts.log bytes refused))
  gains_last new refused stopped =
      subst (λ (b : Bool). GainsPart (if b then given_at_last parts else held_of parts.log) bytes (given_of (line_parts new parts.log bytes refused))) (sym going)
      (subst (λ (b : Bool). GainsPart (held_of parts.log) bytes (if b then given_at_last (line_parts new parts.log bytes refused) else held_of new)) (sym stopped)
      (last_gains bytes new.now (held_of parts.log)))
