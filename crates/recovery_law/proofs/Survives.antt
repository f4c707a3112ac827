-- What a log of lines was given is the lines of the first events, so each image has such lines.
use Rattle.std.proofs.Common.{◌≡◌, ◌⊎◌, inl, inr, ℕ, zero, suc, ◌+◌, ◌-◌, ◌/◌, ◌<◌, ◌≤◌, min, Bool, false, List, [], ◌∷◌, ◌++◌, length, take, find, refl, sym, ◌∙◌, ap, subst, arith, length-append, length-take, Option, Some, None, IfSome, option_map}
use Rattle.std.specs.List.{AllByRecursion, concat}
use Rattle.std.specs.Option.{option_to_list}
use Rattle.std.proofs.lemmas.List.{take-take, take_all, take_at}
use Rattle.outside.specs.Told.{Goes}
use Rattle.policy_model.specs.declared.event.Event.{Event}
use Rattle.policy_model.specs.Asks.{is_lost}
use Rattle.policy_model.specs.Journal.{kept_events}
use Rattle.policy_model.specs.Legal.{next_event}
use Rattle.policy_model.specs.Settings.{Settings}
use Rattle.decision_log.specs.Log.{line_of, lines_after}
use Rattle.decision_log.proofs.Writable.{IsWritable}
use Rattle.durable_log.specs.Disk.{Story, moment_of, states_of}
use Rattle.durable_log.specs.Journal.{HasAnswered, LosesNothing}
use Rattle.durable_log.specs.Records.{HasRecords}
use Rattle.durable_log.proofs.Moments.{weaken}
use Rattle.durable_log.proofs.Told.{goes_map}
use Rattle.audit_check.proofs.LineEnds.{line_some, one_line}
use Rattle.ledger_journal.specs.Journals.{IsWhole, records_after, records_of}
use Rattle.ledger_journal.proofs.BackLemmas.{back}
use Rattle.ledger_journal.proofs.LineLemmas.{event_is_line, records_len, writable}
use Rattle.line_log.specs.Kept.{IsLineLog, LineParts, given_of}
use Rattle.monitor_book.specs.Lines.{HoldsLines, lost_line}
use Rattle.monitor_book.specs.Kept.{lost_line_of}
use Rattle.monitor_book.specs.Lines.{decided_in, lost_event}
use Rattle.recovery_law.specs.Surviving.{HasFirst, IsRunOf, LosesNoEvent}
use Rattle.recovery_law.proofs.Cutting.{IsFirst, IsLast, same_lines}
use Rattle.recovery_law.proofs.Decided.{first_whole}

-- the lines of events, joined
joined_records : (count : ℕ) (events : List Event) → concat (records_after count events) ≡ lines_after count events
joined_records count [] = refl
joined_records count (e ∷ events) = ap (λ (l : List ℕ). line_of (count + 1) e ++ l) (joined_records (count + 1) events)

records_take : (n count : ℕ) (events : List Event) → take n (records_after count events) ≡ records_after count (take n events)
records_take zero count events = refl
records_take (suc n) count [] = refl
records_take (suc n) count (e ∷ events) = ap (λ (l : List (List ℕ)). line_of (count + 1) e ∷ l) (records_take n (count + 1) events)

records_push : (count : ℕ) (events : List Event) (e : Event) → records_after count (events ++ e ∷ []) ≡ records_after count events ++ line_of (count + length events + 1) e ∷ []
records_push count [] e = let same : count + 1 ≡ count + 0 + 1 = omega arith in ap (λ n. line_of n e ∷ []) same
records_push count (x ∷ events) e =
    let same : count + 1 + length events + 1 ≡ count + length (x ∷ events) + 1 = omega arith in
    ap (λ (l : List (List ℕ)). line_of (count + 1) x ∷ l) (records_push (count + 1) events e ∙ ap (λ n. records_after (count + 1) events ++ line_of n e ∷ []) same)

-- each of them is its text's first
line_is_first : (number : ℕ) (e : Event) → number ≤ 1048576 → IsWritable e → IsFirst (line_of number e)
line_is_first number e few w = (omega (arith, line_some number e), λ rest. one_line number e rest (event_is_line number e few w))

records_first : (count : ℕ) (events : List Event) → count + length events ≤ 1048576 → AllByRecursion IsWritable events → AllByRecursion IsFirst (records_after count events)
records_first count [] few all = tt
records_first count (e ∷ events) few all = (line_is_first (count + 1) e (omega (arith, few)) all.0, records_first (count + 1) events (omega (arith, few)) all.1)

-- the front of a list, and its last
all_front : {X : Type 0} (P : X → Type 0) (xs ys : List X) → AllByRecursion P (xs ++ ys) → AllByRecursion P xs
all_front P [] ys all = tt
all_front P (x ∷ xs) ys all = (all.0, all_front P xs ys all.1)

all_last : {X : Type 0} (P : X → Type 0) (xs : List X) (x : X) → AllByRecursion P (xs ++ x ∷ []) → P x
all_last P [] x all = all.0
all_last P (y ∷ xs) x all = all_last P xs x all.1

module _ (setup : Settings) (journal : List Event) (run : IsRunOf setup journal) where
  abbrev kept : List Event
  kept = kept_events journal

  abbrev next : Event → Event
  next e = next_event setup kept e.worker e.ask

  abbrev decided : List Event
  decided = decided_in setup journal

  whole : IsWhole setup decided
  whole = subst (IsWhole setup) (take_all (length decided) decided (omega arith)) (first_whole setup journal run (length decided))

  written : AllByRecursion IsWritable decided
  written = writable setup decided whole

  kept_first : AllByRecursion IsFirst (records_of kept)
  kept_first = records_first 0 kept (omega (arith, whole.few, length-append kept (option_to_list (lost_event setup journal)))) (all_front IsWritable kept (option_to_list (lost_event setup journal)) written)

  -- the lines are those of the first events
  record AreFirst (lines : List (List ℕ)) : Type 0 where
    many : ℕ
    enough : length kept ≤ many
    are : lines ≡ records_of (take many decided)

  -- by whether an event was lost
  module _ (o : Option Event) (is : decided ≡ kept ++ option_to_list (option_map next o)) where
    last_is : IsLast (lost_line_of setup kept o)
    last_is = by o is where
      by : (p : Option Event) → decided ≡ kept ++ option_to_list (option_map next p) → IsLast (lost_line_of setup kept p)
      by None same = inl refl
      by (Some e) same =
          let all : AllByRecursion IsWritable (kept ++ next e ∷ []) = subst (AllByRecursion IsWritable) same written in
          let long : length decided ≡ length (kept ++ next e ∷ []) = ap length same in
          inr (line_is_first (length kept + 1) (next e) (omega (arith, whole.few, long, length-append kept (next e ∷ []))) (all_last IsWritable kept (next e) all))

    lines_first : (lines : List (List ℕ)) → (lines ≡ records_of kept) ⊎ (IsFirst (lost_line_of setup kept o) × (lines ≡ records_of kept ++ lost_line_of setup kept o ∷ [])) → AreFirst lines
    lines_first lines (inl these) = record {
      many = length kept;
      enough = omega arith;
      are = these ∙ ap records_of (sym (ap (take (length kept)) is ∙ take_at kept (option_to_list (option_map next o)) (length kept) refl));
    }
    lines_first lines (inr more) = by o is more where
      by : (p : Option Event) → decided ≡ kept ++ option_to_list (option_map next p) → IsFirst (lost_line_of setup kept p) × (lines ≡ records_of kept ++ lost_line_of setup kept p ∷ []) → AreFirst lines
      by None same m = let none : 0 < 0 = m.0.0 in absurd (omega (arith, none))
      by (Some e) same m = record {
        many = length decided;
        enough = omega (arith, ap length same, length-append kept (next e ∷ []));
        are = m.1 ∙ ap (λ n. records_of kept ++ line_of n (next e) ∷ []) (let e : length kept + 1 ≡ 0 + length kept + 1 = omega arith in e) ∙ sym (records_push 0 kept (next e)) ∙ ap records_of (sym same) ∙ ap records_of (sym (take_all (length decided) decided (omega arith)));
      }

  lines_are : (lines : List (List ℕ)) (given : List ℕ) → AllByRecursion Rattle.line_log.specs.Kept.IsLine lines → given ≡ concat lines → HoldsLines setup journal [] given → AreFirst lines
  lines_are lines given all joined holds =
      let text : concat lines ≡ concat (records_of kept) ++ take holds.lines.0 (lost_line setup journal) = sym joined ∙ holds.lines.1 ∙ ap (λ (l : List ℕ). l ++ take holds.lines.0 (lost_line setup journal)) (sym (joined_records 0 kept)) in
      lines_first (find (λ e. is_lost e.decision) journal) refl lines
      (same_lines lines (records_of kept) (lost_line setup journal) holds.lines.0 all kept_first (last_is (find (λ e. is_lost e.decision) journal) refl) text)

  -- each image has the lines of the first
  survives : (lines : List (List ℕ)) (answered : ℕ) (stopped : Bool) (f n : Story) → AreFirst lines
      → length lines ≤ answered + 1 → (stopped ≡ false → answered ≡ length lines) → LosesNothing lines answered f n
      → LosesNoEvent setup journal stopped f n
  survives lines answered stopped f n first most whole loses =
      let long : length lines ≡ length (take first.many decided) = ap length first.are ∙ records_len 0 (take first.many decided) in
      let kept_few : length kept ≤ length decided = omega (arith, length-append kept (option_to_list (lost_event setup journal))) in
      record {
        answered = answered;
        enough = omega (arith, most, long, length-take first.many decided, first.enough, kept_few);
        all = λ going. omega (arith, whole going, long, length-take first.many decided, first.enough, kept_few);
        each = weaken (moment_of f) (HasAnswered lines answered (moment_of f)) (λ moment. HasFirst setup journal (min ((moment - moment_of f) / 4) answered)) (states_of n) step loses.each;
      }
    where
      step : (k : ℕ) (image : List ℕ) → moment_of f ≤ k → k < length (states_of n) → HasAnswered lines answered (moment_of f) k image → HasFirst setup journal (min ((k - moment_of f) / 4) answered) image
      step k image from below has =
          let long : length lines ≡ length (take first.many decided) = ap length first.are ∙ records_len 0 (take first.many decided) in
          let few : has.count ≤ first.many = omega (arith, has.most_of, long, length-take first.many decided) in
          let taken : take has.count lines ≡ records_of (take has.count decided) =
          ap (take has.count) first.are ∙ records_take has.count 0 (take first.many decided) ∙ ap records_of (take-take has.count first.many decided few) in
          record {
            count = has.count;
            enough = has.least_of;
            records = subst (HasRecords image) taken has.records;
            back = λ result answer. back setup (take has.count decided) result (first_whole setup journal run has.count) answer;
          }

pub loses_no_event : (setup : Settings) (journal : List Event) (log : LineParts) (given : List ℕ) → IsRunOf setup journal → IsLineLog log → given_of log ≡ Some given → HoldsLines setup journal [] given → Goes (LosesNoEvent setup journal log.log.stopped) log.log.first log.log.now
loses_no_event setup journal log given run l told holds =
    let joined : given ≡ concat l.lines = subst (λ (o : Option (List ℕ)). IfSome o (λ g. g ≡ concat l.lines)) told l.keeps.joined in
    let first : AreFirst setup journal run l.lines = lines_are setup journal run l.lines given l.keeps.each joined holds in
    goes_map (λ f n loses. survives setup journal run l.lines l.answered log.log.stopped f n first l.keeps.most
    (λ going. (l.keeps.all going).all going) loses) log.log.first log.log.now l.keeps.told
