-- The records that a journal makes are lines with their places as numbers.
use Rattle.std.proofs.Common.{◌≡◌, ℕ, zero, suc, ◌+◌, ◌≤◌, ◌<◌, ◌^◌, Bool, true, false, not, ◌||◌, cond, nat_eq, List, [], ◌∷◌, ◌++◌, length, slice_get, None, Some, refl, sym, ap, subst, ◌∙◌, arith, inl, inr, lit<}
use Rattle.std.specs.Prelude.{Result, Ok}
use Rattle.std.specs.Bool.{then_some}
use Rattle.std.specs.List.{AllByRecursion, list_any}
use Rattle.std.specs.Option.{option_to_list}
use Rattle.std.specs.Result.{result_ok}
use Rattle.std.proofs.lemmas.Bool.Decides.{nat_tests}
use Rattle.policy_model.specs.declared.event.Event.{Event}
use Rattle.policy_model.specs.Asks.{is_lost}
use Rattle.policy_model.specs.Journal.{kept_events}
use Rattle.policy_model.specs.Settings.{Settings}
use Rattle.decision_log.specs.declared.logged.LineFault.{LineFault}
use Rattle.decision_log.specs.Log.{line_of}
use Rattle.decision_log.specs.Values.{IsLine, LineValue, line_value}
use Rattle.decision_log.proofs.EventLines.{event_forth}
use Rattle.ledger_journal.specs.Journals.{IsWhole, records_after, records_of}
use Rattle.ledger_journal.specs.Lines.{line_at, lines_after, lines_of, numbered}
use Rattle.ledger_journal.specs.Recovering.{IsNoLine}
use Rattle.decision_log.proofs.Writable.{IsWritable, kept_writable, line_ask}

-- what the lines of events say, where so many stand before them
abbrev pub values_after : ℕ → List Event → List LineValue
values_after count [] = []
values_after count (e ∷ events) = line_value (count + 1) e ∷ values_after (count + 1) events

pub values_push : (count : ℕ) (events : List Event) (e : Event) → values_after count (events ++ e ∷ []) ≡ values_after count events ++ line_value (count + length events + 1) e ∷ []
values_push count [] e = let same : count + 1 ≡ count + 0 + 1 = omega arith in ap (λ n. line_value n e ∷ []) same
values_push count (x ∷ events) e =
    let same : count + 1 + length events + 1 ≡ count + length (x ∷ events) + 1 = omega arith in
    ap (λ l. line_value (count + 1) x ∷ l) (values_push (count + 1) events e ∙ ap (λ n. values_after (count + 1) events ++ line_value n e ∷ []) same)

-- an event that can be written is a line
pub event_is_line : (number : ℕ) (e : Event) → number ≤ 1048576 → IsWritable e → IsLine (line_value number e)
event_is_line number e few w = record {
  number = (let limit : 1048576 < 2 ^ 32 = lit< tt in omega (arith, few, limit));
  worker = w.typed.worker;
  session = w.typed.session;
  ask = line_ask e.ask w.typed.ask;
  decision = w.shown;
}

same_number : (n : ℕ) (v : LineValue) → v.number ≡ n → numbered n (result_ok {E = LineFault} (Ok v)) ≡ Some v
same_number n v is = let test : nat_eq v.number n ≡ true = grind (arith, nat_tests, is) in ap (λ b. then_some b v) test

line_there : (number : ℕ) (e : Event) → number ≤ 1048576 → IsWritable e → line_at number (line_of number e) ≡ Some (line_value number e)
line_there number e few w = ap (λ (r : Result LineValue LineFault). numbered number (result_ok r)) (event_forth number e (event_is_line number e few w)) ∙ same_number number (line_value number e) refl

pub lines_are : (count : ℕ) (events : List Event) → count + length events ≤ 1048576 → AllByRecursion IsWritable events → lines_after count (records_after count events) ≡ values_after count events
lines_are count [] few all = refl
lines_are count (e ∷ events) few all =
    ap (λ o. option_to_list o ++ lines_after (count + 1) (records_after (count + 1) events)) (line_there (count + 1) e (omega (arith, few)) all.0)
    ∙ ap (λ l. line_value (count + 1) e ∷ l) (lines_are (count + 1) events (omega (arith, few)) all.1)

pub records_len : (count : ℕ) (events : List Event) → length (records_after count events) ≡ length events
records_len count [] = refl
records_len count (e ∷ events) = let h = records_len (count + 1) events in omega (arith, h)

record StandsThere (count : ℕ) (events : List Event) (place : ℕ) (bytes : List ℕ) : Type 0 where
  event : Event
  writable : IsWritable event
  below : place < length events
  is : bytes ≡ line_of (count + place + 1) event

there : (count : ℕ) (events : List Event) (place : ℕ) (bytes : List ℕ) → AllByRecursion IsWritable events → slice_get (records_after count events) place ≡ Some bytes → StandsThere count events place bytes
there count [] place bytes all h = absurd cc
there count (e ∷ events) zero bytes all h =
    let same : count + 1 ≡ count + 0 + 1 = omega arith in
    record { event = e; writable = all.0; below = omega arith; is = (let b : line_of (count + 1) e ≡ bytes = cc in sym b ∙ ap (λ n. line_of n e) same) }
there count (e ∷ events) (suc place) bytes all h =
    let t = there (count + 1) events place bytes all.1 h in
    let same : count + 1 + place + 1 ≡ count + suc place + 1 = omega arith in
    record { event = t.event; writable = t.writable; below = (let lt = t.below in omega (arith, lt)); is = t.is ∙ ap (λ n. line_of n t.event) same }

-- nothing was lost, so all events are kept
kept_same : (events : List Event) → list_any (λ (e : Event). is_lost e.decision) events ≡ false → kept_events events ≡ events
kept_same [] none = refl
kept_same (e ∷ events) none = go (is_lost e.decision) none (kept_same events) where
  go : (b : Bool) → (b || list_any (λ (x : Event). is_lost x.decision) events) ≡ false → (list_any (λ (x : Event). is_lost x.decision) events ≡ false → kept_events events ≡ events) → cond (not b) (e ∷ kept_events events) (kept_events events) ≡ e ∷ events
  go true none rest = absurd cc
  go false none rest = ap (λ l. e ∷ l) (rest none)

pub writable : (setup : Settings) (journal : List Event) → IsWhole setup journal → AllByRecursion IsWritable journal
writable setup journal w = subst (AllByRecursion IsWritable) (kept_same journal w.kept) (kept_writable setup journal w.legal w.proper w.typed)

pub lines_whole : (setup : Settings) (journal : List Event) → IsWhole setup journal → lines_of (records_of journal) ≡ values_after 0 journal
lines_whole setup journal w = lines_are 0 journal (let few = w.few in omega (arith, few)) (writable setup journal w)

-- no record of a journal is no line
pub all_lines : (setup : Settings) (journal : List Event) → IsWhole setup journal → (number : ℕ) → IsNoLine (records_of journal) number → ⊥
all_lines setup journal w number h =
    let t = there 0 journal h.place h.bytes (writable setup journal w) h.stands in
    let few = w.few in
    let number_is : number ≡ 0 + h.place + 1 = (let e = h.counted in omega (arith, e)) in
    let least : number ≤ 1048576 = (let lt = t.below in omega (arith, few, lt, number_is)) in
    elim h.fault [
      | inl far ↦ absurd (omega (arith, far, least))
      | inr none ↦
          let line : line_at number h.bytes ≡ Some (line_value number t.event) = ap (line_at number) (t.is ∙ ap (λ n. line_of n t.event) (sym number_is)) ∙ line_there number t.event least t.writable in
          let wrong : None ≡ Some (line_value number t.event) = sym none ∙ line in
          absurd cc
    ]
