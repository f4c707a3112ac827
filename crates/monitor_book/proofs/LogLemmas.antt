-- The log goes on by the line of an event.
use Rattle.std.proofs.Common.{◌≡◌, ℕ, zero, suc, ◌+◌, ◌≤◌, Bool, true, false, ◌||◌, not, cond, List, [], ◌∷◌, ◌++◌, length, take, Option, Some, None, refl, sym, ap, subst, ◌∙◌, append_assoc, arith}
use Rattle.std.specs.Prelude.{find, if◌then◌else◌}
use Rattle.std.proofs.lemmas.Bool.{false≢true}
use Rattle.std.proofs.lemmas.List.{append-nil}
use Rattle.std.proofs.lemmas.List.Folds.{find-append}
use Rattle.outside.specs.Told.{Gains, GainsPart, Goes, Rose}
use Rattle.outside.proofs.Told.{Gains-none, Goes-same, Goes-then}
use Rattle.policy_model.specs.declared.event.Event.{Event}
use Rattle.policy_model.specs.Asks.{is_lost}
use Rattle.policy_model.specs.Journal.{has_lost, kept_events}
use Rattle.policy_model.specs.Legal.{next_event}
use Rattle.policy_model.specs.Settings.{Settings}
use Rattle.policy_model.proofs.Lists.{filter-push}
use Rattle.policy_model.proofs.Runs.{has_lost-push}
use Rattle.decision_log.specs.Log.{line_of, lines_after, log_text}
use Rattle.monitor_book.specs.declared.opened.Held.{Held}
use Rattle.monitor_book.specs.Kept.{IsLogged, lost_line_of}
use Rattle.monitor_book.specs.Lines.{AppendsLines, HoldsLines, IsUnwritten, LogMatches, lengths_after, lost_line}

-- a line was written by one append, or a front of it by a fault, or nothing where one was lost before
pub record WritesLine (before lost : Bool) (line : List ℕ) (held_old held_new : Held) (faults_old faults_new : ℕ) : Type 0 where
  pub again : before ≡ true → (lost ≡ true) × (held_new ≡ held_old) × (faults_new ≡ faults_old)
  pub written : lost ≡ false → Gains held_old.bytes line held_new.bytes × (faults_new ≡ faults_old)
  pub appended : lost ≡ false → Gains held_old.lengths (length line ∷ []) held_new.lengths
  pub cut : before ≡ false → lost ≡ true → GainsPart held_old.bytes line held_new.bytes × Rose faults_old faults_new
  pub tried : before ≡ false → lost ≡ true → (n : ℕ) × Gains held_old.lengths (n ∷ []) held_new.lengths
  pub counted : faults_old ≤ faults_new

-- whatever the log held at first, it holds the second journal's lines after, if it held the first one's before
abbrev GoesOn : Settings → List Event → List Event → Option (List ℕ) → Option (List ℕ) → Type 0
GoesOn setup old new held_old held_new = (first : Option (List ℕ)) → Goes (HoldsLines setup old) first held_old → Goes (HoldsLines setup new) first held_new

-- and its appends are those of the second journal's lines after, if they were those of the first one's before
abbrev AppendsOn : List Event → List Event → Option (List ℕ) → Option (List ℕ) → Type 0
AppendsOn old new lengths_old lengths_new = (first : Option (List ℕ)) → Goes (AppendsLines old) first lengths_old → Goes (AppendsLines new) first lengths_new

-- where nothing was lost, all events are kept
pub kept_all : (journal : List Event) → has_lost journal ≡ false → kept_events journal ≡ journal
kept_all [] h = refl
kept_all (e ∷ es) h = go (is_lost e.decision) h (kept_all es) where
  go : (b : Bool) → (b || has_lost es) ≡ false → (has_lost es ≡ false → kept_events es ≡ es) → cond (not b) (e ∷ kept_events es) (kept_events es) ≡ e ∷ es
  go true h rest = absurd cc
  go false h rest = ap (λ xs. e ∷ xs) (rest h)

-- and no lost event is found
pub find_none : (journal : List Event) → has_lost journal ≡ false → find (λ e. is_lost e.decision) journal ≡ None
find_none [] h = refl
find_none (e ∷ es) h = go (is_lost e.decision) h (find_none es) where
  go : (b : Bool) → (b || has_lost es) ≡ false → (has_lost es ≡ false → find (λ x. is_lost x.decision) es ≡ None) → cond b (Some e) (find (λ x. is_lost x.decision) es) ≡ None
  go true h rest = absurd cc
  go false h rest = rest h

-- the lines of events and of one after them
lines_after-push : (count : ℕ) (events : List Event) (e : Event) → lines_after count (events ++ e ∷ []) ≡ lines_after count events ++ line_of (count + length events + 1) e
lines_after-push count [] e = append-nil (line_of (count + 1) e) ∙ ap (λ n. line_of n e) (omega arith)
lines_after-push count (x ∷ xs) e =
    let n : count + 1 + length xs + 1 ≡ count + suc (length xs) + 1 = omega arith in
    ap (λ t. line_of (count + 1) x ++ t) (lines_after-push (count + 1) xs e ∙ ap (λ k. lines_after (count + 1) xs ++ line_of k e) n)
    ∙ sym (append_assoc (line_of (count + 1) x) (lines_after (count + 1) xs) (line_of (count + suc (length xs) + 1) e))

-- the line of a lost event, where none was lost
lost_line-none : (setup : Settings) (journal : List Event) → has_lost journal ≡ false → lost_line setup journal ≡ []
lost_line-none setup journal h = ap (lost_line_of setup (kept_events journal)) (find_none journal h)

take-nil : (n : ℕ) (xs : List ℕ) → xs ≡ [] → take n xs ≡ []
take-nil zero xs e = refl
take-nil (suc n) xs e = ap (take (suc n)) e

-- what was held, where nothing was lost
held_before : (setup : Settings) (journal : List Event) (first held : List ℕ) → has_lost journal ≡ false → HoldsLines setup journal first held → held ≡ first ++ log_text journal
held_before setup journal first held h lines =
    lines.lines.1 ∙ ap (λ t. (first ++ log_text journal) ++ t) (take-nil lines.lines.0 (lost_line setup journal) (lost_line-none setup journal h)) ∙ append-nil (first ++ log_text journal)

log_text-push : (journal : List Event) (e : Event) → has_lost journal ≡ false → is_lost e.decision ≡ false → log_text (journal ++ e ∷ []) ≡ log_text journal ++ line_of (length journal + 1) e
log_text-push journal e none kept =
    let all : kept_events (journal ++ e ∷ []) ≡ journal ++ e ∷ [] = filter-push (λ x. not (is_lost x.decision)) journal e ∙ rw kept (ap (λ xs. xs ++ e ∷ []) (kept_all journal none)) in
    ap (lines_after 0) all ∙ lines_after-push 0 journal e ∙ ap (λ n. lines_after 0 journal ++ line_of n e) (omega arith) ∙ ap (λ xs. lines_after 0 xs ++ line_of (length journal + 1) e) (sym (kept_all journal none))

pub kept_lost : (journal : List Event) (e : Event) → is_lost e.decision ≡ true → kept_events (journal ++ e ∷ []) ≡ kept_events journal
kept_lost journal e lost = filter-push (λ x. not (is_lost x.decision)) journal e ∙ rw lost (append-nil (kept_events journal))

line_held : (setup : Settings) (journal : List Event) (e : Event) (first old new : List ℕ) → has_lost journal ≡ false → is_lost e.decision ≡ false → HoldsLines setup journal first old → new ≡ old ++ line_of (length journal + 1) e → HoldsLines setup (journal ++ e ∷ []) first new
line_held setup journal e first old new none kept lines gained = record {
  lines = (
    0,
    gained ∙ ap (λ t. t ++ line_of (length journal + 1) e) (held_before setup journal first old none lines)
        ∙ append_assoc first (log_text journal) (line_of (length journal + 1) e)
        ∙ ap (λ t. first ++ t) (sym (log_text-push journal e none kept))
        ∙ sym (append-nil (first ++ log_text (journal ++ e ∷ []))),
  );
}

-- an event whose line was written
pub logs_line : (setup : Settings) (journal : List Event) (e : Event) (old new : Option (List ℕ)) → has_lost journal ≡ false → is_lost e.decision ≡ false → Gains old (line_of (length journal + 1) e) new → GoesOn setup journal (journal ++ e ∷ []) old new
logs_line setup journal e old new none kept gained = λ first before. go first old new gained before where
  go : (first old new : Option (List ℕ)) → Gains old (line_of (length journal + 1) e) new → Goes (HoldsLines setup journal) first old → Goes (HoldsLines setup (journal ++ e ∷ [])) first new
  go first old None gained before = tt
  go first None (Some n) gained before = absurd gained
  go None (Some o) (Some n) gained before = absurd before
  go (Some f) (Some o) (Some n) gained before = line_held setup journal e f o n none kept before gained

lost_line-push : (setup : Settings) (journal : List Event) (e : Event) → has_lost journal ≡ false → is_lost e.decision ≡ true → lost_line setup (journal ++ e ∷ []) ≡ line_of (length journal + 1) (next_event setup journal e.worker e.ask)
lost_line-push setup journal e none lost =
    let found : find (λ x. is_lost x.decision) (journal ++ e ∷ []) ≡ Some e = find-append (λ x. is_lost x.decision) journal (e ∷ []) ∙ rw (find_none journal none, lost) refl in
    let all : kept_events (journal ++ e ∷ []) ≡ journal = kept_lost journal e lost ∙ kept_all journal none in
    ap (lost_line_of setup (kept_events (journal ++ e ∷ []))) found ∙ ap (λ xs. line_of (length xs + 1) (next_event setup xs e.worker e.ask)) all

cut_held : (setup : Settings) (journal : List Event) (e : Event) (first old new : List ℕ) (k : ℕ) → has_lost journal ≡ false → is_lost e.decision ≡ true → HoldsLines setup journal first old → new ≡ old ++ take k (line_of (length journal + 1) (next_event setup journal e.worker e.ask)) → HoldsLines setup (journal ++ e ∷ []) first new
cut_held setup journal e first old new k none lost lines gained = record {
  lines = (
    k,
    gained
        ∙ ap (λ t. t ++ take k (line_of (length journal + 1) (next_event setup journal e.worker e.ask))) (held_before setup journal first old none lines)
        ∙ ap (λ t. (first ++ lines_after 0 t) ++ take k (line_of (length journal + 1) (next_event setup journal e.worker e.ask))) (sym (kept_lost journal e lost))
        ∙ ap (λ t. (first ++ log_text (journal ++ e ∷ [])) ++ take k t) (sym (lost_line-push setup journal e none lost)),
  );
}

-- an event whose line was cut, the first that is lost
pub logs_cut : (setup : Settings) (journal : List Event) (e : Event) (old new : Option (List ℕ)) → has_lost journal ≡ false → is_lost e.decision ≡ true → GainsPart old (line_of (length journal + 1) (next_event setup journal e.worker e.ask)) new → GoesOn setup journal (journal ++ e ∷ []) old new
logs_cut setup journal e old new none lost gained = λ first before. go first old new gained.1 before where
  go : (first old new : Option (List ℕ)) → Gains old (take gained.0 (line_of (length journal + 1) (next_event setup journal e.worker e.ask))) new → Goes (HoldsLines setup journal) first old → Goes (HoldsLines setup (journal ++ e ∷ [])) first new
  go first old None gain before = tt
  go first None (Some n) gain before = absurd gain
  go None (Some o) (Some n) gain before = absurd before
  go (Some f) (Some o) (Some n) gain before = cut_held setup journal e f o n gained.0 none lost before gain

-- where one was lost, the first that is found stays
pub find_again : (journal : List Event) (e : Event) → has_lost journal ≡ true → find (λ x. is_lost x.decision) (journal ++ e ∷ []) ≡ find (λ x. is_lost x.decision) journal
find_again [] e h = absurd (false≢true h)
find_again (x ∷ xs) e h = go (is_lost x.decision) h (find_again xs e) where
  go : (b : Bool) → (b || has_lost xs) ≡ true → (has_lost xs ≡ true → find (λ y. is_lost y.decision) (xs ++ e ∷ []) ≡ find (λ y. is_lost y.decision) xs) → cond b (Some x) (find (λ y. is_lost y.decision) (xs ++ e ∷ [])) ≡ cond b (Some x) (find (λ y. is_lost y.decision) xs)
  go true h rest = refl
  go false h rest = rest h

again_held : (setup : Settings) (journal : List Event) (e : Event) (first held : List ℕ) → has_lost journal ≡ true → is_lost e.decision ≡ true → HoldsLines setup journal first held → HoldsLines setup (journal ++ e ∷ []) first held
again_held setup journal e first held some lost lines =
    let kept : kept_events (journal ++ e ∷ []) ≡ kept_events journal = kept_lost journal e lost in
    let line : lost_line setup (journal ++ e ∷ []) ≡ lost_line setup journal = ap (λ o. lost_line_of setup (kept_events (journal ++ e ∷ [])) o) (find_again journal e some) ∙ ap (λ xs. lost_line_of setup xs (find (λ x. is_lost x.decision) journal)) kept in
    record {
      lines = (
        lines.lines.0,
        lines.lines.1
            ∙ ap (λ t. (first ++ lines_after 0 t) ++ take lines.lines.0 (lost_line setup journal)) (sym kept)
            ∙ ap (λ t. (first ++ log_text (journal ++ e ∷ [])) ++ take lines.lines.0 t) (sym line),
      );
    }

-- a lost event after another: the log stays
pub logs_again : (setup : Settings) (journal : List Event) (e : Event) (held : Option (List ℕ)) → has_lost journal ≡ true → is_lost e.decision ≡ true → GoesOn setup journal (journal ++ e ∷ []) held held
logs_again setup journal e held some lost = λ first before. go first held before where
  go : (first held : Option (List ℕ)) → Goes (HoldsLines setup journal) first held → Goes (HoldsLines setup (journal ++ e ∷ [])) first held
  go first None before = tt
  go None (Some o) before = absurd before
  go (Some f) (Some o) before = again_held setup journal e f o some lost before

-- ---- the lengths of its appends

-- the lengths of the lines of events and of one after them
lengths_after-push : (count : ℕ) (events : List Event) (e : Event) → lengths_after count (events ++ e ∷ []) ≡ lengths_after count events ++ length (line_of (count + length events + 1) e) ∷ []
lengths_after-push count [] e = ap (λ n. length (line_of n e) ∷ []) (omega arith)
lengths_after-push count (x ∷ xs) e =
    let n : count + 1 + length xs + 1 ≡ count + suc (length xs) + 1 = omega arith in
    ap (λ t. length (line_of (count + 1) x) ∷ t) (lengths_after-push (count + 1) xs e ∙ ap (λ k. lengths_after (count + 1) xs ++ length (line_of k e) ∷ []) n)

lengths-push : (journal : List Event) (e : Event) → has_lost journal ≡ false → is_lost e.decision ≡ false → lengths_after 0 (kept_events (journal ++ e ∷ [])) ≡ lengths_after 0 (kept_events journal) ++ length (line_of (length journal + 1) e) ∷ []
lengths-push journal e none kept =
    let all : kept_events (journal ++ e ∷ []) ≡ journal ++ e ∷ [] = filter-push (λ x. not (is_lost x.decision)) journal e ∙ rw kept (ap (λ xs. xs ++ e ∷ []) (kept_all journal none)) in
    ap (lengths_after 0) all ∙ lengths_after-push 0 journal e ∙ ap (λ n. lengths_after 0 journal ++ length (line_of n e) ∷ []) (omega arith) ∙ ap (λ xs. lengths_after 0 xs ++ length (line_of (length journal + 1) e) ∷ []) (sym (kept_all journal none))

-- one append of this length, if an event was lost
abbrev lost_append : List Event → ℕ → List ℕ
lost_append journal n = if has_lost journal then n ∷ [] else []

lost_append-none : (journal : List Event) (n : ℕ) → has_lost journal ≡ false → lost_append journal n ≡ []
lost_append-none journal n h = rw h refl

lost_append-some : (journal : List Event) (n : ℕ) → has_lost journal ≡ true → lost_append journal n ≡ n ∷ []
lost_append-some journal n h = rw h refl

-- what was appended, where nothing was lost
appended_before : (journal : List Event) (first now : List ℕ) → has_lost journal ≡ false → AppendsLines journal first now → now ≡ first ++ lengths_after 0 (kept_events journal)
appended_before journal first now h is =
    is.appends.1 ∙ ap (λ t. (first ++ lengths_after 0 (kept_events journal)) ++ t) (lost_append-none journal is.appends.0 h) ∙ append-nil (first ++ lengths_after 0 (kept_events journal))

line_appended : (journal : List Event) (e : Event) (first old new : List ℕ) → has_lost journal ≡ false → is_lost e.decision ≡ false → AppendsLines journal first old → new ≡ old ++ length (line_of (length journal + 1) e) ∷ [] → AppendsLines (journal ++ e ∷ []) first new
line_appended journal e first old new none kept is gained =
    let own : List ℕ = length (line_of (length journal + 1) e) ∷ [] in
    let whole : List ℕ = first ++ lengths_after 0 (kept_events (journal ++ e ∷ [])) in
    record {
      appends = (
        0,
        gained ∙ ap (λ t. t ++ own) (appended_before journal first old none is)
            ∙ append_assoc first (lengths_after 0 (kept_events journal)) own
            ∙ ap (λ t. first ++ t) (sym (lengths-push journal e none kept))
            ∙ sym (append-nil whole)
            ∙ ap (λ t. whole ++ t) (sym (lost_append-none (journal ++ e ∷ []) 0 (has_lost-push journal e ∙ rw (none, kept) refl))),
      );
    }

lost_appended : (journal : List Event) (e : Event) (first old new : List ℕ) (k : ℕ) → has_lost journal ≡ false → is_lost e.decision ≡ true → AppendsLines journal first old → new ≡ old ++ k ∷ [] → AppendsLines (journal ++ e ∷ []) first new
lost_appended journal e first old new k none lost is gained = record {
  appends = (
    k,
    gained ∙ ap (λ t. t ++ k ∷ []) (appended_before journal first old none is)
        ∙ ap (λ t. (first ++ lengths_after 0 t) ++ k ∷ []) (sym (kept_lost journal e lost))
        ∙ ap (λ t. (first ++ lengths_after 0 (kept_events (journal ++ e ∷ []))) ++ t) (sym (lost_append-some (journal ++ e ∷ []) k (has_lost-push journal e ∙ rw (none, lost) refl))),
  );
}

again_appended : (journal : List Event) (e : Event) (first now : List ℕ) → has_lost journal ≡ true → is_lost e.decision ≡ true → AppendsLines journal first now → AppendsLines (journal ++ e ∷ []) first now
again_appended journal e first now some lost is =
    let n = is.appends.0 in
    record {
      appends = (
        n,
        is.appends.1
            ∙ ap (λ t. (first ++ lengths_after 0 t) ++ lost_append journal n) (sym (kept_lost journal e lost))
            ∙ ap (λ t. (first ++ lengths_after 0 (kept_events (journal ++ e ∷ []))) ++ t) (lost_append-some journal n some ∙ sym (lost_append-some (journal ++ e ∷ []) n (has_lost-push journal e ∙ rw some refl))),
      );
    }

appends_again : (journal : List Event) (e : Event) (lengths : Option (List ℕ)) → has_lost journal ≡ true → is_lost e.decision ≡ true → AppendsOn journal (journal ++ e ∷ []) lengths lengths
appends_again journal e lengths some lost = λ first before. go first lengths before where
  go : (first lengths : Option (List ℕ)) → Goes (AppendsLines journal) first lengths → Goes (AppendsLines (journal ++ e ∷ [])) first lengths
  go first None before = tt
  go None (Some o) before = absurd before
  go (Some f) (Some o) before = again_appended journal e f o some lost before

-- ---- both

-- where nothing was done
pub unwritten : (held : Held) → IsUnwritten held held
unwritten held = record { bytes = Gains-none held.bytes; lengths = Gains-none held.lengths }

-- an empty journal has no line
matches_none : (setup : Settings) (held : Held) → LogMatches setup [] held held
matches_none setup held = record {
  lines = Goes-same (HoldsLines setup []) (λ h. record { lines = (0, sym (append-nil (h ++ []) ∙ append-nil h)) }) held.bytes;
  appends = Goes-same (AppendsLines []) (λ h. record { appends = (0, sym (append-nil (h ++ []) ∙ append-nil h)) }) held.lengths;
}

pub logged_none : (setup : Settings) (held : Held) (faults : ℕ) → IsLogged setup [] held held faults faults
logged_none setup held faults = record { lines = matches_none setup held; rose = λ lost. absurd (false≢true lost); kept = λ none. refl; counted = omega arith }

-- the line of an event that is the policy's where it isn't lost
lines_go_on : (setup : Settings) (journal : List Event) (e : Event) (held_old held_new : Held) (faults_old faults_new : ℕ) → WritesLine (has_lost journal) (is_lost e.decision) (line_of (length journal + 1) (next_event setup journal e.worker e.ask)) held_old held_new faults_old faults_new → (is_lost e.decision ≡ false → e ≡ next_event setup journal e.worker e.ask) → GoesOn setup journal (journal ++ e ∷ []) held_old.bytes held_new.bytes
lines_go_on setup journal e held_old held_new faults_old faults_new line is = go (has_lost journal) (is_lost e.decision) refl refl where
  go : (before now : Bool) → has_lost journal ≡ before → is_lost e.decision ≡ now → GoesOn setup journal (journal ++ e ∷ []) held_old.bytes held_new.bytes
  go true now before lost = subst (λ (held : Held). GoesOn setup journal (journal ++ e ∷ []) held_old.bytes held.bytes) (sym (line.again before).1) (logs_again setup journal e held_old.bytes before (line.again before).0)
  go false true before lost = logs_cut setup journal e held_old.bytes held_new.bytes before lost (line.cut before lost).0
  go false false before kept = logs_line setup journal e held_old.bytes held_new.bytes before kept (subst (λ x. Gains held_old.bytes (line_of (length journal + 1) x) held_new.bytes) (sym (is kept)) (line.written kept).0)

-- and its append
appends_go_on : (setup : Settings) (journal : List Event) (e : Event) (held_old held_new : Held) (faults_old faults_new : ℕ) → WritesLine (has_lost journal) (is_lost e.decision) (line_of (length journal + 1) (next_event setup journal e.worker e.ask)) held_old held_new faults_old faults_new → (is_lost e.decision ≡ false → e ≡ next_event setup journal e.worker e.ask) → AppendsOn journal (journal ++ e ∷ []) held_old.lengths held_new.lengths
appends_go_on setup journal e held_old held_new faults_old faults_new line is = go (has_lost journal) (is_lost e.decision) refl refl where
  go : (before now : Bool) → has_lost journal ≡ before → is_lost e.decision ≡ now → AppendsOn journal (journal ++ e ∷ []) held_old.lengths held_new.lengths
  go true now before lost = subst (λ (held : Held). AppendsOn journal (journal ++ e ∷ []) held_old.lengths held.lengths) (sym (line.again before).1) (appends_again journal e held_old.lengths before (line.again before).0)
  go false true before lost = λ first is.
      let tried = line.tried before lost in
      Goes-then (AppendsLines journal) (λ b a. a ≡ b ++ tried.0 ∷ []) (AppendsLines (journal ++ e ∷ [])) (λ f o n held gained. lost_appended journal e f o n tried.0 before lost held gained) first held_old.lengths held_new.lengths is tried.1
  go false false before kept = λ first held.
      let gained = subst (λ x. Gains held_old.lengths (length (line_of (length journal + 1) x) ∷ []) held_new.lengths) (sym (is kept)) (line.appended kept) in
      Goes-then (AppendsLines journal) (λ b a. a ≡ b ++ length (line_of (length journal + 1) e) ∷ []) (AppendsLines (journal ++ e ∷ [])) (λ f o n held gained. line_appended journal e f o n before kept held gained) first held_old.lengths held_new.lengths held gained

-- what one event makes of the log
pub logged_push : (setup : Settings) (journal : List Event) (e : Event) (first held_old held_new : Held) (faults_first faults_old faults_new : ℕ) → IsLogged setup journal first held_old faults_first faults_old → WritesLine (has_lost journal) (is_lost e.decision) (line_of (length journal + 1) (next_event setup journal e.worker e.ask)) held_old held_new faults_old faults_new → (is_lost e.decision ≡ false → e ≡ next_event setup journal e.worker e.ask) → IsLogged setup (journal ++ e ∷ []) first held_new faults_first faults_new
logged_push setup journal e first held_old held_new faults_first faults_old faults_new logged line is = record {
  lines = record {
    lines = lines_go_on setup journal e held_old held_new faults_old faults_new line is first.bytes logged.lines.lines;
    appends = appends_go_on setup journal e held_old held_new faults_old faults_new line is first.lengths logged.lines.appends;
  };
  rose = λ lost. go (has_lost journal) (is_lost e.decision) refl refl (sym (has_lost-push journal e) ∙ lost);
  kept = λ none. same (has_lost journal) (is_lost e.decision) refl refl (sym (has_lost-push journal e) ∙ none);
  counted = omega (arith, logged.counted, line.counted);
} where
  go : (before now : Bool) → has_lost journal ≡ before → is_lost e.decision ≡ now → (has_lost journal || is_lost e.decision) ≡ true → Rose faults_first faults_new
  go true now before lost h = record { rose = omega (arith, (logged.rose before).rose, line.counted) }
  go false true before lost h = record { rose = omega (arith, (line.cut before lost).1.rose, logged.counted) }
  go false false before kept h = absurd (false≢true (sym (rw (before, kept) refl) ∙ h))

  same : (before now : Bool) → has_lost journal ≡ before → is_lost e.decision ≡ now → (has_lost journal || is_lost e.decision) ≡ false → faults_new ≡ faults_first
  same true now before lost h = absurd (false≢true (sym h ∙ rw before refl))
  same false true before lost h = absurd (false≢true (sym h ∙ rw (before, lost) refl))
  same false false before kept h = (line.written kept).1 ∙ logged.kept before
