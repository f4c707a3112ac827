-- An event that the policy gives can be written as a line.
use Rattle.std.proofs.Common.{◌≡◌, ℕ, ◌+◌, ◌<◌, ◌^◌, Bool, true, false, not, ◌&&◌, ◌||◌, cond, eqb, List, [], ◌∷◌, ◌++◌, Option, Some, None, refl, sym, ap, subst, ◌∙◌}
use Rattle.std.specs.Prelude.{is_none}
use Rattle.std.specs.List.{AllByRecursion}
use Rattle.std.proofs.lemmas.List.{append-nil}
use Rattle.request_catalogue.specs.declared.kind.Kind.{Kind}
use Rattle.policy_model.specs.declared.event.Ask.{Ask}
use Rattle.policy_model.specs.declared.event.Ask.TheVariants as asks
use Rattle.policy_model.specs.declared.event.Decision.{Decision}
use Rattle.policy_model.specs.declared.event.Decision.TheVariants.{Permit, Deny, Lost}
use Rattle.policy_model.specs.declared.event.Event.{Event}
use Rattle.policy_model.specs.declared.phase.Row.{Row}
use Rattle.policy_model.specs.Asks.{is_lost, is_proper, kind_of, mode_of, permits_kind, request_number, value_of}
use Rattle.policy_model.specs.Handles.{handle_opening}
use Rattle.policy_model.specs.Journal.{ask_count, has_event, kept_events, open_session_of, openings_of}
use Rattle.policy_model.specs.Legal.{IsLegal, IsNext, session_of}
use Rattle.policy_model.specs.Phases.{is_over, phase_of, table_row}
use Rattle.policy_model.specs.Runs.{IsProperEvent}
use Rattle.policy_model.specs.Settings.{Settings}
use Rattle.policy_model.specs.Verdict.{IsVerdict, allows, close_verdict, handle_verdict, kind_verdict, own_verdict, request_verdict, row_verdict, verdict_of}
use Rattle.policy_model.specs.Cases.{table_verdict, use_verdict}
use Rattle.policy_model.proofs.Lists.{filter-push}
use Rattle.policy_model.proofs.Runs.{next_decision, next_session}
use Rattle.policy_model.proofs.Verdicts.{session_of-begin, verdict_of-is}
use Rattle.session_laws.proofs.ByEvents.{by_events}
use Rattle.decision_log.specs.Values.{IsAsk, IsShown, IsValue, ask_value}
use Rattle.decision_log.specs.Typed.{IsSmall, IsTyped, IsTypedAsk}

-- an ask whose value a line doesn't show
abbrev shows_none : Ask → Bool
shows_none asks.Begin = false
shows_none (asks.Challenge user now) = false
shows_none (asks.Reply words hex) = false
shows_none (asks.Export len) = false
shows_none (asks.OpenFile mode name) = false
shows_none (asks.Info number) = false
shows_none _ = true

cond_zero : (b : Bool) (x y : Decision) → value_of x ≡ 0 → value_of y ≡ 0 → value_of (cond b x y) ≡ 0
cond_zero true x y p q = p
cond_zero false x y p q = q

use_zero : (handle needed : ℕ) (o : Option Event) → value_of (use_verdict handle needed o) ≡ 0
use_zero handle needed None = refl
use_zero handle needed (Some e) = cond_zero (allows (mode_of e.ask) needed) (Permit 0) (Deny 18 handle) refl refl

handle_zero : (before : List Event) (session handle needed : ℕ) → value_of (handle_verdict before session handle needed) ≡ 0
unfolding handle_verdict
handle_zero before session handle needed = cond_zero (eqb handle 0) (Permit 0) (use_verdict handle needed (handle_opening before session handle)) refl (use_zero handle needed (handle_opening before session handle))

close_zero : (before : List Event) (session handle : ℕ) → value_of (close_verdict before session handle) ≡ 0
unfolding close_verdict
close_zero before session handle = cond_zero (eqb handle 0 || is_none (handle_opening before session handle)) (Deny 17 handle) (Permit 0) refl refl

kind_zero : (setup : Settings) (before : List Event) (session : ℕ) (a : Ask) → shows_none a ≡ true → value_of (kind_verdict setup before session a) ≡ 0
unfolding kind_verdict
kind_zero setup before session (asks.Challenge user now) h = absurd cc
kind_zero setup before session (asks.Reply words hex) h = absurd cc
kind_zero setup before session (asks.Export len) h = absurd cc
kind_zero setup before session (asks.OpenFile mode name) h = absurd cc
kind_zero setup before session (asks.Info number) h = absurd cc
kind_zero setup before session (asks.ReadAt handle offset max) h = handle_zero before session handle 1
kind_zero setup before session (asks.WriteAt handle offset len) h = handle_zero before session handle 2
kind_zero setup before session (asks.CloseFile handle) h = close_zero before session handle
kind_zero setup before session _ h = refl

row_zero : (setup : Settings) (before : List Event) (session : ℕ) (a : Ask) (kind : Kind) (row : Row) → shows_none a ≡ true → value_of (row_verdict setup before session a kind row) ≡ 0
row_zero setup before session a kind row h =
    cond_zero (not row.permitted) (Deny 6 (request_number a)) (cond (row.once && has_event before session (permits_kind kind)) (Deny 7 (request_number a)) (kind_verdict setup before session a)) refl
    (cond_zero (row.once && has_event before session (permits_kind kind)) (Deny 7 (request_number a)) (kind_verdict setup before session a) refl (kind_zero setup before session a h))

table_zero : (setup : Settings) (before : List Event) (session : ℕ) (a : Ask) (kind : Option Kind) → shows_none a ≡ true → value_of (table_verdict setup before session a kind) ≡ 0
table_zero setup before session a None h = refl
table_zero setup before session a (Some kind) h = row_zero setup before session a kind (table_row (phase_of before session) kind) h

own_zero : (setup : Settings) (before : List Event) (session : ℕ) (a : Ask) → shows_none a ≡ true → value_of (own_verdict setup before session a) ≡ 0
own_zero setup before session (asks.Bad rule detail) h = refl
own_zero setup before session a h = table_zero setup before session a (kind_of a) h

request_zero : (setup : Settings) (before : List Event) (session : ℕ) (a : Ask) → shows_none a ≡ true → value_of (request_verdict setup before session a) ≡ 0
request_zero setup before session a h =
    cond_zero (eqb session 0 || is_over before session) (Deny 6 (request_number a)) (cond (eqb (ask_count before session) setup.requests) (Deny 1 setup.requests) (own_verdict setup before session a)) refl
    (cond_zero (eqb (ask_count before session) setup.requests) (Deny 1 setup.requests) (own_verdict setup before session a) refl (own_zero setup before session a h))

verdict_zero : (setup : Settings) (before : List Event) (worker : ℕ) (a : Ask) → shows_none a ≡ true → value_of (verdict_of setup before worker a) ≡ 0
unfolding verdict_of
verdict_zero setup before worker asks.Begin h = absurd cc
verdict_zero setup before worker (asks.End why) h = cond_zero (eqb (open_session_of before worker) 0) (Deny 6 0) (Permit 0) refl refl
verdict_zero setup before worker a h = request_zero setup before (open_session_of before worker) a h

begin_value : (setup : Settings) (before : List Event) (worker value : ℕ) → Permit value ≡ verdict_of setup before worker asks.Begin → value ≡ openings_of before + 1
unfolding verdict_of
begin_value setup before worker value h = go (eqb (open_session_of before worker) 0) h where
  go : (b : Bool) → Permit value ≡ cond b (Permit (openings_of before + 1)) (Deny 6 0) → value ≡ openings_of before + 1
  go true e = ap value_of e
  go false e = absurd cc

-- a permit's value
value_is : (setup : Settings) (before : List Event) (worker session : ℕ) (a : Ask) (value : ℕ) → Permit value ≡ verdict_of setup before worker a → session ≡ session_of before worker a (Permit value) → value < 2 ^ 64 → IsValue session (ask_value a) value
value_is setup before worker session asks.Begin value given own small = begin_value setup before worker value given ∙ sym (session_of-begin before worker value) ∙ sym own
value_is setup before worker session (asks.Challenge user now) value given own small = small
value_is setup before worker session (asks.Reply words hex) value given own small = small
value_is setup before worker session (asks.Export len) value given own small = small
value_is setup before worker session (asks.OpenFile mode name) value given own small = small
value_is setup before worker session (asks.Info number) value given own small = small
value_is setup before worker session asks.Banner value given own small = ap value_of given ∙ verdict_zero setup before worker asks.Banner refl
value_is setup before worker session asks.Abandon value given own small = ap value_of given ∙ verdict_zero setup before worker asks.Abandon refl
value_is setup before worker session asks.Import value given own small = ap value_of given ∙ verdict_zero setup before worker asks.Import refl
value_is setup before worker session (asks.ReadAt handle offset max) value given own small = ap value_of given ∙ verdict_zero setup before worker (asks.ReadAt handle offset max) refl
value_is setup before worker session (asks.WriteAt handle offset len) value given own small = ap value_of given ∙ verdict_zero setup before worker (asks.WriteAt handle offset len) refl
value_is setup before worker session (asks.CloseFile handle) value given own small = ap value_of given ∙ verdict_zero setup before worker (asks.CloseFile handle) refl
value_is setup before worker session (asks.Note text) value given own small = ap value_of given ∙ verdict_zero setup before worker (asks.Note text) refl
value_is setup before worker session asks.Finish value given own small = ap value_of given ∙ verdict_zero setup before worker asks.Finish refl
value_is setup before worker session (asks.Bad rule detail) value given own small = ap value_of given ∙ verdict_zero setup before worker (asks.Bad rule detail) refl
value_is setup before worker session (asks.End why) value given own small = ap value_of given ∙ verdict_zero setup before worker (asks.End why) refl

-- what was decided can be shown
shown_is : (setup : Settings) (before : List Event) (worker session : ℕ) (a : Ask) (d : Decision) → d ≡ verdict_of setup before worker a → session ≡ session_of before worker a d → is_proper a ≡ true → IsSmall d → IsShown session (ask_value a) d
shown_is setup before worker session a (Permit value) given own proper small = value_is setup before worker session a value given own small
shown_is setup before worker session a (Deny rule detail) given own proper small = let named : IsVerdict (Deny rule detail) = subst IsVerdict (sym given) (verdict_of-is setup before worker a proper) in (named.0, named.1, small)
shown_is setup before worker session a Lost given own proper small = absurd (subst IsVerdict (sym given) (verdict_of-is setup before worker a proper))

-- what a line says of an ask is in the ranges of a line
pub line_ask : (a : Ask) → IsTypedAsk a → IsAsk (ask_value a)
line_ask asks.Begin is = is
line_ask asks.Banner is = is
line_ask (asks.Challenge user now) is = is
line_ask (asks.Reply words hex) is = is
line_ask asks.Abandon is = is
line_ask (asks.Export len) is = is
line_ask asks.Import is = is
line_ask (asks.ReadAt handle offset max) is = is
line_ask (asks.WriteAt handle offset len) is = is
line_ask (asks.OpenFile mode name) is = is
line_ask (asks.CloseFile handle) is = is
line_ask (asks.Info number) is = is
line_ask (asks.Note text) is = is
line_ask asks.Finish is = is
line_ask (asks.Bad rule detail) is = is
line_ask (asks.End why) is = is

-- an event of a legal journal that isn't lost
pub record IsWritable (e : Event) : Type 0 where
  pub typed : IsTyped e
  pub shown : IsShown e.session (ask_value e.ask) e.decision

next_writable : (setup : Settings) (before : List Event) (e : Event) → IsNext setup before e → is_lost e.decision ≡ false → is_proper e.ask ≡ true → IsTyped e → IsWritable e
next_writable setup before e next kept proper typed = record { typed = typed; shown = shown_is setup before e.worker e.session e.ask e.decision (next_decision setup before e next kept) (next_session setup before e next) proper typed.decision }

all_push : (P : Event → Type 0) (xs : List Event) (e : Event) → AllByRecursion P xs → P e → AllByRecursion P (xs ++ e ∷ [])
all_push P [] e all new = (new, tt)
all_push P (x ∷ xs) e all new = (all.0, all_push P xs e all.1 new)

all_front : (P : Event → Type 0) (xs : List Event) (e : Event) → AllByRecursion P (xs ++ e ∷ []) → AllByRecursion P xs × P e
all_front P [] e all = (tt, all.0)
all_front P (x ∷ xs) e all = let rest = all_front P xs e all.1 in ((all.0, rest.0), rest.1)

pub kept_writable : (setup : Settings) (journal : List Event) → IsLegal setup journal → AllByRecursion IsProperEvent journal → AllByRecursion IsTyped journal → AllByRecursion IsWritable (kept_events journal)
kept_writable setup journal legal = by_events setup (λ j. AllByRecursion IsProperEvent j → AllByRecursion IsTyped j → AllByRecursion IsWritable (kept_events j)) (λ p t. tt) more journal legal where
  more : (j : List Event) (e : Event) → IsNext setup j e → (AllByRecursion IsProperEvent j → AllByRecursion IsTyped j → AllByRecursion IsWritable (kept_events j)) → AllByRecursion IsProperEvent (j ++ e ∷ []) → AllByRecursion IsTyped (j ++ e ∷ []) → AllByRecursion IsWritable (kept_events (j ++ e ∷ []))
  more j e next before proper typed =
      let p = all_front IsProperEvent j e proper in
      let t = all_front IsTyped j e typed in
      subst (AllByRecursion IsWritable) (sym (filter-push (λ x. not (is_lost x.decision)) j e)) (go (is_lost e.decision) refl (before p.0 t.0) p.1.proper t.1) where
        go : (b : Bool) → is_lost e.decision ≡ b → AllByRecursion IsWritable (kept_events j) → is_proper e.ask ≡ true → IsTyped e → AllByRecursion IsWritable (kept_events j ++ cond (not b) (e ∷ []) [])
        go true lost front proper typed = subst (AllByRecursion IsWritable) (sym (append-nil (kept_events j))) front
        go false kept front proper typed = all_push IsWritable (kept_events j) e front (next_writable setup j e next kept proper typed)
