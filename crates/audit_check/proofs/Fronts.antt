-- The front of a text, line by line.
use Rattle.std.proofs.Common.{◌≡◌, ℕ, ◌+◌, ◌<◌, ◌≤◌, List, [], ◌∷◌, ◌++◌, length, take, get_or, Result, Ok, Err, refl, sym, ap, subst, ◌∙◌, arith, inl, inr, append_assoc}
use Rattle.std.proofs.lemmas.Bool.{cases_lt}
use Rattle.std.proofs.lemmas.List.{append-nil, length-append, take-append-le}
use Rattle.std.proofs.Math.Seq.{get_or-append_seam, take-append_seam}
use Rattle.std.proofs.Math.ListN.{get_or-append}
use Rattle.policy_model.specs.declared.event.Event.{Event}
use Rattle.policy_model.specs.declared.ranges.TheConstants.{EVENTS_LIMIT}
use Rattle.policy_model.specs.Settings.{Settings}
use Rattle.policy_laws.specs.Strangers.{without_readings}
use Rattle.decision_log.specs.declared.logged.LineFault.{LineFault}
use Rattle.decision_log.specs.Log.{line_of, lines_after}
use Rattle.decision_log.specs.Reading.{line_read}
use Rattle.decision_log.specs.Values.{IsLine, line_value, LineValue}
use Rattle.decision_log.proofs.EventLines.{line_is}
use Rattle.decision_log.proofs.Lines.{line_back}
use Rattle.audit_check.specs.Legal.{IsLegalLog, MayFollow}
use Rattle.audit_check.proofs.SameEvents.{same_event}
use Rattle.audit_check.specs.Said.{AreSaid, IsIllegal, IsLogOf, Says}

-- 1. Legal logs

pub legal_none : (setup : Settings) → IsLegalLog setup []
legal_none setup k d lt = absurd (omega (arith, lt))

-- a legal log and an event that may follow it
pub legal_push : (setup : Settings) (events : List Event) (e : Event) → IsLegalLog setup events → MayFollow setup events e → IsLegalLog setup (events ++ e ∷ [])
legal_push setup events e legal next k d lt =
    elim (cases_lt k (length events)) [
      | inl below ↦
          let same : get_or (events ++ e ∷ []) k d ≡ get_or events k d = get_or-append events (e ∷ []) d k below in
          let front : take k (events ++ e ∷ []) ≡ take k events = take-append-le k events (e ∷ []) (omega (arith, below)) in
          subst (λ b. MayFollow setup b (get_or (events ++ e ∷ []) k d)) (sym front) (subst (λ x. MayFollow setup (take k events) x) (sym same) (legal k d below))
      | inr le ↦
          let here : k ≡ length events = omega (arith, lt, le, length-append events (e ∷ [])) in
          let same : get_or (events ++ e ∷ []) k d ≡ e = ap (λ i. get_or (events ++ e ∷ []) i d) here ∙ get_or-append_seam events e [] d in
          let front : take k (events ++ e ∷ []) ≡ events = ap (λ i. take i (events ++ e ∷ [])) here ∙ take-append_seam events (e ∷ []) in
          subst (λ b. MayFollow setup b (get_or (events ++ e ∷ []) k d)) (sym front) (subst (λ x. MayFollow setup events x) (sym same) next)
    ]

-- the last event of a legal log may follow those before it
pub legal_last : (setup : Settings) (events : List Event) (e : Event) (more : List Event) → IsLegalLog setup (events ++ e ∷ more) → MayFollow setup events e
legal_last setup events e more legal =
    let below : length events < length (events ++ e ∷ more) = omega (arith, length-append events (e ∷ more)) in
    subst (λ b. MayFollow setup b e) (take-append_seam events (e ∷ more)) (subst (λ x. MayFollow setup (take (length events) (events ++ e ∷ more)) x) (get_or-append_seam events e more e) (legal (length events) e below))

-- a front of a legal log is one
pub legal_front : (setup : Settings) (events more : List Event) → IsLegalLog setup (events ++ more) → IsLegalLog setup events
legal_front setup events more legal k d lt =
    let same : get_or (events ++ more) k d ≡ get_or events k d = get_or-append events more d k lt in
    let front : take k (events ++ more) ≡ take k events = take-append-le k events more (omega (arith, lt)) in
    subst (λ b. MayFollow setup b (get_or events k d)) front (subst (λ x. MayFollow setup (take k (events ++ more)) x) same (legal k d (omega (arith, lt, length-append events more))))

-- 2. Lines

pub lines_push : (count : ℕ) (events : List Event) (e : Event) → lines_after count (events ++ e ∷ []) ≡ lines_after count events ++ line_of (count + length events + 1) e
lines_push count [] e =
    let same : count + 1 ≡ count + 0 + 1 = omega arith in
    append-nil (line_of (count + 1) e) ∙ ap (λ n. line_of n e) same
lines_push count (x ∷ events) e =
    let same : count + 1 + length events + 1 ≡ count + length (x ∷ events) + 1 = omega arith in
    ap (λ t. line_of (count + 1) x ++ t) (lines_push (count + 1) events e)
    ∙ sym (append_assoc (line_of (count + 1) x) (lines_after (count + 1) events) (line_of (count + 1 + length events + 1) e))
    ∙ ap (λ n. line_of (count + 1) x ++ lines_after (count + 1) events ++ line_of n e) same

pub said_push : (count : ℕ) (events : List Event) (e : Event) → AreSaid count events → IsLine (line_value (count + length events + 1) e) → without_readings e.ask ≡ e.ask → AreSaid count (events ++ e ∷ [])
said_push count [] e said line shown =
    let same : count + 0 + 1 ≡ count + 1 = omega arith in
    (subst (λ n. IsLine (line_value n e)) same line, shown, tt)
said_push count (x ∷ events) e said line shown =
    let same : count + length (x ∷ events) + 1 ≡ count + 1 + length events + 1 = omega arith in
    (said.0, said.1, said_push (count + 1) events e said.2 (subst (λ n. IsLine (line_value n e)) same line) shown)

-- 3. A text that is read up to a place

pub record Stands (setup : Settings) (text rest : List ℕ) (events : List Event) : Type 0 where
  pub cut : text ≡ lines_after 0 events ++ rest
  pub legal : IsLegalLog setup events
  pub few : length events ≤ EVENTS_LIMIT
  pub said : AreSaid 0 events

pub stands_first : (setup : Settings) (text : List ℕ) → Stands setup text text []
stands_first setup text = record { cut = refl; legal = legal_none setup; few = omega arith; said = tt }

pub stands_next : (setup : Settings) (text rest line behind : List ℕ) (events : List Event) (e : Event) → Stands setup text rest events → rest ≡ line ++ behind → length events < EVENTS_LIMIT → Says (length events + 1) line e → MayFollow setup events e → Stands setup text behind (events ++ e ∷ [])
stands_next setup text rest line behind events e st parts few says next =
    let back = line_back line (line_value (length events + 1) e) says.read in
    let place : 0 + length events + 1 ≡ length events + 1 = omega arith in
    record {
      cut =
          st.cut
          ∙ ap (λ r. lines_after 0 events ++ r) (parts ∙ ap (λ l. l ++ behind) (back.1 ∙ sym (line_is (length events + 1) e)))
          ∙ sym (append_assoc (lines_after 0 events) (line_of (length events + 1) e) behind)
          ∙ ap (λ n. lines_after 0 events ++ line_of n e ++ behind) (sym place)
          ∙ ap (λ t. t ++ behind) (sym (lines_push 0 events e));
      legal = legal_push setup events e st.legal next;
      few = omega (arith, few, length-append events (e ∷ []));
      said = said_push 0 events e st.said (subst (λ n. IsLine (line_value n e)) (sym place) back.0) says.shown;
    }

-- the log of a text that was read to a place
pub log_so_far : (setup : Settings) (text rest : List ℕ) (events : List Event) → Stands setup text rest events → IsLogOf setup (lines_after 0 events) events
log_so_far setup text rest events st = record { spelled = refl; legal = st.legal; few = st.few; said = st.said }

-- read to its end it is a log
pub log_whole : (setup : Settings) (text rest : List ℕ) (events : List Event) → Stands setup text rest events → rest ≡ [] → IsLogOf setup text events
log_whole setup text rest events st none = record { spelled = st.cut ∙ ap (λ r. lines_after 0 events ++ r) none ∙ append-nil (lines_after 0 events); legal = st.legal; few = st.few; said = st.said }

-- 4. The line that stands next

ok_same : (a b : LineValue) (r : Result LineValue LineFault) → r ≡ Ok a → r ≡ Ok b → a ≡ b
ok_same a b (Ok v) h g = cc
ok_same a b (Err v) h g = absurd cc

-- a line says one event alone
pub says_same : (number : ℕ) (line : List ℕ) (e f : Event) → Says number line e → Says number line f → e ≡ f
says_same number line e f one other = same_event number number e f one.shown other.shown (ok_same (line_value number e) (line_value number f) (line_read line) one.read other.read)

-- an event that may not follow makes its line illegal
pub illegal_by : (setup : Settings) (events : List Event) (line : List ℕ) (e : Event) → Says (length events + 1) line e → (MayFollow setup events e → ⊥) → IsIllegal setup events line (length events + 1)
illegal_by setup events line e says not = record { event = e; says = says; illegal = λ legal. not (legal_last setup events e [] legal) }
