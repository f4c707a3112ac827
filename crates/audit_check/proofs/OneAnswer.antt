-- Of each text one answer alone holds.
use Rattle.std.proofs.Common.{◌≡◌, ℕ, ◌+◌, ◌≤◌, List, [], ◌∷◌, ◌++◌, length, drop, Result, Ok, Err, refl, sym, ap, subst, ◌∙◌, arith, append_assoc, inl, inr}
use Rattle.std.specs.Prelude.{IfOk}
use Rattle.std.specs.declared.alloc.AllocError.{AllocError}
use Rattle.std.proofs.lemmas.Bool.{cases_lt}
use Rattle.std.proofs.lemmas.List.{append-nil, drop_at}
use Rattle.policy_model.specs.declared.event.Event.{Event}
use Rattle.policy_model.specs.Settings.{Settings}
use Rattle.policy_laws.specs.Strangers.{without_readings}
use Rattle.decision_log.specs.declared.logged.LineFault.{LineFault}
use Rattle.decision_log.specs.Log.{line_of, lines_after}
use Rattle.decision_log.specs.Reading.{line_read}
use Rattle.decision_log.specs.Values.{IsLine, LineValue, line_value}
use Rattle.decision_log.proofs.EventLines.{event_forth}
use Rattle.audit_check.specs.declared.answer.Audit.{Audit}
use Rattle.audit_check.specs.declared.answer.Audit.TheVariants as audits
use Rattle.audit_check.specs.declared.answer.AuditWhy.{AuditWhy}
use Rattle.audit_check.specs.declared.answer.AuditWhy.TheVariants as reasons
use Rattle.audit_check.specs.Said.{AreSaid, IsAnswer, IsFault, IsFirstFault, IsLogOf, Says, first_line}
use Rattle.audit_check.proofs.LineEnds.{faultless, no_never, one_line, same_ok, yes_only}
use Rattle.audit_check.proofs.SameEvents.{same_event}

-- 1. Two texts that begin with lines

record SameLine (e g : Event) (x y : List ℕ) : Type 0 where
  pub equal : e ≡ g
  pub behind : x ≡ y

same_line : (n : ℕ) (e g : Event) (x y : List ℕ) → IsLine (line_value n e) → IsLine (line_value n g) → without_readings e.ask ≡ e.ask → without_readings g.ask ≡ g.ask → line_of n e ++ x ≡ line_of n g ++ y → SameLine e g x y
same_line n e g x y le lg se sg same =
    let lines : line_of n e ≡ line_of n g = sym (one_line n e x le) ∙ ap first_line same ∙ one_line n g y lg in
    record {
      equal = same_event n n e g se sg (same_ok (line_value n e) (line_value n g) (line_read (line_of n e)) (event_forth n e le) (ap line_read lines ∙ event_forth n g lg));
      behind = sym (drop_at (line_of n e) x (length (line_of n e)) refl) ∙ ap (drop (length (line_of n e))) same ∙ drop_at (line_of n g) y (length (line_of n e)) (ap length (sym lines));
    }

record Goes (count : ℕ) (rest other : List ℕ) (events given : List Event) : Type 0 where
  pub more : List Event
  pub whole : given ≡ events ++ more
  pub left : rest ≡ lines_after (count + length events) more ++ other
  pub said : AreSaid (count + length events) more

goes : (count : ℕ) (rest other : List ℕ) (events given : List Event) → length events ≤ length given → AreSaid count events → AreSaid count given → lines_after count events ++ rest ≡ lines_after count given ++ other → Goes count rest other events given
goes count rest other [] given le said too same =
    let place : count ≡ count + 0 = omega arith in
    record { more = given; whole = refl; left = same ∙ ap (λ n. lines_after n given ++ other) place; said = subst (λ n. AreSaid n given) place too }
goes count rest other (e ∷ events) [] le said too same = absurd (omega (arith, le))
goes count rest other (e ∷ events) (g ∷ given) le said too same =
    let texts : line_of (count + 1) e ++ (lines_after (count + 1) events ++ rest) ≡ line_of (count + 1) g ++ (lines_after (count + 1) given ++ other) = sym (append_assoc (line_of (count + 1) e) (lines_after (count + 1) events) rest) ∙ same ∙ append_assoc (line_of (count + 1) g) (lines_after (count + 1) given) other in
    let first = same_line (count + 1) e g (lines_after (count + 1) events ++ rest) (lines_after (count + 1) given ++ other) said.0 too.0 said.1 too.1 texts in
    let c : Goes (count + 1) rest other events given = goes (count + 1) rest other events given (omega (arith, le)) said.2 too.2 first.behind in
    let place : count + 1 + length events ≡ count + length (e ∷ events) = omega arith in
    record {
      more = c.more;
      whole = ap (λ x. x ∷ given) (sym first.equal) ∙ ap (λ xs. e ∷ xs) c.whole;
      left = c.left ∙ ap (λ n. lines_after n c.more ++ other) place;
      said = subst (λ n. AreSaid n c.more) place c.said;
    }

-- 2. One fault of a line

never_both : {A : Type 0} (r : Result LineValue LineFault) (v : LineValue) (f : LineFault) → r ≡ Ok v → r ≡ Err f → A
never_both (Ok x) v f h g = absurd cc
never_both (Err x) v f h g = absurd cc

number_is : (line : List ℕ) (n : ℕ) (e : Event) (v : LineValue) → Says n line e → line_read line ≡ Ok v → v.number ≡ n
number_is line n e v says read = ap (λ (x : LineValue). x.number) (same_ok v (line_value n e) (line_read line) read says.read)

one_fault : (setup : Settings) (events : List Event) (line : List ℕ) (w v : AuditWhy) → IsFault setup events line w → IsFault setup events line v → w ≡ v
one_fault setup events line reasons.Text reasons.Text a b = refl
one_fault setup events line reasons.Count reasons.Count a b = refl
one_fault setup events line reasons.Event reasons.Event a b = refl
one_fault setup events line reasons.Text reasons.Count a (inl most) = absurd (omega (arith, a.0, most))
one_fault setup events line reasons.Text reasons.Count a (inr b) = never_both (line_read line) b.value a.1.fault b.read a.1.read
one_fault setup events line reasons.Text reasons.Event a b = never_both (line_read line) (line_value (length events + 1) b.1.event) a.1.fault b.1.says.read a.1.read
one_fault setup events line reasons.Count reasons.Text (inl most) b = absurd (omega (arith, b.0, most))
one_fault setup events line reasons.Count reasons.Text (inr a) b = never_both (line_read line) a.value b.1.fault a.read b.1.read
one_fault setup events line reasons.Count reasons.Event (inl most) b = absurd (omega (arith, b.0, most))
one_fault setup events line reasons.Count reasons.Event (inr a) b = absurd (a.other (number_is line (length events + 1) b.1.event a.value b.1.says a.read))
one_fault setup events line reasons.Event reasons.Text a b = never_both (line_read line) (line_value (length events + 1) a.1.event) b.1.fault a.1.says.read b.1.read
one_fault setup events line reasons.Event reasons.Count a (inl most) = absurd (omega (arith, a.0, most))
one_fault setup events line reasons.Event reasons.Count a (inr b) = absurd (b.other (number_is line (length events + 1) a.1.event b.value a.1.says b.read))

-- 3. One answer

no_with : ℕ → AuditWhy → Audit
no_with place why = audits.No place why

in_order : (setup : Settings) (text : List ℕ) (p q : ℕ) (w v : AuditWhy) (a : IsFirstFault setup text p w) (b : IsFirstFault setup text q v) → length a.events ≤ length b.events → audits.No p w ≡ audits.No q v
in_order setup text p q w v a b le = go c.more c.whole c.left c.said where
  c : Goes 0 a.rest b.rest a.events b.events
  c = goes 0 a.rest b.rest a.events b.events le a.log.said b.log.said (ap (λ t. t ++ a.rest) (sym a.log.spelled) ∙ sym a.cut ∙ b.cut ∙ ap (λ t. t ++ b.rest) b.log.spelled)

  place_is : 0 + length a.events + 1 ≡ length a.events + 1
  place_is = omega arith

  go : (more : List Event) → b.events ≡ a.events ++ more → a.rest ≡ lines_after (0 + length a.events) more ++ b.rest → AreSaid (0 + length a.events) more → audits.No p w ≡ audits.No q v
  go [] whole left said =
      let same : b.events ≡ a.events = whole ∙ append-nil a.events in
      let fault : IsFault setup a.events (first_line a.rest) v = subst (λ r. IsFault setup a.events (first_line r) v) (sym left) (subst (λ xs. IsFault setup xs (first_line b.rest) v) same b.fault) in
      ap (λ n. audits.No n w) (a.placed ∙ ap (λ xs. length xs + 1) (sym same) ∙ sym b.placed)
      ∙ ap (λ x. audits.No q x) (one_fault setup a.events (first_line a.rest) w v a.fault fault)
  go (e ∷ more) whole left said =
      let line : IsLine (line_value (length a.events + 1) e) = subst (λ n. IsLine (line_value n e)) place_is said.0 in
      let first : first_line a.rest ≡ line_of (length a.events + 1) e =
      ap first_line left
      ∙ ap first_line (append_assoc (line_of (0 + length a.events + 1) e) (lines_after (0 + length a.events + 1) more) b.rest)
      ∙ one_line (0 + length a.events + 1) e (lines_after (0 + length a.events + 1) more ++ b.rest) said.0
      ∙ ap (λ n. line_of n e) place_is in
      absurd (faultless setup a.events b.events (first_line a.rest) e more w whole b.log.few b.log.legal a.log.legal (ap line_read first ∙ event_forth (length a.events + 1) e line) said.1 a.fault)

one_no : (setup : Settings) (text : List ℕ) (p q : ℕ) (w v : AuditWhy) → IsFirstFault setup text p w → IsFirstFault setup text q v → audits.No p w ≡ audits.No q v
one_no setup text p q w v a b =
    elim (cases_lt (length a.events) (length b.events)) [
      | inl below ↦ in_order setup text p q w v a b (omega (arith, below))
      | inr le ↦ sym (in_order setup text q p v w b a (omega (arith, le)))
    ]

pub one_answer : (setup : Settings) (text : List ℕ) (a b : Audit) → IsAnswer setup text a → IsAnswer setup text b → a ≡ b
one_answer setup text (audits.Yes m) (audits.Yes n) h g = ap (λ x. audits.Yes x) (h.counted ∙ yes_only setup text h.events g.events h.log g.log ∙ sym g.counted)
one_answer setup text (audits.Yes m) (audits.No q v) h g = absurd (no_never setup text q v h.events g h.log)
one_answer setup text (audits.No p w) (audits.Yes n) h g = absurd (no_never setup text p w g.events h g.log)
one_answer setup text (audits.No p w) (audits.No q v) h g = one_no setup text p q w v h g

pub one_ok : (setup : Settings) (text : List ℕ) (r : Result Audit AllocError) → IfOk r (IsAnswer setup text) → (a : Audit) → IsAnswer setup text a → IfOk r (λ b. b ≡ a)
one_ok setup text (Ok b) is a other = one_answer setup text b a is other
one_ok setup text (Err e) is a other = tt

-- a legal log's
pub yes_of : (setup : Settings) (text : List ℕ) (events : List Event) → IsLogOf setup text events → IsAnswer setup text (audits.Yes (length events))
yes_of setup text events log = record { events = events; log = log; counted = refl }
