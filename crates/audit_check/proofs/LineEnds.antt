-- A line ends at its only newline, so a text is the lines of one list of events alone.
use Rattle.std.proofs.Common.{◌≡◌, ℕ, ◌+◌, ◌^◌, ◌<◌, ◌≤◌, Bool, true, false, not, eqb, List, [], ◌∷◌, ◌++◌, length, take, drop, get_or, codes, Result, Ok, Err, refl, sym, ap, subst, ◌∙◌, arith, append_assoc, inl, inr}
use Rattle.std.specs.Fmt.{decimal}
use Rattle.std.specs.Int.{w64, to_be_bytes}
use Rattle.std.specs.List.{list_all, position_or_len}
use Rattle.std.proofs.lemmas.Bool.{and_from, and_parts}
use Rattle.std.proofs.lemmas.Bool.Decides.{nat_tests}
use Rattle.std.proofs.lemmas.List.{append-nil, drop_at, get_or_append_left, get_or_at, length-append, take_at}
use Rattle.std.proofs.lemmas.List.Folds.{list_all-append, list_all_at}
use Rattle.std.proofs.lemmas.List.Sums.{position_or_len_is}
use Rattle.hex.specs.Hex.{encode_lower}
use Rattle.policy_model.specs.declared.event.Decision.{Decision}
use Rattle.policy_model.specs.declared.event.Decision.TheVariants.{Permit, Deny, Lost}
use Rattle.policy_model.specs.declared.event.Event.{Event}
use Rattle.policy_model.specs.declared.event.Why.{Why}
use Rattle.policy_model.specs.declared.event.Why.TheVariants as whys
use Rattle.policy_model.specs.declared.ranges.TheConstants.{EVENTS_LIMIT}
use Rattle.policy_model.specs.Settings.{Settings}
use Rattle.policy_laws.specs.Strangers.{without_readings}
use Rattle.decision_log.specs.declared.logged.LineFault.{LineFault}
use Rattle.decision_log.specs.Log.{line_of, lines_after, spaced, why_text}
use Rattle.decision_log.specs.LineTexts.{asked_text, decided_text, line_text, shown_text}
use Rattle.decision_log.specs.Parts.{ends_part}
use Rattle.decision_log.specs.Reading.{line_read}
use Rattle.decision_log.specs.Values.{AskValue, Begin, Banner, Challenge, Reply, Abandon, Export, Import, ReadAt, WriteAt, OpenFile, CloseFile, Info, Note, Finish, Bad, End, IsAsk, IsLine, IsShown, IsValue, IsWhy, LineValue, line_value}
use Rattle.decision_log.proofs.Instances.{decimal_whole, labels, names, notes, passwords}
use Rattle.decision_log.proofs.EventLines.{event_forth, line_is}
use Rattle.audit_check.specs.declared.answer.AuditWhy.{AuditWhy}
use Rattle.audit_check.specs.declared.answer.AuditWhy.TheVariants as reasons
use Rattle.audit_check.specs.Legal.{IsLegalLog}
use Rattle.audit_check.proofs.Fronts.{legal_last, legal_push, says_same}
use Rattle.audit_check.proofs.SameEvents.{same_event}
use Rattle.audit_check.specs.Said.{AreSaid, IsFault, IsFirstFault, IsLogOf, Says, first_line}

-- 1. No newline stands inside a line

abbrev no_newline : ℕ → Bool
no_newline c = not (eqb c 10)

abbrev Plain : List ℕ → Type 0
Plain bytes = list_all no_newline bytes ≡ true

plain_one : (c : ℕ) → not (ends_part c) ≡ true → no_newline c ≡ true
plain_one c h = grind (arith, nat_tests)

plain_part : (bytes : List ℕ) → list_all (λ c. not (ends_part c)) bytes ≡ true → Plain bytes
plain_part [] h = refl
plain_part (c ∷ bytes) h =
    let both = and_parts (not (ends_part c)) (list_all (λ x. not (ends_part x)) bytes) h in
    and_from (no_newline c) (list_all no_newline bytes) (plain_one c both.0) (plain_part bytes both.1)

plain_two : (a b : List ℕ) → Plain a → Plain b → Plain (a ++ b)
plain_two a b p q = list_all-append no_newline a b ∙ and_from (list_all no_newline a) (list_all no_newline b) p q

plain_number : (n : ℕ) → n < 2 ^ 64 → Plain (decimal n)
plain_number n small = plain_part (decimal n) (decimal_whole n small).none

plain_spaced : (n : ℕ) → n < 2 ^ 64 → Plain (spaced n)
plain_spaced n small = plain_two (codes " ") (decimal n) refl (plain_number n small)

up_32 : (n : ℕ) → n < 2 ^ 32 → n < 2 ^ 64
up_32 n small = omega (arith, small)

up_16 : (n : ℕ) → n < 2 ^ 16 → n < 2 ^ 64
up_16 n small = omega (arith, small)

up_8 : (n : ℕ) → n < 2 ^ 8 → n < 2 ^ 64
up_8 n small = omega (arith, small)

up_rule : (n : ℕ) → n ≤ 22 → n < 2 ^ 64
up_rule n small = omega (arith, small)

plain_why : (why : Why) → IsWhy why → Plain (why_text why)
plain_why whys.Finished h = refl
plain_why whys.ChildEnded h = refl
plain_why whys.Truncated h = refl
plain_why (whys.BadFrame len) h = plain_two (codes "bad-frame") (spaced len) refl (plain_spaced len (up_16 len h))
plain_why (whys.Violation rule) h = plain_two (codes "violation") (spaced rule) refl (plain_spaced rule (omega (arith, h.1)))
plain_why whys.LinkFault h = refl
plain_why whys.KeeperFault h = refl
plain_why whys.LogLost h = refl

plain_three : (word : List ℕ) (a b c : ℕ) → Plain word → a < 2 ^ 64 → b < 2 ^ 64 → c < 2 ^ 64 → Plain (word ++ spaced a ++ spaced b ++ spaced c)
plain_three word a b c p ra rb rc = plain_two (word ++ spaced a ++ spaced b) (spaced c) (plain_two (word ++ spaced a) (spaced b) (plain_two word (spaced a) p (plain_spaced a ra)) (plain_spaced b rb)) (plain_spaced c rc)

plain_ask : (ask : AskValue) → IsAsk ask → Plain (asked_text ask)
plain_ask Begin h = refl
plain_ask Banner h = refl
plain_ask (Challenge user now) h = plain_two (codes "challenge " ++ user) (spaced now) (plain_two (codes "challenge ") user refl (plain_part user (names.whole user h.0).none)) (plain_spaced now h.1)
plain_ask Reply h = refl
plain_ask Abandon h = refl
plain_ask (Export len) h = plain_two (codes "export") (spaced len) refl (plain_spaced len (up_16 len h))
plain_ask Import h = refl
plain_ask (ReadAt handle offset max) h = plain_three (codes "read") handle offset max refl (up_32 handle h.0) h.1 (up_16 max h.2)
plain_ask (WriteAt handle offset len) h = plain_three (codes "write") handle offset len refl (up_32 handle h.0) h.1 (up_16 len h.2)
plain_ask (OpenFile mode name) h = plain_two (codes "grant" ++ spaced mode) (codes " " ++ encode_lower name) (plain_two (codes "grant") (spaced mode) refl (plain_spaced mode (up_8 mode h.0))) (plain_two (codes " ") (encode_lower name) refl (plain_part (encode_lower name) (labels.whole name h.1).none))
plain_ask (CloseFile handle) h = plain_two (codes "close") (spaced handle) refl (plain_spaced handle (up_32 handle h))
plain_ask (Info number) h = plain_two (codes "info") (spaced number) refl (plain_spaced number (up_32 number h))
plain_ask (Note text) h = plain_two (codes "note") (codes " " ++ encode_lower text) refl (plain_two (codes " ") (encode_lower text) refl (plain_part (encode_lower text) (notes.whole text h).none))
plain_ask Finish h = refl
plain_ask (Bad rule detail) h = plain_two (codes "bad" ++ spaced rule) (spaced detail) (plain_two (codes "bad") (spaced rule) refl (plain_spaced rule (omega (arith, h.1)))) (plain_spaced detail (up_32 detail h.2))
plain_ask (End why) h = plain_two (codes "end ") (why_text why) refl (plain_why why h)

plain_value : (session : ℕ) (ask : AskValue) (value : ℕ) → IsValue session ask value → Plain (shown_text ask value)
plain_value session (Challenge user now) value h = plain_spaced value h
plain_value session (Export len) value h = plain_spaced value h
plain_value session (OpenFile mode name) value h = plain_spaced value h
plain_value session (Info number) value h = plain_spaced value h
plain_value session Reply value h = plain_two (codes " ") (encode_lower (to_be_bytes w64 value)) refl (plain_part (encode_lower (to_be_bytes w64 value)) (passwords.whole value h).none)
plain_value session _ value h = refl

plain_decision : (session : ℕ) (ask : AskValue) (decision : Decision) → IsShown session ask decision → Plain (decided_text ask decision)
plain_decision session ask (Permit value) h = plain_two (codes "permit") (shown_text ask value) refl (plain_value session ask value h)
plain_decision session ask (Deny rule detail) h = plain_two (codes "deny" ++ spaced rule) (spaced detail) (plain_two (codes "deny") (spaced rule) refl (plain_spaced rule (up_rule rule h.1))) (plain_spaced detail (up_32 detail h.2))
plain_decision session ask Lost h = refl

-- a line without its newline
abbrev line_body : LineValue → List ℕ
line_body v = decimal v.number ++ codes " w" ++ decimal v.worker ++ codes " s" ++ decimal v.session ++ codes " " ++ asked_text v.ask ++ codes " " ++ decided_text v.ask v.decision

text_is : (v : LineValue) → line_text v ≡ line_body v ++ codes "\n"
unfolding line_text
text_is v = refl

plain_body : (v : LineValue) → IsLine v → Plain (line_body v)
plain_body v is =
    let b1 : List ℕ = decimal v.number ++ codes " w" in
    let b2 : List ℕ = b1 ++ decimal v.worker in
    let b3 : List ℕ = b2 ++ codes " s" in
    let b4 : List ℕ = b3 ++ decimal v.session in
    let b5 : List ℕ = b4 ++ codes " " in
    let b6 : List ℕ = b5 ++ asked_text v.ask in
    let b7 : List ℕ = b6 ++ codes " " in
    let one = plain_two (decimal v.number) (codes " w") (plain_number v.number (up_32 v.number is.number)) refl in
    let two = plain_two b1 (decimal v.worker) one (plain_number v.worker (up_32 v.worker is.worker)) in
    let three = plain_two b2 (codes " s") two refl in
    let four = plain_two b3 (decimal v.session) three (plain_number v.session (up_32 v.session is.session)) in
    let five = plain_two b4 (codes " ") four refl in
    let six = plain_two b5 (asked_text v.ask) five (plain_ask v.ask is.ask) in
    let seven = plain_two b6 (codes " ") six refl in
    plain_two b7 (decided_text v.ask v.decision) seven (plain_decision v.session v.ask v.decision is.decision)

-- 2. The first line of a text that begins with one

at_plain : (bytes : List ℕ) (k : ℕ) → Plain bytes → k < length bytes → (b : Bool) → eqb (get_or bytes k 0) 10 ≡ b → b ≡ false
at_plain bytes k all lt true e = let no : list_all no_newline bytes ≡ false = list_all_at no_newline bytes k 0 lt (ap not e) in absurd cc
at_plain bytes k all lt false e = refl

newline_at : (bytes rest : List ℕ) → Plain bytes → position_or_len (λ c. eqb c 10) (bytes ++ 10 ∷ rest) ≡ length bytes
newline_at bytes rest all =
    position_or_len_is (λ c. eqb c 10) (bytes ++ 10 ∷ rest) (length bytes) 0 (omega (arith, length-append bytes (10 ∷ rest)))
    (λ k lt. ap (λ c. eqb c 10) (get_or_append_left bytes (10 ∷ rest) 0 k lt) ∙ at_plain bytes k all lt (eqb (get_or bytes k 0) 10) refl)
    (λ lt. ap (λ c. eqb c 10) (get_or_at bytes 10 rest 0 (length bytes) refl))

first_of : (bytes rest : List ℕ) → Plain bytes → first_line (bytes ++ 10 ∷ rest) ≡ bytes ++ 10 ∷ []
first_of bytes rest all =
    ap (λ n. take (n + 1) (bytes ++ 10 ∷ rest)) (newline_at bytes rest all)
    ∙ ap (take (length bytes + 1)) (sym (append_assoc bytes (10 ∷ []) rest))
    ∙ take_at (bytes ++ 10 ∷ []) rest (length bytes + 1) (length-append bytes (10 ∷ []))

pub one_line : (number : ℕ) (e : Event) (rest : List ℕ) → IsLine (line_value number e) → first_line (line_of number e ++ rest) ≡ line_of number e
one_line number e rest is =
    let v = line_value number e in
    let whole : line_of number e ≡ line_body v ++ 10 ∷ [] = line_is number e ∙ text_is v in
    ap (λ t. first_line (t ++ rest)) whole
    ∙ ap first_line (append_assoc (line_body v) (10 ∷ []) rest)
    ∙ first_of (line_body v) rest (plain_body v is)
    ∙ sym whole

pub line_some : (number : ℕ) (e : Event) → 1 ≤ length (line_of number e)
line_some number e =
    let v = line_value number e in
    let long : length (line_of number e) ≡ length (line_body v) + 1 = ap length (line_is number e ∙ text_is v) ∙ length-append (line_body v) (10 ∷ []) in
    omega (arith, long)

-- 3. One list of events alone

pub same_ok : (a b : LineValue) (r : Result LineValue LineFault) → r ≡ Ok a → r ≡ Ok b → a ≡ b
same_ok a b (Ok v) h g = cc
same_ok a b (Err fault) h g = absurd cc

empty_line : (number : ℕ) (e : Event) (rest : List ℕ) → line_of number e ++ rest ≡ [] → ⊥
empty_line number e rest h = let none : length (line_of number e ++ rest) ≡ 0 = ap length h in absurd (omega (arith, none, length-append (line_of number e) rest, line_some number e))

-- lines that begin with these events are those of a list that does
record Continues (count : ℕ) (rest : List ℕ) (events given : List Event) : Type 0 where
  pub more : List Event
  pub whole : given ≡ events ++ more
  pub left : rest ≡ lines_after (count + length events) more
  pub said : AreSaid (count + length events) more

-- the first of each are the same, and so is what stands after
record SameFirst (count : ℕ) (rest : List ℕ) (e g : Event) (events given : List Event) : Type 0 where
  pub equal : e ≡ g
  pub rests : lines_after (count + 1) events ++ rest ≡ lines_after (count + 1) given

same_first : (count : ℕ) (rest : List ℕ) (e g : Event) (events given : List Event) → AreSaid count (e ∷ events) → AreSaid count (g ∷ given) → lines_after count (e ∷ events) ++ rest ≡ lines_after count (g ∷ given) → SameFirst count rest e g events given
same_first count rest e g events given said other same = record { equal = equal; rests = rests } where
  n : ℕ
  n = count + 1

  behind : List ℕ
  behind = lines_after n events ++ rest

  texts : line_of n e ++ behind ≡ line_of n g ++ lines_after n given
  texts = sym (append_assoc (line_of n e) (lines_after n events) rest) ∙ same

  lines : line_of n e ≡ line_of n g
  lines = sym (one_line n e behind said.0) ∙ ap first_line texts ∙ one_line n g (lines_after n given) other.0

  equal : e ≡ g
  equal = same_event n n e g said.1 other.1 (same_ok (line_value n e) (line_value n g) (line_read (line_of n e)) (event_forth n e said.0) (ap line_read lines ∙ event_forth n g other.0))

  rests : behind ≡ lines_after n given
  rests =
      sym (drop_at (line_of n e) behind (length (line_of n e)) refl)
      ∙ ap (drop (length (line_of n e))) texts
      ∙ drop_at (line_of n g) (lines_after n given) (length (line_of n e)) (ap length (sym lines))

continues : (count : ℕ) (rest : List ℕ) (events given : List Event) → AreSaid count events → AreSaid count given → lines_after count events ++ rest ≡ lines_after count given → Continues count rest events given
continues count rest [] given said other same =
    let place : count ≡ count + 0 = omega arith in
    record { more = given; whole = refl; left = same ∙ ap (λ n. lines_after n given) place; said = subst (λ n. AreSaid n given) place other }
continues count rest (e ∷ events) [] said other same =
    absurd (empty_line (count + 1) e (lines_after (count + 1) events ++ rest) (sym (append_assoc (line_of (count + 1) e) (lines_after (count + 1) events) rest) ∙ same))
continues count rest (e ∷ events) (g ∷ given) said other same =
    let first = same_first count rest e g events given said other same in
    let c : Continues (count + 1) rest events given = continues (count + 1) rest events given said.2 other.2 first.rests in
    let place : count + 1 + length events ≡ count + length (e ∷ events) = omega arith in
    record {
      more = c.more;
      whole = ap (λ x. x ∷ given) (sym first.equal) ∙ ap (λ xs. e ∷ xs) c.whole;
      left = c.left ∙ ap (λ n. lines_after n c.more) place;
      said = subst (λ n. AreSaid n c.more) place c.said;
    }

-- 4. The answer to a legal log

no_more : (count : ℕ) (more : List Event) → [] ≡ lines_after count more → more ≡ []
no_more count [] h = refl
no_more count (e ∷ more) h = absurd (empty_line (count + 1) e (lines_after (count + 1) more) (sym h))

pub yes_only : (setup : Settings) (text : List ℕ) (events given : List Event) → IsLogOf setup text events → IsLogOf setup text given → length events ≡ length given
yes_only setup text events given log other =
    let c = continues 0 [] events given log.said other.said (append-nil (lines_after 0 events) ∙ sym log.spelled ∙ other.spelled) in
    ap length (sym (c.whole ∙ ap (λ xs. events ++ xs) (no_more (0 + length events) c.more c.left) ∙ append-nil events))

-- no fault is in a line of a legal log
pub faultless : (setup : Settings) (events given : List Event) (line : List ℕ) (e : Event) (more : List Event) (why : AuditWhy) → given ≡ events ++ e ∷ more → length given ≤ EVENTS_LIMIT → IsLegalLog setup given → IsLegalLog setup events → line_read line ≡ Ok (line_value (length events + 1) e) → without_readings e.ask ≡ e.ask → IsFault setup events line why → ⊥
faultless setup events given line e more reasons.Text whole few legal front read shown fault = ok_err (line_read line) (line_value (length events + 1) e) fault.1.fault read fault.1.read where
  ok_err : (r : Result LineValue LineFault) (v : LineValue) (f : LineFault) → r ≡ Ok v → r ≡ Err f → ⊥
  ok_err (Ok x) v f h g = absurd cc
  ok_err (Err x) v f h g = absurd cc
faultless setup events given line e more reasons.Count whole few legal front read shown (inl most) =
    let long : length given ≡ length events + length (e ∷ more) = ap length whole ∙ length-append events (e ∷ more) in
    absurd (omega (arith, long, few, most))
faultless setup events given line e more reasons.Count whole few legal front read shown (inr miscounted) =
    miscounted.other (ap (λ (v : LineValue). v.number) (same_ok miscounted.value (line_value (length events + 1) e) (line_read line) miscounted.read read))
faultless setup events given line e more reasons.Event whole few legal front read shown fault =
    let says : Says (length events + 1) line e = record { read = read; shown = shown } in
    let same : e ≡ fault.1.event = says_same (length events + 1) line e fault.1.event says fault.1.says in
    fault.1.illegal (subst (λ x. IsLegalLog setup (events ++ x ∷ [])) same (legal_push setup events e front (legal_last setup events e more (subst (IsLegalLog setup) whole legal))))

pub no_never : (setup : Settings) (text : List ℕ) (place : ℕ) (why : AuditWhy) (given : List Event) → IsFirstFault setup text place why → IsLogOf setup text given → ⊥
no_never setup text place why given bad log = go c.more c.whole c.left c.said where
  c : Continues 0 bad.rest bad.events given
  c = continues 0 bad.rest bad.events given bad.log.said log.said (ap (λ t. t ++ bad.rest) (sym bad.log.spelled) ∙ sym bad.cut ∙ log.spelled)

  place_is : 0 + length bad.events + 1 ≡ length bad.events + 1
  place_is = omega arith

  go : (more : List Event) → given ≡ bad.events ++ more → bad.rest ≡ lines_after (0 + length bad.events) more → AreSaid (0 + length bad.events) more → ⊥
  go [] whole left said = let none : length bad.rest ≡ 0 = ap length left in absurd (omega (arith, none, bad.more))
  go (e ∷ more) whole left said =
      let line : IsLine (line_value (length bad.events + 1) e) = subst (λ n. IsLine (line_value n e)) place_is said.0 in
      let first : first_line bad.rest ≡ line_of (length bad.events + 1) e = ap first_line left ∙ one_line (0 + length bad.events + 1) e (lines_after (0 + length bad.events + 1) more) said.0 ∙ ap (λ n. line_of n e) place_is in
      faultless setup bad.events given (first_line bad.rest) e more why whole log.few log.legal bad.log.legal (ap line_read first ∙ event_forth (length bad.events + 1) e line) said.1 bad.fault
