-- What was decided, read and written.
use Rattle.std.proofs.Common.{◌≡◌, ℕ, ◌^◌, ◌<◌, ◌≤◌, List, ◌∷◌, ◌++◌, codes, Result, Ok, refl, sym, ap, subst, ◌∙◌, append_assoc, lit≤, lit<}
use Rattle.std.specs.Fmt.{decimal}
use Rattle.std.specs.Int.{w64, to_be_bytes}
use Rattle.request_catalogue.specs.Results.{◌>>=◌}
use Rattle.hex.specs.Hex.{encode_lower}
use Rattle.policy_model.specs.declared.event.Decision.{Decision}
use Rattle.policy_model.specs.declared.event.Decision.TheVariants as decisions
use Rattle.decision_log.specs.declared.logged.LineFault.{LineFault}
use Rattle.decision_log.specs.declared.words.DecisionWord.{DecisionWord}
use Rattle.decision_log.specs.declared.words.DecisionWord.TheVariants as decision_
use Rattle.decision_log.specs.LineTexts.{decided_text, shown_text}
use Rattle.decision_log.specs.Parts.{Read, next, number_below, one, password_in, rule_in}
use Rattle.decision_log.specs.Reading.{decision_behind, decision_read, decision_word_in, value_behind}
use Rattle.decision_log.specs.Values.{AskValue, Begin, Banner, Challenge, Reply, Abandon, Export, Import, ReadAt, WriteAt, OpenFile, CloseFile, Info, Note, Finish, Bad, End, IsShown, IsValue}
use Rattle.decision_log.specs.Words.{decision_word}
use Rattle.decision_log.proofs.Grammar.{Ends, bound, next_back, next_forth}
use Rattle.decision_log.proofs.Instances.{decision_word_reader, numbers, passwords, rules}
use Rattle.decision_log.proofs.Sequences.{One, one_back, one_forth, same, spaced_by, two_back, two_forth}

-- the ranges of parts
abbrev Below : ℕ → ℕ → Type 0
Below limit n = n < limit

abbrev IsRule : ℕ → Type 0
IsRule n = (1 ≤ n) × (n ≤ 22)

-- a password's digits, and the decisions
abbrev digits : ℕ → List ℕ
digits password = encode_lower (to_be_bytes w64 password)

abbrev permit : ℕ → Decision
permit value = decisions.Permit value

abbrev deny : ℕ → ℕ → Decision
deny rule detail = decisions.Deny rule detail

-- what stands after the word of a permit
abbrev value_rest : AskValue → ℕ → List ℕ → List ℕ
value_rest (Challenge user now) value rest = spaced_by decimal value rest
value_rest Reply value rest = spaced_by digits value rest
value_rest (Export len) value rest = spaced_by decimal value rest
value_rest (OpenFile mode name) value rest = spaced_by decimal value rest
value_rest (Info number) value rest = spaced_by decimal value rest
value_rest _ value rest = rest

value_spelled : (ask : AskValue) (value : ℕ) (rest : List ℕ) → shown_text ask value ++ rest ≡ value_rest ask value rest
value_spelled Begin value rest = refl
value_spelled _ value rest = refl

value_ends : (ask : AskValue) (value : ℕ) (rest : List ℕ) → Ends rest → Ends (value_rest ask value rest)
value_ends (Challenge user now) value rest ends = refl
value_ends Reply value rest ends = refl
value_ends (Export len) value rest ends = refl
value_ends (OpenFile mode name) value rest ends = refl
value_ends (Info number) value rest ends = refl
value_ends _ value rest ends = ends

long_forth : (value : ℕ) → value < 2 ^ 64 → (rest : List ℕ) → Ends rest → one (number_below (2 ^ 64)) permit (spaced_by decimal value rest) ≡ Ok (record { value = permit value; rest = rest })
long_forth value range rest ends = one_forth (number_below (2 ^ 64)) decimal (Below (2 ^ 64)) (numbers (2 ^ 64) (lit≤ tt)) permit value range rest ends

value_forth : (session : ℕ) (ask : AskValue) (value : ℕ) → IsValue session ask value → (rest : List ℕ) → Ends rest → value_behind session ask (value_rest ask value rest) ≡ Ok (record { value = permit value; rest = rest })
value_forth session (Challenge user now) value range rest ends = long_forth value range rest ends
value_forth session Reply value range rest ends = one_forth password_in digits (Below (2 ^ 64)) passwords permit value range rest ends
value_forth session (Export len) value range rest ends = long_forth value range rest ends
value_forth session (OpenFile mode name) value range rest ends = long_forth value range rest ends
value_forth session (Info number) value range rest ends = long_forth value range rest ends
value_forth session Begin value range rest ends = ap (λ (n : ℕ). Ok (record { value = permit n; rest = rest })) (sym range)
value_forth session _ value range rest ends = ap (λ (n : ℕ). Ok (record { value = permit n; rest = rest })) (sym range)

-- a permit that was read
record Permitted (session : ℕ) (ask : AskValue) (text : List ℕ) (r : Read Decision) : Type 0 where
  value : ℕ
  is : r.value ≡ permit value
  spelled : text ≡ value_rest ask value r.rest
  range : IsValue session ask value

long_back : (text : List ℕ) (r : Read Decision) → one (number_below (2 ^ 64)) permit text ≡ Ok r → One decimal (Below (2 ^ 64)) permit text r
long_back text r e = one_back (number_below (2 ^ 64)) decimal (Below (2 ^ 64)) (numbers (2 ^ 64) (lit≤ tt)) permit text r e

unshown : (session : ℕ) (ask : AskValue) (value : ℕ) (text : List ℕ) (r : Read Decision) → ((rest : List ℕ) → value_rest ask value rest ≡ rest) → IsValue session ask value → ◌≡◌ {A = Result (Read Decision) LineFault} (Ok (record { value = permit value; rest = text })) (Ok r) → Permitted session ask text r
unshown session ask value text r none range e =
    let made = same (record { value = permit value; rest = text }) r e in
    record { value = value; is = sym (ap (λ (x : Read Decision). x.value) made); spelled = ap (λ (x : Read Decision). x.rest) made ∙ sym (none r.rest); range = range }

value_back : (session : ℕ) (ask : AskValue) (text : List ℕ) (r : Read Decision) → value_behind session ask text ≡ Ok r → Permitted session ask text r
value_back session (Challenge user now) text r e = let t = long_back text r e in record { value = t.a; is = t.value; spelled = t.spelled; range = t.range }
value_back session Reply text r e = let t = one_back password_in digits (Below (2 ^ 64)) passwords permit text r e in record { value = t.a; is = t.value; spelled = t.spelled; range = t.range }
value_back session (Export len) text r e = let t = long_back text r e in record { value = t.a; is = t.value; spelled = t.spelled; range = t.range }
value_back session (OpenFile mode name) text r e = let t = long_back text r e in record { value = t.a; is = t.value; spelled = t.spelled; range = t.range }
value_back session (Info number) text r e = let t = long_back text r e in record { value = t.a; is = t.value; spelled = t.spelled; range = t.range }
value_back session Begin text r e = unshown session Begin session text r (λ rest. refl) refl e
value_back session Banner text r e = unshown session Banner 0 text r (λ rest. refl) refl e
value_back session Abandon text r e = unshown session Abandon 0 text r (λ rest. refl) refl e
value_back session Import text r e = unshown session Import 0 text r (λ rest. refl) refl e
value_back session (ReadAt handle offset max) text r e = unshown session (ReadAt handle offset max) 0 text r (λ rest. refl) refl e
value_back session (WriteAt handle offset len) text r e = unshown session (WriteAt handle offset len) 0 text r (λ rest. refl) refl e
value_back session (CloseFile handle) text r e = unshown session (CloseFile handle) 0 text r (λ rest. refl) refl e
value_back session (Note note) text r e = unshown session (Note note) 0 text r (λ rest. refl) refl e
value_back session Finish text r e = unshown session Finish 0 text r (λ rest. refl) refl e
value_back session (Bad rule detail) text r e = unshown session (Bad rule detail) 0 text r (λ rest. refl) refl e
value_back session (End why) text r e = unshown session (End why) 0 text r (λ rest. refl) refl e

-- the word of a decision, and what stands after it
abbrev word_of : Decision → DecisionWord
word_of (decisions.Permit value) = decision_.Permit
word_of (decisions.Deny rule detail) = decision_.Deny
word_of decisions.Lost = decision_.Permit

abbrev behind_text : AskValue → Decision → List ℕ → List ℕ
behind_text ask (decisions.Permit value) rest = value_rest ask value rest
behind_text ask (decisions.Deny rule detail) rest = spaced_by decimal rule (spaced_by decimal detail rest)
behind_text ask decisions.Lost rest = rest

decision_spelled : (session : ℕ) (ask : AskValue) (decision : Decision) (rest : List ℕ) → IsShown session ask decision → decided_text ask decision ++ rest ≡ decision_word (word_of decision) ++ behind_text ask decision rest
unfolding decision_word
decision_spelled session ask (decisions.Permit value) rest range = ap (λ (x : List ℕ). codes "permit" ++ x) (value_spelled ask value rest)
decision_spelled session ask (decisions.Deny rule detail) rest range = ap (λ (x : List ℕ). codes "deny " ++ x) (append_assoc (decimal rule) (32 ∷ decimal detail) rest)
decision_spelled session ask decisions.Lost rest range = absurd range

decision_ends : (ask : AskValue) (decision : Decision) (rest : List ℕ) → Ends rest → Ends (behind_text ask decision rest)
decision_ends ask (decisions.Permit value) rest ends = value_ends ask value rest ends
decision_ends ask (decisions.Deny rule detail) rest ends = refl
decision_ends ask decisions.Lost rest ends = ends

behind_forth : (session : ℕ) (ask : AskValue) (decision : Decision) → IsShown session ask decision → (rest : List ℕ) → Ends rest → decision_behind session ask (word_of decision) (behind_text ask decision rest) ≡ Ok (record { value = decision; rest = rest })
behind_forth session ask (decisions.Permit value) range rest ends = value_forth session ask value range rest ends
behind_forth session ask (decisions.Deny rule detail) range rest ends = two_forth (rule_in 1 22) decimal IsRule (rules 1 22 (lit< tt)) (number_below (2 ^ 32)) decimal (Below (2 ^ 32)) (numbers (2 ^ 32) (lit≤ tt)) deny rule detail (range.0, range.1) range.2 rest ends
behind_forth session ask decisions.Lost range rest ends = absurd range

pub decision_forth : (session : ℕ) (ask : AskValue) (decision : Decision) → IsShown session ask decision → (rest : List ℕ) → Ends rest → decision_read session ask (32 ∷ decided_text ask decision ++ rest) ≡ Ok (record { value = decision; rest = rest })
decision_forth session ask decision range rest ends =
    ap (λ (x : List ℕ). decision_read session ask (32 ∷ x)) (decision_spelled session ask decision rest range)
    ∙ ap (λ (r : Result (Read DecisionWord) LineFault). r >>= (λ w. decision_behind session ask w.value w.rest)) (next_forth decision_word_in decision_word (λ w. Unit {0}) decision_word_reader (word_of decision) tt (behind_text ask decision rest) (decision_ends ask decision rest ends))
    ∙ behind_forth session ask decision range rest ends

-- what was read after a word
record Behind (session : ℕ) (ask : AskValue) (word : DecisionWord) (text : List ℕ) (r : Read Decision) : Type 0 where
  spelled : text ≡ behind_text ask r.value r.rest
  of_word : word_of r.value ≡ word
  range : IsShown session ask r.value

by_value : (session : ℕ) (ask : AskValue) (word : DecisionWord) (text : List ℕ) (r : Read Decision) (decision : Decision) → r.value ≡ decision → text ≡ behind_text ask decision r.rest → word_of decision ≡ word → IsShown session ask decision → Behind session ask word text r
by_value session ask word text r decision is spelled of_word range = record { spelled = spelled ∙ ap (λ (x : Decision). behind_text ask x r.rest) (sym is); of_word = ap word_of is ∙ of_word; range = subst (IsShown session ask) (sym is) range }

behind_back : (session : ℕ) (ask : AskValue) (word : DecisionWord) (text : List ℕ) (r : Read Decision) → decision_behind session ask word text ≡ Ok r → Behind session ask word text r
behind_back session ask decision_.Permit text r e =
    let t = value_back session ask text r e in
    by_value session ask decision_.Permit text r (permit t.value) t.is t.spelled refl t.range
behind_back session ask decision_.Deny text r e =
    let t = two_back (rule_in 1 22) decimal IsRule (rules 1 22 (lit< tt)) (number_below (2 ^ 32)) decimal (Below (2 ^ 32)) (numbers (2 ^ 32) (lit≤ tt)) deny text r e in
    by_value session ask decision_.Deny text r (deny t.a t.b) t.value t.spelled refl (t.range.0, t.range.1, t.range2)

pub decision_back : (session : ℕ) (ask : AskValue) (text : List ℕ) (r : Read Decision) → decision_read session ask text ≡ Ok r → (text ≡ 32 ∷ decided_text ask r.value ++ r.rest) × IsShown session ask r.value
decision_back session ask text r e =
    let word = bound (next decision_word_in text) (λ w. decision_behind session ask w.value w.rest) r e in
    let first = next_back decision_word_in decision_word (λ w. Unit {0}) decision_word_reader text word.0 word.1 in
    let told = behind_back session ask word.0.value word.0.rest r word.2 in
    (first.0 ∙ ap (λ (x : List ℕ). 32 ∷ decision_word word.0.value ++ x) told.spelled ∙ ap (λ (w : DecisionWord). 32 ∷ decision_word w ++ behind_text ask r.value r.rest) (sym told.of_word) ∙ ap (λ (x : List ℕ). 32 ∷ x) (sym (decision_spelled session ask r.value r.rest told.range)), told.range)
