-- Lines, read and written.
use Rattle.std.proofs.Common.{◌≡◌, ℕ, ◌^◌, ◌<◌, Bool, true, false, List, ◌∷◌, ◌++◌, codes, Result, Ok, Err, refl, sym, ap, subst, ◌∙◌, append_assoc, lit≤}
use Rattle.std.specs.Bool.{then_some}
use Rattle.std.specs.Prelude.{IfOk, IsOkAnd}
use Rattle.std.specs.Fmt.{decimal}
use Rattle.std.specs.Str.{bytes_eq}
use Rattle.std.proofs.lemmas.Slice.Eq.{bytes_eq-Decides}
use Rattle.request_catalogue.specs.Results.{demand, ◌>>=◌}
use Rattle.policy_model.specs.declared.event.Decision.{Decision}
use Rattle.decision_log.specs.declared.logged.Logged.{Logged}
use Rattle.decision_log.specs.declared.logged.LineFault.{LineFault}
use Rattle.decision_log.specs.declared.logged.LineFault.TheVariants as faults
use Rattle.decision_log.specs.LineTexts.{asked_text, decided_text, line_text}
use Rattle.decision_log.specs.Logged.{logged_value}
use Rattle.decision_log.specs.Parts.{Gives, Read, lettered, next, number_below, part}
use Rattle.decision_log.specs.Reading.{ask_read, decision_read, line_read}
use Rattle.decision_log.specs.Values.{AskValue, IsLine, LineValue}
use Rattle.decision_log.proofs.AskLines.{ask_back, ask_forth}
use Rattle.decision_log.proofs.Decisions.{decision_back, decision_forth}
use Rattle.decision_log.proofs.Grammar.{IsReader, bound, next_back, next_forth, part_back, part_forth}
use Rattle.decision_log.proofs.Instances.{lettered_numbers, numbers}

-- numbers of 32 bits
abbrev Short : ℕ → Type 0
Short n = n < 2 ^ 32

shorts : IsReader (number_below (2 ^ 32)) decimal Short
shorts = numbers (2 ^ 32) (lit≤ tt)

-- a letter and a number
abbrev with_letter : ℕ → ℕ → List ℕ
with_letter letter n = letter ∷ decimal n

-- what is after each part, from the right
abbrev after_ask : LineValue → List ℕ
after_ask v = 32 ∷ decided_text v.ask v.decision ++ codes "\n"

abbrev after_session : LineValue → List ℕ
after_session v = 32 ∷ asked_text v.ask ++ after_ask v

abbrev after_worker : LineValue → List ℕ
after_worker v = 32 ∷ with_letter 115 v.session ++ after_session v

abbrev after_number : LineValue → List ℕ
after_number v = 32 ∷ with_letter 119 v.worker ++ after_worker v

nine : (d w s a e : List ℕ) → d ++ codes " w" ++ w ++ codes " s" ++ s ++ codes " " ++ a ++ codes " " ++ e ++ codes "\n" ≡ d ++ 32 ∷ 119 ∷ (w ++ 32 ∷ 115 ∷ (s ++ 32 ∷ (a ++ 32 ∷ (e ++ codes "\n"))))
nine d w s a e =
    let x1 = d ++ codes " w" in
    let x2 = x1 ++ w in
    let x3 = x2 ++ codes " s" in
    let x4 = x3 ++ s in
    let x5 = x4 ++ codes " " in
    let x6 = x5 ++ a in
    let x7 = x6 ++ codes " " in
    let r8 = e ++ codes "\n" in
    let r6 = a ++ 32 ∷ r8 in
    let r4 = s ++ 32 ∷ r6 in
    let r2 = w ++ 32 ∷ 115 ∷ r4 in
    append_assoc x7 e (codes "\n")
    ∙ append_assoc x6 (codes " ") r8
    ∙ append_assoc x5 a (32 ∷ r8)
    ∙ append_assoc x4 (codes " ") r6
    ∙ append_assoc x3 s (32 ∷ r6)
    ∙ append_assoc x2 (codes " s") r4
    ∙ append_assoc x1 w (32 ∷ 115 ∷ r4)
    ∙ append_assoc d (codes " w") r2

line_spelled : (v : LineValue) → line_text v ≡ decimal v.number ++ after_number v
unfolding line_text
line_spelled v = nine (decimal v.number) (decimal v.worker) (decimal v.session) (asked_text v.ask) (decided_text v.ask v.decision)

-- what follows each part
abbrev on_decision : ℕ → ℕ → ℕ → AskValue → Read Decision → Result LineValue LineFault
on_decision number worker session ask d = demand faults.End (then_some (bytes_eq d.rest (codes "\n")) (record { number = number; worker = worker; session = session; ask = ask; decision = d.value }))

abbrev on_ask : ℕ → ℕ → ℕ → Read AskValue → Result LineValue LineFault
on_ask number worker session a = decision_read session a.value a.rest >>= on_decision number worker session a.value

abbrev on_session : ℕ → ℕ → Read ℕ → Result LineValue LineFault
on_session number worker s = ask_read s.rest >>= on_ask number worker s.value

abbrev on_worker : ℕ → Read ℕ → Result LineValue LineFault
on_worker number w = next (lettered 115) w.rest >>= on_session number w.value

abbrev on_number : Read ℕ → Result LineValue LineFault
on_number n = next (lettered 119) n.rest >>= on_worker n.value

read_so : (text : List ℕ) → line_read text ≡ (part (number_below (2 ^ 32)) text >>= on_number)
unfolding line_read
read_so text = refl

-- what a line can say is read where it is written
pub line_forth : (v : LineValue) → IsLine v → line_read (line_text v) ≡ Ok v
line_forth v is =
    read_so (line_text v)
    ∙ ap (λ (x : List ℕ). part (number_below (2 ^ 32)) x >>= on_number) (line_spelled v)
    ∙ ap (λ (r : Result (Read ℕ) LineFault). r >>= on_number) (part_forth (number_below (2 ^ 32)) decimal Short shorts v.number is.number (after_number v) refl)
    ∙ ap (λ (r : Result (Read ℕ) LineFault). r >>= on_worker v.number) (next_forth (lettered 119) (with_letter 119) Short (lettered_numbers 119 refl) v.worker is.worker (after_worker v) refl)
    ∙ ap (λ (r : Result (Read ℕ) LineFault). r >>= on_session v.number v.worker) (next_forth (lettered 115) (with_letter 115) Short (lettered_numbers 115 refl) v.session is.session (after_session v) refl)
    ∙ ap (λ (r : Result (Read AskValue) LineFault). r >>= on_ask v.number v.worker v.session) (ask_forth v.ask is.ask (after_ask v) refl)
    ∙ ap (λ (r : Result (Read Decision) LineFault). r >>= on_decision v.number v.worker v.session v.ask) (decision_forth v.session v.ask v.decision is.decision (codes "\n") refl)

-- what was read, from its parts
told_value : (made v : LineValue) (rest : List ℕ) → demand faults.End (then_some (bytes_eq rest (codes "\n")) made) ≡ Ok v → (rest ≡ codes "\n") × (made ≡ v)
told_value made v rest e =
    let under = ended (bytes_eq rest (codes "\n")) made v e in
    ((bytes_eq-Decides rest (codes "\n")).0 under.0, under.1)
  where
    ended : (test : Bool) (made v : LineValue) → demand faults.End (then_some test made) ≡ Ok v → (test ≡ true) × (made ≡ v)
    ended true made v e = (refl, cc)
    ended false made v e = absurd cc

-- what is read is a line, and is written so
pub line_back : (text : List ℕ) (v : LineValue) → line_read text ≡ Ok v → IsLine v × (text ≡ line_text v)
line_back text v e =
    let n = bound (part (number_below (2 ^ 32)) text) on_number v (sym (read_so text) ∙ e) in
    let w = bound (next (lettered 119) n.0.rest) (on_worker n.0.value) v n.2 in
    let s = bound (next (lettered 115) w.0.rest) (on_session n.0.value w.0.value) v w.2 in
    let a = bound (ask_read s.0.rest) (on_ask n.0.value w.0.value s.0.value) v s.2 in
    let d = bound (decision_read s.0.value a.0.value a.0.rest) (on_decision n.0.value w.0.value s.0.value a.0.value) v a.2 in
    let made : LineValue = record { number = n.0.value; worker = w.0.value; session = s.0.value; ask = a.0.value; decision = d.0.value } in
    let end = told_value made v d.0.rest d.2 in
    let number = part_back (number_below (2 ^ 32)) decimal Short shorts text n.0 n.1 in
    let worker = next_back (lettered 119) (with_letter 119) Short (lettered_numbers 119 refl) n.0.rest w.0 w.1 in
    let session = next_back (lettered 115) (with_letter 115) Short (lettered_numbers 115 refl) w.0.rest s.0 s.1 in
    let ask = ask_back s.0.rest a.0 a.1 in
    let decision = decision_back s.0.value a.0.value a.0.rest d.0 d.1 in
    let is : IsLine made = record { number = number.1; worker = worker.1; session = session.1; ask = ask.1; decision = decision.1 } in
    let spelled : text ≡ line_text made =
    number.0
    ∙ ap (λ (x : List ℕ). decimal made.number ++ x) (worker.0
    ∙ ap (λ (x : List ℕ). 32 ∷ with_letter 119 made.worker ++ x) (session.0
    ∙ ap (λ (x : List ℕ). 32 ∷ with_letter 115 made.session ++ x) (ask.0
    ∙ ap (λ (x : List ℕ). 32 ∷ asked_text made.ask ++ x) (decision.0
    ∙ ap (λ (x : List ℕ). 32 ∷ decided_text made.ask made.decision ++ x) end.0))))
    ∙ sym (line_spelled made) in
    (subst IsLine end.1 is, spelled ∙ ap line_text end.1)

-- what was read is a line, and written so
pub is_found : (text : List ℕ) (r : Result Logged LineFault) → Gives logged_value r (line_read text) → IfOk r (λ l. IsLine (logged_value l) × (text ≡ line_text (logged_value l)))
is_found text (Ok l) given = line_back text (logged_value l) given
is_found text (Err fault) given = tt

-- what a line can say was read
pub is_only : (text : List ℕ) (r : Result Logged LineFault) → Gives logged_value r (line_read text) → (v : LineValue) → IsLine v → text ≡ line_text v → IsOkAnd r (λ l. logged_value l ≡ v)
is_only text (Ok l) given v range spelled = let again : line_read text ≡ Ok v = ap line_read spelled ∙ line_forth v range in cc
is_only text (Err fault) given v range spelled = let again : line_read text ≡ Ok v = ap line_read spelled ∙ line_forth v range in absurd cc
