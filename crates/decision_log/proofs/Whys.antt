-- Why a session ended, read and written.
use Rattle.std.proofs.Common.{◌≡◌, ℕ, ◌^◌, ◌<◌, ◌≤◌, List, ◌∷◌, ◌++◌, Result, Ok, refl, sym, ap, subst, ◌∙◌, lit≤, lit<}
use Rattle.std.specs.Fmt.{decimal}
use Rattle.request_catalogue.specs.Results.{◌>>=◌}
use Rattle.policy_model.specs.declared.event.Why.{Why}
use Rattle.policy_model.specs.declared.event.Why.TheVariants as whys
use Rattle.decision_log.specs.declared.logged.LineFault.{LineFault}
use Rattle.decision_log.specs.declared.words.WhyWord.{WhyWord}
use Rattle.decision_log.specs.declared.words.WhyWord.TheVariants as why_
use Rattle.decision_log.specs.Log.{why_text}
use Rattle.decision_log.specs.Parts.{Read, next, number_below, rule_in}
use Rattle.decision_log.specs.Reading.{why_behind, why_read, why_word_in}
use Rattle.decision_log.specs.Values.{IsWhy}
use Rattle.decision_log.specs.Words.{why_word}
use Rattle.decision_log.proofs.Grammar.{Ends, bound, next_back, next_forth}
use Rattle.decision_log.proofs.Instances.{numbers, rules, why_word_reader}
use Rattle.decision_log.proofs.Sequences.{one_back, one_forth, same, spaced_by}

-- the word, and what stands after it
abbrev pub why_word_of : Why → WhyWord
why_word_of whys.Finished = why_.Finished
why_word_of whys.ChildEnded = why_.ChildEnded
why_word_of whys.Truncated = why_.Truncated
why_word_of (whys.BadFrame len) = why_.BadFrame
why_word_of (whys.Violation rule) = why_.Violation
why_word_of whys.LinkFault = why_.LinkFault
why_word_of whys.KeeperFault = why_.KeeperFault
why_word_of whys.LogLost = why_.LogLost

abbrev pub why_rest : Why → List ℕ → List ℕ
why_rest (whys.BadFrame len) rest = spaced_by decimal len rest
why_rest (whys.Violation rule) rest = spaced_by decimal rule rest
why_rest _ rest = rest

why_spelled : (why : Why) (rest : List ℕ) → why_text why ++ rest ≡ why_word (why_word_of why) ++ why_rest why rest
unfolding why_word
why_spelled whys.Finished rest = refl
why_spelled _ rest = refl

why_ends : (why : Why) (rest : List ℕ) → Ends rest → Ends (why_rest why rest)
why_ends whys.Finished rest ends = ends
why_ends whys.ChildEnded rest ends = ends
why_ends whys.Truncated rest ends = ends
why_ends (whys.BadFrame len) rest ends = refl
why_ends (whys.Violation rule) rest ends = refl
why_ends whys.LinkFault rest ends = ends
why_ends whys.KeeperFault rest ends = ends
why_ends whys.LogLost rest ends = ends

behind_forth : (why : Why) → IsWhy why → (rest : List ℕ) → Ends rest → why_behind (why_word_of why) (why_rest why rest) ≡ Ok (record { value = why; rest = rest })
behind_forth whys.Finished range rest ends = refl
behind_forth whys.ChildEnded range rest ends = refl
behind_forth whys.Truncated range rest ends = refl
behind_forth (whys.BadFrame len) range rest ends = one_forth (number_below (2 ^ 16)) decimal (λ n. n < 2 ^ 16) (numbers (2 ^ 16) (lit≤ tt)) (λ n. whys.BadFrame n) len range rest ends
behind_forth (whys.Violation rule) range rest ends = one_forth (rule_in 1 7) decimal (λ n. (1 ≤ n) × (n ≤ 7)) (rules 1 7 (lit< tt)) (λ n. whys.Violation n) rule range rest ends
behind_forth whys.LinkFault range rest ends = refl
behind_forth whys.KeeperFault range rest ends = refl
behind_forth whys.LogLost range rest ends = refl

pub why_forth : (why : Why) → IsWhy why → (rest : List ℕ) → Ends rest → why_read (32 ∷ why_text why ++ rest) ≡ Ok (record { value = why; rest = rest })
why_forth why range rest ends =
    ap (λ (x : List ℕ). why_read (32 ∷ x)) (why_spelled why rest)
    ∙ ap (λ (r : Result (Read WhyWord) LineFault). r >>= (λ w. why_behind w.value w.rest)) (next_forth why_word_in why_word (λ w. Unit {0}) why_word_reader (why_word_of why) tt (why_rest why rest) (why_ends why rest ends))
    ∙ behind_forth why range rest ends

-- what was read after a word
record Behind (word : WhyWord) (text : List ℕ) (r : Read Why) : Type 0 where
  spelled : text ≡ why_rest r.value r.rest
  of_word : why_word_of r.value ≡ word
  range : IsWhy r.value

-- by a value
by_value : (word : WhyWord) (text : List ℕ) (r : Read Why) (why : Why) → r.value ≡ why → text ≡ why_rest why r.rest → why_word_of why ≡ word → IsWhy why → Behind word text r
by_value word text r why is spelled of_word range = record { spelled = spelled ∙ ap (λ (x : Why). why_rest x r.rest) (sym is); of_word = ap why_word_of is ∙ of_word; range = subst IsWhy (sym is) range }

-- with nothing more
plain : (word : WhyWord) (text : List ℕ) (r : Read Why) (why : Why) → ◌≡◌ {A = Result (Read Why) LineFault} (Ok (record { value = why; rest = text })) (Ok r) → ((rest : List ℕ) → why_rest why rest ≡ rest) → why_word_of why ≡ word → IsWhy why → Behind word text r
plain word text r why e none of_word range =
    let made = same (record { value = why; rest = text }) r e in
    by_value word text r why (sym (ap (λ (x : Read Why). x.value) made)) (ap (λ (x : Read Why). x.rest) made ∙ sym (none r.rest)) of_word range

behind_back : (word : WhyWord) (text : List ℕ) (r : Read Why) → why_behind word text ≡ Ok r → Behind word text r
behind_back why_.Finished text r e = plain why_.Finished text r whys.Finished e (λ rest. refl) refl tt
behind_back why_.ChildEnded text r e = plain why_.ChildEnded text r whys.ChildEnded e (λ rest. refl) refl tt
behind_back why_.Truncated text r e = plain why_.Truncated text r whys.Truncated e (λ rest. refl) refl tt
behind_back why_.BadFrame text r e =
    let told = one_back (number_below (2 ^ 16)) decimal (λ n. n < 2 ^ 16) (numbers (2 ^ 16) (lit≤ tt)) (λ n. whys.BadFrame n) text r e in
    by_value why_.BadFrame text r (whys.BadFrame told.a) told.value told.spelled refl told.range
behind_back why_.Violation text r e =
    let told = one_back (rule_in 1 7) decimal (λ n. (1 ≤ n) × (n ≤ 7)) (rules 1 7 (lit< tt)) (λ n. whys.Violation n) text r e in
    by_value why_.Violation text r (whys.Violation told.a) told.value told.spelled refl told.range
behind_back why_.LinkFault text r e = plain why_.LinkFault text r whys.LinkFault e (λ rest. refl) refl tt
behind_back why_.KeeperFault text r e = plain why_.KeeperFault text r whys.KeeperFault e (λ rest. refl) refl tt
behind_back why_.LogLost text r e = plain why_.LogLost text r whys.LogLost e (λ rest. refl) refl tt

pub why_back : (text : List ℕ) (r : Read Why) → why_read text ≡ Ok r → (text ≡ 32 ∷ why_text r.value ++ r.rest) × IsWhy r.value
why_back text r e =
    let word = bound (next why_word_in text) (λ w. why_behind w.value w.rest) r e in
    let first = next_back why_word_in why_word (λ w. Unit {0}) why_word_reader text word.0 word.1 in
    let told = behind_back word.0.value word.0.rest r word.2 in
    (first.0 ∙ ap (λ (x : List ℕ). 32 ∷ why_word word.0.value ++ x) told.spelled ∙ ap (λ (w : WhyWord). 32 ∷ why_word w ++ why_rest r.value r.rest) (sym told.of_word) ∙ ap (λ (x : List ℕ). 32 ∷ x) (sym (why_spelled r.value r.rest)), told.range)
