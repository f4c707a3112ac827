-- What was asked, read and written.
use Rattle.std.proofs.Common.{◌≡◌, ℕ, ◌^◌, ◌<◌, ◌≤◌, true, List, ◌∷◌, ◌++◌, codes, Result, Ok, refl, sym, ap, subst, ◌∙◌, append_assoc, lit≤, lit<}
use Rattle.std.specs.Fmt.{decimal}
use Rattle.hex.specs.Hex.{encode_lower}
use Rattle.request_catalogue.specs.Results.{◌>>=◌}
use Rattle.request_catalogue.specs.Texts.{is_label, is_name, is_note}
use Rattle.policy_model.specs.declared.event.Why.{Why}
use Rattle.decision_log.specs.declared.logged.LineFault.{LineFault}
use Rattle.decision_log.specs.declared.words.AskWord.{AskWord}
use Rattle.decision_log.specs.declared.words.AskWord.TheVariants as ask_
use Rattle.decision_log.specs.Log.{why_text}
use Rattle.decision_log.specs.LineTexts.{asked_text}
use Rattle.decision_log.specs.Parts.{Read, hex_in, name_in, next, number_below, rule_in}
use Rattle.decision_log.specs.Reading.{ask_behind, ask_read, ask_word_in, why_read}
use Rattle.decision_log.specs.Values.{AskValue, Begin, Banner, Challenge, Reply, Abandon, Export, Import, ReadAt, WriteAt, OpenFile, CloseFile, Info, Note, Finish, Bad, End, IsAsk}
use Rattle.decision_log.specs.Words.{ask_word}
use Rattle.decision_log.proofs.Grammar.{Ends, bound, next_back, next_forth}
use Rattle.decision_log.proofs.Instances.{ask_word_reader, labels, names, notes, numbers, rules}
use Rattle.decision_log.proofs.Sequences.{one_back, one_forth, same, spaced_by, three_back, three_forth, two_back, two_forth}
use Rattle.decision_log.proofs.Whys.{why_back, why_forth}

-- the ranges of parts
abbrev Below : ℕ → ℕ → Type 0
Below limit n = n < limit

abbrev IsName : List ℕ → Type 0
IsName name = is_name name ≡ true

abbrev IsLabel : List ℕ → Type 0
IsLabel name = is_label name ≡ true

abbrev IsNote : List ℕ → Type 0
IsNote text = is_note text ≡ true

abbrev IsRule : ℕ → Type 0
IsRule n = (2 ≤ n) × (n ≤ 5)

abbrev itself : List ℕ → List ℕ
itself bytes = bytes

-- the word, and what stands after it
abbrev pub word_of : AskValue → AskWord
word_of Begin = ask_.Open
word_of Banner = ask_.Banner
word_of (Challenge user now) = ask_.Challenge
word_of Reply = ask_.Reply
word_of Abandon = ask_.Abandon
word_of (Export len) = ask_.Export
word_of Import = ask_.Import
word_of (ReadAt handle offset max) = ask_.Read
word_of (WriteAt handle offset len) = ask_.Write
word_of (OpenFile mode name) = ask_.Grant
word_of (CloseFile handle) = ask_.Close
word_of (Info number) = ask_.Info
word_of (Note text) = ask_.Note
word_of Finish = ask_.Finish
word_of (Bad rule detail) = ask_.Bad
word_of (End why) = ask_.End

abbrev pub behind_text : AskValue → List ℕ → List ℕ
behind_text (Challenge user now) rest = spaced_by itself user (spaced_by decimal now rest)
behind_text (Export len) rest = spaced_by decimal len rest
behind_text (ReadAt handle offset max) rest = spaced_by decimal handle (spaced_by decimal offset (spaced_by decimal max rest))
behind_text (WriteAt handle offset len) rest = spaced_by decimal handle (spaced_by decimal offset (spaced_by decimal len rest))
behind_text (OpenFile mode name) rest = spaced_by decimal mode (spaced_by encode_lower name rest)
behind_text (CloseFile handle) rest = spaced_by decimal handle rest
behind_text (Info number) rest = spaced_by decimal number rest
behind_text (Note text) rest = spaced_by encode_lower text rest
behind_text (Bad rule detail) rest = spaced_by decimal rule (spaced_by decimal detail rest)
behind_text (End why) rest = spaced_by why_text why rest
behind_text _ rest = rest

-- two and three parts with a space between
two_grouped : (a b rest : List ℕ) → a ++ 32 ∷ b ++ rest ≡ a ++ 32 ∷ (b ++ rest)
two_grouped a b rest = append_assoc a (32 ∷ b) rest

three_grouped : (a b c rest : List ℕ) → a ++ 32 ∷ b ++ 32 ∷ c ++ rest ≡ a ++ 32 ∷ (b ++ 32 ∷ (c ++ rest))
three_grouped a b c rest = append_assoc (a ++ 32 ∷ b) (32 ∷ c) rest ∙ append_assoc a (32 ∷ b) (32 ∷ (c ++ rest))

ask_spelled : (ask : AskValue) (rest : List ℕ) → asked_text ask ++ rest ≡ ask_word (word_of ask) ++ behind_text ask rest
unfolding ask_word
ask_spelled (Challenge user now) rest = ap (λ (x : List ℕ). codes "challenge " ++ x) (two_grouped user (decimal now) rest)
ask_spelled (ReadAt handle offset max) rest = ap (λ (x : List ℕ). codes "read " ++ x) (three_grouped (decimal handle) (decimal offset) (decimal max) rest)
ask_spelled (WriteAt handle offset len) rest = ap (λ (x : List ℕ). codes "write " ++ x) (three_grouped (decimal handle) (decimal offset) (decimal len) rest)
ask_spelled (OpenFile mode name) rest = ap (λ (x : List ℕ). codes "grant " ++ x) (two_grouped (decimal mode) (encode_lower name) rest)
ask_spelled (Bad rule detail) rest = ap (λ (x : List ℕ). codes "bad " ++ x) (two_grouped (decimal rule) (decimal detail) rest)
ask_spelled _ rest = refl

ask_ends : (ask : AskValue) (rest : List ℕ) → Ends rest → Ends (behind_text ask rest)
ask_ends Begin rest ends = ends
ask_ends Banner rest ends = ends
ask_ends Reply rest ends = ends
ask_ends Abandon rest ends = ends
ask_ends Import rest ends = ends
ask_ends Finish rest ends = ends
ask_ends _ rest ends = refl

behind_forth : (ask : AskValue) → IsAsk ask → (rest : List ℕ) → Ends rest → ask_behind (word_of ask) (behind_text ask rest) ≡ Ok (record { value = ask; rest = rest })
behind_forth (Challenge user now) range rest ends = two_forth name_in itself IsName names (number_below (2 ^ 64)) decimal (Below (2 ^ 64)) (numbers (2 ^ 64) (lit≤ tt)) Challenge user now range.0 range.1 rest ends
behind_forth (Export len) range rest ends = one_forth (number_below (2 ^ 16)) decimal (Below (2 ^ 16)) (numbers (2 ^ 16) (lit≤ tt)) Export len range rest ends
behind_forth (ReadAt handle offset max) range rest ends = three_forth (number_below (2 ^ 32)) decimal (Below (2 ^ 32)) (numbers (2 ^ 32) (lit≤ tt)) (number_below (2 ^ 64)) decimal (Below (2 ^ 64)) (numbers (2 ^ 64) (lit≤ tt)) (number_below (2 ^ 16)) decimal (Below (2 ^ 16)) (numbers (2 ^ 16) (lit≤ tt)) ReadAt handle offset max range.0 range.1 range.2 rest ends
behind_forth (WriteAt handle offset len) range rest ends = three_forth (number_below (2 ^ 32)) decimal (Below (2 ^ 32)) (numbers (2 ^ 32) (lit≤ tt)) (number_below (2 ^ 64)) decimal (Below (2 ^ 64)) (numbers (2 ^ 64) (lit≤ tt)) (number_below (2 ^ 16)) decimal (Below (2 ^ 16)) (numbers (2 ^ 16) (lit≤ tt)) WriteAt handle offset len range.0 range.1 range.2 rest ends
behind_forth (OpenFile mode name) range rest ends = two_forth (number_below (2 ^ 8)) decimal (Below (2 ^ 8)) (numbers (2 ^ 8) (lit≤ tt)) (hex_in is_label) encode_lower IsLabel labels OpenFile mode name range.0 range.1 rest ends
behind_forth (CloseFile handle) range rest ends = one_forth (number_below (2 ^ 32)) decimal (Below (2 ^ 32)) (numbers (2 ^ 32) (lit≤ tt)) CloseFile handle range rest ends
behind_forth (Info number) range rest ends = one_forth (number_below (2 ^ 32)) decimal (Below (2 ^ 32)) (numbers (2 ^ 32) (lit≤ tt)) Info number range rest ends
behind_forth (Note text) range rest ends = one_forth (hex_in is_note) encode_lower IsNote notes Note text range rest ends
behind_forth (Bad rule detail) range rest ends = two_forth (rule_in 2 5) decimal IsRule (rules 2 5 (lit< tt)) (number_below (2 ^ 32)) decimal (Below (2 ^ 32)) (numbers (2 ^ 32) (lit≤ tt)) Bad rule detail (range.0, range.1) range.2 rest ends
behind_forth (End why) range rest ends = ap (λ (r : Result (Read Why) LineFault). r >>= (λ w. Ok (record { value = End w.value; rest = w.rest }))) (why_forth why range rest ends)
behind_forth Begin range rest ends = refl
behind_forth _ range rest ends = refl

pub ask_forth : (ask : AskValue) → IsAsk ask → (rest : List ℕ) → Ends rest → ask_read (32 ∷ asked_text ask ++ rest) ≡ Ok (record { value = ask; rest = rest })
ask_forth ask range rest ends =
    ap (λ (x : List ℕ). ask_read (32 ∷ x)) (ask_spelled ask rest)
    ∙ ap (λ (r : Result (Read AskWord) LineFault). r >>= (λ w. ask_behind w.value w.rest)) (next_forth ask_word_in ask_word (λ w. Unit {0}) ask_word_reader (word_of ask) tt (behind_text ask rest) (ask_ends ask rest ends))
    ∙ behind_forth ask range rest ends

-- what was read after a word
record Behind (word : AskWord) (text : List ℕ) (r : Read AskValue) : Type 0 where
  spelled : text ≡ behind_text r.value r.rest
  of_word : word_of r.value ≡ word
  range : IsAsk r.value

by_value : (word : AskWord) (text : List ℕ) (r : Read AskValue) (ask : AskValue) → r.value ≡ ask → text ≡ behind_text ask r.rest → word_of ask ≡ word → IsAsk ask → Behind word text r
by_value word text r ask is spelled of_word range = record { spelled = spelled ∙ ap (λ (x : AskValue). behind_text x r.rest) (sym is); of_word = ap word_of is ∙ of_word; range = subst IsAsk (sym is) range }

plain : (word : AskWord) (text : List ℕ) (r : Read AskValue) (ask : AskValue) → ◌≡◌ {A = Result (Read AskValue) LineFault} (Ok (record { value = ask; rest = text })) (Ok r) → ((rest : List ℕ) → behind_text ask rest ≡ rest) → word_of ask ≡ word → IsAsk ask → Behind word text r
plain word text r ask e none of_word range =
    let made = same (record { value = ask; rest = text }) r e in
    by_value word text r ask (sym (ap (λ (x : Read AskValue). x.value) made)) (ap (λ (x : Read AskValue). x.rest) made ∙ sym (none r.rest)) of_word range

behind_back : (word : AskWord) (text : List ℕ) (r : Read AskValue) → ask_behind word text ≡ Ok r → Behind word text r
behind_back ask_.Open text r e = plain ask_.Open text r Begin e (λ rest. refl) refl tt
behind_back ask_.Banner text r e = plain ask_.Banner text r Banner e (λ rest. refl) refl tt
behind_back ask_.Reply text r e = plain ask_.Reply text r Reply e (λ rest. refl) refl tt
behind_back ask_.Abandon text r e = plain ask_.Abandon text r Abandon e (λ rest. refl) refl tt
behind_back ask_.Import text r e = plain ask_.Import text r Import e (λ rest. refl) refl tt
behind_back ask_.Finish text r e = plain ask_.Finish text r Finish e (λ rest. refl) refl tt
behind_back ask_.Challenge text r e =
    let t = two_back name_in itself IsName names (number_below (2 ^ 64)) decimal (Below (2 ^ 64)) (numbers (2 ^ 64) (lit≤ tt)) Challenge text r e in
    by_value ask_.Challenge text r (Challenge t.a t.b) t.value t.spelled refl (t.range, t.range2)
behind_back ask_.Export text r e =
    let t = one_back (number_below (2 ^ 16)) decimal (Below (2 ^ 16)) (numbers (2 ^ 16) (lit≤ tt)) Export text r e in
    by_value ask_.Export text r (Export t.a) t.value t.spelled refl t.range
behind_back ask_.Read text r e =
    let t = three_back (number_below (2 ^ 32)) decimal (Below (2 ^ 32)) (numbers (2 ^ 32) (lit≤ tt)) (number_below (2 ^ 64)) decimal (Below (2 ^ 64)) (numbers (2 ^ 64) (lit≤ tt)) (number_below (2 ^ 16)) decimal (Below (2 ^ 16)) (numbers (2 ^ 16) (lit≤ tt)) ReadAt text r e in
    by_value ask_.Read text r (ReadAt t.a t.b t.c) t.value t.spelled refl (t.range, t.range2, t.range3)
behind_back ask_.Write text r e =
    let t = three_back (number_below (2 ^ 32)) decimal (Below (2 ^ 32)) (numbers (2 ^ 32) (lit≤ tt)) (number_below (2 ^ 64)) decimal (Below (2 ^ 64)) (numbers (2 ^ 64) (lit≤ tt)) (number_below (2 ^ 16)) decimal (Below (2 ^ 16)) (numbers (2 ^ 16) (lit≤ tt)) WriteAt text r e in
    by_value ask_.Write text r (WriteAt t.a t.b t.c) t.value t.spelled refl (t.range, t.range2, t.range3)
behind_back ask_.Grant text r e =
    let t = two_back (number_below (2 ^ 8)) decimal (Below (2 ^ 8)) (numbers (2 ^ 8) (lit≤ tt)) (hex_in is_label) encode_lower IsLabel labels OpenFile text r e in
    by_value ask_.Grant text r (OpenFile t.a t.b) t.value t.spelled refl (t.range, t.range2)
behind_back ask_.Close text r e =
    let t = one_back (number_below (2 ^ 32)) decimal (Below (2 ^ 32)) (numbers (2 ^ 32) (lit≤ tt)) CloseFile text r e in
    by_value ask_.Close text r (CloseFile t.a) t.value t.spelled refl t.range
behind_back ask_.Info text r e =
    let t = one_back (number_below (2 ^ 32)) decimal (Below (2 ^ 32)) (numbers (2 ^ 32) (lit≤ tt)) Info text r e in
    by_value ask_.Info text r (Info t.a) t.value t.spelled refl t.range
behind_back ask_.Note text r e =
    let t = one_back (hex_in is_note) encode_lower IsNote notes Note text r e in
    by_value ask_.Note text r (Note t.a) t.value t.spelled refl t.range
behind_back ask_.Bad text r e =
    let t = two_back (rule_in 2 5) decimal IsRule (rules 2 5 (lit< tt)) (number_below (2 ^ 32)) decimal (Below (2 ^ 32)) (numbers (2 ^ 32) (lit≤ tt)) Bad text r e in
    by_value ask_.Bad text r (Bad t.a t.b) t.value t.spelled refl (t.range.0, t.range.1, t.range2)
behind_back ask_.End text r e =
    let why = bound (why_read text) (λ w. Ok (record { value = End w.value; rest = w.rest })) r e in
    let told = why_back text why.0 why.1 in
    let made = same (record { value = End why.0.value; rest = why.0.rest }) r why.2 in
    by_value ask_.End text r (End why.0.value) (sym (ap (λ (x : Read AskValue). x.value) made)) (told.0 ∙ ap (λ (x : Read AskValue). spaced_by why_text why.0.value x.rest) made) refl told.1

pub ask_back : (text : List ℕ) (r : Read AskValue) → ask_read text ≡ Ok r → (text ≡ 32 ∷ asked_text r.value ++ r.rest) × IsAsk r.value
ask_back text r e =
    let word = bound (next ask_word_in text) (λ w. ask_behind w.value w.rest) r e in
    let first = next_back ask_word_in ask_word (λ w. Unit {0}) ask_word_reader text word.0 word.1 in
    let told = behind_back word.0.value word.0.rest r word.2 in
    (first.0 ∙ ap (λ (x : List ℕ). 32 ∷ ask_word word.0.value ++ x) told.spelled ∙ ap (λ (w : AskWord). 32 ∷ ask_word w ++ behind_text r.value r.rest) (sym told.of_word) ∙ ap (λ (x : List ℕ). 32 ∷ x) (sym (ask_spelled r.value r.rest)), told.range)
