-- One, two and three parts, read and written.
use Rattle.std.proofs.Common.{◌≡◌, ℕ, List, ◌∷◌, ◌++◌, Result, Ok, refl, sym, ap, ◌∙◌}
use Rattle.request_catalogue.specs.Results.{◌>>=◌}
use Rattle.decision_log.specs.declared.logged.LineFault.{LineFault}
use Rattle.decision_log.proofs.Grammar.{Ends, IsReader, bound, next_back, next_forth}
use Rattle.decision_log.specs.Parts.{Read, next, one, three, two}

-- a space, and what is written after it, and then the rest
abbrev pub spaced_by : {A : Type 0} → (A → List ℕ) → A → List ℕ → List ℕ
spaced_by write a rest = 32 ∷ write a ++ rest

-- what was made of what was read
pub same : {C : Type 0} (r s : Read C) → ◌≡◌ {A = Result (Read C) LineFault} (Ok r) (Ok s) → r ≡ s
same r s e = cc

pub record One {A C : Type 0} (write : A → List ℕ) (P : A → Type 0) (make : A → C) (text : List ℕ) (r : Read C) : Type 0 where
  pub a : A
  pub range : P a
  pub value : r.value ≡ make a
  pub spelled : text ≡ spaced_by write a r.rest

pub one_back : {A C : Type 0} (read : List ℕ → Result A LineFault) (write : A → List ℕ) (P : A → Type 0) → IsReader read write P → (make : A → C) (text : List ℕ) (r : Read C) → one read make text ≡ Ok r → One write P make text r
one_back read write P is make text r e =
    let first = bound (next read text) (λ a. Ok (record { value = make a.value; rest = a.rest })) r e in
    let told = next_back read write P is text first.0 first.1 in
    let made = same (record { value = make first.0.value; rest = first.0.rest }) r first.2 in
    record { a = first.0.value; range = told.1; value = sym (ap (λ (x : Read _). x.value) made); spelled = told.0 ∙ ap (λ (x : Read _). spaced_by write first.0.value x.rest) made }

pub one_forth : {A C : Type 0} (read : List ℕ → Result A LineFault) (write : A → List ℕ) (P : A → Type 0) → IsReader read write P → (make : A → C) (a : A) → P a → (rest : List ℕ) → Ends rest → one read make (spaced_by write a rest) ≡ Ok (record { value = make a; rest = rest })
one_forth read write P is make a range rest ends = ap (λ (r : Result _ LineFault). r >>= (λ x. Ok (record { value = make x.value; rest = x.rest }))) (next_forth read write P is a range rest ends)

pub record Two {A B C : Type 0} (write : A → List ℕ) (P : A → Type 0) (write2 : B → List ℕ) (Q : B → Type 0) (make : A → B → C) (text : List ℕ) (r : Read C) : Type 0 where
  pub a : A
  pub b : B
  pub range : P a
  pub range2 : Q b
  pub value : r.value ≡ make a b
  pub spelled : text ≡ spaced_by write a (spaced_by write2 b r.rest)

pub two_back : {A B C : Type 0} (read : List ℕ → Result A LineFault) (write : A → List ℕ) (P : A → Type 0) → IsReader read write P → (read2 : List ℕ → Result B LineFault) (write2 : B → List ℕ) (Q : B → Type 0) → IsReader read2 write2 Q → (make : A → B → C) (text : List ℕ) (r : Read C) → two read read2 make text ≡ Ok r → Two write P write2 Q make text r
two_back read write P is read2 write2 Q is2 make text r e =
    let first = bound (next read text) (λ a. next read2 a.rest >>= (λ b. Ok (record { value = make a.value b.value; rest = b.rest }))) r e in
    let told = next_back read write P is text first.0 first.1 in
    let more = one_back read2 write2 Q is2 (make first.0.value) first.0.rest r first.2 in
    record { a = first.0.value; b = more.a; range = told.1; range2 = more.range; value = more.value; spelled = told.0 ∙ ap (λ (x : List ℕ). spaced_by write first.0.value x) more.spelled }

pub two_forth : {A B C : Type 0} (read : List ℕ → Result A LineFault) (write : A → List ℕ) (P : A → Type 0) → IsReader read write P → (read2 : List ℕ → Result B LineFault) (write2 : B → List ℕ) (Q : B → Type 0) → IsReader read2 write2 Q → (make : A → B → C) (a : A) (b : B) → P a → Q b → (rest : List ℕ) → Ends rest → two read read2 make (spaced_by write a (spaced_by write2 b rest)) ≡ Ok (record { value = make a b; rest = rest })
two_forth read write P is read2 write2 Q is2 make a b range range2 rest ends =
    ap (λ (r : Result _ LineFault). r >>= (λ x. next read2 x.rest >>= (λ y. Ok (record { value = make x.value y.value; rest = y.rest })))) (next_forth read write P is a range (spaced_by write2 b rest) refl)
    ∙ one_forth read2 write2 Q is2 (make a) b range2 rest ends

pub record Three {A B C D : Type 0} (write : A → List ℕ) (P : A → Type 0) (write2 : B → List ℕ) (Q : B → Type 0) (write3 : C → List ℕ) (R : C → Type 0) (make : A → B → C → D) (text : List ℕ) (r : Read D) : Type 0 where
  pub a : A
  pub b : B
  pub c : C
  pub range : P a
  pub range2 : Q b
  pub range3 : R c
  pub value : r.value ≡ make a b c
  pub spelled : text ≡ spaced_by write a (spaced_by write2 b (spaced_by write3 c r.rest))

pub three_back : {A B C D : Type 0} (read : List ℕ → Result A LineFault) (write : A → List ℕ) (P : A → Type 0) → IsReader read write P → (read2 : List ℕ → Result B LineFault) (write2 : B → List ℕ) (Q : B → Type 0) → IsReader read2 write2 Q → (read3 : List ℕ → Result C LineFault) (write3 : C → List ℕ) (R : C → Type 0) → IsReader read3 write3 R → (make : A → B → C → D) (text : List ℕ) (r : Read D) → three read read2 read3 make text ≡ Ok r → Three write P write2 Q write3 R make text r
three_back read write P is read2 write2 Q is2 read3 write3 R is3 make text r e =
    let first = bound (next read text) (λ a. next read2 a.rest >>= (λ b. next read3 b.rest >>= (λ c. Ok (record { value = make a.value b.value c.value; rest = c.rest })))) r e in
    let told = next_back read write P is text first.0 first.1 in
    let more = two_back read2 write2 Q is2 read3 write3 R is3 (make first.0.value) first.0.rest r first.2 in
    record { a = first.0.value; b = more.a; c = more.b; range = told.1; range2 = more.range; range3 = more.range2; value = more.value; spelled = told.0 ∙ ap (λ (x : List ℕ). spaced_by write first.0.value x) more.spelled }

pub three_forth : {A B C D : Type 0} (read : List ℕ → Result A LineFault) (write : A → List ℕ) (P : A → Type 0) → IsReader read write P → (read2 : List ℕ → Result B LineFault) (write2 : B → List ℕ) (Q : B → Type 0) → IsReader read2 write2 Q → (read3 : List ℕ → Result C LineFault) (write3 : C → List ℕ) (R : C → Type 0) → IsReader read3 write3 R → (make : A → B → C → D) (a : A) (b : B) (c : C) → P a → Q b → R c → (rest : List ℕ) → Ends rest → three read read2 read3 make (spaced_by write a (spaced_by write2 b (spaced_by write3 c rest))) ≡ Ok (record { value = make a b c; rest = rest })
three_forth read write P is read2 write2 Q is2 read3 write3 R is3 make a b c range range2 range3 rest ends =
    ap (λ (r : Result _ LineFault). r >>= (λ x. next read2 x.rest >>= (λ y. next read3 y.rest >>= (λ z. Ok (record { value = make x.value y.value z.value; rest = z.rest }))))) (next_forth read write P is a range (spaced_by write2 b (spaced_by write3 c rest)) refl)
    ∙ two_forth read2 write2 Q is2 read3 write3 R is3 (make a) b c range2 range3 rest ends
