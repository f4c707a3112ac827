-- What was received has the first line of the whole input.
use Rattle.std.proofs.Common.{◌≡◌, ℕ, ◌+◌, ◌<◌, ◌≤◌, Bool, true, false, cond, eqb, ltb, List, [], ◌∷◌, ◌++◌, length, take, Option, Some, None, IfSome, refl, sym, ap, ◌∙◌, arith, append-nil, length-append}
use Rattle.std.proofs.Math.Seq.{take-append-add}
use Rattle.std.proofs.lemmas.List.{length-take-le, take-append-le}
use Rattle.std.proofs.lemmas.List.Folds.{prefix_len-append}
use Rattle.std.proofs.lemmas.List.Sums.{prefix_len-le-length}
use Rattle.std.specs.Prelude.{◌==◌, ◌||◌, nat_lt, not}
use Rattle.std.specs.List.{list_any, position_or_len, prefix_len}
use Rattle.std.specs.Bool.{then_some}
use Rattle.std.specs.Str.Lines.{strip_carriage_return}
use Rattle.outside.specs.Link.{Exchanged, Link}
use Rattle.outside.specs.Told.{Goes}
use Rattle.otp_mode.specs.Inner.{ReceivedLine}
use Rattle.otp_mode.specs.Lines.{first_line, line_of}

-- a newline's place, or the length
abbrev pub newline_or_len : List ℕ → ℕ
newline_or_len xs = position_or_len (λ c. c == 10) xs

-- bytes put after the first ones stand after them
pub take-joined : (a n : ℕ) (xs ys zs : List ℕ) → a ≤ length xs → n ≤ length ys → take (a + n) (take a xs ++ (ys ++ zs)) ≡ take a xs ++ take n ys
take-joined a n xs ys zs within short =
    ap (λ k. take (k + n) (take a xs ++ (ys ++ zs))) (sym (length-take-le a xs within)) ∙ take-append-add (take a xs) (ys ++ zs) n ∙ ap (λ w. take a xs ++ w) (take-append-le n ys zs short)

-- a newline stays where it is
newline_or_len-append : (xs ys : List ℕ) → newline_or_len xs < length xs → newline_or_len (xs ++ ys) ≡ newline_or_len xs
newline_or_len-append xs ys has =
    let differs : eqb (newline_or_len xs) (length xs) ≡ false = grind arith in
    prefix_len-append (λ c. not (c == 10)) xs ys ∙ rw differs refl

-- without a newline in the first bytes, the next may stand only after them
newline_or_len-behind : (xs ys : List ℕ) → length xs ≤ newline_or_len xs → length xs ≤ newline_or_len (xs ++ ys)
newline_or_len-behind xs ys none =
    let all : newline_or_len xs ≡ length xs = omega (arith, none, prefix_len-le-length (λ c. not (c == 10)) xs) in
    rw prefix_len-append (grind arith)

-- the first line where there is a newline
first_line-is : (xs : List ℕ) → newline_or_len xs < length xs → first_line xs ≡ strip_carriage_return (take (newline_or_len xs) xs)
first_line-is xs has =
    let some : nat_lt (newline_or_len xs) (length xs) ≡ true = grind arith in
    rw some refl

-- what stands after a newline doesn't change the first line
first_line-append : (xs ys : List ℕ) → newline_or_len xs < length xs → first_line (xs ++ ys) ≡ first_line xs
first_line-append xs ys has =
    let same = newline_or_len-append xs ys has in
    let has' : newline_or_len (xs ++ ys) < length (xs ++ ys) = omega (arith, has, same, length-append xs ys) in
    let taken : take (newline_or_len (xs ++ ys)) (xs ++ ys) ≡ take (newline_or_len xs) xs = rw same (take-append-le (newline_or_len xs) xs ys (omega arith)) in
    first_line-is (xs ++ ys) has' ∙ ap strip_carriage_return taken ∙ sym (first_line-is xs has)

-- what was received has the line of the whole input: it has a newline, or is full, or is all
line_of-newline : (xs ys : List ℕ) → newline_or_len xs < length xs → line_of (xs ++ ys) ≡ line_of xs
unfolding line_of
line_of-newline xs ys has =
    ap (λ (n : ℕ). then_some (nat_lt n 4096) (first_line (xs ++ ys))) (newline_or_len-append xs ys has)
    ∙ ap (λ (l : List ℕ). then_some (nat_lt (newline_or_len xs) 4096) l) (first_line-append xs ys has)

-- a line whose end lies beyond is refused
line_of-long : (xs : List ℕ) → 4096 ≤ newline_or_len xs → line_of xs ≡ None
unfolding line_of
line_of-long xs long =
    let past : nat_lt (newline_or_len xs) 4096 ≡ false = grind arith in
    rw past refl

line_of-full : (xs ys : List ℕ) → 4096 ≤ length xs → line_of (xs ++ ys) ≡ line_of xs
line_of-full xs ys full =
    full-or (ltb (newline_or_len xs) (length xs)) refl
  where
    full-or : (has : Bool) → ltb (newline_or_len xs) (length xs) ≡ has → line_of (xs ++ ys) ≡ line_of xs
    full-or true e = line_of-newline xs ys (grind arith)
    full-or false e =
        let none : length xs ≤ newline_or_len xs = grind arith in
        let whole : 4096 ≤ newline_or_len (xs ++ ys) = omega (arith, full, newline_or_len-behind xs ys none) in
        line_of-long (xs ++ ys) whole ∙ sym (line_of-long xs (omega (arith, full, none)))

-- the same of streams that may cease to tell
abbrev Passed : List ℕ → Option Link → Option Link → Type 0
Passed got before after = Goes (Exchanged got []) before after

pub received-full : (got : List ℕ) (before after : Option Link) → 4096 ≤ length got → length got ≤ 4096 → Passed got before after → Goes (ReceivedLine got) before after
received-full got before None full few passed = tt
received-full got None (Some after) full few passed = absurd passed
received-full got (Some before) (Some after) full few passed =
    record { passed = passed; few = few; enough = ap line_of passed.left ∙ line_of-full got after.left full }

pub received-newline : (got : List ℕ) (before after : Option Link) → newline_or_len got < length got → length got ≤ 4096 → Passed got before after → Goes (ReceivedLine got) before after
received-newline got before None has few passed = tt
received-newline got None (Some after) has few passed = absurd passed
received-newline got (Some before) (Some after) has few passed =
    record { passed = passed; few = few; enough = ap line_of passed.left ∙ line_of-newline got after.left has }

pub received-all : (got : List ℕ) (before after : Option Link) → IfSome after (λ l. l.left ≡ []) → length got ≤ 4096 → Passed got before after → Goes (ReceivedLine got) before after
received-all got before None ended few passed = tt
received-all got None (Some after) ended few passed = absurd passed
received-all got (Some before) (Some after) ended few passed =
    record { passed = passed; few = few; enough = ap line_of (passed.left ∙ ap (λ w. got ++ w) ended ∙ append-nil got) }

-- a newline that is found is within the bytes
pub newline-within : (xs : List ℕ) → list_any (λ c. c == 10) xs ≡ true → newline_or_len xs < length xs
newline-within [] h = cc
newline-within (x ∷ xs) h =
    let rest = prefix_len (λ c. not (c == 10)) xs in
    let at = newline-within xs in
    elim (x == 10) as (λ b. ((b || list_any (λ c. c == 10) xs) ≡ true) → cond (not b) (1 + rest) 0 < length (x ∷ xs)) [ true ↦ λ _. omega arith | false ↦ λ e. omega (arith, at e) ] h
