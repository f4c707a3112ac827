-- The phrase of an input is that of its first line.
use Rattle.std.proofs.Common.{◌≡◌, ℕ, suc, ◌≤◌, Bool, true, false, cond, List, length, take, Option, Some, None, Err, refl, sym, ap, subst, ◌∙◌, arith}
use Rattle.std.proofs.lemmas.Grind.{common_steps}
use Rattle.std.proofs.lemmas.List.{length-take-le}
use Rattle.std.proofs.lemmas.List.Sums.{prefix_len-le-length}
use Rattle.std.specs.Prelude.{◌==◌, IfOk, nat_le, nat_lt, not, ok_or, option_map}
use Rattle.std.specs.Bool.{then_some}
use Rattle.std.specs.Str.Lines.{strip_carriage_return}
use Rattle.outside.specs.Link.{Link}
use Rattle.outside.specs.Told.{Goes}
use Rattle.trouble.specs.declared.trouble.Trouble.{Trouble}
use Rattle.trouble.specs.declared.trouble.Trouble.TheVariants as troubles
use Rattle.otp_mode.specs.Inner.{Accepted, IsPhraseTrouble, ReceivedLine}
use Rattle.otp_mode.specs.Lines.{first_line, line_of, line_to}
use Rattle.otp_mode.specs.Outcome.{RefusedPhrase}
use Rattle.otp_mode.specs.Phrase.{is_phrase, phrase_of}
use Rattle.otp_mode.proofs.LineLemmas.{newline_or_len}

-- a line loses at most one byte
length-strip : (line : List ℕ) → length line ≤ suc (length (strip_carriage_return line))
length-strip line = grind (arith, common_steps)

-- a line to a place is as long as that, but for a carriage return
length-line_to : (has : Bool) (place : ℕ) (xs : List ℕ) → (has ≡ true → place ≤ length xs) → (has ≡ false → place ≤ length xs) → place ≤ suc (length (line_to (cond has (Some place) None) xs))
length-line_to true place xs within past =
    let taken : length (take place xs) ≡ place = length-take-le place xs (within refl) in
    omega (arith, length-strip (take place xs), taken)
length-line_to false place xs within past = omega (arith, past refl)

-- the first line is as long as what stands before the newline, but for a carriage return
length-first_line : (xs : List ℕ) → newline_or_len xs ≤ suc (length (first_line xs))
length-first_line xs =
    let within = prefix_len-le-length (λ c. not (c == 10)) xs in
    length-line_to (nat_lt (newline_or_len xs) (length xs)) (newline_or_len xs) xs (λ _. within) (λ _. within)

-- a line whose end lies beyond is no phrase
phrase_of-long : (xs : List ℕ) → nat_lt (newline_or_len xs) 4096 ≡ false → phrase_of xs ≡ None
unfolding phrase_of is_phrase
phrase_of-long xs past =
    let far : 4096 ≤ newline_or_len xs = grind arith in
    let long : 64 ≤ length (first_line xs) = omega (arith, far, length-first_line xs) in
    let short : nat_le (length (first_line xs)) 63 ≡ false = grind arith in
    rw short (grind arith)

-- inputs with one line have one phrase
phrase_by_line : (xs ys : List ℕ) → line_of xs ≡ line_of ys → phrase_of xs ≡ phrase_of ys
unfolding line_of phrase_of
phrase_by_line xs ys same = go (nat_lt (newline_or_len xs) 4096) (nat_lt (newline_or_len ys) 4096) refl refl same where
  go : (a b : Bool) → nat_lt (newline_or_len xs) 4096 ≡ a → nat_lt (newline_or_len ys) 4096 ≡ b → then_some a (first_line xs) ≡ then_some b (first_line ys) → phrase_of xs ≡ phrase_of ys
  go true true p q e = let line : first_line xs ≡ first_line ys = cc in ap (λ l. then_some (is_phrase l) l) line
  go true false p q e = absurd cc
  go false true p q e = absurd cc
  go false false p q e = phrase_of-long xs p ∙ sym (phrase_of-long ys q)

-- where that is a phrase it is accepted
pub phrase_accepted : {A : Type 0} (view : A → List ℕ) (got : List ℕ) (before after : Option Link) (o : Option A) → Goes (ReceivedLine got) before after → option_map view o ≡ phrase_of got → IfOk (ok_or o troubles.PhraseRefused) (λ phrase. Goes (Accepted (view phrase)) before after)
phrase_accepted view got before after None received is = tt
phrase_accepted view got before None (Some phrase) received is = tt
phrase_accepted view got None (Some after) (Some phrase) received is = received
phrase_accepted view got (Some before) (Some after) (Some phrase) received is =
    record { accepted = phrase_by_line before.left got received.enough ∙ sym is; received = got; few = received.few; passed = received.passed }

-- and else refused
pub phrase_refused : {A : Type 0} (view : A → List ℕ) (got : List ℕ) (before after : Option Link) (EndsFailed : Type 0) (o : Option A) (trouble : Trouble) → Goes (ReceivedLine got) before after → option_map view o ≡ phrase_of got → ok_or o troubles.PhraseRefused ≡ Err trouble → IsPhraseTrouble before after EndsFailed trouble
phrase_refused view got before after EndsFailed (Some phrase) trouble received is e = absurd cc
phrase_refused view got before after EndsFailed None trouble received is e =
    let same : troubles.PhraseRefused ≡ trouble = cc in
    subst (IsPhraseTrouble before after EndsFailed) same (refused before after received) where
      refused : (before after : Option Link) → Goes (ReceivedLine got) before after → Goes RefusedPhrase before after
      refused before None received = tt
      refused None (Some after) received = received
      refused (Some before) (Some after) received =
          record { refused = phrase_by_line before.left got received.enough ∙ sym is; received = got; few = received.few; passed = received.passed }
