use Rattle.std.proofs.Common.{◌≡◌, ℕ, ◌+◌, ◌-◌, ◌∙◌, ◌++◌, List, length, ◌≤◌, take, drop, map, true, false, None, Some, sym, ap, subst, arith}
use Rattle.std.specs.Prelude.{is_some, ◌==◌}
use Rattle.std.specs.Result.{result_ok}
use Rattle.std.proofs.lemmas.Bool.{false≢true}
use Rattle.std.proofs.lemmas.List.{take_rest}
use Rattle.std.proofs.Common.{length-drop}
use Rattle.std.specs.Char.{to_ascii_lowercase}
use Rattle.otp_hash.specs.SeedBytes.{seed_bytes}
use Rattle.otp_hash.specs.Seeds.{is_seed_text}
use Rattle.otp_words.specs.Challenges.{challenge_word}
use Rattle.otp_words.specs.Inner.{ArePieces, is_closed}
use Rattle.otp_words.proofs.NumberLemmas.{no_length, some_length}
use Rattle.otp_words.proofs.ReadingLemmas.{parts_only, parts_found, number_only, number_found, closed_parts}
use Rattle.otp_words.proofs.challenge_reading.read_challenge.Goals as goal
use Rattle.otp_words.proofs.challenge_reading.read_challenge.Goals.{then-is_empty-via-then-is_empty, then-is_empty-via-else-is_empty+then-is_empty-2}

pub returns-then-is_empty-clause-only : goal.returns-then-is_empty-clause-only
returns-then-is_empty-clause-only c = λ algo n seed used is.
    let found : c.front_algo.result ≡ Some c.in_ok-algo.algo = c.ok_or.ensures.ok_part ∙ ap result_ok c.in_ok-algo.was in
    let pieces = parts_only c.args.text.now c.challenge_word.result.now _ _ _ _ _ algo c.in_ok-algo.algo n seed used c.front_algo.result is c.front_algo.ensures.only found c.challenge_word.ensures.text c.parts_of-parts.ensures.parts in
    elim c.then-is_empty.branch [
      | then-is_empty-via-then-is_empty w ↦ no_length (length is.gap) is.parted.some (w.if-is_empty.ensures ∙ ap (λ (g : List ℕ). length g == 0) pieces.1)
      | then-is_empty-via-else-is_empty+then-is_empty-2 w ↦ no_length (length is.second_gap) is.parted_again.some (w.if-is_empty-2.ensures ∙ ap (λ (g : List ℕ). length g == 0) pieces.3)
    ]

pub returns-in_err-n-clause-only : goal.returns-in_err-n-clause-only
returns-in_err-n-clause-only c = λ algo n seed used is.
    let found : c.front_algo.result ≡ Some c.in_ok-algo.algo = c.ok_or.ensures.ok_part ∙ ap result_ok c.in_ok-algo.was in
    let pieces = parts_only c.args.text.now c.challenge_word.result.now _ _ _ _ _ algo c.in_ok-algo.algo n seed used c.front_algo.result is c.front_algo.ensures.only found c.challenge_word.ensures.text c.parts_of-parts.ensures.parts in
    let some : c.read_number.result ≡ Some n = number_only is.digits c.parts_of-parts.result.digits.now n c.read_number.result is.number pieces.2 c.read_number.ensures.value in
    let none : c.read_number.result ≡ None = c.ok_or-2.ensures.ok_part ∙ ap result_ok c.in_err-n.was in
    absurd (false≢true (ap is_some (sym none ∙ some)))

pub returns-in_err-seed-clause-only : goal.returns-in_err-seed-clause-only
returns-in_err-seed-clause-only c = λ algo n seed used is.
    let found : c.front_algo.result ≡ Some c.in_ok-algo.algo = c.ok_or.ensures.ok_part ∙ ap result_ok c.in_ok-algo.was in
    let pieces = parts_only c.args.text.now c.challenge_word.result.now _ _ _ _ _ algo c.in_ok-algo.algo n seed used c.front_algo.result is c.front_algo.ensures.only found c.challenge_word.ensures.text c.parts_of-parts.ensures.parts in
    let some : is_some c.of.result ≡ true = c.of.ensures.rule ∙ ap is_seed_text pieces.4 ∙ is.legal in
    let none : is_some c.of.result ≡ false = ap is_some (c.ok_or-3.ensures.ok_part ∙ ap result_ok c.in_err-seed.was) in
    absurd (false≢true (sym none ∙ some))

pub returns-then-not-is_closed-clause-only : goal.returns-then-not-is_closed-clause-only
returns-then-not-is_closed-clause-only c = λ algo n seed used is.
    let found : c.front_algo.result ≡ Some c.in_ok-algo.algo = c.ok_or.ensures.ok_part ∙ ap result_ok c.in_ok-algo.was in
    let pieces = parts_only c.args.text.now c.challenge_word.result.now _ _ _ _ _ algo c.in_ok-algo.algo n seed used c.front_algo.result is c.front_algo.ensures.only found c.challenge_word.ensures.text c.parts_of-parts.ensures.parts in
    absurd (false≢true (c.if-not-is_closed.ensures ∙ ap is_closed pieces.5 ∙ is.closed))

-- what is there is one thing
some_same : {A : Type 0} (a b : A) → Some a ≡ Some b → a ≡ b
some_same a b e = cc

pub returns-clause-found : goal.returns-clause-found
returns-clause-found c =
    let text = c.args.text.now in
    let parts = c.parts_of-parts.result in
    let front = c.challenge_word.result.now in
    let algo = c.in_ok-algo.algo in
    let found : c.front_algo.result ≡ Some algo = c.ok_or.ensures.ok_part ∙ ap result_ok c.in_ok-algo.was in
    let begins : text ≡ challenge_word algo ++ drop (length (challenge_word algo)) text = rw found at c.front_algo.ensures.found in
    let cut : take (length text - length front) (drop (length front) text) ≡ drop (length (challenge_word algo)) text = take_rest text (length front) ∙ ap (λ (w : List ℕ). drop (length w) text) c.challenge_word.ensures.text in
    let pieces = subst (λ (t : List ℕ). ArePieces t parts.gap.now parts.digits.now parts.second_gap.now parts.name.now parts.rest.now) cut c.parts_of-parts.ensures.parts in
    let number = number_found parts.digits.now c.in_ok-n.n c.read_number.result (c.ok_or-2.ensures.ok_part ∙ ap result_ok c.in_ok-n.was) c.read_number.ensures.value in
    let seeded : c.of.result ≡ Some c.in_ok-seed.seed = c.ok_or-3.ensures.ok_part ∙ ap result_ok c.in_ok-seed.was in
    let legal : is_seed_text parts.name.now ≡ true = sym c.of.ensures.rule ∙ ap is_some seeded in
    let lower = rw seeded at c.of.ensures.found in
    let ends = closed_parts parts.rest.now (sym c.if-not-is_closed.ensures) in
    let within : length parts.rest.now ≤ length text = omega (arith, c.parts_of-parts.ensures.within, ap length cut, length-drop (length (challenge_word algo)) text) in
    let all : (length text - length parts.rest.now + 1) + length ends.1 ≡ length text = omega (arith, within, ap length ends.2) in
    parts_found text (drop (length (challenge_word algo)) text) parts.gap.now parts.digits.now parts.second_gap.now parts.name.now parts.rest.now ends.1 (seed_bytes c.in_ok-seed.seed) algo c.in_ok-n.n ends.0 (length text - length parts.rest.now + 1) begins pieces (some_length (length parts.gap.now) c.if-is_empty.ensures) (some_length (length parts.second_gap.now) c.if-is_empty-2.ensures) number legal lower ends.2 ends.3 all

pub returns-clause-only : goal.returns-clause-only
returns-clause-only c = λ algo n seed used is.
    let text = c.args.text.now in
    let parts = c.parts_of-parts.result in
    let front = c.challenge_word.result.now in
    let found : c.front_algo.result ≡ Some c.in_ok-algo.algo = c.ok_or.ensures.ok_part ∙ ap result_ok c.in_ok-algo.was in
    let pieces = parts_only text front _ _ _ _ _ algo c.in_ok-algo.algo n seed used c.front_algo.result is c.front_algo.ensures.only found c.challenge_word.ensures.text c.parts_of-parts.ensures.parts in
    let some : c.read_number.result ≡ Some n = number_only is.digits parts.digits.now n c.read_number.result is.number pieces.2 c.read_number.ensures.value in
    let seeded : c.of.result ≡ Some c.in_ok-seed.seed = c.ok_or-3.ensures.ok_part ∙ ap result_ok c.in_ok-seed.was in
    let lower = rw seeded at c.of.ensures.found in
    let within : length parts.rest.now ≤ length text = omega (arith, c.parts_of-parts.ensures.within, ap length (take_rest text (length front)), length-drop (length front) text) in
    record {
      algo_is = pieces.0;
      n_is = some_same c.in_ok-n.n n (sym (c.ok_or-2.ensures.ok_part ∙ ap result_ok c.in_ok-n.was) ∙ some);
      seed_is = lower ∙ ap (map to_ascii_lowercase) pieces.4 ∙ sym is.in_lower_case;
      used_is = omega (arith, within, ap length pieces.5, is.all_used);
    }
