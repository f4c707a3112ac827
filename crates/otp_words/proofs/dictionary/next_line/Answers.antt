use Rattle.std.proofs.Common.{◌≡◌, ◌∙◌, ◌+◌, ◌-◌, ◌<◌, [], ℕ, List, arith, ap, take, drop, length}
use Rattle.std.specs.Prelude.{not, ◌==◌}
use Rattle.std.proofs.lemmas.List.Sums.{prefix_len-le-length}
use Rattle.std.proofs.lemmas.List.{take_rest, drop-drop}
use Rattle.std.proofs.Math.Seq.{take-length, drop-length}
use Rattle.std.specs.List.{prefix_len}
use Rattle.std.specs.Str.Lines.{strip_carriage_return}
use Rattle.otp_words.proofs.ListLemmas.{last_line, first_line}
use Rattle.otp_words.proofs.dictionary.next_line.Goals as goal

pub split_at-requires : goal.split_at-requires
split_at-requires c = omega (arith, c.line_len.ensures, prefix_len-le-length (λ b. not (b == 10)) c.args.text.now)

pub returns-in-empty-clause-lines : goal.returns-in-empty-clause-lines
returns-in-empty-clause-lines c =
    let text = c.args.text.now in
    let whole : prefix_len (λ b. not (b == 10)) text ≡ length text = omega (arith, c.line_len.ensures, c.split_at.ensures.back_len, c.in-empty.len_below) in
    let all : c.line_len.result ≡ length text = c.line_len.ensures ∙ whole in
    let line : c.split_at.result.0.now ≡ text = c.split_at.ensures.front ∙ ap (λ (n : ℕ). take n text) all ∙ take-length text in
    let none : c.split_at.result.1.now ≡ [] = c.split_at.ensures.back ∙ ap (λ (n : ℕ). drop n text) all ∙ drop-length text in
    rw (line, none) (last_line text c.requires whole)

pub returns-in-len1-up-clause-lines : goal.returns-in-len1-up-clause-lines
returns-in-len1-up-clause-lines c =
    let text = c.args.text.now in
    let rest = c.split_at.result.1.now in
    let n : ℕ = prefix_len (λ b. not (b == 10)) text in
    let within : n < length text = omega (arith, c.line_len.ensures, c.split_at.ensures.back_len, c.in-len1-up.len_at_least) in
    let line : c.without_return.result.now ≡ strip_carriage_return (take n text) = c.without_return.ensures ∙ ap strip_carriage_return (c.split_at.ensures.front ∙ ap (λ (k : ℕ). take k text) c.line_len.ensures) in
    let after : take (length rest - 1) (drop 1 rest) ≡ drop (n + 1) text = take_rest rest 1 ∙ ap (λ (x : List ℕ). drop 1 x) (c.split_at.ensures.back ∙ ap (λ (k : ℕ). drop k text) c.line_len.ensures) ∙ drop-drop 1 n text in
    rw (line, after) (first_line text within)
