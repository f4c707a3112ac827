use Rattle.std.proofs.Common.{Option, Some, None, IfSome}
use Rattle.otp_hash.specs.SeedBytes.{seed_bytes}
use Rattle.otp_extended.specs.declared.params.Params.{Params}
use Rattle.otp_extended.specs.Inner.{AreWordsOf}
use Rattle.otp_extended.specs.Responses.{AreParams}
use Rattle.otp_extended.proofs.BlankLemmas.{first_cut, params_from, pieces_cut, same_words}
use Rattle.otp_extended.proofs.params.read_params.Goals as goal

pub returns-in_default-clause-only : goal.returns-in_default-clause-only
returns-in_default-clause-only c = λ algo sequence seed is. c.in_default.ensures.only _ _ (first_cut c.args.text.now algo sequence seed is)

pub returns-in_default-cut_at_blanks-clause-only : goal.returns-in_default-cut_at_blanks-clause-only
returns-in_default-cut_at_blanks-clause-only c = λ algo sequence seed is.
    let first = c.in-Some.ensures.only _ _ (first_cut c.args.text.now algo sequence seed is) in
    c.in_default-cut_at_blanks.ensures.only _ _ (pieces_cut c.args.text.now c.in-Some.word.front.now c.in-Some.word.rest.now algo sequence seed is first)

pub returns-clause-found : goal.returns-clause-found
returns-clause-found c = go c.params_of.result c.params_of.ensures.found where
  go : (found : Option Params) → IfSome found (AreWordsOf c.in-Some.word.front.now c.in-Some-cut_at_blanks.digits.front.now c.in-Some-cut_at_blanks.digits.rest.now) → IfSome found (λ p. AreParams c.args.text.now p.algo p.sequence (seed_bytes p.seed))
  go None words = tt
  go (Some p) words = params_from c.args.text.now _ _ _ _ p.algo p.sequence (seed_bytes p.seed) c.in-Some.ensures.cut c.in-Some-cut_at_blanks.ensures.cut words

pub returns-clause-only : goal.returns-clause-only
returns-clause-only c = λ algo sequence seed is.
    let first = c.in-Some.ensures.only _ _ (first_cut c.args.text.now algo sequence seed is) in
    let second = c.in-Some-cut_at_blanks.ensures.only _ _ (pieces_cut c.args.text.now c.in-Some.word.front.now c.in-Some.word.rest.now algo sequence seed is first) in
    c.params_of.ensures.only algo sequence seed (same_words c.args.text.now _ _ _ _ algo sequence seed is first second)
