use Rattle.std.proofs.Common.{◌≡◌, ◌∙◌, [], true, refl, sym, ap}
use Rattle.otp_hash.specs.Seeds.{is_seed}
use Rattle.otp_words.proofs.WrittenLemmas.{challenge_of-reads}
use Rattle.otp_hash.specs.SeedBytes.{seed_bytes}
use Rattle.otp_words.proofs.ChallengeLemmas.{IsWritten, put_next, challenge_written}
use Rattle.otp_words.proofs.challenge.challenge_text.Goals as goal

pub returns-clause-written : goal.returns-clause-written
returns-clause-written c =
    let out = c.args.out.now in
    let none : IsWritten [] out out 0 = record { bytes = refl; end = refl } in
    let first = put_next [] _ out out _ 0 _ none c.put-at.ensures.end c.put-at.ensures.out in
    let second = put_next _ _ out _ _ _ _ first c.put-at-2.ensures.end c.put-at-2.ensures.out in
    let third = put_next _ _ out _ _ _ _ second c.put-at-3.ensures.end c.put-at-3.ensures.out in
    let fourth = put_next _ _ out _ _ _ _ third c.put-at-4.ensures.end c.put-at-4.ensures.out in
    let fifth = put_next _ _ out _ _ _ _ fourth c.put-at-5.ensures.end c.put-at-5.ensures.out in
    let last = put_next _ _ out _ _ _ _ fifth c.put.ensures.end c.put.ensures.out in
    (challenge_written c.args.algo c.args.n (seed_bytes c.args.seed.now) _ _ out _ _ _ _ c.requires.four_digits c.challenge_word.ensures.text c.leading_zeros.ensures.zeros c.four_digits-digits.ensures c.as_slice.ensures.bytes last).0

pub returns-clause-len : goal.returns-clause-len
returns-clause-len c =
    let out = c.args.out.now in
    let none : IsWritten [] out out 0 = record { bytes = refl; end = refl } in
    let first = put_next [] _ out out _ 0 _ none c.put-at.ensures.end c.put-at.ensures.out in
    let second = put_next _ _ out _ _ _ _ first c.put-at-2.ensures.end c.put-at-2.ensures.out in
    let third = put_next _ _ out _ _ _ _ second c.put-at-3.ensures.end c.put-at-3.ensures.out in
    let fourth = put_next _ _ out _ _ _ _ third c.put-at-4.ensures.end c.put-at-4.ensures.out in
    let fifth = put_next _ _ out _ _ _ _ fourth c.put-at-5.ensures.end c.put-at-5.ensures.out in
    let last = put_next _ _ out _ _ _ _ fifth c.put.ensures.end c.put.ensures.out in
    (challenge_written c.args.algo c.args.n (seed_bytes c.args.seed.now) _ _ out _ _ _ _ c.requires.four_digits c.challenge_word.ensures.text c.leading_zeros.ensures.zeros c.four_digits-digits.ensures c.as_slice.ensures.bytes last).1

pub returns-clause-read_back : goal.returns-clause-read_back
returns-clause-read_back c = λ unread.
    let legal : is_seed (seed_bytes c.args.seed.now) ≡ true = ap is_seed (sym c.as_slice.ensures.bytes) ∙ c.as_slice.ensures.legal in
    challenge_of-reads c.args.algo c.args.n c.put.result (seed_bytes c.args.seed.now) unread c.requires.four_digits legal (returns-clause-len c)
