use Rattle.std.proofs.Common.{refl}
use Rattle.otp_words.proofs.JudgedLemmas.{walked-lines}
use Rattle.otp_words.proofs.ListLemmas.{IsPlaced-none, AreWords-none}
use Rattle.otp_words.proofs.dictionary.Dictionary.read.Goals as goal

pub loop-rest-init : goal.loop-rest-init
loop-rest-init c = record {
  rest = rw c.new-words.ensures.items (walked-lines c.args.text.now);
  placed = rw c.new-words.ensures.items (IsPlaced-none _ (λ q. rw c.new-places.ensures.empty refl));
  legal = rw c.new-words.ensures.items AreWords-none;
}
