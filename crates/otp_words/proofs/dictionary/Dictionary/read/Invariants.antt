use Rattle.std.proofs.Common.{◌≡◌, map, length}
use Rattle.std.specs.BTreeMap.{get}
use Rattle.std.specs.Ordering.{nat_cmp}
use Rattle.std.specs.Str.Lines.{lines}
use Rattle.fixed_list.specs.FixedList.{list_of}
use Rattle.otp_words.specs.Lists.{dictionary_of}
use Rattle.otp_words.proofs.JudgedLemmas.{walked}
use Rattle.otp_words.specs.Inner.{IsPlaced, AreWords}
use Rattle.otp_words.proofs.dictionary.Dictionary.read.Given as goal

abbrev pub invariant-loop-rest : goal.invariant-loop-rest
invariant-loop-rest l = record {
  rest : walked (map list_of l.words.items) (lines l.rest) ≡ dictionary_of l.text;
  placed : IsPlaced (map list_of l.words.items) (get nat_cmp l.places);
  legal : AreWords (map list_of l.words.items);
}

abbrev pub decreases-loop-rest : goal.decreases-loop-rest
decreases-loop-rest l = length l.rest
