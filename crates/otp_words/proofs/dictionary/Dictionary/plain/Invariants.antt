use Rattle.std.proofs.Common.{◌≡◌, map}
use Rattle.std.specs.BTreeMap.{get}
use Rattle.std.specs.List.{range_with_len}
use Rattle.std.specs.Ordering.{nat_cmp}
use Rattle.fixed_list.specs.FixedList.{list_of}
use Rattle.otp_words.specs.Dictionaries.{plain_word}
use Rattle.otp_words.specs.Inner.{IsPlaced, AreWords}
use Rattle.otp_words.proofs.dictionary.Dictionary.plain.Given as goal

abbrev pub invariant-loop-place : goal.invariant-loop-place
invariant-loop-place l = record {
  plain : map list_of l.words.items ≡ map plain_word (range_with_len 0 l.place);
  placed : IsPlaced (map list_of l.words.items) (get nat_cmp l.places);
  legal : AreWords (map list_of l.words.items);
}
