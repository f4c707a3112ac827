use Rattle.std.proofs.Common.{◌≡◌, false, true}
use Rattle.std.proofs.lemmas.Bool.{false≢true}
use Rattle.fixed_list.specs.FixedList.{list_of}
use Rattle.otp_hash.specs.Seeds.{is_seed_text}
use Rattle.otp_hash.proofs.SeedLemmas.{same_from_seed_bytes}
use Rattle.policy_model.specs.Salt.{plain_salt}
use Rattle.policy_model.proofs.decoy.plain_salt.Goals as goal

pub unreachable-requires : goal.unreachable-requires
unfolding is_seed_text
unreachable-requires c = let h : false ≡ true = c.in-None.ensures.rule in absurd (false≢true h)

pub returns-clause-value : goal.returns-clause-value
unfolding list_of plain_salt
returns-clause-value c = same_from_seed_bytes c.in-Some.seed plain_salt c.in-Some.ensures.found
