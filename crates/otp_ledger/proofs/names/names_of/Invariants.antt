use Rattle.std.proofs.Common.{◌≡◌, take}
use Rattle.std.specs.Prelude.{position}
use Rattle.request_catalogue.specs.declared.texts.Name.{Name}
use Rattle.policy_model.specs.Settings.{same_name}
use Rattle.otp_ledger.specs.Names.{AreNamed, number_named}
use Rattle.otp_ledger.proofs.names.names_of.Given as goal

abbrev pub invariant-loop-i : goal.invariant-loop-i
invariant-loop-i l = record {
  rising : AreNamed l.names.items;
  numbers : (user : Name) → number_named l.names.items user ≡ position (λ a. same_name a.name user) (take l.i l.accounts);
}
