use Rattle.std.proofs.Common.{◌∙◌, List, ℕ, Option, Some, Ok, codes, ap, sym}
use Rattle.std.specs.Option.{option_or}
use Rattle.otp_hash.specs.Seeds.{is_seed_text}
use Rattle.toml.specs.Data.{Data, string}
use Rattle.account_file.specs.declared.fault.SetupKey.TheVariants.{Salt}
use Rattle.account_file.specs.Keys.{read_spelled, seed_spelled}
use Rattle.account_file.proofs.settings.read_salt.Goals as goal

pub returns-in-None : goal.returns-in-None
unfolding is_seed_text
returns-in-None c =
    ap (λ (o : Option Data). read_spelled 0 Salt seed_spelled (option_or o (Some (string (codes "decoy"))))) (sym c.in-None.ensures)
    ∙ ap (λ (bytes : List ℕ). Ok bytes) (sym c.plain_salt.ensures.bytes)
