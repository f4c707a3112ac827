-- Believed: the account of a new user, and what is printed of it.
use Rattle.std.specs.Prelude.{◌≡◌, ℕ, true, List, []}
use Rattle.otp_hash.specs.Hashing.{chain_of}
use Rattle.policy_model.specs.declared.account.Account.{Account}
use Rattle.account_file.specs.Entries.{AccountEntry, account_entry}
use Rattle.account_writer.specs.Written.{IsTextOf}
use Rattle.enrol_mode.specs.Words.{EnrolParts}

-- what a setup file says of the new account: enabled, without grants, with the password of this phrase
abbrev pub new_entry : EnrolParts → List ℕ → AccountEntry
new_entry parts phrase = record {
  name = parts.name;
  uid = parts.uid;
  algo = parts.algo;
  seed = parts.seed;
  sequence = parts.number;
  password = chain_of parts.algo parts.seed phrase parts.number;
  enabled = true;
  grants = [];
}

-- this text spells the account that was asked for, alone or appended to the file of a setup
pub record IsEnrolText (parts : EnrolParts) (phrase text : List ℕ) : Type 0 where
  pub account : Account
  pub entry : account_entry account ≡ new_entry parts phrase
  pub spells : IsTextOf account text
