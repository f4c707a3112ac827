-- Believed: what a setup file says, and what it says of a setup.
use Rattle.std.specs.Prelude.{ℕ, Bool, List, map}
use Rattle.account_file.specs.declared.settings.Counts.{Counts}
use Rattle.otp_hash.specs.declared.chain.Algo.{Algo}
use Rattle.otp_hash.specs.SeedBytes.{seed_bytes}
use Rattle.request_catalogue.specs.declared.width.Width.{Width}
use Rattle.request_catalogue.specs.TextBytes.{name_bytes, label_bytes}
use Rattle.policy_model.specs.declared.account.Account.{Account}
use Rattle.policy_model.specs.Settings.{Settings}

-- all that a setup file says of one account, with a file's label and a mode for each grant
pub record AccountEntry : Type 0 where
  pub name : List ℕ
  pub uid : ℕ
  pub algo : Algo
  pub seed : List ℕ
  pub sequence : ℕ
  pub password : ℕ
  pub enabled : Bool
  pub grants : List (List ℕ × ℕ)

-- the five texts of a setup file
pub record TextEntries : Type 0 where
  pub socket : List ℕ
  pub launcher : List ℕ
  pub vault : List ℕ
  pub words : List ℕ
  pub banner : List ℕ

-- all that a setup file says
pub record SetupEntries : Type 0 where
  pub texts : TextEntries
  pub salt : List ℕ
  pub frames : Width
  pub counts : Counts
  pub info : List ℕ
  pub accounts : List AccountEntry

-- what a setup file says of this account
abbrev pub account_entry : Account → AccountEntry
account_entry a = record {
  name = name_bytes a.name;
  uid = a.uid;
  algo = a.algo;
  seed = seed_bytes a.seed;
  sequence = a.sequence;
  password = a.password;
  enabled = a.enabled;
  grants = map (λ g. (label_bytes g.name, g.mode)) a.grants;
}

-- what a setup file says of this setup
abbrev pub entries_of : Settings → SetupEntries
entries_of s = record {
  texts = record { socket = s.socket; launcher = s.launcher; vault = s.vault; words = s.words; banner = s.banner };
  salt = seed_bytes s.salt;
  frames = s.frames;
  counts = record {
    workers = s.workers;
    connections = s.connections;
    requests = s.requests;
    tries = s.tries;
    hold = s.hold;
  };
  info = s.info;
  accounts = map account_entry s.accounts;
}
