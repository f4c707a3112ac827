-- Believed: what an operator settles before a run, and the ranges of a setup.
-- An account has a name, a user number, an algorithm, a seed, a sequence (how many passwords its chain has left), the
-- password accepted last, whether it is enabled, and grants: each a file's label and a mode, 1 read, 2 write, 3 both.
use Rattle.std.specs.Prelude.{ℕ, ◌≡◌, ◌≤◌, ◌*◌, ◌+◌, Bool, true, not, ◌&&◌, ◌==◌, List, [], ◌∷◌, length, codes, nat_le}
use Rattle.std.specs.Prelude.{Option, position}
use Rattle.std.specs.Int.{to_be_bytes, w64}
use Rattle.std.specs.List.{list_all, list_any}
use Rattle.std.specs.Str.{bytes_eq}
use Rattle.hex.specs.Hex.{encode_lower}
use Rattle.request_catalogue.specs.declared.texts.Label.{Label}
use Rattle.request_catalogue.specs.declared.texts.Name.{Name}
use Rattle.request_catalogue.specs.TextBytes.{label_bytes, name_bytes}
use Rattle.request_catalogue.specs.Texts.{is_text}
use Rattle.policy_model.specs.declared.account.Account.{Account}
use Rattle.policy_model.specs.declared.account.Grant.{Grant}
use Rattle.policy_model.specs.declared.parts.SetupParts.{SetupParts}
use Rattle.policy_model.specs.declared.ranges.TheConstants.{EVENTS_LIMIT}
use Rattle.request_catalogue.specs.declared.width.Width.TheVariants.{Narrow}
use Rattle.policy_model.specs.Salt.{plain_salt}

-- what an operator settles: the parts of a setup, in or out of their ranges
abbrev pub Settings : Type 0
Settings = SetupParts

-- the most events of one worker: for each connection its requests, one refused, the opening and the end
abbrev pub quota_of : Settings → ℕ
quota_of s = s.connections * (s.requests + 3)

-- the most events that all workers of a run can make
abbrev pub events_max : Settings → ℕ
events_max s = s.workers * quota_of s

-- two names have the same bytes
abbrev pub same_name : Name → Name → Bool
same_name a b = bytes_eq (name_bytes a) (name_bytes b)

-- two labels have the same bytes
abbrev pub same_label : Label → Label → Bool
same_label a b = bytes_eq (label_bytes a) (label_bytes b)

-- no element of a list is the same as a later one
abbrev pub are_distinct : {A : Type 0} → (A → A → Bool) → List A → Bool
are_distinct same [] = true
are_distinct same (x ∷ xs) = not (list_any (same x) xs) && are_distinct same xs

-- a password in 16 lower-case hexadecimal digits, the most significant first
abbrev pub password_text : ℕ → List ℕ
password_text password = encode_lower (to_be_bytes w64 password)

-- a setup's texts, printable: socket of 1 to 100 bytes, launcher, vault and words 1 to 255, banner 0 to 200
abbrev pub are_texts : Settings → Bool
are_texts s =
    is_text 1 100 s.socket && is_text 1 255 s.launcher && is_text 1 255 s.vault && is_text 1 255 s.words
    && is_text 0 200 s.banner

-- a number from `low` to `high`
abbrev pub is_number : ℕ → ℕ → ℕ → Bool
is_number low high n = nat_le low n && nat_le n high

-- the counts and the hold
abbrev pub are_counts : Settings → Bool
are_counts s =
    is_number 1 64 s.workers && is_number 1 4096 s.connections && is_number 8 4096 s.requests && is_number 1 10 s.tries
    && is_number 1 3600000 s.hold

-- the numbers of information: at most 32 different ones of 1 to 1,000
abbrev pub are_numbers : List ℕ → Bool
are_numbers info = nat_le (length info) 32 && list_all (is_number 1 1000) info && are_distinct ◌==◌ info

-- at most 64 grants, each with a mode of 1 to 3, of different names
abbrev pub are_grants : List Grant → Bool
are_grants grants =
    nat_le (length grants) 64 && list_all (λ g. is_number 1 3 g.mode) grants
    && are_distinct (λ a b. same_label a.name b.name) grants

-- an account's user number, sequence and grants are in their ranges
abbrev pub is_account : Account → Bool
is_account a = is_number 1 4294967294 a.uid && nat_le a.sequence 9999 && are_grants a.grants

-- at most 1,024 accounts, of different names and different user numbers
abbrev pub are_accounts : List Account → Bool
are_accounts accounts =
    nat_le (length accounts) 1024 && list_all is_account accounts && are_distinct (λ a b. same_name a.name b.name)
    accounts && are_distinct (λ a b. a.uid == b.uid) accounts

-- the ranges of a setup, by which a run makes at most 1,048,576 events
pub record IsInRange (s : Settings) : Type 0 where
  pub texts : are_texts s ≡ true
  pub workers : (1 ≤ s.workers) × (s.workers ≤ 64)
  pub connections : (1 ≤ s.connections) × (s.connections ≤ 4096)
  pub requests : (8 ≤ s.requests) × (s.requests ≤ 4096)
  pub tries : (1 ≤ s.tries) × (s.tries ≤ 10)
  pub hold : (1 ≤ s.hold) × (s.hold ≤ 3600000)
  pub info : are_numbers s.info ≡ true
  pub product : events_max s ≤ EVENTS_LIMIT
  pub accounts : are_accounts s.accounts ≡ true

-- the tests of all ranges in one
abbrev pub passes : Settings → Bool
passes s = are_texts s && are_counts s && are_numbers s.info && nat_le (events_max s) EVENTS_LIMIT
    && are_accounts s.accounts

-- the number of this user's account in the setup, counted from 0
abbrev pub account_number : Settings → Name → Option ℕ
account_number s user = position (λ a. same_name a.name user) s.accounts

-- the setup of `serve` where no file is named
abbrev pub plain_settings : Settings
plain_settings = record {
  socket = codes "otplogd.sock";
  launcher = codes "otplogd";
  vault = codes "vault";
  words = codes "words";
  banner = [];
  salt = plain_salt;
  frames = Narrow;
  workers = 1;
  connections = 1;
  requests = 64;
  tries = 3;
  hold = 30000;
  info = [];
  accounts = [];
}
