-- Believed: the setup that the bytes of a file spell.
use Rattle.std.specs.Prelude.{ℕ, ◌+◌, ◌*◌, List, [], ◌∷◌, Option, Some, None, Result, Ok, length, map, codes}
use Rattle.std.specs.Prelude.{◌==◌, if◌then◌else◌, nat_le}
use Rattle.std.specs.List.{list_all}
use Rattle.std.specs.Option.{is_some}
use Rattle.std.specs.Str.Lossy.{utf8_valid_len}
use Rattle.toml.specs.Data.{Data, Members, string, array, no_items, get_member, as_array, as_integer}
use Rattle.toml.specs.Parse.{parse_document}
use Rattle.request_catalogue.specs.Results.{◌>>=◌}
use Rattle.policy_model.specs.declared.ranges.TheConstants.{EVENTS_LIMIT}
use Rattle.request_catalogue.specs.Texts.{is_text}
use Rattle.policy_model.specs.Settings.{are_distinct}
use Rattle.account_file.specs.declared.fault.SetupKey.TheVariants as keys
use Rattle.account_file.specs.declared.fault.SetupRule.TheVariants as rules
use Rattle.account_file.specs.declared.fault.SetupFault.{SetupFault}
use Rattle.account_file.specs.declared.settings.Counts.{Counts}
use Rattle.account_file.specs.Accounts.{next_account}
use Rattle.account_file.specs.Entries.{SetupEntries, TextEntries}
use Rattle.account_file.specs.Faults.{demand_at}
use Rattle.account_file.specs.Keys.{member_or, passed, read_as, read_number, read_spelled, seed_spelled, width_named}
use Rattle.account_file.specs.Trees.{data_of, are_known, read_each}

-- the keys that a setup file may have
abbrev pub setup_keys : List (List ℕ)
setup_keys = map codes ("socket" ∷ "launcher" ∷ "vault" ∷ "words" ∷ "banner" ∷ "salt" ∷ "frames" ∷ "workers"
    ∷ "connections" ∷ "requests" ∷ "tries" ∷ "hold" ∷ "info" ∷ "account" ∷ [])

-- the keys of a TOML document, if the bytes are UTF-8 and TOML
abbrev pub document_of : List ℕ → Option Members
document_of bytes = if utf8_valid_len bytes == length bytes then parse_document bytes else None

-- the five texts of a setup, each in its range; the banner may be missing and is then empty
abbrev pub read_texts : Members → Result TextEntries SetupFault
read_texts entries = do
  socket ← read_spelled 0 keys.Socket (passed (is_text 1 100)) (get_member (codes "socket") entries)
  launcher ← read_spelled 0 keys.Launcher (passed (is_text 1 255)) (get_member (codes "launcher") entries)
  vault ← read_spelled 0 keys.Vault (passed (is_text 1 255)) (get_member (codes "vault") entries)
  words ← read_spelled 0 keys.Words (passed (is_text 1 255)) (get_member (codes "words") entries)
  banner ← read_spelled 0 keys.Banner (passed (is_text 0 200)) (member_or (string []) (codes "banner") entries)
  Ok (record { socket = socket; launcher = launcher; vault = vault; words = words; banner = banner })

-- the five numbers of a setup, each in its range
abbrev pub read_counts : Members → Result Counts SetupFault
read_counts entries = do
  workers ← read_number 0 keys.Workers 1 64 (get_member (codes "workers") entries)
  connections ← read_number 0 keys.Connections 1 4096 (get_member (codes "connections") entries)
  requests ← read_number 0 keys.Requests 8 4096 (get_member (codes "requests") entries)
  tries ← read_number 0 keys.Tries 1 10 (get_member (codes "tries") entries)
  hold ← read_number 0 keys.Hold 1 3600000 (get_member (codes "hold") entries)
  Ok (record { workers = workers; connections = connections; requests = requests; tries = tries; hold = hold })

-- the numbers of information: at most 32 different ones, each from 1 to 1,000
abbrev pub read_info : Option Data → Result (List ℕ) SetupFault
read_info value = do
  items ← read_as 0 keys.Info as_array value
  _ ← demand_at 0 keys.Info rules.Kind (passed (list_all (λ d. is_some (as_integer d))) (data_of items))
  info ← read_each 0 keys.Info 32 (λ earlier d. read_number 0 keys.Info 1 1000 (Some d)) value
  demand_at 0 keys.Info rules.Twice (passed (are_distinct ◌==◌) info)

-- a setup from its keys, in the order in which faults are looked for; some keys may be missing
abbrev pub read_settings : Members → Result SetupEntries SetupFault
read_settings entries = do
  texts ← read_texts entries
  salt ← read_spelled 0 keys.Salt seed_spelled (member_or (string (codes "decoy")) (codes "salt") entries)
  frames ← read_spelled 0 keys.Frames width_named (member_or (string (codes "narrow")) (codes "frames") entries)
  counts ← read_counts entries
  info ← read_info (member_or (array no_items) (codes "info") entries)
  bounded ← demand_at 0 keys.Requests rules.Product
      (passed (λ c. nat_le (c.workers * (c.connections * (c.requests + 3))) EVENTS_LIMIT) counts)
  accounts ← read_each 0 keys.Account 1024 next_account (member_or (array no_items) (codes "account") entries)
  Ok (record { texts = texts; salt = salt; frames = frames; counts = bounded; info = info; accounts = accounts })

-- the setup that the bytes of a file spell, or its first fault
unfoldable pub setup_of : List ℕ → Result SetupEntries SetupFault
setup_of bytes = do
  entries ← demand_at 0 keys.File rules.NotToml (document_of bytes)
  demand_at 0 keys.Other rules.Unknown (passed (are_known setup_keys) entries) >>= read_settings
