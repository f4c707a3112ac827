-- The table of a setup is read as this setup.
use Rattle.std.proofs.Common.{◌≡◌, ℕ, ◌+◌, ◌*◌, ◌≤◌, Bool, true, cond, List, [], ◌∷◌, map, length, nat_le, le-leb, eq-eqb, refl, ap, ◌∙◌, arith, Option, Some, None, Result, Ok, codes, ◌==◌}
use Rattle.std.specs.Bool.{then_some}
use Rattle.std.specs.List.{list_all}
use Rattle.std.specs.Option.{is_some, option_and_then, option_map}
use Rattle.std.specs.Str.{IsUtf8}
use Rattle.std.specs.Str.Lossy.{utf8_valid_len}
use Rattle.std.proofs.lemmas.Bool.{and_parts}
use Rattle.std.proofs.lemmas.Bool.Decides.{nat_tests}
use Rattle.std.proofs.lemmas.List.{length-map}
use Rattle.std.proofs.lemmas.Str.{utf8_valid_len-IsUtf8}
use Rattle.toml.specs.Data.{Data, Members, array, as_integer, no_items, string, get_member, items_depth, items_have_valid_dates, members_depth, members_have_valid_dates}
use Rattle.toml.specs.Parse.{parse_document}
use Rattle.toml.specs.View.{items_of}
use Rattle.otp_hash.specs.SeedBytes.{seed_bytes}
use Rattle.request_catalogue.specs.declared.width.Width.{Width}
use Rattle.request_catalogue.specs.Results.{◌>>=◌}
use Rattle.policy_model.specs.declared.account.Account.{Account}
use Rattle.policy_model.specs.declared.account.Grant.{Grant}
use Rattle.policy_model.specs.declared.ranges.TheConstants.{EVENTS_LIMIT}
use Rattle.policy_model.specs.Settings.{IsInRange, Settings, are_accounts, are_distinct, are_numbers, is_number}
use Rattle.request_catalogue.specs.Texts.{is_text}
use Rattle.account_file.specs.declared.fault.SetupFault.{SetupFault}
use Rattle.account_file.specs.declared.fault.SetupKey.TheVariants as keys
use Rattle.account_file.specs.declared.fault.SetupRule.TheVariants as rules
use Rattle.account_file.specs.declared.settings.Counts.{Counts}
use Rattle.account_file.specs.Accounts.{next_account}
use Rattle.account_file.specs.Entries.{AccountEntry, SetupEntries, TextEntries, account_entry, entries_of}
use Rattle.account_file.specs.Faults.{demand_at}
use Rattle.account_file.specs.Keys.{member_or, number_in, passed, read_number, read_spelled, seed_spelled, width_named}
use Rattle.account_file.specs.Numbers.{all_some, info_items}
use Rattle.account_file.specs.Setups.{read_counts, read_info, read_settings, read_texts, setup_keys, setup_of}
use Rattle.account_file.specs.Trees.{are_known, read_each}
use Rattle.account_file.proofs.InfoLemmas.{info_is, info_of}
use Rattle.account_writer.specs.Puts.{is_writable, number}
use Rattle.account_writer.specs.Tables.{account_data, grant_data, other_members, setup_members}
use Rattle.account_writer.proofs.AccountReads.{accounts_read}
use Rattle.account_writer.proofs.KeyReads.{data_of-items, number_read, seed_read, text_read, width_read}

-- 1. The parts of a setup, one after the other

texts_by : (ms : Members) (socket launcher vault words banner : List ℕ)
    → read_spelled 0 keys.Socket (passed (is_text 1 100)) (get_member (codes "socket") ms) ≡ Ok socket
    → read_spelled 0 keys.Launcher (passed (is_text 1 255)) (get_member (codes "launcher") ms) ≡ Ok launcher
    → read_spelled 0 keys.Vault (passed (is_text 1 255)) (get_member (codes "vault") ms) ≡ Ok vault
    → read_spelled 0 keys.Words (passed (is_text 1 255)) (get_member (codes "words") ms) ≡ Ok words
    → read_spelled 0 keys.Banner (passed (is_text 0 200)) (member_or (string []) (codes "banner") ms) ≡ Ok banner
    → read_texts ms ≡ Ok (record { socket = socket; launcher = launcher; vault = vault; words = words; banner = banner })
texts_by ms socket launcher vault words banner a b c d e = rw (a, b, c, d, e) refl

counts_by : (ms : Members) (workers connections requests tries hold : ℕ)
    → read_number 0 keys.Workers 1 64 (get_member (codes "workers") ms) ≡ Ok workers
    → read_number 0 keys.Connections 1 4096 (get_member (codes "connections") ms) ≡ Ok connections
    → read_number 0 keys.Requests 8 4096 (get_member (codes "requests") ms) ≡ Ok requests
    → read_number 0 keys.Tries 1 10 (get_member (codes "tries") ms) ≡ Ok tries
    → read_number 0 keys.Hold 1 3600000 (get_member (codes "hold") ms) ≡ Ok hold
    → read_counts ms ≡ Ok (record { workers = workers; connections = connections; requests = requests; tries = tries; hold = hold })
counts_by ms workers connections requests tries hold a b c d e = rw (a, b, c, d, e) refl

-- numbers by which a run makes no more events than it may
abbrev product_of : Counts → Result Counts SetupFault
product_of counts = demand_at 0 keys.Requests rules.Product (then_some (nat_le (counts.workers * (counts.connections * (counts.requests + 3))) EVENTS_LIMIT) counts)

settings_by : (ms : Members) (texts : TextEntries) (salt : List ℕ) (frames : Width) (counts : Counts) (info : List ℕ) (accounts : List AccountEntry)
    → read_texts ms ≡ Ok texts
    → read_spelled 0 keys.Salt seed_spelled (member_or (string (codes "decoy")) (codes "salt") ms) ≡ Ok salt
    → read_spelled 0 keys.Frames width_named (member_or (string (codes "narrow")) (codes "frames") ms) ≡ Ok frames
    → read_counts ms ≡ Ok counts
    → read_info (member_or (array no_items) (codes "info") ms) ≡ Ok info
    → product_of counts ≡ Ok counts
    → read_each 0 keys.Account 1024 next_account (member_or (array no_items) (codes "account") ms) ≡ Ok accounts
    → read_settings ms ≡ Ok (record { texts = texts; salt = salt; frames = frames; counts = counts; info = info; accounts = accounts })
settings_by ms texts salt frames counts info accounts a b c d e f g = rw (a, b, c, d, e, f, g) refl

-- 2. Numbers of information

all_integers : (info : List ℕ) → list_all (λ d. is_some (as_integer d)) (map number info) ≡ true
all_integers [] = refl
all_integers (n ∷ info) = all_integers info

all_there : (info : List ℕ) → list_all (is_number 1 1000) info ≡ true → all_some (λ d. option_and_then (number_in 1 1000) (as_integer d)) (map number info) ≡ Some info
all_there [] legal = refl
all_there (n ∷ info) legal =
    let parts = and_parts (is_number 1 1000 n) (list_all (is_number 1 1000) info) legal in
    ap (λ (b : Bool). option_and_then (λ m. option_map (λ ms. m ∷ ms) (all_some (λ d. option_and_then (number_in 1 1000) (as_integer d)) (map number info))) (then_some b n)) parts.0
    ∙ ap (λ (o : Option (List ℕ)). option_map (λ ms. n ∷ ms) o) (all_there info parts.1)

info_by : (items : List Data) (info : List ℕ) → list_all (λ d. is_some (as_integer d)) items ≡ true → nat_le (length items) 32 ≡ true → all_some (λ d. option_and_then (number_in 1 1000) (as_integer d)) items ≡ Some info → are_distinct ◌==◌ info ≡ true → info_items items ≡ Ok info
info_by items info integers few all distinct =
    ap (λ (b : Bool). demand_at 0 keys.Info rules.Kind (then_some b items) >>= (λ integers. demand_at 0 keys.Info rules.Range (then_some (nat_le (length integers) 32) integers) >>= (λ few. demand_at 0 keys.Info rules.Range (all_some (λ d. option_and_then (number_in 1 1000) (as_integer d)) few) >>= (λ found. demand_at 0 keys.Info rules.Twice (then_some (are_distinct ◌==◌ found) found))))) integers
    ∙ ap (λ (b : Bool). demand_at 0 keys.Info rules.Range (then_some b items) >>= (λ few. demand_at 0 keys.Info rules.Range (all_some (λ d. option_and_then (number_in 1 1000) (as_integer d)) few) >>= (λ found. demand_at 0 keys.Info rules.Twice (then_some (are_distinct ◌==◌ found) found)))) few
    ∙ ap (λ (o : Option (List ℕ)). demand_at 0 keys.Info rules.Range o >>= (λ found. demand_at 0 keys.Info rules.Twice (then_some (are_distinct ◌==◌ found) found))) all
    ∙ ap (λ (b : Bool). demand_at 0 keys.Info rules.Twice (then_some b info)) distinct

info_read : (info : List ℕ) → are_numbers info ≡ true → read_info (Some (array (items_of (map number info)))) ≡ Ok info
info_read info legal =
    let parts = and_parts _ _ legal in
    let first = and_parts _ _ parts.0 in
    let few : nat_le (length (map number info)) 32 ≡ true = ap (λ (n : ℕ). nat_le n 32) (length-map info number) ∙ first.0 in
    ap info_of (data_of-items (map number info)) ∙ info_is (map number info) ∙ info_by (map number info) info (all_integers info) few (all_there info first.1) parts.1

-- 3. The whole

within : (low high n : ℕ) → (low ≤ n) × (n ≤ high) → is_number low high n ≡ true
within low high n h = grind (arith, nat_tests)

product_read : (counts : Counts) → counts.workers * (counts.connections * (counts.requests + 3)) ≤ 1048576 → product_of counts ≡ Ok counts
product_read counts few = ap (λ (b : Bool). demand_at 0 keys.Requests rules.Product (then_some b counts)) (le-leb _ _ few)

own_texts : (s : Settings) → IsInRange s → read_texts (other_members s) ≡ Ok (entries_of s).texts
own_texts s range =
    let t4 = and_parts _ _ range.texts in
    let t3 = and_parts _ _ t4.0 in
    let t2 = and_parts _ _ t3.0 in
    let t1 = and_parts _ _ t2.0 in
    texts_by (other_members s) s.socket s.launcher s.vault s.words s.banner (text_read 0 keys.Socket 1 100 s.socket t1.0) (text_read 0 keys.Launcher 1 255 s.launcher t1.1) (text_read 0 keys.Vault 1 255 s.vault t2.1) (text_read 0 keys.Words 1 255 s.words t3.1) (text_read 0 keys.Banner 0 200 s.banner t4.1)

own_counts : (s : Settings) → IsInRange s → read_counts (other_members s) ≡ Ok (entries_of s).counts
own_counts s range =
    counts_by (other_members s) s.workers s.connections s.requests s.tries s.hold (number_read 0 keys.Workers 1 64 s.workers (within 1 64 s.workers range.workers)) (number_read 0 keys.Connections 1 4096 s.connections (within 1 4096 s.connections range.connections)) (number_read 0 keys.Requests 8 4096 s.requests (within 8 4096 s.requests range.requests)) (number_read 0 keys.Tries 1 10 s.tries (within 1 10 s.tries range.tries)) (number_read 0 keys.Hold 1 3600000 s.hold (within 1 3600000 s.hold range.hold))

-- a setup with these accounts, which are read so
with_accounts : (s : Settings) (accounts : List Data) (entries : List AccountEntry) → IsInRange s → read_each 0 keys.Account 1024 next_account (member_or (array no_items) (codes "account") (setup_members s accounts)) ≡ Ok entries → read_settings (setup_members s accounts) ≡ Ok (record (entries_of s) { accounts = entries })
with_accounts s [] entries range are =
    settings_by (setup_members s []) _ (seed_bytes s.salt) s.frames _ s.info entries (own_texts s range) (seed_read 0 keys.Salt s.salt) (width_read 0 keys.Frames s.frames) (own_counts s range) (info_read s.info range.info) (product_read _ range.product) are
with_accounts s (d ∷ ds) entries range are =
    settings_by (setup_members s (d ∷ ds)) _ (seed_bytes s.salt) s.frames _ s.info entries (own_texts s range) (seed_read 0 keys.Salt s.salt) (width_read 0 keys.Frames s.frames) (own_counts s range) (info_read s.info range.info) (product_read _ range.product) are

own_accounts : (s : Settings) (accounts : List Account) → are_accounts accounts ≡ true → list_all is_writable accounts ≡ true → read_each 0 keys.Account 1024 next_account (member_or (array no_items) (codes "account") (setup_members s (map account_data accounts))) ≡ Ok (map account_entry accounts)
own_accounts s [] legal writable = refl
own_accounts s (a ∷ accounts) legal writable = accounts_read (a ∷ accounts) legal writable

pub setup_read : (s : Settings) → IsInRange s → list_all is_writable s.accounts ≡ true → read_settings (setup_members s (map account_data s.accounts)) ≡ Ok (entries_of s)
setup_read s range writable = with_accounts s (map account_data s.accounts) (map account_entry s.accounts) range (own_accounts s s.accounts range.accounts writable)

keys_known : (s : Settings) (accounts : List Data) → are_known setup_keys (setup_members s accounts) ≡ true
keys_known s [] = refl
keys_known s (d ∷ ds) = refl

-- what follows from a document's entries
abbrev known_of : Members → Result SetupEntries SetupFault
known_of entries = demand_at 0 keys.Other rules.Unknown (passed (are_known setup_keys) entries) >>= read_settings

-- a text that parses is the setup of its table
document_read : (bytes : List ℕ) (ms : Members) (e : SetupEntries) → IsUtf8 bytes → parse_document bytes ≡ Some ms → are_known setup_keys ms ≡ true → read_settings ms ≡ Ok e → setup_of bytes ≡ Ok e
unfolding setup_of
document_read bytes ms e utf8 parsed known is =
    let test : (utf8_valid_len bytes == length bytes) ≡ true = eq-eqb (utf8_valid_len bytes) (length bytes) (utf8_valid_len-IsUtf8 bytes utf8) in
    ap (λ (t : Bool). demand_at 0 keys.File rules.NotToml (cond t (parse_document bytes) None) >>= known_of) test
    ∙ ap (λ (o : Option Members). demand_at 0 keys.File rules.NotToml o >>= known_of) parsed
    ∙ ap (λ (b : Bool). demand_at 0 keys.Other rules.Unknown (then_some b ms) >>= read_settings) known
    ∙ is

pub text_is_setup : (bytes : List ℕ) (s : Settings) → IsUtf8 bytes → parse_document bytes ≡ Some (setup_members s (map account_data s.accounts)) → IsInRange s → list_all is_writable s.accounts ≡ true → setup_of bytes ≡ Ok (entries_of s)
text_is_setup bytes s utf8 parsed range writable = document_read bytes (setup_members s (map account_data s.accounts)) (entries_of s) utf8 parsed (keys_known s (map account_data s.accounts)) (setup_read s range writable)

-- 4. The table is flat, and has no dates

numbers_flat : (info : List ℕ) → items_depth (items_of (map number info)) ≤ 0
numbers_flat [] = omega arith
numbers_flat (n ∷ info) = omega (arith, numbers_flat info)

grants_flat : (gs : List Grant) → items_depth (items_of (map grant_data gs)) ≤ 1
grants_flat [] = omega arith
grants_flat (g ∷ gs) = omega (arith, grants_flat gs)

pub accounts_flat : (accounts : List Account) → items_depth (items_of (map account_data accounts)) ≤ 3
accounts_flat [] = omega arith
accounts_flat (a ∷ accounts) = omega (arith, grants_flat a.grants, accounts_flat accounts)

pub setup_flat : (s : Settings) (accounts : List Account) → members_depth (setup_members s (map account_data accounts)) ≤ 80
setup_flat s [] = omega (arith, numbers_flat s.info)
setup_flat s (a ∷ accounts) = omega (arith, accounts_flat (a ∷ accounts), numbers_flat s.info)

numbers_dated : (info : List ℕ) → items_have_valid_dates (items_of (map number info)) ≡ true
numbers_dated [] = refl
numbers_dated (n ∷ info) = numbers_dated info

grants_dated : (gs : List Grant) → items_have_valid_dates (items_of (map grant_data gs)) ≡ true
grants_dated [] = refl
grants_dated (g ∷ gs) = grants_dated gs

pub accounts_dated : (accounts : List Account) → items_have_valid_dates (items_of (map account_data accounts)) ≡ true
accounts_dated [] = refl
accounts_dated (a ∷ accounts) = rw (grants_dated a.grants, accounts_dated accounts) refl

pub setup_dated : (s : Settings) (accounts : List Account) → members_have_valid_dates (setup_members s (map account_data accounts)) ≡ true
setup_dated s [] = rw (numbers_dated s.info) refl
setup_dated s (a ∷ accounts) = rw (accounts_dated (a ∷ accounts), numbers_dated s.info) refl
