-- What is written at a key is read there.
use Rattle.std.proofs.Common.{◌≡◌, ℕ, ◌<◌, ◌^◌, Bool, true, false, not, ◌&&◌, List, [], ◌∷◌, map, length, nat_le, refl, ap, ◌∙◌, arith, Some, Result, Ok}
use Rattle.std.specs.Bool.{then_some}
use Rattle.std.specs.Char.{is_ascii_alphanumeric, to_ascii_lowercase}
use Rattle.std.specs.Int.{w64, from_be_bytes, to_be_bytes}
use Rattle.std.specs.List.{list_all}
use Rattle.std.specs.Option.{option_map}
use Rattle.std.specs.Result.{result_ok}
use Rattle.std.proofs.lemmas.Bool.{and_parts, and_from}
use Rattle.std.proofs.lemmas.Bool.Decides.{nat_tests}
use Rattle.std.proofs.lemmas.Nat.{from_be_bytes-to_be_bytes_8}
use Rattle.hex.specs.Hex.{IsBytes}
use Rattle.hex.specs.declared.error.FromHexError.{FromHexError}
use Rattle.hex.proofs.HexLemmas.{decode_sized-encode_lower}
use Rattle.toml.specs.Data.{Data, string}
use Rattle.toml.specs.View.{items_of}
use Rattle.otp_hash.specs.declared.chain.Algo.{Algo}
use Rattle.otp_hash.specs.declared.chain.Algo.TheVariants as algos
use Rattle.otp_hash.specs.declared.seed.Seed.{Seed}
use Rattle.otp_hash.specs.Seeds.{is_seed, is_seed_byte, is_seed_text}
use Rattle.otp_hash.specs.SeedBytes.{seed_bytes}
use Rattle.request_catalogue.specs.declared.width.Width.{Width}
use Rattle.request_catalogue.specs.declared.width.Width.TheVariants.{Narrow, Wide}
use Rattle.request_catalogue.specs.Texts.{is_text}
use Rattle.policy_model.specs.Settings.{is_number, password_text}
use Rattle.account_file.specs.declared.fault.SetupRule.TheVariants as rules
use Rattle.account_file.specs.declared.fault.SetupKey.{SetupKey}
use Rattle.account_file.specs.Accounts.{untaken}
use Rattle.account_file.specs.Faults.{demand_at}
use Rattle.account_file.specs.Keys.{read_spelled, passed, read_number, width_named, seed_spelled, password_spelled}
use Rattle.account_file.specs.Trees.{data_of}
use Rattle.otp_hash.specs.Names.{algo_name, algo_named}
use Rattle.account_writer.specs.Puts.{number}
use Rattle.account_writer.specs.Tables.{width_word}

pub text_read : (account : ℕ) (key : SetupKey) (low high : ℕ) (bytes : List ℕ) → is_text low high bytes ≡ true → read_spelled account key (passed (is_text low high)) (Some (string bytes)) ≡ Ok bytes
text_read account key low high bytes legal = ap (λ (b : Bool). demand_at account key rules.Text (then_some b bytes)) legal

pub number_read : (account : ℕ) (key : SetupKey) (low high n : ℕ) → is_number low high n ≡ true → read_number account key low high (Some (number n)) ≡ Ok n
number_read account key low high n legal = ap (λ (b : Bool). demand_at account key rules.Range (then_some b n)) legal

pub algo_read : (account : ℕ) (key : SetupKey) (a : Algo) → read_spelled account key algo_named (Some (string (algo_name a))) ≡ Ok a
algo_read account key algos.Md5 = refl
algo_read account key algos.Sha1 = refl

pub width_read : (account : ℕ) (key : SetupKey) (w : Width) → read_spelled account key width_named (Some (string (width_word w))) ≡ Ok w
width_read account key Narrow = refl
width_read account key Wide = refl

-- a byte of a seed is a letter or a digit, and in lower case
seed_byte : (c : ℕ) → is_seed_byte c ≡ true → (is_ascii_alphanumeric c ≡ true) × (to_ascii_lowercase c ≡ c)
seed_byte c legal = (grind (arith, nat_tests, legal), grind (arith, nat_tests, legal))

seed_bytes_pass : (bytes : List ℕ) → list_all is_seed_byte bytes ≡ true → (list_all is_ascii_alphanumeric bytes ≡ true) × (map to_ascii_lowercase bytes ≡ bytes)
seed_bytes_pass [] legal = (refl, refl)
seed_bytes_pass (c ∷ cs) legal =
    let parts = and_parts (is_seed_byte c) (list_all is_seed_byte cs) legal in
    let here = seed_byte c parts.0 in
    let rest = seed_bytes_pass cs parts.1 in
    (and_from _ _ here.0 rest.0, ap (λ (n : ℕ). n ∷ map to_ascii_lowercase cs) here.1 ∙ ap (λ (ns : List ℕ). c ∷ ns) rest.1)

-- a seed is a seed's text, in lower case
seed_text : (bytes : List ℕ) → is_seed bytes ≡ true → (is_seed_text bytes ≡ true) × (map to_ascii_lowercase bytes ≡ bytes)
unfolding is_seed is_seed_text
seed_text bytes legal =
    let parts = and_parts (nat_le 1 (length bytes) && nat_le (length bytes) 16) (list_all is_seed_byte bytes) legal in
    let all = seed_bytes_pass bytes parts.1 in
    (and_from _ _ parts.0 all.0, all.1)

pub seed_read : (account : ℕ) (key : SetupKey) (s : Seed) → read_spelled account key seed_spelled (Some (string (seed_bytes s))) ≡ Ok (seed_bytes s)
seed_read account key s =
    let is = seed_text (seed_bytes s) s.legal in
    ap (λ (b : Bool). demand_at account key rules.Text (then_some b (map to_ascii_lowercase (seed_bytes s)))) is.0
    ∙ ap (λ (bytes : List ℕ). Ok bytes) is.1

-- a word's bytes are bytes
are_bytes : (n : ℕ) → IsBytes (to_be_bytes w64 n)
are_bytes n i = search (arith)

pub password_read : (account : ℕ) (key : SetupKey) (password : ℕ) → password < 2 ^ 64 → read_spelled account key password_spelled (Some (string (password_text password))) ≡ Ok password
password_read account key password fits =
    ap (λ (r : Result (List ℕ) FromHexError). demand_at account key rules.Text (option_map (from_be_bytes w64) (result_ok r))) (decode_sized-encode_lower (to_be_bytes w64 password) 8 refl (are_bytes password))
    ∙ ap (λ (n : ℕ). demand_at account key rules.Text (Some n)) (from_be_bytes-to_be_bytes_8 password fits)

-- a string that passes a test, and that isn't taken
pub new_string_read : (account : ℕ) (key : SetupKey) (test is_taken : List ℕ → Bool) (bytes : List ℕ) → test bytes ≡ true → is_taken bytes ≡ false → untaken account key is_taken (read_spelled account key (passed test) (Some (string bytes))) ≡ Ok bytes
new_string_read account key test is_taken bytes legal new =
    ap (λ (b : Bool). untaken account key is_taken (demand_at account key rules.Text (then_some b bytes))) legal
    ∙ ap (λ (b : Bool). demand_at account key rules.Twice (then_some (not b) bytes)) new

pub uid_read : (account : ℕ) (key : SetupKey) (is_taken : ℕ → Bool) (uid : ℕ) → is_number 1 4294967294 uid ≡ true → is_taken uid ≡ false → untaken account key is_taken (read_number account key 1 4294967294 (Some (number uid))) ≡ Ok uid
uid_read account key is_taken uid legal new =
    ap (untaken account key is_taken) (number_read account key 1 4294967294 uid legal)
    ∙ ap (λ (b : Bool). demand_at account key rules.Twice (then_some (not b) uid)) new

-- the items of an array that is written
pub data_of-items : (ds : List Data) → data_of (items_of ds) ≡ ds
data_of-items [] = refl
data_of-items (d ∷ ds) = ap (λ (more : List Data). d ∷ more) (data_of-items ds)

-- a list of data of at most so many
pub items_read : (account : ℕ) (key : SetupKey) (most : ℕ) (ds : List Data) → nat_le (length ds) most ≡ true → demand_at account key rules.Range (passed (λ all. nat_le (length all) most) (data_of (items_of ds))) ≡ Ok ds
items_read account key most ds few =
    ap (λ (all : List Data). demand_at account key rules.Range (then_some (nat_le (length all) most) all)) (data_of-items ds)
    ∙ ap (λ (b : Bool). demand_at account key rules.Range (then_some b ds)) few
