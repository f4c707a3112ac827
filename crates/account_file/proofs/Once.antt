-- A file spells one setup: what a file says of two setups is the same only where they are the same.
use Rattle.std.proofs.Common.{◌≡◌, ℕ, List, [], ◌∷◌, map, refl, ap}
use Rattle.request_catalogue.proofs.TextLemmas.{same_from_label_bytes, same_from_name_bytes}
use Rattle.otp_hash.proofs.SeedLemmas.{same_from_seed_bytes}
use Rattle.policy_model.specs.declared.account.Account.{Account}
use Rattle.policy_model.specs.declared.account.Grant.{Grant}
use Rattle.policy_model.specs.Settings.{Settings}
use Rattle.account_file.specs.Entries.{AccountEntry, SetupEntries, account_entry, entries_of}
use Rattle.account_file.specs.Texts.{grant_entry}

map_once : {A B : Type 0} (f : A → B) → ((a b : A) → f a ≡ f b → a ≡ b) → (xs ys : List A) → map f xs ≡ map f ys → xs ≡ ys
map_once f once [] [] e = refl
map_once f once [] (y ∷ ys) e = absurd cc
map_once f once (x ∷ xs) [] e = absurd cc
map_once f once (x ∷ xs) (y ∷ ys) e =
    let first : f x ≡ f y = cc in
    let rest : map f xs ≡ map f ys = cc in
    let p = once x y first in
    let q = map_once f once xs ys rest in
    λ i. p i ∷ q i

grant_once : (a b : Grant) → grant_entry a ≡ grant_entry b → a ≡ b
grant_once a b e =
    let name = same_from_label_bytes a.name b.name (ap (λ (g : List ℕ × ℕ). g.0) e) in
    let mode = ap (λ (g : List ℕ × ℕ). g.1) e in
    λ i. record { name = name i; mode = mode i }

account_once : (a b : Account) → account_entry a ≡ account_entry b → a ≡ b
account_once a b e =
    let name = same_from_name_bytes a.name b.name (ap (λ (x : AccountEntry). x.name) e) in
    let seed = same_from_seed_bytes a.seed b.seed (ap (λ (x : AccountEntry). x.seed) e) in
    let grants = map_once grant_entry grant_once a.grants b.grants (ap (λ (x : AccountEntry). x.grants) e) in
    λ i. record {
      name = name i;
      uid = (e i).uid;
      algo = (e i).algo;
      seed = seed i;
      sequence = (e i).sequence;
      password = (e i).password;
      enabled = (e i).enabled;
      grants = grants i;
    }

pub setup_once : (a b : Settings) → entries_of a ≡ entries_of b → a ≡ b
setup_once a b e =
    let salt = same_from_seed_bytes a.salt b.salt (ap (λ (x : SetupEntries). x.salt) e) in
    let accounts = map_once account_entry account_once a.accounts b.accounts (ap (λ (x : SetupEntries). x.accounts) e) in
    λ i. record {
      socket = (e i).texts.socket;
      launcher = (e i).texts.launcher;
      vault = (e i).texts.vault;
      words = (e i).texts.words;
      banner = (e i).texts.banner;
      salt = salt i;
      frames = (e i).frames;
      workers = (e i).counts.workers;
      connections = (e i).counts.connections;
      requests = (e i).counts.requests;
      tries = (e i).counts.tries;
      hold = (e i).counts.hold;
      info = (e i).info;
      accounts = accounts i;
    }
