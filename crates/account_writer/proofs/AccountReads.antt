-- The tables of grants and accounts are read as these.
use Rattle.std.proofs.Common.{◌≡◌, ℕ, ◌+◌, ◌<◌, ◌^◌, Bool, true, false, List, [], ◌∷◌, ◌++◌, map, length, nat_le, le-leb, refl, sym, ap, ◌∙◌, subst, arith, append_assoc, Some, Result, Ok, codes, ◌==◌}
use Rattle.std.specs.Prelude.{nat_lt}
use Rattle.std.specs.List.{list_all, list_any}
use Rattle.std.specs.Str.{bytes_eq}
use Rattle.std.proofs.lemmas.Bool.{and_parts, and_from}
use Rattle.std.proofs.lemmas.Bool.Decides.{nat_tests}
use Rattle.std.proofs.lemmas.List.{append-nil, length-map, map-append}
use Rattle.otp_hash.specs.declared.chain.Algo.{Algo}
use Rattle.otp_hash.specs.Names.{algo_named}
use Rattle.otp_hash.specs.SeedBytes.{seed_bytes}
use Rattle.request_catalogue.specs.Results.{◌>>=◌}
use Rattle.request_catalogue.specs.Texts.{is_label, is_name}
use Rattle.request_catalogue.specs.TextBytes.{label_bytes, name_bytes}
use Rattle.policy_model.specs.declared.account.Account.{Account}
use Rattle.policy_model.specs.declared.account.Grant.{Grant}
use Rattle.policy_model.specs.Settings.{are_accounts, are_distinct, are_grants, is_account, is_number, same_label, same_name}
use Rattle.toml.specs.Data.{Data, Members, array, as_bool, boolean, get_member, no_items, table}
use Rattle.toml.specs.View.{items_of}
use Rattle.account_file.specs.declared.fault.SetupFault.{SetupFault}
use Rattle.account_file.specs.declared.fault.SetupKey.TheVariants as keys
use Rattle.account_file.specs.Accounts.{account_keys, next_account, read_account, read_grant, untaken}
use Rattle.account_file.specs.Entries.{AccountEntry, account_entry}
use Rattle.account_file.specs.Keys.{member_or, passed, password_spelled, read_as, read_number, read_spelled, seed_spelled}
use Rattle.account_file.specs.Texts.{grant_entry}
use Rattle.account_file.specs.Trees.{are_known, read_behind, read_each}
use Rattle.account_file.proofs.KeyLemmas.{list_any-map}
use Rattle.account_writer.specs.Puts.{account_members, is_writable, number}
use Rattle.account_writer.specs.Tables.{account_data, grant_data}
use Rattle.account_writer.proofs.KeyReads.{algo_read, items_read, new_string_read, number_read, password_read, seed_read, uid_read}
use Rattle.account_writer.proofs.ListLemmas.{new_behind}

-- one item, and what follows it
one_more : {A : Type 0} (read : List A → Data → Result A SetupFault) (others : List A) (d : Data) (ds : List Data) (x : A) → read others d ≡ Ok x → read_behind read others (d ∷ ds) ≡ read_behind read (others ++ x ∷ []) ds
one_more {A} read others d ds x here = ap (λ (r : Result A SetupFault). r >>= (λ a. read_behind read (others ++ a ∷ []) ds)) here

-- 1. Grants

grant_read : (account : ℕ) (others : List (List ℕ × ℕ)) (g : Grant) → list_any (λ other. bytes_eq other.0 (label_bytes g.name)) others ≡ false → is_number 1 3 g.mode ≡ true → read_grant account others (grant_data g) ≡ Ok (grant_entry g)
grant_read account others g new legal =
    ap (λ (r : Result (List ℕ) SetupFault). r >>= (λ name. read_number account keys.GrantMode 1 3 (Some (number g.mode)) >>= (λ mode. Ok (name, mode)))) (new_string_read account keys.GrantName is_label (λ name. list_any (λ (other : List ℕ × ℕ). bytes_eq other.0 name) others) (label_bytes g.name) g.name.legal new)
    ∙ ap (λ (r : Result ℕ SetupFault). r >>= (λ mode. Ok (label_bytes g.name, mode))) (number_read account keys.GrantMode 1 3 g.mode legal)

grants_from : (account : ℕ) (before rest : List Grant) → list_all (λ (g : Grant). is_number 1 3 g.mode) rest ≡ true → are_distinct (λ (a b : Grant). same_label a.name b.name) (before ++ rest) ≡ true → read_behind (read_grant account) (map grant_entry before) (map grant_data rest) ≡ Ok (map grant_entry (before ++ rest))
grants_from account before [] modes apart = ap (λ (gs : List Grant). Ok (map grant_entry gs)) (sym (append-nil before))
grants_from account before (g ∷ rest) modes apart =
    let parts = and_parts (is_number 1 3 g.mode) (list_all (λ (h : Grant). is_number 1 3 h.mode) rest) modes in
    let new : list_any (λ (other : List ℕ × ℕ). bytes_eq other.0 (label_bytes g.name)) (map grant_entry before) ≡ false = list_any-map (λ (other : List ℕ × ℕ). bytes_eq other.0 (label_bytes g.name)) grant_entry before ∙ new_behind (λ (a b : Grant). same_label a.name b.name) before g rest apart in
    let joined : (before ++ g ∷ []) ++ rest ≡ before ++ g ∷ rest = append_assoc before (g ∷ []) rest in
    let more : are_distinct (λ (a b : Grant). same_label a.name b.name) ((before ++ g ∷ []) ++ rest) ≡ true = subst (λ (gs : List Grant). are_distinct (λ (a b : Grant). same_label a.name b.name) gs ≡ true) (sym joined) apart in
    one_more (read_grant account) (map grant_entry before) (grant_data g) (map grant_data rest) (grant_entry g) (grant_read account (map grant_entry before) g new parts.0)
    ∙ ap (λ (es : List (List ℕ × ℕ)). read_behind (read_grant account) es (map grant_data rest)) (sym (map-append grant_entry before (g ∷ [])))
    ∙ grants_from account (before ++ g ∷ []) rest parts.1 more
    ∙ ap (λ (gs : List Grant). Ok (map grant_entry gs)) joined

grants_read : (account : ℕ) (gs : List Grant) → are_grants gs ≡ true → read_each account keys.Grants 64 (read_grant account) (Some (array (items_of (map grant_data gs)))) ≡ Ok (map grant_entry gs)
grants_read account gs legal =
    let parts = and_parts _ _ legal in
    let first = and_parts _ _ parts.0 in
    let few : nat_le (length (map grant_data gs)) 64 ≡ true = ap (λ (n : ℕ). nat_le n 64) (length-map gs grant_data) ∙ first.0 in
    ap (λ (r : Result (List Data) SetupFault). r >>= read_behind (read_grant account) []) (items_read account keys.Grants 64 (map grant_data gs) few)
    ∙ grants_from account [] gs first.1 parts.1

-- 2. Accounts

-- an account's own parts
legal_parts : (a : Account) → is_account a ≡ true → (is_number 1 4294967294 a.uid ≡ true) × (nat_le a.sequence 9999 ≡ true) × (are_grants a.grants ≡ true)
legal_parts a legal =
    let parts = and_parts _ _ legal in
    let first = and_parts _ _ parts.0 in
    (first.0, first.1, parts.1)

-- the keys of an account, one after the other
keys_by : (n : ℕ) (others : List AccountEntry) (ms : Members) (name : List ℕ) (uid : ℕ) (algo : Algo) (seed : List ℕ) (sequence password : ℕ) (enabled : Bool) (grants : List (List ℕ × ℕ))
    → are_known account_keys ms ≡ true
    → untaken n keys.Name (λ taken. list_any (λ (other : AccountEntry). bytes_eq other.name taken) others) (read_spelled n keys.Name (passed is_name) (get_member (codes "name") ms)) ≡ Ok name
    → untaken n keys.Uid (λ taken. list_any (λ (other : AccountEntry). other.uid == taken) others) (read_number n keys.Uid 1 4294967294 (get_member (codes "uid") ms)) ≡ Ok uid
    → read_spelled n keys.Algorithm algo_named (get_member (codes "algorithm") ms) ≡ Ok algo
    → read_spelled n keys.Seed seed_spelled (get_member (codes "seed") ms) ≡ Ok seed
    → read_number n keys.Sequence 0 9999 (get_member (codes "sequence") ms) ≡ Ok sequence
    → read_spelled n keys.Password password_spelled (get_member (codes "password") ms) ≡ Ok password
    → read_as n keys.Enabled as_bool (member_or (boolean true) (codes "enabled") ms) ≡ Ok enabled
    → read_each n keys.Grants 64 (read_grant n) (member_or (array no_items) (codes "grants") ms) ≡ Ok grants
    → read_account n others (table ms) ≡ Ok (record { name = name; uid = uid; algo = algo; seed = seed; sequence = sequence; password = password; enabled = enabled; grants = grants })
keys_by n others ms name uid algo seed sequence password enabled grants known name_is uid_is algo_is seed_is sequence_is password_is enabled_is grants_are =
    rw (known, name_is, uid_is, algo_is, seed_is, sequence_is, password_is, enabled_is, grants_are) refl

-- an account's sequence and password, in their ranges
writable_parts : (a : Account) → is_writable a ≡ true → (is_number 0 9999 a.sequence ≡ true) × (a.password < 2 ^ 64)
writable_parts a is =
    let parts = and_parts (nat_le a.sequence 9999) (nat_lt a.password 18446744073709551616) is in
    (and_from _ _ (le-leb 0 a.sequence (omega arith)) parts.0, grind (arith, nat_tests, parts.1))

account_read : (n : ℕ) (others : List AccountEntry) (a : Account) → is_account a ≡ true → is_writable a ≡ true → list_any (λ (other : AccountEntry). bytes_eq other.name (name_bytes a.name)) others ≡ false → list_any (λ (other : AccountEntry). other.uid == a.uid) others ≡ false → read_account n others (account_data a) ≡ Ok (account_entry a)
account_read n others a legal writable new_name new_uid =
    let own = legal_parts a legal in
    let written = writable_parts a writable in
    keys_by n others (account_members a) (name_bytes a.name) a.uid a.algo (seed_bytes a.seed) a.sequence a.password a.enabled (map grant_entry a.grants)
    refl
    (new_string_read n keys.Name is_name (λ name. list_any (λ (other : AccountEntry). bytes_eq other.name name) others) (name_bytes a.name) a.name.legal new_name)
    (uid_read n keys.Uid (λ uid. list_any (λ (other : AccountEntry). other.uid == uid) others) a.uid own.0 new_uid)
    (algo_read n keys.Algorithm a.algo)
    (seed_read n keys.Seed a.seed)
    (number_read n keys.Sequence 0 9999 a.sequence written.0)
    (password_read n keys.Password a.password written.1)
    refl
    (grants_read n a.grants own.2)

-- accounts that can be written, and that differ from those before
pub record AreWritable (before rest : List Account) : Type 0 where
  pub legal : list_all is_account rest ≡ true
  pub writable : list_all is_writable rest ≡ true
  pub names : are_distinct (λ (a b : Account). same_name a.name b.name) (before ++ rest) ≡ true
  pub uids : are_distinct (λ (a b : Account). a.uid == b.uid) (before ++ rest) ≡ true

next_are : (before : List Account) (a : Account) (rest : List Account) → AreWritable before (a ∷ rest) → AreWritable (before ++ a ∷ []) rest
next_are before a rest are =
    let legal = and_parts (is_account a) (list_all is_account rest) are.legal in
    let writable = and_parts (is_writable a) (list_all is_writable rest) are.writable in
    let joined : before ++ a ∷ rest ≡ (before ++ a ∷ []) ++ rest = sym (append_assoc before (a ∷ []) rest) in
    record {
      legal = legal.1;
      writable = writable.1;
      names = subst (λ (l : List Account). are_distinct (λ (a b : Account). same_name a.name b.name) l ≡ true) joined are.names;
      uids = subst (λ (l : List Account). are_distinct (λ (a b : Account). a.uid == b.uid) l ≡ true) joined are.uids;
    }

account_here : (before : List Account) (a : Account) (rest : List Account) → AreWritable before (a ∷ rest) → next_account (map account_entry before) (account_data a) ≡ Ok (account_entry a)
account_here before a rest are =
    let others = map account_entry before in
    let new_name : list_any (λ (other : AccountEntry). bytes_eq other.name (name_bytes a.name)) others ≡ false = list_any-map (λ (other : AccountEntry). bytes_eq other.name (name_bytes a.name)) account_entry before ∙ new_behind (λ (a b : Account). same_name a.name b.name) before a rest are.names in
    let new_uid : list_any (λ (other : AccountEntry). other.uid == a.uid) others ≡ false = list_any-map (λ (other : AccountEntry). other.uid == a.uid) account_entry before ∙ new_behind (λ (a b : Account). a.uid == b.uid) before a rest are.uids in
    account_read (length others + 1) others a (and_parts (is_account a) (list_all is_account rest) are.legal).0 (and_parts (is_writable a) (list_all is_writable rest) are.writable).0 new_name new_uid

accounts_from : (before rest : List Account) → AreWritable before rest → read_behind next_account (map account_entry before) (map account_data rest) ≡ Ok (map account_entry (before ++ rest))
accounts_from before [] are = ap (λ (all : List Account). Ok (map account_entry all)) (sym (append-nil before))
accounts_from before (a ∷ rest) are =
    one_more next_account (map account_entry before) (account_data a) (map account_data rest) (account_entry a) (account_here before a rest are)
    ∙ ap (λ (es : List AccountEntry). read_behind next_account es (map account_data rest)) (sym (map-append account_entry before (a ∷ [])))
    ∙ accounts_from (before ++ a ∷ []) rest (next_are before a rest are)
    ∙ ap (λ (all : List Account). Ok (map account_entry all)) (append_assoc before (a ∷ []) rest)

pub accounts_read : (accounts : List Account) → are_accounts accounts ≡ true → list_all is_writable accounts ≡ true → read_each 0 keys.Account 1024 next_account (Some (array (items_of (map account_data accounts)))) ≡ Ok (map account_entry accounts)
accounts_read accounts legal writable =
    let uids = and_parts _ _ legal in
    let names = and_parts _ _ uids.0 in
    let first = and_parts _ _ names.0 in
    let few : nat_le (length (map account_data accounts)) 1024 ≡ true = ap (λ (n : ℕ). nat_le n 1024) (length-map accounts account_data) ∙ first.0 in
    let are : AreWritable [] accounts = record { legal = first.1; writable = writable; names = names.1; uids = uids.1 } in
    ap (λ (r : Result (List Data) SetupFault). r >>= read_behind next_account []) (items_read 0 keys.Account 1024 (map account_data accounts) few)
    ∙ accounts_from [] accounts are
