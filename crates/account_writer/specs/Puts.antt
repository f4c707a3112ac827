-- Inner: the same tables, as the code fills them key after key.
use Rattle.std.specs.Prelude.{ℕ, pos, Bool, ◌&&◌, List, [], ◌∷◌, map, codes, nat_le, nat_lt}
use Rattle.std.specs.Cmp.Lexicographic.{slice_cmp}
use Rattle.std.specs.Ordering.{nat_cmp, match_ordering}
use Rattle.otp_hash.specs.SeedBytes.{seed_bytes}
use Rattle.policy_model.specs.declared.account.Account.{Account}
use Rattle.policy_model.specs.declared.account.Grant.{Grant}
use Rattle.policy_model.specs.Settings.{Settings}
use Rattle.otp_ledger.specs.declared.ledger.Current.{Current}
use Rattle.toml.specs.Data.{Data, string, integer, array, table, Members, no_members, member}
use Rattle.toml.specs.View.{items_of}
use Rattle.account_writer.specs.Tables.{account_data, grant_data, width_word}

-- a table with one key more, in the order of the keys
abbrev pub put_member : List ℕ → Data → Members → Members
put_member k d no_members = member k d no_members
put_member k d (member l e ms) =
    match_ordering (slice_cmp nat_cmp k l) (member k d (member l e ms)) (member l d ms) (member l e (put_member k d ms))

-- a whole number as TOML has it
abbrev pub number : ℕ → Data
number n = integer (pos n)

-- the keys of a table
abbrev pub members_in : Data → Members
members_in (table ms) = ms
members_in _ = no_members

-- the keys of a grant
abbrev pub grant_members : Grant → Members
grant_members g = members_in (grant_data g)

-- the keys of an account
abbrev pub account_members : Account → Members
account_members a = members_in (account_data a)

-- the table that has one account alone
abbrev pub alone : Account → Members
alone a = put_member (codes "account") (array (items_of (account_data a ∷ []))) no_members

-- an account with what its chain has come to
abbrev pub with_current : Account → Current → Account
with_current a current = record a { sequence = current.sequence; password = current.password }

-- the texts of a setup, besides other keys
abbrev pub put_texts : Settings → Members → Members
put_texts s ms =
    put_member (codes "frames") (string (width_word s.frames))
    (put_member (codes "salt") (string (seed_bytes s.salt))
    (put_member (codes "banner") (string s.banner)
    (put_member (codes "words") (string s.words)
    (put_member (codes "vault") (string s.vault)
    (put_member (codes "launcher") (string s.launcher)
    (put_member (codes "socket") (string s.socket) ms))))))

-- the numbers of a setup, besides other keys
abbrev pub put_counts : Settings → Members → Members
put_counts s ms =
    put_member (codes "info") (array (items_of (map number s.info)))
    (put_member (codes "hold") (number s.hold)
    (put_member (codes "tries") (number s.tries)
    (put_member (codes "requests") (number s.requests)
    (put_member (codes "connections") (number s.connections)
    (put_member (codes "workers") (number s.workers) ms)))))

-- the tables of a setup's accounts, besides other keys; no key if there are none, so that tables may be appended
abbrev pub put_accounts : List Data → Members → Members
put_accounts [] ms = ms
put_accounts (d ∷ ds) ms = put_member (codes "account") (array (items_of (d ∷ ds))) ms

-- an account's sequence has at most four digits, and its password 64 bits
abbrev pub is_writable : Account → Bool
is_writable a = nat_le a.sequence 9999 && nat_lt a.password 18446744073709551616
