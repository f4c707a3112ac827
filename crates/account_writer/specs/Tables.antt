-- Believed: the tables that are printed for the parts of a setup, with the keys in the order in which TOML prints them.
use Rattle.std.specs.Prelude.{ℕ, pos, List, [], map, codes}
use Rattle.otp_hash.specs.Names.{algo_name}
use Rattle.otp_hash.specs.SeedBytes.{seed_bytes}
use Rattle.request_catalogue.specs.declared.width.Width.{Width}
use Rattle.request_catalogue.specs.declared.width.Width.TheVariants.{Narrow, Wide}
use Rattle.request_catalogue.specs.TextBytes.{name_bytes, label_bytes}
use Rattle.policy_model.specs.declared.account.Account.{Account}
use Rattle.policy_model.specs.declared.account.Grant.{Grant}
use Rattle.policy_model.specs.Settings.{Settings, password_text}
use Rattle.toml.specs.Data.{Data, string, integer, boolean, array, table, Members, no_members, member}
use Rattle.toml.specs.View.{items_of}

-- the word for a width of frames
abbrev pub width_word : Width → List ℕ
width_word Narrow = codes "narrow"
width_word Wide = codes "wide"

-- the table that is written for a grant
abbrev pub grant_data : Grant → Data
grant_data g = table (member (codes "mode") (integer (pos g.mode))
    (member (codes "name") (string (label_bytes g.name)) no_members))

-- the table that is written for an account
abbrev pub account_data : Account → Data
account_data a = table (member (codes "algorithm") (string (algo_name a.algo))
    (member (codes "enabled") (boolean a.enabled)
    (member (codes "grants") (array (items_of (map grant_data a.grants)))
    (member (codes "name") (string (name_bytes a.name))
    (member (codes "password") (string (password_text a.password))
    (member (codes "seed") (string (seed_bytes a.seed))
    (member (codes "sequence") (integer (pos a.sequence))
    (member (codes "uid") (integer (pos a.uid)) no_members))))))))

-- the keys that are written for a setup, without its accounts
abbrev pub other_members : Settings → Members
other_members s = member (codes "banner") (string s.banner)
    (member (codes "connections") (integer (pos s.connections))
    (member (codes "frames") (string (width_word s.frames))
    (member (codes "hold") (integer (pos s.hold))
    (member (codes "info") (array (items_of (map (λ n. integer (pos n)) s.info)))
    (member (codes "launcher") (string s.launcher)
    (member (codes "requests") (integer (pos s.requests))
    (member (codes "salt") (string (seed_bytes s.salt))
    (member (codes "socket") (string s.socket)
    (member (codes "tries") (integer (pos s.tries))
    (member (codes "vault") (string s.vault)
    (member (codes "words") (string s.words)
    (member (codes "workers") (integer (pos s.workers)) no_members))))))))))))

-- the keys that are written for a setup; without accounts none is `account`, so that tables may be appended
abbrev pub setup_members : Settings → List Data → Members
setup_members s [] = other_members s
setup_members s accounts = member (codes "account") (array (items_of accounts)) (other_members s)
