-- Inner: what a setup file says of its texts, and of a grant.
use Rattle.std.specs.Prelude.{ℕ, List, Bool, ◌&&◌}
use Rattle.policy_model.specs.declared.account.Grant.{Grant}
use Rattle.request_catalogue.specs.TextBytes.{label_bytes}
use Rattle.request_catalogue.specs.Texts.{is_text}
use Rattle.account_file.specs.declared.settings.Texts.{Texts}
use Rattle.account_file.specs.Entries.{TextEntries}

-- what a file says of these texts
abbrev pub text_entries : Texts → TextEntries
text_entries t =
    record {
      socket = t.socket.now;
      launcher = t.launcher.now;
      vault = t.vault.now;
      words = t.words.now;
      banner = t.banner.now;
    }

-- texts of a setup
abbrev pub are_legal : Texts → Bool
are_legal t =
    is_text 1 100 t.socket.now && is_text 1 255 t.launcher.now && is_text 1 255 t.vault.now && is_text 1 255 t.words.now
    && is_text 0 200 t.banner.now

-- what a file says of this grant
abbrev pub grant_entry : Grant → List ℕ × ℕ
grant_entry g = (label_bytes g.name, g.mode)
