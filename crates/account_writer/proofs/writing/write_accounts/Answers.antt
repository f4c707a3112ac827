use Rattle.std.proofs.Common.{◌≡◌, ◌∙◌, ℕ, false, List, true, IsUtf8, length, map, sym, ap, subst, string_bytes}
use Rattle.std.specs.List.{list_all}
use Rattle.std.proofs.lemmas.Str.{IsUtf8-string_bytes}
use Rattle.policy_model.specs.declared.account.Account.{Account}
use Rattle.policy_model.specs.Settings.{IsInRange, Settings}
use Rattle.toml.specs.Data.{Data, Members, members_have_valid_dates}
use Rattle.toml.specs.Text.{IsDocumentText}
use Rattle.toml.specs.View.{table_view, view}
use Rattle.otp_ledger.specs.Accounts.{AccountState}
use Rattle.account_writer.specs.CurrentSetup.{current_accounts, current_setup}
use Rattle.account_writer.specs.Puts.{is_writable}
use Rattle.account_writer.specs.Tables.{account_data, setup_members}
use Rattle.account_writer.specs.Written.{IsFileOf}
use Rattle.account_writer.proofs.BehindLemmas.{file_read}
use Rattle.account_writer.proofs.CurrentLemmas.{is_setup_after, range_current, words_of}
use Rattle.account_writer.proofs.LengthLemmas.{lines_fit}
use Rattle.account_writer.proofs.SetupReads.{setup_dated}
use Rattle.account_writer.proofs.writing.write_accounts.Goals as goal

-- a printed text is what is written for the setup whose table it has
is_file : (setup : Settings) (states : List AccountState) (accounts : List Account) (values : List Data) (ms : Members)
    (text bytes : List ℕ) → accounts ≡ setup.accounts → IsInRange setup → length accounts ≡ length states
    → ms ≡ setup_members setup values → values ≡ map account_data (current_accounts accounts states)
    → list_all is_writable (current_accounts accounts states) ≡ true → IsDocumentText false ms text → bytes ≡ text
    → IsUtf8 text → IsFileOf (current_setup setup states) bytes
is_file setup states accounts values ms text bytes own range same seen are writable lines same_text utf8 =
    let whole : Settings = current_setup setup states in
    let current : current_accounts accounts states ≡ whole.accounts = ap
    (λ (all : List Account). current_accounts all states) own in
    let table : ms ≡ setup_members whole (map account_data whole.accounts) = seen ∙ ap (setup_members setup)
    (are ∙ ap (map account_data) current) in
    let legal : list_all is_writable whole.accounts ≡ true = sym (ap (list_all is_writable) current) ∙ writable in
    let long : length setup.accounts ≡ length states = sym (ap length own) ∙ same in
    let in_range = range_current setup states range long legal in
    let written : IsDocumentText false (setup_members whole (map account_data whole.accounts)) bytes = subst
    (IsDocumentText false (setup_members whole (map account_data whole.accounts))) (sym same_text)
    (subst (λ (m : Members). IsDocumentText false m text) table lines) in
    record {
      in_range = in_range;
      passwords = words_of whole.accounts legal;
      utf8 = subst IsUtf8 (sym same_text) utf8;
      lines = written;
      few = lines_fit whole bytes in_range written;
    }

pub returns-clause-written : goal.returns-clause-written
returns-clause-written c =
    is_file c.args.setup.now c.args.ledger.now.accounts c.args.ledger.now.setup.accounts
    (map view c.in_ok-accounts.accounts.items) (table_view c.in_ok-table.table) (string_bytes c.in_ok-text.text)
    c.into_bytes.result.items
    (ap (λ (s : Settings). s.accounts) c.requires) c.setup_table.ensures.in_range c.account_values.ensures.each
    c.in_ok-table.ensures.table c.in_ok-accounts.ensures.values c.in_ok-accounts.ensures.writable
    c.in_ok-text.ensures
    (ap (λ v. v.items) c.into_bytes.ensures.value) (IsUtf8-string_bytes c.in_ok-text.text)

pub returns-clause-current : goal.returns-clause-current
returns-clause-current c =
    file_read (current_setup c.args.setup.now c.args.ledger.now.accounts) c.into_bytes.result.items
    (returns-clause-written c)

pub returns-clause-after : goal.returns-clause-after
returns-clause-after c =
    is_setup_after c.args.setup.now c.args.ledger.now c.into_bytes.result.items c.requires (returns-clause-written c)

pub printed-requires : goal.printed-requires
printed-requires c =
    let accounts = current_accounts c.args.ledger.now.setup.accounts c.args.ledger.now.accounts in
    let seen : table_view c.in_ok-table.table ≡ setup_members c.args.setup.now (map account_data accounts) =
    c.in_ok-table.ensures.table ∙ ap (setup_members c.args.setup.now) c.in_ok-accounts.ensures.values in
    ap members_have_valid_dates seen ∙ setup_dated c.args.setup.now accounts
