-- One account after a setup that is written.
use Rattle.std.proofs.Common.{◌≡◌, ℕ, zero, suc, Bool, true, false, cond, ◌==◌, List, [], ◌∷◌, ◌++◌, map, length, Option, Some, None, option_and_then, option_map, Result, Ok, IsUtf8, codes, refl, sym, ap, ◌∙◌, subst, eq-eqb, arith}
use Rattle.std.specs.Str.Lossy.{utf8_valid_len}
use Rattle.std.specs.Prelude.{nat_le}
use Rattle.std.specs.List.{list_all}
use Rattle.std.proofs.lemmas.Bool.{and_parts}
use Rattle.std.proofs.lemmas.Option.{same_Some}
use Rattle.std.proofs.lemmas.Str.{IsUtf8-append, utf8_valid_len-IsUtf8}
use Rattle.toml.specs.Data.{Members, array, no_items, items_are_sorted, members_are_sorted, members_have_valid_dates}
use Rattle.toml.specs.Tables.{Document, Expression, array_table, close, define, no_nodes}
use Rattle.toml.specs.Parse.{line, lines, parse_document, skip_bom}
use Rattle.toml.specs.Text.{IsDocumentText, IsLinesText}
use Rattle.toml.specs.View.{items_of}
use Rattle.toml.proofs.Blanks.{skip_newline}
use Rattle.toml.proofs.ReadBack.{parse_document-printed}
use Rattle.request_catalogue.specs.Results.{◌>>=◌}
use Rattle.policy_model.specs.declared.account.Account.{Account}
use Rattle.policy_model.specs.declared.account.Grant.{Grant}
use Rattle.policy_model.specs.Settings.{IsInRange, Settings, are_accounts, is_account}
use Rattle.account_file.specs.declared.fault.SetupFault.{SetupFault}
use Rattle.account_file.specs.declared.fault.SetupKey.TheVariants as keys
use Rattle.account_file.specs.declared.fault.SetupRule.TheVariants as rules
use Rattle.account_file.specs.Accounts.{next_account}
use Rattle.account_file.specs.Entries.{AccountEntry, account_entry, entries_of}
use Rattle.account_file.specs.Faults.{demand_at}
use Rattle.account_file.specs.Keys.{member_or}
use Rattle.account_file.specs.Setups.{setup_of}
use Rattle.account_file.specs.Trees.{read_each}
use Rattle.account_file.proofs.EachLemmas.{list_all_more}
use Rattle.account_writer.specs.Puts.{alone, is_writable, number}
use Rattle.account_writer.specs.Tables.{account_data, grant_data, setup_members}
use Rattle.account_writer.specs.Written.{IsFileOf, IsTextOf, accounts_of, with_account}
use Rattle.account_writer.proofs.AccountReads.{accounts_read}
use Rattle.account_writer.proofs.CurrentLemmas.{fits_word, writable_by}
use Rattle.account_writer.proofs.LengthLemmas.{lines_fit}
use Rattle.account_writer.proofs.LineLemmas.{Key, account_lines, accounts_key, alone_lines, lines_more, lines_spaced, own_lines}
use Rattle.account_writer.proofs.SetupReads.{accounts_dated, accounts_flat, setup_dated, setup_flat, text_is_setup}

-- 1. What is written is read

numbers_sorted : (info : List ℕ) → items_are_sorted (items_of (map number info)) ≡ true
numbers_sorted [] = refl
numbers_sorted (n ∷ info) = numbers_sorted info

grants_sorted : (gs : List Grant) → items_are_sorted (items_of (map grant_data gs)) ≡ true
grants_sorted [] = refl
grants_sorted (g ∷ gs) = grants_sorted gs

accounts_sorted : (accounts : List Account) → items_are_sorted (items_of (map account_data accounts)) ≡ true
accounts_sorted [] = refl
accounts_sorted (a ∷ accounts) = rw (grants_sorted a.grants, accounts_sorted accounts) refl

setup_sorted : (s : Settings) (accounts : List Account)
    → members_are_sorted (setup_members s (map account_data accounts)) ≡ true
setup_sorted s [] = rw (numbers_sorted s.info) refl
setup_sorted s (a ∷ accounts) = rw (accounts_sorted (a ∷ accounts), numbers_sorted s.info) refl

pub file_read : (s : Settings) (bytes : List ℕ) → IsFileOf s bytes → setup_of bytes ≡ Ok (entries_of s)
file_read s bytes is =
    let names = and_parts _ _ (and_parts _ _ is.in_range.accounts).0 in
    let legal = and_parts (nat_le (length s.accounts) 1024) (list_all is_account s.accounts) names.0 in
    text_is_setup bytes s is.utf8 (parse_document-printed false (setup_members s (map account_data s.accounts)) bytes
    is.lines (setup_flat s s.accounts) (setup_dated s s.accounts) (setup_sorted s s.accounts)) is.in_range
    (writable_by s.accounts legal.1 is.passwords)

pub alone_dated : (a : Account) → members_have_valid_dates (alone a) ≡ true
alone_dated a = rw (accounts_dated (a ∷ [])) refl

-- 2. An account alone, after an empty line

-- one more turn changes nothing that was read
turn_more : (doc : Document) (m : ℕ) (d : Document)
    → ((next : Document) (text : List ℕ) → lines m next text ≡ Some d → lines (suc m) next text ≡ Some d)
    → (ends : Bool) (read : Option (Expression × List ℕ))
    → cond ends (Some doc) (option_and_then (λ e. option_and_then (λ next. lines m next e.1) (define doc e.0)) read) ≡
    Some d
    → cond ends (Some doc) (option_and_then (λ e. option_and_then (λ next. lines (suc m) next e.1) (define doc e.0))
    read) ≡ Some d
turn_more doc m d later true read h = h
turn_more doc m d later false None h = h
turn_more doc m d later false (Some e) h = go (define doc e.0) h where
  go : (o : Option Document) → option_and_then (λ next. lines m next e.1) o ≡ Some d
      → option_and_then (λ next. lines (suc m) next e.1) o ≡ Some d
  go None h = h
  go (Some next) h = later next e.1 h

lines_room : (m : ℕ) (doc d : Document) (text : List ℕ) → lines m doc text ≡ Some d → lines (suc m) doc text ≡ Some d
unfolding lines
lines_room zero doc d text h = absurd cc
lines_room (suc m) doc d text h = turn_more doc m d (λ next rest. lines_room m next d rest) _ _ h

lines_newline : (m : ℕ) (doc : Document) (text : List ℕ) → lines (suc m) doc (10 ∷ text) ≡ lines (suc m) doc text
unfolding lines
lines_newline m doc text = rw (skip_newline text) refl

from_parsed : (o : Option Document) (ms : Members) → option_map (λ doc. close doc.0) o ≡ Some ms
    → (doc : Document) × (o ≡ Some doc) × (close doc.0 ≡ ms)
from_parsed None ms h = absurd cc
from_parsed (Some doc) ms h = (doc, refl, same_Some (close doc.0) ms h)

parse_spaced : (rest : List ℕ) (ms : Members) → parse_document (91 ∷ rest) ≡ Some ms
    → parse_document (10 ∷ 91 ∷ rest) ≡ Some ms
unfolding parse_document skip_bom
parse_spaced rest ms h =
    let text = 91 ∷ rest in
    let (doc, read, closed) = from_parsed (lines (suc (length text)) (no_nodes, []) text) ms h in
    let more : lines (suc (suc (length text))) (no_nodes, []) (10 ∷ text) ≡ Some doc = lines_newline (suc (length text))
    (no_nodes, []) text ∙ lines_room (suc (length text)) (no_nodes, []) doc text read in
    ap (λ (o : Option Document). option_map (λ doc. close doc.0) o) more ∙ ap (λ (m : Members). Some m) closed

-- a header is at the front of its lines
front_of : (key : Key) (es : List Expression) (text : List ℕ) → IsLinesText false false ((key, array_table) ∷ es) text
    → (rest : List ℕ) × (text ≡ 91 ∷ rest)
front_of key es text h =
    let (this, rest, whole, line, rest_is) = h in
    (_, whole ∙ ap (λ (w : List ℕ). w ++ rest) line)

alone_parsed : (a : Account) (text : List ℕ) → IsLinesText false false (account_lines a) text
    → parse_document (10 ∷ text) ≡ Some (alone a)
alone_parsed a text h =
    let own : IsDocumentText false (alone a) text = subst (λ (es : List Expression). IsLinesText false false es text)
    (sym (alone_lines a)) h in
    let read = parse_document-printed false (alone a) text own (omega (arith, accounts_flat (a ∷ [])))
    (rw (accounts_dated (a ∷ [])) refl) (rw (accounts_sorted (a ∷ [])) refl) in
    let (rest, is) = front_of accounts_key (own_lines a) text h in
    rw is (parse_spaced rest (alone a) (subst (λ (t : List ℕ). parse_document t ≡ Some (alone a)) is read))

-- an account by itself is a setup's accounts
alone_legal : (a : Account) → is_account a ≡ true → are_accounts (a ∷ []) ≡ true
alone_legal a legal = rw legal refl

abbrev accounts_in : Members → Result (List AccountEntry) SetupFault
accounts_in entries = read_each 0 keys.Account 1024 next_account (member_or (array no_items) (codes "account") entries)

alone_read : (a : Account) (text : List ℕ) → IsUtf8 text → is_account a ≡ true → is_writable a ≡ true
    → parse_document text ≡ Some (alone a) → accounts_of text ≡ Ok (account_entry a ∷ [])
alone_read a text utf8 legal writable parsed =
    let test : (utf8_valid_len text == length text) ≡ true = eq-eqb (utf8_valid_len text) (length text)
    (utf8_valid_len-IsUtf8 text utf8) in
    ap (λ (t : Bool). demand_at 0 keys.File rules.NotToml (cond t (parse_document text) None) >>= accounts_in) test
    ∙ ap (λ (o : Option Members). demand_at 0 keys.File rules.NotToml o >>= accounts_in) parsed
    ∙ accounts_read (a ∷ []) (alone_legal a legal) (rw writable refl)

-- 3. The text of an account

file_more : (s : Settings) (a : Account) (bytes text : List ℕ) → IsFileOf s bytes → IsInRange (with_account s a)
    → is_writable a ≡ true → IsUtf8 text → IsLinesText false true (account_lines a) text
    → IsFileOf (with_account s a) (bytes ++ text)
file_more s a bytes text is range writable utf8 behind =
    let lines = lines_more s a bytes text is.lines behind in
    record {
      in_range = range;
      passwords = list_all_more fits_word s.accounts a is.passwords (and_parts (nat_le a.sequence 9999) (fits_word a) writable).1;
      utf8 = IsUtf8-append bytes text is.utf8 utf8;
      lines = lines;
      few = lines_fit (with_account s a) (bytes ++ text) range lines;
    }

pub is_text : (a : Account) (text : List ℕ) → is_account a ≡ true → is_writable a ≡ true → IsUtf8 (10 ∷ text)
    → IsDocumentText false (alone a) text → IsTextOf a (10 ∷ text)
is_text a text legal writable utf8 printed =
    let own : IsLinesText false false (account_lines a) text = subst
    (λ (es : List Expression). IsLinesText false false es text) (alone_lines a) printed in
    let behind : IsLinesText false true (account_lines a) (10 ∷ text) = lines_spaced accounts_key (own_lines a) text own
    in
    record {
      alone = alone_read a (10 ∷ text) utf8 legal writable (alone_parsed a text own);
      written = λ s bytes is range. file_more s a bytes (10 ∷ text) is range writable utf8 behind;
      read = λ s bytes is range. file_read (with_account s a) (bytes ++ 10 ∷ text)
          (file_more s a bytes (10 ∷ text) is range writable utf8 behind);
    }
