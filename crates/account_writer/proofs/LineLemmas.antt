-- The lines of a setup, and those of one account after them.
use Rattle.std.proofs.Common.{◌≡◌, ℕ, Bool, true, false, ◌||◌, List, [], ◌∷◌, ◌++◌, map, codes, refl, sym, ap, ◌∙◌, subst, append_assoc, append-nil}
use Rattle.std.proofs.lemmas.Bool.{false≢true}
use Rattle.toml.specs.Data.{array}
use Rattle.toml.specs.Tables.{Expression, array_table}
use Rattle.toml.specs.Text.{IsDocumentText, IsLinesText, are_tables, elements, expressions, pairs, section, sections}
use Rattle.toml.specs.View.{items_of}
use Rattle.policy_model.specs.declared.account.Account.{Account}
use Rattle.policy_model.specs.Settings.{Settings}
use Rattle.account_writer.specs.Puts.{account_members, alone, number}
use Rattle.account_writer.specs.Tables.{account_data, other_members, setup_members}
use Rattle.account_writer.specs.Written.{with_account}

-- 1. Lines after lines

-- the parts of a key before the last, and the last
abbrev pub Key : Type 0
Key = List (List ℕ) × List ℕ

abbrev has_lines : List Expression → Bool
has_lines [] = false
has_lines (e ∷ es) = true

lines_join : (started : Bool) (es fs : List Expression) (bytes text : List ℕ) → (started || has_lines es) ≡ true
    → IsLinesText false started es bytes → IsLinesText false true fs text
    → IsLinesText false started (es ++ fs) (bytes ++ text)
lines_join false [] fs bytes text some h more = absurd (false≢true some)
lines_join true [] fs bytes text some h more =
    subst (IsLinesText false true fs) (sym (ap (λ (w : List ℕ). w ++ text) h)) more
lines_join started (e ∷ es) fs bytes text some h more =
    let (this, rest, whole, line, rest_is) = h in (
      this,
      rest ++ text,
      ap (λ (w : List ℕ). w ++ text) whole ∙ append_assoc this rest text,
      line,
      lines_join true es fs
          rest text refl rest_is more,
    )

-- an empty line before a header
pub lines_spaced : (key : Key) (es : List Expression) (text : List ℕ)
    → IsLinesText false false ((key, array_table) ∷ es) text
    → IsLinesText false true ((key, array_table) ∷ es) (10 ∷ text)
lines_spaced key es text h =
    let (this, rest, whole, line, rest_is) = h in
    (10 ∷ this, rest, ap (λ (w : List ℕ). 10 ∷ w) whole, ap (λ (w : List ℕ). 10 ∷ w) line, rest_is)

-- 2. The lines of a setup, and those of an account

abbrev pub accounts_key : Key
accounts_key = ([], codes "account")

-- the lines of an account
abbrev pub account_lines : Account → List Expression
account_lines a = elements accounts_key (items_of (account_data a ∷ []))

-- those after its header
abbrev pub own_lines : Account → List Expression
own_lines a = (pairs (account_members a) ++ sections (codes "account" ∷ []) (account_members a)) ++ []

pub alone_lines : (a : Account) → expressions (alone a) ≡ account_lines a
alone_lines a = append-nil (account_lines a)

all_tables : (accounts : List Account) → are_tables (items_of (map account_data accounts)) ≡ true
all_tables [] = refl
all_tables (a ∷ accounts) = all_tables accounts

elements_more : (accounts : List Account) (a : Account)
    → elements accounts_key (items_of (map account_data (accounts ++ a ∷ []))) ≡ elements accounts_key
    (items_of (map account_data accounts)) ++ account_lines a
elements_more [] a = refl
elements_more (b ∷ accounts) a =
    let own = pairs (account_members b) ++ sections (codes "account" ∷ []) (account_members b) in
    ap (λ (es : List Expression). (accounts_key, array_table) ∷ (own ++ es)) (elements_more accounts a)
    ∙ ap (λ (es : List Expression). (accounts_key, array_table) ∷ es)
    (sym (append_assoc own (elements accounts_key (items_of (map account_data accounts))) (account_lines a)))

no_info : (info : List ℕ) → section ([], codes "info") (array (items_of (map number info))) ≡ []
no_info [] = refl
no_info (n ∷ info) = refl

no_sections : (s : Settings) → sections [] (other_members s) ≡ []
no_sections s = rw (no_info s.info) refl

pub setup_lines : (s : Settings) (accounts : List Account)
    → expressions (setup_members s (map account_data accounts)) ≡ pairs (other_members s) ++ elements accounts_key
    (items_of (map account_data accounts))
setup_lines s [] = ap (λ (es : List Expression). pairs (other_members s) ++ es) (no_sections s)
setup_lines s (a ∷ accounts) =
    let own = elements accounts_key (items_of (map account_data (a ∷ accounts))) in
    rw (all_tables accounts) (ap (λ (es : List Expression). pairs (other_members s) ++ es)
    (ap (λ (es : List Expression). own ++ es) (no_sections s) ∙ append-nil own))

-- after what is written for a setup, the lines of an account are those of the setup with the account
pub lines_more : (s : Settings) (a : Account) (bytes text : List ℕ)
    → IsDocumentText false (setup_members s (map account_data s.accounts)) bytes
    → IsLinesText false true (account_lines a) text
    → IsDocumentText false (setup_members (with_account s a) (map account_data (s.accounts ++ a ∷ []))) (bytes ++ text)
lines_more s a bytes text file behind =
    let so_far = pairs (other_members s) ++ elements accounts_key (items_of (map account_data s.accounts)) in
    let all : expressions (setup_members (with_account s a) (map account_data (s.accounts ++ a ∷ []))) ≡ so_far ++
    account_lines a =
    setup_lines (with_account s a) (s.accounts ++ a ∷ [])
    ∙ ap (λ (es : List Expression). pairs (other_members s) ++ es) (elements_more s.accounts a)
    ∙ sym (append_assoc (pairs (other_members s)) (elements accounts_key (items_of (map account_data s.accounts)))
    (account_lines a)) in
    let own : IsLinesText false false so_far bytes = subst (λ (es : List Expression). IsLinesText false false es bytes)
    (setup_lines s s.accounts) file in
    subst (λ (es : List Expression). IsLinesText false false es (bytes ++ text)) (sym all)
    (lines_join false so_far (account_lines a) bytes text refl own behind)
