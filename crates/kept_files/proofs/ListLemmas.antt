-- Which word list a text names, and that it is kept.
use Rattle.std.proofs.Common.{◌≡◌, ℕ, ◌≤◌, ◌<◌, ◌||◌, Bool, true, false, List, [], ◌∷◌, ◌++◌, Option, Some, None, Result, Ok, Err, length, refl, sym, ap, subst, ◌∙◌, le-leb}
use Rattle.std.specs.Prelude.{IsTrue, option_map}
use Rattle.std.specs.Str.{bytes_eq}
use Rattle.std.proofs.lemmas.Bool.{lt-leb}
use Rattle.std.proofs.lemmas.List.Folds.{list_any-append}
use Rattle.std.proofs.lemmas.Slice.Eq.{bytes_eq-Decides}
use Rattle.outside.specs.Touched.{has_name}
use Rattle.outside.proofs.Touching.{HasAll}
use Rattle.policy_model.specs.Settings.{Settings}
use Rattle.account_file.specs.declared.fault.SetupFault.{SetupFault}
use Rattle.account_file.specs.declared.fault.SetupKey.TheVariants as keys
use Rattle.account_file.specs.declared.fault.SetupRule.TheVariants as rules
use Rattle.account_file.specs.Entries.{SetupEntries, entries_of}
use Rattle.account_file.specs.Setups.{setup_of}
use Rattle.setup_reading.specs.Read.{judged_setup}
use Rattle.kept_files.specs.Kept.{Kept, KeepsAll, is_kept, kept_files}
use Rattle.kept_files.specs.Setups.{IsListOf, KeepsThese, SpellsList}

-- ---- which list a text names

-- a text within the limit is judged by what it spells, a longer one is no setup
judged_refused : (bytes : List ℕ) (fault : SetupFault) → length bytes ≤ 8388608 → setup_of bytes ≡ Err fault → judged_setup bytes ≡ Err fault
unfolding judged_setup
judged_refused bytes fault few spells = rw (le-leb (length bytes) 8388608 few) spells

-- the fault of a longer one
abbrev too_long : SetupFault
too_long = record { key = keys.File; rule = rules.TooLong; account = 0 }

judged_long : (bytes : List ℕ) → 8388608 < length bytes → judged_setup bytes ≡ Err too_long
unfolding judged_setup
judged_long bytes many = rw (lt-leb (length bytes) 8388608 many) refl

-- the word list of what was judged
abbrev words_in : Result SetupEntries SetupFault → List ℕ
words_in (Ok entries) = entries.texts.words
words_in (Err fault) = []

pub inside : {A : Type 0} (a b : A) → Some a ≡ Some b → a ≡ b
inside a b e = cc

-- a text that is refused names no list
refused : (text : Option (List ℕ)) (bytes : List ℕ) (fault : SetupFault) → text ≡ Some bytes → judged_setup bytes ≡ Err fault → IsListOf text None
refused text bytes fault there judged = record {
  spelled = tt;
  only = λ other spells.
      let same = inside bytes spells.bytes (sym there ∙ spells.there) in
      absurd (let e : Err fault ≡ Ok (entries_of spells.setup) = sym judged ∙ ap judged_setup same ∙ spells.spelled in cc);
}

pub names_refused : (text : Option (List ℕ)) (bytes : List ℕ) (fault : SetupFault) → text ≡ Some bytes → length bytes ≤ 8388608 → setup_of bytes ≡ Err fault → IsListOf text None
names_refused text bytes fault there few spells = refused text bytes fault there (judged_refused bytes fault few spells)

pub names_long : (text : Option (List ℕ)) (bytes : List ℕ) → text ≡ Some bytes → 8388608 < length bytes → IsListOf text None
names_long text bytes there many = refused text bytes too_long there (judged_long bytes many)

-- a text that spells a setup names just its list
pub names_list : (text : Option (List ℕ)) (list : List ℕ) → SpellsList text list → IsListOf text (Some list)
names_list text list first = record {
  spelled = first;
  only = λ other spells.
      let same = inside first.bytes spells.bytes (sym first.there ∙ spells.there) in
      let words = ap words_in (sym first.spelled ∙ ap judged_setup same ∙ spells.spelled) in
      ap Some (first.names ∙ words ∙ sym spells.names);
}

-- ---- these are kept

the_name : (one name : List ℕ) → IsTrue (has_name one (name ∷ [])) → one ≡ name
the_name one name among = go (bytes_eq name one) refl among where
  go : (b : Bool) → bytes_eq name one ≡ b → IsTrue (b || false) → one ≡ name
  go true is h = sym ((bytes_eq-Decides name one).0 is)
  go false is h = absurd (let e = h in cc)

no_name : {B : Type 0} (one : List ℕ) → IsTrue (has_name one []) → B
no_name one among = absurd (let e = among in cc)

-- a text that is kept of a setup spells its list
spelled_text : (text : Option (List ℕ)) (setup : Settings) (list : List ℕ) → option_map judged_setup text ≡ Some (Ok (entries_of setup)) → list ≡ setup.words → SpellsList text list
spelled_text None setup list spelled names = absurd cc
spelled_text (Some bytes) setup list spelled names = record {
  bytes = bytes;
  there = refl;
  setup = setup;
  spelled = inside (judged_setup bytes) (Ok (entries_of setup)) spelled;
  names = names;
}

-- no file is named
pub these_none : (kept : Kept) → KeepsThese [] [] kept
these_none kept = record {
  files = λ one among. no_name one among;
  lists = λ list named. no_name named.file named.among;
}

-- a setup is kept, and then the list that it names
pub these_setup : (name : List ℕ) (text found : Option (List ℕ)) (before after : Kept) → IsTrue (is_kept name before)
    → text ≡ kept_files before name → IsListOf text found → KeepsAll before after
    → ((list : List ℕ) → found ≡ Some list → IsTrue (is_kept list after)) → KeepsThese (name ∷ []) (name ∷ []) after
these_setup name text found before after there read names all list_kept = record {
  files = λ one among. subst (λ n. IsTrue (is_kept n after)) (sym (the_name one name among)) (all.kept name there);
  lists = λ list named.
      let same : kept_files after named.file ≡ text = ap (kept_files after) (the_name named.file name named.among) ∙ all.files name there ∙ sym read in
      list_kept list (names.only list (spelled_text text named.setup list (sym (ap (option_map judged_setup) same) ∙ named.spelled) named.names));
}

-- they are kept later, where each that is to hold a setup is among them
pub these_later : (names setups : List (List ℕ)) → HasAll names setups → (before after : Kept) → KeepsAll before after → KeepsThese names setups before → KeepsThese names setups after
these_later names setups within before after all these = record {
  files = λ one among. all.kept one (these.files one among);
  lists = λ list named.
      let same = all.files named.file (these.files named.file (within named.file named.among)) in
      all.kept list (these.lists list (record {
        file = named.file;
        among = named.among;
        setup = named.setup;
        spelled = sym (ap (option_map judged_setup) same) ∙ named.spelled;
        names = named.names;
      }));
}

-- these are kept, and others that are to hold no setup
pub these_both : (names more setups : List (List ℕ)) (kept : Kept) → KeepsThese names setups kept → KeepsThese more [] kept → KeepsThese (names ++ more) setups kept
these_both names more setups kept first second = record {
  files = λ one among. either one (has_name one names) (has_name one more) (subst IsTrue (has_either one names more) among) (first.files one) (second.files one);
  lists = first.lists;
} where
  has_either : (one : List ℕ) (xs ys : List (List ℕ)) → has_name one (xs ++ ys) ≡ (has_name one xs || has_name one ys)
  has_either one xs ys = list_any-append (λ other. bytes_eq other one) xs ys

  either : (one : List ℕ) (a b : Bool) → IsTrue (a || b) → (IsTrue a → IsTrue (is_kept one kept)) → (IsTrue b → IsTrue (is_kept one kept)) → IsTrue (is_kept one kept)
  either one true b h f g = f refl
  either one false b h f g = g h
