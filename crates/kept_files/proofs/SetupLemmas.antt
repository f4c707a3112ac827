-- What is kept where a setup is named.
use Rattle.std.proofs.Common.{◌≡◌, ◌||◌, ℕ, Bool, IfSome, List, [], ◌∷◌, ◌++◌, Option, Some, None, Result, Ok, refl, sym, ap, ◌∙◌}
use Rattle.std.specs.Prelude.{IsTrue, is_some, option_map}
use Rattle.std.specs.Option.{option_to_list}
use Rattle.std.proofs.lemmas.Slice.Eq.{bytes_eq-Decides}
use Rattle.outside.specs.Touched.{has_name}
use Rattle.outside.proofs.Touching.{HasAll}
use Rattle.account_file.specs.Entries.{SetupEntries, entries_of}
use Rattle.account_file.specs.declared.fault.SetupFault.{SetupFault}
use Rattle.setup_reading.specs.Read.{judged_setup}
use Rattle.setup_reading.proofs.Touching.{all_both, all_left, all_right, all_through}
use Rattle.kept_files.specs.Kept.{Kept, KeptNow, KeepsAll, KeepsMore, is_kept, kept_files}
use Rattle.kept_files.specs.Setups.{IsListKept, ReadsKept, SpellsList}
use Rattle.kept_files.proofs.KeptLemmas.{more_both, more_none, more_wider}

own_name : (name : List ℕ) → IsTrue (has_name name (name ∷ []))
own_name name = rw ((bytes_eq-Decides name name).1 refl) refl

-- the list that a kept setup names, after one file more is kept
pub list_kept : (name list : List ℕ) (text : Option (List ℕ)) (before after : Kept) → IsTrue (is_kept name before)
    → KeepsAll before after → text ≡ kept_files before name → SpellsList text list → IsListKept (name ∷ []) after list
list_kept name list text before after there all read spells = record {
  file = name;
  among = own_name name;
  setup = spells.setup;
  spelled = ap (option_map judged_setup) (all.files name there ∙ sym read ∙ spells.there) ∙ ap Some spells.spelled;
  names = spells.names;
}

some_kept : (file : Option (List ℕ)) (missing : Bool) (judged : Result SetupEntries SetupFault) → option_map judged_setup file ≡ Some judged → IsTrue (is_some file || missing)
some_kept None missing judged e = absurd cc
some_kept (Some bytes) missing judged e = refl

named_later : (setups : List (List ℕ)) (before after : Kept) → KeepsAll before after → (list : Option (List ℕ)) → IfSome list (IsListKept setups before) → IfSome list (IsListKept setups after)
named_later setups before after all None named = tt
named_later setups before after all (Some list) named = record {
  file = named.file;
  among = named.among;
  setup = named.setup;
  spelled =
      ap (option_map judged_setup) (all.files named.file (some_kept (kept_files before named.file) (has_name named.file before.missing) (Ok (entries_of named.setup)) named.spelled))
      ∙ named.spelled;
  names = named.names;
}

-- nothing was read
pub kept_none : (names setups : List (List ℕ)) (a : KeptNow) → ReadsKept names setups a a
kept_none names setups a = record { list = None; named = tt; more = more_none (names ++ []) a }

-- only files of these names were read
pub kept_files_only : (names setups : List (List ℕ)) (a b : KeptNow) → KeepsMore names a b → ReadsKept names setups a b
kept_files_only names setups a b more = record {
  list = None;
  named = tt;
  more = more_wider names (names ++ []) (all_left names []) a b more;
}

named_wider : (setups more : List (List ℕ)) (kept : Kept) → HasAll more setups → (list : Option (List ℕ)) → IfSome list (IsListKept setups kept) → IfSome list (IsListKept more kept)
named_wider setups more kept all None named = tt
named_wider setups more kept all (Some list) named = record {
  file = named.file;
  among = all named.file named.among;
  setup = named.setup;
  spelled = named.spelled;
  names = named.names;
}

-- more files may be named
pub kept_wider : (names setups names' setups' : List (List ℕ)) → HasAll names' names → HasAll setups' setups → (a b : KeptNow) → ReadsKept names setups a b → ReadsKept names' setups' a b
kept_wider names setups names' setups' all all' a b reads =
    let list = option_to_list reads.list in
    let wide : HasAll (names' ++ list) (names ++ list) =
    all_both (names' ++ list) names list (all_through (names' ++ list) names' names (all_left names' list) all) (all_right list names') in
    record {
      list = reads.list;
      named = named_wider setups setups' b.kept all' reads.list reads.named;
      more = more_wider (names ++ list) (names' ++ list) wide a b reads.more;
    }

-- a setup alone, where perhaps a log is read too
pub kept_alone : (setup : List ℕ) (logs setups : List (List ℕ)) (a b : KeptNow) → ReadsKept (setup ∷ []) setups a b → ReadsKept (setup ∷ logs) setups a b
kept_alone setup logs setups a b reads = kept_wider (setup ∷ []) setups (setup ∷ logs) setups (all_left (setup ∷ []) logs) (λ name h. h) a b reads

-- a setup, and then a log
pub kept_both : (setup : List ℕ) (logs setups : List (List ℕ)) (a b d : KeptNow) → ReadsKept (setup ∷ []) setups a b → KeepsMore logs b d → ReadsKept (setup ∷ logs) setups a d
kept_both setup logs setups a b d reads more =
    let list = option_to_list reads.list in
    let wide = (setup ∷ logs) ++ list in
    let first : HasAll wide (setup ∷ []) = all_through wide (setup ∷ logs) (setup ∷ []) (all_left (setup ∷ logs) list) (all_left (setup ∷ []) logs) in
    let third : HasAll wide logs = all_through wide (setup ∷ logs) logs (all_left (setup ∷ logs) list) (all_right logs (setup ∷ [])) in
    let all : HasAll wide (((setup ∷ []) ++ list) ++ logs) =
    all_both wide ((setup ∷ []) ++ list) logs (all_both wide (setup ∷ []) list first (all_right list (setup ∷ logs))) third in
    record {
      list = reads.list;
      named = named_later setups b.kept d.kept more.still reads.list reads.named;
      more = more_wider (((setup ∷ []) ++ list) ++ logs) wide all a d (more_both ((setup ∷ []) ++ list) logs a b d reads.more more);
    }
