-- What several steps read and replace where a setup is named.
use Rattle.std.proofs.Common.{◌≡◌, ℕ, ◌≤◌, IfSome, List, [], ◌∷◌, ◌++◌, Option, Some, None, Result, Ok, Err, refl, sym, ap, subst, ◌∙◌, arith}
use Rattle.std.specs.Prelude.{IsTrue, OnErr, OnOk, option_map}
use Rattle.std.specs.Option.{option_to_list}
use Rattle.std.proofs.lemmas.Slice.Eq.{bytes_eq-Decides}
use Rattle.outside.specs.declared.act.Failed.{Failed}
use Rattle.outside.specs.Files.{Contents, MayBeReplaced, Replaced, SameFiles}
use Rattle.outside.specs.FilesNow.{FilesNow, OnlyReads}
use Rattle.outside.specs.Told.{Goes}
use Rattle.outside.specs.Touched.{HasReplaced, MayHaveReplaced, TouchesOnly, has_name}
use Rattle.outside.proofs.OnlyReading.{reads_both, reads_wider}
use Rattle.outside.proofs.Told.{Goes-same}
use Rattle.outside.proofs.Touching.{HasAll, Touches-none, Touches-replaced, Touches-then, Touches-wider, name_case, name_left, name_right}
use Rattle.policy_model.specs.Settings.{Settings}
use Rattle.account_file.specs.Entries.{entries_of}
use Rattle.setup_reading.specs.Read.{IsSetupIn, judged_setup, setup_in}
use Rattle.setup_reading.specs.Touching.{IsListNamed, OnlyReplaces, ReadsNamed, TouchesNamed}

-- ---- names

pub all_own : (names : List (List ℕ)) → HasAll names names
all_own names name h = h

pub all_left : (names more : List (List ℕ)) → HasAll (names ++ more) names
all_left names more name h = name_left name names more h

pub all_right : (names more : List (List ℕ)) → HasAll (more ++ names) names
all_right names more name h = name_right name more names h

pub all_both : (wide names more : List (List ℕ)) → HasAll wide names → HasAll wide more → HasAll wide (names ++ more)
all_both wide names more first second name h = name_case name names more wide (first name) (second name) h

pub all_through : (wide names few : List (List ℕ)) → HasAll wide names → HasAll names few → HasAll wide few
all_through wide names few first second name h = first name (second name h)

own_name : (name : List ℕ) → IsTrue (has_name name (name ∷ []))
own_name name = rw ((bytes_eq-Decides name name).1 refl) refl

-- names and others, each among more
all_apart : (names names' list : List (List ℕ)) → HasAll names' names → HasAll (names' ++ list) (names ++ list)
all_apart names names' list more =
    all_both (names' ++ list) names list (all_through (names' ++ list) names' names (all_left names' list) more) (all_right list names')

-- ---- files that cease to tell

pub told_of : (Step : Contents → Contents → Type 0) (a b : Option Contents) → Goes Step a b → Goes (λ _ _. Unit {0}) a b
told_of Step a None goes = tt
told_of Step None (Some b) goes = absurd goes
told_of Step (Some a) (Some b) goes = tt

-- what stood in the files before
stood : (P : Contents → Type 0) (a b c : Option Contents) → Goes (λ files _. P files) a b → Goes (λ _ _. Unit {0}) b c → Goes (λ files _. P files) a c
stood P a b None first second = tt
stood P a None (Some c) first second = absurd second
stood P None (Some b) (Some c) first second = absurd first
stood P (Some a) (Some b) (Some c) first second = first

-- the same of a setup that was read
spelled_before : (a b c : Option Contents) (name : List ℕ) (setup : Settings) → Goes SameFiles a b → Goes (λ _ _. Unit {0}) b c → IsSetupIn b name setup → Goes (λ files _. setup_in files name ≡ Some (Ok (entries_of setup))) a c
spelled_before a b None name setup first second is = tt
spelled_before a None (Some c) name setup first second is = absurd second
spelled_before None (Some b) (Some c) name setup first second is = absurd first
spelled_before (Some a) (Some b) (Some c) name setup first second is =
    ap (option_map judged_setup) (sym (first.same name)) ∙ is

named_later : (setups : List (List ℕ)) (list : Option (List ℕ)) (a b c : Option Contents) → Goes (λ _ _. Unit {0}) b c → IfSome list (IsListNamed setups a b) → IfSome list (IsListNamed setups a c)
named_later setups None a b c told named = tt
named_later setups (Some list) a b c told named = record {
  file = named.file;
  among = named.among;
  setup = named.setup;
  spelled = stood (λ files. setup_in files named.file ≡ Some (Ok (entries_of named.setup))) a b c named.spelled told;
  names = named.names;
}

named_wider : (setups setups' : List (List ℕ)) → HasAll setups' setups → (list : Option (List ℕ)) (a b : Option Contents) → IfSome list (IsListNamed setups a b) → IfSome list (IsListNamed setups' a b)
named_wider setups setups' more None a b named = tt
named_wider setups setups' more (Some list) a b named = record {
  file = named.file;
  among = more named.file named.among;
  setup = named.setup;
  spelled = named.spelled;
  names = named.names;
}

-- ---- reading

-- only files that are named
pub reads_only : (names setups : List (List ℕ)) (a b : FilesNow) → OnlyReads names a b → ReadsNamed names setups a b
reads_only names setups a b reads = record {
  list = None;
  named = tt;
  reads = reads_wider names (names ++ []) (all_left names []) a b reads;
}

-- a setup, and then the list that it names
pub reads_list : (name : List ℕ) (setup : Settings) (list : List ℕ) (a b c : FilesNow) → OnlyReads (name ∷ []) a b → IsSetupIn b.contents name setup → list ≡ setup.words → OnlyReads (list ∷ []) b c → ReadsNamed (name ∷ []) (name ∷ []) a c
reads_list name setup list a b c first spelled names second = record {
  list = Some list;
  named = record {
    file = name;
    among = own_name name;
    setup = setup;
    spelled = spelled_before a.contents b.contents c.contents name setup first.kept (told_of SameFiles b.contents c.contents second.kept) spelled;
    names = names;
  };
  reads = reads_both (name ∷ []) (list ∷ []) a b c first second;
}

-- and further files
pub reads_more : (names setups more : List (List ℕ)) (a b c : FilesNow) → ReadsNamed names setups a b → OnlyReads more b c → ReadsNamed (names ++ more) setups a c
reads_more names setups more a b c first second =
    let list = option_to_list first.list in
    record {
      list = first.list;
      named = named_later setups first.list a.contents b.contents c.contents (told_of SameFiles b.contents c.contents second.kept) first.named;
      reads =
          reads_wider ((names ++ list) ++ more) ((names ++ more) ++ list)
          (all_both ((names ++ more) ++ list) (names ++ list) more (all_apart names (names ++ more) list (all_left names more)) (all_through ((names ++ more) ++ list) (names ++ more) more (all_left (names ++ more) list) (all_right more names)))
          a c (reads_both (names ++ list) more a b c first.reads second);
    }

-- ---- replacing

pub replaces_none : (names : List (List ℕ)) (a : FilesNow) → OnlyReplaces names a a
replaces_none names a = record {
  told = Goes-same (λ _ _. Unit {0}) (λ _. tt) a.contents;
  read_faults = omega arith;
  replace_faults = omega arith;
  touched = Touches-none [] names a.touched;
}

pub replaces_wider : (names more : List (List ℕ)) → HasAll more names → (a b : FilesNow) → OnlyReplaces names a b → OnlyReplaces more a b
replaces_wider names more all a b only = record {
  told = only.told;
  read_faults = only.read_faults;
  replace_faults = only.replace_faults;
  touched = Touches-wider [] names [] more (all_own []) all a.touched b.touched only.touched;
}

pub replaces_then : (names : List (List ℕ)) (a b c : FilesNow) → OnlyReplaces names a b → OnlyReplaces names b c → OnlyReplaces names a c
replaces_then names a b c f s =
    let low = f.read_faults in
    let high = s.read_faults in
    let low' = f.replace_faults in
    let high' = s.replace_faults in
    record {
      told = stood (λ _. Unit {0}) a.contents b.contents c.contents f.told s.told;
      read_faults = omega (arith, low, high);
      replace_faults = omega (arith, low', high');
      touched = Touches-then [] names a.touched b.touched c.touched f.touched s.touched;
    }

-- a call that replaces a file
told_replaced : {X : Type 0} (result : Result X Failed) (name bytes : List ℕ) (a b : Option Contents) → OnOk result (Goes (Replaced name bytes) a b) → OnErr result (Goes (MayBeReplaced name bytes) a b) → Goes (λ _ _. Unit {0}) a b
told_replaced (Ok x) name bytes a b ok err = told_of (Replaced name bytes) a b ok
told_replaced (Err e) name bytes a b ok err = told_of (MayBeReplaced name bytes) a b err

pub replaces_one : {X : Type 0} (result : Result X Failed) (word name bytes : List ℕ) → word ≡ name → (a b : FilesNow) → OnOk result (Goes (Replaced word bytes) a.contents b.contents) → OnErr result (Goes (MayBeReplaced word bytes) a.contents b.contents) → a.replace_faults ≤ b.replace_faults → b.read_faults ≡ a.read_faults → OnOk result (Goes (HasReplaced word) a.touched b.touched) → OnErr result (Goes (MayHaveReplaced word) a.touched b.touched) → OnlyReplaces (name ∷ []) a b
replaces_one result word name bytes same a b ok err counts others touched_ok touched_err = record {
  told = told_replaced result word bytes a.contents b.contents ok err;
  read_faults = omega (arith, others);
  replace_faults = counts;
  touched = subst (λ (w : List ℕ). Goes (TouchesOnly [] (w ∷ [])) a.touched b.touched) same (Touches-replaced result word a.touched b.touched touched_ok touched_err);
}

-- ---- reading and replacing

pub touches_none : (names setups replaces : List (List ℕ)) (a : FilesNow) → TouchesNamed names setups replaces a a
touches_none names setups replaces a = record {
  list = None;
  named = tt;
  read_faults = omega arith;
  replace_faults = omega arith;
  touched = Touches-none (names ++ []) replaces a.touched;
}

pub touches_reads : (names setups replaces : List (List ℕ)) (a b : FilesNow) → ReadsNamed names setups a b → TouchesNamed names setups replaces a b
touches_reads names setups replaces a b reads = record {
  list = reads.list;
  named = reads.named;
  read_faults = reads.reads.read_faults;
  replace_faults = reads.reads.replace_faults;
  touched =
      Touches-wider (names ++ option_to_list reads.list) [] (names ++ option_to_list reads.list) replaces
      (all_own (names ++ option_to_list reads.list)) (all_left [] replaces) a.touched b.touched reads.reads.touched;
}

pub touches_then : (names setups replaces : List (List ℕ)) (a b c : FilesNow) → ReadsNamed names setups a b → OnlyReplaces replaces b c → TouchesNamed names setups replaces a c
touches_then names setups replaces a b c first second =
    let reads = names ++ option_to_list first.list in
    let low = first.reads.read_faults in
    let high = second.read_faults in
    let low' = first.reads.replace_faults in
    let high' = second.replace_faults in
    record {
      list = first.list;
      named = named_later setups first.list a.contents b.contents c.contents second.told first.named;
      read_faults = omega (arith, low, high);
      replace_faults = omega (arith, low', high');
      touched =
          Touches-then reads replaces a.touched b.touched c.touched
          (Touches-wider reads [] reads replaces (all_own reads) (all_left [] replaces) a.touched b.touched first.reads.touched)
          (Touches-wider [] replaces reads replaces (all_left [] reads) (all_own replaces) b.touched c.touched second.touched);
    }

pub touches_wider : (names setups replaces names' setups' replaces' : List (List ℕ)) → HasAll names' names → HasAll setups' setups → HasAll replaces' replaces → (a b : FilesNow) → TouchesNamed names setups replaces a b → TouchesNamed names' setups' replaces' a b
touches_wider names setups replaces names' setups' replaces' more more' more'' a b only =
    let list = option_to_list only.list in
    record {
      list = only.list;
      named = named_wider setups setups' more' only.list a.contents b.contents only.named;
      read_faults = only.read_faults;
      replace_faults = only.replace_faults;
      touched = Touches-wider (names ++ list) replaces (names' ++ list) replaces' (all_apart names names' list more) more'' a.touched b.touched only.touched;
    }
