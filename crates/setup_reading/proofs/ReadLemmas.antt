use Rattle.std.proofs.Common.{◌≡◌, ℕ, ◌+◌, ◌≤◌, Bool, List, length, take, Option, Some, None, Result, Ok, Err, IfSome, refl, sym, ap, subst, ◌∙◌, arith, le-leb}
use Rattle.std.specs.Prelude.{nat_le, option_map}
use Rattle.std.specs.Bool.{then_some}
use Rattle.std.proofs.lemmas.Grind.{common_steps}
use Rattle.request_catalogue.specs.Results.{◌>>=◌}
use Rattle.outside.specs.Files.{Contents, SameFiles}
use Rattle.outside.specs.Told.{Goes}
use Rattle.policy_model.specs.Settings.{Settings}
use Rattle.account_file.specs.declared.fault.SetupKey.TheVariants as keys
use Rattle.account_file.specs.declared.fault.SetupRule.TheVariants as rules
use Rattle.account_file.specs.declared.fault.SetupError.{SetupError}
use Rattle.account_file.specs.declared.fault.SetupError.TheVariants as setup_errors
use Rattle.account_file.specs.Entries.{SetupEntries, entries_of}
use Rattle.account_file.specs.Faults.{Answers, demand_at}
use Rattle.account_file.specs.Setups.{setup_of}
use Rattle.setup_reading.specs.Read.{IsSetupError, IsSetupIn, error_of_setup, judged_setup, setup_in}

-- a text of at most m bytes is told by its first m + 1
short-front : (m : ℕ) (bytes : List ℕ) → then_some (nat_le (length (take (m + 1) bytes)) m) (take (m + 1) bytes) ≡ then_some (nat_le (length bytes) m) bytes
short-front m bytes = grind (arith, common_steps)

-- so the first 8,388,609 bytes are judged as the whole file is
judged-front : (bytes : List ℕ) → judged_setup (take 8388609 bytes) ≡ judged_setup bytes
unfolding judged_setup
judged-front bytes = ap (λ short. demand_at 0 keys.File rules.TooLong short >>= setup_of) (short-front 8388608 bytes)

-- a text within the limit is judged by what it spells
pub judged-short : (bytes : List ℕ) (e : SetupEntries) → length bytes ≤ 8388608 → setup_of bytes ≡ Ok e
    → judged_setup bytes ≡ Ok e
unfolding judged_setup
judged-short bytes e few spells =
    ap (λ (b : Bool). demand_at 0 keys.File rules.TooLong (then_some b bytes) >>= setup_of)
    (le-leb (length bytes) 8388608 few)
    ∙ spells

-- the front that was read of a file
abbrev pub IsFrontOf : {A : Type 0} → (A → List ℕ) → Option A → Option Contents → List ℕ → Type 0
IsFrontOf items found contents name = IfSome contents (λ files. option_map items found ≡ option_map (take 8388609) (files name))

file-none : {A : Type 0} (items : A → List ℕ) (found : Option A) (file : Option (List ℕ)) → found ≡ None → option_map items found ≡ option_map (take 8388609) file → option_map judged_setup file ≡ None
file-none items found None none read = refl
file-none items found (Some bytes) none read = absurd (let e : None ≡ Some (take 8388609 bytes) = sym (ap (option_map items) none) ∙ read in cc)

file-some : (front : List ℕ) (file : Option (List ℕ)) → Some front ≡ option_map (take 8388609) file → option_map judged_setup file ≡ Some (judged_setup front)
file-some front None read = absurd cc
file-some front (Some bytes) read =
    let is : front ≡ take 8388609 bytes = cc in
    ap Some (sym (judged-front bytes) ∙ ap judged_setup (sym is))

-- there is no setup where no front was read
pub missing-setup : {A : Type 0} (items : A → List ℕ) (found : Option A) (contents : Option Contents) (name : List ℕ) → found ≡ None → IsFrontOf items found contents name → IfSome contents (λ files. setup_in files name ≡ None)
missing-setup items found None name none read = tt
missing-setup items found (Some files) name none read = file-none items found (files name) none read

-- what is judged of the front is judged of the file
pub judged-file : {A : Type 0} (items : A → List ℕ) (found : Option A) (bytes : A) (front : List ℕ) (contents : Option Contents) (name : List ℕ) → found ≡ Some bytes → front ≡ items bytes → IsFrontOf items found contents name → IfSome contents (λ files. setup_in files name ≡ Some (judged_setup front))
judged-file items found bytes front None name there is read = tt
judged-file items found bytes front (Some files) name there is read =
    file-some front (files name) (ap Some is ∙ sym (ap (option_map items) there) ∙ read)

-- a setup that was read is what the file spells
pub read-setup : (contents : Option Contents) (name front : List ℕ) (result : Result Settings SetupError) (setup : Settings) → IfSome contents (λ files. setup_in files name ≡ Some (judged_setup front)) → Answers entries_of result (judged_setup front) → result ≡ Ok setup → IsSetupIn contents name setup
read-setup None name front result setup judged answers is = tt
read-setup (Some files) name front result setup judged answers is =
    judged ∙ ap Some (subst (λ r. Answers entries_of r (judged_setup front)) is answers)

-- a setup that was not read has the fault that the file has
pub unread-setup : (contents : Option Contents) (name front : List ℕ) (ReadFailed : Type 0) (result : Result Settings SetupError) (error : SetupError) → IfSome contents (λ files. setup_in files name ≡ Some (judged_setup front)) → Answers entries_of result (judged_setup front) → result ≡ Err error → IsSetupError contents name ReadFailed (error_of_setup error)
unread-setup contents name front R result setup_errors.OutOfMemory judged answers is = tt
unread-setup None name front R result (setup_errors.Refused fault) judged answers is = tt
unread-setup (Some files) name front R result (setup_errors.Refused fault) judged answers is =
    judged ∙ ap Some (subst (λ r. Answers entries_of r (judged_setup front)) is answers)

-- a setup of files that stay as they are
pub IsSetupIn-later : (before after : Option Contents) (name : List ℕ) (setup : Settings) → Goes SameFiles before after → IsSetupIn before name setup → IsSetupIn after name setup
IsSetupIn-later before None name setup goes has = tt
IsSetupIn-later None (Some files) name setup goes has = absurd goes
IsSetupIn-later (Some before) (Some files) name setup goes has = ap (option_map judged_setup) (goes.same name) ∙ has
