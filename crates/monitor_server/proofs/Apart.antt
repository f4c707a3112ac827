-- The words of one mode are those of no other.
use Rattle.std.proofs.Common.{◌≡◌, ℕ, ◌≤◌, Bool, true, false, ◌&&◌, cond, leb, map, List, [], ◌∷◌, Option, Some, None, refl, sym, ap, subst, ◌∙◌}
use Rattle.std.specs.Prelude.{◌≢◌, ◌==◌, codes, option_and_then, option_map}
use Rattle.std.specs.Bool.{then_some}
use Rattle.std.specs.Char.{to_ascii_lowercase}
use Rattle.std.specs.Str.{bytes_eq}
use Rattle.std.proofs.lemmas.Bool.{and_parts, leb-true}
use Rattle.std.proofs.lemmas.Slice.Eq.{bytes_eq-Decides}
use Rattle.otp_mode.specs.Words.{OtpParts, otp_command, parts_of}
use Rattle.otp_words.specs.Challenges.{decimal_value, is_number_text}
use Rattle.command_line.specs.Words.{words_without_hyphen}
use Rattle.otp_hash.specs.Names.{algo_named}
use Rattle.otp_hash.specs.Seeds.{is_seed_text}
use Rattle.check_mode.specs.Words.{check_command}
use Rattle.child_mode.specs.Words.{ChildParts, child_command}
use Rattle.audit_mode.specs.Words.{AuditParts, audit_command}
use Rattle.drill_mode.specs.Words.{drill_command, drill_number}
use Rattle.enrol_mode.specs.Words.{EnrolParts, enrol_command}
use Rattle.text_line.specs.Reading.{decimal_of}
use Rattle.otp_extended.specs.Commands.{RenewParts, renew_command}
use Rattle.recover_mode.specs.Words.{RecoverParts, recover_command}
use Rattle.request_catalogue.specs.Texts.{is_name}
use Rattle.serve_mode.specs.Words.{Named, Plain, Source, serve_command}
use Rattle.monitor_server.specs.Commands.{asks_audit, asks_check, asks_child, asks_drill, asks_enrol, asks_otp, asks_recover, asks_renew, asks_serve}

pub none-some : {A B : Type 0} (o : Option A) (a : A) → o ≡ None → o ≡ Some a → B
none-some o a none some = absurd (let e : None ≡ Some a = sym none ∙ some in cc)

-- where nothing is asked for
none_of : {A : Type 0} (o : Option A) → ((a : A) → o ≡ Some a → ⊥) → o ≡ None
none_of None never = refl
none_of (Some a) never = absurd (never a refl)

-- a command has words
pub spoken : {A : Type 0} (read : List (List ℕ) → Option A) (words : List (List ℕ)) (a : A) → option_and_then read (words_without_hyphen words) ≡ Some a → words_without_hyphen words ≢ None
spoken read words a asked none = none-some (option_and_then read (words_without_hyphen words)) a (ap (option_and_then read) none) asked

-- ---- the mode that the first word names

pub data Mode : Type 0 where
  Serve : Mode
  Otp : Mode
  Check : Mode
  Child : Mode
  Audit : Mode
  Renew : Mode
  Drill : Mode
  Recover : Mode
  Enrol : Mode

abbrev pub place : Mode → ℕ
place Serve = 0
place Otp = 1
place Check = 2
place Child = 3
place Audit = 4
place Renew = 5
place Drill = 6
place Recover = 7
place Enrol = 8

-- the words of the modes
abbrev mode_words : List (List ℕ × Mode)
mode_words = (codes "serve", Serve) ∷ (codes "otp", Otp) ∷ (codes "check", Check) ∷ (codes "child-pre", Child) ∷ (codes "child-user", Child) ∷ (codes "audit", Audit) ∷ (codes "renew", Renew) ∷ (codes "drill", Drill) ∷ (codes "recover", Recover) ∷ (codes "enrol", Enrol) ∷ []

-- the mode that a word names, of a list of such words
abbrev named_in : List (List ℕ × Mode) → List ℕ → Option Mode
named_in [] word = None
named_in ((name, mode) ∷ rest) word = cond (bytes_eq word name) (Some mode) (named_in rest word)

abbrev mode_of : List (List ℕ) → Option Mode
mode_of [] = None
mode_of (word ∷ rest) = named_in mode_words word

-- words that begin with a mode's word are of that mode
begins : (word name : List ℕ) (rest : List (List ℕ)) (mode : Mode) → bytes_eq word name ≡ true → named_in mode_words name ≡ Some mode → mode_of (word ∷ rest) ≡ Some mode
begins word name rest mode is named = ap (named_in mode_words) ((bytes_eq-Decides word name).0 is) ∙ named

-- something is asked for only where the test before it holds
then_true : {A : Type 0} (b : Bool) (x y : A) → then_some b x ≡ Some y → b ≡ true
then_true true x y h = refl
then_true false x y h = absurd cc

cond_true : {A : Type 0} (b : Bool) (o : Option A) (y : A) → cond b o None ≡ Some y → b ≡ true
cond_true true o y h = refl
cond_true false o y h = absurd cc

first_true : (a b : Bool) → (a && b) ≡ true → a ≡ true
first_true true b h = refl
first_true false b h = absurd cc

serve_mode_of : (words : List (List ℕ)) (source : Source) → serve_command words ≡ Some source → mode_of words ≡ Some Serve
serve_mode_of [] source asked = none-some (serve_command []) source refl asked
serve_mode_of (mode ∷ []) source asked = begins mode (codes "serve") [] Serve (then_true (bytes_eq mode (codes "serve")) Plain source asked) refl
serve_mode_of (mode ∷ name ∷ []) source asked = begins mode (codes "serve") (name ∷ []) Serve (then_true (bytes_eq mode (codes "serve")) (Named name None) source asked) refl
serve_mode_of (mode ∷ name ∷ log ∷ []) source asked = begins mode (codes "serve") (name ∷ log ∷ []) Serve (then_true (bytes_eq mode (codes "serve")) (Named name (Some log)) source asked) refl
serve_mode_of (mode ∷ name ∷ log ∷ more ∷ rest) source asked = none-some (serve_command (mode ∷ name ∷ log ∷ more ∷ rest)) source refl asked

otp_parts_mode : (mode algo number seed : List ℕ) (list : Option (List ℕ)) (rest : List (List ℕ)) (parts : OtpParts) → parts_of mode algo number seed list ≡ Some parts → mode_of (mode ∷ rest) ≡ Some Otp
otp_parts_mode mode algo number seed list rest parts asked =
    let both = cond_true (bytes_eq mode (codes "otp") && is_number_text number && is_seed_text seed) (option_map (λ a. record { algo = a; number = decimal_value number; seed = map to_ascii_lowercase seed; list = list }) (algo_named algo)) parts asked in
    begins mode (codes "otp") rest Otp (first_true (bytes_eq mode (codes "otp")) (is_number_text number) (first_true (bytes_eq mode (codes "otp") && is_number_text number) (is_seed_text seed) both)) refl

otp_mode_of : (words : List (List ℕ)) (parts : OtpParts) → otp_command words ≡ Some parts → mode_of words ≡ Some Otp
otp_mode_of [] parts asked = none-some (otp_command []) parts refl asked
otp_mode_of (mode ∷ []) parts asked = none-some (otp_command (mode ∷ [])) parts refl asked
otp_mode_of (mode ∷ one ∷ []) parts asked = none-some (otp_command (mode ∷ one ∷ [])) parts refl asked
otp_mode_of (mode ∷ one ∷ two ∷ []) parts asked = none-some (otp_command (mode ∷ one ∷ two ∷ [])) parts refl asked
otp_mode_of (mode ∷ algo ∷ number ∷ seed ∷ []) parts asked = otp_parts_mode mode algo number seed None (algo ∷ number ∷ seed ∷ []) parts asked
otp_mode_of (mode ∷ algo ∷ number ∷ seed ∷ list ∷ []) parts asked = otp_parts_mode mode algo number seed (Some list) (algo ∷ number ∷ seed ∷ list ∷ []) parts asked
otp_mode_of (mode ∷ one ∷ two ∷ three ∷ four ∷ more ∷ rest) parts asked = none-some (otp_command (mode ∷ one ∷ two ∷ three ∷ four ∷ more ∷ rest)) parts refl asked

check_mode_of : (words : List (List ℕ)) (setup : List ℕ) → check_command words ≡ Some setup → mode_of words ≡ Some Check
check_mode_of [] setup asked = none-some (check_command []) setup refl asked
check_mode_of (mode ∷ []) setup asked = none-some (check_command (mode ∷ [])) setup refl asked
check_mode_of (mode ∷ name ∷ []) setup asked = begins mode (codes "check") (name ∷ []) Check (then_true (bytes_eq mode (codes "check")) name setup asked) refl
check_mode_of (mode ∷ name ∷ more ∷ rest) setup asked = none-some (check_command (mode ∷ name ∷ more ∷ rest)) setup refl asked

child_mode_of : (words : List (List ℕ)) (parts : ChildParts) → child_command words ≡ Some parts → mode_of words ≡ Some Child
child_mode_of [] parts asked = none-some (child_command []) parts refl asked
child_mode_of (mode ∷ []) parts asked = none-some (child_command (mode ∷ [])) parts refl asked
child_mode_of (mode ∷ session ∷ []) parts asked = begins mode (codes "child-pre") (session ∷ []) Child (cond_true (bytes_eq mode (codes "child-pre")) _ parts asked) refl
child_mode_of (mode ∷ session ∷ uid ∷ []) parts asked = none-some (child_command (mode ∷ session ∷ uid ∷ [])) parts refl asked
child_mode_of (mode ∷ session ∷ uid ∷ name ∷ []) parts asked = begins mode (codes "child-user") (session ∷ uid ∷ name ∷ []) Child (first_true (bytes_eq mode (codes "child-user")) _ (cond_true _ _ parts asked)) refl
child_mode_of (mode ∷ session ∷ uid ∷ name ∷ more ∷ rest) parts asked = none-some (child_command (mode ∷ session ∷ uid ∷ name ∷ more ∷ rest)) parts refl asked

audit_mode_of : (words : List (List ℕ)) (parts : AuditParts) → audit_command words ≡ Some parts → mode_of words ≡ Some Audit
audit_mode_of [] parts asked = none-some (audit_command []) parts refl asked
audit_mode_of (mode ∷ []) parts asked = none-some (audit_command (mode ∷ [])) parts refl asked
audit_mode_of (mode ∷ setup ∷ []) parts asked = none-some (audit_command (mode ∷ setup ∷ [])) parts refl asked
audit_mode_of (mode ∷ setup ∷ log ∷ []) parts asked = begins mode (codes "audit") (setup ∷ log ∷ []) Audit (then_true (bytes_eq mode (codes "audit")) (record { setup = setup; log = log }) parts asked) refl
audit_mode_of (mode ∷ setup ∷ log ∷ more ∷ rest) parts asked = none-some (audit_command (mode ∷ setup ∷ log ∷ more ∷ rest)) parts refl asked

recover_mode_of : (words : List (List ℕ)) (parts : RecoverParts) → recover_command words ≡ Some parts → mode_of words ≡ Some Recover
recover_mode_of [] parts asked = none-some (recover_command []) parts refl asked
recover_mode_of (mode ∷ []) parts asked = none-some (recover_command (mode ∷ [])) parts refl asked
recover_mode_of (mode ∷ setup ∷ []) parts asked = none-some (recover_command (mode ∷ setup ∷ [])) parts refl asked
recover_mode_of (mode ∷ setup ∷ log ∷ []) parts asked = begins mode (codes "recover") (setup ∷ log ∷ []) Recover (then_true (bytes_eq mode (codes "recover")) (record { setup = setup; log = log }) parts asked) refl
recover_mode_of (mode ∷ setup ∷ log ∷ more ∷ rest) parts asked = none-some (recover_command (mode ∷ setup ∷ log ∷ more ∷ rest)) parts refl asked

enrol_mode_of : (words : List (List ℕ)) (parts : EnrolParts) → enrol_command words ≡ Some parts → mode_of words ≡ Some Enrol
enrol_mode_of [] parts asked = none-some (enrol_command []) parts refl asked
enrol_mode_of (mode ∷ []) parts asked = none-some (enrol_command (mode ∷ [])) parts refl asked
enrol_mode_of (mode ∷ one ∷ []) parts asked = none-some (enrol_command (mode ∷ one ∷ [])) parts refl asked
enrol_mode_of (mode ∷ one ∷ two ∷ []) parts asked = none-some (enrol_command (mode ∷ one ∷ two ∷ [])) parts refl asked
enrol_mode_of (mode ∷ one ∷ two ∷ three ∷ []) parts asked = none-some (enrol_command (mode ∷ one ∷ two ∷ three ∷ [])) parts refl asked
enrol_mode_of (mode ∷ one ∷ two ∷ three ∷ four ∷ []) parts asked = none-some (enrol_command (mode ∷ one ∷ two ∷ three ∷ four ∷ [])) parts refl asked
enrol_mode_of (mode ∷ name ∷ uid ∷ algo ∷ number ∷ seed ∷ []) parts asked = begins mode (codes "enrol") (name ∷ uid ∷ algo ∷ number ∷ seed ∷ []) Enrol (first_true (bytes_eq mode (codes "enrol")) (is_name name) (first_true (bytes_eq mode (codes "enrol") && is_name name) (is_seed_text seed) (cond_true _ _ parts asked))) refl
enrol_mode_of (mode ∷ one ∷ two ∷ three ∷ four ∷ five ∷ more ∷ rest) parts asked = none-some (enrol_command (mode ∷ one ∷ two ∷ three ∷ four ∷ five ∷ more ∷ rest)) parts refl asked

renew_mode_of : (words : List (List ℕ)) (parts : RenewParts) → renew_command words ≡ Some parts → mode_of words ≡ Some Renew
renew_mode_of [] parts asked = none-some (renew_command []) parts refl asked
renew_mode_of (mode ∷ []) parts asked = none-some (renew_command (mode ∷ [])) parts refl asked
renew_mode_of (mode ∷ setup ∷ []) parts asked = none-some (renew_command (mode ∷ setup ∷ [])) parts refl asked
renew_mode_of (mode ∷ setup ∷ user ∷ []) parts asked = begins mode (codes "renew") (setup ∷ user ∷ []) Renew (cond_true (bytes_eq mode (codes "renew")) _ parts asked) refl
renew_mode_of (mode ∷ setup ∷ user ∷ log ∷ []) parts asked = begins mode (codes "renew") (setup ∷ user ∷ log ∷ []) Renew (cond_true (bytes_eq mode (codes "renew")) _ parts asked) refl
renew_mode_of (mode ∷ setup ∷ user ∷ log ∷ more ∷ rest) parts asked = none-some (renew_command (mode ∷ setup ∷ user ∷ log ∷ more ∷ rest)) parts refl asked

drill_mode_of : (words : List (List ℕ)) (number : ℕ) → drill_command words ≡ Some number → mode_of words ≡ Some Drill
drill_mode_of [] number asked = none-some (drill_command []) number refl asked
drill_mode_of (mode ∷ []) number asked = none-some (drill_command (mode ∷ [])) number refl asked
drill_mode_of (mode ∷ word ∷ []) number asked = begins mode (codes "drill") (word ∷ []) Drill (cond_true (bytes_eq mode (codes "drill")) (drill_number word) number asked) refl
drill_mode_of (mode ∷ word ∷ more ∷ rest) number asked = none-some (drill_command (mode ∷ word ∷ more ∷ rest)) number refl asked

-- ---- what is asked of one mode is asked of no other

abbrev mode_in : List (List ℕ) → Option Mode
mode_in words = option_and_then mode_of (words_without_hyphen words)

-- words that ask a mode for something are of that mode
asked_mode : {A : Type 0} (read : List (List ℕ) → Option A) (mode : Mode) → ((plain : List (List ℕ)) (a : A) → read plain ≡ Some a → mode_of plain ≡ Some mode) → (words : List (List ℕ)) (a : A) → option_and_then read (words_without_hyphen words) ≡ Some a → mode_in words ≡ Some mode
asked_mode read mode of words a = go (words_without_hyphen words) where
  go : (o : Option (List (List ℕ))) → option_and_then read o ≡ Some a → option_and_then mode_of o ≡ Some mode
  go None asked = absurd cc
  go (Some plain) asked = of plain a asked

-- a mode has its own place
same_place : (mode : Mode) → (place mode == place mode) ≡ false → ⊥
same_place Serve e = absurd cc
same_place Otp e = absurd cc
same_place Check e = absurd cc
same_place Child e = absurd cc
same_place Audit e = absurd cc
same_place Renew e = absurd cc
same_place Drill e = absurd cc
same_place Recover e = absurd cc
same_place Enrol e = absurd cc

-- so they ask another mode for nothing
apart : {A : Type 0} (read : List (List ℕ) → Option A) (mode other : Mode) → ((plain : List (List ℕ)) (a : A) → read plain ≡ Some a → mode_of plain ≡ Some mode) → (words : List (List ℕ)) → mode_in words ≡ Some other → (place mode == place other) ≡ false → option_and_then read (words_without_hyphen words) ≡ None
apart read mode other of words is differ = none_of (option_and_then read (words_without_hyphen words)) (λ a asked. clash (let e : Some mode ≡ Some other = sym (asked_mode read mode of words a asked) ∙ is in cc)) where
  clash : mode ≡ other → ⊥
  clash same = let e : (place mode == place mode) ≡ false = ap (λ m. place mode == place m) same ∙ differ in same_place mode e

-- words that ask no other mode for anything
pub record AskOnly (words : List (List ℕ)) (mode : Mode) : Type 0 where
  pub serve : (place Serve == place mode) ≡ false → asks_serve words ≡ None
  pub otp : (place Otp == place mode) ≡ false → asks_otp words ≡ None
  pub check : (place Check == place mode) ≡ false → asks_check words ≡ None
  pub child : (place Child == place mode) ≡ false → asks_child words ≡ None
  pub audit : (place Audit == place mode) ≡ false → asks_audit words ≡ None
  pub renew : (place Renew == place mode) ≡ false → asks_renew words ≡ None
  pub drill : (place Drill == place mode) ≡ false → asks_drill words ≡ None
  pub recover : (place Recover == place mode) ≡ false → asks_recover words ≡ None
  pub enrol : (place Enrol == place mode) ≡ false → asks_enrol words ≡ None

ask_only : (words : List (List ℕ)) (mode : Mode) → mode_in words ≡ Some mode → AskOnly words mode
ask_only words mode is = record {
  serve = apart serve_command Serve mode serve_mode_of words is;
  otp = apart otp_command Otp mode otp_mode_of words is;
  check = apart check_command Check mode check_mode_of words is;
  child = apart child_command Child mode child_mode_of words is;
  audit = apart audit_command Audit mode audit_mode_of words is;
  renew = apart renew_command Renew mode renew_mode_of words is;
  drill = apart drill_command Drill mode drill_mode_of words is;
  recover = apart recover_command Recover mode recover_mode_of words is;
  enrol = apart enrol_command Enrol mode enrol_mode_of words is;
}

pub only_serve : (words : List (List ℕ)) (source : Source) → asks_serve words ≡ Some source → AskOnly words Serve
only_serve words source asked = ask_only words Serve (asked_mode serve_command Serve serve_mode_of words source asked)

pub only_otp : (words : List (List ℕ)) (parts : OtpParts) → asks_otp words ≡ Some parts → AskOnly words Otp
only_otp words parts asked = ask_only words Otp (asked_mode otp_command Otp otp_mode_of words parts asked)

pub only_check : (words : List (List ℕ)) (setup : List ℕ) → asks_check words ≡ Some setup → AskOnly words Check
only_check words setup asked = ask_only words Check (asked_mode check_command Check check_mode_of words setup asked)

pub only_child : (words : List (List ℕ)) (parts : ChildParts) → asks_child words ≡ Some parts → AskOnly words Child
only_child words parts asked = ask_only words Child (asked_mode child_command Child child_mode_of words parts asked)

pub only_audit : (words : List (List ℕ)) (parts : AuditParts) → asks_audit words ≡ Some parts → AskOnly words Audit
only_audit words parts asked = ask_only words Audit (asked_mode audit_command Audit audit_mode_of words parts asked)

pub only_renew : (words : List (List ℕ)) (parts : RenewParts) → asks_renew words ≡ Some parts → AskOnly words Renew
only_renew words parts asked = ask_only words Renew (asked_mode renew_command Renew renew_mode_of words parts asked)

pub only_drill : (words : List (List ℕ)) (number : ℕ) → asks_drill words ≡ Some number → AskOnly words Drill
only_drill words number asked = ask_only words Drill (asked_mode drill_command Drill drill_mode_of words number asked)

pub only_recover : (words : List (List ℕ)) (parts : RecoverParts) → asks_recover words ≡ Some parts → AskOnly words Recover
only_recover words parts asked = ask_only words Recover (asked_mode recover_command Recover recover_mode_of words parts asked)

pub only_enrol : (words : List (List ℕ)) (parts : EnrolParts) → asks_enrol words ≡ Some parts → AskOnly words Enrol
only_enrol words parts asked = ask_only words Enrol (asked_mode enrol_command Enrol enrol_mode_of words parts asked)

-- ---- the number of a drill

-- the number is from 1 to 64
number_within : (o : Option ℕ) (n : ℕ) → option_and_then (λ m. then_some (leb 1 m && leb m 64) m) o ≡ Some n → (1 ≤ n) × (n ≤ 64)
number_within None n is = absurd cc
number_within (Some m) n is = go (leb 1 m && leb m 64) refl is where
  go : (b : Bool) → (leb 1 m && leb m 64) ≡ b → then_some b m ≡ Some n → (1 ≤ n) × (n ≤ 64)
  go true within same =
      let e : m ≡ n = cc in
      let both = and_parts (leb 1 m) (leb m 64) within in
      subst (λ k. (1 ≤ k) × (k ≤ 64)) e (leb-true 1 m both.0, leb-true m 64 both.1)
  go false within same = absurd cc

drill_range : (words : List (List ℕ)) (n : ℕ) → drill_command words ≡ Some n → (1 ≤ n) × (n ≤ 64)
drill_range [] n asked = none-some (drill_command []) n refl asked
drill_range (mode ∷ []) n asked = none-some (drill_command (mode ∷ [])) n refl asked
drill_range (mode ∷ word ∷ []) n asked = number_within (decimal_of word) n (ap (λ b. cond b (drill_number word) None) (sym (cond_true (bytes_eq mode (codes "drill")) (drill_number word) n asked)) ∙ asked)
drill_range (mode ∷ word ∷ more ∷ rest) n asked = none-some (drill_command (mode ∷ word ∷ more ∷ rest)) n refl asked

pub drill_within : (words : List (List ℕ)) (n : ℕ) → asks_drill words ≡ Some n → (1 ≤ n) × (n ≤ 64)
drill_within words n = go (words_without_hyphen words) where
  go : (o : Option (List (List ℕ))) → option_and_then drill_command o ≡ Some n → (1 ≤ n) × (n ≤ 64)
  go None asked = absurd cc
  go (Some plain) asked = drill_range plain n asked
