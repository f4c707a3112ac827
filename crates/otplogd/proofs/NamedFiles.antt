-- Which files are kept before the words of a command line are done.
use Rattle.std.proofs.Common.{◌≡◌, ℕ, inl, inr, List, [], ◌∷◌, Some, None, refl, sym, subst, ◌∙◌}
use Rattle.std.specs.Option.{option_to_list}
use Rattle.kept_files.specs.Kept.{Kept, KeptNow}
use Rattle.kept_files.specs.Setups.{KeepsThese, ReadsKept}
use Rattle.kept_files.proofs.SetupLemmas.{kept_wider}
use Rattle.otp_mode.specs.Words.{OtpParts}
use Rattle.otp_extended.specs.Commands.{RenewParts}
use Rattle.renew_mode.specs.Outcome.{names_of}
use Rattle.serve_mode.specs.Words.{Source, files_of, setups_of}
use Rattle.monitor_server.specs.declared.command.AloneCommand.{AloneCommand}
use Rattle.monitor_server.specs.declared.command.AloneCommand.TheVariants as alone
use Rattle.monitor_server.specs.Commands.{AsksAlone, IsCommand, asks_check, asks_drill, asks_otp, asks_renew, asks_serve}
use Rattle.monitor_server.specs.Touching.{files_given, files_named, setups_given, setups_named}
use Rattle.monitor_server.proofs.Apart.{none-some, only_audit, only_check, only_child, only_drill, only_enrol, only_otp, only_recover, only_renew, only_serve}
use Rattle.monitor_server.proofs.Touching.{alone_files, alone_setups, served_files, served_setups}
use Rattle.otplogd.specs.Named.{KeepsNamed, files_before}

-- those of a run are among those that the words name
pub kept_served : (words : List (List ℕ)) (source : Source) → asks_serve words ≡ Some source → (a b : KeptNow) → ReadsKept (files_of source) (setups_of source) a b → ReadsKept (files_named words) (setups_named words) a b
kept_served words source asked a b reads =
    kept_wider (files_of source) (setups_of source) (files_named words) (setups_named words) (served_files words source asked) (served_setups words source asked) a b reads

-- so are those of a command without threads
pub kept_given : (words : List (List ℕ)) (command : AloneCommand) → AsksAlone words command → (a b : KeptNow) → ReadsKept (files_given command) (setups_given command) a b → ReadsKept (files_named words) (setups_named words) a b
kept_given words command asked a b reads =
    kept_wider (files_given command) (setups_given command) (files_named words) (setups_named words) (alone_files words command asked) (alone_setups words command asked) a b reads

-- ---- that the files are kept which the words name

inside : {A : Type 0} (a b : A) → Some a ≡ Some b → a ≡ b
inside a b e = cc

-- words that ask for none of these
named_none : (words : List (List ℕ)) (kept : Kept) → asks_serve words ≡ None → asks_otp words ≡ None → asks_check words ≡ None → asks_renew words ≡ None → KeepsNamed words kept
named_none words kept serve otp check renew = record {
  serve = λ source is. none-some (asks_serve words) source serve is;
  otp = λ parts is. none-some (asks_otp words) parts otp is;
  check = λ setup is. none-some (asks_check words) setup check is;
  renew = λ parts is. none-some (asks_renew words) parts renew is;
}

-- words that ask to serve
pub named_served : (words : List (List ℕ)) (source : Source) (kept : Kept) → asks_serve words ≡ Some source → KeepsThese (files_of source) (setups_of source) kept → KeepsNamed words kept
named_served words source kept asked these =
    let only = only_serve words source asked in
    record {
      serve = λ other is. subst (λ (s : Source). KeepsThese (files_of s) (setups_of s) kept) (inside source other (sym asked ∙ is)) these;
      otp = λ parts is. none-some (asks_otp words) parts (only.otp refl) is;
      check = λ setup is. none-some (asks_check words) setup (only.check refl) is;
      renew = λ parts is. none-some (asks_renew words) parts (only.renew refl) is;
    }

named_password : (words : List (List ℕ)) (asked_for : OtpParts) (kept : Kept) → asks_otp words ≡ Some asked_for → KeepsThese (option_to_list asked_for.list) [] kept → KeepsNamed words kept
named_password words asked_for kept asked these =
    let only = only_otp words asked_for asked in
    record {
      serve = λ source is. none-some (asks_serve words) source (only.serve refl) is;
      otp = λ parts is. subst (λ (p : OtpParts). KeepsThese (option_to_list p.list) [] kept) (inside asked_for parts (sym asked ∙ is)) these;
      check = λ setup is. none-some (asks_check words) setup (only.check refl) is;
      renew = λ parts is. none-some (asks_renew words) parts (only.renew refl) is;
    }

named_checked : (words : List (List ℕ)) (name : List ℕ) (kept : Kept) → asks_check words ≡ Some name → KeepsThese (name ∷ []) (name ∷ []) kept → KeepsNamed words kept
named_checked words name kept asked these =
    let only = only_check words name asked in
    record {
      serve = λ source is. none-some (asks_serve words) source (only.serve refl) is;
      otp = λ parts is. none-some (asks_otp words) parts (only.otp refl) is;
      check = λ setup is. subst (λ (n : List ℕ). KeepsThese (n ∷ []) (n ∷ []) kept) (inside name setup (sym asked ∙ is)) these;
      renew = λ parts is. none-some (asks_renew words) parts (only.renew refl) is;
    }

named_renewed : (words : List (List ℕ)) (asked_for : RenewParts) (kept : Kept) → asks_renew words ≡ Some asked_for → KeepsThese (names_of asked_for) (asked_for.setup ∷ []) kept → KeepsNamed words kept
named_renewed words asked_for kept asked these =
    let only = only_renew words asked_for asked in
    record {
      serve = λ source is. none-some (asks_serve words) source (only.serve refl) is;
      otp = λ parts is. none-some (asks_otp words) parts (only.otp refl) is;
      check = λ setup is. none-some (asks_check words) setup (only.check refl) is;
      renew = λ parts is. subst (λ (p : RenewParts). KeepsThese (names_of p) (p.setup ∷ []) kept) (inside asked_for parts (sym asked ∙ is)) these;
    }

-- words of a command without threads
pub named_alone : (words : List (List ℕ)) (command : AloneCommand) (kept : Kept) → AsksAlone words command → KeepsThese (files_before command) (setups_given command) kept → KeepsNamed words kept
named_alone words (alone.Password command) kept asked these = named_password words _ kept asked these
named_alone words (alone.Check setup) kept asked these = named_checked words _ kept asked these
named_alone words (alone.Renew command) kept asked these = named_renewed words _ kept asked these
named_alone words (alone.Child command) kept asked these =
    let only = only_child words _ asked in
    named_none words kept (only.serve refl) (only.otp refl) (only.check refl) (only.renew refl)
named_alone words (alone.Audit command) kept asked these =
    let only = only_audit words _ asked in
    named_none words kept (only.serve refl) (only.otp refl) (only.check refl) (only.renew refl)
named_alone words (alone.Recover command) kept asked these =
    let only = only_recover words _ asked in
    named_none words kept (only.serve refl) (only.otp refl) (only.check refl) (only.renew refl)
named_alone words (alone.Enrol command) kept asked these =
    let only = only_enrol words _ asked in
    named_none words kept (only.serve refl) (only.otp refl) (only.check refl) (only.renew refl)

-- words that ask for a drill
pub named_drilled : (words : List (List ℕ)) (number : ℕ) (kept : Kept) → asks_drill words ≡ Some number → KeepsNamed words kept
named_drilled words number kept asked =
    let only = only_drill words number asked in
    named_none words kept (only.serve refl) (only.otp refl) (only.check refl) (only.renew refl)

-- words that are no command
pub named_unread : (words : List (List ℕ)) (kept : Kept) → (IsCommand words → ⊥) → KeepsNamed words kept
named_unread words kept never = record {
  serve = λ source is. absurd (never (inl (source, is)));
  otp = λ parts is. absurd (never (inr (inl (parts, is))));
  check = λ setup is. absurd (never (inr (inr (inl (setup, is)))));
  renew = λ parts is. absurd (never (inr (inr (inr (inr (inr (inl (parts, is))))))));
}
