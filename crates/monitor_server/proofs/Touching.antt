-- Which files a command touches are those that its words name.
use Rattle.std.proofs.Common.{◌≡◌, ℕ, List, [], ◌∷◌, ◌++◌, Option, Some, sym, subst}
use Rattle.std.specs.Prelude.{IsTrue}
use Rattle.std.specs.Option.{option_to_list}
use Rattle.outside.specs.Files.{Contents}
use Rattle.outside.specs.FilesNow.{FilesNow, OnlyReads}
use Rattle.outside.specs.Touched.{has_name}
use Rattle.outside.proofs.Touching.{HasAll, name_left, name_right}
use Rattle.setup_reading.specs.Touching.{ReadsNamed, TouchesNamed}
use Rattle.setup_reading.proofs.Touching.{reads_only, touches_none, touches_reads, touches_wider}
use Rattle.otp_mode.specs.Command.{command_parts}
use Rattle.otp_mode.specs.Words.{OtpParts}
use Rattle.audit_mode.specs.Commands as audits_command
use Rattle.audit_mode.specs.Words as audits
use Rattle.otp_extended.specs.Commands as renewals
use Rattle.otp_extended.specs.Commands.{RenewParts}
use Rattle.renew_mode.specs.Outcome as renews
use Rattle.recover_mode.specs.Commands as recoveries_command
use Rattle.recover_mode.specs.Words as recoveries
use Rattle.serve_mode.specs.Words.{Source, files_of, setups_of}
use Rattle.monitor_server.specs.declared.command.AloneCommand.{AloneCommand}
use Rattle.monitor_server.specs.declared.command.AloneCommand.TheVariants as alone
use Rattle.monitor_server.specs.Around.{Around, SidesNow, files_with, sides_of}
use Rattle.monitor_server.specs.Commands.{AsksAlone, asks_audit, asks_check, asks_otp, asks_recover, asks_renew, asks_serve}
use Rattle.monitor_server.specs.Touching.{TouchesFilesNamed, TouchesGiven, files_given, files_named, files_replaced, files_written, names_in, setups_given, setups_named}

-- ---- where the names of a command are among those of the words

-- what is asked for is last
own : {A : Type 0} (names : A → List (List ℕ)) (asks : Option A) (asked : A) → asks ≡ Some asked → HasAll (names_in names asks) (names asked)
own names asks asked is name h = subst (λ a. IsTrue (has_name name (names_in names a))) (sym is) h

-- it is among the first of them
left : (some rest few : List (List ℕ)) → HasAll some few → HasAll (some ++ rest) few
left some rest few all name h = name_left name some rest (all name h)

-- it is the last of them
right : (some rest few : List (List ℕ)) → HasAll rest few → HasAll (some ++ rest) few
right some rest few all name h = name_right name some rest (all name h)

-- it is the first, or the second, of three
first : (a b c few : List (List ℕ)) → HasAll a few → HasAll (a ++ b ++ c) few
first a b c few h = left (a ++ b) c few (left a b few h)

second : (a b c few : List (List ℕ)) → HasAll b few → HasAll (a ++ b ++ c) few
second a b c few h = left (a ++ b) c few (right a b few h)

-- the names of each mode
abbrev by_serve : List (List ℕ) → List (List ℕ)
by_serve words = names_in files_of (asks_serve words)

abbrev by_otp : List (List ℕ) → List (List ℕ)
by_otp words = names_in (λ (parts : OtpParts). option_to_list parts.list) (asks_otp words)

abbrev by_check : List (List ℕ) → List (List ℕ)
by_check words = names_in (λ (setup : List ℕ). setup ∷ []) (asks_check words)

abbrev by_audit : List (List ℕ) → List (List ℕ)
by_audit words = names_in audits.names_of (asks_audit words)

abbrev by_renew : List (List ℕ) → List (List ℕ)
by_renew words = names_in renews.names_of (asks_renew words)

abbrev by_recover : List (List ℕ) → List (List ℕ)
by_recover words = names_in recoveries.names_of (asks_recover words)

abbrev setup_of_serve : List (List ℕ) → List (List ℕ)
setup_of_serve words = names_in setups_of (asks_serve words)

abbrev setup_of_renew : List (List ℕ) → List (List ℕ)
setup_of_renew words = names_in (λ (parts : RenewParts). parts.setup ∷ []) (asks_renew words)

-- among all names of files
abbrev to_check : List (List ℕ) → List (List ℕ)
to_check words = by_serve words ++ by_otp words ++ by_check words

files_first : (words few : List (List ℕ)) → HasAll (to_check words) few → HasAll (files_named words) few
files_first words few h =
    left (to_check words ++ by_audit words ++ by_renew words) (by_recover words) few
    (first (to_check words) (by_audit words) (by_renew words) few h)

files_serve : (words few : List (List ℕ)) → HasAll (by_serve words) few → HasAll (files_named words) few
files_serve words few h = files_first words few (first (by_serve words) (by_otp words) (by_check words) few h)

files_otp : (words few : List (List ℕ)) → HasAll (by_otp words) few → HasAll (files_named words) few
files_otp words few h = files_first words few (second (by_serve words) (by_otp words) (by_check words) few h)

files_check : (words few : List (List ℕ)) → HasAll (by_check words) few → HasAll (files_named words) few
files_check words few h = files_first words few (right (by_serve words ++ by_otp words) (by_check words) few h)

files_audit : (words few : List (List ℕ)) → HasAll (by_audit words) few → HasAll (files_named words) few
files_audit words few h =
    left (to_check words ++ by_audit words ++ by_renew words) (by_recover words) few
    (second (to_check words) (by_audit words) (by_renew words) few h)

files_renew : (words few : List (List ℕ)) → HasAll (by_renew words) few → HasAll (files_named words) few
files_renew words few h =
    left (to_check words ++ by_audit words ++ by_renew words) (by_recover words) few
    (right (to_check words ++ by_audit words) (by_renew words) few h)

files_recover : (words few : List (List ℕ)) → HasAll (by_recover words) few → HasAll (files_named words) few
files_recover words few h = right (to_check words ++ by_audit words ++ by_renew words) (by_recover words) few h

nothing : (names : List (List ℕ)) → HasAll names []
nothing names name h = absurd (let e = h in cc)

-- ---- the files of each command

pub served_files : (words : List (List ℕ)) (source : Source) → asks_serve words ≡ Some source → HasAll (files_named words) (files_of source)
served_files words source asked = files_serve words (files_of source) (own files_of (asks_serve words) source asked)

pub served_setups : (words : List (List ℕ)) (source : Source) → asks_serve words ≡ Some source → HasAll (setups_named words) (setups_of source)
served_setups words source asked =
    first (setup_of_serve words) (by_check words) (setup_of_renew words) (setups_of source) (own setups_of (asks_serve words) source asked)

pub alone_files : (words : List (List ℕ)) (command : AloneCommand) → AsksAlone words command → HasAll (files_named words) (files_given command)
alone_files words (alone.Password command) asked =
    files_otp words (option_to_list (command_parts command).list) (own (λ (parts : OtpParts). option_to_list parts.list) (asks_otp words) (command_parts command) asked)
alone_files words (alone.Check setup) asked =
    files_check words (setup.now ∷ []) (own (λ (name : List ℕ). name ∷ []) (asks_check words) setup.now asked)
alone_files words (alone.Child command) asked = nothing (files_named words)
alone_files words (alone.Audit command) asked =
    let parts = audits_command.command_parts command in
    files_audit words (audits.names_of parts) (own audits.names_of (asks_audit words) parts asked)
alone_files words (alone.Renew command) asked =
    let parts = renewals.command_parts command in
    files_renew words (renews.names_of parts) (own renews.names_of (asks_renew words) parts asked)
alone_files words (alone.Recover command) asked =
    let parts = recoveries_command.command_parts command in
    files_recover words (recoveries.names_of parts) (own recoveries.names_of (asks_recover words) parts asked)
alone_files words (alone.Enrol command) asked = nothing (files_named words)

pub alone_setups : (words : List (List ℕ)) (command : AloneCommand) → AsksAlone words command → HasAll (setups_named words) (setups_given command)
alone_setups words (alone.Check setup) asked =
    second (setup_of_serve words) (by_check words) (setup_of_renew words) (setup.now ∷ [])
    (own (λ (name : List ℕ). name ∷ []) (asks_check words) setup.now asked)
alone_setups words (alone.Renew command) asked =
    let parts = renewals.command_parts command in
    right (setup_of_serve words ++ by_check words) (setup_of_renew words) (parts.setup ∷ [])
    (own (λ (p : RenewParts). p.setup ∷ []) (asks_renew words) parts asked)
alone_setups words (alone.Password command) asked = nothing (setups_named words)
alone_setups words (alone.Child command) asked = nothing (setups_named words)
alone_setups words (alone.Audit command) asked = nothing (setups_named words)
alone_setups words (alone.Recover command) asked = nothing (setups_named words)
alone_setups words (alone.Enrol command) asked = nothing (setups_named words)

alone_written : (words : List (List ℕ)) (command : AloneCommand) → AsksAlone words command → HasAll (files_replaced words) (files_written command)
alone_written words (alone.Renew command) asked =
    let parts = renewals.command_parts command in
    second (setup_of_serve words) (setup_of_renew words) (by_recover words) (parts.setup ∷ [])
    (own (λ (p : RenewParts). p.setup ∷ []) (asks_renew words) parts asked)
alone_written words (alone.Recover command) asked =
    let parts = recoveries_command.command_parts command in
    right (setup_of_serve words ++ setup_of_renew words) (by_recover words) (recoveries.names_of parts)
    (own recoveries.names_of (asks_recover words) parts asked)
alone_written words (alone.Password command) asked = nothing (files_replaced words)
alone_written words (alone.Check setup) asked = nothing (files_replaced words)
alone_written words (alone.Child command) asked = nothing (files_replaced words)
alone_written words (alone.Audit command) asked = nothing (files_replaced words)
alone_written words (alone.Enrol command) asked = nothing (files_replaced words)

-- ---- each command

module _ {F S K E : Type 0} (words : List (List ℕ)) (contents : F → Option Contents) (before after : Around F S K E) where
  wide : (names setups replaces : List (List ℕ)) → HasAll (files_named words) names → HasAll (setups_named words) setups → HasAll (files_replaced words) replaces → TouchesNamed names setups replaces (files_with contents before.files) (files_with contents after.files) → TouchesFilesNamed words contents before after
  wide names setups replaces all all' all'' =
      touches_wider names setups replaces (files_named words) (setups_named words) (files_replaced words) all all' all'' (files_with contents before.files) (files_with contents after.files)

  pub touches_served : (source : Source) → asks_serve words ≡ Some source → TouchesNamed (files_of source) (setups_of source) (setups_of source) (files_with contents before.files) (files_with contents after.files) → TouchesFilesNamed words contents before after
  touches_served source asked =
      wide (files_of source) (setups_of source) (setups_of source) (served_files words source asked) (served_setups words source asked)
      (first (setup_of_serve words) (setup_of_renew words) (by_recover words) (setups_of source) (own setups_of (asks_serve words) source asked))

  pub touches_same : after.files ≡ before.files → TouchesFilesNamed words contents before after
  touches_same same =
      subst (λ files. TouchesNamed (files_named words) (setups_named words) (files_replaced words) (files_with contents before.files) (files_with contents files)) (sym same)
      (touches_none (files_named words) (setups_named words) (files_replaced words) (files_with contents before.files))

  pub touches_alone : (command : AloneCommand) → AsksAlone words command → TouchesGiven command contents (sides_of before) (sides_of after) → TouchesFilesNamed words contents before after
  touches_alone command asked =
      wide (files_given command) (setups_given command) (files_written command) (alone_files words command asked) (alone_setups words command asked) (alone_written words command asked)

-- ---- what one command did

-- it began at the same moment
pub touched_from : {F E : Type 0} (contents : F → Option Contents) {names setups replaces : List (List ℕ)} {old before : SidesNow F E} {b : FilesNow} → old ≡ before → TouchesNamed names setups replaces (files_with contents old.files) b → TouchesNamed names setups replaces (files_with contents before.files) b
touched_from contents {names} {setups} {replaces} {b = b} is touches = subst (λ sides. TouchesNamed names setups replaces (files_with contents sides.files) b) is touches

-- so did a run of `serve`
pub touched_serving : {F S K E : Type 0} (contents : F → Option Contents) {names setups replaces : List (List ℕ)} {old before : Around F S K E} {b : FilesNow} → old ≡ before → TouchesNamed names setups replaces (files_with contents old.files) b → TouchesNamed names setups replaces (files_with contents before.files) b
touched_serving contents {names} {setups} {replaces} {b = b} is touches = subst (λ around. TouchesNamed names setups replaces (files_with contents around.files) b) is touches

-- the sides of a world were taken apart from it and put back
pub touched_within : {F S K E : Type 0} (command : AloneCommand) (contents : F → Option Contents) {old last before after : Around F S K E} {sides : SidesNow F E} → old ≡ before → sides_of last ≡ sides → after ≡ last → TouchesGiven command contents (sides_of old) sides → TouchesGiven command contents (sides_of before) (sides_of after)
touched_within {F} {S} {K} {E} command contents {old} {last} {before} {after} {sides} from back to touches =
    subst (λ (b : Around F S K E). TouchesGiven command contents (sides_of b) (sides_of after)) from
    (subst (λ (a : Around F S K E). TouchesGiven command contents (sides_of old) (sides_of a)) (sym to)
    (subst (λ s. TouchesGiven command contents (sides_of old) s) (sym back) touches))

-- it only read
pub only_given : {names : List (List ℕ)} (setups replaces : List (List ℕ)) {a b : FilesNow} → OnlyReads names a b → TouchesNamed names setups replaces a b
only_given {names} setups replaces {a} {b} reads = touches_reads names setups replaces a b (reads_only names setups a b reads)

-- it only read, a word list too
pub reads_given : {names setups : List (List ℕ)} (replaces : List (List ℕ)) {a b : FilesNow} → ReadsNamed names setups a b → TouchesNamed names setups replaces a b
reads_given {names} {setups} replaces {a} {b} reads = touches_reads names setups replaces a b reads
