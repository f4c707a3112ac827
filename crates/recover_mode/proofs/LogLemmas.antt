-- What is wrong with a log that is refused.
use Rattle.std.proofs.Common.{◌≡◌, ℕ, ◌+◌, ◌<◌, Bool, true, false, List, [], ◌∷◌, ◌++◌, cond, zero, suc, Option, Some, None, Err, refl, subst, arith, inl, inr}
use Rattle.std.specs.List.{AllByRecursion}
use Rattle.std.specs.Option.{option_to_list}
use Rattle.policy_model.specs.Asks.{value_of}
use Rattle.policy_model.specs.Settings.{Settings}
use Rattle.decision_log.specs.Values.{LineValue}
use Rattle.ledger_journal.specs.declared.answer.RecoverError.{RecoverError}
use Rattle.ledger_journal.specs.declared.answer.RecoverError.TheVariants as log_errors
use Rattle.ledger_journal.specs.declared.login.Login.{Login}
use Rattle.ledger_journal.specs.Lines.{line_at, lines_after, lines_of}
use Rattle.ledger_journal.specs.Logins.{accepts_reply, account_taken, last_taking, left_of, logins_after, logins_of}
use Rattle.ledger_journal.specs.Recovering.{HasFault, HasSome, IsFirstFault}
use Rattle.ledger_journal.proofs.AnswerLemmas.{line_number}
use Rattle.ledger_journal.proofs.PassLemmas.{all_left}
use Rattle.trouble.specs.Reading.{trouble_of_log}
use Rattle.recover_mode.specs.Recovering.{IsBroughtBack, IsLogTrouble, IsLogFault}

-- ---- no record has the number 0

abbrev Numbered : LineValue → Type 0
Numbered v = 0 < v.number

abbrev Counted : Login → Type 0
Counted l = 0 < l.line

numbered-line : (o : Option LineValue) (lines : List LineValue) → ((v : LineValue) → o ≡ Some v → Numbered v) → AllByRecursion Numbered lines → AllByRecursion Numbered (option_to_list o ++ lines)
numbered-line None lines each rest = rest
numbered-line (Some v) lines each rest = (each v refl, rest)

numbered-lines : (count : ℕ) (records : List (List ℕ)) → AllByRecursion Numbered (lines_after count records)
numbered-lines count [] = tt
numbered-lines count (bytes ∷ records) =
    numbered-line (line_at (count + 1) bytes) (lines_after (count + 1) records) (λ v is. let e = line_number (count + 1) bytes v is in omega (arith, e)) (numbered-lines (count + 1) records)

counted-logins : (setup : Settings) (before lines : List LineValue) → AllByRecursion Numbered lines → AllByRecursion Counted (logins_after setup before lines)
counted-logins setup before [] all = tt
counted-logins setup before (v ∷ lines) all = go (account_taken setup (last_taking before v.session)) (accepts_reply v) (counted-logins setup (before ++ v ∷ []) lines all.1) where
  go : (account : Option ℕ) (b : Bool) → AllByRecursion Counted (logins_after setup (before ++ v ∷ []) lines) → AllByRecursion Counted (option_to_list (cond b (Some (let l : Login = record { line = v.number; account = account; password = value_of v.decision } in l)) None) ++ logins_after setup (before ++ v ∷ []) lines)
  go account true rest = (all.0, rest)
  go account false rest = rest

counted-left : (setup : Settings) (records : List (List ℕ)) → AllByRecursion Counted (left_of setup (logins_of setup records))
counted-left setup records = all_left Counted setup (logins_of setup records) (counted-logins setup [] (lines_of records) (numbered-lines 0 records))

counted-part : (before : List Login) (login : Login) (later : List Login) → AllByRecursion Counted (before ++ login ∷ later) → Counted login
counted-part [] login later all = all.0
counted-part (l ∷ before) login later all = counted-part before login later all.1

no-fault-0 : (setup : Settings) (records : List (List ℕ)) → HasFault setup records 0 → ⊥
no-fault-0 setup records (inl none) = omega (arith, none.counted)
no-fault-0 setup records (inr refused) =
    let some = counted-part refused.before refused.login refused.later (subst (AllByRecursion Counted) refused.parts (counted-left setup records)) in
    omega (arith, some, refused.counted)

-- ---- the number by which a log is refused

IsLogFault-first : (setup : Settings) (image : List ℕ) (number : ℕ) (some : HasSome image) → IsFirstFault setup some.records number → IsLogFault setup image number
IsLogFault-first setup image zero some first = absurd (no-fault-0 setup some.records first.here)
IsLogFault-first setup image (suc place) some first = record { records = some.records; has = some.has; first = first }

pub IsLogTrouble-of : (setup : Settings) (image : List ℕ) (error : RecoverError) → IsBroughtBack setup image (Err error) → IsLogTrouble setup image (trouble_of_log error)
IsLogTrouble-of setup image log_errors.NoLog answered =
    record { error = log_errors.NoLog; answered = answered; told = refl; fault = answered.log }
IsLogTrouble-of setup image (log_errors.Line number) answered =
    record { error = log_errors.Line number; answered = answered; told = refl; fault = IsLogFault-first setup image number answered.log (answered.exact answered.log.records answered.log.has) }
IsLogTrouble-of setup image log_errors.OutOfMemory answered = tt
