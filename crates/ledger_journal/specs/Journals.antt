-- Believed: a run's journal, its records, and what recovery makes of them.
use Rattle.std.specs.Prelude.{ℕ, ◌≡◌, ◌≤◌, ◌+◌, false, List, [], ◌∷◌, count_by, length, map, Result, Ok, Err}
use Rattle.std.specs.List.{AllByRecursion, list_any}
use Rattle.policy_model.specs.declared.account.Account.{Account}
use Rattle.policy_model.specs.declared.event.Event.{Event}
use Rattle.policy_model.specs.declared.ranges.TheConstants.{EVENTS_LIMIT}
use Rattle.policy_model.specs.Asks.{accepts}
use Rattle.policy_model.specs.Journal.{has_lost}
use Rattle.policy_model.specs.Legal.{IsLegal}
use Rattle.policy_model.specs.Logins.{current_password, current_sequence}
use Rattle.policy_model.specs.Runs.{IsProperEvent}
use Rattle.policy_model.specs.Settings.{IsInRange, Settings}
use Rattle.decision_log.specs.Log.{line_of}
use Rattle.decision_log.specs.Typed.{IsTyped}
use Rattle.otp_ledger.specs.Accounts.{AccountState, current_of}
use Rattle.ledger_journal.specs.declared.answer.Recovered.{Recovered}
use Rattle.ledger_journal.specs.declared.answer.RecoverError.{RecoverError}
use Rattle.ledger_journal.specs.declared.answer.RecoverError.TheVariants as errors
use Rattle.ledger_journal.specs.Recovering.{IsOwn}

-- a whole journal of a run by this setup: legal, proper, nothing lost, within the limit of events, each number in its
-- range
pub record IsWhole (setup : Settings) (journal : List Event) : Type 0 where
  pub in_range : IsInRange setup
  pub legal : IsLegal setup journal
  pub proper : AllByRecursion IsProperEvent journal
  pub kept : has_lost journal ≡ false
  pub few : length journal ≤ EVENTS_LIMIT
  pub typed : AllByRecursion IsTyped journal

-- the records of these events, numbered on from so many before them
abbrev pub records_after : ℕ → List Event → List (List ℕ)
records_after count [] = []
records_after count (e ∷ events) = line_of (count + 1) e ∷ records_after (count + 1) events

-- the records of a journal: its lines, numbered from 1
abbrev pub records_of : List Event → List (List ℕ)
records_of journal = records_after 0 journal

-- the sequence and the current password of an account as a ledger knows them
abbrev pub chain_known : AccountState → ℕ × ℕ
chain_known state = (state.sequence, current_of state)

-- the sequence and the current password of an account after a journal
abbrev pub chain_after : List Event → Account → ℕ × ℕ
chain_after journal account = (current_sequence journal account, current_password journal account)

-- a journal's lines were read, and the ledger knows of each account what the journal says
pub record IsBackAt (setup : Settings) (journal : List Event) (r : Recovered) : Type 0 where
  pub lines : r.lines ≡ length journal
  pub accepted : r.accepted ≡ count_by accepts journal
  pub made : r.ledger.setup ≡ setup
  pub chains : map chain_known r.ledger.accounts ≡ map (chain_after journal) setup.accounts

-- a journal's lines were read, the setup has what they say already, and the ledger knows just what the setup says
pub record IsThereAlready (setup : Settings) (journal : List Event) (r : Recovered) : Type 0 where
  pub lines : r.lines ≡ length journal
  pub accepted : r.accepted ≡ count_by accepts journal
  pub already : r.already ≡ list_any accepts journal
  pub own : IsOwn setup r.ledger

-- a log was recovered so, or memory ran out
abbrev pub IsRecoveredAs : (Recovered → Type 0) → Result Recovered RecoverError → Type 0
IsRecoveredAs P (Ok r) = P r
IsRecoveredAs P (Err errors.OutOfMemory) = Unit {0}
IsRecoveredAs P (Err _) = ⊥
