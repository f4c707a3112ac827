-- Inner: what a journal says of each account, and a ledger that knows it.
use Rattle.std.specs.Prelude.{ℕ, ◌≡◌, ◌<◌, ◌||◌, true, false, List, [], ◌∷◌, ◌++◌, Some, length, map, slice_get}
use Rattle.request_catalogue.specs.declared.texts.Name.{Name}
use Rattle.policy_model.specs.declared.account.Account.{Account}
use Rattle.policy_model.specs.declared.event.Decision.{Decision}
use Rattle.policy_model.specs.declared.event.Event.{Event}
use Rattle.policy_model.specs.Asks.{accepts, ends_session, gives_up, moment_of, reserves, value_of}
use Rattle.policy_model.specs.Logins.{account_of, accepted_of, challenged_user, current_password, current_sequence}
use Rattle.policy_model.specs.Logins.{holder_of, last_taking_of, session_taking}
use Rattle.policy_model.specs.Phases.{is_over}
use Rattle.policy_model.specs.Settings.{account_number}
use Rattle.policy_model.specs.Verdict.{account_verdict, user_verdict}
use Rattle.policy_model.specs.Cases.{is_holder, taking_moment}
use Rattle.otp_ledger.specs.declared.ledger.Current.{Current}
use Rattle.otp_ledger.specs.Accounts.{AccountState, LedgerParts, ledger_releasing, state_at}

-- what a journal says of an account
abbrev pub state_by : List Event → Account → AccountState
state_by journal account = record {
  algo = account.algo;
  enabled = account.enabled;
  accepted = accepted_of journal account;
  sequence = current_sequence journal account;
  taker = session_taking (last_taking_of journal account.name);
  moment = taking_moment (last_taking_of journal account.name);
  holder = holder_of journal account.name;
}

-- a ledger knows of each account what the journal says
pub record StandsFor (l : LedgerParts) (journal : List Event) : Type 0 where
  pub accounts : l.accounts ≡ map (state_by journal) l.setup.accounts

-- a decision on a CHALLENGE is the policy's, for each journal that the ledger stands for
pub record IsChallengeVerdict (l : LedgerParts) (user : Name) (session now : ℕ) (decision : Decision) : Type 0 where
  pub by_journal : (journal : List Event) → StandsFor l journal → decision ≡ account_verdict l.setup journal session
      user now (account_of l.setup user)

-- a decision on a REPLY for the user of an account is the policy's
pub record IsReplyVerdict (l : LedgerParts) (account session : ℕ) (passwords : List ℕ)
    (decision : Decision) : Type 0 where
  pub by_journal : (journal : List Event) (user : Name) → StandsFor l journal → account_number l.setup user
      ≡ Some account → decision ≡ user_verdict l.setup journal session passwords user

-- what an account's chain has come to, for each journal that the ledger stands for
pub record IsCurrent (l : LedgerParts) (account : ℕ) (current : Current) : Type 0 where
  pub by_journal : (journal : List Event) (a : Account) → StandsFor l journal → slice_get l.setup.accounts account
      ≡ Some a → (current.sequence ≡ current_sequence journal a) × (current.password ≡ current_password journal a)

-- a session holds no other account than this one
pub record HoldsAtMost (l : LedgerParts) (session account : ℕ) : Type 0 where
  pub at_most : (n : ℕ) → n < length l.accounts → is_holder session (state_at l n).holder ≡ true → n ≡ account

-- what the ledger becomes stands for a journal and one event more, by which the session takes the account's user
pub record StandsTaken (old : LedgerParts) (account session now : ℕ) (new : LedgerParts) : Type 0 where
  pub by_journal : (journal : List Event) (e : Event) (a : Account) → StandsFor old journal
      → slice_get old.setup.accounts account ≡ Some a → reserves a.name e ≡ true → e.session ≡ session → moment_of e.ask
      ≡ now → is_over journal session ≡ false → StandsFor new (journal ++ e ∷ [])

-- what the ledger becomes, where the session is released too, stands for a journal and
-- one event more, a permitted REPLY of a session for the account's user
pub record StandsReplied (old : LedgerParts) (account password : ℕ) (new : LedgerParts) : Type 0 where
  pub by_journal : (journal : List Event) (e : Event) (a : Account) → StandsFor old journal
      → slice_get old.setup.accounts account ≡ Some a → accepts e ≡ true → challenged_user journal e.session
      ≡ Some a.name → value_of e.decision ≡ password → HoldsAtMost old e.session account
      → StandsFor (ledger_releasing new account e.session) (journal ++ e ∷ [])

-- what the ledger becomes stands for a journal and one event more, by which the session gives up what it holds or ends
pub record StandsLeft (old : LedgerParts) (account session : ℕ) (new : LedgerParts) : Type 0 where
  pub by_journal : (journal : List Event) (e : Event) → StandsFor old journal → accepts e ≡ false
      → (gives_up e || ends_session e) ≡ true → e.session ≡ session → HoldsAtMost old session account
      → StandsFor new (journal ++ e ∷ [])
