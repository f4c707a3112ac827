-- Believed: what follows of every legal journal, for each user of the setup. Places are counted from 0.
use Rattle.std.specs.Prelude.{ℕ, ◌≡◌, ◌≢◌, ◌≤◌, ◌<◌, ◌==◌, Bool, true, List, length, take, slice_get, Some, is_some}
use Rattle.request_catalogue.specs.declared.texts.Name.{Name}
use Rattle.otp_hash.specs.Hashing.{hash_of}
use Rattle.policy_model.specs.declared.account.Account.{Account}
use Rattle.policy_model.specs.declared.event.Event.{Event}
use Rattle.policy_model.specs.Asks.{accepts, exports, reserves, takes_user, value_of}
use Rattle.policy_model.specs.Journal.{is_own}
use Rattle.policy_model.specs.Logins.{account_of, accepted_of, challenged_user, current_password, replies_of, reply_for}
use Rattle.policy_model.specs.Settings.{Settings, account_number, are_distinct}

-- at this place of the journal stands an event that passes the test
pub record StandsAt (journal : List Event) (test : Event → Bool) (place : ℕ) (e : Event) : Type 0 where
  pub stands : slice_get journal place ≡ Some e
  pub passes : test e ≡ true

-- at this place of the journal stands a permitted REPLY for the user
pub record RepliesAt (journal : List Event) (user : Name) (place : ℕ) (e : Event) : Type 0 where
  pub stands : slice_get journal place ≡ Some e
  pub replies : is_some (reply_for user (record { before = take place journal; event = e })) ≡ true

-- no password of a user is accepted twice: all its accepted passwords are different
pub record NoPasswordTwice (setup : Settings) (journal : List Event) : Type 0 where
  pub distinct : (user : Name) (account : Account) → account_of setup user ≡ Some account
      → are_distinct ◌==◌ (accepted_of journal account) ≡ true

-- a user has no more permitted replies than passwords, and each lowers the number of later challenges, decoys aside
pub record SequenceFalls (setup : Settings) (journal : List Event) : Type 0 where
  pub few : (user : Name) (account : Account) → account_of setup user ≡ Some account → length (replies_of journal user)
      ≤ account.sequence
  pub falls : (user : Name) (i k j : ℕ) (earlier reply later : Event) → i < k → k < j → StandsAt journal (reserves user)
      i earlier → RepliesAt journal user k reply → StandsAt journal (reserves user) j later → value_of later.decision
      < value_of earlier.decision

-- at place i stands a permitted CHALLENGE for the user, the last one of its session before place k
pub record IsLastTaking (journal : List Event) (user : Name) (i k : ℕ) (taking : Event) : Type 0 where
  pub taken : StandsAt journal (takes_user user) i taking
  pub last : (n : ℕ) (e : Event) → i < n → n < k → StandsAt journal (takes_user user) n e → e.session ≢ taking.session

-- from a session's last CHALLENGE for a user to its permitted REPLY no other CHALLENGE for that user is permitted
pub record OneTakerAtATime (setup : Settings) (journal : List Event) : Type 0 where
  pub alone : (user : Name) (i k : ℕ) (taking reply : Event) → RepliesAt journal user k reply
      → IsLastTaking journal user i k taking → taking.session ≡ reply.session → (m : ℕ) (e : Event) → i < m → m < k
      → StandsAt journal (takes_user user) m e → ⊥

-- before place k the session has a permitted REPLY for this account, and its password hashed to the current one
pub record IsVerifiedBefore (setup : Settings) (journal : List Event) (k session number : ℕ) : Type 0 where
  pub place : ℕ
  pub reply : Event
  pub user : Name
  pub account : Account
  pub before : place < k
  pub stands : slice_get journal place ≡ Some reply
  pub accepted : is_own session accepts reply ≡ true
  pub challenged : challenged_user (take place journal) session ≡ Some user
  pub numbered : account_number setup user ≡ Some number
  pub found : account_of setup user ≡ Some account
  pub hashes : hash_of account.algo (value_of reply.decision) ≡ current_password (take place journal) account

-- before each permitted EXPORT its own session has a permitted REPLY for the account that the EXPORT names
pub record VerifiedBeforeExport (setup : Settings) (journal : List Event) : Type 0 where
  pub verified : (k : ℕ) (e : Event) → slice_get journal k ≡ Some e → exports e ≡ true
      → IsVerifiedBefore setup journal k e.session (value_of e.decision)

-- of every legal journal: a login before each export, no password twice, a falling sequence, one taker at a time
pub record HasConsequences (setup : Settings) (journal : List Event) : Type 0 where
  pub verified : VerifiedBeforeExport setup journal
  pub once : NoPasswordTwice setup journal
  pub falls : SequenceFalls setup journal
  pub one_taker : OneTakerAtATime setup journal
