-- Inner: the laws of sessions, one record a law, as the crate's functions say them.
use Rattle.std.specs.Prelude.{ℕ, ◌≡◌, ◌≢◌, true, false, List, [], ◌∷◌, ◌++◌, Some}
use Rattle.request_catalogue.specs.declared.texts.Name.{Name}
use Rattle.policy_model.specs.declared.account.Account.{Account}
use Rattle.policy_model.specs.declared.event.Event.{Event}
use Rattle.policy_model.specs.declared.phase.Phase.TheVariants.{Challenged, Over, User, Verified}
use Rattle.policy_model.specs.Asks.{accepts, exports, leaves, opens, opens_file, reserves, takes_user}
use Rattle.policy_model.specs.Handles.{live_handles_of}
use Rattle.policy_model.specs.Journal.{has_event}
use Rattle.policy_model.specs.Legal.{IsLegal, IsNext}
use Rattle.policy_model.specs.Logins.{account_of, challenged_user, holder_of, is_live, was_decoyed}
use Rattle.policy_model.specs.Phases.{phase_of}
use Rattle.policy_model.specs.Settings.{IsInRange, Settings, account_number}
use Rattle.policy_model.specs.Cases.{is_holder}
use Rattle.session_laws.specs.Counted.{CountsForItsOwn, LeavesOthers}
use Rattle.session_laws.specs.Handled.{GivesLeast, HandlesDiffer}
use Rattle.session_laws.specs.LoggedIn.{IsChallenged, IsLoggedIn}
use Rattle.session_laws.specs.Numbered.{HoldsNone, HoldsOnly}
use Rattle.session_laws.specs.Opened.{AreApart, IsFresh}
use Rattle.session_laws.specs.Tied.{AcceptsNext, AreTied, HoldsOneAtMost, LeavesUser, ReservesLive}

-- an event counts for its own session and for no other
pub record CountsOnce (journal : List Event) (e : Event) : Type 0 where
  pub own : CountsForItsOwn journal e
  pub others : (session : ℕ) → e.session ≢ session → LeavesOthers journal e session

-- two workers have no open session in common, and to a worker without one everything is over
pub record SessionsAreApart (journal : List Event) : Type 0 where
  pub apart : AreApart journal
  pub zero : phase_of journal 0 ≡ Over

-- the live handles of each session differ, and before its EXPORT it has none
pub record HandlesAreApart (journal : List Event) : Type 0 where
  pub differ : (session : ℕ) → HandlesDiffer journal session
  pub before : (session : ℕ) → has_event journal session exports ≡ false → live_handles_of journal session ≡ []

-- each holder is in Challenged for the user that it holds; a session holds one user at most, which is the one that
-- it is challenged for, and none where the challenge is a decoy or the session isn't in Challenged
pub record HoldersAreTied (setup : Settings) (journal : List Event) : Type 0 where
  pub tied : AreTied setup journal
  pub one : (session : ℕ) → HoldsOneAtMost journal session
  pub only : (session number : ℕ) (user : Name) → IsInRange setup → challenged_user journal session ≡ Some user
      → account_number setup user ≡ Some number → HoldsOnly setup journal session number
  pub decoyed : (session : ℕ) → was_decoyed journal session ≡ true → HoldsNone journal session
  pub unchallenged : (session : ℕ) → phase_of journal session ≢ Challenged → HoldsNone journal session

-- a session in Challenged is challenged for a user, and one that is verified is logged in as that user
pub record SessionsHaveUsers (setup : Settings) (journal : List Event) : Type 0 where
  pub challenged : (session : ℕ) → phase_of journal session ≡ Challenged → IsChallenged setup journal session
  pub verified : (session : ℕ) → phase_of journal session ≡ Verified → IsLoggedIn setup journal session
  pub user : (session : ℕ) → phase_of journal session ≡ User → IsLoggedIn setup journal session

-- an event may follow a legal journal
pub record FollowsLegal (setup : Settings) (journal : List Event) (e : Event) : Type 0 where
  pub legal : IsLegal setup journal
  pub next : IsNext setup journal e

-- a session that it opens is fresh, and an OPEN that it permits gives the least free handle
pub record BeginsFresh (journal : List Event) (e : Event) : Type 0 where
  pub fresh : opens e ≡ true → IsFresh (journal ++ e ∷ []) e.session
  pub least : opens_file e ≡ true → GivesLeast journal e

-- a CHALLENGE for a user reserves the user just where the user can log in; a REPLY that is
-- accepted is the next password of the user that the session holds; every user but the one that is
-- reserved and the one that the session is challenged for stays as it was, and so does this one
-- where it is no permitted REPLY and the session doesn't leave whom it holds
pub record ChangesOneUser (setup : Settings) (journal : List Event) (e : Event) : Type 0 where
  pub reserved : (user : Name) → reserves user e ≡ true → ReservesLive setup journal e user
  pub live : (user : Name) (account : Account) → IsInRange setup → takes_user user e ≡ true → account_of setup user
      ≡ Some account → is_live journal account ≡ true → reserves user e ≡ true
  pub accepted : accepts e ≡ true → AcceptsNext setup journal e
  pub others : (user : Name) → reserves user e ≡ false → challenged_user journal e.session ≢ Some user
      → LeavesUser journal e user
  pub left : (user : Name) → reserves user e ≡ false → accepts e ≡ false
      → (leaves e ≡ true → is_holder e.session (holder_of journal user) ≡ false) → LeavesUser journal e user
