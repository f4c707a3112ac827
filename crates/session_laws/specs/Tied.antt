-- Inner: the tie between sessions and accounts.
use Rattle.std.specs.Prelude.{ℕ, ◌≡◌, ◌<◌, ◌-◌, true, false, List, [], ◌∷◌, ◌++◌, Option, Some, None, if◌then◌else◌}
use Rattle.request_catalogue.specs.declared.texts.Name.{Name}
use Rattle.policy_model.specs.declared.account.Account.{Account}
use Rattle.policy_model.specs.declared.event.Event.{Event}
use Rattle.policy_model.specs.declared.phase.Phase.TheVariants.{Challenged}
use Rattle.policy_model.specs.Asks.{leaves, value_of}
use Rattle.policy_model.specs.Journal.{is_own}
use Rattle.policy_model.specs.Logins.{account_of, challenged_user, current_sequence, holder_of, is_live, last_taking_of}
use Rattle.policy_model.specs.Logins.{replies_of, was_decoyed}
use Rattle.policy_model.specs.Phases.{is_over, phase_of}
use Rattle.policy_model.specs.Settings.{Settings}
use Rattle.policy_model.specs.Verdict.{is_next_password}
use Rattle.session_laws.specs.Numbered.{IsNumbered}

-- what an event that doesn't reserve the user makes of its holder:
-- none where the holder's session leaves, else as before
abbrev pub holder_after : Option ℕ → Event → Option ℕ
holder_after None e = None
holder_after (Some session) e = if is_own session leaves e then None else Some session

-- a session that holds a user is in Challenged for that user, by no decoy, and the user has passwords left
pub record IsTied (setup : Settings) (journal : List Event) (user : Name) (session : ℕ) : Type 0 where
  pub phase : phase_of journal session ≡ Challenged
  pub challenged : challenged_user journal session ≡ Some user
  pub no_decoy : was_decoyed journal session ≡ false
  pub left : (account : Account) → account_of setup user ≡ Some account → 0 < current_sequence journal account

-- so is every holder
pub record AreTied (setup : Settings) (journal : List Event) : Type 0 where
  pub holders : (user : Name) (session : ℕ) → holder_of journal user ≡ Some session → IsTied setup journal user session

-- a session holds no user but the one that it is challenged for
pub record HoldsOneAtMost (journal : List Event) (session : ℕ) : Type 0 where
  pub one : (user other : Name) → holder_of journal user ≡ Some session → holder_of journal other ≡ Some session
      → user ≡ other

-- what an event leaves of a user: no reply, no taking, and the holder as before
pub record LeavesUser (journal : List Event) (e : Event) (user : Name) : Type 0 where
  pub replies : replies_of (journal ++ e ∷ []) user ≡ replies_of journal user
  pub taking : last_taking_of (journal ++ e ∷ []) user ≡ last_taking_of journal user
  pub holder : holder_of (journal ++ e ∷ []) user ≡ holder_of journal user

-- a permitted REPLY: the session held the user that it was challenged for,
-- whose next password this is, and who had passwords left
pub record AcceptsNext (setup : Settings) (journal : List Event) (e : Event) : Type 0 where
  pub user : Name
  pub account : Account
  pub number : ℕ
  pub challenged : challenged_user journal e.session ≡ Some user
  pub no_decoy : was_decoyed journal e.session ≡ false
  pub numbered : IsNumbered setup user number account
  pub holder : holder_of journal user ≡ Some e.session
  pub next : is_next_password journal account (value_of e.decision) ≡ true
  pub left : 0 < current_sequence journal account

-- a permitted CHALLENGE that isn't a decoy: its user has an account, which is enabled and has passwords left
pub record ReservesLive (setup : Settings) (journal : List Event) (e : Event) (user : Name) : Type 0 where
  pub account : Account
  pub number : ℕ
  pub numbered : IsNumbered setup user number account
  pub live : is_live journal account ≡ true
  pub value : value_of e.decision ≡ current_sequence journal account - 1
  pub goes_on : is_over journal e.session ≡ false
