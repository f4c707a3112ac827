-- Believed: a legal log: each event is of one of the setup's workers, with the session and the decision that the policy
-- gives. More than one decision may stand only where a reply's readings decide, which the log doesn't show.
use Rattle.std.specs.Prelude.{ℕ, ◌≡◌, ◌<◌, ◌==◌, ◌&&◌, ◌||◌, Bool, true, false, not, List, length, take, slice_index_or}
use Rattle.std.specs.Prelude.{Option}
use Rattle.std.specs.Option.{option_and_then, option_map_or}
use Rattle.request_catalogue.specs.declared.kind.Kind.TheVariants as kinds
use Rattle.request_catalogue.specs.declared.rules.TheConstants.{NO_MATCH, NO_READING, PASSWORD_USED}
use Rattle.request_catalogue.specs.declared.texts.Name.{Name}
use Rattle.policy_model.specs.declared.account.Account.{Account}
use Rattle.policy_model.specs.declared.event.Decision.{Decision}
use Rattle.policy_model.specs.declared.event.Decision.TheVariants.{Permit, Deny, Lost}
use Rattle.policy_model.specs.declared.event.Event.{Event}
use Rattle.policy_model.specs.declared.phase.Phase.{Phase}
use Rattle.policy_model.specs.declared.phase.Phase.TheVariants.{Challenged}
use Rattle.policy_model.specs.Asks.{is_kind}
use Rattle.policy_model.specs.Journal.{ask_count, open_session_of}
use Rattle.policy_model.specs.Legal.{session_of}
use Rattle.policy_model.specs.Logins.{account_of, challenged_user, holder_of, was_decoyed}
use Rattle.policy_model.specs.Phases.{phase_of}
use Rattle.policy_model.specs.Settings.{Settings}
use Rattle.policy_model.specs.Verdict.{is_next_password, verdict_of}

-- the phase is that of a challenged session
abbrev pub is_challenged_phase : Phase → Bool
is_challenged_phase Challenged = true
is_challenged_phase _ = false

-- the session holds the user that it challenged
abbrev pub holds_user : List Event → ℕ → Option Name → Bool
holds_user before session user =
    option_map_or (λ holder. holder == session) (option_and_then (holder_of before) user) false

-- the readings of a reply decide: its session is challenged, has asks left, and holds its user or was given a decoy
abbrev pub readings_decide : Settings → List Event → ℕ → Bool
readings_decide setup before session =
    not (session == 0) && is_challenged_phase (phase_of before session)
    && not (ask_count before session == setup.requests)
    && (was_decoyed before session || holds_user before session (challenged_user before session))

-- the password is the account's next one
abbrev pub is_password_of : List Event → Option Account → ℕ → Bool
is_password_of before account password = option_map_or (λ a. is_next_password before a password) account false

-- what can be decided on such a reply: a permit of the user's next password, or a denial by rules 14 to 16; to a decoy
-- only 14 and 16
abbrev pub may_be_decided : Settings → List Event → ℕ → Decision → Bool
may_be_decided setup before session (Permit password) =
    not (was_decoyed before session)
    && is_password_of before (option_and_then (account_of setup) (challenged_user before session)) password
may_be_decided setup before session (Deny rule detail) =
    detail == 0 && (rule == NO_READING || rule == NO_MATCH || rule == PASSWORD_USED && not (was_decoyed before session))
may_be_decided setup before session Lost = false

-- an event is a REPLY that its readings decide
abbrev pub is_open : Settings → List Event → Event → Bool
is_open setup before e = is_kind kinds.Reply e.ask && readings_decide setup before (open_session_of before e.worker)

-- the decision is the policy's; where a reply's readings decide, it is one that readings can bring
pub record IsDecided (setup : Settings) (before : List Event) (e : Event) : Type 0 where
  pub decided : is_open setup before e ≡ false → e.decision ≡ verdict_of setup before e.worker e.ask
  pub undecided : is_open setup before e ≡ true → may_be_decided setup before (open_session_of before e.worker)
      e.decision ≡ true

-- an event may follow these in a log: by its worker, its session and its decision
pub record MayFollow (setup : Settings) (before : List Event) (e : Event) : Type 0 where
  pub worker : e.worker < setup.workers
  pub session : e.session ≡ session_of before e.worker e.ask e.decision
  pub decision : IsDecided setup before e

-- a legal log: each event may follow those before it
abbrev pub IsLegalLog : Settings → List Event → Type 0
IsLegalLog setup events =
    (k : ℕ) (d : Event) → k < length events → MayFollow setup (take k events) (slice_index_or events k d)
