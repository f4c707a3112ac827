-- Inner: what a journal says of a session, and a row that knows it.
use Rattle.std.specs.Prelude.{ℕ, ◌≡◌, ◌<◌, ◌+◌, Bool, true, false, List, [], ◌∷◌, ◌++◌, Option, Some, None, is_some}
use Rattle.std.specs.Prelude.{length, map, nat_le, position, slice_get, unwrap_or, if◌then◌else◌}
use Rattle.std.specs.List.{list_all}
use Rattle.request_catalogue.specs.declared.kind.Kind.{Kind}
use Rattle.request_catalogue.specs.declared.texts.Label.{Label}
use Rattle.request_catalogue.specs.declared.texts.Name.{Name}
use Rattle.policy_model.specs.declared.account.Grant.{Grant}
use Rattle.policy_model.specs.declared.event.Event.{Event}
use Rattle.policy_model.specs.declared.phase.Phase.{Phase}
use Rattle.policy_model.specs.declared.phase.Phase.TheVariants.{Pre, Challenged, Verified, User}
use Rattle.policy_model.specs.declared.reading.TheConstants.{DECOYS_FROM}
use Rattle.policy_model.specs.Asks.{label_named}
use Rattle.policy_model.specs.Asks.{accepts, challenge_name, exports, is_denied_reply, opens, opens_file, permits_kind}
use Rattle.policy_model.specs.Asks.{takes, value_of}
use Rattle.policy_model.specs.Handles.{live_handles_of}
use Rattle.policy_model.specs.Journal.{ask_count, count_of, has_event, openings_of}
use Rattle.policy_model.specs.Logins.{challenged_user, verified_user, was_decoyed}
use Rattle.policy_model.specs.Phases.{phase_of}
use Rattle.policy_model.specs.Runs.{AreNumbered}
use Rattle.policy_model.specs.Settings.{Settings, account_number, same_label}
use Rattle.policy_model.specs.Cases.{grants_of}
use Rattle.session_table.specs.declared.handles.LiveHandle.{LiveHandle}
use Rattle.session_table.specs.declared.rows.SessionRow.{SessionRow}
use Rattle.session_table.specs.Files.{file_opened}
use Rattle.session_table.specs.Marks.{has_mark}

-- the number of the account of a user, if there is one
abbrev pub number_by : Settings → Option Name → Option ℕ
number_by setup None = None
number_by setup (Some user) = account_number setup user

-- the account that a permitted CHALLENGE is for: that of its user, and the number of accounts for a decoy
abbrev pub account_taken : Settings → Event → Option ℕ
account_taken setup e =
    if nat_le DECOYS_FROM (value_of e.decision) then Some (length setup.accounts)
    else number_by setup (challenge_name e.ask)

-- the account that a session's last permitted CHALLENGE is for
abbrev pub account_challenged : Settings → List Event → ℕ → Option ℕ
account_challenged setup journal session =
    if was_decoyed journal session then Some (length setup.accounts)
    else number_by setup (challenged_user journal session)

-- the phases from a challenge on, those from the login on, and those before the user's own child
abbrev pub has_taken : Phase → Bool
has_taken Challenged = true
has_taken Verified = true
has_taken User = true
has_taken _ = false

abbrev pub is_logged_in : Phase → Bool
is_logged_in Verified = true
is_logged_in User = true
is_logged_in _ = false

abbrev pub is_before_user : Phase → Bool
is_before_user Pre = true
is_before_user Challenged = true
is_before_user Verified = true
is_before_user _ = false

-- the number of the grant of a file's name, if there is one
abbrev pub grant_number : List Grant → Option Label → Option ℕ
grant_number grants None = None
grant_number grants (Some name) = position (λ g. same_label g.name name) grants

-- the grants of the account of a number
abbrev pub grants_at : Settings → ℕ → List Grant
grants_at setup account = grants_of (slice_get setup.accounts account)

-- some grant is for the file that an OPEN names
abbrev pub is_granted : List Grant → Event → Bool
is_granted grants e = is_some (grant_number grants (label_named e.ask))

-- the file that an OPEN opened, where these are the user's grants
abbrev pub file_by : List Grant → Event → LiveHandle
file_by grants e = file_opened e (unwrap_or (grant_number grants (label_named e.ask)) 0)

-- a row knows of a session what the journal says
pub record RowStands (setup : Settings) (row : SessionRow) (journal : List Event) (s : ℕ) : Type 0 where
  pub session : row.session ≡ s
  pub phase : row.phase ≡ phase_of journal s
  pub places : length row.bits ≡ 14
  pub bits : (kind : Kind) → has_mark kind row.bits ≡ has_event journal s (permits_kind kind)
  pub asked : row.asked ≡ ask_count journal s
  pub tries : row.tries ≡ count_of journal s is_denied_reply
  pub account : has_taken row.phase ≡ true → account_challenged setup journal s ≡ Some row.account
  pub user : is_logged_in row.phase ≡ true → verified_user journal s ≡ challenged_user journal s
  pub real : is_logged_in row.phase ≡ true → was_decoyed journal s ≡ false
  pub unopened : is_before_user row.phase ≡ true → live_handles_of journal s ≡ []
  pub handles : row.handles ≡ map (file_by (grants_at setup row.account)) (live_handles_of journal s)
  pub granted : list_all (is_granted (grants_at setup row.account)) (live_handles_of journal s) ≡ true

-- an event fits a session's row: what it permits is for the row's phase,
-- and the account and the grant are those that it names
pub record FitsRow (setup : Settings) (row : SessionRow) (e : Event) (number grant : ℕ) : Type 0 where
  pub later : opens e ≡ false
  pub taking : takes e ≡ true → (row.phase ≡ Pre) × (account_taken setup e ≡ Some number)
  pub accepting : accepts e ≡ true → (row.phase ≡ Challenged) × (row.account < length setup.accounts)
  pub exporting : exports e ≡ true → row.phase ≡ Verified
  pub opening : opens_file e ≡ true → (row.phase ≡ User)
      × (grant_number (grants_at setup row.account) (label_named e.ask) ≡ Some grant)

-- the account and the grant are those that an event of the session names
pub record NamesFit (setup : Settings) (row : SessionRow) (e : Event) (number grant : ℕ) : Type 0 where
  pub taking : takes e ≡ true → account_taken setup e ≡ Some number
  pub opening : opens_file e ≡ true → grant_number (grants_at setup row.account) (label_named e.ask) ≡ Some grant

-- a row stands for a session that one more event opens
pub record StandsNew (session : ℕ) (row : SessionRow) : Type 0 where
  pub by_journal : (setup : Settings) (journal : List Event) (e : Event) → AreNumbered journal (openings_of journal)
      → opens e ≡ true → e.session ≡ session → session ≡ openings_of journal + 1
      → RowStands setup row (journal ++ e ∷ []) session

-- what a row becomes stands for a journal and one event more of the session
pub record StandsAfter (old : SessionRow) (e : Event) (number grant : ℕ) (new : SessionRow) : Type 0 where
  pub by_journal : (setup : Settings) (journal : List Event) → RowStands setup old journal e.session
      → FitsRow setup old e number grant → RowStands setup new (journal ++ e ∷ []) e.session
