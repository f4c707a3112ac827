-- Inner: the rules that come before those of a request's own kind, and
-- what a row decides for each journal that it stands for.
use Rattle.std.specs.Prelude.{ℕ, ◌≡◌, ◌≢◌, ◌==◌, ◌&&◌, not, true, List, Option, Some, None, unwrap_or, if◌then◌else◌}
use Rattle.request_catalogue.specs.declared.kind.Kind.{Kind}
use Rattle.request_catalogue.specs.declared.rules.TheConstants.{ASKS_SPENT, NOT_IN_PHASE, ONCE_ONLY}
use Rattle.request_catalogue.specs.declared.texts.Label.{Label}
use Rattle.policy_model.specs.declared.account.Grant.{Grant}
use Rattle.policy_model.specs.declared.event.Ask.{Ask}
use Rattle.policy_model.specs.declared.event.Ask.TheVariants as asks
use Rattle.policy_model.specs.declared.event.Decision.{Decision}
use Rattle.policy_model.specs.declared.event.Decision.TheVariants.{Deny}
use Rattle.policy_model.specs.declared.event.Event.{Event}
use Rattle.policy_model.specs.Asks.{came_by_frame, kind_of, request_number}
use Rattle.policy_model.specs.Phases.{table_row}
use Rattle.policy_model.specs.Settings.{Settings}
use Rattle.policy_model.specs.Verdict.{close_verdict, handle_verdict, kind_verdict, open_verdict, request_verdict}
use Rattle.session_laws.specs.Judged.{is_over_phase}
use Rattle.session_table.specs.declared.handles.LiveHandle.{LiveHandle}
use Rattle.session_table.specs.declared.rows.SessionRow.{SessionRow}
use Rattle.session_table.specs.Marks.{has_mark}
use Rattle.session_table.specs.Standing.{RowStands, grants_at, is_logged_in}

-- rule 6 where the phase doesn't permit the kind, rule 7 where one was permitted that may be only once
abbrev pub kind_refusal : SessionRow → Ask → Kind → Option Decision
kind_refusal row ask kind =
    if not (table_row row.phase kind).permitted then Some (Deny NOT_IN_PHASE (request_number ask))
    else (if (table_row row.phase kind).once && has_mark kind row.bits then Some (Deny ONCE_ONLY (request_number ask))
    else None)

abbrev pub cell_refusal : SessionRow → Ask → Option Kind → Option Decision
cell_refusal row ask None = None
cell_refusal row ask (Some kind) = kind_refusal row ask kind

-- a frame that is no request breaks its own rule
abbrev pub own_refusal : SessionRow → Ask → Option Decision
own_refusal row (asks.Bad rule detail) = Some (Deny rule detail)
own_refusal row ask = cell_refusal row ask (kind_of ask)

-- the denial of an ask by one of the rules 1 to 7: rule 6 where the
-- session is over, rule 1 where it has made so many asks
abbrev pub refusal_of : SessionRow → ℕ → Ask → Option Decision
refusal_of row requests ask =
    if is_over_phase row.phase then Some (Deny NOT_IN_PHASE (request_number ask))
    else (if row.asked == requests then Some (Deny ASKS_SPENT requests)
    else own_refusal row ask)

-- for each journal that the row stands for, what isn't refused so is decided by the rules of the request's kind
pub record IsRefusal (row : SessionRow) (requests : ℕ) (ask : Ask) (refusal : Option Decision) : Type 0 where
  pub by_journal : (setup : Settings) (journal : List Event) (session : ℕ) → RowStands setup row journal session
      → session ≢ 0 → setup.requests ≡ requests → came_by_frame ask ≡ true → request_verdict setup journal session ask
      ≡ unwrap_or refusal (kind_verdict setup journal session ask)

-- a decision on an OPEN is the policy's, where these are the files and the grants of a row that is logged in
pub record IsOpenVerdict (live : List LiveHandle) (grants : List Grant) (mode : ℕ) (name : Label)
    (decision : Decision) : Type 0 where
  pub by_journal : (setup : Settings) (row : SessionRow) (journal : List Event) (session : ℕ)
      → RowStands setup row journal session → is_logged_in row.phase ≡ true → row.handles ≡ live
      → grants_at setup row.account ≡ grants → decision ≡ open_verdict setup journal session mode name

-- a decision on a READ or WRITE of a handle is the policy's, where these are the files of a row
pub record IsUseVerdict (live : List LiveHandle) (handle needed : ℕ) (decision : Decision) : Type 0 where
  pub by_journal : (setup : Settings) (row : SessionRow) (journal : List Event) (session : ℕ)
      → RowStands setup row journal session → row.handles ≡ live → decision ≡ handle_verdict journal session handle
      needed

-- a decision on a CLOSE is the policy's
pub record IsCloseVerdict (live : List LiveHandle) (handle : ℕ) (decision : Decision) : Type 0 where
  pub by_journal : (setup : Settings) (row : SessionRow) (journal : List Event) (session : ℕ)
      → RowStands setup row journal session → row.handles ≡ live → decision ≡ close_verdict journal session handle
