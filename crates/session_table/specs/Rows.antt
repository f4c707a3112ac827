-- Inner: the row of a session, and what an event makes of it.
use Rattle.std.specs.Prelude.{ℕ, ◌+◌, ◌&&◌, Bool, true, false, [], if◌then◌else◌}
use Rattle.policy_model.specs.declared.event.Ask.{Ask}
use Rattle.policy_model.specs.declared.event.Ask.TheVariants as asks
use Rattle.policy_model.specs.declared.event.Event.{Event}
use Rattle.policy_model.specs.declared.phase.Phase.TheVariants.{Pre}
use Rattle.policy_model.specs.Asks.{came_by_frame, is_denied_reply, is_permit, takes}
use Rattle.session_laws.specs.Phased.{phase_after}
use Rattle.session_table.specs.declared.rows.SessionRow.{SessionRow}
use Rattle.session_table.specs.Files.{files_after}
use Rattle.session_table.specs.Marks.{marks_after, no_marks}

-- a session that was just opened
abbrev pub new_row : ℕ → SessionRow
new_row session =
    record { session = session; account = 0; phase = Pre; bits = no_marks; asked = 0; tries = 0; handles = [] }

-- after an event of the session that doesn't open it: a CHALLENGE is for this account, an OPEN for this grant
abbrev pub row_after : SessionRow → Event → ℕ → ℕ → SessionRow
row_after row e account grant = record {
  session = row.session;
  account = if takes e then account else row.account;
  phase = phase_after row.phase e;
  bits = marks_after row.bits e;
  asked = row.asked + (if came_by_frame e.ask then 1 else 0);
  tries = row.tries + (if is_denied_reply e then 1 else 0);
  handles = files_after row.handles e grant;
}

-- a READ or WRITE
abbrev pub asks_use : Ask → Bool
asks_use (asks.ReadAt handle offset max) = true
asks_use (asks.WriteAt handle offset len) = true
asks_use _ = false

-- a permitted READ or WRITE
abbrev pub is_use : Event → Bool
is_use e = asks_use e.ask && is_permit e.decision
