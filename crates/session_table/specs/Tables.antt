-- Inner: the rows of all workers, and a table that knows what a journal says of each worker's session.
use Rattle.std.specs.Prelude.{ℕ, ◌≡◌, ◌≢◌, ◌<◌, ◌+◌, ◌-◌, ◌^◌, ◌&&◌, true, false, List, [], ◌∷◌, ◌++◌, Option, Some}
use Rattle.std.specs.Prelude.{None, length, replicate, slice_index_or, slice_set}
use Rattle.policy_model.specs.declared.event.Event.{Event}
use Rattle.policy_model.specs.Asks.{is_end, is_lost, is_permit, opens}
use Rattle.policy_model.specs.Journal.{open_session_of, openings_of}
use Rattle.policy_model.specs.Legal.{IsNext}
use Rattle.policy_model.specs.Runs.{AreNumbered}
use Rattle.policy_model.specs.Settings.{Settings}
use Rattle.session_laws.specs.Opened.{AreApart}
use Rattle.session_table.specs.declared.rows.SessionRow.{SessionRow}
use Rattle.session_table.specs.Files.{FitsFiles}
use Rattle.session_table.specs.Rows.{new_row, row_after}
use Rattle.session_table.specs.Standing.{NamesFit, RowStands}

-- a row a worker that has a session, and how many sessions were opened
pub record TableParts : Type 0 where
  pub rows : List (Option SessionRow)
  pub begun : ℕ

-- the row of a worker
abbrev pub row_in : List (Option SessionRow) → ℕ → Option SessionRow
row_in rows worker = slice_index_or rows worker None

abbrev pub row_at : TableParts → ℕ → Option SessionRow
row_at table worker = row_in table.rows worker

-- no worker has a session
abbrev pub new_table : ℕ → TableParts
new_table workers = record { rows = replicate workers None; begun = 0 }

-- the worker opens the next session
abbrev pub table_begun : TableParts → ℕ → TableParts
table_begun table worker =
    record { rows = slice_set table.rows worker (Some (new_row (table.begun + 1))); begun = table.begun + 1 }

-- the worker's session ends
abbrev pub table_ended : TableParts → ℕ → TableParts
table_ended table worker = record { rows = slice_set table.rows worker None; begun = table.begun }

-- what an event makes of a row, if there is one
abbrev pub worker_after : Option SessionRow → Event → ℕ → ℕ → Option SessionRow
worker_after None e account grant = None
worker_after (Some row) e account grant = Some (row_after row e account grant)

-- the worker has one event more, which neither opens nor ends its session
abbrev pub rows_after : List (Option SessionRow) → ℕ → Event → ℕ → ℕ → List (Option SessionRow)
rows_after rows worker e account grant = slice_set rows worker (worker_after (row_in rows worker) e account grant)

abbrev pub table_after : TableParts → ℕ → Event → ℕ → ℕ → TableParts
table_after table worker e account grant =
    record { rows = rows_after table.rows worker e account grant; begun = table.begun }

-- there is room for one more ask and one more denied reply, and a file that is opened has a new handle
pub record FitsCounts (row : SessionRow) (e : Event) : Type 0 where
  pub asked_below : row.asked < 2 ^ 32 - 1
  pub tries_below : row.tries < 2 ^ 32 - 1
  pub files : FitsFiles row.handles e

-- so it is with the worker's row, if there is one
pub record FitsWorker (rows : List (Option SessionRow)) (worker : ℕ) (e : Event) : Type 0 where
  pub fits : (row : SessionRow) → row_in rows worker ≡ Some row → FitsCounts row e

-- a worker has a row just where it has a session, and the row stands for that
abbrev pub WorkerStands : Settings → Option SessionRow → List Event → ℕ → Type 0
WorkerStands setup None journal session = session ≡ 0
WorkerStands setup (Some row) journal session = (session ≢ 0) × RowStands setup row journal session

-- a table knows what the journal says of each worker's session
pub record TableStands (setup : Settings) (table : TableParts) (journal : List Event) : Type 0 where
  pub workers : length table.rows ≡ setup.workers
  pub begun : table.begun ≡ openings_of journal
  pub numbered : AreNumbered journal (openings_of journal)
  pub apart : AreApart journal
  pub rows : (w : ℕ) → w < setup.workers → WorkerStands setup (row_at table w) journal (open_session_of journal w)

-- an event is the worker's and the one that the policy gives after a journal, and isn't lost
pub record Follows (setup : Settings) (journal : List Event) (worker : ℕ) (e : Event) : Type 0 where
  pub by : e.worker ≡ worker
  pub next : IsNext setup journal e
  pub kept : is_lost e.decision ≡ false

-- the account and the grant are those that the event of a worker with this row names
pub record NamesFound (setup : Settings) (row : Option SessionRow) (e : Event) (number grant : ℕ) : Type 0 where
  pub names : (found : SessionRow) → row ≡ Some found → NamesFit setup found e number grant

-- the table of a setup's workers stands for no event
pub record StandsOpen (workers : ℕ) (table : TableParts) : Type 0 where
  pub by_setup : (setup : Settings) → setup.workers ≡ workers → TableStands setup table []

-- what a table becomes stands for a journal and one event more, by which the worker opens a session
pub record StandsBegun (old : TableParts) (worker : ℕ) (new : TableParts) : Type 0 where
  pub by_journal : (setup : Settings) (journal : List Event) (e : Event) → TableStands setup old journal
      → Follows setup journal worker e → opens e ≡ true → TableStands setup new (journal ++ e ∷ [])

-- so with an event by which the worker's session ends
pub record StandsEnded (old : TableParts) (worker : ℕ) (new : TableParts) : Type 0 where
  pub by_journal : (setup : Settings) (journal : List Event) (e : Event) → TableStands setup old journal
      → Follows setup journal worker e → is_end e.ask ≡ true → is_permit e.decision ≡ true
      → TableStands setup new (journal ++ e ∷ [])

-- so with an event that neither opens nor ends a session
pub record StandsKept (old : TableParts) (worker : ℕ) (e : Event) (number grant : ℕ) (new : TableParts) : Type 0 where
  pub by_journal : (setup : Settings) (journal : List Event) → TableStands setup old journal
      → Follows setup journal worker e → opens e ≡ false → (is_end e.ask && is_permit e.decision) ≡ false
      → NamesFound setup (row_at old worker) e number grant → TableStands setup new (journal ++ e ∷ [])
