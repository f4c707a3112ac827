-- What one more event makes of the rows of all workers.
use Rattle.std.proofs.Common.{◌≡◌, ◌≢◌, ℕ, ◌+◌, ◌<◌, true, false, ◌&&◌, List, [], ◌∷◌, ◌++◌, length, get_or, set, Option, Some, None, refl, sym, ap, subst, ◌∙◌, arith, inl, inr, ◌⊎◌}
use Rattle.std.proofs.lemmas.Bool.{cases_eq}
use Rattle.std.proofs.lemmas.List.{get_or-replicate, get_or-set_other, get_or-set_same, length-replicate, length-set}
use Rattle.policy_model.specs.declared.event.Ask.{Ask}
use Rattle.policy_model.specs.declared.event.Ask.TheVariants as asks
use Rattle.policy_model.specs.declared.event.Decision.{Decision}
use Rattle.policy_model.specs.declared.event.Event.{Event}
use Rattle.policy_model.specs.Asks.{is_begin, is_end, is_lost, is_permit, opens}
use Rattle.policy_model.specs.Journal.{open_session_of, openings_of}
use Rattle.policy_model.specs.Legal.{IsNext, session_of}
use Rattle.policy_model.specs.Settings.{Settings}
use Rattle.policy_model.proofs.Runs.{next_session}
use Rattle.session_laws.proofs.Openings.{AreApart-push, not_of_other, numbered-push, open_session-ended, open_session-kept, open_session-opened, open_session-other, openings-kept, openings-opened, session_new, session_own}
use Rattle.session_table.specs.declared.rows.SessionRow.{SessionRow}
use Rattle.session_table.specs.Rows.{new_row, row_after}
use Rattle.session_table.specs.Standing.{NamesFit, RowStands}
use Rattle.session_table.specs.Tables.{Follows, NamesFound, StandsBegun, StandsEnded, StandsKept, StandsOpen, TableParts, TableStands, WorkerStands, new_table, row_at, table_after, table_begun, table_ended, worker_after}
use Rattle.session_table.proofs.FitLemmas.{fits_row}
use Rattle.session_table.proofs.RowLemmas.{row_new, row_other, row_own}

-- no worker has a session before the first event
pub table_new : (setup : Settings) → TableStands setup (new_table setup.workers) []
table_new setup = record {
  workers = length-replicate setup.workers None;
  begun = refl;
  numbered = tt;
  apart = record { apart = λ v w ne some. absurd (some refl) };
  rows = λ w lt. subst (λ o. WorkerStands setup o [] 0) (sym (get_or-replicate setup.workers w None None lt)) refl;
}

-- an event of another session leaves a worker's row
worker_other : (setup : Settings) (o : Option SessionRow) (journal : List Event) (e : Event) (session : ℕ) → (session ≢ 0 → e.session ≢ session) → WorkerStands setup o journal session → WorkerStands setup o (journal ++ e ∷ []) session
worker_other setup None journal e session other st = st
worker_other setup (Some row) journal e session other st = (st.0, row_other setup row journal e session (other st.0) st.1)

-- the row of the event's worker changes, and the others stay
table_push : (setup : Settings) (table : TableParts) (journal : List Event) (e : Event) (new : Option SessionRow) (begun : ℕ) → TableStands setup table journal → e.worker < setup.workers → e.session ≡ session_of journal e.worker e.ask e.decision → is_lost e.decision ≡ false → begun ≡ openings_of (journal ++ e ∷ []) → WorkerStands setup new (journal ++ e ∷ []) (open_session_of (journal ++ e ∷ []) e.worker) → TableStands setup (record { rows = set table.rows e.worker new; begun = begun }) (journal ++ e ∷ [])
table_push setup table journal e new begun st below is kept count own = record {
  workers = length-set table.rows e.worker new ∙ st.workers;
  begun = count;
  numbered = numbered-push journal e is st.numbered;
  apart = AreApart-push journal e st.numbered is st.apart;
  rows = λ w lt. rows w lt (cases_eq w e.worker);
} where
  rows : (w : ℕ) → w < setup.workers → (w ≡ e.worker) ⊎ (w ≢ e.worker) → WorkerStands setup (get_or (set table.rows e.worker new) w None) (journal ++ e ∷ []) (open_session_of (journal ++ e ∷ []) w)
  rows w lt (inl here) =
      let at : get_or (set table.rows e.worker new) e.worker None ≡ new = get_or-set_same table.rows e.worker new None (omega (arith, st.workers, below)) in
      subst (λ v. WorkerStands setup (get_or (set table.rows e.worker new) v None) (journal ++ e ∷ []) (open_session_of (journal ++ e ∷ []) v)) (sym here)
      (subst (λ o. WorkerStands setup o (journal ++ e ∷ []) (open_session_of (journal ++ e ∷ []) e.worker)) (sym at) own)
  rows w lt (inr away) =
      let at : get_or (set table.rows e.worker new) w None ≡ get_or table.rows w None = get_or-set_other table.rows e.worker w new None away in
      let stays : WorkerStands setup (get_or table.rows w None) (journal ++ e ∷ []) (open_session_of journal w) = worker_other setup (get_or table.rows w None) journal e (open_session_of journal w) (not_of_other journal e w st.numbered st.apart is kept away) (st.rows w lt) in
      subst (λ o. WorkerStands setup o (journal ++ e ∷ []) (open_session_of (journal ++ e ∷ []) w)) (sym at)
      (subst (λ s. WorkerStands setup (get_or table.rows w None) (journal ++ e ∷ []) s) (sym (open_session-other journal e w away)) stays)

-- the worker opens a session
begun_stands : (setup : Settings) (table : TableParts) (journal : List Event) (e : Event) → TableStands setup table journal → e.worker < setup.workers → e.session ≡ session_of journal e.worker e.ask e.decision → is_lost e.decision ≡ false → opens e ≡ true → TableStands setup (table_begun table e.worker) (journal ++ e ∷ [])
begun_stands setup table journal e st below is kept opened =
    let next : e.session ≡ openings_of journal + 1 = session_new journal e is opened in
    let number : e.session ≡ table.begun + 1 = next ∙ ap (λ n. n + 1) (sym st.begun) in
    let row : RowStands setup (new_row (table.begun + 1)) (journal ++ e ∷ []) (table.begun + 1) = subst (λ s. RowStands setup (new_row s) (journal ++ e ∷ []) s) number (row_new setup journal e st.numbered opened next) in
    let own : WorkerStands setup (Some (new_row (table.begun + 1))) (journal ++ e ∷ []) (table.begun + 1) = ((λ zero. absurd (omega (arith, zero))), row) in
    table_push setup table journal e (Some (new_row (table.begun + 1))) (table.begun + 1) st below is kept
    (ap (λ n. n + 1) st.begun ∙ sym (openings-opened journal e opened))
    (subst (λ s. WorkerStands setup (Some (new_row (table.begun + 1))) (journal ++ e ∷ []) s) (sym (open_session-opened journal e opened ∙ number)) own)

end_alone : (ask : Ask) (d : Decision) → is_end ask ≡ true → (is_begin ask && is_permit d) ≡ false
end_alone (asks.End why) d h = refl
end_alone _ d h = absurd cc

not_opening : (e : Event) → is_end e.ask ≡ true → opens e ≡ false
not_opening e h = end_alone e.ask e.decision h

-- the worker's session ends
ended_stands : (setup : Settings) (table : TableParts) (journal : List Event) (e : Event) → TableStands setup table journal → e.worker < setup.workers → e.session ≡ session_of journal e.worker e.ask e.decision → is_lost e.decision ≡ false → is_end e.ask ≡ true → is_permit e.decision ≡ true → TableStands setup (table_ended table e.worker) (journal ++ e ∷ [])
ended_stands setup table journal e st below is kept end permit =
    table_push setup table journal e None table.begun st below is kept
    (st.begun ∙ sym (openings-kept journal e (not_opening e end)))
    (open_session-ended journal e end permit)

-- the worker has an event that neither opens nor ends its session
kept_stands : (setup : Settings) (table : TableParts) (journal : List Event) (e : Event) (number grant : ℕ) → TableStands setup table journal → e.worker < setup.workers → IsNext setup journal e → is_lost e.decision ≡ false → opens e ≡ false → (is_end e.ask && is_permit e.decision) ≡ false → NamesFound setup (row_at table e.worker) e number grant → TableStands setup (table_after table e.worker e number grant) (journal ++ e ∷ [])
kept_stands setup table journal e number grant st below next kept closed unended names =
    table_push setup table journal e (worker_after (row_at table e.worker) e number grant) table.begun st below (next_session setup journal e next) kept
    (st.begun ∙ sym (openings-kept journal e closed))
    (subst (λ s. WorkerStands setup (worker_after (row_at table e.worker) e number grant) (journal ++ e ∷ []) s) (sym (open_session-kept journal e closed unended)) (go (row_at table e.worker) (st.rows e.worker below) names.names)) where
      own : e.session ≡ open_session_of journal e.worker
      own = session_own journal e (next_session setup journal e next) kept closed

      go : (o : Option SessionRow) → WorkerStands setup o journal (open_session_of journal e.worker) → ((row : SessionRow) → o ≡ Some row → NamesFit setup row e number grant) → WorkerStands setup (worker_after o e number grant) (journal ++ e ∷ []) (open_session_of journal e.worker)
      go None w fits = w
      go (Some row) w fits =
          let here : RowStands setup row journal e.session = subst (λ s. RowStands setup row journal s) (sym own) w.1 in
          (w.0, subst (λ s. RowStands setup (row_after row e number grant) (journal ++ e ∷ []) s) own (row_own setup row journal e number grant here (fits_row setup row journal e number grant here next closed (fits row refl))))

-- the clauses
pub stands_open : (workers : ℕ) → StandsOpen workers (new_table workers)
stands_open workers = record { by_setup = λ setup same. subst (λ n. TableStands setup (new_table n) []) same (table_new setup) }

within : (setup : Settings) (table : TableParts) (journal : List Event) (worker : ℕ) (e : Event) → worker < length table.rows → TableStands setup table journal → Follows setup journal worker e → e.worker < setup.workers
within setup table journal worker e lt st f = omega (arith, lt, st.workers, f.by)

pub stands_begun : (table : TableParts) (worker : ℕ) → worker < length table.rows → StandsBegun table worker (table_begun table worker)
stands_begun table worker lt = record {
  by_journal = λ setup journal e st f opened.
      subst (λ w. TableStands setup (table_begun table w) (journal ++ e ∷ [])) f.by (begun_stands setup table journal e st (within setup table journal worker e lt st f) (next_session setup journal e f.next) f.kept opened);
}

pub stands_ended : (table : TableParts) (worker : ℕ) → worker < length table.rows → StandsEnded table worker (table_ended table worker)
stands_ended table worker lt = record {
  by_journal = λ setup journal e st f end permit.
      subst (λ w. TableStands setup (table_ended table w) (journal ++ e ∷ [])) f.by (ended_stands setup table journal e st (within setup table journal worker e lt st f) (next_session setup journal e f.next) f.kept end permit);
}

pub stands_kept : (table : TableParts) (worker : ℕ) (e : Event) (number grant : ℕ) → worker < length table.rows → StandsKept table worker e number grant (table_after table worker e number grant)
stands_kept table worker e number grant lt = record {
  by_journal = λ setup journal st f closed unended names.
      subst (λ w. TableStands setup (table_after table w e number grant) (journal ++ e ∷ [])) f.by
      (kept_stands setup table journal e number grant st (within setup table journal worker e lt st f) f.next f.kept closed unended (record { names = λ row at. names.names row (ap (row_at table) (sym f.by) ∙ at) }));
}
