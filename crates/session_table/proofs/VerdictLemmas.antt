-- What a row that stands for a journal decides is the policy's verdict.
use Rattle.std.proofs.Common.{◌≡◌, ◌≢◌, ℕ, Bool, true, false, ◌&&◌, ◌||◌, ◌==◌, not, cond, eqb, List, [], ◌∷◌, length, map, nat_le, Option, Some, None, is_none, unwrap_or, refl, sym, ap, ◌∙◌, arith}
use Rattle.std.specs.List.{find}
use Rattle.std.proofs.lemmas.Bool.Decides.{nat_tests}
use Rattle.std.proofs.lemmas.List.{length-map}
use Rattle.request_catalogue.specs.declared.kind.Kind.{Kind}
use Rattle.request_catalogue.specs.declared.rules.TheConstants.{ASKS_SPENT, HANDLES_SPENT, NO_HANDLE, NOT_IN_PHASE, ONCE_ONLY}
use Rattle.request_catalogue.specs.declared.texts.Label.{Label}
use Rattle.request_catalogue.specs.declared.texts.Name.{Name}
use Rattle.policy_model.specs.declared.account.Grant.{Grant}
use Rattle.policy_model.specs.declared.event.Ask.{Ask}
use Rattle.policy_model.specs.declared.event.Ask.TheVariants as asks
use Rattle.policy_model.specs.declared.event.Decision.{Decision}
use Rattle.policy_model.specs.declared.event.Decision.TheVariants.{Permit, Deny}
use Rattle.policy_model.specs.declared.event.Event.{Event}
use Rattle.policy_model.specs.declared.handles.TheConstants.{HANDLE_NUMBERS}
use Rattle.policy_model.specs.declared.phase.Phase.{Phase}
use Rattle.policy_model.specs.declared.phase.Phase.TheVariants.{Pre, Challenged, Verified, User, Over}
use Rattle.policy_model.specs.Asks.{accepts, came_by_frame, exports, is_login_step, request_number}
use Rattle.policy_model.specs.Handles.{free_handle_of, handle_opening, live_handles_of}
use Rattle.policy_model.specs.Journal.{ask_count, has_event, last_event}
use Rattle.policy_model.specs.Logins.{challenged_user, verified_user}
use Rattle.policy_model.specs.Phases.{is_over, phase_of, table_row}
use Rattle.policy_model.specs.Cases.{is_taking, account_named, grant_verdict, grants_of, number_named, use_verdict, handle_of}
use Rattle.policy_model.specs.Settings.{Settings, account_number, same_label}
use Rattle.policy_model.specs.Verdict.{close_verdict, handle_verdict, kind_verdict, open_verdict, own_verdict, request_verdict, row_verdict}
use Rattle.session_laws.specs.Judged.{is_over_phase}
use Rattle.session_laws.proofs.Numbers.{numbered_by_number}
use Rattle.session_table.specs.declared.handles.LiveHandle.{LiveHandle}
use Rattle.session_table.specs.declared.rows.SessionRow.{SessionRow}
use Rattle.session_table.specs.Files.{close_decision, file_at, free_of, is_free, open_decision, use_by, use_decision}
use Rattle.session_table.specs.Marks.{has_mark}
use Rattle.session_table.specs.Judging.{IsCloseVerdict, IsOpenVerdict, IsRefusal, IsUseVerdict, kind_refusal, own_refusal, refusal_of}
use Rattle.session_table.specs.Standing.{RowStands, file_by, grants_at, has_taken, is_logged_in, number_by}
use Rattle.session_table.proofs.FitLemmas.{free_is}

-- 1. Whose account it is

-- the user that a session is logged in as, and the account
record IsUser (setup : Settings) (journal : List Event) (session number : ℕ) : Type 0 where
  user : Name
  verified : verified_user journal session ≡ Some user
  number_is : account_number setup user ≡ Some number
  grants : grants_of (account_named setup (verified_user journal session)) ≡ grants_at setup number

logged_in_taken : (p : Phase) → is_logged_in p ≡ true → has_taken p ≡ true
logged_in_taken Verified h = refl
logged_in_taken User h = refl
logged_in_taken _ h = absurd cc

user_is : (setup : Settings) (row : SessionRow) (journal : List Event) (session : ℕ) → RowStands setup row journal session → is_logged_in row.phase ≡ true → IsUser setup journal session row.account
user_is setup row journal session r logged = go (challenged_user journal session) refl (sym (ap (λ b. cond b (Some (length setup.accounts)) (number_by setup (challenged_user journal session))) (r.real logged)) ∙ r.account (logged_in_taken row.phase logged)) where
  go : (o : Option Name) → challenged_user journal session ≡ o → number_by setup (challenged_user journal session) ≡ Some row.account → IsUser setup journal session row.account
  go None is h = let none : number_by setup None ≡ Some row.account = sym (ap (number_by setup) is) ∙ h in absurd cc
  go (Some user) is h =
      let number : account_number setup user ≡ Some row.account = sym (ap (number_by setup) is) ∙ h in
      let verified : verified_user journal session ≡ Some user = r.user logged ∙ is in
      let n = (numbered_by_number setup user row.account number).1 in
      record {
        user = user;
        verified = verified;
        number_is = number;
        grants = ap (λ o. grants_of (account_named setup o)) verified ∙ ap grants_of (n.found ∙ sym n.stands);
      }

-- what a permitted EXPORT gives
pub export_decides : (setup : Settings) (row : SessionRow) (journal : List Event) (session : ℕ) → RowStands setup row journal session → is_logged_in row.phase ≡ true → row.account ≡ number_named setup (verified_user journal session)
export_decides setup row journal session r logged =
    let u = user_is setup row journal session r logged in
    sym (ap (number_named setup) u.verified ∙ ap (λ o. unwrap_or o 0) u.number_is)

-- 2. The files that are open

find_same : (p q : ℕ → Bool) (ns : List ℕ) → ((n : ℕ) → p n ≡ q n) → find p ns ≡ find q ns
find_same p q [] h = refl
find_same p q (n ∷ ns) h = ap (λ b. cond b (Some n) (find p ns)) (h n) ∙ ap (cond (q n) (Some n)) (find_same p q ns h)

free_opening : (setup : Settings) (row : SessionRow) (journal : List Event) (session handle : ℕ) → RowStands setup row journal session → is_free handle row.handles ≡ is_none (handle_opening journal session handle)
free_opening setup row journal session handle r = ap (is_free handle) r.handles ∙ free_is (grants_at setup row.account) (live_handles_of journal session) handle

pub open_decides : (setup : Settings) (row : SessionRow) (journal : List Event) (session mode : ℕ) (name : Label) → RowStands setup row journal session → is_logged_in row.phase ≡ true → open_decision row.handles (grants_at setup row.account) mode name ≡ open_verdict setup journal session mode name
unfolding open_verdict
open_decides setup row journal session mode name r logged =
    let u = user_is setup row journal session r logged in
    let count : length row.handles ≡ length (live_handles_of journal session) = ap length r.handles ∙ length-map (live_handles_of journal session) (file_by (grants_at setup row.account)) in
    let least : free_of row.handles ≡ free_handle_of journal session = ap (λ o. unwrap_or o 0) (find_same (λ n. is_free n row.handles) (λ n. is_none (handle_opening journal session n)) HANDLE_NUMBERS (λ n. free_opening setup row journal session n r)) in
    ap (λ n. cond (nat_le 8 n) (Deny HANDLES_SPENT 8) (grant_verdict (free_of row.handles) mode (find (λ g. same_label g.name name) (grants_at setup row.account)))) count
    ∙ ap (λ n. cond (nat_le 8 (length (live_handles_of journal session))) (Deny HANDLES_SPENT 8) (grant_verdict n mode (find (λ g. same_label g.name name) (grants_at setup row.account)))) least
    ∙ ap (λ grants. cond (nat_le 8 (length (live_handles_of journal session))) (Deny HANDLES_SPENT 8) (grant_verdict (free_handle_of journal session) mode (find (λ g. same_label g.name name) grants))) (sym u.grants)

used : (grants : List Grant) (live : List Event) (handle needed : ℕ) → use_by handle needed (file_at handle (map (file_by grants) live)) ≡ use_verdict handle needed (find (λ o. handle_of o == handle) live)
used grants [] handle needed = refl
used grants (o ∷ live) handle needed = go (handle_of o == handle) (used grants live handle needed) where
  go : (b : Bool) → use_by handle needed (file_at handle (map (file_by grants) live)) ≡ use_verdict handle needed (find (λ x. handle_of x == handle) live) → use_by handle needed (cond b (Some (file_by grants o)) (file_at handle (map (file_by grants) live))) ≡ use_verdict handle needed (cond b (Some o) (find (λ x. handle_of x == handle) live))
  go true h = refl
  go false h = h

pub use_decides : (setup : Settings) (row : SessionRow) (journal : List Event) (session handle needed : ℕ) → RowStands setup row journal session → use_decision row.handles handle needed ≡ handle_verdict journal session handle needed
unfolding handle_verdict
use_decides setup row journal session handle needed r =
    ap (λ d. cond (eqb handle 0) (Permit 0) d) (ap (λ live. use_by handle needed (file_at handle live)) r.handles ∙ used (grants_at setup row.account) (live_handles_of journal session) handle needed)

pub close_decides : (setup : Settings) (row : SessionRow) (journal : List Event) (session handle : ℕ) → RowStands setup row journal session → close_decision row.handles handle ≡ close_verdict journal session handle
unfolding close_verdict
close_decides setup row journal session handle r =
    ap (λ b. cond (eqb handle 0 || b) (Deny NO_HANDLE handle) (Permit 0)) (free_opening setup row journal session handle r)

-- 3. The rules that come before those of the kind

over_is : (journal : List Event) (session : ℕ) → is_over_phase (phase_of journal session) ≡ is_over journal session
unfolding phase_of
over_is journal session = go (is_over journal session) (has_event journal session exports) (has_event journal session accepts) (is_taking (last_event journal session is_login_step)) where
  go : (o u v t : Bool) → is_over_phase (cond o Over (cond u User (cond v Verified (cond t Challenged Pre)))) ≡ o
  go true u v t = refl
  go false true v t = refl
  go false false true t = refl
  go false false false true = refl
  go false false false false = refl

cell_decides : (setup : Settings) (row : SessionRow) (journal : List Event) (session : ℕ) (ask : Ask) (kind : Kind) → RowStands setup row journal session → unwrap_or (kind_refusal row ask kind) (kind_verdict setup journal session ask) ≡ row_verdict setup journal session ask kind (table_row (phase_of journal session) kind)
cell_decides setup row journal session ask kind r =
    same (table_row row.phase kind).permitted (table_row row.phase kind).once (has_mark kind row.bits)
    ∙ ap (λ p. cond (not (table_row p kind).permitted) (Deny NOT_IN_PHASE (request_number ask)) (cond ((table_row p kind).once && has_mark kind row.bits) (Deny ONCE_ONLY (request_number ask)) (kind_verdict setup journal session ask))) r.phase
    ∙ ap (λ b. cond (not (table_row (phase_of journal session) kind).permitted) (Deny NOT_IN_PHASE (request_number ask)) (cond ((table_row (phase_of journal session) kind).once && b) (Deny ONCE_ONLY (request_number ask)) (kind_verdict setup journal session ask))) (r.bits kind) where
      same : (p o b : Bool) → unwrap_or (cond (not p) (Some (Deny NOT_IN_PHASE (request_number ask))) (cond (o && b) (Some (Deny ONCE_ONLY (request_number ask))) None)) (kind_verdict setup journal session ask) ≡ cond (not p) (Deny NOT_IN_PHASE (request_number ask)) (cond (o && b) (Deny ONCE_ONLY (request_number ask)) (kind_verdict setup journal session ask))
      same false o b = refl
      same true true true = refl
      same true true false = refl
      same true false b = refl

own_decides : (setup : Settings) (row : SessionRow) (journal : List Event) (session : ℕ) (ask : Ask) → RowStands setup row journal session → came_by_frame ask ≡ true → unwrap_or (own_refusal row ask) (kind_verdict setup journal session ask) ≡ own_verdict setup journal session ask
own_decides setup row journal session asks.Begin r by = absurd cc
own_decides setup row journal session (asks.End why) r by = absurd cc
own_decides setup row journal session (asks.Bad rule detail) r by = refl
own_decides setup row journal session asks.Banner r by = cell_decides setup row journal session asks.Banner _ r
own_decides setup row journal session (asks.Challenge user now) r by = cell_decides setup row journal session (asks.Challenge user now) _ r
own_decides setup row journal session (asks.Reply words hex) r by = cell_decides setup row journal session (asks.Reply words hex) _ r
own_decides setup row journal session asks.Abandon r by = cell_decides setup row journal session asks.Abandon _ r
own_decides setup row journal session (asks.Export len) r by = cell_decides setup row journal session (asks.Export len) _ r
own_decides setup row journal session asks.Import r by = cell_decides setup row journal session asks.Import _ r
own_decides setup row journal session (asks.ReadAt handle offset max) r by = cell_decides setup row journal session (asks.ReadAt handle offset max) _ r
own_decides setup row journal session (asks.WriteAt handle offset len) r by = cell_decides setup row journal session (asks.WriteAt handle offset len) _ r
own_decides setup row journal session (asks.OpenFile mode name) r by = cell_decides setup row journal session (asks.OpenFile mode name) _ r
own_decides setup row journal session (asks.CloseFile handle) r by = cell_decides setup row journal session (asks.CloseFile handle) _ r
own_decides setup row journal session (asks.Info number) r by = cell_decides setup row journal session (asks.Info number) _ r
own_decides setup row journal session (asks.Note text) r by = cell_decides setup row journal session (asks.Note text) _ r
own_decides setup row journal session asks.Finish r by = cell_decides setup row journal session asks.Finish _ r

pub refusal_decides : (setup : Settings) (row : SessionRow) (journal : List Event) (session : ℕ) (ask : Ask) → RowStands setup row journal session → session ≢ 0 → came_by_frame ask ≡ true → unwrap_or (refusal_of row setup.requests ask) (kind_verdict setup journal session ask) ≡ request_verdict setup journal session ask
refusal_decides setup row journal session ask r some by =
    let zero : eqb session 0 ≡ false = grind (arith, nat_tests, some) in
    steps (is_over_phase row.phase) (eqb row.asked setup.requests) (own_refusal row ask)
    ∙ ap (λ p. cond (is_over_phase p) (Deny NOT_IN_PHASE (request_number ask)) (cond (eqb row.asked setup.requests) (Deny ASKS_SPENT setup.requests) (unwrap_or (own_refusal row ask) (kind_verdict setup journal session ask)))) r.phase
    ∙ ap (λ b. cond b (Deny NOT_IN_PHASE (request_number ask)) (cond (eqb row.asked setup.requests) (Deny ASKS_SPENT setup.requests) (unwrap_or (own_refusal row ask) (kind_verdict setup journal session ask)))) (over_is journal session)
    ∙ ap (λ n. cond (is_over journal session) (Deny NOT_IN_PHASE (request_number ask)) (cond (eqb n setup.requests) (Deny ASKS_SPENT setup.requests) (unwrap_or (own_refusal row ask) (kind_verdict setup journal session ask)))) r.asked
    ∙ ap (λ d. cond (is_over journal session) (Deny NOT_IN_PHASE (request_number ask)) (cond (eqb (ask_count journal session) setup.requests) (Deny ASKS_SPENT setup.requests) d)) (own_decides setup row journal session ask r by)
    ∙ sym (ap (λ z. cond (z || is_over journal session) (Deny NOT_IN_PHASE (request_number ask)) (cond (eqb (ask_count journal session) setup.requests) (Deny ASKS_SPENT setup.requests) (own_verdict setup journal session ask))) zero) where
      steps : (o a : Bool) (own : Option Decision) → unwrap_or (cond o (Some (Deny NOT_IN_PHASE (request_number ask))) (cond a (Some (Deny ASKS_SPENT setup.requests)) own)) (kind_verdict setup journal session ask) ≡ cond o (Deny NOT_IN_PHASE (request_number ask)) (cond a (Deny ASKS_SPENT setup.requests) (unwrap_or own (kind_verdict setup journal session ask)))
      steps true a own = refl
      steps false true own = refl
      steps false false own = refl

-- 4. The clauses

pub is_open_verdict : (live : List LiveHandle) (grants : List Grant) (mode : ℕ) (name : Label) → IsOpenVerdict live grants mode name (open_decision live grants mode name)
is_open_verdict live grants mode name = record {
  by_journal = λ setup row journal session r logged files given.
      ap (λ fs. open_decision fs grants mode name) (sym files) ∙ ap (λ gs. open_decision row.handles gs mode name) (sym given) ∙ open_decides setup row journal session mode name r logged;
}

pub is_use_verdict : (live : List LiveHandle) (handle needed : ℕ) → IsUseVerdict live handle needed (use_decision live handle needed)
is_use_verdict live handle needed = record {
  by_journal = λ setup row journal session r files.
      ap (λ fs. use_decision fs handle needed) (sym files) ∙ use_decides setup row journal session handle needed r;
}

pub is_close_verdict : (live : List LiveHandle) (handle : ℕ) → IsCloseVerdict live handle (close_decision live handle)
is_close_verdict live handle = record {
  by_journal = λ setup row journal session r files.
      ap (λ fs. close_decision fs handle) (sym files) ∙ close_decides setup row journal session handle r;
}

pub is_refusal : (row : SessionRow) (requests : ℕ) (ask : Ask) → IsRefusal row requests ask (refusal_of row requests ask)
is_refusal row requests ask = record {
  by_journal = λ setup journal session r some same by.
      sym (ap (λ n. unwrap_or (refusal_of row n ask) (kind_verdict setup journal session ask)) (sym same) ∙ refusal_decides setup row journal session ask r some by);
}
