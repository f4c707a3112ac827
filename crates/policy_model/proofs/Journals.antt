-- What one more event makes of what is read off a journal.
use Rattle.std.proofs.Common.{◌≡◌, ℕ, ◌+◌, ◌<◌, Bool, true, false, cond, List, [], ◌∷◌, ◌++◌, length, get_or, take, Some, None, sym, ap, ◌∙◌, filter}
use Rattle.std.specs.List.{last_or}
use Rattle.std.proofs.lemmas.List.{append-nil, take_more}
use Rattle.policy_model.specs.declared.event.Event.{Event}
use Rattle.policy_model.specs.Journal.{is_turn_of, open_session_of}
use Rattle.policy_model.specs.Cases.{opened_after, session_opened}
use Rattle.policy_model.proofs.Lists.{filter-push, last_or-push}

opened_by : (b : Bool) (turns : List Event) (e : Event) → session_opened (last_or None (turns ++ cond b (e ∷ []) [])) ≡ cond b (session_opened (Some e)) (session_opened (last_or None turns))
opened_by true turns e = ap session_opened (last_or-push None turns e)
opened_by false turns e = ap (λ xs. session_opened (last_or None xs)) (append-nil turns)

-- the open session after one more event
pub open_session_of-push : (journal : List Event) (worker : ℕ) (e : Event) → open_session_of (journal ++ e ∷ []) worker ≡ opened_after worker (open_session_of journal worker) e
open_session_of-push journal worker e =
    ap (λ xs. session_opened (last_or None xs)) (filter-push (is_turn_of worker) journal e) ∙ opened_by (is_turn_of worker e) (filter (is_turn_of worker) journal) e

-- a loop that looks for the open session goes one place on
pub open_session_turn : (journal : List Event) (worker i session : ℕ) (e : Event) (d : Event) → i < length journal → e ≡ get_or journal i d → session ≡ open_session_of (take i journal) worker → opened_after worker session e ≡ open_session_of (take (i + 1) journal) worker
open_session_turn journal worker i session e d lt here so_far =
    ap (λ s. opened_after worker s e) so_far
    ∙ sym (open_session_of-push (take i journal) worker e)
    ∙ ap (λ x. open_session_of (take i journal ++ x ∷ []) worker) here
    ∙ ap (λ xs. open_session_of xs worker) (sym (take_more journal i d lt))
