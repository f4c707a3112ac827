-- What a call of the cell tells its worker.
use Rattle.std.proofs.Common.{◌≡◌, ℕ, Bool, true, false, cond, List, [], ◌∷◌, ◌++◌, length, refl, sym, ap, subst, ◌∙◌, arith, eq-eqb, append-nil, append_assoc, length-append}
use Rattle.std.proofs.lemmas.List.{append_cancel_right, same_from_push}
use Rattle.policy_model.specs.declared.event.Ask.{Ask}
use Rattle.policy_model.specs.declared.event.Decision.{Decision}
use Rattle.policy_model.specs.declared.event.Decision.TheVariants.{Permit, Deny, Lost}
use Rattle.policy_model.specs.declared.event.Event.{Event}
use Rattle.policy_model.specs.Asks.{is_lost}
use Rattle.policy_model.specs.Runs.{IsRun}
use Rattle.policy_model.specs.Settings.{Settings}
use Rattle.policy_model.specs.Verdict.{NamesRule, verdict_of}
use Rattle.policy_model.proofs.Runs.{next_decision}
use Rattle.policy_model.proofs.Verdicts.{named, verdict_of-is}
use Rattle.turn_cell.specs.Facts.{EndsWith, StartsWith}
use Rattle.session_turns.specs.Joins.{Joins, OthersJoined}
use Rattle.session_turns.proofs.Others.{IsEventOf, event_at, others_joined}
use Rattle.session_turns.proofs.Places.{none_joined, own, own-append}

-- a list that isn't empty has a last
record Snoc (xs : List Event) : Type 0 where
  pub front : List Event
  pub last : Event
  pub is : xs ≡ front ++ last ∷ []

snoc : (x : Event) (xs : List Event) → Snoc (x ∷ xs)
snoc x [] = record { front = []; last = x; is = refl }
snoc x (y ∷ ys) = let s = snoc y ys in record { front = x ∷ s.front; last = s.last; is = ap (λ zs. x ∷ zs) s.is }

-- after what was seen others' events may have joined, and then the worker's own
pub record IsCall (worker : ℕ) (old before : List Event) : Type 0 where
  pub rest : List Event
  pub longer : before ≡ old ++ rest
  pub none : own worker rest ≡ []

pub is_call : (worker : ℕ) (old rest before mine : List Event) (e : Event) → old ++ rest ≡ before ++ e ∷ [] → own worker old ≡ mine → own worker (before ++ e ∷ []) ≡ mine ++ e ∷ [] → e.worker ≡ worker → IsCall worker old before
is_call worker old rest before mine e grown mine_old mine_new its = go rest grown where
  kept : own worker before ≡ mine
  kept = append_cancel_right (own worker before) mine (e ∷ []) (sym (own-append worker before (e ∷ []) ∙ ap (λ b. own worker before ++ cond b (e ∷ []) []) (eq-eqb e.worker worker its)) ∙ mine_new)

  go : (rest : List Event) → old ++ rest ≡ before ++ e ∷ [] → IsCall worker old before
  go [] grown =
      let same : mine ≡ mine ++ e ∷ [] = sym mine_old ∙ ap (own worker) (sym (append-nil old) ∙ grown) ∙ mine_new in
      absurd (omega (arith, ap length same, length-append mine (e ∷ [])))
  go (x ∷ xs) grown =
      let s = snoc x xs in
      let both : (old ++ s.front) ++ s.last ∷ [] ≡ before ++ e ∷ [] = append_assoc old s.front (s.last ∷ []) ∙ ap (λ zs. old ++ zs) (sym s.is) ∙ grown in
      let is : before ≡ old ++ s.front = sym (same_from_push (old ++ s.front) before s.last e both).0 in
      record {
        rest = s.front;
        longer = is;
        none = none_joined worker old s.front (ap (own worker) (sym is) ∙ kept ∙ sym mine_old);
      }

lost_names : (d : Decision) → is_lost d ≡ true → NamesRule d
lost_names (Permit value) h = absurd cc
lost_names (Deny rule detail) h = absurd cc
lost_names Lost h = tt

-- what is decided names a rule where it denies
names_rule : (setup : Settings) (before : List Event) (e : Event) → IsEventOf setup before e → NamesRule e.decision
names_rule setup before e is = go (is_lost e.decision) refl where
  go : (b : Bool) → is_lost e.decision ≡ b → NamesRule e.decision
  go true h = lost_names e.decision h
  go false h = subst NamesRule (sym (next_decision setup before e is.next h)) (named (verdict_of setup before e.worker e.ask) (verdict_of-is setup before e.worker e.ask is.proper))

-- the event of a call joined the journal
pub joins : (setup : Settings) (worker : ℕ) (ask : Ask) (old new mine : List Event) (e : Event) → IsRun setup old → IsRun setup new → StartsWith new old → EndsWith new e → own worker old ≡ mine → own worker new ≡ mine ++ e ∷ [] → e.worker ≡ worker → e.ask ≡ ask → Joins setup worker ask old new e
joins setup worker ask old new mine e old_run new_run (rest, longer) (before, grown) mine_old mine_new its asks =
    let call = is_call worker old rest before mine e (sym longer ∙ grown) mine_old (ap (own worker) (sym grown) ∙ mine_new) its in
    let run : IsRun setup (before ++ e ∷ []) = subst (IsRun setup) grown new_run in
    let event = event_at setup before e [] run in
    record {
      before = before;
      grown = grown;
      others = others_of call run;
      run = new_run;
      next = event.next;
      its = its;
      asks = asks;
      named = names_rule setup before e event;
    } where
      others_of : IsCall worker old before → IsRun setup (before ++ e ∷ []) → OthersJoined setup worker old before
      others_of call run =
          let whole : before ++ e ∷ [] ≡ old ++ (call.rest ++ e ∷ []) = ap (λ j. j ++ e ∷ []) call.longer ∙ append_assoc old call.rest (e ∷ []) in
          subst (OthersJoined setup worker old) (sym call.longer) (others_joined setup worker old call.rest (e ∷ []) old_run (subst (IsRun setup) whole run) call.none)
