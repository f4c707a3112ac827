-- A legal log shows what a legal journal does: in it a permitted reply has its password for a reading, and a denied one has none and is denied for that.
use Rattle.std.proofs.Common.{◌≡◌, ℕ, zero, suc, ◌<◌, ◌≤◌, Bool, true, false, ◌&&◌, ◌||◌, cond, eqb, leb, List, [], ◌∷◌, ◌++◌, length, map, take, get_or, Option, Some, None, refl, sym, ap, subst, ◌∙◌, arith}
use Rattle.std.proofs.lemmas.Bool.{and_parts, false≢true}
use Rattle.std.proofs.lemmas.Bool.Decides.{nat_tests}
use Rattle.std.proofs.lemmas.List.{map-append, take_all}
use Rattle.std.proofs.Math.Seq.{take-suc}
use Rattle.policy_model.specs.declared.event.Ask.{Ask}
use Rattle.policy_model.specs.declared.event.Ask.TheVariants as asks
use Rattle.policy_model.specs.declared.event.Decision.{Decision}
use Rattle.policy_model.specs.declared.event.Decision.TheVariants.{Permit, Deny, Lost}
use Rattle.policy_model.specs.declared.event.Event.{Event}
use Rattle.policy_model.specs.Asks.{is_lost, shown_of}
use Rattle.policy_model.specs.Journal.{has_lost, open_session_of}
use Rattle.policy_model.specs.Legal.{IsLegal, IsNext, event_with, session_of}
use Rattle.policy_model.specs.Settings.{Settings}
use Rattle.policy_model.specs.Verdict.{verdict_of}
use Rattle.policy_laws.specs.Strangers.{without_readings}
use Rattle.policy_model.proofs.Legal.{IsLegal-none, IsLegal-push}
use Rattle.policy_model.proofs.Runs.{has_lost-push}
use Rattle.session_laws.proofs.NeverLost.{never_lost}
use Rattle.session_laws.proofs.ByEvents.{some_event}
use Rattle.audit_check.specs.Legal.{IsDecided, IsLegalLog, MayFollow, may_be_decided, readings_decide}
use Rattle.audit_check.proofs.Alike.{Alike, alike_map, alike_session, alike_verdict}
use Rattle.audit_check.proofs.Replies.{OtherDenial, permit_given, reply_is, silent_given}
use Rattle.audit_check.proofs.Shown.{plain}

-- a denial by rule 14, 15 or 16 as one for lack of a reading
abbrev pub as_silent : Decision → Decision
as_silent (Deny rule detail) = cond (leb 14 rule && leb rule 16) (Deny 14 0) (Deny rule detail)
as_silent d = d

abbrev pub witness_ask : Ask → Decision → Ask
witness_ask (asks.Reply words hex) (Permit password) = asks.Reply (Some password) None
witness_ask (asks.Reply words hex) d = asks.Reply None None
witness_ask a d = a

abbrev pub witness_decision : Ask → Decision → Decision
witness_decision (asks.Reply words hex) d = as_silent d
witness_decision a d = d

abbrev pub witness : Event → Event
witness e = record { worker = e.worker; session = e.session; ask = witness_ask e.ask e.decision; decision = witness_decision e.ask e.decision }

-- the same is shown of it
same_asked : (a : Ask) (d : Decision) → without_readings (witness_ask a d) ≡ without_readings a
same_asked (asks.Reply words hex) (Permit password) = refl
same_asked (asks.Reply words hex) (Deny rule detail) = refl
same_asked (asks.Reply words hex) Lost = refl
same_asked _ d = refl

silent_shown : (d : Decision) → shown_of (as_silent d) ≡ shown_of d
silent_shown (Permit value) = refl
silent_shown Lost = refl
silent_shown (Deny rule detail) = go (leb 14 rule && leb rule 16) refl where
  login : (leb 14 rule && leb rule 16) ≡ true → (leb 13 rule && leb rule 16) ≡ true
  login h = grind (arith, nat_tests)

  go : (b : Bool) → (leb 14 rule && leb rule 16) ≡ b → shown_of (cond b (Deny 14 0) (Deny rule detail)) ≡ shown_of (Deny rule detail)
  go true h = ap (λ b. cond b (Deny 16 0) (Deny rule detail)) (sym (login h))
  go false h = refl

same_decided : (a : Ask) (d : Decision) → shown_of (witness_decision a d) ≡ shown_of d
same_decided (asks.Reply words hex) d = silent_shown d
same_decided _ d = refl

abbrev shown_by : Event → Ask → Decision → Event
shown_by e a d = record { worker = e.worker; session = e.session; ask = a; decision = d }

pub witness_plain : (e : Event) → plain (witness e) ≡ plain e
witness_plain e = ap (λ a. shown_by e a (shown_of (witness_decision e.ask e.decision))) (same_asked e.ask e.decision) ∙ ap (shown_by e (without_readings e.ask)) (same_decided e.ask e.decision)

-- what the policy decides of it
abbrev event_of : ℕ → ℕ → Ask → Decision → Event
event_of worker session ask decision = record { worker = worker; session = session; ask = ask; decision = decision }

by_rule : (rule : ℕ) (used : Bool) → (eqb rule 14 || eqb rule 16 || eqb rule 15 && used) ≡ true → (leb 14 rule && leb rule 16) ≡ true
by_rule rule used h = grind (arith, nat_tests)

open_reply : (setup : Settings) (before : List Event) (worker : ℕ) (d : Decision) → readings_decide setup before (open_session_of before worker) ≡ true → may_be_decided setup before (open_session_of before worker) d ≡ true → (words hex : Option ℕ) → as_silent d ≡ verdict_of setup before worker (witness_ask (asks.Reply words hex) d)
open_reply setup before worker (Permit password) h may words hex = sym (permit_given setup before worker password h may)
open_reply setup before worker (Deny rule detail) h may words hex =
    let rules = (and_parts (eqb detail 0) _ may).1 in
    ap (λ b. cond b (Deny 14 0) (Deny rule detail)) (by_rule rule _ rules) ∙ sym (silent_given setup before worker h)
open_reply setup before worker Lost h may words hex = absurd cc

closed_reply : (setup : Settings) (before : List Event) (worker : ℕ) (d : Decision) → d ≡ verdict_of setup before worker (asks.Reply None None) → OtherDenial (verdict_of setup before worker (asks.Reply None None)) → (words hex : Option ℕ) → as_silent d ≡ verdict_of setup before worker (witness_ask (asks.Reply words hex) d)
closed_reply setup before worker d same other words hex =
    ap as_silent is ∙ ap (λ b. cond b (Deny 14 0) (Deny other.rule other.detail)) other.other ∙ sym other.is ∙ ap (verdict_of setup before worker) (sym (asked d is)) where
      is : d ≡ Deny other.rule other.detail
      is = same ∙ other.is

      asked : (x : Decision) → x ≡ Deny other.rule other.detail → witness_ask (asks.Reply words hex) x ≡ asks.Reply None None
      asked (Permit password) e = absurd cc
      asked (Deny rule detail) e = refl
      asked Lost e = refl

witness_decided : (setup : Settings) (before : List Event) (worker session : ℕ) (a : Ask) (d : Decision) → IsDecided setup before (event_of worker session a d) → witness_decision a d ≡ verdict_of setup before worker (witness_ask a d)
witness_decided setup before worker session (asks.Reply words hex) d is = go (readings_decide setup before (open_session_of before worker)) refl where
  go : (b : Bool) → readings_decide setup before (open_session_of before worker) ≡ b → as_silent d ≡ verdict_of setup before worker (witness_ask (asks.Reply words hex) d)
  go true h = open_reply setup before worker d h (is.undecided h) words hex
  go false h = let closed = (reply_is setup before worker words hex).closed h in closed_reply setup before worker d (is.decided h ∙ closed.0) closed.1 words hex
witness_decided setup before worker session a d is = is.decided refl

session_witness : (before : List Event) (worker : ℕ) (a : Ask) (d : Decision) → session_of before worker (witness_ask a d) (witness_decision a d) ≡ session_of before worker a d
unfolding session_of
session_witness before worker (asks.Reply words hex) (Permit password) = refl
session_witness before worker (asks.Reply words hex) (Deny rule detail) = refl
session_witness before worker (asks.Reply words hex) Lost = refl
session_witness before worker _ d = refl

-- it follows the journal
pub next_witness : (setup : Settings) (before : List Event) (e : Event) → MayFollow setup before e → has_lost (map witness before) ≡ false → IsNext setup (map witness before) (witness e) × (is_lost (witness e).decision ≡ false)
next_witness setup before e may kept = (record { decided = decided; lost = λ h. absurd (false≢true (sym kept ∙ h)) }, not_lost) where
  w : Event
  w = witness e

  alike : Alike (map witness before) before
  alike = alike_map witness witness_plain before

  verdict : w.decision ≡ verdict_of setup (map witness before) w.worker w.ask
  verdict = witness_decided setup before e.worker e.session e.ask e.decision may.decision ∙ sym (alike_verdict setup (map witness before) before alike e.worker w.ask)

  not_lost : is_lost w.decision ≡ false
  not_lost = ap is_lost verdict ∙ never_lost setup (map witness before) w.worker w.ask

  session : w.session ≡ session_of (map witness before) w.worker w.ask w.decision
  session = may.session ∙ sym (session_witness before e.worker e.ask e.decision) ∙ sym (alike_session (map witness before) before alike e.worker w.ask w.decision)

  given : w.decision ≡ cond (is_lost w.decision) Lost (verdict_of setup (map witness before) w.worker w.ask)
  given = verdict ∙ ap (λ b. cond b Lost (verdict_of setup (map witness before) w.worker w.ask)) (sym not_lost)

  decided : w ≡ event_with (map witness before) w.worker w.ask (cond (is_lost w.decision) Lost (verdict_of setup (map witness before) w.worker w.ask))
  decided = ap (λ s. event_of w.worker s w.ask w.decision) session ∙ ap (event_with (map witness before) w.worker w.ask) given

-- what holds of no event and goes on by each that may follow holds of a legal log
pub by_log : (setup : Settings) (P : List Event → Type 0) → P [] → ((events : List Event) (e : Event) → MayFollow setup events e → P events → P (events ++ e ∷ [])) → (events : List Event) → IsLegalLog setup events → P events
by_log setup P none more events legal = subst P (take_all (length events) events (omega arith)) (go (length events) (omega arith)) where
  go : (k : ℕ) → k ≤ length events → P (take k events)
  go zero le = none
  go (suc k) le =
      let lt : k < length events = omega arith in
      subst P (sym (take-suc events k some_event lt)) (more (take k events) (get_or events k some_event) (legal k some_event lt) (go k (omega arith)))

-- a legal log's journal is legal, and nothing of it is lost
pub witness_legal : (setup : Settings) (events : List Event) → IsLegalLog setup events → IsLegal setup (map witness events) × (has_lost (map witness events) ≡ false)
witness_legal setup events legal = by_log setup (λ xs. IsLegal setup (map witness xs) × (has_lost (map witness xs) ≡ false)) (IsLegal-none setup, refl) more events legal where
  more : (xs : List Event) (e : Event) → MayFollow setup xs e → IsLegal setup (map witness xs) × (has_lost (map witness xs) ≡ false) → IsLegal setup (map witness (xs ++ e ∷ [])) × (has_lost (map witness (xs ++ e ∷ [])) ≡ false)
  more xs e may h =
      let next = next_witness setup xs e may h.1 in
      let list : map witness xs ++ witness e ∷ [] ≡ map witness (xs ++ e ∷ []) = sym (map-append witness xs (e ∷ [])) in (
        subst (IsLegal setup) list (IsLegal-push setup (map witness xs) (witness e) h.0 next.0),
        ap has_lost (sym list) ∙ has_lost-push (map witness xs) (witness e) ∙ ap (λ b. b || is_lost (witness e).decision) h.1 ∙ next.1,
      )
