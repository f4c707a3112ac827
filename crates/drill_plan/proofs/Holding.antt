-- A drill's users are held by the open sessions of their own workers alone.
use Rattle.std.proofs.Common.{◌≡◌, ◌≢◌, ℕ, ◌<◌, Bool, true, false, ◌&&◌, ◌||◌, cond, List, [], ◌∷◌, ◌++◌, Option, Some, None, refl, sym, ap, subst, ◌∙◌, inl, inr}
use Rattle.std.specs.Prelude.{nat_lt}
use Rattle.std.specs.List.{AllByRecursion}
use Rattle.std.proofs.lemmas.Bool.{and_parts, cases_eq, cases_Bool, false≢true}
use Rattle.request_catalogue.specs.declared.texts.Name.{Name}
use Rattle.request_catalogue.specs.TextBytes.{name_bytes}
use Rattle.policy_model.specs.declared.event.Ask.{Ask}
use Rattle.policy_model.specs.declared.event.Ask.TheVariants as asks
use Rattle.policy_model.specs.declared.event.Event.{Event}
use Rattle.policy_model.specs.declared.phase.Phase.TheVariants.{Challenged, Over}
use Rattle.policy_model.specs.declared.reading.TheConstants.{DECOYS_FROM}
use Rattle.policy_model.specs.Asks.{came_by_frame, ends_session, gives_up, is_begin, is_end, is_lost, is_permit, is_violation, leaves, opens, reserves, takes_user, value_of}
use Rattle.policy_model.specs.Cases.{is_challenge_for, is_finish}
use Rattle.policy_model.specs.Journal.{is_own, open_session_of}
use Rattle.policy_model.specs.Legal.{IsLegal, session_of}
use Rattle.policy_model.specs.Logins.{holder_of}
use Rattle.policy_model.specs.Phases.{phase_of}
use Rattle.policy_model.specs.Settings.{Settings}
use Rattle.policy_model.specs.Verdict.{verdict_of}
use Rattle.policy_model.proofs.Runs.{next_decision, next_session, no_begin, stays_open}
use Rattle.policy_model.proofs.Verdicts.{denied_begin}
use Rattle.session_laws.specs.Tied.{holder_after}
use Rattle.session_laws.proofs.Holders.{holder_of-other, holder_of-taken, legal_tied}
use Rattle.session_laws.proofs.Openings.{legal_numbered, open_session-kept, open_session-other, phase_of-zero, session_own}
use Rattle.session_laws.proofs.Settling.{reserves_live}
use Rattle.session_laws.proofs.SessionEvents.{own_is}
use Rattle.drill_plan.specs.Passwords.{own_name}
use Rattle.drill_plan.proofs.Walk.{Comes}

-- an event reserves a worker's user only where it is the worker's
pub record IsApart (e : Event) : Type 0 where
  pub own : (worker : ℕ) (user : Name) → worker < 4 → name_bytes user ≡ own_name worker → reserves user e ≡ true → e.worker ≡ worker

-- whoever holds a worker's user is the worker's open session
pub record AreHeld (journal : List Event) : Type 0 where
  pub by_own : (worker session : ℕ) (user : Name) → worker < 4 → name_bytes user ≡ own_name worker → holder_of journal user ≡ Some session → open_session_of journal worker ≡ session

came_from : (user : Name) (ask : Ask) → is_challenge_for user ask ≡ true → came_by_frame ask ≡ true
came_from user (asks.Challenge name now) is = refl
came_from user _ is = absurd cc

framed : (user : Name) (e : Event) → reserves user e ≡ true → came_by_frame e.ask ≡ true
framed user e reserved =
    let takes = and_parts (takes_user user e) (nat_lt (value_of e.decision) DECOYS_FROM) reserved in
    came_from user e.ask (and_parts (is_challenge_for user e.ask) (is_permit e.decision) takes.0).0

no_opening : (e : Event) → came_by_frame e.ask ≡ true → opens e ≡ false
no_opening e request = ap (λ (b : Bool). b && is_permit e.decision) (no_begin e.ask request)

stayed : (o : Option ℕ) (e : Event) (session : ℕ) → holder_after o e ≡ Some session → (o ≡ Some session) × (is_own session leaves e ≡ false)
stayed None e session h = absurd cc
stayed (Some s) e session h = by_test (is_own s leaves e) refl h where
  by_test : (b : Bool) → is_own s leaves e ≡ b → cond b None (Some s) ≡ Some session → (Some s ≡ Some session) × (is_own session leaves e ≡ false)
  by_test true is h' = absurd cc
  by_test false is h' = let same : s ≡ session = cc in (h', subst (λ n. is_own n leaves e ≡ false) same is)

begin_is : (ask : Ask) → is_begin ask ≡ true → ask ≡ asks.Begin
begin_is asks.Begin is = refl
begin_is _ is = absurd cc

end_opens_none : (e : Event) → is_end e.ask ≡ true → opens e ≡ false
end_opens_none e is = by_ask e.ask is where
  by_ask : (ask : Ask) → is_end ask ≡ true → (is_begin ask && is_permit e.decision) ≡ false
  by_ask (asks.End why) is' = refl
  by_ask _ is' = absurd cc

-- an event of the worker that leaves its session's hold leaves the session open
open_still : (setup : Settings) (journal : List Event) (e : Event) (session : ℕ) → IsLegal setup journal → Comes setup journal e → open_session_of journal e.worker ≡ session → session ≢ 0 → is_own session leaves e ≡ false → open_session_of (journal ++ e ∷ []) e.worker ≡ session
open_still setup journal e session legal comes has some unleft =
    elim (cases_Bool (opens e)) [
      | inl opened ↦
          let parts = and_parts (is_begin e.ask) (is_permit e.decision) opened in
          let has_one : open_session_of journal e.worker ≢ 0 = λ zero. some (sym has ∙ zero) in
          let denied = next_decision setup journal e comes.next comes.kept ∙ ap (verdict_of setup journal e.worker) (begin_is e.ask parts.0) ∙ denied_begin setup journal e.worker has_one in
          absurd (false≢true (sym (ap is_permit denied) ∙ parts.1))
      | inr closed ↦ elim (cases_Bool (is_end e.ask && is_permit e.decision)) [
        | inl ended ↦
            let ending = (and_parts (is_end e.ask) (is_permit e.decision) ended).0 in
            let its : e.session ≡ session = session_own journal e (next_session setup journal e comes.next) comes.kept closed ∙ has in
            let over : ends_session e ≡ true = ap (λ (b : Bool). b || is_finish e.ask && is_permit e.decision || is_violation e.decision || is_lost e.decision) ending in
            absurd (false≢true (sym unleft ∙ own_is e session leaves its ∙ by_or (gives_up e) (ends_session e) over))
        | inr going ↦ open_session-kept journal e closed going ∙ has
      ]
    ]
  where
    by_or : (a b : Bool) → b ≡ true → (a || b) ≡ true
    by_or true b h = refl
    by_or false b h = h

pub held_more : (setup : Settings) (journal : List Event) (e : Event) → IsLegal setup journal → Comes setup journal e → IsApart e → AreHeld journal → AreHeld (journal ++ e ∷ [])
held_more setup journal e legal comes apart held = record { by_own = λ worker session user lt named h. by_test worker session user lt named h (reserves user e) refl } where
  is : e.session ≡ session_of journal e.worker e.ask e.decision
  is = next_session setup journal e comes.next

  by_test : (worker session : ℕ) (user : Name) → worker < 4 → name_bytes user ≡ own_name worker → holder_of (journal ++ e ∷ []) user ≡ Some session → (b : Bool) → reserves user e ≡ b → open_session_of (journal ++ e ∷ []) worker ≡ session
  by_test worker session user lt named h true reserved =
      let frame = framed user e reserved in
      let live = reserves_live setup journal e user comes.next reserved in
      let mine : e.worker ≡ worker = apart.own worker user lt named reserved in
      let holder : Some e.session ≡ Some session = sym (holder_of-taken journal e user reserved live.goes_on) ∙ h in
      let same : e.session ≡ session = cc in
      stays_open journal e worker frame ∙ ap (open_session_of journal) (sym mine) ∙ sym (session_own journal e is comes.kept (no_opening e frame)) ∙ same
  by_test worker session user lt named h false kept =
      let before = stayed (holder_of journal user) e session (sym (holder_of-other journal e user (legal_numbered setup journal legal) is kept) ∙ h) in
      let has : open_session_of journal worker ≡ session = held.by_own worker session user lt named before.0 in
      let tied = (legal_tied setup journal legal).holders user session before.0 in
      let some : session ≢ 0 = λ zero. not_over (sym tied.phase ∙ ap (phase_of journal) zero ∙ phase_of-zero setup journal legal) in
      elim (cases_eq e.worker worker) [
        | inl mine ↦ ap (open_session_of (journal ++ e ∷ [])) (sym mine) ∙ open_still setup journal e session legal comes (ap (open_session_of journal) mine ∙ has) some before.1
        | inr other ↦ open_session-other journal e worker (λ same. other (sym same)) ∙ has
      ]
    where
      not_over : Challenged ≡ Over → ⊥
      not_over e' = absurd cc

pub all_parts : (xs ys : List Event) → AllByRecursion IsApart (xs ++ ys) → AllByRecursion IsApart xs × AllByRecursion IsApart ys
all_parts [] ys all = (tt, all)
all_parts (x ∷ xs) ys all = let more = all_parts xs ys all.1 in ((all.0, more.0), more.1)
