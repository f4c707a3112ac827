-- How a drill's session ends, by what it asked and where it stood.
use Rattle.std.proofs.Common.{◌≡◌, ℕ, ◌+◌, ◌<◌, ◌⊎◌, Bool, true, false, ◌&&◌, ◌||◌, nat_le, List, [], ◌∷◌, ◌++◌, length, map, Option, Some, None, refl, sym, ap, subst, ◌∙◌, append_assoc, arith, inl, inr, lit<}
use Rattle.std.specs.List.{list_any}
use Rattle.std.proofs.lemmas.Bool.{cases_Bool, false≢true}
use Rattle.request_catalogue.specs.declared.kind.Kind.TheVariants as kinds
use Rattle.request_catalogue.specs.declared.texts.Name.{Name}
use Rattle.request_catalogue.specs.TextBytes.{name_bytes}
use Rattle.request_catalogue.specs.Catalogue.{RequestValue, kind_of}
use Rattle.request_catalogue.specs.Catalogue as requests
use Rattle.policy_model.specs.declared.event.Ask.{Ask}
use Rattle.policy_model.specs.declared.event.Ask.TheVariants as asks
use Rattle.policy_model.specs.declared.event.Decision.{Decision}
use Rattle.policy_model.specs.declared.event.Decision.TheVariants.{Permit, Deny, Lost}
use Rattle.policy_model.specs.declared.event.Event.{Event}
use Rattle.policy_model.specs.declared.event.Why.{Why}
use Rattle.policy_model.specs.declared.event.Why.TheVariants.{Finished, Violation}
use Rattle.policy_model.specs.declared.phase.Phase.{Phase}
use Rattle.policy_model.specs.declared.phase.Phase.TheVariants.{Pre, Challenged, Verified, User}
use Rattle.policy_model.specs.Asks.{accepts, came_by_frame, ends_session, exports, is_end, is_lost, is_permit, is_violation, kind_of as ask_kind, permits_kind, request_number}
use Rattle.policy_model.specs.Cases.{is_finish, is_other}
use Rattle.policy_model.specs.Journal.{Place, has_lost}
use Rattle.policy_model.specs.Legal.{IsLegal}
use Rattle.policy_model.specs.Logins.{holder_of}
use Rattle.policy_model.specs.Phases.{table_row}
use Rattle.policy_model.specs.Settings.{Settings}
use Rattle.policy_model.specs.Verdict.{kind_verdict}
use Rattle.session_laws.specs.Judged.{cell_decision, is_free_ask, is_over_phase}
use Rattle.session_laws.specs.Phased.{phase_after}
use Rattle.session_laws.proofs.Judging.{free_is}
use Rattle.session_laws.proofs.Permits.{permit_value}
use Rattle.service_model.specs.Parts.{why_of}
use Rattle.service_model.specs.Places.{Step, step_places}
use Rattle.drill_plan.specs.declared.class.Class.TheVariants.{LogsIn}
use Rattle.drill_plan.specs.Drill.{drill_end}
use Rattle.drill_plan.specs.Requests.{IsAskFor}
use Rattle.drill_plan.proofs.Decided.{IsMild, decided, exported, mild_challenge, mild_close, mild_open, mild_read, mild_reply, mild_write, taken}
use Rattle.drill_plan.proofs.Walk.{At, Next, Stands, State, after, goes_on, next_place, start, stays}

-- ---- what was heard of a session

-- a step after which a child has nothing to ask any more was no permitted EXPORT
abbrev pub IsLast : List RequestValue → Step → Type 0
IsLast [] step = exports step.place.event ≡ false
IsLast (request ∷ all) step = Unit {0}

-- the steps ask for the requests, up to the first that ends the session, and why it ended then; where none ends it, so
abbrev pub Heard : List RequestValue → Why → Why → List Step → Type 0
Heard [] alone why [] = why ≡ alone
Heard [] alone why (step ∷ steps) = ⊥
Heard (request ∷ all) alone why [] = ⊥
Heard (request ∷ all) alone why (step ∷ steps) = IsAskFor request step.place.event.ask
    × (((ends_session step.place.event ≡ true) × (steps ≡ []) × (why ≡ why_of step.place.event.decision)) ⊎ ((ends_session step.place.event ≡ false) × IsLast all step × Heard all alone why steps))

-- ---- a request of the table

frame_for : (request : RequestValue) (ask : Ask) → IsAskFor request ask → came_by_frame ask ≡ true
frame_for requests.Banner ask is = ap came_by_frame is
frame_for (requests.Challenge user) ask is = ap came_by_frame is.3
frame_for (requests.Reply text) ask is = ap came_by_frame is.2
frame_for requests.Abandon ask is = ap came_by_frame is
frame_for (requests.Export state) ask is = ap came_by_frame is
frame_for requests.Import ask is = ap came_by_frame is
frame_for (requests.ReadAt handle offset max) ask is = ap came_by_frame is
frame_for (requests.WriteAt handle offset bytes) ask is = ap came_by_frame is
frame_for (requests.OpenFile mode name) ask is = ap came_by_frame is.2
frame_for (requests.CloseFile handle) ask is = ap came_by_frame is
frame_for (requests.Info number) ask is = absurd is
frame_for (requests.Note text) ask is = absurd is
frame_for requests.Finish ask is = ap came_by_frame is

kind_for : (request : RequestValue) (ask : Ask) → IsAskFor request ask → ask_kind ask ≡ Some (kind_of request)
kind_for requests.Banner ask is = ap ask_kind is
kind_for (requests.Challenge user) ask is = ap ask_kind is.3
kind_for (requests.Reply text) ask is = ap ask_kind is.2
kind_for requests.Abandon ask is = ap ask_kind is
kind_for (requests.Export state) ask is = ap ask_kind is
kind_for requests.Import ask is = ap ask_kind is
kind_for (requests.ReadAt handle offset max) ask is = ap ask_kind is
kind_for (requests.WriteAt handle offset bytes) ask is = ap ask_kind is
kind_for (requests.OpenFile mode name) ask is = ap ask_kind is.2
kind_for (requests.CloseFile handle) ask is = ap ask_kind is
kind_for (requests.Info number) ask is = absurd is
kind_for (requests.Note text) ask is = absurd is
kind_for requests.Finish ask is = ap ask_kind is

-- a session goes on after a mild decision, where the request is no FINISH
on_mild : (e : Event) → is_end e.ask ≡ false → is_finish e.ask ≡ false → is_violation e.decision ≡ false → is_lost e.decision ≡ false → ends_session e ≡ false
on_mild e no_end no_finish mild kept = rw (no_end, no_finish, mild, kept) refl

-- what a permitted or a denied request makes of the phase
phase_challenge : (e : Event) (name : Name) (now : ℕ) → e.ask ≡ asks.Challenge name now → is_permit e.decision ≡ true → phase_after Pre e ≡ Challenged
phase_challenge e name now ask permit = let value = permit_value e.decision permit in rw (ask, value) refl

phase_unchallenged : (e : Event) (name : Name) (now : ℕ) → e.ask ≡ asks.Challenge name now → is_permit e.decision ≡ false → ends_session e ≡ false → phase_after Pre e ≡ Pre
phase_unchallenged e name now ask denied on = rw (on, ask, denied) refl

phase_accepted : (e : Event) (words hex : Option ℕ) → e.ask ≡ asks.Reply words hex → is_permit e.decision ≡ true → phase_after Challenged e ≡ Verified
phase_accepted e words hex ask permit = let value = permit_value e.decision permit in rw (ask, value) refl

phase_refused : (e : Event) (words hex : Option ℕ) → e.ask ≡ asks.Reply words hex → is_permit e.decision ≡ false → ends_session e ≡ false → phase_after Challenged e ≡ Pre
phase_refused e words hex ask denied on = rw (on, ask, denied) refl

-- ---- along a session

module _ (setup : Settings) (journal : List Event) (worker session : ℕ) (legal : IsLegal setup journal) (none : has_lost journal ≡ false) (sixteen : setup.requests ≡ 16) (three : setup.tries ≡ 3) where
  now : (s : State) (before : List Event) (p : Place) (places : List Place) → At setup worker session before s → Stands journal worker before (p ∷ places) → Next setup journal worker (λ b. At setup worker session b s) p places
  now s before p places at stands = next_place setup journal worker legal none (λ b. At setup worker session b s) (stays setup worker session s) before p places at stands

  then : (s : State) (p : Place) (places : List Place) (request : RequestValue) → Next setup journal worker (λ b. At setup worker session b s) p places → IsAskFor request p.event.ask → At setup worker session (p.before ++ p.event ∷ []) (after s p.event)
  then s p places request n is = goes_on setup worker session p.before s p.event n.holds n.comes n.own (frame_for request p.event.ask is)

  by_cell : (s : State) (p : Place) (places : List Place) (request : RequestValue) → Next setup journal worker (λ b. At setup worker session b s) p places → IsAskFor request p.event.ask → is_over_phase s.phase ≡ false → s.asked < 16
      → p.event.decision ≡ cell_decision (table_row s.phase (kind_of request)) (s.had (kind_of request)) p.event.ask (kind_verdict setup p.before session p.event.ask)
  by_cell s p places request n is live few =
      decided setup worker session p.before s p.event (kind_of request) n.holds n.comes n.own (frame_for request p.event.ask is) live (omega (arith, few, sixteen)) (kind_for request p.event.ask is)

  by_phase : (s : State) (p : Place) (places : List Place) (request : RequestValue) (phase : Phase) → Next setup journal worker (λ b. At setup worker session b s) p places → IsAskFor request p.event.ask → s.phase ≡ phase → is_over_phase phase ≡ false → s.asked < 16
      → p.event.decision ≡ cell_decision (table_row phase (kind_of request)) (s.had (kind_of request)) p.event.ask (kind_verdict setup p.before session p.event.ask)
  by_phase s p places request phase n is same live few =
      by_cell s p places request n is (ap is_over_phase same ∙ live) few ∙ ap (λ (ph : Phase). cell_decision (table_row ph (kind_of request)) (s.had (kind_of request)) p.event.ask (kind_verdict setup p.before session p.event.ask)) same

  -- the user of a CHALLENGE isn't held by another session
  abbrev pub IsFree : List ℕ → Type 0
  IsFree user = (before rest : List Event) (s : State) (name : Name) → journal ≡ before ++ rest → At setup worker session before s → name_bytes name ≡ user → is_other session (holder_of before name) ≡ false

  third : (a b c d : Bool) → c ≡ true → (a || b || c || d) ≡ true
  third true b c d h = refl
  third false true c d h = refl
  third false false true d h = refl
  third false false false d h = absurd cc

  second : (a b c d : Bool) → b ≡ true → (a || b || c || d) ≡ true
  second true b c d h = refl
  second false true c d h = refl
  second false false c d h = absurd cc

  ends_denied : (e : Event) (detail : ℕ) → e.decision ≡ Deny 6 detail → ends_session e ≡ true
  ends_denied e detail d = third (is_end e.ask) (is_finish e.ask && is_permit e.decision) (is_violation e.decision) (is_lost e.decision) (ap is_violation d)

  ends_finished : (e : Event) → e.ask ≡ asks.Finish → e.decision ≡ Permit 0 → ends_session e ≡ true
  ends_finished e ask d = second (is_end e.ask) (is_finish e.ask && is_permit e.decision) (is_violation e.decision) (is_lost e.decision) (rw (ask, d) refl)

  -- a first CHALLENGE
  own_challenge : (s : State) (p : Place) (places : List Place) (user : List ℕ) → IsFree user → Next setup journal worker (λ b. At setup worker session b s) p places → (is : IsAskFor (requests.Challenge user) p.event.ask) → s.phase ≡ Pre → s.asked < 16 → s.tried ≡ 0 → is_permit p.event.decision ≡ true
  own_challenge s p places user free n is phase few untried =
      let whole : journal ≡ p.before ++ (p.event ∷ n.behind.rest) = n.behind.parts ∙ append_assoc p.before (p.event ∷ []) n.behind.rest in
      ap is_permit (by_phase s p places (requests.Challenge user) Pre n is phase refl few) ∙ ap (λ a. is_permit (kind_verdict setup p.before session a)) is.3
      ∙ taken setup p.before session is.0 is.1 (ap (λ t. nat_le t 0) three) (n.holds.tries ∙ untried) (free p.before (p.event ∷ n.behind.rest) s is.0 whole n.holds is.2)

  challenge_on : (e : Event) (name : Name) (now : ℕ) → e.ask ≡ asks.Challenge name now → is_violation e.decision ≡ false → is_lost e.decision ≡ false → ends_session e ≡ false
  challenge_on e name now ask mild kept = on_mild e (ap is_end ask) (ap is_finish ask) mild kept

  permitted_mild : (d : Decision) → is_permit d ≡ true → is_violation d ≡ false
  permitted_mild (Permit value) h = refl
  permitted_mild (Deny rule detail) h = absurd cc
  permitted_mild Lost h = absurd cc

  -- ---- the last requests of the classes

  finish_ends : (s : State) (before : List Event) (rest : List Place) (alone why : Why) (phase : Phase) (steps : List Step) → At setup worker session before s → s.phase ≡ phase → is_over_phase phase ≡ false
      → ((had : Bool) (ask : Ask) (d : Decision) → cell_decision (table_row phase kinds.Finish) had ask d ≡ d) → s.asked < 16 → Stands journal worker before (step_places steps ++ rest) → Heard (requests.Finish ∷ []) alone why steps → why ≡ Finished
  finish_ends s before rest alone why phase [] at same live free few stands heard = absurd heard
  finish_ends s before rest alone why phase (step ∷ steps) at same live free few stands heard =
      let e = step.place.event in
      let n = now s before step.place (step_places steps ++ rest) at stands in
      let d : e.decision ≡ Permit 0 =
      by_phase s step.place (step_places steps ++ rest) requests.Finish phase n heard.0 same live few ∙ free (s.had kinds.Finish) e.ask (kind_verdict setup step.place.before session e.ask)
      ∙ sym (free_is setup step.place.before session e.ask (ap is_free_ask heard.0)) in
      elim heard.1 [ inl end ↦ end.2 ∙ ap why_of d | inr on ↦ absurd (false≢true (sym on.0 ∙ ends_finished e heard.0 d)) ]

  -- an EXPORT before the login
  export_ends : (s : State) (before : List Event) (rest : List Place) (alone why : Why) (state : List ℕ) (others : List RequestValue) (steps : List Step) → At setup worker session before s → s.phase ≡ Pre → s.asked < 16
      → Stands journal worker before (step_places steps ++ rest) → Heard (requests.Export state ∷ others) alone why steps → (why ≡ Violation 6) × (list_any accepts (map (λ (x : Step). x.place.event) steps) ≡ false)
  export_ends s before rest alone why state others [] at same few stands heard = absurd heard
  export_ends s before rest alone why state others (step ∷ steps) at same few stands heard =
      let e = step.place.event in
      let n = now s before step.place (step_places steps ++ rest) at stands in
      let d : e.decision ≡ Deny 6 (request_number e.ask) = by_phase s step.place (step_places steps ++ rest) (requests.Export state) Pre n heard.0 same refl few in
      elim heard.1 [
        | inl end ↦
            let none_behind = end.1 in
            let ask = heard.0 in
            (end.2 ∙ ap why_of d, rw (none_behind, ask) refl)
        | inr on ↦ absurd (false≢true (sym on.0 ∙ ends_denied e (request_number e.ask) d))
      ]

  -- ---- the second class

  repeats_reply : (s : State) (before : List Event) (rest : List Place) (alone why : Why) (text : List ℕ) (steps : List Step) → At setup worker session before s → s.phase ≡ Challenged → s.asked + 1 < 16
      → Stands journal worker before (step_places steps ++ rest) → Heard (requests.Reply text ∷ requests.Finish ∷ []) alone why steps → why ≡ Finished
  repeats_reply s before rest alone why text [] at same few stands heard = absurd heard
  repeats_reply s before rest alone why text (step ∷ steps) at same few stands heard =
      let e = step.place.event in
      let n = now s before step.place (step_places steps ++ rest) at stands in
      let ask = heard.0.2 in
      let d = by_phase s step.place (step_places steps ++ rest) (requests.Reply text) Challenged n heard.0 same refl (omega (arith, few)) ∙ ap (kind_verdict setup step.place.before session) ask in
      let mild = ap is_violation d ∙ (mild_reply setup step.place.before session None (Some heard.0.0)).unviolated in
      let on = on_mild e (ap is_end ask) (ap is_finish ask) mild n.comes.kept in
      let behind = then s step.place (step_places steps ++ rest) (requests.Reply text) n heard.0 in
      elim heard.1 [
        | inl end ↦ absurd (false≢true (sym on ∙ end.0))
        | inr more ↦ elim (cases_Bool (is_permit e.decision)) [
          | inl permit ↦ finish_ends (after s e) (step.place.before ++ e ∷ []) rest alone why Verified steps behind (ap (λ ph. phase_after ph e) same ∙ phase_accepted e None (Some heard.0.0) ask permit) refl (λ had a x. refl) few n.behind more.2
          | inr denied ↦ finish_ends (after s e) (step.place.before ++ e ∷ []) rest alone why Pre steps behind (ap (λ ph. phase_after ph e) same ∙ phase_refused e None (Some heard.0.0) ask denied on) refl (λ had a x. refl) few n.behind more.2
        ]
      ]

  pub repeats_end : (before : List Event) (rest : List Place) (alone why : Why) (user text : List ℕ) (steps : List Step) → IsFree user → At setup worker session before start
      → Stands journal worker before (step_places steps ++ rest) → Heard (requests.Challenge user ∷ requests.Reply text ∷ requests.Finish ∷ []) alone why steps → why ≡ Finished
  repeats_end before rest alone why user text [] free at stands heard = absurd heard
  repeats_end before rest alone why user text (step ∷ steps) free at stands heard =
      let e = step.place.event in
      let n = now start before step.place (step_places steps ++ rest) at stands in
      let ask = heard.0.3 in
      let permit = own_challenge start step.place (step_places steps ++ rest) user free n heard.0 refl (lit< tt) refl in
      let on = challenge_on e heard.0.0 heard.0.1 ask (permitted_mild e.decision permit) n.comes.kept in
      elim heard.1 [
        | inl end ↦ absurd (false≢true (sym on ∙ end.0))
        | inr more ↦ repeats_reply (after start e) (step.place.before ++ e ∷ []) rest alone why text steps (then start step.place (step_places steps ++ rest) (requests.Challenge user) n heard.0) (phase_challenge e heard.0.0 heard.0.1 ask permit) (lit< tt) n.behind more.2
      ]

  -- ---- the fourth class

  nobody_ends : (s : State) (before : List Event) (rest : List Place) (alone why : Why) (user : List ℕ) (steps : List Step) → At setup worker session before s → s.phase ≡ Pre → s.asked < 16
      → Stands journal worker before (step_places steps ++ rest) → Heard (requests.Challenge user ∷ []) alone why steps → why ≡ alone
  nobody_ends s before rest alone why user [] at same few stands heard = absurd heard
  nobody_ends s before rest alone why user (step ∷ steps) at same few stands heard =
      let e = step.place.event in
      let n = now s before step.place (step_places steps ++ rest) at stands in
      let ask = heard.0.3 in
      let d = by_phase s step.place (step_places steps ++ rest) (requests.Challenge user) Pre n heard.0 same refl few ∙ ap (kind_verdict setup step.place.before session) ask in
      let on = challenge_on e heard.0.0 heard.0.1 ask (ap is_violation d ∙ (mild_challenge setup step.place.before session heard.0.0 heard.0.1).unviolated) n.comes.kept in
      elim heard.1 [ inl end ↦ absurd (false≢true (sym on ∙ end.0)) | inr more ↦ last steps more.2 ]
    where
      last : (behind : List Step) → Heard [] alone why behind → why ≡ alone
      last [] h = h
      last (x ∷ xs) h = absurd h

  abandon_ends : (s : State) (before : List Event) (rest : List Place) (alone why : Why) (user : List ℕ) (steps : List Step) → At setup worker session before s → s.phase ≡ Challenged → s.asked + 1 < 16
      → Stands journal worker before (step_places steps ++ rest) → Heard (requests.Abandon ∷ requests.Challenge user ∷ []) alone why steps → why ≡ alone
  abandon_ends s before rest alone why user [] at same few stands heard = absurd heard
  abandon_ends s before rest alone why user (step ∷ steps) at same few stands heard =
      let e = step.place.event in
      let n = now s before step.place (step_places steps ++ rest) at stands in
      let ask = heard.0 in
      let d : e.decision ≡ Permit 0 = by_phase s step.place (step_places steps ++ rest) requests.Abandon Challenged n heard.0 same refl (omega (arith, few)) ∙ sym (free_is setup step.place.before session e.ask (ap is_free_ask ask)) in
      let on : ends_session e ≡ false = rw (ask, d) refl in
      let phase : phase_after Challenged e ≡ Pre = rw (ask, d) refl in
      elim heard.1 [
        | inl end ↦ absurd (false≢true (sym on ∙ end.0))
        | inr more ↦ nobody_ends (after s e) (step.place.before ++ e ∷ []) rest alone why user steps (then s step.place (step_places steps ++ rest) requests.Abandon n heard.0) (ap (λ ph. phase_after ph e) same ∙ phase) few n.behind more.2
      ]

  pub breaks_off_end : (before : List Event) (rest : List Place) (alone why : Why) (user other : List ℕ) (steps : List Step) → IsFree user → At setup worker session before start
      → Stands journal worker before (step_places steps ++ rest) → Heard (requests.Challenge user ∷ requests.Abandon ∷ requests.Challenge other ∷ []) alone why steps → why ≡ alone
  breaks_off_end before rest alone why user other [] free at stands heard = absurd heard
  breaks_off_end before rest alone why user other (step ∷ steps) free at stands heard =
      let e = step.place.event in
      let n = now start before step.place (step_places steps ++ rest) at stands in
      let ask = heard.0.3 in
      let permit = own_challenge start step.place (step_places steps ++ rest) user free n heard.0 refl (lit< tt) refl in
      let on = challenge_on e heard.0.0 heard.0.1 ask (permitted_mild e.decision permit) n.comes.kept in
      elim heard.1 [
        | inl end ↦ absurd (false≢true (sym on ∙ end.0))
        | inr more ↦ abandon_ends (after start e) (step.place.before ++ e ∷ []) rest alone why other steps (then start step.place (step_places steps ++ rest) (requests.Challenge user) n heard.0) (phase_challenge e heard.0.0 heard.0.1 ask permit) (lit< tt) n.behind more.2
      ]

  -- ---- the first class

  -- a request of a user's child, after which the session goes on
  user_more : (s : State) (before : List Event) (rest : List Place) (alone why : Why) (request : RequestValue) (others : List RequestValue) (steps : List Step) → At setup worker session before s → s.phase ≡ User → s.asked < 16
      → ((ask : Ask) (d : Decision) → cell_decision (table_row User (kind_of request)) (s.had (kind_of request)) ask d ≡ d) → ((b : List Event) (ask : Ask) → IsAskFor request ask → IsMild (kind_verdict setup b session ask))
      → ((ask : Ask) → IsAskFor request ask → (is_end ask ≡ false) × (is_finish ask ≡ false))
      → ((next : State) (b : List Event) (behind : List Step) → At setup worker session b next → next.phase ≡ User → next.asked ≡ s.asked + 1 → Stands journal worker b (step_places behind ++ rest) → Heard others alone why behind → why ≡ Finished)
      → Stands journal worker before (step_places steps ++ rest) → Heard (request ∷ others) alone why steps → why ≡ Finished
  user_more s before rest alone why request others [] at same few cell mild plain more stands heard = absurd heard
  user_more s before rest alone why request others (step ∷ steps) at same few cell mild plain more stands heard =
      let e = step.place.event in
      let n = now s before step.place (step_places steps ++ rest) at stands in
      let d = by_phase s step.place (step_places steps ++ rest) request User n heard.0 same refl few ∙ cell e.ask (kind_verdict setup step.place.before session e.ask) in
      let on = on_mild e (plain e.ask heard.0).0 (plain e.ask heard.0).1 (ap is_violation d ∙ (mild step.place.before e.ask heard.0).unviolated) n.comes.kept in
      let phase : phase_after User e ≡ User = rw on refl in
      elim heard.1 [
        | inl end ↦ absurd (false≢true (sym on ∙ end.0))
        | inr goes ↦ more (after s e) (step.place.before ++ e ∷ []) steps (then s step.place (step_places steps ++ rest) request n heard.0) (ap (λ ph. phase_after ph e) same ∙ phase) refl n.behind goes.2
      ]

  abbrev pub file_requests : List ℕ → List ℕ → List RequestValue
  file_requests name bytes = requests.OpenFile 3 name ∷ requests.WriteAt 1 0 bytes ∷ requests.ReadAt 1 0 16 ∷ requests.CloseFile 1 ∷ requests.Finish ∷ []

  file_ends : (s : State) (before : List Event) (rest : List Place) (alone why : Why) (name bytes : List ℕ) (steps : List Step) → At setup worker session before s → s.phase ≡ User → s.asked + 4 < 16
      → Stands journal worker before (step_places steps ++ rest) → Heard (file_requests name bytes) alone why steps → why ≡ Finished
  file_ends s before rest alone why name bytes steps at same few =
      user_more s before rest alone why (requests.OpenFile 3 name) (requests.WriteAt 1 0 bytes ∷ requests.ReadAt 1 0 16 ∷ requests.CloseFile 1 ∷ requests.Finish ∷ []) steps at same (omega (arith, few)) (λ ask d. refl)
      (λ b ask is. subst (λ a. IsMild (kind_verdict setup b session a)) (sym is.2) (mild_open setup b session 3 is.0)) (λ ask is. (ap is_end is.2, ap is_finish is.2))
      (λ s1 b1 steps1 at1 same1 count1. user_more s1 b1 rest alone why (requests.WriteAt 1 0 bytes) (requests.ReadAt 1 0 16 ∷ requests.CloseFile 1 ∷ requests.Finish ∷ []) steps1 at1 same1 (omega (arith, few, count1)) (λ ask d. refl)
      (λ b ask is. subst (λ a. IsMild (kind_verdict setup b session a)) (sym is) (mild_write setup b session 1 0 (length bytes))) (λ ask is. (ap is_end is, ap is_finish is))
      (λ s2 b2 steps2 at2 same2 count2. user_more s2 b2 rest alone why (requests.ReadAt 1 0 16) (requests.CloseFile 1 ∷ requests.Finish ∷ []) steps2 at2 same2 (omega (arith, few, count1, count2)) (λ ask d. refl)
      (λ b ask is. subst (λ a. IsMild (kind_verdict setup b session a)) (sym is) (mild_read setup b session 1 0 16)) (λ ask is. (ap is_end is, ap is_finish is))
      (λ s3 b3 steps3 at3 same3 count3. user_more s3 b3 rest alone why (requests.CloseFile 1) (requests.Finish ∷ []) steps3 at3 same3 (omega (arith, few, count1, count2, count3)) (λ ask d. refl)
      (λ b ask is. subst (λ a. IsMild (kind_verdict setup b session a)) (sym is) (mild_close setup b session 1)) (λ ask is. (ap is_end is, ap is_finish is))
      (λ s4 b4 steps4 at4 same4 count4. finish_ends s4 b4 rest alone why User steps4 at4 same4 refl (λ had a x. refl) (omega (arith, few, count1, count2, count3, count4))))))

  import_ends : (s : State) (before : List Event) (rest : List Place) (alone why : Why) (name bytes : List ℕ) (steps : List Step) → At setup worker session before s → s.phase ≡ User → s.had kinds.Import ≡ false → s.asked + 5 < 16
      → Stands journal worker before (step_places steps ++ rest) → Heard (requests.Import ∷ file_requests name bytes) alone why steps → why ≡ Finished
  import_ends s before rest alone why name bytes steps at same unhad few =
      user_more s before rest alone why requests.Import (file_requests name bytes) steps at same (omega (arith, few)) (λ ask d. rw unhad refl)
      (λ b ask is. record { unviolated = ap is_violation (sym (free_is setup b session ask (ap is_free_ask is))) }) (λ ask is. (ap is_end is, ap is_finish is))
      (λ s1 b1 steps1 at1 same1 count1. file_ends s1 b1 rest alone why name bytes steps1 at1 same1 (omega (arith, few, count1)))

  -- what follows a permitted EXPORT: the user's child's requests, by which the session is finished
  abbrev pub UserEnds : List Place → Why → Why → List RequestValue → Type 0
  UserEnds rest alone why others =
      (s : State) (before : List Event) (last : Step) (steps : List Step) → exports last.place.event ≡ true → IsLast others last → At setup worker session before s → s.phase ≡ User → s.had kinds.Import ≡ false → s.asked + 5 < 16
      → Stands journal worker before (step_places steps ++ rest) → Heard others alone why steps → why ≡ Finished

  pub file_is_used : (rest : List Place) (alone why : Why) (name bytes : List ℕ) → UserEnds rest alone why (requests.Import ∷ file_requests name bytes)
  file_is_used rest alone why name bytes s before last steps exported' is_last at same unhad few stands heard = import_ends s before rest alone why name bytes steps at same unhad few stands heard

  pub none_is_left : (rest : List Place) (alone why : Why) → UserEnds rest alone why []
  none_is_left rest alone why s before last steps exported' is_last at same unhad few stands heard = absurd (false≢true (sym is_last ∙ exported'))

  -- an EXPORT before the login is refused
  pub export_refused : (before : List Event) (places : List Place) (p : Place) (state : List ℕ) → At setup worker session before start → Stands journal worker before (p ∷ places) → IsAskFor (requests.Export state) p.event.ask → is_permit p.event.decision ≡ false
  export_refused before places p state at stands is =
      let n = now start before p places at stands in
      ap is_permit (by_phase start p places (requests.Export state) Pre n is refl refl (lit< tt))

  export_logs : (s : State) (before : List Event) (rest : List Place) (alone why : Why) (state : List ℕ) (others : List RequestValue) (steps : List Step) → UserEnds rest alone why others → At setup worker session before s → s.phase ≡ Verified → s.had kinds.Export ≡ false → s.had kinds.Import ≡ false → s.asked + 6 < 16
      → Stands journal worker before (step_places steps ++ rest) → Heard (requests.Export state ∷ others) alone why steps → why ≡ Finished
  export_logs s before rest alone why state others [] user_ends at same unhad unimported few stands heard = absurd heard
  export_logs s before rest alone why state others (step ∷ steps) user_ends at same unhad unimported few stands heard =
      let e = step.place.event in
      let n = now s before step.place (step_places steps ++ rest) at stands in
      let ask = heard.0 in
      let d : e.decision ≡ kind_verdict setup step.place.before session e.ask =
      by_phase s step.place (step_places steps ++ rest) (requests.Export state) Verified n heard.0 same refl (omega (arith, few)) ∙ ap (λ had. cell_decision (table_row Verified kinds.Export) had e.ask (kind_verdict setup step.place.before session e.ask)) unhad in
      let permit : is_permit e.decision ≡ true = ap is_permit d ∙ ap (λ a. is_permit (kind_verdict setup step.place.before session a)) ask ∙ exported setup step.place.before session (length state) in
      let on = on_mild e (ap is_end ask) (ap is_finish ask) (permitted_mild e.decision permit) n.comes.kept in
      let phase : phase_after Verified e ≡ User = rw (on, ask, permit) refl in
      let kept : (s.had kinds.Import || permits_kind kinds.Import e) ≡ false = rw (unimported, ask) refl in
      elim heard.1 [
        | inl end ↦ absurd (false≢true (sym on ∙ end.0))
        | inr more ↦ user_ends (after s e) (step.place.before ++ e ∷ []) step steps (rw (ask, permit) refl) more.1 (then s step.place (step_places steps ++ rest) (requests.Export state) n heard.0) (ap (λ ph. phase_after ph e) same ∙ phase) kept (omega (arith, few)) n.behind more.2
      ]

  events : List Step → List Event
  events steps = map (λ (x : Step). x.place.event) steps

  reply_challenged : (s : State) (before : List Event) (rest : List Place) (alone why : Why) (text state : List ℕ) (others : List RequestValue) (steps : List Step) → UserEnds rest alone why others → At setup worker session before s → s.phase ≡ Challenged → s.had kinds.Export ≡ false → s.had kinds.Import ≡ false → s.asked + 7 < 16
      → Stands journal worker before (step_places steps ++ rest) → Heard (requests.Reply text ∷ requests.Export state ∷ others) alone why steps → why ≡ drill_end LogsIn (list_any accepts (events steps))
  unfolding events
  reply_challenged s before rest alone why text state others [] user_ends at same unhad unimported few stands heard = absurd heard
  reply_challenged s before rest alone why text state others (step ∷ steps) user_ends at same unhad unimported few stands heard =
      let e = step.place.event in
      let n = now s before step.place (step_places steps ++ rest) at stands in
      let ask = heard.0.2 in
      let d = by_phase s step.place (step_places steps ++ rest) (requests.Reply text) Challenged n heard.0 same refl (omega (arith, few)) ∙ ap (kind_verdict setup step.place.before session) ask in
      let mild = ap is_violation d ∙ (mild_reply setup step.place.before session None (Some heard.0.0)).unviolated in
      let on = on_mild e (ap is_end ask) (ap is_finish ask) mild n.comes.kept in
      let behind = then s step.place (step_places steps ++ rest) (requests.Reply text) n heard.0 in
      let kept_export : (s.had kinds.Export || permits_kind kinds.Export e) ≡ false = rw (unhad, ask) refl in
      let kept_import : (s.had kinds.Import || permits_kind kinds.Import e) ≡ false = rw (unimported, ask) refl in
      elim heard.1 [
        | inl end ↦ absurd (false≢true (sym on ∙ end.0))
        | inr more ↦ elim (cases_Bool (is_permit e.decision)) [
          | inl permit ↦
              let accepted : accepts e ≡ true = rw (ask, permit) refl in
              export_logs (after s e) (step.place.before ++ e ∷ []) rest alone why state others steps user_ends behind (ap (λ ph. phase_after ph e) same ∙ phase_accepted e None (Some heard.0.0) ask permit) kept_export kept_import (omega (arith, few)) n.behind more.2
              ∙ ap (λ b. drill_end LogsIn (b || list_any accepts (map (λ (x : Step). x.place.event) steps))) (sym accepted)
          | inr denied ↦
              let refused : accepts e ≡ false = rw (ask, denied) refl in
              let ends = export_ends (after s e) (step.place.before ++ e ∷ []) rest alone why state others steps behind (ap (λ ph. phase_after ph e) same ∙ phase_refused e None (Some heard.0.0) ask denied on) (omega (arith, few)) n.behind more.2 in
              ends.0 ∙ ap (λ b. drill_end LogsIn b) (sym ends.1) ∙ ap (λ b. drill_end LogsIn (b || list_any accepts (map (λ (x : Step). x.place.event) steps))) (sym refused)
        ]
      ]

  reply_early : (s : State) (before : List Event) (rest : List Place) (alone why : Why) (text : List ℕ) (others : List RequestValue) (steps : List Step) → At setup worker session before s → s.phase ≡ Pre → s.asked < 16
      → Stands journal worker before (step_places steps ++ rest) → Heard (requests.Reply text ∷ others) alone why steps → why ≡ drill_end LogsIn (list_any accepts (events steps))
  unfolding events
  reply_early s before rest alone why text others [] at same few stands heard = absurd heard
  reply_early s before rest alone why text others (step ∷ steps) at same few stands heard =
      let e = step.place.event in
      let n = now s before step.place (step_places steps ++ rest) at stands in
      let ask = heard.0.2 in
      let d : e.decision ≡ Deny 6 (request_number e.ask) = by_phase s step.place (step_places steps ++ rest) (requests.Reply text) Pre n heard.0 same refl few in
      elim heard.1 [
        | inl end ↦
            let none_behind = end.1 in
            let refused : accepts e ≡ false = rw (ask, d) refl in
            end.2 ∙ ap why_of d ∙ rw (none_behind, refused) refl
        | inr on ↦ absurd (false≢true (sym on.0 ∙ ends_denied e (request_number e.ask) d))
      ]

  challenge_logs : (s : State) (before : List Event) (rest : List Place) (alone why : Why) (user text state : List ℕ) (others : List RequestValue) (steps : List Step) → UserEnds rest alone why others → At setup worker session before s → s.phase ≡ Pre → s.had kinds.Export ≡ false → s.had kinds.Import ≡ false → s.asked + 8 < 16
      → Stands journal worker before (step_places steps ++ rest) → Heard (requests.Challenge user ∷ requests.Reply text ∷ requests.Export state ∷ others) alone why steps → why ≡ drill_end LogsIn (list_any accepts (events steps))
  unfolding events
  challenge_logs s before rest alone why user text state others [] user_ends at same unhad unimported few stands heard = absurd heard
  challenge_logs s before rest alone why user text state others (step ∷ steps) user_ends at same unhad unimported few stands heard =
      let e = step.place.event in
      let n = now s before step.place (step_places steps ++ rest) at stands in
      let ask = heard.0.3 in
      let d = by_phase s step.place (step_places steps ++ rest) (requests.Challenge user) Pre n heard.0 same refl (omega (arith, few)) ∙ ap (kind_verdict setup step.place.before session) ask in
      let on = challenge_on e heard.0.0 heard.0.1 ask (ap is_violation d ∙ (mild_challenge setup step.place.before session heard.0.0 heard.0.1).unviolated) n.comes.kept in
      let behind = then s step.place (step_places steps ++ rest) (requests.Challenge user) n heard.0 in
      let kept_export : (s.had kinds.Export || permits_kind kinds.Export e) ≡ false = rw (unhad, ask) refl in
      let kept_import : (s.had kinds.Import || permits_kind kinds.Import e) ≡ false = rw (unimported, ask) refl in
      let unaccepted : accepts e ≡ false = rw ask refl in
      elim heard.1 [
        | inl end ↦ absurd (false≢true (sym on ∙ end.0))
        | inr more ↦ elim (cases_Bool (is_permit e.decision)) [
          | inl permit ↦
              reply_challenged (after s e) (step.place.before ++ e ∷ []) rest alone why text state others steps user_ends behind (ap (λ ph. phase_after ph e) same ∙ phase_challenge e heard.0.0 heard.0.1 ask permit) kept_export kept_import (omega (arith, few)) n.behind more.2
              ∙ ap (λ b. drill_end LogsIn (b || list_any accepts (map (λ (x : Step). x.place.event) steps))) (sym unaccepted)
          | inr denied ↦
              reply_early (after s e) (step.place.before ++ e ∷ []) rest alone why text (requests.Export state ∷ others) steps behind (ap (λ ph. phase_after ph e) same ∙ phase_unchallenged e heard.0.0 heard.0.1 ask denied on) (omega (arith, few)) n.behind more.2
              ∙ ap (λ b. drill_end LogsIn (b || list_any accepts (map (λ (x : Step). x.place.event) steps))) (sym unaccepted)
        ]
      ]

  pub logs_in_end : (before : List Event) (rest : List Place) (alone why : Why) (user text state : List ℕ) (others : List RequestValue) (steps : List Step) → UserEnds rest alone why others → At setup worker session before start
      → Stands journal worker before (step_places steps ++ rest) → Heard (requests.Banner ∷ requests.Challenge user ∷ requests.Reply text ∷ requests.Export state ∷ others) alone why steps → why ≡ drill_end LogsIn (list_any accepts (map (λ (x : Step). x.place.event) steps))
  unfolding events
  logs_in_end before rest alone why user text state others [] user_ends at stands heard = absurd heard
  logs_in_end before rest alone why user text state others (step ∷ steps) user_ends at stands heard =
      let e = step.place.event in
      let n = now start before step.place (step_places steps ++ rest) at stands in
      let ask = heard.0 in
      let d : e.decision ≡ Permit 0 = by_phase start step.place (step_places steps ++ rest) requests.Banner Pre n heard.0 refl refl (lit< tt) ∙ sym (free_is setup step.place.before session e.ask (ap is_free_ask ask)) in
      let on : ends_session e ≡ false = rw (ask, d) refl in
      let phase : phase_after Pre e ≡ Pre = rw (ask, d) refl in
      let kept_export : (false || permits_kind kinds.Export e) ≡ false = rw ask refl in
      let kept_import : (false || permits_kind kinds.Import e) ≡ false = rw ask refl in
      let unaccepted : accepts e ≡ false = rw ask refl in
      elim heard.1 [
        | inl end ↦ absurd (false≢true (sym on ∙ end.0))
        | inr more ↦
            challenge_logs (after start e) (step.place.before ++ e ∷ []) rest alone why user text state others steps user_ends (then start step.place (step_places steps ++ rest) requests.Banner n heard.0) phase kept_export kept_import (lit< tt) n.behind more.2
            ∙ ap (λ b. drill_end LogsIn (b || list_any accepts (map (λ (x : Step). x.place.event) steps))) (sym unaccepted)
      ]

  pub exports_end : (before : List Event) (rest : List Place) (alone why : Why) (state : List ℕ) (steps : List Step) → At setup worker session before start
      → Stands journal worker before (step_places steps ++ rest) → Heard (requests.Export state ∷ []) alone why steps → why ≡ Violation 6
  exports_end before rest alone why state steps at stands heard = (export_ends start before rest alone why state [] steps at refl (lit< tt) stands heard).0
