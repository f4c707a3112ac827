-- What is kept of a worker's events says all of its open session, and goes on with each event.
use Rattle.std.proofs.Common.{◌≡◌, ◌≢◌, ℕ, Bool, true, false, ◌&&◌, ◌||◌, cond, eqb, eq-eqb, arith, List, [], ◌∷◌, ◌++◌, Some, refl, sym, ap, subst, ◌∙◌, ◌⊎◌, inl, inr}
use Rattle.std.proofs.lemmas.Bool.{and_parts, cases_eq}
use Rattle.std.proofs.lemmas.Bool.Decides.{nat_tests}
use Rattle.std.proofs.lemmas.List.Elements.{filter-append}
use Rattle.policy_model.specs.declared.event.Decision.{Decision}
use Rattle.policy_model.specs.declared.event.Decision.TheVariants.{Permit, Deny, Lost}
use Rattle.policy_model.specs.declared.event.Event.{Event}
use Rattle.policy_model.specs.Asks.{is_begin, is_end, is_lost, is_permit, takes}
use Rattle.policy_model.specs.Journal.{events_of, is_turn_of, last_event, open_session_of, openings_of}
use Rattle.policy_model.specs.Cases.{session_opened}
use Rattle.policy_model.specs.Logins.{verified_user}
use Rattle.policy_model.specs.Runs.{AreNumbered}
use Rattle.policy_model.specs.Settings.{Settings}
use Rattle.policy_model.proofs.Journals.{open_session_of-push}
use Rattle.session_laws.specs.Opened.{AreApart}
use Rattle.session_laws.proofs.NeverLost.{never_lost}
use Rattle.session_laws.proofs.Openings.{AreApart-push, not_of_other, numbered-push, open_session-other}
use Rattle.session_laws.proofs.SessionEvents.{events_of-other, events_of-own}
use Rattle.audit_check.specs.Following.{IsRecent, own_after, recent_after}
use Rattle.audit_check.specs.Legal.{IsLegalLog, MayFollow, is_open, may_be_decided}
use Rattle.audit_check.proofs.Fronts.{legal_push}
use Rattle.audit_check.proofs.Recent.{fresh, last_recent, numbered, open_recent, verified_recent}
use Rattle.audit_check.proofs.Witness.{by_log}

-- 1. Whom it was challenged for, and as whom it is logged in

pub taking_is : (recent events : List Event) (worker : ℕ) → IsRecent recent worker events → open_session_of events worker ≢ 0 → last_event recent (open_session_of events worker) takes ≡ last_event events (open_session_of events worker) takes
taking_is recent events worker r some = last_recent (open_session_of events worker) takes recent events (r.own some)

pub verified_is : (recent events : List Event) (worker : ℕ) → IsRecent recent worker events → open_session_of events worker ≢ 0 → verified_user recent (open_session_of events worker) ≡ verified_user events (open_session_of events worker)
verified_is recent events worker r some = verified_recent (open_session_of events worker) recent events (r.own some)

-- 2. Before the first event

pub recent_none : (worker : ℕ) → IsRecent [] worker []
recent_none worker = record { session = refl; own = λ some. refl }

-- 3. An event of another worker is of another session

undecided_kept : (setup : Settings) (before : List Event) (session : ℕ) (d : Decision) → may_be_decided setup before session d ≡ true → is_lost d ≡ false
undecided_kept setup before session (Permit value) h = refl
undecided_kept setup before session (Deny rule detail) h = refl
undecided_kept setup before session Lost h = absurd cc

pub not_lost : (setup : Settings) (events : List Event) (e : Event) → MayFollow setup events e → is_lost e.decision ≡ false
not_lost setup events e may = go (is_open setup events e) refl where
  go : (b : Bool) → is_open setup events e ≡ b → is_lost e.decision ≡ false
  go true h = undecided_kept setup events (open_session_of events e.worker) e.decision (may.decision.undecided h)
  go false h = ap is_lost (may.decision.decided h) ∙ never_lost setup events e.worker e.ask

pub apart : (setup : Settings) (events : List Event) → IsLegalLog setup events → AreApart events
apart setup events legal = (by_log setup (λ xs. AreNumbered xs (openings_of xs) × AreApart xs) (tt, record { apart = λ v w ne some same. some refl }) more events legal).1 where
  more : (xs : List Event) (e : Event) → MayFollow setup xs e → AreNumbered xs (openings_of xs) × AreApart xs → AreNumbered (xs ++ e ∷ []) (openings_of (xs ++ e ∷ [])) × AreApart (xs ++ e ∷ [])
  more xs e may h = (numbered-push xs e may.session h.0, AreApart-push xs e h.0 may.session h.1)

others_recent : (setup : Settings) (events : List Event) (e : Event) (worker : ℕ) (recent : List Event) → IsLegalLog setup events → MayFollow setup events e → worker ≢ e.worker → IsRecent recent worker events → IsRecent recent worker (events ++ e ∷ [])
others_recent setup events e worker recent legal may ne r = record {
  session = r.session ∙ sym stays;
  own = λ some.
      let was : open_session_of events worker ≢ 0 = λ zero. some (stays ∙ zero) in
      let other = not_of_other events e worker (numbered setup events legal) (apart setup events legal) may.session (not_lost setup events e may) ne was in
      ap (events_of recent) stays
      ∙ r.own was
      ∙ sym (events_of-other events e (open_session_of events worker) other)
      ∙ ap (events_of (events ++ e ∷ [])) (sym stays);
} where
  stays : open_session_of (events ++ e ∷ []) worker ≡ open_session_of events worker
  stays = open_session-other events e worker ne

-- 4. An event of the worker

turn_recent : (setup : Settings) (events : List Event) (e : Event) → IsLegalLog setup events → MayFollow setup events e → is_turn_of e.worker e ≡ true → IsRecent (e ∷ []) e.worker (events ++ e ∷ [])
turn_recent setup events e legal may turn = record { session = open_recent e.worker [] e [] turn refl ∙ sym opened; own = λ some. by some (is_begin e.ask) refl } where
  opened : open_session_of (events ++ e ∷ []) e.worker ≡ cond (is_begin e.ask) e.session 0
  opened = open_recent e.worker events e [] turn refl

  permit : is_permit e.decision ≡ true
  permit = (and_parts (eqb e.worker e.worker && (is_begin e.ask || is_end e.ask)) (is_permit e.decision) turn).1

  by : open_session_of (events ++ e ∷ []) e.worker ≢ 0 → (b : Bool) → is_begin e.ask ≡ b → events_of (e ∷ []) (open_session_of (events ++ e ∷ []) e.worker) ≡ events_of (events ++ e ∷ []) (open_session_of (events ++ e ∷ []) e.worker)
  by some false h = absurd (some (opened ∙ ap (λ b. cond b e.session 0) h))
  by some true h =
      let here : open_session_of (events ++ e ∷ []) e.worker ≡ e.session = opened ∙ ap (λ b. cond b e.session 0) h in
      ap (events_of (e ∷ [])) here
      ∙ events_of-own [] e e.session refl
      ∙ sym (events_of-own events e e.session refl ∙ ap (λ xs. xs ++ e ∷ []) (fresh setup events e [] (legal_push setup events e legal may) h permit))
      ∙ ap (events_of (events ++ e ∷ [])) (sym here)

same_recent : (events : List Event) (e : Event) (recent : List Event) → is_turn_of e.worker e ≡ false → IsRecent recent e.worker events → IsRecent (recent ++ e ∷ []) e.worker (events ++ e ∷ [])
same_recent events e recent turn r = record {
  session = stays recent ∙ r.session ∙ sym (stays events);
  own = λ some.
      let s : ℕ = open_session_of events e.worker in
      ap (events_of (recent ++ e ∷ [])) (stays events)
      ∙ filter-append (λ x. eqb x.session s) recent (e ∷ [])
      ∙ ap (λ xs. xs ++ events_of (e ∷ []) s) (r.own (λ zero. some (stays events ∙ zero)))
      ∙ sym (filter-append (λ x. eqb x.session s) events (e ∷ []))
      ∙ ap (events_of (events ++ e ∷ [])) (sym (stays events));
} where
  stays : (xs : List Event) → open_session_of (xs ++ e ∷ []) e.worker ≡ open_session_of xs e.worker
  stays xs = open_session_of-push xs e.worker e ∙ ap (λ b. cond b (session_opened (Some e)) (open_session_of xs e.worker)) turn

own_recent : (setup : Settings) (events : List Event) (e : Event) (recent : List Event) → IsLegalLog setup events → MayFollow setup events e → IsRecent recent e.worker events → IsRecent (own_after e recent) e.worker (events ++ e ∷ [])
own_recent setup events e recent legal may r = go (is_turn_of e.worker e) refl where
  go : (b : Bool) → is_turn_of e.worker e ≡ b → IsRecent (cond b (e ∷ []) (recent ++ e ∷ [])) e.worker (events ++ e ∷ [])
  go true h = turn_recent setup events e legal may h
  go false h = same_recent events e recent h r

pub recent_more : (setup : Settings) (events : List Event) (e : Event) (worker : ℕ) (recent : List Event) → IsLegalLog setup events → MayFollow setup events e → IsRecent recent worker events → IsRecent (recent_after worker e recent) worker (events ++ e ∷ [])
recent_more setup events e worker recent legal may r = go (cases_eq worker e.worker) where
  go : (worker ≡ e.worker) ⊎ (worker ≢ e.worker) → IsRecent (recent_after worker e recent) worker (events ++ e ∷ [])
  go (inl same) =
      subst (λ b. IsRecent (cond b (own_after e recent) recent) worker (events ++ e ∷ [])) (sym (eq-eqb worker e.worker same))
      (subst (λ n. IsRecent (own_after e recent) n (events ++ e ∷ [])) (sym same) (own_recent setup events e recent legal may (subst (λ n. IsRecent recent n events) same r)))
  go (inr ne) =
      let no : eqb worker e.worker ≡ false = grind (arith, nat_tests, ne) in
      subst (λ b. IsRecent (cond b (own_after e recent) recent) worker (events ++ e ∷ [])) (sym no) (others_recent setup events e worker recent legal may ne r)
