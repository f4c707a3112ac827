-- What a session was told stands for its events, as far as a stranger's verdict looks.
use Rattle.std.proofs.Common.{◌≡◌, ℕ, ◌+◌, Bool, true, false, not, ◌&&◌, ◌||◌, cond, eqb, nat_le, List, [], ◌∷◌, ◌++◌, filter, length, map, Option, Some, None, option_map, ◌⊎◌, inl, inr, refl, sym, ap, ◌∙◌, arith}
use Rattle.std.specs.List.{last_or, list_any}
use Rattle.std.proofs.lemmas.Bool.{cases_eq, false≢true, or_parts}
use Rattle.std.proofs.lemmas.Bool.Decides.{nat_tests}
use Rattle.std.proofs.lemmas.List.{length-append, length-map}
use Rattle.request_catalogue.specs.declared.kind.Kind.TheVariants as kinds
use Rattle.policy_model.specs.declared.event.Ask.{Ask}
use Rattle.policy_model.specs.declared.event.Ask.TheVariants as asks
use Rattle.policy_model.specs.declared.event.Decision.{Decision}
use Rattle.policy_model.specs.declared.event.Decision.TheVariants.{Permit, Deny, Lost}
use Rattle.policy_model.specs.declared.event.Event.{Event}
use Rattle.policy_model.specs.Asks.{ends_session, is_begin, is_end, is_login_step, is_lost, is_permit, came_by_frame, is_violation, opens, permits_kind, shown_of}
use Rattle.policy_model.specs.Cases.{is_finish, is_taking}
use Rattle.policy_model.specs.Journal.{ask_count, has_event, has_lost, is_own, open_session_of}
use Rattle.policy_model.specs.Legal.{IsLegal, IsNext}
use Rattle.policy_model.specs.Settings.{Settings}
use Rattle.policy_laws.specs.Strangers.{asks_in, bare, is_between, told_in, told_of}
use Rattle.policy_laws.specs.Verdicts.{is_challenged, told_end, told_login_step, told_permit, told_taking}
use Rattle.policy_model.specs.Verdict.{verdict_of}
use Rattle.policy_laws.proofs.Apart.{has_event-push, is_ending}
use Rattle.policy_model.proofs.Lists.{filter-push}
use Rattle.policy_model.proofs.Runs.{next_decision}
use Rattle.policy_model.proofs.Sessions.{ask_count-push}
use Rattle.policy_model.proofs.Verdicts.{denied_begin, verdict_of-begin}
use Rattle.session_laws.proofs.ByEvents.{by_events}

-- a decision that is shown permits and ends as the decision itself
bare_permit : (d : Decision) → is_permit (bare (shown_of d)) ≡ is_permit d
bare_permit (Permit v) = refl
bare_permit (Deny rule detail) = go (nat_le 13 rule && nat_le rule 16) where
  go : (b : Bool) → is_permit (bare (cond b (Deny 16 0) (Deny rule detail))) ≡ false
  go true = refl
  go false = refl
bare_permit Lost = refl

bare_violation : (d : Decision) → is_violation (bare (shown_of d)) ≡ is_violation d
bare_violation (Permit v) = refl
bare_violation (Deny rule detail) = go (nat_le 13 rule && nat_le rule 16) refl where
  go : (b : Bool) → (nat_le 13 rule && nat_le rule 16) ≡ b → is_violation (bare (cond b (Deny 16 0) (Deny rule detail))) ≡ (nat_le 1 rule && nat_le rule 7)
  go true is = grind (arith, nat_tests, is)
  go false is = refl
bare_violation Lost = refl

or_none : (a : Bool) → (a || false) ≡ a
or_none true = refl
or_none false = refl

-- the tests of what was told are those of the event
step_of : (ask : Ask) (d : Decision) → (λ (e : Event). told_login_step (told_of e)) (record { worker = 0; session = 0; ask = ask; decision = d }) ≡ (λ (e : Event). is_login_step e) (record { worker = 0; session = 0; ask = ask; decision = d })
step_of asks.Begin d = refl
step_of asks.Banner d = refl
step_of (asks.Challenge user now) d = rw (bare_permit d) refl
step_of (asks.Reply words hex) d = refl
step_of asks.Abandon d = rw (bare_permit d) refl
step_of (asks.Export len) d = refl
step_of asks.Import d = refl
step_of (asks.ReadAt handle offset max) d = refl
step_of (asks.WriteAt handle offset len) d = refl
step_of (asks.OpenFile mode name) d = refl
step_of (asks.CloseFile handle) d = refl
step_of (asks.Info number) d = refl
step_of (asks.Note text) d = refl
step_of asks.Finish d = refl
step_of (asks.Bad rule detail) d = refl
step_of (asks.End why) d = refl

told_step : (e : Event) → told_login_step (told_of e) ≡ is_login_step e
told_step e = step_of e.ask e.decision

taking_by : (ask : Ask) (d : Decision) → (λ (e : Event). told_permit kinds.Challenge (told_of e)) (record { worker = 0; session = 0; ask = ask; decision = d }) ≡ (λ (e : Event). is_taking (Some e)) (record { worker = 0; session = 0; ask = ask; decision = d })
taking_by (asks.Challenge user now) d = bare_permit d
taking_by _ d = refl

told_takes : (e : Event) → told_taking (Some (told_of e)) ≡ is_taking (Some e)
told_takes e = taking_by e.ask e.decision

ends_by : (ask : Ask) (d : Decision) → is_end ask ≡ false → is_lost d ≡ false → (λ (e : Event). told_end (told_of e)) (record { worker = 0; session = 0; ask = ask; decision = d }) ≡ (λ (e : Event). ends_session e) (record { worker = 0; session = 0; ask = ask; decision = d })
ends_by (asks.End why) d h kept = absurd cc
ends_by asks.Finish d h kept = rw (bare_permit d, bare_violation d, kept) (sym (or_none (is_permit d || is_violation d)))
ends_by _ d h kept = rw (bare_violation d, kept) (sym (or_none (is_violation d)))

told_ends : (e : Event) → is_end e.ask ≡ false → is_lost e.decision ≡ false → told_end (told_of e) ≡ ends_session e
told_ends e h kept = ends_by e.ask e.decision h kept

banner_by : (ask : Ask) (d : Decision) → (λ (e : Event). told_permit kinds.Banner (told_of e)) (record { worker = 0; session = 0; ask = ask; decision = d }) ≡ (λ (e : Event). permits_kind kinds.Banner e) (record { worker = 0; session = 0; ask = ask; decision = d })
banner_by asks.Banner d = bare_permit d
banner_by _ d = refl

told_banner : (e : Event) → told_permit kinds.Banner (told_of e) ≡ permits_kind kinds.Banner e
told_banner e = banner_by e.ask e.decision

-- an opening and an end are no steps of a login, permit no BANNER
outside_by : (ask : Ask) (d : Decision) → (not (is_begin ask && is_permit d) && not (is_end ask)) ≡ false → (is_begin ask || is_end ask) ≡ true
outside_by asks.Begin d h = refl
outside_by (asks.End why) d h = refl
outside_by _ d h = absurd cc

no_step : (ask : Ask) (d : Decision) → (is_begin ask || is_end ask) ≡ true → (λ (e : Event). is_login_step e) (record { worker = 0; session = 0; ask = ask; decision = d }) ≡ false
no_step asks.Begin d h = refl
no_step (asks.End why) d h = refl
no_step _ d h = absurd cc

no_banner : (ask : Ask) (d : Decision) → (is_begin ask || is_end ask) ≡ true → (λ (e : Event). permits_kind kinds.Banner e) (record { worker = 0; session = 0; ask = ask; decision = d }) ≡ false
no_banner asks.Begin d h = refl
no_banner (asks.End why) d h = refl
no_banner _ d h = absurd cc

outside_step : (e : Event) → is_between e ≡ false → is_login_step e ≡ false
outside_step e h = no_step e.ask e.decision (outside_by e.ask e.decision h)

outside_banner : (e : Event) → is_between e ≡ false → permits_kind kinds.Banner e ≡ false
outside_banner e h = no_banner e.ask e.decision (outside_by e.ask e.decision h)

opening_by : (ask : Ask) (d : Decision) → (is_begin ask && is_permit d) ≡ true → (λ (e : Event). ends_session e) (record { worker = 0; session = 0; ask = ask; decision = d }) ≡ false
opening_by asks.Begin (Permit v) h = refl
opening_by asks.Begin (Deny rule detail) h = absurd cc
opening_by asks.Begin Lost h = absurd cc
opening_by _ d h = absurd cc

outside_ends : (e : Event) → is_between e ≡ false → is_end e.ask ≡ false → ends_session e ≡ false
outside_ends e h end = opening_by e.ask e.decision (go (opens e) h) where
  go : (b : Bool) → (not b && not (is_end e.ask)) ≡ false → b ≡ true
  go true g = refl
  go false g = absurd (false≢true (sym g ∙ ap not end))

-- whether a BANNER was permitted
pub had_banner : (session : ℕ) (journal : List Event) → list_any (told_permit kinds.Banner) (told_in journal session) ≡ has_event journal session (permits_kind kinds.Banner)
had_banner session [] = refl
had_banner session (e ∷ es) = go (had_banner session es) (eqb e.session session) (is_between e) refl where
  rest : List Event
  rest = asks_in es session

  go : list_any (told_permit kinds.Banner) (map told_of rest) ≡ has_event es session (permits_kind kinds.Banner) → (own between : Bool) → is_between e ≡ between → list_any (told_permit kinds.Banner) (map told_of (cond (own && between) (e ∷ rest) rest)) ≡ (own && permits_kind kinds.Banner e || has_event es session (permits_kind kinds.Banner))
  go more false between is = more
  go more true true is = ap (λ b. b || list_any (told_permit kinds.Banner) (map told_of rest)) (told_banner e) ∙ ap (λ b. permits_kind kinds.Banner e || b) more
  go more true false is = more ∙ ap (λ b. b || has_event es session (permits_kind kinds.Banner)) (sym (outside_banner e is))

-- whether the last step of a login was a permitted CHALLENGE
challenged_from : (session : ℕ) (o : Option Event) (journal : List Event) → told_taking (last_or (option_map told_of o) (filter told_login_step (told_in journal session))) ≡ is_taking (last_or o (filter (is_own session is_login_step) journal))
challenged_from session None [] = refl
challenged_from session (Some x) [] = told_takes x
challenged_from session o (e ∷ es) = go (challenged_from session o es) (challenged_from session (Some e) es) (eqb e.session session) (is_between e) refl (is_login_step e) refl where
  rest : List Event
  rest = asks_in es session

  behind : List Event
  behind = filter (is_own session is_login_step) es

  Same : Option Event → Type 0
  Same o = told_taking (last_or (option_map told_of o) (filter told_login_step (map told_of rest))) ≡ is_taking (last_or o behind)

  go : Same o → Same (Some e) → (own between : Bool) → is_between e ≡ between → (step : Bool) → is_login_step e ≡ step → told_taking (last_or (option_map told_of o) (filter told_login_step (map told_of (cond (own && between) (e ∷ rest) rest)))) ≡ is_taking (last_or o (cond (own && step) (e ∷ behind) behind))
  go stay new false between b step s = stay
  go stay new true true b true s =
      ap (λ x. told_taking (last_or (option_map told_of o) (cond x (told_of e ∷ filter told_login_step (map told_of rest)) (filter told_login_step (map told_of rest))))) (told_step e ∙ s) ∙ new
  go stay new true true b false s =
      ap (λ x. told_taking (last_or (option_map told_of o) (cond x (told_of e ∷ filter told_login_step (map told_of rest)) (filter told_login_step (map told_of rest))))) (told_step e ∙ s) ∙ stay
  go stay new true false b true s = absurd (false≢true (sym (outside_step e b) ∙ s))
  go stay new true false b false s = stay

pub was_challenged : (journal : List Event) (session : ℕ) → is_challenged (told_in journal session) ≡ is_taking (last_or None (filter (is_own session is_login_step) journal))
was_challenged journal session = challenged_from session None journal

-- whether the session has ended, where it has no end and no lost event
pub has_ended : (session : ℕ) (journal : List Event) → has_event journal session is_ending ≡ false → has_lost journal ≡ false → list_any told_end (told_in journal session) ≡ has_event journal session ends_session
has_ended session [] ending lost = refl
has_ended session (e ∷ es) ending lost = go (has_ended session es (or_parts (is_own session is_ending e) (has_event es session is_ending) ending).1 (or_parts (is_lost e.decision) (has_lost es) lost).1) (eqb e.session session) refl (is_between e) refl where
  rest : List Event
  rest = asks_in es session

  kept : (is_lost e.decision ≡ false) × (has_lost es ≡ false)
  kept = or_parts (is_lost e.decision) (has_lost es) lost

  go : list_any told_end (map told_of rest) ≡ has_event es session ends_session → (own : Bool) → eqb e.session session ≡ own → (between : Bool) → is_between e ≡ between → list_any told_end (map told_of (cond (own && between) (e ∷ rest) rest)) ≡ (own && ends_session e || has_event es session ends_session)
  go more false o between is = more
  go more true o true is =
      let end : is_end e.ask ≡ false = sym (ap (λ b. b && is_end e.ask) o) ∙ (or_parts (is_own session is_ending e) (has_event es session is_ending) ending).0 in
      ap (λ b. b || list_any told_end (map told_of rest)) (told_ends e end kept.0) ∙ ap (λ b. ends_session e || b) more
  go more true o false is =
      let end : is_end e.ask ≡ false = sym (ap (λ b. b && is_end e.ask) o) ∙ (or_parts (is_own session is_ending e) (has_event es session is_ending) ending).0 in
      more ∙ ap (λ b. b || has_event es session ends_session) (sym (outside_ends e is end))

abbrev one_if : Bool → ℕ
one_if b = cond b 1 0

-- the asks of a session that goes on are those it was told of
count_by_ask : (ask : Ask) (d : Decision) → is_violation d ≡ false → is_lost d ≡ false → is_end ask ≡ false → (is_begin ask ≡ true → (is_permit d ≡ true) ⊎ (d ≡ Deny 6 0)) → one_if (not (is_begin ask && is_permit d) && not (is_end ask)) ≡ one_if (came_by_frame ask)
count_by_ask asks.Begin (Permit v) h kept end begin = refl
count_by_ask asks.Begin (Deny rule detail) h kept end begin = absurd (go (begin refl)) where
  go : (false ≡ true) ⊎ (Deny rule detail ≡ Deny 6 0) → ⊥
  go (inl e) = false≢true e
  go (inr e) = false≢true (sym h ∙ ap is_violation e)
count_by_ask asks.Begin Lost h kept end begin = absurd (false≢true (sym kept))
count_by_ask (asks.End why) d h kept end begin = absurd (false≢true (sym end))
count_by_ask _ d h kept end begin = refl

-- how an opening is decided
pub begin_decided : (setup : Settings) (journal : List Event) (e : Event) → IsNext setup journal e → is_lost e.decision ≡ false → (ask : Ask) → e.ask ≡ ask → is_begin ask ≡ true → (is_permit e.decision ≡ true) ⊎ (e.decision ≡ Deny 6 0)
begin_decided setup journal e next kept asks.Begin is h = go (cases_eq (open_session_of journal e.worker) 0) where
  decided : e.decision ≡ verdict_of setup journal e.worker asks.Begin
  decided = next_decision setup journal e next kept ∙ ap (verdict_of setup journal e.worker) is

  go : ((open_session_of journal e.worker ≡ 0) ⊎ (open_session_of journal e.worker ≡ 0 → ⊥)) → (is_permit e.decision ≡ true) ⊎ (e.decision ≡ Deny 6 0)
  go (inl none) = inl (ap is_permit (decided ∙ verdict_of-begin setup journal e.worker none))
  go (inr some) = inr (decided ∙ denied_begin setup journal e.worker some)
begin_decided setup journal e next kept _ is h = absurd cc

asks_in-push : (journal : List Event) (session : ℕ) (e : Event) → length (told_in (journal ++ e ∷ []) session) ≡ length (told_in journal session) + cond (is_own session is_between e) 1 0
asks_in-push journal session e =
    length-map (asks_in (journal ++ e ∷ []) session) told_of ∙ ap length (filter-push (is_own session is_between) journal e) ∙ go (is_own session is_between e) ∙ ap (λ n. n + cond (is_own session is_between e) 1 0) (sym (length-map (asks_in journal session) told_of)) where
      go : (b : Bool) → length (asks_in journal session ++ cond b (e ∷ []) []) ≡ length (asks_in journal session) + cond b 1 0
      go true = length-append (asks_in journal session) (e ∷ [])
      go false = length-append (asks_in journal session) []

pub count_told : (setup : Settings) (journal : List Event) → IsLegal setup journal → (session : ℕ) → has_event journal session ends_session ≡ false → length (told_in journal session) ≡ ask_count journal session
count_told setup journal legal = by_events setup (λ j. (session : ℕ) → has_event j session ends_session ≡ false → length (told_in j session) ≡ ask_count j session) (λ session going. refl) more journal legal where
  more : (j : List Event) (e : Event) → IsNext setup j e → ((session : ℕ) → has_event j session ends_session ≡ false → length (told_in j session) ≡ ask_count j session) → (session : ℕ) → has_event (j ++ e ∷ []) session ends_session ≡ false → length (told_in (j ++ e ∷ []) session) ≡ ask_count (j ++ e ∷ []) session
  more j e next before session going =
      let both = or_parts (has_event j session ends_session) (is_own session ends_session e) (sym (has_event-push j session ends_session e) ∙ going) in
      let old = before session both.0 in
      asks_in-push j session e ∙ ap (λ n. n + cond (is_own session is_between e) 1 0) old ∙ ap (λ n. ask_count j session + n) (go (eqb e.session session) both.1) ∙ sym (ask_count-push j e session) where
        go : (own : Bool) → (own && ends_session e) ≡ false → one_if (own && is_between e) ≡ one_if (own && came_by_frame e.ask)
        go false h = refl
        go true h =
            let a = or_parts (is_end e.ask || is_finish e.ask && is_permit e.decision || is_violation e.decision) (is_lost e.decision) h in
            let b = or_parts (is_end e.ask || is_finish e.ask && is_permit e.decision) (is_violation e.decision) a.0 in
            let c = or_parts (is_end e.ask) (is_finish e.ask && is_permit e.decision) b.0 in
            count_by_ask e.ask e.decision b.1 a.1 c.0 (begin_decided setup j e next a.1 e.ask refl)
