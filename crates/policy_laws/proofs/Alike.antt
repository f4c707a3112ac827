-- Strangers that ask the same and were told the same are shown the same.
use Rattle.std.proofs.Common.{◌≡◌, ◌≢◌, ℕ, Bool, true, false, not, ◌&&◌, ◌||◌, ◌⊎◌, inl, inr, cond, eqb, List, [], ◌∷◌, ◌++◌, take, refl, sym, ap, subst, ◌∙◌, arith}
use Rattle.std.proofs.lemmas.Bool.{and_parts, false≢true}
use Rattle.std.proofs.lemmas.Bool.Decides.{nat_tests}
use Rattle.std.proofs.lemmas.Option.{slice_get_within}
use Rattle.policy_model.specs.declared.event.Ask.{Ask}
use Rattle.policy_model.specs.declared.event.Ask.TheVariants as asks
use Rattle.policy_model.specs.declared.event.Decision.TheVariants.{Deny}
use Rattle.policy_model.specs.declared.event.Event.{Event}
use Rattle.policy_model.specs.Asks.{accepts, is_begin, is_challenge, is_end, is_lost, is_permit, came_by_frame, opens, shown_of}
use Rattle.policy_model.specs.Journal.{has_event, is_own, is_turn_of, open_session_of}
use Rattle.policy_model.specs.Cases.{opened_after}
use Rattle.policy_model.specs.Legal.{IsLegal, IsNext}
use Rattle.policy_model.specs.Settings.{Settings}
use Rattle.policy_laws.specs.Strangers.{IsStrangersAsk, ShowsNoAccounts, Told, is_between, told_in, without_readings}
use Rattle.policy_laws.specs.Verdicts.{stranger_verdict}
use Rattle.policy_laws.proofs.Apart.{has_event-push}
use Rattle.policy_model.proofs.Journals.{open_session_of-push}
use Rattle.policy_model.proofs.Runs.{next_session, no_begin}
use Rattle.policy_laws.proofs.Sequences.{IsLegal-take}
use Rattle.policy_laws.proofs.Strangers.{next_at, none_accepted, opened_some, stranger_event}
use Rattle.policy_laws.proofs.Told.{begin_decided}
use Rattle.policy_model.proofs.Verdicts.{session_of-other}
use Rattle.session_laws.proofs.ByEvents.{by_events}

or_true : (a : Bool) → (a || true) ≡ true
or_true true = refl
or_true false = refl

-- an open session was opened
pub open_opened : (setup : Settings) (journal : List Event) → IsLegal setup journal → (worker : ℕ) → open_session_of journal worker ≢ 0 → has_event journal (open_session_of journal worker) opens ≡ true
open_opened setup journal legal = by_events setup (λ j. (worker : ℕ) → open_session_of j worker ≢ 0 → has_event j (open_session_of j worker) opens ≡ true) (λ worker some. absurd (some refl)) more journal legal where
  more : (j : List Event) (e : Event) → IsNext setup j e → ((worker : ℕ) → open_session_of j worker ≢ 0 → has_event j (open_session_of j worker) opens ≡ true) → (worker : ℕ) → open_session_of (j ++ e ∷ []) worker ≢ 0 → has_event (j ++ e ∷ []) (open_session_of (j ++ e ∷ []) worker) opens ≡ true
  more j e next before worker some = go (is_turn_of worker e) refl (is_begin e.ask) refl where
    at : open_session_of (j ++ e ∷ []) worker ≡ opened_after worker (open_session_of j worker) e
    at = open_session_of-push j worker e

    go : (turn : Bool) → is_turn_of worker e ≡ turn → (begin : Bool) → is_begin e.ask ≡ begin → has_event (j ++ e ∷ []) (open_session_of (j ++ e ∷ []) worker) opens ≡ true
    go false t b h =
        let same : open_session_of (j ++ e ∷ []) worker ≡ open_session_of j worker = at ∙ ap (λ x. cond x (cond (is_begin e.ask) e.session 0) (open_session_of j worker)) t in
        ap (λ s. has_event (j ++ e ∷ []) s opens) same
        ∙ has_event-push j (open_session_of j worker) opens e
        ∙ ap (λ x. x || is_own (open_session_of j worker) opens e) (before worker (λ z. some (same ∙ z)))
    go true t false h =
        let none : open_session_of (j ++ e ∷ []) worker ≡ 0 = at ∙ ap (λ x. cond x (cond (is_begin e.ask) e.session 0) (open_session_of j worker)) t ∙ ap (λ x. cond x e.session 0) h in
        absurd (some none)
    go true t true h =
        let here : open_session_of (j ++ e ∷ []) worker ≡ e.session = at ∙ ap (λ x. cond x (cond (is_begin e.ask) e.session 0) (open_session_of j worker)) t ∙ ap (λ x. cond x e.session 0) h in
        let permit : is_permit e.decision ≡ true = (and_parts (eqb e.worker worker && (is_begin e.ask || is_end e.ask)) (is_permit e.decision) t).1 in
        let own : eqb e.session e.session ≡ true = grind (arith, nat_tests) in
        ap (λ s. has_event (j ++ e ∷ []) s opens) here
        ∙ has_event-push j e.session opens e
        ∙ rw (own, h, permit) (or_true (has_event j e.session opens))

-- what is shown of an event of a stranger's session, where this was told before
record IsToldAfter (requests : ℕ) (told : List Told) (e : Event) : Type 0 where
  pub request : came_by_frame e.ask ≡ true → is_challenge e.ask ≡ false → shown_of e.decision ≡ shown_of (stranger_verdict requests told e.ask)
  pub begin : is_begin e.ask ≡ true → e.decision ≡ Deny 6 0
  pub end : is_end e.ask ≡ false

is_false : (b : Bool) → not b ≡ true → b ≡ false
is_false true h = absurd cc
is_false false h = refl

requests_are : (ask : Ask) → came_by_frame ask ≡ true → (is_begin ask ≡ false) × (is_end ask ≡ false)
requests_are ask h =
    let both = and_parts (not (is_begin ask)) (not (is_end ask)) h in
    (is_false (is_begin ask) both.0, is_false (is_end ask) both.1)

-- a session's next event
told_next : (setup : Settings) (journal : List Event) (e : Event) → IsLegal setup journal → IsNext setup journal e → e.session ≢ 0 → has_event journal e.session accepts ≡ false → accepts e ≡ false → is_lost e.decision ≡ false → is_between e ≡ true → IsToldAfter setup.requests (told_in journal e.session) e
told_next setup journal e legal next some before refused kept between = record { request = request; begin = begin; end = end } where
  parts : (not (opens e) ≡ true) × (not (is_end e.ask) ≡ true)
  parts = and_parts (not (opens e)) (not (is_end e.ask)) between

  end : is_end e.ask ≡ false
  end = is_false (is_end e.ask) parts.1

  begin : is_begin e.ask ≡ true → e.decision ≡ Deny 6 0
  begin h = go (begin_decided setup journal e next kept e.ask refl h) where
    go : (is_permit e.decision ≡ true) ⊎ (e.decision ≡ Deny 6 0) → e.decision ≡ Deny 6 0
    go (inl permit) = absurd (false≢true (sym (is_false (opens e) parts.0) ∙ ap (λ b. b && is_permit e.decision) h ∙ permit))
    go (inr deny) = deny

  request : came_by_frame e.ask ≡ true → is_challenge e.ask ≡ false → shown_of e.decision ≡ shown_of (stranger_verdict setup.requests (told_in journal e.session) e.ask)
  request is other =
      let own : e.session ≡ open_session_of journal e.worker = next_session setup journal e next ∙ session_of-other journal e.worker e.ask e.decision (no_begin e.ask is) in
      let opened = ap (λ s. has_event journal s opens) own ∙ open_opened setup journal legal e.worker (λ h. some (own ∙ h)) in
      stranger_event setup journal e legal next (record { opened = opened; before = before; request = is; other = other; refused = refused; kept = kept })

-- a stranger's verdict looks at no reading
unread : (requests : ℕ) (told : List Told) (ask : Ask) → stranger_verdict requests told ask ≡ stranger_verdict requests told (without_readings ask)
unfolding stranger_verdict
unread requests told (asks.Reply words hex) = refl
unread requests told _ = refl

same_begin : (ask : Ask) → is_begin ask ≡ is_begin (without_readings ask)
same_begin (asks.Reply words hex) = refl
same_begin _ = refl

-- what is told of a stranger's ask, by what its session was told before
told_ask : (setup : Settings) (journal : List Event) → IsLegal setup journal → (k : ℕ) (e : Event) → IsStrangersAsk journal k e → IsToldAfter setup.requests (told_in (take k journal) e.session) e
told_ask setup journal legal k e s =
    let lt = slice_get_within journal k e s.stands in
    let front = IsLegal-take setup journal k (omega (arith, lt)) legal in
    let some : e.session ≢ 0 = λ h. false≢true (sym (opened_some setup (take k journal) front) ∙ ap (λ n. has_event (take k journal) n opens) (sym h) ∙ s.opened) in
    let refused = none_accepted journal k e s in
    told_next setup (take k journal) e front (next_at setup journal legal k e s.stands) some refused.0 refused.1 s.kept s.between

-- strangers see no accounts
pub shows_no_accounts : (setup : Settings) (journal : List Event) → IsLegal setup journal → ShowsNoAccounts setup journal
shows_no_accounts setup journal legal = record { alike = alike } where
  alike : (other_setup : Settings) (other : List Event) → other_setup.requests ≡ setup.requests → IsLegal other_setup other → (k j : ℕ) (e f : Event) → IsStrangersAsk journal k e → IsStrangersAsk other j f → told_in (take k journal) e.session ≡ told_in (take j other) f.session → without_readings e.ask ≡ without_readings f.ask → shown_of e.decision ≡ shown_of f.decision
  alike other_setup other same other_legal k j e f s t told asked = go (is_begin e.ask) refl where
    before : List Told
    before = told_in (take k journal) e.session

    one : IsToldAfter setup.requests before e
    one = told_ask setup journal legal k e s

    two : IsToldAfter setup.requests before f
    two = subst (λ n. IsToldAfter n before f) same (subst (λ ts. IsToldAfter other_setup.requests ts f) (sym told) (told_ask other_setup other other_legal j f t))

    begins : is_begin f.ask ≡ is_begin e.ask
    begins = same_begin f.ask ∙ ap is_begin (sym asked) ∙ sym (same_begin e.ask)

    go : (c : Bool) → is_begin e.ask ≡ c → shown_of e.decision ≡ shown_of f.decision
    go true is = ap shown_of (one.begin is ∙ sym (two.begin (begins ∙ is)))
    go false is =
        let mine : came_by_frame e.ask ≡ true = rw (is, one.end) refl in
        let its : came_by_frame f.ask ≡ true = rw (begins ∙ is, two.end) refl in
        one.request mine s.other
        ∙ ap shown_of (unread setup.requests before e.ask ∙ ap (stranger_verdict setup.requests before) asked ∙ sym (unread setup.requests before f.ask))
        ∙ sym (two.request its t.other)
