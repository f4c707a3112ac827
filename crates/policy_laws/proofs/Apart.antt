-- The sessions of a legal journal: no worker goes on in a session that has ended.
use Rattle.std.proofs.Common.{◌≡◌, ◌≢◌, ℕ, ◌+◌, ◌≤◌, ◌<◌, ◌⊎◌, inl, inr, Bool, true, false, ◌&&◌, ◌||◌, cond, eqb, List, [], ◌∷◌, ◌++◌, refl, sym, ap, subst, ◌∙◌, arith}
use Rattle.std.proofs.lemmas.Bool.{cases_eq, ne_eqb, or_parts}
use Rattle.std.proofs.lemmas.Bool.Decides.{nat_tests}
use Rattle.std.proofs.lemmas.List.Folds.{list_any-append}
use Rattle.policy_model.specs.declared.event.Ask.{Ask}
use Rattle.policy_model.specs.declared.event.Ask.TheVariants as asks
use Rattle.policy_model.specs.declared.event.Decision.TheVariants.{Permit, Deny}
use Rattle.policy_model.specs.declared.event.Event.{Event}
use Rattle.policy_model.specs.Asks.{is_begin, is_end, is_lost, is_permit, came_by_frame, opens}
use Rattle.policy_model.specs.Journal.{has_event, has_lost, is_own, open_session_of, openings_of}
use Rattle.policy_model.specs.Legal.{IsLegal, IsNext, session_of}
use Rattle.policy_model.specs.Runs.{AreNumbered}
use Rattle.policy_model.specs.Settings.{Settings}
use Rattle.policy_model.specs.Verdict.{verdict_of}
use Rattle.policy_model.proofs.Journals.{open_session_of-push}
use Rattle.policy_model.proofs.Runs.{has_lost-push, next_decision, next_session, stays_open}
use Rattle.policy_model.proofs.Sessions.{AreNumbered-push, AreNumbered-weaker, open_session_of-le, openings_of-push, session_of-le}
use Rattle.policy_model.proofs.Verdicts.{denied_begin, denied_end, session_of-begin, session_of-other, verdict_of-begin, verdict_of-end}
use Rattle.session_laws.proofs.ByEvents.{by_events}

-- an end
abbrev pub is_ending : Event → Bool
is_ending e = is_end e.ask

pub has_event-push : (journal : List Event) (session : ℕ) (p : Event → Bool) (e : Event) → has_event (journal ++ e ∷ []) session p ≡ (has_event journal session p || is_own session p e)
has_event-push journal session p e = list_any-append (is_own session p) journal (e ∷ []) ∙ go (has_event journal session p) (is_own session p e) where
  go : (a b : Bool) → (a || (b || false)) ≡ (a || b)
  go true b = refl
  go false true = refl
  go false false = refl

-- a number that wasn't given yet has no event
has_event-new : (journal : List Event) (last session : ℕ) (p : Event → Bool) → AreNumbered journal last → last < session → has_event journal session p ≡ false
has_event-new [] last session p all lt = refl
has_event-new (e ∷ es) last session p all lt =
    let other : eqb e.session session ≡ false = grind (arith, nat_tests, all.0) in
    ap (λ b. (b && p e) || has_event es session p) other ∙ has_event-new es last session p all.1 lt

-- the open sessions of two workers are two, and none has ended
record Apart (journal : List Event) : Type 0 where
  pub numbered : AreNumbered journal (openings_of journal)
  pub apart : (w v : ℕ) → open_session_of journal w ≢ 0 → open_session_of journal w ≡ open_session_of journal v → w ≡ v
  pub going : (w : ℕ) → open_session_of journal w ≢ 0 → has_event journal (open_session_of journal w) is_ending ≡ false

numbered-push : (setup : Settings) (journal : List Event) (e : Event) → IsNext setup journal e → AreNumbered journal (openings_of journal) → AreNumbered (journal ++ e ∷ []) (openings_of (journal ++ e ∷ []))
numbered-push setup journal e next numbered =
    let more : openings_of (journal ++ e ∷ []) ≡ openings_of journal + cond (opens e) 1 0 = openings_of-push journal e in
    let given : e.session ≤ openings_of journal + cond (opens e) 1 0 = subst (λ n. n ≤ openings_of journal + cond (opens e) 1 0) (sym (next_session setup journal e next)) (session_of-le journal e.worker e.ask e.decision numbered) in
    AreNumbered-push journal e (openings_of (journal ++ e ∷ [])) (AreNumbered-weaker journal (openings_of journal) (openings_of (journal ++ e ∷ [])) (omega (arith, more)) numbered) (omega (arith, more, given))

-- an event that leaves all open sessions as they are, and ends none of them
same_open : (journal : List Event) (e : Event) → Apart journal → AreNumbered (journal ++ e ∷ []) (openings_of (journal ++ e ∷ [])) → ((w : ℕ) → open_session_of (journal ++ e ∷ []) w ≡ open_session_of journal w) → ((w : ℕ) → open_session_of journal w ≢ 0 → is_own (open_session_of journal w) is_ending e ≡ false) → Apart (journal ++ e ∷ [])
same_open journal e a numbered same ends = record {
  numbered = numbered;
  apart = λ w v some is. a.apart w v (λ h. some (same w ∙ h)) (sym (same w) ∙ is ∙ same v);
  going = λ w some.
      let some' : open_session_of journal w ≢ 0 = λ h. some (same w ∙ h) in
      ap (λ s. has_event (journal ++ e ∷ []) s is_ending) (same w)
      ∙ has_event-push journal (open_session_of journal w) is_ending e
      ∙ ap (λ b. b || is_own (open_session_of journal w) is_ending e) (a.going w some')
      ∙ ends w some';
}

-- the open session of the event's own worker, and of another one
open_own : (journal : List Event) (e : Event) → (is_begin e.ask || is_end e.ask) ≡ true → is_permit e.decision ≡ true → open_session_of (journal ++ e ∷ []) e.worker ≡ cond (is_begin e.ask) e.session 0
open_own journal e turn permit =
    let own : eqb e.worker e.worker ≡ true = grind (arith, nat_tests) in
    open_session_of-push journal e.worker e ∙ rw (own, turn, permit) refl

open_other : (journal : List Event) (e : Event) (w : ℕ) → (e.worker ≡ w → ⊥) → open_session_of (journal ++ e ∷ []) w ≡ open_session_of journal w
open_other journal e w ne =
    let other : eqb e.worker w ≡ false = ne_eqb e.worker w ne in
    open_session_of-push journal w e ∙ rw other refl

open_denied : (journal : List Event) (e : Event) (w : ℕ) → is_permit e.decision ≡ false → open_session_of (journal ++ e ∷ []) w ≡ open_session_of journal w
open_denied journal e w denied = open_session_of-push journal w e ∙ go (eqb e.worker w) (is_begin e.ask || is_end e.ask) where
  go : (a b : Bool) → cond (a && b && is_permit e.decision) (cond (is_begin e.ask) e.session 0) (open_session_of journal w) ≡ open_session_of journal w
  go false b = refl
  go true false = refl
  go true true = ap (λ p. cond p (cond (is_begin e.ask) e.session 0) (open_session_of journal w)) denied

no_own : (s : ℕ) (e : Event) → is_end e.ask ≡ false → is_own s is_ending e ≡ false
no_own s e h = go (eqb e.session s) where
  go : (b : Bool) → (b && is_end e.ask) ≡ false
  go true = h
  go false = refl

-- a permitted opening
begin-push : (journal : List Event) (e : Event) → Apart journal → AreNumbered (journal ++ e ∷ []) (openings_of (journal ++ e ∷ [])) → is_begin e.ask ≡ true → is_end e.ask ≡ false → is_permit e.decision ≡ true → e.session ≡ openings_of journal + 1 → Apart (journal ++ e ∷ [])
begin-push journal e a numbered begin end permit session = record { numbered = numbered; apart = apart; going = going } where
  own : open_session_of (journal ++ e ∷ []) e.worker ≡ openings_of journal + 1
  own = open_own journal e (ap (λ b. b || is_end e.ask) begin) permit ∙ ap (λ b. cond b e.session 0) begin ∙ session

  le : (w : ℕ) → open_session_of journal w ≤ openings_of journal
  le w = open_session_of-le journal w (openings_of journal) a.numbered

  apart : (w v : ℕ) → open_session_of (journal ++ e ∷ []) w ≢ 0 → open_session_of (journal ++ e ∷ []) w ≡ open_session_of (journal ++ e ∷ []) v → w ≡ v
  apart w v some is = go (cases_eq e.worker w) (cases_eq e.worker v) where
    go : ((e.worker ≡ w) ⊎ (e.worker ≡ w → ⊥)) → ((e.worker ≡ v) ⊎ (e.worker ≡ v → ⊥)) → w ≡ v
    go (inl p) (inl q) = sym p ∙ q
    go (inl p) (inr q) =
        let here : open_session_of (journal ++ e ∷ []) w ≡ openings_of journal + 1 = ap (open_session_of (journal ++ e ∷ [])) (sym p) ∙ own in
        let there = open_other journal e v q in
        absurd (omega (arith, here, there, is, le v))
    go (inr p) (inl q) =
        let here : open_session_of (journal ++ e ∷ []) v ≡ openings_of journal + 1 = ap (open_session_of (journal ++ e ∷ [])) (sym q) ∙ own in
        let there = open_other journal e w p in
        absurd (omega (arith, here, there, is, le w))
    go (inr p) (inr q) =
        let here = open_other journal e w p in
        let there = open_other journal e v q in
        a.apart w v (λ h. some (here ∙ h)) (sym here ∙ is ∙ there)

  going : (w : ℕ) → open_session_of (journal ++ e ∷ []) w ≢ 0 → has_event (journal ++ e ∷ []) (open_session_of (journal ++ e ∷ []) w) is_ending ≡ false
  going w some = go (cases_eq e.worker w) where
    push : (s : ℕ) → has_event journal s is_ending ≡ false → has_event (journal ++ e ∷ []) s is_ending ≡ false
    push s none = has_event-push journal s is_ending e ∙ ap (λ b. b || is_own s is_ending e) none ∙ no_own s e end

    go : ((e.worker ≡ w) ⊎ (e.worker ≡ w → ⊥)) → has_event (journal ++ e ∷ []) (open_session_of (journal ++ e ∷ []) w) is_ending ≡ false
    go (inl p) =
        ap (λ s. has_event (journal ++ e ∷ []) s is_ending) (ap (open_session_of (journal ++ e ∷ [])) (sym p) ∙ own)
        ∙ push (openings_of journal + 1) (has_event-new journal (openings_of journal) (openings_of journal + 1) is_ending a.numbered (omega arith))
    go (inr p) =
        let here = open_other journal e w p in
        ap (λ s. has_event (journal ++ e ∷ []) s is_ending) here ∙ push (open_session_of journal w) (a.going w (λ h. some (here ∙ h)))

-- a permitted end
end-push : (journal : List Event) (e : Event) → Apart journal → AreNumbered (journal ++ e ∷ []) (openings_of (journal ++ e ∷ [])) → is_begin e.ask ≡ false → is_end e.ask ≡ true → is_permit e.decision ≡ true → e.session ≡ open_session_of journal e.worker → Apart (journal ++ e ∷ [])
end-push journal e a numbered begin end permit session = record { numbered = numbered; apart = apart; going = going } where
  own : open_session_of (journal ++ e ∷ []) e.worker ≡ 0
  own = open_own journal e (ap (λ b. b || is_end e.ask) begin ∙ end) permit ∙ ap (λ b. cond b e.session 0) begin

  apart : (w v : ℕ) → open_session_of (journal ++ e ∷ []) w ≢ 0 → open_session_of (journal ++ e ∷ []) w ≡ open_session_of (journal ++ e ∷ []) v → w ≡ v
  apart w v some is = go (cases_eq e.worker w) (cases_eq e.worker v) where
    go : ((e.worker ≡ w) ⊎ (e.worker ≡ w → ⊥)) → ((e.worker ≡ v) ⊎ (e.worker ≡ v → ⊥)) → w ≡ v
    go (inl p) q = absurd (some (ap (open_session_of (journal ++ e ∷ [])) (sym p) ∙ own))
    go (inr p) (inl q) = absurd (some (is ∙ ap (open_session_of (journal ++ e ∷ [])) (sym q) ∙ own))
    go (inr p) (inr q) =
        let here = open_other journal e w p in
        let there = open_other journal e v q in
        a.apart w v (λ h. some (here ∙ h)) (sym here ∙ is ∙ there)

  going : (w : ℕ) → open_session_of (journal ++ e ∷ []) w ≢ 0 → has_event (journal ++ e ∷ []) (open_session_of (journal ++ e ∷ []) w) is_ending ≡ false
  going w some = go (cases_eq e.worker w) where
    go : ((e.worker ≡ w) ⊎ (e.worker ≡ w → ⊥)) → has_event (journal ++ e ∷ []) (open_session_of (journal ++ e ∷ []) w) is_ending ≡ false
    go (inl p) = absurd (some (ap (open_session_of (journal ++ e ∷ [])) (sym p) ∙ own))
    go (inr p) =
        let here = open_other journal e w p in
        let some' : open_session_of journal w ≢ 0 = λ h. some (here ∙ h) in
        let other : eqb e.session (open_session_of journal w) ≡ false = ne_eqb e.session (open_session_of journal w) (λ h. p (sym (a.apart w e.worker some' (sym h ∙ session)))) in
        ap (λ s. has_event (journal ++ e ∷ []) s is_ending) here
        ∙ has_event-push journal (open_session_of journal w) is_ending e
        ∙ ap (λ b. b || is_own (open_session_of journal w) is_ending e) (a.going w some')
        ∙ ap (λ b. b && is_end e.ask) other

is_zero : (n : ℕ) → (n ≡ 0) ⊎ (n ≡ 0 → ⊥)
is_zero n = cases_eq n 0

apart_all : (setup : Settings) (journal : List Event) → IsLegal setup journal → has_lost journal ≡ false → Apart journal
apart_all setup journal legal = by_events setup (λ j. has_lost j ≡ false → Apart j) none more journal legal where
  none : has_lost [] ≡ false → Apart []
  none kept = record { numbered = tt; apart = λ w v some is. absurd (some refl); going = λ w some. absurd (some refl) }

  more : (j : List Event) (e : Event) → IsNext setup j e → (has_lost j ≡ false → Apart j) → has_lost (j ++ e ∷ []) ≡ false → Apart (j ++ e ∷ [])
  more j e next before kept = go e.ask refl where
    both : (has_lost j ≡ false) × (is_lost e.decision ≡ false)
    both = or_parts (has_lost j) (is_lost e.decision) (sym (has_lost-push j e) ∙ kept)

    old : Apart j
    old = before both.0

    numbered : AreNumbered (j ++ e ∷ []) (openings_of (j ++ e ∷ []))
    numbered = numbered-push setup j e next old.numbered

    decided : e.decision ≡ verdict_of setup j e.worker e.ask
    decided = next_decision setup j e next both.1

    request : came_by_frame e.ask ≡ true → is_end e.ask ≡ false → Apart (j ++ e ∷ [])
    request is end = same_open j e old numbered (λ w. stays_open j e w is) (λ w some. no_own (open_session_of j w) e end)

    go : (ask : Ask) → e.ask ≡ ask → Apart (j ++ e ∷ [])
    go asks.Begin is = go' (is_zero (open_session_of j e.worker)) where
      go' : ((open_session_of j e.worker ≡ 0) ⊎ (open_session_of j e.worker ≡ 0 → ⊥)) → Apart (j ++ e ∷ [])
      go' (inl empty) =
          let permit : e.decision ≡ Permit (openings_of j + 1) = decided ∙ ap (verdict_of setup j e.worker) is ∙ verdict_of-begin setup j e.worker empty in
          let session : e.session ≡ openings_of j + 1 = next_session setup j e next ∙ ap (λ a. session_of j e.worker a e.decision) is ∙ ap (session_of j e.worker asks.Begin) permit ∙ session_of-begin j e.worker (openings_of j + 1) in
          begin-push j e old numbered (ap is_begin is) (ap is_end is) (ap is_permit permit) session
      go' (inr some) =
          let deny : e.decision ≡ Deny 6 0 = decided ∙ ap (verdict_of setup j e.worker) is ∙ denied_begin setup j e.worker some in
          same_open j e old numbered (λ w. open_denied j e w (ap is_permit deny)) (λ w some. no_own (open_session_of j w) e (ap is_end is))
    go (asks.End why) is = go' (is_zero (open_session_of j e.worker)) where
      session : e.session ≡ open_session_of j e.worker
      session = next_session setup j e next ∙ session_of-other j e.worker e.ask e.decision (ap is_begin is)

      go' : ((open_session_of j e.worker ≡ 0) ⊎ (open_session_of j e.worker ≡ 0 → ⊥)) → Apart (j ++ e ∷ [])
      go' (inl empty) =
          let deny : e.decision ≡ Deny 6 0 = decided ∙ ap (verdict_of setup j e.worker) is ∙ denied_end setup j e.worker why empty in
          same_open j e old numbered (λ w. open_denied j e w (ap is_permit deny)) (λ w some. ap (λ b. b && is_end e.ask) (ne_eqb e.session (open_session_of j w) (λ h. some (sym h ∙ session ∙ empty))))
      go' (inr some) =
          let permit : e.decision ≡ Permit 0 = decided ∙ ap (verdict_of setup j e.worker) is ∙ verdict_of-end setup j e.worker why some in
          end-push j e old numbered (ap is_begin is) (ap is_end is) (ap is_permit permit) session
    go _ is = request (ap came_by_frame is) (ap is_end is)

-- the open session of a worker has not ended
pub not_ended : (setup : Settings) (journal : List Event) → IsLegal setup journal → has_lost journal ≡ false → (worker : ℕ) → open_session_of journal worker ≢ 0 → has_event journal (open_session_of journal worker) is_ending ≡ false
not_ended setup journal legal kept worker some = (apart_all setup journal legal kept).going worker some
