-- Whom a session in Challenged is challenged for, and whom a session is logged in as, in every legal journal.
use Rattle.std.proofs.Common.{◌≡◌, ◌≢◌, ℕ, Bool, true, false, ◌||◌, cond, List, [], ◌∷◌, ◌++◌, Option, Some, None, refl, sym, ap, subst, ◌∙◌, arith, inl, inr, ◌⊎◌}
use Rattle.std.specs.Prelude.{is_some, nat_le, nat_lt}
use Rattle.std.proofs.lemmas.Bool.{and_parts, cases_eq, false_from_ne_true, false≢true}
use Rattle.std.proofs.lemmas.Bool.Decides.{nat_tests}
use Rattle.request_catalogue.specs.declared.texts.Name.{Name}
use Rattle.policy_model.specs.declared.event.Ask.{Ask}
use Rattle.policy_model.specs.declared.event.Ask.TheVariants as asks
use Rattle.policy_model.specs.declared.event.Event.{Event}
use Rattle.policy_model.specs.declared.phase.Phase.{Phase}
use Rattle.policy_model.specs.declared.phase.Phase.TheVariants.{Pre, Challenged, Verified, User, Over}
use Rattle.policy_model.specs.declared.reading.TheConstants.{DECOYS_FROM}
use Rattle.policy_model.specs.Asks.{accepts, challenge_name, ends_session, exports, is_login_step, is_permit, opens, reserves, takes, value_of}
use Rattle.policy_model.specs.Cases.{is_challenge_for, is_reply}
use Rattle.policy_model.specs.Journal.{has_event, openings_of}
use Rattle.policy_model.specs.Legal.{IsLegal, IsNext}
use Rattle.policy_model.specs.Logins.{challenged_user, verified_user, was_decoyed}
use Rattle.policy_model.specs.Phases.{phase_of}
use Rattle.policy_model.specs.Runs.{AreNumbered}
use Rattle.policy_model.specs.Settings.{Settings}
use Rattle.policy_model.proofs.Runs.{next_session}
use Rattle.session_laws.specs.LoggedIn.{HasAccount, IsChallenged, IsLoggedIn}
use Rattle.session_laws.specs.Phased.{phase_after}
use Rattle.session_laws.proofs.ByEvents.{by_events}
use Rattle.session_laws.proofs.Opened.{opened_fresh}
use Rattle.session_laws.proofs.Openings.{numbered-push, session_new}
use Rattle.session_laws.proofs.Permits.{accepted_reply, same_name-same, taken_challenge}
use Rattle.session_laws.proofs.Permitted.{accepted_no_decoy, exported_in_verified, taken_in_pre, taking}
use Rattle.session_laws.proofs.PhaseLemmas.{phase_of-other, phase_of-over, phase_of-own, phase_tests}
use Rattle.session_laws.proofs.SessionEvents.{has_event-other, has_event-own}
use Rattle.session_laws.proofs.UserLemmas.{challenged_user-other, challenged_user-own, verified_user-other, verified_user-own, was_decoyed-other, was_decoyed-own}

-- 1. Who stays in Challenged was there, or has just taken

pub was_challenged : (p : Phase) (e : Event) → takes e ≡ false → phase_after p e ≡ Challenged → p ≡ Challenged
was_challenged Challenged e t h = refl
was_challenged Over e t h = absurd cc
was_challenged User e t h = absurd (go (ends_session e) h) where
  go : (b : Bool) → cond b Over User ≡ Challenged → ⊥
  go true h = cc
  go false h = cc
was_challenged Verified e t h = absurd (go (ends_session e) (exports e) h) where
  go : (b c : Bool) → cond b Over (cond c User Verified) ≡ Challenged → ⊥
  go true c h = cc
  go false true h = cc
  go false false h = cc
was_challenged Pre e t h = absurd (go (ends_session e) (exports e) (accepts e) (is_login_step e) (takes e) t h) where
  go : (b c d l k : Bool) → k ≡ false → cond b Over (cond c User (cond d Verified (cond l (cond k Challenged Pre) Pre))) ≡ Challenged → ⊥
  go true c d l k t h = cc
  go false true d l k t h = cc
  go false false true l k t h = cc
  go false false false true true t h = cc
  go false false false true false t h = cc
  go false false false false k t h = cc

-- 2. What holds of one session

record Login (setup : Settings) (journal : List Event) (session : ℕ) : Type 0 where
  pub challenged : phase_of journal session ≡ Challenged → IsChallenged setup journal session
  pub logged_in : has_event journal session accepts ≡ true → IsLoggedIn setup journal session
  pub accepted : has_event journal session exports ≡ true → has_event journal session accepts ≡ true

not_both : (value : ℕ) → nat_le DECOYS_FROM value ≡ false → nat_lt value DECOYS_FROM ≡ true
not_both value h = grind (arith, nat_tests, h)

some_name : (o : Option Name) → is_some o ≡ true → (user : Name) × (o ≡ Some user)
some_name None h = absurd cc
some_name (Some user) h = (user, refl)

-- a session that has just taken
challenged_taken : (setup : Settings) (journal : List Event) (e : Event) → IsNext setup journal e → takes e ≡ true → IsChallenged setup (journal ++ e ∷ []) e.session
challenged_taken setup journal e next taken =
    let both = and_parts (is_some (challenge_name e.ask)) (is_permit e.decision) taken in
    let name = some_name (challenge_name e.ask) both.0 in
    record {
      user = name.0;
      challenged = challenged_user-own journal e e.session refl ∙ ap (λ b. cond b (challenge_name e.ask) (challenged_user journal e.session)) taken ∙ name.1;
      known = λ no_decoy. known name.0 name.1 both.1 (sym (was_decoyed-own journal e e.session refl ∙ ap (λ b. cond b (nat_le DECOYS_FROM (value_of e.decision)) (was_decoyed journal e.session)) taken) ∙ no_decoy);
    } where
      is_for : (user : Name) (ask : Ask) → challenge_name ask ≡ Some user → is_challenge_for user ask ≡ true
      is_for user (asks.Challenge name now) h = let same : name ≡ user = cc in subst (λ n. is_challenge_for user (asks.Challenge n now) ≡ true) (sym same) (same_name-same user)
      is_for user _ h = absurd cc

      known : (user : Name) → challenge_name e.ask ≡ Some user → is_permit e.decision ≡ true → nat_le DECOYS_FROM (value_of e.decision) ≡ false → HasAccount setup user
      known user named permit low =
          let reserved : reserves user e ≡ true = rw (is_for user e.ask named, permit) (not_both (value_of e.decision) low) in
          let t = taken_challenge setup journal e user next reserved in
          record { account = t.account; found = t.found }

-- one that was in Challenged and didn't take again
challenged_kept : (setup : Settings) (journal : List Event) (e : Event) → takes e ≡ false → IsChallenged setup journal e.session → IsChallenged setup (journal ++ e ∷ []) e.session
challenged_kept setup journal e kept c = record {
  user = c.user;
  challenged = challenged_user-own journal e e.session refl ∙ ap (λ b. cond b (challenge_name e.ask) (challenged_user journal e.session)) kept ∙ c.challenged;
  known = λ no_decoy. c.known (sym (was_decoyed-own journal e e.session refl ∙ ap (λ b. cond b (nat_le DECOYS_FROM (value_of e.decision)) (was_decoyed journal e.session)) kept) ∙ no_decoy);
}

-- one whose reply has just been accepted
accepted_now : (setup : Settings) (journal : List Event) (e : Event) → IsNext setup journal e → accepts e ≡ true → takes e ≡ false → was_decoyed journal e.session ≡ false → IsLoggedIn setup (journal ++ e ∷ []) e.session
accepted_now setup journal e next accepted kept no_decoy =
    let a = accepted_reply setup journal e next accepted in
    record {
      user = a.0;
      challenged = challenged_user-own journal e e.session refl ∙ ap (λ b. cond b (challenge_name e.ask) (challenged_user journal e.session)) kept ∙ a.1;
      verified = verified_user-own journal e e.session refl ∙ ap (λ b. cond b (challenged_user journal e.session) (verified_user journal e.session)) accepted ∙ a.1;
      no_decoy = was_decoyed-own journal e e.session refl ∙ ap (λ b. cond b (nat_le DECOYS_FROM (value_of e.decision)) (was_decoyed journal e.session)) kept ∙ no_decoy;
      known = record { account = a.2.account; found = a.2.found };
    }

-- one that was logged in already
logged_in_still : (setup : Settings) (journal : List Event) (e : Event) → takes e ≡ false → accepts e ≡ false → IsLoggedIn setup journal e.session → IsLoggedIn setup (journal ++ e ∷ []) e.session
logged_in_still setup journal e kept other l = record {
  user = l.user;
  challenged = challenged_user-own journal e e.session refl ∙ ap (λ b. cond b (challenge_name e.ask) (challenged_user journal e.session)) kept ∙ l.challenged;
  verified = verified_user-own journal e e.session refl ∙ ap (λ b. cond b (challenged_user journal e.session) (verified_user journal e.session)) other ∙ l.verified;
  no_decoy = was_decoyed-own journal e e.session refl ∙ ap (λ b. cond b (nat_le DECOYS_FROM (value_of e.decision)) (was_decoyed journal e.session)) kept ∙ l.no_decoy;
  known = l.known;
}

-- 3. After one more event

-- what is accepted takes nobody, and nobody takes who was accepted
accepts_takes_none : (e : Event) → accepts e ≡ true → takes e ≡ false
accepts_takes_none e accepted = false_from_ne_true (takes e) (λ h. false≢true (sym (taking e h).no_reply ∙ (and_parts (is_reply e.ask) (is_permit e.decision) accepted).0))

accepted_takes_none : (setup : Settings) (journal : List Event) (e : Event) → IsNext setup journal e → has_event journal e.session accepts ≡ true → takes e ≡ false
accepted_takes_none setup journal e next accepted = false_from_ne_true (takes e) (λ h. false≢true (sym (phase_tests journal e.session Pre (taken_in_pre setup journal e next h)).1.1.0 ∙ accepted))

or_true : (a b : Bool) → (a || b) ≡ true → (b ≡ false) → a ≡ true
or_true true b h n = refl
or_true false b h n = sym n ∙ h

login_own : (setup : Settings) (journal : List Event) (e : Event) → IsNext setup journal e → opens e ≡ false → Login setup journal e.session → Login setup (journal ++ e ∷ []) e.session
login_own setup journal e next closed l = record {
  challenged = λ h. challenged (takes e) refl (sym (phase_of-own journal e e.session refl closed) ∙ h);
  logged_in = λ h. logged_in (accepts e) refl (sym (has_event-own journal e e.session accepts refl) ∙ h);
  accepted = λ h. accepted (exports e) refl (sym (has_event-own journal e e.session exports refl) ∙ h);
} where
  challenged : (b : Bool) → takes e ≡ b → phase_after (phase_of journal e.session) e ≡ Challenged → IsChallenged setup (journal ++ e ∷ []) e.session
  challenged true is h = challenged_taken setup journal e next is
  challenged false is h = challenged_kept setup journal e is (l.challenged (was_challenged (phase_of journal e.session) e is h))

  logged_in : (b : Bool) → accepts e ≡ b → (has_event journal e.session accepts || accepts e) ≡ true → IsLoggedIn setup (journal ++ e ∷ []) e.session
  logged_in true is h = accepted_now setup journal e next is (accepts_takes_none e is) (accepted_no_decoy setup journal e next is)
  logged_in false is h =
      let before = or_true (has_event journal e.session accepts) (accepts e) h is in
      logged_in_still setup journal e (accepted_takes_none setup journal e next before) is (l.logged_in before)

  still : has_event journal e.session accepts ≡ true → has_event (journal ++ e ∷ []) e.session accepts ≡ true
  still h = has_event-own journal e e.session accepts refl ∙ ap (λ b. b || accepts e) h

  accepted : (b : Bool) → exports e ≡ b → (has_event journal e.session exports || exports e) ≡ true → has_event (journal ++ e ∷ []) e.session accepts ≡ true
  accepted true is h = still (phase_tests journal e.session Verified (exported_in_verified setup journal e next is)).1.1
  accepted false is h = still (l.accepted (or_true (has_event journal e.session exports) (exports e) h is))

login_opened : (setup : Settings) (journal : List Event) (e : Event) → phase_of (journal ++ e ∷ []) e.session ≡ Pre → Login setup (journal ++ e ∷ []) e.session
login_opened setup journal e pre = let t = phase_tests (journal ++ e ∷ []) e.session Pre pre in record {
  challenged = λ h. let wrong : Pre ≡ Challenged = sym pre ∙ h in absurd cc;
  logged_in = λ h. absurd (false≢true (sym t.1.1.0 ∙ h));
  accepted = λ h. absurd (false≢true (sym t.1.0 ∙ h));
}

login_other : (setup : Settings) (journal : List Event) (e : Event) (session : ℕ) → e.session ≢ session → Login setup journal session → Login setup (journal ++ e ∷ []) session
login_other setup journal e session other l = record {
  challenged = λ h. let c = l.challenged (sym (phase_of-other journal e session other) ∙ h) in record {
    user = c.user;
    challenged = challenged_user-other journal e session other ∙ c.challenged;
    known = λ no_decoy. c.known (sym (was_decoyed-other journal e session other) ∙ no_decoy);
  };
  logged_in = λ h. let i = l.logged_in (sym (has_event-other journal e session accepts other) ∙ h) in record {
    user = i.user;
    challenged = challenged_user-other journal e session other ∙ i.challenged;
    verified = verified_user-other journal e session other ∙ i.verified;
    no_decoy = was_decoyed-other journal e session other ∙ i.no_decoy;
    known = i.known;
  };
  accepted = λ h. has_event-other journal e session accepts other ∙ l.accepted (sym (has_event-other journal e session exports other) ∙ h);
}

-- 4. In every legal journal

record Logins (setup : Settings) (journal : List Event) : Type 0 where
  pub numbered : AreNumbered journal (openings_of journal)
  pub logins : (session : ℕ) → Login setup journal session

logins_push : (setup : Settings) (journal : List Event) (e : Event) → IsNext setup journal e → Logins setup journal → Logins setup (journal ++ e ∷ [])
logins_push setup journal e next l = record { numbered = numbered-push journal e (next_session setup journal e next) l.numbered; logins = λ session. go session (cases_eq e.session session) } where
  own : (b : Bool) → opens e ≡ b → Login setup (journal ++ e ∷ []) e.session
  own true opened = login_opened setup journal e (opened_fresh journal e l.numbered (session_new journal e (next_session setup journal e next) opened) opened).phase
  own false closed = login_own setup journal e next closed (l.logins e.session)

  go : (session : ℕ) → (e.session ≡ session) ⊎ (e.session ≢ session) → Login setup (journal ++ e ∷ []) session
  go session (inl same) = subst (Login setup (journal ++ e ∷ [])) same (own (opens e) refl)
  go session (inr other) = login_other setup journal e session other (l.logins session)

legal_logins : (setup : Settings) (journal : List Event) → IsLegal setup journal → Logins setup journal
legal_logins setup journal legal = by_events setup (Logins setup) none (λ j e next l. logins_push setup j e next l) journal legal where
  none : Logins setup []
  none = record { numbered = tt; logins = λ session. record { challenged = λ h. let over = phase_of-over [] session refl in let wrong : Over ≡ Challenged = sym over ∙ h in absurd cc; logged_in = λ h. absurd cc; accepted = λ h. absurd cc } }

pub legal_challenged : (setup : Settings) (journal : List Event) → IsLegal setup journal → (session : ℕ) → phase_of journal session ≡ Challenged → IsChallenged setup journal session
legal_challenged setup journal legal session h = let l = (legal_logins setup journal legal).logins session in l.challenged h

pub legal_verified : (setup : Settings) (journal : List Event) → IsLegal setup journal → (session : ℕ) → phase_of journal session ≡ Verified → IsLoggedIn setup journal session
legal_verified setup journal legal session h = let l = (legal_logins setup journal legal).logins session in l.logged_in (phase_tests journal session Verified h).1.1

pub legal_user : (setup : Settings) (journal : List Event) → IsLegal setup journal → (session : ℕ) → phase_of journal session ≡ User → IsLoggedIn setup journal session
legal_user setup journal legal session h = let l = (legal_logins setup journal legal).logins session in l.logged_in (l.accepted (phase_tests journal session User h).1)
