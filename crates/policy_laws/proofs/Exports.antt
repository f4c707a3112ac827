-- What stands before a permitted EXPORT of a legal journal.
use Rattle.std.proofs.Common.{◌≡◌, ℕ, zero, suc, ◌+◌, ◌≤◌, ◌<◌, Bool, true, false, not, ◌||◌, ◌==◌, cond, eqb, List, [], ◌∷◌, ◌++◌, length, get_or, take, Some, unwrap_or, refl, sym, ap, subst, ◌∙◌, arith}
use Rattle.std.proofs.Math.Bool.{or-false}
use Rattle.std.proofs.Math.ListN.{get_or-append}
use Rattle.std.proofs.Math.Seq.{get_or-append_seam, take-append_seam, take-suc}
use Rattle.std.proofs.lemmas.Bool.{and_parts, eqb-true}
use Rattle.std.proofs.lemmas.Option.{get_or_from_slice_get, slice_get_within}
use Rattle.std.proofs.lemmas.List.{get_or-take, length-append, length-take-le, take-append-le, take-take, take_all}
use Rattle.otp_hash.specs.Hashing.{hash_of}
use Rattle.policy_model.specs.declared.event.Event.{Event}
use Rattle.policy_model.specs.declared.phase.Phase.TheVariants.{Verified}
use Rattle.policy_model.specs.Asks.{accepts, value_of}
use Rattle.policy_laws.specs.Consequences.{VerifiedBeforeExport}
use Rattle.policy_model.specs.Journal.{has_event, is_own}
use Rattle.policy_model.specs.Legal.{IsLegal, IsNext}
use Rattle.policy_model.specs.Logins.{challenged_user, current_password, verified_user, was_accepted}
use Rattle.policy_model.specs.Settings.{Settings}
use Rattle.policy_model.specs.Cases.{number_named}
use Rattle.policy_model.proofs.Lists.{stands_at}
use Rattle.policy_model.proofs.LoginLemmas.{verified_user-push}
use Rattle.session_laws.proofs.ByEvents.{some_event}
use Rattle.session_laws.proofs.Permits.{accepted_reply, permitted_export}
use Rattle.session_laws.proofs.Numbers.{numbered_by_name}
use Rattle.session_laws.proofs.Permitted.{exported_in_verified}
use Rattle.session_laws.proofs.PhaseLemmas.{phase_tests}
use Rattle.session_laws.proofs.SessionEvents.{has_event-push}

-- where a session's last permitted REPLY stands, and whom it verified
record VerifiedAt (journal : List Event) (session : ℕ) (d : Event) : Type 0 where
  pub place : ℕ
  pub within : place < length journal
  pub own : is_own session accepts (get_or journal place d) ≡ true
  pub user : verified_user journal session ≡ challenged_user (take place journal) session

verified_at-push : (journal : List Event) (session : ℕ) (d e : Event) → (has_event journal session accepts ≡ true → VerifiedAt journal session d) → has_event (journal ++ e ∷ []) session accepts ≡ true → VerifiedAt (journal ++ e ∷ []) session d
verified_at-push journal session d e before h = go (is_own session accepts e) refl where
  size : length (journal ++ e ∷ []) ≡ length journal + 1
  size = length-append journal (e ∷ [])

  go : (b : Bool) → is_own session accepts e ≡ b → VerifiedAt (journal ++ e ∷ []) session d
  go true is = record {
    place = length journal;
    within = omega (arith, size);
    own = ap (is_own session accepts) (get_or-append_seam journal e [] d) ∙ is;
    user =
        verified_user-push session journal e
        ∙ ap (λ b. cond b (challenged_user journal session) (verified_user journal session)) is
        ∙ ap (λ j. challenged_user j session) (sym (take-append_seam journal (e ∷ [])));
  }
  go false is =
      let a = before (sym (has_event-push journal e session accepts ∙ ap (λ b. has_event journal session accepts || b) is ∙ or-false (has_event journal session accepts)) ∙ h) in
      record {
        place = a.place;
        within = omega (arith, size, a.within);
        own = ap (is_own session accepts) (get_or-append journal (e ∷ []) d a.place a.within) ∙ a.own;
        user =
            verified_user-push session journal e
            ∙ ap (λ b. cond b (challenged_user journal session) (verified_user journal session)) is
            ∙ a.user
            ∙ ap (λ j. challenged_user j session) (sym (take-append-le a.place journal (e ∷ []) (omega (arith, a.within))));
      }

verified_at : (journal : List Event) (session : ℕ) (d : Event) → has_event journal session accepts ≡ true → VerifiedAt journal session d
verified_at journal session d = subst (λ j. has_event j session accepts ≡ true → VerifiedAt j session d) (take_all (length journal) journal (omega arith)) (go (length journal) (omega arith)) where
  go : (k : ℕ) → k ≤ length journal → has_event (take k journal) session accepts ≡ true → VerifiedAt (take k journal) session d
  go zero le h = absurd cc
  go (suc k) le h =
      let more = take-suc journal k some_event (omega arith) in
      subst (λ j. VerifiedAt j session d) (sym more) (verified_at-push (take k journal) session d (get_or journal k some_event) (go k (omega arith)) (subst (λ j. has_event j session accepts ≡ true) more h))

-- before a permitted EXPORT stands a permitted REPLY for its account
pub verified_before_export : (setup : Settings) (journal : List Event) → IsLegal setup journal → VerifiedBeforeExport setup journal
verified_before_export setup journal legal = record {
  verified = λ k e stands exported.
      let d = e in
      let kn = slice_get_within journal k e stands in
      let here : get_or journal k d ≡ e = get_or_from_slice_get journal k e d stands in
      let front = take k journal in
      let size : length front ≡ k = length-take-le k journal (omega arith) in
      let next : IsNext setup front e = subst (IsNext setup front) here (legal k d kn) in
      let x = permitted_export setup front e next exported in
      let v = verified_at front e.session d (phase_tests front e.session Verified (exported_in_verified setup front e next exported)).1.1 in
      let m = v.place in
      let before : m < k = omega (arith, size, v.within) in
      let at : get_or front m d ≡ get_or journal m d = get_or-take k journal m d before in
      let prefix : take m front ≡ take m journal = take-take m k journal (omega arith) in
      let own : is_own e.session accepts (get_or journal m d) ≡ true = ap (is_own e.session accepts) (sym at) ∙ v.own in
      let both = and_parts (eqb (get_or journal m d).session e.session) (accepts (get_or journal m d)) own in
      let session : (get_or journal m d).session ≡ e.session = eqb-true (get_or journal m d).session e.session both.0 in
      let a = accepted_reply setup (take m journal) (get_or journal m d) (legal m d (omega arith)) both.1 in
      let challenged : challenged_user (take m journal) e.session ≡ Some a.0 = ap (challenged_user (take m journal)) (sym session) ∙ a.1 in
      let user : verified_user front e.session ≡ Some a.0 = v.user ∙ ap (λ j. challenged_user j e.session) prefix ∙ challenged in
      let number = numbered_by_name setup a.0 a.2.account a.2.found in
      let value : value_of e.decision ≡ number.0 = x.1 ∙ ap (number_named setup) user ∙ ap (λ o. unwrap_or o 0) number.1.number_is in
      let password = and_parts (hash_of a.2.account.algo (value_of (get_or journal m d).decision) == current_password (take m journal) a.2.account) (not (was_accepted (take m journal) a.2.account (value_of (get_or journal m d).decision))) a.2.next in
      record {
        place = m;
        reply = get_or journal m d;
        stands = stands_at journal m d (omega (arith, before, kn));
        user = a.0;
        account = a.2.account;
        before = before;
        accepted = own;
        challenged = challenged;
        numbered = number.1.number_is ∙ ap Some (sym value);
        found = a.2.found;
        hashes = eqb-true (hash_of a.2.account.algo (value_of (get_or journal m d).decision)) (current_password (take m journal) a.2.account) password.0;
      };
}
