-- What one more event makes of holders, and the tie between holders and their sessions.
use Rattle.std.proofs.Common.{◌≡◌, ◌≢◌, ℕ, ◌+◌, ◌-◌, ◌≤◌, ◌<◌, Bool, true, false, not, ◌&&◌, ◌||◌, ◌==◌, cond, eqb, List, [], ◌∷◌, ◌++◌, length, Option, Some, None, refl, sym, ap, subst, ◌∙◌, arith, filter, eq-eqb}
use Rattle.std.specs.Prelude.{nat_le, nat_lt}
use Rattle.std.specs.List.{last_or}
use Rattle.std.specs.Option.{option_to_list}
use Rattle.std.proofs.lemmas.Bool.{eqb-true, false≢true, or_parts}
use Rattle.std.proofs.lemmas.Bool.Decides.{nat_tests}
use Rattle.request_catalogue.specs.declared.texts.Name.{Name}
use Rattle.policy_model.specs.declared.account.Account.{Account}
use Rattle.policy_model.specs.declared.event.Event.{Event}
use Rattle.policy_model.specs.declared.phase.Phase.TheVariants.{Pre, Challenged}
use Rattle.policy_model.specs.declared.reading.TheConstants.{DECOYS_FROM}
use Rattle.policy_model.specs.Asks.{challenge_name, ends_session, exports, gives_up, is_permit, leaves, opens, reserves, takes, value_of}
use Rattle.policy_model.specs.Cases.{is_abandon, is_reply, holder_by, is_holder}
use Rattle.policy_model.specs.Journal.{is_own, openings_of}
use Rattle.policy_model.specs.Legal.{IsLegal, IsNext, session_of}
use Rattle.policy_model.specs.Logins.{account_of, challenged_user, current_sequence, holder_of, last_taking_of, replies_of, reply_for, session_taking, was_decoyed, was_given_up}
use Rattle.policy_model.specs.Phases.{is_over, phase_of}
use Rattle.policy_model.specs.Runs.{AreNumbered}
use Rattle.policy_model.specs.Settings.{Settings}
use Rattle.policy_model.proofs.LoginLemmas.{count_replies-push, last_taking_of-last, last_taking_of-none, last_taking_of-push, was_given_up-push}
use Rattle.policy_model.proofs.Runs.{next_session}
use Rattle.session_laws.specs.Phased.{phase_after}
use Rattle.session_laws.specs.Tied.{AreTied, HoldsOneAtMost, IsTied, holder_after}
use Rattle.session_laws.proofs.ByEvents.{by_events}
use Rattle.session_laws.proofs.Openings.{numbered-push, session_new}
use Rattle.session_laws.proofs.Permits.{Accepted, Taken, found_name, new_reply, same_some, taken_challenge}
use Rattle.session_laws.proofs.Permitted.{no_exporting, no_taking, permitted_live, reserves_from, taken_in_pre, takes_from, taking}
use Rattle.session_laws.proofs.PhaseLemmas.{phase_of-other, phase_of-own}
use Rattle.session_laws.proofs.SessionEvents.{is_over-own, is_over-push, own_false, own_is}
use Rattle.session_laws.proofs.UserLemmas.{challenged_user-kept, challenged_user-own, was_decoyed-kept, was_decoyed-own}

-- 1. Takers have numbers that were given

takers_below : (p : Event → Bool) (o : Option Event) (journal : List Event) (last : ℕ) (t : Event) → ((x : Event) → o ≡ Some x → x.session ≤ last) → AreNumbered journal last → last_or o (filter p journal) ≡ Some t → t.session ≤ last
takers_below p o [] last t first all h = first t h
takers_below p o (e ∷ es) last t first all h =
    elim (p e) as (λ b. last_or o (cond b (e ∷ filter p es) (filter p es)) ≡ Some t → t.session ≤ last) [
      | true ↦ takers_below p (Some e) es last t (λ x is. let same : e ≡ x = cc in subst (λ (y : Event). y.session ≤ last) same all.0) all.1
      | false ↦ takers_below p o es last t first all.1
    ] h

taker_numbered : (journal : List Event) (user : Name) (t : Event) → AreNumbered journal (openings_of journal) → last_taking_of journal user ≡ Some t → t.session ≤ openings_of journal
taker_numbered journal user t all h = takers_below (reserves user) None journal (openings_of journal) t (λ x is. absurd cc) all (sym (last_taking_of-last user journal) ∙ h)

held_below : (journal : List Event) (user : Name) (session : ℕ) → AreNumbered journal (openings_of journal) → holder_of journal user ≡ Some session → session ≤ openings_of journal
unfolding holder_of
held_below journal user session numbered h = go (last_taking_of journal user) refl h where
  go : (o : Option Event) → last_taking_of journal user ≡ o → holder_by journal (was_given_up journal user) o ≡ Some session → session ≤ openings_of journal
  go None is h = absurd cc
  go (Some t) is h = by (was_given_up journal user || is_over journal t.session) h where
    by : (b : Bool) → cond b None (Some t.session) ≡ Some session → session ≤ openings_of journal
    by true h = absurd cc
    by false h = let same : t.session ≡ session = cc in subst (λ n. n ≤ openings_of journal) same (taker_numbered journal user t numbered is)

-- 2. The holder

-- after a CHALLENGE that reserves the user: the session that asked
pub holder_of-taken : (journal : List Event) (e : Event) (user : Name) → reserves user e ≡ true → is_over journal e.session ≡ false → holder_of (journal ++ e ∷ []) user ≡ Some e.session
unfolding holder_of
holder_of-taken journal e user reserved live =
    let t = taking e (takes_from user e (reserves_from user e reserved).0).0 in
    let on : is_over (journal ++ e ∷ []) e.session ≡ false = is_over-own journal e e.session refl t.opens_none ∙ ap (λ b. b || ends_session e) live ∙ t.goes_on in
    ap (λ o. holder_by (journal ++ e ∷ []) (was_given_up (journal ++ e ∷ []) user) o) (last_taking_of-push user journal e ∙ ap (λ b. cond b (Some e) (last_taking_of journal user)) reserved)
    ∙ ap (λ g. holder_by (journal ++ e ∷ []) g (Some e)) (was_given_up-push user journal e ∙ ap (λ b. not b && (was_given_up journal user || is_own (session_taking (last_taking_of journal user)) gives_up e)) reserved)
    ∙ ap (λ b. cond (false || b) None (Some e.session)) on

by_tests : (s : ℕ) (g v p q a : Bool) → cond ((g || (a && p)) || (v || (a && q))) None (Some s) ≡ cond (g || v) None (cond (a && (p || q)) None (Some s))
by_tests s true v p q a = refl
by_tests s false true true q true = refl
by_tests s false true false q true = refl
by_tests s false true p q false = refl
by_tests s false false true q true = refl
by_tests s false false false true true = refl
by_tests s false false false false true = refl
by_tests s false false p q false = refl

after_cond : (b : Bool) (s : ℕ) (e : Event) → holder_after (cond b None (Some s)) e ≡ cond b None (holder_after (Some s) e)
after_cond true s e = refl
after_cond false s e = refl

-- after any other event
pub holder_of-other : (journal : List Event) (e : Event) (user : Name) → AreNumbered journal (openings_of journal) → e.session ≡ session_of journal e.worker e.ask e.decision → reserves user e ≡ false → holder_of (journal ++ e ∷ []) user ≡ holder_after (holder_of journal user) e
unfolding holder_of
holder_of-other journal e user numbered is kept =
    ap (λ o. holder_by (journal ++ e ∷ []) (was_given_up (journal ++ e ∷ []) user) o) (last_taking_of-push user journal e ∙ ap (λ b. cond b (Some e) (last_taking_of journal user)) kept)
    ∙ ap (λ g. holder_by (journal ++ e ∷ []) g (last_taking_of journal user)) (was_given_up-push user journal e ∙ ap (λ b. not b && (was_given_up journal user || is_own (session_taking (last_taking_of journal user)) gives_up e)) kept)
    ∙ go (last_taking_of journal user) refl where
      go : (o : Option Event) → last_taking_of journal user ≡ o → holder_by (journal ++ e ∷ []) (was_given_up journal user || is_own (session_taking o) gives_up e) o ≡ holder_after (holder_by journal (was_given_up journal user) o) e
      go None none = refl
      go (Some t) taken =
          let le : t.session ≤ openings_of journal = taker_numbered journal user t numbered taken in
          let over : is_over (journal ++ e ∷ []) t.session ≡ (is_over journal t.session || (e.session == t.session && ends_session e)) =
          is_over-push journal e t.session (λ opened same. let n = session_new journal e is opened in absurd (omega arith)) in
          ap (λ b. cond ((was_given_up journal user || (e.session == t.session && gives_up e)) || b) None (Some t.session)) over
          ∙ by_tests t.session (was_given_up journal user) (is_over journal t.session) (gives_up e) (ends_session e) (eqb e.session t.session)
          ∙ sym (after_cond (was_given_up journal user || is_over journal t.session) t.session e)

pub holder_of-none : (user : Name) → holder_of [] user ≡ None
unfolding holder_of
holder_of-none user = ap (holder_by [] (was_given_up [] user)) (last_taking_of-none user)

-- 3. A holder that stayed

-- the holder didn't leave: the event isn't of its session, or it or_parts gives up nor ends
record Stays (e : Event) (session : ℕ) : Type 0 where
  pub gives_none : e.session ≡ session → gives_up e ≡ false
  pub goes_on : e.session ≡ session → ends_session e ≡ false

stays_by : (e : Event) (session : ℕ) → is_own session leaves e ≡ false → Stays e session
stays_by e session h = record { gives_none = λ own. (both own).0; goes_on = λ own. (both own).1 } where
  both : e.session ≡ session → (gives_up e ≡ false) × (ends_session e ≡ false)
  both own = or_parts (gives_up e) (ends_session e) (sym (own_is e session leaves own) ∙ h)

stayed : (o : Option ℕ) (e : Event) (session : ℕ) → holder_after o e ≡ Some session → (o ≡ Some session) × Stays e session
stayed None e session h = absurd cc
stayed (Some s) e session h = go (is_own s leaves e) refl h where
  go : (b : Bool) → is_own s leaves e ≡ b → cond b None (Some s) ≡ Some session → (Some s ≡ Some session) × Stays e session
  go true is h = absurd cc
  go false is h = let same : s ≡ session = cc in (h, stays_by e session (subst (λ n. is_own n leaves e ≡ false) same is))

no_reply_from : (e : Event) → gives_up e ≡ false → is_reply e.ask ≡ false
no_reply_from e h = (or_parts (is_reply e.ask) (is_abandon e.ask && is_permit e.decision) h).0

-- a session in Challenged stays there by an event of it that takes, exports, gives up and ends nothing
challenged_stays : (e : Event) → ends_session e ≡ false → exports e ≡ false → takes e ≡ false → gives_up e ≡ false → phase_after Challenged e ≡ Challenged
challenged_stays e ends exported taken given =
    let none = or_parts (is_reply e.ask) (is_abandon e.ask && is_permit e.decision) given in
    rw (ends, exported, none.0, taken, none.1) refl

-- from Pre a permitted CHALLENGE leads to Challenged
challenged_now : (e : Event) → ends_session e ≡ false → exports e ≡ false → is_reply e.ask ≡ false → takes e ≡ true → phase_after Pre e ≡ Challenged
challenged_now e ends exported reply taken = rw (ends, exported, reply, taken) refl

-- 4. The sequence

pub sequence_same : (journal : List Event) (e : Event) (account : Account) → reply_for account.name (record { before = journal; event = e }) ≡ None → current_sequence (journal ++ e ∷ []) account ≡ current_sequence journal account
sequence_same journal e account none =
    ap (λ n. account.sequence - n) (count_replies-push account.name journal e ∙ ap (λ o. length (replies_of journal account.name) + length (option_to_list o)) none ∙ omega arith)

no_reply_for : (journal : List Event) (e : Event) (user : Name) → is_reply e.ask ≡ false → reply_for user (record { before = journal; event = e }) ≡ None
no_reply_for journal e user other = rw other refl

replied_is : (journal : List Event) (e : Event) (user : Name) (password : ℕ) → reply_for user (record { before = journal; event = e }) ≡ Some password → is_reply e.ask ≡ true
replied_is journal e user password h = go (is_reply e.ask) refl h where
  go : (r : Bool) → is_reply e.ask ≡ r → reply_for user (record { before = journal; event = e }) ≡ Some password → is_reply e.ask ≡ true
  go true is h = is
  go false is h = let none = no_reply_for journal e user is in absurd cc

-- 5. The tie goes on by one event

below_decoys : (value : ℕ) → nat_lt value DECOYS_FROM ≡ true → nat_le DECOYS_FROM value ≡ false
below_decoys value h = grind (arith, nat_tests, h)

-- a session that has just reserved a user
tied_taken : (setup : Settings) (journal : List Event) (e : Event) (user : Name) → IsNext setup journal e → reserves user e ≡ true → IsTied setup (journal ++ e ∷ []) user e.session
tied_taken setup journal e user next reserved =
    let r = reserves_from user e reserved in
    let named = takes_from user e r.0 in
    let t = taking e named.0 in
    record {
      phase = phase_of-own journal e e.session refl t.opens_none ∙ ap (λ p. phase_after p e) (taken_in_pre setup journal e next named.0) ∙ challenged_now e t.goes_on t.exports_none t.no_reply named.0;
      challenged = challenged_user-own journal e e.session refl ∙ ap (λ b. cond b (challenge_name e.ask) (challenged_user journal e.session)) named.0 ∙ named.1;
      no_decoy = was_decoyed-own journal e e.session refl ∙ ap (λ b. cond b (nat_le DECOYS_FROM (value_of e.decision)) (was_decoyed journal e.session)) named.0 ∙ below_decoys (value_of e.decision) r.1;
      left = λ account found. left account found t.no_reply (taken_challenge setup journal e user next reserved);
    } where
      left : (account : Account) → account_of setup user ≡ Some account → is_reply e.ask ≡ false → Taken setup journal user (value_of e.decision) → 0 < current_sequence (journal ++ e ∷ []) account
      left account found reply k =
          let same : k.account ≡ account = same_some k.account account (sym k.found ∙ found) in
          let some : eqb (current_sequence journal account) 0 ≡ false = subst (λ (a : Account). eqb (current_sequence journal a) 0 ≡ false) same k.some in
          subst (λ n. 0 < n) (sym (sequence_same journal e account (no_reply_for journal e account.name reply))) (grind (arith, nat_tests, some))

-- a session that held a user before and didn't leave
tied_stays : (setup : Settings) (journal : List Event) (e : Event) (user : Name) (session : ℕ) → IsNext setup journal e → (opens e ≡ true → e.session ≢ session) → holder_of journal user ≡ Some session → Stays e session → IsTied setup journal user session → IsTied setup (journal ++ e ∷ []) user session
tied_stays setup journal e user session next apart held stays tied =
    let here : e.session ≡ session → phase_of journal e.session ≡ Challenged = λ own. ap (phase_of journal) own ∙ tied.phase in
    let taken : is_own session takes e ≡ false = own_false e session takes (λ own. no_taking setup journal e next (here own)) in
    record {
      phase = phase (eqb e.session session) refl here;
      challenged = challenged_user-kept journal e session taken ∙ tied.challenged;
      no_decoy = was_decoyed-kept journal e session taken ∙ tied.no_decoy;
      left = λ account found. subst (λ n. 0 < n) (sym (sequence_same journal e account (unreplied account (found_name setup user account found) (reply_for account.name (record { before = journal; event = e })) refl))) (tied.left account found);
    } where
      phase : (b : Bool) → eqb e.session session ≡ b → (e.session ≡ session → phase_of journal e.session ≡ Challenged) → phase_of (journal ++ e ∷ []) session ≡ Challenged
      phase true is here = own (eqb-true e.session session is) here (opens e) refl where
        own : e.session ≡ session → (e.session ≡ session → phase_of journal e.session ≡ Challenged) → (o : Bool) → opens e ≡ o → phase_of (journal ++ e ∷ []) session ≡ Challenged
        own same here true opened = absurd (apart opened same)
        own same here false closed =
            phase_of-own journal e session same closed
            ∙ ap (λ p. phase_after p e) tied.phase
            ∙ challenged_stays e (stays.goes_on same) (no_exporting setup journal e next (here same)) (no_taking setup journal e next (here same)) (stays.gives_none same)
      phase false is here = phase_of-other journal e session (λ same. false≢true (sym is ∙ eq-eqb e.session session same)) ∙ tied.phase

      holds : (taker : ℕ) (o : Option ℕ) → o ≡ Some session → is_holder taker o ≡ true → taker ≡ session
      holds taker None is h = absurd cc
      holds taker (Some s) is h = let same : s ≡ session = cc in sym (eqb-true s taker h) ∙ same

      unreplied : (account : Account) → account.name ≡ user → (o : Option ℕ) → reply_for account.name (record { before = journal; event = e }) ≡ o → reply_for account.name (record { before = journal; event = e }) ≡ None
      unreplied account name None r = r
      unreplied account name (Some password) r =
          let a : Accepted setup journal e.session account.name password = new_reply setup journal e account.name password next r in
          let own : e.session ≡ session = holds e.session (holder_of journal account.name) (ap (holder_of journal) name ∙ held) a.holds in
          absurd (false≢true (sym (no_reply_from e (stays.gives_none own)) ∙ replied_is journal e account.name password r))

record Tie (setup : Settings) (journal : List Event) : Type 0 where
  pub numbered : AreNumbered journal (openings_of journal)
  pub holders : (user : Name) (session : ℕ) → holder_of journal user ≡ Some session → IsTied setup journal user session

tie_push : (setup : Settings) (journal : List Event) (e : Event) → IsNext setup journal e → Tie setup journal → Tie setup (journal ++ e ∷ [])
tie_push setup journal e next tie = record { numbered = numbered-push journal e is tie.numbered; holders = λ user session h. go user session h (reserves user e) refl } where
  is : e.session ≡ session_of journal e.worker e.ask e.decision
  is = next_session setup journal e next

  go : (user : Name) (session : ℕ) → holder_of (journal ++ e ∷ []) user ≡ Some session → (b : Bool) → reserves user e ≡ b → IsTied setup (journal ++ e ∷ []) user session
  go user session h true reserved =
      let t = taking e (takes_from user e (reserves_from user e reserved).0).0 in
      let live = permitted_live setup journal e next t.by_frame t.permitted in
      let taker : e.session ≡ session = same_some e.session session (sym (holder_of-taken journal e user reserved live.live) ∙ h) in
      subst (λ s. IsTied setup (journal ++ e ∷ []) user s) taker (tied_taken setup journal e user next reserved)
  go user session h false kept =
      let b = stayed (holder_of journal user) e session (sym (holder_of-other journal e user tie.numbered is kept) ∙ h) in
      let le = held_below journal user session tie.numbered b.0 in
      tied_stays setup journal e user session next (λ opened same. let n = session_new journal e is opened in absurd (omega arith)) b.0 b.1 (tie.holders user session b.0)

-- 6. In every legal journal

pub legal_tied : (setup : Settings) (journal : List Event) → IsLegal setup journal → AreTied setup journal
legal_tied setup journal legal = let t = by_events setup (Tie setup) none (λ j e next tie. tie_push setup j e next tie) journal legal in record { holders = t.holders } where
  none : Tie setup []
  none = record { numbered = tt; holders = λ user session h. let n = holder_of-none user in absurd cc }

-- a session holds one user at most
pub holds_one : (setup : Settings) (journal : List Event) → IsLegal setup journal → (session : ℕ) → HoldsOneAtMost journal session
holds_one setup journal legal session = let t = legal_tied setup journal legal in record { one = λ user other h k. same_some user other (sym (t.holders user session h).challenged ∙ (t.holders other session k).challenged) }

-- and none where it was challenged by a decoy, or isn't in Challenged
pub decoyed_holds_none : (setup : Settings) (journal : List Event) → IsLegal setup journal → (session : ℕ) → was_decoyed journal session ≡ true → (user : Name) → holder_of journal user ≢ Some session
decoyed_holds_none setup journal legal session decoyed user h = false≢true (sym ((legal_tied setup journal legal).holders user session h).no_decoy ∙ decoyed)

pub unchallenged_holds_none : (setup : Settings) (journal : List Event) → IsLegal setup journal → (session : ℕ) → phase_of journal session ≢ Challenged → (user : Name) → holder_of journal user ≢ Some session
unchallenged_holds_none setup journal legal session other user h = other ((legal_tied setup journal legal).holders user session h).phase
