-- A session that logs in.
use Rattle.std.proofs.Common.{◌≡◌, ℕ, ◌+◌, ◌-◌, ◌<◌, ◌≤◌, Bool, true, false, not, ◌&&◌, ◌||◌, ◌==◌, List, [], ◌∷◌, ◌++◌}
use Rattle.std.proofs.Common.{length, Option, Some, None, unwrap_or, refl, sym, ap, subst, ◌∙◌, append_assoc, arith}
use Rattle.std.specs.List.{last_or, list_any}
use Rattle.std.proofs.lemmas.Bool.{and_from, and_parts}
use Rattle.std.proofs.lemmas.List.{length-append}
use Rattle.request_catalogue.specs.declared.texts.Name.{Name}
use Rattle.otp_hash.specs.Hashing.{hash_of}
use Rattle.policy_model.specs.declared.account.Account.{Account}
use Rattle.policy_model.specs.declared.event.Ask.{Ask}
use Rattle.policy_model.specs.declared.event.Ask.TheVariants as asks
use Rattle.policy_model.specs.declared.event.Decision.{Decision}
use Rattle.policy_model.specs.declared.event.Decision.TheVariants.{Permit}
use Rattle.policy_model.specs.declared.event.Event.{Event}
use Rattle.policy_model.specs.declared.phase.Phase.TheVariants.{Pre, Challenged, Verified}
use Rattle.policy_model.specs.Asks.{accepts, came_by_frame, exports, is_permit, moment_of, value_of}
use Rattle.policy_model.specs.Cases.{account_named, is_export}
use Rattle.policy_model.specs.Journal.{Place, has_lost}
use Rattle.policy_model.specs.Legal.{IsLegal}
use Rattle.policy_model.specs.Logins.{account_of, current_sequence, replies_of, verified_user}
use Rattle.policy_model.specs.Settings.{IsInRange, Settings}
use Rattle.policy_model.specs.Verdict.{is_next_password, readings}
use Rattle.policy_model.proofs.Legal.{IsLegal-none, IsLegal-push}
use Rattle.session_laws.specs.Judged.{is_over_phase}
use Rattle.session_laws.proofs.Holders.{legal_tied}
use Rattle.session_laws.proofs.Permits.{found_name}
use Rattle.session_laws.proofs.PhaseLemmas.{phase_tests}
use Rattle.login_laws.specs.Login.{AsksToLogIn, CanLogIn, IsLoggedInBy, IsRight, LoginPlaces, RepliesWithinHold}
use Rattle.login_laws.specs.Login.{are_talk, is_banner, is_greeting, is_talk, login_places, places_by}
use Rattle.login_laws.proofs.Held.{Holds}
use Rattle.login_laws.proofs.Judged.{banner_permitted, challenge_permitted, export_permitted, passes, reply_permitted}
use Rattle.login_laws.proofs.Judged.{talk_by_frame, talk_permitted}
use Rattle.login_laws.proofs.Stages.{IsLogged, Lasts, Stage, banner_on, challenge_on, export_on, holding, logged, more}
use Rattle.login_laws.proofs.Stages.{nothing, others_stay, quiet, reply_on, talk_on}
use Rattle.login_laws.proofs.Walk.{At, Next, Stands, State, begun, next_place, own_session, start}

-- whether a password is the next one is told by the accepted ones alone
pub next_same : (one two : List Event) (account : Account) (password : ℕ)
    → replies_of one account.name ≡ replies_of two account.name
    → is_next_password one account password ≡ is_next_password two account password
next_same one two account password same =
    ap (λ (rs : List ℕ). hash_of account.algo password == unwrap_or (last_or None (account.password ∷ rs)) 0 && not
    (list_any (λ (x : ℕ). password == x) (account.password ∷ rs))) same

pub any_same : (p q : ℕ → Bool) (xs : List ℕ) → ((x : ℕ) → p x ≡ q x) → list_any p xs ≡ true → list_any q xs ≡ true
any_same p q [] same h = h
any_same p q (x ∷ xs) same h =
    by (λ g. any_same p q xs same g) (q x) (ap (λ b. b || list_any p xs) (sym (same x)) ∙ h) where
      by : (list_any p xs ≡ true → list_any q xs ≡ true) → (b : Bool) → (b || list_any p xs) ≡ true
          → (b || list_any q xs) ≡ true
      by others true h' = refl
      by others false h' = others h'

module _ (setup : Settings) (journal : List Event) (worker : ℕ) (legal : IsLegal setup journal)
    (none : has_lost journal ≡ false) where
  -- ---- to the session's opening

  pub reach : (earlier : List Place) (before : List Event) (p : Place) (places : List Place) → IsLegal setup before
      → Stands journal worker before (earlier ++ (p ∷ places)) → Next setup journal worker (IsLegal setup) p places
  reach [] before p places so stands =
      next_place setup journal worker legal none (IsLegal setup)
      (λ b e comes other l. IsLegal-push setup b e l comes.next) before p places so stands
  reach (q ∷ earlier) before p places so stands =
      let n = next_place setup journal worker legal none (IsLegal setup)
      (λ b e comes other l. IsLegal-push setup b e l comes.next) before q (earlier ++ (p ∷ places)) so stands in
      reach earlier (q.before ++ q.event ∷ []) p places (IsLegal-push setup q.before q.event n.holds n.comes.next)
      n.behind

  module _ (session : ℕ) where
    -- the next place of the session, where it stands so
    pub at_next : (s : State) (Q : List Event → Type 0) → Lasts setup journal worker session Q
        → (before : List Event) (p : Place) (places : List Place) → Stage setup journal worker session s Q before
        → Stands journal worker before (p ∷ places)
        → Next setup journal worker (Stage setup journal worker session s Q) p places
    at_next s Q lasts before p places stage stands =
        next_place setup journal worker legal none (Stage setup journal worker session s Q)
        (others_stay setup journal worker session s Q lasts) before p places stage stands

    -- after talk
    pub record Talked (s : State) (Q : List Event → Type 0) (places : List Place) : Type 0 where
      pub before : List Event
      pub stage : Stage setup journal worker session s Q before
      pub stands : Stands journal worker before places

    pub talked : (s : State) (Q : List Event → Type 0) → Lasts setup journal worker session Q
        → (talk places : List Place) (before : List Event) → are_talk talk ≡ true → is_over_phase s.phase ≡ false
        → s.asked + length talk ≤ setup.requests → Stage setup journal worker session s Q before
        → Stands journal worker before (talk ++ places)
        → Talked (more (length talk) s) Q places
    talked s Q lasts [] places before talk live few stage stands =
        record {
          before = before;
          stage = subst (λ (n : ℕ). Stage setup journal worker session (record s { asked = n })
              Q before) (zero s.asked) stage;
          stands = stands;
        } where
          zero : (n : ℕ) → n ≡ n + 0
          zero n = omega arith
    talked s Q lasts (p ∷ rest) places before talk live few stage stands =
        let n = at_next s Q lasts before p (rest ++ places) stage stands in
        let both = and_parts (is_talk p.event.ask) (are_talk rest) talk in
        let permit = talk_permitted setup journal worker session s p.before p.event n.holds.at n.comes n.own live
        (omega (arith, few)) both.0 in
        let q = quiet p.event both.0 permit in
        let its = own_session setup journal worker session s p.before p.event n.holds.at n.comes n.own
        (talk_by_frame p.event.ask both.0) in
        let t = talked (more 1 s) Q lasts rest places (p.before ++ p.event ∷ []) both.1 live (omega (arith, few))
        (record {
          at = talk_on setup journal worker session s p.before p.event n.holds.at n.comes n.own both.0 q;
          known = lasts.quiet p.before p.event n.holds.at.legal n.comes.next its q n.holds.known;
        }) n.behind in
        record {
          before = t.before;
          stage = subst (λ (k : ℕ). Stage setup journal worker session
              (record s { asked = k }) Q t.before) (sum s.asked) t.stage;
          stands = t.stands;
        } where
          sum : (a : ℕ) → a + 1 + length rest ≡ a + length (p ∷ rest)
          sum a = omega arith

    -- ---- from the last step to the first

    -- a verified session's EXPORT
    record Exported (user : Name) (p : Place) : Type 0 where
      pub own : p.event.session ≡ session
      pub exports : exports p.event ≡ true
      pub logged : verified_user p.before session ≡ Some user

    exported : (user : Name) (s : State) (third rest : List Place) (p : Place) (before : List Event)
        → s.phase ≡ Verified → are_talk third ≡ true → is_export p.event.ask ≡ true
        → s.asked + length third < setup.requests
        → Stage setup journal worker session s (IsLogged setup journal worker session user) before
        → Stands journal worker before (third ++ (p ∷ rest))
        → Exported user p
    exported user s third rest p before phase talk is few stage stands =
        let t = talked s (IsLogged setup journal worker session user) (logged setup journal worker session user) third
        (p ∷ rest) before talk (ap is_over_phase phase) (omega (arith, few)) stage stands in
        let n = at_next (more (length third) s) (IsLogged setup journal worker session user)
        (logged setup journal worker session user) t.before p rest t.stage t.stands in
        let len = export_is p.event.ask is in
        let new = (phase_tests p.before session Verified (n.holds.at.phased ∙ phase)).1.0 in
        let permit = export_permitted setup journal worker session (more (length third) s) p.before p.event len.0
        n.holds.at n.comes n.own phase few len.1 new in
        let on = export_on setup journal worker session (more (length third) s) p.before p.event user len.0 permit.0
        n.holds.at n.comes n.own phase len.1 permit.1 n.holds.known in
        record {
          own = own_session setup journal worker session (more (length third) s) p.before p.event n.holds.at n.comes
              n.own (ap came_by_frame len.1);
          exports = on.exports;
          logged = n.holds.known.verified;
        } where
          export_is : (ask : Ask) → is_export ask ≡ true → (len : ℕ) × (ask ≡ asks.Export len)
          export_is (asks.Export len) h = (len, refl)
          export_is _ h = absurd cc

    -- a challenged session's REPLY, and what comes after it
    record Replied (user : Name) (account : Account) (reply export : Place) : Type 0 where
      pub accepts : accepts reply.event ≡ true
      pub password : is_next_password reply.before account (value_of reply.event.decision) ≡ true
      pub exported : Exported user export

    replied : (user : Name) (account : Account) (words hex : Option ℕ) (taken : List Event) (s : State)
        (second third rest : List Place) (p q : Place) (before : List Event)
        → RepliesWithinHold setup journal session user → s.phase ≡ Challenged → are_talk second ≡ true
        → are_talk third ≡ true → p.event.ask ≡ asks.Reply words hex → is_export q.event.ask ≡ true
        → s.asked + length second + 1 + length third < setup.requests → account_of setup user ≡ Some account
        → list_any (is_next_password taken account) (readings words hex) ≡ true
        → Stage setup journal worker session s (Holds session user (replies_of taken user)) before
        → Stands journal worker before (second ++ (p ∷ (third ++ (q ∷ rest))))
        → Replied user account p q
    replied user account words hex taken s second third rest p q before hold phase talk talk' is exports few found right
        stage stands =
        let lasts = holding setup journal worker session user (replies_of taken user) hold in
        let t = talked s (Holds session user (replies_of taken user)) lasts second (p ∷ (third ++ (q ∷ rest))) before
        talk (ap is_over_phase phase) (omega (arith, few)) stage stands in
        let n = at_next (more (length second) s) (Holds session user (replies_of taken user)) lasts t.before p
        (third ++ (q ∷ rest)) t.stage t.stands in
        let tied = (legal_tied setup p.before n.holds.at.legal).holders user session n.holds.known.holder in
        let named = found_name setup user account found in
        let same : replies_of taken account.name ≡ replies_of p.before account.name = ap (replies_of taken) named
        ∙ sym n.holds.known.accepted ∙ ap (replies_of p.before) (sym named) in
        let pass = passes (is_next_password p.before account) (readings words hex)
        (any_same (is_next_password taken account) (is_next_password p.before account) (readings words hex)
        (λ x. next_same taken p.before account x same) right) in
        let few' : s.asked + length second < setup.requests = omega (arith, few) in
        let permit = reply_permitted setup journal worker session (more (length second) s) p.before p.event words hex
        user account n.holds.at n.comes n.own phase few' is tied.challenged tied.no_decoy n.holds.known.holder found
        pass in
        let on = reply_on setup journal worker session (more (length second) s) p.before p.event user words hex
        pass.password n.holds.at n.comes n.own phase is permit tied.challenged in
        record {
          accepts = on.accepts;
          password = subst (λ (d : Decision). is_next_password p.before account (value_of d) ≡ true) (sym permit)
              pass.passes;
          exported = exported user (record s { phase = Verified; asked = s.asked + length second + 1 }) third rest q
              (p.before ++ p.event ∷ []) refl talk' exports few (record { at = on.at; known = on.logged }) n.behind;
        }

    -- the CHALLENGE of a session before its login, and what comes after it
    record Taken (user : Name) (account : Account) (challenge reply export : Place) : Type 0 where
      pub permit : challenge.event.decision ≡ Permit (current_sequence challenge.before account - 1)
      pub replied : Replied user account reply export

    taken : (user : Name) (account : Account) (words hex : Option ℕ) (s : State) (first second third rest : List Place)
        (c p q : Place) (before : List Event) → IsInRange setup → RepliesWithinHold setup journal session user
        → s.phase ≡ Pre → s.tried ≡ 0 → are_talk first ≡ true → are_talk second ≡ true → are_talk third ≡ true
        → c.event.ask ≡ asks.Challenge user (moment_of c.event.ask) → p.event.ask ≡ asks.Reply words hex
        → is_export q.event.ask ≡ true → s.asked + length first + 1 + length second + 1 + length third < setup.requests
        → CanLogIn setup c.before session user (moment_of c.event.ask) account → IsRight c.before account words hex
        → Stage setup journal worker session s (λ b. Unit {0}) before
        → Stands journal worker before (first ++ (c ∷ (second ++ (p ∷ (third ++ (q ∷ rest))))))
        → Taken user account c p q
    taken user account words hex s first second third rest c p q before range hold phase tried talk talk' talk'' asks is
        exports few ready right stage stands =
        let lasts = nothing setup journal worker session in
        let t = talked s (λ b. Unit {0}) lasts first (c ∷ (second ++ (p ∷ (third ++ (q ∷ rest))))) before talk
        (ap is_over_phase phase) (omega (arith, few)) stage stands in
        let n = at_next (more (length first) s) (λ b. Unit {0}) lasts t.before c (second ++ (p ∷ (third ++ (q ∷ rest))))
        t.stage t.stands in
        let few' : s.asked + length first < setup.requests = omega (arith, few) in
        let some : s.tried < setup.tries = omega (arith, tried, range.tries.0) in
        let permit = challenge_permitted setup journal worker session (more (length first) s) c.before c.event user
        (moment_of c.event.ask) account n.holds.at n.comes n.own phase few' some asks ready.found ready.live
        ready.free in
        let on = challenge_on setup journal worker session (more (length first) s) c.before c.event user
        (moment_of c.event.ask) (current_sequence c.before account - 1) account range n.holds.at n.comes n.own phase
        asks permit ready.found ready.live in
        record {
          permit = permit;
          replied = replied user account words hex c.before
              (record s { phase = Challenged; asked = s.asked + length first + 1 }) second third rest p q
              (c.before ++ c.event ∷ []) hold refl talk' talk'' is exports few ready.found right.next
              (record { at = on.at; known = on.holds }) n.behind;
        }

    -- after the banner, if it is asked for
    record Greeted (places : List Place) (asked : ℕ) : Type 0 where
      pub state : State
      pub phase : state.phase ≡ Pre
      pub tried : state.tried ≡ 0
      pub asked_is : state.asked ≡ asked
      pub before : List Event
      pub stage : Stage setup journal worker session state (λ b. Unit {0}) before
      pub stands : Stands journal worker before places

    greeted : (greeting places : List Place) (before : List Event) → is_greeting greeting ≡ true
        → length greeting ≤ setup.requests → At setup worker session start before
        → Stands journal worker before (greeting ++ places) → Greeted places (length greeting)
    greeted [] places before is few at stands =
        record {
          state = start;
          phase = refl;
          tried = refl;
          asked_is = refl;
          before = before;
          stage = record
              { at = at; known = tt };
          stands = stands;
        }
    greeted (p ∷ []) places before is few at stands =
        let n = at_next start (λ b. Unit {0}) (nothing setup journal worker session) before p places
        (record { at = at; known = tt }) stands in
        let asks = banner_is p.event.ask is in
        let permit = banner_permitted setup journal worker session start p.before p.event n.holds.at n.comes n.own refl
        refl (omega (arith, few)) asks in
        record {
          state = record { phase = Pre; asked = 1; tried = 0; greeted = true; imported = false };
          phase = refl;
          tried = refl;
          asked_is = refl;
          before = p.before ++ p.event ∷ [];
          stage = record {
            at = banner_on setup journal worker session start p.before p.event n.holds.at n.comes n.own
                refl asks permit;
            known = tt;
          };
          stands = n.behind;
        } where
          banner_is : (ask : Ask) → is_banner ask ≡ true → ask ≡ asks.Banner
          banner_is asks.Banner h = refl
          banner_is _ h = absurd cc
    greeted (p ∷ q ∷ greeting) places before is few at stands = absurd cc

talk_parts : (xs ys : List Place) → are_talk (xs ++ ys) ≡ true → (are_talk xs ≡ true) × (are_talk ys ≡ true)
talk_parts [] ys h = (refl, h)
talk_parts (x ∷ xs) ys h =
    let both = and_parts (is_talk x.event.ask) (are_talk (xs ++ ys)) h in
    let others = talk_parts xs ys both.1 in
    (and_from (is_talk x.event.ask) (are_talk xs) both.0 others.0, others.1)

regrouped : (l : LoginPlaces) (rest : List Place)
    → login_places l ++ rest ≡ l.opening ∷ (l.greeting
    ++ (l.first ++ (l.challenge ∷ (l.second ++ (l.reply ∷ (l.third ++ (l.export ∷ rest)))))))
regrouped l rest =
    ap (λ ps. l.opening ∷ ps)
    (append_assoc l.greeting (l.first ++ (l.challenge ∷ (l.second ++ (l.reply ∷ (l.third ++ (l.export ∷ [])))))) rest
    ∙ ap (λ ps. l.greeting ++ ps)
    (append_assoc l.first (l.challenge ∷ (l.second ++ (l.reply ∷ (l.third ++ (l.export ∷ []))))) rest
    ∙ ap (λ ps. l.first ++ (l.challenge ∷ ps))
    (append_assoc l.second (l.reply ∷ (l.third ++ (l.export ∷ []))) rest
    ∙ ap (λ ps. l.second ++ (l.reply ∷ ps)) (append_assoc l.third (l.export ∷ []) rest))))

size : (l : LoginPlaces)
    → length (login_places l) ≡ length l.greeting + length l.first + 1 + length l.second + 1 + length l.third + 2
size l =
    omega (
      arith,
      length-append l.greeting (l.first
          ++ (l.challenge ∷ (l.second ++ (l.reply ∷ (l.third ++ (l.export ∷ [])))))),
      length-append l.first
          (l.challenge ∷ (l.second ++ (l.reply ∷ (l.third ++ (l.export ∷ []))))),
      length-append l.second
          (l.reply ∷ (l.third ++ (l.export ∷ []))),
      length-append l.third (l.export ∷ []),
    )

pub logs_in : (setup : Settings) (journal : List Event) → IsLegal setup journal → has_lost journal ≡ false
    → IsInRange setup
    → (worker : ℕ) (user : Name) (account : Account) (words hex : Option ℕ) (login : LoginPlaces) (rest : List Place)
    → AsksToLogIn setup journal worker user account words hex login rest
    → IsLoggedInBy setup journal user account words hex login
logs_in setup journal legal none range worker user account words hex l rest asks =
    let session = l.opening.event.session in
    let few : length l.greeting + length l.first + 1 + length l.second + 1 + length l.third < setup.requests = omega
    (arith, size l, asks.few) in
    let all : places_by journal worker ≡ asks.earlier
    ++ (l.opening ∷ (l.greeting ++ (l.first ++ (l.challenge
    ∷ (l.second ++ (l.reply ∷ (l.third ++ (l.export ∷ rest)))))))) = asks.places
    ∙ ap (λ ps. asks.earlier ++ ps) (regrouped l rest) in
    let n = reach setup journal worker legal none asks.earlier [] l.opening
    (l.greeting ++ (l.first ++ (l.challenge ∷ (l.second ++ (l.reply ∷ (l.third ++ (l.export ∷ rest)))))))
    (IsLegal-none setup) (record { rest = journal; parts = refl; are = all }) in
    let at = subst (λ (w : ℕ). At setup w session start (l.opening.before ++ l.opening.event ∷ [])) n.own
    (begun setup journal l.opening.before l.opening.event n.holds n.comes asks.opened) in
    let g = greeted setup journal worker legal none session l.greeting
    (l.first ++ (l.challenge ∷ (l.second ++ (l.reply ∷ (l.third ++ (l.export ∷ rest))))))
    (l.opening.before ++ l.opening.event ∷ []) asks.greeted (omega (arith, few)) at n.behind in
    let t1 = talk_parts l.first (l.second ++ l.third) asks.talked in
    let t2 = talk_parts l.second l.third t1.1 in
    let k = taken setup journal worker legal none session user account words hex g.state l.first l.second l.third rest
    l.challenge l.reply l.export g.before range asks.within g.phase g.tried t1.0 t2.0 t2.1 asks.challenges asks.replies
    asks.exports (omega (arith, few, g.asked_is)) asks.ready asks.right g.stage g.stands in
    record {
      challenged = ap is_permit k.permit;
      number = ap value_of k.permit;
      replied = k.replied.accepts;
      password = k.replied.password;
      exported = k.replied.exported.exports;
      logged_in = ap (λ (n : ℕ). account_named setup (verified_user l.export.before n)) k.replied.exported.own
          ∙ ap (account_named setup) k.replied.exported.logged ∙ asks.ready.found;
    }
