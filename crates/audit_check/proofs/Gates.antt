-- What is decided by a session's own events, and what is left to the accounts.
use Rattle.std.proofs.Common.{◌≡◌, ◌≢◌, ℕ, ◌+◌, ◌-◌, Bool, true, false, not, ◌&&◌, ◌||◌, cond, eqb, arith, List, [], Option, Some, None, refl, sym, ap, ◌∙◌, ◌⊎◌, inl, inr}
use Rattle.std.specs.Prelude.{nat_eq, nat_le}
use Rattle.std.specs.List.{list_any}
use Rattle.std.proofs.lemmas.Bool.{false≢true}
use Rattle.std.proofs.lemmas.Bool.Decides.{nat_tests}
use Rattle.request_catalogue.specs.declared.kind.Kind.{Kind}
use Rattle.request_catalogue.specs.declared.kind.Kind.TheVariants as kinds
use Rattle.request_catalogue.specs.declared.texts.Name.{Name}
use Rattle.policy_model.specs.declared.account.Account.{Account}
use Rattle.policy_model.specs.declared.event.Ask.{Ask}
use Rattle.policy_model.specs.declared.event.Ask.TheVariants as asks
use Rattle.policy_model.specs.declared.event.Decision.{Decision}
use Rattle.policy_model.specs.declared.event.Decision.TheVariants.{Permit, Deny}
use Rattle.policy_model.specs.declared.event.Event.{Event}
use Rattle.policy_model.specs.Asks.{came_by_frame, is_denied_reply, kind_of, permits_kind, request_number}
use Rattle.policy_model.specs.Journal.{ask_count, count_of, events_of, has_event, open_session_of, openings_of}
use Rattle.policy_model.specs.Logins.{account_of, challenged_user, current_sequence, holder_of, is_live, last_taking_of, session_taking, verified_user, was_decoyed}
use Rattle.policy_model.specs.Phases.{is_over, phase_of, table_row}
use Rattle.policy_model.specs.Settings.{Settings}
use Rattle.policy_model.specs.Verdict.{account_verdict, challenge_verdict, info_verdict, is_held, kind_verdict, reply_verdict, request_verdict, verdict_of}
use Rattle.policy_model.specs.Cases.{account_named, is_holder, login_verdict, sequence_of}
use Rattle.policy_laws.specs.Strangers.{without_readings}
use Rattle.policy_model.proofs.Verdicts.{verdict_of-request}
use Rattle.audit_check.specs.Following.{IsRecent, is_local, rests_on_accounts}
use Rattle.audit_check.proofs.Recent.{asked_recent, count_recent, has_recent, over_recent, phase_recent}

-- 1. The session, its asks and the table

abbrev gate_by : Bool → Bool → Bool → Bool → Bool → ℕ → ℕ → Decision → Decision
gate_by zero over spent refused had number requests d = cond (zero || over) (Deny 6 number) (cond spent (Deny 1 requests) (cond refused (Deny 6 number) (cond had (Deny 7 number) d)))

-- they deny whatever is left to decide
record Shut (g : Decision → Decision) : Type 0 where
  pub rule : ℕ
  pub detail : ℕ
  pub is : (d : Decision) → g d ≡ Deny rule detail
  pub own : rests_on_accounts (Deny rule detail) ≡ false

-- they leave it to decide
record Leaves (zero : Bool) (g : Decision → Decision) : Type 0 where
  pub some : zero ≡ false
  pub is : (d : Decision) → g d ≡ d

gate_cases : (zero over spent refused had : Bool) (number requests : ℕ) → Shut (gate_by zero over spent refused had number requests) ⊎ Leaves zero (gate_by zero over spent refused had number requests)
gate_cases true over spent refused had number requests = inl (record { rule = 6; detail = number; is = λ d. refl; own = refl })
gate_cases false true spent refused had number requests = inl (record { rule = 6; detail = number; is = λ d. refl; own = refl })
gate_cases false false true refused had number requests = inl (record { rule = 1; detail = requests; is = λ d. refl; own = refl })
gate_cases false false false true had number requests = inl (record { rule = 6; detail = number; is = λ d. refl; own = refl })
gate_cases false false false false true number requests = inl (record { rule = 7; detail = number; is = λ d. refl; own = refl })
gate_cases false false false false false number requests = inr (record { some = refl; is = λ d. refl })

abbrev gate : Settings → List Event → ℕ → Ask → Kind → Decision → Decision
gate setup xs session ask kind d =
    gate_by (eqb session 0) (is_over xs session) (eqb (ask_count xs session) setup.requests) (not (table_row (phase_of xs session) kind).permitted) ((table_row (phase_of xs session) kind).once && has_event xs session (permits_kind kind)) (request_number ask) setup.requests d

gate_recent : (setup : Settings) (s : ℕ) (xs ys : List Event) → events_of xs s ≡ events_of ys s → (ask : Ask) (kind : Kind) (d : Decision) → gate setup xs s ask kind d ≡ gate setup ys s ask kind d
gate_recent setup s xs ys same ask kind d =
    let n : ℕ = request_number ask in
    ap (λ b. gate_by (eqb s 0) b (eqb (ask_count xs s) setup.requests) (not (table_row (phase_of xs s) kind).permitted) ((table_row (phase_of xs s) kind).once && has_event xs s (permits_kind kind)) n setup.requests d) (over_recent s xs ys same)
    ∙ ap (λ m. gate_by (eqb s 0) (is_over ys s) (eqb m setup.requests) (not (table_row (phase_of xs s) kind).permitted) ((table_row (phase_of xs s) kind).once && has_event xs s (permits_kind kind)) n setup.requests d) (asked_recent s xs ys same)
    ∙ ap (λ p. gate_by (eqb s 0) (is_over ys s) (eqb (ask_count ys s) setup.requests) (not (table_row p kind).permitted) ((table_row p kind).once && has_event xs s (permits_kind kind)) n setup.requests d) (phase_recent s xs ys same)
    ∙ ap (λ b. gate_by (eqb s 0) (is_over ys s) (eqb (ask_count ys s) setup.requests) (not (table_row (phase_of ys s) kind).permitted) ((table_row (phase_of ys s) kind).once && b) n setup.requests d) (has_recent s (permits_kind kind) xs ys same)

request_gate : (setup : Settings) (xs : List Event) (s : ℕ) (ask : Ask) (kind : Kind) → kind_of ask ≡ Some kind → is_local ask ≡ false → request_verdict setup xs s ask ≡ gate setup xs s ask kind (kind_verdict setup xs s ask)
request_gate setup xs s (asks.Challenge user now) kind h local = let is : kinds.Challenge ≡ kind = cc in ap (λ k. gate setup xs s (asks.Challenge user now) k (kind_verdict setup xs s (asks.Challenge user now))) is
request_gate setup xs s (asks.Reply words hex) kind h local = let is : kinds.Reply ≡ kind = cc in ap (λ k. gate setup xs s (asks.Reply words hex) k (kind_verdict setup xs s (asks.Reply words hex))) is
request_gate setup xs s (asks.Info number) kind h local = let is : kinds.Info ≡ kind = cc in ap (λ k. gate setup xs s (asks.Info number) k (kind_verdict setup xs s (asks.Info number))) is
request_gate setup xs s asks.Begin kind h local = absurd cc
request_gate setup xs s _ kind h local = absurd cc

-- 2. Over the end of a log and over all of it

-- a verdict over the end of a log, that over all of it, and what is left to each
pub record IsTold (session : ℕ) (recently wholly left_recently left_wholly : Decision) : Type 0 where
  pub own : rests_on_accounts recently ≡ false → (session ≢ 0 → rests_on_accounts left_recently ≡ false → left_recently ≡ left_wholly) → recently ≡ wholly
  pub some : rests_on_accounts recently ≡ true → session ≢ 0
  pub resting : rests_on_accounts recently ≡ true → rests_on_accounts left_recently ≡ true
  pub left : rests_on_accounts recently ≡ true → left_wholly ≡ wholly

not_zero : (n : ℕ) → eqb n 0 ≡ false → n ≢ 0
not_zero n h e = grind (arith, nat_tests)

pub told : (setup : Settings) (events recent : List Event) (worker : ℕ) (ask : Ask) (kind : Kind) → IsRecent recent worker events → open_session_of recent worker ≡ open_session_of events worker → kind_of ask ≡ Some kind → came_by_frame ask ≡ true → is_local ask ≡ false → IsTold (open_session_of events worker) (verdict_of setup recent worker ask) (verdict_of setup events worker ask) (kind_verdict setup recent (open_session_of events worker) ask) (kind_verdict setup events (open_session_of events worker) ask)
told setup events recent worker ask kind r same is frame other = go (gate_cases (eqb s 0) (is_over recent s) (eqb (ask_count recent s) setup.requests) (not (table_row (phase_of recent s) kind).permitted) ((table_row (phase_of recent s) kind).once && has_event recent s (permits_kind kind)) (request_number ask) setup.requests) where
  s : ℕ
  s = open_session_of events worker

  kr : Decision
  kr = kind_verdict setup recent s ask

  ke : Decision
  ke = kind_verdict setup events s ask

  gates : (d : Decision) → gate setup events s ask kind d ≡ gate setup recent s ask kind d
  gates d = by (eqb s 0) refl where
    by : (b : Bool) → eqb s 0 ≡ b → gate setup events s ask kind d ≡ gate setup recent s ask kind d
    by true h =
        ap (λ z. gate_by z (is_over events s) (eqb (ask_count events s) setup.requests) (not (table_row (phase_of events s) kind).permitted) ((table_row (phase_of events s) kind).once && has_event events s (permits_kind kind)) (request_number ask) setup.requests d) h
        ∙ sym (ap (λ z. gate_by z (is_over recent s) (eqb (ask_count recent s) setup.requests) (not (table_row (phase_of recent s) kind).permitted) ((table_row (phase_of recent s) kind).once && has_event recent s (permits_kind kind)) (request_number ask) setup.requests d) h)
    by false h = gate_recent setup s events recent (sym (r.own (not_zero s h))) ask kind d

  recently : verdict_of setup recent worker ask ≡ gate setup recent s ask kind kr
  recently = verdict_of-request setup recent worker ask frame ∙ ap (λ n. request_verdict setup recent n ask) same ∙ request_gate setup recent s ask kind is other

  wholly : verdict_of setup events worker ask ≡ gate setup recent s ask kind ke
  wholly = verdict_of-request setup events worker ask frame ∙ request_gate setup events s ask kind is other ∙ gates ke

  go : Shut (gate setup recent s ask kind) ⊎ Leaves (eqb s 0) (gate setup recent s ask kind) → IsTold s (verdict_of setup recent worker ask) (verdict_of setup events worker ask) kr ke
  go (inl shut) =
      let quiet : rests_on_accounts (verdict_of setup recent worker ask) ≡ false = ap rests_on_accounts (recently ∙ shut.is kr) ∙ shut.own in
      record {
        own = λ h same_left. recently ∙ shut.is kr ∙ sym (shut.is ke) ∙ sym wholly;
        some = λ h. absurd (false≢true (sym quiet ∙ h));
        resting = λ h. absurd (false≢true (sym quiet ∙ h));
        left = λ h. absurd (false≢true (sym quiet ∙ h));
      }
  go (inr passing) =
      let is_left : verdict_of setup recent worker ask ≡ kr = recently ∙ passing.is kr in
      record {
        own = λ h same_left. is_left ∙ same_left (not_zero s passing.some) (sym (ap rests_on_accounts is_left) ∙ h) ∙ sym (wholly ∙ passing.is ke);
        some = λ h. not_zero s passing.some;
        resting = λ h. sym (ap rests_on_accounts is_left) ∙ h;
        left = λ h. sym (wholly ∙ passing.is ke);
      }

-- 3. What is left of a CHALLENGE, a REPLY and an INFO

account_rests : (setup : Settings) (xs : List Event) (s : ℕ) (user : Name) (now : ℕ) (o : Option Account) → rests_on_accounts (account_verdict setup xs s user now o) ≡ true
account_rests setup xs s user now None = refl
account_rests setup xs s user now (Some account) = go (not (is_live xs account)) (is_held setup xs s user now) where
  go : (a b : Bool) → rests_on_accounts (cond a (account_verdict setup xs s user now None) (cond b (Deny 12 (session_taking (last_taking_of xs user))) (Permit (current_sequence xs account - 1)))) ≡ true
  go true b = refl
  go false true = refl
  go false false = refl

tries_own : (t : Bool) (tries : ℕ) (a b : Decision) → rests_on_accounts a ≡ true → rests_on_accounts (cond t (Deny 8 tries) a) ≡ false → cond t (Deny 8 tries) a ≡ cond t (Deny 8 tries) b
tries_own true tries a b rests h = refl
tries_own false tries a b rests h = absurd (false≢true (sym h ∙ rests))

tries_left : (t : Bool) (tries : ℕ) (a b : Decision) → rests_on_accounts (cond t (Deny 8 tries) a) ≡ true → b ≡ cond t (Deny 8 tries) b
tries_left true tries a b h = absurd cc
tries_left false tries a b h = refl

abbrev tries_test : Settings → List Event → ℕ → Bool
tries_test setup xs s = nat_le setup.tries (count_of xs s is_denied_reply)

tries_recent : (setup : Settings) (events recent : List Event) (worker : ℕ) → IsRecent recent worker events → open_session_of events worker ≢ 0 → tries_test setup events (open_session_of events worker) ≡ tries_test setup recent (open_session_of events worker)
tries_recent setup events recent worker r some =
    ap (nat_le setup.tries) (count_recent (open_session_of events worker) is_denied_reply events recent (sym (r.own some)))

challenge_told : (setup : Settings) (events recent : List Event) (worker : ℕ) (user : Name) (now : ℕ) → IsRecent recent worker events → open_session_of recent worker ≡ open_session_of events worker → IsTold (open_session_of events worker) (verdict_of setup recent worker (asks.Challenge user now)) (verdict_of setup events worker (asks.Challenge user now)) (kind_verdict setup recent (open_session_of events worker) (asks.Challenge user now)) (kind_verdict setup events (open_session_of events worker) (asks.Challenge user now))
challenge_told setup events recent worker user now r same = told setup events recent worker (asks.Challenge user now) kinds.Challenge r same refl refl refl

challenge_quiet : (setup : Settings) (events recent : List Event) (worker : ℕ) (user : Name) (now : ℕ) → IsRecent recent worker events → open_session_of recent worker ≡ open_session_of events worker → rests_on_accounts (verdict_of setup recent worker (asks.Challenge user now)) ≡ false → verdict_of setup recent worker (asks.Challenge user now) ≡ verdict_of setup events worker (asks.Challenge user now)
unfolding kind_verdict challenge_verdict
challenge_quiet setup events recent worker user now r same h = (challenge_told setup events recent worker user now r same).own h (λ some quiet.
    let s : ℕ = open_session_of events worker in
    tries_own (tries_test setup recent s) setup.tries (account_verdict setup recent s user now (account_of setup user)) (account_verdict setup events s user now (account_of setup user)) (account_rests setup recent s user now (account_of setup user)) quiet
    ∙ ap (λ t. cond t (Deny 8 setup.tries) (account_verdict setup events s user now (account_of setup user))) (sym (tries_recent setup events recent worker r some)))

pub challenge_is : (setup : Settings) (events recent : List Event) (worker : ℕ) (user : Name) (now : ℕ) → IsRecent recent worker events → open_session_of recent worker ≡ open_session_of events worker → rests_on_accounts (verdict_of setup recent worker (asks.Challenge user now)) ≡ true → account_verdict setup events (open_session_of events worker) user now (account_of setup user) ≡ verdict_of setup events worker (asks.Challenge user now)
unfolding kind_verdict challenge_verdict
challenge_is setup events recent worker user now r same h =
    let t = challenge_told setup events recent worker user now r same in
    let s : ℕ = open_session_of events worker in
    tries_left (tries_test setup recent s) setup.tries (account_verdict setup recent s user now (account_of setup user)) (account_verdict setup events s user now (account_of setup user)) (t.resting h)
    ∙ ap (λ b. cond b (Deny 8 setup.tries) (account_verdict setup events s user now (account_of setup user))) (sym (tries_recent setup events recent worker r (t.some h)))
    ∙ t.left h

info_own : (t : Bool) (number a b : ℕ) → rests_on_accounts (cond t (Permit a) (Deny 22 number)) ≡ false → cond t (Permit a) (Deny 22 number) ≡ cond t (Permit b) (Deny 22 number)
info_own true number a b h = absurd cc
info_own false number a b h = refl

info_left : (t : Bool) (number a b : ℕ) → rests_on_accounts (cond t (Permit a) (Deny 22 number)) ≡ true → Permit b ≡ cond t (Permit b) (Deny 22 number)
info_left true number a b h = refl
info_left false number a b h = absurd cc

abbrev info_value : Settings → List Event → ℕ → ℕ
info_value setup xs s = sequence_of xs (account_named setup (verified_user xs s))

info_quiet : (setup : Settings) (events recent : List Event) (worker number : ℕ) → IsRecent recent worker events → open_session_of recent worker ≡ open_session_of events worker → rests_on_accounts (verdict_of setup recent worker (asks.Info number)) ≡ false → verdict_of setup recent worker (asks.Info number) ≡ verdict_of setup events worker (asks.Info number)
unfolding kind_verdict info_verdict
info_quiet setup events recent worker number r same h = (told setup events recent worker (asks.Info number) kinds.Info r same refl refl refl).own h (λ some quiet.
    let s : ℕ = open_session_of events worker in
    info_own (list_any (nat_eq number) setup.info) number (info_value setup recent s) (info_value setup events s) quiet)

pub info_is : (setup : Settings) (events recent : List Event) (worker number : ℕ) → IsRecent recent worker events → open_session_of recent worker ≡ open_session_of events worker → rests_on_accounts (verdict_of setup recent worker (asks.Info number)) ≡ true → (open_session_of events worker ≢ 0) × (Permit (sequence_of events (account_named setup (verified_user events (open_session_of events worker)))) ≡ verdict_of setup events worker (asks.Info number))
unfolding kind_verdict info_verdict
info_is setup events recent worker number r same h =
    let t = told setup events recent worker (asks.Info number) kinds.Info r same refl refl refl in
    let s : ℕ = open_session_of events worker in
    (t.some h, info_left (list_any (nat_eq number) setup.info) number (info_value setup recent s) (info_value setup events s) (t.resting h) ∙ t.left h)

silent_rests : (setup : Settings) (xs : List Event) (s : ℕ) → rests_on_accounts (kind_verdict setup xs s (asks.Reply None None)) ≡ true
unfolding kind_verdict reply_verdict
silent_rests setup xs s = go (was_decoyed xs s) (challenged_user xs s) where
  go : (b : Bool) (o : Option Name) → rests_on_accounts (cond b (Deny 14 0) (login_verdict setup xs s [] o)) ≡ true
  go true o = refl
  go false None = refl
  go false (Some user) = by (not (is_holder s (holder_of xs user))) where
    by : (b : Bool) → rests_on_accounts (cond b (Deny 13 (session_taking (last_taking_of xs user))) (Deny 14 0)) ≡ true
    by true = refl
    by false = refl

reply_quiet : (setup : Settings) (events recent : List Event) (worker : ℕ) → IsRecent recent worker events → open_session_of recent worker ≡ open_session_of events worker → rests_on_accounts (verdict_of setup recent worker (asks.Reply None None)) ≡ false → verdict_of setup recent worker (asks.Reply None None) ≡ verdict_of setup events worker (asks.Reply None None)
reply_quiet setup events recent worker r same h = (told setup events recent worker (asks.Reply None None) kinds.Reply r same refl refl refl).own h (λ some quiet. absurd (false≢true (sym quiet ∙ silent_rests setup recent (open_session_of events worker))))

pub reply_is : (setup : Settings) (events recent : List Event) (worker : ℕ) (words hex : Option ℕ) → without_readings (asks.Reply words hex) ≡ asks.Reply words hex → IsRecent recent worker events → open_session_of recent worker ≡ open_session_of events worker → rests_on_accounts (verdict_of setup recent worker (asks.Reply words hex)) ≡ true → (open_session_of events worker ≢ 0) × (reply_verdict setup events (open_session_of events worker) None None ≡ verdict_of setup events worker (asks.Reply words hex))
unfolding kind_verdict
reply_is setup events recent worker words hex shown r same h =
    let t = told setup events recent worker (asks.Reply None None) kinds.Reply r same refl refl refl in
    let rests : rests_on_accounts (verdict_of setup recent worker (asks.Reply None None)) ≡ true = ap (λ a. rests_on_accounts (verdict_of setup recent worker a)) shown ∙ h in
    (t.some rests, t.left rests ∙ ap (verdict_of setup events worker) shown)

-- 4. An opening

begin_quiet : (setup : Settings) (events recent : List Event) (worker : ℕ) → open_session_of recent worker ≡ open_session_of events worker → rests_on_accounts (verdict_of setup recent worker asks.Begin) ≡ false → verdict_of setup recent worker asks.Begin ≡ verdict_of setup events worker asks.Begin
unfolding verdict_of
begin_quiet setup events recent worker same h = go (eqb (open_session_of recent worker) 0) h ∙ ap (λ n. cond (eqb n 0) (Permit (openings_of events + 1)) (Deny 6 0)) same where
  go : (b : Bool) → rests_on_accounts (cond b (Permit (openings_of recent + 1)) (Deny 6 0)) ≡ false → cond b (Permit (openings_of recent + 1)) (Deny 6 0) ≡ cond b (Permit (openings_of events + 1)) (Deny 6 0)
  go true h = absurd cc
  go false h = refl

pub begin_is : (setup : Settings) (events recent : List Event) (worker : ℕ) → open_session_of recent worker ≡ open_session_of events worker → rests_on_accounts (verdict_of setup recent worker asks.Begin) ≡ true → Permit (openings_of events + 1) ≡ verdict_of setup events worker asks.Begin
unfolding verdict_of
begin_is setup events recent worker same h = go (eqb (open_session_of recent worker) 0) h ∙ ap (λ n. cond (eqb n 0) (Permit (openings_of events + 1)) (Deny 6 0)) same where
  go : (b : Bool) → rests_on_accounts (cond b (Permit (openings_of recent + 1)) (Deny 6 0)) ≡ true → Permit (openings_of events + 1) ≡ cond b (Permit (openings_of events + 1)) (Deny 6 0)
  go true h = refl
  go false h = absurd cc

-- what rests on no account is the same over the end of a log
pub quiet_is : (setup : Settings) (events recent : List Event) (worker : ℕ) (ask : Ask) → without_readings ask ≡ ask → is_local ask ≡ false → IsRecent recent worker events → open_session_of recent worker ≡ open_session_of events worker → rests_on_accounts (verdict_of setup recent worker ask) ≡ false → verdict_of setup recent worker ask ≡ verdict_of setup events worker ask
quiet_is setup events recent worker asks.Begin shown local r same h = begin_quiet setup events recent worker same h
quiet_is setup events recent worker (asks.Challenge user now) shown local r same h = challenge_quiet setup events recent worker user now r same h
quiet_is setup events recent worker (asks.Info number) shown local r same h = info_quiet setup events recent worker number r same h
quiet_is setup events recent worker (asks.Reply words hex) shown local r same h =
    ap (verdict_of setup recent worker) (sym shown)
    ∙ reply_quiet setup events recent worker r same (ap (λ a. rests_on_accounts (verdict_of setup recent worker a)) shown ∙ h)
    ∙ ap (verdict_of setup events worker) shown
quiet_is setup events recent worker _ shown local r same h = absurd cc

-- an ask that is none of the three is an opening
pub other_is : (setup : Settings) (events recent : List Event) (worker : ℕ) (ask : Ask) → is_local ask ≡ false → ((user : Name) (now : ℕ) → ask ≢ asks.Challenge user now) → ((words hex : Option ℕ) → ask ≢ asks.Reply words hex) → ((number : ℕ) → ask ≢ asks.Info number) → open_session_of recent worker ≡ open_session_of events worker → rests_on_accounts (verdict_of setup recent worker ask) ≡ true → Permit (openings_of events + 1) ≡ verdict_of setup events worker ask
other_is setup events recent worker asks.Begin local a b c same h = begin_is setup events recent worker same h
other_is setup events recent worker (asks.Challenge user now) local a b c same h = absurd (a user now refl)
other_is setup events recent worker (asks.Reply words hex) local a b c same h = absurd (b words hex refl)
other_is setup events recent worker (asks.Info number) local a b c same h = absurd (c number refl)
other_is setup events recent worker _ local a b c same h = absurd cc
