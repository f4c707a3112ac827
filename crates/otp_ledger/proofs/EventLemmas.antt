-- What one more event makes of what a journal says of an account.
use Rattle.std.proofs.Common.{◌≡◌, ◌≢◌, ℕ, ◌-◌, Bool, true, false, not, ◌&&◌, ◌||◌, ◌==◌, cond, eqb, List, [], ◌∷◌, ◌++◌, length, Option, Some, None, refl, sym, ap, ◌∙◌, arith, inl, inr, ◌⊎◌}
use Rattle.std.specs.Prelude.{nat_lt}
use Rattle.std.specs.List.{list_any}
use Rattle.std.specs.Option.{option_to_list}
use Rattle.std.proofs.lemmas.Bool.{cases_eq, false≢true}
use Rattle.std.proofs.lemmas.Bool.Decides.{nat_tests}
use Rattle.std.proofs.lemmas.List.{append-nil, length-append}
use Rattle.std.proofs.lemmas.List.Folds.{list_any-append}
use Rattle.request_catalogue.specs.declared.texts.Name.{Name}
use Rattle.policy_model.specs.declared.account.Account.{Account}
use Rattle.policy_model.specs.declared.event.Ask.{Ask}
use Rattle.policy_model.specs.declared.event.Ask.TheVariants as asks
use Rattle.policy_model.specs.declared.event.Decision.{Decision}
use Rattle.policy_model.specs.declared.event.Decision.TheVariants.{Permit, Deny, Lost}
use Rattle.policy_model.specs.declared.event.Event.{Event}
use Rattle.policy_model.specs.declared.reading.TheConstants.{DECOYS_FROM}
use Rattle.policy_model.specs.Asks.{accepts, ends_session, gives_up, is_begin, is_end, is_lost, is_permit, is_violation, moment_of, opens, reserves, value_of, is_user}
use Rattle.policy_model.specs.Cases.{is_abandon, is_challenge_for, is_finish, is_reply, holder_by, is_holder, taking_moment}
use Rattle.policy_model.specs.Journal.{events_of, is_own}
use Rattle.policy_model.specs.Logins.{challenged_user, holder_of, last_taking_of, replies_of, reply_for, session_taking, was_given_up}
use Rattle.policy_model.specs.Phases.{is_over}
use Rattle.policy_model.proofs.Lists.{filter-push}
use Rattle.policy_model.proofs.LoginLemmas.{last_taking_of-push, replies_of-push, was_given_up-push}
use Rattle.otp_ledger.specs.Accounts.{AccountState, accepting, holding, releasing}
use Rattle.otp_ledger.specs.Standing.{state_by}

-- 1. Whether a session is over

events_of-other : (journal : List Event) (e : Event) (session : ℕ) → e.session ≢ session → events_of (journal ++ e ∷ []) session ≡ events_of journal session
events_of-other journal e session other =
    let apart : eqb e.session session ≡ false = grind (arith, nat_tests, other) in
    filter-push (λ x. x.session == session) journal e ∙ rw apart (append-nil (events_of journal session))

events_of-own : (journal : List Event) (e : Event) (session : ℕ) → e.session ≡ session → events_of (journal ++ e ∷ []) session ≡ events_of journal session ++ e ∷ []
events_of-own journal e session own =
    let same : eqb e.session session ≡ true = grind (arith, nat_tests, own) in
    filter-push (λ x. x.session == session) journal e ∙ rw same refl

or_rest : (a b : Bool) → (a || (b || false)) ≡ (a || b)
or_rest true b = refl
or_rest false true = refl
or_rest false false = refl

or_false : (b : Bool) → (b || false) ≡ b
or_false true = refl
or_false false = refl

is_over-own : (journal : List Event) (e : Event) (session : ℕ) → e.session ≡ session → opens e ≡ false → is_over (journal ++ e ∷ []) session ≡ (is_over journal session || ends_session e)
is_over-own journal e session own closed =
    ap (λ es. not (list_any opens es) || list_any ends_session es) (events_of-own journal e session own)
    ∙ ap (λ b. not b || list_any ends_session (events_of journal session ++ e ∷ [])) (list_any-append opens (events_of journal session) (e ∷ []) ∙ or_rest (list_any opens (events_of journal session)) (opens e))
    ∙ ap (λ b. not (list_any opens (events_of journal session) || opens e) || b) (list_any-append ends_session (events_of journal session) (e ∷ []) ∙ or_rest (list_any ends_session (events_of journal session)) (ends_session e))
    ∙ go (list_any opens (events_of journal session)) (list_any ends_session (events_of journal session)) (ends_session e) (opens e) closed where
      go : (a b c o : Bool) → o ≡ false → (not (a || o) || (b || c)) ≡ ((not a || b) || c)
      go true b c o h = refl
      go false b c o h = rw h refl

is_over-push : (journal : List Event) (e : Event) (session : ℕ) → opens e ≡ false → is_over (journal ++ e ∷ []) session ≡ (is_over journal session || (e.session == session && ends_session e))
is_over-push journal e session closed = go (cases_eq e.session session) where
  go : (e.session ≡ session) ⊎ (e.session ≢ session) → is_over (journal ++ e ∷ []) session ≡ (is_over journal session || (e.session == session && ends_session e))
  go (inl same) =
      let test : eqb e.session session ≡ true = grind (arith, nat_tests, same) in
      is_over-own journal e session same closed ∙ ap (λ b. is_over journal session || (b && ends_session e)) (sym test)
  go (inr ne) =
      let test : eqb e.session session ≡ false = grind (arith, nat_tests, ne) in
      ap (λ es. not (list_any opens es) || list_any ends_session es) (events_of-other journal e session ne)
      ∙ sym (ap (λ b. is_over journal session || (b && ends_session e)) test ∙ or_false (is_over journal session))

-- 2. What a permitted CHALLENGE isn't, and what gives up or ends

pub record IsQuiet (e : Event) : Type 0 where
  pub opens_none : opens e ≡ false
  pub goes_on : ends_session e ≡ false
  pub gives_none : gives_up e ≡ false
  pub accepts_none : accepts e ≡ false

no_true : (b c : Bool) → ((b && false) && c) ≡ true → ⊥
no_true true c h = absurd cc
no_true false c h = absurd cc

pub quiet : (user : Name) (e : Event) → reserves user e ≡ true → IsQuiet e
quiet user e h = record { opens_none = opening e.ask e.decision h; goes_on = ending e.ask e.decision h; gives_none = giving e.ask e.decision h; accepts_none = accepting_none e.ask e.decision h } where
  opening : (ask : Ask) (d : Decision) → ((is_challenge_for user ask && is_permit d) && nat_lt (value_of d) DECOYS_FROM) ≡ true → (is_begin ask && is_permit d) ≡ false
  opening (asks.Challenge name now) d h = refl
  opening _ d h = absurd cc

  ending : (ask : Ask) (d : Decision) → ((is_challenge_for user ask && is_permit d) && nat_lt (value_of d) DECOYS_FROM) ≡ true → (is_end ask || is_finish ask && is_permit d || is_violation d || is_lost d) ≡ false
  ending (asks.Challenge name now) (Permit value) h = refl
  ending (asks.Challenge name now) (Deny rule detail) h = absurd (no_true (is_challenge_for user (asks.Challenge name now)) (nat_lt 0 DECOYS_FROM) h)
  ending (asks.Challenge name now) Lost h = absurd (no_true (is_challenge_for user (asks.Challenge name now)) (nat_lt 0 DECOYS_FROM) h)
  ending _ d h = absurd cc

  giving : (ask : Ask) (d : Decision) → ((is_challenge_for user ask && is_permit d) && nat_lt (value_of d) DECOYS_FROM) ≡ true → (is_reply ask || is_abandon ask && is_permit d) ≡ false
  giving (asks.Challenge name now) d h = refl
  giving _ d h = absurd cc

  accepting_none : (ask : Ask) (d : Decision) → ((is_challenge_for user ask && is_permit d) && nat_lt (value_of d) DECOYS_FROM) ≡ true → (is_reply ask && is_permit d) ≡ false
  accepting_none (asks.Challenge name now) d h = refl
  accepting_none _ d h = absurd cc

-- what gives up or ends takes nobody, and opens no session
pub leaves_none : (user : Name) (e : Event) → (gives_up e || ends_session e) ≡ true → reserves user e ≡ false
leaves_none user e leaves = go (reserves user e) refl where
  go : (b : Bool) → reserves user e ≡ b → b ≡ false
  go false h = refl
  go true h = let q = quiet user e h in absurd (false≢true (sym (ap (λ b. b || ends_session e) q.gives_none ∙ q.goes_on) ∙ leaves))

pub leaves_closed : (e : Event) → (gives_up e || ends_session e) ≡ true → opens e ≡ false
leaves_closed e leaves = go e.ask e.decision leaves where
  go : (ask : Ask) (d : Decision) → ((is_reply ask || is_abandon ask && is_permit d) || (is_end ask || is_finish ask && is_permit d || is_violation d || is_lost d)) ≡ true → (is_begin ask && is_permit d) ≡ false
  go asks.Begin (Permit value) h = absurd cc
  go asks.Begin (Deny rule detail) h = refl
  go asks.Begin Lost h = refl
  go _ d h = refl

-- a permitted REPLY gives up
pub accepted_leaves : (e : Event) → accepts e ≡ true → (gives_up e || ends_session e) ≡ true
accepted_leaves e h = go (is_reply e.ask) (is_permit e.decision) h where
  go : (r p : Bool) → (r && p) ≡ true → ((r || (is_abandon e.ask && is_permit e.decision)) || ends_session e) ≡ true
  go true p h = refl
  go false p h = absurd cc

-- 3. The holder

-- what an event that takes nobody makes of a holder
abbrev pub holder_after : Option ℕ → Event → Option ℕ
holder_after None e = None
holder_after (Some s) e = cond (e.session == s && (gives_up e || ends_session e)) None (Some s)

holder_taken : (journal : List Event) (e : Event) (user : Name) → reserves user e ≡ true → is_over journal e.session ≡ false → holder_of (journal ++ e ∷ []) user ≡ Some e.session
unfolding holder_of
holder_taken journal e user taken live =
    let q = quiet user e taken in
    let on : is_over (journal ++ e ∷ []) e.session ≡ false = is_over-own journal e e.session refl q.opens_none ∙ ap (λ b. b || ends_session e) live ∙ q.goes_on in
    ap (λ o. holder_by (journal ++ e ∷ []) (was_given_up (journal ++ e ∷ []) user) o) (last_taking_of-push user journal e ∙ ap (λ b. cond b (Some e) (last_taking_of journal user)) taken)
    ∙ ap (λ g. holder_by (journal ++ e ∷ []) g (Some e)) (was_given_up-push user journal e ∙ ap (λ b. not b && (was_given_up journal user || is_own (session_taking (last_taking_of journal user)) gives_up e)) taken)
    ∙ ap (λ b. cond (false || b) None (Some e.session)) on

by_tests : (x : Option ℕ) (s : ℕ) (g v p q a : Bool) → cond ((g || (a && p)) || (v || (a && q))) None (Some s) ≡ cond (g || v) None (cond (a && (p || q)) None (Some s))
by_tests x s true v p q a = refl
by_tests x s false true true q true = refl
by_tests x s false true false q true = refl
by_tests x s false true p q false = refl
by_tests x s false false true q true = refl
by_tests x s false false false true true = refl
by_tests x s false false false false true = refl
by_tests x s false false p q false = refl

after_cond : (b : Bool) (s : ℕ) (e : Event) → holder_after (cond b None (Some s)) e ≡ cond b None (holder_after (Some s) e)
after_cond true s e = refl
after_cond false s e = refl

holder_other : (journal : List Event) (e : Event) (user : Name) → reserves user e ≡ false → opens e ≡ false → holder_of (journal ++ e ∷ []) user ≡ holder_after (holder_of journal user) e
unfolding holder_of
holder_other journal e user kept closed =
    ap (λ o. holder_by (journal ++ e ∷ []) (was_given_up (journal ++ e ∷ []) user) o) (last_taking_of-push user journal e ∙ ap (λ b. cond b (Some e) (last_taking_of journal user)) kept)
    ∙ ap (λ g. holder_by (journal ++ e ∷ []) g (last_taking_of journal user)) (was_given_up-push user journal e ∙ ap (λ b. not b && (was_given_up journal user || is_own (session_taking (last_taking_of journal user)) gives_up e)) kept)
    ∙ go (last_taking_of journal user) where
      go : (o : Option Event) → holder_by (journal ++ e ∷ []) (was_given_up journal user || is_own (session_taking o) gives_up e) o ≡ holder_after (holder_by journal (was_given_up journal user) o) e
      go None = refl
      go (Some t) =
          ap (λ b. cond ((was_given_up journal user || (e.session == t.session && gives_up e)) || b) None (Some t.session)) (is_over-push journal e t.session closed)
          ∙ by_tests None t.session (was_given_up journal user) (is_over journal t.session) (gives_up e) (ends_session e) (eqb e.session t.session)
          ∙ sym (after_cond (was_given_up journal user || is_over journal t.session) t.session e)

after_none : (o : Option ℕ) (e : Event) → (gives_up e || ends_session e) ≡ false → holder_after o e ≡ o
after_none None e h = refl
after_none (Some s) e h = ap (λ b. cond (e.session == s && b) None (Some s)) h ∙ go (e.session == s) where
  go : (b : Bool) → cond (b && false) None (Some s) ≡ Some s
  go true = refl
  go false = refl

after_other : (o : Option ℕ) (e : Event) → is_holder e.session o ≡ false → holder_after o e ≡ o
after_other None e h = refl
after_other (Some s) e h = go (e.session == s) refl where
  turned : (s == e.session) ≡ (e.session == s)
  turned = grind (arith, nat_tests)

  go : (b : Bool) → (e.session == s) ≡ b → cond (b && (gives_up e || ends_session e)) None (Some s) ≡ Some s
  go false is = refl
  go true is = absurd (false≢true (sym h ∙ turned ∙ is))

after_leaving : (o : Option ℕ) (e : Event) → (gives_up e || ends_session e) ≡ true → holder_after o e ≡ cond (is_holder e.session o) None o
after_leaving None e h = refl
after_leaving (Some s) e h = ap (λ b. cond (e.session == s && b) None (Some s)) h ∙ go (e.session == s) (s == e.session) turned where
  turned : (e.session == s) ≡ (s == e.session)
  turned = grind (arith, nat_tests)

  go : (a b : Bool) → a ≡ b → cond (a && true) None (Some s) ≡ cond b None (Some s)
  go true b h = ap (λ (x : Bool). cond x None (Some s)) h
  go false b h = ap (λ (x : Bool). cond x None (Some s)) h

-- 4. The account

-- an account by the passwords of its replies, its last taking and its holder
abbrev state_with : Account → List ℕ → Option Event → Option ℕ → AccountState
state_with a replies taking holder = record {
  algo = a.algo;
  enabled = a.enabled;
  accepted = a.password ∷ replies;
  sequence = a.sequence - length replies;
  taker = session_taking taking;
  moment = taking_moment taking;
  holder = holder;
}

state_is : (journal : List Event) (e : Event) (a : Account) (replies : List ℕ) (taking : Option Event) (holder : Option ℕ) → replies_of (journal ++ e ∷ []) a.name ≡ replies → last_taking_of (journal ++ e ∷ []) a.name ≡ taking → holder_of (journal ++ e ∷ []) a.name ≡ holder → state_by (journal ++ e ∷ []) a ≡ state_with a replies taking holder
state_is journal e a replies taking holder p q r =
    ap (λ xs. state_with a xs (last_taking_of (journal ++ e ∷ []) a.name) (holder_of (journal ++ e ∷ []) a.name)) p
    ∙ ap (λ t. state_with a replies t (holder_of (journal ++ e ∷ []) a.name)) q
    ∙ ap (state_with a replies taking) r

no_reply : (journal : List Event) (e : Event) (user : Name) → reply_for user (record { before = journal; event = e }) ≡ None → replies_of (journal ++ e ∷ []) user ≡ replies_of journal user
no_reply journal e user none = replies_of-push user journal e ∙ ap (λ o. replies_of journal user ++ option_to_list o) none ∙ append-nil (replies_of journal user)

unaccepted : (journal : List Event) (e : Event) (user : Name) → accepts e ≡ false → reply_for user (record { before = journal; event = e }) ≡ None
unaccepted journal e user h = ap (λ b. cond (b && is_user user (challenged_user journal e.session)) (Some (value_of e.decision)) None) h

same_taking : (journal : List Event) (e : Event) (user : Name) → reserves user e ≡ false → last_taking_of (journal ++ e ∷ []) user ≡ last_taking_of journal user
same_taking journal e user kept = last_taking_of-push user journal e ∙ ap (λ b. cond b (Some e) (last_taking_of journal user)) kept

-- its user is taken
pub state_taken : (journal : List Event) (e : Event) (a : Account) → reserves a.name e ≡ true → is_over journal e.session ≡ false → state_by (journal ++ e ∷ []) a ≡ holding (state_by journal a) e.session (moment_of e.ask)
state_taken journal e a taken live =
    state_is journal e a (replies_of journal a.name) (Some e) (Some e.session)
    (no_reply journal e a.name (unaccepted journal e a.name (quiet a.name e taken).accepts_none))
    (last_taking_of-push a.name journal e ∙ ap (λ b. cond b (Some e) (last_taking_of journal a.name)) taken)
    (holder_taken journal e a.name taken live)

-- an event that changes nothing
pub state_stays : (journal : List Event) (e : Event) (a : Account) → reserves a.name e ≡ false → opens e ≡ false → reply_for a.name (record { before = journal; event = e }) ≡ None → holder_after (holder_of journal a.name) e ≡ holder_of journal a.name → state_by (journal ++ e ∷ []) a ≡ state_by journal a
state_stays journal e a kept closed none same =
    state_is journal e a (replies_of journal a.name) (last_taking_of journal a.name) (holder_of journal a.name)
    (no_reply journal e a.name none) (same_taking journal e a.name kept) (holder_other journal e a.name kept closed ∙ same)

pub state_quiet : (journal : List Event) (e : Event) (a : Account) → reserves a.name e ≡ false → IsQuiet e → state_by (journal ++ e ∷ []) a ≡ state_by journal a
state_quiet journal e a kept q =
    state_stays journal e a kept q.opens_none (unaccepted journal e a.name q.accepts_none) (after_none (holder_of journal a.name) e (ap (λ b. b || ends_session e) q.gives_none ∙ q.goes_on))

pub state_unheld : (journal : List Event) (e : Event) (a : Account) → (gives_up e || ends_session e) ≡ true → reply_for a.name (record { before = journal; event = e }) ≡ None → is_holder e.session (holder_of journal a.name) ≡ false → state_by (journal ++ e ∷ []) a ≡ state_by journal a
state_unheld journal e a leaves none unheld =
    state_stays journal e a (leaves_none a.name e leaves) (leaves_closed e leaves) none (after_other (holder_of journal a.name) e unheld)

-- a session gives up or ends
pub state_left : (journal : List Event) (e : Event) (a : Account) → (gives_up e || ends_session e) ≡ true → accepts e ≡ false → state_by (journal ++ e ∷ []) a ≡ releasing (state_by journal a) e.session
state_left journal e a leaves unreplied =
    state_is journal e a (replies_of journal a.name) (last_taking_of journal a.name) (cond (is_holder e.session (holder_of journal a.name)) None (holder_of journal a.name))
    (no_reply journal e a.name (unaccepted journal e a.name unreplied)) (same_taking journal e a.name (leaves_none a.name e leaves))
    (holder_other journal e a.name (leaves_none a.name e leaves) (leaves_closed e leaves) ∙ after_leaving (holder_of journal a.name) e leaves)

-- a password is accepted
pub state_replied : (journal : List Event) (e : Event) (a : Account) → accepts e ≡ true → reply_for a.name (record { before = journal; event = e }) ≡ Some (value_of e.decision) → state_by (journal ++ e ∷ []) a ≡ releasing (accepting (state_by journal a) (value_of e.decision)) e.session
state_replied journal e a accepted reply =
    let leaves = accepted_leaves e accepted in
    let password : ℕ = value_of e.decision in
    let replies : List ℕ = replies_of journal a.name in
    let after : Option ℕ = cond (is_holder e.session (holder_of journal a.name)) None (holder_of journal a.name) in
    let more : a.sequence - length (replies ++ password ∷ []) ≡ a.sequence - length replies - 1 = omega (arith, length-append replies (password ∷ [])) in
    state_is journal e a (replies ++ password ∷ []) (last_taking_of journal a.name) after
    (replies_of-push a.name journal e ∙ ap (λ o. replies ++ option_to_list o) reply) (same_taking journal e a.name (leaves_none a.name e leaves))
    (holder_other journal e a.name (leaves_none a.name e leaves) (leaves_closed e leaves) ∙ after_leaving (holder_of journal a.name) e leaves)
    ∙ ap (λ (n : ℕ). record { algo = a.algo; enabled = a.enabled; accepted = a.password ∷ replies ++ password ∷ []; sequence = n; taker = session_taking (last_taking_of journal a.name); moment = taking_moment (last_taking_of journal a.name); holder = after }) more
