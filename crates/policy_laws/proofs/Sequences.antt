-- How a user's sequence falls, and who takes a user, in a legal journal.
use Rattle.std.proofs.Common.{◌≡◌, ℕ, zero, suc, ◌+◌, ◌-◌, ◌≤◌, ◌<◌, Bool, true, false, not, ◌&&◌, ◌||◌, ◌⊎◌, inl, inr, cond, eqb, List, [], ◌∷◌, ◌++◌, length, filter, get_or, take, Option, Some, None, is_some, refl, sym, ap, subst, ◌∙◌, arith}
use Rattle.std.specs.Prelude.{nat_lt, slice_get}
use Rattle.std.specs.List.{last_or}
use Rattle.std.specs.Option.{option_to_list}
use Rattle.std.proofs.lemmas.Bool.{and_parts, cases_lt, eqb-true, false≢true, or_parts}
use Rattle.std.proofs.lemmas.Bool.Decides.{nat_tests}
use Rattle.std.proofs.lemmas.Option.{get_or_from_slice_get, slice_get_within}
use Rattle.std.proofs.lemmas.List.{get_or-take, length-take-le, take-take, take_all, take_more}
use Rattle.request_catalogue.specs.declared.texts.Name.{Name}
use Rattle.policy_model.specs.declared.account.Account.{Account}
use Rattle.policy_model.specs.declared.event.Ask.{Ask}
use Rattle.policy_model.specs.declared.event.Ask.TheVariants as asks
use Rattle.policy_model.specs.declared.event.Event.{Event}
use Rattle.policy_model.specs.declared.reading.TheConstants.{DECOYS_FROM}
use Rattle.policy_laws.specs.Consequences.{OneTakerAtATime, SequenceFalls}
use Rattle.policy_model.specs.Asks.{accepts, gives_up, is_permit, reserves, takes_user, value_of, is_user}
use Rattle.policy_model.specs.Cases.{is_challenge_for, is_reply, is_abandon, holder_by, is_holder}
use Rattle.policy_model.specs.Journal.{Place, is_own}
use Rattle.policy_model.specs.Legal.{IsLegal, IsNext}
use Rattle.policy_model.specs.Logins.{account_of, current_sequence, holder_of, is_live, challenged_user, last_taking_of, replies_of, reply_for, session_taking, was_given_up}
use Rattle.policy_model.specs.Phases.{is_over}
use Rattle.policy_model.specs.Settings.{Settings}
use Rattle.policy_model.proofs.LoginLemmas.{count_replies-push, last_taking_of-last, last_taking_of-none, last_taking_of-push, replies_of-none, was_given_up-push}
use Rattle.policy_model.proofs.Lists.{stands_at}
use Rattle.session_laws.proofs.ByEvents.{by_events, some_event}
use Rattle.session_laws.proofs.Permits.{found_name, live_challenge, new_reply, same_some, taken_challenge}

-- the holder of a user took it last, and didn't give it up
pub record Holds (journal : List Event) (session : ℕ) (user : Name) : Type 0 where
  pub taking : Event
  pub last : last_taking_of journal user ≡ Some taking
  pub own : taking.session ≡ session
  pub kept : was_given_up journal user ≡ false

holds_by : (journal : List Event) (session : ℕ) (given over : Bool) (t : Event) → is_holder session (cond (given || over) None (Some t.session)) ≡ true → (given ≡ false) × (t.session ≡ session)
holds_by journal session true over t h = absurd cc
holds_by journal session false true t h = absurd cc
holds_by journal session false false t h = (refl, eqb-true t.session session h)

pub holder_holds : (journal : List Event) (session : ℕ) (user : Name) → is_holder session (holder_of journal user) ≡ true → Holds journal session user
unfolding holder_of
holder_holds journal session user h = go (last_taking_of journal user) refl h where
  go : (o : Option Event) → last_taking_of journal user ≡ o → is_holder session (holder_by journal (was_given_up journal user) o) ≡ true → Holds journal session user
  go None is held = absurd cc
  go (Some t) is held =
      let both = holds_by journal session (was_given_up journal user) (is_over journal t.session) t held in
      record { taking = t; last = is; own = both.1; kept = both.0 }

eqb_same : (n : ℕ) → eqb n n ≡ true
eqb_same n = grind (arith, nat_tests)

-- a REPLY gives its session's user up
reply_gives_up : (e : Event) → accepts e ≡ true → gives_up e ≡ true
reply_gives_up e h = ap (λ b. b || is_abandon e.ask && is_permit e.decision) (and_parts (is_reply e.ask) (is_permit e.decision) h).0

reply_accepts : (journal : List Event) (e : Event) (user : Name) (password : ℕ) → reply_for user (record { before = journal; event = e }) ≡ Some password → accepts e ≡ true
reply_accepts journal e user password h = go (accepts e && is_user user (challenged_user journal e.session)) refl h where
  go : (b : Bool) → (accepts e && is_user user (challenged_user journal e.session)) ≡ b → cond b (Some (value_of e.decision)) None ≡ Some password → accepts e ≡ true
  go false is held = absurd cc
  go true is held = (and_parts (accepts e) _ is).0

-- a user that is taken and not given up has a password left, and never more were accepted than there were
pub record HasLeft (setup : Settings) (journal : List Event) (user : Name) (account : Account) : Type 0 where
  pub left : (taking : Event) → last_taking_of journal user ≡ Some taking → was_given_up journal user ≡ false → length (replies_of journal user) < account.sequence
  pub few : length (replies_of journal user) ≤ account.sequence

no_taking : (user : Name) (ask : Ask) → is_reply ask ≡ true → is_challenge_for user ask ≡ false
no_taking user (asks.Reply words hex) h = refl
no_taking user _ h = absurd cc

reply_takes_none : (e : Event) (user : Name) → accepts e ≡ true → reserves user e ≡ false
reply_takes_none e user h = ap (λ b. (b && is_permit e.decision) && nat_lt (value_of e.decision) DECOYS_FROM) (no_taking user e.ask (and_parts (is_reply e.ask) (is_permit e.decision) h).0)

not_zero : (a b : ℕ) → eqb (a - b) 0 ≡ false → b < a
not_zero a b h = grind (arith, nat_tests)

pub sequences : (setup : Settings) (journal : List Event) → IsLegal setup journal → (user : Name) (account : Account) → account_of setup user ≡ Some account → HasLeft setup journal user account
sequences setup journal legal = by_events setup Left none more journal legal where
  Left : List Event → Type 0
  Left j = (user : Name) (account : Account) → account_of setup user ≡ Some account → HasLeft setup j user account

  none : Left []
  none user account found =
      let n : length (replies_of [] user) ≡ 0 = ap length (replies_of-none user) in
      record {
        left = λ taking last kept. let h : None ≡ Some taking = sym (last_taking_of-none user) ∙ last in absurd cc;
        few = omega (arith, n);
      }

  more : (j : List Event) (e : Event) → IsNext setup j e → Left j → Left (j ++ e ∷ [])
  more j e next before user account found = go (reply_for user (record { before = j; event = e })) refl (reserves user e) refl where
    old : HasLeft setup j user account
    old = before user account found

    count : length (replies_of (j ++ e ∷ []) user) ≡ length (replies_of j user) + length (option_to_list (reply_for user (record { before = j; event = e })))
    count = count_replies-push user j e

    go : (o : Option ℕ) → reply_for user (record { before = j; event = e }) ≡ o → (b : Bool) → reserves user e ≡ b → HasLeft setup (j ++ e ∷ []) user account
    go (Some password) is b taken =
        let a = new_reply setup j e user password next is in
        let h = holder_holds j e.session user a.holds in
        let left : length (replies_of j user) < account.sequence = old.left h.taking h.last h.kept in
        let one : length (option_to_list (reply_for user (record { before = j; event = e }))) ≡ 1 = ap (λ o. length (option_to_list o)) is in
        let gives : is_own (session_taking (last_taking_of j user)) gives_up e ≡ true = ap (λ o. is_own (session_taking o) gives_up e) h.last ∙ rw (h.own, eqb_same e.session) (reply_gives_up e (reply_accepts j e user password is)) in
        let given : reserves user e ≡ false → was_given_up (j ++ e ∷ []) user ≡ true = λ other. was_given_up-push user j e ∙ rw (other, h.kept, gives) refl in
        record {
          left = λ taking last kept. absurd (false≢true (sym kept ∙ given (reply_takes_none e user (reply_accepts j e user password is))));
          few = omega (arith, count, one, left);
        }
    go None is true taken =
        let t = taken_challenge setup j e user next taken in
        let same : current_sequence j t.account ≡ account.sequence - length (replies_of j user) =
        ap (current_sequence j) (same_some t.account account (sym t.found ∙ found)) ∙ ap (λ u. account.sequence - length (replies_of j u)) (found_name setup user account found) in
        let some : length (replies_of j user) < account.sequence = not_zero account.sequence (length (replies_of j user)) (ap (λ n. eqb n 0) (sym same) ∙ t.some) in
        let all : length (replies_of (j ++ e ∷ []) user) ≡ length (replies_of j user) = count ∙ ap (λ o. length (replies_of j user) + length (option_to_list o)) is ∙ omega arith in
        record { left = λ taking last kept. omega (arith, all, some); few = omega (arith, all, some) }
    go None is false other =
        let all : length (replies_of (j ++ e ∷ []) user) ≡ length (replies_of j user) = count ∙ ap (λ o. length (replies_of j user) + length (option_to_list o)) is ∙ omega arith in
        let few = old.few in
        record {
          left = λ taking last kept.
              let last' : last_taking_of j user ≡ Some taking = sym (ap (λ b. cond b (Some e) (last_taking_of j user)) other) ∙ sym (last_taking_of-push user j e) ∙ last in
              let given : (was_given_up j user || is_own (session_taking (last_taking_of j user)) gives_up e) ≡ false = sym (ap (λ b. not b && (was_given_up j user || is_own (session_taking (last_taking_of j user)) gives_up e)) other) ∙ sym (was_given_up-push user j e) ∙ kept in
              let left = old.left taking last' (or_parts (was_given_up j user) _ given).0 in
              omega (arith, all, left);
          few = omega (arith, all, few);
        }

-- a user's permitted replies grow in number along a journal
pub replies_of-grow : (user : Name) (journal : List Event) (i n : ℕ) → length (replies_of (take i journal) user) ≤ length (replies_of (take (i + n) journal) user)
replies_of-grow user journal i zero = omega (arith, ap (λ k. length (replies_of (take k journal) user)) (let e : i + 0 ≡ i = omega arith in e))
replies_of-grow user journal i (suc n) =
    elim (cases_lt (i + n) (length journal)) [
      | inl lt ↦
          let step : take (i + suc n) journal ≡ take (i + n) journal ++ get_or journal (i + n) some_event ∷ [] = ap (λ k. take k journal) (omega arith) ∙ take_more journal (i + n) some_event lt in
          omega (arith, replies_of-grow user journal i n, ap (λ j. length (replies_of j user)) step ∙ count_replies-push user (take (i + n) journal) (get_or journal (i + n) some_event))
      | inr le ↦
          let same : take (i + suc n) journal ≡ take (i + n) journal = take_all (i + suc n) journal (omega arith) ∙ sym (take_all (i + n) journal le) in
          omega (arith, replies_of-grow user journal i n, ap (λ j. length (replies_of j user)) same)
    ]

-- the front of a legal journal is legal
pub IsLegal-take : (setup : Settings) (journal : List Event) (n : ℕ) → n ≤ length journal → IsLegal setup journal → IsLegal setup (take n journal)
IsLegal-take setup journal n le legal k d lt =
    let within : k < n = omega (arith, length-take-le n journal le) in
    subst (λ e. IsNext setup (take k (take n journal)) e) (sym (get_or-take n journal k d within))
    (subst (λ j. IsNext setup j (get_or journal k d)) (sym (take-take k n journal (omega arith))) (legal k d (omega arith)))

replies_of-le : (user : Name) (journal : List Event) (i k : ℕ) → i ≤ k → length (replies_of (take i journal) user) ≤ length (replies_of (take k journal) user)
replies_of-le user journal i k le =
    let all : i + (k - i) ≡ k = omega arith in
    subst (λ n. length (replies_of (take i journal) user) ≤ length (replies_of (take n journal) user)) all (replies_of-grow user journal i (k - i))

one_reply : (o : Option ℕ) → is_some o ≡ true → length (option_to_list o) ≡ 1
one_reply None h = absurd cc
one_reply (Some x) h = refl

-- what a permitted CHALLENGE at a place names
taken_number : (setup : Settings) (journal : List Event) → IsLegal setup journal → (user : Name) (account : Account) (i : ℕ) (d : Event) → i < length journal → account_of setup user ≡ Some account → reserves user (get_or journal i d) ≡ true → (length (replies_of (take i journal) user) < account.sequence) × (value_of (get_or journal i d).decision ≡ account.sequence - length (replies_of (take i journal) user) - 1)
taken_number setup journal legal user account i d lt found taken =
    let t = taken_challenge setup (take i journal) (get_or journal i d) user (legal i d lt) taken in
    let same : current_sequence (take i journal) t.account ≡ account.sequence - length (replies_of (take i journal) user) =
    ap (current_sequence (take i journal)) (same_some t.account account (sym t.found ∙ found)) ∙ ap (λ u. account.sequence - length (replies_of (take i journal) u)) (found_name setup user account found) in
    (not_zero account.sequence (length (replies_of (take i journal) user)) (ap (λ n. eqb n 0) (sym same) ∙ t.some), t.is ∙ ap (λ n. n - 1) same)

-- a user's sequence falls
falls_at : (setup : Settings) (journal : List Event) → IsLegal setup journal → (user : Name) (i k j : ℕ) (d : Event) → i < k → k < j → j < length journal → reserves user (get_or journal i d) ≡ true → is_some (reply_for user (record { before = take k journal; event = get_or journal k d })) ≡ true → reserves user (get_or journal j d) ≡ true → value_of (get_or journal j d).decision < value_of (get_or journal i d).decision
falls_at setup journal legal user i k j d ik kj jn first reply last =
    let t = taken_challenge setup (take i journal) (get_or journal i d) user (legal i d (omega arith)) first in
    let a = taken_number setup journal legal user t.account i d (omega arith) t.found first in
    let b = taken_number setup journal legal user t.account j d (omega arith) t.found last in
    let before = replies_of-le user journal i k (omega arith) in
    let after = replies_of-le user journal (k + 1) j (omega arith) in
    let one : length (replies_of (take (k + 1) journal) user) ≡ length (replies_of (take k journal) user) + 1 =
    ap (λ x. length (replies_of x user)) (take_more journal k d (omega arith))
    ∙ count_replies-push user (take k journal) (get_or journal k d)
    ∙ ap (λ n. length (replies_of (take k journal) user) + n) (one_reply (reply_for user (record { before = take k journal; event = get_or journal k d })) reply) in
    omega (arith, a.0, a.1, b.0, b.1, before, after, one)

pub sequence_falls : (setup : Settings) (journal : List Event) → IsLegal setup journal → SequenceFalls setup journal
sequence_falls setup journal legal = record {
  few = λ user account found. (sequences setup journal legal user account found).few;
  falls = λ user i k j earlier reply later ik kj a b c.
      let at : (n : ℕ) (e : Event) → slice_get journal n ≡ Some e → get_or journal n some_event ≡ e = λ n e h. get_or_from_slice_get journal n e some_event h in
      let falls =
      falls_at setup journal legal user i k j some_event ik kj (slice_get_within journal j later c.stands) (ap (reserves user) (at i earlier a.stands) ∙ a.passes)
      (ap (λ e. is_some (reply_for user (let p : Place = record { before = take k journal; event = e } in p))) (at k reply b.stands) ∙ b.replies) (ap (reserves user) (at j later c.stands) ∙ c.passes) in
      subst (λ e. value_of later.decision < value_of e.decision) (at i earlier a.stands) (subst (λ e. value_of e.decision < value_of (get_or journal i some_event).decision) (at j later c.stands) falls);
}

-- where the last that passes stands, if one passes at a place
record LastAt (X : Type 0) (p : X → Bool) (o : Option X) (xs : List X) (m : ℕ) (d : X) : Type 0 where
  pub place : ℕ
  pub from : m ≤ place
  pub within : place < length xs
  pub passes : p (get_or xs place d) ≡ true
  pub last : last_or o (filter p xs) ≡ Some (get_or xs place d)

last_from : {X : Type 0} (p : X → Bool) (o : Option X) (xs : List X) (d : X) → (last_or o (filter p xs) ≡ o) ⊎ LastAt X p o xs 0 d
last_from p o [] d = inl refl
last_from {X} p o (x ∷ xs) d = go (p x) refl (last_from p (Some x) xs d) (last_from p o xs d) where
  further : (o' : Option X) → LastAt X p o' xs 0 d → last_or o (filter p (x ∷ xs)) ≡ last_or o' (filter p xs) → LastAt X p o (x ∷ xs) 0 d
  further o' l same = record { place = suc l.place; from = omega arith; within = omega (arith, l.within); passes = l.passes; last = same ∙ l.last }

  go : (b : Bool) → p x ≡ b → ((last_or (Some x) (filter p xs) ≡ Some x) ⊎ LastAt X p (Some x) xs 0 d) → ((last_or o (filter p xs) ≡ o) ⊎ LastAt X p o xs 0 d) → (last_or o (filter p (x ∷ xs)) ≡ o) ⊎ LastAt X p o (x ∷ xs) 0 d
  go true is (inl e) r = inr (record { place = 0; from = omega arith; within = omega arith; passes = is; last = ap (λ b. last_or o (cond b (x ∷ filter p xs) (filter p xs))) is ∙ e })
  go true is (inr l) r = inr (further (Some x) l (ap (λ b. last_or o (cond b (x ∷ filter p xs) (filter p xs))) is))
  go false is l (inl e) = inl (ap (λ b. last_or o (cond b (x ∷ filter p xs) (filter p xs))) is ∙ e)
  go false is l (inr r) = inr (further o r (ap (λ b. last_or o (cond b (x ∷ filter p xs) (filter p xs))) is))

last_at : {X : Type 0} (p : X → Bool) (o : Option X) (xs : List X) (m : ℕ) (d : X) → m < length xs → p (get_or xs m d) ≡ true → LastAt X p o xs m d
last_at p o [] m d lt h = absurd (omega (arith, lt))
last_at {X} p o (x ∷ xs) zero d lt h = go (last_from p (Some x) xs d) where
  same : last_or o (filter p (x ∷ xs)) ≡ last_or (Some x) (filter p xs)
  same = ap (λ b. last_or o (cond b (x ∷ filter p xs) (filter p xs))) h

  go : ((last_or (Some x) (filter p xs) ≡ Some x) ⊎ LastAt X p (Some x) xs 0 d) → LastAt X p o (x ∷ xs) 0 d
  go (inl e) = record { place = 0; from = omega arith; within = omega arith; passes = h; last = same ∙ e }
  go (inr l) = record { place = suc l.place; from = omega arith; within = omega (arith, l.within); passes = l.passes; last = same ∙ l.last }
last_at {X} p o (x ∷ xs) (suc m) d lt h = go (p x) refl (last_at p (Some x) xs m d (omega (arith, lt)) h) (last_at p o xs m d (omega (arith, lt)) h) where
  further : (o' : Option X) → LastAt X p o' xs m d → last_or o (filter p (x ∷ xs)) ≡ last_or o' (filter p xs) → LastAt X p o (x ∷ xs) (suc m) d
  further o' l same = record { place = suc l.place; from = omega (arith, l.from); within = omega (arith, l.within); passes = l.passes; last = same ∙ l.last }

  go : (b : Bool) → p x ≡ b → LastAt X p (Some x) xs m d → LastAt X p o xs m d → LastAt X p o (x ∷ xs) (suc m) d
  go true is l r = further (Some x) l (ap (λ b. last_or o (cond b (x ∷ filter p xs) (filter p xs))) is)
  go false is l r = further o r (ap (λ b. last_or o (cond b (x ∷ filter p xs) (filter p xs))) is)

some_is : (o : Option ℕ) → is_some o ≡ true → (x : ℕ) × (o ≡ Some x)
some_is None h = absurd cc
some_is (Some x) h = (x, refl)

-- the last that passes stands at a place
last_place : {X : Type 0} (p : X → Bool) (xs : List X) (d x : X) → last_or None (filter p xs) ≡ Some x → LastAt X p None xs 0 d
last_place {X} p xs d x h = go (last_from p None xs d) where
  go : ((last_or None (filter p xs) ≡ None) ⊎ LastAt X p None xs 0 d) → LastAt X p None xs 0 d
  go (inl e) = let none : None ≡ Some x = sym e ∙ h in absurd cc
  go (inr l) = l

not_zero_from : (a b : ℕ) → b < a → not (eqb (a - b) 0) ≡ true
not_zero_from a b lt = grind (arith, nat_tests)

below_from : (value : ℕ) → value < DECOYS_FROM → nat_lt value DECOYS_FROM ≡ true
below_from value lt = grind (arith, nat_tests)

-- while a session holds a user the user can log in, so each permitted CHALLENGE for the user after the session's own isn't a decoy
still_reserves : (setup : Settings) (journal : List Event) → IsLegal setup journal → (user : Name) (p m k : ℕ) (d : Event) → p ≤ m → m < k → k < length journal → reserves user (get_or journal p d) ≡ true → ((account : Account) → account_of setup user ≡ Some account → length (replies_of (take k journal) user) < account.sequence) → takes_user user (get_or journal m d) ≡ true → reserves user (get_or journal m d) ≡ true
still_reserves setup journal legal user p m k d pm mk kn reserved left is =
    let t = taken_challenge setup (take p journal) (get_or journal p d) user (legal p d (omega arith)) reserved in
    let a = taken_number setup journal legal user t.account p d (omega arith) t.found reserved in
    let more = left t.account t.found in
    let before = replies_of-le user journal p m pm in
    let after = replies_of-le user journal m k (omega arith) in
    let name : t.account.name ≡ user = found_name setup user t.account t.found in
    let number : current_sequence (take m journal) t.account ≡ t.account.sequence - length (replies_of (take m journal) user) = ap (λ u. t.account.sequence - length (replies_of (take m journal) u)) name in
    let some : not (eqb (current_sequence (take m journal) t.account) 0) ≡ true = ap (λ n. not (eqb n 0)) number ∙ not_zero_from t.account.sequence (length (replies_of (take m journal) user)) (omega (arith, more, after)) in
    let live : is_live (take m journal) t.account ≡ true = ap (λ b. b && not (eqb (current_sequence (take m journal) t.account) 0)) t.enabled ∙ some in
    let value = live_challenge setup (take m journal) (get_or journal m d) user t.account (legal m d (omega arith)) is t.found live in
    let first = below_decoys (get_or journal p d) user reserved in
    let below : value_of (get_or journal m d).decision < DECOYS_FROM = omega (arith, value, number, a.1, first, before) in
    ap (λ b. b && nat_lt (value_of (get_or journal m d).decision) DECOYS_FROM) is ∙ below_from (value_of (get_or journal m d).decision) below where
      below_decoys : (e : Event) (user : Name) → reserves user e ≡ true → value_of e.decision < DECOYS_FROM
      below_decoys e user h = let b = (and_parts (takes_user user e) (nat_lt (value_of e.decision) DECOYS_FROM) h).1 in grind (arith, nat_tests, b)

-- a place of a journal, with the events before it
abbrev place_at : List Event → ℕ → Event → Place
place_at journal k d = record { before = take k journal; event = get_or journal k d }

-- no other session takes a user between a session's taking and its accepted reply
alone_at : (setup : Settings) (journal : List Event) → IsLegal setup journal → (user : Name) (i m k : ℕ) (d : Event) → i < m → m < k → k < length journal → is_some (reply_for user (place_at journal k d)) ≡ true → ((n : ℕ) → i < n → n < k → is_own (get_or journal k d).session (takes_user user) (get_or journal n d) ≡ false) → takes_user user (get_or journal m d) ≡ false
alone_at setup journal legal user i m k d im mk kn reply last = go user i m k d im mk kn reply last (takes_user user (get_or journal m d)) refl where
  go : (user : Name) (i m k : ℕ) (d : Event) → i < m → m < k → k < length journal → is_some (reply_for user (place_at journal k d)) ≡ true → ((n : ℕ) → i < n → n < k → is_own (get_or journal k d).session (takes_user user) (get_or journal n d) ≡ false) → (b : Bool) → takes_user user (get_or journal m d) ≡ b → takes_user user (get_or journal m d) ≡ false
  go user i m k d im mk kn reply last false is = is
  go user i m k d im mk kn reply last true is =
      let e = get_or journal k d in
      let front = take k journal in
      let size : length front ≡ k = length-take-le k journal (omega arith) in
      let password = some_is (reply_for user (place_at journal k d)) reply in
      let held = holder_holds front e.session user (new_reply setup front e user password.0 (legal k d kn) password.1).holds in
      let own_at : (q : ℕ) → q < k → held.taking ≡ get_or front q d → reserves user (get_or front q d) ≡ true → is_own e.session (takes_user user) (get_or journal q d) ≡ true =
      λ q within same passes.
      let at : get_or front q d ≡ get_or journal q d = get_or-take k journal q d within in
      let session : (get_or journal q d).session ≡ e.session = ap (λ x. x.session) (sym at) ∙ ap (λ x. x.session) (sym same) ∙ held.own in
      ap (λ n. eqb n e.session && takes_user user (get_or journal q d)) session ∙ rw (eqb_same e.session) (ap (takes_user user) (sym at) ∙ (and_parts (takes_user user (get_or front q d)) _ passes).0) in
      let first = last_place (reserves user) front d held.taking (sym (last_taking_of-last user front) ∙ held.last) in
      let p = first.place in
      let pk : p < k = omega (arith, size, first.within) in
      let reserved : reserves user (get_or journal p d) ≡ true = ap (reserves user) (sym (get_or-take k journal p d pk)) ∙ first.passes in
      let front_legal = IsLegal-take setup journal k (omega arith) legal in
      let left : (account : Account) → account_of setup user ≡ Some account → length (replies_of front user) < account.sequence = λ account found. (sequences setup front front_legal user account found).left held.taking held.last held.kept in
      elim (cases_lt i p) [
        | inl after ↦
            let same : held.taking ≡ get_or front p d = same_some held.taking (get_or front p d) (sym held.last ∙ last_taking_of-last user front ∙ first.last) in
            absurd (false≢true (sym (last p after pk) ∙ own_at p pk same first.passes))
        | inr le ↦
            let here : reserves user (get_or front m d) ≡ true = ap (reserves user) (get_or-take k journal m d mk) ∙ still_reserves setup journal legal user p m k d (omega (arith, le)) mk kn reserved left is in
            let l = last_at (reserves user) None front m d (omega (arith, size)) here in
            let q = l.place in
            let within : q < k = omega (arith, size, l.within) in
            let same : held.taking ≡ get_or front q d = same_some held.taking (get_or front q d) (sym held.last ∙ last_taking_of-last user front ∙ l.last) in
            absurd (false≢true (sym (last q (omega (arith, l.from)) within) ∙ own_at q within same l.passes))
      ]

pub one_taker_at_a_time : (setup : Settings) (journal : List Event) → IsLegal setup journal → OneTakerAtATime setup journal
one_taker_at_a_time setup journal legal = record {
  alone = λ user i k taking reply b a same m e im mk c.
      let at : (n : ℕ) (x : Event) → slice_get journal n ≡ Some x → get_or journal n some_event ≡ x = λ n x h. get_or_from_slice_get journal n x some_event h in
      let kn = slice_get_within journal k reply b.stands in
      let replied = ap (λ x. is_some (reply_for user (let p : Place = record { before = take k journal; event = x } in p))) (at k reply b.stands) ∙ b.replies in
      let none : (n : ℕ) → i < n → n < k → is_own (get_or journal k some_event).session (takes_user user) (get_or journal n some_event) ≡ false =
      λ n above below. no_own_taking (eqb (get_or journal n some_event).session (get_or journal k some_event).session) (takes_user user (get_or journal n some_event))
      (λ own taken. a.last n (get_or journal n some_event) above below (record { stands = stands_at journal n some_event (omega (arith, below, kn)); passes = taken }) (eqb-true (get_or journal n some_event).session (get_or journal k some_event).session own ∙ ap (λ x. x.session) (at k reply b.stands) ∙ sym same)) in
      let alone = alone_at setup journal legal user i m k some_event im mk kn replied none in
      false≢true (sym alone ∙ ap (takes_user user) (at m e c.stands) ∙ c.passes);
} where
  no_own_taking : (own taken : Bool) → (own ≡ true → taken ≡ true → ⊥) → (own && taken) ≡ false
  no_own_taking true true h = absurd (h refl refl)
  no_own_taking true false h = refl
  no_own_taking false taken h = refl
