-- What is kept of records, and of one record more.
use Rattle.std.proofs.Common.{◌≡◌, ℕ, zero, suc, ◌+◌, ◌≤◌, ◌<◌, Bool, true, false, not, ◌&&◌, ◌||◌, cond, nat_eq, nat_lt, List, [], ◌∷◌, ◌++◌, length, slice_get, Option, None, Some, refl, sym, ap, subst, ◌∙◌, arith, append_assoc, length-append, inl, inr}
use Rattle.std.specs.Prelude.{position, is_some, ◌⊎◌, IfOk, MatchOption, Result, Ok, Err}
use Rattle.std.specs.BTreeMap.{BTreeMap, get, is_at}
use Rattle.std.specs.List.{AllByRecursion, position_or_len}
use Rattle.std.specs.Option.{option_to_list}
use Rattle.std.specs.Ordering.{is_eq, nat_cmp}
use Rattle.std.specs.declared.cmp.Ordering.TheVariants.{Equal, Greater, Less}
use Rattle.std.proofs.lemmas.Bool.Decides.{nat_tests}
use Rattle.std.proofs.lemmas.List.{append-nil}
use Rattle.std.proofs.lemmas.Option.{slice_get_within}
use Rattle.request_catalogue.specs.declared.texts.Name.{Name}
use Rattle.policy_model.specs.declared.event.Decision.TheVariants.{Permit}
use Rattle.policy_model.specs.declared.ranges.TheConstants.{EVENTS_LIMIT}
use Rattle.policy_model.specs.declared.reading.TheConstants.{DECOYS_FROM}
use Rattle.policy_model.specs.Asks.{is_permit, value_of}
use Rattle.policy_model.specs.Settings.{Settings, account_number}
use Rattle.policy_model.proofs.Lists.{last_or-filter_push}
use Rattle.decision_log.specs.declared.logged.Logged.{Logged}
use Rattle.decision_log.specs.declared.logged.LoggedAsk.TheVariants as logged
use Rattle.decision_log.specs.Logged.{logged_ask, logged_value}
use Rattle.decision_log.specs.Values.{AskValue, LineValue}
use Rattle.decision_log.specs.Values as values
use Rattle.ledger_journal.specs.declared.login.Login.{Login}
use Rattle.ledger_journal.specs.declared.reading.Log.{Log}
use Rattle.ledger_journal.specs.Lines.{line_at, lines_after, lines_of}
use Rattle.ledger_journal.specs.Logins.{accepts_reply, account_named, account_taken, is_challenge, last_taking, login_by, login_in, logins_after, takes_for}
use Rattle.ledger_journal.specs.Reads.{IsFirstBad, IsRead, IsTaken, IsWithin, bad_after, taken}
use Rattle.ledger_journal.specs.Recovering.{IsNoLine}

-- 1. The lines and the replies of one record more

lines_push : (count : ℕ) (records : List (List ℕ)) (bytes : List ℕ) → lines_after count (records ++ bytes ∷ []) ≡ lines_after count records ++ option_to_list (line_at (count + length records + 1) bytes)
lines_push count [] bytes =
    let same : count + 1 ≡ count + 0 + 1 = omega arith in
    append-nil (option_to_list (line_at (count + 1) bytes)) ∙ ap (λ n. option_to_list (line_at n bytes)) same
lines_push count (r ∷ records) bytes =
    let same : count + 1 + length records + 1 ≡ count + length (r ∷ records) + 1 = omega arith in
    ap (λ l. option_to_list (line_at (count + 1) r) ++ l) (lines_push (count + 1) records bytes)
    ∙ sym (append_assoc (option_to_list (line_at (count + 1) r)) (lines_after (count + 1) records) (option_to_list (line_at (count + 1 + length records + 1) bytes)))
    ∙ ap (λ n. option_to_list (line_at (count + 1) r) ++ lines_after (count + 1) records ++ option_to_list (line_at n bytes)) same

lines_more : (records : List (List ℕ)) (bytes : List ℕ) → lines_of (records ++ bytes ∷ []) ≡ lines_of records ++ option_to_list (line_at (length records + 1) bytes)
lines_more records bytes =
    let same : 0 + length records + 1 ≡ length records + 1 = omega arith in
    lines_push 0 records bytes ∙ ap (λ n. lines_of records ++ option_to_list (line_at n bytes)) same

pub logins_push : (setup : Settings) (before lines : List LineValue) (v : LineValue) → logins_after setup before (lines ++ v ∷ []) ≡ logins_after setup before lines ++ option_to_list (login_in setup (before ++ lines) v)
logins_push setup before [] v = append-nil (option_to_list (login_in setup before v)) ∙ ap (λ b. option_to_list (login_in setup b v)) (sym (append-nil before))
logins_push setup before (x ∷ lines) v =
    ap (λ l. option_to_list (login_in setup before x) ++ l)
    (logins_push setup (before ++ x ∷ []) lines v ∙ ap (λ b. logins_after setup (before ++ x ∷ []) lines ++ option_to_list (login_in setup b v)) (append_assoc before (x ∷ []) lines))
    ∙ sym (append_assoc (option_to_list (login_in setup before x)) (logins_after setup (before ++ x ∷ []) lines) (option_to_list (login_in setup (before ++ x ∷ lines) v)))

pub taking_push : (lines : List LineValue) (v : LineValue) (session : ℕ) → last_taking (lines ++ v ∷ []) session ≡ cond (takes_for session v) (Some v) (last_taking lines session)
taking_push lines v session = last_or-filter_push (takes_for session) lines v

-- 2. The first place of a record that is no line

get_push : {X : Type 0} (xs : List X) (x y : X) (i : ℕ) → slice_get (xs ++ x ∷ []) i ≡ Some y → (slice_get xs i ≡ Some y) ⊎ ((i ≡ length xs) × (x ≡ y))
get_push [] x y zero h = inr (refl, cc)
get_push [] x y (suc i) h = absurd cc
get_push (a ∷ xs) x y zero h = inl h
get_push (a ∷ xs) x y (suc i) h =
    elim (get_push xs x y i h) [
      | inl there ↦ inl there
      | inr here ↦ inr (let e = here.0 in omega arith, here.1)
    ]

get_front : {X : Type 0} (xs : List X) (x y : X) (i : ℕ) → slice_get xs i ≡ Some y → slice_get (xs ++ x ∷ []) i ≡ Some y
get_front [] x y i h = absurd cc
get_front (a ∷ xs) x y zero h = h
get_front (a ∷ xs) x y (suc i) h = get_front xs x y i h

get_last : {X : Type 0} (xs : List X) (x : X) → slice_get (xs ++ x ∷ []) (length xs) ≡ Some x
get_last [] x = refl
get_last (a ∷ xs) x = get_last xs x

abbrev Fault : ℕ → List ℕ → Type 0
Fault number bytes = (EVENTS_LIMIT < number) ⊎ (line_at number bytes ≡ None)

no_line_cases : (records : List (List ℕ)) (bytes : List ℕ) (number : ℕ) → IsNoLine (records ++ bytes ∷ []) number → IsNoLine records number ⊎ ((number ≡ length records + 1) × Fault number bytes)
no_line_cases records bytes number h =
    elim (get_push records bytes h.bytes h.place h.stands) [
      | inl there ↦ inl (record { place = h.place; bytes = h.bytes; stands = there; counted = h.counted; fault = h.fault })
      | inr here ↦ inr (h.counted ∙ ap (λ n. n + 1) here.0, subst (Fault number) (sym here.1) h.fault)
    ]

no_line_front : (records : List (List ℕ)) (bytes : List ℕ) (number : ℕ) → IsNoLine records number → IsNoLine (records ++ bytes ∷ []) number
no_line_front records bytes number h = record { place = h.place; bytes = h.bytes; stands = get_front records bytes h.bytes h.place h.stands; counted = h.counted; fault = h.fault }

no_line_last : (records : List (List ℕ)) (bytes : List ℕ) → Fault (length records + 1) bytes → IsNoLine (records ++ bytes ∷ []) (length records + 1)
no_line_last records bytes fault = record { place = length records; bytes = bytes; stands = get_last records bytes; counted = refl; fault = fault }

pub no_line_within : (records : List (List ℕ)) (number : ℕ) → IsNoLine records number → number ≤ length records
no_line_within records number h = let lt = slice_get_within records h.place h.bytes h.stands in omega (arith, lt, h.counted)

pub first_bad_none : IsFirstBad [] None
first_bad_none = (omega arith, λ number h. absurd (let le = no_line_within [] number h in omega (arith, le, h.counted)))

first_bad_push : (records : List (List ℕ)) (bytes : List ℕ) (bad : Option ℕ) → IsFirstBad records bad → IsFirstBad (records ++ bytes ∷ []) (bad_after bad (length records + 1) (is_some (line_at (length records + 1) bytes)))
first_bad_push records bytes (Some b) h = (no_line_front records bytes b h.0, earlier) where
  earlier : (k : ℕ) → k < b → IsNoLine (records ++ bytes ∷ []) k → ⊥
  earlier k lt n =
      elim (no_line_cases records bytes k n) [
        | inl there ↦ h.1 k lt there
        | inr here ↦ let le = no_line_within records b h.0 in let e = here.0 in absurd (omega (arith, le, lt, e))
      ]
first_bad_push records bytes None h = go (nat_lt EVENTS_LIMIT (length records + 1)) (line_at (length records + 1) bytes) refl refl where
  earlier : (k : ℕ) → k < length records + 1 → IsNoLine (records ++ bytes ∷ []) k → ⊥
  earlier k lt n =
      elim (no_line_cases records bytes k n) [
        | inl there ↦ h.1 k there
        | inr here ↦ let e = here.0 in absurd (omega (arith, lt, e))
      ]

  last : (Fault (length records + 1) bytes → ⊥) → (k : ℕ) → IsNoLine (records ++ bytes ∷ []) k → ⊥
  last none k n =
      elim (no_line_cases records bytes k n) [
        | inl there ↦ h.1 k there
        | inr here ↦ none (subst (λ m. Fault m bytes) here.0 here.1)
      ]

  go : (far : Bool) (o : Option LineValue) → nat_lt EVENTS_LIMIT (length records + 1) ≡ far → line_at (length records + 1) bytes ≡ o → IsFirstBad (records ++ bytes ∷ []) (cond (far || not (is_some o)) (Some (length records + 1)) None)
  go true o is line = (no_line_last records bytes (inl (grind (arith, nat_tests, is))), earlier)
  go false None is line = (no_line_last records bytes (inr line), earlier)
  go false (Some v) is line =
      let near : length records + 1 ≤ EVENTS_LIMIT = grind (arith, nat_tests, is) in
      (omega (arith, near, length-append records (bytes ∷ [])), last (λ fault. elim fault [ inl far ↦ absurd (omega (arith, far, near)) | inr none ↦ absurd (let e = sym line ∙ none in cc) ]))

-- 3. What is kept

position_below : {X : Type 0} (p : X → Bool) (xs : List X) (n : ℕ) → position p xs ≡ Some n → n < length xs
position_below p xs n h = go (nat_lt (position_or_len p xs) (length xs)) refl h where
  go : (b : Bool) → nat_lt (position_or_len p xs) (length xs) ≡ b → cond b (Some (position_or_len p xs)) None ≡ Some n → n < length xs
  go true is h = let e : position_or_len p xs ≡ n = cc in let lt : position_or_len p xs < length xs = grind (arith, nat_tests, is) in omega (arith, e, lt)
  go false is h = absurd cc

named_within : (setup : Settings) (ask : AskValue) (n : ℕ) → account_named setup ask ≡ Some n → n < length setup.accounts
named_within setup (values.Challenge user now) n h = position_below _ setup.accounts n h
named_within setup _ n h = absurd cc

pub taken_within : (setup : Settings) (o : Option LineValue) (n : ℕ) → account_taken setup o ≡ Some n → n < length setup.accounts
taken_within setup None n h = absurd cc
taken_within setup (Some v) n h = go _ h where
  go : (b : Bool) → cond b (account_named setup v.ask) None ≡ Some n → n < length setup.accounts
  go true h = named_within setup v.ask n h
  go false h = absurd cc

all_push : {X : Type 0} (P : X → Type 0) (xs : List X) (o : Option X) → AllByRecursion P xs → AllByRecursion P (option_to_list o) → AllByRecursion P (xs ++ option_to_list o)
all_push P [] o h g = g
all_push P (x ∷ xs) o h g = (h.0, all_push P xs o h.1 g)

login_within : (setup : Settings) (account : Option ℕ) (v : LineValue) → ((n : ℕ) → account ≡ Some n → n < length setup.accounts) → AllByRecursion (IsWithin setup) (option_to_list (login_by account v))
login_within setup account v h = go (accepts_reply v) where
  made : Login
  made = record { line = v.number; account = account; password = value_of v.decision }

  go : (b : Bool) → AllByRecursion (IsWithin setup) (option_to_list (cond b (Some made) None))
  go true = (h, tt)
  go false = tt

one_at_most : {X : Type 0} (o : Option X) → length (option_to_list o) ≤ 1
one_at_most None = omega arith
one_at_most (Some x) = omega arith

-- what a line changes of what is kept
abbrev pub Notes : Settings → Option LineValue → Log → Log → Type 0
Notes setup None old new = (new.takings ≡ old.takings) × (new.logins ≡ old.logins)
Notes setup (Some v) old new = IsTaken setup v old.takings new.takings × (new.logins.items ≡ old.logins.items ++ option_to_list (login_by (taken (get nat_cmp old.takings v.session)) v))

-- the same for what is kept of the records' lines
record Kept (setup : Settings) (lines : List LineValue) (most : ℕ) (log : Log) : Type 0 where
  takings : (session : ℕ) → taken (get nat_cmp log.takings session) ≡ account_taken setup (last_taking lines session)
  logins : log.logins.items ≡ logins_after setup [] lines
  few : length log.logins.items ≤ most
  within : AllByRecursion (IsWithin setup) log.logins.items

kept_on : (setup : Settings) (lines : List LineValue) (most : ℕ) (o : Option LineValue) (old new : Log) → Kept setup lines most old → Notes setup o old new → Kept setup (lines ++ option_to_list o) (most + 1) new
kept_on setup lines most None old new k n =
    let same : lines ++ [] ≡ lines = append-nil lines in
    subst (λ l. Kept setup l (most + 1) new) (sym same)
    (record {
      takings = λ session. ap (λ (m : BTreeMap ℕ (Option ℕ)). taken (get nat_cmp m session)) n.0 ∙ k.takings session;
      logins = ap (λ l. l.items) n.1 ∙ k.logins;
      few = let e = ap (λ l. length l.items) n.1 in omega (arith, e, k.few);
      within = subst (λ l. AllByRecursion (IsWithin setup) l.items) (sym n.1) k.within;
    })
kept_on setup lines most (Some v) old new k n =
    record {
      takings = λ session. n.0.each session ∙ both session (takes_for session v) ∙ ap (account_taken setup) (sym (taking_push lines v session));
      logins =
          n.1
          ∙ ap (λ l. l ++ option_to_list (login_by (taken (get nat_cmp old.takings v.session)) v)) k.logins
          ∙ ap (λ account. logins_after setup [] lines ++ option_to_list (login_by account v)) (k.takings v.session)
          ∙ sym (logins_push setup [] lines v);
      few = let e = ap length n.1 in omega (arith, e, k.few, length-append old.logins.items (option_to_list (login_by (taken (get nat_cmp old.takings v.session)) v)), one_at_most (login_by (taken (get nat_cmp old.takings v.session)) v));
      within =
          subst (AllByRecursion (IsWithin setup)) (sym n.1)
          (all_push (IsWithin setup) old.logins.items (login_by (taken (get nat_cmp old.takings v.session)) v) k.within
          (login_within setup (taken (get nat_cmp old.takings v.session)) v (λ number h. taken_within setup (last_taking lines v.session) number (sym (k.takings v.session) ∙ h))));
    }
  where
    both : (session : ℕ) (b : Bool) → cond b (account_taken setup (Some v)) (taken (get nat_cmp old.takings session)) ≡ account_taken setup (cond b (Some v) (last_taking lines session))
    both session true = refl
    both session false = k.takings session

pub read_on : (setup : Settings) (records : List (List ℕ)) (bytes : List ℕ) (o : Option LineValue) (old new : Log) → IsRead setup records old → line_at (old.count + 1) bytes ≡ o → new.count ≡ old.count + 1 → new.bad ≡ bad_after old.bad (old.count + 1) (is_some o) → Notes setup o old new → IsRead setup (records ++ bytes ∷ []) new
read_on setup records bytes o old new r line count bad notes =
    let place : old.count + 1 ≡ length records + 1 = ap (λ n. n + 1) r.counted in
    let here : line_at (length records + 1) bytes ≡ o = ap (λ n. line_at n bytes) (sym place) ∙ line in
    let lines : lines_of (records ++ bytes ∷ []) ≡ lines_of records ++ option_to_list o = lines_more records bytes ∙ ap (λ x. lines_of records ++ option_to_list x) here in
    let k = kept_on setup (lines_of records) (length records) o old new (record { takings = r.takings; logins = r.logins; few = r.few; within = r.within }) notes in
    let more : length (records ++ bytes ∷ []) ≡ length records + 1 = length-append records (bytes ∷ []) in
    record {
      counted = count ∙ place ∙ sym more;
      first_bad =
          subst (IsFirstBad (records ++ bytes ∷ [])) (sym (bad ∙ ap (λ n. bad_after old.bad n (is_some o)) place ∙ ap (λ x. bad_after old.bad (length records + 1) (is_some x)) (sym here)))
          (first_bad_push records bytes old.bad r.first_bad);
      takings = λ session. k.takings session ∙ ap (λ l. account_taken setup (last_taking l session)) (sym lines);
      logins = k.logins ∙ ap (logins_after setup []) (sym lines);
      few = omega (arith, k.few, more);
      within = k.within;
    }

-- 4. A permitted CHALLENGE is its session's last one

nat_cmp_is : (k q : ℕ) → is_at (nat_cmp k) q ≡ nat_eq k q
nat_cmp_is k q = go (nat_lt k q) (nat_eq k q) refl refl where
  go : (a b : Bool) → nat_lt k q ≡ a → nat_eq k q ≡ b → is_eq (cond a Less (cond b Equal Greater)) ≡ b
  go true true lt eq = absurd (let l : k < q = grind (arith, nat_tests, lt) in let e : k ≡ q = grind (arith, nat_tests, eq) in omega (arith, l, e))
  go true false lt eq = refl
  go false true lt eq = refl
  go false false lt eq = refl

and_true : (b : Bool) → (b && (true && true)) ≡ b
and_true true = refl
and_true false = refl

pub taken_by : (setup : Settings) (line : Logged) (user : Name) (now value : ℕ) (account : Option ℕ) (old new : BTreeMap ℕ (Option ℕ)) → line.what ≡ logged.Challenge user now → line.decision ≡ Permit value → account ≡ cond (nat_lt value DECOYS_FROM) (account_number setup user) None → ((q : ℕ) → get nat_cmp new q ≡ cond (is_at (nat_cmp line.session) q) (Some account) (get nat_cmp old q)) → IsTaken setup (logged_value line) old new
taken_by setup line user now value account old new what decision account_is updates = record { each = each } where
  takes : (session : ℕ) → takes_for session (logged_value line) ≡ nat_eq line.session session
  takes session =
      ap (λ a. nat_eq line.session session && (is_challenge (logged_ask a) && is_permit line.decision)) what
      ∙ ap (λ d. nat_eq line.session session && (true && is_permit d)) decision
      ∙ and_true (nat_eq line.session session)

  taken_is : account_taken setup (Some (logged_value line)) ≡ account
  taken_is =
      ap (λ a. cond (nat_lt (value_of line.decision) DECOYS_FROM) (account_named setup (logged_ask a)) None) what
      ∙ ap (λ d. cond (nat_lt (value_of d) DECOYS_FROM) (account_number setup user) None) decision
      ∙ sym account_is

  both : (session : ℕ) (b : Bool) → taken (cond b (Some account) (get nat_cmp old session)) ≡ cond b account (taken (get nat_cmp old session))
  both session true = refl
  both session false = refl

  each : (session : ℕ) → taken (get nat_cmp new session) ≡ cond (takes_for session (logged_value line)) (account_taken setup (Some (logged_value line))) (taken (get nat_cmp old session))
  each session =
      ap taken (updates session)
      ∙ ap (λ b. taken (cond b (Some account) (get nat_cmp old session))) (nat_cmp_is line.session session)
      ∙ both session (nat_eq line.session session)
      ∙ ap (λ b. cond b account (taken (get nat_cmp old session))) (sym (takes session))
      ∙ ap (λ a. cond (takes_for session (logged_value line)) a (taken (get nat_cmp old session))) (sym taken_is)

-- 5. The line of a record

abbrev pub IsLineAt : ℕ → List ℕ → Option Logged → Type 0
IsLineAt place bytes o = MatchOption o (line_at place bytes ≡ None) (λ line. line_at place bytes ≡ Some (logged_value line))

pub line_some : (place : ℕ) (bytes : List ℕ) (o : Option Logged) (line : Logged) → IsLineAt place bytes o → o ≡ Some line → line_at place bytes ≡ Some (logged_value line)
line_some place bytes None line h is = absurd cc
line_some place bytes (Some other) line h is = let same : other ≡ line = cc in h ∙ ap (λ (x : Logged). Some (logged_value x)) same

pub line_none : (place : ℕ) (bytes : List ℕ) (o : Option Logged) → IsLineAt place bytes o → o ≡ None → line_at place bytes ≡ None
line_none place bytes None h is = h
line_none place bytes (Some other) h is = absurd cc

pub read_ok : {E : Type 0} (setup : Settings) (records : List (List ℕ)) (bytes : List ℕ) (v : LineValue) (old new : Log) (done : Result (Unit {0}) E) → IsRead setup records old → line_at (old.count + 1) bytes ≡ Some v → new.count ≡ old.count + 1 → new.bad ≡ bad_after old.bad (old.count + 1) true → IfOk done (λ _. new.logins.items ≡ old.logins.items ++ option_to_list (login_by (taken (get nat_cmp old.takings v.session)) v)) → IfOk done (λ _. IsTaken setup v old.takings new.takings) → IfOk done (λ _. IsRead setup (records ++ bytes ∷ []) new)
read_ok setup records bytes v old new (Ok x) r line count bad logins takings = read_on setup records bytes (Some v) old new r line count bad (takings, logins)
read_ok setup records bytes v old new (Err x) r line count bad logins takings = tt
