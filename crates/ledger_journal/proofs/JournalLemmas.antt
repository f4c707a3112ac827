-- The accepted replies of a legal journal's lines, and what they come to.
use Rattle.std.proofs.Common.{◌≡◌, ℕ, ◌+◌, ◌-◌, ◌≤◌, ◌<◌, Bool, true, false, not, ◌&&◌, cond, nat_eq, nat_lt, List, [], ◌∷◌, ◌++◌, filter, get_or, length, slice_get, take, Option, None, Some, refl, sym, ap, subst, ◌∙◌, arith, unwrap_or}
use Rattle.std.specs.Prelude.{count_by, is_some, ◌==◌}
use Rattle.std.specs.List.{last_or, list_any}
use Rattle.std.specs.Option.{option_to_list}
use Rattle.std.proofs.lemmas.Bool.{and_parts, eqb-true, not-true}
use Rattle.std.proofs.lemmas.Bool.Decides.{nat_tests}
use Rattle.std.proofs.lemmas.List.Sums.{sum_by_push}
use Rattle.std.proofs.lemmas.List.{append-nil, get_or_append_left, get_or_push, length_push, take-append-le, take_at}
use Rattle.request_catalogue.specs.declared.texts.Name.{Name}
use Rattle.otp_hash.specs.Hashing.{hash_of}
use Rattle.policy_model.specs.declared.account.Account.{Account}
use Rattle.policy_model.specs.declared.event.Ask.{Ask}
use Rattle.policy_model.specs.declared.event.Ask.TheVariants as asks
use Rattle.policy_model.specs.declared.event.Event.{Event}
use Rattle.policy_model.specs.declared.reading.TheConstants.{DECOYS_FROM}
use Rattle.policy_model.specs.Cases as policy
use Rattle.policy_model.specs.Asks.{accepts, challenge_name, is_permit, takes, value_of, is_user}
use Rattle.policy_model.specs.Journal.{is_own, last_event}
use Rattle.policy_model.specs.Legal.{IsLegal, IsNext}
use Rattle.policy_model.specs.Logins.{challenged_user, current_password, replies_of, reply_for, was_accepted, was_decoyed}
use Rattle.policy_model.specs.Cases.{is_decoy, user_named}
use Rattle.policy_model.specs.Settings.{IsInRange, Settings, account_number, same_name}
use Rattle.policy_model.proofs.LoginLemmas.{replies_of-none, replies_of-push}
use Rattle.session_laws.specs.Tied.{AcceptsNext}
use Rattle.session_laws.proofs.ByEvents.{by_legal_events}
use Rattle.session_laws.proofs.Numbers.{number_at}
use Rattle.session_laws.proofs.Permits.{same_from_same_name, same_name-same}
use Rattle.session_laws.proofs.Settling.{accepts_next}
use Rattle.decision_log.specs.Values.{LineValue, ask_value, line_value}
use Rattle.ledger_journal.specs.declared.login.Login.{Login}
use Rattle.ledger_journal.specs.Logins.{Verifies, accepts_reply, account_named, account_taken, is_challenge, is_number, is_reply, last_taking, logins_after, passwords_of, takes_for}
use Rattle.ledger_journal.specs.Spending.{VerifyTo}
use Rattle.ledger_journal.proofs.LineLemmas.{values_after, values_push}
use Rattle.ledger_journal.proofs.ReadLemmas.{logins_push}
use Rattle.ledger_journal.proofs.SpendLemmas.{passwords_push}

-- 1. What a line shows of an event

shows_challenge : (a : Ask) → is_challenge (ask_value a) ≡ is_some (challenge_name a)
shows_challenge asks.Begin = refl
shows_challenge asks.Banner = refl
shows_challenge (asks.Challenge user now) = refl
shows_challenge (asks.Reply words hex) = refl
shows_challenge asks.Abandon = refl
shows_challenge (asks.Export len) = refl
shows_challenge asks.Import = refl
shows_challenge (asks.ReadAt handle offset max) = refl
shows_challenge (asks.WriteAt handle offset len) = refl
shows_challenge (asks.OpenFile mode name) = refl
shows_challenge (asks.CloseFile handle) = refl
shows_challenge (asks.Info number) = refl
shows_challenge (asks.Note text) = refl
shows_challenge asks.Finish = refl
shows_challenge (asks.Bad rule detail) = refl
shows_challenge (asks.End why) = refl

shows_reply : (a : Ask) → is_reply (ask_value a) ≡ policy.is_reply a
shows_reply asks.Begin = refl
shows_reply asks.Banner = refl
shows_reply (asks.Challenge user now) = refl
shows_reply (asks.Reply words hex) = refl
shows_reply asks.Abandon = refl
shows_reply (asks.Export len) = refl
shows_reply asks.Import = refl
shows_reply (asks.ReadAt handle offset max) = refl
shows_reply (asks.WriteAt handle offset len) = refl
shows_reply (asks.OpenFile mode name) = refl
shows_reply (asks.CloseFile handle) = refl
shows_reply (asks.Info number) = refl
shows_reply (asks.Note text) = refl
shows_reply asks.Finish = refl
shows_reply (asks.Bad rule detail) = refl
shows_reply (asks.End why) = refl

takes_same : (session number : ℕ) (e : Event) → takes_for session (line_value number e) ≡ is_own session takes e
takes_same session number e = ap (λ b. nat_eq e.session session && (b && is_permit e.decision)) (shows_challenge e.ask)

accepts_same : (number : ℕ) (e : Event) → accepts_reply (line_value number e) ≡ accepts e
accepts_same number e = ap (λ b. b && is_permit e.decision) (shows_reply e.ask)

-- 2. The account that a session took last

taken_by_event : Settings → Option Event → Option ℕ
taken_by_event setup None = None
taken_by_event setup (Some e) = cond (nat_lt (value_of e.decision) DECOYS_FROM) (account_named setup (ask_value e.ask)) None

taken_same : (setup : Settings) (session count : ℕ) (events : List Event) (o : Option LineValue) (p : Option Event) → account_taken setup o ≡ taken_by_event setup p → account_taken setup (last_or o (filter (takes_for session) (values_after count events))) ≡ taken_by_event setup (last_or p (filter (is_own session takes) events))
unfolding taken_by_event
taken_same setup session count [] o p h = h
taken_same setup session count (e ∷ events) o p h =
    ap (λ b. account_taken setup (last_or o (cond b (line_value (count + 1) e ∷ filter (takes_for session) (values_after (count + 1) events)) (filter (takes_for session) (values_after (count + 1) events))))) (takes_same session (count + 1) e)
    ∙ go (is_own session takes e) (taken_same setup session (count + 1) events (Some (line_value (count + 1) e)) (Some e) refl) (taken_same setup session (count + 1) events o p h)
  where
    lines : List LineValue
    lines = filter (takes_for session) (values_after (count + 1) events)

    own : List Event
    own = filter (is_own session takes) events

    go : (b : Bool) → account_taken setup (last_or (Some (line_value (count + 1) e)) lines) ≡ taken_by_event setup (last_or (Some e) own) → account_taken setup (last_or o lines) ≡ taken_by_event setup (last_or p own) → account_taken setup (last_or o (cond b (line_value (count + 1) e ∷ lines) lines)) ≡ taken_by_event setup (last_or p (cond b (e ∷ own) own))
    go true one other = one
    go false one other = other

named_by_user : (setup : Settings) (a : Ask) (user : Name) → challenge_name a ≡ Some user → account_named setup (ask_value a) ≡ account_number setup user
named_by_user setup (asks.Challenge name now) user h = let same : name ≡ user = cc in ap (account_number setup) same
named_by_user setup asks.Begin user h = absurd cc
named_by_user setup asks.Banner user h = absurd cc
named_by_user setup (asks.Reply words hex) user h = absurd cc
named_by_user setup asks.Abandon user h = absurd cc
named_by_user setup (asks.Export len) user h = absurd cc
named_by_user setup asks.Import user h = absurd cc
named_by_user setup (asks.ReadAt handle offset max) user h = absurd cc
named_by_user setup (asks.WriteAt handle offset len) user h = absurd cc
named_by_user setup (asks.OpenFile mode name) user h = absurd cc
named_by_user setup (asks.CloseFile handle) user h = absurd cc
named_by_user setup (asks.Info number) user h = absurd cc
named_by_user setup (asks.Note text) user h = absurd cc
named_by_user setup asks.Finish user h = absurd cc
named_by_user setup (asks.Bad rule detail) user h = absurd cc
named_by_user setup (asks.End why) user h = absurd cc

event_account : (setup : Settings) (o : Option Event) (user : Name) (number : ℕ) → user_named o ≡ Some user → is_decoy o ≡ false → account_number setup user ≡ Some number → taken_by_event setup o ≡ Some number
unfolding taken_by_event
event_account setup None user number named decoy is = absurd cc
event_account setup (Some t) user number named decoy is =
    let low : nat_lt (value_of t.decision) DECOYS_FROM ≡ true = grind (arith, nat_tests, decoy) in
    ap (λ b. cond b (account_named setup (ask_value t.ask)) None) low ∙ named_by_user setup t.ask user named ∙ is

-- the account of a session that was challenged for a user by no decoy
account_is : (setup : Settings) (journal : List Event) (session : ℕ) (user : Name) (number : ℕ) → challenged_user journal session ≡ Some user → was_decoyed journal session ≡ false → account_number setup user ≡ Some number → account_taken setup (last_taking (values_after 0 journal) session) ≡ Some number
unfolding challenged_user was_decoyed taken_by_event
account_is setup journal session user number named decoy is =
    taken_same setup session 0 journal None None refl ∙ event_account setup (last_event journal session takes) user number named decoy is

-- 3. The replies of a journal's lines

pub logins_in : Settings → List Event → List Login
logins_in setup journal = logins_after setup [] (values_after 0 journal)

pub logins_in-is : (setup : Settings) (journal : List Event) → logins_in setup journal ≡ logins_after setup [] (values_after 0 journal)
unfolding logins_in
logins_in-is setup journal = refl

login_of : Settings → List Event → Event → Login
login_of setup journal e = record { line = 0 + length journal + 1; account = account_taken setup (last_taking (values_after 0 journal) e.session); password = value_of e.decision }

logins_more : (setup : Settings) (journal : List Event) (e : Event) → logins_in setup (journal ++ e ∷ []) ≡ logins_in setup journal ++ option_to_list (cond (accepts e) (Some (login_of setup journal e)) None)
unfolding logins_in login_of
logins_more setup journal e =
    ap (logins_after setup []) (values_push 0 journal e)
    ∙ logins_push setup [] (values_after 0 journal) (line_value (0 + length journal + 1) e)
    ∙ ap (λ b. logins_in setup journal ++ option_to_list (cond b (Some (login_of setup journal e)) None)) (accepts_same (0 + length journal + 1) e)

-- what the replies of a journal come to: those of each account are what the journal says, each verifies, and there are as many as the journal accepts
pub record Follow (setup : Settings) (journal : List Event) : Type 0 where
  pub passwords : (number : ℕ) (account : Account) → slice_get setup.accounts number ≡ Some account → passwords_of number (logins_in setup journal) ≡ replies_of journal account.name
  pub verified : VerifyTo setup (logins_in setup journal) (length (logins_in setup journal))
  pub counted : length (logins_in setup journal) ≡ count_by accepts journal

count_push : (journal : List Event) (e : Event) → count_by accepts (journal ++ e ∷ []) ≡ count_by accepts journal + cond (accepts e) 1 0
count_push journal e = sum_by_push (λ (x : Event). cond (accepts x) 1 0) journal e

-- an event that accepts no reply
silent : (setup : Settings) (journal : List Event) (e : Event) → accepts e ≡ false → Follow setup journal → Follow setup (journal ++ e ∷ [])
silent setup journal e none f =
    let same : logins_in setup (journal ++ e ∷ []) ≡ logins_in setup journal = logins_more setup journal e ∙ ap (λ b. logins_in setup journal ++ option_to_list (cond b (Some (login_of setup journal e)) None)) none ∙ append-nil (logins_in setup journal) in
    record {
      passwords = λ number account stands.
          ap (passwords_of number) same
          ∙ f.passwords number account stands
          ∙ sym (replies_of-push account.name journal e
          ∙ ap (λ b. replies_of journal account.name ++ option_to_list (cond (b && is_user account.name (challenged_user journal e.session)) (Some (value_of e.decision)) None)) none
          ∙ append-nil (replies_of journal account.name));
      verified = subst (λ l. VerifyTo setup l (length l)) (sym same) f.verified;
      counted = (let c = count_push journal e in let d = ap (λ b. count_by accepts journal + cond b 1 0) none in let l = ap length same in omega (arith, c, d, l, f.counted));
    }

verified_push : (setup : Settings) (logins : List Login) (login : Login) → VerifyTo setup logins (length logins) → Verifies setup logins login → VerifyTo setup (logins ++ login ∷ []) (length (logins ++ login ∷ []))
verified_push setup logins login all v place d lt = go (nat_lt place (length logins)) refl where
  len : length (logins ++ login ∷ []) ≡ length logins + 1
  len = length_push logins login

  go : (b : Bool) → nat_lt place (length logins) ≡ b → Verifies setup (take place (logins ++ login ∷ [])) (get_or (logins ++ login ∷ []) place d)
  go true is =
      let below : place < length logins = grind (arith, nat_tests, is) in
      let front : take place (logins ++ login ∷ []) ≡ take place logins = take-append-le place logins (login ∷ []) (omega (arith, below)) in
      let item : get_or (logins ++ login ∷ []) place d ≡ get_or logins place d = get_or_append_left logins (login ∷ []) d place below in
      subst (λ b. Verifies setup b (get_or (logins ++ login ∷ []) place d)) (sym front) (subst (Verifies setup (take place logins)) (sym item) (all place d below))
  go false is =
      let above : length logins ≤ place = grind (arith, nat_tests, is) in
      let here : length logins ≡ place = omega (arith, above, lt, len) in
      let front : take place (logins ++ login ∷ []) ≡ logins = take_at logins (login ∷ []) place here in
      let item : get_or (logins ++ login ∷ []) place d ≡ login = get_or_push logins login d place here in
      subst (λ b. Verifies setup b (get_or (logins ++ login ∷ []) place d)) (sym front) (subst (Verifies setup logins) (sym item) v)

-- an accepted reply
module _ (setup : Settings) (journal : List Event) (e : Event) (in_range : IsInRange setup) (a : AcceptsNext setup journal e) (f : Follow setup journal) where
  made : Login
  made = login_of setup journal e

  of : made.account ≡ Some a.number
  unfolding made login_of
  of = account_is setup journal e.session a.user a.number a.challenged a.no_decoy a.numbered.number_is

  password_is : made.password ≡ value_of e.decision
  unfolding made login_of
  password_is = refl

  -- a user is the one that the reply is for just where the account has its number
  is_for : (number : ℕ) (account : Account) → slice_get setup.accounts number ≡ Some account → same_name a.user account.name ≡ nat_eq a.number number
  is_for number account stands = go (nat_eq a.number number) refl where
    go : (b : Bool) → nat_eq a.number number ≡ b → same_name a.user account.name ≡ b
    go true is =
        let here : a.number ≡ number = grind (arith, nat_tests, is) in
        let same : Some a.account ≡ Some account = sym a.numbered.stands ∙ ap (slice_get setup.accounts) here ∙ stands in
        let one : a.account ≡ account = cc in
        let name : a.user ≡ account.name = sym a.numbered.named ∙ ap (λ (x : Account). x.name) one in
        ap (same_name a.user) (sym name) ∙ same_name-same a.user
    go false is = other (same_name a.user account.name) refl where
      other : (b : Bool) → same_name a.user account.name ≡ b → same_name a.user account.name ≡ false
      other false is_not = is_not
      other true is_same =
          let name : a.user ≡ account.name = same_from_same_name a.user account.name is_same in
          let number_is : Some a.number ≡ Some number = sym a.numbered.number_is ∙ ap (account_number setup) name ∙ number_at setup number account in_range stands in
          let here : a.number ≡ number = cc in
          let test : nat_eq a.number number ≡ true = grind (arith, nat_tests, here) in
          let wrong : true ≡ false = sym test ∙ is in
          absurd cc

  reply_is : (accepted : accepts e ≡ true) (number : ℕ) (account : Account) → slice_get setup.accounts number ≡ Some account → option_to_list (reply_for account.name (record { before = journal; event = e })) ≡ cond (nat_eq a.number number) (value_of e.decision ∷ []) []
  reply_is accepted number account stands =
      ap (λ b. option_to_list (cond (b && is_user account.name (challenged_user journal e.session)) (Some (value_of e.decision)) None)) accepted
      ∙ ap (λ u. option_to_list (cond (is_user account.name u) (Some (value_of e.decision)) None)) a.challenged
      ∙ ap (λ b. option_to_list (cond b (Some (value_of e.decision)) None)) (is_for number account stands)
      ∙ both (nat_eq a.number number)
    where
      both : (b : Bool) → option_to_list (cond b (Some (value_of e.decision)) None) ≡ cond b (value_of e.decision ∷ []) []
      both true = refl
      both false = refl

  verifies : Verifies setup (logins_in setup journal) made
  verifies =
      let replies : passwords_of a.number (logins_in setup journal) ≡ replies_of journal a.account.name = f.passwords a.number a.account a.numbered.stands in
      let both = and_parts (hash_of a.account.algo (value_of e.decision) == current_password journal a.account) (not (was_accepted journal a.account (value_of e.decision))) a.next in
      let hash : hash_of a.account.algo (value_of e.decision) ≡ current_password journal a.account = eqb-true (hash_of a.account.algo (value_of e.decision)) (current_password journal a.account) both.0 in
      let unused : was_accepted journal a.account (value_of e.decision) ≡ false = not-true (was_accepted journal a.account (value_of e.decision)) both.1 in
      record {
        number = a.number;
        account = a.account;
        named = of;
        stands = a.numbered.stands;
        some = subst (λ (l : List ℕ). 0 < a.account.sequence - length l) (sym replies) a.left;
        next = record {
          hashes = ap (hash_of a.account.algo) password_is ∙ hash ∙ ap (λ l. unwrap_or (last_or None (a.account.password ∷ l)) 0) (sym replies);
          unused = ap (λ p. list_any (nat_eq p) (a.account.password ∷ passwords_of a.number (logins_in setup journal))) password_is ∙ ap (λ l. list_any (nat_eq (value_of e.decision)) (a.account.password ∷ l)) replies ∙ unused;
        };
      }

  more : (accepted : accepts e ≡ true) → logins_in setup (journal ++ e ∷ []) ≡ logins_in setup journal ++ made ∷ []
  unfolding made
  more accepted = logins_more setup journal e ∙ ap (λ b. logins_in setup journal ++ option_to_list (cond b (Some (login_of setup journal e)) None)) accepted

  replied : (accepted : accepts e ≡ true) → Follow setup (journal ++ e ∷ [])
  replied accepted = record {
    passwords = λ number account stands.
        ap (passwords_of number) (more accepted)
        ∙ passwords_push number (logins_in setup journal) made
        ∙ ap (λ b. passwords_of number (logins_in setup journal) ++ cond b (made.password ∷ []) []) (ap (is_number number) of)
        ∙ ap (λ p. passwords_of number (logins_in setup journal) ++ cond (nat_eq a.number number) (p ∷ []) []) password_is
        ∙ ap (λ l. l ++ cond (nat_eq a.number number) (value_of e.decision ∷ []) []) (f.passwords number account stands)
        ∙ ap (λ l. replies_of journal account.name ++ l) (sym (reply_is accepted number account stands))
        ∙ sym (replies_of-push account.name journal e);
    verified = subst (λ l. VerifyTo setup l (length l)) (sym (more accepted)) (verified_push setup (logins_in setup journal) made f.verified verifies);
    counted = (let c = count_push journal e in let d = ap (λ b. count_by accepts journal + cond b 1 0) accepted in let l = ap length (more accepted) in omega (arith, c, d, l, f.counted, length_push (logins_in setup journal) made));
  }

-- what holds of the replies of every legal journal
pub follows : (setup : Settings) (journal : List Event) → IsInRange setup → IsLegal setup journal → Follow setup journal
follows setup journal in_range legal = by_legal_events setup (Follow setup) first next journal legal where
  first : Follow setup []
  first = record { passwords = λ number account stands. ap (passwords_of number) (logins_in-is setup []) ∙ sym (replies_of-none account.name); verified = λ place d lt. absurd (let e = ap length (logins_in-is setup []) in omega (arith, lt, e)); counted = ap length (logins_in-is setup []) }

  next : (j : List Event) (e : Event) → IsLegal setup j → IsNext setup j e → Follow setup j → Follow setup (j ++ e ∷ [])
  next j e l n f = go (accepts e) refl where
    go : (b : Bool) → accepts e ≡ b → Follow setup (j ++ e ∷ [])
    go true is = replied setup j e in_range (accepts_next setup j e l n is) f is
    go false is = silent setup j e is f
