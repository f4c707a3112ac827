-- What recovery from the lines of a journal comes to.
use Rattle.std.proofs.Common.{◌≡◌, ◌≢◌, ℕ, suc, ◌+◌, ◌-◌, ◌<◌, Bool, true, false, not, ◌&&◌, ◌||◌, cond, nat_eq, nat_lt, List, [], ◌∷◌, ◌++◌, filter, get_or, length, map, slice_get, take, Option, None, Some, refl, sym, ap, subst, ◌∙◌, arith, inl, inr, unwrap_or}
use Rattle.std.specs.Prelude.{count_by, option_map, position, Result, Ok, Err}
use Rattle.std.specs.List.{AllByRecursion, last_or, list_any, position_or_len}
use Rattle.std.specs.Option.{option_to_list}
use Rattle.std.specs.Str.{bytes_eq}
use Rattle.std.proofs.lemmas.Bool.Decides.{nat_tests}
use Rattle.std.proofs.lemmas.List.Sums.{sum_by-cons}
use Rattle.std.proofs.lemmas.List.{get_or-map, length-map, same_lists}
use Rattle.std.proofs.lemmas.Option.{get_or_from_slice_get, slice_get-map}
use Rattle.request_catalogue.specs.TextBytes.{name_bytes}
use Rattle.policy_model.specs.declared.account.Account.{Account}
use Rattle.policy_model.specs.declared.event.Event.{Event}
use Rattle.policy_model.specs.declared.reading.TheConstants.{DECOYS_FROM}
use Rattle.policy_model.specs.Asks.{accepts, value_of}
use Rattle.policy_model.specs.Logins.{account_after, current_password, replies_of}
use Rattle.policy_model.specs.Settings.{Settings}
use Rattle.policy_model.proofs.LoginLemmas.{last_or-some}
use Rattle.decision_log.specs.Values.{AskValue, LineValue}
use Rattle.decision_log.specs.Values as values
use Rattle.durable_log.specs.Records.{HasRecords}
use Rattle.otp_ledger.specs.Accounts.{LedgerParts, no_state}
use Rattle.otp_ledger.proofs.StandingLemmas.{some_there}
use Rattle.ledger_journal.specs.declared.answer.Recovered.{Recovered}
use Rattle.ledger_journal.specs.declared.answer.RecoverError.{RecoverError}
use Rattle.ledger_journal.specs.declared.answer.RecoverError.TheVariants as errors
use Rattle.ledger_journal.specs.declared.login.Login.{Login}
use Rattle.ledger_journal.specs.Journals.{IsBackAt, IsRecoveredAs, IsThereAlready, IsWhole, chain_after, chain_known, records_of}
use Rattle.ledger_journal.specs.Lines.{lines_of}
use Rattle.ledger_journal.specs.Logins.{Verifies, account_named, account_taken, has_stored, is_number, is_of, is_passed, is_stored, last_taking, left_of, login_by, login_in, logins_after, logins_of, passwords_of}
use Rattle.ledger_journal.specs.Reads.{IsReadError}
use Rattle.ledger_journal.specs.Recovering.{HasAccepted, HasFault, IsAnswerOf, IsLogOr, IsRefused, is_none_left}
use Rattle.ledger_journal.proofs.AnswerLemmas.{none_left_empty, none_refused, own_by}
use Rattle.ledger_journal.proofs.JournalLemmas.{Follow, follows, logins_in, logins_in-is}
use Rattle.ledger_journal.proofs.LineLemmas.{all_lines, lines_whole, records_len}

-- 1. No reply of a journal is a password that the setup had before

unstored : (setup : Settings) (before : List Login) (login : Login) → Verifies setup before login → (o : Option ℕ) → is_stored setup o login ≡ false
unstored setup before login v None = refl
unstored setup before login v (Some n) = ap (λ a. is_number n a && has_stored (slice_get setup.accounts n) login.password) v.named ∙ go (nat_eq v.number n) refl where
  first : (a b : Bool) → (a || b) ≡ false → a ≡ false
  first true b h = absurd cc
  first false b h = refl

  other : nat_eq login.password v.account.password ≡ false
  other = first (nat_eq login.password v.account.password) (list_any (nat_eq login.password) (passwords_of v.number before)) v.next.unused

  go : (b : Bool) → nat_eq v.number n ≡ b → (nat_eq v.number n && has_stored (slice_get setup.accounts n) login.password) ≡ false
  go false is = ap (λ b. b && has_stored (slice_get setup.accounts n) login.password) is
  go true is =
      let here : v.number ≡ n = grind (arith, nat_tests, is) in
      let apart : nat_eq v.account.password login.password ≡ false = (let ne : login.password ≢ v.account.password = grind (arith, nat_tests, other) in grind (arith, nat_tests, ne)) in
      ap (λ b. b && has_stored (slice_get setup.accounts n) login.password) is
      ∙ ap (λ m. has_stored (slice_get setup.accounts m) login.password) (sym here)
      ∙ ap (λ a. has_stored a login.password) v.stands
      ∙ apart

all_from_at : {X : Type 0} (P : X → Type 0) (xs : List X) → ((k : ℕ) (d : X) → k < length xs → P (get_or xs k d)) → AllByRecursion P xs
all_from_at P [] each = tt
all_from_at P (x ∷ xs) each = (each 0 x (omega arith), all_from_at P xs (λ k d lt. each (suc k) d (omega (arith, lt))))

none_any : (setup : Settings) (o : Option ℕ) (logins : List Login) → AllByRecursion (λ l. (p : Option ℕ) → is_stored setup p l ≡ false) logins → list_any (is_stored setup o) logins ≡ false
none_any setup o [] all = refl
none_any setup o (l ∷ logins) all = ap (λ b. b || list_any (is_stored setup o) logins) (all.0 o) ∙ none_any setup o logins all.1

all_left_over : (setup : Settings) (logins : List Login) → AllByRecursion (λ l. (p : Option ℕ) → is_stored setup p l ≡ false) logins → left_of setup logins ≡ logins
all_left_over setup [] all = refl
all_left_over setup (l ∷ logins) all =
    ap (λ b. cond b (left_of setup logins) (l ∷ left_of setup logins)) (none_any setup l.account (l ∷ logins) all)
    ∙ ap (λ x. l ∷ x) (all_left_over setup logins all.1)

-- 2. A setup before the journal

logins_whole : (setup : Settings) (journal : List Event) → IsWhole setup journal → logins_of setup (records_of journal) ≡ logins_in setup journal
logins_whole setup journal w = ap (logins_after setup []) (lines_whole setup journal w) ∙ sym (logins_in-is setup journal)

left_whole : (setup : Settings) (journal : List Event) → IsWhole setup journal → left_of setup (logins_of setup (records_of journal)) ≡ logins_in setup journal
left_whole setup journal w =
    let f = follows setup journal w.in_range w.legal in
    ap (left_of setup) (logins_whole setup journal w)
    ∙ all_left_over setup (logins_in setup journal) (all_from_at (λ l. (p : Option ℕ) → is_stored setup p l ≡ false) (logins_in setup journal) (λ k d lt. unstored setup (take k (logins_in setup journal)) (get_or (logins_in setup journal) k d) (f.verified k d lt)))

whole_no_fault : (setup : Settings) (journal : List Event) → IsWhole setup journal → (number : ℕ) → HasFault setup (records_of journal) number → ⊥
whole_no_fault setup journal w number fault =
    elim fault [
      | inl line ↦ all_lines setup journal w number line
      | inr reply ↦ none_refused setup (logins_in setup journal) (follows setup journal w.in_range w.legal).verified number (subst (λ l. IsRefused setup l number) (left_whole setup journal w) reply)
    ]

chains_are : (setup : Settings) (journal : List Event) (logins : List Login) (l : LedgerParts) → ((number : ℕ) (account : Account) → slice_get setup.accounts number ≡ Some account → passwords_of number logins ≡ replies_of journal account.name) → HasAccepted setup logins l → map chain_known l.accounts ≡ map (chain_after journal) setup.accounts
chains_are setup journal logins l passwords h =
    same_lists (map chain_known l.accounts) (map (chain_after journal) setup.accounts) (length-map l.accounts chain_known ∙ h.same ∙ sym (length-map setup.accounts (chain_after journal))) each
  where
    each : (k : ℕ) (d : ℕ × ℕ) → k < length (map chain_known l.accounts) → get_or (map chain_known l.accounts) k d ≡ get_or (map (chain_after journal) setup.accounts) k d
    each k d lt =
        let below : k < length l.accounts = omega (arith, lt, length-map l.accounts chain_known) in
        let under : k < length setup.accounts = omega (arith, below, h.same) in
        let there = some_there setup.accounts k under in
        get_or-map chain_known l.accounts k no_state d below
        ∙ ap chain_known (h.states k there.0 there.1)
        ∙ ap (λ (p : List ℕ). (let c : ℕ × ℕ = (there.0.sequence - length p, unwrap_or (last_or None (there.0.password ∷ p)) 0) in c)) (passwords k there.0 there.1)
        ∙ ap (chain_after journal) (sym (get_or_from_slice_get setup.accounts k there.0 there.0 there.1))
        ∙ sym (get_or-map (chain_after journal) setup.accounts k there.0 d under)

pub back : (setup : Settings) (journal : List Event) (result : Result Recovered RecoverError) → IsWhole setup journal → IsAnswerOf setup (records_of journal) result → IsRecoveredAs (IsBackAt setup journal) result
back setup journal (Ok r) w h =
    let f = follows setup journal w.in_range w.legal in
    let ledger : HasAccepted setup (logins_in setup journal) r.ledger = subst (λ l. HasAccepted setup l r.ledger) (left_whole setup journal w) h.ledger in
    record {
      lines = h.lines ∙ records_len 0 journal;
      accepted = h.accepted ∙ ap length (logins_whole setup journal w) ∙ f.counted;
      made = ledger.made;
      chains = chains_are setup journal (logins_in setup journal) r.ledger f.passwords ledger;
    }
back setup journal (Err errors.NoLog) w h = h
back setup journal (Err (errors.Line number)) w h = whole_no_fault setup journal w number h.here
back setup journal (Err errors.OutOfMemory) w h = tt

-- 3. A setup that has the journal already

position_or_len-map : {X : Type 0} (p : X → Bool) (f : X → X) (xs : List X) → ((x : X) → p (f x) ≡ p x) → position_or_len p (map f xs) ≡ position_or_len p xs
position_or_len-map p f [] same = refl
position_or_len-map p f (x ∷ xs) same =
    ap (λ b. cond (not b) (1 + position_or_len p (map f xs)) 0) (same x)
    ∙ ap (λ n. cond (not (p x)) (1 + n) 0) (position_or_len-map p f xs same)

position-map : {X : Type 0} (p : X → Bool) (f : X → X) (xs : List X) → ((x : X) → p (f x) ≡ p x) → position p (map f xs) ≡ position p xs
position-map p f xs same =
    ap (λ n. cond (nat_lt n (length (map f xs))) (Some n) None) (position_or_len-map p f xs same)
    ∙ ap (λ n. cond (nat_lt (position_or_len p xs) n) (Some (position_or_len p xs)) None) (length-map xs f)

module _ (first setup : Settings) (journal : List Event) (after : setup.accounts ≡ map (account_after journal) first.accounts) where
  named_same : (ask : AskValue) → account_named setup ask ≡ account_named first ask
  named_same (values.Challenge user now) =
      ap (position (λ (a : Account). bytes_eq (name_bytes a.name) user)) after
      ∙ position-map (λ (a : Account). bytes_eq (name_bytes a.name) user) (account_after journal) first.accounts (λ a. refl)
  named_same _ = refl

  taken_alike : (o : Option LineValue) → account_taken setup o ≡ account_taken first o
  taken_alike None = refl
  taken_alike (Some v) = ap (λ a. cond (nat_lt (value_of v.decision) DECOYS_FROM) a None) (named_same v.ask)

  logins_alike : (before lines : List LineValue) → logins_after setup before lines ≡ logins_after first before lines
  logins_alike before [] = refl
  logins_alike before (v ∷ lines) =
      ap (λ a. option_to_list (login_by a v) ++ logins_after setup (before ++ v ∷ []) lines) (taken_alike (last_taking before v.session))
      ∙ ap (λ l. option_to_list (login_in first before v) ++ l) (logins_alike (before ++ v ∷ []) lines)

  -- the stored password of an account is the one that the journal accepted last
  stored_is : (number : ℕ) (account : Account) → slice_get first.accounts number ≡ Some account → slice_get setup.accounts number ≡ Some (account_after journal account)
  stored_is number account stands =
      ap (λ l. slice_get l number) after
      ∙ slice_get-map (account_after journal) first.accounts number
      ∙ ap (option_map (account_after journal)) stands

  -- an account's last password is the stored one
  abbrev LastIsStored : List Login → Type 0
  LastIsStored logins = (number : ℕ) (account : Account) (password : ℕ) → slice_get first.accounts number ≡ Some account → last_or None (passwords_of number logins) ≡ Some password → has_stored (slice_get setup.accounts number) password ≡ true

  last_more : (x password : ℕ) (xs : List ℕ) → last_or None xs ≡ Some password → last_or (Some x) xs ≡ Some password
  last_more x password xs h = last_or-some x xs ∙ ap (λ o. Some (unwrap_or o x)) h

  journal_stored : (logins : List Login) → ((number : ℕ) (account : Account) → slice_get first.accounts number ≡ Some account → passwords_of number logins ≡ replies_of journal account.name) → LastIsStored logins
  journal_stored logins passwords number account password stands h =
      let last : last_or None (replies_of journal account.name) ≡ Some password = ap (last_or None) (sym (passwords number account stands)) ∙ h in
      let current : current_password journal account ≡ password = ap (λ o. unwrap_or o 0) (last_more account.password password (replies_of journal account.name) last) in
      let test : nat_eq (current_password journal account) password ≡ true = grind (arith, nat_tests, current) in
      ap (λ a. has_stored a password) (stored_is number account stands) ∙ test

  last_stored : (number password : ℕ) (logins : List Login) → last_or None (passwords_of number logins) ≡ Some password → has_stored (slice_get setup.accounts number) password ≡ true → list_any (is_stored setup (Some number)) logins ≡ true
  last_stored number password [] h stored = absurd cc
  last_stored number password (x ∷ logins) h stored = go (is_of number x) (last_or None (passwords_of number logins)) refl h (last_stored number password logins) where
    rest : Bool
    rest = list_any (is_stored setup (Some number)) logins

    or_true : (b : Bool) → (b || true) ≡ true
    or_true true = refl
    or_true false = refl

    go : (b : Bool) (o : Option ℕ) → last_or None (passwords_of number logins) ≡ o → last_or None (map (λ (l : Login). l.password) (cond b (x ∷ filter (is_of number) logins) (filter (is_of number) logins))) ≡ Some password → (last_or None (passwords_of number logins) ≡ Some password → has_stored (slice_get setup.accounts number) password ≡ true → rest ≡ true) → (b && has_stored (slice_get setup.accounts number) x.password || rest) ≡ true
    go false o is h more = more h stored
    go true None is h more =
        let same : Some x.password ≡ Some password = ap (λ p. Some (unwrap_or p x.password)) (sym is) ∙ sym (last_or-some x.password (passwords_of number logins)) ∙ h in
        let one : x.password ≡ password = cc in
        ap (λ p. has_stored (slice_get setup.accounts number) p || rest) one ∙ ap (λ b. b || rest) stored
    go true (Some q) is h more =
        let same : Some q ≡ Some password = ap (λ p. Some (unwrap_or p x.password)) (sym is) ∙ sym (last_or-some x.password (passwords_of number logins)) ∙ h in
        ap (λ b. has_stored (slice_get setup.accounts number) x.password || b) (more (is ∙ same) stored) ∙ or_true (has_stored (slice_get setup.accounts number) x.password)

  pub record IsOfAccount (login : Login) : Type 0 where
    pub number : ℕ
    pub account : Account
    pub named : login.account ≡ Some number
    pub stands : slice_get first.accounts number ≡ Some account

  none_left : (logins : List Login) → AllByRecursion IsOfAccount logins → LastIsStored logins → left_of setup logins ≡ []
  none_left [] all stored = refl
  none_left (x ∷ logins) all stored =
      ap (λ b. cond b (left_of setup logins) (x ∷ left_of setup logins)) passed
      ∙ none_left logins all.1 (λ number account password stands h. stored number account password stands (more number password (is_of number x) h))
    where
      of : IsOfAccount x
      of = all.0

      more : (number password : ℕ) (b : Bool) → last_or None (passwords_of number logins) ≡ Some password → last_or None (map (λ (l : Login). l.password) (cond b (x ∷ filter (is_of number) logins) (filter (is_of number) logins))) ≡ Some password
      more number password true h = last_more x.password password (passwords_of number logins) h
      more number password false h = h

      own : is_of of.number x ≡ true
      own = ap (is_number of.number) of.named ∙ grind (arith, nat_tests)

      last : ℕ
      last = unwrap_or (last_or None (passwords_of of.number logins)) x.password

      ends : last_or None (passwords_of of.number (x ∷ logins)) ≡ Some last
      ends =
          ap (λ b. last_or None (map (λ (l : Login). l.password) (cond b (x ∷ filter (is_of of.number) logins) (filter (is_of of.number) logins)))) own
          ∙ last_or-some x.password (passwords_of of.number logins)

      passed : is_passed setup x logins ≡ true
      passed =
          ap (λ a. list_any (is_stored setup a) (x ∷ logins)) of.named
          ∙ last_stored of.number last (x ∷ logins) ends (stored of.number of.account last of.stands ends)

  module _ (w : IsWhole first journal) where
    f : Follow first journal
    f = follows first journal w.in_range w.legal

    logins_are : logins_of setup (records_of journal) ≡ logins_in first journal
    logins_are = logins_alike [] (lines_of (records_of journal)) ∙ logins_whole first journal w

    left_is : left_of setup (logins_of setup (records_of journal)) ≡ []
    left_is =
        ap (left_of setup) logins_are
        ∙ none_left (logins_in first journal)
        (all_from_at IsOfAccount (logins_in first journal) (λ k d lt. let v = f.verified k d lt in record { number = v.number; account = v.account; named = v.named; stands = v.stands }))
        (journal_stored (logins_in first journal) f.passwords)

    no_fault : (number : ℕ) → HasFault setup (records_of journal) number → ⊥
    no_fault number fault =
        elim fault [
          | inl line ↦ all_lines first journal w number line
          | inr reply ↦ empty reply.before reply.login reply.later (sym left_is ∙ reply.parts)
        ]
      where
        empty : (before : List Login) (login : Login) (later : List Login) → [] ≡ before ++ login ∷ later → ⊥
        empty [] login later h = absurd cc
        empty (x ∷ before) login later h = absurd cc

    count_any : (events : List Event) → list_any accepts events ≡ not (nat_eq (count_by accepts events) 0)
    count_any [] = refl
    count_any (e ∷ events) = go (accepts e) (count_any events) ∙ ap (λ n. not (nat_eq n 0)) (sym (sum_by-cons (λ (x : Event). cond (accepts x) 1 0) e events)) where
      go : (b : Bool) → list_any accepts events ≡ not (nat_eq (count_by accepts events) 0) → (b || list_any accepts events) ≡ not (nat_eq (cond b 1 0 + count_by accepts events) 0)
      go true h = let ne : 1 + count_by accepts events ≢ 0 = omega arith in let t : nat_eq (1 + count_by accepts events) 0 ≡ false = grind (arith, nat_tests, ne) in sym (ap not t)
      go false h = let same : 0 + count_by accepts events ≡ count_by accepts events = omega arith in h ∙ ap (λ n. not (nat_eq n 0)) (sym same)

    and_true : (b : Bool) → (b && true) ≡ b
    and_true true = refl
    and_true false = refl

    already_is : (not (is_none_left (logins_of setup (records_of journal))) && is_none_left (left_of setup (logins_of setup (records_of journal)))) ≡ list_any accepts journal
    already_is =
        ap (λ l. not (is_none_left (logins_of setup (records_of journal))) && is_none_left l) left_is
        ∙ and_true (not (is_none_left (logins_of setup (records_of journal))))
        ∙ ap (λ l. not (is_none_left l)) logins_are
        ∙ ap not (sym (none_left_empty (logins_in first journal)))
        ∙ ap (λ n. not (nat_eq n 0)) f.counted
        ∙ sym (count_any journal)

    pub again : (result : Result Recovered RecoverError) → IsAnswerOf setup (records_of journal) result → IsRecoveredAs (IsThereAlready setup journal) result
    again (Ok r) h = record {
      lines = h.lines ∙ records_len 0 journal;
      accepted = h.accepted ∙ ap length logins_are ∙ f.counted;
      already = h.already ∙ already_is;
      own = own_by setup r.ledger (subst (λ l. HasAccepted setup l r.ledger) left_is h.ledger);
    }
    again (Err errors.NoLog) h = h
    again (Err (errors.Line number)) h = no_fault number h.here
    again (Err errors.OutOfMemory) h = tt

-- 4. What is answered of an image

pub log_or : (setup : Settings) (image : List ℕ) (records : List (List ℕ)) (result : Result Recovered RecoverError) → HasRecords image records → IsAnswerOf setup records result → IsLogOr image result
log_or setup image records (Ok r) has h = record { records = records; has = has }
log_or setup image records (Err errors.NoLog) has h = absurd h
log_or setup image records (Err (errors.Line number)) has h = record { records = records; has = has }
log_or setup image records (Err errors.OutOfMemory) has h = tt

pub error_or : (image : List ℕ) (e : RecoverError) → IsReadError image e → IsLogOr image (Err e)
error_or image errors.NoLog h = λ some. h some.records some.has
error_or image (errors.Line number) h = absurd h
error_or image errors.OutOfMemory h = tt

pub error_exact : (setup : Settings) (image : List ℕ) (records : List (List ℕ)) (e : RecoverError) → IsReadError image e → HasRecords image records → IsAnswerOf setup records (Err e)
error_exact setup image records errors.NoLog h has = h records has
error_exact setup image records (errors.Line number) h has = absurd h
error_exact setup image records errors.OutOfMemory h has = tt
