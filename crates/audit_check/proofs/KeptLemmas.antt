-- What one more event makes of what is kept of a log.
use Rattle.std.proofs.Common.{◌≡◌, ◌≢◌, ℕ, suc, ◌+◌, ◌-◌, ◌<◌, Bool, true, false, not, ◌&&◌, cond, eqb, arith, rules, List, [], ◌∷◌, ◌++◌, length, length-append, map, set, slice_get, get_or, ◌≤◌, Option, Some, None, Vec, Global, refl, sym, ap, ◌∙◌, ◌⊎◌, inl, inr}
use Rattle.std.specs.Bool.{MatchBool}
use Rattle.std.specs.Option.{option_to_list}
use Rattle.std.proofs.lemmas.Bool.{and_parts, cases_eq, false_from_ne_true, false≢true}
use Rattle.std.proofs.lemmas.Bool.Decides.{nat_tests}
use Rattle.std.proofs.lemmas.List.{get_or-map, get_or-set_other, get_or_append_left, get_or-set_same, length-set}
use Rattle.std.proofs.Math.Seq.{get_or-append_seam}
use Rattle.std.proofs.lemmas.Option.{get_or_from_slice_get, slice_get-get_or, slice_get_within}
use Rattle.request_catalogue.specs.declared.texts.Name.{Name}
use Rattle.policy_model.specs.declared.account.Account.{Account}
use Rattle.policy_model.specs.declared.event.Ask.{Ask}
use Rattle.policy_model.specs.declared.event.Ask.TheVariants as asks
use Rattle.policy_model.specs.declared.event.Decision.{Decision}
use Rattle.policy_model.specs.declared.event.Decision.TheVariants.{Permit, Deny}
use Rattle.policy_model.specs.declared.event.Event.{Event}
use Rattle.policy_model.specs.Asks.{accepts, is_begin, is_permit, leaves, moment_of, request_number, reserves, takes, value_of, is_user}
use Rattle.policy_model.specs.Cases.{is_reply, is_decoy, user_named, account_named, is_holder, login_verdict, sequence_of, taking_moment}
use Rattle.policy_model.specs.Journal.{last_event, open_session_of}
use Rattle.policy_model.specs.Legal.{opening_session, session_of}
use Rattle.policy_model.specs.Logins.{account_of, challenged_user, current_sequence, holder_of, last_taking_of, replies_of, reply_for, session_taking, was_accepted, was_decoyed}
use Rattle.policy_model.specs.Phases.{is_over}
use Rattle.policy_model.specs.Settings.{IsInRange, Settings, account_number, same_name}
use Rattle.policy_model.specs.Verdict.{account_verdict, decoy_challenge, decoy_verdict, is_next_password, reply_verdict, request_verdict, user_verdict, verdict_of}
use Rattle.policy_model.proofs.LoginLemmas.{current_password-is, last_taking_of-none, last_taking_of-push, replies_of-push}
use Rattle.policy_model.proofs.Verdicts.{session_of-other, verdict_of-request}
use Rattle.session_laws.specs.Tied.{ReservesLive, holder_after}
use Rattle.session_laws.proofs.Holders.{holder_of-none, holder_of-other, holder_of-taken}
use Rattle.session_laws.proofs.Numbers.{number_at, numbered_by_name, numbered_by_number}
use Rattle.session_laws.proofs.Permits.{same_from_same_name, same_name-same, same_some}
use Rattle.session_laws.proofs.Settling.{reserves_live, reserves_none}
use Rattle.audit_check.specs.declared.accounts.Standing.{Standing}
use Rattle.audit_check.specs.declared.history.Hold.{Hold}
use Rattle.audit_check.specs.History.{AreEmpty, AreIdle, IsRenewed, IsRenewedTo, IsReplyFor, challenge_by, first_hold, hold_after, hold_by, is_next_by, reply_at, silent_by, standing_by}
use Rattle.audit_check.specs.Legal.{IsDecided, IsLegalLog, MayFollow, is_open, is_password_of, may_be_decided, readings_decide}
use Rattle.audit_check.specs.Following.{is_no_reading, may_be_denied}
use Rattle.policy_laws.specs.Strangers.{without_readings}
use Rattle.otp_hash.specs.Hashing.{hash_of}
use Rattle.std.specs.List.{last_or}
use Rattle.audit_check.proofs.Alike.{alike_map}
use Rattle.audit_check.proofs.Fronts.{legal_none, legal_push}
use Rattle.audit_check.proofs.Recent.{numbered}
use Rattle.audit_check.proofs.Replies.{open_is}
use Rattle.audit_check.proofs.Shown.{over_same, reserves_same}
use Rattle.audit_check.proofs.Witness.{by_log, next_witness, witness, witness_legal, witness_plain}

-- 1. Who takes a user in a log

-- a taking that is no decoy is of a user that can log in, by a session that isn't over
reserved_live : (setup : Settings) (events : List Event) (e : Event) (user : Name) → IsLegalLog setup events → MayFollow setup events e → reserves user e ≡ true → ReservesLive setup (map witness events) (witness e) user
reserved_live setup events e user legal may reserved =
    reserves_live setup (map witness events) (witness e) user (next_witness setup events e may (witness_legal setup events legal).1).0
    (sym (reserves_same user (witness e)) ∙ ap (reserves user) (witness_plain e) ∙ reserves_same user e ∙ reserved)

goes_on : (setup : Settings) (events : List Event) (e : Event) (user : Name) → IsLegalLog setup events → MayFollow setup events e → reserves user e ≡ true → is_over events e.session ≡ false
goes_on setup events e user legal may reserved =
    sym (over_same events e.session)
    ∙ sym (ap (λ xs. is_over xs e.session) (alike_map witness witness_plain events))
    ∙ over_same (map witness events) e.session
    ∙ (reserved_live setup events e user legal may reserved).goes_on

-- so nobody takes a user without an account
never_taken : (setup : Settings) (user : Name) → account_of setup user ≡ None → (events : List Event) → IsLegalLog setup events → last_taking_of events user ≡ None
never_taken setup user none events legal = (by_log setup (λ xs. IsLegalLog setup xs × (last_taking_of xs user ≡ None)) (legal_none setup, last_taking_of-none user) more events legal).1 where
  more : (xs : List Event) (e : Event) → MayFollow setup xs e → IsLegalLog setup xs × (last_taking_of xs user ≡ None) → IsLegalLog setup (xs ++ e ∷ []) × (last_taking_of (xs ++ e ∷ []) user ≡ None)
  more xs e may before = (legal_push setup xs e before.0 may, last_taking_of-push user xs e ∙ ap (λ b. cond b (Some e) (last_taking_of xs user)) unreserved ∙ before.1) where
    unreserved : reserves user e ≡ false
    unreserved = false_from_ne_true (reserves user e) (λ h. let wrong = sym none ∙ (reserved_live setup xs e user before.0 may h).numbered.found in absurd cc)

pub stranger_is : (setup : Settings) (events : List Event) (session : ℕ) (user : Name) → IsLegalLog setup events → account_of setup user ≡ None → Deny 13 0 ≡ user_verdict setup events session [] user
unfolding holder_of
stranger_is setup events session user legal none = rw (never_taken setup user none events legal) refl

-- 2. The hold of a user

abbrev hold_from : Option Event → Option ℕ → Hold
hold_from taking holder = record { taker = session_taking taking; moment = taking_moment taking; holder = holder }

abbrev hold_if : Bool → Event → Hold → Hold
hold_if b e hold = cond b (record { taker = e.session; moment = moment_of e.ask; holder = Some e.session }) (record { taker = hold.taker; moment = hold.moment; holder = holder_after hold.holder e })

pub hold_more : (setup : Settings) (events : List Event) (e : Event) (user : Name) → IsLegalLog setup events → MayFollow setup events e → hold_by (events ++ e ∷ []) user ≡ hold_after user e (hold_by events user)
hold_more setup events e user legal may = go (reserves user e) refl where
  go : (b : Bool) → reserves user e ≡ b → hold_by (events ++ e ∷ []) user ≡ hold_after user e (hold_by events user)
  go true h =
      ap (λ t. hold_from t (holder_of (events ++ e ∷ []) user)) (last_taking_of-push user events e ∙ ap (λ b. cond b (Some e) (last_taking_of events user)) h)
      ∙ ap (hold_from (Some e)) (holder_of-taken events e user h (goes_on setup events e user legal may h))
      ∙ sym (ap (λ b. hold_if b e (hold_by events user)) h)
  go false h =
      ap (λ t. hold_from t (holder_of (events ++ e ∷ []) user)) (last_taking_of-push user events e ∙ ap (λ b. cond b (Some e) (last_taking_of events user)) h)
      ∙ ap (hold_from (last_taking_of events user)) (holder_of-other events e user (numbered setup events legal) may.session h)
      ∙ sym (ap (λ b. hold_if b e (hold_by events user)) h)

-- an event that takes nobody and leaves nobody changes no hold
stays : (o : Option ℕ) (e : Event) → leaves e ≡ false → holder_after o e ≡ o
stays None e h = refl
stays (Some s) e h = go (eqb e.session s) where
  go : (b : Bool) → cond (b && leaves e) None (Some s) ≡ Some s
  go true = ap (λ x. cond x None (Some s)) h
  go false = refl

whole : (hold : Hold) → ◌≡◌ {A = Hold} (record { taker = hold.taker; moment = hold.moment; holder = hold.holder }) hold
whole hold = refl

pub unchanged : (user : Name) (e : Event) (hold : Hold) → takes e ≡ false → leaves e ≡ false → hold ≡ hold_after user e hold
unchanged user e hold untaken stayed =
    sym (ap (λ b. hold_if b e hold) (reserves_none user e untaken)
    ∙ ap (λ o. let h : Hold = record { taker = hold.taker; moment = hold.moment; holder = o } in h) (stays hold.holder e stayed)
    ∙ whole hold)

-- 3. Replies

abbrev reply_if : Bool → ℕ → Option ℕ
reply_if b password = cond b (Some password) None

pub unaccepted_for : (setup : Settings) (events : List Event) (e : Event) → accepts e ≡ false → IsReplyFor setup events e None
unaccepted_for setup events e silent = record { within = search rules; each = λ n account stands. ap (λ b. reply_if (b && is_user account.name (challenged_user events e.session)) (value_of e.decision)) silent }

accepted_is : (events : List Event) (e : Event) (user : Name) (o : Option Name) → accepts e ≡ true → challenged_user events e.session ≡ o → reply_for user (record { before = events; event = e }) ≡ reply_if (is_user user o) (value_of e.decision)
accepted_is events e user o accepted challenged =
    ap (λ b. reply_if (b && is_user user (challenged_user events e.session)) (value_of e.decision)) accepted
    ∙ ap (λ x. reply_if (is_user user x) (value_of e.decision)) challenged

pub nobody_for : (setup : Settings) (events : List Event) (e : Event) → accepts e ≡ true → challenged_user events e.session ≡ None → IsReplyFor setup events e None
nobody_for setup events e accepted challenged = record { within = search rules; each = λ n account stands. accepted_is events e account.name None accepted challenged }

numbered_name : (setup : Settings) (n : ℕ) (account : Account) (user : Name) → IsInRange setup → slice_get setup.accounts n ≡ Some account → same_name user account.name ≡ true → account_number setup user ≡ Some n
numbered_name setup n account user r stands same = ap (account_number setup) (same_from_same_name user account.name same) ∙ number_at setup n account r stands

pub stranger_for : (setup : Settings) (events : List Event) (e : Event) (user : Name) → IsInRange setup → accepts e ≡ true → challenged_user events e.session ≡ Some user → account_number setup user ≡ None → IsReplyFor setup events e None
stranger_for setup events e user r accepted challenged none = record {
  within = search rules;
  each = λ n account stands.
      accepted_is events e account.name (Some user) accepted challenged
      ∙ ap (λ b. reply_if b (value_of e.decision)) (false_from_ne_true (same_name user account.name) (λ same. let wrong = sym none ∙ numbered_name setup n account user r stands same in absurd cc));
}

pub user_for : (setup : Settings) (events : List Event) (e : Event) (user : Name) (number : ℕ) → IsInRange setup → accepts e ≡ true → challenged_user events e.session ≡ Some user → account_number setup user ≡ Some number → IsReplyFor setup events e (Some number)
user_for setup events e user number r accepted challenged is =
    let found = numbered_by_number setup user number is in
    record { within = found.1.below; each = λ n account stands. accepted_is events e account.name (Some user) accepted challenged ∙ at n account stands (cases_eq n number) } where
      at : (n : ℕ) (account : Account) → slice_get setup.accounts n ≡ Some account → (n ≡ number) ⊎ (n ≢ number) → reply_if (same_name user account.name) (value_of e.decision) ≡ reply_at (Some number) (value_of e.decision) n
      at n account stands (inl same) =
          let found = numbered_by_number setup user number is in
          let here : account ≡ found.0 = same_some account found.0 (sym stands ∙ ap (slice_get setup.accounts) same ∙ found.1.stands) in
          let name : account.name ≡ user = ap (λ (a : Account). a.name) here ∙ found.1.named in
          let yes : eqb n number ≡ true = grind (arith, nat_tests, same) in
          ap (λ b. reply_if b (value_of e.decision)) (ap (same_name user) name ∙ same_name-same user) ∙ sym (ap (λ b. reply_if b (value_of e.decision)) yes)
      at n account stands (inr ne) =
          let no : eqb n number ≡ false = grind (arith, nat_tests, ne) in
          ap (λ b. reply_if b (value_of e.decision)) (false_from_ne_true (same_name user account.name) (λ t. ne (same_some n number (sym (numbered_name setup n account user r stands t) ∙ is))))
          ∙ sym (ap (λ b. reply_if b (value_of e.decision)) no)

pub found_for : (setup : Settings) (events : List Event) (e : Event) (user : Name) (number : Option ℕ) → IsInRange setup → accepts e ≡ true → challenged_user events e.session ≡ Some user → number ≡ account_number setup user → IsReplyFor setup events e number
found_for setup events e user None r accepted challenged is = stranger_for setup events e user r accepted challenged (sym is)
found_for setup events e user (Some number) r accepted challenged is = user_for setup events e user number r accepted challenged (sym is)

-- a reply is permitted in an open session alone
begin_none : (ask : Ask) → is_reply ask ≡ true → is_begin ask ≡ false
begin_none (asks.Reply words hex) h = refl
begin_none asks.Begin h = absurd cc
begin_none _ h = absurd cc

unopened : (setup : Settings) (events : List Event) (worker : ℕ) (ask : Ask) → is_reply ask ≡ true → open_session_of events worker ≡ 0 → verdict_of setup events worker ask ≡ Deny 6 (request_number ask)
unopened setup events worker (asks.Reply words hex) h zero = verdict_of-request setup events worker (asks.Reply words hex) refl ∙ ap (λ n. request_verdict setup events n (asks.Reply words hex)) zero
unopened setup events worker _ h zero = absurd cc

pub accepted_open : (setup : Settings) (events : List Event) (e : Event) → MayFollow setup events e → accepts e ≡ true → open_session_of events e.worker ≢ 0
accepted_open setup events e may accepted zero = go (is_open setup events e) refl where
  parts : (is_reply e.ask ≡ true) × (is_permit e.decision ≡ true)
  parts = and_parts (is_reply e.ask) (is_permit e.decision) accepted

  closed : readings_decide setup events (open_session_of events e.worker) ≡ false
  closed = ap (readings_decide setup events) zero

  go : (b : Bool) → is_open setup events e ≡ b → ⊥
  go true h = false≢true (sym closed ∙ (and_parts (is_reply e.ask) (readings_decide setup events (open_session_of events e.worker)) h).1)
  go false h = false≢true (sym (ap is_permit (may.decision.decided h ∙ unopened setup events e.worker e.ask parts.0 zero)) ∙ parts.1)

pub accepted_user : (setup : Settings) (events : List Event) (e : Event) → MayFollow setup events e → accepts e ≡ true → challenged_user events e.session ≡ user_named (last_event events (open_session_of events e.worker) takes)
unfolding challenged_user
accepted_user setup events e may accepted =
    let reply = (and_parts (is_reply e.ask) (is_permit e.decision) accepted).0 in
    ap (λ n. user_named (last_event events n takes)) (may.session ∙ session_of-other events e.worker e.ask e.decision (begin_none e.ask reply))

pub replies_more : (setup : Settings) (events : List Event) (e : Event) (number : Option ℕ) (n : ℕ) (account : Account) (old new : List ℕ) → IsReplyFor setup events e number → slice_get setup.accounts n ≡ Some account → old ≡ replies_of events account.name → new ≡ old ++ option_to_list (reply_at number (value_of e.decision) n) → new ≡ replies_of (events ++ e ∷ []) account.name
replies_more setup events e number n account old new reply stands was is =
    is
    ∙ ap (λ xs. xs ++ option_to_list (reply_at number (value_of e.decision) n)) was
    ∙ ap (λ o. replies_of events account.name ++ option_to_list o) (sym (reply.each n account stands))
    ∙ sym (replies_of-push account.name events e)

-- 4. What is decided by an account

unnumbered : (setup : Settings) (user : Name) → account_number setup user ≡ None → account_of setup user ≡ None
unnumbered setup user none = go (account_of setup user) refl where
  go : (o : Option Account) → account_of setup user ≡ o → account_of setup user ≡ None
  go None is = is
  go (Some account) is = let wrong = sym none ∙ (numbered_by_name setup user account is).1.number_is in absurd cc

pub challenge_none : (setup : Settings) (events : List Event) (session : ℕ) (user : Name) (now : ℕ) → account_number setup user ≡ None → decoy_challenge setup user ≡ account_verdict setup events session user now (account_of setup user)
challenge_none setup events session user now none = sym (ap (account_verdict setup events session user now) (unnumbered setup user none))

abbrev standing_with : List Event → Account → Name → Standing
standing_with events account user = record { enabled = account.enabled; sequence = current_sequence events account; hold = hold_by events user }

pub challenge_some : (setup : Settings) (events : List Event) (session : ℕ) (user : Name) (now number : ℕ) (standing : Standing) → account_number setup user ≡ Some number → ((account : Account) → slice_get setup.accounts number ≡ Some account → standing ≡ standing_by events account) → challenge_by setup user session now standing ≡ account_verdict setup events session user now (account_of setup user)
challenge_some setup events session user now number standing is stands =
    let f = numbered_by_number setup user number is in
    ap (challenge_by setup user session now) (stands f.0 f.1.stands)
    ∙ ap (λ name. challenge_by setup user session now (standing_with events f.0 name)) f.1.named
    ∙ sym (ap (account_verdict setup events session user now) f.1.found)

pub stranger_silent : (setup : Settings) (events : List Event) (session : ℕ) (user : Name) → IsLegalLog setup events → account_number setup user ≡ None → Deny 13 0 ≡ user_verdict setup events session [] user
stranger_silent setup events session user legal none = stranger_is setup events session user legal (unnumbered setup user none)

pub user_silent : (setup : Settings) (events : List Event) (session : ℕ) (user : Name) (number : ℕ) (hold : Hold) → account_number setup user ≡ Some number → ((account : Account) → slice_get setup.accounts number ≡ Some account → hold ≡ hold_by events account.name) → silent_by session hold ≡ user_verdict setup events session [] user
user_silent setup events session user number hold is held =
    let f = numbered_by_number setup user number is in
    ap (silent_by session) (held f.0 f.1.stands)
    ∙ ap (λ name. silent_by session (hold_by events name)) f.1.named
    ∙ go (is_holder session (holder_of events user)) where
      go : (b : Bool) → cond b (Deny 14 0) (Deny 13 (session_taking (last_taking_of events user))) ≡ cond (not b) (Deny 13 (session_taking (last_taking_of events user))) (Deny 14 0)
      go true = refl
      go false = refl

pub silent_decoy : (setup : Settings) (events : List Event) (session : ℕ) (taking : Option Event) → taking ≡ last_event events session takes → is_decoy taking ≡ true → Deny 14 0 ≡ reply_verdict setup events session None None
unfolding reply_verdict was_decoyed
silent_decoy setup events session taking is decoyed = let here : is_decoy (last_event events session takes) ≡ true = sym (ap is_decoy is) ∙ decoyed in rw here refl

pub silent_user : (setup : Settings) (events : List Event) (session : ℕ) (taking : Option Event) (user : Option Name) → taking ≡ last_event events session takes → is_decoy taking ≡ false → user_named taking ≡ user → login_verdict setup events session [] user ≡ reply_verdict setup events session None None
unfolding reply_verdict was_decoyed challenged_user
silent_user setup events session taking user is decoyed named =
    let here : is_decoy (last_event events session takes) ≡ false = sym (ap is_decoy is) ∙ decoyed in
    let name : user_named (last_event events session takes) ≡ user = sym (ap user_named is) ∙ named in
    sym (ap (λ b. cond b (decoy_verdict []) (login_verdict setup events session [] (user_named (last_event events session takes)))) here ∙ ap (login_verdict setup events session []) name)

pub sequence_none : (setup : Settings) (events : List Event) (user : Name) → account_number setup user ≡ None → 0 ≡ sequence_of events (account_named setup (Some user))
sequence_none setup events user none = sym (ap (sequence_of events) (unnumbered setup user none))

pub sequence_some : (setup : Settings) (events : List Event) (user : Name) (number sequence : ℕ) → account_number setup user ≡ Some number → ((account : Account) → slice_get setup.accounts number ≡ Some account → sequence ≡ current_sequence events account) → sequence ≡ sequence_of events (account_named setup (Some user))
sequence_some setup events user number sequence is stands =
    let f = numbered_by_number setup user number is in
    stands f.0 f.1.stands ∙ sym (ap (sequence_of events) f.1.found)

-- 5. The holds of all accounts

any_default : (xs : List Hold) (n : ℕ) (a b : Hold) → n < length xs → get_or xs n a ≡ get_or xs n b
any_default xs n a b lt = same_some (get_or xs n a) (get_or xs n b) (sym (slice_get-get_or xs n a lt) ∙ slice_get-get_or xs n b lt)

pub renewed_none : (accounts : List Account) (e : Event) (old : List Hold) → IsRenewedTo accounts e 0 old old
renewed_none accounts e old = record { same = refl; each = λ n account d lt stands. absurd (omega (arith, lt)); rest = λ n d le. refl }

pub renewed_more : (accounts : List Account) (e : Event) (i : ℕ) (old cur : List Hold) (r : Account) (hold new : Hold) → length old ≡ length accounts → i < length accounts → IsRenewedTo accounts e i old cur → hold ≡ get_or cur i hold → new ≡ hold_after (get_or accounts i r).name e hold → IsRenewedTo accounts e (i + 1) old (set cur i new)
renewed_more accounts e i old cur r hold new many lt before was is = record {
  same = length-set cur i new ∙ before.same;
  each = λ n account d below stands. at n account d below stands (cases_eq n i);
  rest = λ n d le. get_or-set_other cur i n new d (λ same. absurd (omega (arith, same, le))) ∙ before.rest n d (omega (arith, le));
} where
  within : i < length cur
  within = let s = before.same in omega (arith, s, many, lt)

  at : (n : ℕ) (account : Account) (d : Hold) → n < i + 1 → slice_get accounts n ≡ Some account → (n ≡ i) ⊎ (n ≢ i) → get_or (set cur i new) n d ≡ hold_after account.name e (get_or old n d)
  at n account d below stands (inl same) =
      let own : get_or accounts i r ≡ account = get_or_from_slice_get accounts i account r (ap (slice_get accounts) (sym same) ∙ stands) in
      let held : hold ≡ get_or old i d = was ∙ any_default cur i hold d within ∙ before.rest i d (omega arith) in
      ap (λ k. get_or (set cur i new) k d) same
      ∙ get_or-set_same cur i new d within
      ∙ is
      ∙ ap (λ (x : Account). hold_after x.name e hold) own
      ∙ ap (hold_after account.name e) held
      ∙ ap (λ k. hold_after account.name e (get_or old k d)) (sym same)
  at n account d below stands (inr ne) = get_or-set_other cur i n new d ne ∙ before.each n account d (omega (arith, below, ne)) stands

pub renewed_all : (accounts : List Account) (e : Event) (count : ℕ) (old new : List Hold) → IsRenewedTo accounts e count old new → length accounts ≤ count → IsRenewed accounts e old new
renewed_all accounts e count old new to all = record {
  same = to.same;
  each = λ n account d stands. let lt = slice_get_within accounts n account stands in to.each n account d (omega (arith, lt, all)) stands;
}

-- 6. The session of an event

pub begin_session : (events : List Event) (worker : ℕ) (ask : Ask) (decision : Decision) → is_begin ask ≡ true → opening_session events worker decision ≡ session_of events worker ask decision
unfolding session_of
begin_session events worker asks.Begin decision h = refl
begin_session events worker _ decision h = absurd cc

-- 7. The next password

pub last_at : (o : Option ℕ) (xs : List ℕ) → 1 ≤ length xs → last_or o xs ≡ Some (get_or xs (length xs - 1) 0)
last_at o [] le = absurd (omega (arith, le))
last_at o (x ∷ []) le = let first : 0 ≡ length (x ∷ []) - 1 = omega arith in ap (λ k. Some (get_or (x ∷ []) k 0)) first
last_at o (x ∷ y ∷ ys) le =
    let next : suc (length (y ∷ ys) - 1) ≡ length (x ∷ y ∷ ys) - 1 = omega arith in
    last_at (Some x) (y ∷ ys) (omega arith) ∙ ap (λ k. Some (get_or (x ∷ y ∷ ys) k 0)) next

pub next_told : (events : List Event) (account : Account) (replies : List ℕ) (password : ℕ) → replies ≡ replies_of events account.name → is_next_by account replies password ≡ is_next_password events account password
next_told events account replies password is =
    ap (λ xs. is_next_by account xs password) is
    ∙ ap (λ n. eqb (hash_of account.algo password) n && not (was_accepted events account password)) (sym (current_password-is events account))

pub permits_none : (setup : Settings) (events : List Event) (taking : Option Event) (password : ℕ) (user : Name) → is_decoy taking ≡ false → user_named taking ≡ Some user → account_number setup user ≡ None → false ≡ (not (is_decoy taking) && is_password_of events (account_named setup (user_named taking)) password)
permits_none setup events taking password user decoyed named none =
    sym (ap (λ b. not b && is_password_of events (account_named setup (user_named taking)) password) decoyed
    ∙ ap (λ o. is_password_of events (account_named setup o) password) named
    ∙ ap (λ o. is_password_of events o password) (unnumbered setup user none))

pub permits_some : (setup : Settings) (events : List Event) (taking : Option Event) (password : ℕ) (user : Name) (number : ℕ) (next : Bool) → is_decoy taking ≡ false → user_named taking ≡ Some user → account_number setup user ≡ Some number → ((account : Account) → slice_get setup.accounts number ≡ Some account → next ≡ is_next_password events account password) → next ≡ (not (is_decoy taking) && is_password_of events (account_named setup (user_named taking)) password)
permits_some setup events taking password user number next decoyed named is stands =
    let f = numbered_by_number setup user number is in
    stands f.0 f.1.stands
    ∙ sym (ap (λ b. not b && is_password_of events (account_named setup (user_named taking)) password) decoyed
    ∙ ap (λ o. is_password_of events (account_named setup o) password) named
    ∙ ap (λ o. is_password_of events o password) f.1.found)

-- 8. A reply whose readings decide

pub open_some : (setup : Settings) (events : List Event) (session : ℕ) → readings_decide setup events session ≡ true → session ≢ 0
open_some setup events session h zero = false≢true (sym (ap (readings_decide setup events) zero) ∙ h)

pub permit_told : (setup : Settings) (events : List Event) (session password : ℕ) (taking : Option Event) → taking ≡ last_event events session takes → (not (is_decoy taking) && is_password_of events (account_named setup (user_named taking)) password) ≡ may_be_decided setup events session (Permit password)
unfolding was_decoyed challenged_user
permit_told setup events session password taking is = ap (λ t. not (is_decoy t) && is_password_of events (account_named setup (user_named t)) password) is

pub deny_told : (setup : Settings) (events : List Event) (session rule detail : ℕ) (taking : Option Event) → taking ≡ last_event events session takes → may_be_denied rule detail (is_decoy taking) ≡ may_be_decided setup events session (Deny rule detail)
unfolding was_decoyed
deny_told setup events session rule detail taking is = ap (λ t. may_be_denied rule detail (is_decoy t)) is

pub open_told : (setup : Settings) (before : List Event) (worker : ℕ) (ask : Ask) → without_readings ask ≡ ask → is_reply ask ≡ true → is_no_reading (verdict_of setup before worker ask) ≡ (is_reply ask && readings_decide setup before (open_session_of before worker))
open_told setup before worker (asks.Reply words hex) shown h = ap (λ a. is_no_reading (verdict_of setup before worker a)) (sym shown) ∙ open_is setup before worker
open_told setup before worker _ shown h = absurd cc

pub shut_told : (setup : Settings) (before : List Event) (worker : ℕ) (ask : Ask) → is_reply ask ≡ false → false ≡ (is_reply ask && readings_decide setup before (open_session_of before worker))
shut_told setup before worker ask h = sym (ap (λ b. b && readings_decide setup before (open_session_of before worker)) h)

-- 9. Before the first event

first_by : (user : Name) → hold_by [] user ≡ hold_from None None
first_by user = ap (λ t. hold_from t (holder_of [] user)) (last_taking_of-none user) ∙ ap (hold_from None) (holder_of-none user)

pub first_told : (accounts : List Account) (n : ℕ) (account : Account) (d : Hold) → slice_get accounts n ≡ Some account → get_or (map first_hold accounts) n d ≡ hold_by [] account.name
first_told accounts n account d stands = get_or-map first_hold accounts n account d (slice_get_within accounts n account stands) ∙ sym (first_by account.name)

pub empty_more : (xs : List (Vec ℕ Global)) (v : Vec ℕ Global) → v.items ≡ [] → AreEmpty xs → AreEmpty (xs ++ v ∷ [])
empty_more xs v none all n d lt = go (cases_eq n (length xs)) where
  go : (n ≡ length xs) ⊎ (n ≢ length xs) → (get_or (xs ++ v ∷ []) n d).items ≡ []
  go (inl last) = ap (λ k. (get_or (xs ++ v ∷ []) k d).items) last ∙ ap (λ (x : Vec ℕ Global). x.items) (get_or-append_seam xs v [] d) ∙ none
  go (inr ne) =
      let below : n < length xs = omega (arith, lt, ne, length-append xs (v ∷ [])) in
      ap (λ (x : Vec ℕ Global). x.items) (get_or_append_left xs (v ∷ []) d n below) ∙ all n d below

pub idle_more : (xs : List (Vec Event Global)) (v : Vec Event Global) → v.items ≡ [] → AreIdle xs → AreIdle (xs ++ v ∷ [])
idle_more xs v none all n d lt = go (cases_eq n (length xs)) where
  go : (n ≡ length xs) ⊎ (n ≢ length xs) → (get_or (xs ++ v ∷ []) n d).items ≡ []
  go (inl last) = ap (λ k. (get_or (xs ++ v ∷ []) k d).items) last ∙ ap (λ (x : Vec Event Global). x.items) (get_or-append_seam xs v [] d) ∙ none
  go (inr ne) =
      let below : n < length xs = omega (arith, lt, ne, length-append xs (v ∷ [])) in
      ap (λ (x : Vec Event Global). x.items) (get_or_append_left xs (v ∷ []) d n below) ∙ all n d below

-- whether the policy may give an event's decision, on a reply whose readings decide and on any other ask
pub decided_open : (setup : Settings) (events : List Event) (e : Event) (b : Bool) → is_open setup events e ≡ true → (readings_decide setup events (open_session_of events e.worker) ≡ true → b ≡ may_be_decided setup events (open_session_of events e.worker) e.decision) → MatchBool b (IsDecided setup events e) (IsDecided setup events e → ⊥)
decided_open setup events e b opened by =
    go b (by (and_parts (is_reply e.ask) (readings_decide setup events (open_session_of events e.worker)) opened).1) where
      go : (b : Bool) → b ≡ may_be_decided setup events (open_session_of events e.worker) e.decision → MatchBool b (IsDecided setup events e) (IsDecided setup events e → ⊥)
      go true is = record { decided = λ shut. absurd (false≢true (sym shut ∙ opened)); undecided = λ h. sym is }
      go false is = λ d. false≢true (is ∙ d.undecided opened)

pub decided_shut : (setup : Settings) (events : List Event) (e : Event) (b : Bool) (verdict : Decision) → is_open setup events e ≡ false → verdict ≡ verdict_of setup events e.worker e.ask → MatchBool b (e.decision ≡ verdict) (e.decision ≡ verdict → ⊥) → MatchBool b (IsDecided setup events e) (IsDecided setup events e → ⊥)
decided_shut setup events e true verdict shut is told = record { decided = λ h. told ∙ is; undecided = λ opened. absurd (false≢true (sym shut ∙ opened)) }
decided_shut setup events e false verdict shut is told = λ d. told (d.decided shut ∙ sym is)
