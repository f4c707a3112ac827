-- What a permitted CHALLENGE, REPLY and EXPORT of a legal journal tell.
use Rattle.std.proofs.Common.{◌≡◌, ℕ, ◌-◌, Bool, true, false, not, ◌&&◌, ◌||◌, cond, eqb, nat_le, nat_lt, ◌+◌, ◌<◌, List, arith, [], ◌∷◌, length, Option, Some, None, refl, sym, ap, subst, ◌∙◌}
use Rattle.std.proofs.lemmas.Bool.{and_parts, not-false, not-true}
use Rattle.std.proofs.lemmas.Bool.Decides.{nat_tests}
use Rattle.std.specs.List.{find, list_any}
use Rattle.std.proofs.lemmas.Slice.Eq.{bytes_eq-Decides}
use Rattle.request_catalogue.specs.declared.kind.Kind.{Kind}
use Rattle.request_catalogue.specs.declared.kind.Kind.TheVariants as kinds
use Rattle.request_catalogue.specs.declared.texts.Name.{Name}
use Rattle.request_catalogue.specs.TextBytes.{name_bytes}
use Rattle.request_catalogue.proofs.TextLemmas.{same_from_name_bytes}
use Rattle.policy_model.specs.declared.account.Account.{Account}
use Rattle.policy_model.specs.declared.event.Ask.{Ask}
use Rattle.policy_model.specs.declared.event.Ask.TheVariants as asks
use Rattle.policy_model.specs.declared.event.Decision.{Decision}
use Rattle.policy_model.specs.declared.event.Decision.TheVariants.{Permit, Deny, Lost}
use Rattle.policy_model.specs.declared.event.Event.{Event}
use Rattle.policy_model.specs.declared.phase.Row.{Row}
use Rattle.policy_model.specs.declared.reading.TheConstants.{DECOYS_FROM}
use Rattle.policy_model.specs.Asks.{accepts, exports, is_denied_reply, is_lost, is_permit, came_by_frame, permits_kind, request_number, reserves, takes_user, value_of, is_user}
use Rattle.policy_model.specs.Cases.{is_challenge_for, is_export, is_reply, is_holder, login_verdict, matching_verdict, number_named, readings_verdict}
use Rattle.policy_model.specs.Decoys.{decoy_number}
use Rattle.policy_model.specs.Journal.{ask_count, count_of, has_event, open_session_of}
use Rattle.policy_model.specs.Legal.{IsNext}
use Rattle.policy_model.specs.Logins.{account_of, challenged_user, current_sequence, holder_of, is_live, last_taking_of, reply_for, session_taking, verified_user, was_accepted, was_decoyed}
use Rattle.policy_model.specs.Phases.{is_over, phase_of, table_row}
use Rattle.policy_model.specs.Settings.{Settings, same_name}
use Rattle.policy_model.specs.Verdict.{account_verdict, challenge_verdict, decoy_challenge, decoy_verdict, is_held, is_next_password, kind_verdict, readings, reply_verdict, request_verdict, row_verdict}
use Rattle.policy_model.proofs.Runs.{next_decision, next_session, no_begin}
use Rattle.policy_model.proofs.Verdicts.{session_of-other, verdict_of-request}

-- two names of the same bytes are the same
pub same_from_same_name : (a b : Name) → same_name a b ≡ true → a ≡ b
same_from_same_name a b h = same_from_name_bytes a b ((bytes_eq-Decides (name_bytes a) (name_bytes b)).0 h)

pub same_name-same : (a : Name) → same_name a a ≡ true
same_name-same a = (bytes_eq-Decides (name_bytes a) (name_bytes a)).1 refl

pub same_some : {X : Type 0} (x y : X) → Some x ≡ Some y → x ≡ y
same_some x y h = cc

-- what is permitted where a denial stood first wasn't denied
pub permit_from : (b : Bool) (rule detail v : ℕ) (d : Decision) → cond b (Deny rule detail) d ≡ Permit v → (b ≡ false) × (d ≡ Permit v)
permit_from true rule detail v d h = absurd cc
permit_from false rule detail v d h = (refl, h)

pub permit_value : (d : Decision) → is_permit d ≡ true → d ≡ Permit (value_of d)
permit_value (Permit v) h = refl
permit_value _ h = absurd cc

pub permit_kept : (d : Decision) → is_permit d ≡ true → is_lost d ≡ false
permit_kept Lost h = absurd cc
permit_kept _ h = refl

pub row_permit : (setup : Settings) (journal : List Event) (session : ℕ) (kind : Kind) (ask : Ask) (row : Row) (value : ℕ) → row_verdict setup journal session ask kind row ≡ Permit value → (row.permitted ≡ true) × (kind_verdict setup journal session ask ≡ Permit value)
row_permit setup journal session kind ask row value h =
    let a = permit_from (not row.permitted) 6 (request_number ask) value _ h in
    let b = permit_from (row.once && has_event journal session (permits_kind kind)) 7 (request_number ask) value _ a.1 in
    (not-false row.permitted a.0, b.1)

pub find_passes : {X : Type 0} (p : X → Bool) (xs : List X) (x : X) → find p xs ≡ Some x → p x ≡ true
find_passes p [] x h = absurd cc
find_passes p (y ∷ ys) x h = go (p y) refl h (find_passes p ys x) where
  go : (b : Bool) → p y ≡ b → cond b (Some y) (find p ys) ≡ Some x → (find p ys ≡ Some x → p x ≡ true) → p x ≡ true
  go true is h rest = let e : y ≡ x = cc in subst (λ z. p z ≡ true) e is
  go false is h rest = rest h

-- a REPLY is permitted where its session holds the user, and its password is the next one
pub record Accepted (setup : Settings) (journal : List Event) (session : ℕ) (user : Name) (password : ℕ) : Type 0 where
  pub account : Account
  pub holds : is_holder session (holder_of journal user) ≡ true
  pub found : account_of setup user ≡ Some account
  pub next : is_next_password journal account password ≡ true

matching_permit : (journal : List Event) (account : Account) (passwords : List ℕ) (o : Option ℕ) (value : ℕ) → find (is_next_password journal account) passwords ≡ o → matching_verdict journal account passwords o ≡ Permit value → is_next_password journal account value ≡ true
matching_permit journal account passwords None value is h =
    let deny : Deny 16 0 ≡ Permit value = (permit_from (list_any (was_accepted journal account) passwords) 15 0 value (Deny 16 0) h).1 in
    absurd cc
matching_permit journal account passwords (Some c) value is h =
    let same : c ≡ value = cc in
    subst (λ x. is_next_password journal account x ≡ true) same (find_passes (is_next_password journal account) passwords c is)

readings_permit : (journal : List Event) (passwords : List ℕ) (o : Option Account) (value : ℕ) → readings_verdict journal passwords o ≡ Permit value → (account : Account) × (o ≡ Some account) × (is_next_password journal account value ≡ true)
readings_permit journal passwords None value h = absurd cc
readings_permit journal passwords (Some account) value h = (account, refl, matching_permit journal account passwords (find (is_next_password journal account) passwords) value refl h)

login_permit : (setup : Settings) (journal : List Event) (session : ℕ) (passwords : List ℕ) (o : Option Name) (value : ℕ) → login_verdict setup journal session passwords o ≡ Permit value → (user : Name) × (o ≡ Some user) × Accepted setup journal session user value
login_permit setup journal session passwords None value h = absurd cc
login_permit setup journal session passwords (Some user) value h =
    let a = permit_from (not (is_holder session (holder_of journal user))) 13 (session_taking (last_taking_of journal user)) value _ h in
    let b = permit_from (eqb (length passwords) 0) 14 0 value _ a.1 in
    let r = readings_permit journal passwords (account_of setup user) value b.1 in
    (user, refl, record { account = r.0; holds = not-false (is_holder session (holder_of journal user)) a.0; found = r.1; next = r.2 })

-- what a session's request was judged by, that is permitted
pub request_permit : (setup : Settings) (journal : List Event) (e : Event) → IsNext setup journal e → came_by_frame e.ask ≡ true → is_permit e.decision ≡ true → request_verdict setup journal e.session e.ask ≡ Permit (value_of e.decision)
request_permit setup journal e next request permit =
    let judged : e.decision ≡ request_verdict setup journal (open_session_of journal e.worker) e.ask = next_decision setup journal e next (permit_kept e.decision permit) ∙ verdict_of-request setup journal e.worker e.ask request in
    let own : e.session ≡ open_session_of journal e.worker = next_session setup journal e next ∙ session_of-other journal e.worker e.ask e.decision (no_begin e.ask request) in
    ap (λ s. request_verdict setup journal s e.ask) own ∙ sym judged ∙ permit_value e.decision permit

no_decoy_permit : (b : Bool) (passwords : List ℕ) (value : ℕ) (d : Decision) → cond b (decoy_verdict passwords) d ≡ Permit value → d ≡ Permit value
no_decoy_permit false passwords value d h = h
no_decoy_permit true passwords value d h =
    let deny : Deny 16 0 ≡ Permit value = (permit_from (eqb (length passwords) 0) 14 0 value (Deny 16 0) h).1 in
    absurd cc

reply_judged : (setup : Settings) (journal : List Event) (session : ℕ) (ask : Ask) (value : ℕ) → is_reply ask ≡ true → request_verdict setup journal session ask ≡ Permit value → (user : Name) × (challenged_user journal session ≡ Some user) × Accepted setup journal session user value
unfolding kind_verdict reply_verdict
reply_judged setup journal session (asks.Reply words hex) value is h =
    let a = permit_from (eqb session 0 || is_over journal session) 6 3 value _ h in
    let b = permit_from (eqb (ask_count journal session) setup.requests) 1 setup.requests value _ a.1 in
    let r = row_permit setup journal session kinds.Reply (asks.Reply words hex) (table_row (phase_of journal session) kinds.Reply) value b.1 in
    login_permit setup journal session (readings words hex) (challenged_user journal session) value (no_decoy_permit (was_decoyed journal session) (readings words hex) value _ r.1)
reply_judged setup journal session _ value is h = absurd cc

request_reply : (ask : Ask) → is_reply ask ≡ true → came_by_frame ask ≡ true
request_reply (asks.Reply words hex) h = refl
request_reply _ h = absurd cc

-- a permitted REPLY of a legal journal
pub accepted_reply : (setup : Settings) (journal : List Event) (e : Event) → IsNext setup journal e → accepts e ≡ true → (user : Name) × (challenged_user journal e.session ≡ Some user) × Accepted setup journal e.session user (value_of e.decision)
accepted_reply setup journal e next h =
    let is = and_parts (is_reply e.ask) (is_permit e.decision) h in
    reply_judged setup journal e.session e.ask (value_of e.decision) is.0 (request_permit setup journal e next (request_reply e.ask is.0) is.1)

-- a CHALLENGE for a user reserves the user where the account is enabled and its sequence isn't 0, and its value is one less
pub record Taken (setup : Settings) (journal : List Event) (user : Name) (number : ℕ) : Type 0 where
  pub account : Account
  pub found : account_of setup user ≡ Some account
  pub enabled : account.enabled ≡ true
  pub some : eqb (current_sequence journal account) 0 ≡ false
  pub is : number ≡ current_sequence journal account - 1

too_great : (n value : ℕ) → Permit (DECOYS_FROM + n) ≡ Permit value → nat_lt value DECOYS_FROM ≡ true → ⊥
too_great n value h below =
    let same : DECOYS_FROM + n ≡ value = cc in
    let less : value < DECOYS_FROM = grind (arith, nat_tests, below) in
    absurd (omega (arith, same, less))

-- the value of a CHALLENGE for a user that can log in
live_value : (setup : Settings) (journal : List Event) (session : ℕ) (user : Name) (now value : ℕ) (account : Account) → is_live journal account ≡ true → account_verdict setup journal session user now (Some account) ≡ Permit value → value ≡ current_sequence journal account - 1
live_value setup journal session user now value account live h =
    let here = sym (ap (λ b. cond (not b) (decoy_challenge setup user) (cond (is_held setup journal session user now) (Deny 12 (session_taking (last_taking_of journal user))) (Permit (current_sequence journal account - 1)))) live) ∙ h in
    let permit : Permit (current_sequence journal account - 1) ≡ Permit value = (permit_from (is_held setup journal session user now) 12 (session_taking (last_taking_of journal user)) value _ here).1 in
    cc

account_permit : (setup : Settings) (journal : List Event) (session : ℕ) (user : Name) (now value : ℕ) (o : Option Account) → account_of setup user ≡ o → account_verdict setup journal session user now o ≡ Permit value → nat_lt value DECOYS_FROM ≡ true → Taken setup journal user value
account_permit setup journal session user now value None is h below = absurd (too_great (decoy_number setup user) value h below)
account_permit setup journal session user now value (Some account) is h below = go (is_live journal account) refl h where
  go : (b : Bool) → is_live journal account ≡ b → cond (not b) (decoy_challenge setup user) (cond (is_held setup journal session user now) (Deny 12 (session_taking (last_taking_of journal user))) (Permit (current_sequence journal account - 1))) ≡ Permit value → Taken setup journal user value
  go false live g = absurd (too_great (decoy_number setup user) value g below)
  go true live g =
      let both = and_parts account.enabled (not (eqb (current_sequence journal account) 0)) live in
      record { account = account; found = is; enabled = both.0; some = not-true (eqb (current_sequence journal account) 0) both.1; is = live_value setup journal session user now value account live h }

-- what a permitted CHALLENGE was judged by
record Judged (setup : Settings) (journal : List Event) (session : ℕ) (user : Name) (value : ℕ) : Type 0 where
  pub now : ℕ
  pub judged : account_verdict setup journal session user now (account_of setup user) ≡ Permit value

challenge_judged : (setup : Settings) (journal : List Event) (session : ℕ) (ask : Ask) (user : Name) (value : ℕ) → is_challenge_for user ask ≡ true → request_verdict setup journal session ask ≡ Permit value → Judged setup journal session user value
unfolding kind_verdict challenge_verdict
challenge_judged setup journal session (asks.Challenge name now) user value is h =
    let a = permit_from (eqb session 0 || is_over journal session) 6 2 value _ h in
    let b = permit_from (eqb (ask_count journal session) setup.requests) 1 setup.requests value _ a.1 in
    let r = row_permit setup journal session kinds.Challenge (asks.Challenge name now) (table_row (phase_of journal session) kinds.Challenge) value b.1 in
    let c = permit_from (nat_le setup.tries (count_of journal session is_denied_reply)) 8 setup.tries value _ r.1 in
    subst (λ u. Judged setup journal session u value) (same_from_same_name name user is) (record { now = now; judged = c.1 })
challenge_judged setup journal session _ user value is h = absurd cc

request_challenge : (user : Name) (ask : Ask) → is_challenge_for user ask ≡ true → came_by_frame ask ≡ true
request_challenge user (asks.Challenge name now) h = refl
request_challenge user _ h = absurd cc

permitted_challenge : (setup : Settings) (journal : List Event) (e : Event) (user : Name) → IsNext setup journal e → takes_user user e ≡ true → Judged setup journal e.session user (value_of e.decision)
permitted_challenge setup journal e user next h =
    let is = and_parts (is_challenge_for user e.ask) (is_permit e.decision) h in
    challenge_judged setup journal e.session e.ask user (value_of e.decision) is.0 (request_permit setup journal e next (request_challenge user e.ask is.0) is.1)

-- a permitted CHALLENGE of a legal journal that isn't a decoy
pub taken_challenge : (setup : Settings) (journal : List Event) (e : Event) (user : Name) → IsNext setup journal e → reserves user e ≡ true → Taken setup journal user (value_of e.decision)
taken_challenge setup journal e user next h =
    let is = and_parts (takes_user user e) (nat_lt (value_of e.decision) DECOYS_FROM) h in
    let j = permitted_challenge setup journal e user next is.0 in
    account_permit setup journal e.session user j.now (value_of e.decision) (account_of setup user) refl j.judged is.1

-- a permitted CHALLENGE of a legal journal for a user that can log in
pub live_challenge : (setup : Settings) (journal : List Event) (e : Event) (user : Name) (account : Account) → IsNext setup journal e → takes_user user e ≡ true → account_of setup user ≡ Some account → is_live journal account ≡ true → value_of e.decision ≡ current_sequence journal account - 1
live_challenge setup journal e user account next h found live =
    let j = permitted_challenge setup journal e user next h in
    live_value setup journal e.session user j.now (value_of e.decision) account live (ap (account_verdict setup journal e.session user j.now) (sym found) ∙ j.judged)

export_judged : (setup : Settings) (journal : List Event) (session : ℕ) (ask : Ask) (value : ℕ) → is_export ask ≡ true → request_verdict setup journal session ask ≡ Permit value → ((table_row (phase_of journal session) kinds.Export).permitted ≡ true) × (value ≡ number_named setup (verified_user journal session))
unfolding kind_verdict
export_judged setup journal session (asks.Export len) value is h =
    let a = permit_from (eqb session 0 || is_over journal session) 6 5 value _ h in
    let b = permit_from (eqb (ask_count journal session) setup.requests) 1 setup.requests value _ a.1 in
    let r = row_permit setup journal session kinds.Export (asks.Export len) (table_row (phase_of journal session) kinds.Export) value b.1 in
    let permit : Permit (number_named setup (verified_user journal session)) ≡ Permit value = r.1 in
    (r.0, cc)
export_judged setup journal session _ value is h = absurd cc

request_export : (ask : Ask) → is_export ask ≡ true → came_by_frame ask ≡ true
request_export (asks.Export len) h = refl
request_export _ h = absurd cc

-- a permitted EXPORT of a legal journal
pub permitted_export : (setup : Settings) (journal : List Event) (e : Event) → IsNext setup journal e → exports e ≡ true → ((table_row (phase_of journal e.session) kinds.Export).permitted ≡ true) × (value_of e.decision ≡ number_named setup (verified_user journal e.session))
permitted_export setup journal e next h =
    let is = and_parts (is_export e.ask) (is_permit e.decision) h in
    export_judged setup journal e.session e.ask (value_of e.decision) is.0 (request_permit setup journal e next (request_export e.ask is.0) is.1)

-- the account that is found by a name has that name
pub found_name : (setup : Settings) (user : Name) (account : Account) → account_of setup user ≡ Some account → account.name ≡ user
found_name setup user account found = same_from_same_name account.name user (find_passes (λ a. same_name a.name user) setup.accounts account found)

-- a permitted REPLY for a user, in a legal journal
pub new_reply : (setup : Settings) (journal : List Event) (e : Event) (user : Name) (password : ℕ) → IsNext setup journal e → reply_for user (record { before = journal; event = e }) ≡ Some password → Accepted setup journal e.session user password
new_reply setup journal e user password next h = go (accepts e && is_user user (challenged_user journal e.session)) refl h where
  go : (b : Bool) → (accepts e && is_user user (challenged_user journal e.session)) ≡ b → cond b (Some (value_of e.decision)) None ≡ Some password → Accepted setup journal e.session user password
  go false is h = absurd cc
  go true is h =
      let both = and_parts (accepts e) (is_user user (challenged_user journal e.session)) is in
      let a = accepted_reply setup journal e next both.0 in
      let same : a.0 ≡ user = same_from_same_name a.0 user (ap (is_user user) (sym a.1) ∙ both.1) in
      let value : value_of e.decision ≡ password = cc in
      subst (λ u. Accepted setup journal e.session u password) same (subst (λ v. Accepted setup journal e.session a.0 v) value a.2)
