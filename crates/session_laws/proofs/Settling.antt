-- What the event that follows makes of the users: whom it takes, whose password it spends, and whom it leaves as they are.
use Rattle.std.proofs.Common.{◌≢◌, ◌≡◌, ℕ, ◌-◌, ◌<◌, ◌≤◌, Bool, true, false, not, ◌&&◌, cond, eqb, ◌==◌, List, [], ◌∷◌, ◌++◌, length, Option, Some, None, refl, sym, ap, subst, ◌∙◌, arith}
use Rattle.std.specs.Prelude.{nat_le, nat_lt}
use Rattle.std.specs.List.{find, list_all}
use Rattle.std.specs.Option.{option_to_list}
use Rattle.std.proofs.lemmas.Bool.{and_parts, and_from, false_from_ne_true, false≢true}
use Rattle.std.proofs.lemmas.Bool.Decides.{nat_tests}
use Rattle.std.proofs.lemmas.List.{append-nil}
use Rattle.request_catalogue.specs.declared.texts.Name.{Name}
use Rattle.policy_model.specs.declared.account.Account.{Account}
use Rattle.policy_model.specs.declared.event.Event.{Event}
use Rattle.policy_model.specs.declared.reading.TheConstants.{DECOYS_FROM}
use Rattle.policy_model.specs.Asks.{accepts, leaves, reserves, takes, takes_user, value_of, is_user}
use Rattle.policy_model.specs.Legal.{IsLegal, IsNext}
use Rattle.policy_model.specs.Logins.{account_of, challenged_user, current_sequence, holder_of, is_live, last_taking_of, replies_of, reply_for}
use Rattle.policy_model.specs.Settings.{IsInRange, Settings, are_distinct, are_grants, is_account, is_number, same_name}
use Rattle.policy_model.specs.Cases.{is_holder}
use Rattle.policy_model.proofs.LoginLemmas.{last_taking_of-push, replies_of-push}
use Rattle.policy_model.proofs.Runs.{next_session}
use Rattle.session_laws.specs.Tied.{AcceptsNext, IsTied, LeavesUser, ReservesLive, holder_after}
use Rattle.session_laws.proofs.Holders.{holder_of-other, legal_tied}
use Rattle.session_laws.proofs.Numbers.{holds_is, numbered_by_name}
use Rattle.session_laws.proofs.Openings.{legal_numbered}
use Rattle.session_laws.proofs.Permits.{accepted_reply, live_challenge, same_from_same_name, taken_challenge}
use Rattle.session_laws.proofs.Permitted.{accepted_no_decoy, permitted_live, reserves_from, takes_from, taking}

-- 1. A CHALLENGE that isn't a decoy

pub reserves_live : (setup : Settings) (journal : List Event) (e : Event) (user : Name) → IsNext setup journal e → reserves user e ≡ true → ReservesLive setup journal e user
reserves_live setup journal e user next reserved =
    let k = taken_challenge setup journal e user next reserved in
    let n = numbered_by_name setup user k.account k.found in
    let t = taking e (takes_from user e (reserves_from user e reserved).0).0 in
    record {
      account = k.account;
      number = n.0;
      numbered = n.1;
      live = and_from k.account.enabled (not (eqb (current_sequence journal k.account) 0)) k.enabled (ap not k.some);
      value = k.is;
      goes_on = (permitted_live setup journal e next t.by_frame t.permitted).live;
    }

-- one for a user that can log in isn't a decoy, since a chain has less than 10,000 passwords
below_decoys : (value sequence : ℕ) → value ≡ sequence - 1 → sequence ≤ 9999 → nat_lt value DECOYS_FROM ≡ true
below_decoys value sequence is le = grind (arith, nat_tests, is, le)

found_fits : {X : Type 0} (p q : X → Bool) (xs : List X) (x : X) → list_all q xs ≡ true → find p xs ≡ Some x → q x ≡ true
found_fits p q [] x all h = absurd cc
found_fits p q (y ∷ ys) x all h = let here = and_parts (q y) (list_all q ys) all in go (p y) h here.0 (found_fits p q ys x here.1) where
  go : (b : Bool) → cond b (Some y) (find p ys) ≡ Some x → q y ≡ true → (find p ys ≡ Some x → q x ≡ true) → q x ≡ true
  go true h first rest = let same : y ≡ x = cc in subst (λ z. q z ≡ true) same first
  go false h first rest = rest h

sequence_few : (setup : Settings) (user : Name) (account : Account) → IsInRange setup → account_of setup user ≡ Some account → account.sequence ≤ 9999
sequence_few setup user account r found =
    let few = nat_le (length setup.accounts) 1024 in
    let each = list_all is_account setup.accounts in
    let names = are_distinct (λ (a b : Account). same_name a.name b.name) setup.accounts in
    let uids = are_distinct (λ (a b : Account). a.uid == b.uid) setup.accounts in
    let all : each ≡ true = (and_parts few each (and_parts (few && each) names (and_parts ((few && each) && names) uids r.accounts).0).0).1 in
    let fits : is_account account ≡ true = found_fits (λ a. same_name a.name user) is_account setup.accounts account all found in
    let le = (and_parts (is_number 1 4294967294 account.uid) (nat_le account.sequence 9999) (and_parts (is_number 1 4294967294 account.uid && nat_le account.sequence 9999) (are_grants account.grants) fits).0).1 in
    grind (arith, nat_tests, le)

pub live_reserves : (setup : Settings) (journal : List Event) (e : Event) (user : Name) (account : Account) → IsInRange setup → IsNext setup journal e → takes_user user e ≡ true → account_of setup user ≡ Some account → is_live journal account ≡ true → reserves user e ≡ true
live_reserves setup journal e user account r next taken found live =
    let value = live_challenge setup journal e user account next taken found live in
    let few = sequence_few setup user account r found in
    let less : current_sequence journal account ≤ 9999 = omega (arith, few) in
    and_from (takes_user user e) (nat_lt (value_of e.decision) DECOYS_FROM) taken (below_decoys (value_of e.decision) (current_sequence journal account) value less)

-- 2. A permitted REPLY

pub accepts_next : (setup : Settings) (journal : List Event) (e : Event) → IsLegal setup journal → IsNext setup journal e → accepts e ≡ true → AcceptsNext setup journal e
accepts_next setup journal e legal next accepted =
    let a = accepted_reply setup journal e next accepted in
    let n = numbered_by_name setup a.0 a.2.account a.2.found in
    let holder : holder_of journal a.0 ≡ Some e.session = holds_is e.session (holder_of journal a.0) a.2.holds in
    let t : IsTied setup journal a.0 e.session = (legal_tied setup journal legal).holders a.0 e.session holder in
    record {
      user = a.0;
      account = a.2.account;
      number = n.0;
      challenged = a.1;
      no_decoy = accepted_no_decoy setup journal e next accepted;
      numbered = n.1;
      holder = holder;
      next = a.2.next;
      left = t.left a.2.account a.2.found;
    }

-- 3. An event that leaves a user as it is

pub reserves_none : (user : Name) (e : Event) → takes e ≡ false → reserves user e ≡ false
reserves_none user e kept = false_from_ne_true (reserves user e) (λ h. false≢true (sym kept ∙ (takes_from user e (reserves_from user e h).0).0))

-- a decoy reserves nobody
pub decoy_reserves_none : (user : Name) (e : Event) → nat_le DECOYS_FROM (value_of e.decision) ≡ true → reserves user e ≡ false
decoy_reserves_none user e decoy = false_from_ne_true (reserves user e) (λ h. let low = (reserves_from user e h).1 in too_low (value_of e.decision) decoy low) where
  too_low : (value : ℕ) → nat_le DECOYS_FROM value ≡ true → nat_lt value DECOYS_FROM ≡ true → ⊥
  too_low value high low =
      let a : DECOYS_FROM ≤ value = grind (arith, nat_tests, high) in
      let b : value < DECOYS_FROM = grind (arith, nat_tests, low) in
      omega (arith, a, b)

after_none : (o : Option ℕ) (e : Event) → (leaves e ≡ true → is_holder e.session o ≡ false) → holder_after o e ≡ o
after_none None e h = refl
after_none (Some session) e h = go (leaves e) refl (eqb e.session session) refl where
  turned : eqb session e.session ≡ eqb e.session session
  turned = grind (arith, nat_tests)

  go : (b : Bool) → leaves e ≡ b → (c : Bool) → eqb e.session session ≡ c → cond (eqb e.session session && leaves e) None (Some session) ≡ Some session
  go false is c same = rw is (ap (λ x. cond x None (Some session)) (nothing (eqb e.session session))) where
    nothing : (x : Bool) → (x && false) ≡ false
    nothing true = refl
    nothing false = refl
  go true is true same = absurd (false≢true (sym (h is) ∙ turned ∙ same))
  go true is false same = rw same refl

-- one that doesn't reserve the user, is no permitted REPLY for it, and isn't of the holder's session where it leaves
pub leaves_user : (setup : Settings) (journal : List Event) (e : Event) (user : Name) → IsLegal setup journal → IsNext setup journal e → reserves user e ≡ false → reply_for user (record { before = journal; event = e }) ≡ None → (leaves e ≡ true → is_holder e.session (holder_of journal user) ≡ false) → LeavesUser journal e user
leaves_user setup journal e user legal next kept none apart = record {
  replies = replies_of-push user journal e ∙ ap (λ o. replies_of journal user ++ option_to_list o) none ∙ append-nil (replies_of journal user);
  taking = last_taking_of-push user journal e ∙ ap (λ b. cond b (Some e) (last_taking_of journal user)) kept;
  holder = holder_of-other journal e user (legal_numbered setup journal legal) (next_session setup journal e next) kept ∙ after_none (holder_of journal user) e apart;
}

-- what isn't accepted is no permitted REPLY for anybody
pub unaccepted : (journal : List Event) (e : Event) (user : Name) → accepts e ≡ false → reply_for user (record { before = journal; event = e }) ≡ None
unaccepted journal e user silent = ap (λ b. cond (b && is_user user (challenged_user journal e.session)) (Some (value_of e.decision)) None) silent

is_the_user : (user : Name) (o : Option Name) → is_user user o ≡ true → o ≡ Some user
is_the_user user None h = absurd cc
is_the_user user (Some name) h = ap (λ (n : Name). Some n) (same_from_same_name name user h)

unreplied : (journal : List Event) (e : Event) (user : Name) → challenged_user journal e.session ≢ Some user → reply_for user (record { before = journal; event = e }) ≡ None
unreplied journal e user other = go (accepts e && is_user user (challenged_user journal e.session)) refl where
  go : (b : Bool) → (accepts e && is_user user (challenged_user journal e.session)) ≡ b → cond b (Some (value_of e.decision)) None ≡ None
  go false is = refl
  go true is = absurd (other (is_the_user user (challenged_user journal e.session) (and_parts (accepts e) (is_user user (challenged_user journal e.session)) is).1))

-- so it leaves every user but the one that it reserves and the one that its session is challenged for
pub leaves_others : (setup : Settings) (journal : List Event) (e : Event) (user : Name) → IsLegal setup journal → IsNext setup journal e → reserves user e ≡ false → challenged_user journal e.session ≢ Some user → LeavesUser journal e user
leaves_others setup journal e user legal next kept other =
    leaves_user setup journal e user legal next kept (unreplied journal e user other)
    (λ left. false_from_ne_true (is_holder e.session (holder_of journal user)) (λ holds.
    let t : IsTied setup journal user e.session = (legal_tied setup journal legal).holders user e.session (holds_is e.session (holder_of journal user) holds) in
    other t.challenged))
