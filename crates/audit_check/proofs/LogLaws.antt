-- The policy's consequences hold of a legal log.
use Rattle.std.proofs.Common.{◌≡◌, ◌≢◌, ℕ, ◌<◌, ◌≤◌, ◌==◌, Bool, true, ◌&&◌, List, ◌∷◌, length, map, take, slice_get, Option, Some, None, refl, sym, ap, subst, ◌∙◌}
use Rattle.std.specs.Prelude.{is_some, option_map}
use Rattle.std.proofs.lemmas.List.{take-map}
use Rattle.std.proofs.lemmas.Option.{slice_get-map}
use Rattle.request_catalogue.specs.declared.texts.Name.{Name}
use Rattle.otp_hash.specs.Hashing.{hash_of}
use Rattle.policy_model.specs.declared.event.Event.{Event}
use Rattle.policy_model.specs.Asks.{accepts, exports, reserves, takes_user, value_of}
use Rattle.policy_model.specs.Journal.{Place, is_own}
use Rattle.policy_model.specs.Logins.{challenged_user, current_password, reply_for}
use Rattle.policy_model.specs.Settings.{Settings, are_distinct}
use Rattle.policy_laws.specs.Consequences.{IsLastTaking, IsVerifiedBefore, NoPasswordTwice, OneTakerAtATime, RepliesAt, SequenceFalls, StandsAt, VerifiedBeforeExport}
use Rattle.policy_laws.proofs.Exports.{verified_before_export}
use Rattle.policy_laws.proofs.Replies.{no_password_twice}
use Rattle.policy_laws.proofs.Sequences.{one_taker_at_a_time, sequence_falls}
use Rattle.policy_laws.specs.Consequences.{HasConsequences}
use Rattle.audit_check.specs.Legal.{IsLegalLog}
use Rattle.audit_check.proofs.Alike.{Alike, alike_challenged, alike_map, alike_password, alike_replies}
use Rattle.audit_check.proofs.Shown.{accepts_same, exports_same, plain, reply_for_same, reserves_same, user_same, value_plain}
use Rattle.audit_check.proofs.Witness.{witness, witness_legal, witness_plain}

-- 1. One event

-- what is read off what is shown of an event is read off its witness
over_witness : {A : Type 0} (f : Event → A) → ((e : Event) → f (plain e) ≡ f e) → (e : Event) → f (witness e) ≡ f e
over_witness f same e = sym (same (witness e)) ∙ ap f (witness_plain e) ∙ same e

value_witness : (e : Event) → value_of (witness e).decision ≡ value_of e.decision
value_witness e = over_witness (λ x. value_of x.decision) (λ x. value_plain x.decision) e

-- 2. Places

alike : (events : List Event) → Alike (map witness events) events
alike = alike_map witness witness_plain

stands_witness : (events : List Event) (place : ℕ) (e : Event) → slice_get events place ≡ Some e → slice_get (map witness events) place ≡ Some (witness e)
stands_witness events place e h = slice_get-map witness events place ∙ ap (option_map witness) h

-- an event of the journal is an event's witness
record ComesFrom (events : List Event) (place : ℕ) (w : Event) : Type 0 where
  pub event : Event
  pub stands : slice_get events place ≡ Some event
  pub is : witness event ≡ w

comes_from : (events : List Event) (place : ℕ) (w : Event) → slice_get (map witness events) place ≡ Some w → ComesFrom events place w
comes_from events place w h = go (slice_get events place) refl (sym (slice_get-map witness events place) ∙ h) where
  go : (o : Option Event) → slice_get events place ≡ o → option_map witness o ≡ Some w → ComesFrom events place w
  go (Some e) there same = record { event = e; stands = there; is = cc }
  go None there same = absurd cc

front : (events : List Event) (place : ℕ) → take place (map witness events) ≡ map witness (take place events)
front events place = take-map witness place events

abbrev at : List Event → Event → Place
at before e = record { before = before; event = e }

abbrev shown_place : Place → Place
shown_place p = record { before = map plain p.before; event = plain p.event }

reply_at : (user : Name) (events : List Event) (place : ℕ) (e : Event) → reply_for user (at (take place (map witness events)) (witness e)) ≡ reply_for user (at (take place events) e)
reply_at user events place e =
    ap (λ b. reply_for user (at b (witness e))) (front events place)
    ∙ sym (reply_for_same user (at (map witness (take place events)) (witness e)))
    ∙ ap (λ b. reply_for user (at b (plain (witness e)))) (alike (take place events))
    ∙ ap (λ x. reply_for user (at (map plain (take place events)) x)) (witness_plain e)
    ∙ reply_for_same user (at (take place events) e)

event_at : (test : Event → Bool) → ((e : Event) → test (plain e) ≡ test e) → (events : List Event) (place : ℕ) (e : Event) → StandsAt events test place e → StandsAt (map witness events) test place (witness e)
event_at test same events place e t = record { stands = stands_witness events place e t.stands; passes = over_witness test same e ∙ t.passes }

replies_at : (user : Name) (events : List Event) (place : ℕ) (e : Event) → RepliesAt events user place e → RepliesAt (map witness events) user place (witness e)
replies_at user events place e t = record { stands = stands_witness events place e t.stands; replies = ap is_some (reply_at user events place e) ∙ t.replies }

-- 3. The consequences

once : (setup : Settings) (events : List Event) → NoPasswordTwice setup (map witness events) → NoPasswordTwice setup events
once setup events law = record { distinct = λ user account found. ap (λ r. are_distinct ◌==◌ (account.password ∷ r)) (sym (alike_replies (map witness events) events (alike events) account.name)) ∙ law.distinct user account found }

falls : (setup : Settings) (events : List Event) → SequenceFalls setup (map witness events) → SequenceFalls setup events
falls setup events law = record {
  few = λ user account found. subst (λ r. length r ≤ account.sequence) (alike_replies (map witness events) events (alike events) user) (law.few user account found);
  falls = λ user i k j earlier reply later ik kj a b c.
      subst (λ n. n < value_of earlier.decision) (value_witness later)
      (subst (λ n. value_of (witness later).decision < n) (value_witness earlier)
      (law.falls user i k j (witness earlier) (witness reply) (witness later) ik kj (event_at (reserves user) (reserves_same user) events i earlier a) (replies_at user events k reply b) (event_at (reserves user) (reserves_same user) events j later c)));
}

last_taking : (user : Name) (events : List Event) (i k : ℕ) (taking : Event) → IsLastTaking events user i k taking → IsLastTaking (map witness events) user i k (witness taking)
last_taking user events i k taking is = record { taken = event_at (takes_user user) (user_same user) events i taking is.taken; last = last } where
  last : (n : ℕ) (w : Event) → i < n → n < k → StandsAt (map witness events) (takes_user user) n w → w.session ≢ taking.session
  last n w low high t =
      let from = comes_from events n w t.stands in
      let takes : takes_user user from.event ≡ true = sym (over_witness (takes_user user) (user_same user) from.event) ∙ ap (takes_user user) from.is ∙ t.passes in
      λ h. is.last n from.event low high (record { stands = from.stands; passes = takes }) (ap (λ x. x.session) from.is ∙ h)

one_taker : (setup : Settings) (events : List Event) → OneTakerAtATime setup (map witness events) → OneTakerAtATime setup events
one_taker setup events law = record {
  alone = λ user i k taking reply replied taken same m e low high t.
      law.alone user i k (witness taking) (witness reply) (replies_at user events k reply replied) (last_taking user events i k taking taken) same m (witness e) low high (event_at (takes_user user) (user_same user) events m e t);
}

verified_from : (setup : Settings) (events : List Event) (k session number : ℕ) → IsVerifiedBefore setup (map witness events) k session number → IsVerifiedBefore setup events k session number
verified_from setup events k session number v = record {
  place = v.place;
  reply = from.event;
  user = v.user;
  account = v.account;
  before = v.before;
  stands = from.stands;
  accepted = sym (ap (λ b. (from.event.session == session) && b) (over_witness accepts accepts_same from.event)) ∙ ap (is_own session accepts) from.is ∙ v.accepted;
  challenged = sym (alike_challenged (map witness behind) behind (alike behind) session) ∙ ap (λ b. challenged_user b session) (sym (front events v.place)) ∙ v.challenged;
  numbered = v.numbered;
  found = v.found;
  hashes =
      ap (hash_of v.account.algo) (sym (value_witness from.event) ∙ ap (λ x. value_of x.decision) from.is)
      ∙ v.hashes
      ∙ ap (λ b. current_password b v.account) (front events v.place)
      ∙ alike_password (map witness behind) behind (alike behind) v.account;
} where
  from : ComesFrom events v.place v.reply
  from = comes_from events v.place v.reply v.stands

  behind : List Event
  behind = take v.place events

verified : (setup : Settings) (events : List Event) → VerifiedBeforeExport setup (map witness events) → VerifiedBeforeExport setup events
verified setup events law = record {
  verified = λ k e stands exported.
      verified_from setup events k e.session (value_of e.decision)
      (subst (λ n. IsVerifiedBefore setup (map witness events) k e.session n) (value_witness e)
      (law.verified k (witness e) (stands_witness events k e stands) (over_witness exports exports_same e ∙ exported)));
}

pub consequences : (setup : Settings) (events : List Event) → IsLegalLog setup events → HasConsequences setup events
consequences setup events legal =
    let journal = (witness_legal setup events legal).0 in
    record {
      verified = verified setup events (verified_before_export setup (map witness events) journal);
      once = once setup events (no_password_twice setup (map witness events) journal);
      falls = falls setup events (sequence_falls setup (map witness events) journal);
      one_taker = one_taker setup events (one_taker_at_a_time setup (map witness events) journal);
    }
