-- A session that was just opened, and what a permitted request adds to a session's kinds.
use Rattle.std.proofs.Common.{◌≡◌, ℕ, ◌+◌, ◌<◌, Bool, true, false, ◌&&◌, ◌==◌, cond, List, [], ◌∷◌, ◌++◌, Some, None, refl, ap, ◌∙◌, arith}
use Rattle.std.specs.Prelude.{nat_le}
use Rattle.request_catalogue.specs.declared.kind.Kind.{Kind}
use Rattle.request_catalogue.specs.declared.kind.Kind.TheVariants as kinds
use Rattle.request_catalogue.specs.Kinds.{kind_number}
use Rattle.policy_model.specs.declared.event.Ask.{Ask}
use Rattle.policy_model.specs.declared.event.Ask.TheVariants as asks
use Rattle.policy_model.specs.declared.event.Decision.{Decision}
use Rattle.policy_model.specs.declared.event.Decision.TheVariants.{Permit, Deny, Lost}
use Rattle.policy_model.specs.declared.event.Event.{Event}
use Rattle.policy_model.specs.declared.reading.TheConstants.{DECOYS_FROM}
use Rattle.policy_model.specs.Asks.{accepts, came_by_frame, challenge_name, ends_session, exports, is_denied_reply, is_login_step, is_permit, kind_of, opens, opens_file, permits_kind, request_number, takes, value_of}
use Rattle.policy_model.specs.Cases.{number_of_kind}
use Rattle.policy_model.specs.Journal.{last_event, openings_of}
use Rattle.policy_model.specs.Legal.{IsLegal, IsNext}
use Rattle.policy_model.specs.Logins.{challenged_user, was_decoyed}
use Rattle.policy_model.specs.Runs.{AreNumbered}
use Rattle.policy_model.specs.Settings.{Settings}
use Rattle.policy_model.proofs.Runs.{next_session}
use Rattle.policy_model.proofs.Sessions.{ask_count-new}
use Rattle.session_laws.specs.Handled.{handles_after}
use Rattle.session_laws.specs.Opened.{IsFresh}
use Rattle.session_laws.proofs.HandleSteps.{live_handles_of-new, live_handles_of-own}
use Rattle.session_laws.proofs.Openings.{legal_numbered, session_new}
use Rattle.session_laws.proofs.PhaseLemmas.{phase_of-pre}
use Rattle.session_laws.proofs.SessionEvents.{ask_count-own, count_of-new, count_of-own, events_of-new, has_event-new, has_event-own, is_over-opened, last_event-new, last_event-own}
use Rattle.session_laws.proofs.UserLemmas.{challenged_user-new, challenged_user-own, was_decoyed-new, was_decoyed-own}

-- 1. What an opening is not

kind_is_some : (kind : Kind) → (0 == kind_number kind) ≡ false
kind_is_some kinds.Banner = refl
kind_is_some kinds.Challenge = refl
kind_is_some kinds.Reply = refl
kind_is_some kinds.Abandon = refl
kind_is_some kinds.Export = refl
kind_is_some kinds.Import = refl
kind_is_some kinds.ReadAt = refl
kind_is_some kinds.WriteAt = refl
kind_is_some kinds.OpenFile = refl
kind_is_some kinds.CloseFile = refl
kind_is_some kinds.Info = refl
kind_is_some kinds.Note = refl
kind_is_some kinds.Finish = refl

pub record IsOpening (e : Event) : Type 0 where
  pub by_no_frame : came_by_frame e.ask ≡ false
  pub goes_on : ends_session e ≡ false
  pub exports_none : exports e ≡ false
  pub accepts_none : accepts e ≡ false
  pub takes_none : takes e ≡ false
  pub no_step : is_login_step e ≡ false
  pub denies_none : is_denied_reply e ≡ false
  pub opens_none : opens_file e ≡ false
  pub permits_none : (kind : Kind) → permits_kind kind e ≡ false

opening_by : (worker session : ℕ) (ask : Ask) (d : Decision) → opens (record { worker = worker; session = session; ask = ask; decision = d }) ≡ true → IsOpening (record { worker = worker; session = session; ask = ask; decision = d })
opening_by worker session asks.Begin (Permit value) h = record {
  by_no_frame = refl;
  goes_on = refl;
  exports_none = refl;
  accepts_none = refl;
  takes_none = refl;
  no_step = refl;
  denies_none = refl;
  opens_none = refl;
  permits_none = λ kind. ap (λ b. b && true) (kind_is_some kind);
}
opening_by worker session asks.Begin (Deny rule detail) h = absurd cc
opening_by worker session asks.Begin Lost h = absurd cc
opening_by worker session _ d h = absurd cc

pub opening : (e : Event) → opens e ≡ true → IsOpening e
opening e h = opening_by e.worker e.session e.ask e.decision h

-- 2. The session is fresh

pub opened_fresh : (journal : List Event) (e : Event) → AreNumbered journal (openings_of journal) → e.session ≡ openings_of journal + 1 → opens e ≡ true → IsFresh (journal ++ e ∷ []) e.session
opened_fresh journal e numbered number opened =
    let o = opening e opened in
    let last : ℕ = openings_of journal in
    let s : ℕ = e.session in
    let lt : last < s = omega (arith, number) in
    record {
      phase = phase_of-pre (journal ++ e ∷ []) s
          (is_over-opened journal e (events_of-new journal last s numbered lt) opened o.goes_on)
          (has_event-own journal e s exports refl ∙ rw (has_event-new journal last s exports numbered lt, o.exports_none) refl)
          (has_event-own journal e s accepts refl ∙ rw (has_event-new journal last s accepts numbered lt, o.accepts_none) refl)
          (last_event-own journal e s is_login_step refl ∙ ap (λ b. cond b (Some e) (last_event journal s is_login_step)) o.no_step ∙ last_event-new journal last s is_login_step numbered lt);
      asked = ask_count-own journal e s refl ∙ rw (ask_count-new journal last s numbered lt, o.by_no_frame) refl;
      tries = count_of-own journal e s is_denied_reply refl ∙ rw (count_of-new journal last s is_denied_reply numbered lt, o.denies_none) refl;
      bits = λ kind. has_event-own journal e s (permits_kind kind) refl ∙ rw (has_event-new journal last s (permits_kind kind) numbered lt, o.permits_none kind) refl;
      user = challenged_user-own journal e s refl ∙ ap (λ b. cond b (challenge_name e.ask) (challenged_user journal s)) o.takes_none ∙ challenged_user-new journal last s numbered lt;
      decoyed = was_decoyed-own journal e s refl ∙ ap (λ b. cond b (nat_le DECOYS_FROM (value_of e.decision)) (was_decoyed journal s)) o.takes_none ∙ was_decoyed-new journal last s numbered lt;
      handles = live_handles_of-own journal e s refl ∙ ap (λ l. handles_after l e) (live_handles_of-new journal last s numbered lt) ∙ ap (λ b. cond b (e ∷ []) []) o.opens_none;
    }

-- the session that an event opens in a legal journal
pub fresh : (setup : Settings) (journal : List Event) (e : Event) → IsLegal setup journal → IsNext setup journal e → opens e ≡ true → IsFresh (journal ++ e ∷ []) e.session
fresh setup journal e legal next opened = opened_fresh journal e (legal_numbered setup journal legal) (session_new journal e (next_session setup journal e next) opened) opened

-- 3. The kinds of which one was permitted

-- a permitted request adds its own kind and no other
pub permits_is : (kind other : Kind) (e : Event) → kind_of e.ask ≡ Some other → is_permit e.decision ≡ true → permits_kind kind e ≡ (kind_number other == kind_number kind)
permits_is kind other e is permit = ap (λ o. (number_of_kind o == kind_number kind) && is_permit e.decision) is ∙ ap (λ b. (kind_number other == kind_number kind) && b) permit ∙ and_true (kind_number other == kind_number kind) where
  and_true : (b : Bool) → (b && true) ≡ b
  and_true true = refl
  and_true false = refl

-- what isn't permitted adds none
pub permits_no : (kind : Kind) (e : Event) → is_permit e.decision ≡ false → permits_kind kind e ≡ false
permits_no kind e denied = ap (λ b. (request_number e.ask == kind_number kind) && b) denied ∙ go (request_number e.ask == kind_number kind) where
  go : (b : Bool) → (b && false) ≡ false
  go true = refl
  go false = refl

-- and neither does an opening, an end, or a frame that is no request
pub permits_other : (kind : Kind) (e : Event) → kind_of e.ask ≡ None → permits_kind kind e ≡ false
permits_other kind e none = ap (λ o. (number_of_kind o == kind_number kind) && is_permit e.decision) none ∙ ap (λ b. b && is_permit e.decision) (kind_is_some kind)
