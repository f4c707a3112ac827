-- The policy decides alike over a list of events and over what is shown of them: without a reply's readings, and without the rule of 13 to 16 by which it was denied.
use Rattle.std.proofs.Common.{◌≡◌, ℕ, ◌+◌, Bool, true, false, not, ◌&&◌, ◌||◌, cond, eqb, leb, nat_le, nat_lt, List, [], ◌∷◌, ◌++◌, map, filter, Option, Some, None, refl, sym, ap, subst, ◌∙◌, arith, append_assoc}
use Rattle.std.specs.Prelude.{count_by, is_none, is_some, option_map, unwrap_or}
use Rattle.std.specs.List.{cons_option, filter_map, find, fold, last_or, list_any}
use Rattle.std.proofs.lemmas.Bool.Decides.{nat_tests}
use Rattle.std.proofs.lemmas.List.{append-nil, map-append}
use Rattle.request_catalogue.specs.declared.kind.Kind.{Kind}
use Rattle.request_catalogue.specs.Kinds.{kind_number}
use Rattle.request_catalogue.specs.declared.texts.Name.{Name}
use Rattle.policy_model.specs.declared.event.Ask.{Ask}
use Rattle.policy_model.specs.declared.event.Ask.TheVariants as asks
use Rattle.policy_model.specs.declared.event.Decision.{Decision}
use Rattle.policy_model.specs.declared.event.Decision.TheVariants.{Permit, Deny, Lost}
use Rattle.policy_model.specs.declared.event.Event.{Event}
use Rattle.policy_model.specs.declared.handles.TheConstants.{HANDLE_NUMBERS}
use Rattle.policy_model.specs.declared.phase.Phase.TheVariants.{Pre, Challenged, Verified, User, Over}
use Rattle.policy_model.specs.declared.phase.Phase.{Phase}
use Rattle.policy_model.specs.declared.reading.TheConstants.{DECOYS_FROM}
use Rattle.policy_model.specs.Asks.{accepts, came_by_frame, challenge_name, closes_file, ends_session, exports, gives_up, is_begin, is_close, is_denied_reply, is_end, is_login_denial, is_login_step, is_lost, is_permit, is_violation, mode_of, moment_of, opens, opens_file, permits_kind, request_number, reserves, shown_of, takes, takes_user, value_of, is_user}
use Rattle.policy_model.specs.Cases.{is_abandon, is_challenge_for, is_export, is_finish, is_open, is_reply, session_opened, is_taking, holder_by, is_decoy, user_before, user_named, handle_of}
use Rattle.policy_model.specs.Handles.{free_handle_of, handle_opening, live_handles_of, live_opens}
use Rattle.policy_model.specs.Journal.{Place, ask_count, count_of, events_of, has_event, is_own, is_turn_of, last_event, open_session_of, openings_of, places_after, places_of}
use Rattle.policy_model.specs.Logins.{challenged_user, holder_of, last_taking_of, replies_of, reply_for, session_taking, verified_user, was_decoyed, was_given_up}
use Rattle.policy_model.specs.Phases.{is_over, phase_of}
use Rattle.policy_laws.specs.Strangers.{without_readings}
use Rattle.policy_model.proofs.LoginLemmas.{was_given_up-push}

-- what is shown of an event
abbrev pub plain : Event → Event
plain e = record { worker = e.worker; session = e.session; ask = without_readings e.ask; decision = shown_of e.decision }

-- 1. What is read off one ask, one decision and one event

begin_plain : (a : Ask) → is_begin (without_readings a) ≡ is_begin a
begin_plain (asks.Reply words hex) = refl
begin_plain _ = refl

end_plain : (a : Ask) → is_end (without_readings a) ≡ is_end a
end_plain (asks.Reply words hex) = refl
end_plain _ = refl

finish_plain : (a : Ask) → is_finish (without_readings a) ≡ is_finish a
finish_plain (asks.Reply words hex) = refl
finish_plain _ = refl

pub reply_plain : (a : Ask) → is_reply (without_readings a) ≡ is_reply a
reply_plain (asks.Reply words hex) = refl
reply_plain _ = refl

abandon_plain : (a : Ask) → is_abandon (without_readings a) ≡ is_abandon a
abandon_plain (asks.Reply words hex) = refl
abandon_plain _ = refl

export_plain : (a : Ask) → is_export (without_readings a) ≡ is_export a
export_plain (asks.Reply words hex) = refl
export_plain _ = refl

open_plain : (a : Ask) → is_open (without_readings a) ≡ is_open a
open_plain (asks.Reply words hex) = refl
open_plain _ = refl

close_plain : (handle : ℕ) (a : Ask) → is_close handle (without_readings a) ≡ is_close handle a
close_plain handle (asks.Reply words hex) = refl
close_plain handle _ = refl

pub name_plain : (a : Ask) → challenge_name (without_readings a) ≡ challenge_name a
name_plain (asks.Reply words hex) = refl
name_plain _ = refl

for_plain : (user : Name) (a : Ask) → is_challenge_for user (without_readings a) ≡ is_challenge_for user a
for_plain user (asks.Reply words hex) = refl
for_plain user _ = refl

pub moment_plain : (a : Ask) → moment_of (without_readings a) ≡ moment_of a
moment_plain (asks.Reply words hex) = refl
moment_plain _ = refl

pub mode_plain : (a : Ask) → mode_of (without_readings a) ≡ mode_of a
mode_plain (asks.Reply words hex) = refl
mode_plain _ = refl

number_plain : (a : Ask) → request_number (without_readings a) ≡ request_number a
number_plain (asks.Reply words hex) = refl
number_plain _ = refl

pub permit_plain : (d : Decision) → is_permit (shown_of d) ≡ is_permit d
permit_plain (Permit value) = refl
permit_plain Lost = refl
permit_plain (Deny rule detail) = go (leb 13 rule && leb rule 16) where
  go : (b : Bool) → is_permit (cond b (Deny 16 0) (Deny rule detail)) ≡ false
  go true = refl
  go false = refl

lost_plain : (d : Decision) → is_lost (shown_of d) ≡ is_lost d
lost_plain (Permit value) = refl
lost_plain Lost = refl
lost_plain (Deny rule detail) = go (leb 13 rule && leb rule 16) where
  go : (b : Bool) → is_lost (cond b (Deny 16 0) (Deny rule detail)) ≡ false
  go true = refl
  go false = refl

pub value_plain : (d : Decision) → value_of (shown_of d) ≡ value_of d
value_plain (Permit value) = refl
value_plain Lost = refl
value_plain (Deny rule detail) = go (leb 13 rule && leb rule 16) where
  go : (b : Bool) → value_of (cond b (Deny 16 0) (Deny rule detail)) ≡ 0
  go true = refl
  go false = refl

denial_plain : (d : Decision) → is_login_denial (shown_of d) ≡ is_login_denial d
denial_plain (Permit value) = refl
denial_plain Lost = refl
denial_plain (Deny rule detail) = go (leb 13 rule && leb rule 16) refl where
  go : (b : Bool) → (leb 13 rule && leb rule 16) ≡ b → is_login_denial (cond b (Deny 16 0) (Deny rule detail)) ≡ b
  go true h = refl
  go false h = h

violation_plain : (d : Decision) → is_violation (shown_of d) ≡ is_violation d
violation_plain (Permit value) = refl
violation_plain Lost = refl
violation_plain (Deny rule detail) = go (leb 13 rule && leb rule 16) refl where
  go : (b : Bool) → (leb 13 rule && leb rule 16) ≡ b → is_violation (cond b (Deny 16 0) (Deny rule detail)) ≡ (leb 1 rule && leb rule 7)
  go true h = grind (arith, nat_tests)
  go false h = refl

abbrev Same : {A : Type 0} → (Event → A) → Type 0
Same p = (e : Event) → p (plain e) ≡ p e

two : (f : Bool → Bool → Bool) (a b c d : Bool) → a ≡ c → b ≡ d → f a b ≡ f c d
two f a b c d h g = ap (λ x. f x b) h ∙ ap (f c) g

turn_same : (worker : ℕ) → Same (is_turn_of worker)
turn_same worker e = two (λ x y. eqb e.worker worker && x && y) _ _ _ _ (two (λ x y. x || y) _ _ _ _ (begin_plain e.ask) (end_plain e.ask)) (permit_plain e.decision)

opens_same : Same opens
opens_same e = two (λ x y. x && y) _ _ _ _ (begin_plain e.ask) (permit_plain e.decision)

framed_same : Same (λ e. came_by_frame e.ask)
framed_same e = two (λ x y. not x && not y) _ _ _ _ (begin_plain e.ask) (end_plain e.ask)

ends_same : Same ends_session
ends_same e =
    two (λ x y. x || y) _ _ _ _
    (two (λ x y. x || y) _ _ _ _ (two (λ x y. x || y) _ _ _ _ (end_plain e.ask) (two (λ x y. x && y) _ _ _ _ (finish_plain e.ask) (permit_plain e.decision))) (violation_plain e.decision))
    (lost_plain e.decision)

pub takes_same : Same takes
takes_same e = two (λ x y. x && y) _ _ _ _ (ap is_some (name_plain e.ask)) (permit_plain e.decision)

pub user_same : (user : Name) → Same (takes_user user)
user_same user e = two (λ x y. x && y) _ _ _ _ (for_plain user e.ask) (permit_plain e.decision)

pub reserves_same : (user : Name) → Same (reserves user)
reserves_same user e = two (λ x y. x && y) _ _ _ _ (user_same user e) (ap (λ n. nat_lt n DECOYS_FROM) (value_plain e.decision))

gives_same : Same gives_up
gives_same e = two (λ x y. x || y) _ _ _ _ (reply_plain e.ask) (two (λ x y. x && y) _ _ _ _ (abandon_plain e.ask) (permit_plain e.decision))

step_same : Same is_login_step
step_same e = two (λ x y. x || y) _ _ _ _ (takes_same e) (gives_same e)

pub accepts_same : Same accepts
accepts_same e = two (λ x y. x && y) _ _ _ _ (reply_plain e.ask) (permit_plain e.decision)

pub denied_same : Same is_denied_reply
denied_same e = two (λ x y. x && y) _ _ _ _ (reply_plain e.ask) (denial_plain e.decision)

pub exports_same : Same exports
exports_same e = two (λ x y. x && y) _ _ _ _ (export_plain e.ask) (permit_plain e.decision)

file_same : Same opens_file
file_same e = two (λ x y. x && y) _ _ _ _ (open_plain e.ask) (permit_plain e.decision)

handle_same : Same handle_of
handle_same e = value_plain e.decision

closes_same : (handle : ℕ) → Same (closes_file handle)
closes_same handle e = two (λ x y. x && y) _ _ _ _ (close_plain handle e.ask) (permit_plain e.decision)

pub kind_same : (kind : Kind) → Same (permits_kind kind)
kind_same kind e = two (λ x y. x && y) _ _ _ _ (ap (λ n. eqb n (kind_number kind)) (number_plain e.ask)) (permit_plain e.decision)

own_same : (session : ℕ) (p : Event → Bool) → Same p → Same (is_own session p)
own_same session p same e = ap (λ b. eqb e.session session && b) (same e)

-- 2. What is read off a list

filter_plain : (p : Event → Bool) → Same p → (xs : List Event) → filter p (map plain xs) ≡ map plain (filter p xs)
filter_plain p same [] = refl
filter_plain p same (x ∷ xs) = ap (λ b. cond b (plain x ∷ filter p (map plain xs)) (filter p (map plain xs))) (same x) ∙ go (filter_plain p same xs) (p x) where
  go : filter p (map plain xs) ≡ map plain (filter p xs) → (b : Bool) → cond b (plain x ∷ filter p (map plain xs)) (filter p (map plain xs)) ≡ map plain (cond b (x ∷ filter p xs) (filter p xs))
  go h true = ap (λ ys. plain x ∷ ys) h
  go h false = h

any_plain : (p : Event → Bool) → Same p → (xs : List Event) → list_any p (map plain xs) ≡ list_any p xs
any_plain p same [] = refl
any_plain p same (x ∷ xs) = two (λ a b. a || b) _ _ _ _ (same x) (any_plain p same xs)

counted : (p : Event → Bool) → Same p → (n : ℕ) (xs : List Event) → fold (λ m x. m + cond (p x) 1 0) n (map plain xs) ≡ fold (λ m x. m + cond (p x) 1 0) n xs
counted p same n [] = refl
counted p same n (x ∷ xs) = ap (λ b. fold (λ m y. m + cond (p y) 1 0) (n + cond b 1 0) (map plain xs)) (same x) ∙ counted p same (n + cond (p x) 1 0) xs

count_plain : (p : Event → Bool) → Same p → (xs : List Event) → count_by p (map plain xs) ≡ count_by p xs
count_plain p same xs = counted p same 0 xs

last_plain : (o : Option Event) (xs : List Event) → last_or (option_map plain o) (map plain xs) ≡ option_map plain (last_or o xs)
last_plain o [] = refl
last_plain o (x ∷ xs) = last_plain (Some x) xs

find_plain : (p : Event → Bool) → Same p → (xs : List Event) → find p (map plain xs) ≡ option_map plain (find p xs)
find_plain p same [] = refl
find_plain p same (x ∷ xs) = ap (λ b. cond b (Some (plain x)) (find p (map plain xs))) (same x) ∙ go (find_plain p same xs) (p x) where
  go : find p (map plain xs) ≡ option_map plain (find p xs) → (b : Bool) → cond b (Some (plain x)) (find p (map plain xs)) ≡ option_map plain (cond b (Some x) (find p xs))
  go h true = refl
  go h false = h

last_filter : (p : Event → Bool) → Same p → (xs : List Event) → last_or None (filter p (map plain xs)) ≡ option_map plain (last_or None (filter p xs))
last_filter p same xs = ap (last_or None) (filter_plain p same xs) ∙ last_plain None (filter p xs)

-- by one element more each
pub by_push : {X : Type 0} (P : List X → Type 0) → P [] → ((xs : List X) (x : X) → P xs → P (xs ++ x ∷ [])) → (xs : List X) → P xs
by_push {X} P none more xs = go [] xs none where
  go : (front rest : List X) → P front → P (front ++ rest)
  go front [] h = subst P (sym (append-nil front)) h
  go front (x ∷ rest) h = subst P (append_assoc front (x ∷ []) rest) (go (front ++ x ∷ []) rest (more front x h))

-- 3. The words of the policy

pub open_same : (xs : List Event) (worker : ℕ) → open_session_of (map plain xs) worker ≡ open_session_of xs worker
open_same xs worker = ap session_opened (last_filter (is_turn_of worker) (turn_same worker) xs) ∙ go (last_or None (filter (is_turn_of worker) xs)) where
  go : (o : Option Event) → session_opened (option_map plain o) ≡ session_opened o
  go None = refl
  go (Some e) = ap (λ b. cond b e.session 0) (begin_plain e.ask)

pub openings_same : (xs : List Event) → openings_of (map plain xs) ≡ openings_of xs
openings_same xs = count_plain opens opens_same xs

events_same : (xs : List Event) (session : ℕ) → events_of (map plain xs) session ≡ map plain (events_of xs session)
events_same xs session = filter_plain (λ e. eqb e.session session) (λ e. refl) xs

pub has_same : (xs : List Event) (session : ℕ) (p : Event → Bool) → Same p → has_event (map plain xs) session p ≡ has_event xs session p
has_same xs session p same = any_plain (is_own session p) (own_same session p same) xs

pub count_same : (xs : List Event) (session : ℕ) (p : Event → Bool) → Same p → count_of (map plain xs) session p ≡ count_of xs session p
count_same xs session p same = count_plain (is_own session p) (own_same session p same) xs

pub asked_same : (xs : List Event) (session : ℕ) → ask_count (map plain xs) session ≡ ask_count xs session
asked_same xs session = ap (count_by (λ e. came_by_frame e.ask)) (events_same xs session) ∙ count_plain (λ e. came_by_frame e.ask) framed_same (events_of xs session)

last_same : (xs : List Event) (session : ℕ) (p : Event → Bool) → Same p → last_event (map plain xs) session p ≡ option_map plain (last_event xs session p)
last_same xs session p same = last_filter (is_own session p) (own_same session p same) xs

pub over_same : (xs : List Event) (session : ℕ) → is_over (map plain xs) session ≡ is_over xs session
over_same xs session =
    ap (λ own. not (list_any opens own) || list_any ends_session own) (events_same xs session)
    ∙ two (λ a b. not a || b) _ _ _ _ (any_plain opens opens_same (events_of xs session)) (any_plain ends_session ends_same (events_of xs session))

taking_same : (o : Option Event) → is_taking (option_map plain o) ≡ is_taking o
taking_same None = refl
taking_same (Some e) = takes_same e

abbrev phase_by : Bool → Bool → Bool → Bool → Phase
phase_by over exported accepted challenged = cond over Over (cond exported User (cond accepted Verified (cond challenged Challenged Pre)))

pub phase_same : (xs : List Event) (session : ℕ) → phase_of (map plain xs) session ≡ phase_of xs session
unfolding phase_of
phase_same xs session =
    ap (λ b. phase_by b (has_event (map plain xs) session exports) (has_event (map plain xs) session accepts) (is_taking (last_event (map plain xs) session is_login_step))) (over_same xs session)
    ∙ ap (λ b. phase_by (is_over xs session) b (has_event (map plain xs) session accepts) (is_taking (last_event (map plain xs) session is_login_step))) (has_same xs session exports exports_same)
    ∙ ap (λ b. phase_by (is_over xs session) (has_event xs session exports) b (is_taking (last_event (map plain xs) session is_login_step))) (has_same xs session accepts accepts_same)
    ∙ ap (λ b. phase_by (is_over xs session) (has_event xs session exports) (has_event xs session accepts) b) (ap is_taking (last_same xs session is_login_step step_same) ∙ taking_same (last_event xs session is_login_step))

pub challenged_same : (xs : List Event) (session : ℕ) → challenged_user (map plain xs) session ≡ challenged_user xs session
unfolding challenged_user
challenged_same xs session = ap user_named (last_same xs session takes takes_same) ∙ go (last_event xs session takes) where
  go : (o : Option Event) → user_named (option_map plain o) ≡ user_named o
  go None = refl
  go (Some e) = name_plain e.ask

pub decoyed_same : (xs : List Event) (session : ℕ) → was_decoyed (map plain xs) session ≡ was_decoyed xs session
unfolding was_decoyed
decoyed_same xs session = ap is_decoy (last_same xs session takes takes_same) ∙ go (last_event xs session takes) where
  go : (o : Option Event) → is_decoy (option_map plain o) ≡ is_decoy o
  go None = refl
  go (Some e) = ap (nat_le DECOYS_FROM) (value_plain e.decision)

pub last_taking_same : (xs : List Event) (user : Name) → last_taking_of (map plain xs) user ≡ option_map plain (last_taking_of xs user)
unfolding last_taking_of
last_taking_same xs user = last_filter (reserves user) (reserves_same user) xs

session_same : (o : Option Event) → session_taking (option_map plain o) ≡ session_taking o
session_same None = refl
session_same (Some e) = refl

pub taker_same : (xs : List Event) (user : Name) → session_taking (last_taking_of (map plain xs) user) ≡ session_taking (last_taking_of xs user)
taker_same xs user = ap session_taking (last_taking_same xs user) ∙ session_same (last_taking_of xs user)

given_same : (user : Name) (xs : List Event) → was_given_up (map plain xs) user ≡ was_given_up xs user
given_same user = by_push (λ xs. was_given_up (map plain xs) user ≡ was_given_up xs user) refl more where
  more : (xs : List Event) (x : Event) → was_given_up (map plain xs) user ≡ was_given_up xs user → was_given_up (map plain (xs ++ x ∷ [])) user ≡ was_given_up (xs ++ x ∷ []) user
  more xs x h =
      ap (λ ys. was_given_up ys user) (map-append plain xs (x ∷ []))
      ∙ was_given_up-push user (map plain xs) (plain x)
      ∙ two (λ a b. not a && b) _ _ _ _ (reserves_same user x) (two (λ a b. a || b) _ _ _ _ h (ap (λ s. is_own s gives_up (plain x)) (taker_same xs user) ∙ own_same (session_taking (last_taking_of xs user)) gives_up gives_same x))
      ∙ sym (was_given_up-push user xs x)

pub holder_same : (xs : List Event) (user : Name) → holder_of (map plain xs) user ≡ holder_of xs user
unfolding holder_of
holder_same xs user =
    ap (λ b. holder_by (map plain xs) b (last_taking_of (map plain xs) user)) (given_same user xs)
    ∙ ap (holder_by (map plain xs) (was_given_up xs user)) (last_taking_same xs user)
    ∙ go (last_taking_of xs user) where
      go : (o : Option Event) → holder_by (map plain xs) (was_given_up xs user) (option_map plain o) ≡ holder_by xs (was_given_up xs user) o
      go None = refl
      go (Some e) = ap (λ b. cond (was_given_up xs user || b) None (Some e.session)) (over_same xs e.session)

abbrev plain_place : Place → Place
plain_place place = record { before = map plain place.before; event = plain place.event }

places_plain : (before xs : List Event) → places_after (map plain before) (map plain xs) ≡ map plain_place (places_after before xs)
places_plain before [] = refl
places_plain before (x ∷ xs) =
    ap (λ b. record { before = map plain before; event = plain x } ∷ places_after b (map plain xs)) (sym (map-append plain before (x ∷ [])))
    ∙ ap (λ ps. record { before = map plain before; event = plain x } ∷ ps) (places_plain (before ++ x ∷ []) xs)

pub reply_for_same : (user : Name) (place : Place) → reply_for user (plain_place place) ≡ reply_for user place
reply_for_same user place =
    ap (λ b. cond b (Some (value_of (shown_of place.event.decision))) None) (two (λ a b. a && b) _ _ _ _ (accepts_same place.event) (ap (is_user user) (challenged_same place.before place.event.session)))
    ∙ ap (λ n. cond (accepts place.event && is_user user (challenged_user place.before place.event.session)) (Some n) None) (value_plain place.event.decision)

replies_plain : (user : Name) (places : List Place) → filter_map (reply_for user) (map plain_place places) ≡ filter_map (reply_for user) places
replies_plain user [] = refl
replies_plain user (p ∷ ps) = ap (λ o. cons_option o (filter_map (reply_for user) (map plain_place ps))) (reply_for_same user p) ∙ ap (cons_option (reply_for user p)) (replies_plain user ps)

pub replies_same : (xs : List Event) (user : Name) → replies_of (map plain xs) user ≡ replies_of xs user
unfolding replies_of
replies_same xs user = ap (filter_map (reply_for user)) (places_plain [] xs) ∙ replies_plain user (places_of xs)

abbrev accepts_at : ℕ → Place → Bool
accepts_at session place = is_own session accepts place.event

filter_places : (session : ℕ) (ps : List Place) → filter (accepts_at session) (map plain_place ps) ≡ map plain_place (filter (accepts_at session) ps)
filter_places session [] = refl
filter_places session (p ∷ ps) = ap (λ b. cond b (plain_place p ∷ filter (accepts_at session) (map plain_place ps)) (filter (accepts_at session) (map plain_place ps))) (own_same session accepts accepts_same p.event) ∙ go (filter_places session ps) (accepts_at session p) where
  go : filter (accepts_at session) (map plain_place ps) ≡ map plain_place (filter (accepts_at session) ps) → (b : Bool) → cond b (plain_place p ∷ filter (accepts_at session) (map plain_place ps)) (filter (accepts_at session) (map plain_place ps)) ≡ map plain_place (cond b (p ∷ filter (accepts_at session) ps) (filter (accepts_at session) ps))
  go h true = ap (λ ys. plain_place p ∷ ys) h
  go h false = h

last_place : (o : Option Place) (ps : List Place) → last_or (option_map plain_place o) (map plain_place ps) ≡ option_map plain_place (last_or o ps)
last_place o [] = refl
last_place o (p ∷ ps) = last_place (Some p) ps

before_same : (session : ℕ) (o : Option Place) → user_before session (option_map plain_place o) ≡ user_before session o
before_same session None = refl
before_same session (Some p) = challenged_same p.before session

pub verified_same : (xs : List Event) (session : ℕ) → verified_user (map plain xs) session ≡ verified_user xs session
unfolding verified_user
verified_same xs session =
    ap (λ ps. user_before session (last_or None (filter (accepts_at session) ps))) (places_plain [] xs)
    ∙ ap (λ ps. user_before session (last_or None ps)) (filter_places session (places_of xs))
    ∙ ap (user_before session) (last_place None (filter (accepts_at session) (places_of xs)))
    ∙ before_same session (last_or None (filter (accepts_at session) (places_of xs)))

live_plain : (xs : List Event) → live_opens (map plain xs) ≡ map plain (live_opens xs)
live_plain [] = refl
live_plain (x ∷ xs) =
    ap (λ b. cond b (plain x ∷ live_opens (map plain xs)) (live_opens (map plain xs))) (two (λ a b. a && not b) _ _ _ _ (file_same x) (ap (λ h. list_any (closes_file h) (map plain xs)) (handle_same x) ∙ any_plain (closes_file (handle_of x)) (closes_same (handle_of x)) xs))
    ∙ go (live_plain xs) (opens_file x && not (list_any (closes_file (handle_of x)) xs)) where
      go : live_opens (map plain xs) ≡ map plain (live_opens xs) → (b : Bool) → cond b (plain x ∷ live_opens (map plain xs)) (live_opens (map plain xs)) ≡ map plain (cond b (x ∷ live_opens xs) (live_opens xs))
      go h true = ap (λ ys. plain x ∷ ys) h
      go h false = h

pub live_same : (xs : List Event) (session : ℕ) → live_handles_of (map plain xs) session ≡ map plain (live_handles_of xs session)
unfolding live_handles_of
live_same xs session = ap live_opens (events_same xs session) ∙ live_plain (events_of xs session)

pub opening_same : (xs : List Event) (session handle : ℕ) → handle_opening (map plain xs) session handle ≡ option_map plain (handle_opening xs session handle)
opening_same xs session handle = ap (find (λ e. eqb (handle_of e) handle)) (live_same xs session) ∙ find_plain (λ e. eqb (handle_of e) handle) (λ e. ap (λ h. eqb h handle) (handle_same e)) (live_handles_of xs session)

pub none_same : (o : Option Event) → is_none (option_map plain o) ≡ is_none o
none_same None = refl
none_same (Some e) = refl

pub free_same : (xs : List Event) (session : ℕ) → free_handle_of (map plain xs) session ≡ free_handle_of xs session
free_same xs session = ap (λ o. unwrap_or o 0) (go HANDLE_NUMBERS) where
  go : (ns : List ℕ) → find (λ n. is_none (handle_opening (map plain xs) session n)) ns ≡ find (λ n. is_none (handle_opening xs session n)) ns
  go [] = refl
  go (n ∷ ns) =
      ap (λ b. cond b (Some n) (find (λ m. is_none (handle_opening (map plain xs) session m)) ns)) (ap is_none (opening_same xs session n) ∙ none_same (handle_opening xs session n))
      ∙ ap (λ o. cond (is_none (handle_opening xs session n)) (Some n) o) (go ns)
