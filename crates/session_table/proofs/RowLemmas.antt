-- What one more event makes of the row of a session.
use Rattle.std.proofs.Common.{◌≡◌, ◌≢◌, ℕ, ◌+◌, ◌<◌, Bool, true, false, ◌&&◌, ◌||◌, ◌==◌, not, cond, eqb, List, [], ◌∷◌, ◌++◌, length, filter, map, get_or, set, nat_le, Option, Some, None, is_some, unwrap_or, refl, sym, ap, subst, ◌∙◌, arith, inl, inr, ◌⊎◌}
use Rattle.std.specs.List.{list_all}
use Rattle.std.proofs.lemmas.Bool.{cases_eq, false≢true}
use Rattle.std.proofs.lemmas.Bool.Decides.{nat_tests}
use Rattle.std.proofs.lemmas.List.{append-nil, get_or-replicate, get_or-set_other, get_or-set_same, length-set, map-append}
use Rattle.std.proofs.lemmas.List.Folds.{list_all-append}
use Rattle.request_catalogue.specs.declared.kind.Kind.{Kind}
use Rattle.request_catalogue.specs.declared.kind.Kind.TheVariants as kinds
use Rattle.request_catalogue.specs.Kinds.{kind_number}
use Rattle.policy_model.specs.declared.account.Grant.{Grant}
use Rattle.policy_model.specs.declared.event.Ask.{Ask}
use Rattle.policy_model.specs.declared.event.Ask.TheVariants as asks
use Rattle.policy_model.specs.declared.event.Decision.{Decision}
use Rattle.policy_model.specs.declared.event.Decision.TheVariants.{Permit, Deny, Lost}
use Rattle.policy_model.specs.declared.event.Event.{Event}
use Rattle.policy_model.specs.declared.phase.Phase.{Phase}
use Rattle.policy_model.specs.declared.phase.Phase.TheVariants.{Pre, Challenged, Verified, User, Over}
use Rattle.policy_model.specs.declared.reading.TheConstants.{DECOYS_FROM}
use Rattle.policy_model.specs.Asks.{accepts, came_by_frame, challenge_name, closes_file, ends_session, exports, is_close, is_denied_reply, is_login_step, is_permit, kind_of, mode_of, opens, opens_file, permits_kind, takes, value_of, label_named}
use Rattle.policy_model.specs.Cases.{is_open, is_reply, handle_of}
use Rattle.policy_model.specs.Handles.{live_handles_of}
use Rattle.policy_model.specs.Journal.{openings_of}
use Rattle.policy_model.specs.Logins.{challenged_user, verified_user, was_decoyed}
use Rattle.policy_model.specs.Runs.{AreNumbered}
use Rattle.policy_model.specs.Settings.{Settings}
use Rattle.session_laws.specs.Handled.{handles_after}
use Rattle.session_laws.specs.Phased.{phase_after}
use Rattle.session_laws.proofs.HandleSteps.{live_handles_of-other, live_handles_of-own}
use Rattle.session_laws.proofs.Opened.{opened_fresh, permits_is, permits_no, permits_other}
use Rattle.session_laws.proofs.PhaseLemmas.{phase_of-other, phase_of-own}
use Rattle.session_laws.proofs.SessionEvents.{ask_count-other, ask_count-own, count_of-other, count_of-own, has_event-other, has_event-own}
use Rattle.session_laws.proofs.UserLemmas.{challenged_user-other, challenged_user-own, verified_user-other, verified_user-own, was_decoyed-other, was_decoyed-own}
use Rattle.session_table.specs.declared.handles.LiveHandle.{LiveHandle}
use Rattle.session_table.specs.declared.rows.SessionRow.{SessionRow}
use Rattle.session_table.specs.Files.{file_opened, files_after, files_by}
use Rattle.session_table.specs.Marks.{has_mark, marks_after, marks_by, no_marks, with_mark}
use Rattle.session_table.specs.Rows.{new_row, row_after}
use Rattle.session_table.specs.Standing.{FitsRow, RowStands, StandsAfter, StandsNew, account_challenged, file_by, grant_number, grants_at, has_taken, is_before_user, is_granted, is_logged_in, number_by}

or_true : (b : Bool) → (b || true) ≡ true
or_true true = refl
or_true false = refl

or_false : (b : Bool) → (b || false) ≡ b
or_false true = refl
or_false false = refl

and_false : (b : Bool) → (b && false) ≡ false
and_false true = refl
and_false false = refl

and_true : (b : Bool) → (b && true) ≡ b
and_true true = refl
and_true false = refl

-- 1. What was permitted

number_below : (kind : Kind) → kind_number kind < 14
number_below kinds.Banner = omega arith
number_below kinds.Challenge = omega arith
number_below kinds.Reply = omega arith
number_below kinds.Abandon = omega arith
number_below kinds.Export = omega arith
number_below kinds.Import = omega arith
number_below kinds.ReadAt = omega arith
number_below kinds.WriteAt = omega arith
number_below kinds.OpenFile = omega arith
number_below kinds.CloseFile = omega arith
number_below kinds.Info = omega arith
number_below kinds.Note = omega arith
number_below kinds.Finish = omega arith

mark_added : (marks : List Bool) (kind other : Kind) → length marks ≡ 14 → has_mark other (with_mark kind marks) ≡ (has_mark other marks || kind_number kind == kind_number other)
mark_added marks kind other all = go (cases_eq (kind_number other) (kind_number kind)) where
  go : (kind_number other ≡ kind_number kind) ⊎ (kind_number other ≢ kind_number kind) → has_mark other (with_mark kind marks) ≡ (has_mark other marks || kind_number kind == kind_number other)
  go (inl same) =
      let lt : kind_number kind < length marks = omega (arith, all, number_below kind) in
      let test : eqb (kind_number kind) (kind_number other) ≡ true = grind (arith, nat_tests, same) in
      ap (λ i. get_or (set marks (kind_number kind) true) i false) same
      ∙ get_or-set_same marks (kind_number kind) true false lt
      ∙ sym (ap (λ b. has_mark other marks || b) test ∙ or_true (has_mark other marks))
  go (inr differ) =
      let test : eqb (kind_number kind) (kind_number other) ≡ false = grind (arith, nat_tests, differ) in
      get_or-set_other marks (kind_number kind) (kind_number other) true false differ
      ∙ sym (ap (λ b. has_mark other marks || b) test ∙ or_false (has_mark other marks))

mark_after : (marks : List Bool) (e : Event) (kind : Kind) → length marks ≡ 14 → has_mark kind (marks_after marks e) ≡ (has_mark kind marks || permits_kind kind e)
mark_after marks e kind all = go (kind_of e.ask) refl (is_permit e.decision) refl where
  go : (o : Option Kind) → kind_of e.ask ≡ o → (b : Bool) → is_permit e.decision ≡ b → has_mark kind (marks_by o b marks) ≡ (has_mark kind marks || permits_kind kind e)
  go None is b p = sym (ap (λ t. has_mark kind marks || t) (permits_other kind e is) ∙ or_false (has_mark kind marks))
  go (Some other) is true p = mark_added marks other kind all ∙ sym (ap (λ t. has_mark kind marks || t) (permits_is kind other e is p))
  go (Some other) is false p = sym (ap (λ t. has_mark kind marks || t) (permits_no kind e p) ∙ or_false (has_mark kind marks))

places_after : (marks : List Bool) (o : Option Kind) (b : Bool) → length (marks_by o b marks) ≡ length marks
places_after marks None b = refl
places_after marks (Some kind) true = length-set marks (kind_number kind) true
places_after marks (Some kind) false = refl

no_mark : (kind : Kind) → has_mark kind no_marks ≡ false
no_mark kind = get_or-replicate 14 (kind_number kind) false false (number_below kind)

-- 2. The files that are open

filter_all : {X : Type 0} (p : X → Bool) (xs : List X) → ((x : X) → p x ≡ true) → filter p xs ≡ xs
filter_all p [] h = refl
filter_all p (x ∷ xs) h = ap (λ b. cond b (x ∷ filter p xs) (filter p xs)) (h x) ∙ ap (λ ys. x ∷ ys) (filter_all p xs h)

filter_same : {X : Type 0} (p q : X → Bool) (xs : List X) → ((x : X) → p x ≡ q x) → filter p xs ≡ filter q xs
filter_same p q [] h = refl
filter_same p q (x ∷ xs) h = ap (λ b. cond b (x ∷ filter p xs) (filter p xs)) (h x) ∙ ap (λ ys. cond (q x) (x ∷ ys) ys) (filter_same p q xs h)

turned : (m n : ℕ) → eqb m n ≡ eqb n m
turned m n = go (eqb m n) refl (eqb n m) refl where
  go : (a : Bool) → eqb m n ≡ a → (b : Bool) → eqb n m ≡ b → eqb m n ≡ eqb n m
  go true p true q = p ∙ sym q
  go false p false q = p ∙ sym q
  go true p false q = absurd (grind (arith, nat_tests, p, q))
  go false p true q = absurd (grind (arith, nat_tests, p, q))

-- the files after an ask, as those that it doesn't close and the one that it opens
abbrev kept_files : List LiveHandle → ℕ → Ask → Decision → List LiveHandle
kept_files live grant ask d = filter (λ file. not (is_close file.handle ask && is_permit d)) live ++ cond (is_open ask && is_permit d) ((let file : LiveHandle = record { handle = value_of d; grant = grant; mode = mode_of ask } in file) ∷ []) []

no_close : (live : List LiveHandle) (p : LiveHandle → Bool) → ((file : LiveHandle) → p file ≡ false) → live ≡ filter (λ file. not (p file)) live ++ []
no_close live p h = sym (append-nil (filter (λ file. not (p file)) live) ∙ filter_all (λ file. not (p file)) live (λ file. ap not (h file)))

files_are : (live : List LiveHandle) (grant : ℕ) (ask : Ask) (d : Decision) → cond (is_permit d) (files_by live grant (value_of d) ask) live ≡ kept_files live grant ask d
files_are live grant (asks.OpenFile mode name) (Permit value) = ap (λ (files : List LiveHandle). files ++ record { handle = value; grant = grant; mode = mode } ∷ []) (sym (filter_all (λ (file : LiveHandle). not (false && true)) live (λ file. refl)))
files_are live grant (asks.CloseFile handle) (Permit value) =
    filter_same (λ (file : LiveHandle). not (file.handle == handle)) (λ file. not (handle == file.handle && true)) live (λ file. ap not (turned file.handle handle ∙ sym (and_true (handle == file.handle))))
    ∙ sym (append-nil (filter (λ (file : LiveHandle). not (handle == file.handle && true)) live))
files_are live grant (asks.OpenFile mode name) (Deny rule detail) = no_close live (λ file. false && false) (λ file. refl)
files_are live grant (asks.OpenFile mode name) Lost = no_close live (λ file. false && false) (λ file. refl)
files_are live grant (asks.CloseFile handle) (Deny rule detail) = no_close live (λ file. handle == file.handle && false) (λ file. and_false (handle == file.handle))
files_are live grant (asks.CloseFile handle) Lost = no_close live (λ file. handle == file.handle && false) (λ file. and_false (handle == file.handle))
files_are live grant _ (Permit value) = no_close live (λ file. false) (λ file. refl)
files_are live grant _ (Deny rule detail) = no_close live (λ file. false) (λ file. refl)
files_are live grant _ Lost = no_close live (λ file. false) (λ file. refl)

-- the files of the live handles, with one more event
files_step : (grants : List Grant) (live : List Event) (e : Event) (grant : ℕ) → (opens_file e ≡ true → grant_number grants (label_named e.ask) ≡ Some grant) → files_after (map (file_by grants) live) e grant ≡ map (file_by grants) (handles_after live e)
files_step grants live e grant is =
    files_are (map (file_by grants) live) grant e.ask e.decision
    ∙ ap (λ (files : List LiveHandle). files ++ cond (opens_file e) (file_opened e grant ∷ []) []) (sym (mapped live))
    ∙ ap (λ (files : List LiveHandle). map (file_by grants) (filter (λ o. not (closes_file (handle_of o) e)) live) ++ files) (opened (opens_file e) refl)
    ∙ sym (map-append (file_by grants) (filter (λ o. not (closes_file (handle_of o) e)) live) (cond (opens_file e) (e ∷ []) [])) where
      mapped : (xs : List Event) → map (file_by grants) (filter (λ o. not (closes_file (handle_of o) e)) xs) ≡ filter (λ file. not (closes_file file.handle e)) (map (file_by grants) xs)
      mapped [] = refl
      mapped (x ∷ xs) = by (closes_file (handle_of x) e) (mapped xs) where
        by : (b : Bool) → map (file_by grants) (filter (λ o. not (closes_file (handle_of o) e)) xs) ≡ filter (λ file. not (closes_file file.handle e)) (map (file_by grants) xs) → map (file_by grants) (cond (not b) (x ∷ filter (λ o. not (closes_file (handle_of o) e)) xs) (filter (λ o. not (closes_file (handle_of o) e)) xs)) ≡ cond (not b) (file_by grants x ∷ filter (λ file. not (closes_file file.handle e)) (map (file_by grants) xs)) (filter (λ file. not (closes_file file.handle e)) (map (file_by grants) xs))
        by true h = h
        by false h = ap (λ (files : List LiveHandle). file_by grants x ∷ files) h

      opened : (b : Bool) → opens_file e ≡ b → cond b (file_opened e grant ∷ []) [] ≡ map (file_by grants) (cond b (e ∷ []) [])
      opened true h = ap (λ (n : ℕ). (file_opened e n) ∷ []) (sym (ap (λ o. unwrap_or o 0) (is h)))
      opened false h = refl

all_filter : (p q : Event → Bool) (xs : List Event) → list_all p xs ≡ true → list_all p (filter q xs) ≡ true
all_filter p q [] h = refl
all_filter p q (x ∷ xs) h = go (p x) refl (q x) h (all_filter p q xs) where
  go : (a : Bool) → p x ≡ a → (b : Bool) → (a && list_all p xs) ≡ true → (list_all p xs ≡ true → list_all p (filter q xs) ≡ true) → list_all p (cond b (x ∷ filter q xs) (filter q xs)) ≡ true
  go true is true h rest = ap (λ a. a && list_all p (filter q xs)) is ∙ rest h
  go true is false h rest = rest h
  go false is b h rest = absurd (false≢true h)

-- each has a grant, with one more event
granted_step : (grants : List Grant) (live : List Event) (e : Event) (grant : ℕ) → (opens_file e ≡ true → grant_number grants (label_named e.ask) ≡ Some grant) → list_all (is_granted grants) live ≡ true → list_all (is_granted grants) (handles_after live e) ≡ true
granted_step grants live e grant is all =
    list_all-append (is_granted grants) (filter (λ o. not (closes_file (handle_of o) e)) live) (cond (opens_file e) (e ∷ []) [])
    ∙ ap (λ b. b && list_all (is_granted grants) (cond (opens_file e) (e ∷ []) [])) (all_filter (is_granted grants) (λ o. not (closes_file (handle_of o) e)) live all)
    ∙ go (opens_file e) refl where
      go : (b : Bool) → opens_file e ≡ b → list_all (is_granted grants) (cond b (e ∷ []) []) ≡ true
      go true h = ap (λ (o : Option ℕ). is_some o && true) (is h)
      go false h = refl

-- 3. The phases

-- a session that is challenged or logged in after an event was so before, unless the event takes a user
had_taken : (p : Phase) (e : Event) → takes e ≡ false → (accepts e ≡ true → p ≡ Challenged) → (exports e ≡ true → p ≡ Verified) → has_taken (phase_after p e) ≡ true → has_taken p ≡ true
had_taken Over e t a x h = h
had_taken Challenged e t a x h = refl
had_taken Verified e t a x h = refl
had_taken User e t a x h = refl
had_taken Pre e t a x h = go (ends_session e) (exports e) refl (accepts e) refl (is_login_step e) (takes e) t h where
  go : (n x' : Bool) → exports e ≡ x' → (a' : Bool) → accepts e ≡ a' → (l k : Bool) → k ≡ false → has_taken (cond n Over (cond x' User (cond a' Verified (cond l (cond k Challenged Pre) Pre)))) ≡ true → false ≡ true
  go true x' xs a' ac l k t h = h
  go false true xs a' ac l k t h = let p : Pre ≡ Verified = x xs in absurd cc
  go false false xs true ac l k t h = let p : Pre ≡ Challenged = a ac in absurd cc
  go false false xs false ac true true t h = absurd cc
  go false false xs false ac true false t h = h
  go false false xs false ac false k t h = h

-- a session that is logged in after an event was so before, unless the event accepts
was_logged_in : (p : Phase) (e : Event) → accepts e ≡ false → (exports e ≡ true → p ≡ Verified) → is_logged_in (phase_after p e) ≡ true → is_logged_in p ≡ true
was_logged_in Over e a x h = h
was_logged_in Verified e a x h = refl
was_logged_in User e a x h = refl
was_logged_in Pre e a x h = go (ends_session e) (exports e) refl (accepts e) a (is_login_step e) (takes e) h where
  go : (n x' : Bool) → exports e ≡ x' → (a' : Bool) → a' ≡ false → (l k : Bool) → is_logged_in (cond n Over (cond x' User (cond a' Verified (cond l (cond k Challenged Pre) Pre)))) ≡ true → false ≡ true
  go true x' xs a' ac l k h = h
  go false true xs a' ac l k h = let p : Pre ≡ Verified = x xs in absurd cc
  go false false xs true ac l k h = absurd cc
  go false false xs false ac true true h = h
  go false false xs false ac true false h = h
  go false false xs false ac false k h = h
was_logged_in Challenged e a x h = go (ends_session e) (exports e) refl (accepts e) a (is_login_step e) (takes e) h where
  go : (n x' : Bool) → exports e ≡ x' → (a' : Bool) → a' ≡ false → (l k : Bool) → is_logged_in (cond n Over (cond x' User (cond a' Verified (cond l (cond k Challenged Pre) Challenged)))) ≡ true → false ≡ true
  go true x' xs a' ac l k h = h
  go false true xs a' ac l k h = let p : Challenged ≡ Verified = x xs in absurd cc
  go false false xs true ac l k h = absurd cc
  go false false xs false ac true true h = h
  go false false xs false ac true false h = h
  go false false xs false ac false k h = h

-- a session before its user's own child was so before the event too
was_before_user : (p : Phase) (e : Event) → is_before_user (phase_after p e) ≡ true → is_before_user p ≡ true
was_before_user Over e h = h
was_before_user Pre e h = refl
was_before_user Challenged e h = refl
was_before_user Verified e h = refl
was_before_user User e h = go (ends_session e) h where
  go : (b : Bool) → is_before_user (cond b Over User) ≡ true → false ≡ true
  go true h = h
  go false h = h

-- 4. An event is one thing

record IsTaking (e : Event) : Type 0 where
  opens_none : opens_file e ≡ false
  accepts_none : accepts e ≡ false

taking_alone : (ask : Ask) (d : Decision) → (is_some (challenge_name ask) && is_permit d) ≡ true → ((is_open ask && is_permit d) ≡ false) × ((is_reply ask && is_permit d) ≡ false)
taking_alone (asks.Challenge user now) d h = (refl, refl)
taking_alone _ d h = absurd cc

taking_is : (e : Event) → takes e ≡ true → IsTaking e
taking_is e h = let both = taking_alone e.ask e.decision h in record { opens_none = both.0; accepts_none = both.1 }

accepting_takes : (e : Event) → accepts e ≡ true → takes e ≡ false
accepting_takes e h = go (takes e) refl where
  go : (b : Bool) → takes e ≡ b → takes e ≡ false
  go true is = absurd (false≢true (sym (taking_is e is).accepts_none ∙ h))
  go false is = is

-- 5. The row of the event's session

pub row_own : (setup : Settings) (row : SessionRow) (journal : List Event) (e : Event) (number grant : ℕ) → RowStands setup row journal e.session → FitsRow setup row e number grant → RowStands setup (row_after row e number grant) (journal ++ e ∷ []) e.session
row_own setup row journal e number grant r f = record {
  session = r.session;
  phase = ap (λ p. phase_after p e) r.phase ∙ sym (phase_of-own journal e e.session refl f.later);
  places = places_after row.bits (kind_of e.ask) (is_permit e.decision) ∙ r.places;
  bits = λ kind. mark_after row.bits e kind r.places ∙ ap (λ b. b || permits_kind kind e) (r.bits kind) ∙ sym (has_event-own journal e e.session (permits_kind kind) refl);
  asked = ap (λ n. n + cond (came_by_frame e.ask) 1 0) r.asked ∙ sym (ask_count-own journal e e.session refl);
  tries = ap (λ n. n + cond (is_denied_reply e) 1 0) r.tries ∙ sym (count_of-own journal e e.session is_denied_reply refl);
  account = λ has. challenged ∙ account (takes e) refl has;
  user = λ logged. user (accepts e) refl logged;
  real = λ logged. real (accepts e) refl logged;
  unopened = λ after. live_handles_of-own journal e e.session refl ∙ none after;
  handles = handles (takes e) refl ∙ ap (map (file_by (grants_at setup (cond (takes e) number row.account)))) (sym (live_handles_of-own journal e e.session refl));
  granted = ap (list_all (is_granted (grants_at setup (cond (takes e) number row.account)))) (live_handles_of-own journal e e.session refl) ∙ granted (takes e) refl;
} where
  s : ℕ
  s = e.session

  pre : takes e ≡ true → row.phase ≡ Pre
  pre h = (f.taking h).0

  was_challenged : accepts e ≡ true → row.phase ≡ Challenged
  was_challenged h = (f.accepting h).0

  challenged : account_challenged setup (journal ++ e ∷ []) e.session ≡ cond (cond (takes e) (nat_le DECOYS_FROM (value_of e.decision)) (was_decoyed journal e.session)) (Some (length setup.accounts)) (number_by setup (cond (takes e) (challenge_name e.ask) (challenged_user journal e.session)))
  challenged =
      ap (λ b. cond b (Some (length setup.accounts)) (number_by setup (challenged_user (journal ++ e ∷ []) e.session))) (was_decoyed-own journal e e.session refl)
      ∙ ap (λ o. cond (cond (takes e) (nat_le DECOYS_FROM (value_of e.decision)) (was_decoyed journal e.session)) (Some (length setup.accounts)) (number_by setup o)) (challenged_user-own journal e e.session refl)

  account : (b : Bool) → takes e ≡ b → has_taken (phase_after row.phase e) ≡ true → cond (cond b (nat_le DECOYS_FROM (value_of e.decision)) (was_decoyed journal e.session)) (Some (length setup.accounts)) (number_by setup (cond b (challenge_name e.ask) (challenged_user journal e.session))) ≡ Some (cond b number row.account)
  account true is has = (f.taking is).1
  account false is has = r.account (had_taken row.phase e is (λ h. (f.accepting h).0) f.exporting has)

  no_taking : is_logged_in row.phase ≡ true → takes e ≡ false
  no_taking logged = go (takes e) refl where
    go : (b : Bool) → takes e ≡ b → takes e ≡ false
    go true is = absurd (false≢true (sym (ap is_logged_in (pre is)) ∙ logged))
    go false is = is

  same_user : takes e ≡ false → challenged_user (journal ++ e ∷ []) e.session ≡ challenged_user journal e.session
  same_user is = challenged_user-own journal e e.session refl ∙ ap (λ b. cond b (challenge_name e.ask) (challenged_user journal e.session)) is

  same_decoy : takes e ≡ false → was_decoyed (journal ++ e ∷ []) e.session ≡ was_decoyed journal e.session
  same_decoy is = was_decoyed-own journal e e.session refl ∙ ap (λ b. cond b (nat_le DECOYS_FROM (value_of e.decision)) (was_decoyed journal e.session)) is

  user : (b : Bool) → accepts e ≡ b → is_logged_in (phase_after row.phase e) ≡ true → verified_user (journal ++ e ∷ []) e.session ≡ challenged_user (journal ++ e ∷ []) e.session
  user true is logged =
      verified_user-own journal e e.session refl ∙ ap (λ b. cond b (challenged_user journal e.session) (verified_user journal e.session)) is
      ∙ sym (same_user (accepting_takes e is))
  user false is logged =
      let before = was_logged_in row.phase e is f.exporting logged in
      verified_user-own journal e e.session refl ∙ ap (λ b. cond b (challenged_user journal e.session) (verified_user journal e.session)) is
      ∙ r.user before ∙ sym (same_user (no_taking before))

  no_decoy : row.phase ≡ Challenged → row.account < length setup.accounts → was_decoyed journal e.session ≡ false
  no_decoy phase below = go (was_decoyed journal e.session) refl (r.account (ap has_taken phase)) where
    go : (b : Bool) → was_decoyed journal e.session ≡ b → cond b (Some (length setup.accounts)) (number_by setup (challenged_user journal e.session)) ≡ Some row.account → was_decoyed journal e.session ≡ false
    go true is h = let same : length setup.accounts ≡ row.account = cc in absurd (omega (arith, same, below))
    go false is h = is

  real : (b : Bool) → accepts e ≡ b → is_logged_in (phase_after row.phase e) ≡ true → was_decoyed (journal ++ e ∷ []) e.session ≡ false
  real true is logged = same_decoy (accepting_takes e is) ∙ no_decoy (f.accepting is).0 (f.accepting is).1
  real false is logged =
      let before = was_logged_in row.phase e is f.exporting logged in
      same_decoy (no_taking before) ∙ r.real before

  no_opening : is_before_user row.phase ≡ true → opens_file e ≡ false
  no_opening before = go (opens_file e) refl where
    go : (b : Bool) → opens_file e ≡ b → opens_file e ≡ false
    go true is = absurd (false≢true (sym (ap is_before_user (f.opening is).0) ∙ before))
    go false is = is

  none : is_before_user (phase_after row.phase e) ≡ true → handles_after (live_handles_of journal e.session) e ≡ []
  none after =
      let before = was_before_user row.phase e after in
      ap (λ live. handles_after live e) (r.unopened before) ∙ ap (λ b. cond b (e ∷ []) []) (no_opening before)

  empty : takes e ≡ true → live_handles_of journal e.session ≡ []
  empty is = r.unopened (ap is_before_user (pre is))

  none_after : takes e ≡ true → handles_after (live_handles_of journal e.session) e ≡ []
  none_after is = ap (λ live. handles_after live e) (empty is) ∙ ap (λ b. cond b (e ∷ []) []) (taking_is e is).opens_none

  handles : (b : Bool) → takes e ≡ b → files_after row.handles e grant ≡ map (file_by (grants_at setup (cond b number row.account))) (handles_after (live_handles_of journal e.session) e)
  handles true is =
      ap (λ live. files_after live e grant) (r.handles ∙ ap (map (file_by (grants_at setup row.account))) (empty is))
      ∙ files_step (grants_at setup number) [] e grant (λ h. absurd (false≢true (sym (taking_is e is).opens_none ∙ h)))
      ∙ ap (λ live. map (file_by (grants_at setup number)) (handles_after live e)) (sym (empty is))
  handles false is =
      ap (λ live. files_after live e grant) r.handles
      ∙ files_step (grants_at setup row.account) (live_handles_of journal e.session) e grant (λ h. (f.opening h).1)

  granted : (b : Bool) → takes e ≡ b → list_all (is_granted (grants_at setup (cond b number row.account))) (handles_after (live_handles_of journal e.session) e) ≡ true
  granted true is = ap (list_all (is_granted (grants_at setup number))) (none_after is)
  granted false is = granted_step (grants_at setup row.account) (live_handles_of journal e.session) e grant (λ h. (f.opening h).1) r.granted

-- 6. The row of another session

pub row_other : (setup : Settings) (row : SessionRow) (journal : List Event) (e : Event) (session : ℕ) → e.session ≢ session → RowStands setup row journal session → RowStands setup row (journal ++ e ∷ []) session
row_other setup row journal e session other r = record {
  session = r.session;
  phase = r.phase ∙ sym (phase_of-other journal e session other);
  places = r.places;
  bits = λ kind. r.bits kind ∙ sym (has_event-other journal e session (permits_kind kind) other);
  asked = r.asked ∙ sym (ask_count-other journal e session other);
  tries = r.tries ∙ sym (count_of-other journal e session is_denied_reply other);
  account = λ has. challenged ∙ r.account has;
  user = λ logged. verified_user-other journal e session other ∙ r.user logged ∙ sym (challenged_user-other journal e session other);
  real = λ logged. was_decoyed-other journal e session other ∙ r.real logged;
  unopened = λ before. live_handles_of-other journal e session other ∙ r.unopened before;
  handles = r.handles ∙ ap (map (file_by (grants_at setup row.account))) (sym (live_handles_of-other journal e session other));
  granted = ap (list_all (is_granted (grants_at setup row.account))) (live_handles_of-other journal e session other) ∙ r.granted;
} where
  challenged : account_challenged setup (journal ++ e ∷ []) session ≡ account_challenged setup journal session
  challenged =
      ap (λ b. cond b (Some (length setup.accounts)) (number_by setup (challenged_user (journal ++ e ∷ []) session))) (was_decoyed-other journal e session other)
      ∙ ap (λ o. cond (was_decoyed journal session) (Some (length setup.accounts)) (number_by setup o)) (challenged_user-other journal e session other)

-- 7. The row of a session that is opened now

pub row_new : (setup : Settings) (journal : List Event) (e : Event) → AreNumbered journal (openings_of journal) → opens e ≡ true → e.session ≡ openings_of journal + 1 → RowStands setup (new_row e.session) (journal ++ e ∷ []) e.session
row_new setup journal e numbered opened next =
    let fresh = opened_fresh journal e numbered next opened in
    record {
      session = refl;
      phase = sym fresh.phase;
      places = refl;
      bits = λ kind. no_mark kind ∙ sym (fresh.bits kind);
      asked = sym fresh.asked;
      tries = sym fresh.tries;
      account = λ has. absurd (false≢true has);
      user = λ logged. absurd (false≢true logged);
      real = λ logged. absurd (false≢true logged);
      unopened = λ before. fresh.handles;
      handles = ap (map (file_by (grants_at setup 0))) (sym fresh.handles);
      granted = ap (list_all (is_granted (grants_at setup 0))) fresh.handles;
    }

-- 8. The clauses

pub stands_after : (row : SessionRow) (e : Event) (number grant : ℕ) → StandsAfter row e number grant (row_after row e number grant)
stands_after row e number grant = record { by_journal = λ setup journal r f. row_own setup row journal e number grant r f }

pub stands_new : (session : ℕ) → StandsNew session (new_row session)
stands_new session = record {
  by_journal = λ setup journal e numbered opened is next.
      subst (λ s. RowStands setup (new_row s) (journal ++ e ∷ []) s) is (row_new setup journal e numbered opened (is ∙ next));
}
