-- What is kept of a worker's open session goes on with each event, and decides most asks.
use Rattle.std.proofs.Common.{◌≡◌, ◌≢◌, ℕ, ◌+◌, ◌<◌, ◌≤◌, Bool, true, false, ◌&&◌, ◌||◌, cond, eqb, eq-eqb, arith, Some, None, List, [], ◌∷◌, ◌++◌, length, length-append, get_or, refl, sym, ap, subst, ◌∙◌, ◌⊎◌, inl, inr}
use Rattle.std.specs.Prelude.{IfSome, count_by}
use Rattle.std.proofs.lemmas.Bool.{and_parts, cases_eq}
use Rattle.std.proofs.lemmas.Bool.Decides.{nat_tests}
use Rattle.std.proofs.Math.Seq.{get_or-append_seam}
use Rattle.std.proofs.lemmas.List.{get_or_append_left}
use Rattle.request_catalogue.specs.declared.kind.Kind.TheVariants as kinds
use Rattle.policy_model.specs.declared.event.Ask.{Ask}
use Rattle.policy_model.specs.declared.event.Ask.TheVariants as asks
use Rattle.policy_model.specs.declared.event.Decision.{Decision}
use Rattle.policy_model.specs.declared.event.Decision.TheVariants.{Permit, Deny, Lost}
use Rattle.policy_model.specs.declared.event.Event.{Event}
use Rattle.policy_model.specs.declared.phase.Phase.{Phase}
use Rattle.policy_model.specs.declared.phase.Phase.TheVariants.{Pre, Challenged, Verified, User, Over}
use Rattle.policy_model.specs.declared.phase.TheConstants.Row as rows
use Rattle.policy_model.specs.Asks.{came_by_frame, ends_session, is_begin, is_end, is_lost, is_permit, is_violation, opens, request_number}
use Rattle.policy_model.specs.Cases.{is_finish, session_opened, use_verdict}
use Rattle.policy_model.specs.Handles.{handle_opening}
use Rattle.policy_model.specs.Journal.{ask_count, events_of, is_turn_of, open_session_of, openings_of}
use Rattle.policy_model.specs.Phases.{phase_of, table_row}
use Rattle.policy_model.specs.Settings.{Settings}
use Rattle.policy_model.specs.Verdict.{own_verdict, row_verdict, verdict_of}
use Rattle.policy_model.proofs.Journals.{open_session_of-push}
use Rattle.session_laws.specs.Judged.{closing_decision, is_over_phase, opening_decision}
use Rattle.session_laws.proofs.Judging.{closing_is, free_is, opening_is, read_is, request_is, write_is}
use Rattle.session_laws.proofs.Openings.{not_of_other, open_session-other, session_own}
use Rattle.session_laws.proofs.PhaseLemmas.{over_is}
use Rattle.session_laws.proofs.SessionEvents.{ask_count-other, ask_count-own, is_over-opened, is_over-other, is_over-own}
use Rattle.audit_check.specs.declared.seats.Seat.{Seat}
use Rattle.audit_check.specs.Legal.{IsLegalLog, MayFollow}
use Rattle.audit_check.specs.Seats.{AreVacant, IsSeat, frame_verdict, is_common, seat_after, seat_verdict, vacant}
use Rattle.audit_check.proofs.Fronts.{legal_push}
use Rattle.audit_check.proofs.OwnEvents.{apart, not_lost}
use Rattle.audit_check.proofs.Recent.{fresh, numbered, open_recent}

-- 1. Before the first event

pub seat_none : (worker : ℕ) → IsSeat vacant worker []
seat_none worker = record { session = refl; over = λ some. absurd (some refl); asks = λ some. refl; few = omega arith }

pub vacant_more : (xs : List Seat) → AreVacant xs → AreVacant (xs ++ vacant ∷ [])
vacant_more xs all n d lt = go (cases_eq n (length xs)) where
  go : (n ≡ length xs) ⊎ (n ≢ length xs) → get_or (xs ++ vacant ∷ []) n d ≡ vacant
  go (inl last) = ap (λ k. get_or (xs ++ vacant ∷ []) k d) last ∙ get_or-append_seam xs vacant [] d
  go (inr ne) =
      let below : n < length xs = omega (arith, lt, ne, length-append xs (vacant ∷ [])) in
      get_or_append_left xs (vacant ∷ []) d n below ∙ all n d below

-- 2. An event of another worker

longer : (seat : Seat) (events : List Event) (e : Event) → seat.asks ≤ length events → seat.asks ≤ length (events ++ e ∷ [])
longer seat events e few = omega (arith, few, length-append events (e ∷ []))

other_seat : (setup : Settings) (events : List Event) (e : Event) (worker : ℕ) (seat : Seat) → IsLegalLog setup events → MayFollow setup events e → worker ≢ e.worker → IsSeat seat worker events → IsSeat seat worker (events ++ e ∷ [])
other_seat setup events e worker seat legal may ne s = record {
  session = s.session ∙ sym (open_session-other events e worker ne);
  over = λ some. s.over some ∙ sym (is_over-other events e seat.session (elsewhere some));
  asks = λ some. s.asks some ∙ sym (ask_count-other events e seat.session (elsewhere some));
  few = longer seat events e s.few;
} where
  elsewhere : seat.session ≢ 0 → e.session ≢ seat.session
  elsewhere some same = not_of_other events e worker (numbered setup events legal) (apart setup events legal) may.session (not_lost setup events e may) ne (λ zero. some (s.session ∙ zero)) (same ∙ s.session)

-- 3. A permitted opening or end of the worker

live_opening : (ask : Ask) (d : Decision) → is_begin ask ≡ true → is_permit d ≡ true → (is_end ask || is_finish ask && is_permit d || is_violation d || is_lost d) ≡ false
live_opening asks.Begin (Permit value) b p = refl
live_opening asks.Begin (Deny rule detail) b p = absurd cc
live_opening asks.Begin Lost b p = absurd cc
live_opening _ d b p = absurd cc

unframed : (ask : Ask) → is_begin ask ≡ true → came_by_frame ask ≡ false
unframed asks.Begin b = refl
unframed _ b = absurd cc

turn_seat : (setup : Settings) (events : List Event) (e : Event) → IsLegalLog setup events → MayFollow setup events e → is_turn_of e.worker e ≡ true → IsSeat (record { session = cond (is_begin e.ask) e.session 0; over = false; asks = 0 }) e.worker (events ++ e ∷ [])
turn_seat setup events e legal may turn = by (is_begin e.ask) refl where
  opened : open_session_of (events ++ e ∷ []) e.worker ≡ cond (is_begin e.ask) e.session 0
  opened = open_recent e.worker events e [] turn refl

  permit : is_permit e.decision ≡ true
  permit = (and_parts (eqb e.worker e.worker && (is_begin e.ask || is_end e.ask)) (is_permit e.decision) turn).1

  by : (b : Bool) → is_begin e.ask ≡ b → IsSeat (record { session = cond b e.session 0; over = false; asks = 0 }) e.worker (events ++ e ∷ [])
  by false h = record { session = sym (opened ∙ ap (λ b. cond b e.session 0) h); over = λ some. absurd (some refl); asks = λ some. absurd (some refl); few = omega arith }
  by true h =
      let new : events_of events e.session ≡ [] = fresh setup events e [] (legal_push setup events e legal may) h permit in
      let opens_it : opens e ≡ true = ap (λ b. b && is_permit e.decision) h ∙ permit in
      record {
        session = sym (opened ∙ ap (λ b. cond b e.session 0) h);
        over = λ some. sym (is_over-opened events e new opens_it (live_opening e.ask e.decision h permit));
        asks = λ some.
            sym (ask_count-own events e e.session refl
            ∙ ap (λ b. ask_count events e.session + cond b 1 0) (unframed e.ask h)
            ∙ ap (λ xs. count_by (λ (x : Event). came_by_frame x.ask) xs + 0) new);
        few = omega arith;
      }

-- 4. Another event of the worker

unopened : (w b n p : Bool) → w ≡ true → (w && (b || n) && p) ≡ false → (b && p) ≡ false
unopened true true n p w h = h
unopened true false n p w h = refl
unopened false b n p w h = absurd cc

own_seat : (setup : Settings) (events : List Event) (e : Event) (seat : Seat) → MayFollow setup events e → is_turn_of e.worker e ≡ false → IsSeat seat e.worker events → IsSeat (record { session = seat.session; over = seat.over || ends_session e; asks = seat.asks + cond (came_by_frame e.ask) 1 0 }) e.worker (events ++ e ∷ [])
own_seat setup events e seat may turn s = record {
  session = s.session ∙ sym stays;
  over = λ some. ap (λ b. b || ends_session e) (s.over some) ∙ sym (is_over-own events e seat.session here closed);
  asks = λ some. ap (λ n. n + cond (came_by_frame e.ask) 1 0) (s.asks some) ∙ sym (ask_count-own events e seat.session here);
  few = more (came_by_frame e.ask);
} where
  stays : open_session_of (events ++ e ∷ []) e.worker ≡ open_session_of events e.worker
  stays = open_session_of-push events e.worker e ∙ ap (λ b. cond b (session_opened (Some e)) (open_session_of events e.worker)) turn

  closed : opens e ≡ false
  closed = unopened (eqb e.worker e.worker) (is_begin e.ask) (is_end e.ask) (is_permit e.decision) (eq-eqb e.worker e.worker refl) turn

  here : e.session ≡ seat.session
  here = session_own events e may.session (not_lost setup events e may) closed ∙ sym s.session

  more : (b : Bool) → seat.asks + cond b 1 0 ≤ length (events ++ e ∷ [])
  more true = let few = s.few in omega (arith, few, length-append events (e ∷ []))
  more false = let few = s.few in omega (arith, few, length-append events (e ∷ []))

after : (setup : Settings) (events : List Event) (e : Event) (seat : Seat) → IsLegalLog setup events → MayFollow setup events e → IsSeat seat e.worker events → IsSeat (seat_after e seat) e.worker (events ++ e ∷ [])
after setup events e seat legal may s = go (is_turn_of e.worker e) refl where
  go : (b : Bool) → is_turn_of e.worker e ≡ b → IsSeat (cond b (record { session = cond (is_begin e.ask) e.session 0; over = false; asks = 0 }) (record { session = seat.session; over = seat.over || ends_session e; asks = seat.asks + cond (came_by_frame e.ask) 1 0 })) e.worker (events ++ e ∷ [])
  go true h = turn_seat setup events e legal may h
  go false h = own_seat setup events e seat may h s

pub seat_more : (setup : Settings) (events : List Event) (e : Event) (worker : ℕ) (seat : Seat) → IsLegalLog setup events → MayFollow setup events e → IsSeat seat worker events → IsSeat (cond (eqb worker e.worker) (seat_after e seat) seat) worker (events ++ e ∷ [])
seat_more setup events e worker seat legal may s = go (cases_eq worker e.worker) where
  go : (worker ≡ e.worker) ⊎ (worker ≢ e.worker) → IsSeat (cond (eqb worker e.worker) (seat_after e seat) seat) worker (events ++ e ∷ [])
  go (inl same) =
      subst (λ b. IsSeat (cond b (seat_after e seat) seat) worker (events ++ e ∷ [])) (sym (eq-eqb worker e.worker same))
      (subst (λ n. IsSeat (seat_after e seat) n (events ++ e ∷ [])) (sym same) (after setup events e seat legal may (subst (λ n. IsSeat seat n events) same s)))
  go (inr ne) =
      let no : eqb worker e.worker ≡ false = grind (arith, nat_tests, ne) in
      subst (λ b. IsSeat (cond b (seat_after e seat) seat) worker (events ++ e ∷ [])) (sym no) (other_seat setup events e worker seat legal may ne s)

-- 5. Common asks

read_row : (phase : Phase) → is_over_phase phase ≡ false → table_row phase kinds.ReadAt ≡ rows.FREE
read_row Over h = absurd cc
read_row Pre h = refl
read_row Challenged h = refl
read_row Verified h = refl
read_row User h = refl

write_row : (phase : Phase) → is_over_phase phase ≡ false → table_row phase kinds.WriteAt ≡ rows.FREE
write_row Over h = absurd cc
write_row Pre h = refl
write_row Challenged h = refl
write_row Verified h = refl
write_row User h = refl

note_row : (phase : Phase) → is_over_phase phase ≡ false → table_row phase kinds.Note ≡ rows.FREE
note_row Over h = absurd cc
note_row Pre h = refl
note_row Challenged h = refl
note_row Verified h = refl
note_row User h = refl

finish_row : (phase : Phase) → is_over_phase phase ≡ false → table_row phase kinds.Finish ≡ rows.FREE
finish_row Over h = absurd cc
finish_row Pre h = refl
finish_row Challenged h = refl
finish_row Verified h = refl
finish_row User h = refl

common_own : (setup : Settings) (events : List Event) (session : ℕ) (ask : Ask) → is_common ask ≡ true → is_over_phase (phase_of events session) ≡ false → Permit 0 ≡ own_verdict setup events session ask
common_own setup events session (asks.ReadAt handle offset max) common live =
    sym (ap (λ b. cond b (Permit 0) (use_verdict handle 1 (handle_opening events session handle))) common)
    ∙ read_is setup events session handle offset max
    ∙ sym (ap (row_verdict setup events session (asks.ReadAt handle offset max) kinds.ReadAt) (read_row (phase_of events session) live))
common_own setup events session (asks.WriteAt handle offset len) common live =
    sym (ap (λ b. cond b (Permit 0) (use_verdict handle 2 (handle_opening events session handle))) common)
    ∙ write_is setup events session handle offset len
    ∙ sym (ap (row_verdict setup events session (asks.WriteAt handle offset len) kinds.WriteAt) (write_row (phase_of events session) live))
common_own setup events session (asks.Note text) common live =
    free_is setup events session (asks.Note text) refl
    ∙ sym (ap (row_verdict setup events session (asks.Note text) kinds.Note) (note_row (phase_of events session) live))
common_own setup events session asks.Finish common live =
    free_is setup events session asks.Finish refl
    ∙ sym (ap (row_verdict setup events session asks.Finish kinds.Finish) (finish_row (phase_of events session) live))
common_own setup events session _ common live = absurd cc

not_zero : (n : ℕ) → eqb n 0 ≡ false → n ≢ 0
not_zero n h e = grind (arith, nat_tests)

framed : (ask : Ask) → is_begin ask ≡ false → is_end ask ≡ false → came_by_frame ask ≡ true
framed asks.Begin b n = absurd cc
framed (asks.End why) b n = absurd cc
framed _ b n = refl

-- the tests of a frame, in their order
by_tests : (over spent common : Bool) (a b p own : Decision) → (over ≡ false → common ≡ true → p ≡ own) → IfSome (cond over (Some a) (cond spent (Some b) (cond common (Some p) None))) (λ d. d ≡ cond over a (cond spent b own))
by_tests true spent common a b p own left = refl
by_tests false true common a b p own left = refl
by_tests false false true a b p own left = left refl refl
by_tests false false false a b p own left = tt

frame_told : (setup : Settings) (events : List Event) (worker : ℕ) (seat : Seat) (ask : Ask) → IsSeat seat worker events → came_by_frame ask ≡ true → IfSome (frame_verdict setup.requests seat ask) (λ d. d ≡ verdict_of setup events worker ask)
frame_told setup events worker seat ask s frame =
    subst (λ v. IfSome (frame_verdict setup.requests seat ask) (λ d. d ≡ v)) judged
    (by_tests (eqb seat.session 0 || seat.over) (eqb seat.asks setup.requests) (is_common ask) (Deny 6 (request_number ask)) (Deny 1 setup.requests) (Permit 0) own left) where
      own : Decision
      own = own_verdict setup events seat.session ask

      tests : (b : Bool) → eqb seat.session 0 ≡ b → (b || seat.over) ≡ (b || is_over_phase (phase_of events seat.session))
      tests true h = refl
      tests false h = s.over (not_zero seat.session h) ∙ sym (over_is events seat.session)

      same : (eqb seat.session 0 || seat.over) ≡ (eqb seat.session 0 || is_over_phase (phase_of events seat.session))
      same = tests (eqb seat.session 0) refl

      judged : cond (eqb seat.session 0 || seat.over) (Deny 6 (request_number ask)) (cond (eqb seat.asks setup.requests) (Deny 1 setup.requests) own) ≡ verdict_of setup events worker ask
      judged =
          ap (λ b. cond b (Deny 6 (request_number ask)) (cond (eqb seat.asks setup.requests) (Deny 1 setup.requests) own)) same
          ∙ request_is setup events worker seat.session (phase_of events seat.session) seat.asks ask own frame s.session (λ some. refl) s.asks (λ some live. refl)

      live : (b o : Bool) → (b || o) ≡ false → o ≡ false
      live true o h = absurd cc
      live false o h = h

      left : (eqb seat.session 0 || seat.over) ≡ false → is_common ask ≡ true → Permit 0 ≡ own
      left going common = common_own setup events seat.session ask common (live (eqb seat.session 0) (is_over_phase (phase_of events seat.session)) (sym same ∙ going))

-- 6. Any ask

begin_told : (setup : Settings) (events : List Event) (worker opened : ℕ) (seat : Seat) (ask : Ask) → IsSeat seat worker events → opened ≡ openings_of events → is_begin ask ≡ true → opening_decision seat.session opened ≡ verdict_of setup events worker ask
begin_told setup events worker opened seat asks.Begin s counted begin = opening_is setup events worker seat.session opened s.session counted
begin_told setup events worker opened seat _ s counted begin = absurd cc

end_told : (setup : Settings) (events : List Event) (worker : ℕ) (seat : Seat) (ask : Ask) → IsSeat seat worker events → is_end ask ≡ true → closing_decision seat.session ≡ verdict_of setup events worker ask
end_told setup events worker seat (asks.End why) s end = closing_is setup events worker seat.session why s.session
end_told setup events worker seat _ s end = absurd cc

pub seat_told : (setup : Settings) (events : List Event) (worker opened : ℕ) (seat : Seat) (ask : Ask) → IsSeat seat worker events → opened ≡ openings_of events → IfSome (seat_verdict setup.requests opened seat ask) (λ d. d ≡ verdict_of setup events worker ask)
seat_told setup events worker opened seat ask s counted = go (is_begin ask) (is_end ask) refl refl where
  go : (b n : Bool) → is_begin ask ≡ b → is_end ask ≡ n → IfSome (cond b (Some (opening_decision seat.session opened)) (cond n (Some (closing_decision seat.session)) (frame_verdict setup.requests seat ask))) (λ d. d ≡ verdict_of setup events worker ask)
  go true n b e = begin_told setup events worker opened seat ask s counted b
  go false true b e = end_told setup events worker seat ask s e
  go false false b e = frame_told setup events worker seat ask s (framed ask b e)
