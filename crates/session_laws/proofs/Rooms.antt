-- No more passwords are spent than sessions were opened, by the phases of the workers' rows alone.
use Rattle.std.proofs.Common.{◌≡◌, ℕ, ◌+◌, ◌≤◌, ◌<◌, Bool, true, false, cond, List, length, get_or, set, refl, ap, arith}
use Rattle.std.proofs.lemmas.List.Sums.{sum_by-set}
use Rattle.policy_model.specs.declared.event.Event.{Event}
use Rattle.policy_model.specs.declared.phase.Phase.{Phase}
use Rattle.policy_model.specs.declared.phase.Phase.TheVariants.{Pre, Challenged, Verified, User, Over}
use Rattle.policy_model.specs.Asks.{accepts, ends_session, exports, is_login_step, takes}
use Rattle.session_laws.specs.Phased.{phase_after}
use Rattle.session_laws.specs.Rooms.{login_count, login_room, may_log_in}

-- what a row's change makes of the room
pub room_push : {X : Type 0} (phase : X → Phase) (rows : List X) (w : ℕ) (new d : X) (spent spent_then openings openings_then : ℕ) → w < length rows → spent + login_count phase rows ≤ openings → spent_then + login_room phase new + openings ≤ spent + login_room phase (get_or rows w d) + openings_then → spent_then + login_count phase (set rows w new) ≤ openings_then
room_push phase rows w new d spent spent_then openings openings_then lt room change =
    let s : login_count phase (set rows w new) + login_room phase (get_or rows w d) ≡ login_count phase rows + login_room phase new = sum_by-set (λ row. cond (may_log_in (phase row)) 1 0) rows w new d lt in
    omega (arith, s, room, change)

-- a row in Challenged leaves room for one
pub room_for_one : {X : Type 0} (phase : X → Phase) (rows : List X) (w : ℕ) (d over : X) (spent openings : ℕ) → w < length rows → spent + login_count phase rows ≤ openings → phase over ≡ Over → phase (get_or rows w d) ≡ Challenged → spent < openings
room_for_one phase rows w d over spent openings lt room is_over challenged =
    let s : login_count phase (set rows w over) + login_room phase (get_or rows w d) ≡ login_count phase rows + login_room phase over = sum_by-set (λ row. cond (may_log_in (phase row)) 1 0) rows w over d lt in
    let none : login_room phase over ≡ 0 = ap (λ (p : Phase). cond (may_log_in p) 1 0) is_over in
    let one : login_room phase (get_or rows w d) ≡ 1 = ap (λ (p : Phase). cond (may_log_in p) 1 0) challenged in
    omega (arith, s, none, one, room)

-- no event leads back to before the login
pub log_in_before : (p : Phase) (e : Event) → may_log_in (phase_after p e) ≡ true → may_log_in p ≡ true
log_in_before Pre e h = refl
log_in_before Challenged e h = refl
log_in_before Over e h = absurd cc
log_in_before User e h = absurd (go (ends_session e) h) where
  go : (b : Bool) → may_log_in (cond b Over User) ≡ true → ⊥
  go true h = cc
  go false h = cc
log_in_before Verified e h = absurd (go (ends_session e) (exports e) h) where
  go : (b c : Bool) → may_log_in (cond b Over (cond c User Verified)) ≡ true → ⊥
  go true c h = cc
  go false true h = cc
  go false false h = cc

-- so a row's own event leaves as much room as there was
pub log_in_falls : (p : Phase) (e : Event) → cond (may_log_in (phase_after p e)) 1 0 ≤ cond (may_log_in p) 1 0
log_in_falls p e = go (may_log_in (phase_after p e)) (may_log_in p) (log_in_before p e) where
  go : (b c : Bool) → (b ≡ true → c ≡ true) → cond b 1 0 ≤ cond c 1 0
  go true true h = omega arith
  go true false h = let wrong = h refl in absurd cc
  go false true h = omega arith
  go false false h = omega arith

-- an accepted password ends it
pub accepted_late : (p : Phase) (e : Event) → accepts e ≡ true → may_log_in (phase_after p e) ≡ false
accepted_late Over e a = refl
accepted_late User e a = go (ends_session e) where
  go : (b : Bool) → may_log_in (cond b Over User) ≡ false
  go true = refl
  go false = refl
accepted_late Verified e a = go (ends_session e) (exports e) where
  go : (b c : Bool) → may_log_in (cond b Over (cond c User Verified)) ≡ false
  go true c = refl
  go false true = refl
  go false false = refl
accepted_late Pre e a = go (ends_session e) (exports e) (accepts e) a where
  go : (b c k : Bool) → k ≡ true → may_log_in (cond b Over (cond c User (cond k Verified (cond (is_login_step e) (cond (takes e) Challenged Pre) Pre)))) ≡ false
  go true c k h = refl
  go false true k h = refl
  go false false true h = refl
  go false false false h = absurd cc
accepted_late Challenged e a = go (ends_session e) (exports e) (accepts e) a where
  go : (b c k : Bool) → k ≡ true → may_log_in (cond b Over (cond c User (cond k Verified (cond (is_login_step e) (cond (takes e) Challenged Pre) Challenged)))) ≡ false
  go true c k h = refl
  go false true k h = refl
  go false false true h = refl
  go false false false h = absurd cc
