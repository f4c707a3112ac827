-- Taking the turn, counting a reply and giving the turn back keep the rule.
use Rattle.std.proofs.Common.{◌≡◌, ℕ, zero, suc, subst, ◌+◌, ◌*◌, ◌%◌, ◌^◌, ◌<◌, ◌≤◌, ◌≢◌, List, [], ◌∷◌, ◌++◌, set, sym, refl, ap, ◌∙◌, ⊎_elim, arith, append-nil, Bool, true, false, length-append}
use Rattle.std.proofs.lemmas.Bool.Decides.{nat_tests}
use Rattle.std.proofs.Math.Nat.{mod-eq_of_lt}
use Rattle.std.specs.Prelude.{slice_index, slice_set, length, ◌==◌}
use Rattle.std.specs.Prelude.{MatchBool}
use mathlib.Core.Option.{Option, some, none, some-ne-none}
use lib.ListN.{get_elem?}
use prog.Atomic.{either}
use Rattle.std.proofs.lemmas.Bool.{false≢true}
use Rattle.atomic_table.proofs.Lists.{at_set, set_again, set_here}
use Rattle.atomic_table.specs.Table.{State, Me, Act, Allows, Valid, homes_after, carried_after}
use Rattle.atomic_table.specs.Table.Act.{keeps, takes, gives}
use Rattle.turn_cell.specs.declared.view.View.{View}
use Rattle.turn_cell.specs.declared.view.Mark.{Mark}
use Rattle.turn_cell.specs.Facts.{StartsWith, replies_of, IsWithin}
use Rattle.turn_cell.specs.Turns.{Covers, own, spare, taken_in, Among, IsSingle, Setting, setting_of, Fits, Turns, Took, HasTurn, HasReply, Counted, IsCounted, Gave}
use Rattle.turn_cell.proofs.Counts.{starts_all, starts_on, more_of_other, within_more, at_most}

pub inside : {A : Type 0} (l : List A) (i : ℕ) (a : A) → get_elem? l i ≡ some a → i < length l
inside [] i a e = absurd (some-ne-none a (sym e))
inside (x ∷ xs) zero a e = omega arith
inside (x ∷ xs) (suc i) a e = let h : i < length xs = inside xs i a e in omega arith

-- what was taken last
abbrev carried_one : {O : Type 0} → O → List (ℕ × O) → O
carried_one d [] = d
carried_one d (x ∷ xs) = x.1

taken_word : (word : ℕ) → 0 < word → (b : Bool) (n : ℕ) → (n == 0) ≡ b → either b word n ≢ 0
taken_word word above true n e h = omega arith
taken_word word above false n e h = absurd (grind (arith, nat_tests))

module _ {O R T : Type 0} (history : O → List R) (owner : R → ℕ) (setting : O → Setting T) (legal : T → List R → Type 0) where
  abbrev pub Rule : Setting T → State O (View R T) → Type 0
  Rule t s = Turns history owner setting legal t s

  abbrev pub Fit : Setting T → List (Option O) → List R → ℕ → ℕ → View R T → Type 0
  Fit t homes log holder seat v = Fits history owner setting legal t homes log holder seat v

  abbrev pub AllFit : Setting T → List (Option O) → List R → ℕ → List (View R T) → Type 0
  AllFit t homes log holder views = (seat : ℕ) (u : View R T) → get_elem? views seat ≡ some u → Fit t homes log holder seat u

  abbrev pub Apart : List (View R T) → Type 0
  Apart views = (i j n : ℕ) (u x : View R T) → get_elem? views i ≡ some u → get_elem? views j ≡ some x → Covers u n → Covers x n → i ≡ j

  same_covers : (views : List (View R T)) (id : ℕ) (v w : View R T) → get_elem? views id ≡ some v → ((n : ℕ) → Covers w n → Covers v n) → (i n : ℕ) (u : View R T) → get_elem? (set views id w) i ≡ some u → Covers u n
      → (u0 : View R T) × (get_elem? views i ≡ some u0) × Covers u0 n
  same_covers views id v w at less i n u e c =
      ⊎_elim (λ p. (v, ap (λ (k : ℕ). get_elem? views k) p.0 ∙ at, less n (subst (λ (z : View R T). Covers z n) (sym p.1) c))) (λ p. (u, p.1, c)) (at_set views id i w u e)

  pub apart_set : (views : List (View R T)) (id : ℕ) (v w : View R T) → get_elem? views id ≡ some v → ((n : ℕ) → Covers w n → Covers v n) → Apart views → Apart (set views id w)
  apart_set views id v w at less apart i j n u x e f cu cx =
      let p = same_covers views id v w at less i n u e cu in
      let q = same_covers views id v w at less j n x f cx in
      apart i j n p.0 q.0 p.1 q.1 p.2 q.2

  -- a change of what was seen or made changes no number
  recovers : (v : View R T) (seen mine : List R) (h : Bool) (n : ℕ) → Covers (record v { seen = seen; mine = mine; holding = h }) n → Covers v n
  recovers v seen mine h n (own a b) = own a b
  recovers v seen mine h n (spare a b) = spare a b
  recovers v seen mine h n (taken_in m a b) = taken_in m a b

  -- ---- taking the turn

  free_kept : (t : Setting T) (s : State O (View R T)) (id word : ℕ) (v : View R T) (y : O) → word ≢ 0 → (kept : Rule t s) → v.live ≡ true → get_elem? s.views id ≡ some v → s.homes ≡ some y ∷ [] → history y ≡ kept.log
      → Rule t record { words = word ∷ length kept.log ∷ []; homes = slice_set s.homes 0 none; views = slice_set s.views id (record v { seen = history y; holding = true }) }
  free_kept t s id word v y nz kept alive at home_is hist =
      let w : View R T = record v { seen = history y; holding = true } in
      let f = kept.fits id v at in
      let homes' : List (Option O) = slice_set s.homes 0 none in
      let out : homes' ≡ none ∷ [] = rw home_is refl in
      let fw : Fit t homes' kept.log id id w = record {
        seen = ([], sym hist ∙ sym (append-nil (history y)));
        mine = f.mine;
        setting_same = f.setting_same;
        below = f.below;
        holding = λ _. (out, hist, refl, alive);
        spares = f.spares;
        marks = f.marks;
        fresh = f.fresh;
      } in
      record {
        log = kept.log;
        holder = id;
        turn = word;
        words = refl;
        legal_log = kept.legal_log;
        within = kept.within;
        room = kept.room;
        home = λ e. absurd (nz e);
        held = λ _. (w, set_here s.views id w (inside s.views id v at), refl);
        fits = λ seat u e. ⊎_elim
            (λ p. subst (λ (x : View R T). Fit t homes' kept.log id seat x) p.1 (subst (λ (k : ℕ). Fit t homes' kept.log id k w) (sym p.0) fw))
            (λ p. let g = kept.fits seat u p.1 in record {
              seen = g.seen;
              mine = g.mine;
              setting_same = g.setting_same;
              below = g.below;
              holding = λ h. let a = (g.holding h).0 in absurd (cc (a, home_is));
              spares = g.spares;
              marks = g.marks;
              fresh = g.fresh;
            })
            (at_set s.views id seat w u e);
        apart = apart_set s.views id v w at (recovers v (history y) v.mine true) kept.apart;
      }

  -- a held turn stays held
  awaited_kept : (t : Setting T) (s : State O (View R T)) (word : ℕ) → word ≢ 0 → (kept : Rule t s) → kept.turn ≢ 0 → Rule t record { words = word ∷ length kept.log ∷ []; homes = s.homes; views = s.views }
  awaited_kept t s word nz kept taken = record {
    log = kept.log;
    holder = kept.holder;
    turn = word;
    words = refl;
    legal_log = kept.legal_log;
    within = kept.within;
    room = kept.room;
    home = λ e. absurd (nz e);
    held = λ _. kept.held taken;
    fits = kept.fits;
    apart = kept.apart;
  }

  take_goes : (t : Setting T) (s : State O (View R T)) (id word : ℕ) (v : View R T) → word ≢ 0 → v.live ≡ true → (kept : Rule t s) → get_elem? s.views id ≡ some v → (b : Bool) → (kept.turn == 0) ≡ b
      → (w : View R T) × (a : Act O) × Valid s.homes [] a × Rule t record { words = word ∷ length kept.log ∷ []; homes = homes_after s.homes [] a; views = slice_set s.views id w }
      × MatchBool b (HasTurn history owner setting legal (v, []) (w, carried_after {S = O} [] a)) (◌≡◌ {A = Me O (View R T)} (w, carried_after {S = O} [] a) (v, []))
  take_goes t s id word v nz alive kept at true is =
      let z : kept.turn ≡ 0 = grind (arith, nat_tests) in
      let h = kept.home z in
      let y : O = h.0 in
      let f = kept.fits id v at in (
        record v { seen = history y; holding = true },
        takes 0 y,
        rw h.1 refl,
        free_kept t s id word v y nz kept alive at h.1 h.2,
        (
          y,
          refl,
          refl,
          subst (λ (l : List R). StartsWith l v.seen) (sym h.2) f.seen,
          ap (λ (l : List R). replies_of owner v.number l) h.2 ∙ f.mine alive,
          subst (λ (l : List R). legal v.terms l) (sym h.2) (subst (λ (d : Setting T). legal d.terms kept.log) (sym (f.setting_same alive)) kept.legal_log),
          h.3 ∙ sym (f.setting_same alive),
          subst (λ (d : Setting T). v.number < d.passes) (sym (f.setting_same alive)) (f.below alive),
        ),
      )
  take_goes t s id word v nz alive kept at false is =
      let taken : kept.turn ≢ 0 = λ e. absurd (grind (arith, nat_tests)) in (
        v,
        keeps,
        tt,
        rw (set_again s.views id v at) (awaited_kept t s word nz kept taken),
        refl,
      )

  -- whatever the step writes, the turn is taken where it was free
  pub allows_take : (t : Setting T) (slots id : ℕ) (v : View R T) (out : List (ℕ × O)) (f : ℕ → ℕ) → out ≡ [] → v.live ≡ true → ((n : ℕ) → f n ≢ 0)
      → Allows (λ s. Rule t s) slots id (v, out) 0 f (Took history owner setting legal (v, out))
  allows_take t slots id v out f none_out alive nz = subst (λ (r : List (ℕ × O)). Allows (λ s. Rule t s) slots id (v, r) 0 f (Took history owner setting legal (v, r))) (sym none_out)
      (λ s kept sl at small.
      let P : List ℕ → Type 0 = λ ws. (w : View R T) × (a : Act O) × Valid s.homes [] a × Rule t record { words = slice_set ws 0 (f (slice_index ws 0)); homes = homes_after s.homes [] a; views = slice_set s.views id w } × Took history owner setting legal (v, []) (slice_index ws 0) (w, carried_after [] a) in
      subst P (sym kept.words) (take_goes t s id (f kept.turn) v (nz kept.turn) alive kept at (kept.turn == 0) refl))

  pub taken_once : (word : ℕ) → 0 < word → (n : ℕ) → either (n == 0) word n ≢ 0
  taken_once word above n = taken_word word above (n == 0) n refl

  -- ---- a reply joins the history

  count_kept : (t : Setting T) (s : State O (View R T)) (id : ℕ) (v : View R T) (y : O) (r : R) → (kept : Rule t s) → v.holding ≡ true → IsSingle v → get_elem? s.views id ≡ some v
      → history y ≡ v.seen ++ r ∷ [] → owner r ≡ v.number → length v.mine < v.quota → legal v.terms (history y)
      → Rule t record { words = kept.turn ∷ (length kept.log + 1) % 2 ^ 64 ∷ []; homes = s.homes; views = slice_set s.views id (record v { seen = history y; mine = replies_of owner v.number (history y) }) }
  count_kept t s id v y r kept hold single at more own_is left leg =
      let w : View R T = record v { seen = history y; mine = replies_of owner v.number (history y) } in
      let f = kept.fits id v at in
      let had = f.holding hold in
      let set_is : setting_of v ≡ t = f.setting_same had.3 in
      let log' : List R = history y in
      let is : log' ≡ kept.log ++ r ∷ [] = more ∙ ap (λ (l : List R). l ++ r ∷ []) had.1 in
      let stays : (k : ℕ) → k ≢ v.number → replies_of owner k log' ≡ replies_of owner k kept.log = λ k ne. ap (λ (l : List R). replies_of owner k l) is ∙ more_of_other owner kept.log r k (λ e. ne (sym e ∙ own_is)) in
      let longer : StartsWith log' kept.log = (r ∷ [], is) in
      let low : v.number < t.passes = f.below had.3 in
      let quota_is : v.quota ≡ t.quota = ap (λ (d : Setting T). d.quota) set_is in
      let left' : length (replies_of owner (owner r) kept.log) < t.quota = subst (λ (k : ℕ). length (replies_of owner k kept.log) < t.quota) (sym own_is) (let e : length (replies_of owner v.number kept.log) ≡ length v.mine = ap (λ (l : List R). length l) (f.mine had.3) in omega arith) in
      let within' : IsWithin owner t.passes t.quota log' = subst (λ (l : List R). IsWithin owner t.passes t.quota l) (sym is) (within_more owner t.passes t.quota kept.log r kept.within (subst (λ (k : ℕ). k < t.passes) (sym own_is) low) left') in
      let bound : length log' ≤ t.passes * t.quota = at_most owner t.passes t.quota log' within' in
      let count_is : (length kept.log + 1) % 2 ^ 64 ≡ length log' =
      let g : length log' ≡ length (kept.log ++ r ∷ []) = ap (λ (l : List R). length l) is in let a = length-append kept.log (r ∷ []) in let room = kept.room in
      let e : length log' ≡ length kept.log + 1 = omega arith in
      let small : length kept.log + 1 < 2 ^ 64 = omega arith in mod-eq_of_lt small ∙ sym e in
      let fw : Fit t s.homes log' id id w = record {
        seen = starts_all log';
        mine = λ _. refl;
        setting_same = f.setting_same;
        below = f.below;
        holding = λ _. (had.0, refl, refl, had.3);
        spares = λ n a b. let none_left = single.1 in absurd (omega arith);
        marks = λ m a. absurd (subst (λ (l : List (Mark R)). Among l m) single.2 a);
        fresh = λ n a b. let none_left = single.1 in absurd (omega arith);
      } in
      record {
        log = log';
        holder = id;
        turn = kept.turn;
        words = ap (λ (n : ℕ). kept.turn ∷ n ∷ []) count_is;
        legal_log = subst (λ (d : Setting T). legal d.terms log') set_is leg;
        within = within';
        room = kept.room;
        home = λ e. let h = kept.home e in let a = h.1 in let b = had.0 in absurd (cc (a, b));
        held = λ _. (w, set_here s.views id w (inside s.views id v at), hold);
        fits = λ seat u e. ⊎_elim
            (λ p. subst (λ (x : View R T). Fit t s.homes log' id seat x) p.1 (subst (λ (k : ℕ). Fit t s.homes log' id k w) (sym p.0) fw))
            (λ p. let g = kept.fits seat u p.1 in record {
              seen = starts_on log' kept.log u.seen longer g.seen;
              mine = λ lv. stays u.number (λ e. p.0 (kept.apart seat id u.number u v p.1 at (own lv refl) (own had.3 (sym e)))) ∙ g.mine lv;
              setting_same = g.setting_same;
              below = g.below;
              holding = λ h. absurd (p.0 ((g.holding h).2 ∙ sym had.2));
              spares = λ n a b. (stays n (λ e. p.0 (kept.apart seat id n u v p.1 at (spare a b) (own had.3 (sym e)))) ∙ (g.spares n a b).0, (g.spares n a b).1);
              marks = λ m a. (
                starts_on log' kept.log m.seen longer (g.marks m a).0,
                stays m.number (λ e. p.0 (kept.apart seat id m.number u v p.1 at (taken_in m a refl) (own had.3 (sym e)))) ∙ (g.marks m a).1,
              );
              fresh = g.fresh;
            })
            (at_set s.views id seat w u e);
        apart = apart_set s.views id v w at (recovers v log' (replies_of owner v.number log') v.holding) kept.apart;
      }

  pub allows_count : (t : Setting T) (slots id : ℕ) (me : Me O (View R T)) → HasReply history owner setting legal me
      → Allows (λ s. Rule t s) slots id me 1 (λ n. (n + 1) % 2 ^ 64) (λ _. Counted history owner setting legal me)
  allows_count t slots id me ready s kept sl at small =
      let y : O = ready.0 in
      let w : View R T = record me.0 { seen = history y; mine = replies_of owner me.0.number (history y) } in
      let after = count_kept t s id me.0 y ready.1 kept ready.3.0 ready.3.1 at ready.4 ready.5 ready.6 ready.7 in (
        w,
        keeps,
        tt,
        (let Q : List ℕ → Type 0 = λ ws. Rule t record { words = slice_set ws 1 ((slice_index ws 1 + 1) % 2 ^ 64); homes = s.homes; views = slice_set s.views id w } in subst Q (sym kept.words) after),
        (λ y' e.
            let q : y ≡ y' = sym (ap (λ (c : List (ℕ × O)). carried_one y c) ready.2) ∙ ap (λ (c : List (ℕ × O)). carried_one y c) e in
            ap (λ (z : O). (record me.0 { seen = history z; mine = replies_of owner me.0.number (history z) }, me.1)) q),
      )

  -- ---- giving the turn back

  give_kept : (t : Setting T) (s : State O (View R T)) (id : ℕ) (v : View R T) (y : O) → (kept : Rule t s) → v.holding ≡ true → get_elem? s.views id ≡ some v → history y ≡ v.seen → setting y ≡ setting_of v
      → Rule t record { words = 0 ∷ length kept.log ∷ []; homes = slice_set s.homes 0 (some y); views = slice_set s.views id (record v { holding = false }) }
  give_kept t s id v y kept hold at all same =
      let w : View R T = record v { holding = false } in
      let f = kept.fits id v at in
      let had = f.holding hold in
      let homes' : List (Option O) = slice_set s.homes 0 (some y) in
      let back : homes' ≡ some y ∷ [] = rw had.0 refl in
      let fw : Fit t homes' kept.log id id w = record {
        seen = f.seen;
        mine = f.mine;
        setting_same = f.setting_same;
        below = f.below;
        holding = λ h. absurd (false≢true h);
        spares = f.spares;
        marks = f.marks;
        fresh = f.fresh;
      } in
      record {
        log = kept.log;
        holder = id;
        turn = 0;
        words = refl;
        legal_log = kept.legal_log;
        within = kept.within;
        room = kept.room;
        home = λ _. (y, back, all ∙ had.1, same ∙ f.setting_same had.3);
        held = λ n. absurd (n refl);
        fits = λ seat u e. ⊎_elim
            (λ p. subst (λ (x : View R T). Fit t homes' kept.log id seat x) p.1 (subst (λ (k : ℕ). Fit t homes' kept.log id k w) (sym p.0) fw))
            (λ p. let g = kept.fits seat u p.1 in record {
              seen = g.seen;
              mine = g.mine;
              setting_same = g.setting_same;
              below = g.below;
              holding = λ h. absurd (p.0 ((g.holding h).2 ∙ sym had.2));
              spares = g.spares;
              marks = g.marks;
              fresh = g.fresh;
            })
            (at_set s.views id seat w u e);
        apart = apart_set s.views id v w at (recovers v v.seen v.mine false) kept.apart;
      }

  pub allows_give : (t : Setting T) (slots id : ℕ) (me : Me O (View R T)) → IsCounted history owner setting legal me
      → Allows (λ s. Rule t s) slots id me 0 (λ _. 0) (λ _. Gave history owner setting legal me)
  allows_give t slots id me ready s kept sl at small =
      let y : O = ready.0 in
      let w : View R T = record me.0 { holding = false } in
      let after = give_kept t s id me.0 y kept ready.2 at ready.4 ready.5 in (
        w,
        gives,
        tt,
        (let Q : List ℕ → List (ℕ × O) → Type 0 = λ ws c. Rule t record { words = slice_set ws 0 0; homes = homes_after s.homes c gives; views = slice_set s.views id w } in
            subst (λ (ws : List ℕ). Q ws me.1) (sym kept.words) (subst (λ (c : List (ℕ × O)). Q (kept.turn ∷ length kept.log ∷ []) c) (sym ready.1) after)),
        refl,
      )
