-- That as many faults are counted as are told, call by call.
use Rattle.std.proofs.Common.{◌≡◌, ℕ, ◌+◌, Bool, true, false, cond, List, [], ◌∷◌, ◌++◌, count_by, Option, Some, None, IfSome, Result, Ok, Err, arith, refl, sym, ap, ◌∙◌, subst}
use Rattle.std.proofs.lemmas.List.Sums.{sum_by-append}
use Rattle.outside.specs.declared.act.Act.{Act}
use Rattle.outside.specs.declared.act.Act.TheVariants.{ConnSend, Finish}
use Rattle.outside.specs.declared.act.Failed.{Failed}
use Rattle.outside.specs.declared.act.Role.{Role}
use Rattle.outside.specs.declared.act.Talk.{Talk}
use Rattle.outside.specs.declared.faults.Faults.{Faults}
use Rattle.outside.specs.Faults.{count_after}
use Rattle.outside.specs.Scene.{CountsAsTold, Did, Played, Scene, counted, is_failed_accept, is_failed_conn, is_failed_start, is_failed_vault}
use Rattle.outside.specs.Told.{Goes, next_count, told_if}
use Rattle.outside_memory.specs.Transcript.{scene_with}
use Rattle.outside_memory.specs.declared.closed.Closed.{Closed}
use Rattle.outside_memory.specs.declared.transcript.Transcript.{Transcript}

-- a count after an act: one more where the act failed
abbrev pub count_behind : Bool → ℕ → ℕ
count_behind failed count = cond failed (next_count count) count

-- the counts of accepts, starts, connections and users' files go by an act
pub record CountsAct (act : Act) (before after : Faults) : Type 0 where
  pub accept : after.accept ≡ count_behind (is_failed_accept act) before.accept
  pub keeper : after.keeper ≡ count_behind (is_failed_start act) before.keeper
  pub conn : after.conn ≡ count_behind (is_failed_conn act) before.conn
  pub vault : after.vault ≡ count_behind (is_failed_vault act) before.vault

counted_more : (failed : Bool) (n : ℕ) → count_behind failed (counted n) ≡ counted (n + cond failed 1 0)
counted_more true n = omega arith
counted_more false n = omega arith

one_more : (failed : Act → Bool) (acts : List Act) (act : Act) → count_behind (failed act) (counted (count_by failed acts)) ≡ counted (count_by failed (acts ++ act ∷ []))
one_more failed acts act =
    counted_more (failed act) (count_by failed acts) ∙ ap counted (sym (sum_by-append (λ a. cond (failed a) 1 0) acts (act ∷ []) ∙ omega arith))

-- what was counted as told before an act is so after it
counts_played : (act : Act) (talks : List Talk) (unread : List (List ℕ)) (s t : Scene) (f g : Faults) → Played (act ∷ []) talks unread s t → CountsAct act f g → CountsAsTold s f → CountsAsTold t g
counts_played act talks unread s t f g played counts told = record {
  accept = counts.accept ∙ ap (count_behind (is_failed_accept act)) told.accept ∙ one_more is_failed_accept s.acts act ∙ ap (λ acts. counted (count_by is_failed_accept acts)) (sym played.acts);
  keeper = counts.keeper ∙ ap (count_behind (is_failed_start act)) told.keeper ∙ one_more is_failed_start s.acts act ∙ ap (λ acts. counted (count_by is_failed_start acts)) (sym played.acts);
  conn = counts.conn ∙ ap (count_behind (is_failed_conn act)) told.conn ∙ one_more is_failed_conn s.acts act ∙ ap (λ acts. counted (count_by is_failed_conn acts)) (sym played.acts);
  vault = counts.vault ∙ ap (count_behind (is_failed_vault act)) told.vault ∙ one_more is_failed_vault s.acts act ∙ ap (λ acts. counted (count_by is_failed_vault acts)) (sym played.acts);
}

counts_goes : (act : Act) (talks : List Talk) (unread : List (List ℕ)) (before after : Option Scene) (f g : Faults) → Goes (Played (act ∷ []) talks unread) before after → CountsAct act f g → IfSome before (λ s. CountsAsTold s f) → IfSome after (λ s. CountsAsTold s g)
counts_goes act talks unread before None f g goes counts told = tt
counts_goes act talks unread None (Some t) f g goes counts told = absurd goes
counts_goes act talks unread (Some s) (Some t) f g goes counts told = counts_played act talks unread s t f g goes counts told

-- by one act
pub counts_did : (act : Act) (before after : Option Scene) (f g : Faults) → Did act before after → CountsAct act f g → IfSome before (λ s. CountsAsTold s f) → IfSome after (λ s. CountsAsTold s g)
counts_did act before after f g did counts told = counts_goes act [] [] before after f g did counts told

-- by ceasing to tell
pub counts_ceased : (after : Option Scene) (g : Faults) → after ≡ None → IfSome after (λ s. CountsAsTold s g)
counts_ceased after g none = subst (λ scene. IfSome scene (λ s. CountsAsTold s g)) (sym none) tt

-- before the first act
pub counts_none : (scene : Option Scene) (plan : List (List ℕ × List ℕ)) (f : Faults) → scene ≡ Some (record { acts = []; talks = []; unread = []; plan = plan }) → f.accept ≡ 0 → f.keeper ≡ 0 → f.conn ≡ 0 → f.vault ≡ 0 → IfSome scene (λ s. CountsAsTold s f)
counts_none scene plan f is accept keeper conn vault = subst (λ scene. IfSome scene (λ s. CountsAsTold s f)) (sym is) (record { accept = accept; keeper = keeper; conn = conn; vault = vault })

-- a sending counts as it is told
pub sending_counts : (bytes : List ℕ) (outcome : Result (Unit {0}) Failed) (count : ℕ) → count_after outcome count ≡ count_behind (is_failed_conn (ConnSend bytes outcome)) count
sending_counts bytes (Ok done) count = refl
sending_counts bytes (Err failed) count = refl

-- by an act, or none where no memory was found for it
pub counts_acted_if : (act : Option Act) (plan : List (List ℕ × List ℕ)) (old new : Transcript) (f g : Faults) (a k c v : Bool)
    → IfSome act (λ x. is_failed_accept x ≡ a) → IfSome act (λ x. is_failed_start x ≡ k) → IfSome act (λ x. is_failed_conn x ≡ c) → IfSome act (λ x. is_failed_vault x ≡ v)
    → g.accept ≡ count_behind a f.accept → g.keeper ≡ count_behind k f.keeper → g.conn ≡ count_behind c f.conn → g.vault ≡ count_behind v f.vault
    → IfSome act (λ x. (plan : List (List ℕ × List ℕ)) → Did x (scene_with old plan) (scene_with new plan)) → (act ≡ None → (plan : List (List ℕ × List ℕ)) → scene_with new plan ≡ None)
    → IfSome (scene_with old plan) (λ s. CountsAsTold s f) → IfSome (scene_with new plan) (λ s. CountsAsTold s g)
counts_acted_if None plan old new f g a k c v accept start conn vault ea ek ec ev did silent told = counts_ceased (scene_with new plan) g (silent refl plan)
counts_acted_if (Some act) plan old new f g a k c v accept start conn vault ea ek ec ev did silent told =
    counts_did act (scene_with old plan) (scene_with new plan) f g (did plan) (record { accept = ea ∙ ap (λ failed. count_behind failed f.accept) (sym accept); keeper = ek ∙ ap (λ failed. count_behind failed f.keeper) (sym start); conn = ec ∙ ap (λ failed. count_behind failed f.conn) (sym conn); vault = ev ∙ ap (λ failed. count_behind failed f.vault) (sym vault) }) told

-- by such an act that didn't fail
pub counts_done_if : (act : Option Act) (plan : List (List ℕ × List ℕ)) (old new : Transcript) (f : Faults) → IfSome act (λ a. is_failed_accept a ≡ false) → IfSome act (λ a. is_failed_start a ≡ false)
    → IfSome act (λ a. is_failed_conn a ≡ false) → IfSome act (λ a. is_failed_vault a ≡ false)
    → IfSome act (λ a. (plan : List (List ℕ × List ℕ)) → Did a (scene_with old plan) (scene_with new plan)) → (act ≡ None → (plan : List (List ℕ × List ℕ)) → scene_with new plan ≡ None)
    → IfSome (scene_with old plan) (λ s. CountsAsTold s f) → IfSome (scene_with new plan) (λ s. CountsAsTold s f)
counts_done_if act plan old new f accept start conn vault did silent told =
    counts_acted_if act plan old new f f false false false false accept start conn vault refl refl refl refl did silent told

-- by an act that didn't fail, where no count moved
pub counts_done : (act : Act) (before after : Option Scene) (f : Faults) → is_failed_accept act ≡ false → is_failed_start act ≡ false → is_failed_conn act ≡ false → is_failed_vault act ≡ false → Did act before after → IfSome before (λ s. CountsAsTold s f) → IfSome after (λ s. CountsAsTold s f)
counts_done act before after f accept start conn vault did told =
    counts_did act before after f f did (record { accept = ap (λ failed. count_behind failed f.accept) (sym accept); keeper = ap (λ failed. count_behind failed f.keeper) (sym start); conn = ap (λ failed. count_behind failed f.conn) (sym conn); vault = ap (λ failed. count_behind failed f.vault) (sym vault) }) told

-- by giving a child back, which told or didn't
pub counts_closed : (role : Role) (closed : Option Closed) (plan : List (List ℕ × List ℕ)) (old new : Transcript) (f g : Faults)
    → IfSome closed (λ x. (plan : List (List ℕ × List ℕ)) → Goes (Played (Finish role ∷ []) (x.talk ∷ []) (x.unread ∷ [])) (scene_with old plan) (scene_with new plan)) → (closed ≡ None → new.telling ≡ false)
    → g.accept ≡ f.accept → g.keeper ≡ f.keeper → g.conn ≡ f.conn → g.vault ≡ f.vault
    → IfSome (scene_with old plan) (λ s. CountsAsTold s f) → IfSome (scene_with new plan) (λ s. CountsAsTold s g)
counts_closed role None plan old new f g gains silent accept keeper conn vault told =
    counts_ceased (scene_with new plan) g (ap (λ b. told_if b (record { acts = new.acts.items; talks = new.talks.items; unread = new.unread.items; plan = plan })) (silent refl))
counts_closed role (Some x) plan old new f g gains silent accept keeper conn vault told =
    counts_goes (Finish role) (x.talk ∷ []) (x.unread ∷ []) (scene_with old plan) (scene_with new plan) f g (gains plan) (record { accept = accept; keeper = keeper; conn = conn; vault = vault }) told
