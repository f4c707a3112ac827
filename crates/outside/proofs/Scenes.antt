use Rattle.std.proofs.Common.{◌≡◌, add-one, unwrap_or, option_map, ◌+◌, ℕ, List, [], ◌++◌, Option, append_assoc, append-nil, ap, sym, ◌∙◌, refl}
use Rattle.outside.specs.declared.act.Act.{Act}
use Rattle.outside.specs.declared.act.Talk.{Talk}
use Rattle.outside.specs.Told.{Goes}
use Rattle.std.specs.Prelude.{slice_get}
use Rattle.outside.specs.declared.act.Role.{Role}
use Rattle.outside.specs.Scene.{Scene, Played, bytes_at, bytes_for}
use Rattle.outside.proofs.Told.{Goes-then, Goes-same}

-- nothing done
pub Played-none : (s : Scene) → Played [] [] [] s s
Played-none s =
    record { acts = sym (append-nil s.acts); talks = sym (append-nil s.talks); unread = sym (append-nil s.unread); plan = refl }

-- what was done in two steps, one after the other
pub Played-then : (done done' : List Act) (finished finished' : List Talk) (remains remains' : List (List ℕ)) (a b c : Scene) → Played done finished remains a b → Played done' finished' remains' b c → Played (done ++ done') (finished ++ finished') (remains ++ remains') a c
Played-then done done' finished finished' remains remains' a b c f s = record {
  acts = s.acts ∙ ap (λ w. w ++ done') f.acts ∙ append_assoc a.acts done done';
  talks = s.talks ∙ ap (λ w. w ++ finished') f.talks ∙ append_assoc a.talks finished finished';
  unread = s.unread ∙ ap (λ w. w ++ remains') f.unread ∙ append_assoc a.unread remains remains';
  plan = s.plan ∙ f.plan;
}

-- the same of posts that may cease to tell
pub Plays-none : (s : Option Scene) → Goes (Played [] [] []) s s
Plays-none s = Goes-same (Played [] [] []) Played-none s

pub Plays-then : (done done' : List Act) (finished finished' : List Talk) (remains remains' : List (List ℕ)) (a b c : Option Scene) → Goes (Played done finished remains) a b → Goes (Played done' finished' remains') b c → Goes (Played (done ++ done') (finished ++ finished') (remains ++ remains')) a c
Plays-then done done' finished finished' remains remains' a b c =
    Goes-then (Played done finished remains) (Played done' finished' remains') (Played (done ++ done') (finished ++ finished') (remains ++ remains')) (Played-then done done' finished finished' remains remains') a b c

-- the bytes planned for a child of the connection after so many
pub bytes_at-add-one : (role : Role) (plan : List (List ℕ × List ℕ)) (k : ℕ) → bytes_at role plan (k + 1) ≡ unwrap_or (option_map (bytes_for role) (slice_get plan k)) []
bytes_at-add-one role plan k = rw add-one refl
