use Rattle.std.proofs.Common.{◌≡◌, ℕ, zero, suc, ◌-◌, ◌<◌, ◌≤◌, List, [], ◌∷◌, length, get_or, Some, unwrap_or, option_map, ap, sym, ◌∙◌, arith}
use Rattle.std.specs.Prelude.{slice_get}
use Rattle.outside.specs.declared.act.Role.{Role}
use Rattle.outside_memory.specs.declared.script.Script.{Script}
use Rattle.outside.specs.Scene.{bytes_at, bytes_for}
use Rattle.outside_memory.specs.Script.{plan_of}

-- the plan's entry at a place is that of the script there
slice_get-plan_of : (scripts : List Script) (k : ℕ) (script : Script) → k < length scripts → script ≡ get_or scripts k script → slice_get (plan_of scripts) k ≡ Some (script.pre, script.user)
slice_get-plan_of [] k script fits is = absurd (omega arith)
slice_get-plan_of (s ∷ ss) zero script fits is = ap (λ x. Some (x.pre, x.user)) (sym is)
slice_get-plan_of (s ∷ ss) (suc k) script fits is = slice_get-plan_of ss k script (omega arith) is

-- the bytes planned for a child are those of the script that came last
pub bytes_at-plan_of : (role : Role) (scripts : List Script) (came : ℕ) (script : Script) → 0 < came → came ≤ length scripts → script ≡ get_or scripts (came - 1) script → bytes_at role (plan_of scripts) came ≡ bytes_for role (script.pre, script.user)
bytes_at-plan_of role scripts zero script some fits is = absurd (omega arith)
bytes_at-plan_of role scripts (suc k) script some fits is =
    let before : suc k - 1 ≡ k = omega arith in
    ap (λ e. unwrap_or (option_map (bytes_for role) e) []) (slice_get-plan_of scripts k script (omega arith) (is ∙ ap (λ i. get_or scripts i script) before))
