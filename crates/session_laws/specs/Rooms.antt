-- Inner: the sessions that may still accept a password.
use Rattle.std.specs.Prelude.{ℕ, Bool, true, false, List, count_by, if◌then◌else◌}
use Rattle.policy_model.specs.declared.phase.Phase.{Phase}
use Rattle.policy_model.specs.declared.phase.Phase.TheVariants.{Pre, Challenged}

-- nobody has logged in yet
abbrev pub may_log_in : Phase → Bool
may_log_in Pre = true
may_log_in Challenged = true
may_log_in _ = false

-- 1 for a row of such a phase
abbrev pub login_room : {X : Type 0} → (X → Phase) → X → ℕ
login_room phase row = if may_log_in (phase row) then 1 else 0

-- how many rows have such a phase
abbrev pub login_count : {X : Type 0} → (X → Phase) → List X → ℕ
login_count phase rows = count_by (λ row. may_log_in (phase row)) rows
