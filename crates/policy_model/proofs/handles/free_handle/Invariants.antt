use Rattle.std.proofs.Common.{◌≡◌, drop}
use Rattle.std.specs.Prelude.{is_none}
use Rattle.std.specs.List.{find}
use Rattle.policy_model.specs.declared.handles.TheConstants.{HANDLE_NUMBERS}
use Rattle.policy_model.proofs.handles.free_handle.Given as goal
use Rattle.policy_model.specs.Handles.{handle_opening}

abbrev pub invariant-loop-handle : goal.invariant-loop-handle
invariant-loop-handle l =
    find (λ n. is_none (handle_opening l.journal l.session n)) HANDLE_NUMBERS ≡ find (λ n. is_none (handle_opening l.journal l.session n)) (drop l.handle-index HANDLE_NUMBERS)
