use Rattle.std.proofs.Common.{◌≡◌, drop}
use Rattle.std.specs.List.{find}
use Rattle.policy_model.specs.declared.handles.TheConstants.{HANDLE_NUMBERS}
use Rattle.session_table.specs.Files.{is_free}
use Rattle.session_table.proofs.handles.free_handle.Given as goal

abbrev pub invariant-loop-handle : goal.invariant-loop-handle
invariant-loop-handle l = find (λ n. is_free n l.live) HANDLE_NUMBERS ≡ find (λ n. is_free n l.live) (drop l.handle-index HANDLE_NUMBERS)
