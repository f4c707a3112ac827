use Rattle.std.proofs.Common.{◌≡◌, ◌≤◌, All, length, vec_capacity, vec_len}
use Rattle.outside_memory.proofs.buffers.empty_buffers.Given as goal

abbrev pub invariant-loop : goal.invariant-loop
invariant-loop l =
    (length l.buffers.items ≡ l.counter) × All (λ b. (vec_len b ≡ 0) × (l.room.size ≤ vec_capacity b)) l.buffers.items
