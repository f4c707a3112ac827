use Rattle.std.proofs.Common.{◌≡◌, inl, inr, ◌<◌, ◌≤◌, ◌^◌, ◌+◌, ℕ, List, [], ◌∷◌, ◌++◌, length, take, refl, sym, ◌∙◌, ap, subst, arith, false, length-take, length-drop, IfSome}
use Rattle.std.proofs.lemmas.Result.{err_from_is_err_and}
use Rattle.outside.specs.Told.{Goes, next_count}
use Rattle.durable_log.specs.Appending.{KeepsSome, end_of}
use Rattle.durable_log.specs.Disk.{HalfWroteSafely, wrote_safely}
use Rattle.durable_log.specs.Journal.{IsLog, behind_of, log_parts}
use Rattle.durable_log.proofs.Appends.{Stands, advances, breaks, enters, first_broken, first_fits, gains_at_end, is_first, keeps_at_end, length-piece, log_now, piece_short, refused_keeps, second_broken, second_fits, some_log, staged_told, stands, stays, too_far}
use Rattle.durable_log.proofs.Pieces.{is_none, is_some}
use Rattle.durable_log.proofs.journal.JournalLogSink.append.Goals as goal

pub returns-in_err-check-clause-keeps_some : goal.returns-in_err-check-clause-keeps_some
returns-in_err-check-clause-keeps_some g c =
    let p = err_from_is_err_and c.from_residual.result c.from_residual.ensures.1 in
    rw p.1 (rw (← c.self.view_is) (refused_keeps _ _ c.args.bytes.now c.in_err-check.ensures.err.1 (λ given answered told. told)))

pub loop-rest-init : goal.loop-rest-init
loop-rest-init g c =
    let same : log_parts (g.D.Disk.story c.self.inside.made.value) (g.D.Disk.story c.self.inside.disk) c.check.new.self.gate c.check.new.self.stopped (g.D.Disk.faults c.self.inside.disk) c.check.new.self.refused ≡ c.args.self.now
    = rw (c.check.ensures.gate, c.in_ok-check.ensures.ok.2, c.in_ok-check.ensures.ok.1, ← c.in_ok-check.ensures.ok.0) c.self.view_is in
    let is_log : IsLog c.args.self.now = subst IsLog c.self.view_is c.self.invariant in
    let going : c.args.self.now.stopped ≡ false = rw (← c.self.view_is) c.in_ok-check.ensures.ok.0 in
    rw same (enters c.args.self.now c.args.bytes.now is_log going)

pub invariant_of-self-in-loop-rest : goal.invariant_of-self-in-loop-rest
invariant_of-self-in-loop-rest g c =
    log_now _ _ _ _ c.loop-rest.invariant

pub begin-requires-clause-piece : goal.begin-requires-clause-piece
begin-requires-clause-piece g c =
    rw c.first_piece.ensures.piece (length-piece c.loop-rest.rest.now)

pub invariant_of-self-in_err-size : goal.invariant_of-self-in_err-size
invariant_of-self-in_err-size g c =
    let small : c.begin.new.self.gate < 2 ^ 32 = omega (arith, c.begin.ensures.gate, c.loop-rest.invariant.small) in
    let kept : KeepsSome c.args.bytes.now c.args.self.now (log_parts (g.D.Disk.story c.loop-rest.self-inside.made.value) (g.D.Disk.story c.loop-rest.self-inside.disk) c.begin.new.self.gate c.begin.new.self.stopped (g.D.Disk.faults c.loop-rest.self-inside.disk) c.begin.new.self.refused) = stays c.args.self.now c.args.bytes.now c.loop-rest.rest.now (log_parts (g.D.Disk.story c.loop-rest.self-inside.made.value) (g.D.Disk.story c.loop-rest.self-inside.disk) c.loop-rest.self-inside.tail.gate c.loop-rest.self-inside.tail.stopped (g.D.Disk.faults c.loop-rest.self-inside.disk) c.loop-rest.self-inside.tail.refused) c.loop-rest.invariant (log_parts (g.D.Disk.story c.loop-rest.self-inside.made.value) (g.D.Disk.story c.loop-rest.self-inside.disk) c.begin.new.self.gate c.begin.new.self.stopped (g.D.Disk.faults c.loop-rest.self-inside.disk) c.begin.new.self.refused) c.begin.ensures.stopped (λ given answered told. told) in
    some_log c.args.self.now c.args.bytes.now c.loop-rest.rest.now (log_parts (g.D.Disk.story c.loop-rest.self-inside.made.value) (g.D.Disk.story c.loop-rest.self-inside.disk) c.loop-rest.self-inside.tail.gate c.loop-rest.self-inside.tail.stopped (g.D.Disk.faults c.loop-rest.self-inside.disk) c.loop-rest.self-inside.tail.refused) c.loop-rest.invariant (log_parts (g.D.Disk.story c.loop-rest.self-inside.made.value) (g.D.Disk.story c.loop-rest.self-inside.disk) c.begin.new.self.gate c.begin.new.self.stopped (g.D.Disk.faults c.loop-rest.self-inside.disk) c.begin.new.self.refused) small kept

pub returns-in_err-size-clause-keeps_some : goal.returns-in_err-size-clause-keeps_some
returns-in_err-size-clause-keeps_some g c =
    let kept : KeepsSome c.args.bytes.now c.args.self.now (log_parts (g.D.Disk.story c.loop-rest.self-inside.made.value) (g.D.Disk.story c.loop-rest.self-inside.disk) c.begin.new.self.gate c.begin.new.self.stopped (g.D.Disk.faults c.loop-rest.self-inside.disk) c.begin.new.self.refused) = stays c.args.self.now c.args.bytes.now c.loop-rest.rest.now (log_parts (g.D.Disk.story c.loop-rest.self-inside.made.value) (g.D.Disk.story c.loop-rest.self-inside.disk) c.loop-rest.self-inside.tail.gate c.loop-rest.self-inside.tail.stopped (g.D.Disk.faults c.loop-rest.self-inside.disk) c.loop-rest.self-inside.tail.refused) c.loop-rest.invariant (log_parts (g.D.Disk.story c.loop-rest.self-inside.made.value) (g.D.Disk.story c.loop-rest.self-inside.disk) c.begin.new.self.gate c.begin.new.self.stopped (g.D.Disk.faults c.loop-rest.self-inside.disk) c.begin.new.self.refused) c.begin.ensures.stopped (λ given answered told. told) in
    let p = err_from_is_err_and c.from_residual-in_err-size.result c.from_residual-in_err-size.ensures.1 in
    rw p.1 kept

pub returns-in_err-size-clause-stopped : goal.returns-in_err-size-clause-stopped
returns-in_err-size-clause-stopped g c =
    let some : 0 < length c.loop-rest.rest.now = is_some (length c.loop-rest.rest.now) c.is_empty.result c.is_empty.ensures c.loop-rest-test.true in
    let few : length c.first_piece.result.0.now ≤ length c.loop-rest.rest.now = omega (arith, ap (λ (x : List ℕ). length x) c.first_piece.ensures.piece, length-take 256 c.loop-rest.rest.now) in
    let far : 271581189 < end_of c.args.self.now c.args.bytes.now + 1 = too_far c.args.self.now c.args.bytes.now c.loop-rest.rest.now (log_parts (g.D.Disk.story c.loop-rest.self-inside.made.value) (g.D.Disk.story c.loop-rest.self-inside.disk) c.loop-rest.self-inside.tail.gate c.loop-rest.self-inside.tail.stopped (g.D.Disk.faults c.loop-rest.self-inside.disk) c.loop-rest.self-inside.tail.refused) c.loop-rest.invariant (length c.first_piece.result.0.now) some few c.in_err-size.ensures.err.0 in
    let p = err_from_is_err_and c.from_residual-in_err-size.result c.from_residual-in_err-size.ensures.1 in
    rw p.1 (record { is = c.begin.ensures.stopped; cause = inr (inl (record { far = far; still = is_first c.args.self.now c.args.bytes.now c.loop-rest.rest.now (log_parts (g.D.Disk.story c.loop-rest.self-inside.made.value) (g.D.Disk.story c.loop-rest.self-inside.disk) c.loop-rest.self-inside.tail.gate c.loop-rest.self-inside.tail.stopped (g.D.Disk.faults c.loop-rest.self-inside.disk) c.loop-rest.self-inside.tail.refused) c.loop-rest.invariant some; refused = record { faults = c.loop-rest.invariant.faults; refused = c.in_err-size.ensures.err.1 ∙ ap (λ (n : ℕ). next_count n) c.loop-rest.invariant.refused } })) })

pub shared_ref_as_front-write_safely : goal.shared_ref_as_front-write_safely
shared_ref_as_front-write_safely g c =
    omega (arith, c.in_ok-size.ensures.ok.0, ap (λ (x : List ℕ). length x) c.first_piece.ensures.piece, length-piece c.loop-rest.rest.now)

pub write_safely-requires : goal.write_safely-requires
write_safely-requires g c =
    let given : List (List ℕ) = c.loop-rest.invariant.is_log.given ++ c.loop-rest.invariant.done in
    let is : Stands given c.loop-rest.self-inside.tail.gate (g.D.Disk.story c.loop-rest.self-inside.made.value) (g.D.Disk.story c.loop-rest.self-inside.disk)
    = stands given (c.loop-rest.invariant.is_log.answered + length c.loop-rest.invariant.done) (log_parts (g.D.Disk.story c.loop-rest.self-inside.made.value) (g.D.Disk.story c.loop-rest.self-inside.disk) c.loop-rest.self-inside.tail.gate c.loop-rest.self-inside.tail.stopped (g.D.Disk.faults c.loop-rest.self-inside.disk) c.loop-rest.self-inside.tail.refused) (c.loop-rest.invariant.keeps c.loop-rest.invariant.is_log.given c.loop-rest.invariant.is_log.answered c.loop-rest.invariant.is_log.keeps) c.loop-rest.invariant.going in
    rw c.begin.ensures.gate (first_fits given c.loop-rest.self-inside.tail.gate (g.D.Disk.story c.loop-rest.self-inside.made.value) (g.D.Disk.story c.loop-rest.self-inside.disk) is)

pub invariant_of-self-in_err-write_safely : goal.invariant_of-self-in_err-write_safely
invariant_of-self-in_err-write_safely g c =
    let some : 0 < length c.loop-rest.rest.now = is_some (length c.loop-rest.rest.now) c.is_empty.result c.is_empty.ensures c.loop-rest-test.true in
    let small : c.begin.new.self.gate < 2 ^ 32 = omega (arith, c.begin.ensures.gate, c.loop-rest.invariant.small) in
    let bytes_are : take c.in_ok-size.size c.begin.new.self.buffer ≡ behind_of (take 256 c.loop-rest.rest.now) = c.in_ok-size.ensures.ok.1 ∙ ap (λ (x : List ℕ). behind_of x) c.first_piece.ensures.piece in
    let same_gate : c.begin.new.self.gate ≡ c.loop-rest.self-inside.tail.gate = c.begin.ensures.gate in
    let wrote : Goes (HalfWroteSafely (c.begin.new.self.gate + 1) (take c.in_ok-size.size c.begin.new.self.buffer)) (g.D.Disk.story c.loop-rest.self-inside.disk) (g.D.Disk.story c.write_safely.new.self) = c.in_err-write_safely.ensures.part in
    let half : Goes (HalfWroteSafely (c.loop-rest.self-inside.tail.gate + 1) (behind_of (take 256 c.loop-rest.rest.now))) (g.D.Disk.story c.loop-rest.self-inside.disk) (g.D.Disk.story c.write_safely.new.self)
    = subst (λ (n : ℕ). Goes (HalfWroteSafely (n + 1) (behind_of (take 256 c.loop-rest.rest.now))) (g.D.Disk.story c.loop-rest.self-inside.disk) (g.D.Disk.story c.write_safely.new.self)) same_gate
    (subst (λ (x : List ℕ). Goes (HalfWroteSafely (c.begin.new.self.gate + 1) x) (g.D.Disk.story c.loop-rest.self-inside.disk) (g.D.Disk.story c.write_safely.new.self)) bytes_are wrote) in
    let kept : KeepsSome c.args.bytes.now c.args.self.now (log_parts (g.D.Disk.story c.loop-rest.self-inside.made.value) (g.D.Disk.story c.write_safely.new.self) c.begin.new.self.gate c.begin.new.self.stopped (g.D.Disk.faults c.write_safely.new.self) c.begin.new.self.refused) = breaks c.args.self.now c.args.bytes.now c.loop-rest.rest.now (log_parts (g.D.Disk.story c.loop-rest.self-inside.made.value) (g.D.Disk.story c.loop-rest.self-inside.disk) c.loop-rest.self-inside.tail.gate c.loop-rest.self-inside.tail.stopped (g.D.Disk.faults c.loop-rest.self-inside.disk) c.loop-rest.self-inside.tail.refused) c.loop-rest.invariant (log_parts (g.D.Disk.story c.loop-rest.self-inside.made.value) (g.D.Disk.story c.write_safely.new.self) c.begin.new.self.gate c.begin.new.self.stopped (g.D.Disk.faults c.write_safely.new.self) c.begin.new.self.refused) some c.begin.ensures.stopped
    (λ given is. first_broken given (take 256 c.loop-rest.rest.now) c.loop-rest.self-inside.tail.gate (g.D.Disk.story c.loop-rest.self-inside.made.value) (g.D.Disk.story c.loop-rest.self-inside.disk) (g.D.Disk.story c.write_safely.new.self) (piece_short c.loop-rest.rest.now) is half) in
    some_log c.args.self.now c.args.bytes.now c.loop-rest.rest.now (log_parts (g.D.Disk.story c.loop-rest.self-inside.made.value) (g.D.Disk.story c.loop-rest.self-inside.disk) c.loop-rest.self-inside.tail.gate c.loop-rest.self-inside.tail.stopped (g.D.Disk.faults c.loop-rest.self-inside.disk) c.loop-rest.self-inside.tail.refused) c.loop-rest.invariant (log_parts (g.D.Disk.story c.loop-rest.self-inside.made.value) (g.D.Disk.story c.write_safely.new.self) c.begin.new.self.gate c.begin.new.self.stopped (g.D.Disk.faults c.write_safely.new.self) c.begin.new.self.refused) small kept

pub returns-in_err-write_safely-clause-keeps_some : goal.returns-in_err-write_safely-clause-keeps_some
returns-in_err-write_safely-clause-keeps_some g c =
    let some : 0 < length c.loop-rest.rest.now = is_some (length c.loop-rest.rest.now) c.is_empty.result c.is_empty.ensures c.loop-rest-test.true in
    let bytes_are : take c.in_ok-size.size c.begin.new.self.buffer ≡ behind_of (take 256 c.loop-rest.rest.now) = c.in_ok-size.ensures.ok.1 ∙ ap (λ (x : List ℕ). behind_of x) c.first_piece.ensures.piece in
    let same_gate : c.begin.new.self.gate ≡ c.loop-rest.self-inside.tail.gate = c.begin.ensures.gate in
    let wrote : Goes (HalfWroteSafely (c.begin.new.self.gate + 1) (take c.in_ok-size.size c.begin.new.self.buffer)) (g.D.Disk.story c.loop-rest.self-inside.disk) (g.D.Disk.story c.write_safely.new.self) = c.in_err-write_safely.ensures.part in
    let half : Goes (HalfWroteSafely (c.loop-rest.self-inside.tail.gate + 1) (behind_of (take 256 c.loop-rest.rest.now))) (g.D.Disk.story c.loop-rest.self-inside.disk) (g.D.Disk.story c.write_safely.new.self)
    = subst (λ (n : ℕ). Goes (HalfWroteSafely (n + 1) (behind_of (take 256 c.loop-rest.rest.now))) (g.D.Disk.story c.loop-rest.self-inside.disk) (g.D.Disk.story c.write_safely.new.self)) same_gate
    (subst (λ (x : List ℕ). Goes (HalfWroteSafely (c.begin.new.self.gate + 1) x) (g.D.Disk.story c.loop-rest.self-inside.disk) (g.D.Disk.story c.write_safely.new.self)) bytes_are wrote) in
    let kept : KeepsSome c.args.bytes.now c.args.self.now (log_parts (g.D.Disk.story c.loop-rest.self-inside.made.value) (g.D.Disk.story c.write_safely.new.self) c.begin.new.self.gate c.begin.new.self.stopped (g.D.Disk.faults c.write_safely.new.self) c.begin.new.self.refused) = breaks c.args.self.now c.args.bytes.now c.loop-rest.rest.now (log_parts (g.D.Disk.story c.loop-rest.self-inside.made.value) (g.D.Disk.story c.loop-rest.self-inside.disk) c.loop-rest.self-inside.tail.gate c.loop-rest.self-inside.tail.stopped (g.D.Disk.faults c.loop-rest.self-inside.disk) c.loop-rest.self-inside.tail.refused) c.loop-rest.invariant (log_parts (g.D.Disk.story c.loop-rest.self-inside.made.value) (g.D.Disk.story c.write_safely.new.self) c.begin.new.self.gate c.begin.new.self.stopped (g.D.Disk.faults c.write_safely.new.self) c.begin.new.self.refused) some c.begin.ensures.stopped
    (λ given is. first_broken given (take 256 c.loop-rest.rest.now) c.loop-rest.self-inside.tail.gate (g.D.Disk.story c.loop-rest.self-inside.made.value) (g.D.Disk.story c.loop-rest.self-inside.disk) (g.D.Disk.story c.write_safely.new.self) (piece_short c.loop-rest.rest.now) is half) in
    let p = err_from_is_err_and c.from_residual-in_err-write_safely.result c.from_residual-in_err-write_safely.ensures.1 in
    rw p.1 kept

pub write_safely-requires-in-loop-rest : goal.write_safely-requires-in-loop-rest
write_safely-requires-in-loop-rest g c =
    let given : List (List ℕ) = c.loop-rest.invariant.is_log.given ++ c.loop-rest.invariant.done in
    let is : Stands given c.loop-rest.self-inside.tail.gate (g.D.Disk.story c.loop-rest.self-inside.made.value) (g.D.Disk.story c.loop-rest.self-inside.disk)
    = stands given (c.loop-rest.invariant.is_log.answered + length c.loop-rest.invariant.done) (log_parts (g.D.Disk.story c.loop-rest.self-inside.made.value) (g.D.Disk.story c.loop-rest.self-inside.disk) c.loop-rest.self-inside.tail.gate c.loop-rest.self-inside.tail.stopped (g.D.Disk.faults c.loop-rest.self-inside.disk) c.loop-rest.self-inside.tail.refused) (c.loop-rest.invariant.keeps c.loop-rest.invariant.is_log.given c.loop-rest.invariant.is_log.answered c.loop-rest.invariant.is_log.keeps) c.loop-rest.invariant.going in
    let bytes_are : take c.in_ok-size.size c.begin.new.self.buffer ≡ behind_of (take 256 c.loop-rest.rest.now) = c.in_ok-size.ensures.ok.1 ∙ ap (λ (x : List ℕ). behind_of x) c.first_piece.ensures.piece in
    let same_gate : c.begin.new.self.gate ≡ c.loop-rest.self-inside.tail.gate = c.begin.ensures.gate in
    let wrote : Goes (λ b a. a ≡ wrote_safely (c.begin.new.self.gate + 1) (take c.in_ok-size.size c.begin.new.self.buffer) b) (g.D.Disk.story c.loop-rest.self-inside.disk) (g.D.Disk.story c.write_safely.new.self) = c.in_ok-write_safely.ensures.done in
    let first_wrote : Goes (λ b a. a ≡ wrote_safely (c.loop-rest.self-inside.tail.gate + 1) (behind_of (take 256 c.loop-rest.rest.now)) b) (g.D.Disk.story c.loop-rest.self-inside.disk) (g.D.Disk.story c.write_safely.new.self)
    = subst (λ (n : ℕ). Goes (λ b a. a ≡ wrote_safely (n + 1) (behind_of (take 256 c.loop-rest.rest.now)) b) (g.D.Disk.story c.loop-rest.self-inside.disk) (g.D.Disk.story c.write_safely.new.self)) same_gate
    (subst (λ (x : List ℕ). Goes (λ b a. a ≡ wrote_safely (c.begin.new.self.gate + 1) x b) (g.D.Disk.story c.loop-rest.self-inside.disk) (g.D.Disk.story c.write_safely.new.self)) bytes_are wrote) in
    let fits : IfSome (g.D.Disk.story c.write_safely.new.self) (λ s. c.loop-rest.self-inside.tail.gate ≤ length s.now.reads)
    = second_fits given (take 256 c.loop-rest.rest.now) c.loop-rest.self-inside.tail.gate (g.D.Disk.story c.loop-rest.self-inside.made.value) (g.D.Disk.story c.write_safely.new.self)
    (staged_told given (take 256 c.loop-rest.rest.now) c.loop-rest.self-inside.tail.gate (g.D.Disk.story c.loop-rest.self-inside.made.value) (g.D.Disk.story c.loop-rest.self-inside.disk) (g.D.Disk.story c.write_safely.new.self) (piece_short c.loop-rest.rest.now) is first_wrote) in
    subst (λ (n : ℕ). IfSome (g.D.Disk.story c.write_safely.new.self) (λ s. n ≤ length s.now.reads)) (sym same_gate) fits

pub invariant_of-self-in_err-write_safely-2 : goal.invariant_of-self-in_err-write_safely-2
invariant_of-self-in_err-write_safely-2 g c =
    let some : 0 < length c.loop-rest.rest.now = is_some (length c.loop-rest.rest.now) c.is_empty.result c.is_empty.ensures c.loop-rest-test.true in
    let small : c.begin.new.self.gate < 2 ^ 32 = omega (arith, c.begin.ensures.gate, c.loop-rest.invariant.small) in
    let bytes_are : take c.in_ok-size.size c.begin.new.self.buffer ≡ behind_of (take 256 c.loop-rest.rest.now) = c.in_ok-size.ensures.ok.1 ∙ ap (λ (x : List ℕ). behind_of x) c.first_piece.ensures.piece in
    let same_gate : c.begin.new.self.gate ≡ c.loop-rest.self-inside.tail.gate = c.begin.ensures.gate in
    let wrote : Goes (λ b a. a ≡ wrote_safely (c.begin.new.self.gate + 1) (take c.in_ok-size.size c.begin.new.self.buffer) b) (g.D.Disk.story c.loop-rest.self-inside.disk) (g.D.Disk.story c.write_safely.new.self) = c.in_ok-write_safely.ensures.done in
    let first_wrote : Goes (λ b a. a ≡ wrote_safely (c.loop-rest.self-inside.tail.gate + 1) (behind_of (take 256 c.loop-rest.rest.now)) b) (g.D.Disk.story c.loop-rest.self-inside.disk) (g.D.Disk.story c.write_safely.new.self)
    = subst (λ (n : ℕ). Goes (λ b a. a ≡ wrote_safely (n + 1) (behind_of (take 256 c.loop-rest.rest.now)) b) (g.D.Disk.story c.loop-rest.self-inside.disk) (g.D.Disk.story c.write_safely.new.self)) same_gate
    (subst (λ (x : List ℕ). Goes (λ b a. a ≡ wrote_safely (c.begin.new.self.gate + 1) x b) (g.D.Disk.story c.loop-rest.self-inside.disk) (g.D.Disk.story c.write_safely.new.self)) bytes_are wrote) in
    let wrote_2 : Goes (HalfWroteSafely c.begin.new.self.gate (1 ∷ [])) (g.D.Disk.story c.write_safely.new.self) (g.D.Disk.story c.write_safely-in-loop-rest.new.self) = c.in_err-write_safely-2.ensures.part in
    let half : Goes (HalfWroteSafely c.loop-rest.self-inside.tail.gate (1 ∷ [])) (g.D.Disk.story c.write_safely.new.self) (g.D.Disk.story c.write_safely-in-loop-rest.new.self)
    = subst (λ (n : ℕ). Goes (HalfWroteSafely n (1 ∷ [])) (g.D.Disk.story c.write_safely.new.self) (g.D.Disk.story c.write_safely-in-loop-rest.new.self)) same_gate wrote_2 in
    let kept : KeepsSome c.args.bytes.now c.args.self.now (log_parts (g.D.Disk.story c.loop-rest.self-inside.made.value) (g.D.Disk.story c.write_safely-in-loop-rest.new.self) c.begin.new.self.gate c.begin.new.self.stopped (g.D.Disk.faults c.write_safely-in-loop-rest.new.self) c.begin.new.self.refused) = breaks c.args.self.now c.args.bytes.now c.loop-rest.rest.now (log_parts (g.D.Disk.story c.loop-rest.self-inside.made.value) (g.D.Disk.story c.loop-rest.self-inside.disk) c.loop-rest.self-inside.tail.gate c.loop-rest.self-inside.tail.stopped (g.D.Disk.faults c.loop-rest.self-inside.disk) c.loop-rest.self-inside.tail.refused) c.loop-rest.invariant (log_parts (g.D.Disk.story c.loop-rest.self-inside.made.value) (g.D.Disk.story c.write_safely-in-loop-rest.new.self) c.begin.new.self.gate c.begin.new.self.stopped (g.D.Disk.faults c.write_safely-in-loop-rest.new.self) c.begin.new.self.refused) some c.begin.ensures.stopped
    (λ given is. second_broken given (take 256 c.loop-rest.rest.now) c.loop-rest.self-inside.tail.gate (g.D.Disk.story c.loop-rest.self-inside.made.value) (g.D.Disk.story c.write_safely.new.self) (g.D.Disk.story c.write_safely-in-loop-rest.new.self)
    (staged_told given (take 256 c.loop-rest.rest.now) c.loop-rest.self-inside.tail.gate (g.D.Disk.story c.loop-rest.self-inside.made.value) (g.D.Disk.story c.loop-rest.self-inside.disk) (g.D.Disk.story c.write_safely.new.self) (piece_short c.loop-rest.rest.now) is first_wrote) half) in
    some_log c.args.self.now c.args.bytes.now c.loop-rest.rest.now (log_parts (g.D.Disk.story c.loop-rest.self-inside.made.value) (g.D.Disk.story c.loop-rest.self-inside.disk) c.loop-rest.self-inside.tail.gate c.loop-rest.self-inside.tail.stopped (g.D.Disk.faults c.loop-rest.self-inside.disk) c.loop-rest.self-inside.tail.refused) c.loop-rest.invariant (log_parts (g.D.Disk.story c.loop-rest.self-inside.made.value) (g.D.Disk.story c.write_safely-in-loop-rest.new.self) c.begin.new.self.gate c.begin.new.self.stopped (g.D.Disk.faults c.write_safely-in-loop-rest.new.self) c.begin.new.self.refused) small kept

pub returns-in_err-write_safely-2-clause-keeps_some : goal.returns-in_err-write_safely-2-clause-keeps_some
returns-in_err-write_safely-2-clause-keeps_some g c =
    let some : 0 < length c.loop-rest.rest.now = is_some (length c.loop-rest.rest.now) c.is_empty.result c.is_empty.ensures c.loop-rest-test.true in
    let bytes_are : take c.in_ok-size.size c.begin.new.self.buffer ≡ behind_of (take 256 c.loop-rest.rest.now) = c.in_ok-size.ensures.ok.1 ∙ ap (λ (x : List ℕ). behind_of x) c.first_piece.ensures.piece in
    let same_gate : c.begin.new.self.gate ≡ c.loop-rest.self-inside.tail.gate = c.begin.ensures.gate in
    let wrote : Goes (λ b a. a ≡ wrote_safely (c.begin.new.self.gate + 1) (take c.in_ok-size.size c.begin.new.self.buffer) b) (g.D.Disk.story c.loop-rest.self-inside.disk) (g.D.Disk.story c.write_safely.new.self) = c.in_ok-write_safely.ensures.done in
    let first_wrote : Goes (λ b a. a ≡ wrote_safely (c.loop-rest.self-inside.tail.gate + 1) (behind_of (take 256 c.loop-rest.rest.now)) b) (g.D.Disk.story c.loop-rest.self-inside.disk) (g.D.Disk.story c.write_safely.new.self)
    = subst (λ (n : ℕ). Goes (λ b a. a ≡ wrote_safely (n + 1) (behind_of (take 256 c.loop-rest.rest.now)) b) (g.D.Disk.story c.loop-rest.self-inside.disk) (g.D.Disk.story c.write_safely.new.self)) same_gate
    (subst (λ (x : List ℕ). Goes (λ b a. a ≡ wrote_safely (c.begin.new.self.gate + 1) x b) (g.D.Disk.story c.loop-rest.self-inside.disk) (g.D.Disk.story c.write_safely.new.self)) bytes_are wrote) in
    let wrote_2 : Goes (HalfWroteSafely c.begin.new.self.gate (1 ∷ [])) (g.D.Disk.story c.write_safely.new.self) (g.D.Disk.story c.write_safely-in-loop-rest.new.self) = c.in_err-write_safely-2.ensures.part in
    let half : Goes (HalfWroteSafely c.loop-rest.self-inside.tail.gate (1 ∷ [])) (g.D.Disk.story c.write_safely.new.self) (g.D.Disk.story c.write_safely-in-loop-rest.new.self)
    = subst (λ (n : ℕ). Goes (HalfWroteSafely n (1 ∷ [])) (g.D.Disk.story c.write_safely.new.self) (g.D.Disk.story c.write_safely-in-loop-rest.new.self)) same_gate wrote_2 in
    let kept : KeepsSome c.args.bytes.now c.args.self.now (log_parts (g.D.Disk.story c.loop-rest.self-inside.made.value) (g.D.Disk.story c.write_safely-in-loop-rest.new.self) c.begin.new.self.gate c.begin.new.self.stopped (g.D.Disk.faults c.write_safely-in-loop-rest.new.self) c.begin.new.self.refused) = breaks c.args.self.now c.args.bytes.now c.loop-rest.rest.now (log_parts (g.D.Disk.story c.loop-rest.self-inside.made.value) (g.D.Disk.story c.loop-rest.self-inside.disk) c.loop-rest.self-inside.tail.gate c.loop-rest.self-inside.tail.stopped (g.D.Disk.faults c.loop-rest.self-inside.disk) c.loop-rest.self-inside.tail.refused) c.loop-rest.invariant (log_parts (g.D.Disk.story c.loop-rest.self-inside.made.value) (g.D.Disk.story c.write_safely-in-loop-rest.new.self) c.begin.new.self.gate c.begin.new.self.stopped (g.D.Disk.faults c.write_safely-in-loop-rest.new.self) c.begin.new.self.refused) some c.begin.ensures.stopped
    (λ given is. second_broken given (take 256 c.loop-rest.rest.now) c.loop-rest.self-inside.tail.gate (g.D.Disk.story c.loop-rest.self-inside.made.value) (g.D.Disk.story c.write_safely.new.self) (g.D.Disk.story c.write_safely-in-loop-rest.new.self)
    (staged_told given (take 256 c.loop-rest.rest.now) c.loop-rest.self-inside.tail.gate (g.D.Disk.story c.loop-rest.self-inside.made.value) (g.D.Disk.story c.loop-rest.self-inside.disk) (g.D.Disk.story c.write_safely.new.self) (piece_short c.loop-rest.rest.now) is first_wrote) half) in
    let p = err_from_is_err_and c.from_residual-in_err-write_safely-2.result c.from_residual-in_err-write_safely-2.ensures.1 in
    rw p.1 kept

pub loop-rest-smaller : goal.loop-rest-smaller
loop-rest-smaller g c =
    let some : 0 < length c.loop-rest.rest.now = is_some (length c.loop-rest.rest.now) c.is_empty.result c.is_empty.ensures c.loop-rest-test.true in
    omega (arith, ap (λ (x : List ℕ). length x) c.first_piece.ensures.rest, length-drop 256 c.loop-rest.rest.now)

pub loop-rest-preserved : goal.loop-rest-preserved
loop-rest-preserved g c =
    let some : 0 < length c.loop-rest.rest.now = is_some (length c.loop-rest.rest.now) c.is_empty.result c.is_empty.ensures c.loop-rest-test.true in
    let bytes_are : take c.in_ok-size.size c.begin.new.self.buffer ≡ behind_of (take 256 c.loop-rest.rest.now) = c.in_ok-size.ensures.ok.1 ∙ ap (λ (x : List ℕ). behind_of x) c.first_piece.ensures.piece in
    let same_gate : c.begin.new.self.gate ≡ c.loop-rest.self-inside.tail.gate = c.begin.ensures.gate in
    let wrote : Goes (λ b a. a ≡ wrote_safely (c.begin.new.self.gate + 1) (take c.in_ok-size.size c.begin.new.self.buffer) b) (g.D.Disk.story c.loop-rest.self-inside.disk) (g.D.Disk.story c.write_safely.new.self) = c.in_ok-write_safely.ensures.done in
    let first_wrote : Goes (λ b a. a ≡ wrote_safely (c.loop-rest.self-inside.tail.gate + 1) (behind_of (take 256 c.loop-rest.rest.now)) b) (g.D.Disk.story c.loop-rest.self-inside.disk) (g.D.Disk.story c.write_safely.new.self)
    = subst (λ (n : ℕ). Goes (λ b a. a ≡ wrote_safely (n + 1) (behind_of (take 256 c.loop-rest.rest.now)) b) (g.D.Disk.story c.loop-rest.self-inside.disk) (g.D.Disk.story c.write_safely.new.self)) same_gate
    (subst (λ (x : List ℕ). Goes (λ b a. a ≡ wrote_safely (c.begin.new.self.gate + 1) x b) (g.D.Disk.story c.loop-rest.self-inside.disk) (g.D.Disk.story c.write_safely.new.self)) bytes_are wrote) in
    let opened : Goes (λ b a. a ≡ wrote_safely c.begin.new.self.gate (1 ∷ []) b) (g.D.Disk.story c.write_safely.new.self) (g.D.Disk.story c.write_safely-in-loop-rest.new.self) = c.in_ok-write_safely-2.ensures.done in
    let second_wrote : Goes (λ b a. a ≡ wrote_safely c.loop-rest.self-inside.tail.gate (1 ∷ []) b) (g.D.Disk.story c.write_safely.new.self) (g.D.Disk.story c.write_safely-in-loop-rest.new.self)
    = subst (λ (n : ℕ). Goes (λ b a. a ≡ wrote_safely n (1 ∷ []) b) (g.D.Disk.story c.write_safely.new.self) (g.D.Disk.story c.write_safely-in-loop-rest.new.self)) same_gate opened in
    let size : length c.first_piece.result.0.now ≡ length (take 256 c.loop-rest.rest.now) = ap (λ (x : List ℕ). length x) c.first_piece.ensures.piece in
    rw c.first_piece.ensures.rest (advances c.args.self.now c.args.bytes.now c.loop-rest.rest.now (log_parts (g.D.Disk.story c.loop-rest.self-inside.made.value) (g.D.Disk.story c.loop-rest.self-inside.disk) c.loop-rest.self-inside.tail.gate c.loop-rest.self-inside.tail.stopped (g.D.Disk.faults c.loop-rest.self-inside.disk) c.loop-rest.self-inside.tail.refused) c.loop-rest.invariant (g.D.Disk.story c.write_safely.new.self) (log_parts (g.D.Disk.story c.loop-rest.self-inside.made.value) (g.D.Disk.story c.write_safely-in-loop-rest.new.self) c.finish.new.self.gate c.finish.new.self.stopped (g.D.Disk.faults c.write_safely-in-loop-rest.new.self) c.finish.new.self.refused) some first_wrote second_wrote refl
    (omega (arith, c.finish.ensures.gate, same_gate, c.in_ok-size.ensures.ok.0, size)) c.finish.ensures.stopped (c.in_ok-write_safely-2.ensures.counts ∙ c.in_ok-write_safely.ensures.counts) (c.finish.ensures.refused ∙ c.in_ok-size.ensures.fits.1)
    (omega (arith, c.in_ok-size.ensures.fits.0, size)))

pub returns-clause-ok : goal.returns-clause-ok
returns-clause-ok g c =
    let none : length c.loop-rest.rest.now ≡ 0 = is_none (length c.loop-rest.rest.now) c.is_empty.result c.is_empty.ensures c.loop-rest-test.false in
    gains_at_end c.args.self.now c.args.bytes.now c.loop-rest.rest.now (log_parts (g.D.Disk.story c.loop-rest.self-inside.made.value) (g.D.Disk.story c.loop-rest.self-inside.disk) c.loop-rest.self-inside.tail.gate c.loop-rest.self-inside.tail.stopped (g.D.Disk.faults c.loop-rest.self-inside.disk) c.loop-rest.self-inside.tail.refused) c.loop-rest.invariant none

pub returns-clause-keeps_all : goal.returns-clause-keeps_all
returns-clause-keeps_all g c =
    let none : length c.loop-rest.rest.now ≡ 0 = is_none (length c.loop-rest.rest.now) c.is_empty.result c.is_empty.ensures c.loop-rest-test.false in
    keeps_at_end c.args.self.now c.args.bytes.now c.loop-rest.rest.now (log_parts (g.D.Disk.story c.loop-rest.self-inside.made.value) (g.D.Disk.story c.loop-rest.self-inside.disk) c.loop-rest.self-inside.tail.gate c.loop-rest.self-inside.tail.stopped (g.D.Disk.faults c.loop-rest.self-inside.disk) c.loop-rest.self-inside.tail.refused) c.loop-rest.invariant none
