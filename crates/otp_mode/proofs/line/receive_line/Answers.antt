use Rattle.std.proofs.Common.{◌≡◌, ◌+◌, ◌-◌, ◌≤◌, ◌++◌, [], Ok, ap, sym, ◌∙◌, arith, drop, length, length-append, length-drop, length-take, take}
use Rattle.std.specs.List.{list_any}
use Rattle.std.specs.Prelude.{◌==◌}
use Rattle.std.proofs.lemmas.Grind.{common_steps}
use Rattle.outside.proofs.Exchanges.{Exchanges-then}
use Rattle.otp_mode.proofs.Asking.{Asks-wider, asked-once}
use Rattle.otp_mode.proofs.LineLemmas.{newline-within, received-all, received-full, received-newline, take-joined}
use Rattle.otp_mode.proofs.line.receive_line.Goals as goal
use Rattle.otp_mode.proofs.line.receive_line.Goals.{then-n-eq0-via-then-n-eq0, then-n-eq0-via-else-n-eq0+then-contains}

-- what was received joins what stands before it in the buffer
pub loop-filled-preserved : goal.loop-filled-preserved
loop-filled-preserved g c =
    let link = g.E.Stream.link in
    let filled = c.loop-filled.filled in
    let n = c.in_ok-n.n in
    let buf = c.loop-filled.buf in
    let part = c.recv.new.buf in
    let held = c.loop-filled.invariant in
    let got = c.in_ok-n.ensures in
    let room : length part ≡ 4096 - filled = omega (arith, c.recv.auto.buf, length-take (4096 - filled) (drop filled buf), length-drop filled buf, held.3) in
    let rest = drop (4096 - filled) (drop filled buf) in
    let short : n ≤ length part = omega (arith, got.bound, c.recv.auto.buf) in
    let joined = take-joined filled n buf part rest (omega (arith, held.0, held.3)) short in
    let more : 1 ≤ n = omega (arith, c.if-n-eq0.false) in (
      omega (arith, held.0, short, room),
      rw joined (Exchanges-then (take filled buf) [] (take n part) [] (link c.args.ends.now) (link c.loop-filled.ends) (link c.recv.new.self) held.1 got.link),
      omega (arith, held.2, got.kept),
      grind (arith, common_steps),
      sym c.contains.ensures.value ∙ c.if-contains.false,
      Asks-wider (filled + 1) (filled + n) (omega (arith, more)) (link c.args.ends.now) (link c.recv.new.self) (asked-once filled buf (link c.args.ends.now) (link c.loop-filled.ends) (link c.recv.new.self) (omega (arith, held.0, held.3)) held.4 held.1 held.5 got.asked),
    )

-- one more receiving was asked, here or at the end
pub returns-in_err-n-clause-asked : goal.returns-in_err-n-clause-asked
returns-in_err-n-clause-asked g c =
    let link = g.E.Stream.link in
    let filled = c.loop-filled.filled in
    let held = c.loop-filled.invariant in
    Asks-wider (filled + 1) 4096 (omega (arith, c.loop-filled-test.true)) (link c.args.ends.now) (link c.recv.new.self) (asked-once filled c.loop-filled.buf (link c.args.ends.now) (link c.loop-filled.ends) (link c.recv.new.self) (omega (arith, held.0, held.3)) held.4 held.1 held.5 c.in_err-n.ensures.asked)

pub returns-then-n-eq0-clause-asked : goal.returns-then-n-eq0-clause-asked
returns-then-n-eq0-clause-asked g c =
    let link = g.E.Stream.link in
    let filled = c.loop-filled.filled in
    let held = c.loop-filled.invariant in
    Asks-wider (filled + 1) 4096 (omega (arith, c.loop-filled-test.true)) (link c.args.ends.now) (link c.recv.new.self) (asked-once filled c.loop-filled.buf (link c.args.ends.now) (link c.loop-filled.ends) (link c.recv.new.self) (omega (arith, held.0, held.3)) held.4 held.1 held.5 c.in_ok-n.ensures.asked)

-- the buffer is full
pub returns-after-loop-filled-clause-received : goal.returns-after-loop-filled-clause-received
returns-after-loop-filled-clause-received g c =
    let held = c.loop-filled.invariant in
    let got = take c.loop-filled.filled c.loop-filled.buf in
    let full : 4096 ≤ length got = omega (arith, c.loop-filled-test.false, held.3, length-take c.loop-filled.filled c.loop-filled.buf) in
    received-full got (g.E.Stream.link c.args.ends.now) (g.E.Stream.link c.loop-filled.ends) full (omega (arith, held.0, length-take c.loop-filled.filled c.loop-filled.buf)) held.1

-- the input has ended, or there is a newline
pub returns-then-n-eq0-clause-received : goal.returns-then-n-eq0-clause-received
returns-then-n-eq0-clause-received g c =
    let before = g.E.Stream.link c.args.ends.now in
    let after = g.E.Stream.link c.recv.new.self in
    let filled = c.loop-filled.filled in
    let n = c.in_ok-n.n in
    let buf = c.loop-filled.buf in
    let part = c.recv.new.buf in
    let held = c.loop-filled.invariant in
    let got = c.in_ok-n.ensures in
    let line = take filled buf ++ take n part in
    let rest = drop (4096 - filled) (drop filled buf) in
    let short : n ≤ length part = omega (arith, got.bound, c.recv.auto.buf) in
    let joined = take-joined filled n buf part rest (omega (arith, held.0, held.3)) short in
    let passed = Exchanges-then (take filled buf) [] (take n part) [] before (g.E.Stream.link c.loop-filled.ends) after held.1 got.link in
    let few : length line ≤ 4096 = omega (arith, held.0, held.3, got.bound, c.recv.auto.buf, length-take (4096 - filled) (drop filled buf), length-take filled buf, length-take n part, length-append (take filled buf) (take n part)) in
    rw joined (elim c.then-n-eq0.branch [
      | then-n-eq0-via-then-n-eq0 w ↦ received-all line before after (got.end (ap Ok w.if-n-eq0.true)) few passed
      | then-n-eq0-via-else-n-eq0+then-contains w ↦
          received-newline line before after (newline-within line (ap (λ bytes. list_any (λ c. c == 10) bytes) (sym joined) ∙ sym w.contains.ensures.value ∙ w.if-contains.true)) few passed
    ])
