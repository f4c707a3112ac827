use Rattle.std.proofs.Common.{length, refl, ap, ◌∙◌, arith, subst, Ok, Err}
use Rattle.child_protocol.specs.Cores.{WhereAsked}
use Rattle.child_protocol.specs.Places.{IsAsked}
use Rattle.child_protocol.specs.Stands.{role_in, stands_for}
use Rattle.child_protocol.specs.Runs.{Hears}
use Rattle.child_protocol.specs.declared.turn.Turn.{Turn}
use Rattle.child_protocol.specs.declared.run.ChildEnd.{ChildEnd}
use Rattle.child_protocol.proofs.Runs.{Rose-within, counted, TookBy, begun, done, ended_waiting, fault_sending, goes_on, spent, unreadable, waits}
use Rattle.child_protocol.proofs.run.run_child.Goals as goal

pub loop-turn-init : goal.loop-turn-init
loop-turn-init g c =
    record {
      running = begun (role_in c.args.core.now) c.args.core.now.session (stands_for c.begin-len.new.self) c.begin-len.result c.args.out.now c.begin-len.new.out c.args.reader.now.bytes (g.E.Stream.link c.args.link.now) c.requires.empty c.begin-len.ensures.stands c.begin-len.ensures.begun;
      asked = c.begin-len.ensures.asked;
      role = c.begin-len.ensures.role;
      session = c.begin-len.ensures.session;
      width = c.requires.width;
      max = c.requires.max;
      within = omega (arith, ap length c.requires.empty);
      room = omega (arith, c.requires.room, c.begin-len.auto.out);
      faults = omega arith;
      link_role = refl;
    }

pub slice_bounds-send-end : goal.slice_bounds-send-end
slice_bounds-send-end g c =
    c.loop-turn.invariant.running.within

pub returns-in_default-clause-run : goal.returns-in_default-clause-run
returns-in_default-clause-run g c =
    fault_sending (role_in c.args.core.now) c.args.core.now.session (stands_for c.loop-turn.core) c.loop-turn._turn c.loop-turn.len c.loop-turn.out c.loop-turn.reader.bytes (g.E.Stream.link c.args.link.now) (g.E.Stream.link c.loop-turn.link) (g.E.Stream.link c.send.new.self) c.loop-turn.invariant.running c.loop-turn.auto._turn-end c.in_default.ensures.part

pub returns-in_default-clause-fault : goal.returns-in_default-clause-fault
returns-in_default-clause-fault g c =
    λ e. Rose-within (g.E.Stream.faults c.args.link.now) (g.E.Stream.faults c.loop-turn.link) (g.E.Stream.faults c.send.new.self) (g.E.Stream.faults c.send.new.self) c.loop-turn.invariant.faults (counted (g.E.Stream.faults c.loop-turn.link) (g.E.Stream.faults c.send.new.self) c.in_default.ensures.counts) (omega arith)

pub hear-requires-clause-run : goal.hear-requires-clause-run
hear-requires-clause-run g c κs within =
    (c.loop-turn.invariant.running.answers, c.loop-turn.invariant.running.stands_for, omega (arith, c.loop-turn.invariant.running.counted, c.loop-turn-test.true))

pub returns-in-Ok-Ended-clause-run : goal.returns-in-Ok-Ended-clause-run
returns-in-Ok-Ended-clause-run g c =
    done (role_in c.args.core.now) (role_in c.loop-turn.core) c.args.core.now.session c.loop-turn.core.session (stands_for c.loop-turn.core) (stands_for c.hear.new.core) c.loop-turn._turn c.in-Ok-Ended.ensures.hears.0 c.hear.new.reader.bytes c.loop-turn.out c.hear.new.out (g.E.Stream.link c.args.link.now) (g.E.Stream.link c.hear.new.link)
    (waits (role_in c.args.core.now) c.args.core.now.session (stands_for c.loop-turn.core) c.loop-turn._turn c.loop-turn.len c.loop-turn.out c.loop-turn.reader.bytes c.in-Ok-Ended.ensures.hears.0 (g.E.Stream.link c.args.link.now) (g.E.Stream.link c.loop-turn.link) (g.E.Stream.link c.send.new.self) (g.E.Stream.link c.hear.new.link) c.loop-turn.invariant.running c.in-Ok.ensures.ok c.in-Ok-Ended.ensures.hears.1) c.loop-turn.invariant.role c.loop-turn.invariant.session c.loop-turn-test.true (subst (λ (t : Turn). Hears (Ok t) (TookBy (role_in c.loop-turn.core) c.loop-turn.core.session (stands_for c.loop-turn.core) (stands_for c.hear.new.core) c.loop-turn.out c.hear.new.out) c.in-Ok-Ended.ensures.hears.0 c.hear.new.reader.bytes (g.E.Stream.link c.hear.new.link)) c.in-Ok-Ended.field-0-is c.in-Ok-Ended.ensures.hears.2)

pub returns-in-Ok-Unreadable-clause-run : goal.returns-in-Ok-Unreadable-clause-run
returns-in-Ok-Unreadable-clause-run g c =
    unreadable (role_in c.args.core.now) (role_in c.loop-turn.core) c.args.core.now.session c.loop-turn.core.session (stands_for c.loop-turn.core) (stands_for c.hear.new.core) c.loop-turn._turn c.in-Ok-Unreadable.ensures.hears.0 c.hear.new.reader.bytes c.loop-turn.out c.hear.new.out (g.E.Stream.link c.args.link.now) (g.E.Stream.link c.hear.new.link)
    (waits (role_in c.args.core.now) c.args.core.now.session (stands_for c.loop-turn.core) c.loop-turn._turn c.loop-turn.len c.loop-turn.out c.loop-turn.reader.bytes c.in-Ok-Unreadable.ensures.hears.0 (g.E.Stream.link c.args.link.now) (g.E.Stream.link c.loop-turn.link) (g.E.Stream.link c.send.new.self) (g.E.Stream.link c.hear.new.link) c.loop-turn.invariant.running c.in-Ok.ensures.ok c.in-Ok-Unreadable.ensures.hears.1) c.loop-turn.invariant.role c.loop-turn.invariant.session c.loop-turn.auto._turn-end (subst (λ (t : Turn). Hears (Ok t) (TookBy (role_in c.loop-turn.core) c.loop-turn.core.session (stands_for c.loop-turn.core) (stands_for c.hear.new.core) c.loop-turn.out c.hear.new.out) c.in-Ok-Unreadable.ensures.hears.0 c.hear.new.reader.bytes (g.E.Stream.link c.hear.new.link)) c.in-Ok-Unreadable.field-0-is c.in-Ok-Unreadable.ensures.hears.2)

pub returns-in-Err-clause-run : goal.returns-in-Err-clause-run
returns-in-Err-clause-run g c =
    ended_waiting (role_in c.args.core.now) c.args.core.now.session (stands_for c.loop-turn.core) c.loop-turn._turn c.in-Err.ensures.hears.0 c.hear.new.reader.bytes (g.E.Stream.link c.args.link.now) (g.E.Stream.link c.hear.new.link) c.in-Err.end (TookBy (role_in c.loop-turn.core) c.loop-turn.core.session (stands_for c.loop-turn.core) (stands_for c.hear.new.core) c.loop-turn.out c.hear.new.out)
    (waits (role_in c.args.core.now) c.args.core.now.session (stands_for c.loop-turn.core) c.loop-turn._turn c.loop-turn.len c.loop-turn.out c.loop-turn.reader.bytes c.in-Err.ensures.hears.0 (g.E.Stream.link c.args.link.now) (g.E.Stream.link c.loop-turn.link) (g.E.Stream.link c.send.new.self) (g.E.Stream.link c.hear.new.link) c.loop-turn.invariant.running c.in-Ok.ensures.ok c.in-Err.ensures.hears.1) c.loop-turn.auto._turn-end c.in-Err.ensures.hears.2

pub returns-in-Err-clause-fault : goal.returns-in-Err-clause-fault
returns-in-Err-clause-fault g c =
    λ e. Rose-within (g.E.Stream.faults c.args.link.now) (g.E.Stream.faults c.send.new.self) (g.E.Stream.faults c.hear.new.link) (g.E.Stream.faults c.hear.new.link) (omega (arith, c.loop-turn.invariant.faults, c.in-Ok.ensures.kept)) (c.in-Err.ensures.fault (ap (λ (x : ChildEnd). Err x) e)) (omega arith)

pub loop-turn-preserved : goal.loop-turn-preserved
loop-turn-preserved g c =
    record {
      running = goes_on (role_in c.args.core.now) (role_in c.loop-turn.core) c.args.core.now.session c.loop-turn.core.session (stands_for c.loop-turn.core) (stands_for c.hear.new.core) c.loop-turn._turn c.in-Ok-Asked.next c.in-Ok-Asked.ensures.hears.0 c.hear.new.reader.bytes c.loop-turn.out c.hear.new.out (g.E.Stream.link c.args.link.now) (g.E.Stream.link c.hear.new.link)
          (waits (role_in c.args.core.now) c.args.core.now.session (stands_for c.loop-turn.core) c.loop-turn._turn c.loop-turn.len c.loop-turn.out c.loop-turn.reader.bytes c.in-Ok-Asked.ensures.hears.0 (g.E.Stream.link c.args.link.now) (g.E.Stream.link c.loop-turn.link) (g.E.Stream.link c.send.new.self) (g.E.Stream.link c.hear.new.link) c.loop-turn.invariant.running c.in-Ok.ensures.ok c.in-Ok-Asked.ensures.hears.1) c.loop-turn.invariant.role c.loop-turn.invariant.session (subst (λ (t : Turn). Hears (Ok t) (TookBy (role_in c.loop-turn.core) c.loop-turn.core.session (stands_for c.loop-turn.core) (stands_for c.hear.new.core) c.loop-turn.out c.hear.new.out) c.in-Ok-Asked.ensures.hears.0 c.hear.new.reader.bytes (g.E.Stream.link c.hear.new.link)) c.in-Ok-Asked.field-0-is c.in-Ok-Asked.ensures.hears.2);
      asked = subst (λ (t : Turn). WhereAsked t (IsAsked c.hear.new.core.dialogue.place)) c.in-Ok-Asked.field-0-is c.in-Ok-Asked.ensures.asked;
      role = c.hear.ensures.role ∙ c.loop-turn.invariant.role;
      session = c.hear.ensures.session ∙ c.loop-turn.invariant.session;
      width = c.hear.ensures.width;
      max = c.hear.ensures.max;
      within = omega (arith, c.hear.ensures.within, c.hear.ensures.max);
      room = omega (arith, c.loop-turn.invariant.room, c.hear.auto.out);
      faults = omega (arith, c.loop-turn.invariant.faults, c.in-Ok.ensures.kept, c.hear.ensures.faults);
      link_role = c.hear.ensures.link_role ∙ c.in-Ok.ensures.role ∙ c.loop-turn.invariant.link_role;
    }

pub returns-clause-run : goal.returns-clause-run
returns-clause-run g c =
    spent (role_in c.args.core.now) c.args.core.now.session (stands_for c.loop-turn.core) c.loop-turn._turn c.loop-turn.len c.loop-turn.out c.loop-turn.reader.bytes (g.E.Stream.link c.args.link.now) (g.E.Stream.link c.loop-turn.link) c.loop-turn.invariant.running (omega (arith, c.loop-turn-test.false, c.loop-turn.auto._turn-end))
