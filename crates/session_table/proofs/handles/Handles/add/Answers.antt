use Rattle.std.proofs.Common.{◌≡◌, true, arith, subst, sym}
use Rattle.session_table.specs.Files.{AreHandles, is_free}
use Rattle.session_table.proofs.FileLemmas.{handles_push, room_for}
use Rattle.session_table.proofs.handles.Handles.add.Goals as goal

pub push-requires : goal.push-requires
push-requires c = (omega arith, room_for c.self.inside.live.items c.args.handle c.self.invariant c.requires.number.0 c.requires.number.1 (subst (λ live. is_free c.args.handle live ≡ true) (sym c.self.view_is) c.requires.free))

pub invariant_of-self : goal.invariant_of-self
invariant_of-self c =
    subst AreHandles (sym c.push.ensures.items) (handles_push c.self.inside.live.items (record { handle = c.args.handle; grant = c.args.grant; mode = c.args.mode }) c.self.invariant c.requires.number.0 c.requires.number.1 (subst (λ live. is_free c.args.handle live ≡ true) (sym c.self.view_is) c.requires.free))
