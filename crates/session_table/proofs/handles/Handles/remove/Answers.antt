use Rattle.std.proofs.Common.{◌≡◌, ◌∙◌, ◌==◌, ap, not, rules, subst, sym}
use Rattle.arrayvec.proofs.ArrayVecLemmas.{filter-from_retain}
use Rattle.session_table.specs.declared.handles.LiveHandle.{LiveHandle}
use Rattle.session_table.specs.Files.{AreHandles, without}
use Rattle.session_table.proofs.FileLemmas.{handles_without}
use Rattle.session_table.proofs.handles.Handles.remove.Goals as goal

pub invariant_of-self : goal.invariant_of-self
invariant_of-self c =
    let items : c.retain.new.self.items ≡ without c.args.handle c.self.inside.live.items = filter-from_retain _ (λ (file : LiveHandle). not (file.handle == c.args.handle)) _ (λ x b f' y called. search rules) _ _ c.retain.ensures.filtered in
    subst AreHandles (sym items) (handles_without c.args.handle c.self.inside.live.items c.self.invariant)

pub returns : goal.returns
returns c =
    let items : c.retain.new.self.items ≡ without c.args.handle c.self.inside.live.items = filter-from_retain _ (λ (file : LiveHandle). not (file.handle == c.args.handle)) _ (λ x b f' y called. search rules) _ _ c.retain.ensures.filtered in
    items ∙ ap (without c.args.handle) c.self.view_is
