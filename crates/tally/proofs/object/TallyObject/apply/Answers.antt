use Rattle.std.proofs.Common.{◌≡◌, ◌+◌, ◌∙◌, sym, ap, subst, ℕ, List, ◌++◌, ◌∷◌, [], length, length-append, arith, true}
use Rattle.turn_cell.specs.Facts.{IsWithin}
use Rattle.turn_cell.proofs.Counts.{room_for, within_more}
use Rattle.tally.specs.declared.object.Added.{Added}
use Rattle.tally.specs.Sums.{is_running, end_of}
use Rattle.tally.proofs.Running.{running_more, end_more}
use Rattle.tally.proofs.object.TallyObject.apply.Goals as goal

pub overflow_add-added : goal.overflow_add-added
overflow_add-added c =
    let t = c.args.self.now in
    let r : Added = record { owner = c.args.who; call = c.args.call; total = 0 } in
    let room = room_for (λ (x : Added). x.owner) t.passes t.quota t.log.items r t.within c.requires.who c.requires.quota in
    let most = t.running.2 in let fits = t.room.0 in omega arith

pub push_reserved-requires : goal.push_reserved-requires
push_reserved-requires c =
    let t = c.args.self.now in
    let r : Added = record { owner = c.args.who; call = c.args.call; total = 0 } in
    let room = room_for (λ (x : Added). x.owner) t.passes t.quota t.log.items r t.within c.requires.who c.requires.quota in
    let most = t.room.1 in omega arith

pub invariant_of-self : goal.invariant_of-self
invariant_of-self c =
    let t = c.args.self.now in
    let r : Added = record { owner = c.args.who; call = c.args.call; total = t.total + c.args.call } in
    let is : c.push_reserved.new.self.items ≡ t.log.items ++ r ∷ [] = c.push_reserved.ensures.items in record {
      room = (t.room.0, let a = c.push_reserved.ensures.capacity in let b = t.room.1 in omega arith);
      within = subst (λ (l : List Added). IsWithin (λ x. x.owner) t.passes t.quota l) (sym is) (within_more (λ (x : Added). x.owner) t.passes t.quota t.log.items r t.within c.requires.who c.requires.quota);
      running = (
        subst (λ (l : List Added). is_running 0 l ≡ true) (sym is) (running_more 0 t.log.items r t.running.0 (ap (λ (n : ℕ). n + c.args.call) (sym t.running.1))),
        ap (λ (l : List Added). end_of 0 l) is ∙ end_more 0 t.log.items r,
        let a = ap (λ (l : List Added). length l) is in let b = length-append t.log.items (r ∷ []) in let most = t.running.2 in omega arith,
      );
    }
