use Rattle.std.proofs.Common.{rules}
use Rattle.std.proofs.lemmas.List.Elements.{All-take}
use Rattle.outside_memory.specs.Blank.{IsRoomy}
use Rattle.outside_memory.proofs.BlankLemmas.{roomy_last}
use Rattle.outside_memory.proofs.blanks.Blanks.start.Goals as goal

pub invariant_of-self-2 : goal.invariant_of-self-2
invariant_of-self-2 c =
    (c.self.invariant.0, rw c.pop.ensures.rest (All-take (IsRoomy c.self.inside.cuts.items c.self.inside.size) _ _ c.self.invariant.1))

pub returns-clause-link : goal.returns-clause-link
returns-clause-link c =
    let roomy : IsRoomy c.self.inside.cuts.items c.self.inside.size c.in-Some.blank = roomy_last c.self.inside.cuts.items c.self.inside.size c.self.inside.blanks.items c.pop.new.self.items c.in-Some.blank c.in-Some.ensures.items c.self.invariant.1 in
    search (rules, roomy.same_input)

pub returns-clause-stock : goal.returns-clause-stock
returns-clause-stock c =
    let roomy : IsRoomy c.self.inside.cuts.items c.self.inside.size c.in-Some.blank = roomy_last c.self.inside.cuts.items c.self.inside.size c.self.inside.blanks.items c.pop.new.self.items c.in-Some.blank c.in-Some.ensures.items c.self.invariant.1 in
    search (rules, roomy.same_cuts, roomy.same_sent)
