use Rattle.std.proofs.Common.{drop}
use Rattle.std.specs.List.{AllByRecursion}
use Rattle.welcome_rows.specs.Met.{IsShippedTalk}
use Rattle.welcome_rows.proofs.shipped.are_shipped.Given as goal

abbrev pub invariant-loop-talk : goal.invariant-loop-talk
invariant-loop-talk l =
    AllByRecursion (IsShippedTalk (l.script.pre, l.script.user)) (drop l.talk-index l.talks)
    → AllByRecursion (IsShippedTalk (l.script.pre, l.script.user)) l.talks
