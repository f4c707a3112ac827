use Rattle.std.proofs.Common.{◌≡◌, ◌≤◌, ◌+◌, ℕ, Option, Some, None, length, sym, ap, ◌∙◌, arith}
use Rattle.std.specs.Option.{option_to_list}
use Rattle.policy_model.specs.Logins.{replies_of, reply_for}
use Rattle.policy_model.proofs.Lists.{turn}
use Rattle.policy_model.proofs.LoginLemmas.{count_replies-push, replies_of-none}
use Rattle.policy_model.proofs.logins.count_replies.Goals as goal

at_most_one : (o : Option ℕ) → length (option_to_list o) ≤ 1
at_most_one None = omega arith
at_most_one (Some x) = omega arith

pub loop-i-init : goal.loop-i-init
loop-i-init c = (sym (ap length (replies_of-none c.args.user.now)), omega arith)

pub loop-i-preserved : goal.loop-i-preserved
loop-i-preserved c =
    let user = c.args.user.now in (
      c.count_after-count.ensures
          ∙ turn (λ j. length (replies_of j user)) (λ j e count. count + length (option_to_list (reply_for user (record { before = j; event = e })))) (count_replies-push user) c.args.journal.now c.loop-i.i c.index-journal-i.result c.index-journal-i.result c.loop-i.count c.loop-i-test.true c.index-journal-i.is c.loop-i.invariant.0,
      omega (arith, c.count_after-count.ensures, at_most_one (reply_for user (record { before = Rattle.std.proofs.Common.take c.loop-i.i c.args.journal.now; event = c.index-journal-i.result })), c.loop-i.invariant.1),
    )
