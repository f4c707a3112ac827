use Rattle.std.proofs.Common.{None, sym, ap, ◌∙◌}
use Rattle.std.specs.List.{last_or}
use Rattle.std.specs.Option.{option_to_list}
use Rattle.policy_model.specs.Logins.{replies_of, reply_for}
use Rattle.policy_model.proofs.Lists.{turn}
use Rattle.policy_model.proofs.LoginLemmas.{last_reply-push, replies_of-none}
use Rattle.policy_model.proofs.logins.last_reply.Goals as goal

pub loop-i-init : goal.loop-i-init
loop-i-init c = sym (ap (last_or None) (replies_of-none c.args.user.now))

pub loop-i-preserved : goal.loop-i-preserved
loop-i-preserved c =
    let user = c.args.user.now in
    c.last_after-last.ensures
    ∙ turn (λ j. last_or None (replies_of j user)) (λ j e last. last_or last (option_to_list (reply_for user (record { before = j; event = e })))) (last_reply-push user) c.args.journal.now c.loop-i.i c.index-journal-i.result c.index-journal-i.result c.loop-i.last c.loop-i-test.true c.index-journal-i.is c.loop-i.invariant
