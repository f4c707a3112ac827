use Rattle.std.proofs.Common.{◌||◌, nat_eq, sym, ap, ◌∙◌}
use Rattle.std.specs.List.{list_any}
use Rattle.std.specs.Option.{option_to_list}
use Rattle.policy_model.specs.Logins.{replies_of, reply_for}
use Rattle.policy_model.proofs.Lists.{turn}
use Rattle.policy_model.proofs.LoginLemmas.{replies_of-none, was_replied-push}
use Rattle.policy_model.proofs.logins.was_replied.Goals as goal

pub loop-i-init : goal.loop-i-init
loop-i-init c = sym (ap (list_any (nat_eq c.args.password)) (replies_of-none c.args.user.now))

pub loop-i-preserved : goal.loop-i-preserved
loop-i-preserved c =
    let user = c.args.user.now in
    let password = c.args.password in
    c.found_after-found.ensures
    ∙ turn (λ j. list_any (nat_eq password) (replies_of j user)) (λ j e found. found || list_any (nat_eq password) (option_to_list (reply_for user (record { before = j; event = e })))) (was_replied-push user password) c.args.journal.now c.loop-i.i c.index-journal-i.result c.index-journal-i.result c.loop-i.found c.loop-i-test.true c.index-journal-i.is c.loop-i.invariant
