use Rattle.std.proofs.Common.{◌≡◌, ◌<◌, ◌≤◌, ◌+◌, ◌-◌, ◌*◌, length, ap, ◌∙◌, arith}
use Rattle.drill_plan.proofs.Plans.{login-count-le, logins-more, plan-more, script-bytes}
use Rattle.drill_plan.proofs.Users.{read_at}
use Rattle.drill_plan.proofs.scripts.drill_scripts.Goals as goal

pub loop-session-preserved : goal.loop-session-preserved
loop-session-preserved c =
    let n = c.args.n in
    let worker = c.args.worker in
    let session = c.loop-session.session in
    let logins = c.loop-session.logins in
    let passwords = c.in_ok-passwords.passwords.items in
    let script = c.in_ok-script.field-0 in
    let few : logins ≤ session = c.loop-session.invariant.few in
    let len : length passwords ≡ 8 * n + 1 = omega (arith, c.in_ok-passwords.ensures.len, c.in_ok-passwords.passwords.ok.0) in
    let left : 8 * n - logins < length passwords = omega (arith, c.loop-session-test.true) in
    let behind : 8 * n - logins - 1 < length passwords = omega (arith, c.loop-session-test.true) in
    let current = read_at passwords (8 * n - logins) c.index.result.now left c.index.ensures ∙ c.in_ok-passwords.ensures.each (8 * n - logins) (omega arith) in
    let right = read_at passwords (8 * n - logins - 1) c.index-in-loop-session.result.now behind c.index-in-loop-session.ensures ∙ c.in_ok-passwords.ensures.each (8 * n - logins - 1) (omega arith) in
    let entry = script-bytes n worker session logins c.index.result.now c.index-in-loop-session.result.now c.own_name-user.result c.of-class.result script c.of-class.ensures c.loop-session.invariant.counted c.own_name-user.ensures current right c.in_ok-script.ensures.pre c.in_ok-script.ensures.user in
    record {
      planned = plan-more n worker session c.loop-session.scripts.items c.push.new.self.items script c.in_ok-push.ensures.items c.loop-session.invariant.planned entry;
      counted = ap (λ m. m + c.login_count.result) c.loop-session.invariant.counted ∙ logins-more n worker session c.login_count.result c.of-class.result c.of-class.ensures c.login_count.ensures;
      few = omega (arith, few, login-count-le c.of-class.result c.login_count.result c.login_count.ensures);
    }
