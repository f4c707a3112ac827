use Rattle.std.proofs.Common.{◌≡◌, ◌<◌, ◌+◌, length, ap, ◌∙◌, arith}
use Rattle.otp_hash.specs.Hashing.{hash_of}
use Rattle.drill_plan.specs.Passwords.{own_algo}
use Rattle.drill_plan.proofs.Users.{more_passwords, read_at}
use Rattle.drill_plan.proofs.passwords.own_passwords.Goals as goal

pub loop-count-preserved : goal.loop-count-preserved
loop-count-preserved c =
    let items = c.loop-count.passwords.items in
    let count = c.loop-count.count in
    let len : length items ≡ count + 1 = omega (arith, c.loop-count.invariant.len, c.loop-count.passwords.ok.0) in
    let within : count < length items = omega arith in
    let next = c.step.ensures ∙ ap (λ algo. hash_of algo c.index.result.now) c.own_algo-algo.ensures ∙ ap (hash_of (own_algo c.args.worker)) (read_at items count c.index.result.now within c.index.ensures) in
    record {
      len = omega (arith, c.in_ok-push-2.ensures.len, len);
      each = more_passwords c.args.n c.args.worker count c.step.result items c.push-in-loop-count.new.self.items len c.loop-count.invariant.each next c.in_ok-push-2.ensures.items;
    }
