use Rattle.std.proofs.Common.{◌≡◌, ◌<◌, ap, sym, ◌∙◌}
use Rattle.policy_model.specs.Logins.{account_of}
use Rattle.session_asking.specs.Made.{naming_of}
use Rattle.session_asking.proofs.Done.{taken}
use Rattle.session_asking.proofs.Naming.{IsDecoyOf, named_text, unnamed_text}
use Rattle.session_asking.proofs.telling.challenge.Goals as goal

pub returns-in-Some-clause-text : goal.returns-in-Some-clause-text
returns-in-Some-clause-text c =
    let decoy : IsDecoyOf c.args.setup.now c.args.user.now c.decoy-decoy.result = record { algo = c.decoy-decoy.ensures.algo; number = c.decoy-decoy.ensures.number; seed = c.decoy-decoy.ensures.seed } in
    let is : c.args.value < 10000 → c.own_naming-own.result ≡ naming_of c.args.value (account_of c.args.setup.now c.args.user.now) = λ lt. c.own_naming-own.ensures.value lt ∙ ap (naming_of c.args.value) (c.account_for.ensures lt) in
    taken c.challenge_text.result _ _ _ c.challenge_text.ensures.len c.challenge_text.ensures.written
    ∙ named_text c.args.setup.now c.args.user.now c.args.value c.own_naming-own.result c.decoy-decoy.result c.in-Some.named is decoy (sym c.named_by.ensures.value ∙ c.in-Some.is)

pub returns-in-None-clause-text : goal.returns-in-None-clause-text
returns-in-None-clause-text c =
    let is : c.args.value < 10000 → c.own_naming-own.result ≡ naming_of c.args.value (account_of c.args.setup.now c.args.user.now) = λ lt. c.own_naming-own.ensures.value lt ∙ ap (naming_of c.args.value) (c.account_for.ensures lt) in
    sym (unnamed_text c.args.setup.now c.args.user.now c.args.value c.own_naming-own.result c.decoy-decoy.result is (sym c.named_by.ensures.value ∙ c.in-None.is))
