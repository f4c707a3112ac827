use Rattle.std.proofs.Common.{List, ℕ, subst}
use Rattle.recover_mode.specs.Recovering.{IsBroughtBack}
use Rattle.recover_mode.proofs.texts.bring_back.Goals as goal

pub returns : goal.returns
returns c =
    let setup = c.args.basis.now.setup in
    let said = c.recover.ensures in
    let answered : IsBroughtBack setup c.as_slice.result.now c.recover.result = record { log = said.log; exact = said.exact; back = said.back; again = said.again } in
    subst (λ (image : List ℕ). IsBroughtBack setup image c.recover.result) c.as_slice.ensures.value answered
