use Rattle.std.proofs.Common.{◌∙◌}
use Rattle.recover_mode.proofs.ReadLemmas.{image-found, image-missing}
use Rattle.recover_mode.proofs.basis.read_image.Goals as goal

pub returns-in-Some-clause-image : goal.returns-in-Some-clause-image
returns-in-Some-clause-image g c =
    image-found (λ bytes. bytes.items) c.in_ok-image.field-0 c.in-Some.image (g.F.Files.contents c.read_front.new.files) c.args.name.now c.in-Some.is c.in_ok-image.ensures.front

pub returns-in_ok-from_slice-in-None-clause-image : goal.returns-in_ok-from_slice-in-None-clause-image
returns-in_ok-from_slice-in-None-clause-image g c =
    image-missing (λ bytes. bytes.items) c.in_ok-image.field-0 (g.F.Files.contents c.read_front.new.files) c.args.name.now c.in_ok-from_slice-in-None.field-0.items c.in-None.is (c.in_ok-from_slice-in-None.ensures.items ∙ c.fresh_image.ensures) c.in_ok-image.ensures.front
