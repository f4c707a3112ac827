use Rattle.std.proofs.Common.{◌*◌, length, Result, Ok, Err, sym, ap, ◌∙◌}
use Rattle.std.specs.Prelude.{IsOk, OnOk}
use Rattle.request_catalogue.specs.Texts.{is_typed_reply}
use Rattle.hex.specs.Hex.{encode_lower}
use Rattle.drill_plan.proofs.Texts.{is_password_text}
use Rattle.drill_plan.proofs.early.put_reply.Goals as goal

on_ok : {A E : Type 0} (r : Result A E) (P : Type 0) → IsOk r → OnOk r P → P
on_ok (Ok x) P is h = h
on_ok (Err e) P is h = absurd cc

pub put-requires : goal.put-requires
put-requires c =
    let fits = c.encode_to_slice-fits.ensures.fits.1 (sym (ap (λ bs. 2 * length bs) c.to_be_bytes.ensures)) in
    let written = on_ok c.encode_to_slice-fits.result _ fits c.encode_to_slice-fits.ensures.written ∙ ap encode_lower c.to_be_bytes.ensures in
    ap is_typed_reply written ∙ is_password_text c.args.password
