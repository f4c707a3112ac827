use Rattle.std.proofs.Common.{◌*◌, length, map, take, Result, Ok, Err, sym, ap, ◌∙◌, arith}
use Rattle.std.specs.Prelude.{IsOk, OnOk}
use Rattle.std.specs.Char.{to_ascii_lowercase}
use Rattle.std.proofs.lemmas.Bool.{false≢true}
use Rattle.hex.specs.Hex.{encode_lower}
use Rattle.otp_hash.specs.Seeds.{is_seed_text}
use Rattle.policy_model.proofs.DecoyLemmas.{seed_digits}
use Rattle.policy_model.proofs.decoy.seed_of.Goals as goal

on_ok : {A E : Type 0} (r : Result A E) (P : Type 0) → IsOk r → OnOk r P → P
on_ok (Ok x) P is h = h
on_ok (Err e) P is h = absurd cc

pub unreachable-requires : goal.unreachable-requires
unreachable-requires c =
    let fits = c.encode_to_slice-fits.ensures.fits.1 (sym (ap (λ bs. 2 * length (take 4 bs)) c.to_be_bytes-bytes.ensures)) in
    let written = on_ok c.encode_to_slice-fits.result _ fits c.encode_to_slice-fits.ensures.written ∙ ap (λ bs. encode_lower (take 4 bs)) c.to_be_bytes-bytes.ensures in
    let good = seed_digits _ _ _ _ (omega arith) (omega arith) (omega arith) (omega arith) in
    absurd (false≢true (c.in-None.ensures.rule ∙ ap is_seed_text written ∙ good.0))

pub returns : goal.returns
returns c =
    let fits = c.encode_to_slice-fits.ensures.fits.1 (sym (ap (λ bs. 2 * length (take 4 bs)) c.to_be_bytes-bytes.ensures)) in
    let written = on_ok c.encode_to_slice-fits.result _ fits c.encode_to_slice-fits.ensures.written ∙ ap (λ bs. encode_lower (take 4 bs)) c.to_be_bytes-bytes.ensures in
    c.in-Some.ensures.found ∙ ap (map to_ascii_lowercase) written ∙ (seed_digits _ _ _ _ (omega arith) (omega arith) (omega arith) (omega arith)).1
