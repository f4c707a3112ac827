use Rattle.std.proofs.Common.{◌++◌, [], ap, ◌∙◌}
use Rattle.std.specs.Fmt.{decimal}
use Rattle.std.specs.List.{flat_map}
use Rattle.std.specs.Prelude.{codes}
use Rattle.otp_hash.specs.Names.{algo_name}
use Rattle.info_hooks.specs.Said.{piece_text, said}
use Rattle.info_hooks.specs.Texts.{short_bytes}
use Rattle.otplogd.proofs.information.chain_form.Goals as goal

pub returns : goal.returns
unfolding said
returns c card =
    ap (flat_map (piece_text card)) c.of-3.ensures
    ∙ ap (λ text. text ++ (algo_name card.algo ++ (short_bytes c.of-2.result ++ (decimal card.sequence ++ [])))) c.of.ensures
    ∙ ap (λ text. codes "algorithm=" ++ (algo_name card.algo ++ (text ++ (decimal card.sequence ++ [])))) c.of-2.ensures
