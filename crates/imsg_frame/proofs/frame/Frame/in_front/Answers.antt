use Rattle.std.proofs.Common.{List, ap, sym, ◌∙◌, ℕ, take, drop}
use Rattle.std.proofs.lemmas.List.{take_at}
use Rattle.std.proofs.lemmas.Slice.{between_is}
use Rattle.imsg_frame.proofs.frame.Frame.in_front.Goals as goal

pub returns : goal.returns
returns c frame rest parts len =
    let whole = ap (take c.args.header.len) parts ∙ take_at frame rest c.args.header.len (sym len) in
    ap (λ (body : List ℕ). record { header = c.args.header; body = body }) (between_is c.args.bytes.now 16 c.args.header.len ∙ ap (drop 16) whole)
