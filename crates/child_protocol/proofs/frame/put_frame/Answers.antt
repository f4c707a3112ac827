use Rattle.std.proofs.Common.{ℕ, List, ◌≡◌, ◌≤◌, ◌+◌, ◌++◌, length, take, drop, refl, ap, sym, ◌∙◌, arith}
use Rattle.std.proofs.Math.Seq.{take-append_seam}
use Rattle.imsg_frame.specs.Message.{composed_of, spelling_of}
use Rattle.imsg_frame.specs.Requests.{request_message}
use Rattle.imsg_frame.proofs.Spelling.{length-spelling_of}
use Rattle.request_catalogue.specs.declared.width.Width.{Width}
use Rattle.request_catalogue.specs.Kinds.{kind_number}
use Rattle.request_catalogue.specs.Catalogue.{RequestValue, IsInRange, kind_of, payload_of, value_of}
use Rattle.child_protocol.specs.Frames.{IsPut, frame_width, request_bytes}
use Rattle.child_protocol.proofs.Frames.{reads_in}
use Rattle.child_protocol.proofs.frame.put_frame.Goals as goal

put : (value : RequestValue) (body rest out new : List ℕ) (kind used len : ℕ) → IsInRange frame_width value → used ≡ length (payload_of value) → body ≡ payload_of value ++ rest → kind ≡ kind_number (kind_of value)
    → len ≡ 16 + length (take used body)
    → used ≤ 16368 → (length (take used body) ≤ 16368 → (either : Width) → new ≡ spelling_of either (composed_of kind 0 0 (take used body)) ++ drop len out) → IsPut value len out new
unfolding request_bytes
put value body rest out new kind used len range used_is spelled kind_is len_is within writes =
    let payload : take used body ≡ payload_of value = rw (used_is, spelled) (take-append_seam (payload_of value) rest) in
    let whole : length (take used body) ≡ used = ap length payload ∙ sym used_is in
    let few : length (take used body) ≤ 16368 = omega (arith, whole, within) in
    let written : (either : Width) → new ≡ spelling_of either (composed_of kind 0 0 (take used body)) ++ drop len out = writes few in
    record {
      len_is = len_is ∙ ap (λ (b : List ℕ). 16 + length b) payload ∙ sym (length-spelling_of frame_width (request_message value));
      out = written frame_width ∙ rw (kind_is, payload) refl;
      alike = λ either. written either ∙ rw (kind_is, payload) refl;
      reads = reads_in value range;
    }

pub returns : goal.returns
returns c = put (value_of c.args.request.now) _ _ c.args.out.now c.compose.new.out _ _ _ c.requires.in_range c.write_request-len.ensures.len c.write_request-len.ensures.written (c.number-kind.ensures ∙ ap kind_number c.kind.ensures) c.in-Ok.ensures.len c.write_request-len.ensures.within c.in-Ok.ensures.alike
