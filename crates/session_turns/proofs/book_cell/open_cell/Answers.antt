use Rattle.std.proofs.Common.{refl}
use Rattle.std.specs.Prelude.{IfOk, Result, Ok, Err}
use denote.Param.Send.{sendable}
use Rattle.session_core.specs.Parts.{setup_of}
use Rattle.session_turns.specs.Passes.{opened_of}
use Rattle.session_turns.proofs.Passes.{new_are}
use Rattle.session_turns.proofs.Sent.{book_send}
use Rattle.session_turns.proofs.book_cell.open_cell.Goals as goal

by_both : {X E : Type 0} (r : Result X E) (P Q R : X → Type 0) → ((x : X) → P x → Q x → R x) → IfOk r P → IfOk r Q → IfOk r R
by_both (Ok x) P Q R f p q = f x p q
by_both (Err e) P Q R f p q = tt

pub new-requires-send-O : goal.new-requires-send-O
new-requires-send-O g c κs within = search (sendable, book_send) depth 20

pub returns-clause-may : goal.returns-clause-may
returns-clause-may g c = by_both c.new.result _ _ _ (λ r cell new. new_are (setup_of c.args.book.core) r.0 r.1.items (opened_of c.args.book, cell.0, refl) cell.1 new) c.new.ensures.cell c.new.ensures.passes
