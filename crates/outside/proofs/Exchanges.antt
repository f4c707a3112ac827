use Rattle.std.proofs.Common.{ℕ, List, [], ◌++◌, Option, append_assoc, append-nil, ap, sym, ◌∙◌, refl}
use Rattle.outside.specs.Told.{Goes}
use Rattle.outside.specs.Link.{Link, Exchanged}
use Rattle.outside.proofs.Told.{Goes-then, Goes-same}

-- nothing received and nothing given
pub Exchanged-none : (l : Link) → Exchanged [] [] l l
Exchanged-none l = record { left = refl; taken = sym (append-nil l.taken); sent = sym (append-nil l.sent) }

-- the bytes of two exchanges, one after the other
pub Exchanged-then : (received given received' given' : List ℕ) (a b c : Link) → Exchanged received given a b → Exchanged received' given' b c → Exchanged (received ++ received') (given ++ given') a c
Exchanged-then received given received' given' a b c f s = record {
  left = f.left ∙ ap (λ w. received ++ w) s.left ∙ sym (append_assoc received received' c.left);
  taken = s.taken ∙ ap (λ w. w ++ received') f.taken ∙ append_assoc a.taken received received';
  sent = s.sent ∙ ap (λ w. w ++ given') f.sent ∙ append_assoc a.sent given given';
}

-- the same of streams that may cease to tell
pub Exchanges-none : (l : Option Link) → Goes (Exchanged [] []) l l
Exchanges-none l = Goes-same (Exchanged [] []) Exchanged-none l

pub Exchanges-then : (received given received' given' : List ℕ) (a b c : Option Link) → Goes (Exchanged received given) a b → Goes (Exchanged received' given') b c → Goes (Exchanged (received ++ received') (given ++ given')) a c
Exchanges-then received given received' given' a b c =
    Goes-then (Exchanged received given) (Exchanged received' given') (Exchanged (received ++ received') (given ++ given')) (Exchanged-then received given received' given') a b c
