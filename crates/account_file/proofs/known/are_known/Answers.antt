use Rattle.std.proofs.Common.{◌≡◌, ◌∙◌, ◌∷◌, ℕ, List, Bool, false, refl, sym, ap, String, Global}
use Rattle.std.specs.List.{list_all, list_any}
use Rattle.std.specs.Str.{bytes_eq}
use Rattle.account_file.specs.Levels.{keys_at}
use Rattle.account_file.proofs.KeyLemmas.{is_known_at, keys_known}
use Rattle.account_file.proofs.known.are_known.Goals as goal

-- a key without a meaning
stops : (p : String Global → Bool) (key : String Global) (left rest : List (String Global)) (r : Bool) → left ≡ key ∷ rest → p key ≡ false → list_all p left ≡ r → false ≡ r
stops p key left rest r e here known = sym (ap (list_all p) e ∙ rw here refl) ∙ known

pub returns-then-not-is_known : goal.returns-then-not-is_known
returns-then-not-is_known c =
    let here : is_known_at c.args.level c.in-Some.key.now ≡ false = ap (λ (k : List ℕ). list_any (bytes_eq k) (keys_at c.args.level)) (sym c.as_str.ensures.value) ∙ sym c.if-not-is_known.ensures in
    stops (is_known_at c.args.level) c.in-Some.key.now c.loop-key.key-iterator c.next.new.self _ c.in-Some.ensures.steps here c.loop-key.invariant
    ∙ sym (keys_known (keys_at c.args.level) c.args.table.now.entries)

pub returns : goal.returns
returns c =
    ap (list_all (is_known_at c.args.level)) (sym c.in-None.ensures.steps.0)
    ∙ c.loop-key.invariant
    ∙ sym (keys_known (keys_at c.args.level) c.args.table.now.entries)
