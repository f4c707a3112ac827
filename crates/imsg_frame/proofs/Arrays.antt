-- Lists by their parts, and what is written over them.
use Rattle.std.proofs.Common.{◌≡◌, ℕ, ◌+◌, ◌-◌, ◌<◌, ◌≤◌, List, ◌++◌, [], length, take, drop, refl, sym, ap, ◌∙◌, append_assoc, arith}
use Rattle.std.specs.List.{between}
use borrow.Rule.Slice.PartMut.{put_mid}
use Rattle.std.proofs.lemmas.List.{append-nil, drop_all, drop_at, take_at, length-append, length-drop, length-take-le, drop-drop, take-take, take-append-drop}
use Rattle.std.proofs.lemmas.Slice.{between_is}
use Rattle.std.proofs.Math.Seq.{take-append-add}

pub take-between : (i j : ℕ) (xs : List ℕ) → i ≤ j → take i xs ++ between i j xs ≡ take j xs
take-between i j xs le =
    ap (λ (part : List ℕ). take i xs ++ part) (between_is xs i j) ∙ ap (λ (front : List ℕ). front ++ drop i (take j xs)) (sym (take-take i j xs le)) ∙ take-append-drop i (take j xs)

-- a list by three parts
pub three_parts : (i j : ℕ) (xs : List ℕ) → i ≤ j → xs ≡ take i xs ++ between i j xs ++ drop j xs
three_parts i j xs le = sym (ap (λ (front : List ℕ). front ++ drop j xs) (take-between i j xs le) ∙ take-append-drop j xs)

-- a head was written to the front of xs, and then ys after it
pub put_mid-behind_front : (xs head ys : List ℕ) (k : ℕ) → length head ≡ k → put_mid k (k + length ys - k) (head ++ drop k xs) ys ≡ head ++ ys ++ drop (k + length ys) xs
put_mid-behind_front xs head ys k len =
    let width : k + length ys - k ≡ length ys = omega arith in
    ap (λ (front : List ℕ). front ++ (ys ++ drop (k + length ys - k) (drop k (head ++ drop k xs)))) (take_at head (drop k xs) k len)
    ∙ ap (λ (behind : List ℕ). head ++ (ys ++ drop (k + length ys - k) behind)) (drop_at head (drop k xs) k len)
    ∙ ap (λ (n : ℕ). head ++ (ys ++ drop n (drop k xs))) width
    ∙ ap (λ (behind : List ℕ). head ++ (ys ++ behind)) (drop-drop (length ys) k xs)
    ∙ sym (append_assoc head ys (drop (k + length ys) xs))

-- the first bytes of two lists, one after the other, written over a third that the first doesn't fill
pub joined : (front back spare once twice : List ℕ) → length front < length spare → length spare ≤ length (front ++ back)
    → once ≡ front → twice ≡ take (length spare - length front) back
    → put_mid (length front) (length (once ++ drop (length front) spare) - length front) (once ++ drop (length front) spare) twice ≡ take (length spare) (front ++ back)
joined front back spare once twice short there same rest =
    let k = length front in
    let behind : length twice ≡ length spare - k = ap length rest ∙ length-take-le (length spare - k) back (omega (arith, length-append front back)) in
    let all : length (once ++ drop k spare) - k ≡ k + length twice - k = omega (arith, ap length same, length-append once (drop k spare), length-drop k spare) in
    let len : k + (length spare - k) ≡ length spare = omega arith in
    ap (λ (n : ℕ). put_mid k n (once ++ drop k spare) twice) all
    ∙ ap (λ (head : List ℕ). put_mid k (k + length twice - k) (head ++ drop k spare) twice) same
    ∙ put_mid-behind_front spare front twice k refl
    ∙ ap (λ (end : List ℕ). front ++ twice ++ end) (drop_all (k + length twice) spare (omega arith))
    ∙ append-nil (front ++ twice)
    ∙ ap (λ (end : List ℕ). front ++ end) rest
    ∙ sym (take-append-add front back (length spare - k))
    ∙ ap (λ (n : ℕ). take n (front ++ back)) len

-- where nothing was given before it, all is held
pub all_held : (n : ℕ) (items bytes : List ℕ) → take n items ≡ [] → drop n items ≡ bytes → items ≡ bytes
all_held n items bytes none held = sym (take-append-drop n items) ∙ ap (λ (front : List ℕ). front ++ drop n items) none ∙ held
