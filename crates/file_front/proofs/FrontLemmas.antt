use Rattle.std.proofs.Common.{◌≡◌, ℕ, ◌≤◌, List, [], ◌∷◌, ◌++◌, length, take, drop, Option, Some, None, IfSome, Result, sym, ap, subst, ◌∙◌, arith, length-append}
use Rattle.std.specs.Prelude.{OnErr, OnOk}
use Rattle.std.proofs.Math.Seq.{take-add}
use Rattle.std.proofs.lemmas.List.{take-append-le}
use Rattle.std.proofs.lemmas.Grind.{common_steps}
use Rattle.outside.specs.Files.{Contents, SameFiles, bytes_read, piece_of}
use Rattle.outside.specs.Told.{Goes}
use Rattle.outside.specs.FilesNow.{FilesNow, OnlyReads}
use Rattle.outside.specs.Touched.{HasRead, MayHaveRead, TouchesOnly}
use Rattle.outside.specs.declared.act.Failed.{Failed}
use Rattle.outside.proofs.OnlyReading.{reads_then}
use Rattle.outside.proofs.Touching.{Touches-read}

-- these are the first bytes of a file; of no file there are none
abbrev pub IsFront : List ℕ → Option (List ℕ) → Type 0
IsFront front None = front ≡ []
IsFront front (Some bytes) = front ≡ take (length front) bytes

-- the same of a file among those that are told
abbrev pub HasFront : Option Contents → List ℕ → List ℕ → Type 0
HasFront contents name front = IfSome contents (λ files. IsFront front (files name))

-- as many bytes as a part has are that part
take-own_length : (room : ℕ) (xs : List ℕ) → take (length (take room xs)) xs ≡ take room xs
take-own_length room xs = grind (arith, common_steps)

-- a piece is of a file
some-not-none : (piece : List ℕ) → Some piece ≡ None → ⊥
some-not-none piece e = cc

-- one more piece of a file was read
IsFront-more : (file : Option (List ℕ)) (front piece : List ℕ) (room : ℕ) → IsFront front file → Some piece ≡ piece_of file (length front) room → IsFront (front ++ piece) file
IsFront-more None front piece room is read = absurd (some-not-none piece read)
IsFront-more (Some bytes) front piece room is read =
    let found : piece ≡ take room (drop (length front) bytes) = cc in
    let own : take (length piece) (drop (length front) bytes) ≡ piece = rw found (take-own_length room (drop (length front) bytes)) in
    sym (ap (λ n. take n bytes) (length-append front piece) ∙ take-add (length front) (length piece) bytes ∙ ap (λ w. w ++ take (length piece) (drop (length front) bytes)) (sym is) ∙ ap (λ w. front ++ w) own)

pub HasFront-more : (before after : Option Contents) (word name : List ℕ) → word ≡ name → (front buffer rest : List ℕ) (found : Option ℕ) (n offset room : ℕ) → Goes SameFiles before after → HasFront before name front → found ≡ Some n → offset ≡ length front → n ≤ length buffer → IfSome after (λ files. bytes_read found buffer ≡ piece_of (files word) offset room) → HasFront after name (front ++ take n (buffer ++ rest))
HasFront-more before None word name same front buffer rest found n offset room goes has is at within read = tt
HasFront-more None (Some files) word name same front buffer rest found n offset room goes has is at within read = absurd goes
HasFront-more (Some before) (Some files) word name same front buffer rest found n offset room goes has is at within read =
    rw (take-append-le n buffer rest within) (IsFront-more (files name) front (take n buffer) room (rw (goes.same name) has) (ap (λ f. bytes_read f buffer) (sym is) ∙ read ∙ ap (λ w. piece_of (files w) offset room) same ∙ ap (λ k. piece_of (files name) k room) at))

-- one more reading of a file of which only that was read
pub Reads-more : {X : Type 0} (result : Result X Failed) (word name : List ℕ) → word ≡ name → (a b c : FilesNow) → OnlyReads (name ∷ []) a b → Goes SameFiles b.contents c.contents → b.read_faults ≤ c.read_faults → c.replace_faults ≡ b.replace_faults → OnOk result (Goes (HasRead word) b.touched c.touched) → OnErr result (Goes (MayHaveRead word) b.touched c.touched) → OnlyReads (name ∷ []) a c
Reads-more result word name same a b c before kept counts others ok err =
    reads_then (name ∷ []) a b c before (record {
      kept = kept;
      read_faults = counts;
      replace_faults = omega (arith, others);
      touched = subst (λ w. Goes (TouchesOnly (w ∷ []) []) b.touched c.touched) same (Touches-read result word b.touched c.touched ok err);
    })
