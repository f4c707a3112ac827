-- Names, labels and notes are short lists of bytes, and equal values where those are equal.
use Rattle.std.proofs.Common.{◌≡◌, ℕ, ◌<◌, ◌≤◌, true, length, get_or}
use Rattle.std.proofs.Props.{props}
use mathlib.Core.HLevel.{is_prop→PathP}
use Rattle.fixed_list.specs.FixedList.{list_of}
use Rattle.fixed_list.proofs.Lists.{length-list_of_le, get_or-list_of, same_from_list_of}
use Rattle.request_catalogue.specs.declared.texts.Name.{Name}
use Rattle.request_catalogue.specs.declared.texts.Label.{Label}
use Rattle.request_catalogue.specs.declared.texts.Note.{Note}
use Rattle.request_catalogue.specs.Texts.{is_name, is_label, is_note}
use Rattle.request_catalogue.specs.TextBytes.{name_bytes, label_bytes, note_bytes}

-- names of equal bytes are equal
pub same_from_name_bytes : (a b : Name) → name_bytes a ≡ name_bytes b → a ≡ b
same_from_name_bytes a b e =
    let p : a.text ≡ b.text = same_from_list_of a.text b.text e in
    λ i. record { text = p i; legal = is_prop→PathP (λ j. is_name (list_of (p j)) ≡ true) (λ j. hlevel props) a.legal b.legal i }

-- labels of equal bytes are equal
pub same_from_label_bytes : (a b : Label) → label_bytes a ≡ label_bytes b → a ≡ b
same_from_label_bytes a b e =
    let p : a.text ≡ b.text = same_from_list_of a.text b.text e in
    λ i. record { text = p i; legal = is_prop→PathP (λ j. is_label (list_of (p j)) ≡ true) (λ j. hlevel props) a.legal b.legal i }

-- notes of equal bytes are equal
pub same_from_note_bytes : (a b : Note) → note_bytes a ≡ note_bytes b → a ≡ b
same_from_note_bytes a b e =
    let p : a.text ≡ b.text = same_from_list_of a.text b.text e in
    λ i. record { text = p i; legal = is_prop→PathP (λ j. is_note (list_of (p j)) ≡ true) (λ j. hlevel props) a.legal b.legal i }

-- a name is short
pub length-name_bytes : (x : Name) → length (name_bytes x) ≤ 32
length-name_bytes x = length-list_of_le x.text

-- a name is bytes
pub get_or-name_bytes : (x : Name) (i : ℕ) → get_or (name_bytes x) i 0 < 256
get_or-name_bytes x i = get_or-list_of x.text i

-- a label is short
pub length-label_bytes : (x : Label) → length (label_bytes x) ≤ 64
length-label_bytes x = length-list_of_le x.text

-- a label is bytes
pub get_or-label_bytes : (x : Label) (i : ℕ) → get_or (label_bytes x) i 0 < 256
get_or-label_bytes x i = get_or-list_of x.text i

-- a note is short
pub length-note_bytes : (x : Note) → length (note_bytes x) ≤ 64
length-note_bytes x = length-list_of_le x.text

-- a note is bytes
pub get_or-note_bytes : (x : Note) (i : ℕ) → get_or (note_bytes x) i 0 < 256
get_or-note_bytes x i = get_or-list_of x.text i
