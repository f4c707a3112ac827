-- Bytes in hexadecimal digits.
use Rattle.std.proofs.Common.{◌≡◌, ℕ, ◌*◌, ◌/◌, ◌%◌, ◌<◌, ◌≤◌, Bool, true, false, leb, ◌&&◌, List, [], ◌∷◌, length, take, Option, Some, None, Result, Ok, Err, refl, sym, ap, subst, ◌∙◌, arith}
use Rattle.std.specs.Prelude.{MatchOption, MatchResult}
use Rattle.std.specs.Bool.{then_some}
use Rattle.std.specs.Char.{is_ascii_lowercase}
use Rattle.std.specs.List.{list_all}
use Rattle.std.specs.Result.{result_ok}
use Rattle.std.specs.Str.{bytes_eq}
use Rattle.std.proofs.lemmas.Slice.Eq.{bytes_eq-Decides}
use Rattle.hex.specs.declared.error.FromHexError.{FromHexError}
use Rattle.hex.specs.Hex.{decode_of, decode_sized, encode_lower, lower_digits}
use Rattle.hex.proofs.HexLemmas.{decode_sized-twice, length-encode_with}
use Rattle.std.proofs.lemmas.Bool.{and_parts, leb-true}
use Rattle.request_catalogue.specs.Results.{demand, ◌>>=◌}
use Rattle.request_catalogue.specs.Texts.{continues_label, is_label, is_note, is_printable}
use Rattle.decision_log.specs.declared.logged.LineFault.TheVariants.{Hex}
use Rattle.decision_log.specs.Parts.{IsNoHex, hex_in, hex_of, spelled_again}

-- by what is decoded
spelled_by : (digits bytes : List ℕ) (o : Option (List ℕ)) → spelled_again digits o ≡ Some bytes → (o ≡ Some bytes) × (encode_lower bytes ≡ digits)
spelled_by digits bytes None e = absurd cc
spelled_by digits bytes (Some b) e = by (bytes_eq (encode_lower b) digits) refl e
  where
    by : (test : Bool) → bytes_eq (encode_lower b) digits ≡ test → then_some test b ≡ Some bytes → (Some b ≡ Some bytes) × (encode_lower bytes ≡ digits)
    by true t h = let same : b ≡ bytes = cc in (ap (λ (x : List ℕ). Some x) same, ap encode_lower (sym same) ∙ (bytes_eq-Decides (encode_lower b) digits).0 t)
    by false t h = absurd cc

decoded : (bytes : List ℕ) (r : Result (List ℕ) FromHexError) → result_ok r ≡ Some bytes → r ≡ Ok bytes
decoded bytes (Ok b) e = let same : b ≡ bytes = cc in ap (λ (x : List ℕ). Ok x) same
decoded bytes (Err f) e = absurd cc

-- what is read is spelled so, and decodes
pub hex_of-ok : (digits bytes : List ℕ) → hex_of digits ≡ Some bytes → (decode_of digits ≡ Ok bytes) × (encode_lower bytes ≡ digits)
unfolding hex_of
hex_of-ok digits bytes e =
    let told = spelled_by digits bytes (result_ok (decode_of digits)) e in
    (decoded bytes (decode_of digits) told.0, told.1)

-- what decodes is read where it is spelled so
pub hex_of-decoded : (digits bytes : List ℕ) → decode_of digits ≡ Ok bytes → hex_of digits ≡ then_some (bytes_eq (encode_lower bytes) digits) bytes
unfolding hex_of
hex_of-decoded digits bytes e = rw e refl

-- two digits a byte
digits_long : (digits bytes : List ℕ) → hex_of digits ≡ Some bytes → length digits ≡ 2 * length bytes
digits_long digits bytes e = ap length (sym (hex_of-ok digits bytes e).1) ∙ length-encode_with lower_digits bytes

pub no_hex_odd : (digits : List ℕ) → length digits % 2 ≡ 1 → IsNoHex digits
no_hex_odd digits odd = λ bytes few e. let long = digits_long digits bytes e in omega (arith, long)

pub no_hex_long : (digits : List ℕ) → 64 < length digits / 2 → IsNoHex digits
no_hex_long digits many = λ bytes few e. let long = digits_long digits bytes e in omega (arith, long)

-- what decoding into room that fits says
abbrev pub Decodes : List ℕ → Result Unit FromHexError → Result (List ℕ) FromHexError → Type 0
Decodes out r d = MatchResult d (λ bytes. (r ≡ Ok tt) × (out ≡ bytes)) (λ e. r ≡ Err e)

into_err : (digits out : List ℕ) (r : Result Unit FromHexError) (d : Result (List ℕ) FromHexError) (fault : FromHexError) → decode_of digits ≡ d → Decodes out r d → r ≡ Err fault → IsNoHex digits
into_err digits out r (Ok b) fault e told is = absurd (let both = sym told.0 ∙ is in cc)
into_err digits out r (Err f) fault e told is = λ bytes few h. let other = (hex_of-ok digits bytes h).0 in absurd (let both = sym other ∙ e in cc)

-- nothing was decoded
pub no_hex_err : (digits out : List ℕ) (n : ℕ) (r : Result Unit FromHexError) (fault : FromHexError) → length digits ≡ 2 * n → Decodes out r (decode_sized digits n) → r ≡ Err fault → IsNoHex digits
no_hex_err digits out n r fault even told is = into_err digits out r (decode_sized digits n) fault (sym (decode_sized-twice digits n even)) told is

into_ok : (digits out : List ℕ) (r : Result Unit FromHexError) (d : Result (List ℕ) FromHexError) → decode_of digits ≡ d → Decodes out r d → r ≡ Ok tt → decode_of digits ≡ Ok out
into_ok digits out r (Ok b) e told is = e ∙ ap (λ (x : List ℕ). Ok x) (sym told.1)
into_ok digits out r (Err f) e told is = absurd (let both = sym told ∙ is in cc)

-- what was decoded
pub hex_ok : (digits out : List ℕ) (n : ℕ) (r : Result Unit FromHexError) → length digits ≡ 2 * n → Decodes out r (decode_sized digits n) → r ≡ Ok tt → decode_of digits ≡ Ok out
hex_ok digits out n r even told is = into_ok digits out r (decode_sized digits n) (sym (decode_sized-twice digits n even)) told is

-- a test that no more than 64 bytes pass refuses what spells none of them
pub hex_in-none : (test : List ℕ → Bool) (digits : List ℕ) → ((bytes : List ℕ) → test bytes ≡ true → length bytes ≤ 64) → IsNoHex digits → hex_in test digits ≡ Err Hex
hex_in-none test digits few none = by_hex (hex_of digits) refl
  where
    by_test : (bytes : List ℕ) → hex_of digits ≡ Some bytes → (b : Bool) → test bytes ≡ b → (demand Hex (Some bytes) >>= (λ x. demand Hex (then_some (test x) x))) ≡ Err Hex
    by_test bytes e true t = absurd (none bytes (few bytes t) e)
    by_test bytes e false t = rw t refl

    by_hex : (o : Option (List ℕ)) → hex_of digits ≡ o → hex_in test digits ≡ Err Hex
    by_hex None e = rw e refl
    by_hex (Some bytes) e = ap (λ (o : Option (List ℕ)). demand Hex o >>= (λ x. demand Hex (then_some (test x) x))) e ∙ by_test bytes e (test bytes) refl

-- by whether the digits are in lower case
pub hex_told : (digits bytes room : List ℕ) (n : ℕ) (lower : Bool) → n ≤ 64 → take n room ≡ bytes → decode_of digits ≡ Ok bytes → lower ≡ bytes_eq (encode_lower bytes) digits → MatchOption (then_some lower n) (IsNoHex digits) (λ k. (k ≤ 64) × (hex_of digits ≡ Some (take k room)))
hex_told digits bytes room n true few front is low = (few, hex_of-decoded digits bytes is ∙ ap (λ (b : Bool). then_some b bytes) (sym low) ∙ ap (λ (x : List ℕ). Some x) (sym front))
hex_told digits bytes room n false few front is low = λ other short h. let none : hex_of digits ≡ None = hex_of-decoded digits bytes is ∙ ap (λ (b : Bool). then_some b bytes) (sym low) in absurd cc

-- a label and a note have at most 64 bytes
pub label_few : (bytes : List ℕ) → is_label bytes ≡ true → length bytes ≤ 64
unfolding is_label
label_few [] e = absurd cc
label_few (c ∷ bytes) e =
    let first = and_parts (leb (length (c ∷ bytes)) 64 && is_ascii_lowercase c) (list_all continues_label bytes) e in
    leb-true (length (c ∷ bytes)) 64 (and_parts (leb (length (c ∷ bytes)) 64) (is_ascii_lowercase c) first.0).0

pub note_few : (bytes : List ℕ) → is_note bytes ≡ true → length bytes ≤ 64
unfolding is_note
note_few bytes e =
    let first = and_parts (leb 1 (length bytes) && leb (length bytes) 64) (list_all is_printable bytes) e in
    leb-true (length bytes) 64 (and_parts (leb 1 (length bytes)) (leb (length bytes) 64) first.0).1

pub hex_judged : (digits bytes room : List ℕ) (n : ℕ) (lower : Bool) (r : Option ℕ) → r ≡ then_some lower n → n ≤ 64 → take n room ≡ bytes → decode_of digits ≡ Ok bytes → lower ≡ bytes_eq (encode_lower bytes) digits → MatchOption r (IsNoHex digits) (λ k. (k ≤ 64) × (hex_of digits ≡ Some (take k room)))
hex_judged digits bytes room n lower r e few front is low =
    subst (λ (o : Option ℕ). MatchOption o (IsNoHex digits) (λ k. (k ≤ 64) × (hex_of digits ≡ Some (take k room)))) (sym e) (hex_told digits bytes room n lower few front is low)
