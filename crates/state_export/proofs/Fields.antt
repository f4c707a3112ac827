-- Fields, read and written.
use Rattle.std.proofs.Common.{◌≡◌, ℕ, ◌^◌, ◌<◌, ◌≤◌, ◌+◌, Bool, true, false, leb, eqb, ◌&&◌, List, [], ◌∷◌, ◌++◌, length, take, drop, Result, Ok, Err, refl, sym, ap, subst, ◌∙◌, append_assoc, arith}
use Rattle.std.specs.Prelude.{slice_index}
use Rattle.std.specs.Bool.{then_some}
use Rattle.std.specs.Int.{w16, to_le_bytes}
use Rattle.std.proofs.lemmas.Bool.{and_parts, eqb-true, leb-true, le-leb}
use Rattle.std.proofs.lemmas.List.{take-append-drop, length-take-le, length-append, take_at, drop_at, get_or-drop}
use Rattle.std.proofs.lemmas.Nat.{from_le_bytes-to_le_bytes_2}
use Rattle.request_catalogue.specs.Fields.{number_at}
use Rattle.request_catalogue.proofs.Numbers.{IsBytes, IsBytes-part, wide16, to_le_bytes-number_at}
use Rattle.request_catalogue.specs.Results.{demand, ◌>>=◌}
use Rattle.state_export.specs.declared.fault.StateFault.TheVariants.{Length, Missing, Tag}
use Rattle.state_export.specs.Reading.{Field, content_of, field_of}
use Rattle.state_export.specs.Spelling.{field_bytes}

-- what was demanded under a test was there
pub demanded : {A F : Type 0} (fault : F) (test : Bool) (there a : A) → demand fault (then_some test there) ≡ Ok a → (test ≡ true) × (there ≡ a)
demanded fault true there a e = (refl, cc)
demanded fault false there a e = absurd cc

-- what follows a demand that was met
pub after : {A B F : Type 0} (fault : F) (test : Bool) (there : A) (next : A → Result B F) (b : B) → (demand fault (then_some test there) >>= next) ≡ Ok b → (test ≡ true) × (next there ≡ Ok b)
after fault true there next b e = (refl, e)
after fault false there next b e = absurd cc

-- what was bound to what follows
pub bound : {A B F : Type 0} (r : Result A F) (next : A → Result B F) (b : B) → (r >>= next) ≡ Ok b → (a : A) × (r ≡ Ok a) × (next a ≡ Ok b)
bound (Ok a) next b e = (a, refl, e)
bound (Err fault) next b e = absurd cc

-- bytes after a place are bytes
pub behind_is_bytes : (place : ℕ) (bytes : List ℕ) → IsBytes bytes → IsBytes (drop place bytes)
behind_is_bytes place bytes fits i = rw (get_or-drop {A = ℕ} place bytes i 0) (fits (place + i))

-- a field that was read: its content is in the range, and the bytes are its spelling and what stands after it
pub record IsField (tag low high : ℕ) (bytes : List ℕ) (f : Field) : Type 0 where
  pub least : low ≤ length f.content
  pub most : length f.content ≤ high
  pub spelled : bytes ≡ field_bytes tag f.content ++ f.behind

-- bytes of which the first is the tag and the next two spell the length of the content
spelled_by : (tag len : ℕ) (bytes content behind : List ℕ) → 3 ≤ length bytes → slice_index bytes 0 ≡ tag → to_le_bytes w16 len ≡ take 2 (drop 1 bytes) → len ≡ length content → drop 3 bytes ≡ content ++ behind → bytes ≡ field_bytes tag content ++ behind
spelled_by tag len [] content behind long first next same rest = absurd (omega arith)
spelled_by tag len (t ∷ []) content behind long first next same rest = absurd (omega arith)
spelled_by tag len (t ∷ a ∷ []) content behind long first next same rest = absurd (omega arith)
spelled_by tag len (t ∷ a ∷ b ∷ bytes) content behind long first next same rest =
    let there : to_le_bytes w16 (length content) ≡ a ∷ b ∷ [] = ap (λ (n : ℕ). to_le_bytes w16 n) (sym same) ∙ next in
    let all : a ∷ b ∷ bytes ≡ to_le_bytes w16 (length content) ++ content ++ behind = ap (λ (x : List ℕ). a ∷ b ∷ x) rest ∙ ap (λ (x : List ℕ). x ++ (content ++ behind)) (sym there) ∙ sym (append_assoc (to_le_bytes w16 (length content)) content behind) in
    ap (λ (n : ℕ). n ∷ a ∷ b ∷ bytes) first ∙ ap (λ (x : List ℕ). tag ∷ x) all

-- a field that is read is spelled so
pub field_read : (tag low high : ℕ) (bytes : List ℕ) (f : Field) → IsBytes bytes → field_of tag low high bytes ≡ Ok f → IsField tag low high bytes f
field_read tag low high bytes f fits e =
    let there = after Missing (leb 3 (length bytes)) bytes (λ x. demand Tag (then_some (eqb (slice_index x 0) tag) x) >>= (λ y. content_of low high (number_at w16 1 y) (drop 3 y))) f e in
    let tagged = after Tag (eqb (slice_index bytes 0) tag) bytes (λ y. content_of low high (number_at w16 1 y) (drop 3 y)) f there.1 in
    let len = number_at w16 1 bytes in
    let rest = drop 3 bytes in
    let cut = demanded Length (leb low len && leb len high && leb len (length rest)) (record { content = take len rest; behind = drop len rest }) f tagged.1 in
    let both = and_parts (leb low len && leb len high) (leb len (length rest)) cut.0 in
    let front = and_parts (leb low len) (leb len high) both.0 in
    let long : 3 ≤ length bytes = leb-true 3 (length bytes) there.0 in
    let content : take len rest ≡ f.content = ap (λ (g : Field). g.content) cut.1 in
    let behind : drop len rest ≡ f.behind = ap (λ (g : Field). g.behind) cut.1 in
    let same : len ≡ length f.content = sym (length-take-le len rest (leb-true len (length rest) both.1)) ∙ ap length content in
    let joined : drop 3 bytes ≡ f.content ++ f.behind = sym (take-append-drop len rest) ∙ ap (λ (x : List ℕ). x ++ drop len rest) content ∙ ap (λ (x : List ℕ). f.content ++ x) behind in
    record {
      least = subst (λ (n : ℕ). low ≤ n) same (leb-true low len front.0);
      most = subst (λ (n : ℕ). n ≤ high) same (leb-true len high front.1);
      spelled = spelled_by tag len bytes f.content f.behind long (eqb-true (slice_index bytes 0) tag tagged.0) (to_le_bytes-number_at w16 (2 ^ 16) 1 bytes wide16 fits (omega arith)) same joined;
    }

-- the content that a field of so many bytes has
content_there : (low high len : ℕ) (content behind : List ℕ) → low ≤ length content → length content ≤ high → len ≡ length content → content_of low high len (content ++ behind) ≡ Ok (record { content = content; behind = behind })
content_there low high len content behind least most same =
    let first : leb low len ≡ true = le-leb low len (omega arith) in
    let second : leb len high ≡ true = le-leb len high (omega arith) in
    let third : leb len (length (content ++ behind)) ≡ true = le-leb len (length (content ++ behind)) (omega (arith, same, length-append content behind)) in
    rw (first, second, third, take_at content behind len (sym same), drop_at content behind len (sym same)) refl

-- a field that is spelled is read
pub field_written : (tag low high : ℕ) (content behind : List ℕ) → low ≤ length content → length content ≤ high → high < 2 ^ 16 → field_of tag low high (field_bytes tag content ++ behind) ≡ Ok (record { content = content; behind = behind })
unfolding number_at
field_written tag low high content behind least most small =
    let three : leb 3 (length (field_bytes tag content ++ behind)) ≡ true = le-leb 3 (length (field_bytes tag content ++ behind)) (omega arith) in
    let len = from_le_bytes-to_le_bytes_2 (length content) (omega arith) in
    let same : eqb tag tag ≡ true = grind arith in
    rw (three, same) (content_there low high _ content behind least most len)

-- the content of a field, and what stands after it, are bytes
pub field_is_bytes : (tag low high : ℕ) (bytes : List ℕ) (f : Field) → IsBytes bytes → IsField tag low high bytes f → IsBytes f.content × IsBytes f.behind
field_is_bytes tag low high bytes f fits field =
    let rest : drop 3 bytes ≡ f.content ++ f.behind = ap (λ (x : List ℕ). drop 3 x) field.spelled in
    let content : take (length f.content) (drop 3 bytes) ≡ f.content = ap (λ (x : List ℕ). take (length f.content) x) rest ∙ take_at f.content f.behind (length f.content) refl in
    let behind : drop (length f.content) (drop 3 bytes) ≡ f.behind = ap (λ (x : List ℕ). drop (length f.content) x) rest ∙ drop_at f.content f.behind (length f.content) refl in
    (subst IsBytes content (IsBytes-part (length f.content) 3 bytes fits), subst IsBytes behind (behind_is_bytes (length f.content) (drop 3 bytes) (behind_is_bytes 3 bytes fits)))
