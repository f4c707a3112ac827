-- The parts of a text between its colons.
use Rattle.std.proofs.Common.{◌≡◌, ℕ, suc, ◌+◌, ◌-◌, ◌≤◌, ◌<◌, Bool, true, false, cond, not, ◌==◌, List, [], ◌∷◌, ◌++◌, take, drop, length, Option, Err, refl, sym, ap, subst, ◌∙◌, arith}
use Rattle.std.specs.List.{prefix_len}
use Rattle.std.specs.Prelude.{Result}
use Rattle.std.proofs.lemmas.List.{take-append-drop, take_rest}
use Rattle.otp_extended.specs.declared.response.Form.{Form}
use Rattle.otp_extended.specs.declared.response.Kind.{Kind}
use Rattle.otp_extended.specs.declared.response.Response.{Response}
use Rattle.trouble.specs.declared.response.ResponseFault.{ResponseFault}
use Rattle.trouble.specs.declared.response.ResponseFault.TheVariants as faults
use Rattle.otp_extended.specs.Inner.{is_no_colon}
use Rattle.otp_extended.specs.Parts.{parts_of, put_before}
use Rattle.otp_extended.specs.Responses.{IsPlain, IsReading, IsReadingBy, kind_of}

-- a text in two, where the second begins with a colon or is empty
abbrev parts_by : List ℕ → List ℕ → List (List ℕ)
parts_by front [] = front ∷ []
parts_by front (c ∷ rest) = front ∷ parts_of rest

put_parts : (c : ℕ) (front rest : List ℕ) → put_before c (parts_by front rest) ≡ parts_by (c ∷ front) rest
put_parts c front [] = refl
put_parts c front (d ∷ rest) = refl

parts_at_more : (c : ℕ) (cs : List ℕ) (n : ℕ) (b : Bool) → (c == 58) ≡ b → parts_of cs ≡ parts_by (take n cs) (drop n cs) → cond b ([] ∷ parts_of cs) (put_before c (parts_of cs)) ≡ parts_by (take (cond (not b) (1 + n) 0) (c ∷ cs)) (drop (cond (not b) (1 + n) 0) (c ∷ cs))
parts_at_more c cs n true here rest = refl
parts_at_more c cs n false here rest =
    let more : 1 + n ≡ suc n = omega arith in
    rw more (ap (put_before c) rest ∙ put_parts c (take n cs) (drop n cs))

parts_at : (text : List ℕ) → parts_of text ≡ parts_by (take (prefix_len is_no_colon text) text) (drop (prefix_len is_no_colon text) text)
parts_at [] = refl
parts_at (c ∷ cs) = parts_at_more c cs (prefix_len is_no_colon cs) (c == 58) refl (parts_at cs)

-- a text that is cut before its first colon, or at its end
at_cut : (text front behind : List ℕ) (n : ℕ) → n ≡ prefix_len is_no_colon text → front ≡ take n text → behind ≡ drop n text → parts_of text ≡ parts_by front behind
at_cut text front behind n long front_is behind_is =
    parts_at text ∙ ap (λ (k : ℕ). parts_by (take k text) (drop k text)) (sym long) ∙ ap (λ (f : List ℕ). parts_by f (drop n text)) (sym front_is) ∙ ap (parts_by front) (sym behind_is)

nil : (xs : List ℕ) → xs ++ [] ≡ xs
nil [] = refl
nil (x ∷ xs) = ap (λ (ys : List ℕ). x ∷ ys) (nil xs)

pub no_cut : (text front behind : List ℕ) (n : ℕ) → n ≡ prefix_len is_no_colon text → front ≡ take n text → behind ≡ drop n text → length behind < 1 → parts_of text ≡ text ∷ []
no_cut text front [] n long front_is behind_is none =
    let joined : front ++ [] ≡ text = ap (λ (f : List ℕ). f ++ []) front_is ∙ ap (λ (b : List ℕ). take n text ++ b) behind_is ∙ take-append-drop n text in
    at_cut text front [] n long front_is behind_is ∙ ap (λ (f : List ℕ). f ∷ []) (sym (nil front) ∙ joined)
no_cut text front (c ∷ behind) n long front_is behind_is none = absurd (omega (arith, none))

pub some_cut : (text front behind : List ℕ) (n : ℕ) → n ≡ prefix_len is_no_colon text → front ≡ take n text → behind ≡ drop n text → 1 ≤ length behind → parts_of text ≡ front ∷ parts_of (take (length behind - 1) (drop 1 behind))
some_cut text front [] n long front_is behind_is some = absurd (omega (arith, some))
some_cut text front (c ∷ rest) n long front_is behind_is some =
    at_cut text front (c ∷ rest) n long front_is behind_is ∙ ap (λ (r : List ℕ). front ∷ parts_of r) (sym (take_rest (c ∷ rest) 1))

-- a text has a part
pub has_part : (text : List ℕ) → (first : List ℕ) × (more : List (List ℕ)) × (parts_of text ≡ first ∷ more)
has_part text = go (take (prefix_len is_no_colon text) text) (drop (prefix_len is_no_colon text) text) (parts_at text) where
  go : (front behind : List ℕ) → parts_of text ≡ parts_by front behind → (first : List ℕ) × (more : List (List ℕ)) × (parts_of text ≡ first ∷ more)
  go front [] is = (front, [], is)
  go front (c ∷ rest) is = (front, parts_of rest, is)

-- two parts or more are not one
pub not_plain : (dictionary : List (List ℕ)) (form : Form) (text front rest : List ℕ) → parts_of text ≡ front ∷ parts_of rest → IsPlain dictionary form (parts_of text) (Err faults.Parts)
not_plain dictionary form text front rest is =
    let more = has_part rest in
    subst (λ (ps : List (List ℕ)). IsPlain dictionary form ps (Err faults.Parts)) (sym (is ∙ ap (λ (ps : List (List ℕ)). front ∷ ps) more.2)) refl

-- what is read after a word that names a kind is read of the text
pub reading_by : (dictionary : List (List ℕ)) (text word rest : List ℕ) (kind : Option Kind) (result : Result Response ResponseFault) → parts_of text ≡ word ∷ parts_of rest → kind_of word ≡ kind → IsReadingBy dictionary kind (parts_of rest) result → IsReading dictionary (parts_of text) result
reading_by dictionary text word rest kind result is named read =
    let more = has_part rest in
    let whole : parts_of text ≡ word ∷ more.0 ∷ more.1 = is ∙ ap (λ (ps : List (List ℕ)). word ∷ ps) more.2 in
    subst (λ (ps : List (List ℕ)). IsReading dictionary ps result) (sym whole)
    (subst (λ (k : Option Kind). IsReadingBy dictionary k (more.0 ∷ more.1) result) (sym named)
    (subst (λ (ps : List (List ℕ)). IsReadingBy dictionary kind ps result) more.2 read))

-- fewer or more parts than three, by cuts
one_more : (front : List ℕ) (parts : List (List ℕ)) (current params new : List ℕ) → front ∷ parts ≡ current ∷ params ∷ new ∷ [] → parts ≡ params ∷ new ∷ []
one_more front parts current params new e = cc

one_more_two : (front : List ℕ) (parts : List (List ℕ)) (params new : List ℕ) → front ∷ parts ≡ params ∷ new ∷ [] → parts ≡ new ∷ []
one_more_two front parts params new e = cc

many_of_one : (front next new : List ℕ) (more : List (List ℕ)) → front ∷ next ∷ more ≡ new ∷ [] → ⊥
many_of_one front next new more e = cc

pub four_parts : (text front rest next behind third more current params new : List ℕ) → parts_of text ≡ front ∷ parts_of rest → parts_of rest ≡ next ∷ parts_of behind → parts_of behind ≡ third ∷ parts_of more → parts_of text ≡ current ∷ params ∷ new ∷ [] → ⊥
four_parts text front rest next behind third more current params new first second last three =
    let a = one_more front (parts_of rest) current params new (sym first ∙ three) in
    let b = one_more_two next (parts_of behind) params new (sym second ∙ a) in
    let p = has_part more in
    many_of_one third p.0 new p.1 (sym (last ∙ ap (λ (ps : List (List ℕ)). third ∷ ps) p.2) ∙ b)
