-- A word list that is judged line by line is judged as a whole.
use Rattle.std.proofs.Common.{◌≡◌, ℕ, ◌+◌, List, [], ◌∷◌, ◌++◌, length, map, refl, sym, ap, ◌∙◌, append_assoc, length-append, Option, Some, None}
use Rattle.std.specs.Option.{option_map}
use Rattle.std.specs.Prelude.{Result, Ok, Err, ◌==◌, if◌then◌else◌}
use Rattle.std.specs.List.{filter_map, range_with_len, cons_option}
use Rattle.std.proofs.lemmas.List.{take_at, append-nil, map-append, length-map}
use Rattle.std.proofs.Math.Seq.{get_or-append_seam}
use Rattle.otp_words.specs.declared.fault.DictRule.{DictRule}
use Rattle.otp_words.specs.declared.fault.DictRule.TheVariants as rules_of
use Rattle.otp_words.specs.declared.fault.DictFault.{DictFault}
use Rattle.otp_words.specs.Lists.{rule_of, fault_at, fault_of, judged, dictionary_of}
use Rattle.std.specs.Str.Lines.{lines}
use Rattle.std.specs.Str.{str_to_ascii_uppercase}

-- the fault of a rule that is broken, or else what follows
abbrev pub refused_or : Option DictRule → ℕ → Result (List (List ℕ)) DictFault → Result (List (List ℕ)) DictFault
refused_or None number next = next
refused_or (Some rule) number next = Err (fault_at number rule)

-- the words of lines, or their first fault, after the words of the lines before
abbrev pub walked : List (List ℕ) → List (List ℕ) → Result (List (List ℕ)) DictFault
walked earlier [] = if length earlier == 2048 then Ok earlier else Err (fault_at (length earlier) rules_of.Count)
walked earlier (line ∷ rest) = refused_or (rule_of earlier line) (length earlier + 1) (walked (earlier ++ str_to_ascii_uppercase line ∷ []) rest)

-- a line's fault comes before those of later lines
judged_case : (all : List (List ℕ)) (number : ℕ) (rule : Option DictRule) (faults : List DictFault) (next : Result (List (List ℕ)) DictFault) → next ≡ judged all faults → refused_or rule number next ≡ judged all (cons_option (option_map (fault_at number) rule) faults)
judged_case all number None faults next e = e
judged_case all number (Some rule) faults next e = refl

-- the fault of the line after others
fault_here : (earlier : List (List ℕ)) (line : List ℕ) (rest : List (List ℕ)) → option_map (fault_at (length (map str_to_ascii_uppercase earlier) + 1)) (rule_of (map str_to_ascii_uppercase earlier) line) ≡ fault_of (earlier ++ line ∷ rest) (length earlier)
fault_here earlier line rest =
    rw (length-map earlier str_to_ascii_uppercase, take_at earlier (line ∷ rest) (length earlier) refl, get_or-append_seam earlier line rest []) refl

-- the lines from one on are judged after the words of those before
walked_all : (earlier rest : List (List ℕ)) → walked (map str_to_ascii_uppercase earlier) rest ≡ judged (earlier ++ rest) (filter_map (fault_of (earlier ++ rest)) (range_with_len (length earlier) (length rest)))
walked_all earlier [] = rw (append-nil earlier, length-map earlier str_to_ascii_uppercase) refl
walked_all earlier (line ∷ rest) =
    let all : List (List ℕ) = earlier ++ line ∷ rest in
    let more : List (List ℕ) = earlier ++ line ∷ [] in
    let faults : List DictFault = filter_map (fault_of all) (range_with_len (length earlier + 1) (length rest)) in
    let joined : more ++ rest ≡ all = append_assoc earlier (line ∷ []) rest in
    let long : length more ≡ length earlier + 1 = length-append earlier (line ∷ []) in
    let words : map str_to_ascii_uppercase earlier ++ str_to_ascii_uppercase line ∷ [] ≡ map str_to_ascii_uppercase more = sym (map-append str_to_ascii_uppercase earlier (line ∷ [])) in
    let next : walked (map str_to_ascii_uppercase earlier ++ str_to_ascii_uppercase line ∷ []) rest ≡ judged all faults =
    ap (λ (w : List (List ℕ)). walked w rest) words
    ∙ walked_all more rest
    ∙ ap (λ (x : List (List ℕ)). judged x (filter_map (fault_of x) (range_with_len (length more) (length rest)))) joined
    ∙ ap (λ (n : ℕ). judged all (filter_map (fault_of all) (range_with_len n (length rest)))) long in
    judged_case all (length (map str_to_ascii_uppercase earlier) + 1) (rule_of (map str_to_ascii_uppercase earlier) line) faults _ next
    ∙ ap (λ (f : Option DictFault). judged all (cons_option f faults)) (fault_here earlier line rest)

-- the words of a text's lines, or the first fault
pub walked-lines : (text : List ℕ) → walked [] (lines text) ≡ dictionary_of text
unfolding dictionary_of
walked-lines text = walked_all [] (lines text)
