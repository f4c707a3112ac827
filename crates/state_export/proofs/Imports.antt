-- The import record that bytes spell, and the bytes that spell it.
use Rattle.std.proofs.Common.{◌≡◌, ℕ, ◌^◌, ◌<◌, ◌≤◌, Bool, true, leb, List, [], ◌∷◌, ◌++◌, length, take, drop, Result, Ok, Err, refl, sym, ap, subst, ◌∙◌, arith}
use Rattle.std.specs.Prelude.{IfOk, IsOkAnd, MatchResult, slice_index}
use Rattle.std.specs.Bool.{then_some}
use Rattle.std.specs.Int.{w32, to_le_bytes}
use Rattle.std.proofs.lemmas.Bool.{leb-true, le-leb}
use Rattle.std.proofs.lemmas.List.{take-append-drop, length-append, length-take-le, take_at, drop_at}
use Rattle.std.proofs.lemmas.Nat.{from_le_bytes-to_le_bytes_4}
use Rattle.request_catalogue.specs.Fields.{number_at}
use Rattle.request_catalogue.specs.Results.{demand, ◌>>=◌}
use Rattle.request_catalogue.specs.Texts.{is_name}
use Rattle.request_catalogue.specs.TextBytes.{name_bytes}
use Rattle.request_catalogue.proofs.Numbers.{IsBytes, wide32, number_at-below, to_le_bytes-number_at}
use Rattle.state_export.specs.declared.fault.ImportFault.{ImportFault}
use Rattle.state_export.specs.declared.fault.ImportFault.TheVariants.{Head}
use Rattle.state_export.specs.declared.fault.StateFault.{StateFault}
use Rattle.state_export.specs.declared.import.Import.{Import}
use Rattle.state_export.specs.Reading.{import_of, imported, state_of}
use Rattle.state_export.specs.Spelling.{ImportValue, IsImport, StateValue, import_bytes, import_value, state_bytes}
use Rattle.state_export.proofs.Fields.{after, behind_is_bytes}
use Rattle.state_export.proofs.States.{state_read, state_written}

-- a record that was made of what a state is read as
made : (uid : ℕ) (user : List ℕ) (r : Result StateValue StateFault) (v : ImportValue) → imported uid user r ≡ Ok v → (state : StateValue) × (r ≡ Ok state) × (record { uid = uid; user = user; state = state } ≡ v)
made uid user (Ok state) v e = (state, refl, cc)
made uid user (Err fault) v e = absurd cc

-- five bytes or more, by the number in the first four and the byte after them
parted : (bytes : List ℕ) → IsBytes bytes → 5 ≤ length bytes → bytes ≡ to_le_bytes w32 (number_at w32 0 bytes) ++ slice_index bytes 4 ∷ drop 5 bytes
parted (a ∷ b ∷ c ∷ d ∷ e ∷ rest) fits long = let first : to_le_bytes w32 (number_at w32 0 (a ∷ b ∷ c ∷ d ∷ e ∷ rest)) ≡ a ∷ b ∷ c ∷ d ∷ [] = to_le_bytes-number_at w32 (2 ^ 32) 0 (a ∷ b ∷ c ∷ d ∷ e ∷ rest) wide32 fits (omega arith) in ap (λ (x : List ℕ). x ++ e ∷ rest) (sym first)
parted [] fits long = absurd (omega arith)
parted (a ∷ []) fits long = absurd (omega arith)
parted (a ∷ b ∷ []) fits long = absurd (omega arith)
parted (a ∷ b ∷ c ∷ []) fits long = absurd (omega arith)
parted (a ∷ b ∷ c ∷ d ∷ []) fits long = absurd (omega arith)

-- what is read after the head
abbrev named : List ℕ → List ℕ → Result ImportValue ImportFault
named bytes user = demand Head (then_some (is_name user) user) >>= (λ name. imported (number_at w32 0 bytes) name (state_of (drop (slice_index bytes 4) (drop 5 bytes))))

-- an import record that is read is in range and spelled so
pub import_read : (bytes : List ℕ) (v : ImportValue) → IsBytes bytes → import_of bytes ≡ Ok v → IsImport v × (bytes ≡ import_bytes v.uid v.user (state_bytes v.state))
unfolding import_of import_bytes
import_read bytes v fits e =
    let len = slice_index bytes 4 in
    let rest = drop 5 bytes in
    let head = after Head (leb 5 (length bytes)) bytes (λ there. demand Head (then_some (leb (slice_index there 4) (length (drop 5 there))) (take (slice_index there 4) (drop 5 there))) >>= (λ user. demand Head (then_some (is_name user) user) >>= (λ name. imported (number_at w32 0 there) name (state_of (drop (slice_index there 4) (drop 5 there)))))) v e in
    let cut = after Head (leb len (length rest)) (take len rest) (named bytes) v head.1 in
    let name = after Head (is_name (take len rest)) (take len rest) (λ x. imported (number_at w32 0 bytes) x (state_of (drop len rest))) v cut.1 in
    let all = made (number_at w32 0 bytes) (take len rest) (state_of (drop len rest)) v name.1 in
    let state = state_read (drop len rest) all.0 (behind_is_bytes len rest (behind_is_bytes 5 bytes fits)) all.1 in
    let same : length (take len rest) ≡ len = length-take-le len rest (leb-true len (length rest) cut.0) in
    let joined : rest ≡ take len rest ++ state_bytes all.0 = sym (take-append-drop len rest) ∙ ap (λ (x : List ℕ). take len rest ++ x) state.1 in
    let spelled : bytes ≡ to_le_bytes w32 (number_at w32 0 bytes) ++ length (take len rest) ∷ take len rest ++ state_bytes all.0 =
    parted bytes fits (leb-true 5 (length bytes) head.0)
    ∙ ap (λ (x : List ℕ). to_le_bytes w32 (number_at w32 0 bytes) ++ len ∷ x) joined
    ∙ ap (λ (n : ℕ). to_le_bytes w32 (number_at w32 0 bytes) ++ n ∷ take len rest ++ state_bytes all.0) (sym same) in
    let range : IsImport (record { uid = number_at w32 0 bytes; user = take len rest; state = all.0 }) = record { uid = number_at-below w32 (2 ^ 32) 0 bytes wide32 fits; user = name.0; state = state.0 } in
    subst (λ (x : ImportValue). IsImport x × (bytes ≡ import_bytes x.uid x.user (state_bytes x.state))) all.2 (range, spelled)

-- what is spelled is read as its head and what its state is read as
pub import_written : (uid : ℕ) (user state : List ℕ) → uid < 2 ^ 32 → is_name user ≡ true → import_of (import_bytes uid user state) ≡ imported uid user (state_of state)
unfolding import_of import_bytes number_at
import_written uid user state small legal =
    let bytes = import_bytes uid user state in
    let five : leb 5 (length bytes) ≡ true = le-leb 5 (length bytes) (omega arith) in
    let fits : leb (length user) (length (user ++ state)) ≡ true = le-leb (length user) (length (user ++ state)) (omega (arith, length-append user state)) in
    let first : take (length user) (user ++ state) ≡ user = take_at user state (length user) refl in
    let rest : drop (length user) (user ++ state) ≡ state = drop_at user state (length user) refl in
    let number : number_at w32 0 bytes ≡ uid = from_le_bytes-to_le_bytes_4 uid small in
    ap (λ (t : Bool). demand Head (then_some t bytes) >>= (λ there. demand Head (then_some (leb (slice_index there 4) (length (drop 5 there))) (take (slice_index there 4) (drop 5 there))) >>= (λ x. demand Head (then_some (is_name x) x) >>= (λ name. imported (number_at w32 0 there) name (state_of (drop (slice_index there 4) (drop 5 there))))))) five
    ∙ ap (λ (t : Bool). demand Head (then_some t (take (length user) (user ++ state))) >>= (λ x. demand Head (then_some (is_name x) x) >>= (λ name. imported (number_at w32 0 bytes) name (state_of (drop (length user) (user ++ state)))))) fits
    ∙ ap (λ (u : List ℕ). demand Head (then_some (is_name u) u) >>= (λ name. imported (number_at w32 0 bytes) name (state_of (drop (length user) (user ++ state))))) first
    ∙ ap (λ (t : Bool). demand Head (then_some t user) >>= (λ name. imported (number_at w32 0 bytes) name (state_of (drop (length user) (user ++ state))))) legal
    ∙ ap (λ (n : ℕ). imported n user (state_of (drop (length user) (user ++ state)))) number
    ∙ ap (λ (x : List ℕ). imported uid user (state_of x)) rest

-- an import record in range that is spelled is read
whole_written : (v : ImportValue) → IsImport v → import_of (import_bytes v.uid v.user (state_bytes v.state)) ≡ Ok v
whole_written v range = import_written v.uid v.user (state_bytes v.state) range.uid range.user ∙ ap (λ (r : Result StateValue StateFault). imported v.uid v.user r) (state_written v.state range.state)

-- what was read is in range and spelled so
pub is_found : (bytes : List ℕ) (r : Result Import ImportFault) → IsBytes bytes → MatchResult r (λ i. import_of bytes ≡ Ok (import_value i)) (λ e. import_of bytes ≡ Err e) → IfOk r (λ i. IsImport (import_value i) × (bytes ≡ import_bytes i.uid (name_bytes i.user) (state_bytes (import_value i).state)))
is_found bytes (Ok i) fits given = import_read bytes (import_value i) fits given
is_found bytes (Err e) fits given = tt

-- what is in range and spelled so was read
pub is_only : (bytes : List ℕ) (r : Result Import ImportFault) → MatchResult r (λ i. import_of bytes ≡ Ok (import_value i)) (λ e. import_of bytes ≡ Err e) → (v : ImportValue) → IsImport v → bytes ≡ import_bytes v.uid v.user (state_bytes v.state) → IsOkAnd r (λ i. import_value i ≡ v)
is_only bytes (Ok i) given v range same = let again : import_of bytes ≡ Ok v = ap import_of same ∙ whole_written v range in cc
is_only bytes (Err e) given v range same = let again : import_of bytes ≡ Ok v = ap import_of same ∙ whole_written v range in absurd cc

-- a record that stands at the front is read
pub is_read_back : (uid : ℕ) (user state : List ℕ) → uid < 2 ^ 32 → is_name user ≡ true → (n : ℕ) (out old : List ℕ) → n ≡ length (import_bytes uid user state) → out ≡ import_bytes uid user state ++ drop n old → import_of (take n out) ≡ imported uid user (state_of state)
is_read_back uid user state small legal n out old len written =
    ap (λ (x : List ℕ). import_of (take n x)) written ∙ ap import_of (take_at (import_bytes uid user state) (drop n old) n (sym len)) ∙ import_written uid user state small legal
