-- The state that bytes spell, and the bytes that spell it.
use Rattle.std.proofs.Common.{◌≡◌, ℕ, ◌^◌, eqb, List, [], ◌++◌, codes, length, take, drop, Result, Ok, Err, lit<, lit≤, sym, ap, subst, ◌∙◌, append_assoc, arith}
use Rattle.std.specs.Bool.{then_some}
use Rattle.std.specs.Int.{w32, to_le_bytes}
use Rattle.std.specs.Str.{bytes_eq}
use Rattle.std.specs.Prelude.{IfOk, IsOkAnd, MatchResult}
use Rattle.std.proofs.lemmas.Bool.{eqb-true}
use Rattle.std.proofs.lemmas.List.{append-nil, nil_from_length, take-append-drop, take_at}
use Rattle.std.proofs.lemmas.Nat.{from_le_bytes-to_le_bytes_4}
use Rattle.std.proofs.lemmas.Slice.Eq.{bytes_eq-Decides}
use Rattle.request_catalogue.specs.Fields.{number_at}
use Rattle.request_catalogue.proofs.Numbers.{IsBytes, wide32, last_number, number_at-below, to_le_bytes-number_at}
use Rattle.request_catalogue.specs.Results.{demand, ◌>>=◌}
use Rattle.state_export.specs.declared.fault.StateFault.{StateFault}
use Rattle.state_export.specs.declared.fault.StateFault.TheVariants.{Magic, Trailing}
use Rattle.state_export.specs.declared.state.State.{State}
use Rattle.state_export.specs.Reading.{Field, field_of, state_of}
use Rattle.state_export.specs.Spelling.{IsState, StateValue, counts_bytes, field_bytes, state_bytes, value_of}
use Rattle.state_export.proofs.Fields.{IsField, after, bound, demanded, field_read, field_written, field_is_bytes, behind_is_bytes}

-- what is read of three fields
abbrev read_of : Field → Field → Field → StateValue
read_of terminal unread counts = record { terminal = terminal.content; unread = unread.content; lines = number_at w32 0 counts.content; bytes = number_at w32 4 counts.content }

-- nothing stands after the last field
abbrev ended : Field → Field → Field → Result StateValue StateFault
ended terminal unread counts = demand Trailing (then_some (eqb (length counts.behind) 0) (read_of terminal unread counts))

abbrev behind_two : Field → Field → Result StateValue StateFault
behind_two terminal unread = field_of 3 8 8 unread.behind >>= ended terminal unread

abbrev behind_one : Field → Result StateValue StateFault
behind_one terminal = field_of 2 0 4096 terminal.behind >>= behind_two terminal

-- four parts, one after the other
grouped : (a b c d : List ℕ) → a ++ (b ++ (c ++ d)) ≡ a ++ b ++ c ++ d
grouped a b c d = sym (append_assoc a b (c ++ d)) ∙ sym (append_assoc (a ++ b) c d)

-- eight bytes are the two numbers in them
two_counts : (content : List ℕ) → IsBytes content → length content ≡ 8 → to_le_bytes w32 (number_at w32 0 content) ++ to_le_bytes w32 (number_at w32 4 content) ≡ content
two_counts content fits len =
    let first : to_le_bytes w32 (number_at w32 0 content) ≡ take 4 content = to_le_bytes-number_at w32 (2 ^ 32) 0 content wide32 fits (omega arith) in
    let second : to_le_bytes w32 (number_at w32 4 content) ≡ drop 4 content = last_number w32 (2 ^ 32) 4 content wide32 fits (omega arith) in
    ap (λ (x : List ℕ). x ++ to_le_bytes w32 (number_at w32 4 content)) first ∙ ap (λ (x : List ℕ). take 4 content ++ x) second ∙ take-append-drop 4 content

-- three fields after `OTS1`, with nothing after them, spell what is read of them
spelled : (bytes : List ℕ) (terminal unread counts : Field) → IsBytes bytes → take 4 bytes ≡ codes "OTS1" → IsField 1 0 64 (drop 4 bytes) terminal → IsField 2 0 4096 terminal.behind unread → IsField 3 8 8 unread.behind counts → counts.behind ≡ [] → IsBytes counts.content → IsState (read_of terminal unread counts) × (bytes ≡ state_bytes (read_of terminal unread counts))
unfolding state_bytes
spelled bytes terminal unread counts fits magic one two three nothing whole =
    let v = read_of terminal unread counts in
    let last : field_bytes 3 counts.content ≡ field_bytes 3 (counts_bytes v) = ap (λ (x : List ℕ). field_bytes 3 x) (sym (two_counts counts.content whole (omega (arith, three.least, three.most)))) in
    let behind : unread.behind ≡ field_bytes 3 (counts_bytes v) = three.spelled ∙ ap (λ (x : List ℕ). field_bytes 3 counts.content ++ x) nothing ∙ append-nil (field_bytes 3 counts.content) ∙ last in
    let rest : drop 4 bytes ≡ field_bytes 1 terminal.content ++ (field_bytes 2 unread.content ++ field_bytes 3 (counts_bytes v)) = one.spelled ∙ ap (λ (x : List ℕ). field_bytes 1 terminal.content ++ x) (two.spelled ∙ ap (λ (x : List ℕ). field_bytes 2 unread.content ++ x) behind) in (
      record {
        terminal = one.most;
        unread = two.most;
        lines = number_at-below w32 (2 ^ 32) 0 counts.content wide32 whole;
        bytes = number_at-below w32 (2 ^ 32) 4 counts.content wide32 whole;
      },
      sym (take-append-drop 4 bytes) ∙ ap (λ (x : List ℕ). x ++ drop 4 bytes) magic ∙ ap (λ (x : List ℕ). codes "OTS1" ++ x) rest ∙ grouped (codes "OTS1") (field_bytes 1 terminal.content) (field_bytes 2 unread.content) (field_bytes 3 (counts_bytes v)),
    )

-- a state that is read is in range and spelled so
pub state_read : (bytes : List ℕ) (v : StateValue) → IsBytes bytes → state_of bytes ≡ Ok v → IsState v × (bytes ≡ state_bytes v)
unfolding state_of
state_read bytes v fits e =
    let magic = after Magic (bytes_eq (take 4 bytes) (codes "OTS1")) (drop 4 bytes) (λ fields. field_of 1 0 64 fields >>= behind_one) v e in
    let first = bound (field_of 1 0 64 (drop 4 bytes)) behind_one v magic.1 in
    let second = bound (field_of 2 0 4096 first.0.behind) (behind_two first.0) v first.2 in
    let third = bound (field_of 3 8 8 second.0.behind) (ended first.0 second.0) v second.2 in
    let end = demanded Trailing (eqb (length third.0.behind) 0) (read_of first.0 second.0 third.0) v third.2 in
    let here : IsBytes (drop 4 bytes) = behind_is_bytes 4 bytes fits in
    let one = field_read 1 0 64 (drop 4 bytes) first.0 here first.1 in
    let two = field_read 2 0 4096 first.0.behind second.0 (field_is_bytes 1 0 64 (drop 4 bytes) first.0 here one).1 second.1 in
    let three = field_read 3 8 8 second.0.behind third.0 (field_is_bytes 2 0 4096 first.0.behind second.0 (field_is_bytes 1 0 64 (drop 4 bytes) first.0 here one).1 two).1 third.1 in
    let whole = (field_is_bytes 3 8 8 second.0.behind third.0 (field_is_bytes 2 0 4096 first.0.behind second.0 (field_is_bytes 1 0 64 (drop 4 bytes) first.0 here one).1 two).1 three).0 in
    let all = spelled bytes first.0 second.0 third.0 fits ((bytes_eq-Decides (take 4 bytes) (codes "OTS1")).0 magic.0) one two three (nil_from_length third.0.behind (eqb-true (length third.0.behind) 0 end.0)) whole in
    subst (λ (x : StateValue). IsState x × (bytes ≡ state_bytes x)) end.1 all

-- a state in range that is spelled is read
pub state_written : (v : StateValue) → IsState v → state_of (state_bytes v) ≡ Ok v
unfolding state_of state_bytes number_at
state_written v range =
    let one = field_bytes 1 v.terminal in
    let two = field_bytes 2 v.unread in
    let three = field_bytes 3 (counts_bytes v) in
    let terminal : Field = record { content = v.terminal; behind = two ++ three } in
    let unread : Field = record { content = v.unread; behind = three } in
    let counts : Field = record { content = counts_bytes v; behind = [] } in
    let first : field_of 1 0 64 (one ++ (two ++ three)) ≡ Ok terminal = field_written 1 0 64 v.terminal (two ++ three) (omega arith) range.terminal (lit< tt) in
    let second : field_of 2 0 4096 (two ++ three) ≡ Ok unread = field_written 2 0 4096 v.unread three (omega arith) range.unread (lit< tt) in
    let third : field_of 3 8 8 (three ++ []) ≡ Ok counts = field_written 3 8 8 (counts_bytes v) [] (lit≤ tt) (lit≤ tt) (lit< tt) in
    let lines : number_at w32 0 (counts_bytes v) ≡ v.lines = from_le_bytes-to_le_bytes_4 v.lines range.lines in
    let bytes : number_at w32 4 (counts_bytes v) ≡ v.bytes = from_le_bytes-to_le_bytes_4 v.bytes range.bytes in
    ap (λ (x : List ℕ). field_of 1 0 64 x >>= behind_one) (append_assoc one two three)
    ∙ ap (λ (r : Result Field StateFault). r >>= behind_one) first
    ∙ ap (λ (r : Result Field StateFault). r >>= behind_two terminal) second
    ∙ ap (λ (x : List ℕ). field_of 3 8 8 x >>= ended terminal unread) (sym (append-nil three))
    ∙ ap (λ (r : Result Field StateFault). r >>= ended terminal unread) third
    ∙ ap (λ (n : ℕ). Ok (record { terminal = v.terminal; unread = v.unread; lines = n; bytes = number_at w32 4 (counts_bytes v) })) lines
    ∙ ap (λ (n : ℕ). Ok (record { terminal = v.terminal; unread = v.unread; lines = v.lines; bytes = n })) bytes

-- what was read is in range and spelled so
pub is_found : (bytes : List ℕ) (r : Result State StateFault) → IsBytes bytes → MatchResult r (λ s. state_of bytes ≡ Ok (value_of s)) (λ e. state_of bytes ≡ Err e) → IfOk r (λ s. IsState (value_of s) × (bytes ≡ state_bytes (value_of s)))
is_found bytes (Ok s) fits given = state_read bytes (value_of s) fits given
is_found bytes (Err e) fits given = tt

-- what is in range and spelled so was read
pub is_only : (bytes : List ℕ) (r : Result State StateFault) → MatchResult r (λ s. state_of bytes ≡ Ok (value_of s)) (λ e. state_of bytes ≡ Err e) → (v : StateValue) → IsState v → bytes ≡ state_bytes v → IsOkAnd r (λ s. value_of s ≡ v)
is_only bytes (Ok s) given v range same = let again : state_of bytes ≡ Ok v = ap state_of same ∙ state_written v range in cc
is_only bytes (Err e) given v range same = let again : state_of bytes ≡ Ok v = ap state_of same ∙ state_written v range in absurd cc

-- a state that stands at the front is read
pub is_read_back : (v : StateValue) → IsState v → (n : ℕ) (out old : List ℕ) → n ≡ length (state_bytes v) → out ≡ state_bytes v ++ drop n old → state_of (take n out) ≡ Ok v
is_read_back v range n out old len written =
    ap (λ (x : List ℕ). state_of (take n x)) written ∙ ap state_of (take_at (state_bytes v) (drop n old) n (sym len)) ∙ state_written v range
