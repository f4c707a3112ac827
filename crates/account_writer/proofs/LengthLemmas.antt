-- The file of a setup has at most 8,388,608 bytes.
use Rattle.std.proofs.Common.{◌≡◌, ℕ, suc, ◌+◌, ◌*◌, ◌/◌, ◌%◌, ◌≤◌, ◌<◌, ◌^◌, Bool, true, false, cond, ◌&&◌, ◌==◌, List, [], ◌∷◌, ◌++◌, map, length, nat_le, codes, refl, sym, ap, subst, append-nil, length-append, leb-true, lit≤, lt_of_le_of_lt, arith, w64}
use Rattle.std.specs.Char.{is_ascii_lowercase}
use Rattle.std.specs.Fmt.{digit_glyph}
use Rattle.std.specs.Int.{to_be_bytes}
use Rattle.std.specs.List.{list_all}
use Rattle.std.proofs.lemmas.Bool.{and_from, and_parts, false≢true}
use Rattle.std.proofs.lemmas.Bool.Decides.{nat_tests}
use Rattle.std.proofs.lemmas.Fmt.{length-decimal-le}
use Rattle.hex.specs.Hex.{lower_digits}
use Rattle.hex.proofs.HexLemmas.{length-encode_with}
use Rattle.toml_writer.specs.Text.{Encoding, basic, dotted_text, encoded, encoding_of, escape_letter, escape_text, escaped, has, key_text, literal, multi_basic, multi_literal, needs_escape, opening_newline, quotes_after, string_text}
use Rattle.toml.specs.Data.{Data, Members, array, boolean, member, no_items, no_members, string}
use Rattle.toml.specs.Tables.{Expression, array_table, key_value}
use Rattle.toml.specs.Text.{IsDocumentText, IsItemsText, IsLineText, IsLinesText, IsValueText, are_tables, before_item, breaks_lines, elements, is_section, pairs, sections}
use Rattle.toml.specs.View.{items_of}
use Rattle.otp_hash.specs.declared.chain.Algo.{Algo}
use Rattle.otp_hash.specs.declared.chain.Algo.TheVariants as algos
use Rattle.otp_hash.specs.declared.seed.Seed.{Seed}
use Rattle.otp_hash.specs.Names.{algo_name}
use Rattle.otp_hash.specs.Seeds.{is_seed, is_seed_byte}
use Rattle.otp_hash.specs.SeedBytes.{seed_bytes}
use Rattle.request_catalogue.specs.declared.texts.Label.{Label}
use Rattle.request_catalogue.specs.declared.texts.Name.{Name}
use Rattle.request_catalogue.specs.declared.width.Width.{Width}
use Rattle.request_catalogue.specs.declared.width.Width.TheVariants.{Narrow, Wide}
use Rattle.request_catalogue.specs.TextBytes.{label_bytes, name_bytes}
use Rattle.request_catalogue.specs.Texts.{begins_name, continues_label, continues_name, is_label, is_name, is_printable, is_text}
use Rattle.policy_model.specs.declared.account.Account.{Account}
use Rattle.policy_model.specs.declared.account.Grant.{Grant}
use Rattle.policy_model.specs.Settings.{IsInRange, Settings, are_grants, are_numbers, are_texts, is_account, is_number, password_text}
use Rattle.account_writer.specs.Puts.{account_members, number}
use Rattle.account_writer.specs.Tables.{account_data, grant_data, other_members, setup_members, width_word}
use Rattle.account_writer.proofs.LineLemmas.{Key, accounts_key, setup_lines}

-- 1. Strings

of_two : (b : Bool) (n : ℕ) (xs ys : List ℕ) → length xs ≤ n → length ys ≤ n → length (cond b xs ys) ≤ n
of_two true n xs ys one other = one
of_two false n xs ys one other = other

escape_short : (c : ℕ) → length (escape_text c) ≤ 6
escape_short c =
    of_two (escape_letter c == 0) 6 (codes "\\u00" ++ digit_glyph true (c / 16) ∷ digit_glyph true (c % 16) ∷ [])
    (92 ∷ escape_letter c ∷ []) (omega arith) (omega arith)

byte_short : (multi : Bool) (quotes c : ℕ)
    → length (cond (needs_escape multi quotes c) (escape_text c) (c ∷ [])) ≤ 6
byte_short multi quotes c =
    of_two (needs_escape multi quotes c) 6 (escape_text c) (c ∷ []) (escape_short c) (omega arith)

-- the content of a string takes at most six bytes for each of its own
escaped_short : (multi : Bool) (quotes : ℕ) (s : List ℕ) → length (escaped multi quotes s) ≤ 6 * length s
unfolding escaped
escaped_short multi quotes [] = omega arith
escaped_short multi quotes (c ∷ cs) =
    let first = cond (needs_escape multi quotes c) (escape_text c) (c ∷ []) in
    let rest = escaped multi (quotes_after multi quotes c) cs in
    omega (
      arith,
      byte_short multi quotes c,
      length-append first rest,
      escaped_short multi (quotes_after multi quotes c) cs,
    )

-- a byte of a label is never escaped
plain_byte : (multi : Bool) (quotes c : ℕ) → continues_label c ≡ true → needs_escape multi quotes c ≡ false
unfolding needs_escape
plain_byte multi quotes c legal = grind (arith, nat_tests, legal)

escaped_plain : (multi : Bool) (quotes : ℕ) (s : List ℕ) → list_all continues_label s ≡ true
    → length (escaped multi quotes s) ≤ length s
unfolding escaped
escaped_plain multi quotes [] legal = omega arith
escaped_plain multi quotes (c ∷ cs) legal =
    let parts = and_parts (continues_label c) (list_all continues_label cs) legal in
    let rest = escaped multi (quotes_after multi quotes c) cs in
    let first : cond (needs_escape multi quotes c) (escape_text c) (c ∷ []) ≡ c ∷ [] =
    ap (λ (b : Bool). cond b (escape_text c) (c ∷ [])) (plain_byte multi quotes c parts.0) in
    omega (
      arith,
      ap (λ (xs : List ℕ). length (xs ++ rest)) first,
      escaped_plain multi (quotes_after multi quotes c) cs parts.1,
    )

opening_short : (s : List ℕ) → length (opening_newline s) ≤ 1
opening_short s = of_two (has 10 s) 1 (10 ∷ []) [] (omega arith) (omega arith)

-- a string has at most seven bytes besides its content
encoded_short : (e : Encoding) (s : List ℕ) (n : ℕ) → ((multi : Bool) → length (escaped multi 0 s) ≤ n)
    → length s ≤ n → length (encoded e s) ≤ n + 7
encoded_short basic s n inside few = omega (arith, inside false, length-append (escaped false 0 s) (34 ∷ []))
encoded_short literal s n inside few = omega (arith, few, length-append s (39 ∷ []))
encoded_short multi_basic s n inside few =
    omega (
      arith,
      inside true,
      opening_short s,
      length-append (opening_newline s) (escaped true 0 s ++ codes "\"\"\""),
      length-append (escaped true 0 s) (codes "\"\"\""),
    )
encoded_short multi_literal s n inside few =
    omega (
      arith,
      few,
      opening_short s,
      length-append (opening_newline s) (s ++ codes "'''"),
      length-append s (codes "'''"),
    )

-- 2. Values

-- the text of a value has at most m bytes
record IsShort (d : Data) (m : ℕ) : Type 0 where
  most : (text : List ℕ) → IsValueText false d text → length text ≤ m

string_by : (s : List ℕ) (n m : ℕ) → ((multi : Bool) → length (escaped multi 0 s) ≤ n) → length s ≤ n → n + 7 ≤ m
    → IsShort (string s) m
unfolding string_text
string_by s n m inside few room =
    record { most = λ text is. omega (arith, room, ap length is, encoded_short (encoding_of s) s n inside few) }

-- a string of at most n bytes
any_string : (s : List ℕ) (n : ℕ) → length s ≤ n → IsShort (string s) (6 * n + 7)
any_string s n few =
    string_by s (6 * n) (6 * n + 7) (λ multi. omega (arith, few, escaped_short multi 0 s)) (omega (arith, few))
    (omega arith)

-- a label's string
label_byte : (c : ℕ) → is_ascii_lowercase c ≡ true → continues_label c ≡ true
label_byte c lower = grind (arith, nat_tests, lower)

label_parts : (bytes : List ℕ) → is_label bytes ≡ true
    → (list_all continues_label bytes ≡ true) × (length bytes ≤ 64)
unfolding is_label
label_parts [] legal = absurd (false≢true legal)
label_parts (c ∷ cs) legal =
    let parts = and_parts (nat_le (length (c ∷ cs)) 64 && is_ascii_lowercase c) (list_all continues_label cs) legal in
    let first = and_parts (nat_le (length (c ∷ cs)) 64) (is_ascii_lowercase c) parts.0 in
    (and_from _ _ (label_byte c first.1) parts.1, leb-true (length (c ∷ cs)) 64 first.0)

label_short : (l : Label) → IsShort (string (label_bytes l)) 71
label_short l =
    let parts = label_parts (label_bytes l) l.legal in
    string_by (label_bytes l) 64 71 (λ multi. omega (arith, parts.1, escaped_plain multi 0 (label_bytes l) parts.0))
    parts.1 (omega arith)

name_few : (bytes : List ℕ) → is_name bytes ≡ true → length bytes ≤ 32
unfolding is_name
name_few [] legal = omega arith
name_few (c ∷ cs) legal =
    let parts = and_parts (nat_le (length (c ∷ cs)) 32 && begins_name c) (list_all continues_name cs) legal in
    leb-true (length (c ∷ cs)) 32 (and_parts (nat_le (length (c ∷ cs)) 32) (begins_name c) parts.0).0

name_short : (n : Name) → IsShort (string (name_bytes n)) 199
name_short n = any_string (name_bytes n) 32 (name_few (name_bytes n) n.legal)

seed_few : (bytes : List ℕ) → is_seed bytes ≡ true → length bytes ≤ 16
unfolding is_seed
seed_few bytes legal =
    let parts = and_parts (nat_le 1 (length bytes) && nat_le (length bytes) 16) (list_all is_seed_byte bytes) legal in
    leb-true (length bytes) 16 (and_parts (nat_le 1 (length bytes)) (nat_le (length bytes) 16) parts.0).1

seed_short : (s : Seed) → IsShort (string (seed_bytes s)) 103
seed_short s = any_string (seed_bytes s) 16 (seed_few (seed_bytes s) s.legal)

text_short : (low high : ℕ) (bytes : List ℕ) → is_text low high bytes ≡ true
    → IsShort (string bytes) (6 * high + 7)
text_short low high bytes legal =
    let parts = and_parts (nat_le low (length bytes) && nat_le (length bytes) high) (list_all is_printable bytes) legal
    in
    let first = and_parts (nat_le low (length bytes)) (nat_le (length bytes) high) parts.0 in
    any_string bytes high (leb-true (length bytes) high first.1)

password_short : (password : ℕ) → IsShort (string (password_text password)) 103
password_short password =
    let same = length-encode_with lower_digits (to_be_bytes w64 password) in
    let eight : length (to_be_bytes w64 password) ≡ 8 = refl in
    any_string (password_text password) 16 (omega (arith, same, eight))

algo_short : (a : Algo) → IsShort (string (algo_name a)) 31
algo_short algos.Md5 = any_string (codes "md5") 4 (lit≤ tt)
algo_short algos.Sha1 = any_string (codes "sha1") 4 (lit≤ tt)

width_short : (w : Width) → IsShort (string (width_word w)) 43
width_short Narrow = any_string (codes "narrow") 6 (lit≤ tt)
width_short Wide = any_string (codes "wide") 6 (lit≤ tt)

bool_short : (b : Bool) → IsShort (boolean b) 5
bool_short true = record { most = λ text is. subst (λ (t : List ℕ). length t ≤ 5) (sym is) (lit≤ tt) }
bool_short false = record { most = λ text is. subst (λ (t : List ℕ). length t ≤ 5) (sym is) (lit≤ tt) }

-- a number below a power of ten
number_short : (k n : ℕ) → 0 < k → n < 10 ^ k → n < 2 ^ 64 → IsShort (number n) k
number_short k n some fits small =
    record { most = λ text is. omega (arith, ap length is.0, length-decimal-le k n some fits small) }

-- 3. Numbers of information, on one line

unbroken : (info : List ℕ) → breaks_lines false (items_of (map number info)) ≡ false
unbroken [] = refl
unbroken (n ∷ []) = refl
unbroken (n ∷ m ∷ info) = refl

before_short : (is_first : Bool) → length (before_item false is_first) ≤ 2
before_short true = lit≤ tt
before_short false = lit≤ tt

items_short : (is_first : Bool) (info : List ℕ) (text : List ℕ) → list_all (is_number 1 1000) info ≡ true
    → IsItemsText false false is_first (items_of (map number info)) text → length text ≤ 6 * length info + 1
items_short is_first [] text legal is = omega (arith, ap length is)
items_short is_first (n ∷ info) text legal h =
    let parts = and_parts (is_number 1 1000 n) (list_all (is_number 1 1000) info) legal in
    let small : n ≤ 1000 = leb-true n 1000 (and_parts (nat_le 1 n) (nat_le n 1000) parts.0).1 in
    let (this, rest, whole, value, more) = h in
    let one : IsShort (number n) 4 = number_short 4 n (omega arith) (omega (arith, small)) (omega (arith, small)) in
    omega (
      arith,
      ap length whole,
      length-append (before_item false is_first) (this ++ rest),
      length-append this rest,
      before_short is_first,
      one.most this value,
      items_short false info rest parts.1 more,
    )

info_short : (info : List ℕ) → are_numbers info ≡ true → IsShort (array (items_of (map number info))) 194
info_short info legal =
    let parts = and_parts _ _ legal in
    let first = and_parts (nat_le (length info) 32) (list_all (is_number 1 1000) info) parts.0 in
    let few : length info ≤ 32 = leb-true (length info) 32 first.0 in
    record {
      most = λ text h.
          let (rest, whole, items) = h in
          let own : IsItemsText false false true (items_of (map number info)) rest =
          subst (λ (b : Bool). IsItemsText false b true (items_of (map number info)) rest) (unbroken info) items in
          omega (arith, ap length whole, few, items_short true info rest first.1 own);
    }

no_items_short : IsShort (array no_items) 2
no_items_short = record {
  most = λ text h. let (rest, whole, is) = h in omega (arith, ap length whole, ap length is);
}

-- 4. Lines

-- a line has at most m bytes
record IsShortLine (e : Expression) (m : ℕ) : Type 0 where
  most : (started : Bool) (text : List ℕ) → IsLineText false started e.0 e.1 text → length text ≤ m

-- lines have at most m bytes together
record AreShort (es : List Expression) (m : ℕ) : Type 0 where
  most : (started : Bool) (text : List ℕ) → IsLinesText false started es text → length text ≤ m

no_lines : AreShort [] 0
no_lines = record { most = λ started text is. omega (arith, ap length is) }

more_lines : {e : Expression} {es : List Expression} {m n : ℕ} → IsShortLine e m → AreShort es n
    → AreShort (e ∷ es) (m + n)
more_lines first later = record {
  most = λ started text h.
      let (this, rest, whole, line, rest_is) = h in
      let one = first.most started this line in
      omega (arith, ap length whole, length-append this rest, one, later.most true rest rest_is);
}

at_most : {es : List Expression} {m n : ℕ} → AreShort es m → m ≤ n → AreShort es n
at_most few le = record { most = λ started text h. omega (arith, le, few.most started text h) }

-- the line of a key and a value
abbrev line_of : List ℕ → Data → Expression
line_of k d = (([], k), key_value d)

pair : {d : Data} {m : ℕ} (k : List ℕ) (n : ℕ) → length (key_text k) ≤ n → IsShort d m
    → IsShortLine (line_of k d) (n + m + 4)
pair k n few short = record {
  most = λ started text h.
      let (this, whole, value) = h in
      let behind : length (codes " = " ++ (this ++ 10 ∷ [])) ≡ suc (suc (suc (length (this ++ 10 ∷ [])))) = refl in
      omega (
        arith,
        few,
        short.most this value,
        ap length whole,
        length-append (key_text k) (codes " = " ++ (this ++ 10 ∷ [])),
        behind,
        length-append this (10 ∷ []),
      );
}

-- the header of an element of an array of tables
header : (key : Key) (n : ℕ) → length (dotted_text key) ≤ n → IsShortLine (key, array_table) (n + 6)
header key n few = record { most = go } where
  go : (started : Bool) (text : List ℕ) → IsLineText false started key array_table text → length text ≤ n + 6
  go true text h =
      let size : length text ≡ suc (suc (suc (length (dotted_text key ++ codes "]]\n")))) = ap length h in
      omega (arith, few, size, length-append (dotted_text key) (codes "]]\n"))
  go false text h =
      let size : length text ≡ suc (suc (length (dotted_text key ++ codes "]]\n"))) = ap length h in
      omega (arith, few, size, length-append (dotted_text key) (codes "]]\n"))

-- 5. Grants

abbrev grants_key : Key
grants_key = (codes "account" ∷ [], codes "grants")

abbrev are_modes : List Grant → Bool
are_modes gs = list_all (λ (g : Grant). is_number 1 3 g.mode) gs

mode_short : (g : Grant) → is_number 1 3 g.mode ≡ true → IsShort (number g.mode) 1
mode_short g legal =
    let small : g.mode ≤ 3 = leb-true g.mode 3 (and_parts (nat_le 1 g.mode) (nat_le g.mode 3) legal).1 in
    number_short 1 g.mode (omega arith) (omega (arith, small)) (omega (arith, small))

-- the lines of grants, before others: at most 108 bytes for each
grants_short : (gs : List Grant) (es : List Expression) (n : ℕ) → are_modes gs ≡ true → AreShort es n
    → AreShort (elements grants_key (items_of (map grant_data gs)) ++ es) (108 * length gs + n)
unfolding key_text
grants_short [] es n legal later = at_most later (omega arith)
grants_short (g ∷ gs) es n legal later =
    let parts = and_parts (is_number 1 3 g.mode) (are_modes gs) legal in
    at_most (more_lines (header grants_key 14 (lit≤ tt))
    (more_lines (pair (codes "mode") 4 (lit≤ tt) (mode_short g parts.0))
    (more_lines (pair (codes "name") 4 (lit≤ tt) (label_short g.name)) (grants_short gs es n parts.1 later))))
    (omega arith)

grant_tables : (gs : List Grant) → are_tables (items_of (map grant_data gs)) ≡ true
grant_tables [] = refl
grant_tables (g ∷ gs) = grant_tables gs

-- 6. Accounts

-- an account's numbers and grants are in their ranges
record IsFew (a : Account) : Type 0 where
  uid : a.uid ≤ 4294967294
  sequence : a.sequence ≤ 9999
  grants : length a.grants ≤ 64
  modes : are_modes a.grants ≡ true

is_few : (a : Account) → is_account a ≡ true → IsFew a
is_few a legal =
    let parts = and_parts (is_number 1 4294967294 a.uid && nat_le a.sequence 9999) (are_grants a.grants) legal in
    let first = and_parts (is_number 1 4294967294 a.uid) (nat_le a.sequence 9999) parts.0 in
    let grants = and_parts _ _ parts.1 in
    let modes = and_parts (nat_le (length a.grants) 64) (are_modes a.grants) grants.0 in
    record {
      uid = leb-true a.uid 4294967294 (and_parts (nat_le 1 a.uid) (nat_le a.uid 4294967294) first.0).1;
      sequence = leb-true a.sequence 9999 first.1;
      grants = leb-true (length a.grants) 64 modes.0;
      modes = modes.1;
    }

-- the keys of an account with these grants
abbrev keys_with : Account → List Grant → Members
keys_with a gs =
    member (codes "algorithm") (string (algo_name a.algo)) (member (codes "enabled") (boolean a.enabled)
    (member (codes "grants") (array (items_of (map grant_data gs))) (member (codes "name") (string (name_bytes a.name))
    (member (codes "password") (string (password_text a.password)) (member (codes "seed") (string (seed_bytes a.seed))
    (member (codes "sequence") (number a.sequence) (member (codes "uid") (number a.uid) no_members)))))))

-- the lines from the name on
abbrev last_lines : Account → List Expression
last_lines a =
    line_of (codes "name") (string (name_bytes a.name))
    ∷ line_of (codes "password") (string (password_text a.password))
    ∷ line_of (codes "seed") (string (seed_bytes a.seed)) ∷ line_of (codes "sequence") (number a.sequence)
    ∷ line_of (codes "uid") (number a.uid) ∷ []

last_short : (a : Account) (es : List Expression) (n : ℕ) → IsFew a → AreShort es n
    → AreShort (last_lines a ++ es) (466 + n)
unfolding key_text
last_short a es n few later =
    let uid : IsShort (number a.uid) 10 = number_short 10 a.uid (omega arith) (omega (arith, few.uid))
    (omega (arith, few.uid)) in
    let sequence : IsShort (number a.sequence) 4 = number_short 4 a.sequence (omega arith)
    (omega (arith, few.sequence)) (omega (arith, few.sequence)) in
    at_most (more_lines (pair (codes "name") 4 (lit≤ tt) (name_short a.name))
    (more_lines (pair (codes "password") 8 (lit≤ tt) (password_short a.password))
    (more_lines (pair (codes "seed") 4 (lit≤ tt) (seed_short a.seed))
    (more_lines (pair (codes "sequence") 8 (lit≤ tt) sequence)
    (more_lines (pair (codes "uid") 3 (lit≤ tt) uid) later)))))
    (omega arith)

-- the lines before the grants
first_short : (a : Account) (es : List Expression) (n : ℕ) → AreShort es n
    → AreShort (line_of (codes "algorithm") (string (algo_name a.algo)) ∷ line_of (codes "enabled") (boolean a.enabled)
    ∷ es) (60 + n)
unfolding key_text
first_short a es n later =
    at_most (more_lines (pair (codes "algorithm") 9 (lit≤ tt) (algo_short a.algo))
    (more_lines (pair (codes "enabled") 7 (lit≤ tt) (bool_short a.enabled)) later))
    (omega arith)

-- the lines of an account after its header, before others
keys_short : (a : Account) (gs : List Grant) (es : List Expression) (n : ℕ) → IsFew a → are_modes gs ≡ true
    → AreShort es n
    → AreShort ((pairs (keys_with a gs) ++ sections (codes "account" ∷ []) (keys_with a gs)) ++ es)
    (538 + (108 * length gs + n))
unfolding key_text
keys_short a [] es n few legal later =
    let last = last_short a es n few later in
    let none : AreShort (line_of (codes "grants") (array no_items) ∷ last_lines a ++ es) (12 + (466 + n)) =
    more_lines (pair (codes "grants") 6 (lit≤ tt) no_items_short) last in
    at_most (first_short a _ _ none) (omega arith)
keys_short a (g ∷ gs) es n few legal later =
    let all = elements grants_key (items_of (map grant_data (g ∷ gs))) in
    let behind : AreShort ((all ++ []) ++ es) (108 * length (g ∷ gs) + n) =
    subst (λ (xs : List Expression). AreShort (xs ++ es) (108 * length (g ∷ gs) + n)) (sym (append-nil all))
    (grants_short (g ∷ gs) es n legal later) in
    let last = last_short a ((all ++ []) ++ es) (108 * length (g ∷ gs) + n) few behind in
    rw (grant_tables gs) (at_most (first_short a _ _ last) (omega arith))

-- an account, before other lines
account_short : (a : Account) (es : List Expression) (n : ℕ) → is_account a ≡ true → AreShort es n
    → AreShort ((accounts_key, array_table)
    ∷ (pairs (account_members a) ++ sections (codes "account" ∷ []) (account_members a)) ++ es) (7500 + n)
unfolding key_text
account_short a es n legal later =
    let few = is_few a legal in
    let keys = keys_short a a.grants es n few few.modes later in
    at_most (more_lines (header accounts_key 7 (lit≤ tt)) keys) (omega (arith, few.grants))

accounts_short : (accounts : List Account) → list_all is_account accounts ≡ true
    → AreShort (elements accounts_key (items_of (map account_data accounts))) (7500 * length accounts)
accounts_short [] legal = no_lines
accounts_short (a ∷ accounts) legal =
    let parts = and_parts (is_account a) (list_all is_account accounts) legal in
    let rest = elements accounts_key (items_of (map account_data accounts)) in
    at_most (account_short a rest (7500 * length accounts) parts.0 (accounts_short accounts parts.1)) (omega arith)

-- 7. The other keys

info_inline : (info : List ℕ) → is_section (array (items_of (map number info))) ≡ false
info_inline [] = refl
info_inline (n ∷ info) = refl

-- a number of a setup
within_short : (k low high n : ℕ) → 0 < k → high < 10 ^ k → high < 2 ^ 64 → (low ≤ n) × (n ≤ high)
    → IsShort (number n) k
within_short k low high n some fits small range =
    number_short k n some (lt_of_le_of_lt range.1 fits) (lt_of_le_of_lt range.1 small)

-- the texts are in their ranges
record HasTexts (s : Settings) : Type 0 where
  socket : is_text 1 100 s.socket ≡ true
  launcher : is_text 1 255 s.launcher ≡ true
  vault : is_text 1 255 s.vault ≡ true
  words : is_text 1 255 s.words ≡ true
  banner : is_text 0 200 s.banner ≡ true

has_texts : (s : Settings) → are_texts s ≡ true → HasTexts s
has_texts s legal =
    let banner = and_parts _ _ legal in
    let words = and_parts _ _ banner.0 in
    let vault = and_parts _ _ words.0 in
    let launcher = and_parts _ _ vault.0 in
    record { socket = launcher.0; launcher = launcher.1; vault = vault.1; words = words.1; banner = banner.1 }

-- the lines from the salt on
abbrev lower_lines : Settings → List Expression
lower_lines s =
    line_of (codes "salt") (string (seed_bytes s.salt)) ∷ line_of (codes "socket") (string s.socket)
    ∷ line_of (codes "tries") (number s.tries) ∷ line_of (codes "vault") (string s.vault)
    ∷ line_of (codes "words") (string s.words) ∷ line_of (codes "workers") (number s.workers) ∷ []

lower_short : (s : Settings) (es : List Expression) (n : ℕ) → IsInRange s → AreShort es n
    → AreShort (lower_lines s ++ es) (3844 + n)
unfolding key_text
lower_short s es n range later =
    let texts = has_texts s range.texts in
    let tries = within_short 2 1 10 s.tries (omega arith) (omega arith) (omega arith) range.tries in
    let workers = within_short 2 1 64 s.workers (omega arith) (omega arith) (omega arith) range.workers in
    at_most (more_lines (pair (codes "salt") 4 (lit≤ tt) (seed_short s.salt))
    (more_lines (pair (codes "socket") 6 (lit≤ tt) (text_short 1 100 s.socket texts.socket))
    (more_lines (pair (codes "tries") 5 (lit≤ tt) tries)
    (more_lines (pair (codes "vault") 5 (lit≤ tt) (text_short 1 255 s.vault texts.vault))
    (more_lines (pair (codes "words") 5 (lit≤ tt) (text_short 1 255 s.words texts.words))
    (more_lines (pair (codes "workers") 7 (lit≤ tt) workers) later))))))
    (omega arith)

-- the lines before these
abbrev upper_lines : Settings → List Expression
upper_lines s =
    line_of (codes "banner") (string s.banner) ∷ line_of (codes "connections") (number s.connections)
    ∷ line_of (codes "frames") (string (width_word s.frames)) ∷ line_of (codes "hold") (number s.hold)
    ∷ line_of (codes "info") (array (items_of (map number s.info))) ∷ line_of (codes "launcher") (string s.launcher)
    ∷ line_of (codes "requests") (number s.requests) ∷ []

upper_short : (s : Settings) (es : List Expression) (n : ℕ) → IsInRange s → AreShort es n
    → AreShort (upper_lines s ++ es) (3071 + n)
unfolding key_text
upper_short s es n range later =
    let texts = has_texts s range.texts in
    let connections = within_short 4 1 4096 s.connections (omega arith) (omega arith) (omega arith) range.connections in
    let requests = within_short 4 8 4096 s.requests (omega arith) (omega arith) (omega arith) range.requests in
    let hold = within_short 7 1 3600000 s.hold (omega arith) (omega arith) (omega arith) range.hold in
    at_most (more_lines (pair (codes "banner") 6 (lit≤ tt) (text_short 0 200 s.banner texts.banner))
    (more_lines (pair (codes "connections") 11 (lit≤ tt) connections)
    (more_lines (pair (codes "frames") 6 (lit≤ tt) (width_short s.frames))
    (more_lines (pair (codes "hold") 4 (lit≤ tt) hold)
    (more_lines (pair (codes "info") 4 (lit≤ tt) (info_short s.info range.info))
    (more_lines (pair (codes "launcher") 8 (lit≤ tt) (text_short 1 255 s.launcher texts.launcher))
    (more_lines (pair (codes "requests") 8 (lit≤ tt) requests) later)))))))
    (omega arith)

others_short : (s : Settings) (es : List Expression) (n : ℕ) → IsInRange s → AreShort es n
    → AreShort (pairs (other_members s) ++ es) (6915 + n)
others_short s es n range later =
    rw (info_inline s.info) (at_most (upper_short s _ _ range (lower_short s es n range later)) (omega arith))

-- 8. The file

pub lines_fit : (s : Settings) (bytes : List ℕ) → IsInRange s
    → IsDocumentText false (setup_members s (map account_data s.accounts)) bytes → length bytes ≤ 8388608
lines_fit s bytes range lines =
    let uids = and_parts _ _ range.accounts in
    let names = and_parts _ _ uids.0 in
    let first = and_parts (nat_le (length s.accounts) 1024) (list_all is_account s.accounts) names.0 in
    let few : length s.accounts ≤ 1024 = leb-true (length s.accounts) 1024 first.0 in
    let accounts = elements accounts_key (items_of (map account_data s.accounts)) in
    let own : IsLinesText false false (pairs (other_members s) ++ accounts) bytes =
    subst (λ (es : List Expression). IsLinesText false false es bytes) (setup_lines s s.accounts) lines in
    let all = others_short s accounts (7500 * length s.accounts) range (accounts_short s.accounts first.1) in
    omega (arith, few, all.most false bytes own)
