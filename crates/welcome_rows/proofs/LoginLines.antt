-- The lines of a login, and those after it.
use Rattle.std.proofs.Common.{◌≡◌, ◌≢◌, ℕ, zero, suc, ◌+◌, ◌-◌, ◌≤◌, lit≤, Bool, true, false, not, ◌&&◌, cond, eqb}
use Rattle.std.proofs.Common.{List, [], ◌∷◌, ◌++◌}
use Rattle.std.proofs.Common.{length, take, drop, get_or, Some, refl, sym, ap, subst, ◌∙◌, add-one}
use Rattle.std.proofs.Common.{append_assoc, arith}
use Rattle.std.specs.Prelude.{codes, nat_le}
use Rattle.std.specs.Char.{is_newline}
use Rattle.std.specs.List.{list_all, list_any, prefix_len}
use Rattle.std.specs.Str.Lines.{strip_carriage_return}
use Rattle.std.proofs.lemmas.Bool.{and_from, and_parts, le-leb, leb-true}
use Rattle.std.proofs.lemmas.Bool.Decides.{nat_tests}
use Rattle.std.proofs.lemmas.List.{length-append}
use Rattle.std.proofs.lemmas.List.Folds.{prefix_len-append}
use Rattle.request_catalogue.specs.Texts.{begins_name, continues_name, is_label, is_name, is_typed, is_typed_reply}
use Rattle.child_protocol.specs.Commands.{PreCommand, Respond, Terminal, User, is_terminal, legal, pre_command}
use Rattle.child_protocol.specs.Lines.{Line, TooLong, behind, behind_line, behind_lines, front_by, front_of, line_end}
use Rattle.child_protocol.specs.Lines.{line_front}
use Rattle.child_protocol.specs.User.{Get, Put, UserCommand, is_content, space_in, user_command}
use Rattle.welcome_laws.specs.Client.{AreEarlier, BeginWith, BeginsWith, is_response}
use Rattle.welcome_laws.specs.Files.{BeginWithCommands, BeginsWithCommand}
use Rattle.welcome_rows.specs.Met.{earlier_of, line_count, login_bytes, pair_bytes, wish_bytes, wishes_of}

-- ---- typed bytes end no line

typed_inner : (c : ℕ) → is_typed c ≡ true → not (is_newline c) ≡ true
typed_inner c h = grind (arith, nat_tests)

typed_no_return : (c : ℕ) → is_typed c ≡ true → eqb c 13 ≡ false
typed_no_return c h = grind (arith, nat_tests)

prefix_whole : (text : List ℕ) → list_all is_typed text ≡ true → prefix_len (λ c. not (is_newline c)) text ≡ length text
prefix_whole [] h = refl
prefix_whole (c ∷ cs) h =
    let both = and_parts (is_typed c) (list_all is_typed cs) h in
    ap (λ b. cond b (1 + prefix_len (λ c. not (is_newline c)) cs) 0) (typed_inner c both.0)
    ∙ ap (λ n. 1 + n) (prefix_whole cs both.1) ∙ (omega arith)

no_return : (text : List ℕ) (k : ℕ) → list_all is_typed text ≡ true → eqb (get_or text k 0) 13 ≡ false
no_return [] k h = refl
no_return (c ∷ cs) zero h = typed_no_return c (and_parts (is_typed c) (list_all is_typed cs) h).0
no_return (c ∷ cs) (suc k) h = no_return cs k (and_parts (is_typed c) (list_all is_typed cs) h).1

-- ---- one line

first_end : (text more : List ℕ) → list_all is_typed text ≡ true → line_end (text ++ 10 ∷ more) ≡ Some (length text)
unfolding line_end
first_end text more h =
    let whole = prefix_whole text h in
    let at : prefix_len (λ c. not (is_newline c)) (text ++ 10 ∷ more) ≡ length text = grind (
      arith,
      nat_tests,
      prefix_len-append,
    ) in
    grind (arith, nat_tests, length-append)

take_front : (text more : List ℕ) → take (length text) (text ++ more) ≡ text
take_front [] more = refl
take_front (c ∷ cs) more = ap (λ xs. c ∷ xs) (take_front cs more)

drop_one_more : (text more : List ℕ) → drop (suc (length text)) (text ++ 10 ∷ more) ≡ more
drop_one_more [] more = refl
drop_one_more (c ∷ cs) more = drop_one_more cs more

drop_front : (text more : List ℕ) → drop (length text + 1) (text ++ 10 ∷ more) ≡ more
drop_front text more = ap (λ n. drop n (text ++ 10 ∷ more)) (add-one (length text)) ∙ drop_one_more text more

unstripped : (text : List ℕ) → list_all is_typed text ≡ true → strip_carriage_return text ≡ text
unstripped text h = ap (λ b. cond b (take (length text - 1) text) text) (no_return text (length text - 1) h)

first_front : (text more : List ℕ) → list_all is_typed text ≡ true → length text ≤ 300
    → front_of (text ++ 10 ∷ more) ≡ Line text
unfolding front_of
first_front text more h short =
    ap (λ o. front_by o (text ++ 10 ∷ more)) (first_end text more h)
    ∙ ap (λ t. line_front (strip_carriage_return t)) (take_front text (10 ∷ more))
    ∙ ap line_front (unstripped text h)
    ∙ ap (λ b. cond b (Line text) TooLong) (le-leb (length text) 300 short)

behind_first : (text more : List ℕ) → list_all is_typed text ≡ true → behind_line (text ++ 10 ∷ more) ≡ more
behind_first text more h = ap (λ o. behind o (text ++ 10 ∷ more)) (first_end text more h) ∙ drop_front text more

-- ---- the lines' texts

continues_typed : (c : ℕ) → continues_name c ≡ true → is_typed c ≡ true
continues_typed c h = grind (arith, nat_tests)

begins_typed : (c : ℕ) → begins_name c ≡ true → is_typed c ≡ true
begins_typed c h = grind (arith, nat_tests)

all_continue : (cs : List ℕ) → list_all continues_name cs ≡ true → list_all is_typed cs ≡ true
all_continue [] h = refl
all_continue (c ∷ cs) h =
    let both = and_parts (continues_name c) (list_all continues_name cs) h in
    and_from (is_typed c) (list_all is_typed cs) (continues_typed c both.0) (all_continue cs both.1)

name_typed : (name : List ℕ) → is_name name ≡ true → (list_all is_typed name ≡ true) × (length name ≤ 32)
unfolding is_name
name_typed [] h = absurd cc
name_typed (c ∷ cs) h =
    let both = and_parts (nat_le (length (c ∷ cs)) 32 && begins_name c) (list_all continues_name cs) h in
    let front = and_parts (nat_le (length (c ∷ cs)) 32) (begins_name c) both.0 in (
      and_from (is_typed c) (list_all is_typed cs) (begins_typed c front.1) (all_continue cs both.1),
      leb-true (length (c ∷ cs)) 32 front.0,
    )

reply_typed : (text : List ℕ) → is_typed_reply text ≡ true → (list_all is_typed text ≡ true) × (length text ≤ 256)
unfolding is_typed_reply
reply_typed text h =
    let both = and_parts (nat_le 1 (length text) && nat_le (length text) 256) (list_all is_typed text) h in
    (both.1, leb-true (length text) 256 (and_parts (nat_le 1 (length text)) (nat_le (length text) 256) both.0).1)

user_line : (name : List ℕ) → is_name name ≡ true → pre_command (codes "user " ++ name) ≡ User name
unfolding pre_command
user_line name h = ap (λ b. legal b (User name)) h

response_line : (response : List ℕ) → is_typed_reply response ≡ true → pre_command (codes "resp " ++ response) ≡
    Respond response
unfolding pre_command
response_line response h = ap (λ b. legal b (Respond response)) h

-- bytes that begin with a line, and what stands after it
record Begins (command : PreCommand) (bytes more : List ℕ) : Type 0 where
  pub line : BeginsWith command bytes
  pub behind_is : behind_line bytes ≡ more

begins : (text more : List ℕ) (command : PreCommand) → list_all is_typed text ≡ true → length text ≤ 300
    → pre_command text ≡ command → Begins command (text ++ 10 ∷ more) more
begins text more command typed short is = record {
  line = record {
    end = length text;
    whole = first_end text more typed;
    short = short;
    text = text;
    front = first_front text more typed short;
    is = is;
  };
  behind_is = behind_first text more typed;
}

-- ---- the lines that a client says

abbrev Pair : List ℕ → List ℕ → List PreCommand → List PreCommand
Pair name response commands = User name ∷ Respond response ∷ commands

abbrev second_bytes : List ℕ → List ℕ → List ℕ
second_bytes response more = (codes "resp " ++ response) ++ 10 ∷ more

pair_shape : (name response more : List ℕ)
    → pair_bytes name response ++ more ≡ (codes "user " ++ name) ++ 10 ∷ second_bytes response more
pair_shape name response more = simp append_assoc

user_begins : (name response more : List ℕ) → is_name name ≡ true
    → Begins (User name) (pair_bytes name response ++ more) (second_bytes response more)
user_begins name response more named =
    let n = name_typed name named in
    subst (λ (bytes : List ℕ). Begins (User name) bytes (second_bytes response more))
    (sym (pair_shape name response more))
    (begins (codes "user " ++ name) (second_bytes response more) (User name) n.0 (omega (arith, n.1))
    (user_line name named))

response_begins : (response more : List ℕ) → is_typed_reply response ≡ true
    → Begins (Respond response) (second_bytes response more) more
response_begins response more typed =
    let t = reply_typed response typed in
    begins (codes "resp " ++ response) more (Respond response) t.0 (omega (arith, t.1)) (response_line response typed)

pair_begins : (name response more : List ℕ) (commands : List PreCommand) → is_name name ≡ true
    → is_typed_reply response ≡ true → BeginWith commands more
    → BeginWith (Pair name response commands) (pair_bytes name response ++ more)
pair_begins name response more commands named typed others =
    let first = user_begins name response more named in
    let second = response_begins response more typed in (
      first.line,
      subst (BeginWith (Respond response ∷ commands)) (sym first.behind_is)
          (second.line, subst (BeginWith commands) (sym second.behind_is) others),
    )

pair_behind : (name response more : List ℕ) → is_name name ≡ true → is_typed_reply response ≡ true
    → behind_line (behind_line (pair_bytes name response ++ more)) ≡ more
pair_behind name response more named typed =
    ap behind_line (user_begins name response more named).behind_is ∙ (response_begins response more typed).behind_is

terminal_line : pre_command (codes "term vt220") ≡ Terminal (codes "vt220")
unfolding pre_command is_terminal
terminal_line = refl

terminal_begins : (more : List ℕ) → Begins (Terminal (codes "vt220")) (codes "term vt220\n" ++ more) more
terminal_begins more = begins (codes "term vt220") more (Terminal (codes "vt220")) refl (lit≤ tt) terminal_line

-- a terminal and two logins, with anything after them
again_shape : (pair other more : List ℕ)
    → ((codes "term vt220\n" ++ pair) ++ other) ++ more ≡ codes "term vt220\n" ++ (pair ++ (other ++ more))
again_shape pair other more =
    append_assoc (codes "term vt220\n" ++ pair) other more ∙ append_assoc (codes "term vt220\n") pair (other ++ more)

-- all lines of a login, as they are made, with anything after them
pub said_lines : (name mistyped response more : List ℕ) → is_name name ≡ true → is_typed_reply response ≡ true
    → (mistyped ≢ [] → is_typed_reply mistyped ≡ true)
    → BeginWith (earlier_of name mistyped ++ (User name ∷ Respond response ∷ []))
    (login_bytes name mistyped response ++ more)
said_lines name [] response more named typed typed_too = pair_begins name response more [] named typed tt
said_lines name (c ∷ cs) response more named typed typed_too =
    let last = pair_bytes name response ++ more in
    let pair = pair_begins name (c ∷ cs) last (Pair name response []) named (typed_too (λ e. cc))
    (pair_begins name response more [] named typed tt) in
    let first = terminal_begins (pair_bytes name (c ∷ cs) ++ last) in
    subst (BeginWith (Terminal (codes "vt220") ∷ Pair name (c ∷ cs) (Pair name response [])))
    (sym (again_shape (pair_bytes name (c ∷ cs)) (pair_bytes name response) more))
    (first.line, subst (BeginWith (Pair name (c ∷ cs) (Pair name response []))) (sym first.behind_is) pair)

-- and what comes after them
pub said_behind : (name mistyped response more : List ℕ) → is_name name ≡ true → is_typed_reply response ≡ true
    → (mistyped ≢ [] → is_typed_reply mistyped ≡ true)
    → behind_lines (line_count mistyped) (login_bytes name mistyped response ++ more) ≡ more
said_behind name [] response more named typed typed_too = pair_behind name response more named typed
said_behind name (c ∷ cs) response more named typed typed_too =
    let last = pair_bytes name response ++ more in
    let pair = pair_bytes name (c ∷ cs) ++ last in
    ap (λ bytes. behind_lines 5 bytes) (again_shape (pair_bytes name (c ∷ cs)) (pair_bytes name response) more)
    ∙ ap (λ bytes. behind_line (behind_line (behind_line (behind_line bytes)))) (terminal_begins pair).behind_is
    ∙ ap (λ bytes. behind_line (behind_line bytes))
    (pair_behind name (c ∷ cs) last named (typed_too (λ e. cc)))
    ∙ pair_behind name response more named typed

-- and so they may come before a login, where the setup allows two tries
pub earlier_lines : (name mistyped : List ℕ) (tries : ℕ) → 1 ≤ tries → (mistyped ≢ [] → 2 ≤ tries)
    → AreEarlier tries (earlier_of name mistyped)
earlier_lines name [] tries some two = record { stays = refl; closed = refl; tried = some }
earlier_lines name (c ∷ cs) tries some two = record { stays = refl; closed = refl; tried = two (λ e. cc) }

pub has_response : (name mistyped : List ℕ) → list_any is_response (earlier_of name mistyped) ≡ true → mistyped ≢ []
has_response name [] h = absurd cc
has_response name (c ∷ cs) h = λ e. cc

-- ---- the lines after a login

put_line : user_command (codes "put notes hello") ≡ Put (codes "notes") (codes "hello")
unfolding user_command is_label is_content space_in
put_line = refl

get_line : user_command (codes "get notes") ≡ Get (codes "notes")
unfolding user_command is_label
get_line = refl

command_begins : (text more : List ℕ) (command : UserCommand) → list_all is_typed text ≡ true → length text ≤ 300
    → user_command text ≡ command → BeginsWithCommand command (text ++ 10 ∷ more)
command_begins text more command typed short is = record {
  end = length text;
  whole = first_end text more typed;
  short = short;
  text = text;
  front = first_front text more typed short;
  is = is;
}

pub wishes_begin : (wants_files : Bool) → BeginWithCommands (wishes_of wants_files) (wish_bytes wants_files)
wishes_begin false = tt
wishes_begin true = (
  command_begins (codes "put notes hello") (codes "get notes\n") (Put (codes "notes") (codes "hello")) refl (lit≤ tt)
      put_line,
  subst (BeginWithCommands (Get (codes "notes") ∷ []))
      (sym (behind_first (codes "put notes hello") (codes "get notes\n") refl))
      (command_begins (codes "get notes") [] (Get (codes "notes")) refl (lit≤ tt) get_line, tt),
)
