-- A move of a dialogue leads to where the child stands for one exchange more.
use Rattle.std.proofs.Common.{◌≡◌, ℕ, zero, suc, ◌+◌, ◌*◌, ◌≤◌, Bool, true, false, ◌||◌, nat_le, cond, List, [], ◌∷◌, ◌++◌, length, refl, sym, ap, subst, ◌∙◌, rules, arith, Some, None, Option, codes, Result, Ok, Err, length-append}
use Rattle.std.specs.Int.{w32, from_le_bytes}
use Rattle.request_catalogue.specs.Catalogue.{RequestValue, Banner, Challenge, Reply, Abandon, Export, Import, ReadAt, WriteAt, OpenFile, CloseFile, Info, Note, Finish}
use Rattle.request_catalogue.specs.Replies.{AnswerValue, Done, Denied, Device}
use Rattle.state_export.specs.declared.fault.ImportFault.{ImportFault}
use Rattle.state_export.specs.Reading.{import_of}
use Rattle.state_export.specs.Spelling.{ImportValue, state_bytes}
use Rattle.child_protocol.specs.Lines.{Front, More, TooLong, Line, HasLines, behind_line, behind_lines, front_of}
use Rattle.child_protocol.specs.Commands.{PreCommand, Terminal, User as UserOf, Respond, Cancel, Quit, Other, pre_command}
use Rattle.child_protocol.specs.Exchanges.{Exchange, imported_unread, is_finish, client_bytes, sends_text, texts_of, front_at, underway, is_challenged}
use Rattle.child_protocol.specs.Pre.{say, read_more, denied_text, pre_state, is_quit, pre_request, pre_first, pre_is_last, pre_next, terminal_by, terminal_at, terminal_in}
use Rattle.child_protocol.specs.User.{Who, UserCommand, Get, Put, Tell, Remark, Leave, Unknown, command_at, file_text, greeting_of, is_leave, IsLegalUser, opened_request, user_command, user_first, user_is_last, user_next, user_request}
use Rattle.child_protocol.specs.Says.{Role, Pre, User, next_request, joined, with_answer}
use Rattle.child_protocol.specs.Replies.{FitsForm, IsForm, form_of}
use Rattle.child_protocol.specs.Places.{Heard, Kept, IsAsked, request_at, asked_at, place_by, user_place_by}
use Rattle.child_protocol.specs.Steps.{Move, asking, ended, finishing, saying, closing, exporting, kept_state, marked, with_more, line_taken, text_by, front_move, next_line, reading, is_for, welcoming, importing, size_text, done_move, denied_move, failed_move, move}
use Rattle.child_protocol.specs.Stands.{line_request, is_last, HasState, Keeps, IsOnLine, IsReading, IsLineAt, IsAt}
use Rattle.child_protocol.specs.declared.place.Place.{Place}
use Rattle.child_protocol.specs.declared.place.Place.TheVariants as places
use Rattle.child_protocol.proofs.Fronts.{line_whole, more_short}
use Rattle.child_protocol.proofs.MoreBytes.{behind_lines-more, HasLines-more, terminal_in-more}
use Rattle.child_protocol.proofs.UserCommands.{legal_line}

abbrev exchange : RequestValue → AnswerValue → Exchange
exchange request answer = record { request = request; answer = answer }

-- where a move leads to
abbrev Arrives : Role → Move → List Exchange → Type 0
Arrives role s history = IsAt role s.kept s.asks history

-- no more texts than exchanges
texts_within : (history : List Exchange) → texts_of history ≤ length history
texts_within [] = omega arith
texts_within (e ∷ history) =
    let before : texts_of history ≤ length history = texts_within history in
    elim (sends_text e.request) as (λ b. cond b (suc (texts_of history)) (texts_of history) ≤ suc (length history)) [ true ↦ omega arith | false ↦ omega arith ]

-- ---- what is kept, one exchange later

few_more : (n k m : ℕ) → n ≤ 512 * k → m ≤ 512 → n + m ≤ 512 * suc k
few_more n k m h few = omega arith

few_same : (n k : ℕ) → n ≤ 512 * k → n ≤ 512 * suc k
few_same n k h = omega arith

state_marked : (role : Role) (heard : Heard) (challenged : Bool) (bytes : List ℕ) → HasState role heard bytes → HasState role (record heard { challenged = challenged }) bytes
state_marked Pre heard challenged bytes state = state
state_marked (User who) heard challenged bytes state = tt

-- by an exchange that brought no bytes
kept_on : (role : Role) (heard : Heard) (challenged : Bool) (e : Exchange) (history : List Exchange) → Keeps role heard history → client_bytes (e ∷ history) ≡ client_bytes history → challenged ≡ is_challenged (e ∷ history)
    → Keeps role (record heard { challenged = challenged }) (e ∷ history)
kept_on role heard challenged e history keeps bytes marked = record {
  held = keeps.held ∙ ap (behind_lines heard.lines) (sym bytes);
  whole = subst (λ (b : List ℕ). HasLines heard.lines b) (sym bytes) keeps.whole;
  state = subst (λ (b : List ℕ). HasState role (record heard { challenged = challenged }) b) (sym bytes) (state_marked role heard challenged (client_bytes history) keeps.state);
  challenged = marked;
  few_lines = (let few : heard.lines ≤ length history = keeps.few_lines in omega arith);
  few_bytes = few_same heard.read (length history) keeps.few_bytes;
}

-- on a line still, by an exchange that brought no bytes and was no text
line_on : (role : Role) (heard : Heard) (challenged : Bool) (e : Exchange) (history : List Exchange) → IsOnLine role heard history → client_bytes (e ∷ history) ≡ client_bytes history → texts_of (e ∷ history) ≡ texts_of history
    → challenged ≡ is_challenged (e ∷ history) → IsOnLine role (record heard { challenged = challenged }) (e ∷ history)
line_on role heard challenged e history line bytes texts marked = record {
  keeps = kept_on role heard challenged e history line.keeps bytes marked;
  texts = texts ∙ line.texts;
  goes_on = ap (λ (n : ℕ). is_last role (front_at n (client_bytes (e ∷ history)))) texts ∙ ap (λ (b : List ℕ). is_last role (front_at (texts_of history) b)) bytes ∙ line.goes_on;
}

state_more : (role : Role) (heard : Heard) (body bytes : List ℕ) → HasLines heard.lines bytes → HasState role heard bytes → HasState role (record heard { held = heard.held ++ body; read = heard.read + length body }) (bytes ++ body)
state_more Pre heard body bytes whole state =
    (state.0 ∙ sym (terminal_in-more heard.lines bytes body whole), ap (λ (n : ℕ). n + length body) state.1 ∙ sym (length-append bytes body))
state_more (User who) heard body bytes whole state = tt

-- by more bytes of the client
kept_more : (role : Role) (heard : Heard) (body : List ℕ) (history : List Exchange) → Keeps role heard history → length body ≤ 512
    → Keeps role (record heard { held = heard.held ++ body; read = heard.read + length body }) (exchange read_more (Done body) ∷ history)
kept_more role heard body history keeps few =
    let bytes = client_bytes history in
    record {
      held = ap (λ (b : List ℕ). b ++ body) keeps.held ∙ sym (behind_lines-more heard.lines bytes body keeps.whole);
      whole = HasLines-more heard.lines bytes body keeps.whole;
      state = state_more role heard body bytes keeps.whole keeps.state;
      challenged = keeps.challenged;
      few_lines = (let few_now : heard.lines ≤ length history = keeps.few_lines in omega arith);
      few_bytes = few_more heard.read (length history) (length body) keeps.few_bytes few;
    }

-- by the line in front
kept_line : (role : Role) (heard : Heard) (terminal text : List ℕ) (history : List Exchange) → Keeps role heard history → texts_of history ≡ suc heard.lines → front_of heard.held ≡ Line text
    → HasState role (line_taken terminal heard) (client_bytes history) → Keeps role (line_taken terminal heard) history
kept_line role heard terminal text history keeps texts held state = record {
  held = ap behind_line keeps.held;
  whole = (keeps.whole, line_whole (behind_lines heard.lines (client_bytes history)) text (ap front_of (sym keeps.held) ∙ held));
  state = state;
  challenged = keeps.challenged;
  few_lines = (let count : texts_of history ≤ length history = texts_within history in omega arith);
  few_bytes = keeps.few_bytes;
}

-- ---- where a move leads to

online : (role : Role) (heard : Heard) (history : List Exchange) → Keeps role heard history → texts_of history ≡ heard.lines → is_last role (underway history) ≡ false → IsOnLine role heard history
online role heard history keeps texts last = record { keeps = keeps; texts = texts; goes_on = last }

-- on the same line, by an exchange that is none of a challenge
still : (role : Role) (heard : Heard) (e : Exchange) (history : List Exchange) → IsOnLine role heard history → client_bytes (e ∷ history) ≡ client_bytes history → texts_of (e ∷ history) ≡ texts_of history
    → is_challenged (e ∷ history) ≡ is_challenged history → IsOnLine role heard (e ∷ history)
still role heard e history line bytes texts same = line_on role heard heard.challenged e history line bytes texts (line.keeps.challenged ∙ sym same)

says_at : (role : Role) (kept : Kept) (text : List ℕ) (history : List Exchange) → next_request role history ≡ Some (say text) → IsOnLine role kept.heard history → Arrives role (saying text kept) history
says_at role kept text history e line = record { word = text; number = 0; asks_is = refl; next = e; line = line }

finishes_at : (role : Role) (kept : Kept) (history : List Exchange) → next_request role history ≡ Some Finish → Arrives role (finishing kept) history
finishes_at role kept history e = record { word = []; number = 0; asks_is = refl; next = e; line = tt }

ends_at : (role : Role) (kept : Kept) (history : List Exchange) → next_request role history ≡ None → Arrives role (ended kept) history
ends_at role kept history e = record { word = []; number = 0; asks_is = refl; next = e; line = tt }

-- ---- the next line

at_command : (command : PreCommand) (challenged : Bool) (kept : Kept) (history : List Exchange) → pre_next history ≡ Some (pre_request command challenged) → Keeps Pre kept.heard history → texts_of history ≡ kept.heard.lines
    → pre_is_last (underway history) ≡ is_quit command → Arrives Pre (asking (place_by command challenged) (pre_request command challenged) kept) history
at_command (Terminal text) challenged kept history e keeps texts last = says_at Pre kept (codes "done\n") history e (online Pre kept.heard history keeps texts last)
at_command (UserOf name) false kept history e keeps texts last = record { word = name; number = 0; asks_is = refl; next = e; line = (tt, online Pre kept.heard history keeps texts last) }
at_command (UserOf name) true kept history e keeps texts last = says_at Pre kept (codes "what\n") history e (online Pre kept.heard history keeps texts last)
at_command (Respond text) true kept history e keeps texts last = record { word = text; number = 0; asks_is = refl; next = e; line = (tt, online Pre kept.heard history keeps texts last) }
at_command (Respond text) false kept history e keeps texts last = says_at Pre kept (codes "what\n") history e (online Pre kept.heard history keeps texts last)
at_command Cancel true kept history e keeps texts last = record { word = []; number = 0; asks_is = refl; next = e; line = (tt, online Pre kept.heard history keeps texts last) }
at_command Cancel false kept history e keeps texts last = says_at Pre kept (codes "what\n") history e (online Pre kept.heard history keeps texts last)
at_command Quit challenged kept history e keeps texts last = record { word = codes "bye\n"; number = 0; asks_is = refl; next = e; line = last }
at_command Other challenged kept history e keeps texts last = says_at Pre kept (codes "what\n") history e (online Pre kept.heard history keeps texts last)

at_user_command : (who : Who) (command : UserCommand) (kept : Kept) (history : List Exchange) → user_next who history ≡ Some (user_request command) → command_at (underway history) ≡ command → IsLegalUser command
    → Keeps (User who) kept.heard history → texts_of history ≡ kept.heard.lines → user_is_last (underway history) ≡ is_leave command
    → Arrives (User who) (asking (user_place_by command) (user_request command) (record kept { text = text_by command kept.text })) history
at_user_command who (Get name) kept history e line legal keeps texts last = record { word = name; number = 0; asks_is = refl; next = e; line = (tt, online (User who) kept.heard history keeps texts last, line) }
at_user_command who (Put name text) kept history e line legal keeps texts last = record { word = name; number = 0; asks_is = refl; next = e; line = (tt, online (User who) kept.heard history keeps texts last, line, legal.1) }
at_user_command who (Tell number) kept history e line legal keeps texts last = record { word = []; number = number; asks_is = refl; next = e; line = (tt, online (User who) kept.heard history keeps texts last) }
at_user_command who (Remark note) kept history e line legal keeps texts last = record { word = note; number = 0; asks_is = refl; next = e; line = (tt, online (User who) kept.heard history keeps texts last) }
at_user_command who Leave kept history e line legal keeps texts last = record { word = codes "bye\n"; number = 0; asks_is = refl; next = e; line = last }
at_user_command who Unknown kept history e line legal keeps texts last = says_at (User who) kept (codes "what\n") history e (online (User who) kept.heard history keeps texts last)

state_line : (heard : Heard) (text : List ℕ) (history : List Exchange) → Keeps Pre heard history → front_of heard.held ≡ Line text → HasState Pre (line_taken (terminal_by (pre_command text) heard.terminal) heard) (client_bytes history)
state_line heard text history keeps held =
    let bytes = client_bytes history in
    let same : front_of (behind_lines heard.lines bytes) ≡ Line text = ap front_of (sym keeps.held) ∙ held in
    (ap (terminal_at (Line text)) keeps.state.0 ∙ ap (λ (f : Front). terminal_at f (terminal_in heard.lines bytes)) (sym same), keeps.state.1)

-- the line in front is taken, or more bytes are needed
at_front : (role : Role) (front : Front) (kept : Kept) (history : List Exchange) → Keeps role kept.heard history → texts_of history ≡ suc kept.heard.lines → underway history ≡ front → front_of kept.heard.held ≡ front
    → next_request role history ≡ Some (line_request role front kept.heard.challenged) → Arrives role (front_move role front kept) history
at_front Pre More kept history keeps texts line held e = record { word = []; number = 0; asks_is = refl; next = e; line = record { keeps = keeps; texts = texts; short = more_short kept.heard.held held } }
at_front (User who) More kept history keeps texts line held e = record { word = []; number = 0; asks_is = refl; next = e; line = record { keeps = keeps; texts = texts; short = more_short kept.heard.held held } }
at_front Pre TooLong kept history keeps texts line held e = record { word = codes "long\n"; number = 0; asks_is = refl; next = e; line = ap pre_is_last line }
at_front (User who) TooLong kept history keeps texts line held e = record { word = codes "long\n"; number = 0; asks_is = refl; next = e; line = ap user_is_last line }
at_front Pre (Line text) kept history keeps texts line held e =
    let heard = line_taken (terminal_by (pre_command text) kept.heard.terminal) kept.heard in
    at_command (pre_command text) kept.heard.challenged (record kept { heard = heard }) history e
    (kept_line Pre kept.heard (terminal_by (pre_command text) kept.heard.terminal) text history keeps texts held (state_line kept.heard text history keeps held)) texts (ap pre_is_last line)
at_front (User who) (Line text) kept history keeps texts line held e =
    let heard = line_taken kept.heard.terminal kept.heard in
    at_user_command who (user_command text) (record kept { heard = heard }) history e (ap command_at line) (legal_line text)
    (kept_line (User who) kept.heard kept.heard.terminal text history keeps texts held tt) texts (ap user_is_last line)

next_at : (role : Role) (kept : Kept) (history : List Exchange) → Keeps role kept.heard history → texts_of history ≡ suc kept.heard.lines
    → next_request role history ≡ Some (line_request role (underway history) (is_challenged history)) → Arrives role (next_line role kept) history
next_at role kept history keeps texts e =
    let line : underway history ≡ front_of kept.heard.held = ap (λ (n : ℕ). front_at n (client_bytes history)) texts ∙ ap front_of (sym keeps.held) in
    at_front role (front_of kept.heard.held) kept history keeps texts line refl
    (e ∙ ap (λ (f : Front). Some (line_request role f (is_challenged history))) line ∙ ap (λ (b : Bool). Some (line_request role (front_of kept.heard.held) b)) (sym keeps.challenged))

-- after a text
said_at : (role : Role) (kept : Kept) (text body : List ℕ) (history : List Exchange) → IsOnLine role kept.heard history
    → next_request role (exchange (say text) (Done body) ∷ history) ≡ Some (line_request role (underway (exchange (say text) (Done body) ∷ history)) (is_challenged history))
    → Arrives role (next_line role kept) (exchange (say text) (Done body) ∷ history)
said_at role kept text body history line e =
    next_at role kept (exchange (say text) (Done body) ∷ history) (kept_on role kept.heard kept.heard.challenged (exchange (say text) (Done body)) history line.keeps refl line.keeps.challenged) (ap suc line.texts) e

-- after more bytes of the client, or their end
read_at : (role : Role) (kept : Kept) (body : List ℕ) (history : List Exchange) → length body ≤ 512 → IsReading role kept.heard history → Arrives role (reading role body kept) (exchange read_more (Done body) ∷ history)
unfolding pre_next user_next
read_at Pre kept [] history few line = finishes_at Pre kept _ refl
read_at (User who) kept [] history few line = finishes_at (User who) kept _ refl
read_at Pre kept (c ∷ body) history few line =
    next_at Pre (with_more (c ∷ body) kept) (exchange read_more (Done (c ∷ body)) ∷ history) (kept_more Pre kept.heard (c ∷ body) history line.keeps few) line.texts refl
read_at (User who) kept (c ∷ body) history few line =
    next_at (User who) (with_more (c ∷ body) kept) (exchange read_more (Done (c ∷ body)) ∷ history) (kept_more (User who) kept.heard (c ∷ body) history line.keeps few) line.texts refl

-- ---- what was left

welcome_on : (who : Who) (heard : Heard) (body : List ℕ) (found : ImportValue) (history : List Exchange) → import_of body ≡ Ok found → history ≡ [] → IsOnLine (User who) heard history
    → IsOnLine (User who) (record heard { held = found.state.unread }) (exchange Import (Done body) ∷ history)
welcome_on who heard body found history e empty line =
    let bytes = client_bytes (exchange Import (Done body) ∷ history) in
    let bytes_are : bytes ≡ found.state.unread = ap (λ (h : List Exchange). client_bytes h ++ imported_unread (import_of body)) empty ∙ ap (λ (o : Result ImportValue ImportFault). imported_unread o) e in
    let none : texts_of history ≡ 0 = ap texts_of empty in
    let no_lines : 0 ≡ heard.lines = sym none ∙ line.texts in
    record {
      keeps = record {
        held = sym bytes_are ∙ ap (λ (n : ℕ). behind_lines n bytes) no_lines;
        whole = subst (λ (n : ℕ). HasLines n bytes) no_lines tt;
        state = tt;
        challenged = line.keeps.challenged;
        few_lines = (let few : heard.lines ≤ length history = line.keeps.few_lines in omega arith);
        few_bytes = few_same heard.read (length history) line.keeps.few_bytes;
      };
      texts = line.texts;
      goes_on = ap (λ (n : ℕ). user_is_last (front_at n bytes)) none;
    }

imported_at : (who : Who) (kept : Kept) (body : List ℕ) (left : Result ImportValue ImportFault) (history : List Exchange) → import_of body ≡ left → history ≡ [] → IsOnLine (User who) kept.heard history
    → Arrives (User who) (importing (User who) left kept) (exchange Import (Done body) ∷ history)
unfolding user_next
imported_at who kept body (Err fault) history e empty line = finishes_at (User who) kept _ (ap (λ (o : Result ImportValue ImportFault). Some (greeting_of who o)) e)
imported_at who kept body (Ok found) history e empty line = by (is_for who found) refl where
  by : (b : Bool) → is_for who found ≡ b → Arrives (User who) (cond b (welcoming who.name found.state.unread kept) (finishing kept)) (exchange Import (Done body) ∷ history)
  by true is = says_at (User who) (record kept { heard = record kept.heard { held = found.state.unread } }) (codes "welcome " ++ who.name ++ codes "\n") _
      (ap (λ (o : Result ImportValue ImportFault). Some (greeting_of who o)) e ∙ ap (λ (b : Bool). Some (cond b (say (codes "welcome " ++ who.name ++ codes "\n")) Finish)) is) (welcome_on who kept.heard body found history e empty line)
  by false is = finishes_at (User who) kept _ (ap (λ (o : Result ImportValue ImportFault). Some (greeting_of who o)) e ∙ ap (λ (b : Bool). Some (cond b (say (codes "welcome " ++ who.name ++ codes "\n")) Finish)) is)

-- ---- files

closes_at : (who : Who) (kept : Kept) (told : List ℕ) (history : List Exchange) → user_next who history ≡ Some (CloseFile kept.handle) → file_text history ≡ say told → 1 ≤ length told → IsOnLine (User who) kept.heard history
    → Arrives (User who) (closing told kept) history
closes_at who kept told history e told_is some line = record { word = []; number = 0; asks_is = refl; next = e; line = (tt, line, told_is, some) }

got : (who : Who) (kept : Kept) (handle : ℕ) (body : List ℕ) (history : List Exchange) → 1 ≤ handle → IsOnLine (User who) kept.heard history
    → Arrives (User who) (closing (size_text body) (record kept { handle = handle })) (exchange (ReadAt handle 0 4000) (Done body) ∷ history)
unfolding user_next
got who kept zero body history some line = absurd (search (rules, some))
got who kept (suc file) body history some line =
    closes_at who (record kept { handle = suc file }) (size_text body) _ refl refl (omega arith) (still (User who) kept.heard (exchange (ReadAt (suc file) 0 4000) (Done body)) history line refl refl refl)

get_failed : (who : Who) (kept : Kept) (handle device : ℕ) (history : List Exchange) → 1 ≤ handle → IsOnLine (User who) kept.heard history
    → Arrives (User who) (closing (codes "fault 2\n") (record kept { handle = handle })) (exchange (ReadAt handle 0 4000) (Device device) ∷ history)
unfolding user_next
get_failed who kept zero device history some line = absurd (search (rules, some))
get_failed who kept (suc file) device history some line =
    closes_at who (record kept { handle = suc file }) (codes "fault 2\n") _ refl refl (omega arith) (still (User who) kept.heard (exchange (ReadAt (suc file) 0 4000) (Device device)) history line refl refl refl)

had_put : (who : Who) (kept : Kept) (handle : ℕ) (body : List ℕ) (history : List Exchange) → 1 ≤ handle → IsOnLine (User who) kept.heard history
    → Arrives (User who) (closing (codes "done\n") (record kept { handle = handle })) (exchange (WriteAt handle 0 kept.text) (Done body) ∷ history)
unfolding user_next
had_put who kept zero body history some line = absurd (search (rules, some))
had_put who kept (suc file) body history some line =
    closes_at who (record kept { handle = suc file }) (codes "done\n") _ refl refl (omega arith) (still (User who) kept.heard (exchange (WriteAt (suc file) 0 kept.text) (Done body)) history line refl refl refl)

put_failed : (who : Who) (kept : Kept) (handle device : ℕ) (history : List Exchange) → 1 ≤ handle → IsOnLine (User who) kept.heard history
    → Arrives (User who) (closing (codes "fault 2\n") (record kept { handle = handle })) (exchange (WriteAt handle 0 kept.text) (Device device) ∷ history)
unfolding user_next
put_failed who kept zero device history some line = absurd (search (rules, some))
put_failed who kept (suc file) device history some line =
    closes_at who (record kept { handle = suc file }) (codes "fault 2\n") _ refl refl (omega arith) (still (User who) kept.heard (exchange (WriteAt (suc file) 0 kept.text) (Device device)) history line refl refl refl)

-- ---- the table, row by row

same_state : (t1 t2 u1 u2 : List ℕ) (l1 l2 r1 r2 : ℕ) → t1 ≡ t2 → u1 ≡ u2 → l1 ≡ l2 → r1 ≡ r2
    → Export (state_bytes (record { terminal = t1; unread = u1; lines = l1; bytes = r1 })) ≡ Export (state_bytes (record { terminal = t2; unread = u2; lines = l2; bytes = r2 }))
same_state t1 t2 u1 u2 l1 l2 r1 r2 t u l r = rw (t, u, l, r) refl

exported_at : (kept : Kept) (text body : List ℕ) (history : List Exchange) → IsOnLine Pre kept.heard history → Arrives Pre (exporting kept) (exchange (Reply text) (Done body) ∷ history)
unfolding pre_next
exported_at kept text body history line =
    let heard = kept.heard in
    let bytes : List ℕ = client_bytes history in
    let lines : texts_of history ≡ heard.lines = line.texts in
    let same : Export (state_bytes (pre_state (exchange (Reply text) (Done body) ∷ history))) ≡ Export (state_bytes (kept_state heard)) =
    same_state (terminal_in (texts_of history) bytes) heard.terminal (behind_lines (texts_of history) bytes) heard.held (texts_of history) heard.lines (length bytes) heard.read
    (ap (λ (n : ℕ). terminal_in n bytes) lines ∙ sym line.keeps.state.0) (ap (λ (n : ℕ). behind_lines n bytes) lines ∙ sym line.keeps.held) lines (sym line.keeps.state.1) in
    record { word = state_bytes (kept_state heard); number = 0; asks_is = refl; next = ap (λ (q : RequestValue). Some q) same; line = (tt, tt) }

done_at : (place : Place) (role : Role) (kept : Kept) (word : List ℕ) (number : ℕ) (body : List ℕ) (history : List Exchange) → IsAsked place → IsForm (form_of (request_at place kept word number)) body → IsLineAt place role kept word history
    → Arrives role (done_move role place body kept) (exchange (request_at place kept word number) (Done body) ∷ history)
unfolding pre_next user_next
done_at places.New role kept word number body history asked fits line = absurd asked
done_at places.Ended role kept word number body history asked fits line = absurd asked
done_at places.Greeting Pre kept word number body history asked fits line = says_at Pre kept (body ++ codes "\n") _ refl (still Pre kept.heard (exchange Banner (Done body)) history line.1 refl refl refl)
done_at places.Importing (User who) kept word number body history asked fits line = imported_at who kept body (import_of body) history refl line.1 line.2
done_at places.Saying Pre kept word number body history asked fits line =
    said_at Pre kept word body history line (ap (λ (b : Bool). Some (cond b Finish (pre_first (underway (exchange (say word) (Done body) ∷ history)) (is_challenged history)))) line.goes_on)
done_at places.Saying (User who) kept word number body history asked fits line =
    said_at (User who) kept word body history line (ap (λ (b : Bool). Some (cond b Finish (user_first (underway (exchange (say word) (Done body) ∷ history))))) line.goes_on)
done_at places.Parting Pre kept word number body history asked fits line =
    finishes_at Pre kept _ (ap (λ (b : Bool). Some (cond b Finish (pre_first (underway (exchange (say word) (Done body) ∷ history)) (is_challenged history)))) line)
done_at places.Parting (User who) kept word number body history asked fits line =
    finishes_at (User who) kept _ (ap (λ (b : Bool). Some (cond b Finish (user_first (underway (exchange (say word) (Done body) ∷ history))))) line)
done_at places.Reading role kept word number body history asked fits line = read_at role kept body history fits line
done_at places.Challenging Pre kept word number body history asked fits line =
    says_at Pre (marked true kept) body _ refl (line_on Pre kept.heard true (exchange (Challenge word) (Done body)) history line.1 refl refl refl)
done_at places.Replying Pre kept word number body history asked fits line = exported_at kept word body history line.1
done_at places.Abandoning Pre kept word number body history asked fits line =
    says_at Pre (marked false kept) (codes "done\n") _ refl (line_on Pre kept.heard false (exchange Abandon (Done body)) history line.1 refl refl refl)
done_at places.Exporting Pre kept word number body history asked fits line = absurd fits
done_at places.OpeningGet (User who) kept word number body history asked fits line = record {
  word = [];
  number = 0;
  asks_is = refl;
  next = ap (λ (c : UserCommand). Some (opened_request c (from_le_bytes w32 body))) line.2;
  line = (tt, still (User who) kept.heard (exchange (OpenFile 1 word) (Done body)) history line.1 refl refl refl, fits.1);
}
done_at places.OpeningPut (User who) kept word number body history asked fits line = record {
  word = [];
  number = 0;
  asks_is = refl;
  next = ap (λ (c : UserCommand). Some (opened_request c (from_le_bytes w32 body))) line.2;
  line = (tt, still (User who) kept.heard (exchange (OpenFile 2 word) (Done body)) history line.1 refl refl refl, fits.1);
}
done_at places.Getting (User who) kept word number body history asked fits line = got who kept kept.handle body history line.2 line.1
done_at places.Putting (User who) kept word number body history asked fits line = had_put who kept kept.handle body history line.2 line.1
done_at places.Closing (User who) kept word number body history asked fits line =
    says_at (User who) kept kept.text _ (ap (λ (q : RequestValue). Some q) line.2) (still (User who) kept.heard (exchange (CloseFile kept.handle) (Done body)) history line.1 refl refl refl)
done_at places.Noting (User who) kept word number body history asked fits line =
    says_at (User who) kept (codes "done\n") _ refl (still (User who) kept.heard (exchange (Note word) (Done body)) history line.1 refl refl refl)
done_at places.Asking (User who) kept word number body history asked fits line =
    says_at (User who) kept (body ++ codes "\n") _ refl (still (User who) kept.heard (exchange (Info number) (Done body)) history line.1 refl refl refl)
done_at places.Finishing Pre kept word number body history asked fits line = ends_at Pre kept _ refl
done_at places.Finishing (User who) kept word number body history asked fits line = ends_at (User who) kept _ refl
done_at _ _ kept word number body history asked fits line = absurd line.0

-- no violation
mild : (rule : ℕ) (next : Option RequestValue) → nat_le rule 7 ≡ false → cond (nat_le rule 7) None next ≡ next
mild rule next e = ap (λ (b : Bool). cond b None next) e

denied_at : (place : Place) (role : Role) (kept : Kept) (word : List ℕ) (number rule detail : ℕ) (history : List Exchange) → nat_le rule 7 ≡ false → IsAsked place → IsLineAt place role kept word history
    → Arrives role (denied_move place rule kept) (exchange (request_at place kept word number) (Denied rule detail) ∷ history)
unfolding pre_next user_next
denied_at places.New role kept word number rule detail history e asked line = absurd asked
denied_at places.Ended role kept word number rule detail history e asked line = absurd asked
denied_at places.Challenging Pre kept word number rule detail history e asked line =
    says_at Pre kept (denied_text rule) _ (mild rule (Some (say (denied_text rule))) e) (still Pre kept.heard (exchange (Challenge word) (Denied rule detail)) history line.1 refl refl refl)
denied_at places.Replying Pre kept word number rule detail history e asked line =
    says_at Pre (marked false kept) (denied_text rule) _ (mild rule (Some (say (denied_text rule))) e) (line_on Pre kept.heard false (exchange (Reply word) (Denied rule detail)) history line.1 refl refl refl)
denied_at places.OpeningGet (User who) kept word number rule detail history e asked line =
    says_at (User who) kept (denied_text rule) _ (mild rule (Some (say (denied_text rule))) e) (still (User who) kept.heard (exchange (OpenFile 1 word) (Denied rule detail)) history line.1 refl refl refl)
denied_at places.OpeningPut (User who) kept word number rule detail history e asked line =
    says_at (User who) kept (denied_text rule) _ (mild rule (Some (say (denied_text rule))) e) (still (User who) kept.heard (exchange (OpenFile 2 word) (Denied rule detail)) history line.1 refl refl refl)
denied_at places.Asking (User who) kept word number rule detail history e asked line =
    says_at (User who) kept (denied_text rule) _ (mild rule (Some (say (denied_text rule))) e) (still (User who) kept.heard (exchange (Info number) (Denied rule detail)) history line.1 refl refl refl)
denied_at places.Challenging (User who) kept word number rule detail history e asked line = absurd line.0
denied_at places.Replying (User who) kept word number rule detail history e asked line = absurd line.0
denied_at places.OpeningGet Pre kept word number rule detail history e asked line = absurd line.0
denied_at places.OpeningPut Pre kept word number rule detail history e asked line = absurd line.0
denied_at places.Asking Pre kept word number rule detail history e asked line = absurd line.0
denied_at places.Finishing Pre kept word number rule detail history e asked line = ends_at Pre kept _ refl
denied_at places.Finishing (User who) kept word number rule detail history e asked line = ends_at (User who) kept _ refl
denied_at _ Pre kept word number rule detail history e asked line = finishes_at Pre kept _ (mild rule (Some Finish) e)
denied_at _ (User who) kept word number rule detail history e asked line = finishes_at (User who) kept _ (mild rule (Some Finish) e)

failed_at : (place : Place) (role : Role) (kept : Kept) (word : List ℕ) (number device : ℕ) (history : List Exchange) → IsAsked place → IsLineAt place role kept word history
    → Arrives role (failed_move place kept) (exchange (request_at place kept word number) (Device device) ∷ history)
unfolding pre_next user_next
failed_at places.New role kept word number device history asked line = absurd asked
failed_at places.Ended role kept word number device history asked line = absurd asked
failed_at places.Getting (User who) kept word number device history asked line = get_failed who kept kept.handle device history line.2 line.1
failed_at places.Putting (User who) kept word number device history asked line = put_failed who kept kept.handle device history line.2 line.1
failed_at places.Getting Pre kept word number device history asked line = absurd line.0
failed_at places.Putting Pre kept word number device history asked line = absurd line.0
failed_at places.Finishing Pre kept word number device history asked line = ends_at Pre kept _ refl
failed_at places.Finishing (User who) kept word number device history asked line = ends_at (User who) kept _ refl
failed_at _ Pre kept word number device history asked line = finishes_at Pre kept _ refl
failed_at _ (User who) kept word number device history asked line = finishes_at (User who) kept _ refl

-- a violation ends the dialogue
harsh : (finish b : Bool) (next : Option RequestValue) → b ≡ true → cond (finish || b) None next ≡ None
harsh true b next e = refl
harsh false b next e = ap (λ (c : Bool). cond c None next) e

violated_at : (role : Role) (kept : Kept) (request : RequestValue) (rule detail : ℕ) (history : List Exchange) → nat_le rule 7 ≡ true → Arrives role (ended kept) (exchange request (Denied rule detail) ∷ history)
unfolding pre_next user_next
violated_at Pre kept request rule detail history e = ends_at Pre kept _ (harsh (is_finish request) (nat_le rule 7) _ e)
violated_at (User who) kept request rule detail history e = ends_at (User who) kept _ (harsh (is_finish request) (nat_le rule 7) _ e)

answered_at : (role : Role) (kept : Kept) (answer : AnswerValue) (word : List ℕ) (number : ℕ) (history : List Exchange) → IsAsked kept.place → FitsForm (form_of (request_at kept.place kept word number)) answer → IsLineAt kept.place role kept word history
    → Arrives role (move role answer kept) (exchange (request_at kept.place kept word number) answer ∷ history)
answered_at role kept (Done body) word number history asked fits line = done_at kept.place role kept word number body history asked fits line
answered_at role kept (Device device) word number history asked fits line = failed_at kept.place role kept word number device history asked line
answered_at role kept (Denied rule detail) word number history asked fits line = by (nat_le rule 7) refl where
  by : (b : Bool) → nat_le rule 7 ≡ b → Arrives role (cond b (ended kept) (denied_move kept.place rule kept)) (exchange (request_at kept.place kept word number) (Denied rule detail) ∷ history)
  by true e = violated_at role kept (request_at kept.place kept word number) rule detail history e
  by false e = denied_at kept.place role kept word number rule detail history e asked line

some_at : (place : Place) (kept : Kept) (word : List ℕ) (number : ℕ) → IsAsked place → asked_at place kept word number ≡ Some (request_at place kept word number)
some_at places.New kept word number asked = absurd asked
some_at places.Ended kept word number asked = absurd asked
some_at _ kept word number asked = refl

-- what was asked last
pub asked_last : (role : Role) (kept : Kept) (asks : Option RequestValue) (history : List Exchange) (at : IsAt role kept asks history) → IsAsked kept.place → next_request role history ≡ Some (request_at kept.place kept at.word at.number)
asked_last role kept asks history at asked = at.next ∙ at.asks_is ∙ some_at kept.place kept at.word at.number asked

-- a child that stands for some exchanges stands for one more after its move
pub arrives : (role : Role) (kept : Kept) (asks : Option RequestValue) (answer : AnswerValue) (history : List Exchange) (at : IsAt role kept asks history) → IsAsked kept.place → FitsForm (form_of (request_at kept.place kept at.word at.number)) answer
    → IsAt role (move role answer kept).kept (move role answer kept).asks (with_answer role history answer)
arrives role kept asks answer history at asked fits =
    let P : Option RequestValue → Type 0 = λ o. Arrives role (move role answer kept) (joined o history answer) in
    subst P (sym (asked_last role kept asks history at asked)) (answered_at role kept answer at.word at.number history asked fits at.line)
