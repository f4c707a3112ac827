-- What the user's child asks after its welcome, along its client's lines.
use Rattle.std.proofs.Common.{◌≡◌, ℕ, zero, suc, ◌≤◌, Bool, true, false, ◌&&◌, ◌||◌, cond, List, [], ◌∷◌, ◌++◌}
use Rattle.std.proofs.Common.{length, Option, Some, None, refl, sym, ap, ◌∙◌}
use Rattle.std.specs.Prelude.{codes, nat_le}
use Rattle.std.specs.Int.{from_le_bytes, w32}
use Rattle.std.specs.List.{list_all}
use Rattle.std.proofs.lemmas.Bool.{and_parts, leb-true}
use Rattle.request_catalogue.specs.Catalogue.{RequestValue}
use Rattle.request_catalogue.specs.Catalogue as requests
use Rattle.request_catalogue.specs.Replies.{Done}
use Rattle.request_catalogue.specs.Texts.{is_label, is_note, is_printable}
use Rattle.child_protocol.specs.Commands.{text_behind}
use Rattle.child_protocol.specs.Exchanges.{Exchange, client_bytes, front_at, imported_unread, is_finish}
use Rattle.child_protocol.specs.Exchanges.{texts_of, underway}
use Rattle.state_export.specs.Reading.{import_of}
use Rattle.child_protocol.specs.Lines.{HasLines, Line, behind_line, behind_lines, front_of}
use Rattle.child_protocol.specs.Pre.{read_more, say}
use Rattle.child_protocol.specs.User.{Get, Leave, Put, Remark, Unknown, UserCommand, Who, command_at}
use Rattle.child_protocol.specs.User.{get_command, if_legal, info_command, is_content, is_leave}
use Rattle.child_protocol.specs.User.{note_command, number_of, opened_request, put_command, put_or_command}
use Rattle.child_protocol.specs.User.{space_in, tell_command, user_command, user_done, user_first}
use Rattle.child_protocol.specs.User.{user_is_last, user_next, user_request}
use Rattle.child_protocol.proofs.MoreBytes.{behind_lines-more}
use Rattle.welcome_laws.proofs.Meeting.{had}

-- ---- commands

-- the name of a `get` is one, and so are the parts of a `put`
abbrev pub IsFileCommand : UserCommand → Type 0
IsFileCommand (Get name) = is_label name ≡ true
IsFileCommand (Put name text) = (is_label name ≡ true) × (is_content text ≡ true)
IsFileCommand _ = Unit {0}

pub file_command : (line : List ℕ) → IsFileCommand (user_command line)
unfolding user_command
file_command line = by_get (text_behind (codes "get ") line) where
  by_leave : (b : Bool) → IsFileCommand (cond b Leave Unknown)
  by_leave true = tt
  by_leave false = tt

  by_legal : (test : Bool) (text : List ℕ) → IsFileCommand (if_legal test (Remark text))
  by_legal true text = tt
  by_legal false text = tt

  by_note : (o : Option (List ℕ)) → IsFileCommand (note_command line o)
  by_note None = by_leave _
  by_note (Some text) = by_legal (is_note text) text

  by_number : (o : Option ℕ) → IsFileCommand (tell_command o)
  by_number None = tt
  by_number (Some number) = tt

  by_info : (o : Option (List ℕ)) → IsFileCommand (info_command line o)
  by_info None = by_note (text_behind (codes "note ") line)
  by_info (Some text) = by_number (number_of text)

  by_parts : (one two : Bool) (name text : List ℕ) → is_label name ≡ one → is_content text ≡ two
      → IsFileCommand (if_legal (one && two) (Put name text))
  by_parts true true name text a b = (a, b)
  by_parts true false name text a b = tt
  by_parts false two name text a b = tt

  by_space : (o : Option ℕ) (text : List ℕ) → IsFileCommand (put_command text o)
  by_space None text = tt
  by_space (Some i) text = by_parts _ _ _ _ refl refl

  by_put : (o : Option (List ℕ)) → IsFileCommand (put_or_command line o)
  by_put None = by_info (text_behind (codes "info ") line)
  by_put (Some text) = by_space (space_in text) text

  by_name : (test : Bool) (name : List ℕ) → is_label name ≡ test → IsFileCommand (if_legal test (Get name))
  by_name true name is = is
  by_name false name is = tt

  by_get : (o : Option (List ℕ)) → IsFileCommand (get_command line o)
  by_get None = by_put (text_behind (codes "put ") line)
  by_get (Some name) = by_name (is_label name) name refl

pub content_size : (text : List ℕ) → is_content text ≡ true → (1 ≤ length text) × (length text ≤ 200)
unfolding is_content
content_size text is =
    let both = and_parts (nat_le 1 (length text)) (nat_le (length text) 200)
    (and_parts (nat_le 1 (length text) && nat_le (length text) 200) (list_all is_printable text) is).0 in
    (leb-true 1 (length text) both.0, leb-true (length text) 200 both.1)

-- ---- lines

-- the number of a line, counted from the first after those that the child before took
abbrev pub line_at : ℕ → ℕ → ℕ
line_at zero taken = taken
line_at (suc count) taken = suc (line_at count taken)

-- lines after lines
pub behind_sum : (count more : ℕ) (bytes : List ℕ)
    → behind_lines count (behind_lines more bytes) ≡ behind_lines (line_at count more) bytes
behind_sum zero more bytes = refl
behind_sum (suc count) more bytes = ap behind_line (behind_sum count more bytes)

module _ (who : Who) where
  -- what follows a request that was done
  pub user_done_next : (request : RequestValue) (body : List ℕ) (before : List Exchange) → is_finish request ≡ false
      → user_next who (had request (Done body) ∷ before) ≡ Some
      (user_done who request body (underway before) before (user_first (underway (had request (Done body) ∷ before))))
  unfolding user_next
  user_done_next request body before un =
      ap (λ b. cond (b || false) None (Some (user_done who request body (underway before) before
      (user_first (underway (had request (Done body) ∷ before)))))) un

  -- so many lines were answered after those that the child before took, these bytes of the client came in all, and the
  -- next line is looked at
  pub record Awaits (count taken : ℕ) (bytes : List ℕ) (history : List Exchange) : Type 0 where
    pub texts : texts_of history ≡ suc count
    pub came : client_bytes history ≡ behind_lines taken bytes
    pub next : user_next who history ≡ Some (user_first (front_of (behind_lines (line_at count taken) bytes)))

  -- after the welcome, by the bytes that the child before left
  pub awaits_first : (taken : ℕ) (bytes body text : List ℕ)
      → imported_unread (import_of body) ≡ behind_lines taken bytes
      → Awaits zero taken bytes (had (say text) (Done []) ∷ had requests.Import (Done body) ∷ [])
  awaits_first taken bytes body text came = record {
    texts = refl;
    came = came;
    next = user_done_next (say text) [] (had requests.Import (Done body) ∷ []) refl
        ∙ ap (λ b. Some (user_first (front_of b))) came;
  }

  -- the line underway
  front_is : (count taken : ℕ) (bytes : List ℕ) (n : ℕ) (all : List ℕ) → n ≡ suc count
      → all ≡ behind_lines taken bytes → front_at n all ≡ front_of (behind_lines (line_at count taken) bytes)
  front_is count taken bytes n all texts came =
      ap (λ k. front_at k all) texts ∙ ap (λ b. front_of (behind_lines count b)) came
      ∙ ap front_of (behind_sum count taken bytes)

  pub awaits_more : (count taken : ℕ) (bytes : List ℕ) (history : List Exchange) (c : ℕ) (body : List ℕ)
      → HasLines taken bytes → Awaits count taken bytes history
      → Awaits count taken (bytes ++ c ∷ body) (had read_more (Done (c ∷ body)) ∷ history)
  awaits_more count taken bytes history c body has w =
      let came = ap (λ b. b ++ c ∷ body) w.came ∙ sym (behind_lines-more taken bytes (c ∷ body) has) in record {
        texts = w.texts;
        came = came;
        next = user_done_next read_more (c ∷ body) history refl
            ∙ ap (λ f. Some (user_first f)) (front_is count taken (bytes ++ c ∷ body) (texts_of history)
            (client_bytes history ++ c ∷ body) w.texts came);
      }

  -- a line of a command is underway
  pub record Underway (count taken : ℕ) (bytes : List ℕ) (command : UserCommand) (history : List Exchange)
      : Type 0 where
    pub texts : texts_of history ≡ suc count
    pub came : client_bytes history ≡ behind_lines taken bytes
    pub line : List ℕ
    pub front : front_of (behind_lines (line_at count taken) bytes) ≡ Line line
    pub is : user_command line ≡ command

  pub underway_is : (count taken : ℕ) (bytes : List ℕ) (command : UserCommand) (history : List Exchange)
      → (w : Underway count taken bytes command history) → underway history ≡ Line w.line
  underway_is count taken bytes command history w =
      front_is count taken bytes (texts_of history) (client_bytes history) w.texts w.came ∙ w.front

  -- the command's first request
  pub command_next : (count taken : ℕ) (bytes : List ℕ) (command : UserCommand) (history : List Exchange)
      → Awaits count taken bytes history → (w : Underway count taken bytes command history)
      → user_next who history ≡ Some (user_request command)
  command_next count taken bytes command history a w =
      a.next ∙ ap (λ f. Some (user_first f)) w.front ∙ ap (λ c. Some (user_request c)) w.is

  -- the request after the OPEN
  pub opened_next : (count taken : ℕ) (bytes : List ℕ) (command : UserCommand) (history : List Exchange) (mode : ℕ)
      (name body : List ℕ) → (w : Underway count taken bytes command history)
      → user_next who (had (requests.OpenFile mode name) (Done body) ∷ history) ≡ Some
      (opened_request command (from_le_bytes w32 body))
  opened_next count taken bytes command history mode name body w =
      user_done_next (requests.OpenFile mode name) body history refl
      ∙ ap (λ f. Some (opened_request (command_at f) (from_le_bytes w32 body)))
      (underway_is count taken bytes command history w)
      ∙ ap (λ c. Some (opened_request c (from_le_bytes w32 body))) w.is

  -- the next line, after the text for a command
  pub awaits_next : (count taken : ℕ) (bytes text : List ℕ) (command : UserCommand) (history : List Exchange)
      → (w : Underway count taken bytes command history) → is_leave command ≡ false
      → Awaits (suc count) taken bytes (had (say text) (Done []) ∷ history)
  awaits_next count taken bytes text command history w stays = record {
    texts = ap (λ n. suc n) w.texts;
    came = w.came;
    next = user_done_next (say text) [] history refl
        ∙ ap (λ f. Some (cond (user_is_last f) requests.Finish (user_first (front_at (suc (texts_of history))
        (client_bytes history))))) (underway_is count taken bytes command history w)
        ∙ ap (λ c. Some (cond (is_leave c) requests.Finish (user_first (front_at (suc (texts_of history))
        (client_bytes history))))) w.is
        ∙ ap (λ b. Some (cond b requests.Finish (user_first (front_at (suc (texts_of history))
        (client_bytes history))))) stays
        ∙ ap (λ f. Some (user_first f)) (front_is (suc count) taken bytes (suc (texts_of history)) (client_bytes history)
        (ap (λ n. suc n) w.texts) w.came);
  }
