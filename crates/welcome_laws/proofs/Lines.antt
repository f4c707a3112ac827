-- The client's lines, as far as they came, and what the child before the login asks after them.
use Rattle.std.proofs.Common.{◌≡◌, ℕ, zero, suc, ◌+◌, ◌<◌, ◌≤◌, ◌^◌, Bool, true, false, ◌&&◌, ◌||◌, cond, List, []}
use Rattle.std.proofs.Common.{◌∷◌, ◌++◌, length, take, Option, Some, None, refl, sym, ap, subst, ◌∙◌, arith, inl, inr, ◌⊎◌, lit≤}
use Rattle.std.specs.Prelude.{codes, nat_le, is_some}
use Rattle.std.specs.Str.Lines.{strip_carriage_return}
use Rattle.std.specs.Int.{to_le_bytes, w16}
use Rattle.std.specs.Fmt.{decimal}
use Rattle.std.specs.List.{list_all}
use Rattle.std.proofs.lemmas.Bool.{and_parts, le-leb, leb-true}
use Rattle.std.proofs.lemmas.Bool.Decides.{nat_tests}
use Rattle.std.proofs.lemmas.List.{length-append, length-drop}
use Rattle.std.proofs.lemmas.List.Folds.{prefix_len-append}
use Rattle.request_catalogue.specs.Catalogue.{RequestValue}
use Rattle.request_catalogue.specs.Catalogue as requests
use Rattle.request_catalogue.specs.Replies.{Denied, Done}
use Rattle.request_catalogue.specs.Texts.{is_name, is_printable, is_typed_reply}
use Rattle.otp_hash.specs.Seeds.{is_seed, is_seed_byte}
use Rattle.otp_hash.specs.declared.chain.Algo.{Algo}
use Rattle.otp_hash.specs.declared.chain.Algo.TheVariants as algos
use Rattle.otp_words.specs.Challenges.{challenge_of, challenge_word}
use Rattle.otp_words.specs.Inner.{four_digits, leading_zeros}
use Rattle.otp_words.proofs.FourDigits.{short_digits-decimal}
use Rattle.state_export.specs.Spelling.{IsState, StateValue, counts_bytes, field_bytes, state_bytes}
use Rattle.child_protocol.specs.Commands.{PreCommand, Respond, User, legal, pre_command, respond_command}
use Rattle.child_protocol.specs.Commands.{terminal_command, text_behind, user_command}
use Rattle.child_protocol.specs.Commands as commands
use Rattle.child_protocol.specs.Exchanges.{Exchange, client_bytes, front_at, is_challenged, is_finish, texts_of}
use Rattle.child_protocol.specs.Exchanges.{underway}
use Rattle.child_protocol.specs.Lines.{Front, HasLines, Line, More, TooLong, behind, behind_line, behind_lines, front_by}
use Rattle.child_protocol.specs.Lines.{front_of, line_end}
use Rattle.child_protocol.specs.Pre.{denied_text, is_quit, pre_denied, pre_done, pre_first, pre_is_last, pre_next, pre_request, pre_state, read_more, say}
use Rattle.child_protocol.specs.Pre.{state_at, terminal_at, terminal_by, terminal_in}
use Rattle.child_protocol.proofs.MoreBytes.{HasLines-more, behind_lines-more, front_of-more}
use Rattle.welcome_laws.specs.Client.{AgreesWith}
use Rattle.welcome_laws.proofs.Meeting.{had}

-- ---- fronts

-- where no newline came yet, the line's is after what came
late_end : (bytes more : List ℕ) (end : ℕ) → line_end bytes ≡ None → line_end (bytes ++ more) ≡ Some end
    → length bytes ≤ end
unfolding line_end
late_end bytes more end none some = grind (arith, nat_tests, prefix_len-append, length-append)

short_front : (bytes : List ℕ) → line_end bytes ≡ None → length bytes ≤ 300 → front_of bytes ≡ More
unfolding front_of
short_front bytes none short =
    ap (λ o. front_by o bytes) none ∙ ap (λ b. cond b More TooLong) (le-leb (length bytes) 300 short)

-- where more of the line is to come, no newline came yet
pub not_waiting : (bytes : List ℕ) → front_of bytes ≡ More → false ≡ is_some (line_end bytes)
unfolding front_of
not_waiting bytes h = by_end (line_end bytes) h where
  no_more : (short : Bool) (text : List ℕ) → cond short (Line text) TooLong ≡ More → ⊥
  no_more true text e = cc
  no_more false text e = cc

  by_end : (o : Option ℕ) → front_by o bytes ≡ More → false ≡ is_some o
  by_end None h' = refl
  by_end (Some end) h' =
      absurd (no_more (nat_le (length (strip_carriage_return (take end bytes))) 300)
      (strip_carriage_return (take end bytes)) h')

some_end : (o : Option ℕ) → is_some o ≡ true → (end : ℕ) × (o ≡ Some end)
some_end None h = absurd cc
some_end (Some end) h = (end, refl)

-- the line after so many came whole, or more of it is to come, and then little of it came
pub record IsWhole (count : ℕ) (lines bytes : List ℕ) : Type 0 where
  pub whole : HasLines (suc count) bytes
  pub same : front_of (behind_lines count bytes) ≡ front_of (behind_lines count lines)

pub record IsWaiting (count : ℕ) (lines bytes : List ℕ) : Type 0 where
  pub front : front_of (behind_lines count bytes) ≡ More
  pub few : length (behind_lines count bytes) ≤ 300

pub so_far : (count : ℕ) (lines bytes : List ℕ) → HasLines (suc count) lines
    → ((end : ℕ) → line_end (behind_lines count lines) ≡ Some end → end ≤ 300) → HasLines count bytes
    → AgreesWith lines bytes → IsWhole count lines bytes ⊎ IsWaiting count lines bytes
so_far count lines bytes whole short has (inr longer) =
    let behind_is : behind_lines count bytes ≡ behind_lines count lines ++ longer.0 = ap (behind_lines count) longer.1
    ∙ behind_lines-more count lines longer.0 whole.0 in
    let all : HasLines (suc count) bytes = subst (HasLines (suc count)) (sym longer.1)
    (HasLines-more (suc count) lines longer.0 whole) in
    inl (record {
      whole = all;
      same = ap front_of behind_is
          ∙ front_of-more (behind_lines count lines) longer.0 whole.1;
    })
so_far count lines bytes whole short has (inl shorter) = by_end (line_end (behind_lines count bytes)) refl where
  behind_is : behind_lines count lines ≡ behind_lines count bytes ++ shorter.0
  behind_is = ap (behind_lines count) shorter.1 ∙ behind_lines-more count bytes shorter.0 has

  by_end : (o : Option ℕ) → line_end (behind_lines count bytes) ≡ o
      → IsWhole count lines bytes ⊎ IsWaiting count lines bytes
  by_end (Some end) is =
      let here : is_some (line_end (behind_lines count bytes)) ≡ true = ap (λ (o : Option ℕ). is_some o) is in
      inl (record {
        whole = (has, here);
        same = sym
            (ap front_of behind_is ∙ front_of-more (behind_lines count bytes) shorter.0 here);
      })
  by_end None is =
      let end = some_end (line_end (behind_lines count lines)) whole.1 in
      let late = late_end (behind_lines count bytes) shorter.0 end.0 is (sym (ap line_end behind_is) ∙ end.1) in
      inr (record {
        front = short_front (behind_lines count bytes) is (omega (arith, late, short end.0 end.1));
        few = omega (arith, late, short end.0 end.1);
      })

-- ---- commands

legal_is : (test : Bool) (one two : PreCommand) → legal test one ≡ two → (two ≡ commands.Other → ⊥)
    → (test ≡ true) × (one ≡ two)
legal_is true one two h other = (refl, h)
legal_is false one two h other = absurd (other (sym h))

-- a user's name is one, and a response is one
pub named_user : (line name : List ℕ) → pre_command line ≡ User name → is_name name ≡ true
unfolding pre_command
named_user line name h = by_terminal (text_behind (codes "term ") line) h where
  by_word : (one two : Bool) → cond one commands.Cancel (cond two commands.Quit commands.Other) ≡ User name → ⊥
  by_word true two h' = cc
  by_word false true h' = cc
  by_word false false h' = cc

  by_response : (o : Option (List ℕ)) → respond_command line o ≡ User name → ⊥
  by_response None h' = by_word _ _ h'
  by_response (Some text) h' =
      let l = legal_is (is_typed_reply text) (Respond text) (User name) h' (λ e. cc) in let e = l.1 in cc

  by_user : (o : Option (List ℕ)) → user_command line o ≡ User name → is_name name ≡ true
  by_user None h' = absurd (by_response (text_behind (codes "resp ") line) h')
  by_user (Some text) h' =
      let l = legal_is (is_name text) (User text) (User name) h' (λ e. cc) in
      let e = l.1 in
      let same : text ≡ name = cc in
      subst (λ t. is_name t ≡ true) same l.0

  by_terminal : (o : Option (List ℕ)) → terminal_command line o ≡ User name → is_name name ≡ true
  by_terminal None h' = by_user (text_behind (codes "user ") line) h'
  by_terminal (Some text) h' =
      let l = legal_is (commands.is_terminal text) (commands.Terminal text) (User name) h' (λ e. cc) in let e = l.1 in
      absurd cc

pub typed_response : (line response : List ℕ) → pre_command line ≡ Respond response → is_typed_reply response ≡ true
unfolding pre_command
typed_response line response h = by_terminal (text_behind (codes "term ") line) h where
  by_word : (one two : Bool) → cond one commands.Cancel (cond two commands.Quit commands.Other) ≡ Respond response → ⊥
  by_word true two h' = cc
  by_word false true h' = cc
  by_word false false h' = cc

  by_response : (o : Option (List ℕ)) → respond_command line o ≡ Respond response → is_typed_reply response ≡ true
  by_response None h' = absurd (by_word _ _ h')
  by_response (Some text) h' =
      let l = legal_is (is_typed_reply text) (Respond text) (Respond response) h' (λ e. cc) in
      let e = l.1 in
      let same : text ≡ response = cc in
      subst (λ t. is_typed_reply t ≡ true) same l.0

  by_user : (o : Option (List ℕ)) → user_command line o ≡ Respond response → is_typed_reply response ≡ true
  by_user None h' = by_response (text_behind (codes "resp ") line) h'
  by_user (Some text) h' =
      let l = legal_is (is_name text) (User text) (Respond response) h' (λ e. cc) in let e = l.1 in absurd cc

  by_terminal : (o : Option (List ℕ)) → terminal_command line o ≡ Respond response → is_typed_reply response ≡ true
  by_terminal None h' = by_user (text_behind (codes "user ") line) h'
  by_terminal (Some text) h' =
      let l = legal_is (commands.is_terminal text) (commands.Terminal text) (Respond response) h' (λ e. cc) in let e =
      l.1 in absurd cc

terminal_legal : (line text : List ℕ) → pre_command line ≡ commands.Terminal text → commands.is_terminal text ≡ true
unfolding pre_command
terminal_legal line text h = by_terminal (text_behind (codes "term ") line) h where
  by_word : (one two : Bool) → cond one commands.Cancel (cond two commands.Quit commands.Other) ≡ commands.Terminal text
      → ⊥
  by_word true two h' = cc
  by_word false true h' = cc
  by_word false false h' = cc

  by_response : (o : Option (List ℕ)) → respond_command line o ≡ commands.Terminal text → ⊥
  by_response None h' = by_word _ _ h'
  by_response (Some t) h' =
      let l = legal_is (is_typed_reply t) (Respond t) (commands.Terminal text) h' (λ e. cc) in let e = l.1 in cc

  by_user : (o : Option (List ℕ)) → user_command line o ≡ commands.Terminal text → ⊥
  by_user None h' = by_response (text_behind (codes "resp ") line) h'
  by_user (Some t) h' =
      let l = legal_is (is_name t) (User t) (commands.Terminal text) h' (λ e. cc) in let e = l.1 in cc

  by_terminal : (o : Option (List ℕ)) → terminal_command line o ≡ commands.Terminal text
      → commands.is_terminal text ≡ true
  by_terminal None h' = absurd (by_user (text_behind (codes "user ") line) h')
  by_terminal (Some t) h' =
      let l = legal_is (commands.is_terminal t) (commands.Terminal t) (commands.Terminal text) h' (λ e. cc) in
      let e = l.1 in
      let same : t ≡ text = cc in
      subst (λ x. commands.is_terminal x ≡ true) same l.0

-- ---- the dialogue

-- what follows a request that was done
next_done : (request : RequestValue) (body : List ℕ) (before : List Exchange) → is_finish request ≡ false
    → pre_next (had request (Done body) ∷ before) ≡ Some
    (pre_done request body (pre_is_last (underway before))
    (pre_first (underway (had request (Done body) ∷ before)) (is_challenged (had request (Done body) ∷ before)))
    (pre_state (had request (Done body) ∷ before)))
unfolding pre_next
next_done request body before un =
    ap (λ b. cond (b || false) None (Some (pre_done request body (pre_is_last (underway before))
    (pre_first (underway (had request (Done body) ∷ before)) (is_challenged (had request (Done body) ∷ before)))
    (pre_state (had request (Done body) ∷ before))))) un

pub first_next : pre_next [] ≡ Some requests.Banner
unfolding pre_next
first_next = refl

abbrev pub greeted : List ℕ → List Exchange
greeted banner = had requests.Banner (Done banner) ∷ []

pub greeted_next : (banner : List ℕ) → pre_next (greeted banner) ≡ Some (say (banner ++ codes "\n"))
greeted_next banner = next_done requests.Banner banner [] refl

-- so many lines were answered, a challenge is open or not, these bytes came, and the next line is looked at
pub record Waits (count : ℕ) (challenged : Bool) (bytes : List ℕ) (history : List Exchange) : Type 0 where
  pub texts : texts_of history ≡ suc count
  pub open_is : is_challenged history ≡ challenged
  pub came : client_bytes history ≡ bytes
  pub next : pre_next history ≡ Some (pre_first (front_of (behind_lines count bytes)) challenged)

pub waits_first : (banner text : List ℕ) → Waits 0 false [] (had (say text) (Done []) ∷ greeted banner)
waits_first banner text =
    record { texts = refl; open_is = refl; came = refl; next = next_done (say text) [] (greeted banner) refl }

pub waits_more : (count : ℕ) (challenged : Bool) (bytes : List ℕ) (history : List Exchange) (c : ℕ) (body : List ℕ)
    → Waits count challenged bytes history
    → Waits count challenged (bytes ++ c ∷ body) (had read_more (Done (c ∷ body)) ∷ history)
waits_more count challenged bytes history c body w = record {
  texts = w.texts;
  open_is = w.open_is;
  came = ap (λ b. b ++ c ∷ body) w.came;
  next =
      next_done read_more (c ∷ body) history refl
      ∙ ap (λ n. Some (pre_first (front_at n (client_bytes history ++ c ∷ body)) (is_challenged history))) w.texts
      ∙ ap (λ b. Some (pre_first (front_of (behind_lines count (b ++ c ∷ body))) (is_challenged history))) w.came
      ∙ ap (λ o. Some (pre_first (front_of (behind_lines count (bytes ++ c ∷ body))) o)) w.open_is;
}

-- so many lines were answered, a challenge is open or not, these bytes came, and a text is sent next
pub record Tells (count : ℕ) (challenged : Bool) (bytes text : List ℕ) (history : List Exchange) : Type 0 where
  pub texts : texts_of history ≡ suc count
  pub open_is : is_challenged history ≡ challenged
  pub came : client_bytes history ≡ bytes
  pub next : pre_next history ≡ Some (say text)

-- a line that is answered by a text alone
pub tells_at_once : (count : ℕ) (challenged : Bool) (bytes line text : List ℕ) (history : List Exchange)
    → Waits count challenged bytes history → front_of (behind_lines count bytes) ≡ Line line
    → pre_request (pre_command line) challenged ≡ say text → Tells count challenged bytes text history
tells_at_once count challenged bytes line text history w front answer = record {
  texts = w.texts;
  open_is = w.open_is;
  came = w.came;
  next = w.next ∙ ap (λ f. Some (pre_first f challenged)) front ∙ ap (λ q. Some q) answer;
}

abbrev pub challenged_by : List ℕ → List ℕ → List Exchange → List Exchange
challenged_by name text history = had (requests.Challenge name) (Done text) ∷ history

pub tells_challenge : (count : ℕ) (challenged : Bool) (bytes name text : List ℕ) (history : List Exchange)
    → Waits count challenged bytes history → Tells count true bytes text (challenged_by name text history)
tells_challenge count challenged bytes name text history w = record {
  texts = w.texts;
  open_is = refl;
  came = w.came;
  next = next_done (requests.Challenge name) text history refl;
}

-- what follows a denial that ends no session
next_denied : (request : RequestValue) (rule detail : ℕ) (before : List Exchange) → is_finish request ≡ false
    → nat_le rule 7 ≡ false → pre_next (had request (Denied rule detail) ∷ before) ≡ Some (pre_denied request rule)
unfolding pre_next
next_denied request rule detail before un mild =
    ap (λ b. cond (b || nat_le rule 7) None (Some (pre_denied request rule))) un
    ∙ ap (λ b. cond b None (Some (pre_denied request rule))) mild

pub tells_held : (count : ℕ) (challenged : Bool) (bytes name : List ℕ) (detail : ℕ) (history : List Exchange)
    → Waits count challenged bytes history
    → Tells count challenged bytes (denied_text 12) (had (requests.Challenge name) (Denied 12 detail) ∷ history)
tells_held count challenged bytes name detail history w = record {
  texts = w.texts;
  open_is = w.open_is;
  came = w.came;
  next = next_denied (requests.Challenge name) 12 detail history refl refl;
}

pub tells_wrong : (count : ℕ) (challenged : Bool) (bytes response : List ℕ) (history : List Exchange)
    → Waits count challenged bytes history
    → Tells count false bytes (denied_text 16) (had (requests.Reply response) (Denied 16 0) ∷ history)
tells_wrong count challenged bytes response history w = record {
  texts = w.texts;
  open_is = refl;
  came = w.came;
  next = next_denied (requests.Reply response) 16 0 history refl refl;
}

pub tells_cancelled : (count : ℕ) (challenged : Bool) (bytes : List ℕ) (history : List Exchange)
    → Waits count challenged bytes history
    → Tells count false bytes (codes "done\n") (had requests.Abandon (Done []) ∷ history)
tells_cancelled count challenged bytes history w = record {
  texts = w.texts;
  open_is = refl;
  came = w.came;
  next = next_done requests.Abandon [] history refl;
}

-- after its text the next line is looked at, unless the client quits
pub waits_next : (count : ℕ) (challenged : Bool) (bytes line text : List ℕ) (history : List Exchange)
    → Tells count challenged bytes text history → front_of (behind_lines count bytes) ≡ Line line
    → is_quit (pre_command line) ≡ false → Waits (suc count) challenged bytes (had (say text) (Done []) ∷ history)
waits_next count challenged bytes line text history w front stays = record {
  texts = ap (λ n. suc n) w.texts;
  open_is = w.open_is;
  came = w.came;
  next =
      next_done (say text) [] history refl
      ∙ ap (λ n. Some (cond (pre_is_last (front_at n (client_bytes history))) requests.Finish
      (pre_first (front_at (suc n) (client_bytes history)) (is_challenged history)))) w.texts
      ∙ ap (λ b. Some (cond (pre_is_last (front_of (behind_lines count b))) requests.Finish
      (pre_first (front_of (behind_lines (suc count) b)) (is_challenged history)))) w.came
      ∙ ap (λ f. Some (cond (pre_is_last f) requests.Finish (pre_first (front_of (behind_lines (suc count) bytes))
      (is_challenged history)))) front
      ∙ ap (λ b. Some (cond b requests.Finish (pre_first (front_of (behind_lines (suc count) bytes))
      (is_challenged history)))) stays
      ∙ ap (λ o. Some (pre_first (front_of (behind_lines (suc count) bytes)) o)) w.open_is;
}

abbrev pub replied_by : List ℕ → List Exchange → List Exchange
replied_by text history = had (requests.Reply text) (Done []) ∷ history

pub replied_next : (count : ℕ) (response : List ℕ) (bytes : List ℕ) (history : List Exchange)
    → Waits count true bytes history
    → pre_next (replied_by response history) ≡ Some (requests.Export (state_bytes (state_at (suc count) bytes)))
replied_next count response bytes history w =
    next_done (requests.Reply response) [] history refl
    ∙ ap (λ n. Some (requests.Export (state_bytes (state_at n (client_bytes history))))) w.texts
    ∙ ap (λ b. Some (requests.Export (state_bytes (state_at (suc count) b)))) w.came

-- ---- the state that is left

pub behind_shorter : (bytes : List ℕ) → length (behind_line bytes) ≤ length bytes
behind_shorter bytes = by_end (line_end bytes) where
  by_end : (o : Option ℕ) → length (behind o bytes) ≤ length bytes
  by_end None = omega arith
  by_end (Some end) = omega (arith, length-drop (end + 1) bytes)

named_short : (text : List ℕ) → commands.is_terminal text ≡ true → length text ≤ 64
unfolding commands.is_terminal
named_short text is =
    leb-true (length text) 64 (and_parts (nat_le (length text) 64) (list_all is_printable text) is).0

pub terminal_short : (count : ℕ) (bytes : List ℕ) → length (terminal_in count bytes) ≤ 64
terminal_short zero bytes = omega arith
terminal_short (suc count) bytes = by_front (front_of (behind_lines count bytes)) (terminal_short count bytes) where
  by_command : (line : List ℕ) (c : PreCommand) → pre_command line ≡ c → (before : List ℕ) → length before ≤ 64
      → length (terminal_by c before) ≤ 64
  by_command line (commands.Terminal text) is before le = named_short text (terminal_legal line text is)
  by_command line (User name) is before le = le
  by_command line (Respond text) is before le = le
  by_command line commands.Cancel is before le = le
  by_command line commands.Quit is before le = le
  by_command line commands.Other is before le = le

  by_front : (f : Front) → length (terminal_in count bytes) ≤ 64
      → length (terminal_at f (terminal_in count bytes)) ≤ 64
  by_front More le = le
  by_front TooLong le = le
  by_front (Line text) le = by_command text (pre_command text) refl (terminal_in count bytes) le

pub is_state : (count : ℕ) (bytes : List ℕ) → length (behind_lines count bytes) ≤ 4096 → count < 2 ^ 32
    → length bytes < 2 ^ 32 → IsState (state_at count bytes)
is_state count bytes held few small =
    record { terminal = terminal_short count bytes; unread = held; lines = few; bytes = small }

-- it may be exported
pub state_short : (state : StateValue) → IsState state → length (state_bytes state) ≤ 8192
unfolding state_bytes
state_short state is =
    let first = codes "OTS1" ++ field_bytes 1 state.terminal in
    let second = first ++ field_bytes 2 state.unread in
    omega (
      arith,
      length-append second (field_bytes 3 (counts_bytes state)),
      length-append first
          (field_bytes 2 state.unread),
      length-append (codes "OTS1") (field_bytes 1 state.terminal),
      length-append
          (to_le_bytes w16 (length state.terminal)) state.terminal,
      length-append (to_le_bytes w16 (length state.unread))
          state.unread,
      is.terminal,
      is.unread,
    )

-- ---- the text of a denial, and of a challenge

pub decimal_short : (n : ℕ) → n ≤ 9999 → length (decimal n) ≤ 4
decimal_short n le =
    subst (λ (ds : List ℕ). length ds ≤ 4) (short_digits-decimal n le)
    (omega (arith, length-drop (leading_zeros n) (four_digits n)))

pub denied_size : (rule : ℕ) → rule ≤ 9999 → (1 ≤ length (denied_text rule)) × (length (denied_text rule) ≤ 16000)
denied_size rule le =
    let size : length (denied_text rule) ≡ 7 + length (decimal rule) + 1 = omega
    (arith, length-append (codes "denied " ++ decimal rule) (codes "\n"), length-append (codes "denied ") (decimal rule))
    in (omega (arith, size), omega (arith, size, decimal_short rule le))

word_short : (algo : Algo) → length (challenge_word algo) ≤ 8
word_short algos.Md5 = lit≤ tt
word_short algos.Sha1 = lit≤ tt

pub challenge_size : (algo : Algo) (n : ℕ) (seed : List ℕ) → n ≤ 9999 → is_seed seed ≡ true
    → (1 ≤ length (challenge_of algo n seed)) × (length (challenge_of algo n seed) ≤ 32)
unfolding challenge_of is_seed
challenge_size algo n seed le legal' =
    let few = leb-true (length seed) 16 (and_parts (nat_le 1 (length seed)) (nat_le (length seed) 16)
    (and_parts (nat_le 1 (length seed) && nat_le (length seed) 16) (list_all is_seed_byte seed) legal').0).1 in
    let first = challenge_word algo ++ 32 ∷ decimal n in
    let second = first ++ 32 ∷ seed in
    let size : length (second ++ 10 ∷ []) ≡ length (challenge_word algo) + length (decimal n) + length seed + 3 =
    omega (
      arith,
      length-append second (10 ∷ []),
      length-append first (32 ∷ seed),
      length-append (challenge_word algo)
          (32 ∷ decimal n),
    ) in
    (omega (arith, size), omega (arith, size, few, decimal_short n le, word_short algo))
