-- Each request of the child before the login is in its range.
use Rattle.std.proofs.Common.{◌≡◌, ℕ, zero, suc, ◌≤◌, Bool, true, false, cond, List, [], ◌∷◌, ◌++◌}
use Rattle.std.proofs.Common.{length, Some, refl, sym, ap, subst, ◌∙◌, arith, lit≤}
use Rattle.std.specs.Prelude.{codes}
use Rattle.std.specs.Int.{to_le_bytes, w16}
use Rattle.std.proofs.lemmas.List.{length-append}
use Rattle.request_catalogue.specs.Catalogue.{RequestValue}
use Rattle.request_catalogue.specs.Catalogue as requests
use Rattle.request_catalogue.specs.Replies.{AnswerValue, Done, Denied, Device, IsAnswer}
use Rattle.state_export.specs.Spelling.{StateValue, counts_bytes, field_bytes, state_bytes}
use Rattle.otp_hash.specs.declared.chain.Algo.{Algo}
use Rattle.otp_words.specs.Challenges.{challenge_word}
use Rattle.child_protocol.specs.Commands.{Cancel, Other, PreCommand, Quit, Respond, Terminal, User as UserCommand}
use Rattle.child_protocol.specs.Commands.{pre_command}
use Rattle.child_protocol.specs.Exchanges.{Exchange, client_bytes, ends_child, front_at, is_challenged, texts_of}
use Rattle.child_protocol.specs.Exchanges.{underway}
use Rattle.child_protocol.specs.Lines.{Front, HasLines, Line, More, TooLong, behind_lines, front_of}
use Rattle.child_protocol.specs.Phases.{is_export}
use Rattle.child_protocol.specs.Pre.{is_quit, pre_first, pre_follows, pre_is_last, pre_next, pre_request}
use Rattle.child_protocol.specs.Pre.{pre_state, read_more, say, state_at}
use Rattle.child_protocol.specs.Replies.{FitsForm, IsChallengeText, form_of}
use Rattle.child_protocol.specs.Says.{Pre}
use Rattle.child_protocol.proofs.Fronts.{line_whole, more_short}
use Rattle.child_protocol.proofs.MoreBytes.{HasLines-more, behind_lines-more}
use Rattle.welcome_laws.proofs.Lines.{behind_shorter, named_user, terminal_short, typed_response}
use Rattle.welcome_laws.proofs.Meeting.{had}
use Rattle.dialogue_laws.proofs.Ranges.{IsHeard, Ranged, denied_ranged, followed, line_ranged, read_ranged, say_ranged}

-- ---- what it asks next, and where it stands then

-- what it asks next, if anything, is such a request
abbrev Asks : (RequestValue → Type 0) → List Exchange → Type 0
Asks P history = (request : RequestValue) → pre_next history ≡ Some request → P request

-- what follows an exchange, where the child goes on
abbrev after : RequestValue → AnswerValue → List Exchange → RequestValue
after request answer history =
    pre_follows request answer (pre_is_last (underway history))
    (pre_first (underway (had request answer ∷ history)) (is_challenged (had request answer ∷ history)))
    (pre_state (had request answer ∷ history))

asks_by : (P : RequestValue → Type 0) (request : RequestValue) (answer : AnswerValue) (history : List Exchange)
    → P (after request answer history) → Asks P (had request answer ∷ history)
unfolding pre_next
asks_by P request answer history is next asked =
    subst P (followed (ends_child request answer) (after request answer history) next asked) is

-- a request that is made while a line, or the greeting, is underway
abbrev is_of_line : RequestValue → Bool
is_of_line requests.Banner = true
is_of_line (requests.Challenge user) = true
is_of_line (requests.Reply text) = true
is_of_line requests.Abandon = true
is_of_line (requests.WriteAt zero offset bytes) = true
is_of_line _ = false

-- a line is underway, and after its text comes the next one
record IsOnLine (history : List Exchange) : Type 0 where
  pub whole : HasLines (texts_of history) (client_bytes history)
  pub few : length (behind_lines (texts_of history) (client_bytes history)) ≤ 812
  pub goes_on : pre_is_last (underway history) ≡ false
  pub asks : Asks (λ request. is_of_line request ≡ true) history

-- less than a line came, and more bytes are asked for
record IsReading (history : List Exchange) : Type 0 where
  pub lines : ℕ
  pub texts : texts_of history ≡ suc lines
  pub whole : HasLines lines (client_bytes history)
  pub few : length (behind_lines lines (client_bytes history)) ≤ 300
  pub asks : Asks (λ request. request ≡ read_more) history

-- the last text is told
record IsParting (history : List Exchange) : Type 0 where
  pub last : pre_is_last (underway history) ≡ true
  pub asks : Asks (λ request. (text : List ℕ) × (request ≡ say text)) history

data Stage (history : List Exchange) : Type 0 where
  OnLine : (line : IsOnLine history) → Stage history
  Reading : (reading : IsReading history) → Stage history
  Parting : (parting : IsParting history) → Stage history
  Leaving : (asks : Asks (λ request. is_export request ≡ true) history) → Stage history
  Over : (asks : Asks (λ request. request ≡ requests.Finish) history) → Stage history

-- ---- the next line

quit_says : (command : PreCommand) (challenged : Bool) → is_quit command ≡ true
    → pre_request command challenged ≡ say (codes "bye\n")
quit_says Quit challenged is = refl
quit_says (Terminal text) challenged is = absurd cc
quit_says (UserCommand name) challenged is = absurd cc
quit_says (Respond text) challenged is = absurd cc
quit_says Cancel challenged is = absurd cc
quit_says Other challenged is = absurd cc

line_asks : (command : PreCommand) (challenged : Bool) → is_of_line (pre_request command challenged) ≡ true
line_asks (Terminal text) challenged = refl
line_asks (UserCommand name) true = refl
line_asks (UserCommand name) false = refl
line_asks (Respond text) true = refl
line_asks (Respond text) false = refl
line_asks Cancel true = refl
line_asks Cancel false = refl
line_asks Quit challenged = refl
line_asks Other challenged = refl

turned : (history : List Exchange) (lines : ℕ) → texts_of history ≡ suc lines → HasLines lines (client_bytes history)
    → length (behind_lines lines (client_bytes history)) ≤ 812
    → Asks (λ request. request ≡ pre_first (underway history) (is_challenged history)) history → Stage history
turned history lines texts whole few asks = by_front (front_of held) refl where
  challenged : Bool
  challenged = is_challenged history

  held : List ℕ
  held = behind_lines lines (client_bytes history)

  line : underway history ≡ front_of held
  line = ap (λ n. front_at n (client_bytes history)) texts

  by_quit : (text : List ℕ) → front_of held ≡ Line text → (b : Bool) → is_quit (pre_command text) ≡ b → Stage history
  by_quit text is true quits = Parting (record {
    last = ap pre_is_last (line ∙ is) ∙ quits;
    asks = λ request asked. (
      codes "bye\n",
      asks request asked ∙ ap (λ f. pre_first f challenged) (line ∙ is)
          ∙ quit_says (pre_command text) challenged quits,
    );
  })
  by_quit text is false stays = OnLine (record {
    whole = subst (λ n. HasLines n (client_bytes history)) (sym texts) (whole, line_whole held text is);
    few = subst (λ n. length (behind_lines n (client_bytes history)) ≤ 812) (sym texts)
        (omega (arith, behind_shorter held, few));
    goes_on = ap pre_is_last (line ∙ is) ∙ stays;
    asks = λ request asked. ap is_of_line (asks request asked ∙ ap (λ f. pre_first f challenged) (line ∙ is))
        ∙ line_asks (pre_command text) challenged;
  })

  by_front : (f : Front) → front_of held ≡ f → Stage history
  by_front More is = Reading (record {
    lines = lines;
    texts = texts;
    whole = whole;
    few = more_short held is;
    asks = λ request asked. asks request asked ∙ ap (λ f. pre_first f challenged) (line ∙ is);
  })
  by_front TooLong is = Parting (record {
    last = ap pre_is_last (line ∙ is);
    asks = λ request asked. (codes "long\n", asks request asked ∙ ap (λ f. pre_first f challenged) (line ∙ is));
  })
  by_front (Line text) is = by_quit text is (is_quit (pre_command text)) refl

-- ---- after one more exchange

over : (request : RequestValue) (answer : AnswerValue) (history : List Exchange)
    → after request answer history ≡ requests.Finish → Stage (had request answer ∷ history)
over request answer history is = Over (asks_by (λ r. r ≡ requests.Finish) request answer history is)

-- an exchange that brings no bytes and no text
kept : (request : RequestValue) (answer : AnswerValue) (history : List Exchange) → IsOnLine history
    → texts_of (had request answer ∷ history) ≡ texts_of history
    → client_bytes (had request answer ∷ history) ≡ client_bytes history
    → is_of_line (after request answer history) ≡ true → Stage (had request answer ∷ history)
kept request answer history line texts bytes asks = OnLine (record {
  whole = subst (λ n. HasLines n (client_bytes now)) (sym texts)
      (subst (λ b. HasLines (texts_of history) b) (sym bytes) line.whole);
  few = subst (λ n. length (behind_lines n (client_bytes now)) ≤ 812) (sym texts)
      (subst (λ b. length (behind_lines (texts_of history) b) ≤ 812) (sym bytes) line.few);
  goes_on = ap (λ n. pre_is_last (front_at n (client_bytes now))) texts
      ∙ ap (λ b. pre_is_last (front_at (texts_of history) b)) bytes ∙ line.goes_on;
  asks = asks_by (λ r. is_of_line r ≡ true) request answer history asks;
}) where
  now : List Exchange
  now = had request answer ∷ history

after_line : (request : RequestValue) (answer : AnswerValue) (history : List Exchange) → IsOnLine history
    → is_of_line request ≡ true → Stage (had request answer ∷ history)
after_line request (Device device) history line is = over request (Device device) history refl
after_line requests.Banner (Done text) history line is = kept requests.Banner (Done text) history line refl refl refl
after_line (requests.Challenge user) (Done text) history line is =
    kept (requests.Challenge user) (Done text) history line refl refl refl
after_line (requests.Reply text) (Done body) history line is =
    Leaving (asks_by (λ r. is_export r ≡ true) (requests.Reply text) (Done body) history refl)
after_line requests.Abandon (Done body) history line is = kept requests.Abandon (Done body) history line refl refl refl
after_line (requests.WriteAt zero offset bytes) (Done body) history line is =
    let text = requests.WriteAt zero offset bytes in
    let now = had text (Done body) ∷ history in
    let next = pre_first (underway now) (is_challenged now) in
    turned now (texts_of history) refl line.whole line.few
    (asks_by (λ r. r ≡ next) text (Done body) history (ap (λ b. cond b requests.Finish next) line.goes_on))
after_line (requests.Challenge user) (Denied rule detail) history line is =
    kept (requests.Challenge user) (Denied rule detail) history line refl refl refl
after_line (requests.Reply text) (Denied rule detail) history line is =
    kept (requests.Reply text) (Denied rule detail) history line refl refl refl
after_line requests.Banner (Denied rule detail) history line is =
    over requests.Banner (Denied rule detail) history refl
after_line requests.Abandon (Denied rule detail) history line is =
    over requests.Abandon (Denied rule detail) history refl
after_line (requests.WriteAt zero offset bytes) (Denied rule detail) history line is =
    over (requests.WriteAt zero offset bytes) (Denied rule detail) history refl
after_line request answer history line is = absurd cc

after_reading : (answer : AnswerValue) (history : List Exchange) → IsReading history
    → FitsForm (form_of read_more) answer → Stage (had read_more answer ∷ history)
after_reading (Done []) history reading fits = over read_more (Done []) history refl
after_reading (Done (c ∷ body)) history reading fits =
    let bytes = client_bytes history in
    let chunk = c ∷ body in
    turned (had read_more (Done chunk) ∷ history) reading.lines reading.texts
    (HasLines-more reading.lines bytes chunk reading.whole)
    (omega (
      arith,
      ap length (behind_lines-more reading.lines bytes chunk reading.whole),
      length-append (behind_lines reading.lines bytes) chunk,
      reading.few,
      fits,
    ))
    (asks_by (λ r. r ≡ pre_first (underway (had read_more (Done chunk) ∷ history))
    (is_challenged (had read_more (Done chunk) ∷ history))) read_more (Done chunk) history refl)
after_reading (Denied rule detail) history reading fits = over read_more (Denied rule detail) history refl
after_reading (Device device) history reading fits = over read_more (Device device) history refl

after_parting : (text : List ℕ) (answer : AnswerValue) (history : List Exchange)
    → pre_is_last (underway history) ≡ true → Stage (had (say text) answer ∷ history)
after_parting text (Done body) history last =
    let now = had (say text) (Done body) ∷ history in
    let next = pre_first (underway now) (is_challenged now) in
    over (say text) (Done body) history (ap (λ b. cond b requests.Finish next) last)
after_parting text (Denied rule detail) history last = over (say text) (Denied rule detail) history refl
after_parting text (Device device) history last = over (say text) (Device device) history refl

after_leaving : (request : RequestValue) (answer : AnswerValue) (history : List Exchange) → is_export request ≡ true
    → Stage (had request answer ∷ history)
after_leaving (requests.Export state) (Done body) history is = over (requests.Export state) (Done body) history refl
after_leaving (requests.Export state) (Denied rule detail) history is =
    over (requests.Export state) (Denied rule detail) history refl
after_leaving (requests.Export state) (Device device) history is =
    over (requests.Export state) (Device device) history refl
after_leaving request answer history is = absurd cc

after_over : (answer : AnswerValue) (history : List Exchange) → Stage (had requests.Finish answer ∷ history)
after_over (Done body) history = over requests.Finish (Done body) history refl
after_over (Denied rule detail) history = over requests.Finish (Denied rule detail) history refl
after_over (Device device) history = over requests.Finish (Device device) history refl

one_more : (history : List Exchange) (x : Exchange) → Stage history → pre_next history ≡ Some x.request
    → FitsForm (form_of x.request) x.answer → Stage (x ∷ history)
one_more history x (OnLine line) asked fits = after_line x.request x.answer history line (line.asks x.request asked)
one_more history x (Reading reading) asked fits =
    let same = reading.asks x.request asked in
    subst (λ r. Stage (had r x.answer ∷ history)) (sym same)
    (after_reading x.answer history reading (subst (λ r. FitsForm (form_of r) x.answer) same fits))
one_more history x (Parting parting) asked fits =
    let said = parting.asks x.request asked in
    subst (λ r. Stage (had r x.answer ∷ history)) (sym said.1) (after_parting said.0 x.answer history parting.last)
one_more history x (Leaving asks) asked fits = after_leaving x.request x.answer history (asks x.request asked)
one_more history x (Over asks) asked fits =
    subst (λ r. Stage (had r x.answer ∷ history)) (sym (asks x.request asked)) (after_over x.answer history)

stands : (history : List Exchange) → IsHeard Pre history → Stage history
unfolding pre_next
stands [] heard = OnLine (record {
  whole = tt;
  few = lit≤ tt;
  goes_on = refl;
  asks = λ request asked.
      let first : Some requests.Banner ≡ Some request = asked in
      let same : requests.Banner ≡ request = cc in
      ap is_of_line (sym same);
})
stands (x ∷ history) (asked, answer, fits, rest) = one_more history x (stands history rest) asked fits

-- ---- the state that is left

state_size : (count : ℕ) (bytes : List ℕ) → length (behind_lines count bytes) ≤ 812
    → length (state_bytes (state_at count bytes)) ≤ 8192
unfolding state_bytes
state_size count bytes few =
    let state = state_at count bytes in
    let first = codes "OTS1" ++ field_bytes 1 state.terminal in
    let second = first ++ field_bytes 2 state.unread in
    omega (
      arith,
      length-append second (field_bytes 3 (counts_bytes state)),
      length-append first (field_bytes 2 state.unread),
      length-append (codes "OTS1") (field_bytes 1 state.terminal),
      length-append (to_le_bytes w16 (length state.terminal)) state.terminal,
      length-append (to_le_bytes w16 (length state.unread)) state.unread,
      terminal_short count bytes,
      few,
    )

left_size : (history : List Exchange) (text : List ℕ) → IsHeard Pre history
    → pre_next history ≡ Some (requests.Reply text) → length (state_bytes (pre_state history)) ≤ 8192
left_size history text heard asked = by (stands history heard) where
  by : Stage history → length (state_bytes (pre_state history)) ≤ 8192
  by (OnLine line) = state_size (texts_of history) (client_bytes history) line.few
  by (Reading reading) = absurd (let no = reading.asks (requests.Reply text) asked in cc)
  by (Parting parting) = absurd (let no = (parting.asks (requests.Reply text) asked).1 in cc)
  by (Leaving asks) = absurd (let no = asks (requests.Reply text) asked in cc)
  by (Over asks) = absurd (let no = asks (requests.Reply text) asked in cc)

-- ---- the ranges

challenge_some : (text : List ℕ) → IsChallengeText text → 1 ≤ length text
challenge_some text (algo, n, seed, begins) =
    omega (
      arith,
      ap length begins.spelled,
      length-append (challenge_word algo) (begins.gap ++ (begins.digits ++ (begins.second_gap ++ (begins.name
          ++ begins.close ∷ begins.unread)))),
      word_some algo,
    ) where
      word_some : (a : Algo) → 4 ≤ length (challenge_word a)
      word_some a = omega (arith, length-append (codes "otp-") (Rattle.otp_hash.specs.Names.algo_name a))

command_ranged : (line : List ℕ) (command : PreCommand) (challenged : Bool) → pre_command line ≡ command
    → Ranged (pre_request command challenged)
command_ranged line (Terminal text) challenged is = say_ranged (codes "done\n") (lit≤ tt) (lit≤ tt)
command_ranged line (UserCommand name) true is = say_ranged (codes "what\n") (lit≤ tt) (lit≤ tt)
command_ranged line (UserCommand name) false is = named_user line name is
command_ranged line (Respond text) true is = typed_response line text is
command_ranged line (Respond text) false is = say_ranged (codes "what\n") (lit≤ tt) (lit≤ tt)
command_ranged line Cancel true is = tt
command_ranged line Cancel false is = say_ranged (codes "what\n") (lit≤ tt) (lit≤ tt)
command_ranged line Quit challenged is = say_ranged (codes "bye\n") (lit≤ tt) (lit≤ tt)
command_ranged line Other challenged is = say_ranged (codes "what\n") (lit≤ tt) (lit≤ tt)

first_ranged : (front : Front) (challenged : Bool) → Ranged (pre_first front challenged)
first_ranged More challenged = read_ranged 512 (lit≤ tt) (lit≤ tt)
first_ranged TooLong challenged = say_ranged (codes "long\n") (lit≤ tt) (lit≤ tt)
first_ranged (Line text) challenged = command_ranged text (pre_command text) challenged refl

last_ranged : (last : Bool) (next : RequestValue) → Ranged next → Ranged (cond last requests.Finish next)
last_ranged true next is = tt
last_ranged false next is = is

module _ (last : Bool) (next : RequestValue) (state : StateValue) (goes : Ranged next) where
  done_ranged : (request : RequestValue) (body : List ℕ)
      → ((text : List ℕ) → request ≡ requests.Reply text → length (state_bytes state) ≤ 8192)
      → FitsForm (form_of request) (Done body) → Ranged (pre_follows request (Done body) last next state)
  done_ranged requests.Banner body left fits = line_ranged body (omega (arith, fits))
  done_ranged (requests.WriteAt handle offset bytes) body left fits = last_ranged last next goes
  done_ranged (requests.ReadAt handle offset max) [] left fits = tt
  done_ranged (requests.ReadAt handle offset max) (c ∷ body) left fits = goes
  done_ranged (requests.Challenge user) body left fits =
      say_ranged body (challenge_some body fits.1) (omega (arith, fits.0))
  done_ranged (requests.Reply text) body left fits = left text refl
  done_ranged requests.Abandon body left fits = say_ranged (codes "done\n") (lit≤ tt) (lit≤ tt)
  done_ranged (requests.Export exported) body left fits = tt
  done_ranged requests.Import body left fits = tt
  done_ranged (requests.OpenFile mode name) body left fits = tt
  done_ranged (requests.CloseFile handle) body left fits = tt
  done_ranged (requests.Info number) body left fits = tt
  done_ranged (requests.Note text) body left fits = tt
  done_ranged requests.Finish body left fits = tt

  denial_ranged : (request : RequestValue) (rule detail : ℕ) → IsAnswer (Denied rule detail)
      → Ranged (pre_follows request (Denied rule detail) last next state)
  denial_ranged (requests.Challenge user) rule detail is = denied_ranged rule detail is
  denial_ranged (requests.Reply text) rule detail is = denied_ranged rule detail is
  denial_ranged requests.Banner rule detail is = tt
  denial_ranged requests.Abandon rule detail is = tt
  denial_ranged (requests.Export exported) rule detail is = tt
  denial_ranged requests.Import rule detail is = tt
  denial_ranged (requests.ReadAt handle offset max) rule detail is = tt
  denial_ranged (requests.WriteAt handle offset bytes) rule detail is = tt
  denial_ranged (requests.OpenFile mode name) rule detail is = tt
  denial_ranged (requests.CloseFile handle) rule detail is = tt
  denial_ranged (requests.Info number) rule detail is = tt
  denial_ranged (requests.Note text) rule detail is = tt
  denial_ranged requests.Finish rule detail is = tt

  follows_ranged : (request : RequestValue) (answer : AnswerValue)
      → ((text : List ℕ) → request ≡ requests.Reply text → length (state_bytes state) ≤ 8192) → IsAnswer answer
      → FitsForm (form_of request) answer → Ranged (pre_follows request answer last next state)
  follows_ranged request (Done body) left is fits = done_ranged request body left fits
  follows_ranged request (Denied rule detail) left is fits = denial_ranged request rule detail is
  follows_ranged request (Device device) left is fits = tt

pub pre_ranged : (history : List Exchange) (request : RequestValue) → IsHeard Pre history
    → pre_next history ≡ Some request → Ranged request
unfolding pre_next
pre_ranged [] request heard asked =
    let same : requests.Banner ≡ request = (let e : Some requests.Banner ≡ Some request = asked in cc) in
    subst Ranged same tt
pre_ranged (x ∷ history) request (heard, answer, fits, rest) asked =
    asks_by Ranged x.request x.answer history
    (follows_ranged (pre_is_last (underway history))
    (pre_first (underway (x ∷ history)) (is_challenged (x ∷ history))) (pre_state (x ∷ history))
    (first_ranged (underway (x ∷ history)) (is_challenged (x ∷ history))) x.request x.answer left answer fits)
    request asked where
      same_state : (text : List ℕ) → x.request ≡ requests.Reply text → pre_state (x ∷ history) ≡ pre_state history
      same_state text is = ap (λ r. pre_state (had r x.answer ∷ history)) is

      left : (text : List ℕ) → x.request ≡ requests.Reply text → length (state_bytes (pre_state (x ∷ history))) ≤ 8192
      left text is =
          subst (λ s. length (state_bytes s) ≤ 8192) (sym (same_state text is))
          (left_size history text rest (heard ∙ ap (λ r. Some r) is))
