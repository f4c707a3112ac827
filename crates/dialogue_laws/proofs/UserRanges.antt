-- Each request of the user's child is in its range.
use Rattle.std.proofs.Common.{◌≡◌, ℕ, zero, suc, ◌+◌, ◌<◌, ◌≤◌, ◌^◌, Bool, true, false, ◌&&◌, cond, List, [], ◌∷◌, ◌++◌}
use Rattle.std.proofs.Common.{length, take, drop, Some, Result, Ok, Err, refl, subst, arith}
use Rattle.std.proofs.Common.{lit<, lit≤}
use Rattle.std.specs.Prelude.{codes, nat_le, slice_index, ◌==◌}
use Rattle.std.specs.Bool.{then_some}
use Rattle.std.specs.Fmt.{decimal}
use Rattle.std.specs.Int.{w32, from_le_bytes}
use Rattle.std.specs.Str.{bytes_eq}
use Rattle.std.proofs.lemmas.List.{length-append}
use Rattle.std.proofs.lemmas.Slice.Eq.{bytes_eq-Decides}
use Rattle.request_catalogue.specs.Catalogue.{RequestValue}
use Rattle.request_catalogue.specs.Catalogue as requests
use Rattle.request_catalogue.specs.Replies.{AnswerValue, Done, Denied, Device, IsAnswer}
use Rattle.request_catalogue.specs.Results.{demand, ◌>>=◌}
use Rattle.request_catalogue.specs.Fields.{number_at}
use Rattle.request_catalogue.specs.Texts.{is_name}
use Rattle.state_export.specs.declared.fault.ImportFault.{ImportFault}
use Rattle.state_export.specs.declared.fault.ImportFault.TheVariants.{Head}
use Rattle.state_export.specs.declared.fault.StateFault.{StateFault}
use Rattle.state_export.specs.Reading.{import_of, imported, state_of}
use Rattle.state_export.specs.Spelling.{ImportValue, StateValue}
use Rattle.state_export.proofs.Fields.{after}
use Rattle.child_protocol.specs.Exchanges.{Exchange, ends_child, underway}
use Rattle.child_protocol.specs.Lines.{Front, Line, More, TooLong}
use Rattle.child_protocol.specs.Pre.{denied_text, say}
use Rattle.child_protocol.specs.Replies.{FitsForm, form_of}
use Rattle.child_protocol.specs.Says.{User}
use Rattle.child_protocol.specs.User.{Get, IsLegalUser, Leave, Put, Remark, Tell, Unknown, UserCommand, Who, command_at}
use Rattle.child_protocol.specs.User.{file_text, greeting_of, handle_failed, opened_request, read_done, told_by}
use Rattle.child_protocol.specs.User.{user_command, user_first, user_follows, user_is_last, user_next, user_request}
use Rattle.child_protocol.specs.User.{write_done}
use Rattle.child_protocol.proofs.UserCommands.{legal_line}
use Rattle.welcome_laws.proofs.Lines.{decimal_short}
use Rattle.welcome_laws.proofs.Meeting.{name_short}
use Rattle.dialogue_laws.proofs.Ranges.{IsHeard, Ranged, denied_ranged, followed, line_ranged, read_ranged, say_ranged}

-- ---- the user's lines

legal_at : (front : Front) → IsLegalUser (command_at front)
legal_at More = tt
legal_at TooLong = tt
legal_at (Line text) = legal_line text

-- ---- requests in their ranges, of which a READ reads few bytes

abbrev ReadsFew : RequestValue → Type 0
ReadsFew (requests.ReadAt handle offset max) = max ≤ 4000
ReadsFew _ = Unit {0}

record IsFine (request : RequestValue) : Type 0 where
  pub ranged : Ranged request
  pub few : ReadsFew request

say_fine : (text : List ℕ) → Ranged (say text) → IsFine (say text)
say_fine text is = record { ranged = is; few = tt }

finish_fine : IsFine requests.Finish
finish_fine = record { ranged = tt; few = tt }

close_fine : (handle : ℕ) → handle < 2 ^ 32 → IsFine (requests.CloseFile handle)
close_fine handle small = record { ranged = small; few = tt }

command_fine : (command : UserCommand) → IsLegalUser command → IsFine (user_request command)
command_fine (Get name) legal = record { ranged = (lit≤ tt, lit≤ tt, legal); few = tt }
command_fine (Put name text) legal = record { ranged = (lit≤ tt, lit≤ tt, legal.0); few = tt }
command_fine (Tell number) legal = record { ranged = legal; few = tt }
command_fine (Remark text) legal = record { ranged = legal; few = tt }
command_fine Leave legal = say_fine (codes "bye\n") (say_ranged (codes "bye\n") (lit≤ tt) (lit≤ tt))
command_fine Unknown legal = say_fine (codes "what\n") (say_ranged (codes "what\n") (lit≤ tt) (lit≤ tt))

first_fine : (front : Front) → IsFine (user_first front)
first_fine More = record { ranged = read_ranged 512 (lit≤ tt) (lit≤ tt); few = lit≤ tt }
first_fine TooLong = say_fine (codes "long\n") (say_ranged (codes "long\n") (lit≤ tt) (lit≤ tt))
first_fine (Line text) = command_fine (user_command text) (legal_line text)

opened_fine : (command : UserCommand) (handle : ℕ) → IsLegalUser command → handle ≤ 8
    → IsFine (opened_request command handle)
opened_fine (Get name) handle legal le =
    record { ranged = (omega (arith, le), lit< tt, lit≤ tt, lit≤ tt); few = lit≤ tt }
opened_fine (Put name text) handle legal le =
    record { ranged = (omega (arith, le), lit< tt, legal.1, omega (arith, legal.2)); few = tt }
opened_fine (Tell number) handle legal le = finish_fine
opened_fine (Remark text) handle legal le = finish_fine
opened_fine Leave handle legal le = finish_fine
opened_fine Unknown handle legal le = finish_fine

-- what the client is told of a file's bytes
file_size : (body : List ℕ) → length body ≤ 4000
    → Ranged (say (codes "size " ++ decimal (length body) ++ codes "\n" ++ body))
file_size body few =
    let told = codes "size " ++ decimal (length body) in
    let text = told ++ codes "\n" ++ body in
    let size : length text ≡ 5 + length (decimal (length body)) + 1 + length body = omega (
      arith,
      length-append (told ++ codes "\n") body,
      length-append told (codes "\n"),
      length-append (codes "size ") (decimal (length body)),
    ) in
    say_ranged text (omega (arith, size)) (omega (arith, size, few, decimal_short (length body) (omega (arith, few))))

told_fine : (request : RequestValue) (answer : AnswerValue) → IsFine request → FitsForm (form_of request) answer
    → IsFine (told_by request answer)
told_fine request (Device device) fine fits =
    say_fine (codes "fault 2\n") (say_ranged (codes "fault 2\n") (lit≤ tt) (lit≤ tt))
told_fine (requests.ReadAt handle offset max) (Done body) fine fits =
    say_fine _ (file_size body (omega (arith, fits, fine.few)))
told_fine (requests.WriteAt handle offset bytes) (Done body) fine fits =
    say_fine (codes "done\n") (say_ranged (codes "done\n") (lit≤ tt) (lit≤ tt))
told_fine requests.Banner (Done body) fine fits = finish_fine
told_fine (requests.Challenge user) (Done body) fine fits = finish_fine
told_fine (requests.Reply text) (Done body) fine fits = finish_fine
told_fine requests.Abandon (Done body) fine fits = finish_fine
told_fine (requests.Export state) (Done body) fine fits = finish_fine
told_fine requests.Import (Done body) fine fits = finish_fine
told_fine (requests.OpenFile mode name) (Done body) fine fits = finish_fine
told_fine (requests.CloseFile handle) (Done body) fine fits = finish_fine
told_fine (requests.Info number) (Done body) fine fits = finish_fine
told_fine (requests.Note text) (Done body) fine fits = finish_fine
told_fine requests.Finish (Done body) fine fits = finish_fine
told_fine requests.Banner (Denied rule detail) fine fits = finish_fine
told_fine (requests.Challenge user) (Denied rule detail) fine fits = finish_fine
told_fine (requests.Reply text) (Denied rule detail) fine fits = finish_fine
told_fine requests.Abandon (Denied rule detail) fine fits = finish_fine
told_fine (requests.Export state) (Denied rule detail) fine fits = finish_fine
told_fine requests.Import (Denied rule detail) fine fits = finish_fine
told_fine (requests.ReadAt handle offset max) (Denied rule detail) fine fits = finish_fine
told_fine (requests.WriteAt handle offset bytes) (Denied rule detail) fine fits = finish_fine
told_fine (requests.OpenFile mode name) (Denied rule detail) fine fits = finish_fine
told_fine (requests.CloseFile handle) (Denied rule detail) fine fits = finish_fine
told_fine (requests.Info number) (Denied rule detail) fine fits = finish_fine
told_fine (requests.Note text) (Denied rule detail) fine fits = finish_fine
told_fine requests.Finish (Denied rule detail) fine fits = finish_fine

-- each request so far is fine, and its answer of its form
abbrev AreFine : List Exchange → Type 0
AreFine [] = Unit {0}
AreFine (x ∷ history) = IsFine x.request × FitsForm (form_of x.request) x.answer × AreFine history

file_fine : (history : List Exchange) → AreFine history → IsFine (file_text history)
file_fine [] fine = finish_fine
file_fine (x ∷ history) fine = told_fine x.request x.answer fine.0 fine.1

-- ---- the record of the state

named_by : (uid : ℕ) (user : List ℕ) (r : Result StateValue StateFault) (found : ImportValue)
    → imported uid user r ≡ Ok found → user ≡ found.user
named_by uid user (Ok state) found is = cc
named_by uid user (Err fault) found is = absurd cc

-- the rest of a record whose name is this
abbrev named_rest : List ℕ → List ℕ → Result ImportValue ImportFault
named_rest body name = imported (number_at w32 0 body) name (state_of (drop (slice_index body 4) (drop 5 body)))

abbrev rest_of : List ℕ → Result ImportValue ImportFault
rest_of body =
    demand Head (then_some (nat_le (slice_index body 4) (length (drop 5 body)))
    (take (slice_index body 4) (drop 5 body)))
    >>= (λ user. demand Head (then_some (is_name user) user) >>= named_rest body)

named_in : (body : List ℕ) (found : ImportValue) → import_of body ≡ Ok found → is_name found.user ≡ true
unfolding import_of
named_in body found is =
    let len = slice_index body 4 in
    let rest = drop 5 body in
    let head = after Head (nat_le 5 (length body)) body rest_of found is in
    let cut = after Head (nat_le len (length rest)) (take len rest) (λ user. demand Head
    (then_some (is_name user) user) >>= named_rest body) found head.1 in
    let name = after Head (is_name (take len rest)) (take len rest) (named_rest body) found cut.1 in
    let same = named_by (number_at w32 0 body) (take len rest) (state_of (drop len rest)) found name.1 in
    subst (λ t. is_name t ≡ true) same
    name.0

-- the welcome of a user whose name the record has
welcome_fine : (who : Who) (left : Result ImportValue ImportFault)
    → ((found : ImportValue) → left ≡ Ok found → is_name found.user ≡ true) → IsFine (greeting_of who left)
welcome_fine who (Err fault) named = finish_fine
welcome_fine who (Ok found) named = by (found.uid == who.uid) (bytes_eq found.user who.name) refl where
  text : List ℕ
  text = codes "welcome " ++ who.name ++ codes "\n"

  greets : bytes_eq found.user who.name ≡ true → IsFine (say text)
  greets same =
      let user : found.user ≡ who.name = (bytes_eq-Decides found.user who.name).0 same in
      let short = name_short found.user (named found refl) in
      let few : length who.name ≤ 32 = subst (λ (t : List ℕ). length t ≤ 32) user short in
      let size : length text ≡ 8 + length who.name + 1 = omega (
        arith,
        length-append (codes "welcome " ++ who.name) (codes "\n"),
        length-append (codes "welcome ") who.name,
      ) in
      say_fine text (say_ranged text (omega (arith, size)) (omega (arith, size, few)))

  by : (uid name : Bool) → bytes_eq found.user who.name ≡ name → IsFine (cond (uid && name) (say text) requests.Finish)
  by true true same = greets same
  by true false same = finish_fine
  by false name same = finish_fine

-- ---- what follows an answer

read_fine : (handle : ℕ) (body : List ℕ) (front : Front) → handle < 2 ^ 32
    → IsFine (read_done handle body (user_first front))
read_fine zero [] front small = finish_fine
read_fine zero (c ∷ body) front small = first_fine front
read_fine (suc handle) body front small = close_fine (suc handle) small

write_fine : (handle : ℕ) (last : Bool) (front : Front) → handle < 2 ^ 32
    → IsFine (write_done handle last (user_first front))
write_fine zero true front small = finish_fine
write_fine zero false front small = first_fine front
write_fine (suc handle) last front small = close_fine (suc handle) small

failed_fine : (handle : ℕ) → handle < 2 ^ 32 → IsFine (handle_failed handle)
failed_fine zero small = finish_fine
failed_fine (suc handle) small = close_fine (suc handle) small

module _ (who : Who) (line front : Front) (before : List Exchange) (fine : AreFine before) where
  abbrev follows : RequestValue → AnswerValue → RequestValue
  follows request answer = user_follows who request answer line before (user_first front)

  done_fine : (request : RequestValue) (body : List ℕ) → IsFine request → FitsForm (form_of request) (Done body)
      → IsFine (follows request (Done body))
  done_fine requests.Banner body is fits = finish_fine
  done_fine (requests.Challenge user) body is fits = finish_fine
  done_fine (requests.Reply text) body is fits = finish_fine
  done_fine requests.Abandon body is fits = finish_fine
  done_fine (requests.Export state) body is fits = finish_fine
  done_fine requests.Import body is fits = welcome_fine who (import_of body) (λ found named. named_in body found named)
  done_fine (requests.ReadAt handle offset max) body is fits = read_fine handle body front is.ranged.0
  done_fine (requests.WriteAt handle offset bytes) body is fits =
      write_fine handle (user_is_last line) front is.ranged.0
  done_fine (requests.OpenFile mode name) body is fits =
      opened_fine (command_at line) (from_le_bytes w32 body) (legal_at line) fits.2
  done_fine (requests.CloseFile handle) body is fits = file_fine before fine
  done_fine (requests.Info number) body is fits = say_fine (body ++ codes "\n") (line_ranged body fits)
  done_fine (requests.Note text) body is fits =
      say_fine (codes "done\n") (say_ranged (codes "done\n") (lit≤ tt) (lit≤ tt))
  done_fine requests.Finish body is fits = finish_fine

  denied_fine : (request : RequestValue) (rule detail : ℕ) → IsAnswer (Denied rule detail)
      → IsFine (follows request (Denied rule detail))
  denied_fine (requests.OpenFile mode name) rule detail is = say_fine (denied_text rule) (denied_ranged rule detail is)
  denied_fine (requests.Info number) rule detail is = say_fine (denied_text rule) (denied_ranged rule detail is)
  denied_fine requests.Banner rule detail is = finish_fine
  denied_fine (requests.Challenge user) rule detail is = finish_fine
  denied_fine (requests.Reply text) rule detail is = finish_fine
  denied_fine requests.Abandon rule detail is = finish_fine
  denied_fine (requests.Export state) rule detail is = finish_fine
  denied_fine requests.Import rule detail is = finish_fine
  denied_fine (requests.ReadAt handle offset max) rule detail is = finish_fine
  denied_fine (requests.WriteAt handle offset bytes) rule detail is = finish_fine
  denied_fine (requests.CloseFile handle) rule detail is = finish_fine
  denied_fine (requests.Note text) rule detail is = finish_fine
  denied_fine requests.Finish rule detail is = finish_fine

  device_fine : (request : RequestValue) (device : ℕ) → IsFine request → IsFine (follows request (Device device))
  device_fine (requests.ReadAt handle offset max) device is = failed_fine handle is.ranged.0
  device_fine (requests.WriteAt handle offset bytes) device is = failed_fine handle is.ranged.0
  device_fine requests.Banner device is = finish_fine
  device_fine (requests.Challenge user) device is = finish_fine
  device_fine (requests.Reply text) device is = finish_fine
  device_fine requests.Abandon device is = finish_fine
  device_fine (requests.Export state) device is = finish_fine
  device_fine requests.Import device is = finish_fine
  device_fine (requests.OpenFile mode name) device is = finish_fine
  device_fine (requests.CloseFile handle) device is = finish_fine
  device_fine (requests.Info number) device is = finish_fine
  device_fine (requests.Note text) device is = finish_fine
  device_fine requests.Finish device is = finish_fine

  follows_fine : (request : RequestValue) (answer : AnswerValue) → IsFine request → IsAnswer answer
      → FitsForm (form_of request) answer → IsFine (follows request answer)
  follows_fine request (Done body) is answer fits = done_fine request body is fits
  follows_fine request (Denied rule detail) is answer fits = denied_fine request rule detail answer
  follows_fine request (Device device) is answer fits = device_fine request device is

next_fine : (who : Who) (history : List Exchange) (request : RequestValue) → AreFine history
    → IsHeard (User who) history → user_next who history ≡ Some request → IsFine request
unfolding user_next
next_fine who [] request fine heard asked =
    let same : requests.Import ≡ request = (let e : Some requests.Import ≡ Some request = asked in cc) in
    subst IsFine same (record { ranged = tt; few = tt })
next_fine who (x ∷ history) request fine heard asked =
    let next = user_first (underway (x ∷ history)) in
    let follows = follows_fine who (underway history) (underway (x ∷ history)) history fine.2 x.request x.answer fine.0
    heard.1 heard.2 in
    subst IsFine (followed (ends_child x.request x.answer)
    (user_follows who x.request x.answer (underway history) history next) request asked) follows

are_fine : (who : Who) (history : List Exchange) → IsHeard (User who) history → AreFine history
are_fine who [] heard = tt
are_fine who (x ∷ history) (asked, answer, fits, rest) =
    let fine = are_fine who history rest in (next_fine who history x.request fine rest asked, fits, fine)

pub user_ranged : (who : Who) (history : List Exchange) (request : RequestValue) → IsHeard (User who) history
    → user_next who history ≡ Some request → Ranged request
user_ranged who history request heard asked =
    (next_fine who history request (are_fine who history heard) heard asked).ranged
