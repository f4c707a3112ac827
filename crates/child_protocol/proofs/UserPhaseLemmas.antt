-- The phase table allows each request of the user's child.
use Rattle.std.proofs.Common.{◌≡◌, ℕ, zero, suc, Bool, true, false, cond, List, [], ◌∷◌, ◌++◌, codes, refl, subst, Some, Result, Ok, Err}
use Rattle.std.specs.Str.{bytes_eq}
use Rattle.std.specs.Prelude.{◌==◌, ◌&&◌}
use Rattle.request_catalogue.specs.Catalogue.{RequestValue, kind_of, Import, ReadAt, WriteAt, OpenFile, CloseFile, Finish}
use Rattle.request_catalogue.specs.Replies.{AnswerValue, Done, Denied, Device}
use Rattle.policy_model.specs.declared.phase.Phase.TheVariants as phases
use Rattle.policy_model.specs.Phases.{table_row}
use Rattle.state_export.specs.declared.fault.ImportFault.{ImportFault}
use Rattle.state_export.specs.Reading.{import_of}
use Rattle.state_export.specs.Spelling.{ImportValue}
use Rattle.child_protocol.specs.Lines.{Front, More, TooLong, Line}
use Rattle.child_protocol.specs.Exchanges.{Exchange, ends_child, underway}
use Rattle.child_protocol.specs.Pre.{say}
use Rattle.child_protocol.specs.User.{Who, UserCommand, Get, command_at, file_text, greeting_of, handle_failed, opened_request, read_done, told_by, user_command, user_denied, user_done, user_failed, user_first, user_follows, user_is_last, user_next, user_request, write_done}
use Rattle.child_protocol.specs.Says.{Role, Pre, User, exchanges_of, says}
use Rattle.child_protocol.specs.Phases.{IsAllowed, is_of, row_allows, was_had}
use Rattle.child_protocol.proofs.PhaseLemmas.{of_next, pre_allowed}

-- the user's phase allows the request, whether or not it was had
abbrev IsFree : RequestValue → Type 0
IsFree request = (had : Bool) → row_allows (table_row phases.User (kind_of request)) had ≡ true

command_free : (command : UserCommand) → IsFree (user_request command)
command_free (Get name) had = refl
command_free _ had = refl

first_free : (front : Front) → IsFree (user_first front)
first_free More had = refl
first_free TooLong had = refl
first_free (Line text) had = command_free (user_command text) had

either_free : (b : Bool) (one other : RequestValue) → IsFree one → IsFree other → IsFree (cond b one other)
either_free true one other first second had = first had
either_free false one other first second had = second had

finish_free : IsFree Finish
finish_free had = refl

say_free : (text : List ℕ) → IsFree (say text)
say_free text had = refl

greeting_free : (who : Who) (left : Result ImportValue ImportFault) → IsFree (greeting_of who left)
greeting_free who (Err fault) had = refl
greeting_free who (Ok found) had =
    let text : List ℕ = codes "welcome " ++ who.name ++ codes "\n" in
    either_free (found.uid == who.uid && bytes_eq found.user who.name) (say text) Finish (say_free text) finish_free had

opened_free : (command : UserCommand) (handle : ℕ) → IsFree (opened_request command handle)
opened_free (Get name) handle had = refl
opened_free _ handle had = refl

told_free : (request : RequestValue) (answer : AnswerValue) → IsFree (told_by request answer)
told_free request (Device device) had = refl
told_free (ReadAt h o m) (Done body) had = refl
told_free (ReadAt h o m) (Denied rule detail) had = refl
told_free (WriteAt h o b) (Done body) had = refl
told_free (WriteAt h o b) (Denied rule detail) had = refl
told_free _ _ had = refl

file_free : (before : List Exchange) → IsFree (file_text before)
file_free [] had = refl
file_free (e ∷ before) had = told_free e.request e.answer had

read_free : (handle : ℕ) (body : List ℕ) (front : Front) → IsFree (read_done handle body (user_first front))
read_free zero [] front had = refl
read_free zero (c ∷ body) front had = first_free front had
read_free (suc handle) body front had = refl

write_free : (handle : ℕ) (last : Bool) (front : Front) → IsFree (write_done handle last (user_first front))
write_free zero last front had = either_free last Finish (user_first front) finish_free (first_free front) had
write_free (suc handle) last front had = refl

done_free : (who : Who) (request : RequestValue) (body : List ℕ) (line : Front) (before : List Exchange) (front : Front) → IsFree (user_done who request body line before (user_first front))
done_free who Import body line before front had = greeting_free who (import_of body) had
done_free who (ReadAt h o m) body line before front had = read_free h body front had
done_free who (WriteAt h o b) body line before front had = write_free h (user_is_last line) front had
done_free who (OpenFile m n) body line before front had = opened_free (command_at line) _ had
done_free who (CloseFile h) body line before front had = file_free before had
done_free who _ body line before front had = refl

denied_free : (request : RequestValue) (rule : ℕ) → IsFree (user_denied request rule)
denied_free (OpenFile m n) rule had = refl
denied_free _ rule had = refl

handle_free : (handle : ℕ) → IsFree (handle_failed handle)
handle_free zero had = refl
handle_free (suc handle) had = refl

failed_free : (request : RequestValue) → IsFree (user_failed request)
failed_free (ReadAt h o m) had = handle_free h had
failed_free (WriteAt h o b) had = handle_free h had
failed_free _ had = refl

follows_free : (who : Who) (request : RequestValue) (answer : AnswerValue) (line : Front) (before : List Exchange) (front : Front) → IsFree (user_follows who request answer line before (user_first front))
follows_free who request (Done body) line before front had = done_free who request body line before front had
follows_free who request (Denied rule detail) line before front had = denied_free request rule had
follows_free who request (Device device) line before front had = failed_free request had

next_allowed : (who : Who) (history : List Exchange) (request : RequestValue) → user_next who history ≡ Some request → IsAllowed (User who) request history
unfolding user_next
next_allowed who [] request next =
    let P : RequestValue → Type 0 = λ q. IsAllowed (User who) q [] in
    let same : Import ≡ request = cc in subst P same refl
next_allowed who (e ∷ before) request next =
    let P : RequestValue → Type 0 = λ q. IsFree q in
    let free : IsFree request = subst P (of_next (ends_child e.request e.answer) _ request next) (follows_free who e.request e.answer (underway before) before (underway (e ∷ before))) in
    free (was_had (is_of (kind_of request)) (e ∷ before))

-- the phase table allows each request of the user's child
pub user_allowed : (who : Who) (answers : List AnswerValue) (request : RequestValue) → says (User who) answers ≡ Some request → IsAllowed (User who) request (exchanges_of (User who) answers)
unfolding says exchanges_of
user_allowed who answers request e = next_allowed who (exchanges_of (User who) answers) request e

-- either child's
pub allowed : (role : Role) (answers : List AnswerValue) (request : RequestValue) → says role answers ≡ Some request → IsAllowed role request (exchanges_of role answers)
allowed Pre answers request e = pre_allowed answers request e
allowed (User who) answers request e = user_allowed who answers request e
