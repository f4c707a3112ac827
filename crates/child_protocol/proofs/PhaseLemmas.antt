-- The phase table allows each request of the child before the login.
use Rattle.std.proofs.Common.{◌≡◌, ℕ, Bool, true, false, not, ◌&&◌, ◌||◌, cond, List, [], ◌∷◌, refl, sym, ap, subst, ◌∙◌, Some, None, Option, codes}
use Rattle.std.specs.List.{fold}
use Rattle.request_catalogue.specs.declared.kind.Kind.TheVariants as kinds
use Rattle.request_catalogue.specs.Catalogue.{RequestValue, kind_of, Banner, Challenge, Reply, Abandon, Export, ReadAt, WriteAt, Note, Finish}
use Rattle.request_catalogue.specs.Replies.{AnswerValue, Done, Denied, Device}
use Rattle.child_protocol.specs.Lines.{Front, More, TooLong, Line}
use Rattle.child_protocol.specs.Commands.{PreCommand, Terminal, User, Respond, Cancel, Quit, Other, pre_command}
use Rattle.state_export.specs.Spelling.{StateValue}
use Rattle.child_protocol.specs.Exchanges.{Exchange, is_finish, is_permitted, ends_child, challenged_by, is_challenged, underway}
use Rattle.child_protocol.specs.Pre.{say, pre_request, pre_first, pre_is_last, pre_state, pre_follows, pre_next}
use Rattle.child_protocol.specs.Says.{Pre, joined, with_answer, exchanges_of, says}
use Rattle.child_protocol.specs.Phases.{is_reply, is_export, is_of, was_had, phase_by, row_allows, IsAllowed}
use Rattle.policy_model.specs.Phases.{table_row}

abbrev is_banner : RequestValue → Bool
is_banner Banner = true
is_banner _ = false

-- the row of a request in the phase table, before the user's phase, by whether a reply was permitted and whether a challenge is open
abbrev is_allowed_by : RequestValue → Bool → Bool → Bool
is_allowed_by Banner verified challenged = not verified
is_allowed_by (Challenge user) verified challenged = not verified && not challenged
is_allowed_by (Reply text) verified challenged = not verified && challenged
is_allowed_by Abandon verified challenged = not verified && challenged
is_allowed_by (Export state) verified challenged = verified
is_allowed_by (ReadAt handle offset max) verified challenged = true
is_allowed_by (WriteAt handle offset bytes) verified challenged = true
is_allowed_by (Note text) verified challenged = true
is_allowed_by Finish verified challenged = true
is_allowed_by _ verified challenged = false

abbrev is_closing : RequestValue → Bool
is_closing request = is_export request || is_finish request

-- a request fits what was had: a reply was permitted, a challenge is open, the state was left
record Suits (request : RequestValue) (verified challenged exported : Bool) : Type 0 where
  cell : is_allowed_by request verified challenged ≡ true
  no_banner : is_banner request ≡ false
  first_export : is_export request ≡ true → exported ≡ false
  closing : verified ≡ true → is_closing request ≡ true
  last : exported ≡ true → is_finish request ≡ true

untrue : (b : Bool) → (b ≡ true → false ≡ true) → b ≡ false
untrue true h = sym (h refl)
untrue false h = refl

both : (b : Bool) → b ≡ false → b ≡ true → false ≡ true
both b f t = sym f ∙ t

finish_suits : (v c x : Bool) → Suits Finish v c x
finish_suits v c x = record { cell = refl; no_banner = refl; first_export = λ e. absurd (cc); closing = λ e. refl; last = λ e. refl }

say_suits : (text : List ℕ) (v c x : Bool) → v ≡ false → x ≡ false → Suits (say text) v c x
say_suits text v c x vf xf = record { cell = refl; no_banner = refl; first_export = λ e. absurd (cc); closing = both v vf; last = both x xf }

read_suits : (handle offset max : ℕ) (v c x : Bool) → v ≡ false → x ≡ false → Suits (ReadAt handle offset max) v c x
read_suits handle offset max v c x vf xf = record { cell = refl; no_banner = refl; first_export = λ e. absurd (cc); closing = both v vf; last = both x xf }

command_suits : (command : PreCommand) (v c x : Bool) → v ≡ false → x ≡ false → Suits (pre_request command c) v c x
command_suits (Terminal text) v c x vf xf = say_suits (codes "done\n") v c x vf xf
command_suits (User name) v false x vf xf = record { cell = rw vf refl; no_banner = refl; first_export = λ e. absurd (cc); closing = both v vf; last = both x xf }
command_suits (User name) v true x vf xf = say_suits (codes "what\n") v true x vf xf
command_suits (Respond text) v true x vf xf = record { cell = rw vf refl; no_banner = refl; first_export = λ e. absurd (cc); closing = both v vf; last = both x xf }
command_suits (Respond text) v false x vf xf = say_suits (codes "what\n") v false x vf xf
command_suits Cancel v true x vf xf = record { cell = rw vf refl; no_banner = refl; first_export = λ e. absurd (cc); closing = both v vf; last = both x xf }
command_suits Cancel v false x vf xf = say_suits (codes "what\n") v false x vf xf
command_suits Quit v c x vf xf = say_suits (codes "bye\n") v c x vf xf
command_suits Other v c x vf xf = say_suits (codes "what\n") v c x vf xf

next_suits : (front : Front) (v c x : Bool) → v ≡ false → x ≡ false → Suits (pre_first front c) v c x
next_suits More v c x vf xf = read_suits 0 0 512 v c x vf xf
next_suits TooLong v c x vf xf = say_suits (codes "long\n") v c x vf xf
next_suits (Line text) v c x vf xf = command_suits (pre_command text) v c x vf xf

last_suits : (last : Bool) (front : Front) (v c x : Bool) → v ≡ false → x ≡ false → Suits (cond last Finish (pre_first front c)) v c x
last_suits true front v c x vf xf = finish_suits v c x
last_suits false front v c x vf xf = next_suits front v c x vf xf

-- what follows a request fits what was had with it
follows_suits : (request : RequestValue) (answer : AnswerValue) (last : Bool) (front : Front) (state : StateValue) (v c x : Bool) → (v ≡ true → is_closing request ≡ true) → (x ≡ true → is_finish request ≡ true)
    → Suits (pre_follows request answer last (pre_first front (challenged_by request answer c)) state) ((is_reply request && is_permitted answer) || v) (challenged_by request answer c) ((is_export request && is_permitted answer) || x)
follows_suits request (Device device) last front state v c x hv hx = finish_suits _ _ _
follows_suits (Challenge user) (Denied rule detail) last front state v c x hv hx = say_suits _ v _ x (untrue v hv) (untrue x hx)
follows_suits (Reply text) (Denied rule detail) last front state v c x hv hx = say_suits _ v _ x (untrue v hv) (untrue x hx)
follows_suits _ (Denied rule detail) last front state v c x hv hx = finish_suits _ _ _
follows_suits Banner (Done body) last front state v c x hv hx = say_suits _ v c x (untrue v hv) (untrue x hx)
follows_suits (Challenge user) (Done body) last front state v c x hv hx = say_suits _ v _ x (untrue v hv) (untrue x hx)
follows_suits (Reply text) (Done body) last front state v c x hv hx =
    record { cell = refl; no_banner = refl; first_export = λ e. untrue x hx; closing = λ e. refl; last = λ e. absurd (cc (hx e)) }
follows_suits Abandon (Done body) last front state v c x hv hx = say_suits _ v _ x (untrue v hv) (untrue x hx)
follows_suits (ReadAt h o m) (Done []) last front state v c x hv hx = finish_suits _ _ _
follows_suits (ReadAt h o m) (Done (b ∷ body)) last front state v c x hv hx = next_suits front v c x (untrue v hv) (untrue x hx)
follows_suits (WriteAt h o b) (Done body) last front state v c x hv hx = last_suits last front v c x (untrue v hv) (untrue x hx)
follows_suits _ (Done body) last front state v c x hv hx = finish_suits _ _ _

-- a request that suits has a cell that allows it
cell_of : (request : RequestValue) (v c x had : Bool) → Suits request v c x → (is_export request ≡ true → had ≡ x) → row_allows (table_row (phase_by x v c) (kind_of request)) had ≡ true
cell_of Banner v c x had suits same = absurd (cc suits.no_banner)
cell_of (Challenge user) v c true had suits same = absurd (cc (suits.last refl))
cell_of (Challenge user) true c false had suits same = absurd (cc suits.cell)
cell_of (Challenge user) false true false had suits same = absurd (cc suits.cell)
cell_of (Challenge user) false false false had suits same = refl
cell_of (Reply text) v c true had suits same = absurd (cc (suits.last refl))
cell_of (Reply text) true c false had suits same = absurd (cc suits.cell)
cell_of (Reply text) false true false had suits same = refl
cell_of (Reply text) false false false had suits same = absurd (cc suits.cell)
cell_of Abandon v c true had suits same = absurd (cc (suits.last refl))
cell_of Abandon true c false had suits same = absurd (cc suits.cell)
cell_of Abandon false true false had suits same = refl
cell_of Abandon false false false had suits same = absurd (cc suits.cell)
cell_of (Export state) v c true had suits same = absurd (cc (suits.first_export refl))
cell_of (Export state) true c false had suits same = ap not (same refl)
cell_of (Export state) false c false had suits same = absurd (cc suits.cell)
cell_of (ReadAt h o m) v c true had suits same = refl
cell_of (ReadAt h o m) true c false had suits same = refl
cell_of (ReadAt h o m) false true false had suits same = refl
cell_of (ReadAt h o m) false false false had suits same = refl
cell_of (WriteAt h o b) v c true had suits same = refl
cell_of (WriteAt h o b) true c false had suits same = refl
cell_of (WriteAt h o b) false true false had suits same = refl
cell_of (WriteAt h o b) false false false had suits same = refl
cell_of (Note t) v c true had suits same = refl
cell_of (Note t) true c false had suits same = refl
cell_of (Note t) false true false had suits same = refl
cell_of (Note t) false false false had suits same = refl
cell_of Finish v c true had suits same = refl
cell_of Finish true c false had suits same = refl
cell_of Finish false true false had suits same = refl
cell_of Finish false false false had suits same = refl
cell_of _ v c x had suits same = absurd (cc suits.cell)

-- the two tests of an export are one
same_export : (request : RequestValue) → is_of kinds.Export request ≡ is_export request
same_export (Export state) = refl
same_export _ = refl

had_export : (history : List Exchange) → was_had (is_of kinds.Export) history ≡ was_had is_export history
had_export [] = refl
had_export (e ∷ before) = ap (λ (b : Bool). (b && is_permitted e.answer) || was_had (is_of kinds.Export) before) (same_export e.request) ∙ ap (λ (b : Bool). (is_export e.request && is_permitted e.answer) || b) (had_export before)

same_had : (request : RequestValue) (history : List Exchange) → is_export request ≡ true → was_had (is_of (kind_of request)) history ≡ was_had is_export history
same_had (Export state) history e = had_export history
same_had _ history e = absurd (cc)

-- the request that follows these exchanges suits them
record IsProper (history : List Exchange) : Type 0 where
  allowed : (request : RequestValue) → pre_next history ≡ Some request → IsAllowed Pre request history
  closing : (request : RequestValue) → pre_next history ≡ Some request → was_had is_reply history ≡ true → is_closing request ≡ true
  last : (request : RequestValue) → pre_next history ≡ Some request → was_had is_export history ≡ true → is_finish request ≡ true

pub of_next : (ends : Bool) (follows request : RequestValue) → cond ends None (Some follows) ≡ Some request → follows ≡ request
of_next true follows request e = absurd (cc)
of_next false follows request e = cc

next_of : (e : Exchange) (before : List Exchange) (request : RequestValue) → pre_next (e ∷ before) ≡ Some request
    → pre_follows e.request e.answer (pre_is_last (underway before)) (pre_first (underway (e ∷ before)) (is_challenged (e ∷ before))) (pre_state (e ∷ before)) ≡ request
unfolding pre_next
next_of e before request next = of_next (ends_child e.request e.answer) _ request next

suits_next : (e : Exchange) (before : List Exchange) → IsProper before → pre_next before ≡ Some e.request → (request : RequestValue) → pre_next (e ∷ before) ≡ Some request
    → Suits request (was_had is_reply (e ∷ before)) (is_challenged (e ∷ before)) (was_had is_export (e ∷ before))
suits_next e before proper asked request next =
    let P : RequestValue → Type 0 = λ q. Suits q (was_had is_reply (e ∷ before)) (is_challenged (e ∷ before)) (was_had is_export (e ∷ before)) in
    subst P (next_of e before request next)
    (follows_suits e.request e.answer (pre_is_last (underway before)) (underway (e ∷ before)) (pre_state (e ∷ before)) (was_had is_reply before) (is_challenged before) (was_had is_export before) (proper.closing e.request asked) (proper.last e.request asked))

proper_more : (e : Exchange) (before : List Exchange) → IsProper before → pre_next before ≡ Some e.request → IsProper (e ∷ before)
proper_more e before proper asked = record {
  allowed = λ request next. cell_of request (was_had is_reply (e ∷ before)) (is_challenged (e ∷ before)) (was_had is_export (e ∷ before)) (was_had (is_of (kind_of request)) (e ∷ before)) (suits_next e before proper asked request next) (same_had request (e ∷ before));
  closing = λ request next. (suits_next e before proper asked request next).closing;
  last = λ request next. (suits_next e before proper asked request next).last;
}

proper_none : IsProper []
unfolding pre_next
proper_none = record {
  allowed = λ request next. (let P : RequestValue → Type 0 = λ q. IsAllowed Pre q [] in let same : Banner ≡ request = cc in subst P same refl);
  closing = λ request next verified. absurd (cc);
  last = λ request next had. absurd (cc);
}

proper_joined : (o : Option RequestValue) (history : List Exchange) (answer : AnswerValue) → pre_next history ≡ o → IsProper history → IsProper (joined o history answer)
proper_joined None history answer e proper = proper
proper_joined (Some request) history answer e proper = proper_more (record { request = request; answer = answer }) history proper e

proper_fold : (answers : List AnswerValue) (history : List Exchange) → IsProper history → IsProper (fold (with_answer Pre) history answers)
proper_fold [] history proper = proper
proper_fold (a ∷ answers) history proper = proper_fold answers (with_answer Pre history a) (proper_joined (pre_next history) history a refl proper)

-- the phase table allows each request of the child before the login
pub pre_allowed : (answers : List AnswerValue) (request : RequestValue) → says Pre answers ≡ Some request → IsAllowed Pre request (exchanges_of Pre answers)
unfolding says exchanges_of
pre_allowed answers request e = (proper_fold answers [] proper_none).allowed request e
