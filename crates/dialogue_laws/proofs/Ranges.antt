-- What a shipped child heard so far, and the ranges of what both children ask.
use Rattle.std.proofs.Common.{◌≡◌, ℕ, ◌+◌, ◌≤◌, Bool, true, false, cond, List, [], ◌∷◌, ◌++◌}
use Rattle.std.proofs.Common.{length, Some, None, arith, lit<}
use Rattle.std.specs.Prelude.{codes}
use Rattle.std.proofs.lemmas.List.{length-append}
use Rattle.request_catalogue.specs.Catalogue.{RequestValue, IsInRange}
use Rattle.request_catalogue.specs.Catalogue as requests
use Rattle.request_catalogue.specs.Replies.{Denied, IsAnswer}
use Rattle.child_protocol.specs.Exchanges.{Exchange}
use Rattle.child_protocol.specs.Frames.{frame_width}
use Rattle.child_protocol.specs.Pre.{denied_text, say}
use Rattle.child_protocol.specs.Replies.{FitsForm, form_of}
use Rattle.child_protocol.specs.Says.{Role, next_request}
use Rattle.welcome_laws.proofs.Lines.{denied_size}

-- ---- what a child heard

-- these exchanges, the latest first, are a dialogue; each answer is in its range, and of the form of its request
abbrev pub IsHeard : Role → List Exchange → Type 0
IsHeard role [] = Unit {0}
IsHeard role (x ∷ history) =
    (next_request role history ≡ Some x.request) × IsAnswer x.answer × FitsForm (form_of x.request) x.answer
    × IsHeard role history

-- what follows an answer, where the child goes on
pub followed : (ends : Bool) (next request : RequestValue) → cond ends None (Some next) ≡ Some request → next ≡ request
followed true next request is = absurd cc
followed false next request is = cc

-- ---- texts

abbrev pub Ranged : RequestValue → Type 0
Ranged request = IsInRange frame_width request

pub say_ranged : (text : List ℕ) → 1 ≤ length text → length text ≤ 16000 → Ranged (say text)
say_ranged text some few = (lit< tt, lit< tt, some, few)

pub read_ranged : (max : ℕ) → 1 ≤ max → max ≤ 16000 → Ranged (requests.ReadAt 0 0 max)
read_ranged max some few = (lit< tt, lit< tt, some, few)

-- a text with a newline after it
pub line_ranged : (text : List ℕ) → length text ≤ 256 → Ranged (say (text ++ codes "\n"))
line_ranged text few =
    let size : length (text ++ codes "\n") ≡ length text + 1 = length-append text (codes "\n") in
    say_ranged (text ++ codes "\n") (omega (arith, size)) (omega (arith, size, few))

pub denied_ranged : (rule detail : ℕ) → IsAnswer (Denied rule detail) → Ranged (say (denied_text rule))
denied_ranged rule detail is =
    let size = denied_size rule (omega (arith, is.1)) in say_ranged (denied_text rule) size.0 size.1
