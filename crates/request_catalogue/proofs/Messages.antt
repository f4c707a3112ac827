-- What reading a message says, from what the table answers.
use Rattle.std.proofs.Common.{◌≡◌, ℕ, ◌%◌, ◌≤◌, Bool, true, false, cond, eqb, List, [], ◌∷◌, ◌++◌, length, take, drop, Option, Some, None, Result, Ok, Err, refl, sym, ap, subst, ◌∙◌, arith, ◌≢◌}
use Rattle.std.specs.Prelude.{find, ok_or, MatchResult, IfOk, IfErr, IsOkAnd}
use Rattle.std.proofs.lemmas.Bool.{eqb-true, eqb-false}
use Rattle.std.proofs.lemmas.List.{take_at}
use Rattle.request_catalogue.specs.declared.width.Width.{Width}
use Rattle.request_catalogue.specs.declared.kind.Kind.{Kind}
use Rattle.request_catalogue.specs.declared.kind.Kind.TheVariants as kinds
use Rattle.request_catalogue.specs.declared.request.Request.{Request}
use Rattle.request_catalogue.specs.declared.request.Bad.{Bad}
use Rattle.request_catalogue.specs.Kinds.{kind_number, all_kinds, kind_numbered}
use Rattle.request_catalogue.specs.Catalogue.{RequestValue, value_of, kind_of, IsInRange, payload_of, IsRequest}
use Rattle.request_catalogue.proofs.Numbers.{IsBytes}
use Rattle.request_catalogue.proofs.Table.{asked_by-IsSpelled, asked_by-payload_of}
use Rattle.request_catalogue.specs.Reading.{asked_by, asked, request_of, IsFault, HasDescriptor, HasOtherFlags, HasUnknownKind, HasBadPayload}

-- what is wrong with a message, by which rule, and its detail
abbrev bad : ℕ → ℕ → Bad
bad rule detail = record { rule = rule; detail = detail }

-- each kind has its number
kind_numbered-kind_number : (k : Kind) → kind_numbered (kind_number k) ≡ Some k
unfolding kind_numbered
kind_numbered-kind_number kinds.Banner = refl
kind_numbered-kind_number kinds.Challenge = refl
kind_numbered-kind_number kinds.Reply = refl
kind_numbered-kind_number kinds.Abandon = refl
kind_numbered-kind_number kinds.Export = refl
kind_numbered-kind_number kinds.Import = refl
kind_numbered-kind_number kinds.ReadAt = refl
kind_numbered-kind_number kinds.WriteAt = refl
kind_numbered-kind_number kinds.OpenFile = refl
kind_numbered-kind_number kinds.CloseFile = refl
kind_numbered-kind_number kinds.Info = refl
kind_numbered-kind_number kinds.Note = refl
kind_numbered-kind_number kinds.Finish = refl

-- the first element, where it passes, or one of the others
find_first : (p : Kind → Bool) (b : Bool) (x k : Kind) (others : Option Kind) → b ≡ p x → (others ≡ Some k → p k ≡ true) → cond b (Some x) others ≡ Some k → p k ≡ true
find_first p true x k others t rest e = let same : x ≡ k = cc in sym (t ∙ ap p same)
find_first p false x k others t rest e = rest e

-- what is found passes the test
find_passes : (p : Kind → Bool) (ks : List Kind) (k : Kind) → find p ks ≡ Some k → p k ≡ true
find_passes p [] k e = absurd cc
find_passes p (x ∷ xs) k e = find_first p (p x) x k (find p xs) refl (find_passes p xs k) e

-- a kind that a number has is of that number
kind_number-numbered : (number : ℕ) (k : Kind) → kind_numbered number ≡ Some k → kind_number k ≡ number
unfolding kind_numbered
kind_number-numbered number k e = eqb-true (kind_number k) number (find_passes (λ x. eqb (kind_number x) number) all_kinds k e)

-- no kind is of a number that has none
kind_number-none : (number : ℕ) → kind_numbered number ≡ None → (k : Kind) → kind_number k ≢ number
kind_number-none number e k same = let found : kind_numbered number ≡ Some k = ap kind_numbered (sym same) ∙ kind_numbered-kind_number k in absurd cc

-- a test that leads away from an error was false
past_error : {A : Type 0} (b : Bool) (fault : Bad) (y : Result A Bad) (v : A) → cond b (Err fault) y ≡ Ok v → (b ≡ false) × (y ≡ Ok v)
past_error true fault y v e = absurd cc
past_error false fault y v e = (refl, e)

-- a test that leads to an error otherwise was true
before_error : {A : Type 0} (b : Bool) (fault : Bad) (y : Result A Bad) (v : A) → cond b y (Err fault) ≡ Ok v → (b ≡ true) × (y ≡ Ok v)
before_error true fault y v e = (refl, e)
before_error false fault y v e = absurd cc

-- what is asked is asked of some kind
asked_ok : (width : Width) (kind : ℕ) (body : List ℕ) (o : Option Kind) (v : RequestValue) → asked width kind body o ≡ Ok v → (k : Kind) × (o ≡ Some k) × (asked_by width k body ≡ Some v)
asked_ok width kind body None v e = absurd cc
asked_ok width kind body (Some k) v e = (k, refl, was_there (bad 5 kind) (asked_by width k body) v e)
  where
    was_there : (fault : Bad) (o : Option RequestValue) (v : RequestValue) → ok_or o fault ≡ Ok v → o ≡ Some v
    was_there fault None v e = absurd cc
    was_there fault (Some w) v e = let same : w ≡ v = cc in ap (λ (x : RequestValue). Some x) same

-- what the table answers is in range and spelled so
pub request_of-IsRequest : (width : Width) (kind flags : ℕ) (body : List ℕ) (v : RequestValue) → IsBytes body → request_of width kind flags body ≡ Ok v → IsRequest width kind flags body v
unfolding request_of
request_of-IsRequest width kind flags body v fits e =
    let first = past_error (eqb (flags % 2) 1) (bad 2 flags) (cond (eqb flags 0) (asked width kind body (kind_numbered kind)) (Err (bad 3 flags))) v e in
    let second = before_error (eqb flags 0) (bad 3 flags) (asked width kind body (kind_numbered kind)) v first.1 in
    let third = asked_ok width kind body (kind_numbered kind) v second.1 in
    let spelled = asked_by-IsSpelled width third.0 body fits v third.2 in
    record {
      no_flags = eqb-true flags 0 second.0;
      of_kind = ap kind_number spelled.of_kind ∙ kind_number-numbered kind third.0 third.1;
      in_range = spelled.in_range;
      spelled = spelled.spelled;
    }

-- what is in range and spelled so is the table's answer
pub IsRequest-request_of : (width : Width) (kind flags : ℕ) (body : List ℕ) (v : RequestValue) → IsRequest width kind flags body v → request_of width kind flags body ≡ Ok v
unfolding request_of
IsRequest-request_of width kind flags body v is =
    let no_flags = is.no_flags in
    let of_kind : kind ≡ kind_number (kind_of v) = sym is.of_kind in
    let spelled = is.spelled in
    rw (no_flags, of_kind, kind_numbered-kind_number (kind_of v), spelled, asked_by-payload_of width v is.in_range) refl

-- what was read is in range and spelled so
pub is_found : (width : Width) (kind flags : ℕ) (body : List ℕ) (r : Result Request Bad) → IsBytes body → MatchResult r (λ x. request_of width kind flags body ≡ Ok (value_of x)) (λ e. request_of width kind flags body ≡ Err e) → IfOk r (λ x. IsRequest width kind flags body (value_of x))
is_found width kind flags body (Ok x) fits given = request_of-IsRequest width kind flags body (value_of x) fits given
is_found width kind flags body (Err e) fits given = tt

-- what is in range and spelled so was read
pub is_only : (width : Width) (kind flags : ℕ) (body : List ℕ) (r : Result Request Bad) → MatchResult r (λ x. request_of width kind flags body ≡ Ok (value_of x)) (λ e. request_of width kind flags body ≡ Err e) → (v : RequestValue) → IsRequest width kind flags body v → IsOkAnd r (λ x. value_of x ≡ v)
is_only width kind flags body (Ok x) given v is = let again = IsRequest-request_of width kind flags body v is in cc
is_only width kind flags body (Err e) given v is = let again = IsRequest-request_of width kind flags body v is in absurd cc

-- a payload that asks nothing is no request's
no_payload : (width : Width) (k : Kind) (body : List ℕ) → asked_by width k body ≡ None → (v : RequestValue) → kind_of v ≡ k → IsInRange width v → body ≢ payload_of v
no_payload width k body none v of_kind range same =
    let again : asked_by width k body ≡ Some v = rw (← of_kind, same) (asked_by-payload_of width v range) in
    absurd cc

-- the table's fault is the first rule that is broken
asked_fault : (width : Width) (kind flags : ℕ) (body : List ℕ) (e : Bad) → flags ≡ 0 → (o : Option Kind) → kind_numbered kind ≡ o → asked width kind body o ≡ Err e → IsFault width kind flags body e
asked_fault width kind flags body e no_flags None known given = let same : bad 4 kind ≡ e = cc in subst (λ (x : Bad). IsFault width kind flags body x) same (HasUnknownKind no_flags (kind_number-none kind known))
asked_fault width kind flags body e no_flags (Some k) known given = payload_fault (asked_by width k body) refl given
  where
    payload_fault : (o : Option RequestValue) → asked_by width k body ≡ o → ok_or o (bad 5 kind) ≡ Err e → IsFault width kind flags body e
    payload_fault None none given' = let same : bad 5 kind ≡ e = cc in subst (λ (x : Bad). IsFault width kind flags body x) same (HasBadPayload no_flags k (kind_number-numbered kind k known) (no_payload width k body none))
    payload_fault (Some v) some given' = absurd cc

-- the table's fault, by its two tests of the flags
flags_fault : (width : Width) (kind flags : ℕ) (body : List ℕ) (e : Bad) (odd none : Bool) → eqb (flags % 2) 1 ≡ odd → eqb flags 0 ≡ none → cond odd (Err (bad 2 flags)) (cond none (asked width kind body (kind_numbered kind)) (Err (bad 3 flags))) ≡ Err e → IsFault width kind flags body e
flags_fault width kind flags body e true none p q given = let same : bad 2 flags ≡ e = cc in subst (λ (x : Bad). IsFault width kind flags body x) same (HasDescriptor (eqb-true (flags % 2) 1 p))
flags_fault width kind flags body e false true p q given = asked_fault width kind flags body e (eqb-true flags 0 q) (kind_numbered kind) refl given
flags_fault width kind flags body e false false p q given =
    let same : bad 3 flags ≡ e = cc in
    let even : flags % 2 ≢ 1 = eqb-false (flags % 2) 1 p in
    subst (λ (x : Bad). IsFault width kind flags body x) same (HasOtherFlags (omega arith) (eqb-false flags 0 q))

-- why nothing was read
pub is_fault : (width : Width) (kind flags : ℕ) (body : List ℕ) (r : Result Request Bad) → MatchResult r (λ x. request_of width kind flags body ≡ Ok (value_of x)) (λ e. request_of width kind flags body ≡ Err e) → IfErr r (IsFault width kind flags body)
unfolding request_of
is_fault width kind flags body (Ok x) given = tt
is_fault width kind flags body (Err e) given = flags_fault width kind flags body e (eqb (flags % 2) 1) (eqb flags 0) refl refl given

-- a payload that stands at the front is read as its request
pub is_read_back : (width : Width) (v : RequestValue) → IsInRange width v → (n : ℕ) (out old : List ℕ) → n ≡ length (payload_of v) → out ≡ payload_of v ++ drop n old → request_of width (kind_number (kind_of v)) 0 (take n out) ≡ Ok v
is_read_back width v range n out old len written =
    let front : take n out ≡ payload_of v = ap (λ (x : List ℕ). take n x) written ∙ take_at (payload_of v) (drop n old) n (sym len) in
    IsRequest-request_of width (kind_number (kind_of v)) 0 (take n out) v (record { no_flags = refl; of_kind = refl; in_range = range; spelled = front })

-- the rules of faults
fault_rule : (width : Width) (kind flags : ℕ) (body : List ℕ) (e : Bad) → IsFault width kind flags body e → (2 ≤ e.rule) × (e.rule ≤ 5)
fault_rule width kind flags body e (HasDescriptor h) = (omega arith, omega arith)
fault_rule width kind flags body e (HasOtherFlags h k) = (omega arith, omega arith)
fault_rule width kind flags body e (HasUnknownKind h k) = (omega arith, omega arith)
fault_rule width kind flags body e (HasBadPayload h k s t) = (omega arith, omega arith)

-- the rule by which nothing was read
pub is_rule : (width : Width) (kind flags : ℕ) (body : List ℕ) (r : Result Request Bad) → MatchResult r (λ x. request_of width kind flags body ≡ Ok (value_of x)) (λ e. request_of width kind flags body ≡ Err e) → IfErr r (λ e. (2 ≤ e.rule) × (e.rule ≤ 5))
is_rule width kind flags body (Ok x) given = tt
is_rule width kind flags body (Err e) given = fault_rule width kind flags body e (is_fault width kind flags body (Err e) given)
