-- What reading a reply says, from what the table answers.
use Rattle.std.proofs.Common.{◌≡◌, ◌≢◌, ℕ, suc, ◌^◌, Bool, true, false, cond, leb, eqb, ◌&&◌, List, [], ◌∷◌, ◌++◌, length, take, drop, Some, None, Result, Ok, Err, refl, sym, ap, subst, ◌∙◌}
use Rattle.std.specs.Prelude.{IfOk, IfErr, IsOkAnd}
use Rattle.std.specs.Bool.{then_some}
use Rattle.std.specs.Option.{option_map}
use Rattle.std.specs.Result.{result_ok}
use Rattle.std.specs.Int.{w32}
use Rattle.std.proofs.lemmas.Bool.{and_parts, eqb-true, leb-true, le-leb}
use Rattle.std.proofs.lemmas.List.{nil_from_length, take_at}
use Rattle.std.proofs.lemmas.Nat.{from_le_bytes-to_le_bytes_4}
use Rattle.request_catalogue.specs.declared.answer.Answer.{Answer}
use Rattle.request_catalogue.specs.declared.answer.Unreadable.{Unreadable}
use Rattle.request_catalogue.specs.declared.width.Width.{Width}
use Rattle.request_catalogue.specs.Fields.{number_at}
use Rattle.request_catalogue.specs.Replies.{AnswerValue, Done, Denied, Device, answer_of, IsAnswer, IsSendable, reply_of, denied_by, failed_by, answered_by}
use Rattle.request_catalogue.proofs.Numbers.{IsBytes, wide32, number_at-below, last_number}

-- bytes spell an answer
pub record IsReply (bytes : List ℕ) (value : AnswerValue) : Type 0 where
  pub in_range : IsAnswer value
  pub spelled : bytes ≡ reply_of value

-- the answer that stands under a test that passed
tested : (test : Bool) (made : AnswerValue) (bytes : List ℕ) → (test ≡ true → IsReply bytes made) → (value : AnswerValue) → then_some test made ≡ Some value → IsReply bytes value
tested true made bytes holds value e = let same : made ≡ value = cc in subst (λ (v : AnswerValue). IsReply bytes v) same (holds refl)
tested false made bytes holds value e = absurd cc

-- bytes after a byte are bytes
IsBytes-rest : (b : ℕ) (bytes : List ℕ) → IsBytes (b ∷ bytes) → IsBytes bytes
IsBytes-rest b bytes fits i = fits (suc i)

-- a denial is spelled by its bytes
denied_by-IsReply : (bytes : List ℕ) → IsBytes bytes → (value : AnswerValue) → denied_by bytes ≡ Some value → IsReply (1 ∷ bytes) value
unfolding denied_by reply_of
denied_by-IsReply [] fits value e = absurd cc
denied_by-IsReply (rule ∷ detail) fits value e = tested (leb 1 rule && leb rule 22 && eqb (length detail) 4) (Denied rule (number_at w32 0 detail)) (1 ∷ rule ∷ detail) (λ t.
    let both = and_parts (leb 1 rule && leb rule 22) (eqb (length detail) 4) t in
    let front = and_parts (leb 1 rule) (leb rule 22) both.0 in
    record {
      in_range = (leb-true 1 rule front.0, leb-true rule 22 front.1, number_at-below w32 (2 ^ 32) 0 detail wide32 (IsBytes-rest rule detail fits));
      spelled = ap (λ (x : List ℕ). 1 ∷ rule ∷ x) (sym (last_number w32 (2 ^ 32) 0 detail wide32 (IsBytes-rest rule detail fits) (eqb-true (length detail) 4 both.1)));
    }) value e

-- a failure is spelled by its bytes
failed_by-IsReply : (bytes : List ℕ) (value : AnswerValue) → failed_by bytes ≡ Some value → IsReply (2 ∷ bytes) value
unfolding failed_by reply_of
failed_by-IsReply [] value e = absurd cc
failed_by-IsReply (device ∷ rest) value e = tested (leb 1 device && leb device 2 && eqb (length rest) 0) (Device device) (2 ∷ device ∷ rest) (λ t.
    let both = and_parts (leb 1 device && leb device 2) (eqb (length rest) 0) t in
    let front = and_parts (leb 1 device) (leb device 2) both.0 in
    record {
      in_range = (leb-true 1 device front.0, leb-true device 2 front.1);
      spelled = ap (λ (x : List ℕ). 2 ∷ device ∷ x) (nil_from_length rest (eqb-true (length rest) 0 both.1));
    }) value e

-- a reply is spelled by its bytes, by the tests of its first byte
first_byte : (first : ℕ) (rest : List ℕ) (a b c : Bool) → eqb first 0 ≡ a → eqb first 1 ≡ b → eqb first 2 ≡ c → IsBytes rest → (value : AnswerValue) → cond a (Some (Done rest)) (cond b (denied_by rest) (cond c (failed_by rest) None)) ≡ Some value → IsReply (first ∷ rest) value
unfolding reply_of
first_byte first rest true b c p q r fits value e =
    let zero_is : first ≡ 0 = eqb-true first 0 p in
    let same : Done rest ≡ value = cc in
    rw zero_is (subst (λ (v : AnswerValue). IsReply (0 ∷ rest) v) same (record { in_range = tt; spelled = refl }))
first_byte first rest false true c p q r fits value e = let one_is : first ≡ 1 = eqb-true first 1 q in rw one_is (denied_by-IsReply rest fits value e)
first_byte first rest false false true p q r fits value e = let two_is : first ≡ 2 = eqb-true first 2 r in rw two_is (failed_by-IsReply rest value e)
first_byte first rest false false false p q r fits value e = absurd cc

-- what the table answers is in range and spelled so
pub answered_by-IsReply : (bytes : List ℕ) → IsBytes bytes → (value : AnswerValue) → answered_by bytes ≡ Some value → IsReply bytes value
unfolding answered_by
answered_by-IsReply [] fits value e = absurd cc
answered_by-IsReply (first ∷ rest) fits value e = first_byte first rest (eqb first 0) (eqb first 1) (eqb first 2) refl refl refl (IsBytes-rest first rest fits) value e

-- what is in range is the table's answer to its reply
pub answered_by-reply_of : (value : AnswerValue) → IsAnswer value → answered_by (reply_of value) ≡ Some value
unfolding answered_by denied_by failed_by reply_of number_at
answered_by-reply_of (Done body) range = refl
answered_by-reply_of (Denied rule detail) range = rw (le-leb 1 rule range.0, le-leb rule 22 range.1) (ap (λ (n : ℕ). Some (Denied rule n)) (from_le_bytes-to_le_bytes_4 detail range.2))
answered_by-reply_of (Device device) range = rw (le-leb 1 device range.0, le-leb device 2 range.1) refl

-- what was read is in range and spelled so
pub is_found : (bytes : List ℕ) (r : Result Answer Unreadable) → IsBytes bytes → option_map answer_of (result_ok r) ≡ answered_by bytes → IfOk r (λ a. IsAnswer (answer_of a) × (bytes ≡ reply_of (answer_of a)))
is_found bytes (Ok a) fits given = let reply = answered_by-IsReply bytes fits (answer_of a) (sym given) in (reply.in_range, reply.spelled)
is_found bytes (Err e) fits given = tt

-- what is in range and spelled so was read
pub is_only : (bytes : List ℕ) (r : Result Answer Unreadable) → option_map answer_of (result_ok r) ≡ answered_by bytes → (value : AnswerValue) → IsAnswer value → bytes ≡ reply_of value → IsOkAnd r (λ a. answer_of a ≡ value)
is_only bytes (Ok a) given value range spelled = let again : answered_by bytes ≡ Some value = rw spelled (answered_by-reply_of value range) in cc
is_only bytes (Err e) given value range spelled = let again : answered_by bytes ≡ Some value = rw spelled (answered_by-reply_of value range) in absurd cc

-- what was not read is no reply
pub is_unreadable : (bytes : List ℕ) (r : Result Answer Unreadable) → option_map answer_of (result_ok r) ≡ answered_by bytes → IfErr r (λ _. (value : AnswerValue) → IsAnswer value → bytes ≢ reply_of value)
is_unreadable bytes (Ok a) given = tt
is_unreadable bytes (Err e) given = λ value range spelled. let again : answered_by bytes ≡ Some value = rw spelled (answered_by-reply_of value range) in absurd cc

-- what fits a message is in range
sendable : (width : Width) (value : AnswerValue) → IsSendable width value → IsAnswer value
sendable width (Done body) range = tt
sendable width (Denied rule detail) range = range
sendable width (Device device) range = range

-- a reply that stands at the front is read as its answer
pub is_read_back : (width : Width) (value : AnswerValue) → IsSendable width value → (n : ℕ) (out old : List ℕ) → n ≡ length (reply_of value) → out ≡ reply_of value ++ drop n old → answered_by (take n out) ≡ Some value
is_read_back width value range n out old len written =
    let front : take n out ≡ reply_of value = ap (λ (x : List ℕ). take n x) written ∙ take_at (reply_of value) (drop n old) n (sym len) in
    rw front (answered_by-reply_of value (sendable width value range))
