-- What the two writes of a record leave, and what a crash may leave of them.
use Rattle.std.proofs.Common.{◌≡◌, ℕ, ◌+◌, List, [], ◌∷◌, ◌++◌, length, get_or, take, drop, codes, sym, ◌∙◌, ap, arith, append_assoc, length-append, take-append-drop}
use Rattle.std.proofs.lemmas.List.{take_at, drop_at, drop_more, take_all, drop_all, append-nil}
use Rattle.std.specs.Int.{w16, to_le_bytes}
use Rattle.durable_log.specs.Disk.{IsTorn, overwritten}
use Rattle.durable_log.specs.Records.{opened, record_bytes}
use Rattle.durable_log.specs.Journal.{behind_of, image_of}

-- what stands before the closed gate
abbrev pub front_of : List (List ℕ) → List ℕ
front_of given = codes "OTJ1" ++ opened given

pub opened-push : (given : List (List ℕ)) (piece : List ℕ) → opened (given ++ piece ∷ []) ≡ opened given ++ record_bytes piece
opened-push [] piece = append-nil (record_bytes piece)
opened-push (bytes ∷ given) piece = ap (λ (l : List ℕ). record_bytes bytes ++ l) (opened-push given piece) ∙ sym (append_assoc (record_bytes bytes) (opened given) (record_bytes piece))

pub image_is : (given : List (List ℕ)) → image_of given ≡ front_of given ++ 0 ∷ []
image_is given = sym (append_assoc (codes "OTJ1") (opened given) (0 ∷ []))

record_behind : (piece : List ℕ) → record_bytes piece ++ 0 ∷ [] ≡ 1 ∷ behind_of piece
record_behind piece = ap (λ (l : List ℕ). 1 ∷ l) (append_assoc (to_le_bytes w16 (length piece)) piece (0 ∷ []))

pub image_push : (given : List (List ℕ)) (piece : List ℕ) → image_of (given ++ piece ∷ []) ≡ front_of given ++ 1 ∷ behind_of piece
image_push given piece =
    image_is (given ++ piece ∷ [])
    ∙ ap (λ (l : List ℕ). (codes "OTJ1" ++ l) ++ 0 ∷ []) (opened-push given piece)
    ∙ ap (λ (l : List ℕ). l ++ 0 ∷ []) (sym (append_assoc (codes "OTJ1") (opened given) (record_bytes piece)))
    ∙ append_assoc (front_of given) (record_bytes piece) (0 ∷ [])
    ∙ ap (λ (l : List ℕ). front_of given ++ l) (record_behind piece)

module _ (front : List ℕ) (gate : ℕ) (place : gate ≡ length front) where
  closed : List ℕ
  closed = front ++ 0 ∷ []

  pub length-closed : length (front ++ 0 ∷ []) ≡ gate + 1
  length-closed = omega (arith, length-append front (0 ∷ []))

  -- the closed gate stands in each outcome of the first write
  pub torn_behind : (size : ℕ) (c : List ℕ) → IsTorn (gate + 1) size (front ++ 0 ∷ []) c → c ≡ front ++ 0 ∷ drop (gate + 1) c
  torn_behind size c torn =
      let whole : take (gate + 1) c ≡ front ++ 0 ∷ [] = torn.front ∙ take_all (gate + 1) (front ++ 0 ∷ []) (omega (arith, length-closed)) in
      sym (take-append-drop (gate + 1) c) ∙ ap (λ (l : List ℕ). l ++ drop (gate + 1) c) whole ∙ append_assoc front (0 ∷ []) (drop (gate + 1) c)

  pub wrote_behind : (bytes : List ℕ) → overwritten (front ++ 0 ∷ []) (gate + 1) bytes ≡ front ++ 0 ∷ bytes
  wrote_behind bytes =
      ap (λ (l : List ℕ). l ++ (bytes ++ drop (gate + 1 + length bytes) (front ++ 0 ∷ []))) (take_all (gate + 1) (front ++ 0 ∷ []) (omega (arith, length-closed)))
      ∙ ap (λ (l : List ℕ). (front ++ 0 ∷ []) ++ (bytes ++ l)) (drop_all (gate + 1 + length bytes) (front ++ 0 ∷ []) (omega (arith, length-closed)))
      ∙ ap (λ (l : List ℕ). (front ++ 0 ∷ []) ++ l) (append-nil bytes)
      ∙ append_assoc front (0 ∷ []) bytes

  first : (bytes : List ℕ) → take gate (front ++ 0 ∷ bytes) ≡ front
  first bytes = take_at front (0 ∷ bytes) gate (sym place)

  back : (bytes : List ℕ) → drop (gate + 1) (front ++ 0 ∷ bytes) ≡ bytes
  back bytes = ap (λ (l : List ℕ). drop (gate + 1) l) (sym (append_assoc front (0 ∷ []) bytes)) ∙ drop_at (front ++ 0 ∷ []) bytes (gate + 1) length-closed

  pub length-staged : (bytes : List ℕ) → length (front ++ 0 ∷ bytes) ≡ gate + 1 + length bytes
  length-staged bytes = omega (arith, length-append front (0 ∷ bytes))

  -- what was written stands whole after whatever gate
  pub torn_gate : (bytes c : List ℕ) → IsTorn gate 1 (front ++ 0 ∷ bytes) c → c ≡ front ++ get_or c gate 0 ∷ bytes
  torn_gate bytes c torn =
      let rest : drop gate c ≡ get_or c gate 0 ∷ bytes = drop_more c gate 0 (omega (arith, torn.no_shorter, length-staged bytes)) ∙ ap (λ (l : List ℕ). get_or c gate 0 ∷ l) (torn.back ∙ back bytes) in
      sym (take-append-drop gate c) ∙ ap (λ (l : List ℕ). l ++ drop gate c) (torn.front ∙ first bytes) ∙ ap (λ (l : List ℕ). front ++ l) rest

  pub wrote_gate : (bytes : List ℕ) → overwritten (front ++ 0 ∷ bytes) gate (1 ∷ []) ≡ front ++ 1 ∷ bytes
  wrote_gate bytes =
      ap (λ (l : List ℕ). l ++ (1 ∷ drop (gate + 1) (front ++ 0 ∷ bytes))) (first bytes)
      ∙ ap (λ (l : List ℕ). front ++ 1 ∷ l) (back bytes)
