-- Passwords as texts of replies, and requests written one after the other.
use Rattle.std.proofs.Common.{◌≡◌, ℕ, zero, suc, ◌/◌, ◌%◌, ◌<◌, Bool, true, ◌&&◌, List, [], ◌∷◌, ◌++◌, slice_index, refl, sym, ap, ◌∙◌, arith}
use Rattle.std.specs.Int.{w64, to_be_bytes}
use Rattle.std.specs.List.{flat_map, list_all}
use Rattle.std.proofs.lemmas.Bool.{and_from}
use Rattle.std.proofs.lemmas.List.{append-nil}
use Rattle.std.proofs.lemmas.List.Concat.{flat_map-append}
use Rattle.hex.specs.Hex.{encode_lower, encode_with, lower_digits}
use Rattle.request_catalogue.specs.Catalogue.{RequestValue}
use Rattle.request_catalogue.specs.Texts.{is_typed, is_typed_reply}
use Rattle.drill_plan.specs.Plan.{request_bytes, requests_bytes}
use Rattle.policy_model.specs.Settings.{password_text}

digit_typed : (d : ℕ) → d < 16 → is_typed (slice_index lower_digits d) ≡ true
digit_typed zero lt = refl
digit_typed (suc zero) lt = refl
digit_typed (suc (suc zero)) lt = refl
digit_typed (suc (suc (suc zero))) lt = refl
digit_typed (suc (suc (suc (suc zero)))) lt = refl
digit_typed (suc (suc (suc (suc (suc zero))))) lt = refl
digit_typed (suc (suc (suc (suc (suc (suc zero)))))) lt = refl
digit_typed (suc (suc (suc (suc (suc (suc (suc zero))))))) lt = refl
digit_typed (suc (suc (suc (suc (suc (suc (suc (suc zero)))))))) lt = refl
digit_typed (suc (suc (suc (suc (suc (suc (suc (suc (suc zero))))))))) lt = refl
digit_typed (suc (suc (suc (suc (suc (suc (suc (suc (suc (suc zero)))))))))) lt = refl
digit_typed (suc (suc (suc (suc (suc (suc (suc (suc (suc (suc (suc zero))))))))))) lt = refl
digit_typed (suc (suc (suc (suc (suc (suc (suc (suc (suc (suc (suc (suc zero)))))))))))) lt = refl
digit_typed (suc (suc (suc (suc (suc (suc (suc (suc (suc (suc (suc (suc (suc zero))))))))))))) lt = refl
digit_typed (suc (suc (suc (suc (suc (suc (suc (suc (suc (suc (suc (suc (suc (suc zero)))))))))))))) lt = refl
digit_typed (suc (suc (suc (suc (suc (suc (suc (suc (suc (suc (suc (suc (suc (suc (suc zero))))))))))))))) lt = refl
digit_typed (suc (suc (suc (suc (suc (suc (suc (suc (suc (suc (suc (suc (suc (suc (suc (suc d)))))))))))))))) lt = absurd (omega (arith, lt))

byte_typed : (t : List ℕ) (b : ℕ) → b < 256 → list_all is_typed t ≡ true → list_all is_typed (slice_index lower_digits (b / 16) ∷ slice_index lower_digits (b % 16) ∷ t) ≡ true
byte_typed t b lt h =
    and_from (is_typed (slice_index lower_digits (b / 16))) _ (digit_typed (b / 16) (omega (arith, lt))) (and_from (is_typed (slice_index lower_digits (b % 16))) (list_all is_typed t) (digit_typed (b % 16) (omega arith)) h)

eight_typed : (a b c d e f g h : ℕ) → a < 256 → b < 256 → c < 256 → d < 256 → e < 256 → f < 256 → g < 256 → h < 256 → is_typed_reply (encode_lower (a ∷ b ∷ c ∷ d ∷ e ∷ f ∷ g ∷ h ∷ [])) ≡ true
unfolding is_typed_reply encode_with
eight_typed a b c d e f g h la lb lc ld le lf lg lh =
    byte_typed (encode_lower (b ∷ c ∷ d ∷ e ∷ f ∷ g ∷ h ∷ [])) a la
    (byte_typed (encode_lower (c ∷ d ∷ e ∷ f ∷ g ∷ h ∷ [])) b lb
    (byte_typed (encode_lower (d ∷ e ∷ f ∷ g ∷ h ∷ [])) c lc
    (byte_typed (encode_lower (e ∷ f ∷ g ∷ h ∷ [])) d ld
    (byte_typed (encode_lower (f ∷ g ∷ h ∷ [])) e le
    (byte_typed (encode_lower (g ∷ h ∷ [])) f lf
    (byte_typed (encode_lower (h ∷ [])) g lg (byte_typed [] h lh refl)))))))

-- a password's digits may be sent as a reply
pub is_password_text : (password : ℕ) → is_typed_reply (password_text password) ≡ true
is_password_text password = eight_typed _ _ _ _ _ _ _ _ (omega arith) (omega arith) (omega arith) (omega arith) (omega arith) (omega arith) (omega arith) (omega arith)

-- one request more
pub one_more : (requests : List RequestValue) (request : RequestValue) (now next : List ℕ) → now ≡ requests_bytes requests → next ≡ now ++ request_bytes request → next ≡ requests_bytes (requests ++ request ∷ [])
one_more requests request now next now_is next_is =
    next_is ∙ ap (λ (front : List ℕ). front ++ request_bytes request) now_is
    ∙ ap (λ (behind : List ℕ). requests_bytes requests ++ behind) (sym (append-nil (request_bytes request))) ∙ sym (flat_map-append request_bytes requests (request ∷ []))
